use Rattle.std.proofs.Common.{◌≡◌, ℕ, pos, ◌+ℤ◌, cond, Option, Some, None, arith, sym, ◌∙◌, ap, to_z, of_z, w64}
use Rattle.std.proofs.lemmas.Int.{ints}
use Rattle.viper_word.specs.Options.{bind}
use Rattle.num_domain.specs.Ends.{ends}
use Rattle.flag_relation.specs.Facts.{values}
use Rattle.viper_decode.specs.declared.instructions.Place.{Place}
use Rattle.abs_step.specs.Results.{addressed}
use Rattle.abs_step.specs.Stores.{lawful_at, spot}
use Rattle.abs_step.specs.Walks.{both}
use Rattle.abs_step.proofs.SpotLaws.{one_index}
use Rattle.abs_step.proofs.spots.one_address.Goals as goal

pub returns-then-lo-hi : goal.returns-then-lo-hi
returns-then-lo-hi g c =
    let d = g.D.NumDomain.domain in
    let v = values c.args.side.now in
    let l = c.in-Some.ensures.low in
    let h = c.in-Some.ensures.high in
    let l0 = l.low in
    let l1 = l.high in
    let h0 = h.low in
    let h1 = h.high in
    let found = c.in-Some.ensures.ends ∙ ap (λ (w : g.row.D.Denot). both (ends d w)) c.reg.ensures in
    let same : c.in-Some.lo ≡ c.in-Some.hi = omega (arith, ints, c.if-lo-hi.true) in
    let z : to_z w64 (of_z w64 c.sum-n.result) ≡ (pos c.in-Index.a +ℤ c.in-Some.lo) = omega (arith, ints, c.sum-n.ensures, c.from.ensures, c.get.ensures.number, c.get.ensures.in_range) in
    c.reached.ensures
    ∙ ap (λ (o : Option ℕ). bind o (λ n. cond (addressed d c.args.place.now v n) (Some n) None)) c.lawful.ensures
    ∙ ap (λ (p : Place). bind (lawful_at d (to_z w64 (of_z w64 c.sum-n.result))) (λ n. cond (addressed d p v n) (Some n) None)) c.in-Index.is
    ∙ sym (one_index d c.in-Index.a c.in-Index.r v c.in-Some.lo c.in-Some.hi (to_z w64 (of_z w64 c.sum-n.result)) found same z)
    ∙ sym (ap (λ (p : Place). (spot d p v).one) c.in-Index.is)

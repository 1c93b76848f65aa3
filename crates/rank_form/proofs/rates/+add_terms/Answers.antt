use Rattle.std.proofs.Common.{rules, arith, ◌∙◌, ◌≡◌, pos, ◌*ℤ◌, slice_index_or, drop, take, length, ◌-◌}
use Rattle.std.proofs.Math.Path.{ap₂}
use Rattle.std.proofs.lemmas.Int.{ints, to_z-of_z}
use mir.Val.{SFits}
use mir.Syntax.{w64, w128}
use Rattle.viper_word.specs.declared.reg.Reg.TheVariants.{A}
use Rattle.flag_relation.specs.declared.var.Var.{Var}
use Rattle.flag_relation.specs.declared.var.Var.TheVariants.{Reg}
use Rattle.rank_form.specs.Weights.{weigh}
use Rattle.rank_form.specs.Bounds.{place}
use Rattle.rank_form.specs.Rates.{regs_of}
use Rattle.rank_form.proofs.FirstTerm.{weigh_first}
use Rattle.rank_form.proofs.rates.+add_terms.Goals as goal

pub returns-in-len1-up-clause-more : goal.returns-in-len1-up-clause-more
returns-in-len1-up-clause-more t c =
    let g = λ (v : Var). (place (regs_of c.args.links.now) v).more in
    let first = slice_index_or c.args.terms.now 0 (Reg A, pos 0) in
    let e = weigh_first g c.args.terms.now (Reg A, pos 0) c.in-len1-up.len_at_least in
    let f : SFits w128 c.add_terms-more.result = search rules in
    let p : SFits w128 c.product.result = search rules in
    let q : SFits w64 c.place-spot.result.more = search rules in
    let n : c.place-spot.result.more ≡ g first.0 = search (rules, c.place-spot.ensures) in
    let r : SFits w128 first.1 = search rules in
    let v : c.product.result ≡ first.1 *ℤ g first.0 = c.product.ensures.value ∙ ap₂ ◌*ℤ◌ (to_z-of_z w128 first.1 r) (to_z-of_z w64 c.place-spot.result.more q ∙ n) in
    let m : c.add_terms-more.result ≡ weigh g (take (length c.args.terms.now - 1) (drop 1 c.args.terms.now)) = c.add_terms-more.ensures.more in
    omega (arith, ints, e, v, m, c.product.ensures.size, c.add_terms-more.ensures.size)

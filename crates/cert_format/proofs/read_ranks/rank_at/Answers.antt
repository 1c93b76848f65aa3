use Rattle.std.proofs.Common.{◌≡◌, ◌∙◌, refl, ap, ℤ, List, true, Some, to_z, of_z, w64, arith}
use Rattle.std.specs.Int.{w128}
use Rattle.std.proofs.lemmas.Int.{ints, to_z-of_z}
use Rattle.flag_relation.specs.declared.var.Var.{Var}
use Rattle.flag_relation.specs.declared.form.TheConstants.{MOST_TERMS}
use Rattle.flag_relation.specs.Forms.{form_of, is_form}
use Rattle.cert_format.specs.declared.limits.TheConstants.{MOST_RANK}
use Rattle.cert_format.proofs.FieldLimits.{signed_within, count_within}
use Rattle.cert_format.proofs.RankLaws.{rank_is_form, terms_within}
use Rattle.cert_format.proofs.read_ranks.rank_at.Goals as goal

form_is : (c : ℤ) (ts : List (Var × ℤ)) → is_form c ts ≡ true → form_of c ts ≡ Some (record { constant = c; terms = ts })
form_is c ts h = rw h refl

pub returns-in_default : goal.returns-in_default
returns-in_default c =
    let k = c.in_ok-constant.constant in
    let ts = c.in_ok-terms.terms.items in
    let t = terms_within c.args.cells 0 c.in_ok-count.count c.count_at.new.input (ts, c.terms_at.new.input) c.in_ok-terms.ensures in
    let h = rank_is_form k ts c.in_ok-count.count (signed_within MOST_RANK c.args.input.now (k, c.signed_at.new.input) c.in_ok-constant.ensures) t.0 t.1 (count_within MOST_TERMS c.signed_at.new.input (c.in_ok-count.count, c.count_at.new.input) c.in_ok-count.ensures) in
    let z : to_z w64 (of_z w64 k) ≡ k = omega (arith, ints) in
    let w : to_z w128 (of_z w128 c.from.result) ≡ c.from.result = to_z-of_z w128 c.from.result (record { sfits = omega (arith, ints) }) in
    absurd (c.in_default.not-Some (record { constant = k; terms = ts }) (c.new.ensures.form ∙ ap (form_of (to_z w128 (of_z w128 c.from.result))) c.as_slice.ensures.value ∙ ap (λ (y : ℤ). form_of y ts) (w ∙ c.from.ensures ∙ z) ∙ form_is k ts h))

use Rattle.std.proofs.Common.{arith, refl, sym, subst, ap, ◌∙◌, ◌≡◌, ℤ, true, false, pos, to_z, of_z, w64}
use Rattle.std.proofs.lemmas.Int.{ints}
use Rattle.viper_word.specs.Words.{least_signed, IsSigned, is_signed}
use Rattle.viper_word.proofs.Integers.{is_signed_true}
use Rattle.congruence_dom.specs.Residues.{reduce, next_from}
use Rattle.congruence_dom.specs.evidence.Forms.{reduced_form}
use Rattle.congruence_dom.proofs.CongruenceCode.{make_small, make_large, make_none, large_from, form_at}
use Rattle.congruence_dom.proofs.congruence.Congruence.make.Goals as goal
use Rattle.congruence_dom.proofs.congruence.Congruence.make.Goals.{else-m-gt0-via-then-m-gt0+else-m-le-GREATEST_MODULUS, else-m-gt0-via-else-m-gt0}

pub invariant_of-result : goal.invariant_of-result
invariant_of-result c =
    let z : to_z w64 (of_z w64 c.args.z) ≡ c.args.z = omega (arith, ints) in
    let f : c.reduce.result ≡ reduce c.args.m c.args.z = c.reduce.ensures.value ∙ ap (reduce c.args.m) z in
    record { form = form_at (pos c.args.m) (reduce c.args.m c.args.z) _ _ (reduced_form c.args.m c.args.z c.if-m-gt0.true c.if-m-le-GREATEST_MODULUS.true) (omega (arith, ints)) (omega (arith, ints)) }

pub returns-then-m-le-GREATEST_MODULUS : goal.returns-then-m-le-GREATEST_MODULUS
returns-then-m-le-GREATEST_MODULUS c =
    let z : to_z w64 (of_z w64 c.args.z) ≡ c.args.z = omega (arith, ints) in
    let f : c.reduce.result ≡ reduce c.args.m c.args.z = c.reduce.ensures.value ∙ ap (reduce c.args.m) z in
    make_small c.args.m c.args.z _ c.if-m-gt0.true c.if-m-le-GREATEST_MODULUS.true (omega (arith, ints)) (omega (arith, ints))

pub returns-then-is_signed : goal.returns-then-is_signed
returns-then-is_signed c =
    let z : to_z w64 (of_z w64 c.args.z) ≡ c.args.z = omega (arith, ints) in
    let f : c.next_from-only.result ≡ next_from c.args.m c.args.z least_signed = c.next_from-only.ensures ∙ ap (λ (x : ℤ). next_from c.args.m x least_signed) z in
    let g : to_z w64 (of_z w64 c.next_from-only.result) ≡ c.next_from-only.result = omega (arith, ints) in
    let fits : is_signed (to_z w64 (of_z w64 c.next_from-only.result)) ≡ true = sym c.is_signed.ensures ∙ c.if-is_signed.true in
    make_large c.args.m c.args.z _
    (large_from c.args.m (λ p q. elim c.else-m-gt0.branch [ else-m-gt0-via-then-m-gt0+else-m-le-GREATEST_MODULUS w ↦ omega arith | else-m-gt0-via-else-m-gt0 w ↦ omega arith ]))
    (subst IsSigned (g ∙ f) (is_signed_true (to_z w64 (of_z w64 c.next_from-only.result)) fits)) refl (g ∙ f)

pub returns-else-is_signed : goal.returns-else-is_signed
returns-else-is_signed c =
    let z : to_z w64 (of_z w64 c.args.z) ≡ c.args.z = omega (arith, ints) in
    let f : c.next_from-only.result ≡ next_from c.args.m c.args.z least_signed = c.next_from-only.ensures ∙ ap (λ (x : ℤ). next_from c.args.m x least_signed) z in
    let g : to_z w64 (of_z w64 c.next_from-only.result) ≡ c.next_from-only.result = omega (arith, ints) in
    let none : is_signed (to_z w64 (of_z w64 c.next_from-only.result)) ≡ false = sym c.is_signed.ensures ∙ c.if-is_signed.false in
    make_none c.args.m c.args.z
    (large_from c.args.m (λ p q. elim c.else-m-gt0.branch [ else-m-gt0-via-then-m-gt0+else-m-le-GREATEST_MODULUS w ↦ omega arith | else-m-gt0-via-else-m-gt0 w ↦ omega arith ]))
    (subst (λ (y : ℤ). is_signed y ≡ false) (g ∙ f) none)

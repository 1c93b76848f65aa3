use Rattle.std.proofs.Common.{◌≡◌, ◌∙◌, true, false, refl, sym, subst, arith, ℤ, ℕ, pos, to_z, of_z, w64, Bool}
use Rattle.std.proofs.lemmas.Int.{ints}
use Rattle.cert_format.specs.evidence.ValueForms.{is_value, residue_of}
use Rattle.cert_format.specs.evidence.ValueLaws.{value_of_is, value_of_none, value_at_is}
use Rattle.cert_format.proofs.read_values.value_of.Goals as goal

-- a test of numbers that went through a register
test_is : (lo hi lo' hi' : ℤ) (m r : ℕ) (b c : Bool) → lo' ≡ lo → hi' ≡ hi → b ≡ is_value lo' hi' m r → b ≡ c → is_value lo hi m r ≡ c
test_is lo hi lo' hi' m r b c p q e f = subst (λ (z : ℤ). is_value z hi m r ≡ c) p (subst (λ (z : ℤ). is_value lo' z m r ≡ c) q (sym e ∙ f))

pub returns-then-not-is_value : goal.returns-then-not-is_value
returns-then-not-is_value c =
    let z : to_z w64 (of_z w64 c.args.lo) ≡ c.args.lo = omega (arith, ints) in
    let y : to_z w64 (of_z w64 c.args.hi) ≡ c.args.hi = omega (arith, ints) in
    sym (value_of_none c.args.lo c.args.hi c.args.modulus c.args.residue (test_is c.args.lo c.args.hi _ _ c.args.modulus c.args.residue c.is_value.result false z y c.is_value.ensures c.if-not-is_value.true))

pub invariant_of-left : goal.invariant_of-left
invariant_of-left c =
    let z : to_z w64 (of_z w64 c.args.lo) ≡ c.args.lo = omega (arith, ints) in
    let y : to_z w64 (of_z w64 c.args.hi) ≡ c.args.hi = omega (arith, ints) in
    let t = test_is c.args.lo c.args.hi _ _ c.args.modulus c.args.residue c.is_value.result true z y c.is_value.ensures c.if-not-is_value.false in
    record { ends = (value_at_is c.args.lo c.args.hi c.args.modulus c.args.residue _ _ (pos c.args.modulus) (residue_of c.args.modulus c.args.residue) t z y refl refl).ends }

pub invariant_of-right : goal.invariant_of-right
invariant_of-right c =
    let z : to_z w64 (of_z w64 c.args.lo) ≡ c.args.lo = omega (arith, ints) in
    let y : to_z w64 (of_z w64 c.args.hi) ≡ c.args.hi = omega (arith, ints) in
    let t = test_is c.args.lo c.args.hi _ _ c.args.modulus c.args.residue c.is_value.result true z y c.is_value.ensures c.if-not-is_value.false in
    let m : to_z w64 (of_z w64 c.from.result) ≡ c.from.result = omega (arith, ints) in
    let r : to_z w64 (of_z w64 c.residue_of.result) ≡ c.residue_of.result = omega (arith, ints) in
    record { form = (value_at_is c.args.lo c.args.hi c.args.modulus c.args.residue c.args.lo c.args.hi _ _ t refl refl (m ∙ c.from.ensures) (r ∙ c.residue_of.ensures)).form }

pub invariant_of-result : goal.invariant_of-result
invariant_of-result c =
    let z : to_z w64 (of_z w64 c.args.lo) ≡ c.args.lo = omega (arith, ints) in
    let y : to_z w64 (of_z w64 c.args.hi) ≡ c.args.hi = omega (arith, ints) in
    let t = test_is c.args.lo c.args.hi _ _ c.args.modulus c.args.residue c.is_value.result true z y c.is_value.ensures c.if-not-is_value.false in
    let m : to_z w64 (of_z w64 c.from.result) ≡ c.from.result = omega (arith, ints) in
    let r : to_z w64 (of_z w64 c.residue_of.result) ≡ c.residue_of.result = omega (arith, ints) in
    let n = (value_at_is c.args.lo c.args.hi c.args.modulus c.args.residue _ _ _ _ t z y (m ∙ c.from.ensures) (r ∙ c.residue_of.ensures)).normal in
    record {
      normal = record {
        low_member = record { holds = n.low_member.holds };
        high_member = record { holds = n.high_member.holds };
        single = n.single;
      };
    }

pub returns : goal.returns
returns c =
    let z : to_z w64 (of_z w64 c.args.lo) ≡ c.args.lo = omega (arith, ints) in
    let y : to_z w64 (of_z w64 c.args.hi) ≡ c.args.hi = omega (arith, ints) in
    let t = test_is c.args.lo c.args.hi _ _ c.args.modulus c.args.residue c.is_value.result true z y c.is_value.ensures c.if-not-is_value.false in
    let m : to_z w64 (of_z w64 c.from.result) ≡ c.from.result = omega (arith, ints) in
    let r : to_z w64 (of_z w64 c.residue_of.result) ≡ c.residue_of.result = omega (arith, ints) in
    sym (value_of_is c.args.lo c.args.hi c.args.modulus c.args.residue _ t (record { lo = z; hi = y; modulus = m ∙ c.from.ensures; residue = r ∙ c.residue_of.ensures }))

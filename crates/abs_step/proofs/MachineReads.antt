-- What the machine reads and computes, on words and on their signed values.
use Rattle.std.specs.Prelude.{◌≡◌, ℕ, ◌+◌, ◌%◌, ◌^◌, ◌<◌, ◌==◌, ◌&&◌, ℤ, pos, ◌+ℤ◌, Bool, true, false, not, nat_le, slice_index, unwrap_or, Option, Some, IsSomeAnd, if◌then◌else◌}
use Rattle.std.proofs.Common.{refl, arith, sym, subst, ap, ◌∙◌, zero, suc}
use Rattle.std.proofs.lemmas.Int.{ints}
use Rattle.std.proofs.lemmas.Bool.{false≢true, eqb-true, lt-ltb, and_from}
use Rattle.std.proofs.lemmas.Bool.Decides.{nat_tests}
use Rattle.std.proofs.lemmas.Option.{same_Some}
use Rattle.viper_word.specs.Words.{IsWord, signed_value}
use Rattle.viper_word.specs.Fields.{Fields, AreFields, is_function, is_shift, has_address, is_input}
use Rattle.viper_word.specs.Machine.{State, IsState, register, address, is_lawful, operand, computed}
use Rattle.viper_word.specs.declared.profile.Profile.{Profile}
use Rattle.viper_decode.specs.Instructions.{source_of, place_of, operand_of, function_of, shift_of, work_of}
use Rattle.abs_step.proofs.Performing.{Numbers, numbers_of, lawful, place_number, source_number, operand_number, function_number, moved, result_number, function_bit, shift_bit, bit_after}
use Rattle.viper_decode.specs.declared.instructions.Operand.TheVariants.{Literal, Memory, Peripheral}
use Rattle.viper_decode.specs.declared.instructions.Work.{Work}
use Rattle.viper_decode.specs.declared.instructions.Work.TheVariants.{Apply, Move}
use Rattle.abs_step.proofs.LawfulAddress.{address_is}
use Rattle.abs_step.proofs.FunctionSteps.{GivesBoth, computed_gives, shift_gives}
use Rattle.abs_step.proofs.SearchLaws.{and_not}
use Rattle.viper_word.proofs.Options.{bind_was}

-- the state has these numbers, and is one
pub record Represents (u : State) (t : Numbers) : Type 0 where
  pub a : signed_value u.a ≡ t.regs.a
  pub x : signed_value u.x ≡ t.regs.x
  pub y : signed_value u.y ≡ t.regs.y
  pub mem : (n : ℕ) → signed_value (slice_index u.memory n) ≡ t.mem n
  pub b : u.b ≡ t.b
  pub p : u.p ≡ t.p

pub small_signed : (n : ℕ) → n < 2 ^ 31 → signed_value n ≡ pos n
small_signed n h = omega (arith, ints)

nat_le_false : (m n : ℕ) → nat_le m n ≡ false → n < m
nat_le_false m n h = grind (arith, nat_tests)

-- ---- what an instruction reads

pub register_word : (s : State) (r : ℕ) → IsState s → r < 4 → IsWord (register s r)
register_word s zero w l = w.a
register_word s (suc zero) w l = w.x
register_word s (suc (suc zero)) w l = w.y
register_word s (suc (suc (suc zero))) w l = after_p s.p w.p
  where
    after_p : (p : ℕ) → p < 2 ^ 20 → IsWord (p + 1)
    after_p p h = omega arith
register_word s (suc (suc (suc (suc r)))) w l = absurd (omega arith)

pub source_is : (s : State) (r : ℕ) → IsState s → r < 4 → source_number (numbers_of s) (source_of r) ≡ signed_value (register s r)
unfolding source_of
source_is s zero w l = refl
source_is s (suc zero) w l = refl
source_is s (suc (suc zero)) w l = refl
source_is s (suc (suc (suc zero))) w l = let h = w.p in sym (small_signed (s.p + 1) (omega arith))
source_is s (suc (suc (suc (suc r)))) w l = absurd (omega arith)

-- a lawful number is an address
pub lawful_word : (v n : ℕ) → IsWord v → lawful (signed_value v) ≡ Some n → (v ≡ n) × (n < 2 ^ 20)
lawful_word v n h e =
    let moved : (pos 0 +ℤ signed_value v) ≡ signed_value v = omega (arith, ints) in
    let q = address_is 0 v n (omega arith) h (ap lawful moved ∙ e) in
    (modulo v h ∙ q.0, q.1)
  where
    modulo : (v : ℕ) → IsWord v → v ≡ (0 + v) % 2 ^ 32
    modulo v h = omega arith

pub lawful_field : (a n : ℕ) → a < 2 ^ 20 → lawful (pos a) ≡ Some n → (a ≡ n) × (n < 2 ^ 20)
lawful_field a n h e = lawful_word a n (omega arith) (ap lawful (small_signed a (omega arith)) ∙ e)

place_at : (m : ℕ) (i : Fields) (s : State) (n : ℕ) → m < 4 → IsState s → i.field < 2 ^ 20 → lawful (place_number (place_of (record i { m = m })) (numbers_of s).regs) ≡ Some n → (address (record i { m = m }) s ≡ n) × (n < 2 ^ 20)
unfolding place_of
place_at zero i s n l w f h = lawful_field i.field n f h
place_at (suc zero) i s n l w f h = lawful_field i.field n f h
place_at (suc (suc zero)) i s n l w f h = address_is i.field s.x n f w.x h
place_at (suc (suc (suc zero))) i s n l w f h = address_is i.field s.y n f w.y h
place_at (suc (suc (suc (suc m)))) i s n l w f h = absurd (omega arith)

-- the machine's address is the lawful number of the place
pub place_is : (i : Fields) (s : State) (n : ℕ) → IsState s → AreFields i → lawful (place_number (place_of i) (numbers_of s).regs) ≡ Some n → (address i s ≡ n) × (n < 2 ^ 20)
place_is i s n w f h = place_at i.m i s n f.m w f.field h

pub lawful_test : (a n : ℕ) → (a ≡ n) × (n < 2 ^ 20) → is_lawful a ≡ true
lawful_test a n h = let e = h.0 in let l = h.1 in lt-ltb a (2 ^ 20) (omega arith)

-- the operand: whether M is 0, and whether it is a peripheral's answer, as b and c
pub record OperatesAt (i : Fields) (s : State) (answer : ℕ) (z : ℤ) (b c : Bool) : Type 0 where
  pub safe : ((not b && not (is_shift i)) && not (is_lawful (address i s))) ≡ false
  pub word : IsWord (if b then i.field else if c then answer else slice_index s.memory (address i s))
  pub value : signed_value (if b then i.field else if c then answer else slice_index s.memory (address i s)) ≡ z

abbrev pub Operates : Fields → State → ℕ → ℤ → Type 0
Operates i s answer z = OperatesAt i s answer z (i.m == 0) (is_input i)

pub operand_is : (i : Fields) (s : State) (answer : ℕ) (z : ℤ) → IsState s → AreFields i → IsWord answer → operand_number (numbers_of s) (signed_value answer) (operand_of i) ≡ Some z → Operates i s answer z
unfolding operand_of operand_number
operand_is i s answer z w f g h = by_mode (i.m == 0) (is_input i) h
  where
    by_mode : (b c : Bool) → operand_number (numbers_of s) (signed_value answer) (if b then Literal i.field else if c then Peripheral (place_of i) else Memory (place_of i)) ≡ Some z → OperatesAt i s answer z b c
    by_mode true c e = let k = f.field in record { safe = refl; word = omega arith; value = small_signed i.field (omega arith) ∙ same_Some (pos i.field) z e }
    by_mode false true e =
        let q = bind_was (lawful (place_number (place_of i) (numbers_of s).regs)) (λ n. Some (signed_value answer)) z e in
        let l = lawful_test (address i s) q.first (place_is i s q.first w f q.is) in
        record { safe = and_not (not false && not (is_shift i)) (is_lawful (address i s)) l; word = g; value = same_Some (signed_value answer) z q.gives }
    by_mode false false e =
        let q = bind_was (lawful (place_number (place_of i) (numbers_of s).regs)) (λ n. Some (signed_value (slice_index s.memory n))) z e in
        let k = place_is i s q.first w f q.is in
        let l = lawful_test (address i s) q.first k in
        record {
          safe = and_not (not false && not (is_shift i)) (is_lawful (address i s)) l;
          word = w.memory (address i s);
          value = ap (λ (n : ℕ). signed_value (slice_index s.memory n)) k.0 ∙ same_Some (signed_value (slice_index s.memory q.first)) z q.gives;
        }

-- ---- what it computes

pub record Works (pr : Profile) (i : Fields) (s : State) (answer : ℕ) (z : ℤ) : Type 0 where
  pub safe : (has_address i && not (is_lawful (address i s))) ≡ false
  pub some : IsSomeAnd (computed pr i (register s i.r) (operand i s answer) s.b) (λ e. GivesBoth e z (bit_after pr (numbers_of s) (signed_value answer) (work_of i)))

below_shift : (f : ℕ) → (f == 12) ≡ false → nat_le 13 f ≡ false → f < 12
below_shift f h k = grind (arith, nat_tests)

pub work_is : (pr : Profile) (i : Fields) (s : State) (answer : ℕ) (z : ℤ) → IsState s → AreFields i → IsWord answer → is_function i ≡ true → nat_le 13 i.f ≡ false → result_number pr (numbers_of s) (signed_value answer) (work_of i) ≡ Some z → Works pr i s answer z
unfolding work_of result_number bit_after
work_is pr i s answer z w f g is l h = record { safe = by_safe (i.f == 12) refl h; some = by_shift (i.f == 12) refl h }
  where
    N : Numbers
    N = numbers_of s

    work : Bool → Work
    work b = if b then Move (shift_of i.m) (source_of i.r) else Apply (function_of i.f) (source_of i.r) (operand_of i)

    no_address : (x y : Bool) → y ≡ true → ((x && not y) && not (is_lawful (address i s))) ≡ false
    no_address true true e = refl
    no_address false true e = refl
    no_address x false e = absurd (false≢true e)

    by_safe : (b : Bool) → (i.f == 12) ≡ b → result_number pr N (signed_value answer) (work b) ≡ Some z → (has_address i && not (is_lawful (address i s))) ≡ false
    by_safe true e k = no_address (not (i.m == 0)) (is_shift i) (and_from (is_function i) (i.f == 12) is e)
    by_safe false e k =
        let q = bind_was (operand_number N (signed_value answer) (operand_of i)) (λ m. function_number pr (function_of i.f) (source_number N (source_of i.r)) m) z k in
        (operand_is i s answer q.first w f g q.is).safe

    by_shift : (b : Bool) → (i.f == 12) ≡ b → result_number pr N (signed_value answer) (work b) ≡ Some z → IsSomeAnd (computed pr i (register s i.r) (operand i s answer) s.b) (λ e. GivesBoth e z (bit_after pr N (signed_value answer) (work b)))
    by_shift true e k =
        let r = source_is s i.r w f.r in
        subst (λ (x : ℤ). IsSomeAnd (computed pr i (register s i.r) (operand i s answer) s.b) (λ e. GivesBoth e z (shift_bit pr (shift_of i.m) x s.b))) (sym r)
        (shift_gives pr i (register s i.r) (operand i s answer) s.b z (register_word s i.r w f.r) f.m (eqb-true i.f 12 e) (subst (λ (x : ℤ). moved (shift_of i.m) x s.b ≡ Some z) r k))
    by_shift false e k =
        let q = bind_was (operand_number N (signed_value answer) (operand_of i)) (λ m. function_number pr (function_of i.f) (source_number N (source_of i.r)) m) z k in
        let o = operand_is i s answer q.first w f g q.is in
        let r = source_is s i.r w f.r in
        let gives = subst (λ (x : ℤ). function_number pr (function_of i.f) x (signed_value (operand i s answer)) ≡ Some z) r (subst (λ (x : ℤ). function_number pr (function_of i.f) (source_number N (source_of i.r)) x ≡ Some z) (sym o.value) q.gives) in
        subst (λ (p : Option ℤ). IsSomeAnd (computed pr i (register s i.r) (operand i s answer) s.b) (λ e. GivesBoth e z (function_bit (function_of i.f) (source_number N (source_of i.r)) (unwrap_or p (pos 0)) s.b))) (ap Some o.value ∙ sym q.is)
        (subst (λ (x : ℤ). IsSomeAnd (computed pr i (register s i.r) (operand i s answer) s.b) (λ e. GivesBoth e z (function_bit (function_of i.f) x (signed_value (operand i s answer)) s.b))) (sym r)
        (computed_gives pr i (register s i.r) (operand i s answer) s.b z (register_word s i.r w f.r) o.word (below_shift i.f e l) gives))

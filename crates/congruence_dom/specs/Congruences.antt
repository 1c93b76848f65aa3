-- Congruences: what each function gives.
use Rattle.std.specs.Prelude.{◌≡◌, ℕ, ◌*◌, ◌/◌, ◌%◌, ◌^◌, ℤ, pos, neg_ℤ, ◌+ℤ◌, ◌-ℤ◌, Bool, true, false, ◌&&◌, cond, int_le, nat_abs, nat_eq, Option, Some, None, unwrap_or}
use Rattle.std.specs.Int.{int_min, int_max}
use Rattle.std.proofs.Common.{refl}
use Rattle.viper_word.specs.Words.{least_signed, greatest_signed, is_signed}
use Rattle.viper_word.specs.Signed.{signed_xor, signed_and, signed_nor, signed_and_not, halved, shifted_right}
use Rattle.viper_word.specs.Options.{bind}
use Rattle.viper_word.specs.Divisors.{divides, gcd}
use Rattle.viper_word.specs.Search.{find_from}
use Rattle.viper_word.specs.declared.kind.Kind.{Kind}
use Rattle.viper_word.specs.declared.kind.Kind.TheVariants.{Eq}
use Rattle.viper_word.proofs.Integers.{is_signed_true}
use Rattle.num_domain.specs.Domain.{Domain}
use Rattle.num_domain.specs.Exact.{exact2, exact_flag}
use Rattle.congruence_dom.specs.Form.{IsForm}
use Rattle.congruence_dom.specs.Residues.{mod_of, reduce, is_small, next_from, next_to, join_modulus}
use Rattle.congruence_dom.specs.evidence.Forms.{single_form, reduced_form, small_parts, top_form, join_form}
use Rattle.congruence_dom.specs.declared.congruence.Congruence.{Congruence}

-- ---- congruences that are made

abbrev pub congruence : (m r : ℤ) → IsForm m r → Congruence
congruence m r h = record { modulus = m; residue = r; form = h }

abbrev pub congruence_if : (m r : ℤ) (b : Bool) → (b ≡ true → IsForm m r) → Option Congruence
congruence_if m r true h = Some (congruence m r (h refl))
congruence_if m r false h = None

-- the congruence of z, whatever the modulus
abbrev pub make_when : (m : ℕ) (z : ℤ) (b : Bool) → is_small m ≡ b → Option Congruence
make_when m z true e =
    Some (congruence (pos m) (reduce m z)
    (reduced_form m z (small_parts m e).0 (small_parts m e).1))
make_when m z false e =
    congruence_if (pos 0) (next_from m z least_signed) (is_signed (next_from m z least_signed))
    (λ e. single_form (next_from m z least_signed)
    (is_signed_true (next_from m z least_signed) e))

unfoldable pub make : ℕ → ℤ → Option Congruence
make m z = make_when m z (is_small m) refl

abbrev pub top : Congruence
top = congruence (pos 1) (pos 0) top_form

-- the number of a single value
abbrev pub single : Congruence → Option ℤ
single a = cond (nat_eq (mod_of a) 0) (Some a.residue) None

-- the single value of a number that a word can hold
unfoldable pub constant : ℤ → Congruence
constant n = unwrap_or (make 0 n) top

-- ---- the rows

-- the greatest modulus at which both have one residue
abbrev pub join : Congruence → Congruence → Congruence
join a b = congruence (pos (join_modulus a b)) (reduce (join_modulus a b) a.residue) (join_form a b)

-- the modulus of sums and differences, and of wrapped ones
abbrev pub common_modulus : Congruence → Congruence → ℕ
common_modulus a b = gcd (mod_of a) (mod_of b)

abbrev pub wrapped_modulus : Congruence → Congruence → ℕ
wrapped_modulus a b = gcd (common_modulus a b) (2 ^ 32)

-- an even modulus halved with its residue
unfoldable pub sar : Congruence → Option Congruence
sar a = cond (nat_eq (mod_of a % 2) 0) (make (mod_of a / 2) (halved a.residue)) (Some top)

unfoldable pub left_through : Congruence → Option Bool → Option Congruence
left_through a None = Some top
left_through a (Some b) =
    make (gcd (2 * mod_of a) (2 ^ 32)) (a.residue +ℤ a.residue +ℤ cond b (pos 1) (pos 0))

abbrev pub no_row : Congruence → Congruence → Option Congruence
no_row a b = Some top

abbrev pub no_flag_row : Congruence → Option Bool → Option Congruence
no_flag_row a b = Some top

-- ---- queries

-- is n a signed value with the residue of a?
abbrev pub is_member : Congruence → ℤ → Bool
is_member a n = is_signed n && divides (mod_of a) (nat_abs (n -ℤ a.residue))

abbrev pub least_from : Congruence → ℤ → Option ℤ
least_from a n =
    let k = next_from (mod_of a) a.residue (int_max n least_signed) in
    cond (int_le n k && int_le k greatest_signed) (Some k) None

abbrev pub greatest_to : Congruence → ℤ → Option ℤ
greatest_to a n =
    let k = next_to (mod_of a) a.residue (int_min n greatest_signed) in
    cond (int_le least_signed k && int_le k n) (Some k) None

-- a itself where it has two members from i to j, its one member i where they meet
abbrev pub narrow_to : Congruence → (i j : ℤ) → Option Congruence
narrow_to a i j = cond (int_le i j) (cond (int_le j i) (make 0 i) (Some a)) None

abbrev pub narrow : Congruence → ℤ → ℤ → Option Congruence
narrow a lo hi = bind (least_from a lo) (λ i. bind (greatest_to a hi) (λ j. narrow_to a i j))

-- does q divide the modulus, and the residue less t?
unfoldable pub all_on : Congruence → ℤ → ℤ → Bool
all_on a q t = divides (nat_abs q) (mod_of a) && divides (nat_abs q) (nat_abs (a.residue -ℤ t))

-- ---- common members

abbrev pub is_common : Congruence → Congruence → ℤ → Bool
is_common a b n = is_member a n && is_member b n

-- the first common member from n on, if one is a word
unfoldable pub next_common : Congruence → Congruence → ℤ → Option ℤ
next_common a b n = find_from (is_common a b) (2 ^ 32) n

-- the congruence of the first common member and the next one, if there is one
abbrev pub through : ℤ → Option ℤ → Option Congruence
through i None = make 0 i
through i (Some j) = make (nat_abs (j -ℤ i)) i

-- the common members
unfoldable pub refine_eq : Congruence → Congruence → Option Congruence
refine_eq a b = bind (next_common a b least_signed) (λ i. through i (next_common a b (i +ℤ pos 1)))

unfoldable pub refine : Congruence → Kind → Congruence → Option Congruence
refine a Eq b = refine_eq a b
refine a k b = Some a

-- ---- the domain

abbrev pub congruences : Domain Congruence
congruences = record {
  has = is_member;
  includes =
      λ a b. divides (mod_of a) (mod_of b) && divides (mod_of a) (nat_abs (b.residue -ℤ a.residue));
  height = λ a. cond (nat_eq (mod_of a) 0) (2 ^ 32) (mod_of a);
  constant = constant;
  top = top;
  span = λ lo hi m. unwrap_or (make (nat_abs m) lo) top;
  join = join;
  add = λ a b. make (common_modulus a b) (a.residue +ℤ b.residue);
  sub = λ a b. make (common_modulus a b) (a.residue -ℤ b.residue);
  add_wrap = λ a b. make (wrapped_modulus a b) (a.residue +ℤ b.residue);
  sub_wrap = λ a b. make (wrapped_modulus a b) (a.residue -ℤ b.residue);
  xor = exact2 constant single signed_xor no_row;
  bit_and = exact2 constant single signed_and no_row;
  nor = exact2 constant single signed_nor no_row;
  and_not = exact2 constant single signed_and_not no_row;
  neg = λ a. make (gcd (mod_of a) (2 ^ 32)) (neg_ℤ a.residue);
  sar = sar;
  shl = λ a. make (2 * mod_of a) (a.residue +ℤ a.residue);
  moved = λ a k. make (mod_of a) (a.residue +ℤ k);
  right_through = exact_flag constant single shifted_right no_flag_row;
  left_through = left_through;
  refine = refine;
  narrow = narrow;
  least_from = least_from;
  greatest_to = greatest_to;
  all_on = all_on;
  round = λ a ts. a;
}

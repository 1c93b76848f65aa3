-- Refining by an atom keeps the states at which it holds, only shrinks, and is monotone.
use Rattle.std.specs.Prelude.{◌≡◌, ℤ, pos, true, false, not, Option, Some, None, IfSome, IsSomeAnd}
use Rattle.std.specs.Ordering.{int_eq}
use Rattle.std.proofs.Common.{arith}
use Rattle.std.proofs.lemmas.Int.{ints}
use Rattle.std.proofs.lemmas.Bool.Decides.{nat_tests}
use Rattle.viper_word.specs.Words.{IsSigned}
use Rattle.viper_word.specs.Signed.{signed_compares}
use Rattle.viper_word.specs.declared.kind.Kind.{Kind}
use Rattle.viper_word.specs.declared.kind.Kind.TheVariants.{Lt, Ge, Eq, Ne, Le, Gt, Ult, Uge}
use Rattle.viper_word.specs.declared.word.Word.{Word}
use Rattle.num_domain.specs.Domain.{Domain, Has, Below}
use Rattle.num_domain.specs.Laws.{DomainLaws}
use Rattle.viper_word.proofs.Options.{some_bind, all_bind, bind_mono, all_some}
use Rattle.flag_relation.specs.declared.link.Link.{Link}
use Rattle.flag_relation.specs.declared.atom.Atom.{Atom}
use Rattle.flag_relation.specs.declared.atom.Right.{Right}
use Rattle.flag_relation.specs.declared.atom.Right.TheVariants.{Cell, Const}
use Rattle.flag_relation.specs.Values.{Values, Regs, reg, cell, with_reg}
use Rattle.flag_relation.specs.Facts.{LinksHold, MeetsValues, atom_holds, right_number, constant_number}
use Rattle.flag_relation.specs.Order.{LinksBelow, BelowValues}
use Rattle.flag_relation.specs.Refining.{mirror, negate, negate_atom, settle, right_value, mirrored_by, refined}
use Rattle.flag_relation.proofs.ValueLemmas.{reg_related, cell_related, with_reg_related, with_cell_related, with_reg_left, with_cell_left}
use Rattle.flag_relation.specs.Laws.{BelowSome}
use Rattle.flag_relation.proofs.Refiners.{Shrinks, Keeps, Grows, values_refl, values_trans}
use Rattle.flag_relation.proofs.SettleLaws.{settle_shrinks, settle_keeps, settle_grows, top_default}

eq_back : (x y : ℤ) → int_eq x y ≡ true → int_eq y x ≡ true
eq_back x y h = grind (arith, ints)

ne_back : (x y : ℤ) → not (int_eq x y) ≡ true → not (int_eq y x) ≡ true
ne_back x y h = grind (arith, ints)

pub mirror_holds : (k : Kind) (x y : ℤ) → signed_compares k x y ≡ true → IfSome (mirror k) (λ m. signed_compares m y x ≡ true)
mirror_holds Lt x y h = h
mirror_holds Ge x y h = h
mirror_holds Eq x y h = eq_back x y h
mirror_holds Ne x y h = ne_back x y h
mirror_holds Le x y h = h
mirror_holds Gt x y h = h
mirror_holds Ult x y h = tt
mirror_holds Uge x y h = tt

pub negate_holds : (k : Kind) (x y : ℤ) → signed_compares k x y ≡ false → signed_compares (negate k) x y ≡ true
negate_holds Lt x y h = grind (arith, ints)
negate_holds Ge x y h = grind (arith, ints)
negate_holds Eq x y h = grind (arith, ints)
negate_holds Ne x y h = grind (arith, ints)
negate_holds Le x y h = grind (arith, ints)
negate_holds Gt x y h = grind (arith, ints)
negate_holds Ult x y h = grind (arith, nat_tests)
negate_holds Uge x y h = grind (arith, nat_tests)

pub constant_in_w : (w : Word) → IsSigned (constant_number w)
constant_in_w w = record { low = omega (arith, ints); high = omega (arith, ints) }

pub negate_atom_holds : (e : Values ℤ) (a : Atom) → atom_holds e a ≡ false → atom_holds e (negate_atom a) ≡ true
unfolding atom_holds
negate_atom_holds e a h = negate_holds a.kind (reg e a.left) (right_number e a.right) h

module _ {T : Type 0} (d : Domain T) (laws : DomainLaws d) where
  right_has : (v : Values T) (e : Values ℤ) → MeetsValues d v e → (w : Right) → Has d (right_value d v w) (right_number e w)
  right_has v e h (Cell i) = cell_related (Has d) d.top (pos 0) v e h (top_default d laws) i
  right_has v e h (Const w) = laws.order.constant_has (constant_number w) (constant_in_w w)

  right_below : (v v' : Values T) → BelowValues d v v' → (w : Right) → Below d (right_value d v w) (right_value d v' w)
  right_below v v' h (Cell i) = cell_related (Below d) d.top d.top v v' h (laws.order.refl d.top) i
  right_below v v' h (Const w) = laws.order.refl (d.constant (constant_number w))

  mirrored_below : (o : Option Kind) (w : Right) (q : T) (v : Values T) → IfSome (mirrored_by d o w q v) (λ u. BelowValues d u v)
  mirrored_below None w q v = values_refl d laws v
  mirrored_below (Some k) (Const w) q v = values_refl d laws v
  mirrored_below (Some k) (Cell i) q v =
      all_bind (λ c. Below d c (cell d.top v i)) (λ u. BelowValues d u v) (d.refine (cell d.top v i) k q) _ (laws.mono.refine_below (cell d.top v i) q k)
      (λ c h. with_cell_left (Below d) d.top v v (values_refl d laws v) i c h)

  mirrored_has : (o : Option Kind) (w : Right) (q : T) (x : ℤ) (v : Values T) (e : Values ℤ) → Has d q x → MeetsValues d v e → IfSome o (λ k. signed_compares k (right_number e w) x ≡ true) → IsSomeAnd (mirrored_by d o w q v) (λ u. MeetsValues d u e)
  mirrored_has None w q x v e hq h k = h
  mirrored_has (Some m) (Const w) q x v e hq h k = h
  mirrored_has (Some m) (Cell i) q x v e hq h k =
      some_bind (λ c. Has d c (cell (pos 0) e i)) (λ u. MeetsValues d u e) (d.refine (cell d.top v i) m q) _ (laws.sound.refine (cell d.top v i) q m (cell (pos 0) e i) x (right_has v e h (Cell i)) hq k)
      (λ c hc. with_cell_left (Has d) (pos 0) v e h i c hc)

  mirrored_grows : (o : Option Kind) (w : Right) (q q' : T) (v v' : Values T) → Below d q q' → BelowValues d v v' → BelowSome d (mirrored_by d o w q v) (mirrored_by d o w q' v')
  mirrored_grows None w q q' v v' hq h = h
  mirrored_grows (Some m) (Const w) q q' v v' hq h = h
  mirrored_grows (Some m) (Cell i) q q' v v' hq h =
      bind_mono (Below d) (BelowValues d) (d.refine (cell d.top v i) m q) (d.refine (cell d.top v' i) m q') _ _ (laws.mono.refine m (cell d.top v i) (cell d.top v' i) q q' (right_below v v' h (Cell i)) hq)
      (λ c c' hc. with_cell_related (Below d) v v' h i c c' hc)

  pub refined_shrinks : (links : Regs (Option Link)) (a : Atom) → Shrinks d (refined d links a)
  unfolding refined
  refined_shrinks links a = record {
    below = λ v.
        let P = λ (w : Values T). BelowValues d w v in
        all_bind (λ q. Below d q (reg v a.left)) P (d.refine (reg v a.left) a.kind (right_value d v a.right)) _ (laws.mono.refine_below (reg v a.left) (right_value d v a.right) a.kind)
        (λ q hq. all_bind P P (mirrored_by d (mirror a.kind) a.right (reg v a.left) v) _ (mirrored_below (mirror a.kind) a.right (reg v a.left) v)
        (λ w hw. let u = with_reg w a.left q in all_some (λ z. BelowValues d z u) P (settle d links u) ((settle_shrinks d laws links).below u)
        (λ z hz. values_trans d laws z u v hz (with_reg_left (Below d) w v hw a.left q hq))));
  }

  pub refined_keeps : (links : Regs (Option Link)) (a : Atom) → Keeps d (λ e. LinksHold links e × (atom_holds e a ≡ true)) (refined d links a)
  unfolding refined atom_holds
  refined_keeps links a = record {
    sound = λ v e h k.
        let P = λ (w : Values T). MeetsValues d w e in
        let hx = reg_related (Has d) v e k a.left in
        some_bind (λ q. Has d q (reg e a.left)) P (d.refine (reg v a.left) a.kind (right_value d v a.right)) _
        (laws.sound.refine (reg v a.left) (right_value d v a.right) a.kind (reg e a.left) (right_number e a.right) hx (right_has v e k a.right) h.1)
        (λ q hq. some_bind P P (mirrored_by d (mirror a.kind) a.right (reg v a.left) v) _ (mirrored_has (mirror a.kind) a.right (reg v a.left) (reg e a.left) v e hx k (mirror_holds a.kind (reg e a.left) (right_number e a.right) h.1))
        (λ w hw. (settle_keeps d laws links).sound (with_reg w a.left q) e h.0 (with_reg_left (Has d) w e hw a.left q hq)));
  }

  pub refined_grows : (links links' : Regs (Option Link)) (a : Atom) → LinksBelow links links' → Grows d (refined d links a) (refined d links' a)
  unfolding refined
  refined_grows links links' a l = record {
    mono = λ v v' h.
        let hx = reg_related (Below d) v v' h a.left in
        bind_mono (Below d) (BelowValues d) (d.refine (reg v a.left) a.kind (right_value d v a.right)) (d.refine (reg v' a.left) a.kind (right_value d v' a.right)) _ _
        (laws.mono.refine a.kind (reg v a.left) (reg v' a.left) (right_value d v a.right) (right_value d v' a.right) hx (right_below v v' h a.right))
        (λ q q' hq. bind_mono (BelowValues d) (BelowValues d) (mirrored_by d (mirror a.kind) a.right (reg v a.left) v) (mirrored_by d (mirror a.kind) a.right (reg v' a.left) v') _ _ (mirrored_grows (mirror a.kind) a.right (reg v a.left) (reg v' a.left) v v' hx h)
        (λ w w' hw. (settle_grows d laws links links' l).mono (with_reg w a.left q) (with_reg w' a.left q') (with_reg_related (Below d) w w' hw a.left q q' hq)));
  }

-- A read or a write of related values is related.
use Rattle.std.specs.Prelude.{◌≡◌, ℕ, List, [], ◌∷◌, length}
use Rattle.std.proofs.Common.{refl, ap, zero, suc, set, get_or}
use Rattle.viper_word.specs.declared.reg.Reg.{Reg}
use Rattle.viper_word.specs.declared.reg.Reg.TheVariants.{A, X, Y}
use Rattle.flag_relation.specs.Values.{Values, Regs, RelatedRegs, Related, Pairwise, at_reg, set_reg, reg, cell, with_reg, with_cell}

pub pairwise_length : {T U : Type 0} (R : T → U → Type 0) (ts : List T) (us : List U) → Pairwise R ts us → length ts ≡ length us
pairwise_length R [] [] h = refl
pairwise_length R [] (u ∷ us) h = absurd h
pairwise_length R (t ∷ ts) [] h = absurd h
pairwise_length R (t ∷ ts) (u ∷ us) h = ap suc (pairwise_length R ts us h.1)

module _ {T U : Type 0} (R : T → U → Type 0) where
  pub at_related : (v : Regs T) (w : Regs U) → RelatedRegs R v w → (r : Reg) → R (at_reg v r) (at_reg w r)
  at_related v w h A = h.a
  at_related v w h X = h.x
  at_related v w h Y = h.y

  pub set_related : (v : Regs T) (w : Regs U) → RelatedRegs R v w → (r : Reg) (t : T) (u : U) → R t u → RelatedRegs R (set_reg v r t) (set_reg w r u)
  set_related v w h A t u k = record { a = k; x = h.x; y = h.y }
  set_related v w h X t u k = record { a = h.a; x = k; y = h.y }
  set_related v w h Y t u k = record { a = h.a; x = h.x; y = k }

  pub set_left : (v : Regs T) (w : Regs U) → RelatedRegs R v w → (r : Reg) (t : T) → R t (at_reg w r) → RelatedRegs R (set_reg v r t) w
  set_left v w h A t k = record { a = k; x = h.x; y = h.y }
  set_left v w h X t k = record { a = h.a; x = k; y = h.y }
  set_left v w h Y t k = record { a = h.a; x = h.x; y = k }

  pub item_related : (ts : List T) (us : List U) (z : T) (z' : U) → Pairwise R ts us → R z z' → (i : ℕ) → R (get_or ts i z) (get_or us i z')
  item_related [] [] z z' h k i = k
  item_related [] (u ∷ us) z z' h k i = absurd h
  item_related (t ∷ ts) [] z z' h k i = absurd h
  item_related (t ∷ ts) (u ∷ us) z z' h k zero = h.0
  item_related (t ∷ ts) (u ∷ us) z z' h k (suc i) = item_related ts us z z' h.1 k i

  pub put_related : (ts : List T) (us : List U) → Pairwise R ts us → (i : ℕ) (t : T) (u : U) → R t u → Pairwise R (set ts i t) (set us i u)
  put_related [] [] h i t u k = tt
  put_related [] (u' ∷ us) h i t u k = absurd h
  put_related (t' ∷ ts) [] h i t u k = absurd h
  put_related (t' ∷ ts) (u' ∷ us) h zero t u k = (k, h.1)
  put_related (t' ∷ ts) (u' ∷ us) h (suc i) t u k = (h.0, put_related ts us h.1 i t u k)

  pub put_left : (ts : List T) (us : List U) (z' : U) → Pairwise R ts us → (i : ℕ) (t : T) → R t (get_or us i z') → Pairwise R (set ts i t) us
  put_left [] [] z' h i t k = tt
  put_left [] (u' ∷ us) z' h i t k = absurd h
  put_left (t' ∷ ts) [] z' h i t k = absurd h
  put_left (t' ∷ ts) (u' ∷ us) z' h zero t k = (k, h.1)
  put_left (t' ∷ ts) (u' ∷ us) z' h (suc i) t k = (h.0, put_left ts us z' h.1 i t k)

  -- the same, on registers and cells

  pub reg_related : (v : Values T) (w : Values U) → Related R v w → (r : Reg) → R (reg v r) (reg w r)
  reg_related v w h r = at_related v.regs w.regs h.regs r

  pub cell_related : (z : T) (z' : U) (v : Values T) (w : Values U) → Related R v w → R z z' → (i : ℕ) → R (cell z v i) (cell z' w i)
  cell_related z z' v w h k i = item_related v.cells w.cells z z' h.cells k i

  pub with_reg_related : (v : Values T) (w : Values U) → Related R v w → (r : Reg) (t : T) (u : U) → R t u → Related R (with_reg v r t) (with_reg w r u)
  with_reg_related v w h r t u k = record { regs = set_related v.regs w.regs h.regs r t u k; cells = h.cells }

  pub with_reg_left : (v : Values T) (w : Values U) → Related R v w → (r : Reg) (t : T) → R t (reg w r) → Related R (with_reg v r t) w
  with_reg_left v w h r t k = record { regs = set_left v.regs w.regs h.regs r t k; cells = h.cells }

  pub with_cell_related : (v : Values T) (w : Values U) → Related R v w → (i : ℕ) (t : T) (u : U) → R t u → Related R (with_cell v i t) (with_cell w i u)
  with_cell_related v w h i t u k = record { regs = h.regs; cells = put_related v.cells w.cells h.cells i t u k }

  pub with_cell_left : (z' : U) (v : Values T) (w : Values U) → Related R v w → (i : ℕ) (t : T) → R t (cell z' w i) → Related R (with_cell v i t) w
  with_cell_left z' v w h i t k = record { regs = h.regs; cells = put_left v.cells w.cells z' h.cells i t k }

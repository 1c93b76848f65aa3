-- Kept facts are found by their bytes.
use Rattle.std.proofs.Common.{◌≡◌, ℕ, Bool, true, false, not, ◌||◌, if◌then◌else◌, List, [], ◌∷◌, ◌++◌, Some, None, refl, sym, ap, ◌∙◌, option_map, slice_get}
use Rattle.std.specs.Prelude.{bytes_eq}
use Rattle.std.specs.List.{list_any}
use Rattle.std.specs.Ordering.{on}
use Rattle.std.specs.Cmp.Lexicographic.{bytes_decides}
use Rattle.std.proofs.lemmas.List.{map_push}
use Rattle.std.proofs.lemmas.Option.{slice_get-map}
use Rattle.indexmap.specs.IndexSet.{insert_key}
use Rattle.cert_format.specs.declared.fact_bytes.FactBytes.{FactBytes}
use Rattle.cert_format.specs.Keeping.{spelled, Enters}

pub same_is : (a b : List ℕ) → bytes_eq a b ≡ true → a ≡ b
same_is a b h = (bytes_decides a b).0 h

pub same_self : (a : List ℕ) → bytes_eq a a ≡ true
same_self a = (bytes_decides a a).1 refl

abbrev same : FactBytes → FactBytes → Bool
same = on (λ (x : FactBytes). x.bytes.items) bytes_eq

any_spelled : (q : List ℕ) (keys : List FactBytes) → list_any (bytes_eq q) (spelled keys) ≡ list_any (λ (k : FactBytes). bytes_eq q k.bytes.items) keys
any_spelled q [] = refl
any_spelled q (k ∷ keys) = ap (λ (b : Bool). bytes_eq q k.bytes.items || b) (any_spelled q keys)

-- bytes that were there have their number
pub enters_known : (old new : List FactBytes) (key : FactBytes) (i : ℕ) → false ≡ not (list_any (same key) old) → new ≡ insert_key same old key → (k : FactBytes) × (slice_get new i ≡ Some k) × (same key k ≡ true) → Enters old new key.bytes.items (Some i)
enters_known old new key i known made at = by (list_any (same key) old) known made
  where
    by : (b : Bool) → false ≡ not b → new ≡ (if b then old else old ++ key ∷ []) → Enters old new key.bytes.items (Some i)
    by true e h = (
      slice_get-map (λ (k : FactBytes). k.bytes.items) old i ∙ ap (option_map (λ (k : FactBytes). k.bytes.items)) (ap (λ (ks : List FactBytes). slice_get ks i) (sym h) ∙ at.1)
          ∙ ap (λ (b : List ℕ). Some b) (sym (same_is key.bytes.items at.0.bytes.items at.2)),
      ap spelled h,
    )
    by false e h = absurd (cc)

-- and others went in last
pub enters_last : (old new : List FactBytes) (key : FactBytes) → true ≡ not (list_any (same key) old) → new ≡ insert_key same old key → Enters old new key.bytes.items None
enters_last old new key known made = by (list_any (same key) old) refl known made
  where
    by : (b : Bool) → list_any (same key) old ≡ b → true ≡ not b → new ≡ (if b then old else old ++ key ∷ []) → Enters old new key.bytes.items None
    by true e n h = absurd (cc)
    by false e n h = (any_spelled key.bytes.items old ∙ e, ap spelled h ∙ map_push (λ (k : FactBytes). k.bytes.items) old key)

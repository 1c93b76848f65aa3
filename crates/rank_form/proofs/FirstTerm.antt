-- Terms, by the first of them.
use Rattle.std.specs.Prelude.{◌≡◌, ◌≤◌, ℤ, ◌+ℤ◌, ◌*ℤ◌, List, [], ◌∷◌, length, drop, take, ◌-◌, suc, slice_index_or}
use Rattle.std.specs.Prelude.{Option}
use Rattle.std.proofs.Common.{refl, take_all, arith, sym, ◌∙◌, ap}
use Rattle.num_domain.specs.Domain.{Domain}
use Rattle.flag_relation.specs.declared.link.Link.{Link}
use Rattle.flag_relation.specs.Values.{Values, Regs}
use Rattle.flag_relation.specs.Facts.{FactOf}
use Rattle.abs_step.specs.declared.outcome.Post.{Post}
use Rattle.abs_step.specs.declared.outcome.Post.TheVariants.{Same, Plus, Within}
use Rattle.rank_form.specs.Bounds.{linked, post_at, moved_by, moved}
use Rattle.rank_form.specs.Rates.{spread, gain, gains}
use Rattle.flag_relation.specs.declared.var.Var.{Var}
use Rattle.rank_form.specs.Weights.{weigh}

pub weigh_first : (g : Var → ℤ) (ts : List (Var × ℤ)) (z : Var × ℤ) → 1 ≤ length ts → weigh g ts ≡ ((slice_index_or ts 0 z).1 *ℤ g (slice_index_or ts 0 z).0) +ℤ weigh g (take (length ts - 1) (drop 1 ts))
unfolding weigh
weigh_first g [] z h = absurd (omega arith)
weigh_first g (t ∷ ts) z h = ap (λ us. (t.1 *ℤ g t.0) +ℤ weigh g us) (sym (take_all (suc (length ts) - 1) ts (omega arith)))

module _ {T : Type 0} (d : Domain T) (links : Regs (Option Link)) (posts : Values Post) (x : FactOf T) where
  pub gains_first : (ts : List (Var × ℤ)) (z : Var × ℤ) → 1 ≤ length ts → gains d links posts x ts ≡ gain d links x (post_at posts (slice_index_or ts 0 z).0) (slice_index_or ts 0 z).0 (slice_index_or ts 0 z).1 +ℤ gains d links posts x (take (length ts - 1) (drop 1 ts))
  unfolding gains
  gains_first [] z h = absurd (omega arith)
  gains_first (t ∷ ts) z h = ap (λ us. gain d links x (post_at posts t.0) t.0 t.1 +ℤ gains d links posts x us) (sym (take_all (suc (length ts) - 1) ts (omega arith)))

spread_by : (links : Regs (Option Link)) (p : Post) (v : Var) (c : ℤ) (ts : List (Var × ℤ)) (rs : List ℤ) → spread (linked links (moved_by p v c ts)) rs ≡ spread (linked links ts) (spread (linked links (moved_by p v c [])) rs)
unfolding spread
spread_by links Same v c ts rs = refl
spread_by links (Plus u n) v c ts rs = refl
spread_by links Within v c ts rs = refl

pub moved_first : (links : Regs (Option Link)) (posts : Values Post) (ts : List (Var × ℤ)) (z : Var × ℤ) (rs : List ℤ) → 1 ≤ length ts
    → spread (linked links (moved posts ts)) rs
    ≡ spread (linked links (moved posts (take (length ts - 1) (drop 1 ts)))) (spread (linked links (moved_by (post_at posts (slice_index_or ts 0 z).0) (slice_index_or ts 0 z).0 (slice_index_or ts 0 z).1 [])) rs)
unfolding moved
moved_first links posts [] z rs h = absurd (omega arith)
moved_first links posts (t ∷ ts) z rs h =
    spread_by links (post_at posts t.0) t.0 t.1 (moved posts ts) rs
    ∙ ap (λ us. spread (linked links (moved posts us)) (spread (linked links (moved_by (post_at posts t.0) t.0 t.1 [])) rs)) (sym (take_all (suc (length ts) - 1) ts (omega arith)))

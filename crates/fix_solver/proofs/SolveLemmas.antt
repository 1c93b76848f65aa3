-- A plan's own cells are few.
use Rattle.std.proofs.Common.{◌≡◌, ℕ, ◌≤◌, ◌^◌, List, length, take, subst, sym, arith}
use Rattle.std.proofs.lemmas.List.{length-take}
use Rattle.memory_plan.specs.Plans.{PlanLines}
use Rattle.flag_relation.specs.declared.fact.TheConstants.{MOST_CELLS}
use Rattle.flow_recover.specs.Cells.{cells_of, is_cell, passing}

least_of : (n : ℕ) (xs : List ℕ) → length (take n xs) ≤ n
least_of n xs = let e = length-take n xs in omega arith

pub few_cells : (plan : PlanLines) (cells : List ℕ) → cells ≡ cells_of plan → length cells ≤ MOST_CELLS
few_cells plan cells e = subst (λ (l : List ℕ). length l ≤ 32) (sym e) (least_of 32 (passing (is_cell plan) 0 (2 ^ 20)))

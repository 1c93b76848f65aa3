-- What is said of a variable after an instruction.
use Rattle.std.specs.Prelude.{◌≡◌, ℤ, pos, ◌+ℤ◌, List, [], ◌∷◌}
use Rattle.flag_relation.specs.declared.var.Var.{Var}
use Rattle.flag_relation.specs.declared.var.Var.TheVariants as var
use Rattle.flag_relation.specs.Values.{Values, reg, cell}
use Rattle.abs_step.specs.declared.outcome.Post.{Post}
use Rattle.abs_step.specs.declared.outcome.Post.TheVariants as post

abbrev pub var_number : Values ℤ → Var → ℤ
var_number e (var.Reg r) = reg e r
var_number e (var.Cell i) = cell (pos 0) e i

abbrev pub PostHolds : Values ℤ → Post → ℤ → ℤ → Type 0
PostHolds e post.Same old new = new ≡ old
PostHolds e (post.Plus v n) old new = new ≡ (var_number e v +ℤ n)
PostHolds e post.Within old new = Unit {0}

abbrev pub CellPosts : Values ℤ → List Post → List ℤ → List ℤ → Type 0
CellPosts e [] [] [] = Unit {0}
CellPosts e [] [] (n ∷ ns) = ⊥
CellPosts e [] (o ∷ os) ns = ⊥
CellPosts e (p ∷ ps) [] ns = ⊥
CellPosts e (p ∷ ps) (o ∷ os) [] = ⊥
CellPosts e (p ∷ ps) (o ∷ os) (n ∷ ns) = PostHolds e p o n × CellPosts e ps os ns

pub record PostsHold (ps : Values Post) (e e' : Values ℤ) : Type 0 where
  pub a : PostHolds e ps.regs.a e.regs.a e'.regs.a
  pub x : PostHolds e ps.regs.x e.regs.x e'.regs.x
  pub y : PostHolds e ps.regs.y e.regs.y e'.regs.y
  pub cells : CellPosts e ps.cells e.cells e'.cells

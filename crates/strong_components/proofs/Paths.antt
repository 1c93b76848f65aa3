-- Paths joined, and what holds along them.
use Rattle.std.proofs.Common.{ℕ, List}
use Rattle.strong_components.specs.declared.edge.Edge.{Edge}
use Rattle.strong_components.specs.Paths.{Leads, Path, here, along}

pub Path-join : {edges : List Edge} {u v w : ℕ} → Path edges u v → Path edges v w → Path edges u w
Path-join here q = q
Path-join (along l p) q = along l (Path-join p q)

pub Path-one : {edges : List Edge} {u v : ℕ} → Leads edges u v → Path edges u v
Path-one l = along l here

pub Path-then : {edges : List Edge} {u v w : ℕ} → Path edges u v → Leads edges v w → Path edges u w
Path-then p l = Path-join p (Path-one l)

-- what each edge keeps, a path keeps
pub Path-keeps : {edges : List Edge} (P : ℕ → Type 0) → ((u v : ℕ) → Leads edges u v → P u → P v) → {u v : ℕ} → Path edges u v → P u → P v
Path-keeps P keeps here h = h
Path-keeps P keeps (along {u = u} {v = v} l p) h = Path-keeps P keeps p (keeps u v l h)

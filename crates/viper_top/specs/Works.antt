-- What a command reads, in order, and what comes of what was handed out.
use Rattle.std.specs.Prelude.{◌≡◌, ℕ, List, [], ◌∷◌, Option, Some, None, ◌⊎◌}
use Rattle.viper_io.specs.Causes.{Handed}
use Rattle.viper_top.specs.Endings.{Ending, input}
use Rattle.viper_top.specs.Contents.{Kind, Value, Fault, limit_of, long_text, Spells, Breaks, fault_text}

-- Contents are asked for one after the other, each by its name; which is next may depend on what was read
-- before. In the end there is something to do.
pub data Work (Task : Type 0) : Type 0 where
  Does : Task → Work Task
  Reads : (kind : Kind) → List ℕ → (Value kind → Work Task) → Work Task

-- One content was handed out. It ends the reading with its text where it is too long or breaks its grammar, and
-- then nothing more was handed out; else its value goes on.
abbrev pub Comes : (kind : Kind) → Option (List ℕ) → List Handed → Ending → (Value kind → Type 0) → Type 0
Comes kind None others e GoesOn = (others ≡ []) × (e ≡ input (long_text kind))
Comes kind (Some bytes) others e GoesOn =
    ((fault : Fault kind) × Breaks kind bytes fault × (others ≡ []) × (e ≡ input (fault_text kind fault))) ⊎ ((v : Value kind) × Spells kind bytes v × GoesOn v)

-- what was handed out, in order, is what the work asks for, and it ends so, where Ends says how a task may end
abbrev pub Walks : {Task : Type 0} → (Task → Ending → Type 0) → Work Task → List Handed → Ending → Type 0
Walks Ends (Does task) [] e = Ends task e
Walks Ends (Does task) (h ∷ hs) e = ⊥
Walks Ends (Reads kind name next) [] e = ⊥
Walks Ends (Reads kind name next) (h ∷ hs) e = (h.name ≡ name) × (h.limit ≡ limit_of kind) × Comes kind h.bytes hs e (λ v. Walks Ends (next v) hs e)

-- all that was handed out was read, and the next content is that of this name
abbrev pub Awaits : {Task : Type 0} → Work Task → List Handed → List ℕ → Type 0
Awaits (Does task) hs due = ⊥
Awaits (Reads kind name next) [] due = due ≡ name
Awaits (Reads kind name next) (h ∷ hs) due = (h.name ≡ name) × (bytes : List ℕ) × (v : Value kind) × (h.bytes ≡ Some bytes) × Spells kind bytes v × Awaits (next v) hs due

-- What instructions cost.
use Rattle.std.specs.Prelude.{ℕ, ◌==◌, List, [], ◌∷◌, Option, Some, None, if◌then◌else◌, codes, slice_get}
use Rattle.std.specs.Str.{bytes_eq}
use Rattle.viper_word.specs.Fields.{Fields, fields_of}
use Rattle.viper_decode.specs.declared.codes.destination.TheConstants.{PERIPHERAL, MEMORY}
use Rattle.memory_plan.specs.declared.cost.TheConstants.{FUNCTIONS, PLAIN_COST}
use Rattle.memory_plan.specs.declared.cost.Costed.{Costed}
use Rattle.memory_plan.specs.declared.cost.Costed.TheVariants.{Neg, Call, Inp, Read, Addb, Adds, Subb, Subs, Xor, And, Nor, Andn, Shift, Compare, Out, Sto}

-- the place of a kind in the order of their names: functions by their codes, then the others
abbrev pub place_of : Costed → ℕ
place_of Neg = 0
place_of Call = 1
place_of Inp = 2
place_of Read = 3
place_of Addb = 4
place_of Adds = 5
place_of Subb = 6
place_of Subs = 7
place_of Xor = 8
place_of And = 9
place_of Nor = 10
place_of Andn = 11
place_of Shift = 12
place_of Compare = 13
place_of Out = 14
place_of Sto = 15

-- the kind of a name
unfoldable pub cost_name : List ℕ → Option Costed
cost_name text =
    if bytes_eq text (codes "NEG") then Some Neg
    else if bytes_eq text (codes "CALL") then Some Call
    else if bytes_eq text (codes "INP") then Some Inp
    else if bytes_eq text (codes "READ") then Some Read
    else if bytes_eq text (codes "ADDB") then Some Addb
    else if bytes_eq text (codes "ADDS") then Some Adds
    else if bytes_eq text (codes "SUBB") then Some Subb
    else if bytes_eq text (codes "SUBS") then Some Subs
    else if bytes_eq text (codes "XOR") then Some Xor
    else if bytes_eq text (codes "AND") then Some And
    else if bytes_eq text (codes "NOR") then Some Nor
    else if bytes_eq text (codes "ANDN") then Some Andn
    else if bytes_eq text (codes "SHIFT") then Some Shift
    else if bytes_eq text (codes "COMPARE") then Some Compare
    else if bytes_eq text (codes "OUT") then Some Out
    else if bytes_eq text (codes "STO") then Some Sto
    else None

-- The kind of an instruction: a comparison, an output or a store, and else its function. None where
-- there is no such function.
abbrev pub kind_costed : Fields → Option Costed
kind_costed i =
    if i.c then Some Compare
    else if i.d == PERIPHERAL then Some Out
    else if i.d == MEMORY then Some Sto
    else slice_get FUNCTIONS i.f

-- the cost that these lines give a kind, of which each kind has one at the most
abbrev pub cost_of : List (Costed × ℕ) → Costed → ℕ
cost_of [] kind = PLAIN_COST
cost_of (c ∷ cs) kind = if place_of c.0 == place_of kind then c.1 else cost_of cs kind

-- the cost of the instruction that a word is
abbrev pub cost_if : List (Costed × ℕ) → Option Costed → ℕ
cost_if costs None = PLAIN_COST
cost_if costs (Some kind) = cost_of costs kind

abbrev pub word_cost : List (Costed × ℕ) → ℕ → ℕ
word_cost costs word = cost_if costs (kind_costed (fields_of word))

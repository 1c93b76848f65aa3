-- What the stores and sinks in memory hold, and what a call of theirs answers and leaves.
use Rattle.std.specs.Prelude.{◌≡◌, ℕ, take, List, [], ◌∷◌, ◌++◌, length, Bool, true, nat_eq, nat_le, Option, Some, None, unwrap_or, Result, Ok, Err, if◌then◌else◌}
use Rattle.std.specs.List.{list_any}
use Rattle.std.specs.Str.{bytes_eq}
use Rattle.viper_io.specs.Causes.{Failure, Handed, Stock, Output, risen}
use Rattle.viper_io.specs.declared.fault.Call.{Call}
use Rattle.viper_io.specs.declared.fault.FetchFault.{FetchFault}
use Rattle.viper_io.specs.declared.fault.FetchFault.TheVariants.{Failed, Long}

-- names with their bytes; of two entries of one name the first counts
abbrev pub Contents : Type 0
Contents = List (List ℕ × List ℕ)

-- what a name holds, or None where it isn't there
abbrev pub content_of : Contents → List ℕ → Option (List ℕ)
content_of [] name = None
content_of (entry ∷ entries) name =
    if bytes_eq entry.0 name then Some entry.1 else content_of entries name

-- what a name holds where each name that isn't there holds the empty content
abbrev pub content_or_empty : Contents → List ℕ → List ℕ
content_or_empty contents name = unwrap_or (content_of contents name) []

-- a shelf that never fails: what it holds, how often a content was too long, and what was handed
-- out
pub record SureShelfState : Type 0 where
  pub contents : Contents
  pub longs : ℕ
  pub handed : List Handed

-- what the names of such a shelf hold
abbrev pub sure_holds : SureShelfState → List ℕ → Option (List ℕ)
sure_holds shelf name = Some (content_or_empty shelf.contents name)

-- what such a shelf tells and keeps: no call failed
abbrev pub sure_stock : SureShelfState → Stock
sure_stock shelf = record { tells = true; holds = sure_holds shelf; failures = []; longs = shelf.longs; handed = shelf.handed }

-- a page that never fails: it tells all that was put
abbrev pub sure_output : List ℕ → Output
sure_output text = record { text = Some text; faults = 0 }

-- a shelf: what it holds, the numbers of the calls that are to fail, how many calls there were,
-- which of them failed, how often a content was too long, and what was handed out
pub record ShelfState : Type 0 where
  pub contents : Contents
  pub failing : List ℕ
  pub calls : ℕ
  pub failures : List Failure
  pub longs : ℕ
  pub handed : List Handed

-- what the names of a shelf hold
abbrev pub shelf_holds : ShelfState → List ℕ → Option (List ℕ)
shelf_holds shelf name = content_of shelf.contents name

-- is the shelf's next call to fail?
abbrev pub is_failing : ShelfState → Bool
is_failing shelf = list_any (λ call. nat_eq call shelf.calls) shelf.failing

-- the shelf after one more call
abbrev pub counted : ShelfState → ShelfState
counted shelf = record shelf { calls = risen shelf.calls }

-- the shelf after a call with that name failed
abbrev pub failed_call : Call → List ℕ → ShelfState → ShelfState
failed_call call name shelf =
    record shelf { failures = shelf.failures ++ record { call = call; name = name } ∷ [] }

-- a content of at most so many bytes: Failed where there is none, Long where it has more
abbrev pub within : ℕ → Option (List ℕ) → Result (List ℕ) FetchFault
within limit None = Err Failed
within limit (Some content) = if nat_le (length content) limit then Ok content else Err Long

-- what a fetch answers that finds memory
abbrev pub fetch_answer : ShelfState → List ℕ → ℕ → Result (List ℕ) FetchFault
fetch_answer shelf name limit =
    if is_failing shelf then Err Failed else within limit (content_of shelf.contents name)

-- a page: its text, the numbers of the puts that are to fail with how many bytes each takes, how
-- many puts there were, and how many failed
pub record PageState : Type 0 where
  pub bytes : List ℕ
  pub failing : List (ℕ × ℕ)
  pub puts : ℕ
  pub faults : ℕ

-- how many bytes the put of that number takes before it fails, or None where it is not to fail; of
-- two entries of one number the first counts
abbrev pub taken_of : List (ℕ × ℕ) → ℕ → Option ℕ
taken_of [] put = None
taken_of (entry ∷ entries) put = if nat_eq entry.0 put then Some entry.1 else taken_of entries put

-- a page took the first bytes of a put
abbrev pub Took : PageState → PageState → List ℕ → ℕ → Type 0
Took before now bytes taken = now.bytes ≡ before.bytes ++ take taken bytes

-- the files of a system: which calls failed, how often a content was too long, and what was handed
-- out
pub record FileState : Type 0 where
  pub failures : List Failure
  pub longs : ℕ
  pub handed : List Handed

-- a sink over a writer: the bytes that the writer holds, where it tells them, and how often it
-- failed
pub record OutState : Type 0 where
  pub written : Option (List ℕ)
  pub faults : ℕ

-- How a command ends.
use Rattle.std.proofs.Common.{◌≡◌, ℕ, ◌≤◌, List, take, refl, sym, subst, ◌∙◌, Option, Some, None, inl, inr}
use Rattle.std.proofs.lemmas.List.Elements.{All-weaker}
use Rattle.std.proofs.lemmas.Option.{none-some, same_Some}
use Rattle.viper_io.specs.Causes.{Stock, Output, Handed, Wrote, HoldsWhereTold, risen}
use Rattle.viper_io.specs.declared.fault.Call.TheVariants.{Place}
use Rattle.viper_top.specs.declared.status.Status.{Status}
use Rattle.viper_top.specs.declared.status.Status.TheVariants.{Outside}
use Rattle.viper_top.specs.declared.answer.Answer.{Answer}
use Rattle.viper_top.specs.declared.answer.Answer.TheVariants as answer
use Rattle.viper_top.specs.Endings.{EndsAnswered}
use Rattle.viper_top.specs.Orders.{Order, target_of}
use Rattle.viper_top.specs.Commands.{work_of}
use Rattle.viper_top.specs.Promises.{IsTrue, Given, Failed, IsPlaced, Answered, FetchFailed, PlaceFailed, FailedOutside, LeftFront, MayEnd, Keeps, IsQuiet}
use Rattle.viper_top.specs.Stages.{ending_of, Stays, Stopped, Came}
use Rattle.viper_top.proofs.Growth.{failed_later}
use Rattle.viper_top.proofs.Walking.{true_earlier}

-- an answer has the status of an answer
pub ends_answered : (a : Answer) → EndsAnswered (ending_of a).status
ends_answered (answer.Done text) = tt
ends_answered (answer.Made bytes text) = tt
ends_answered (answer.Refused text) = tt
ends_answered (answer.Input text) = tt

-- where it is Refused or Input there are no bytes
pub quiet_bytes : (a : Answer) → IsQuiet (ending_of a).status → (ending_of a).bytes ≡ None
quiet_bytes (answer.Done text) q = absurd q
quiet_bytes (answer.Made bytes text) q = absurd q
quiet_bytes (answer.Refused text) q = refl
quiet_bytes (answer.Input text) q = refl

pub given_wider : (s0 s1 s2 : Stock) (xs : List Handed) → Given s0 s1 xs → s2.handed ≡ s1.handed → s1.longs ≤ s2.longs → Given s0 s2 xs
given_wider s0 s1 s2 xs g is rises = record {
  appended = is ∙ g.appended;
  each = All-weaker (IsTrue s0 s1) (IsTrue s0 s2) (λ h t. true_earlier s0 s1 s2 h rises t) xs g.each;
}

pub fetch_failed : (o : Order) (s0 s1 : Stock) → Stopped (work_of o) s0 s1 → FetchFailed o s0 s1
fetch_failed o s0 s1 s = record { given = s.given; is_given = s.is_given; name = s.name; awaited = s.awaited; failed = s.failed }

pub may_end : (o : Order) (s0 s1 s2 : Stock) (a : Answer) → Came (work_of o) s0 s1 (ending_of a) → s2.handed ≡ s1.handed → s1.longs ≤ s2.longs → MayEnd o s0 s2 (ending_of a)
may_end o s0 s1 s2 a came is rises = record { given = came.given; is_given = given_wider s0 s1 s2 came.given came.is_given is rises; walks = came.walks }

pub answered_by : (o : Order) (s0 s1 s2 : Stock) (a : Answer) (ends : Status) (out0 out1 : Output) → Came (work_of o) s0 s1 (ending_of a) → s2.handed ≡ s1.handed → s1.longs ≤ s2.longs
    → ends ≡ (ending_of a).status → Wrote out0.text (ending_of a).text out1.text → IsPlaced (target_of o) (ending_of a).bytes s2 → Answered o s0 s2 ends out0 out1
answered_by o s0 s1 s2 a ends out0 out1 came is rises status put placed = record {
  given = came.given;
  is_given = given_wider s0 s1 s2 came.given came.is_given is rises;
  ending = ending_of a;
  walks = came.walks;
  status = status;
  put = put;
  placed = placed;
}

pub place_failed : (o : Order) (s0 s1 s2 : Stock) → s1.failures ≡ s0.failures → ((name : List ℕ) × (target_of o ≡ Some name) × Failed Place name s1 s2) → PlaceFailed o s0 s2
place_failed o s0 s1 s2 clean (name, target, failed) = record { name = name; target = target; failed = failed_later Place name s0 s1 s2 clean failed }

pub kept_failed : (o : Order) (s0 s1 s2 : Stock) (name : List ℕ) → s1.failures ≡ s0.failures → target_of o ≡ Some name → ((other : List ℕ) × (target_of o ≡ Some other) × Failed Place other s1 s2) → Keeps o s0 s2 Outside name
kept_failed o s0 s1 s2 name clean target (other, is, failed) =
    inr (inr (refl, failed_later Place name s0 s1 s2 clean (subst (λ n. Failed Place n s1 s2) (same_Some other name (sym is ∙ target)) failed)))

-- ---- after the place went well

kept_with : (o : Order) (s0 s1 s2 : Stock) (ends : Status) (name : List ℕ) (a : Answer) (target bytes : Option (List ℕ)) → Stays s0 s1 → MayEnd o s0 s2 (ending_of a) → (ending_of a).bytes ≡ bytes → target ≡ Some name
    → IsPlaced target bytes s2 → (bytes ≡ None → (n : List ℕ) → s2.holds n ≡ s1.holds n) → Keeps o s0 s2 ends name
kept_with o s0 s1 s2 ends name a target None stays may is named placed quiet = inl (quiet refl name ∙ stays.holds name)
kept_with o s0 s1 s2 ends name a None (Some bytes) stays may is named placed quiet = absurd (none-some name named)
kept_with o s0 s1 s2 ends name a (Some other) (Some bytes) stays may is named placed quiet =
    inr (inl (record { ending = ending_of a; may = may; bytes = bytes; made = is; held = subst (λ n. HoldsWhereTold s2.tells (s2.holds n) bytes) (same_Some other name named) placed }))

pub kept_placed : (o : Order) (s0 s1 s2 : Stock) (ends : Status) (name : List ℕ) (a : Answer) → Stays s0 s1 → Came (work_of o) s0 s1 (ending_of a) → s2.handed ≡ s1.handed → s1.longs ≤ s2.longs → target_of o ≡ Some name
    → IsPlaced (target_of o) (ending_of a).bytes s2 → ((ending_of a).bytes ≡ None → (n : List ℕ) → s2.holds n ≡ s1.holds n) → Keeps o s0 s2 ends name
kept_placed o s0 s1 s2 ends name a stays came is rises target placed quiet =
    kept_with o s0 s1 s2 ends name a (target_of o) (ending_of a).bytes stays (may_end o s0 s1 s2 a came is rises) refl target placed quiet

-- ---- after a failure outside

-- a fetch failed, and nothing was put
pub fetch_outside : (o : Order) (s0 s1 : Stock) (out : Output) → Stopped (work_of o) s0 s1 → FailedOutside (Some o) s0 s1 out out
fetch_outside o s0 s1 out s = inl (record { call = inl (fetch_failed o s0 s1 s); sink = refl })

-- the place failed, and nothing was put
pub place_outside : (o : Order) (s0 s1 s2 : Stock) (out : Output) → s1.failures ≡ s0.failures → ((name : List ℕ) × (target_of o ≡ Some name) × Failed Place name s1 s2) → FailedOutside (Some o) s0 s2 out out
place_outside o s0 s1 s2 out clean failed = inl (record { call = inr (place_failed o s0 s1 s2 clean failed); sink = refl })

-- the put failed
pub front_left : (o : Order) (s0 s1 s2 : Stock) (a : Answer) (out0 out1 : Output) → Came (work_of o) s0 s1 (ending_of a) → s2.handed ≡ s1.handed → s1.longs ≤ s2.longs
    → out1.faults ≡ risen out0.faults → ((n : ℕ) × Wrote out0.text (take n (ending_of a).text) out1.text) → LeftFront (Some o) s0 s2 out0 out1
front_left o s0 s1 s2 a out0 out1 came is rises failed front = record {
  failed = failed;
  text = (ending_of a).text;
  may = (ending_of a, may_end o s0 s1 s2 a came is rises, refl);
  count = front.0;
  put = front.1;
}

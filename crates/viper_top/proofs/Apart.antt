-- What was handed out, taken apart.
use Rattle.std.proofs.Common.{◌≡◌, ◌≢◌, ℕ, List, [], ◌∷◌, ◌++◌, length, refl, sym, ap, subst, ◌∙◌, arith, length-append, Option, Some, None, true, All, inl, inr, ◌⊎◌}
use Rattle.std.proofs.lemmas.List.Elements.{All-head, All-tail}
use Rattle.std.proofs.lemmas.Option.{none-some}
use Rattle.viper_io.specs.Causes.{Stock, Output, Failure, Handed, Rose, risen}
use Rattle.viper_io.specs.declared.fault.Call.{Call}
use Rattle.viper_top.specs.declared.status.Status.{Status}
use Rattle.viper_top.specs.declared.status.Status.TheVariants.{Done, Refused, Usage, Input, Outside, Memory}
use Rattle.viper_top.specs.Endings.{Ending, EndsAnswered}
use Rattle.viper_top.specs.Orders.{Order}
use Rattle.viper_top.specs.Contents.{Kind, Value, limit_of, Spells}
use Rattle.viper_top.specs.Works.{Work, Does, Reads, Comes, Walks}
use Rattle.viper_top.specs.Commands.{Task, Ends, work_of}
use Rattle.viper_top.specs.Promises.{OfOrder, IsContent, IsTrue, Failed, Answered, FetchFailed, PlaceFailed, StoreFailed, FailedOutside, NothingFailed, Leads, Settled}

-- ---- one content that was read

pub record TookOne (s0 s1 : Stock) (kind : Kind) (name : List ℕ) (next : Value kind → Work Task) (given : List Handed) (e : Ending) : Type 0 where
  pub bytes : List ℕ
  pub value : Value kind
  pub others : List Handed
  pub is : given ≡ record { name = name; limit = limit_of kind; bytes = Some bytes } ∷ others
  pub told : s0.tells ≡ true → s0.holds name ≡ Some bytes
  pub spells : Spells kind bytes value
  pub each : All (IsTrue s0 s1) others
  pub goes_on : Walks Ends (next value) others e

same_handed : (h : Handed) (n : List ℕ) (l : ℕ) (b : Option (List ℕ)) → h.name ≡ n → h.limit ≡ l → h.bytes ≡ b → h ≡ record { name = n; limit = l; bytes = b }
same_handed h n l b e f g = rw (sym e, sym f, sym g) refl

told_some : (s0 s1 : Stock) (h : Handed) (name bytes : List ℕ) → h.name ≡ name → h.bytes ≡ Some bytes → IsTrue s0 s1 h → s0.tells ≡ true → s0.holds name ≡ Some bytes
told_some s0 s1 h name bytes n is t tells =
    let content : IsContent h.limit (s0.holds h.name) (Some bytes) = subst (λ b. IsContent h.limit (s0.holds h.name) b) is (t.told tells) in
    subst (λ m. s0.holds m ≡ Some bytes) n content.0

took_with : (s0 s1 : Stock) (kind : Kind) (name : List ℕ) (next : Value kind → Work Task) (h : Handed) (b : Option (List ℕ)) (hs : List Handed) (e : Ending) → All (IsTrue s0 s1) (h ∷ hs) → (e.status ≡ Input → ⊥) → h.bytes ≡ b → h.name ≡ name → h.limit ≡ limit_of kind
    → Comes kind b hs e (λ v. Walks Ends (next v) hs e) → TookOne s0 s1 kind name next (h ∷ hs) e
took_with s0 s1 kind name next h None hs e each fine is n l comes = absurd (fine (ap (λ (x : Ending). x.status) comes.1))
took_with s0 s1 kind name next h (Some bytes) hs e each fine is n l (inl broken) = absurd (fine (ap (λ (x : Ending). x.status) broken.3))
took_with s0 s1 kind name next h (Some bytes) hs e each fine is n l (inr v) = record {
  bytes = bytes;
  value = v.0;
  others = hs;
  is = ap (λ x. x ∷ hs) (same_handed h name (limit_of kind) (Some bytes) n l is);
  told = told_some s0 s1 h name bytes n is (All-head (IsTrue s0 s1) h hs each);
  spells = v.1;
  each = All-tail (IsTrue s0 s1) h hs each;
  goes_on = v.2;
}

pub took_one : (s0 s1 : Stock) (kind : Kind) (name : List ℕ) (next : Value kind → Work Task) (given : List Handed) (e : Ending) → All (IsTrue s0 s1) given → (e.status ≡ Input → ⊥) → Walks Ends (Reads kind name next) given e → TookOne s0 s1 kind name next given e
took_one s0 s1 kind name next [] e each fine walks = absurd walks
took_one s0 s1 kind name next (h ∷ hs) e each fine walks = took_with s0 s1 kind name next h h.bytes hs e each fine refl walks.0 walks.1 walks.2

-- nothing more is handed out once there is something to do
pub does_only : (task : Task) (given : List Handed) (e : Ending) → Walks Ends (Does task) given e → (given ≡ []) × Ends task e
does_only task [] e walks = (refl, walks)
does_only task (h ∷ hs) e walks = absurd walks

-- ---- of the order

pub of_order : (order : Option Order) (o : Order) (P : Order → Type 0) → order ≡ Some o → OfOrder order P → P o
of_order order o P is h = let f : OfOrder (Some o) P = subst (λ x. OfOrder x P) is h in f

-- ---- nothing failed

no_failure : (call : Call) (name : List ℕ) (before now : Stock) → now.failures ≡ before.failures → Failed call name before now → ⊥
no_failure call name before now same f =
    let entry : Failure = record { call = call; name = name } in
    let longer : length before.failures ≡ length (before.failures ++ entry ∷ []) = ap length (sym same ∙ f.appended) in
    omega (arith, length-append before.failures (entry ∷ []))

-- ---- where the store tells

leads_with : (s0 s1 : Stock) (kind : Kind) (name : List ℕ) (next : Value kind → Work Task) (h : Handed) (b : Option (List ℕ)) (hs : List Handed) (e : Ending) → s0.tells ≡ true
    → ((v : Value kind) → Walks Ends (next v) hs e → Leads s0.holds (next v) e)
    → IsContent (limit_of kind) (s0.holds name) b → Comes kind b hs e (λ v. Walks Ends (next v) hs e) → Leads s0.holds (Reads kind name next) e
leads_with s0 s1 kind name next h None hs e tells more content comes = (None, content, (refl, comes.1))
leads_with s0 s1 kind name next h (Some bytes) hs e tells more content (inl broken) = (Some bytes, content, inl (broken.0, broken.1, refl, broken.3))
leads_with s0 s1 kind name next h (Some bytes) hs e tells more content (inr v) = (Some bytes, content, inr (v.0, v.1, more v.0 v.2))

told_as : (s0 s1 : Stock) (h : Handed) (name : List ℕ) (limit : ℕ) → h.name ≡ name → h.limit ≡ limit → IsTrue s0 s1 h → s0.tells ≡ true → IsContent limit (s0.holds name) h.bytes
told_as s0 s1 h name limit n l t tells = rw (sym n, sym l) (t.told tells)

pub leads : (s0 s1 : Stock) (work : Work Task) (given : List Handed) (e : Ending) → s0.tells ≡ true → All (IsTrue s0 s1) given → Walks Ends work given e → Leads s0.holds work e
leads s0 s1 (Does task) [] e tells each walks = walks
leads s0 s1 (Does task) (h ∷ hs) e tells each walks = absurd walks
leads s0 s1 (Reads kind name next) [] e tells each walks = absurd walks
leads s0 s1 (Reads kind name next) (h ∷ hs) e tells each walks =
    leads_with s0 s1 kind name next h h.bytes hs e tells (λ v more. leads s0 s1 (next v) hs e tells (All-tail (IsTrue s0 s1) h hs each) more)
    (told_as s0 s1 h name (limit_of kind) walks.0 walks.1 (All-head (IsTrue s0 s1) h hs each) tells) walks.2

pub settled : (o : Order) (s0 s1 : Stock) (ends : Status) (out0 out1 : Output) → s0.tells ≡ true → Answered o s0 s1 ends out0 out1 → Settled o s0 s1 ends out0 out1
settled o s0 s1 ends out0 out1 tells a = record { ending = a.ending; leads = leads s0 s1 (work_of o) a.given a.ending tells a.is_given.each a.walks; status = a.status; put = a.put; placed = a.placed }

-- ---- the other statuses

rose_by : (before now : ℕ) → now ≡ risen before → Rose before now
rose_by before now is = omega (arith, is)

no_call : (o : Order) (s0 s1 : Stock) → s1.failures ≡ s0.failures → FetchFailed o s0 s1 ⊎ PlaceFailed o s0 s1 → ⊥
no_call o s0 s1 same (inl f) = no_failure _ _ s0 s1 same f.failed
no_call o s0 s1 same (inr f) = no_failure _ _ s0 s1 same f.failed

no_fetch : (order : Option Order) (s0 s1 : Stock) (out0 out1 : Output) → NothingFailed s0 s1 out0 out1 → FailedOutside order s0 s1 out0 out1 → ⊥
no_fetch order s0 s1 out0 out1 n (inr f) = n.sink (rose_by out0.faults out1.faults f.put)
no_fetch None s0 s1 out0 out1 n (inl f) = f
no_fetch (Some o) s0 s1 out0 out1 n (inl f) = no_call o s0 s1 n.store f.call

pub ends_by : (order : Option Order) (ends : Status) (s0 s1 : Stock) (out0 out1 : Output) → (ends ≡ Usage → order ≡ None)
    → (ends ≡ Outside → FailedOutside order s0 s1 out0 out1)
    → order ≢ None → NothingFailed s0 s1 out0 out1 → ends ≢ Memory → EndsAnswered ends
ends_by order Done s0 s1 out0 out1 usage outside some n enough = tt
ends_by order Refused s0 s1 out0 out1 usage outside some n enough = tt
ends_by order Input s0 s1 out0 out1 usage outside some n enough = tt
ends_by order Usage s0 s1 out0 out1 usage outside some n enough = absurd (some (usage refl))
ends_by order Outside s0 s1 out0 out1 usage outside some n enough = absurd (no_fetch order s0 s1 out0 out1 n (outside refl))
ends_by order Memory s0 s1 out0 out1 usage outside some n enough = absurd (enough refl)

pub usage_by : (order : Option Order) (ends : Status) (s0 s1 : Stock) (out0 out1 : Output)
    → (EndsAnswered ends → OfOrder order (λ o. Answered o s0 s1 ends out0 out1))
    → (ends ≡ Outside → FailedOutside order s0 s1 out0 out1)
    → order ≡ None → (Rose out0.faults out1.faults → ⊥) → ends ≢ Memory → ends ≡ Usage
usage_by order Usage s0 s1 out0 out1 answered outside none fine enough = refl
usage_by order Memory s0 s1 out0 out1 answered outside none fine enough = absurd (enough refl)
usage_by order Done s0 s1 out0 out1 answered outside none fine enough = absurd (subst (λ x. OfOrder x (λ o. Answered o s0 s1 Done out0 out1)) none (answered tt))
usage_by order Refused s0 s1 out0 out1 answered outside none fine enough = absurd (subst (λ x. OfOrder x (λ o. Answered o s0 s1 Refused out0 out1)) none (answered tt))
usage_by order Input s0 s1 out0 out1 answered outside none fine enough = absurd (subst (λ x. OfOrder x (λ o. Answered o s0 s1 Input out0 out1)) none (answered tt))
usage_by order Outside s0 s1 out0 out1 answered outside none fine enough = absurd (only_rose order s0 s1 out0 out1 none fine (outside refl))
  where
    only_rose : (order : Option Order) (s0 s1 : Stock) (out0 out1 : Output) → order ≡ None → (Rose out0.faults out1.faults → ⊥) → FailedOutside order s0 s1 out0 out1 → ⊥
    only_rose order s0 s1 out0 out1 none fine (inr f) = fine (rose_by out0.faults out1.faults f.put)
    only_rose order s0 s1 out0 out1 none fine (inl f) = let g : OfOrder None (λ o. StoreFailed o s0 s1 out0 out1) = subst (λ x. OfOrder x (λ o. StoreFailed o s0 s1 out0 out1)) none f in g

pub complete_by : (order : Option Order) (o : Order) (ends : Status) (s0 s1 : Stock) (out0 out1 : Output) → (ends ≡ Usage → order ≡ None)
    → (EndsAnswered ends → OfOrder order (λ o. Answered o s0 s1 ends out0 out1))
    → (ends ≡ Outside → FailedOutside order s0 s1 out0 out1)
    → order ≡ Some o → s0.tells ≡ true → NothingFailed s0 s1 out0 out1 → ends ≢ Memory → Settled o s0 s1 ends out0 out1
complete_by order o ends s0 s1 out0 out1 usage answered outside is tells n enough =
    settled o s0 s1 ends out0 out1 tells (of_order order o (λ o. Answered o s0 s1 ends out0 out1) is
    (answered (ends_by order ends s0 s1 out0 out1 usage outside (λ none. none-some o (sym none ∙ is)) n enough)))

-- over a store that never fails, and a sink that never does
pub sure_by : (order : Option Order) (s0 s1 : Stock) (out0 out1 : Output) → FailedOutside order s0 s1 out0 out1 → s1.failures ≡ s0.failures → out1.faults ≡ 0 → ⊥
sure_by order s0 s1 out0 out1 h store none = no_fetch order s0 s1 out0 out1 (record { store = store; sink = λ rose. omega arith }) h

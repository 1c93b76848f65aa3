-- Contents that are handed out, one after the other.
use Rattle.std.proofs.Common.{◌≡◌, ℕ, ◌≤◌, ◌<◌, List, [], ◌∷◌, ◌++◌, length, refl, sym, subst, ◌∙◌, arith, append_assoc, codes, Option, Some, None, true, Result, Ok, Err, inl, inr}
use Rattle.std.proofs.lemmas.List.{append-nil}
use Rattle.std.proofs.lemmas.List.Elements.{All-nil, All-cons, All-append, All-weaker}
use Rattle.std.proofs.lemmas.Option.{none-some}
use Rattle.std.specs.Prelude.{IsSomeAnd}
use Rattle.viper_io.specs.Causes.{Stock, Handed, risen}
use Rattle.viper_io.specs.declared.fault.Call.TheVariants.{Fetch}
use Rattle.viper_top.specs.declared.answer.Answer.{Answer}
use Rattle.viper_top.specs.declared.answer.Stop.{Stop}
use Rattle.viper_top.specs.declared.answer.Stop.TheVariants.{Outside, Memory}
use Rattle.viper_top.specs.declared.stage.Stage.{Stage}
use Rattle.viper_top.specs.declared.stage.Next.{Next}
use Rattle.viper_top.specs.declared.stage.Next.TheVariants.{Due, Ready, Over}
use Rattle.viper_top.specs.declared.task.Task.{Task as Job}
use Rattle.viper_top.specs.Endings.{input}
use Rattle.viper_top.specs.Contents.{Kind, Value, limit_of}
use Rattle.viper_top.specs.Works.{Work, Does, Reads, Walks, Awaits}
use Rattle.viper_top.specs.Commands.{Task, Ends}
use Rattle.viper_top.specs.Promises.{IsContent, IsTrue, Given, Failed}
use Rattle.viper_top.specs.Stages.{ending_of, task_of, left, Follows, Asks, FitsIn, TookIn, TookContent, Stays, SteppedTo, CameTo}
use Rattle.viper_top.proofs.Growth.{failed_later}

-- ---- what was handed out

pub true_earlier : (s0 s1 s2 : Stock) (h : Handed) → s1.longs ≤ s2.longs → IsTrue s0 s1 h → IsTrue s0 s2 h
true_earlier s0 s1 s2 h rises t = record { told = t.told; long = λ none. omega (arith, t.long none) }

true_later : (s0 s1 s2 : Stock) (h : Handed) → Stays s0 s1 → IsTrue s1 s2 h → IsTrue s0 s2 h
true_later s0 s1 s2 h a t = record {
  told = λ tells. subst (λ c. IsContent h.limit c h.bytes) (a.holds h.name) (t.told (a.grew.tells ∙ tells));
  long = λ none. omega (arith, t.long none, a.grew.longs);
}

pub given_none : (before now : Stock) → now.handed ≡ before.handed → Given before now []
given_none before now is = record { appended = simp append-nil is; each = All-nil (IsTrue before now) }

pub given_both : (s0 s1 s2 : Stock) (xs ys : List Handed) → Given s0 s1 xs → Stays s0 s1 → Given s1 s2 ys → s1.longs ≤ s2.longs → Given s0 s2 (xs ++ ys)
given_both s0 s1 s2 xs ys a stays b rises = record {
  appended = b.appended ∙ rw a.appended (simp append_assoc);
  each = All-append (IsTrue s0 s2) xs ys
      (All-weaker (IsTrue s0 s1) (IsTrue s0 s2) (λ h t. true_earlier s0 s1 s2 h rises t) xs a.each)
      (All-weaker (IsTrue s1 s2) (IsTrue s0 s2) (λ h t. true_later s0 s1 s2 h stays t) ys b.each);
}

-- ---- one step

given_one : (s0 s1 : Stock) (h : Handed) → s1.handed ≡ s0.handed ++ h ∷ [] → IsTrue s0 s1 h → Given s0 s1 (h ∷ [])
given_one s0 s1 h is t = record { appended = is; each = All-cons (IsTrue s0 s1) h [] t (All-nil (IsTrue s0 s1)) }

given_as : (s0 s1 : Stock) (bytes : Option (List ℕ)) (name due : List ℕ) (limit most : ℕ) → name ≡ due → limit ≡ most
    → Given s0 s1 (record { name = name; limit = limit; bytes = bytes } ∷ []) → Given s0 s1 (record { name = due; limit = most; bytes = bytes } ∷ [])
given_as s0 s1 bytes name due limit most e f g = rw (sym e, sym f) g

pub step_took : (work : Work Task) (name : List ℕ) (limit : ℕ) (title : List ℕ) (bytes : List ℕ) (s0 s1 : Stock) (n : Next)
    → Asks work name limit title → s1.handed ≡ s0.handed ++ record { name = name; limit = limit; bytes = Some bytes } ∷ []
    → (s0.tells ≡ true → s0.holds name ≡ Some bytes) → length bytes ≤ limit → TookIn work bytes n → s1.failures ≡ s0.failures ++ [] → SteppedTo work s0 s1 (Ok n)
step_took (Does task) name limit title bytes s0 s1 n asks is told within took clean = absurd asks
step_took (Reads kind due next) name limit title bytes s0 s1 n asks is told within took clean = record {
  clean = clean ∙ append-nil s0.failures;
  bytes = Some bytes;
  is_given = given_as s0 s1 (Some bytes) name due limit (limit_of kind) asks.0 asks.1
      (given_one s0 s1 (record { name = name; limit = limit; bytes = Some bytes }) is (record { told = λ tells. (told tells, within); long = λ none. absurd (none-some bytes (sym none)) }));
  took = took;
}

pub step_long : (work : Work Task) (name : List ℕ) (limit : ℕ) (title : List ℕ) (s0 s1 : Stock) (a : Answer)
    → Asks work name limit title → s1.handed ≡ s0.handed ++ record { name = name; limit = limit; bytes = None } ∷ []
    → (s0.tells ≡ true → IsSomeAnd (s0.holds name) (λ c. limit < length c)) → s1.longs ≡ risen s0.longs
    → ending_of a ≡ input (title ++ codes " long\n") → s1.failures ≡ s0.failures ++ [] → SteppedTo work s0 s1 (Ok (Over a))
step_long (Does task) name limit title s0 s1 a asks is told risen ends clean = absurd asks
step_long (Reads kind due next) name limit title s0 s1 a asks is told risen ends clean = record {
  clean = clean ∙ append-nil s0.failures;
  bytes = None;
  is_given = given_as s0 s1 None name due limit (limit_of kind) asks.0 asks.1
      (given_one s0 s1 (record { name = name; limit = limit; bytes = None }) is (record { told = told; long = λ none. omega (arith, risen) }));
  took = rw (sym asks.2) ends;
}

pub step_failed : (work : Work Task) (name : List ℕ) (limit : ℕ) (title : List ℕ) (s0 s1 : Stock)
    → Asks work name limit title → s1.handed ≡ s0.handed ++ [] → s1.failures ≡ s0.failures ++ record { call = Fetch; name = name } ∷ []
    → SteppedTo work s0 s1 (Err Outside)
step_failed (Does task) name limit title s0 s1 asks is added = absurd asks
step_failed (Reads kind due next) name limit title s0 s1 asks is added = record {
  none = record { appended = is; each = All-nil (IsTrue s0 s1) };
  failed = subst (λ n. Failed Fetch n s0 s1) asks.0 (record { appended = added });
}

pub step_memory : (work : Work Task) (name : List ℕ) (limit : ℕ) (title : List ℕ) (s0 s1 : Stock) → Asks work name limit title → s1.failures ≡ s0.failures → SteppedTo work s0 s1 (Err Memory)
step_memory (Does task) name limit title s0 s1 asks clean = absurd asks
step_memory (Reads kind due next) name limit title s0 s1 asks clean = record { clean = clean }

-- ---- the steps, one after the other

pub ready_came : (work : Work Task) (s : Stock) (j : Job) (a : Answer) → Follows work (Ready j) → Ends (task_of j) (ending_of a) → CameTo work s s (Ok a)
ready_came work s j a f ends = record { clean = refl; given = []; is_given = given_none s s refl; walks = subst (λ w. Walks Ends w [] (ending_of a)) (sym f) ends }

input_with : (kind : Kind) (name : List ℕ) (next : Value kind → Work Task) (s0 s1 : Stock) (a : Answer) (bytes : Option (List ℕ))
    → s1.failures ≡ s0.failures → Given s0 s1 (record { name = name; limit = limit_of kind; bytes = bytes } ∷ []) → TookContent kind next bytes (Over a) → CameTo (Reads kind name next) s0 s1 (Ok a)
input_with kind name next s0 s1 a None clean g took = record { clean = clean; given = record { name = name; limit = limit_of kind; bytes = None } ∷ []; is_given = g; walks = (refl, refl, (refl, took)) }
input_with kind name next s0 s1 a (Some bytes) clean g (inl broken) = record {
  clean = clean;
  given = record { name = name; limit = limit_of kind; bytes = Some bytes } ∷ [];
  is_given = g;
  walks = (refl, refl, inl (broken.fault, broken.breaks, refl, broken.is));
}
input_with kind name next s0 s1 a (Some bytes) clean g (inr v) = absurd v.follows

pub ends_here : (work : Work Task) (s0 s1 : Stock) (a : Answer) → SteppedTo work s0 s1 (Ok (Over a)) → CameTo work s0 s1 (Ok a)
ends_here (Does task) s0 s1 a h = absurd h
ends_here (Reads kind name next) s0 s1 a h = input_with kind name next s0 s1 a h.bytes h.clean h.is_given h.took

works_with : (kind : Kind) (name : List ℕ) (next : Value kind → Work Task) (s0 s1 : Stock) (j : Job) (a : Answer) (bytes : Option (List ℕ))
    → s1.failures ≡ s0.failures → Given s0 s1 (record { name = name; limit = limit_of kind; bytes = bytes } ∷ []) → TookContent kind next bytes (Ready j) → Ends (task_of j) (ending_of a) → CameTo (Reads kind name next) s0 s1 (Ok a)
works_with kind name next s0 s1 j a None clean g took ends = absurd took
works_with kind name next s0 s1 j a (Some bytes) clean g (inl broken) ends = absurd broken.is
works_with kind name next s0 s1 j a (Some bytes) clean g (inr v) ends = record {
  clean = clean;
  given = record { name = name; limit = limit_of kind; bytes = Some bytes } ∷ [];
  is_given = g;
  walks = (refl, refl, inr (v.value, v.spells, subst (λ w. Walks Ends w [] (ending_of a)) (sym v.follows) ends));
}

pub works_here : (work : Work Task) (s0 s1 : Stock) (j : Job) (a : Answer) → SteppedTo work s0 s1 (Ok (Ready j)) → Ends (task_of j) (ending_of a) → CameTo work s0 s1 (Ok a)
works_here (Does task) s0 s1 j a h ends = absurd h
works_here (Reads kind name next) s0 s1 j a h ends = works_with kind name next s0 s1 j a h.bytes h.clean h.is_given h.took ends

pub stops_here : (work : Work Task) (s0 s1 : Stock) (e : Stop) → SteppedTo work s0 s1 (Err e) → CameTo work s0 s1 (Err e)
stops_here (Does task) s0 s1 e h = absurd h
stops_here (Reads kind name next) s0 s1 Outside h = record { given = []; is_given = h.none; name = name; awaited = refl; failed = h.failed }
stops_here (Reads kind name next) s0 s1 Memory h = h

goes_with : (kind : Kind) (name : List ℕ) (next : Value kind → Work Task) (s0 s1 s2 : Stock) (s : Stage) (r : Result Answer Stop) (bytes : Option (List ℕ))
    → s1.failures ≡ s0.failures → Given s0 s1 (record { name = name; limit = limit_of kind; bytes = bytes } ∷ []) → TookContent kind next bytes (Due s) → Stays s0 s1 → Stays s1 s2
    → CameTo (left s) s1 s2 r → CameTo (Reads kind name next) s0 s2 r
goes_with kind name next s0 s1 s2 s r None clean g took a b came = absurd took
goes_with kind name next s0 s1 s2 s r (Some bytes) clean g (inl broken) a b came = absurd broken.is
goes_with kind name next s0 s1 s2 s (Ok answer) (Some bytes) clean g (inr v) a b came = record {
  clean = came.clean ∙ clean;
  given = record { name = name; limit = limit_of kind; bytes = Some bytes } ∷ came.given;
  is_given = given_both s0 s1 s2 (record { name = name; limit = limit_of kind; bytes = Some bytes } ∷ []) came.given g a came.is_given b.grew.longs;
  walks = (refl, refl, inr (v.value, v.spells, subst (λ w. Walks Ends w came.given (ending_of answer)) (sym v.follows) came.walks));
}
goes_with kind name next s0 s1 s2 s (Err Outside) (Some bytes) clean g (inr v) a b came = record {
  given = record { name = name; limit = limit_of kind; bytes = Some bytes } ∷ came.given;
  is_given = given_both s0 s1 s2 (record { name = name; limit = limit_of kind; bytes = Some bytes } ∷ []) came.given g a came.is_given b.grew.longs;
  name = came.name;
  awaited = (refl, bytes, v.value, refl, v.spells, subst (λ w. Awaits w came.given came.name) (sym v.follows) came.awaited);
  failed = failed_later Fetch came.name s0 s1 s2 clean came.failed;
}
goes_with kind name next s0 s1 s2 s (Err Memory) (Some bytes) clean g (inr v) a b came = record { clean = came.clean ∙ clean }

pub goes_on : (work : Work Task) (s0 s1 s2 : Stock) (s : Stage) (r : Result Answer Stop) → SteppedTo work s0 s1 (Ok (Due s)) → Stays s0 s1 → Stays s1 s2
    → CameTo (left s) s1 s2 r → CameTo work s0 s2 r
goes_on (Does task) s0 s1 s2 s r h a b came = absurd h
goes_on (Reads kind name next) s0 s1 s2 s r h a b came = goes_with kind name next s0 s1 s2 s r h.bytes h.clean h.is_given h.took a b came

-- what was handed out within the limit that was asked for is within that of its kind
pub fits_in : (work : Work Task) (name : List ℕ) (limit : ℕ) (title : List ℕ) (bytes : List ℕ) → Asks work name limit title → length bytes ≤ limit → FitsIn work bytes
fits_in (Does task) name limit title bytes asks within = absurd asks
fits_in (Reads kind due next) name limit title bytes asks within = subst (λ (n : ℕ). length bytes ≤ n) asks.1 within

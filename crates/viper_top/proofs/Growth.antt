-- What a store keeps grows.
use Rattle.std.proofs.Common.{◌≡◌, ℕ, ◌≤◌, List, [], ◌++◌, refl, sym, ◌∙◌, arith, append_assoc, append-nil}
use Rattle.viper_io.specs.Causes.{Stock, Failure, Handed, SameContents}
use Rattle.viper_io.specs.declared.fault.Call.{Call}
use Rattle.viper_top.specs.Promises.{Failed, Grew}
use Rattle.viper_top.specs.Stages.{Stays}

-- it stayed as it was
pub grew_same : (s : Stock) → Grew s s
grew_same s = record {
  tells = refl;
  failed = [];
  failures = sym (append-nil s.failures);
  given = [];
  handed = sym (append-nil s.handed);
  longs = omega arith;
}

-- once, and once more
pub grew_twice : (s0 s1 s2 : Stock) → Grew s0 s1 → Grew s1 s2 → Grew s0 s2
grew_twice s0 s1 s2 a b = record {
  tells = b.tells ∙ a.tells;
  failed = a.failed ++ b.failed;
  failures = b.failures ∙ rw a.failures (simp append_assoc);
  given = a.given ++ b.given;
  handed = b.handed ∙ rw a.handed (simp append_assoc);
  longs = omega (arith, a.longs, b.longs);
}

pub stays_same : (s : Stock) → Stays s s
stays_same s = record { holds = λ name. refl; grew = grew_same s }

pub stays_twice : (s0 s1 s2 : Stock) → Stays s0 s1 → Stays s1 s2 → Stays s0 s2
stays_twice s0 s1 s2 a b = record { holds = λ name. b.holds name ∙ a.holds name; grew = grew_twice s0 s1 s2 a.grew b.grew }

-- by a fetch
pub stays_fetch : (s0 s1 : Stock) (failed : List Failure) (given : List Handed) → SameContents s0 s1 → s1.tells ≡ s0.tells → s1.handed ≡ s0.handed ++ given → s1.failures ≡ s0.failures ++ failed
    → s0.longs ≤ s1.longs → Stays s0 s1
stays_fetch s0 s1 failed given same tells handed failures longs = record {
  holds = same.same;
  grew = record { tells = tells; failed = failed; failures = failures; given = given; handed = handed; longs = longs };
}

-- by a place
pub grew_place : (s0 s1 : Stock) (failed : List Failure) → s1.tells ≡ s0.tells → s1.handed ≡ s0.handed → s1.failures ≡ s0.failures ++ failed → s1.longs ≡ s0.longs → Grew s0 s1
grew_place s0 s1 failed tells handed failures longs = record {
  tells = tells;
  failed = failed;
  failures = failures;
  given = [];
  handed = handed ∙ sym (append-nil s0.handed);
  longs = omega (arith, longs);
}

-- a failure after calls that went well
pub failed_later : (call : Call) (name : List ℕ) (before between now : Stock) → between.failures ≡ before.failures → Failed call name between now → Failed call name before now
failed_later call name before between now same f = record { appended = rw (sym same) f.appended }

-- The first listers of nodes.
use Rattle.std.proofs.Common.{◌≡◌, ℕ, zero, suc, ◌+◌, ◌<◌, ◌==◌, Bool, true, false, if◌then◌else◌, List, [], ◌∷◌, ◌++◌, length, take, replicate, Option, Some, None, refl, sym, ap, ◌∙◌, get_or, set, arith, ◌||◌, ◌⊎◌, inl, inr}
use Rattle.std.specs.List.{list_any, AllByRecursion}
use Rattle.std.proofs.lemmas.List.{length-set}
use Rattle.std.proofs.lemmas.Bool.{cases_Bool, false≢true}
use Rattle.std.proofs.lemmas.Bool.Decides.{Decides-eqb}
use Rattle.cert_format.specs.Certificates.{NodeOf}
use Rattle.cert_format.specs.Limits.{IsBelow}
use Rattle.cert_checker.specs.Filling.{lists, lister}
use Rattle.cert_checker.specs.Claiming.{or_first, claimed, claimed_all, AreListers}

abbrev nobody : Option ℕ
nobody = None

-- the first of both, if the second lists it
abbrev pub or_listed : Option ℕ → Bool → ℕ → Option ℕ
or_listed (Some j) b k = Some j
or_listed None b k = if b then Some k else None

get_set_same : (ls : List (Option ℕ)) (s : ℕ) (v : Option ℕ) → s < length ls → get_or (set ls s v) s None ≡ v
get_set_same [] s v h = absurd (omega (arith))
get_set_same (x ∷ ls) zero v h = refl
get_set_same (x ∷ ls) (suc s) v h = get_set_same ls s v (omega (arith))

get_set_other : (ls : List (Option ℕ)) (s i : ℕ) (v : Option ℕ) → (s ≡ i → ⊥) → get_or (set ls s v) i None ≡ get_or ls i None
get_set_other [] s i v h = refl
get_set_other (x ∷ ls) zero zero v h = absurd (h refl)
get_set_other (x ∷ ls) zero (suc i) v h = refl
get_set_other (x ∷ ls) (suc s) zero v h = refl
get_set_other (x ∷ ls) (suc s) (suc i) v h = get_set_other ls s i v (λ e. h (ap (λ n. suc n) e))

pub claimed_length : (k : ℕ) (ls : List (Option ℕ)) (s : ℕ) → length (claimed k ls s) ≡ length ls
claimed_length k ls s = length-set ls s (or_first (get_or ls s None) k)

or_again : (o : Option ℕ) (b : Bool) (k : ℕ) → or_listed (or_first o k) b k ≡ or_listed o true k
or_again None b k = refl
or_again (Some j) b k = refl

same_listed : (o : Option ℕ) (b c : Bool) (k : ℕ) → b ≡ c → or_listed o b k ≡ or_listed o c k
same_listed o b c k e = ap (λ (t : Bool). or_listed o t k) e

pub all_claimed : (k : ℕ) (ss : List ℕ) (ls : List (Option ℕ)) (i : ℕ) → AllByRecursion (IsBelow (length ls)) ss
    → get_or (claimed_all k ls ss) i None ≡ or_listed (get_or ls i None) (list_any (λ s. s == i) ss) k
unfolding claimed_all
all_claimed k [] ls i h = none (get_or ls i None)
  where
    none : (o : Option ℕ) → o ≡ or_listed o false k
    none None = refl
    none (Some j) = refl
all_claimed k (s ∷ ss) ls i h =
    all_claimed k ss (claimed k ls s) i (rw (claimed_length k ls s) h.1)
    ∙ one (cases_Bool (s == i))
  where
    one : ((s == i) ≡ true) ⊎ ((s == i) ≡ false) → or_listed (get_or (claimed k ls s) i None) (list_any (λ t. t == i) ss) k ≡ or_listed (get_or ls i None) (list_any (λ t. t == i) (s ∷ ss)) k
    one (inl e) =
        let same : s ≡ i = (Decides-eqb s i).0 e in
        ap (λ (o : Option ℕ). or_listed o (list_any (λ t. t == i) ss) k) (rw (← same) (get_set_same ls s (or_first (get_or ls s None) k) h.0))
        ∙ or_again (get_or ls i None) (list_any (λ t. t == i) ss) k
        ∙ same_listed (get_or ls i None) true (list_any (λ t. t == i) (s ∷ ss)) k (sym (ap (λ (b : Bool). b || list_any (λ t. t == i) ss) e))
    one (inr e) =
        ap (λ (o : Option ℕ). or_listed o (list_any (λ t. t == i) ss) k) (get_set_other ls s i (or_first (get_or ls s None) k) (λ same. false≢true (sym e ∙ (Decides-eqb s i).1 same)))
        ∙ same_listed (get_or ls i None) (list_any (λ t. t == i) ss) (list_any (λ t. t == i) (s ∷ ss)) k (sym (ap (λ (b : Bool). b || list_any (λ t. t == i) ss) e))

-- one node more
more_by : {T : Type 0} (i k : ℕ) (ns : List (NodeOf T)) (n : NodeOf T) (b : Bool) → lister i (k + 1) (ns ++ n ∷ []) ≡ or_listed (lister i (k + 1) ns) (lists i n) (k + 1 + length ns)
    → (if b then Some k else lister i (k + 1) (ns ++ n ∷ [])) ≡ or_listed (if b then Some k else lister i (k + 1) ns) (lists i n) (k + suc (length ns))
more_by i k ns n true rest = refl
more_by i k ns n false rest = rest ∙ ap (λ (m : ℕ). or_listed (lister i (k + 1) ns) (lists i n) m) (omega arith)

pub lister_more : {T : Type 0} (i k : ℕ) (ns : List (NodeOf T)) (n : NodeOf T) → lister i k (ns ++ n ∷ []) ≡ or_listed (lister i k ns) (lists i n) (k + length ns)
lister_more i k [] n = ap (λ (m : ℕ). if lists i n then Some m else None) (omega arith)
lister_more i k (m ∷ ns) n = more_by i k ns n (lists i m) (lister_more i (k + 1) ns n)

length_none : (n : ℕ) → length (replicate n (nobody)) ≡ n
length_none zero = refl
length_none (suc n) = ap (λ (m : ℕ). suc m) (length_none n)

none_there : (n i : ℕ) → get_or (replicate n nobody) i None ≡ None
none_there zero i = refl
none_there (suc n) zero = refl
none_there (suc n) (suc i) = none_there n i

-- at first no node has one
pub none_listed : {T : Type 0} (nodes : List (NodeOf T)) → AreListers (length nodes) (take 0 nodes) (replicate (length nodes) None)
none_listed nodes = record { count = length_none (length nodes); each = λ i low. none_there (length nodes) i }

pub take_more : {A : Type 0} (xs : List A) (z : A) (i : ℕ) → i < length xs → take (suc i) xs ≡ take i xs ++ get_or xs i z ∷ []
take_more [] z i h = absurd (omega (arith))
take_more (x ∷ xs) z zero h = refl
take_more (x ∷ xs) z (suc i) h = ap (λ (ys : List _). x ∷ ys) (take_more xs z i (omega (arith)))

pub length_take : {A : Type 0} (xs : List A) (i : ℕ) → i < length xs → i ≡ 0 + length (take i xs)
length_take [] i h = absurd (omega (arith))
length_take (x ∷ xs) zero h = refl
length_take (x ∷ xs) (suc i) h = let rest = length_take xs i (omega (arith)) in omega (arith, rest)

-- one node more has claimed
pub one_more : {T : Type 0} (nodes : List (NodeOf T)) (z : NodeOf T) (i : ℕ) (ls ls' : List (Option ℕ)) (ss : List ℕ) → i < length nodes
    → AreListers (length nodes) (take i nodes) ls → ss ≡ (get_or nodes i z).succ → AllByRecursion (IsBelow (length nodes)) ss
    → ls' ≡ claimed_all i ls ss → length ls' ≡ length ls → AreListers (length nodes) (take (suc i) nodes) ls'
one_more nodes z i ls ls' ss h inv es below e same = record {
  count = same ∙ inv.count;
  each = λ j low.
      let n = get_or nodes i z in
      let in_ls : AllByRecursion (IsBelow (length ls)) ss = rw inv.count below in
      ap (λ (q : List (Option ℕ)). get_or q j None) e
      ∙ all_claimed i ss ls j in_ls
      ∙ ap (λ (o : Option ℕ). or_listed o (list_any (λ s. s == j) ss) i) (inv.each j low)
      ∙ ap (λ (xs : List ℕ). or_listed (lister j 0 (take i nodes)) (list_any (λ s. s == j) xs) i) es
      ∙ ap (λ (m : ℕ). or_listed (lister j 0 (take i nodes)) (lists j n) m) (length_take nodes i h)
      ∙ sym (lister_more j 0 (take i nodes) n)
      ∙ ap (lister j 0) (sym (take_more nodes z i h));
}

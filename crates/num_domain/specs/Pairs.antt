-- The domain of pairs of any two domains: a number is a member where it is one of both.
use Rattle.std.specs.Prelude.{◌+◌, ℤ, int_le, ◌&&◌, ◌||◌, cond, Option, Some, None}
use Rattle.viper_word.specs.Words.{least_signed, greatest_signed}
use Rattle.num_domain.specs.Domain.{Domain}
use Rattle.viper_word.specs.Options.{bind}
use Rattle.std.specs.Prelude.{unwrap_or}
use Rattle.num_domain.specs.declared.pair.Pair.{Pair}

abbrev pub pair : {L R : Type 0} → L → R → Pair L R
pair x y = record { left = x; right = y }

module _ {L R : Type 0} (l : Domain L) (r : Domain R) where
  -- a pair of what both factors give
  abbrev pub both : Option L → Option R → Option (Pair L R)
  both o q = bind o (λ x. bind q (λ y. Some (pair x y)))

  -- the left factor is asked, then the right one from its answer, then the left one again
  abbrev pub pair_least : Pair L R → ℤ → Option ℤ
  pair_least p n =
      bind (l.least_from p.left n) (λ i. bind (r.least_from p.right i) (λ j. l.least_from p.left j))

  abbrev pub pair_greatest : Pair L R → ℤ → Option ℤ
  pair_greatest p n =
      bind (l.greatest_to p.left n)
      (λ i. bind (r.greatest_to p.right i) (λ j. l.greatest_to p.left j))

  -- both factors narrowed to the numbers from the first to the last that may be members
  unfoldable pub seal : Pair L R → Option (Pair L R)
  seal p =
      bind (pair_least p least_signed)
      (λ a. bind (pair_greatest p greatest_signed)
      (λ b. cond (int_le a b) (both (l.narrow p.left a b) (r.narrow p.right a b)) None))

  -- what both factors give, sealed
  abbrev pub lift1 : (L → Option L) → (R → Option R) → Pair L R → Option (Pair L R)
  lift1 f g p = bind (both (f p.left) (g p.right)) seal

  abbrev pub lift2 : (L → L → Option L) → (R → R → Option R) → Pair L R → Pair L R
      → Option (Pair L R)
  lift2 f g p q = bind (both (f p.left q.left) (g p.right q.right)) seal

  -- the join with what is sealed, if anything is left of it
  abbrev pub joined : Pair L R → Option (Pair L R) → Pair L R
  joined p None = p
  joined p (Some s) = pair (l.join p.left s.left) (r.join p.right s.right)

  -- what each function of a pair means
  abbrev pub pairs : Domain (Pair L R)
  pairs = record {
    has = λ p n. l.has p.left n && r.has p.right n;
    includes = λ p q. l.includes p.left q.left && r.includes p.right q.right;
    height = λ p. l.height p.left + r.height p.right;
    constant = λ n. unwrap_or (seal (pair (l.constant n) (r.constant n))) (pair l.top r.top);
    top = pair l.top r.top;
    span = λ lo hi m. unwrap_or (seal (pair (l.span lo hi m) (r.span lo hi m))) (pair l.top r.top);
    join = λ p q. pair (l.join p.left q.left) (r.join p.right q.right);
    add = lift2 l.add r.add;
    sub = lift2 l.sub r.sub;
    add_wrap = lift2 l.add_wrap r.add_wrap;
    sub_wrap = lift2 l.sub_wrap r.sub_wrap;
    xor = lift2 l.xor r.xor;
    bit_and = lift2 l.bit_and r.bit_and;
    nor = lift2 l.nor r.nor;
    and_not = lift2 l.and_not r.and_not;
    neg = lift1 l.neg r.neg;
    sar = lift1 l.sar r.sar;
    shl = lift1 l.shl r.shl;
    moved = λ p n. lift1 (λ x. l.moved x n) (λ y. r.moved y n) p;
    right_through = λ p b. lift1 (λ x. l.right_through x b) (λ y. r.right_through y b) p;
    left_through = λ p b. lift1 (λ x. l.left_through x b) (λ y. r.left_through y b) p;
    refine = λ p k q. lift2 (λ x y. l.refine x k y) (λ x y. r.refine x k y) p q;
    narrow = λ p lo hi. lift1 (λ x. l.narrow x lo hi) (λ y. r.narrow y lo hi) p;
    least_from = pair_least;
    greatest_to = pair_greatest;
    all_on = λ p q s. l.all_on p.left q s || r.all_on p.right q s;
    round = λ p t. joined p (seal (pair (l.round p.left t) (r.round p.right t)));
  }

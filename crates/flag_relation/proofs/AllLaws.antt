-- All laws of facts together.
use Rattle.num_domain.specs.Domain.{Domain}
use Rattle.num_domain.specs.Laws.{DomainLaws}
use Rattle.flag_relation.specs.Laws.{FactLaws}
use Rattle.flag_relation.proofs.OrderLaws.{fact_test, fact_refl, fact_trans, fact_antisym, fact_meets, fact_falls, facts_left, facts_right, facts_least, facts_same}
use Rattle.flag_relation.proofs.SettleLaws.{settle_shrinks, settle_keeps, settle_grows}
use Rattle.flag_relation.proofs.AtomLaws.{refined_shrinks, refined_keeps, refined_grows}
use Rattle.flag_relation.proofs.AssumeLaws.{assume_sound, assume_below, assume_grows}
use Rattle.flag_relation.proofs.EmptinessLaws.{met_not_empty, larger_not_empty}
use Rattle.flag_relation.proofs.RoundLaws.{round_fact_above, round_fact_grows}

module _ {T : Type 0} (d : Domain T) (laws : DomainLaws d) where
  pub fact_laws : FactLaws d
  fact_laws = record {
    order = record {
      test = fact_test d;
      refl = fact_refl d laws;
      trans = fact_trans d laws;
      antisym = fact_antisym d laws;
      meets = λ f g h e b m. fact_meets d laws f g e b h m;
      height_falls = fact_falls d laws;
    };
    joins = record {
      left = facts_left d laws;
      right = facts_right d laws;
      least = facts_least d laws;
      same = facts_same d laws;
    };
    refining = record {
      settle_sound = λ links v e h m. (settle_keeps d laws links).sound v e h m;
      settle_below = λ links v. (settle_shrinks d laws links).below v;
      settle_mono = λ links links' h v v' m. (settle_grows d laws links links' h).mono v v' m;
      refine_sound = λ links a v e h m. (refined_keeps d laws links a).sound v e h m;
      refine_below = λ links a v. (refined_shrinks d laws links a).below v;
      refine_mono = λ links links' a h v v' m. (refined_grows d laws links links' a h).mono v v' m;
    };
    assume = record {
      sound = λ f b e h. assume_sound d laws f e b h;
      below = assume_below d laws;
      mono = assume_grows d laws;
    };
    rounding = record {
      above = λ f t. round_fact_above d t laws f;
      mono = λ f g t. round_fact_grows d t laws f g;
    };
    emptiness = record {
      met = met_not_empty d laws;
      larger = larger_not_empty d laws;
    };
  }

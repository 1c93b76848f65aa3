-- What is said where memory is wanted.
use Rattle.std.specs.Prelude.{◌≡◌, Result, IfErr, IsErrAnd}
use Rattle.std.proofs.Common.{sym, subst}
use Rattle.std.proofs.lemmas.Result.{err_from_is_err_and}
use Rattle.rank_nest.specs.declared.fault.RankFault.{RankFault}
use Rattle.rank_nest.specs.declared.fault.RankFault.TheVariants.{Memory}

pub if_memory : {A : Type 0} (P : RankFault → Type 0) (r : Result A RankFault) → P Memory → IsErrAnd r (λ e. e ≡ Memory) → IfErr r P
if_memory P r m h =
    let p = err_from_is_err_and r h in
    subst (λ x. IfErr x P) (sym p.1) (subst P (sym p.2) m)

-- What the certifier's steps give: the certificate is judged, the checker says yes, and a refusal is true.
use Rattle.std.proofs.Common.{◌≡◌, ℕ, ◌<◌, List, [], ◌∷◌, length, Ok, Err, sym, ap, subst, ◌∙◌}
use Rattle.std.specs.Prelude.{IsErrAnd, IfErr, Result}
use Rattle.std.specs.List.{AllByRecursion}
use Rattle.std.proofs.lemmas.Bool.{eqb-true}
use Rattle.num_domain.specs.Domain.{Domain}
use Rattle.memory_plan.specs.Plans.{PlanLines}
use Rattle.memory_plan.specs.WellFormed.{IsWellFormed}
use Rattle.flag_relation.specs.Facts.{FactOf}
use Rattle.flag_relation.specs.Forms.{FormOf}
use Rattle.flag_relation.specs.Laws.{FactLaws}
use Rattle.flow_recover.specs.Cells.{cells_of}
use Rattle.fix_solver.specs.declared.fault.SolveFault.{SolveFault}
use Rattle.fix_solver.specs.declared.fault.SolveFault.TheVariants as solve
use Rattle.fix_solver.specs.Faults.{IsMemory}
use Rattle.fix_solver.specs.Rules.{Fits}
use Rattle.fix_solver.specs.Solutions.{plan_rules}
use Rattle.fix_solver.specs.Solved.{NodeOf, IsSolved, facts_of}
use Rattle.fix_solver.specs.Tables.{place}
use Rattle.rank_nest.specs.declared.fault.RankFault.{RankFault}
use Rattle.rank_nest.specs.declared.fault.RankFault.TheVariants as rank
use Rattle.rank_nest.specs.Ranks.{AreRanks, IsRankFault}
use Rattle.cert_format.specs.Certificates.{CertificateOf}
use Rattle.cert_format.specs.Limits.{IsKeptCert}
use Rattle.cert_checker.specs.declared.verdict.Bound.{Bound}
use Rattle.cert_checker.specs.declared.verdict.Refusal.{Refusal}
use Rattle.cert_checker.specs.declared.verdict.Verdict.{Verdict}
use Rattle.cert_checker.specs.declared.verdict.Verdict.TheVariants as verdict
use Rattle.cert_checker.specs.Conditions.{LocalOfFull}
use Rattle.cert_checker.specs.Filling.{filled}
use Rattle.cert_checker.specs.Judged.{IsJudged}
use Rattle.cert_checker.specs.Packing.{packed}
use Rattle.cert_checker.specs.Verdicts.{bounds_of, verdict_of, verdict_view}
use Rattle.cert_checker.proofs.Exact.{exact}
use Rattle.cert_checker.proofs.Filled.{filled_full}
use Rattle.cert_checker.proofs.Packed.{undone}
use Rattle.certifier.specs.Made.{start_key, made, IsMade}
use Rattle.certifier.specs.declared.fault.CertifyFault.{CertifyFault}
use Rattle.certifier.specs.declared.fault.CertifyFault.TheVariants.{Memory}
use Rattle.certifier.specs.Faults.{of_solve, of_rank, IsCertifyFault, IsPastSolving}
use Rattle.certifier.proofs.MadeLaws.{made_local, made_judged, starts_there}

-- ---- the checker's answer

module _ {T : Type 0} (d : Domain T) (plan : PlanLines) (c : CertificateOf T) (local : LocalOfFull d plan (λ _. 1) c) where
  pub no_never : (v : Verdict) (r : Refusal) → v ≡ verdict.No r → verdict_view v ≡ verdict_of d plan (λ _. 1) c → ⊥
  no_never v r is says =
      let e : Err r ≡ Ok (bounds_of d plan c) = sym (ap verdict_view is) ∙ says ∙ (exact d plan (λ _. 1) c).yes local in
      absurd cc

  pub yes_bounds : (v : Verdict) (bounds : List (ℕ × Bound)) → verdict_view v ≡ Ok bounds → verdict_view v ≡ verdict_of d plan (λ _. 1) c → bounds ≡ bounds_of d plan c
  yes_bounds v bounds is says =
      let e : Ok bounds ≡ Ok (bounds_of d plan c) = sym is ∙ says ∙ (exact d plan (λ _. 1) c).yes local in
      cc

-- ---- the certificate

fit_cells : {T : Type 0} (d : Domain T) (plan : PlanLines) (ns : List (NodeOf (FactOf T))) → AllByRecursion (λ n. Fits (plan_rules d plan) n.fact) ns → AllByRecursion (λ n. length n.fact.cells ≡ length (cells_of plan)) ns
fit_cells d plan [] h = tt
fit_cells d plan (n ∷ ns) h = (eqb-true (length n.fact.cells) (length (cells_of plan)) h.0.holds, fit_cells d plan ns h.1)

module _ {T : Type 0} (d : Domain T) (laws : FactLaws d) (plan : PlanLines) (cells : List ℕ) (nodes : List (NodeOf (FactOf T))) (over : cells ≡ cells_of plan) (solved : IsSolved (plan_rules d plan) nodes) where
  pub over_cells : AllByRecursion (λ n. length n.fact.cells ≡ length cells) nodes
  over_cells = subst (λ (cs : List ℕ). AllByRecursion (λ n. length n.fact.cells ≡ length cs) nodes) (sym over) (fit_cells d plan nodes solved.fit)

  module _ (ranks : List FormOf) (ranked : AreRanks d plan cells nodes ranks) where
    are : AreRanks d plan (cells_of plan) nodes ranks
    are = subst (λ (cs : List ℕ). AreRanks d plan cs nodes ranks) over ranked

    pub starts_in : AllByRecursion (λ s. place (facts_of nodes) (start_key s) < length nodes) plan.starts
    starts_in = starts_there d laws plan nodes solved ranks are

    module _ (c : CertificateOf T) (is : c ≡ made plan cells nodes ranks) (kept : IsKeptCert c) (well : IsWellFormed plan) where
      here : c ≡ made plan (cells_of plan) nodes ranks
      here = is ∙ ap (λ (cs : List ℕ). made plan cs nodes ranks) over

      pub judged : IsJudged c
      judged = subst (λ (e : CertificateOf T). IsJudged e) (sym here) (made_judged d laws plan nodes solved ranks are well (subst (λ (e : CertificateOf T). IsKeptCert e) here kept))

      local : LocalOfFull d plan (λ _. 1) c
      local = subst (λ (e : CertificateOf T). LocalOfFull d plan (λ _. 1) e) (sym here) (made_local d laws plan nodes solved ranks are)

      pub full_local : LocalOfFull d plan (λ _. 1) (filled d plan c)
      full_local = subst (λ (e : CertificateOf T). LocalOfFull d plan (λ _. 1) e) (sym (filled_full d plan c judged.full)) local

      -- packed, it is as it was once it is filled
      again : (p : CertificateOf T) → p ≡ packed d plan c → filled d plan p ≡ c
      again p e = ap (filled d plan) e ∙ undone d plan c laws judged.full

      pub packed_local : (p : CertificateOf T) → p ≡ packed d plan c → LocalOfFull d plan (λ _. 1) (filled d plan p)
      packed_local p e = subst (λ (e : CertificateOf T). LocalOfFull d plan (λ _. 1) e) (sym (again p e)) local

      pub packed_bounds : (p : CertificateOf T) (bounds : List (ℕ × Bound)) → p ≡ packed d plan c → bounds ≡ bounds_of d plan (filled d plan c) → bounds ≡ bounds_of d plan (filled d plan p)
      packed_bounds p bounds e b = b ∙ ap (bounds_of d plan) (filled_full d plan c judged.full ∙ sym (again p e))

      pub is_made : (p : CertificateOf T) → p ≡ packed d plan c → IsMade d plan p
      is_made p e = record { nodes = nodes; solved = solved; ranks = ranks; are = are; is = e ∙ ap (packed d plan) here }

-- ---- refusals

pub past_memory : {A : Type 0} (r : Result A CertifyFault) → IsErrAnd r (λ e. e ≡ Memory) → IfErr r IsPastSolving
past_memory (Ok x) h = absurd h
past_memory (Err e) h = subst IsPastSolving (sym h) tt

solve_past : (f : SolveFault) → IsMemory f → IsPastSolving (of_solve f)
solve_past (solve.Undischarged k c) h = h
solve_past (solve.Nodes keys) h = h
solve_past solve.Memory h = h

pub past_solve : {A : Type 0} (f : SolveFault) (r : Result A CertifyFault) → IsErrAnd r (λ e. e ≡ of_solve f) → IsMemory f → IfErr r IsPastSolving
past_solve f (Ok x) h m = absurd h
past_solve f (Err e) h m = subst IsPastSolving (sym h) (solve_past f m)

module _ {T : Type 0} (d : Domain T) (plan : PlanLines) (cells : List ℕ) (nodes : List (NodeOf (FactOf T))) (over : cells ≡ cells_of plan) (solved : IsSolved (plan_rules d plan) nodes) where
  rank_true : (f : RankFault) → IsRankFault d plan (cells_of plan) nodes f → IsCertifyFault d plan (of_rank f)
  rank_true (rank.Unranked edges) h = record { nodes = nodes; solved = solved; holds = h }
  rank_true (rank.Large nest) h = record { nodes = nodes; solved = solved; holds = h }
  rank_true rank.Memory h = h

  pub rank_fault : {A : Type 0} (f : RankFault) (r : Result A CertifyFault) → IsErrAnd r (λ e. e ≡ of_rank f) → IsRankFault d plan cells nodes f → IfErr r (IsCertifyFault d plan)
  rank_fault f (Ok x) h k = absurd h
  rank_fault f (Err e) h k = subst (IsCertifyFault d plan) (sym h) (rank_true f (subst (λ (cs : List ℕ). IsRankFault d plan cs nodes f) over k))

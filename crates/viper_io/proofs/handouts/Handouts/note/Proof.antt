-- `note` changes the list in proofs alone: the borrow of the list is opened, and closed with one more at its end.
use Rattle.std.proofs.Common.{[], ◌∷◌, ◌++◌, refl}
use Rattle.std.proofs.raw_atomic.Walks.{proved}
use mir.Syntax.{named}
use mir.Val.{vunit}
use types.Kit.{‵, ◌⊛◌, ◌$◌, ◌∵◌, !, qed, done, move, keep, split, join, fsplit3, feq_i, suffices, frame, group}
use base.Fml.{ftrue, flft}
use types.Run.{enter, of_opd, unit_lit, returns}
use types.ByLocal.{alloc_all, pass_all, free_all, look_at, sets}
use denote.Builtin.{RefOf}
use denote.Exit.{yes}
use denote.Ref.{MutRef, ShrRef, mut_vals, mut_Tells, shr_vals, shr_Tells}
use denote.Signature.{plain, named_lft}
use denote.Steps.{nothing, opens, closes}
use denote.Triple.Walked.{Stays, walk_of, says, stay_dropped, Goes-dropped, stay_ref, Goes-ref, ends_at}
use Rattle.viper_io.specs.Noted.{handed_of}
use Rattle.viper_io.specs.contracts.handouts.Handouts.{the_row as Row}
use Rattle.viper_io.specs.contracts.handouts.Handout.{the_row as Noted}
use Rattle.viper_io.specs.contracts.handouts.Handouts.note as f
use Rattle.viper_io.proofs.handouts.Handouts.note.Statement.{statement}
use Rattle.viper_io.proofs.handouts.Handouts.note.Code as code

abbrev stayed : Stays f.ended.signature.params f.ended.kept
stayed = (stay_ref (0 ∷ []) tt (plain (λ _. Row)), (stay_dropped _ yes, tt))

pub note_spec : {M : Type 1} → statement M
note_spec 𝓤 𝓛 𝓜 𝓡 wired =
    let c = f.clauses 𝓛 𝓜.mem 𝓡.returns in
    let noted = Goes-dropped 𝓛 3 (RefOf (1 ∷ []) tt (plain (λ κs. Noted (named_lft 3 2 tt κs))) (λ _. tt)) yes (λ κs x w. refl) in
    proved 𝓛 f.ended stayed c 𝓜 𝓡 (Goes-ref 𝓛 3 0 tt (plain (λ _. Row)), (noted, tt))
    f.Key.name code.function (code.unfolded 𝓤 𝓛.H 𝓜 𝓡 wired)
    (λ κs. (mut_vals, (shr_vals, tt))) (λ κs. (mut_Tells (named 0) κs.0 Row, (shr_Tells (named 1) κs.1.0 (Noted (named_lft 3 2 tt κs)), tt)))
    (λ κs qs bounds a _ are.
    let r = a.0 in let b = r.ref_ptr.0 in let o = r.ref_ptr.1 in
    let longer = record r.now { list = r.now.list ++ handed_of a.1.0.now ∷ [] } in
    let y : (walk_of 𝓛 f.ended stayed c).Ghost = ((κs, qs, bounds, a, (mut_vals r, (shr_vals a.1.0, tt))), tt) in
    qed 𝓛 (((‵ (flft κs.0 qs.0) ⊛ ‵ (flft κs.1.0 qs.1.0) ⊛ ‵ (flft κs.1.1.0 qs.1.1.0) ⊛ ‵ ftrue)
    ⊛ ‵ ((MutRef (named 0) κs.0 Row).own_val r (mut_vals r)) ⊛ ‵ ((ShrRef (named 1) κs.1.0 (Noted (named_lft 3 2 tt κs))).own_val a.1.0 (shr_vals a.1.0)) ⊛ ‵ ftrue) ∷ ‵ ftrue ∷ []) ∵
    -- [the list; its lifetime's token; the other tokens]
    split ! $ split ! $ move ! (2 ∷ []) $ split ! $ keep ! (0 ∷ 2 ∷ 3 ∷ []) $
    enter ! _ _ _ _ _ $ alloc_all ! (λ l. pass_all ! refl ((tt, tt), ((tt, tt), tt)) $
    sets ! (of_opd ! (unit_lit !)) refl (tt, tt) $
    -- the borrow opens at the old list, and closes at the longer one: in memory nothing is changed
    fsplit3 ! $ move ! (1 ∷ 2 ∷ 3 ∷ []) $ opens ! tt Row b o (λ us. closes ! tt Row longer us b o $
    returns ! (look_at ! 0 refl) $ free_all ! refl $ move ! (3 ∷ []) $
    suffices ! _ (ends_at 𝓛 f.ended stayed c y vunit tt (longer, (tt, tt)) (tt, (tt, tt))) $ says ! refl $
    -- what is left: the list, and nothing of the note
    group ! 3 $ nothing ! $ nothing ! $ join ! $ move ! (1 ∷ 0 ∷ []) $ join ! $ move ! (1 ∷ 2 ∷ []) $ join ! $ frame ! $ frame ! $
    feq_i ! _ (vunit ∷ []) _ refl $ done !)))

-- `new` makes a value that takes no memory, with the empty list in proofs.
use Rattle.std.proofs.Common.{List, [], ◌∷◌, refl}
use Rattle.std.proofs.raw_atomic.Walks.{proved}
use mir.Val.{Val, vstruct, vnil}
use types.Kit.{‵, ◌⊛◌, ◌$◌, ◌∵◌, !, qed, done, drop, fjoin, fpack, feq_i, suffices}
use types.Part.{agg}
use types.Run.{enter, returns, no_more}
use types.ByLocal.{alloc_all, pass_all, free_all, look_at, sets}
use base.Fml.{ftrue}
use denote.RattleType.{Valss}
use denote.Steps.{nothing}
use denote.Struct.Owning.{shape}
use denote.Struct.Struct.{within}
use denote.Triple.Walked.{walk_of, says, ends_at}
use Rattle.viper_io.specs.contracts.handouts.Handouts.{the_type}
use Rattle.viper_io.specs.contracts.handouts.Handouts.new as f
use Rattle.viper_io.proofs.handouts.Handouts.new.Statement.{statement}
use Rattle.viper_io.proofs.handouts.Handouts.new.Code as code

pub new_spec : {M : Type 1} → statement M
new_spec 𝓤 𝓛 𝓜 𝓡 wired =
    let c = f.clauses 𝓛 𝓜.mem 𝓡.returns in
    proved 𝓛 f.ended tt c 𝓜 𝓡 tt f.Key.name code.function (code.unfolded 𝓤 𝓛.H 𝓜 𝓡 wired)
    (λ κs. tt) (λ κs. tt) (λ κs qs bounds a _ are.
    let none : List Val = vstruct vnil ∷ [] in
    let y : (walk_of 𝓛 f.ended tt c).Ghost = ((κs, qs, bounds, a, tt), tt) in
    qed 𝓛 ((‵ ftrue ⊛ ‵ ftrue) ∷ ‵ ftrue ∷ []) ∵ drop ! $ drop ! $
    enter ! _ _ _ _ _ $ alloc_all ! (λ l. pass_all ! refl tt $
    sets ! (agg ! (no_more !)) refl (tt, tt) $
    returns ! (look_at ! 0 refl) $ free_all ! refl $
    suffices ! _ (ends_at 𝓛 f.ended tt c y (vstruct vnil) (record { list = [] }) tt tt) $ says ! refl $
    -- what the value owns: its fields, of which there are none, and nothing else
    nothing ! $ nothing ! $ feq_i ! (List Val) none none refl $ fjoin ! $
    fpack ! (Valss []) (within (shape the_type) tt none) tt $ fjoin ! $
    nothing ! $ nothing ! $ done !))

use Rattle.std.proofs.Common.{List, ◌++◌, ◌∷◌, [], length, refl, None, subst, ℕ, ◌<◌, ◌^◌}
use Rattle.cert_format.specs.declared.cert.Node.{Node}
use Rattle.cert_format.specs.declared.spelled.TheConstants.{SPELLED}
use Rattle.cert_format.specs.Keeping.{IsKeeping}
use Rattle.cert_format.specs.Spelling.{front}
use Rattle.std.proofs.lemmas.Result.{on_ok_weaker}
use Rattle.cert_format.proofs.KeepingSteps.{either_way, keeping_same, view_same, room_inside}
use Rattle.cert_format.proofs.cert.CertOf.push_bare.Goals as goal

pub invariant_of-self : goal.invariant_of-self
invariant_of-self g c =
    let i = c.self.inside in
    let b = front SPELLED g.D.Spelled.bytes in
    let n : Node = record { addr = c.args.addr; fact = None; succ = c.args.succ; rank = c.in_ok-rank.rank } in
    either_way c.append.result (λ (ns : List Node). IsKeeping b (length i.cells.items) ns i.kept.items i.places.keys) c.append.new.nodes.items (i.nodes.items ++ n ∷ []) i.nodes.items c.append.ensures.ok c.append.ensures.err
    (keeping_same b (length i.cells.items) i.nodes.items i.kept.items i.places.keys c.self.invariant n (room_inside i.kept.items i.nodes.items i.cells.items i.starts.items c.args.self.now c.self.view_is c.requires) (subst (λ (a : ℕ). a < 2 ^ 20) c.get.ensures.number c.get.ensures.in_range) tt refl)
    c.self.invariant

pub returns-clause-ok : goal.returns-clause-ok
returns-clause-ok g c =
    let i = c.self.inside in
    let n : Node = record { addr = c.args.addr; fact = None; succ = c.args.succ; rank = c.in_ok-rank.rank } in
    rw (← c.in_ok-rank.ensures) (on_ok_weaker c.append.result (λ e. view_same i.kept.items c.args.self.now i.cells.items i.starts.items i.nodes.items c.append.new.nodes.items n None refl c.self.view_is e) c.append.ensures.ok)

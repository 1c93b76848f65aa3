use Rattle.std.proofs.Common.{rules, ◌≡◌, ◌≤◌, List, ◌++◌, ◌∷◌, [], length, sym, ap, ◌∙◌, None, Some, unwrap_or, subst, ℕ, ◌<◌, ◌^◌, arith}
use Rattle.std.proofs.lemmas.Result.{on_ok_weaker, on_err_weaker}
use Rattle.cert_format.specs.declared.cert.Node.{Node}
use Rattle.cert_format.specs.declared.limits.TheConstants.{MOST_NODES}
use Rattle.cert_format.specs.declared.spelled.TheConstants.{SPELLED}
use Rattle.cert_format.specs.Keeping.{IsKeeping, Enters, given, nodes_view, spelled}
use Rattle.cert_format.specs.Spelling.{front, fact_bytes}
use Rattle.cert_format.proofs.KeepingLaws.{Tells}
use Rattle.cert_format.proofs.KeepingSteps.{WasFound, either_way, ok_then, err_then, few_keys, fits_inside, room_inside, found_fact, new_fact, keeping_same, keeping_spelled, keeping_new, view_same, view_new}
use Rattle.cert_format.proofs.cert.CertOf.push_given.Given.{Over}
use Rattle.cert_format.proofs.cert.CertOf.push_given.Goals.{Then-is_some, Else-is_some}
use Rattle.cert_format.proofs.cert.CertOf.push_given.Goals as goal

pub enter-requires : goal.enter-requires
enter-requires g c =
    let i = c.self.inside in
    let few : length i.places.keys ≤ MOST_NODES = few_keys (front SPELLED g.D.Spelled.bytes) (length i.cells.items) i.nodes.items i.kept.items i.places.keys c.self.invariant in
    omega arith

-- the fact is kept
known : (g : Over) (c : Then-is_some g) → WasFound (front SPELLED g.D.Spelled.bytes) (length c.self.inside.cells.items) c.self.inside.nodes.items c.self.inside.kept.items c.enter.new.places.keys (given c.args.fact) c.unwrap_or.result
known g c =
    let i = c.self.inside in
    let b = front SPELLED g.D.Spelled.bytes in
    let f = given c.args.fact in
    let count : c.len.result ≡ length i.kept.items = search (rules) in
    let key_is : c.in_ok-key.key.bytes.items ≡ fact_bytes b f = c.in_ok-key.ensures.bytes ∙ ap (fact_bytes b) c.lent.ensures in
    let t : Tells g.D.Spelled.bytes = record { size = g.met.D.Spelled.size; exact = g.met.D.Spelled.exact } in
    found_fact g.D.Spelled.bytes (length i.cells.items) i.nodes.items i.kept.items i.places.keys c.enter.new.places.keys f c.in_ok-key.key.bytes.items c.in_ok-place.place c.unwrap_or.result t c.self.invariant
    (fits_inside i.kept.items i.nodes.items i.cells.items i.starts.items c.args.self.now (given c.args.fact) c.lent.result.now c.self.view_is c.lent.ensures c.requires.cells c.in_ok-key.ensures.limits)
    key_is c.in_ok-place.ensures.ok (sym c.is_some.ensures ∙ c.if-is_some.true) (c.unwrap_or.ensures ∙ ap (unwrap_or c.in_ok-place.place) count)

-- it isn't yet
fresh : (g : Over) (c : Else-is_some g) → Enters c.self.inside.places.keys c.enter.new.places.keys (fact_bytes (front SPELLED g.D.Spelled.bytes) (given c.args.fact)) None × (c.unwrap_or.result ≡ length c.self.inside.kept.items)
fresh g c =
    let i = c.self.inside in
    let b = front SPELLED g.D.Spelled.bytes in
    let f = given c.args.fact in
    let count : c.len.result ≡ length i.kept.items = search (rules) in
    let key_is : c.in_ok-key.key.bytes.items ≡ fact_bytes b f = c.in_ok-key.ensures.bytes ∙ ap (fact_bytes b) c.lent.ensures in
    new_fact b (length i.cells.items) i.nodes.items i.kept.items i.places.keys c.enter.new.places.keys f c.in_ok-key.key.bytes.items c.in_ok-place.place c.unwrap_or.result key_is c.in_ok-place.ensures.ok (sym c.is_some.ensures ∙ c.if-is_some.false) (c.unwrap_or.ensures ∙ ap (unwrap_or c.in_ok-place.place) count)

pub invariant_of-self-then-is_some : goal.invariant_of-self-then-is_some
invariant_of-self-then-is_some g c =
    let i = c.self.inside in
    let w = known g (goal.at.invariant_of-self-then-is_some g c).Then-is_some in
    let n : Node = record { addr = c.args.addr; fact = Some c.unwrap_or.result; succ = c.args.succ; rank = c.in_ok-rank.rank } in
    let b = front SPELLED g.D.Spelled.bytes in
    either_way c.append.result (λ (ns : List Node). IsKeeping b (length i.cells.items) ns i.kept.items c.enter.new.places.keys) c.append.new.nodes.items (i.nodes.items ++ n ∷ []) i.nodes.items c.append.ensures.ok c.append.ensures.err
    (keeping_same b (length i.cells.items) i.nodes.items i.kept.items c.enter.new.places.keys w.keeps n (room_inside i.kept.items i.nodes.items i.cells.items i.starts.items c.args.self.now c.self.view_is c.requires.room) (subst (λ (a : ℕ). a < 2 ^ 20) c.get.ensures.number c.get.ensures.in_range) w.within w.same)
    w.keeps

pub returns-then-is_some-clause-ok : goal.returns-then-is_some-clause-ok
returns-then-is_some-clause-ok g c =
    let i = c.self.inside in
    let w = known g (goal.at.returns-then-is_some-clause-ok g c).Then-is_some in
    let n : Node = record { addr = c.args.addr; fact = Some c.unwrap_or.result; succ = c.args.succ; rank = c.in_ok-rank.rank } in
    rw (← c.in_ok-rank.ensures) (on_ok_weaker c.append.result (λ e. view_same i.kept.items c.args.self.now i.cells.items i.starts.items i.nodes.items c.append.new.nodes.items n (Some (given c.args.fact)) w.is c.self.view_is e) c.append.ensures.ok)

pub returns-then-is_some-clause-err : goal.returns-then-is_some-clause-err
returns-then-is_some-clause-err g c =
    let i = c.self.inside in
    on_err_weaker c.append.result (λ e. ap (λ (ns : List Node). record { cells = i.cells.items; starts = i.starts.items; nodes = nodes_view i.kept.items ns }) e ∙ c.self.view_is) c.append.ensures.err

pub invariant_of-self-then-is_err : goal.invariant_of-self-then-is_err
invariant_of-self-then-is_err g c =
    let i = c.self.inside in
    let b = front SPELLED g.D.Spelled.bytes in
    let w = fresh g (goal.at.invariant_of-self-then-is_err g c).Else-is_some in
    let a = c.append_new in
    let failed = sym c.is_err.ensures.value ∙ c.if-is_err.true in
    rw (err_then a.result _ failed a.ensures.same_nodes, err_then a.result _ failed a.ensures.same_kept)
    (keeping_spelled b (length i.cells.items) i.nodes.items i.kept.items i.places.keys c.self.invariant c.leave.new.places.keys (c.leave.ensures (spelled i.places.keys) (fact_bytes b (given c.args.fact)) w.0.1))

pub invariant_of-self-else-is_err : goal.invariant_of-self-else-is_err
invariant_of-self-else-is_err g c =
    let i = c.self.inside in
    let w = fresh g (goal.at.invariant_of-self-else-is_err g c).Else-is_some in
    let a = c.append_new in
    let went = sym c.is_err.ensures.value ∙ c.if-is_err.false in
    rw (ok_then a.result _ went a.ensures.nodes, ok_then a.result _ went a.ensures.kept)
    (keeping_new (front SPELLED g.D.Spelled.bytes) (length i.cells.items) i.nodes.items i.kept.items i.places.keys c.self.invariant (record { addr = c.args.addr; fact = Some c.unwrap_or.result; succ = c.args.succ; rank = c.in_ok-rank.rank }) (given c.args.fact) c.enter.new.places.keys (room_inside i.kept.items i.nodes.items i.cells.items i.starts.items c.args.self.now c.self.view_is c.requires.room) (subst (λ (a : ℕ). a < 2 ^ 20) c.get.ensures.number c.get.ensures.in_range) (ap (λ (k : ℕ). Some k) w.1) (fits_inside i.kept.items i.nodes.items i.cells.items i.starts.items c.args.self.now (given c.args.fact) c.lent.result.now c.self.view_is c.lent.ensures c.requires.cells c.in_ok-key.ensures.limits) w.0)

pub returns-clause-ok : goal.returns-clause-ok
returns-clause-ok g c =
    let i = c.self.inside in
    let w = fresh g (goal.at.returns-clause-ok g c).Else-is_some in
    let n : Node = record { addr = c.args.addr; fact = Some c.unwrap_or.result; succ = c.args.succ; rank = c.in_ok-rank.rank } in
    let a = c.append_new in
    let went = sym c.is_err.ensures.value ∙ c.if-is_err.false in
    rw (← c.in_ok-rank.ensures) (view_new i.kept.items a.new.kept.items (given c.args.fact) c.args.self.now i.cells.items i.starts.items i.nodes.items a.new.nodes.items n c.self.invariant.numbers (ap (λ (k : ℕ). Some k) w.1) c.self.view_is (ok_then a.result _ went a.ensures.nodes) (ok_then a.result _ went a.ensures.kept))

-- A key was popped that an edge of the last stage leads to, or the last stage is done.
use Rattle.std.proofs.Common.{◌≡◌, ◌-◌, length, take, vec_len, arith, ap, ◌∙◌}
use Rattle.strong_components.proofs.Meeting.{stage_read, step_popped, step_closed}
use Rattle.strong_components.proofs.search.Search.step.Goals as goal

pub meet-requires-clause-kept : goal.meet-requires-clause-kept
meet-requires-clause-kept c =
    (step_popped c.args.edges.now c.args.marks.now c.args.self.now c.pop.new.self.items c.in-Some.key c.len.result c.index-stage.result.now
    c.requires.kept c.in-Some.ensures.items (omega arith) (omega arith) c.index-stage.ensures (omega arith)).0

pub meet-requires-clause-reached : goal.meet-requires-clause-reached
meet-requires-clause-reached c =
    (step_popped c.args.edges.now c.args.marks.now c.args.self.now c.pop.new.self.items c.in-Some.key c.len.result c.index-stage.result.now
    c.requires.kept c.in-Some.ensures.items (omega arith) (omega arith) c.index-stage.ensures (omega arith)).1

pub close-requires-clause-first : goal.close-requires-clause-first
close-requires-clause-first c =
    let r = stage_read c.args.self.now.stages.items c.len.result c.index-stage.result.now (omega arith) (omega arith) c.index-stage.ensures in
    omega (arith, r.0, c.requires.kept.stage_first (length c.args.self.now.stages.items - 1) (omega arith))

pub returns-in_ok-close : goal.returns-in_ok-close
returns-in_ok-close c =
    let r = stage_read c.args.self.now.stages.items c.len.result c.index-stage.result.now (omega arith) (omega arith) c.index-stage.ensures in
    let e = c.in_ok-close.ensures in
    let n : vec_len c.close.new.self.stages - 1 ≡ length c.args.self.now.stages.items - 1 = omega (arith, ap length e.stages, c.close.new.self.stages.ok.0) in
    step_closed c.args.edges.now c.args.marks.now c.close.new.marks c.args.self.now
    (record { trail = c.close.new.self.trail; waiting = c.close.new.self.waiting; stages = c.pop-else-len-stage.new.self; closed = c.close.new.self.closed })
    (take (length c.args.self.now.stages.items - 1) c.args.self.now.stages.items) c.index-stage.result.now
    c.requires.kept c.requires.placed r.2 (omega arith) c.close.ensures.len e.new e.rest e.trail e.closed e.waiting
    (c.pop-else-len-stage.ensures.rest ∙ ap (λ k. take k c.close.new.self.stages.items) n ∙ ap (λ x. take (length c.args.self.now.stages.items - 1) x) e.stages)

-- Each arm is one of the three cases of a key that was led to.
use Rattle.strong_components.proofs.Meeting.{meet_unseen, meet_held, meet_done}
use Rattle.strong_components.proofs.search.Search.meet.Goals as goal

pub returns-in_ok-open-in-Unseen : goal.returns-in_ok-open-in-Unseen
returns-in_ok-open-in-Unseen c =
    let e = c.in_ok-open-in-Unseen.ensures in
    meet_unseen c.args.edges.now c.args.marks.now c.open.new.marks c.args.self.now c.open.new.self c.args.key
    c.requires.kept c.requires.reached c.requires.placed c.requires.within c.in-Unseen.is
    e.marked e.trail e.waiting.0 e.waiting.1 e.waiting.2 e.stages e.closed

pub returns-in-Held : goal.returns-in-Held
returns-in-Held c =
    let e = c.merge.ensures in
    meet_held c.args.edges.now c.args.marks.now c.args.self.now c.merge.new.self c.args.key c.in-Held.place e.stages.0
    c.requires.kept c.requires.reached c.requires.placed c.in-Held.is
    e.stages.1 e.stages.2 e.stages.3 e.stages.4 e.trail e.waiting e.closed

pub returns-in-Done : goal.returns-in-Done
returns-in-Done c = meet_done c.args.edges.now c.args.marks.now c.args.self.now c.args.key c.in-Done.field-0 c.requires.kept c.requires.placed c.in-Done.is

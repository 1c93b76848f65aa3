-- A key that was not seen begins a search, which is then finished.
use Rattle.strong_components.proofs.Finishing.{begun}
use Rattle.strong_components.proofs.search.Search.visit.Goals as goal

pub finish-requires-clause-kept : goal.finish-requires-clause-kept
finish-requires-clause-kept c =
    let e = c.in_ok-open.ensures in
    (begun c.args.edges.now c.args.marks.now c.open.new.marks c.args.self.now c.open.new.self c.args.key
    c.requires.idle.kept c.requires.idle.idle c.requires.idle.placed c.requires.within c.in-Unseen.is
    e.marked e.trail e.waiting.0 e.waiting.1 e.waiting.2 e.stages e.closed).0.kept

pub finish-requires-clause-placed : goal.finish-requires-clause-placed
finish-requires-clause-placed c =
    let e = c.in_ok-open.ensures in
    (begun c.args.edges.now c.args.marks.now c.open.new.marks c.args.self.now c.open.new.self c.args.key
    c.requires.idle.kept c.requires.idle.idle c.requires.idle.placed c.requires.within c.in-Unseen.is
    e.marked e.trail e.waiting.0 e.waiting.1 e.waiting.2 e.stages e.closed).0.placed

-- The part of the number gets one more key.
use Rattle.std.proofs.Common.{None, sym, ◌∙◌}
use Rattle.std.proofs.lemmas.List.{get_or_read}
use Rattle.strong_components.proofs.Grouping.{added_to}
use Rattle.strong_components.proofs.components.Groups.add.Goals as goal

pub returns-in_ok-push-in-Some : goal.returns-in_ok-push-in-Some
returns-in_ok-push-in-Some c =
    let at = sym (get_or_read c.args.self.now.places.items c.args.number c.index.result.now c.requires.number c.index.ensures None) ∙ c.in-Some.is in
    added_to c.args.self.now.places.items c.args.self.now.parts.items c.args.number c.args.key c.in-Some.place c.index_mut.result.now c.push.new.self
    at (c.requires.place c.in-Some.place at) c.index_mut.ensures.value c.in_ok-push-in-Some.ensures.items

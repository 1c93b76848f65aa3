-- One more key is put to those with its number.
use Rattle.std.proofs.Common.{◌≡◌, ℕ, take, get_or, arith, sym, subst, ap, ◌∙◌}
use Rattle.std.proofs.lemmas.List.{take_more, take_all}
use Rattle.strong_components.specs.Search.{mark_of}
use Rattle.strong_components.specs.Numbers.{number_of}
use Rattle.strong_components.specs.Groups.{lists_of, Added, Grouped}
use Rattle.strong_components.proofs.Grouping.{grouped_added, added_len, above_before}
use Rattle.strong_components.proofs.components.group.Goals as goal

pub loop-key-preserved : goal.loop-key-preserved
loop-key-preserved c =
    let i = c.loop-key.key-index in
    let keys = c.args.keys.now in
    let number : ℕ → ℕ = λ v. number_of (mark_of c.args.marks.now v) in
    let is : number (get_or keys i 0) ≡ c.in-Done.number = ap number_of c.in-Done.is in
    let added = subst (λ n. Added c.loop-key.groups.places.items (lists_of c.loop-key.groups.parts.items) n (get_or keys i 0) c.add.new.self.places.items (lists_of c.add.new.self.parts.items)) (sym is) c.in_ok-add.ensures in
    let more = take_more keys i 0 (omega arith) in
    record {
      grouped = subst (λ x. Grouped (λ v. number_of (mark_of c.args.marks.now v)) x c.add.new.self.places.items (lists_of c.add.new.self.parts.items)) (sym more)
          (grouped_added (λ v. number_of (mark_of c.args.marks.now v)) (take i keys) c.loop-key.groups.places.items (lists_of c.loop-key.groups.parts.items) (get_or keys i 0)
          c.loop-key.invariant.grouped (above_before keys i c.requires.ascend (omega arith)) c.add.new.self.places.items (lists_of c.add.new.self.parts.items)
          (omega (arith, is, c.loop-key.invariant.len, c.requires.below (get_or keys i 0) c.in-Done.number c.in-Done.is)) added);
      len = added_len c.loop-key.groups.places.items (lists_of c.loop-key.groups.parts.items) c.in-Done.number (get_or keys i 0) c.add.new.self.places.items (lists_of c.add.new.self.parts.items) c.in_ok-add.ensures ∙ c.loop-key.invariant.len;
    }

pub returns : goal.returns
returns c =
    let all = take_all c.loop-key.key-index c.args.keys.now (omega arith) in
    subst (λ x. Grouped (λ v. number_of (mark_of c.args.marks.now v)) x c.loop-key.groups.places.items (lists_of c.loop-key.groups.parts.items)) all c.loop-key.invariant.grouped

use Rattle.std.proofs.Common.{◌∙◌, ◌++◌, ◌∷◌, [], ap, sym}
use Rattle.field_asm.specs.Sources.{SoFar, Labels, label_at}
use Rattle.field_asm.specs.Views.{labels_view}
use Rattle.field_asm.proofs.SourceLemmas.{label_added, where_ok}
use Rattle.field_asm.proofs.so_far.SoFar.add_new_label.Goals as goal

pub returns : goal.returns
returns c =
    let added = where_ok c.insert.result c.insert.ensures.entries (sym c.is_err.ensures.value ∙ c.if-is_err.false) in
    let none = ap (λ (s : SoFar). label_at s.labels c.args.text.now) c.self.view_is ∙ c.requires in
    ap (λ (ls : Labels). record { next = c.self.inside.next; words = c.self.inside.words; labels = ls }) (ap labels_view added ∙ label_added c.self.inside.labels.entries c.args.text c.args.at none)
    ∙ ap (λ (s : SoFar). record s { labels = s.labels ++ (c.args.text.now, c.args.at) ∷ [] }) c.self.view_is

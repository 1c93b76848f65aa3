use Rattle.std.proofs.Common.{◌∙◌, ◌==◌, ◌+◌, ℕ, None, Some, sym, ap, ◌∷◌, List, take}
use Rattle.std.specs.List.{slice_split}
use Rattle.std.proofs.lemmas.List.{take_rest}
use Rattle.text_lines.specs.Parts.{parts_of}
use Rattle.text_lines.proofs.Cuts.{parts_at}
use Rattle.text_lines.proofs.cutting.cut.Goals as goal

pub returns-in_err-place-clause-none : goal.returns-in_err-place-clause-none
unfolding parts_of
returns-in_err-place-clause-none c = rw c.from_residual.ensures (parts_at (λ (b : ℕ). b == c.args.byte) c.args.text.now 0 None (sym c.in_err-place.was ∙ c.place_of.ensures))

pub returns-clause-parts : goal.returns-clause-parts
unfolding parts_of
returns-clause-parts c =
    let place = c.in_ok-place.place in
    (parts_at (λ (b : ℕ). b == c.args.byte) c.args.text.now 0 (Some place) (sym c.in_ok-place.was ∙ c.place_of.ensures)).1
    ∙ ap (λ (rest : List ℕ). take place c.args.text.now ∷ slice_split (λ (b : ℕ). b == c.args.byte) rest) (sym (take_rest c.args.text.now (place + 1)))

use Rattle.std.proofs.Common.{◌∙◌, ℕ, ◌*◌, ◌≤◌, List, length, sym, ap, subst}
use Rattle.std.proofs.lemmas.Result.{IfOk-weaker}
use Rattle.disasm_view.specs.Listings.{listing, MOST_LINE}
use Rattle.field_asm.specs.Sources.{IsSource}
use Rattle.disasm_view.proofs.Assembled.{listing_is_source}
use Rattle.disasm_view.proofs.Sizes.{listing_size}
use Rattle.disasm_view.proofs.lines.listing.Goals as goal

pub returns-clause-source : goal.returns-clause-source
returns-clause-source c =
    IfOk-weaker c.lines_of.result _ _
    (λ t text. subst (λ (bytes : List ℕ). IsSource bytes c.args.image.now) (sym (text ∙ ap listing c.words.ensures.words)) (listing_is_source c.args.image.now c.words.ensures.image))
    c.lines_of.ensures

pub returns-clause-size : goal.returns-clause-size
returns-clause-size c =
    IfOk-weaker c.lines_of.result _ _
    (λ t text. subst (λ (bytes : List ℕ). length bytes ≤ MOST_LINE * length c.args.image.now) (sym (text ∙ ap listing c.words.ensures.words)) (listing_size c.args.image.now c.words.ensures.image).0)
    c.lines_of.ensures

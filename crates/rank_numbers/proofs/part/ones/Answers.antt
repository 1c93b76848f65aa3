-- One more form is 1.
use Rattle.std.proofs.Common.{◌≡◌, ℕ, ◌<◌, length, get_or, refl, ◌∙◌, arith}
use Rattle.std.proofs.lemmas.List.{length-set}
use Rattle.rank_numbers.specs.Forms.{Forms}
use Rattle.rank_numbers.specs.Rows.{form_of}
use Rattle.rank_numbers.proofs.Raising.{others_before, raise_more, raise_others, others_stay, all_raised}
use Rattle.rank_numbers.proofs.part.ones.Goals as goal

pub loop-key-preserved : goal.loop-key-preserved
loop-key-preserved g c =
    let Form : Type 0 = g.row.R-Form.Denot in
    let o : Forms g.row.R-Form.Denot = g.R.Ranks.forms c.args.ranks.now in
    let i : ℕ = c.loop-key.key-index in
    let key : ℕ = get_or c.args.part.now c.loop-key.key-index 0 in
    let apart = others_before c.args.part.now c.loop-key.key-index c.requires.ascend (omega arith) in
    let lk : key < length c.loop-key.forms = omega (arith, c.requires.keys c.loop-key.key-index 0 (omega arith), c.loop-key.invariant.len) in
    let one : g.row.R-Form.Denot → g.row.R-Form.Denot = λ f. (g.R.Ranks.forms c.args.ranks.now).one in
    record {
      ones = raise_more Form o c.args.forms.now c.loop-key.forms c.args.part.now i key c.one.result one lk refl apart c.one.ensures c.loop-key.invariant.ones;
      others = raise_others Form o c.args.forms.now c.loop-key.forms c.args.part.now i key c.one.result one lk refl apart c.one.ensures c.loop-key.invariant.others;
      len = length-set c.loop-key.forms key c.one.result ∙ c.loop-key.invariant.len;
    }

pub returns-clause-ones : goal.returns-clause-ones
returns-clause-ones g c =
    let o : Forms g.row.R-Form.Denot = g.R.Ranks.forms c.args.ranks.now in
    all_raised (λ k. form_of o c.loop-key.forms k ≡ o.one) c.args.part.now (λ k lk. c.loop-key.invariant.ones k (omega arith))

pub returns-clause-others : goal.returns-clause-others
returns-clause-others g c = others_stay _ (g.R.Ranks.forms c.args.ranks.now) c.args.part.now c.args.forms.now c.loop-key.forms c.loop-key.key-index (omega arith) c.loop-key.invariant.others

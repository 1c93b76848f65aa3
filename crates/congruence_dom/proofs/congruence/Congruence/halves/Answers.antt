use Rattle.std.proofs.Common.{arith, ◌≡◌, ◌∙◌, ap}
use Rattle.std.proofs.lemmas.Int.{ints}
use Rattle.viper_word.specs.Signed.{halved}
use Rattle.viper_word.proofs.SignedLemmas.{halved_twice}
use Rattle.congruence_dom.proofs.congruence.Congruence.halves.Goals as goal

half : (c : goal.After-half) → c.half.result ≡ halved c.args.self.now.residue
half c = let a = c.args.self.now.form in c.half.ensures ∙ ap halved (omega (arith, ints))

pub make-requires-clause-z_low : goal.make-requires-clause-z_low
make-requires-clause-z_low c =
    let a = c.args.self.now.form in
    let h = half c in
    let t0 = (halved_twice c.args.self.now.residue).low in
    let t1 = (halved_twice c.args.self.now.residue).high in
    omega (arith, ints)

pub make-requires-clause-z_high : goal.make-requires-clause-z_high
make-requires-clause-z_high c =
    let a = c.args.self.now.form in
    let h = half c in
    let t0 = (halved_twice c.args.self.now.residue).low in
    let t1 = (halved_twice c.args.self.now.residue).high in
    omega (arith, ints)

use Rattle.std.proofs.Common.{◌≡◌, ◌∙◌, ap, arith, List, ℕ, get_or, ◌∷◌, [], refl, to_z, of_z, w64}
use Rattle.std.specs.Int.{w32, to_be_bytes, cast_unsigned}
use Rattle.std.proofs.lemmas.Int.{ints}
use Rattle.val_dom.specs.declared.val.Val.{Val}
use Rattle.cert_format.specs.Values.{word_bytes, value_bytes, val_spelled}
use Rattle.cert_format.proofs.spelled_val.ValSpelled.spell.Goals as goal

spelled_is : (l h m r : List ℕ) (v : Val) → l ≡ to_be_bytes w32 (cast_unsigned w32 v.pair.left.lo) → h ≡ to_be_bytes w32 (cast_unsigned w32 v.pair.left.hi) → m ≡ to_be_bytes w32 (cast_unsigned w32 v.pair.right.modulus) → r ≡ to_be_bytes w32 (cast_unsigned w32 v.pair.right.residue)
    → get_or l 0 0 ∷ get_or l 1 0 ∷ get_or l 2 0 ∷ get_or l 3 0 ∷ get_or h 0 0 ∷ get_or h 1 0 ∷ get_or h 2 0 ∷ get_or h 3 0 ∷ get_or m 0 0 ∷ get_or m 1 0 ∷ get_or m 2 0 ∷ get_or m 3 0 ∷ get_or r 0 0 ∷ get_or r 1 0 ∷ get_or r 2 0 ∷ get_or r 3 0 ∷ 0 ∷ 0 ∷ 0 ∷ 0 ∷ 0 ∷ 0 ∷ 0 ∷ 0 ∷ [] ≡ val_spelled v
unfolding val_spelled value_bytes word_bytes
spelled_is l h m r v a b c d = rw (a, b, c, d) refl

pub returns : goal.returns
returns c =
    let v = c.args.self.now in
    let e = v.pair.left.ends in
    let e1 = e.low in let e2 = e.ordered in let e3 = e.high in
    let f = v.pair.right.form in
    let f1 = f.not_negative in let f2 = f.fits in let f3 = f.low in let f4 = f.high in
    let z1 : to_z w64 (of_z w64 v.pair.left.lo) ≡ v.pair.left.lo = omega (arith, ints) in
    let z2 : to_z w64 (of_z w64 v.pair.left.hi) ≡ v.pair.left.hi = omega (arith, ints) in
    let z3 : to_z w64 (of_z w64 v.pair.right.modulus) ≡ v.pair.right.modulus = omega (arith, ints) in
    let z4 : to_z w64 (of_z w64 v.pair.right.residue) ≡ v.pair.right.residue = omega (arith, ints) in
    spelled_is c.to_be_bytes-l.result c.to_be_bytes-h.result c.to_be_bytes-m.result c.to_be_bytes-r.result v
    (c.to_be_bytes-l.ensures ∙ ap (to_be_bytes w32) (c.word_of.ensures ∙ ap (cast_unsigned w32) z1))
    (c.to_be_bytes-h.ensures ∙ ap (to_be_bytes w32) (c.word_of-2.ensures ∙ ap (cast_unsigned w32) z2))
    (c.to_be_bytes-m.ensures ∙ ap (to_be_bytes w32) (c.word_of-3.ensures ∙ ap (cast_unsigned w32) z3))
    (c.to_be_bytes-r.ensures ∙ ap (to_be_bytes w32) (c.word_of-4.ensures ∙ ap (cast_unsigned w32) z4))

-- Values with equal bytes are equal.
use Rattle.std.proofs.Common.{◌≡◌, ℕ, List, length, refl, sym, ap, ◌∙◌}
use Rattle.std.specs.Prelude.{replicate}
use Rattle.val_dom.specs.declared.val.Val.{Val}
use Rattle.cert_format.specs.Values.{word_bytes, value_bytes, val_spelled}
use Rattle.cert_format.specs.ReadValues.{value_at}
use Rattle.cert_format.specs.evidence.Numbers.{ok_is}
use Rattle.cert_format.specs.evidence.ValueLaws.{value_again}

pub val_size : (v : Val) → length (val_spelled v) ≡ 24
unfolding val_spelled value_bytes word_bytes
val_size v = refl

pub val_exact : (v w : Val) → val_spelled v ≡ val_spelled w → v ≡ w
unfolding val_spelled
val_exact v w e =
    let zeros = replicate 8 0 in
    ap (λ (p : Val × List ℕ). p.0) (ok_is (v, zeros) (w, zeros) (sym (value_again v zeros) ∙ ap value_at e ∙ value_again w zeros))

-- The bytes of a value in normal form. Numbers are big-endian.
use Rattle.std.specs.Prelude.{ℕ, ℤ, List, ◌++◌, replicate}
use Rattle.std.specs.Int.{w32, w64, to_be_bytes, cast_unsigned}
use Rattle.val_dom.specs.declared.val.Val.{Val}

unfoldable pub word_bytes : ℕ → List ℕ
word_bytes n = to_be_bytes w32 n

unfoldable pub long_bytes : ℕ → List ℕ
long_bytes n = to_be_bytes w64 n

-- a signed number as its two's complement
abbrev pub signed_bytes : ℤ → List ℕ
signed_bytes z = word_bytes (cast_unsigned w32 z)

abbrev pub signed_long_bytes : ℤ → List ℕ
signed_long_bytes z = long_bytes (cast_unsigned w64 z)

-- both ends, the modulus and the residue
unfoldable pub value_bytes : Val → List ℕ
value_bytes v = signed_bytes v.pair.left.lo ++ (signed_bytes v.pair.left.hi
    ++ (signed_bytes v.pair.right.modulus ++ signed_bytes v.pair.right.residue))

-- the same, followed by zeros
unfoldable pub val_spelled : Val → List ℕ
val_spelled v = value_bytes v ++ replicate 8 0

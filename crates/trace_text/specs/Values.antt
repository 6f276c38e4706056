-- Values as printed words.
use Rattle.std.specs.Prelude.{ℕ, List, [], ◌∷◌, codes}
use Rattle.hex.specs.Hex.{encode_lower}

-- a value in lower-case hexadecimal digits, or a hyphen where it is empty
abbrev pub value_word : List ℕ → List ℕ
value_word [] = codes "-"
value_word (b ∷ bytes) = encode_lower (b ∷ bytes)

-- Digits of bytes behind a text.
use Rattle.std.specs.Prelude.{◌≡◌, ℕ, List, ◌++◌}
use Rattle.hex.specs.Hex.{encode_lower}

-- the text goes on with the digits of some bytes
abbrev pub HasDigitsOfSome : List ℕ → List ℕ → Type 0
HasDigitsOfSome old new = (bytes : List ℕ) × (new ≡ old ++ encode_lower bytes)

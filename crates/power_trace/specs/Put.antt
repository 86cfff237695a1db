-- Bytes put behind a line that holds 256.
use Rattle.std.specs.Prelude.{◌≡◌, ℕ, List, ◌++◌, take}

-- these bytes were put behind the old ones, as far as 256 bytes go
unfoldable pub IsPut : (old new text : List ℕ) → Type 0
IsPut old new text = new ≡ take 256 (old ++ text)

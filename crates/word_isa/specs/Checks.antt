-- The tests of an image's version, counts, its code words, its stride and its kept words (docs/MACHINE.md, "The image's tests").
use Rattle.std.specs.Prelude.{ℕ, ◌+◌, Bool, true, ◌&&◌, ◌||◌, ◌==◌, nat_le, nat_lt, List, Option, Some, None, if◌then◌else◌}
use Rattle.std.specs.List.{position}
use Rattle.std.specs.Option.{is_none}
use Rattle.word_isa.specs.Decoding.{decoded}
use Rattle.word_isa.specs.declared.parts.Scheme.{Scheme}
use Rattle.word_isa.specs.declared.parts.Scheme.TheVariants.{Undo, Bank}

-- an image has version 1 or 2
abbrev pub version_passes : ℕ → Bool
version_passes version = (version == 1) || (version == 2)

-- the first count past its limit, in the order of the file
abbrev pub first_too_large : (code fram symbols peripherals marks : ℕ) → Option ℕ
first_too_large code fram symbols peripherals marks =
    if nat_lt 4194304 code then Some code else
    if nat_lt 65536 fram then Some fram else
    if nat_lt 256 symbols then Some symbols else
    if nat_lt 256 peripherals then Some peripherals else
    if nat_lt 2097152 marks then Some marks else None

-- the place of the first word that no row has
unfoldable pub first_bad_word : List ℕ → Option ℕ
first_bad_word code = position (λ word. is_none (decoded word)) code

-- scheme 0 has no stride
abbrev pub stride_passes : Scheme → ℕ → Bool
stride_passes Undo stride = stride == 0
stride_passes Bank stride = true

-- the stride is the scheme's, and the kept words end with the FRAM at the latest
abbrev pub banks_pass : Scheme → (stride keep keep_words : ℕ) → Bool
banks_pass scheme stride keep keep_words = stride_passes scheme stride && nat_le (keep + keep_words) 65536

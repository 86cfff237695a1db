-- The tests that every image meets, in the order in which reading makes them (docs/MACHINE.md, "The image's tests").
use Rattle.std.specs.Prelude.{◌≡◌, ℕ, Bool, ◌&&◌, List, None, IsTrue, length}
use Rattle.std.specs.Option.{is_none}
use Rattle.ease_base.specs.declared.place.Peripheral.{Peripheral}
use Rattle.word_isa.specs.Checks.{version_passes, first_too_large, first_bad_word, banks_pass}
use Rattle.word_isa.specs.Entries.{span, first_bad_symbol, first_bad_peripheral}
use Rattle.word_isa.specs.Marks.{first_bad_mark}
use Rattle.word_isa.specs.declared.mark.Mark.{Mark}
use Rattle.word_isa.specs.declared.parts.Scheme.{Scheme}
use Rattle.word_isa.specs.declared.parts.Symbol.{Symbol}

-- the version is one of two, no count is past its limit, every word has a row, the banks and kept words have room, and no entry and no mark is bad
pub record PassesTests (version : ℕ) (scheme : Scheme) (stride keep keep_words : ℕ) (code fram : List ℕ) (symbols : List Symbol) (peripherals : List Peripheral) (marks : List Mark) : Type 0 where
  pub versions : IsTrue (version_passes version)
  pub counts : first_too_large (length code) (length fram) (length symbols) (length peripherals) (length marks) ≡ None
  pub words : first_bad_word code ≡ None
  pub banks : IsTrue (banks_pass scheme stride keep keep_words)
  pub symbols_pass : first_bad_symbol (span keep keep_words) stride symbols ≡ None
  pub peripherals_pass : first_bad_peripheral symbols peripherals ≡ None
  pub marks_pass : first_bad_mark version code marks ≡ None

-- the tests of code, words of FRAM and marks, in version 1 and without symbols and peripherals
abbrev pub unnamed_passes : (code fram : List ℕ) → List Mark → Bool
unnamed_passes code fram marks =
    is_none (first_too_large (length code) (length fram) 0 0 (length marks)) && is_none (first_bad_word code) && is_none (first_bad_mark 1 code marks)

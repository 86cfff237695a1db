-- What is wrong with bytes that are no image: the first test that holds (docs/FORMATS.md, "The image's refusals").
use Rattle.std.specs.Prelude.{ℕ, ◌+◌, Bool, true, false, List, [], ◌∷◌, Option, Some, None, length, slice_get, nat_lt, bytes_eq, if◌then◌else◌}
use Rattle.std.specs.Option.{option_map}
use Rattle.ease_base.specs.declared.place.Peripheral.{Peripheral}
use Rattle.task_ast.specs.declared.tree.Kind.{Kind}
use Rattle.word_isa.specs.declared.mark.Mark.{Mark}
use Rattle.word_isa.specs.declared.mark.MarkKind.{MarkKind}
use Rattle.word_isa.specs.declared.parts.Scheme.{Scheme}
use Rattle.word_isa.specs.declared.parts.Symbol.{Symbol}
use Rattle.word_isa.specs.Checks.{version_passes, first_too_large, first_bad_word, banks_pass}
use Rattle.word_isa.specs.Codes.{scheme_of, kind_of, mark_kind_of}
use Rattle.word_isa.specs.Entries.{span, first_bad_symbol, first_bad_peripheral}
use Rattle.word_isa.specs.Marks.{first_bad_mark}
use Rattle.image_file.specs.declared.error.ImageError.{ImageError}
use Rattle.image_file.specs.declared.error.ImageError.TheVariants.{BadMagic, BadVersion, BadScheme, Short, TooLarge, BadWord, BadSymbol, BadMark, Trailing}
use Rattle.image_file.specs.declared.raw.RawSymbol.{RawSymbol}
use Rattle.image_file.specs.declared.raw.RawMark.{RawMark}
use Rattle.image_file.specs.declared.raw.RawImage.{RawImage}
use Rattle.image_file.specs.Fields.{taken_at}
use Rattle.image_file.specs.Layout.{raw_image}

-- the four bytes in front: `EASE`
abbrev pub magic : List ℕ
magic = 69 ∷ 65 ∷ 83 ∷ 69 ∷ []

-- the first of two faults
abbrev pub or_else : {A : Type 0} → Option A → Option A → Option A
or_else None later = later
or_else (Some fault) later = Some fault

-- the version, if it is there
abbrev pub version_fault : Option ℕ → Option ImageError
version_fault None = None
version_fault (Some n) = if version_passes n then None else Some (BadVersion n)

-- the scheme, if it is there
abbrev pub known_scheme : ℕ → Option Scheme → Option ImageError
known_scheme n None = Some (BadScheme n)
known_scheme n (Some scheme) = None

abbrev pub scheme_fault : Option ℕ → Option ImageError
scheme_fault None = None
scheme_fault (Some n) = known_scheme n (scheme_of n)

-- the symbols in front of the first whose kind is none
abbrev pub with_kind : RawSymbol → Option Kind → List Symbol → List Symbol
with_kind s None rest = []
with_kind s (Some kind) rest = record { name = s.name; kind = kind; base = s.base; length = s.length } ∷ rest

unfoldable pub typed_symbols : List RawSymbol → List Symbol
typed_symbols [] = []
typed_symbols (s ∷ rest) = with_kind s (kind_of s.kind) (typed_symbols rest)

-- the marks in front of the first whose kind is none
abbrev pub with_mark_kind : RawMark → Option MarkKind → List Mark → List Mark
with_mark_kind m None rest = []
with_mark_kind m (Some kind) rest = record { at = m.at; kind = kind; site = m.site; task = m.task } ∷ rest

unfoldable pub typed_marks : List RawMark → List Mark
typed_marks [] = []
typed_marks (m ∷ rest) = with_mark_kind m (mark_kind_of m.kind) (typed_marks rest)

-- where fewer than so many have a kind, the first without one is bad
abbrev pub untyped : (typed all : ℕ) → Option ℕ
untyped typed all = if nat_lt typed all then Some typed else None

-- the stride or the kept words: entry 0
abbrev pub banks_fault : Option Scheme → (stride keep keep_words : ℕ) → Option ImageError
banks_fault None stride keep keep_words = None
banks_fault (Some scheme) stride keep keep_words = if banks_pass scheme stride keep keep_words then None else Some (BadSymbol 0)

-- the first bad symbol, counted from 1
abbrev pub symbol_fault : RawImage → Option ImageError
symbol_fault i =
    let typed = typed_symbols i.symbols in
    option_map (λ at. BadSymbol (at + 1))
    (or_else (first_bad_symbol (span i.head.keep i.head.keep_words) i.head.stride typed) (untyped (length typed) (length i.symbols)))

-- the first bad peripheral, counted on from the symbols
abbrev pub bad_peripheral : List Symbol → List Peripheral → Option ImageError
bad_peripheral symbols peripherals = option_map (λ at. BadSymbol (length symbols + at + 1)) (first_bad_peripheral symbols peripherals)

abbrev pub peripheral_fault : RawImage → Option ImageError
peripheral_fault i = bad_peripheral (typed_symbols i.symbols) i.peripherals

-- the first bad mark, counted from 1
abbrev pub mark_fault : RawImage → Option ImageError
mark_fault i =
    let typed = typed_marks i.marks in
    option_map (λ at. BadMark (at + 1)) (or_else (first_bad_mark i.head.version i.code typed) (untyped (length typed) (length i.marks)))

-- the first count past its limit
abbrev pub count_fault : RawImage → Option ImageError
count_fault i = option_map TooLarge (first_too_large (length i.code) (length i.fram) (length i.symbols) (length i.peripherals) (length i.marks))

-- the first word of the code that is no instruction
abbrev pub word_fault : List ℕ → Option ImageError
word_fault code = option_map BadWord (first_bad_word code)

-- what is wrong with fields, the first in order
unfoldable pub fields_fault : RawImage → Option ImageError
fields_fault i =
    or_else (version_fault (Some i.head.version)) (or_else (scheme_fault (Some i.head.scheme)) (
    or_else (count_fault i) (or_else (word_fault i.code) (
    or_else (banks_fault (scheme_of i.head.scheme) i.head.stride i.head.keep i.head.keep_words) (
    or_else (symbol_fault i) (or_else (peripheral_fault i) (mark_fault i)))))))

-- bytes behind the last field
abbrev pub rest_fault : List ℕ → Option ImageError
rest_fault [] = None
rest_fault (byte ∷ bytes) = Some Trailing

-- the fields, if they are all there, and what stands behind them
abbrev pub layout_fault : Option (RawImage × List ℕ) → Option ImageError
layout_fault None = Some Short
layout_fault (Some p) = or_else (fields_fault p.0) (rest_fault p.1)

-- what is wrong with what stands behind the magic
abbrev pub front_fault : List ℕ → Option ImageError
front_fault fields =
    or_else (version_fault (slice_get fields 0)) (or_else (scheme_fault (slice_get fields 1)) (layout_fault (raw_image.read fields)))

-- what stands behind the magic, if the bytes begin with it
abbrev pub behind_if : Bool → List ℕ → Option (List ℕ)
behind_if true fields = Some fields
behind_if false fields = None

abbrev pub behind : Option (List ℕ × List ℕ) → Option (List ℕ)
behind None = None
behind (Some p) = behind_if (bytes_eq p.0 magic) p.1

unfoldable pub behind_magic : List ℕ → Option (List ℕ)
behind_magic bytes = behind (taken_at 4 bytes)

-- what is wrong with bytes, if they are no image's
abbrev pub magic_fault : Option (List ℕ) → Option ImageError
magic_fault None = Some BadMagic
magic_fault (Some fields) = front_fault fields

unfoldable pub image_fault : List ℕ → Option ImageError
image_fault bytes = magic_fault (behind_magic bytes)

-- The image's format, field behind field (docs/FORMATS.md, "The image"): its spelling and its reading follow from it.
use Rattle.std.specs.Prelude.{ℕ, List, ◌==◌, if◌then◌else◌}
use Rattle.word_isa.specs.declared.mark.Mark.{Mark}
use Rattle.word_isa.specs.declared.parts.Symbol.{Symbol}
use Rattle.word_isa.specs.Codes.{kind_code, mark_code}
use Rattle.ease_base.specs.declared.place.Peripheral.{Peripheral}
use Rattle.image_file.specs.declared.raw.Head.{Head}
use Rattle.image_file.specs.declared.raw.RawSymbol.{RawSymbol}
use Rattle.image_file.specs.declared.raw.RawMark.{RawMark}
use Rattle.image_file.specs.declared.raw.RawImage.{RawImage}
use Rattle.image_file.specs.Fields.{Format, number, text, listed, before, both, absent, shaped}

-- version and scheme; the state word's address, the stride, the kept words' address and their number
unfoldable pub head : Format Head
head = shaped
    (λ h. record { version = h.0; scheme = h.1.0; state = h.1.1.0; stride = h.1.1.1.0; keep = h.1.1.1.1.0; keep_words = h.1.1.1.1.1 })
    (λ h. (h.version, (h.scheme, (h.state, (h.stride, (h.keep, h.keep_words))))))
    (both (number 1) (both (number 1) (both (number 2) (both (number 2) (both (number 2) (number 2))))))

-- a symbol: name, kind, base, length
unfoldable pub symbol : Format RawSymbol
symbol = shaped
    (λ s. record { name = s.0; kind = s.1.0; base = s.1.1.0; length = s.1.1.1 })
    (λ s. (s.name, (s.kind, (s.base, s.length))))
    (both text (both (number 1) (both (number 4) (number 4))))

-- a peripheral: name, number
unfoldable pub peripheral : Format Peripheral
peripheral = shaped (λ p. record { name = p.0; number = p.1 }) (λ p. (p.name, p.number)) (both text (number 1))

-- a mark's task: only version 2 has it
abbrev pub task : (version : ℕ) → Format ℕ
task version = if version == 2 then number 1 else absent 0

-- a mark: code address, kind, site, task
unfoldable pub mark : (version : ℕ) → Format RawMark
mark version = shaped
    (λ m. record { at = m.0; kind = m.1.0; site = m.1.1.0; task = m.1.1.1 })
    (λ m. (m.at, (m.kind, (m.site, m.task))))
    (both (number 4) (both (number 1) (both (number 1) (task version))))

-- the lists: code, FRAM from address 0, symbols, peripherals, marks
abbrev pub Lists : Type 0
Lists = List ℕ × (List ℕ × (List RawSymbol × (List Peripheral × List RawMark)))

abbrev pub lists : (version : ℕ) → Format Lists
lists version =
    both (listed 4 (number 4)) (both (listed 4 (number 4)) (both (listed 2 symbol) (both (listed 2 peripheral) (listed 4 (mark version)))))

-- all fields behind the magic
unfoldable pub raw_image : Format RawImage
raw_image = shaped
    (λ i. record { head = i.0; code = i.1.0; fram = i.1.1.0; symbols = i.1.1.1.0; peripherals = i.1.1.1.1.0; marks = i.1.1.1.1.1 })
    (λ i. (i.head, (i.code, (i.fram, (i.symbols, (i.peripherals, i.marks))))))
    (before head (λ h. lists h.version))

-- a symbol and a mark as they stand in a file
abbrev pub raw_symbol : Symbol → RawSymbol
raw_symbol s = record { name = s.name; kind = kind_code s.kind; base = s.base; length = s.length }

abbrev pub raw_mark : Mark → RawMark
raw_mark m = record { at = m.at; kind = mark_code m.kind; site = m.site; task = m.task }

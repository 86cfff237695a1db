-- The bytes of an image (docs/FORMATS.md, "The image").
use Rattle.std.specs.Prelude.{◌≡◌, ℕ, ◌<◌, ◌^◌, List, [], ◌++◌, Some, length, map}
use Rattle.std.specs.List.{AllByRecursion}
use Rattle.ease_base.specs.declared.place.Peripheral.{Peripheral}
use Rattle.word_isa.specs.declared.mark.Mark.{Mark}
use Rattle.word_isa.specs.declared.parts.Symbol.{Symbol}
use Rattle.word_isa.specs.declared.image.Image.{Image}
use Rattle.word_isa.specs.Codes.{scheme_code}
use Rattle.image_file.specs.declared.raw.Head.{Head}
use Rattle.image_file.specs.declared.raw.RawImage.{RawImage}
use Rattle.image_file.specs.Faults.{magic, behind_magic}
use Rattle.image_file.specs.Layout.{raw_image, raw_symbol, raw_mark}

-- the fields of an image in front of its lists
abbrev pub raw_head : Image → Head
raw_head i = record { version = i.version; scheme = scheme_code i.scheme; state = i.state; stride = i.stride; keep = i.keep; keep_words = i.keep_words }

-- an image's fields as they stand in a file
abbrev pub raw_of : Image → RawImage
raw_of i = record {
  head = raw_head i;
  code = i.code;
  fram = i.fram;
  symbols = map raw_symbol i.symbols;
  peripherals = i.peripherals;
  marks = map raw_mark i.marks;
}

-- an image's bytes
abbrev pub image_bytes : Image → List ℕ
image_bytes i = magic ++ raw_image.spell (raw_of i)

-- the bytes are the magic and the fields of an image, and nothing else
pub record IsImageAt (bytes : List ℕ) (i : Image) : Type 0 where
  pub fields : List ℕ
  pub behind : behind_magic bytes ≡ Some fields
  pub read : raw_image.read fields ≡ Some (raw_of i, [])

-- a symbol's, a peripheral's and a mark's numbers fit their fields
pub record SymbolFits (s : Symbol) : Type 0 where
  pub name : length s.name < 2 ^ 8
  pub base : s.base < 2 ^ 32
  pub size : s.length < 2 ^ 32

pub record PeripheralFits (p : Peripheral) : Type 0 where
  pub name : length p.name < 2 ^ 8
  pub number : p.number < 2 ^ 8

pub record MarkFits (m : Mark) : Type 0 where
  pub at : m.at < 2 ^ 32
  pub site : m.site < 2 ^ 8
  pub task : m.task < 2 ^ 8

-- the numbers of an image fit their fields
pub record HasFields (i : Image) : Type 0 where
  pub version : i.version < 2 ^ 8
  pub state : i.state < 2 ^ 16
  pub stride : i.stride < 2 ^ 16
  pub keep : i.keep < 2 ^ 16
  pub keep_words : i.keep_words < 2 ^ 16
  pub code : AllByRecursion (λ w. w < 2 ^ 32) i.code
  pub fram : AllByRecursion (λ w. w < 2 ^ 32) i.fram
  pub symbols : AllByRecursion SymbolFits i.symbols
  pub peripherals : AllByRecursion PeripheralFits i.peripherals
  pub marks : AllByRecursion MarkFits i.marks

-- The image's format is lawful: each image comes back from its bytes.
use Rattle.std.proofs.Common.{◌≡◌, ℕ, ◌^◌, ◌<◌, Bool, true, false, ◌==◌, if◌then◌else◌, List, length, refl}
use Rattle.std.specs.List.{AllByRecursion}
use Rattle.ease_base.specs.declared.place.Peripheral.{Peripheral}
use Rattle.image_file.specs.declared.raw.Head.{Head}
use Rattle.image_file.specs.declared.raw.RawSymbol.{RawSymbol}
use Rattle.image_file.specs.declared.raw.RawMark.{RawMark}
use Rattle.image_file.specs.declared.raw.RawImage.{RawImage}
use Rattle.image_file.specs.Fields.{number, absent}
use Rattle.image_file.specs.Layout.{head, symbol, peripheral, task, mark, Lists, lists, raw_image}
use Rattle.image_file.proofs.FormatLaws.{IsLawful, number_lawful, text_lawful, before_lawful, absent_lawful, shaped_lawful, listed_lawful}

-- a task that fits: version 1 has none
abbrev pub TaskFits : Bool → ℕ → Type 0
TaskFits true t = t < 256 ^ 1
TaskFits false t = 0 ≡ t

task_lawful : (version : ℕ) → IsLawful (task version) (TaskFits (version == 2))
task_lawful version = by (version == 2)
  where
    by : (b : Bool) → IsLawful (if b then number 1 else absent 0) (TaskFits b)
    by true = number_lawful 1
    by false = absent_lawful 0

-- the numbers of fields, one pair inside another
abbrev pub HeadFits : ℕ × (ℕ × (ℕ × (ℕ × (ℕ × ℕ)))) → Type 0
HeadFits h = (h.0 < 256 ^ 1) × ((h.1.0 < 256 ^ 1) × ((h.1.1.0 < 256 ^ 2) × ((h.1.1.1.0 < 256 ^ 2) × ((h.1.1.1.1.0 < 256 ^ 2) × (h.1.1.1.1.1 < 256 ^ 2)))))

abbrev pub RawSymbolFits : List ℕ × (ℕ × (ℕ × ℕ)) → Type 0
RawSymbolFits s = (length s.0 < 256) × ((s.1.0 < 256 ^ 1) × ((s.1.1.0 < 256 ^ 4) × (s.1.1.1 < 256 ^ 4)))

abbrev pub RawPeripheralFits : List ℕ × ℕ → Type 0
RawPeripheralFits p = (length p.0 < 256) × (p.1 < 256 ^ 1)

abbrev pub RawMarkFits : (version : ℕ) → ℕ × (ℕ × (ℕ × ℕ)) → Type 0
RawMarkFits version m = (m.0 < 256 ^ 4) × ((m.1.0 < 256 ^ 1) × ((m.1.1.0 < 256 ^ 1) × TaskFits (version == 2) m.1.1.1))

abbrev of_symbol : RawSymbol → List ℕ × (ℕ × (ℕ × ℕ))
of_symbol s = (s.name, (s.kind, (s.base, s.length)))

abbrev of_mark : RawMark → ℕ × (ℕ × (ℕ × ℕ))
of_mark m = (m.at, (m.kind, (m.site, m.task)))

abbrev of_peripheral : Peripheral → List ℕ × ℕ
of_peripheral p = (p.name, p.number)

abbrev of_head : Head → ℕ × (ℕ × (ℕ × (ℕ × (ℕ × ℕ))))
of_head h = (h.version, (h.scheme, (h.state, (h.stride, (h.keep, h.keep_words)))))

pub head_lawful : IsLawful head (λ h. HeadFits (of_head h))
unfolding head
head_lawful = shaped_lawful _ of_head (λ x. refl) (λ y. refl)
    (before_lawful (number_lawful 1) (λ a. before_lawful (number_lawful 1) (λ b. before_lawful (number_lawful 2) (λ c. before_lawful (number_lawful 2) (λ d. before_lawful (number_lawful 2) (λ e. number_lawful 2))))))

pub symbol_lawful : IsLawful symbol (λ s. RawSymbolFits (of_symbol s))
unfolding symbol
symbol_lawful = shaped_lawful _ of_symbol (λ x. refl) (λ y. refl) (before_lawful text_lawful (λ a. before_lawful (number_lawful 1) (λ b. before_lawful (number_lawful 4) (λ c. number_lawful 4))))

pub peripheral_lawful : IsLawful peripheral (λ p. RawPeripheralFits (of_peripheral p))
unfolding peripheral
peripheral_lawful = shaped_lawful _ of_peripheral (λ x. refl) (λ y. refl) (before_lawful text_lawful (λ a. number_lawful 1))

pub mark_lawful : (version : ℕ) → IsLawful (mark version) (λ m. RawMarkFits version (of_mark m))
unfolding mark
mark_lawful version = shaped_lawful _ of_mark (λ x. refl) (λ y. refl) (before_lawful (number_lawful 4) (λ a. before_lawful (number_lawful 1) (λ b. before_lawful (number_lawful 1) (λ c. task_lawful version))))

-- lists that fit
abbrev pub ListFits : {A : Type 0} → ℕ → (A → Type 0) → List A → Type 0
ListFits end Fits xs = (length xs < end) × AllByRecursion Fits xs

abbrev pub ListsFit : (version : ℕ) → Lists → Type 0
ListsFit version l =
    ListFits (256 ^ 4) (λ w. w < 256 ^ 4) l.0 × (ListFits (256 ^ 4) (λ w. w < 256 ^ 4) l.1.0 × (ListFits (256 ^ 2) (λ s. RawSymbolFits (of_symbol s)) l.1.1.0
    × (ListFits (256 ^ 2) (λ p. RawPeripheralFits (of_peripheral p)) l.1.1.1.0 × ListFits (256 ^ 4) (λ m. RawMarkFits version (of_mark m)) l.1.1.1.1)))

lists_lawful : (version : ℕ) → IsLawful (lists version) (ListsFit version)
lists_lawful version =
    before_lawful (listed_lawful 4 (number_lawful 4)) (λ a. before_lawful (listed_lawful 4 (number_lawful 4)) (λ b. before_lawful (listed_lawful 2 symbol_lawful)
    (λ c. before_lawful (listed_lawful 2 peripheral_lawful) (λ d. listed_lawful 4 (mark_lawful version)))))

abbrev of_image : RawImage → Head × Lists
of_image i = (i.head, (i.code, (i.fram, (i.symbols, (i.peripherals, i.marks)))))

-- fields that fit
abbrev pub RawFits : RawImage → Type 0
RawFits i = HeadFits (of_head i.head) × ListsFit i.head.version (of_image i).1

pub raw_lawful : IsLawful raw_image RawFits
unfolding raw_image
raw_lawful = shaped_lawful _ of_image (λ x. refl) (λ y. refl) (before_lawful head_lawful (λ h. lists_lawful h.version))

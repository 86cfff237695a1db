-- The tests of an image's symbols and peripherals, each against the entries before it (docs/MACHINE.md, "The image's tests").
use Rattle.std.specs.Prelude.{ℕ, ◌+◌, min, max, Bool, not, ◌&&◌, ◌||◌, ◌==◌, nat_le, nat_lt, List, [], Option, length}
use Rattle.std.specs.List.{list_any}
use Rattle.std.specs.Str.{bytes_eq}
use Rattle.ease_base.specs.declared.place.Peripheral.{Peripheral}
use Rattle.task_ast.specs.declared.tree.Kind.{Kind}
use Rattle.task_ast.specs.declared.tree.Kind.TheVariants.{Nv, Vol}
use Rattle.word_isa.specs.FirstFailing.{first_failing}
use Rattle.word_isa.specs.Names.{is_symbol_name}
use Rattle.word_isa.specs.declared.parts.Symbol.{Symbol}
use Rattle.word_isa.specs.declared.span.Span.{Span}

-- the addresses from base on, length of them
abbrev pub span : (base length : ℕ) → Span
span base length = record { from = base; to = base + length }

-- two ranges share an address
abbrev pub meet : Span → Span → Bool
meet a b = nat_lt (max a.from b.from) (min a.to b.to)

-- the range lies in FRAM, or in RAM
abbrev pub is_home : Kind → Span → Bool
is_home Vol s = nat_le 1048576 s.from && nat_le s.to 1052672
is_home _ s = nat_le s.to 65536

-- by how much a symbol's second range lies above its base: only nonvolatile words have a second bank
abbrev pub shift : Kind → ℕ → ℕ
shift Nv stride = stride
shift _ stride = 0

-- a symbol's range, and that in the second bank
abbrev pub own : Symbol → Span
own s = span s.base s.length

abbrev pub other_bank : ℕ → Symbol → Span
other_bank stride s = span (s.base + shift s.kind stride) s.length

-- a range meets one of a symbol's
abbrev pub overlaps : ℕ → Span → Symbol → Bool
overlaps stride range s = meet range (own s) || meet range (other_bank stride s)

-- a range meets neither the kept words nor a range of an earlier symbol
abbrev pub is_apart : Span → ℕ → List Symbol → Span → Bool
is_apart kept stride earlier range = not (meet range kept) && not (list_any (overlaps stride range) earlier)

-- a name that may stand, and that no earlier entry has
abbrev pub name_passes : List Symbol → List Peripheral → List ℕ → Bool
name_passes symbols peripherals name =
    is_symbol_name name && not (list_any (λ (s : Symbol). bytes_eq s.name name) symbols) && not (list_any (λ (p : Peripheral). bytes_eq p.name name) peripherals)

-- each range lies where its kind's words do, and apart
abbrev pub ranges_pass : Span → ℕ → List Symbol → Symbol → Bool
ranges_pass kept stride earlier s =
    is_home s.kind (own s) && is_home s.kind (other_bank stride s) && is_apart kept stride earlier (own s) && is_apart kept stride earlier (other_bank stride s)

-- a symbol behind these earlier ones is good
unfoldable pub symbol_passes : Span → ℕ → List Symbol → Symbol → Bool
symbol_passes kept stride earlier s = name_passes earlier [] s.name && not (s.length == 0) && ranges_pass kept stride earlier s

-- a peripheral behind these symbols and these earlier ones is good
unfoldable pub peripheral_passes : List Symbol → List Peripheral → Peripheral → Bool
peripheral_passes symbols earlier p = name_passes symbols earlier p.name && not (list_any (λ (q : Peripheral). q.number == p.number) earlier)

-- the first bad symbol, from 0
abbrev pub first_bad_symbol : Span → ℕ → List Symbol → Option ℕ
first_bad_symbol kept stride symbols = first_failing (symbol_passes kept stride) [] symbols

-- the first bad peripheral, from 0
abbrev pub first_bad_peripheral : List Symbol → List Peripheral → Option ℕ
first_bad_peripheral symbols peripherals = first_failing (peripheral_passes symbols) [] peripherals

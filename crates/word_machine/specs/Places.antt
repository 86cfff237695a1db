-- Which place of a program an address is, and its nonvolatile words (docs/MACHINE.md, "The journal").
use Rattle.std.specs.Prelude.{ℕ, zero, suc, ◌+◌, ◌*◌, ◌-◌, ◌%◌, Bool, ◌&&◌, nat_le, nat_lt, List, [], ◌∷◌, ◌++◌, if◌then◌else◌}
use Rattle.devices.specs.Journal.{Place, cell, keep, address}
use Rattle.task_ast.specs.declared.tree.Kind.{Kind}
use Rattle.task_ast.specs.declared.tree.Kind.TheVariants.{Nv, Const, Vol}
use Rattle.word_isa.specs.Entries.{span, own, other_bank}
use Rattle.word_isa.specs.declared.parts.Symbol.{Symbol}
use Rattle.word_isa.specs.declared.span.Span.{Span}

-- the address is one of the range
abbrev pub lies_in : Span → ℕ → Bool
lies_in range at = nat_le range.from at && nat_lt at range.to

-- what an address is that is no symbol's: one of the kept words, or nothing else
abbrev pub kept_or_bare : Span → ℕ → Place
kept_or_bare kept at = if lies_in kept at then keep else address at

-- the place of an address among symbols that are numbered from here on; at the base before the second bank
abbrev pub place_from : (number : ℕ) → List Symbol → (stride : ℕ) → Span → ℕ → Place
place_from number [] stride kept at = kept_or_bare kept at
place_from number (s ∷ symbols) stride kept at =
    if lies_in (own s) at then cell number (at - s.base) else
    if lies_in (other_bank stride s) at then cell number (at - (other_bank stride s).from) else place_from (suc number) symbols stride kept at

-- the place of an address in an image with these parts
abbrev pub place_of : List Symbol → (stride keep keep_words : ℕ) → ℕ → Place
place_of symbols stride keep_at keep_words at = place_from 0 symbols stride (span keep_at keep_words) at

-- the words of a store from an address on
abbrev pub words_from : (n at : ℕ) → (ℕ → ℕ) → List ℕ
words_from zero at store = []
words_from (suc n) at store = store at ∷ words_from n (at + 1) store

-- how far the bank in use lies above the first: the state word's lowest bit says which of the two it is
abbrev pub bank_offset : (state stride : ℕ) → (ℕ → ℕ) → ℕ
bank_offset state stride store = store state % 2 * stride

-- the words of a symbol, where it is nonvolatile
abbrev pub nonvolatile : Kind → (length at : ℕ) → (ℕ → ℕ) → List (List ℕ)
nonvolatile Nv n at store = words_from n at store ∷ []
nonvolatile Const n at store = []
nonvolatile Vol n at store = []

-- the words of all nonvolatile symbols, in the bank in use
abbrev pub nv_words : List Symbol → (offset : ℕ) → (ℕ → ℕ) → List (List ℕ)
nv_words [] offset store = []
nv_words (s ∷ symbols) offset store = nonvolatile s.kind s.length (s.base + offset) store ++ nv_words symbols offset store

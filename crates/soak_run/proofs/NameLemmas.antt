-- The symbol of a name, one symbol after another, and words of addresses.
use Rattle.std.specs.Prelude.{slice_index, ◌-◌, ◌||◌, ◌&&◌, if◌then◌else◌}
use Rattle.std.specs.Option.{unwrap_or}
use Rattle.std.specs.Str.{bytes_eq}
use Rattle.std.proofs.Common.{◌≡◌, ◌∙◌, ℕ, ◌+◌, ◌<◌, ◌≤◌, Bool, true, false, List, length, drop, get_or, Option, Some, None, refl, sym, ap, arith}
use Rattle.std.proofs.lemmas.List.{at_drop_more, at_drop_all}
use Rattle.std.proofs.lemmas.Bool.Decides.{nat_tests}
use Rattle.fram_ram.specs.Memories.{has_word, words, is_fram, is_ram}
use Rattle.soak_run.specs.Ends.{is_nonvolatile, base_of}
use Rattle.word_isa.specs.declared.parts.Symbol.{Symbol}
use Rattle.word_machine.specs.Held.{Held, core_of}

-- how far a search through the symbols has come
pub passed : (symbols : List Symbol) (i : ℕ) (s : Symbol) (name : List ℕ) → i < length symbols → s ≡ get_or symbols i s → (is_nonvolatile s.kind && bytes_eq s.name name) ≡ false
    → base_of name (drop i symbols) ≡ base_of name (drop (i + 1) symbols)
unfolding base_of
passed symbols i s name within at differs = at_drop_more (λ (x : List Symbol). base_of name x) symbols i s within ∙ rw (← at, differs)

pub reached : (symbols : List Symbol) (i : ℕ) (s : Symbol) (name : List ℕ) → i < length symbols → s ≡ get_or symbols i s → (is_nonvolatile s.kind && bytes_eq s.name name) ≡ true
    → base_of name (drop i symbols) ≡ Some s.base
unfolding base_of
reached symbols i s name within at same = at_drop_more (λ (x : List Symbol). base_of name x) symbols i s within ∙ rw (← at, same)

pub passed_all : (symbols : List Symbol) (i : ℕ) (name : List ℕ) → length symbols ≤ i → base_of name (drop i symbols) ≡ None
unfolding base_of
passed_all symbols i name over = at_drop_all (λ (x : List Symbol). base_of name x) symbols i over

-- the word of an address without a memory
no_word : (h : Held) (at : ℕ) → has_word at ≡ false → (core_of h).store at ≡ 0
unfolding core_of words has_word
no_word h at none = by (is_fram at) (is_ram at) none
  where
    by : (a b : Bool) → (a || b) ≡ false → (if a then slice_index h.memories.fram at else if b then slice_index h.memories.ram (at - 1048576) else 0) ≡ 0
    by true b e = cc
    by false true e = cc
    by false false e = refl

beyond : (at : ℕ) → (at < 4294967296 → ⊥) → has_word at ≡ false
unfolding has_word
beyond at far = grind (arith, nat_tests)

pub far_word : (h : Held) (at : ℕ) → (at < 4294967296 → ⊥) → 0 ≡ (core_of h).store at
far_word h at far = sym (no_word h at (beyond at far))

pub near_word : (h : Held) (at a r : ℕ) (o : Option ℕ) → a ≡ at → o ≡ (if has_word a then Some ((core_of h).store a) else None) → r ≡ unwrap_or o 0 → r ≡ (core_of h).store at
near_word h at a r o same is told = by (has_word a) refl ∙ ap (core_of h).store same
  where
    by : (b : Bool) → has_word a ≡ b → r ≡ (core_of h).store a
    by true e = told ∙ ap (λ (x : Option ℕ). unwrap_or x 0) (is ∙ ap (λ (c : Bool). if c then Some ((core_of h).store a) else None) e)
    by false e = told ∙ ap (λ (x : Option ℕ). unwrap_or x 0) (is ∙ ap (λ (c : Bool). if c then Some ((core_of h).store a) else None) e) ∙ sym (no_word h a e)

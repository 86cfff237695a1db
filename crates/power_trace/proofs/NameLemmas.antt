-- The names of an image have at most 32 bytes.
use Rattle.std.specs.Prelude.{◌&&◌}
use Rattle.std.proofs.Common.{◌≡◌, ℕ, ◌≤◌, Bool, true, false, All, List, [], length, None, take, get_or, refl}
use Rattle.std.proofs.lemmas.Bool.{leb-true}
use Rattle.std.proofs.lemmas.Option.{slice_get-get_or}
use Rattle.ease_base.specs.declared.place.Peripheral.{Peripheral}
use Rattle.word_isa.specs.Entries.{symbol_passes, peripheral_passes, first_bad_symbol, first_bad_peripheral, name_passes}
use Rattle.word_isa.specs.ImageLaws.{passes_at}
use Rattle.word_isa.specs.Names.{is_symbol_name}
use Rattle.word_isa.specs.declared.parts.Symbol.{Symbol}
use Rattle.word_isa.specs.declared.span.Span.{Span}

first_true : (a b c : Bool) → (a && b && c) ≡ true → a ≡ true
first_true true b c e = refl
first_true false b c e = e

first_of_two : (a b : Bool) → (a && b) ≡ true → a ≡ true
first_of_two true b e = refl
first_of_two false b e = e

second_true : (a b c : Bool) → (a && b && c) ≡ true → b ≡ true
second_true true true c e = refl
second_true true false c e = e
second_true false b c e = cc

name_short : (name : List ℕ) → is_symbol_name name ≡ true → length name ≤ 32
unfolding is_symbol_name
name_short name e = leb-true (length name) 32 (second_true _ _ _ e)

passing_short : (symbols : List Symbol) (peripherals : List Peripheral) (name : List ℕ) → name_passes symbols peripherals name ≡ true → length name ≤ 32
passing_short symbols peripherals name e = name_short name (first_true _ _ _ e)

pub symbols_short : (kept : Span) (stride : ℕ) (symbols : List Symbol) → first_bad_symbol kept stride symbols ≡ None → All (λ (s : Symbol). length s.name ≤ 32) symbols
unfolding symbol_passes
symbols_short kept stride symbols good k d within =
    let s : Symbol = get_or symbols k d in
    passing_short (take k symbols) [] s.name (first_true _ _ _ (passes_at (symbol_passes kept stride) symbols k s good (slice_get-get_or symbols k d within)))

pub peripherals_short : (symbols : List Symbol) (peripherals : List Peripheral) → first_bad_peripheral symbols peripherals ≡ None → All (λ (p : Peripheral). length p.name ≤ 32) peripherals
unfolding peripheral_passes
peripherals_short symbols peripherals good k d within =
    let p : Peripheral = get_or peripherals k d in
    passing_short symbols (take k peripherals) p.name (first_of_two _ _ (passes_at (peripheral_passes symbols) peripherals k p good (slice_get-get_or peripherals k d within)))

-- The event that a text tells is the program's: its peripheral and its arrays are there.
use Rattle.std.proofs.Common.{◌≡◌, ◌⊎◌, inl, inr, ℕ, zero, suc, ◌<◌, ◌≤◌, Bool, true, false, cond, nat_lt, Option, Some, None, List, [], ◌∷◌, length, take, map, refl, subst, arith, not-suc-le-zero, le_of_suc-le-suc}
use Rattle.std.specs.Prelude.{All, IsTrue}
use Rattle.std.specs.List.{AllByRecursion, position_or_len}
use Rattle.std.specs.Str.{bytes_eq}
use Rattle.std.proofs.lemmas.Bool.Decides.{nat_tests}
use Rattle.std.proofs.lemmas.List.{length-map}
use Rattle.ease_base.specs.declared.place.Peripheral.{Peripheral}
use Rattle.task_ast.specs.declared.core_form.Array.{Array}
use Rattle.task_ast.specs.declared.core_form.Core.{Core}
use Rattle.task_ast.specs.NameToken.{is_name}
use Rattle.task_ast.specs.WellFormed.{IsCoreArray, IsCorePeripheral, IsWellFormed}
use Rattle.word_isa.specs.declared.parts.Symbol.{Symbol}
use Rattle.devices.specs.Journal.{Place, cell, keep, address, JournalEvent, begins, looks, keeps, drops, issues, seals, copies, commits, traps, arguments_of}
use Rattle.report_text.specs.Events.{style_of, symbol_of, peripheral_named, array_named, place_named, event_in, HasNumber, IsOf}
use Rattle.report_text.specs.Reading.{◌>>=◌}
use Rattle.report_text.specs.Written.{IsFull, IsThere}
use Rattle.report_text.specs.declared.line.LineText.{LineText}
use Rattle.report_text.specs.declared.line.LineText.TheVariants.{Boot, Begin, Look, Kept, Drop, Issue, Seal, Copy, Commit, Trap, End}
use Rattle.report_text.specs.declared.line.ReportPlace.{ReportPlace}
use Rattle.report_text.specs.declared.line.ReportPlace.TheVariants.{Cell, Keep, Address}

then_found : {A B : Type 0} (o : Option A) (f : A → Option B) (y : B) → (o >>= f) ≡ Some y → (x : A) × (o ≡ Some x) × (f x ≡ Some y)
then_found None f y e = cc
then_found (Some x) f y e = (x, refl, e)

same_some : {A : Type 0} (x y : A) → Some x ≡ Some y → x ≡ y
same_some x y e = cc

-- the number of a name is there
number_there : (ps : List Peripheral) (name : List ℕ) (n : ℕ) → peripheral_named ps name ≡ Some n → HasNumber ps n
number_there [] name n e = cc
number_there (p ∷ ps) name n e = by (bytes_eq p.name name) e (λ later. number_there ps name n later)
  where
    by : (t : Bool) → cond t (Some p.number) (peripheral_named ps name) ≡ Some n → (peripheral_named ps name ≡ Some n → HasNumber ps n) → (p.number ≡ n) ⊎ HasNumber ps n
    by true e later = inl (same_some p.number n e)
    by false e later = inr (later e)

-- the place of an array is one of theirs
array_there : (arrays : List Array) (name : List ℕ) (k : ℕ) → array_named arrays name ≡ Some k → k < length arrays
array_there arrays name k e = by (position_or_len (λ (a : Array). bytes_eq a.name name) arrays) (length arrays) (nat_lt (position_or_len (λ (a : Array). bytes_eq a.name name) arrays) (length arrays)) refl e
  where
    by : (p n : ℕ) (t : Bool) → nat_lt p n ≡ t → cond t (Some p) None ≡ Some k → k < n
    by p n true is e = let less : p < n = grind (arith, nat_tests) in let same : p ≡ k = same_some p k e in omega (arith, less, same)
    by p n false is e = cc

place_there : (c : Core) (p : ReportPlace) (q : Place) → place_named c.arrays p ≡ Some q → IsThere (style_of c) q
place_there c (Cell name i) q e =
    let k = then_found (array_named c.arrays name) (λ k. Some (cell k i)) q e in
    subst (IsThere (style_of c)) (same_some (cell k.0 i) q k.2) (let less = array_there c.arrays name k.0 k.1 in omega (arith, less, length-map c.arrays symbol_of))
place_there c Keep q e = subst (IsThere (style_of c)) (same_some keep q e) tt
place_there c (Address at) q e = subst (IsThere (style_of c)) (same_some (address at) q e) tt

few_taken : (n : ℕ) (xs : List ℕ) → length (take n xs) ≤ length xs
few_taken zero xs = omega arith
few_taken (suc n) [] = omega arith
few_taken (suc n) (x ∷ xs) = let few = few_taken n xs in omega (arith, few)

-- the event of a text is one of the program
pub event_whose : (c : Core) (t : LineText) (e : JournalEvent) → event_in c t ≡ Some e → IsOf c e
event_whose c (Boot n) e told = cc
event_whose c (Begin task) e told = subst (IsOf c) (same_some (begins task) e told) tt
event_whose c (Look site time) e told = subst (IsOf c) (same_some (looks site time) e told) tt
event_whose c (Kept site value) e told = subst (IsOf c) (same_some (keeps site value) e told) tt
event_whose c (Drop site) e told = subst (IsOf c) (same_some (drops site) e told) tt
event_whose c (Issue site name args reading) e told =
    let n = then_found (peripheral_named c.peripherals name) (λ n. Some (issues site n (arguments_of args) reading)) e told in
    subst (IsOf c) (same_some (issues site n.0 (arguments_of args) reading) e n.2)
    (number_there c.peripherals name n.0 n.1, few_taken args.count (args.a0 ∷ args.a1 ∷ args.a2 ∷ args.a3 ∷ []))
event_whose c (Seal site) e told = subst (IsOf c) (same_some (seals site) e told) tt
event_whose c (Copy site from to words) e told =
    let f = then_found (place_named c.arrays from) (λ f. place_named c.arrays to >>= (λ t. Some (copies site f t words))) e told in
    let t = then_found (place_named c.arrays to) (λ t. Some (copies site f.0 t words)) e f.2 in
    subst (IsOf c) (same_some (copies site f.0 t.0 words) e t.2) (place_there c from f.0 f.1, place_there c to t.0 t.1)
event_whose c (Commit next) e told = subst (IsOf c) (same_some (commits next) e told) tt
event_whose c (Trap code) e told = subst (IsOf c) (same_some (traps code) e told) tt
event_whose c (End ending) e told = cc

-- ---- the names of a well-formed program are names

arrays_named : (arrays : List Array) → AllByRecursion IsCoreArray arrays → All (λ (s : Symbol). IsTrue (is_name s.name)) (map symbol_of arrays)
arrays_named [] all k d less = absurd (not-suc-le-zero less)
arrays_named (a ∷ arrays) all zero d less = all.0.0.0.0
arrays_named (a ∷ arrays) all (suc k) d less = arrays_named arrays all.1 k d (le_of_suc-le-suc less)

peripherals_named : (ps : List Peripheral) → AllByRecursion IsCorePeripheral ps → All (λ (p : Peripheral). IsTrue (is_name p.name)) ps
peripherals_named [] all k d less = absurd (not-suc-le-zero less)
peripherals_named (p ∷ ps) all zero d less = all.0.0.0.0
peripherals_named (p ∷ ps) all (suc k) d less = peripherals_named ps all.1 k d (le_of_suc-le-suc less)

pub style_full : (c : Core) → IsWellFormed c → IsFull (style_of c)
style_full c well = record { brief = refl; symbols = arrays_named c.arrays well.arrays; peripherals = peripherals_named c.peripherals well.peripherals }

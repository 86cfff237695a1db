-- The events of lines are those that the lines tell.
use Rattle.std.specs.Prelude.{◌==◌, map, if◌then◌else◌}
use Rattle.std.specs.Option.{option_map, is_some}
use Rattle.std.specs.Str.{bytes_eq}
use Rattle.std.proofs.Common.{◌≡◌, ◌∙◌, ◌⊎◌, inl, inr, ℕ, zero, suc, ◌<◌, Bool, true, false, List, [], ◌∷◌, ◌++◌, length, Option, Some, None, refl, sym, ap, subst, arith}
use Rattle.std.proofs.lemmas.Bool.{or_parts, or_from, eqb-true, eq-eqb, ne_eqb, false_from_ne_true, false≢true}
use Rattle.std.proofs.lemmas.List.{map-id, length-map}
use Rattle.std.proofs.lemmas.Slice.Eq.{bytes_eq-Decides}
use Rattle.devices.specs.Journal.{Place, cell, keep, address, JournalEvent, begins, looks, keeps, drops, issues, seals, copies, commits, traps, arguments_of}
use Rattle.devices.specs.declared.event.Args.{Args}
use Rattle.ease_base.specs.declared.place.Peripheral.{Peripheral}
use Rattle.op_table.specs.Places.{place_of, repeats}
use Rattle.op_table.specs.PlaceLemmas.{position-map}
use Rattle.power_trace.specs.Report.{symbol_name, peripheral_name}
use Rattle.report_text.proofs.IssueLemmas.{values_are}
use Rattle.report_text.specs.Events.{style_of, symbol_of, peripheral_named, array_named, place_named, event_in, HasNumber, IsOf}
use Rattle.report_text.specs.Grammar.{IsText, AreArgs, args_of}
use Rattle.report_text.specs.Reading.{◌>>=◌}
use Rattle.report_text.specs.Written.{place_told, event_told, IsThere}
use Rattle.report_text.specs.declared.line.LineText.{LineText}
use Rattle.report_text.specs.declared.line.LineText.TheVariants.{Boot, Begin, Look, Kept, Drop, Issue, Seal, Copy, Commit, Trap, End}
use Rattle.report_text.specs.declared.line.ReportPlace.{ReportPlace}
use Rattle.report_text.specs.declared.line.ReportPlace.TheVariants.{Cell, Keep, Address}
use Rattle.task_ast.specs.WellFormed.{IsWellFormed}
use Rattle.task_ast.specs.declared.core_form.Array.{Array}
use Rattle.task_ast.specs.declared.core_form.Core.{Core}

same_is : (xs : List ℕ) → bytes_eq xs xs ≡ true
same_is xs = (bytes_eq-Decides xs xs).1 refl

turned : (xs ys : List ℕ) → bytes_eq xs ys ≡ false → bytes_eq ys xs ≡ false
turned xs ys e = false_from_ne_true (bytes_eq ys xs) (λ is. false≢true (sym e ∙ (bytes_eq-Decides xs ys).1 (sym ((bytes_eq-Decides ys xs).0 is))))

none_first : (t : Bool) (o : Option ℕ) → is_some (if t then Some 0 else option_map suc o) ≡ false → (t ≡ false) × (is_some o ≡ false)
none_first true o e = cc
none_first false None e = (refl, refl)
none_first false (Some k) e = cc

-- a text that no peripheral has is none of their names
other_name : (x : List ℕ) (ps : List Peripheral) (n : ℕ) → is_some (place_of bytes_eq x (map (λ p. p.name) ps)) ≡ false → HasNumber ps n → bytes_eq x (peripheral_name ps n) ≡ false
unfolding place_of
other_name x [] n none has = absurd has
other_name x (p ∷ ps) n none has =
    let parts = none_first (bytes_eq p.name x) (place_of bytes_eq x (map (λ q. q.name) ps)) none in
    by (p.number == n) refl has (turned p.name x parts.0) (λ later. other_name x ps n parts.1 later)
  where
    by : (t : Bool) → (p.number == n) ≡ t → (p.number ≡ n) ⊎ HasNumber ps n → bytes_eq x p.name ≡ false → (HasNumber ps n → bytes_eq x (peripheral_name ps n) ≡ false) → bytes_eq x (if t then p.name else peripheral_name ps n) ≡ false
    by true is has first later = first
    by false is (inl here) first later = absurd (false≢true (sym is ∙ eq-eqb p.number n here))
    by false is (inr there) first later = later there

-- the name of a number names it
number_of_name : (ps : List Peripheral) (n : ℕ) → repeats bytes_eq (map (λ p. p.name) ps) ≡ false → HasNumber ps n → peripheral_named ps (peripheral_name ps n) ≡ Some n
unfolding repeats
number_of_name [] n apart has = absurd has
number_of_name (p ∷ ps) n apart has =
    let parts = or_parts (is_some (place_of bytes_eq p.name (map (λ q. q.name) ps))) (repeats bytes_eq (map (λ q. q.name) ps)) apart in
    by (p.number == n) refl has (λ later. other_name p.name ps n parts.0 later) (λ later. number_of_name ps n parts.1 later)
  where
    by : (t : Bool) → (p.number == n) ≡ t → (p.number ≡ n) ⊎ HasNumber ps n → (HasNumber ps n → bytes_eq p.name (peripheral_name ps n) ≡ false) → (HasNumber ps n → peripheral_named ps (peripheral_name ps n) ≡ Some n)
        → peripheral_named (p ∷ ps) (if t then p.name else peripheral_name ps n) ≡ Some n
    by true is has other later = ap (λ t. if t then Some p.number else peripheral_named ps p.name) (same_is p.name) ∙ ap Some (eqb-true p.number n is)
    by false is (inl here) other later = absurd (false≢true (sym is ∙ eq-eqb p.number n here))
    by false is (inr there) other later = ap (λ t. if t then Some p.number else peripheral_named ps (peripheral_name ps n)) (other there) ∙ later there

-- a number that no peripheral has
other_number : (x : ℕ) (ps : List Peripheral) (name : List ℕ) (n : ℕ) → is_some (place_of (λ m k. m == k) x (map (λ p. p.number) ps)) ≡ false → peripheral_named ps name ≡ Some n → (x == n) ≡ false
unfolding place_of
other_number x [] name n none e = cc
other_number x (p ∷ ps) name n none e =
    let parts = none_first (p.number == x) (place_of (λ m k. m == k) x (map (λ q. q.number) ps)) none in
    by (bytes_eq p.name name) e parts.0 (λ later. other_number x ps name n parts.1 later)
  where
    by : (t : Bool) → (if t then Some p.number else peripheral_named ps name) ≡ Some n → (p.number == x) ≡ false → (peripheral_named ps name ≡ Some n → (x == n) ≡ false) → (x == n) ≡ false
    by true e first later = let same : p.number ≡ n = cc in ne_eqb x n (λ is. false≢true (sym first ∙ eq-eqb p.number x (same ∙ sym is)))
    by false e first later = later e

-- the number of a name has it
name_of_number : (ps : List Peripheral) (name : List ℕ) (n : ℕ) → repeats (λ m k. m == k) (map (λ p. p.number) ps) ≡ false → peripheral_named ps name ≡ Some n → peripheral_name ps n ≡ name
unfolding repeats
name_of_number [] name n apart e = cc
name_of_number (p ∷ ps) name n apart e =
    let parts = or_parts (is_some (place_of (λ m k. m == k) p.number (map (λ q. q.number) ps))) (repeats (λ m k. m == k) (map (λ q. q.number) ps)) apart in
    by (bytes_eq p.name name) refl e (λ later. other_number p.number ps name n parts.0 later) (λ later. name_of_number ps name n parts.1 later)
  where
    by : (t : Bool) → bytes_eq p.name name ≡ t → (if t then Some p.number else peripheral_named ps name) ≡ Some n → (peripheral_named ps name ≡ Some n → (p.number == n) ≡ false) → (peripheral_named ps name ≡ Some n → peripheral_name ps n ≡ name)
        → peripheral_name (p ∷ ps) n ≡ name
    by true is e other later =
        let same : p.number ≡ n = cc in
        ap (λ t. if t then p.name else peripheral_name ps n) (eq-eqb p.number n same) ∙ (bytes_eq-Decides p.name name).0 is
    by false is e other later = ap (λ t. if t then p.name else peripheral_name ps n) (other e) ∙ later e

-- the names of arrays
abbrev names_in : List Array → List (List ℕ)
names_in arrays = map (λ (n : List ℕ). n) (map (λ (a : Array). a.name) arrays)

by_place : (name : List ℕ) (arrays : List Array) → array_named arrays name ≡ place_of bytes_eq name (names_in arrays)
by_place name arrays = position-map bytes_eq (λ (a : Array). a.name) (λ (n : List ℕ). n) name arrays

other_array : (x : List ℕ) (arrays : List Array) (k : ℕ) → is_some (place_of bytes_eq x (names_in arrays)) ≡ false → k < length arrays → bytes_eq x (symbol_name (map symbol_of arrays) k) ≡ false
unfolding place_of
other_array x [] k none within = absurd (omega (arith, within))
other_array x (a ∷ arrays) zero none within = turned a.name x (none_first (bytes_eq a.name x) (place_of bytes_eq x (names_in arrays)) none).0
other_array x (a ∷ arrays) (suc k) none within = other_array x arrays k (none_first (bytes_eq a.name x) (place_of bytes_eq x (names_in arrays)) none).1 (omega (arith, within))

-- the name of an array names it
place_of_name : (arrays : List Array) (k : ℕ) → repeats bytes_eq (names_in arrays) ≡ false → k < length arrays → place_of bytes_eq (symbol_name (map symbol_of arrays) k) (names_in arrays) ≡ Some k
unfolding place_of repeats
place_of_name [] k apart within = absurd (omega (arith, within))
place_of_name (a ∷ arrays) zero apart within = ap (λ t. if t then Some 0 else option_map suc (place_of bytes_eq a.name (names_in arrays))) (same_is a.name)
place_of_name (a ∷ arrays) (suc k) apart within =
    let parts = or_parts (is_some (place_of bytes_eq a.name (names_in arrays))) (repeats bytes_eq (names_in arrays)) apart in
    let less : k < length arrays = omega (arith, within) in
    let name = symbol_name (map symbol_of arrays) k in
    ap (λ t. if t then Some 0 else option_map suc (place_of bytes_eq name (names_in arrays))) (other_array a.name arrays k parts.0 less)
    ∙ ap (option_map suc) (place_of_name arrays k parts.1 less)

-- the array that a name names has it
name_of_place : (arrays : List Array) (name : List ℕ) (k : ℕ) → place_of bytes_eq name (names_in arrays) ≡ Some k → symbol_name (map symbol_of arrays) k ≡ name
unfolding place_of
name_of_place [] name k e = cc
name_of_place (a ∷ arrays) name k e = by (bytes_eq a.name name) refl (place_of bytes_eq name (names_in arrays)) k e (λ j is. name_of_place arrays name j is)
  where
    by : (t : Bool) → bytes_eq a.name name ≡ t → (o : Option ℕ) (k : ℕ) → (if t then Some 0 else option_map suc o) ≡ Some k → ((j : ℕ) → o ≡ Some j → symbol_name (map symbol_of arrays) j ≡ name) → symbol_name (map symbol_of (a ∷ arrays)) k ≡ name
    by true is o zero e later = (bytes_eq-Decides a.name name).0 is
    by true is o (suc k) e later = absurd (wrong e)
      where
        wrong : ◌≡◌ {A = Option ℕ} (Some 0) (Some (suc k)) → ⊥
        wrong e = cc
    by false is None k e later = cc
    by false is (Some j) k e later = let at : suc j ≡ k = cc in subst (λ n. symbol_name (map symbol_of (a ∷ arrays)) n ≡ name) at (later j refl)

then_found : {A B : Type 0} (o : Option A) (f : A → Option B) (y : B) → (o >>= f) ≡ Some y → (x : A) × (o ≡ Some x) × (f x ≡ Some y)
then_found None f y e = cc
then_found (Some x) f y e = (x, refl, e)

same_some : {A : Type 0} (x y : A) → Some x ≡ Some y → x ≡ y
same_some x y e = cc

place_back : (core : Core) (p : ReportPlace) (q : Place) → place_named core.arrays p ≡ Some q → place_told (style_of core) q ≡ p
place_back core (Cell name i) q e =
    let k = then_found (array_named core.arrays name) (λ k. Some (cell k i)) q e in
    ap (place_told (style_of core)) (sym (same_some (cell k.0 i) q k.2)) ∙ ap (λ n. Cell n i) (name_of_place core.arrays name k.0 (sym (by_place name core.arrays) ∙ k.1))
place_back core Keep q e = ap (place_told (style_of core)) (sym (same_some keep q e))
place_back core (Address at) q e = ap (place_told (style_of core)) (sym (same_some (address at) q e))

place_there : (core : Core) (p : Place) → repeats bytes_eq (names_in core.arrays) ≡ false → IsThere (style_of core) p → place_named core.arrays (place_told (style_of core) p) ≡ Some p
place_there core (cell k i) apart there =
    ap (λ o. o >>= (λ j. Some (cell j i))) (by_place (symbol_name (map symbol_of core.arrays) k) core.arrays ∙ place_of_name core.arrays k apart (omega (arith, there, length-map core.arrays symbol_of)))
place_there core keep apart there = refl
place_there core (address at) apart there = refl

none_front : {A : Type 0} (same : A → A → Bool) (x : A) (xs ys : List A) → is_some (place_of same x (xs ++ ys)) ≡ false → (is_some (place_of same x xs) ≡ false) × (is_some (place_of same x ys) ≡ false)
unfolding place_of
none_front same x [] ys e = (refl, e)
none_front same x (z ∷ xs) ys e =
    let parts = none_first (same z x) (place_of same x (xs ++ ys)) e in
    let others = none_front same x xs ys parts.1 in
    (by (same z x) (place_of same x xs) parts.0 others.0, others.1)
  where
    by : (t : Bool) (o : Option ℕ) → t ≡ false → is_some o ≡ false → is_some (if t then Some 0 else option_map suc o) ≡ false
    by true o e f = cc
    by false None e f = refl
    by false (Some k) e f = cc

apart_parts : {A : Type 0} (same : A → A → Bool) (xs ys : List A) → repeats same (xs ++ ys) ≡ false → (repeats same xs ≡ false) × (repeats same ys ≡ false)
unfolding repeats
apart_parts same [] ys e = (refl, e)
apart_parts same (x ∷ xs) ys e =
    let parts = or_parts (is_some (place_of same x (xs ++ ys))) (repeats same (xs ++ ys)) e in
    let others = apart_parts same xs ys parts.1 in
    (or_from _ _ (none_front same x xs ys parts.0).0 others.0, others.1)

array_names : (core : Core) → IsWellFormed core → repeats bytes_eq (names_in core.arrays) ≡ false
array_names core is =
    let arrays = map (λ (a : Array). a.name) core.arrays in
    let pointers = apart_parts bytes_eq (arrays ++ core.pointers ++ map (λ p. p.name) core.peripherals) (map (λ t. t.name) core.tasks) is.distinct in
    let peripherals = apart_parts bytes_eq (arrays ++ core.pointers) (map (λ p. p.name) core.peripherals) pointers.0 in
    ap (repeats bytes_eq) (map-id arrays) ∙ (apart_parts bytes_eq arrays core.pointers peripherals.0).0

peripheral_names : (core : Core) → IsWellFormed core → repeats bytes_eq (map (λ p. p.name) core.peripherals) ≡ false
peripheral_names core is =
    let arrays = map (λ (a : Array). a.name) core.arrays in
    let pointers = apart_parts bytes_eq (arrays ++ core.pointers ++ map (λ p. p.name) core.peripherals) (map (λ t. t.name) core.tasks) is.distinct in
    (apart_parts bytes_eq (arrays ++ core.pointers) (map (λ p. p.name) core.peripherals) pointers.0).1

args_back : (args : Args) → AreArgs args → args_of (arguments_of args) ≡ args
args_back args are = ap args_of (ap arguments_of are.are ∙ values_are are.values are.few) ∙ sym are.are

issue_back : (core : Core) (site : ℕ) (name : List ℕ) (args : Args) (reading n : ℕ) (e : JournalEvent) → AreArgs args → peripheral_name core.peripherals n ≡ name → issues site n (arguments_of args) reading ≡ e
    → event_told (style_of core) e ≡ Issue site name args reading
issue_back core site name args reading n e are named is = ap (event_told (style_of core)) (sym is) ∙ (λ i. Issue site (named i) (args_back args are i) reading)

copy_back : (core : Core) (site words : ℕ) (from to : ReportPlace) (f t : Place) (e : JournalEvent) → place_told (style_of core) f ≡ from → place_told (style_of core) t ≡ to → copies site f t words ≡ e
    → event_told (style_of core) e ≡ Copy site from to words
copy_back core site words from to f t e source target is = ap (event_told (style_of core)) (sym is) ∙ (λ i. Copy site (source i) (target i) words)

-- the event of a text is told by it
pub event_back : (core : Core) (t : LineText) (e : JournalEvent) → IsWellFormed core → IsText t → event_in core t ≡ Some e → event_told (style_of core) e ≡ t
event_back core (Boot n) e is text told = cc
event_back core (Begin task) e is text told = ap (event_told (style_of core)) (sym (same_some (begins task) e told))
event_back core (Look site time) e is text told = ap (event_told (style_of core)) (sym (same_some (looks site time) e told))
event_back core (Kept site value) e is text told = ap (event_told (style_of core)) (sym (same_some (keeps site value) e told))
event_back core (Drop site) e is text told = ap (event_told (style_of core)) (sym (same_some (drops site) e told))
event_back core (Issue site name args reading) e is text told =
    let n = then_found (peripheral_named core.peripherals name) (λ n. Some (issues site n (arguments_of args) reading)) e told in
    issue_back core site name args reading n.0 e text.2 (name_of_number core.peripherals name n.0 is.numbered n.1) (same_some (issues site n.0 (arguments_of args) reading) e n.2)
event_back core (Seal site) e is text told = ap (event_told (style_of core)) (sym (same_some (seals site) e told))
event_back core (Copy site from to words) e is text told =
    let f = then_found (place_named core.arrays from) (λ f. place_named core.arrays to >>= (λ t. Some (copies site f t words))) e told in
    let t = then_found (place_named core.arrays to) (λ t. Some (copies site f.0 t words)) e f.2 in
    copy_back core site words from to f.0 t.0 e (place_back core from f.0 f.1) (place_back core to t.0 t.1) (same_some (copies site f.0 t.0 words) e t.2)
event_back core (Commit next) e is text told = ap (event_told (style_of core)) (sym (same_some (commits next) e told))
event_back core (Trap code) e is text told = ap (event_told (style_of core)) (sym (same_some (traps code) e told))
event_back core (End ending) e is text told = cc

-- an event of the program is that of the text that tells it
pub event_there : (core : Core) (e : JournalEvent) → IsWellFormed core → IsOf core e → event_in core (event_told (style_of core) e) ≡ Some e
event_there core (begins task) is whose = refl
event_there core (looks site time) is whose = refl
event_there core (keeps site value) is whose = refl
event_there core (drops site) is whose = refl
event_there core (issues site p arguments reading) is whose =
    ap (λ o. o >>= (λ n. Some (issues site n (arguments_of (args_of arguments)) reading))) (number_of_name core.peripherals p (peripheral_names core is) whose.0)
    ∙ ap (λ vs. Some (issues site p vs reading)) (values_are arguments whose.1)
event_there core (seals site) is whose = refl
event_there core (copies site from to words) is whose =
    ap (λ o. o >>= (λ f. place_named core.arrays (place_told (style_of core) to) >>= (λ t. Some (copies site f t words)))) (place_there core from (array_names core is) whose.0)
    ∙ ap (λ o. o >>= (λ t. Some (copies site from t words))) (place_there core to (array_names core is) whose.1)
event_there core (commits next) is whose = refl
event_there core (traps code) is whose = refl

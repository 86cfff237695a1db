-- The first row with a code or a name, and rows that are twins.
use Rattle.std.specs.Prelude.{◌≡◌, ◌↔◌, ℕ, Bool, true, false, ◌||◌, List, [], ◌∷◌, Option, Some, None, eqb, refl, length, ◌<◌, IsTrue, IfSome}
use Rattle.std.proofs.Common.{sym, ◌∙◌, ap, subst, inl, inr, arith}
use Rattle.std.specs.Bool.{Decides}
use Rattle.std.specs.List.{position}
use Rattle.std.specs.Option.{is_some}
use Rattle.std.specs.Str.{bytes_eq}
use Rattle.std.proofs.lemmas.List.{length-map}
use Rattle.std.proofs.lemmas.Slice.Eq.{bytes_eq-Decides}
use Rattle.std.proofs.lemmas.Bool.Decides.{Decides-eqb}
use Rattle.op_table.specs.declared.table.Row.{Row}
use Rattle.op_table.specs.Places.{IsAt, StandsTwice, place_of, repeats}
use Rattle.op_table.specs.Table.{Entry, HasTwins, entry_of, entries, codes, names}
use Rattle.op_table.specs.PlaceLemmas.{position-map, found_exactly, missed_exactly, repeats-Decides, place_within, repeats_more, repeats_end}

-- the first row with a code
pub first_code : (rows : List Row) (code : ℕ) → position (λ row. eqb row.code code) rows ≡ place_of eqb code (codes (entries rows))
first_code rows code = position-map eqb entry_of (λ (e : Entry). e.code) code rows

-- the first row with a name
pub first_name : (rows : List Row) (name : List ℕ) → position (λ row. bytes_eq row.name.now name) rows ≡ place_of bytes_eq name (names (entries rows))
first_name rows name = position-map bytes_eq entry_of (λ (e : Entry). e.name) name rows

-- a table without twins answers each code's place
pub code_found : (table : List Entry) (code : ℕ) (place : Option ℕ) → (HasTwins table → ⊥) → place ≡ place_of eqb code (codes table) → (i : ℕ) → (place ≡ Some i) ↔ IsAt (codes table) i code
code_found table code place clear is = found_exactly eqb Decides-eqb code (codes table) place (λ twice. clear (inl twice)) is

pub code_missed : (table : List Entry) (code : ℕ) (place : Option ℕ) → place ≡ place_of eqb code (codes table) → (place ≡ None) ↔ ((i : ℕ) → IsAt (codes table) i code → ⊥)
code_missed table code place is = missed_exactly eqb Decides-eqb code (codes table) place is

-- and each name's
pub name_found : (table : List Entry) (name : List ℕ) (place : Option ℕ) → (HasTwins table → ⊥) → place ≡ place_of bytes_eq name (names table) → (i : ℕ) → (place ≡ Some i) ↔ IsAt (names table) i name
name_found table name place clear is = found_exactly bytes_eq bytes_eq-Decides name (names table) place (λ twice. clear (inr twice)) is

pub name_missed : (table : List Entry) (name : List ℕ) (place : Option ℕ) → place ≡ place_of bytes_eq name (names table) → (place ≡ None) ↔ ((i : ℕ) → IsAt (names table) i name → ⊥)
name_missed table name place is = missed_exactly bytes_eq bytes_eq-Decides name (names table) place is

-- two tests, one after the other, decide whether there are twins
twins_found : (table : List Entry) (code name : Bool) → (code ≡ true → StandsTwice (codes table)) → (name ≡ true → StandsTwice (names table)) → (code || name) ≡ true → HasTwins table
twins_found table true name first second e = inl (first refl)
twins_found table false true first second e = inr (second refl)
twins_found table false false first second e = cc

twins_all : (table : List Entry) (code name : Bool) → (StandsTwice (codes table) → code ≡ true) → (StandsTwice (names table) → name ≡ true) → HasTwins table → (code || name) ≡ true
twins_all table true name first second twins = refl
twins_all table false true first second twins = refl
twins_all table false false first second twins = elim twins [ inl twice ↦ first twice | inr twice ↦ second twice ]

pub twins_decided : (table : List Entry) (result : Bool) → result ≡ (repeats eqb (codes table) || repeats bytes_eq (names table)) → IsTrue result ↔ HasTwins table
twins_decided table result is =
    let on_codes : Decides (repeats eqb (codes table)) (StandsTwice (codes table)) = repeats-Decides eqb Decides-eqb (codes table) in
    let on_names : Decides (repeats bytes_eq (names table)) (StandsTwice (names table)) = repeats-Decides bytes_eq bytes_eq-Decides (names table) in (
      λ e. twins_found table (repeats eqb (codes table)) (repeats bytes_eq (names table)) on_codes.0 on_names.0 (sym is ∙ e),
      λ twins. is ∙ twins_all table (repeats eqb (codes table)) (repeats bytes_eq (names table)) on_codes.1 on_names.1 twins,
    )

-- one row more
pub codes_more : (row : Row) (rows all : List Row) → all ≡ row ∷ rows → repeats eqb (codes (entries all)) ≡ (is_some (position (λ r. eqb r.code row.code) rows) || repeats eqb (codes (entries rows)))
codes_more row rows all is =
    ap (λ (l : List Row). repeats eqb (codes (entries l))) is ∙ repeats_more eqb row.code (codes (entries rows)) ∙ ap (λ (o : Option ℕ). is_some o || repeats eqb (codes (entries rows))) (sym (first_code rows row.code))

pub names_more : (row : Row) (rows all : List Row) → all ≡ row ∷ rows → repeats bytes_eq (names (entries all)) ≡ (is_some (position (λ r. bytes_eq r.name.now row.name.now) rows) || repeats bytes_eq (names (entries rows)))
names_more row rows all is =
    ap (λ (l : List Row). repeats bytes_eq (names (entries l))) is ∙ repeats_more bytes_eq row.name.now (names (entries rows)) ∙ ap (λ (o : Option ℕ). is_some o || repeats bytes_eq (names (entries rows))) (sym (first_name rows row.name.now))

pub codes_end : (rows : List Row) → length rows ≡ 0 → false ≡ repeats eqb (codes (entries rows))
codes_end [] e = sym (repeats_end eqb)
codes_end (row ∷ rows) e = cc

pub names_end : (rows : List Row) → length rows ≡ 0 → false ≡ repeats bytes_eq (names (entries rows))
names_end [] e = sym (repeats_end bytes_eq)
names_end (row ∷ rows) e = cc

-- a test whose first part is known
first_holds : (whole a b : Bool) → whole ≡ (a || b) → a ≡ true → true ≡ whole
first_holds whole true b is e = sym is
first_holds whole false b is e = cc

first_fails : (whole a b : Bool) → whole ≡ (a || b) → a ≡ false → whole ≡ b
first_fails whole true b is e = cc
first_fails whole false b is e = is

-- the code or the name of the first row stands again behind it
pub code_again : (row : Row) (rows all : List Row) (place : Option ℕ) → all ≡ row ∷ rows → place ≡ position (λ r. eqb r.code row.code) rows → is_some place ≡ true → true ≡ repeats eqb (codes (entries all))
code_again row rows all place is at some =
    first_holds (repeats eqb (codes (entries all))) (is_some (position (λ r. eqb r.code row.code) rows)) (repeats eqb (codes (entries rows))) (codes_more row rows all is) (ap (λ (o : Option ℕ). is_some o) (sym at) ∙ some)

pub name_again : (row : Row) (rows all : List Row) (place : Option ℕ) → all ≡ row ∷ rows → place ≡ position (λ r. bytes_eq r.name.now row.name.now) rows → is_some place ≡ true → true ≡ repeats bytes_eq (names (entries all))
name_again row rows all place is at some =
    first_holds (repeats bytes_eq (names (entries all))) (is_some (position (λ r. bytes_eq r.name.now row.name.now) rows)) (repeats bytes_eq (names (entries rows))) (names_more row rows all is) (ap (λ (o : Option ℕ). is_some o) (sym at) ∙ some)

-- or it doesn't
pub code_alone : (row : Row) (rows all : List Row) (place : Option ℕ) → all ≡ row ∷ rows → place ≡ position (λ r. eqb r.code row.code) rows → is_some place ≡ false → repeats eqb (codes (entries all)) ≡ repeats eqb (codes (entries rows))
code_alone row rows all place is at none =
    first_fails (repeats eqb (codes (entries all))) (is_some (position (λ r. eqb r.code row.code) rows)) (repeats eqb (codes (entries rows))) (codes_more row rows all is) (ap (λ (o : Option ℕ). is_some o) (sym at) ∙ none)

pub name_alone : (row : Row) (rows all : List Row) (place : Option ℕ) → all ≡ row ∷ rows → place ≡ position (λ r. bytes_eq r.name.now row.name.now) rows → is_some place ≡ false → repeats bytes_eq (names (entries all)) ≡ repeats bytes_eq (names (entries rows))
name_alone row rows all place is at none =
    first_fails (repeats bytes_eq (names (entries all))) (is_some (position (λ r. bytes_eq r.name.now row.name.now) rows)) (repeats bytes_eq (names (entries rows))) (names_more row rows all is) (ap (λ (o : Option ℕ). is_some o) (sym at) ∙ none)

-- two tests whose first is known
pub either_first : (a b : Bool) → a ≡ true → true ≡ (a || b)
either_first true b e = refl
either_first false b e = cc

pub either_second : (a b : Bool) → a ≡ false → b ≡ (a || b)
either_second true b e = cc
either_second false b e = refl

-- a place is one of the table's
code_within_codes : (rows : List Row) (code : ℕ) (place : Option ℕ) → place ≡ place_of eqb code (codes (entries rows)) → IfSome place (λ i. i < length (codes (entries rows)))
code_within_codes rows code place is = place_within eqb Decides-eqb code (codes (entries rows)) place is

name_within_names : (rows : List Row) (name : List ℕ) (place : Option ℕ) → place ≡ place_of bytes_eq name (names (entries rows)) → IfSome place (λ i. i < length (names (entries rows)))
name_within_names rows name place is = place_within bytes_eq bytes_eq-Decides name (names (entries rows)) place is

below : (place : Option ℕ) (m n : ℕ) → m ≡ n → IfSome place (λ i. i < m) → IfSome place (λ i. i < n)
below None m n is h = tt
below (Some i) m n is h = omega arith

codes_length : (rows : List Row) → length (codes (entries rows)) ≡ length rows
codes_length rows = length-map (entries rows) (λ (e : Entry). e.code) ∙ length-map rows entry_of

names_length : (rows : List Row) → length (names (entries rows)) ≡ length rows
names_length rows = length-map (entries rows) (λ (e : Entry). e.name) ∙ length-map rows entry_of

pub code_within : (rows : List Row) (code n : ℕ) (place : Option ℕ) → length rows ≡ n → place ≡ place_of eqb code (codes (entries rows)) → IfSome place (λ i. i < n)
code_within rows code n place size is = below place (length (codes (entries rows))) n (codes_length rows ∙ size) (code_within_codes rows code place is)

pub name_within : (rows : List Row) (name : List ℕ) (n : ℕ) (place : Option ℕ) → length rows ≡ n → place ≡ place_of bytes_eq name (names (entries rows)) → IfSome place (λ i. i < n)
name_within rows name n place size is = below place (length (names (entries rows))) n (names_length rows ∙ size) (name_within_names rows name place is)

-- what a view without twins answers
pub code_found_in : (rows : List Row) (table : List Entry) (code : ℕ) (place : Option ℕ) → table ≡ entries rows → (HasTwins (entries rows) → ⊥) → place ≡ place_of eqb code (codes (entries rows)) → (i : ℕ) → (place ≡ Some i) ↔ IsAt (codes table) i code
code_found_in rows table code place seen clear is =
    let P : List Entry → Type 0 = λ t. (i : ℕ) → (place ≡ Some i) ↔ IsAt (codes t) i code in
    subst P (sym seen) (code_found (entries rows) code place clear is)

pub code_missed_in : (rows : List Row) (table : List Entry) (code : ℕ) (place : Option ℕ) → table ≡ entries rows → place ≡ place_of eqb code (codes (entries rows)) → (place ≡ None) ↔ ((i : ℕ) → IsAt (codes table) i code → ⊥)
code_missed_in rows table code place seen is =
    let P : List Entry → Type 0 = λ t. (place ≡ None) ↔ ((i : ℕ) → IsAt (codes t) i code → ⊥) in
    subst P (sym seen) (code_missed (entries rows) code place is)

-- what a view without twins answers
pub name_found_in : (rows : List Row) (table : List Entry) (name : List ℕ) (place : Option ℕ) → table ≡ entries rows → (HasTwins (entries rows) → ⊥) → place ≡ place_of bytes_eq name (names (entries rows)) → (i : ℕ) → (place ≡ Some i) ↔ IsAt (names table) i name
name_found_in rows table name place seen clear is =
    let P : List Entry → Type 0 = λ t. (i : ℕ) → (place ≡ Some i) ↔ IsAt (names t) i name in
    subst P (sym seen) (name_found (entries rows) name place clear is)

pub name_missed_in : (rows : List Row) (table : List Entry) (name : List ℕ) (place : Option ℕ) → table ≡ entries rows → place ≡ place_of bytes_eq name (names (entries rows)) → (place ≡ None) ↔ ((i : ℕ) → IsAt (names table) i name → ⊥)
name_missed_in rows table name place seen is =
    let P : List Entry → Type 0 = λ t. (place ≡ None) ↔ ((i : ℕ) → IsAt (names t) i name → ⊥) in
    subst P (sym seen) (name_missed (entries rows) name place is)

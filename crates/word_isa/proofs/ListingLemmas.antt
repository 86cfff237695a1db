-- The table of names, and what is listed of a word that has a row.
use Rattle.std.specs.Prelude.{◌≡◌, ℕ, zero, suc, ◌+◌, ◌-◌, ◌<◌, ◌≤◌, ◌↔◌, Bool, true, false, if◌then◌else◌, List, [], ◌∷◌, ◌++◌, Option, Some, None, map, length, slice_get, refl}
use Rattle.std.proofs.Common.{sym, ◌∙◌, ap, subst, arith, rules, take, drop, get_or}
use Rattle.std.proofs.lemmas.List.{length-map, take-append-drop}
use Rattle.std.proofs.Math.Seq.{drop-cons}
use Rattle.std.proofs.lemmas.Grind.{flat_map-append}
use Rattle.std.proofs.lemmas.Option.{slice_get-get_or, slice_get-map, slice_get_within}
use Rattle.std.specs.Option.{option_map}
use Rattle.op_table.specs.Places.{IsAt, repeats, place_of}
use Rattle.op_table.specs.Table.{Entry, HasTwins, codes, entries, entry_of as row_entry}
use Rattle.op_table.specs.Clear.{clear_by_tests}
use Rattle.op_table.specs.declared.table.Row.{Row}
use Rattle.word_isa.specs.Fields.{code_field, a_field, b_field, m_field, t_field}
use Rattle.word_isa.specs.Operands.{Operands, op_none, op_a, op_m, op_t, op_a_b, op_a_m, op_a_b_m, op_io, op_dma}
use Rattle.word_isa.specs.Instructions.{row_of}
use Rattle.word_isa.specs.Decoding.{rows_with, rest_is_clear, if_clear, instr_at, decoded}
use Rattle.word_isa.specs.Parts.{IsPart, part_first, part_second}
use Rattle.word_isa.specs.declared.listing.Operand.{Operand}
use Rattle.word_isa.specs.Listing.{operand_text, instruction_table, word_text, entry_text, table_entry, form_of, form_operands, listed, instr_text, text_or_mark, operands_text}
use Rattle.word_isa.specs.RowLaws.{refilled, IsAtCode, numbered_at, rows_numbered}
use Rattle.word_isa.specs.declared.fields.Fields.{Fields}
use Rattle.word_isa.specs.declared.instr.Instr.{Instr}

-- no code and no name of the table stands twice
pub no_twins : HasTwins instruction_table → ⊥
unfolding repeats place_of instruction_table
no_twins twins = clear_by_tests instruction_table refl refl twins

-- the numbers go up by one from the first
abbrev AreCounted : ℕ → List ℕ → Type 0
AreCounted first [] = Unit {0}
AreCounted first (x ∷ xs) = (x ≡ first) × AreCounted (suc first) xs

counted_at : (xs : List ℕ) (first n : ℕ) → AreCounted first xs → n < length xs → slice_get xs n ≡ Some (first + n)
counted_at [] first n all within = absurd (omega arith)
counted_at (x ∷ xs) first zero all within = ap Some (omega (arith, all.0))
counted_at (x ∷ xs) first (suc n) all within =
    counted_at xs (suc first) n all.1 (omega arith) ∙ ap Some (omega arith)

codes_counted : AreCounted 1 (codes instruction_table)
unfolding instruction_table
codes_counted = search rules

twenty_five : length (codes instruction_table) ≡ 25
unfolding instruction_table
twenty_five = refl

-- each code stands at its place
pub code_stands : (code : ℕ) → 0 < code → code ≤ 25 → IsAt (codes instruction_table) (code - 1) code
code_stands code positive known =
    counted_at (codes instruction_table) 1 (code - 1) codes_counted (omega (arith, twenty_five)) ∙ ap Some (omega arith)

-- rows that are the table's are 25
pub rows_length : (rows : List Row) → entries rows ≡ instruction_table → length rows ≡ 25
unfolding instruction_table
rows_length rows e = sym (length-map rows row_entry) ∙ ap length e

-- a code of the table is found at its place
pub found_place : (table all : List Entry) (o : Option ℕ) (code : ℕ) → table ≡ all → all ≡ instruction_table → ((place : ℕ) → (o ≡ Some place) ↔ IsAt (codes table) place code) → 0 < code → code ≤ 25 → o ≡ Some (code - 1)
found_place table all o code made is found positive known =
    let P : List Entry → Type 0 = λ t. IsAt (codes t) (code - 1) code in
    (found (code - 1)).1 (subst P (sym (made ∙ is)) (code_stands code positive known))

-- the text of operands, cut at one of them
text_cut : (operands : List Operand) (i : ℕ) (d : Operand) → i < length operands → operands_text (take i operands) ++ (operand_text (get_or operands i d) ++ operands_text (drop (suc i) operands)) ≡ operands_text operands
text_cut operands i d within =
    let cut : drop i operands ≡ get_or operands i d ∷ drop (suc i) operands = drop-cons operands i d within in
    ap (λ t. operands_text (take i operands) ++ operands_text t) (sym cut) ∙ (sym (flat_map-append operand_text (take i operands) (drop i operands)) ∙ ap operands_text (take-append-drop i operands))

-- the operands before one were appended, and a part of it
pub part_at : (old middle new : List ℕ) (operands : List Operand) (i : ℕ) (d : Operand) → i < length operands → middle ≡ old ++ operands_text (take i operands) → IsPart middle new (operand_text (get_or operands i d)) → IsPart old new (operands_text operands)
part_at old middle new operands i d within whole part =
    let P : List ℕ → Type 0 = λ t. IsPart old new t in
    subst P (text_cut operands i d within) (part_second old middle new (operands_text (take i operands)) (operand_text (get_or operands i d) ++ operands_text (drop (suc i) operands)) whole (part_first middle new (operand_text (get_or operands i d)) (operands_text (drop (suc i) operands)) part))

-- the entry at a place of rows that are the table's
pub entry_found : (rows : List Row) (k : ℕ) (d : Row) → entries rows ≡ instruction_table → k < length rows → slice_get instruction_table k ≡ Some (row_entry (get_or rows k d))
entry_found rows k d is within =
    ap (λ t. slice_get t k) (sym is) ∙ (slice_get-map row_entry rows k ∙ ap (option_map row_entry) (slice_get-get_or rows k d within))

-- every form is at most 7
abbrev AreForms : List Entry → Type 0
AreForms [] = Unit {0}
AreForms (entry ∷ rest) = (entry.form ≤ 7) × AreForms rest

form_at : (table : List Entry) (k : ℕ) (entry : Entry) → AreForms table → slice_get table k ≡ Some entry → entry.form ≤ 7
form_at [] k entry all at = cc
form_at (e ∷ rest) zero entry all at =
    let same : e ≡ entry = cc in subst (λ (x : Entry). x.form ≤ 7) same all.0
form_at (e ∷ rest) (suc k) entry all at = form_at rest k entry all.1 at

table_forms : AreForms instruction_table
unfolding instruction_table
table_forms = search rules

pub form_small : (rows : List Row) (k : ℕ) (d : Row) → entries rows ≡ instruction_table → k < length rows → (get_or rows k d).form ≤ 7
form_small rows k d is within =
    form_at instruction_table k (row_entry (get_or rows k d)) table_forms (entry_found rows k d is within)

-- the form's operands of a word's fields are the instruction's
form_of_refilled : (o : Operands) (f : Fields) → form_operands (form_of (refilled o f.a f.b f.m f.t)) f ≡ listed (refilled o f.a f.b f.m f.t)
form_of_refilled op_none f = refl
form_of_refilled (op_a _) f = refl
form_of_refilled (op_m _) f = refl
form_of_refilled (op_t _) f = refl
form_of_refilled (op_a_b _ _) f = refl
form_of_refilled (op_a_m _ _) f = refl
form_of_refilled (op_a_b_m _ _ _) f = refl
form_of_refilled (op_io _ _ _) f = refl
form_of_refilled (op_dma _ _ _) f = refl

entry_listed : (i : Instr) (code : ℕ) (f : Fields) → IsAtCode code i f.a f.b f.m f.t → entry_text (Some (table_entry i)) f ≡ instr_text i
entry_listed i code f at =
    let P : Operands → Type 0 = λ o. form_operands (form_of o) f ≡ listed o in
    ap (λ t. (row_of i).name ++ operands_text t) (subst P (sym at.is_filled) (form_of_refilled (row_of i).operands f))

-- the table's entries don't depend on the fields
same_entries : (a b m t : ℕ) → instruction_table ≡ map table_entry (rows_with a b m t)
unfolding instruction_table
same_entries a b m t = refl

let_through : (i j : Instr) (test : Bool) → (if test then Some i else None) ≡ Some j → i ≡ j
let_through i j true e = cc
let_through i j false e = cc

through : (o : Option Instr) (a b m : ℕ) (j : Instr) → if_clear o a b m ≡ Some j → o ≡ Some j
through None a b m j e = cc
through (Some i) a b m j e = ap Some (let_through i j (rest_is_clear (row_of i).operands a b m) e)

listed_at : (code : ℕ) (f : Fields) (i : Instr) → instr_at code f.a f.b f.m f.t ≡ Some i → entry_text (slice_get instruction_table (code - 1)) f ≡ instr_text i
listed_at zero f i e = cc
listed_at (suc n) f i e =
    let at : slice_get (rows_with f.a f.b f.m f.t) n ≡ Some i = through (slice_get (rows_with f.a f.b f.m f.t) n) f.a f.b f.m i e in
    let place : suc n - 1 ≡ n = omega arith in
    let entry : slice_get instruction_table (suc n - 1) ≡ Some (table_entry i) =
    ap (slice_get instruction_table) place ∙ (ap (λ t. slice_get t n) (same_entries f.a f.b f.m f.t) ∙ (slice_get-map table_entry (rows_with f.a f.b f.m f.t) n ∙ ap (option_map table_entry) at)) in
    ap (λ o. entry_text o f) entry ∙ entry_listed i (1 + n) f (numbered_at (rows_with f.a f.b f.m f.t) 1 n i f.a f.b f.m f.t (rows_numbered f.a f.b f.m f.t) at)

pub text_at_place : (rows : List Row) (k code : ℕ) (d : Row) (f : Fields) → entries rows ≡ instruction_table → k < length rows → k ≡ code - 1 → entry_text (Some (row_entry (get_or rows k d))) f ≡ entry_text (slice_get instruction_table (code - 1)) f
text_at_place rows k code d f is within place =
    ap (λ o. entry_text o f) (sym (entry_found rows k d is within) ∙ ap (slice_get instruction_table) place)

-- the fields of a word, as a record
abbrev fields_of : ℕ → Fields
fields_of w = record { code = code_field w; a = a_field w; b = b_field w; m = m_field w; t = t_field w }

-- what is written for a word that has a row
pub row_listed : (w : ℕ) (f : Fields) (i : Instr) → f ≡ fields_of w → Some i ≡ decoded w → entry_text (slice_get instruction_table (f.code - 1)) f ≡ word_text w
unfolding decoded word_text
row_listed w f i is some =
    ap (λ (g : Fields). entry_text (slice_get instruction_table (g.code - 1)) g) is ∙ (listed_at (code_field w) (fields_of w) i (sym some) ∙ ap text_or_mark some)

-- and for a word that has none
pub mark_listed : (w : ℕ) → None ≡ decoded w → 63 ∷ [] ≡ word_text w
unfolding word_text
mark_listed w none = ap text_or_mark none

row_known : (n a b m t : ℕ) (o : Option Instr) (i : Instr) → slice_get (rows_with a b m t) n ≡ o → if_clear o a b m ≡ Some i → suc n ≤ 25
row_known n a b m t None i at some = cc
row_known n a b m t (Some j) i at some = omega (arith, slice_get_within (rows_with a b m t) n j at)

code_known : (code a b m t : ℕ) (i : Instr) → instr_at code a b m t ≡ Some i → (0 < code) × (code ≤ 25)
code_known zero a b m t i some = cc
code_known (suc n) a b m t i some = (omega arith, row_known n a b m t (slice_get (rows_with a b m t) n) i refl some)

-- a word that has a row has a code from 1 to 25
pub row_code : (w : ℕ) (i : Instr) → Some i ≡ decoded w → (0 < code_field w) × (code_field w ≤ 25)
unfolding decoded
row_code w i some = code_known (code_field w) (a_field w) (b_field w) (m_field w) (t_field w) i (sym some)

-- An end of a copy is read as what it spells, and from nothing else.
use Rattle.std.specs.Prelude.{◌==◌, codes, decimal, if◌then◌else◌, IsTrue}
use Rattle.std.specs.List.{join_with_byte}
use Rattle.std.specs.Option.{option_map}
use Rattle.std.specs.Str.{bytes_eq}
use Rattle.std.proofs.Common.{◌≡◌, ◌∙◌, ℕ, Bool, true, false, List, [], ◌∷◌, ◌++◌, Option, Some, None, refl, sym, ap, subst, append_assoc, arith}
use Rattle.std.proofs.lemmas.Bool.{and_parts, false_from_ne_true, eqb-true}
use Rattle.std.proofs.lemmas.Bool.Decides.{nat_tests}
use Rattle.std.proofs.lemmas.List.Splits.{join_with_byte-slice_split}
use Rattle.std.proofs.lemmas.Slice.Eq.{bytes_eq-Decides}
use Rattle.power_trace.specs.Short.{IsWord}
use Rattle.report_text.proofs.PartLemmas.{Lacks, IsShown, word_shown, shown_both, decimal_word, name_word, word_lacks, lacks_both, split_lacks, split_whole}
use Rattle.report_text.proofs.WordLemmas.{number_of_digits, digits_of_number, some_part}
use Rattle.report_text.specs.Grammar.{IsPlace, place_text}
use Rattle.report_text.specs.Parts.{only_part, split_at}
use Rattle.report_text.specs.Reading.{◌>>=◌, number_in, cell_of, index_of, cell_by, cell_in, place_at, place_in}
use Rattle.report_text.specs.declared.line.ReportPlace.{ReportPlace}
use Rattle.report_text.specs.declared.line.ReportPlace.TheVariants.{Cell, Keep, Address}
use Rattle.task_ast.specs.NameToken.{is_name, is_letter}

same_some : {A : Type 0} (x y : A) → Some x ≡ Some y → x ≡ y
same_some x y e = cc

then_found : {A B : Type 0} (o : Option A) (f : A → Option B) (y : B) → (o >>= f) ≡ Some y → (x : A) × (o ≡ Some x) × (f x ≡ Some y)
then_found None f y e = cc
then_found (Some x) f y e = (x, refl, e)

mapped_found : {A B : Type 0} (f : A → B) (o : Option A) (y : B) → option_map f o ≡ Some y → (x : A) × (o ≡ Some x) × (f x ≡ y)
mapped_found f None y e = cc
mapped_found f (Some x) y e = (x, refl, same_some (f x) y e)

only_found : (parts : List (List ℕ)) (w : List ℕ) → only_part parts ≡ Some w → parts ≡ w ∷ []
only_found [] w e = cc
only_found (v ∷ []) w e = ap (λ x. x ∷ []) (same_some v w e)
only_found (v ∷ u ∷ parts) w e = cc

-- the word spells the place
abbrev pub PlaceSpells : List ℕ → ReportPlace → Type 0
PlaceSpells w p = IsPlace p × (w ≡ place_text p)

cell_joined : (name digits : List ℕ) → name ++ (91 ∷ (digits ++ (93 ∷ []))) ≡ name ++ codes "[" ++ digits ++ codes "]"
cell_joined name digits = sym (append_assoc name (codes "[") (digits ++ codes "]")) ∙ sym (append_assoc (name ++ codes "[") digits (codes "]"))

cell_made : (name digits after : List ℕ) (p : ReportPlace) → cell_of name digits after ≡ Some p → (after ≡ []) × (i : ℕ) × IsWord i × (digits ≡ decimal i) × IsTrue (is_name name) × (Cell name i ≡ p)
cell_made name digits (b ∷ after) p e = cc
cell_made name digits [] p e =
    let i = then_found (number_in digits) (λ i. if is_name name then Some (Cell name i) else None) p e in
    let d = digits_of_number i.0 digits i.1 in
    let n = named (is_name name) refl i.0 i.2 in
    (refl, i.0, d.0, d.1, n.0, n.1)
  where
    named : (t : Bool) → is_name name ≡ t → (i : ℕ) → (if t then Some (Cell name i) else None) ≡ Some p → IsTrue (is_name name) × (Cell name i ≡ p)
    named true is i e = (is, same_some (Cell name i) p e)
    named false is i e = cc

index_found : (name inside : List ℕ) (parts : List (List ℕ)) (p : ReportPlace) → split_at 93 inside ≡ parts → index_of name parts ≡ Some p → PlaceSpells (name ++ (91 ∷ inside)) p
index_found name inside [] p is e = cc
index_found name inside (digits ∷ parts) p is e =
    let after = then_found (only_part parts) (cell_of name digits) p e in
    let only = only_found parts after.0 after.1 in
    let c = cell_made name digits after.0 p after.2 in
    let joined : inside ≡ digits ++ (93 ∷ after.0) = sym (join_with_byte-slice_split 93 inside) ∙ ap (join_with_byte 93) (is ∙ ap (λ ps. digits ∷ ps) only) in
    let text : inside ≡ decimal c.1 ++ (93 ∷ []) = joined ∙ (λ i. c.3 i ++ (93 ∷ c.0 i)) in
    subst (PlaceSpells (name ++ (91 ∷ inside))) c.5 ((c.4, c.2), ap (λ x. name ++ (91 ∷ x)) text ∙ cell_joined name (decimal c.1))

cell_found : (w : List ℕ) (parts : List (List ℕ)) (p : ReportPlace) → split_at 91 w ≡ parts → cell_by parts ≡ Some p → PlaceSpells w p
cell_found w [] p is e = cc
cell_found w (name ∷ parts) p is e =
    let inside = then_found (only_part parts) (λ inside. index_of name (split_at 93 inside)) p e in
    let only = only_found parts inside.0 inside.1 in
    let joined : w ≡ name ++ (91 ∷ inside.0) = sym (join_with_byte-slice_split 91 w) ∙ ap (join_with_byte 91) (is ∙ ap (λ ps. name ∷ ps) only) in
    let f = index_found name inside.0 (split_at 93 inside.0) p refl inside.2 in
    (f.0, joined ∙ f.1)

at_found : (w : List ℕ) (p : ReportPlace) → place_at w ≡ Some p → PlaceSpells w p
at_found [] p e = cell_found [] (split_at 91 []) p refl e
at_found (b ∷ digits) p e = by (b == 64) refl e
  where
    by : (t : Bool) → (b == 64) ≡ t → (if t then option_map Address (number_in digits) else cell_in (b ∷ digits)) ≡ Some p → PlaceSpells (b ∷ digits) p
    by true is e =
        let m = mapped_found Address (number_in digits) p e in
        let d = digits_of_number m.0 digits m.1 in
        let sign : b ≡ 64 = eqb-true b 64 is in
        subst (PlaceSpells (b ∷ digits)) m.2 (d.0, λ i. sign i ∷ d.1 i)
    by false is e = cell_found (b ∷ digits) (split_at 91 (b ∷ digits)) p refl e

-- what is read of a word is spelled by it
pub place_found : (w : List ℕ) (p : ReportPlace) → place_in w ≡ Some p → PlaceSpells w p
place_found w p e = by (bytes_eq w (codes "keep")) refl e
  where
    by : (t : Bool) → bytes_eq w (codes "keep") ≡ t → (if t then Some Keep else place_at w) ≡ Some p → PlaceSpells w p
    by true is e = subst (PlaceSpells w) (same_some Keep p e) (tt, (bytes_eq-Decides w (codes "keep")).0 is)
    by false is e = at_found w p e

-- a word with a `[` isn't `keep`
not_keep : (name inside : List ℕ) → Lacks 91 name → bytes_eq (name ++ (91 ∷ inside)) (codes "keep") ≡ false
not_keep name inside lacks = false_from_ne_true (bytes_eq (name ++ (91 ∷ inside)) (codes "keep"))
    (λ is. differ (split_at 91 inside) (some_part 91 inside) (sym (split_lacks 91 name inside lacks) ∙ ap (split_at 91) ((bytes_eq-Decides (name ++ (91 ∷ inside)) (codes "keep")).0 is)))
  where
    differ : (parts : List (List ℕ)) → (w : List ℕ) × (ws : List (List ℕ)) × (parts ≡ w ∷ ws) → name ∷ parts ≡ codes "keep" ∷ [] → ⊥
    differ [] some e = cc
    differ (v ∷ parts) some e = cc

letter_at : (b : ℕ) → is_letter b ≡ true → (b == 64) ≡ false
letter_at b h = grind (arith, nat_tests)

named_at : (name inside : List ℕ) → is_name name ≡ true → place_at (name ++ (91 ∷ inside)) ≡ cell_in (name ++ (91 ∷ inside))
named_at [] inside h = cc
named_at (b ∷ bs) inside h =
    ap (λ t. if t then option_map Address (number_in (bs ++ (91 ∷ inside))) else cell_in (b ∷ (bs ++ (91 ∷ inside)))) (letter_at b (and_parts (is_letter b) _ h).0)

cell_whole : (name : List ℕ) (i : ℕ) → is_name name ≡ true → IsWord i → cell_in (name ++ (91 ∷ (decimal i ++ (93 ∷ [])))) ≡ Some (Cell name i)
cell_whole name i named small =
    let digits = decimal_word i small in
    let inside_lacks : Lacks 91 (decimal i ++ (93 ∷ [])) = lacks_both 91 (decimal i) (93 ∷ []) (word_lacks 91 refl (decimal i) digits) refl in
    ap cell_by (split_lacks 91 name (decimal i ++ (93 ∷ [])) (word_lacks 91 refl name (name_word name named)) ∙ ap (λ ps. name ∷ ps) (split_whole 91 (decimal i ++ (93 ∷ [])) inside_lacks))
    ∙ ap (index_of name) (split_lacks 93 (decimal i) [] (word_lacks 93 refl (decimal i) digits))
    ∙ ap (λ o. o >>= (λ j. if is_name name then Some (Cell name j) else None)) (number_of_digits i small)
    ∙ ap (λ t. if t then Some (Cell name i) else None) named

-- and what a word spells is read of it
pub place_whole : (p : ReportPlace) → IsPlace p → place_in (place_text p) ≡ Some p
place_whole (Cell name i) h =
    let inside = decimal i ++ (93 ∷ []) in
    ap place_in (sym (cell_joined name (decimal i)))
    ∙ ap (λ t. if t then Some Keep else place_at (name ++ (91 ∷ inside))) (not_keep name inside (word_lacks 91 refl name (name_word name h.0)))
    ∙ named_at name inside h.0
    ∙ cell_whole name i h.0 h.1
place_whole Keep h = refl
place_whole (Address at) h = ap (option_map Address) (number_of_digits at h)

pub place_shown : (p : ReportPlace) → IsPlace p → IsShown (place_text p)
place_shown (Cell name i) h =
    shown_both (name ++ codes "[" ++ decimal i) (codes "]")
    (shown_both (name ++ codes "[") (decimal i) (shown_both name (codes "[") (word_shown name (name_word name h.0)) refl) (word_shown (decimal i) (decimal_word i h.1))) refl
place_shown Keep h = refl
place_shown (Address at) h = word_shown (decimal at) (decimal_word at h)

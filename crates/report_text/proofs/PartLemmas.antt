-- Texts that lack a byte, and how they are parted at it.
use Rattle.std.specs.Prelude.{◌==◌, not, decimal, nat_lt}
use Rattle.std.specs.List.{list_all, join_with_byte, onto_first}
use Rattle.std.proofs.Common.{◌≡◌, ◌∙◌, ℕ, ◌+◌, ◌<◌, ◌≤◌, ◌^◌, ◌%◌, Bool, true, false, List, [], ◌∷◌, ◌++◌, refl, ap, sym, subst, arith}
use Rattle.std.proofs.lemmas.Bool.{and_parts, and_from, not-true, not_from_false, eq-eqb, ne_eqb, false≢true}
use Rattle.std.proofs.lemmas.Bool.Decides.{nat_tests}
use Rattle.std.proofs.lemmas.Fmt.{decimal_by_steps}
use Rattle.std.proofs.lemmas.List.Folds.{list_all-append}
use Rattle.std.proofs.lemmas.List.Splits.{slice_split-cons_yes, slice_split-cons_no}
use Rattle.report_text.specs.Parts.{split_at}
use Rattle.task_ast.specs.NameToken.{is_word_byte, is_letter, is_name}

-- the byte doesn't stand in the text
abbrev pub Lacks : (at : ℕ) → List ℕ → Type 0
Lacks at text = list_all (λ b. not (b == at)) text ≡ true

-- nor in any of the texts
abbrev pub AllLack : (at : ℕ) → List (List ℕ) → Type 0
AllLack at [] = Unit {0}
AllLack at (w ∷ ws) = Lacks at w × AllLack at ws

pub lacks_both : (at : ℕ) (xs ys : List ℕ) → Lacks at xs → Lacks at ys → Lacks at (xs ++ ys)
lacks_both at xs ys h k = list_all-append (λ b. not (b == at)) xs ys ∙ and_from _ _ h k

-- the part before the byte
pub split_lacks : (at : ℕ) (xs ys : List ℕ) → Lacks at xs → split_at at (xs ++ at ∷ ys) ≡ xs ∷ split_at at ys
split_lacks at [] ys h = slice_split-cons_yes (λ b. b == at) at ys (eq-eqb at at refl)
split_lacks at (x ∷ xs) ys h =
    let p = and_parts (not (x == at)) (list_all (λ b. not (b == at)) xs) h in
    slice_split-cons_no (λ b. b == at) x (xs ++ at ∷ ys) (not-true (x == at) p.0) ∙ ap (onto_first x) (split_lacks at xs ys p.1)

-- the only part
pub split_whole : (at : ℕ) (xs : List ℕ) → Lacks at xs → split_at at xs ≡ xs ∷ []
split_whole at [] h = refl
split_whole at (x ∷ xs) h =
    let p = and_parts (not (x == at)) (list_all (λ b. not (b == at)) xs) h in
    slice_split-cons_no (λ b. b == at) x xs (not-true (x == at) p.0) ∙ ap (onto_first x) (split_whole at xs p.1)

-- parts that are joined are parted again
pub split_join : (at : ℕ) (w : List ℕ) (ws : List (List ℕ)) → AllLack at (w ∷ ws) → split_at at (join_with_byte at (w ∷ ws)) ≡ w ∷ ws
split_join at w [] h = split_whole at w h.0
split_join at w (v ∷ ws) h = split_lacks at w (join_with_byte at (v ∷ ws)) h.0 ∙ ap (λ ps. w ∷ ps) (split_join at v ws h.1)

-- a byte that no part has and that doesn't join them
pub join_lacks : (at by : ℕ) → (by == at) ≡ false → (ws : List (List ℕ)) → AllLack at ws → Lacks at (join_with_byte by ws)
join_lacks at by other [] h = refl
join_lacks at by other (w ∷ []) h = h.0
join_lacks at by other (w ∷ v ∷ ws) h =
    lacks_both at w (by ∷ join_with_byte by (v ∷ ws)) h.0 (and_from _ _ (not_from_false (by == at) other) (join_lacks at by other (v ∷ ws) h.1))

onto_lacks : (at x : ℕ) (ws : List (List ℕ)) → not (x == at) ≡ true → AllLack at ws → AllLack at (onto_first x ws)
onto_lacks at x [] other h = (and_from _ _ other refl, tt)
onto_lacks at x (w ∷ ws) other h = (and_from _ _ other h.0, h.1)

-- no part has the byte
pub parts_lack : (at : ℕ) (text : List ℕ) → AllLack at (split_at at text)
parts_lack at [] = (refl, tt)
parts_lack at (x ∷ text) = by_test at x text (x == at) refl (parts_lack at text)
  where
    by_test : (at x : ℕ) (text : List ℕ) (t : Bool) → (x == at) ≡ t → AllLack at (split_at at text) → AllLack at (split_at at (x ∷ text))
    by_test at x text true is h = subst (AllLack at) (sym (slice_split-cons_yes (λ b. b == at) x text is)) (refl, h)
    by_test at x text false is h = subst (AllLack at) (sym (slice_split-cons_no (λ b. b == at) x text is)) (onto_lacks at x (split_at at text) (not_from_false (x == at) is) h)

-- letters, digits and `_`
abbrev pub IsWordText : List ℕ → Type 0
IsWordText w = list_all is_word_byte w ≡ true

differs : (b at : ℕ) → is_word_byte b ≡ true → is_word_byte at ≡ false → not (b == at) ≡ true
differs b at word other = not_from_false (b == at) (ne_eqb b at (λ same. false≢true (sym other ∙ ap is_word_byte (sym same) ∙ word)))

pub word_lacks : (at : ℕ) → is_word_byte at ≡ false → (w : List ℕ) → IsWordText w → Lacks at w
word_lacks at other [] h = refl
word_lacks at other (b ∷ w) h =
    let p = and_parts (is_word_byte b) (list_all is_word_byte w) h in
    and_from _ _ (differs b at p.0 other) (word_lacks at other w p.1)

digit_word : (b : ℕ) → 48 ≤ b → b ≤ 57 → is_word_byte b ≡ true
digit_word b low high = grind (arith, nat_tests)

rest_small : (n : ℕ) → 48 + n % 10 ≤ 57
rest_small n = omega arith

-- digits are such a text
pub decimal_word : (n : ℕ) → n < 2 ^ 32 → IsWordText (decimal n)
decimal_word n small = decimal_by_steps (λ _ ds. IsWordText ds) one more n (omega (arith, small))
  where
    one : (m : ℕ) → m < 10 → IsWordText ((48 + m) ∷ [])
    one m few = and_from _ true (digit_word (48 + m) (omega arith) (omega (arith, few))) refl

    more : (m : ℕ) (ds : List ℕ) → 10 ≤ m → IsWordText ds → IsWordText (ds ++ ((48 + m % 10) ∷ []))
    more m ds big h = list_all-append is_word_byte ds ((48 + m % 10) ∷ []) ∙ and_from _ _ h (and_from _ true (digit_word (48 + m % 10) (omega arith) (rest_small m)) refl)

letter_word : (b : ℕ) → is_letter b ≡ true → is_word_byte b ≡ true
letter_word b h = grind (arith, nat_tests)

-- and so are names
pub name_word : (name : List ℕ) → is_name name ≡ true → IsWordText name
name_word [] h = cc
name_word (b ∷ bs) h = let p = and_parts (is_letter b) (list_all is_word_byte bs) h in and_from _ _ (letter_word b p.0) p.1

-- bytes above the space
abbrev pub IsShown : List ℕ → Type 0
IsShown w = list_all (nat_lt 32) w ≡ true

abbrev pub AllShown : List (List ℕ) → Type 0
AllShown [] = Unit {0}
AllShown (w ∷ ws) = IsShown w × AllShown ws

byte_shown : (b : ℕ) → is_word_byte b ≡ true → nat_lt 32 b ≡ true
byte_shown b h = grind (arith, nat_tests)

pub word_shown : (w : List ℕ) → IsWordText w → IsShown w
word_shown [] h = refl
word_shown (b ∷ w) h = let p = and_parts (is_word_byte b) (list_all is_word_byte w) h in and_from _ _ (byte_shown b p.0) (word_shown w p.1)

pub shown_both : (xs ys : List ℕ) → IsShown xs → IsShown ys → IsShown (xs ++ ys)
shown_both xs ys h k = list_all-append (nat_lt 32) xs ys ∙ and_from _ _ h k

byte_lacks : (at b : ℕ) → at ≤ 32 → nat_lt 32 b ≡ true → not (b == at) ≡ true
byte_lacks at b low h = not_from_false (b == at) (ne_eqb b at (λ same. omega (arith, above_is b h, same, low)))
  where
    above_is : (b : ℕ) → nat_lt 32 b ≡ true → 32 < b
    above_is b h = grind (arith, nat_tests)

shown_lacks : (at : ℕ) → at ≤ 32 → (w : List ℕ) → IsShown w → Lacks at w
shown_lacks at low [] h = refl
shown_lacks at low (b ∷ w) h = let p = and_parts (nat_lt 32 b) (list_all (nat_lt 32) w) h in and_from _ _ (byte_lacks at b low p.0) (shown_lacks at low w p.1)

pub all_lack : (at : ℕ) → at ≤ 32 → (ws : List (List ℕ)) → AllShown ws → AllLack at ws
all_lack at low [] h = tt
all_lack at low (w ∷ ws) h = (shown_lacks at low w h.0, all_lack at low ws h.1)

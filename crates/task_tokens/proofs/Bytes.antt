-- Which bytes are letters, digits, white space; runs of bytes that pass a test.
use Rattle.std.proofs.Common.{◌≡◌, ℕ, Bool, true, false, List, [], ◌∷◌, ◌++◌, refl, sym, ap, ◌∙◌, arith, ◌⊎◌, inl, inr, subst}
use Rattle.std.proofs.lemmas.Bool.{and_parts, and_from, cond-true, cond-false, cases_Bool}
use Rattle.std.proofs.lemmas.Bool.Decides.{nat_tests}
use Rattle.std.proofs.lemmas.List.Sums.{take_while-cons}
use Rattle.std.specs.Char.{is_ascii_digit, is_ascii_hexdigit}
use Rattle.std.specs.List.{list_all, take_while}
use Rattle.task_ast.specs.NameToken.{is_letter, is_word_byte}
use Rattle.task_tokens.specs.Division.{is_white}

pub letter-word : (b : ℕ) → is_letter b ≡ true → is_word_byte b ≡ true
letter-word b h = grind (arith, nat_tests)

pub digit-word : (b : ℕ) → is_ascii_digit b ≡ true → is_word_byte b ≡ true
digit-word b h = grind (arith, nat_tests)

pub hex-word : (b : ℕ) → is_ascii_hexdigit b ≡ true → is_word_byte b ≡ true
hex-word b h = grind (arith, nat_tests)

pub word-letter : (b : ℕ) → is_word_byte b ≡ true → is_ascii_digit b ≡ false → is_letter b ≡ true
word-letter b h d = grind (arith, nat_tests)

pub letter-no_digit : (b : ℕ) → is_letter b ≡ true → is_ascii_digit b ≡ false
letter-no_digit b h = grind (arith, nat_tests)

pub word-no_white : (b : ℕ) → is_word_byte b ≡ true → is_white b ≡ false
word-no_white b h = grind (arith, nat_tests)

-- a test that holds of each byte that another holds of
pub list_all-mono : (p q : ℕ → Bool) → ((b : ℕ) → p b ≡ true → q b ≡ true) → (bs : List ℕ) → list_all p bs ≡ true → list_all q bs ≡ true
list_all-mono p q f [] h = refl
list_all-mono p q f (b ∷ bs) h = let parts = and_parts (p b) (list_all p bs) h in grind (arith, f b parts.0, list_all-mono p q f bs parts.1)

-- the rest begins with no byte that passes
abbrev pub Stops : (ℕ → Bool) → List ℕ → Type 0
Stops p [] = Unit {0}
Stops p (b ∷ bs) = p b ≡ false

pub take_while-stops : (p : ℕ → Bool) (rest : List ℕ) → Stops p rest → take_while p rest ≡ []
take_while-stops p [] h = refl
take_while-stops p (b ∷ bs) h = take_while-cons p b bs ∙ cond-false (p b) (b ∷ take_while p bs) [] h

pub take_while-front : (p : ℕ → Bool) (front rest : List ℕ) → list_all p front ≡ true → Stops p rest → take_while p (front ++ rest) ≡ front
take_while-front p [] rest h s = take_while-stops p rest s
take_while-front p (b ∷ bs) rest h s =
    let parts = and_parts (p b) (list_all p bs) h in
    take_while-cons p b (bs ++ rest) ∙ cond-true (p b) (b ∷ take_while p (bs ++ rest)) [] parts.0 ∙ ap (λ ys. b ∷ ys) (take_while-front p bs rest parts.1 s)

-- a text is its front that passes, and a rest that doesn't begin with what passes
pub record Run (p : ℕ → Bool) (text front : List ℕ) : Type 0 where
  pub rest : List ℕ
  pub whole : text ≡ front ++ rest
  pub passes : list_all p front ≡ true
  pub stops : Stops p rest

run-first : (p : ℕ → Bool) (b : ℕ) (bs : List ℕ) → Run p bs (take_while p bs) → (p b ≡ true) ⊎ (p b ≡ false) → Run p (b ∷ bs) (take_while p (b ∷ bs))
run-first p b bs r (inl held) =
    let e : take_while p (b ∷ bs) ≡ b ∷ take_while p bs = take_while-cons p b bs ∙ cond-true (p b) (b ∷ take_while p bs) [] held in
    subst (Run p (b ∷ bs)) (sym e) (record { rest = r.rest; whole = ap (λ ys. b ∷ ys) r.whole; passes = and_from (p b) _ held r.passes; stops = r.stops })
run-first p b bs r (inr failed) =
    let e : take_while p (b ∷ bs) ≡ [] = take_while-cons p b bs ∙ cond-false (p b) (b ∷ take_while p bs) [] failed in
    subst (Run p (b ∷ bs)) (sym e) (record { rest = b ∷ bs; whole = refl; passes = refl; stops = failed })

pub take_while_run : (p : ℕ → Bool) (text : List ℕ) → Run p text (take_while p text)
take_while_run p [] = record { rest = []; whole = refl; passes = refl; stops = tt }
take_while_run p (b ∷ bs) = run-first p b bs (take_while_run p bs) (cases_Bool (p b))

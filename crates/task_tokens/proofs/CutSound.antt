-- What is cut off a text fits at its front.
use Rattle.std.proofs.Common.{◌≡◌, ℕ, ◌+◌, ◌<◌, ◌≤◌, ◌^◌, Bool, true, false, not, ◌==◌, cond, eqb, List, [], ◌∷◌, ◌++◌, length, drop, Option, Some, None, refl, sym, ap, subst, ◌∙◌, arith, ◌⊎◌, inl, inr, codes, append_assoc, length-append, eqb-true}
use Rattle.std.proofs.lemmas.Bool.{and_parts, and_from, or_from, cond-true, cond-false, cases_Bool, cases_lt, false≢true}
use Rattle.std.proofs.lemmas.List.Sums.{take_while-cons}
use Rattle.std.proofs.lemmas.Option.{none-some, same_Some}
use Rattle.std.specs.Char.{is_ascii_digit}
use Rattle.std.specs.Option.{option_map}
use Rattle.std.specs.List.{list_all, take_while, starts_with}
use Rattle.task_tokens.specs.declared.token.Keyword.{Keyword}
use Rattle.task_tokens.specs.declared.token.Sign.{Sign}
use Rattle.task_tokens.specs.declared.token.Sign.TheVariants as sign
use Rattle.task_tokens.specs.declared.token.Lexeme.{Lexeme}
use Rattle.task_tokens.specs.declared.token.Lexeme.TheVariants.{Name, Number, TooWide, Reserved}
use Rattle.task_tokens.specs.declared.cut.Cut.{Cut}
use Rattle.task_ast.specs.NameToken.{is_letter, is_word_byte}
use Rattle.task_tokens.specs.Spelling.{marks, numeral, Spells, MayStandBefore}
use Rattle.task_tokens.specs.Division.{is_white, Fits, has_end, IsLineEnd}
use Rattle.task_tokens.specs.Cutting.{keyword_of, sign_of, number_lexeme, name_lexeme, run_lexeme, blank, token, run_cut, end_len, ends_comment, symbol_cut, mark_cut, first_cut}
use Rattle.task_tokens.proofs.Bytes.{Stops, Run, take_while_run, word-letter}
use Rattle.task_tokens.proofs.Numerals.{number_lexeme-narrow, number_lexeme-wide}
use Rattle.task_tokens.proofs.Tables.{keyword_of-letters, keyword_of-sound, sign_of-sound, sign_of-stands, starts_with-split, NoComment}

-- the text is the bytes that are cut and a rest, and they fit
pub record CutsOff (text : List ℕ) (c : Cut) : Type 0 where
  pub bytes : List ℕ
  pub rest : List ℕ
  pub whole : text ≡ bytes ++ rest
  pub len : c.len ≡ length bytes
  pub some : 0 < length bytes
  pub fits : Fits bytes rest c.lexeme

mapped_some : {A B : Type 0} (f : A → B) (o : Option A) (y : B) → option_map f o ≡ Some y → (x : A) × (o ≡ Some x) × (f x ≡ y)
mapped_some f None y h = absurd (none-some y h)
mapped_some f (Some x) y h = (x, refl, same_Some (f x) y h)

-- what a run is, it spells, and it may stand before what doesn't go on with it
abbrev IsToken : List ℕ → Lexeme → Type 0
IsToken run x = Spells run x × ((rest : List ℕ) → Stops is_word_byte rest → MayStandBefore rest x)

before-name : (text rest : List ℕ) → Stops is_word_byte rest → MayStandBefore rest (Name text)
before-name text [] h = tt
before-name text (b ∷ bs) h = h

before-reserved : (k : Keyword) (rest : List ℕ) → Stops is_word_byte rest → MayStandBefore rest (Reserved k)
before-reserved k [] h = tt
before-reserved k (b ∷ bs) h = h

before-number : (n : ℕ) (rest : List ℕ) → Stops is_word_byte rest → MayStandBefore rest (Number n)
before-number n [] h = tt
before-number n (b ∷ bs) h = h

before-wide : (rest : List ℕ) → Stops is_word_byte rest → MayStandBefore rest TooWide
before-wide [] h = tt
before-wide (b ∷ bs) h = h

number-token : (run : List ℕ) (n : ℕ) → numeral run ≡ Some n → (n < 2 ^ 32) ⊎ (2 ^ 32 ≤ n) → IsToken run (number_lexeme n)
number-token run n e (inl narrow) = subst (IsToken run) (sym (number_lexeme-narrow n narrow)) ((e, narrow), before-number n)
number-token run n e (inr wide) = subst (IsToken run) (sym (number_lexeme-wide n wide)) ((n, e, wide), before-wide)

name-token : (b : ℕ) (bs : List ℕ) (o : Option Keyword) → is_letter b ≡ true → list_all is_word_byte bs ≡ true → keyword_of (b ∷ bs) ≡ o → IsToken (b ∷ bs) (name_lexeme (b ∷ bs) o)
name-token b bs None letter all e =
    ((refl, and_from (is_letter b) _ letter all, λ k f. none-some k (sym e ∙ ap keyword_of f ∙ keyword_of-letters k)), before-name (b ∷ bs))
name-token b bs (Some k) letter all e = (keyword_of-sound (b ∷ bs) k e, before-reserved k)

run-token : (b : ℕ) (bs : List ℕ) (x : Lexeme) → list_all is_word_byte (b ∷ bs) ≡ true → run_lexeme b (b ∷ bs) ≡ Some x → (is_ascii_digit b ≡ true) ⊎ (is_ascii_digit b ≡ false) → IsToken (b ∷ bs) x
unfolding run_lexeme
run-token b bs x all e (inl digit) =
    let m = mapped_some number_lexeme (numeral (b ∷ bs)) x (sym (cond-true (is_ascii_digit b) (option_map number_lexeme (numeral (b ∷ bs))) _ digit) ∙ e) in
    subst (IsToken (b ∷ bs)) m.2 (number-token (b ∷ bs) m.0 m.1 (cases_lt m.0 (2 ^ 32)))
run-token b bs x all e (inr other) =
    let parts = and_parts (is_word_byte b) (list_all is_word_byte bs) all in
    let f = same_Some _ x (sym (cond-false (is_ascii_digit b) (option_map number_lexeme (numeral (b ∷ bs))) _ other) ∙ e) in
    subst (IsToken (b ∷ bs)) f (name-token b bs (keyword_of (b ∷ bs)) (word-letter b parts.0 other) parts.1 refl)

run-cuts : (b : ℕ) (bs run : List ℕ) (c : Cut) → run ≡ b ∷ take_while is_word_byte bs → Run is_word_byte (b ∷ bs) run → option_map (token (length run)) (run_lexeme b run) ≡ Some c → CutsOff (b ∷ bs) c
run-cuts b bs run c e r h =
    let m = mapped_some (token (length run)) (run_lexeme b run) c h in
    let tail = take_while is_word_byte bs in
    let t = run-token b tail m.0 (subst (λ ys. list_all is_word_byte ys ≡ true) e r.passes) (subst (λ ys. run_lexeme b ys ≡ Some m.0) e m.1) (cases_Bool (is_ascii_digit b)) in
    subst (CutsOff (b ∷ bs)) m.2 (record {
      bytes = run;
      rest = r.rest;
      whole = r.whole;
      len = refl;
      some = subst (λ ys. 0 < length ys) (sym e) (omega arith);
      fits = (subst (λ ys. Spells ys m.0) (sym e) t.0, t.1 r.rest r.stops);
    })

run_cut-sound : (b : ℕ) (bs : List ℕ) (c : Cut) → is_word_byte b ≡ true → run_cut b (b ∷ bs) ≡ Some c → CutsOff (b ∷ bs) c
unfolding run_cut
run_cut-sound b bs c word h =
    run-cuts b bs (take_while is_word_byte (b ∷ bs)) c (take_while-cons is_word_byte b bs ∙ cond-true (is_word_byte b) (b ∷ take_while is_word_byte bs) [] word) (take_while_run is_word_byte (b ∷ bs)) h

line-end : (rest : List ℕ) → Stops (λ b. not (b == 10)) rest → IsLineEnd rest
line-end [] h = tt
line-end (b ∷ bs) h = ends b (eqb b 10) refl h where
  ends : (b : ℕ) (t : Bool) → eqb b 10 ≡ t → not t ≡ false → b ≡ 10
  ends b true e h = eqb-true b 10 e
  ends b false e h = absurd (false≢true (sym h))

line_cut-sound : (text more : List ℕ) (c : Cut) → text ≡ 47 ∷ 47 ∷ more → Some (blank (length (take_while (λ b. not (b == 10)) text))) ≡ Some c → CutsOff text c
line_cut-sound text more c e h =
    let p : ℕ → Bool = λ b. not (b == 10) in
    let r = take_while_run p more in
    let run : take_while p (47 ∷ 47 ∷ more) ≡ 47 ∷ 47 ∷ take_while p more = take_while-cons p 47 (47 ∷ more) ∙ ap (λ ys. 47 ∷ ys) (take_while-cons p 47 more) in
    subst (CutsOff text) (same_Some _ c h) (record {
      bytes = 47 ∷ 47 ∷ take_while p more;
      rest = r.rest;
      whole = e ∙ ap (λ ys. 47 ∷ 47 ∷ ys) r.whole;
      len = ap (λ ys. length (take_while p ys)) e ∙ ap length run;
      some = omega arith;
      fits = inr (inl (take_while p more, refl, r.passes, line-end r.rest r.stops));
    })

-- the bytes up to and with the first `*/`
record Ends (text : List ℕ) (n : ℕ) : Type 0 where
  body : List ℕ
  rest : List ℕ
  whole : text ≡ body ++ 42 ∷ 47 ∷ rest
  open_end : has_end body ≡ false
  len : n ≡ length body + 2

has_end-cons : (b c : ℕ) (bs body rest : List ℕ) → c ∷ bs ≡ body ++ 42 ∷ 47 ∷ rest → ends_comment b c ≡ false → has_end body ≡ false → has_end (b ∷ body) ≡ false
has_end-cons b c bs [] rest e h k = refl
has_end-cons b c bs (d ∷ ds) rest e h k = let f : c ≡ d = cc in or_from (ends_comment b d) _ (subst (λ x. ends_comment b x ≡ false) f h) k

ends-later : (b c : ℕ) (bs : List ℕ) (n : ℕ) → ends_comment b c ≡ false → (m : ℕ) × (end_len (c ∷ bs) ≡ Some m) × (m + 1 ≡ n) → ((m : ℕ) → end_len (c ∷ bs) ≡ Some m → Ends (c ∷ bs) m) → Ends (b ∷ c ∷ bs) n
ends-later b c bs n h m later =
    let r = later m.0 m.1 in
    record { body = b ∷ r.body; rest = r.rest; whole = ap (λ ys. b ∷ ys) r.whole; open_end = has_end-cons b c bs r.body r.rest r.whole h r.open_end; len = omega (arith, m.2, r.len) }

ends-cases : (b c : ℕ) (bs : List ℕ) (n : ℕ) → end_len (b ∷ c ∷ bs) ≡ Some n → ((m : ℕ) → end_len (c ∷ bs) ≡ Some m → Ends (c ∷ bs) m) → (ends_comment b c ≡ true) ⊎ (ends_comment b c ≡ false) → Ends (b ∷ c ∷ bs) n
ends-cases b c bs n h later (inl held) =
    let parts = and_parts (b == 42) (c == 47) held in
    let first = eqb-true b 42 parts.0 in
    let second = eqb-true c 47 parts.1 in
    let e : 2 ≡ n = same_Some 2 n (sym (cond-true (ends_comment b c) (Some 2) _ held) ∙ h) in
    record { body = []; rest = bs; whole = ap (λ x. x ∷ c ∷ bs) first ∙ ap (λ x. 42 ∷ x ∷ bs) second; open_end = refl; len = sym e }
ends-cases b c bs n h later (inr failed) =
    ends-later b c bs n failed (mapped_some (λ m. m + 1) (end_len (c ∷ bs)) n (sym (cond-false (ends_comment b c) (Some 2) _ failed) ∙ h)) later

end_len-sound : (text : List ℕ) (n : ℕ) → end_len text ≡ Some n → Ends text n
end_len-sound [] n h = absurd (none-some n h)
end_len-sound (b ∷ []) n h = absurd (none-some n h)
end_len-sound (b ∷ c ∷ bs) n h = ends-cases b c bs n h (end_len-sound (c ∷ bs)) (cases_Bool (ends_comment b c))

block_cut-sound : (text more : List ℕ) (c : Cut) → text ≡ 47 ∷ 42 ∷ more → option_map (λ n. blank (n + 2)) (end_len more) ≡ Some c → CutsOff text c
block_cut-sound text more c e h =
    let m = mapped_some (λ n. blank (n + 2)) (end_len more) c h in
    let r = end_len-sound more m.0 m.1 in
    subst (CutsOff text) m.2 (record {
      bytes = 47 ∷ 42 ∷ (r.body ++ codes "*/");
      rest = r.rest;
      whole = e ∙ ap (λ ys. 47 ∷ 42 ∷ ys) (r.whole ∙ sym (append_assoc r.body (codes "*/") r.rest));
      len = omega (arith, r.len, length-append r.body (codes "*/"));
      some = omega arith;
      fits = inr (inr (r.body, refl, r.open_end));
    })

sign_some : (s : Sign) → 0 < length (marks s)
sign_some sign.EqualEqual = omega arith
sign_some sign.BangEqual = omega arith
sign_some sign.LessEqual = omega arith
sign_some sign.GreaterEqual = omega arith
sign_some sign.LessLess = omega arith
sign_some sign.GreaterGreater = omega arith
sign_some sign.AmpersandAmpersand = omega arith
sign_some sign.BarBar = omega arith
sign_some sign.PlusPlus = omega arith
sign_some sign.BraceOpen = omega arith
sign_some sign.BraceClose = omega arith
sign_some sign.ParenOpen = omega arith
sign_some sign.ParenClose = omega arith
sign_some sign.BracketOpen = omega arith
sign_some sign.BracketClose = omega arith
sign_some sign.Semicolon = omega arith
sign_some sign.Comma = omega arith
sign_some sign.Equal = omega arith
sign_some sign.Ampersand = omega arith
sign_some sign.Bar = omega arith
sign_some sign.Caret = omega arith
sign_some sign.Tilde = omega arith
sign_some sign.Bang = omega arith
sign_some sign.Plus = omega arith
sign_some sign.Minus = omega arith
sign_some sign.Star = omega arith
sign_some sign.Slash = omega arith
sign_some sign.Percent = omega arith
sign_some sign.Less = omega arith
sign_some sign.Greater = omega arith

sign_cut-sound : (text : List ℕ) (c : Cut) → NoComment text → option_map symbol_cut (sign_of text) ≡ Some c → CutsOff text c
sign_cut-sound text c n h =
    let m = mapped_some symbol_cut (sign_of text) c h in
    let rest = drop (length (marks m.0)) text in
    let e = sign_of-sound text m.0 m.1 in
    subst (CutsOff text) m.2 (record {
      bytes = marks m.0;
      rest = rest;
      whole = e;
      len = refl;
      some = sign_some m.0;
      fits = (refl, sign_of-stands m.0 rest (subst (λ t. sign_of t ≡ Some m.0) e m.1) (subst NoComment e n));
    })

block-or-sign : (text : List ℕ) (c : Cut) → starts_with ◌==◌ text (codes "//") ≡ false → cond (starts_with ◌==◌ text (codes "/*")) (option_map (λ n. blank (n + 2)) (end_len (drop 2 text))) (option_map symbol_cut (sign_of text)) ≡ Some c → (starts_with ◌==◌ text (codes "/*") ≡ true) ⊎ (starts_with ◌==◌ text (codes "/*") ≡ false) → CutsOff text c
block-or-sign text c line h (inl held) =
    block_cut-sound text (drop 2 text) c (starts_with-split text (codes "/*") held) (sym (cond-true (starts_with ◌==◌ text (codes "/*")) _ _ held) ∙ h)
block-or-sign text c line h (inr failed) =
    sign_cut-sound text c (record { line = line; block = failed }) (sym (cond-false (starts_with ◌==◌ text (codes "/*")) _ _ failed) ∙ h)

mark-cases : (text : List ℕ) (c : Cut) → mark_cut text ≡ Some c → (starts_with ◌==◌ text (codes "//") ≡ true) ⊎ (starts_with ◌==◌ text (codes "//") ≡ false) → CutsOff text c
unfolding mark_cut
mark-cases text c h (inl held) =
    line_cut-sound text (drop 2 text) c (starts_with-split text (codes "//") held) (sym (cond-true (starts_with ◌==◌ text (codes "//")) _ _ held) ∙ h)
mark-cases text c h (inr failed) =
    block-or-sign text c failed (sym (cond-false (starts_with ◌==◌ text (codes "//")) _ _ failed) ∙ h) (cases_Bool (starts_with ◌==◌ text (codes "/*")))

word-or-mark : (b : ℕ) (bs : List ℕ) (c : Cut) → cond (is_word_byte b) (run_cut b (b ∷ bs)) (mark_cut (b ∷ bs)) ≡ Some c → (is_word_byte b ≡ true) ⊎ (is_word_byte b ≡ false) → CutsOff (b ∷ bs) c
word-or-mark b bs c h (inl held) = run_cut-sound b bs c held (sym (cond-true (is_word_byte b) _ _ held) ∙ h)
word-or-mark b bs c h (inr failed) = mark-cases (b ∷ bs) c (sym (cond-false (is_word_byte b) _ _ failed) ∙ h) (cases_Bool (starts_with ◌==◌ (b ∷ bs) (codes "//")))

cut-cases : (b : ℕ) (bs : List ℕ) (c : Cut) → first_cut (b ∷ bs) ≡ Some c → (is_white b ≡ true) ⊎ (is_white b ≡ false) → CutsOff (b ∷ bs) c
unfolding first_cut
cut-cases b bs c h (inl held) =
    subst (CutsOff (b ∷ bs)) (same_Some (blank 1) c (sym (cond-true (is_white b) (Some (blank 1)) _ held) ∙ h)) (record { bytes = b ∷ []; rest = bs; whole = refl; len = refl; some = omega arith; fits = inl (b, refl, held) })
cut-cases b bs c h (inr failed) = word-or-mark b bs c (sym (cond-false (is_white b) (Some (blank 1)) _ failed) ∙ h) (cases_Bool (is_word_byte b))

-- what is cut fits at the front
pub cut_sound : (text : List ℕ) (c : Cut) → first_cut text ≡ Some c → CutsOff text c
unfolding first_cut
cut_sound [] c h = absurd (none-some c h)
cut_sound (b ∷ bs) c h = cut-cases b bs c h (cases_Bool (is_white b))

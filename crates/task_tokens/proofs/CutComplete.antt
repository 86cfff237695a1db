-- What fits at the front of a text is what is cut.
use Rattle.std.proofs.Common.{◌≡◌, ◌≢◌, ℕ, suc, ◌+◌, true, false, not, ◌||◌, ◌==◌, eqb, List, [], ◌∷◌, ◌++◌, length, Option, Some, None, refl, sym, ap, subst, ◌∙◌, arith, ◌⊎◌, inl, inr, codes, append_assoc, length-append}
use Rattle.std.proofs.lemmas.Bool.{and_parts, and_from, or_parts, cond-true, cond-false, cases_Bool, false≢true}
use Rattle.std.specs.Char.{is_ascii_digit}
use Rattle.std.specs.Option.{option_map}
use Rattle.std.specs.List.{list_all}
use Rattle.task_tokens.specs.declared.token.Keyword.{Keyword}
use Rattle.task_tokens.specs.declared.token.Keyword.TheVariants as keyword
use Rattle.task_tokens.specs.declared.token.Sign.{Sign}
use Rattle.task_tokens.specs.declared.token.Sign.TheVariants as sign
use Rattle.task_tokens.specs.declared.token.Lexeme.{Lexeme}
use Rattle.task_tokens.specs.declared.token.Lexeme.TheVariants.{Name, Number, TooWide, Reserved, Symbol}
use Rattle.task_ast.specs.NameToken.{is_letter, is_name, is_word_byte}
use Rattle.task_tokens.specs.Spelling.{letters, marks, numeral, MayStandBefore}
use Rattle.task_tokens.specs.Division.{is_white, Fits, has_end, IsLineEnd}
use Rattle.task_tokens.specs.Cutting.{keyword_of, sign_of, number_lexeme, name_lexeme, run_lexeme, blank, token, run_cut, end_len, ends_comment, symbol_cut, mark_cut, first_cut}
use Rattle.task_tokens.proofs.Bytes.{Stops, take_while-front, word-no_white, letter-word, letter-no_digit}
use Rattle.task_tokens.proofs.Numerals.{numeral-word, numeral-first, number_lexeme-narrow, number_lexeme-wide}
use Rattle.task_tokens.proofs.Tables.{keyword_of-letters, keyword_of-sound, sign_of-marks}

first_cut-white : (b : ℕ) (bs : List ℕ) → is_white b ≡ true → first_cut (b ∷ bs) ≡ Some (blank 1)
unfolding first_cut
first_cut-white b bs h = cond-true (is_white b) (Some (blank 1)) _ h

first_cut-word : (b : ℕ) (bs : List ℕ) → is_word_byte b ≡ true → first_cut (b ∷ bs) ≡ run_cut b (b ∷ bs)
unfolding first_cut
first_cut-word b bs h = cond-false (is_white b) (Some (blank 1)) _ (word-no_white b h) ∙ cond-true (is_word_byte b) (run_cut b (b ∷ bs)) (mark_cut (b ∷ bs)) h

-- a whole run is cut
run_cut-front : (b : ℕ) (front rest : List ℕ) (x : Lexeme) → list_all is_word_byte front ≡ true → Stops is_word_byte rest → run_lexeme b front ≡ Some x → run_cut b (front ++ rest) ≡ Some (token (length front) x)
unfolding run_cut
run_cut-front b front rest x all stops e =
    ap (λ run. option_map (token (length run)) (run_lexeme b run)) (take_while-front is_word_byte front rest all stops) ∙ ap (option_map (token (length front))) e

-- the token is a run that begins with a letter, a digit or `_`
word_cut : (bytes rest : List ℕ) (x : Lexeme) → bytes ≢ [] → list_all is_word_byte bytes ≡ true → Stops is_word_byte rest → ((b : ℕ) (bs : List ℕ) → bytes ≡ b ∷ bs → run_lexeme b bytes ≡ Some x) → first_cut (bytes ++ rest) ≡ Some (token (length bytes) x)
word_cut [] rest x some all stops e = absurd (some refl)
word_cut (b ∷ bs) rest x some all stops e =
    first_cut-word b (bs ++ rest) (and_parts (is_word_byte b) (list_all is_word_byte bs) all).0 ∙ run_cut-front b (b ∷ bs) rest x all stops (e b bs refl)

run_lexeme-number : (b : ℕ) (bs : List ℕ) (n : ℕ) (x : Lexeme) → numeral (b ∷ bs) ≡ Some n → number_lexeme n ≡ x → run_lexeme b (b ∷ bs) ≡ Some x
unfolding run_lexeme
run_lexeme-number b bs n x e f =
    cond-true (is_ascii_digit b) (option_map number_lexeme (numeral (b ∷ bs))) _ (numeral-first b bs n e) ∙ ap (option_map number_lexeme) e ∙ ap Some f

run_lexeme-letter : (b : ℕ) (run : List ℕ) → is_letter b ≡ true → run_lexeme b run ≡ Some (name_lexeme run (keyword_of run))
unfolding run_lexeme
run_lexeme-letter b run h = cond-false (is_ascii_digit b) (option_map number_lexeme (numeral run)) _ (letter-no_digit b h)

number_cut : (bytes rest : List ℕ) (n : ℕ) (x : Lexeme) → numeral bytes ≡ Some n → number_lexeme n ≡ x → Stops is_word_byte rest → first_cut (bytes ++ rest) ≡ Some (token (length bytes) x)
number_cut [] rest n x e f stops = absurd (let k : ◌≡◌ {A = Option ℕ} None (Some n) = e in cc)
number_cut (b ∷ bs) rest n x e f stops =
    word_cut (b ∷ bs) rest x (λ k. cc) (numeral-word (b ∷ bs) n e) stops (λ c cs k. let h : b ≡ c = cc in subst (λ d. run_lexeme d (b ∷ bs) ≡ Some x) h (run_lexeme-number b bs n x e f))

no_keyword : (bytes : List ℕ) (o : Option Keyword) → keyword_of bytes ≡ o → ((k : Keyword) → bytes ≢ letters k) → o ≡ None
no_keyword bytes None e n = refl
no_keyword bytes (Some k) e n = absurd (n k (keyword_of-sound bytes k e))

letter_cut : (b : ℕ) (bs rest : List ℕ) (x : Lexeme) → is_letter b ≡ true → list_all is_word_byte bs ≡ true → Stops is_word_byte rest → name_lexeme (b ∷ bs) (keyword_of (b ∷ bs)) ≡ x → first_cut (b ∷ (bs ++ rest)) ≡ Some (token (length (b ∷ bs)) x)
letter_cut b bs rest x h all stops e =
    first_cut-word b (bs ++ rest) (letter-word b h) ∙ run_cut-front b (b ∷ bs) rest x (and_from (is_word_byte b) _ (letter-word b h) all) stops (run_lexeme-letter b (b ∷ bs) h ∙ ap Some e)

name_cut : (bytes rest : List ℕ) → is_name bytes ≡ true → ((k : Keyword) → bytes ≢ letters k) → Stops is_word_byte rest → first_cut (bytes ++ rest) ≡ Some (token (length bytes) (Name bytes))
name_cut [] rest h n stops = absurd (false≢true h)
name_cut (b ∷ bs) rest h n stops =
    let parts = and_parts (is_letter b) (list_all is_word_byte bs) h in
    letter_cut b bs rest (Name (b ∷ bs)) parts.0 parts.1 stops (ap (name_lexeme (b ∷ bs)) (no_keyword (b ∷ bs) (keyword_of (b ∷ bs)) refl n))

reserved_cut : (k : Keyword) (rest : List ℕ) → Stops is_word_byte rest → first_cut (letters k ++ rest) ≡ Some (token (length (letters k)) (Reserved k))
reserved_cut keyword.Nv rest stops = letter_cut 110 (codes "v") rest (Reserved keyword.Nv) refl refl stops (ap (name_lexeme (codes "nv")) (keyword_of-letters keyword.Nv))
reserved_cut keyword.Const rest stops = letter_cut 99 (codes "onst") rest (Reserved keyword.Const) refl refl stops (ap (name_lexeme (codes "const")) (keyword_of-letters keyword.Const))
reserved_cut keyword.Word rest stops = letter_cut 119 (codes "ord") rest (Reserved keyword.Word) refl refl stops (ap (name_lexeme (codes "word")) (keyword_of-letters keyword.Word))
reserved_cut keyword.Peripheral rest stops = letter_cut 112 (codes "eripheral") rest (Reserved keyword.Peripheral) refl refl stops (ap (name_lexeme (codes "peripheral")) (keyword_of-letters keyword.Peripheral))
reserved_cut keyword.Task rest stops = letter_cut 116 (codes "ask") rest (Reserved keyword.Task) refl refl stops (ap (name_lexeme (codes "task")) (keyword_of-letters keyword.Task))
reserved_cut keyword.If rest stops = letter_cut 105 (codes "f") rest (Reserved keyword.If) refl refl stops (ap (name_lexeme (codes "if")) (keyword_of-letters keyword.If))
reserved_cut keyword.Else rest stops = letter_cut 101 (codes "lse") rest (Reserved keyword.Else) refl refl stops (ap (name_lexeme (codes "else")) (keyword_of-letters keyword.Else))
reserved_cut keyword.For rest stops = letter_cut 102 (codes "or") rest (Reserved keyword.For) refl refl stops (ap (name_lexeme (codes "for")) (keyword_of-letters keyword.For))
reserved_cut keyword.Io rest stops = letter_cut 73 (codes "O") rest (Reserved keyword.Io) refl refl stops (ap (name_lexeme (codes "IO")) (keyword_of-letters keyword.Io))
reserved_cut keyword.IoBlock rest stops = letter_cut 73 (codes "O_BLOCK") rest (Reserved keyword.IoBlock) refl refl stops (ap (name_lexeme (codes "IO_BLOCK")) (keyword_of-letters keyword.IoBlock))
reserved_cut keyword.Dma rest stops = letter_cut 68 (codes "MA") rest (Reserved keyword.Dma) refl refl stops (ap (name_lexeme (codes "DMA")) (keyword_of-letters keyword.Dma))
reserved_cut keyword.Next rest stops = letter_cut 78 (codes "EXT") rest (Reserved keyword.Next) refl refl stops (ap (name_lexeme (codes "NEXT")) (keyword_of-letters keyword.Next))
reserved_cut keyword.Stop rest stops = letter_cut 83 (codes "TOP") rest (Reserved keyword.Stop) refl refl stops (ap (name_lexeme (codes "STOP")) (keyword_of-letters keyword.Stop))
reserved_cut keyword.Single rest stops = letter_cut 83 (codes "INGLE") rest (Reserved keyword.Single) refl refl stops (ap (name_lexeme (codes "SINGLE")) (keyword_of-letters keyword.Single))
reserved_cut keyword.Timely rest stops = letter_cut 84 (codes "IMELY") rest (Reserved keyword.Timely) refl refl stops (ap (name_lexeme (codes "TIMELY")) (keyword_of-letters keyword.Timely))
reserved_cut keyword.Always rest stops = letter_cut 65 (codes "LWAYS") rest (Reserved keyword.Always) refl refl stops (ap (name_lexeme (codes "ALWAYS")) (keyword_of-letters keyword.Always))

-- the bytes before the first `*/`
end_len-one : (b : ℕ) (rest : List ℕ) → (eqb b 42 ≡ true) ⊎ (eqb b 42 ≡ false) → end_len (b ∷ 42 ∷ 47 ∷ rest) ≡ Some 3
end_len-one b rest (inl held) = rw held refl
end_len-one b rest (inr failed) = rw failed refl

end_len-front : (body rest : List ℕ) → has_end body ≡ false → end_len (body ++ 42 ∷ 47 ∷ rest) ≡ Some (length body + 2)
end_len-front [] rest h = refl
end_len-front (b ∷ []) rest h = end_len-one b rest (cases_Bool (eqb b 42))
end_len-front (b ∷ c ∷ bs) rest h =
    let parts = or_parts (ends_comment b c) (has_end (c ∷ bs)) h in
    cond-false (ends_comment b c) (Some 2) _ parts.0 ∙ ap (option_map (λ n. n + 1)) (end_len-front (c ∷ bs) rest parts.1) ∙ ap Some (omega arith)

block_cut : (body rest : List ℕ) → has_end body ≡ false → first_cut (47 ∷ 42 ∷ ((body ++ codes "*/") ++ rest)) ≡ Some (blank (suc (suc (length (body ++ codes "*/")))))
unfolding first_cut mark_cut
block_cut body rest h =
    ap (option_map (λ n. blank (n + 2))) (ap end_len (append_assoc body (codes "*/") rest) ∙ end_len-front body rest h)
    ∙ ap (λ n. Some (blank n)) (omega (arith, length-append body (codes "*/")))

line-stops : (rest : List ℕ) → IsLineEnd rest → Stops (λ b. not (b == 10)) rest
line-stops [] h = tt
line-stops (b ∷ bs) h = rw h refl

line_cut : (body rest : List ℕ) → list_all (λ b. not (b == 10)) body ≡ true → IsLineEnd rest → first_cut (47 ∷ 47 ∷ (body ++ rest)) ≡ Some (blank (suc (suc (length body))))
unfolding first_cut mark_cut
line_cut body rest all h = ap (λ run. Some (blank (length run))) (take_while-front (λ b. not (b == 10)) (47 ∷ 47 ∷ body) rest all (line-stops rest h))

mark_cut-sign : (s : Sign) (rest : List ℕ) → MayStandBefore rest (Symbol s) → first_cut (marks s ++ rest) ≡ option_map symbol_cut (sign_of (marks s ++ rest))
unfolding first_cut mark_cut
mark_cut-sign sign.EqualEqual rest h = refl
mark_cut-sign sign.BangEqual rest h = refl
mark_cut-sign sign.LessEqual rest h = refl
mark_cut-sign sign.GreaterEqual rest h = refl
mark_cut-sign sign.LessLess rest h = refl
mark_cut-sign sign.GreaterGreater rest h = refl
mark_cut-sign sign.AmpersandAmpersand rest h = refl
mark_cut-sign sign.BarBar rest h = refl
mark_cut-sign sign.PlusPlus rest h = refl
mark_cut-sign sign.BraceOpen rest h = refl
mark_cut-sign sign.BraceClose rest h = refl
mark_cut-sign sign.ParenOpen rest h = refl
mark_cut-sign sign.ParenClose rest h = refl
mark_cut-sign sign.BracketOpen rest h = refl
mark_cut-sign sign.BracketClose rest h = refl
mark_cut-sign sign.Semicolon rest h = refl
mark_cut-sign sign.Comma rest h = refl
mark_cut-sign sign.Equal rest h = refl
mark_cut-sign sign.Ampersand rest h = refl
mark_cut-sign sign.Bar rest h = refl
mark_cut-sign sign.Caret rest h = refl
mark_cut-sign sign.Tilde rest h = refl
mark_cut-sign sign.Bang rest h = refl
mark_cut-sign sign.Plus rest h = refl
mark_cut-sign sign.Minus rest h = refl
mark_cut-sign sign.Star rest h = refl
mark_cut-sign sign.Slash [] h = refl
mark_cut-sign sign.Slash (c ∷ cs) h = rw ((or_parts (eqb 47 c) (eqb 42 c || false) h).0, (or_parts (eqb 42 c) false (or_parts (eqb 47 c) (eqb 42 c || false) h).1).0) refl
mark_cut-sign sign.Percent rest h = refl
mark_cut-sign sign.Less rest h = refl
mark_cut-sign sign.Greater rest h = refl

sign_cut : (s : Sign) (rest : List ℕ) → MayStandBefore rest (Symbol s) → first_cut (marks s ++ rest) ≡ Some (symbol_cut s)
sign_cut s rest h = mark_cut-sign s rest h ∙ ap (option_map symbol_cut) (sign_of-marks s rest h)

stops-name : (rest : List ℕ) (text : List ℕ) → MayStandBefore rest (Name text) → Stops is_word_byte rest
stops-name [] text h = tt
stops-name (b ∷ bs) text h = h

stops-number : (rest : List ℕ) (n : ℕ) → MayStandBefore rest (Number n) → Stops is_word_byte rest
stops-number [] n h = tt
stops-number (b ∷ bs) n h = h

stops-wide : (rest : List ℕ) → MayStandBefore rest TooWide → Stops is_word_byte rest
stops-wide [] h = tt
stops-wide (b ∷ bs) h = h

stops-reserved : (rest : List ℕ) (k : Keyword) → MayStandBefore rest (Reserved k) → Stops is_word_byte rest
stops-reserved [] k h = tt
stops-reserved (b ∷ bs) k h = h

-- what is cut at the front of some bytes and a rest
abbrev IsCut : Option Lexeme → List ℕ → List ℕ → Type 0
IsCut lexeme rest bytes = first_cut (bytes ++ rest) ≡ Some (record { len = length bytes; lexeme = lexeme })

-- what fits before the rest is cut off
pub cut_complete : (bytes rest : List ℕ) (lexeme : Option Lexeme) → Fits bytes rest lexeme → IsCut lexeme rest bytes
cut_complete bytes rest None (inl white) = subst (IsCut None rest) (sym white.1) (first_cut-white white.0 rest white.2)
cut_complete bytes rest None (inr (inl line)) = subst (IsCut None rest) (sym line.1) (line_cut line.0 rest line.2 line.3)
cut_complete bytes rest None (inr (inr block)) = subst (IsCut None rest) (sym block.1) (block_cut block.0 rest block.2)
cut_complete bytes rest (Some (Name text)) (spells, before) = subst (λ t. IsCut (Some (Name t)) rest bytes) (sym spells.0) (name_cut bytes rest spells.1 spells.2 (stops-name rest text before))
cut_complete bytes rest (Some (Number n)) (spells, before) = number_cut bytes rest n (Number n) spells.0 (number_lexeme-narrow n spells.1) (stops-number rest n before)
cut_complete bytes rest (Some TooWide) (spells, before) = number_cut bytes rest spells.0 TooWide spells.1 (number_lexeme-wide spells.0 spells.2) (stops-wide rest before)
cut_complete bytes rest (Some (Reserved k)) (spells, before) = subst (IsCut (Some (Reserved k)) rest) (sym spells) (reserved_cut k rest (stops-reserved rest k before))
cut_complete bytes rest (Some (Symbol s)) (spells, before) = subst (IsCut (Some (Symbol s)) rest) (sym spells) (sign_cut s rest before)

-- The tables of reserved words and signs, looked up.
use Rattle.std.proofs.Common.{◌≡◌, ◌<◌, ◌≤◌, ℕ, Option, None, arith, Bool, true, false, ◌&&◌, ◌||◌, ◌==◌, eqb, List, [], ◌∷◌, ◌++◌, length, take, drop, Some, refl, sym, ap, ◌∙◌, ◌⊎◌, inl, inr, eqb-true, take-append-drop, codes}
use Rattle.std.proofs.lemmas.Bool.{and_parts, cond-true, cond-false, cases_Bool, false≢true, or_parts, or_from}
use Rattle.std.proofs.lemmas.Option.{none-some, same_Some}
use Rattle.std.specs.List.{find, starts_with}
use Rattle.std.specs.Cmp.Lexicographic.{pointwise}
use Rattle.task_tokens.specs.declared.token.Keyword.{Keyword}
use Rattle.task_tokens.specs.declared.token.Keyword.TheVariants as keyword
use Rattle.task_tokens.specs.declared.token.Sign.{Sign}
use Rattle.task_tokens.specs.declared.token.Sign.TheVariants as sign
use Rattle.task_tokens.specs.declared.token.Lexeme.TheVariants.{Symbol}
use Rattle.task_tokens.specs.declared.token.TheConstants.{KEYWORDS, SIGNS}
use Rattle.task_tokens.specs.Spelling.{letters, marks, longer, is_among, MayStandBefore}
use Rattle.task_tokens.specs.Cutting.{keyword_of, sign_of}

find-first : {X : Type 0} (p : X → Bool) (y : X) (ys : List X) (x : X) → find p (y ∷ ys) ≡ Some x → (find p ys ≡ Some x → p x ≡ true) → (p y ≡ true) ⊎ (p y ≡ false) → p x ≡ true
find-first p y ys x h later (inl held) = ap p (sym (same_Some y x (sym (cond-true (p y) (Some y) (find p ys) held) ∙ h))) ∙ held
find-first p y ys x h later (inr failed) = later (sym (cond-false (p y) (Some y) (find p ys) failed) ∙ h)

-- what is found passes the test
pub find-passes : {X : Type 0} (p : X → Bool) (xs : List X) (x : X) → find p xs ≡ Some x → p x ≡ true
find-passes p [] x h = absurd (none-some x h)
find-passes p (y ∷ ys) x h = find-first p y ys x h (find-passes p ys x) (cases_Bool (p y))

pub pointwise-same : (xs ys : List ℕ) → pointwise ◌==◌ xs ys ≡ true → xs ≡ ys
pointwise-same [] [] h = refl
pointwise-same [] (y ∷ ys) h = absurd (false≢true h)
pointwise-same (x ∷ xs) [] h = absurd (false≢true h)
pointwise-same (x ∷ xs) (y ∷ ys) h =
    let parts = and_parts (x == y) (pointwise ◌==◌ xs ys) h in
    let e = eqb-true x y parts.0 in
    let f = pointwise-same xs ys parts.1 in cc

-- what begins with the bytes is the bytes and the rest
pub starts_with-split : (text bytes : List ℕ) → starts_with ◌==◌ text bytes ≡ true → text ≡ bytes ++ drop (length bytes) text
starts_with-split text bytes h = sym (take-append-drop (length bytes) text) ∙ ap (λ xs. xs ++ drop (length bytes) text) (sym (pointwise-same bytes (take (length bytes) text) h))

pub keyword_of-letters : (k : Keyword) → keyword_of (letters k) ≡ Some k
unfolding keyword_of
keyword_of-letters keyword.Nv = refl
keyword_of-letters keyword.Const = refl
keyword_of-letters keyword.Word = refl
keyword_of-letters keyword.Peripheral = refl
keyword_of-letters keyword.Task = refl
keyword_of-letters keyword.If = refl
keyword_of-letters keyword.Else = refl
keyword_of-letters keyword.For = refl
keyword_of-letters keyword.Io = refl
keyword_of-letters keyword.IoBlock = refl
keyword_of-letters keyword.Dma = refl
keyword_of-letters keyword.Next = refl
keyword_of-letters keyword.Stop = refl
keyword_of-letters keyword.Single = refl
keyword_of-letters keyword.Timely = refl
keyword_of-letters keyword.Always = refl

pub keyword_of-sound : (word : List ℕ) (k : Keyword) → keyword_of word ≡ Some k → word ≡ letters k
unfolding keyword_of
keyword_of-sound word k h = sym (pointwise-same (letters k) word (find-passes (λ k. pointwise ◌==◌ (letters k) word) KEYWORDS k h))

two_letters : (k : Keyword) → 2 ≤ length (letters k)
two_letters keyword.Nv = omega arith
two_letters keyword.Const = omega arith
two_letters keyword.Word = omega arith
two_letters keyword.Peripheral = omega arith
two_letters keyword.Task = omega arith
two_letters keyword.If = omega arith
two_letters keyword.Else = omega arith
two_letters keyword.For = omega arith
two_letters keyword.Io = omega arith
two_letters keyword.IoBlock = omega arith
two_letters keyword.Dma = omega arith
two_letters keyword.Next = omega arith
two_letters keyword.Stop = omega arith
two_letters keyword.Single = omega arith
two_letters keyword.Timely = omega arith
two_letters keyword.Always = omega arith

-- a word of one byte is no keyword
pub short_free : (word : List ℕ) → length word < 2 → keyword_of word ≡ None
short_free word short = by_answer (keyword_of word) refl
  where
    by_answer : (o : Option Keyword) → keyword_of word ≡ o → keyword_of word ≡ None
    by_answer None e = e
    by_answer (Some k) e = absurd (let is = keyword_of-sound word k e in let n = two_letters k in let no : ⊥ = omega (arith, short, ap length is, n) in no)

pub sign_of-sound : (text : List ℕ) (s : Sign) → sign_of text ≡ Some s → text ≡ marks s ++ drop (length (marks s)) text
unfolding sign_of
sign_of-sound text s h = starts_with-split text (marks s) (find-passes (λ s. starts_with ◌==◌ text (marks s)) SIGNS s h)

-- a sign that no longer one is made of is found
found-Equal : (c : ℕ) (cs : List ℕ) → eqb 61 c ≡ false → sign_of (61 ∷ c ∷ cs) ≡ Some sign.Equal
unfolding sign_of
found-Equal c cs failed = rw failed refl

found-Ampersand : (c : ℕ) (cs : List ℕ) → eqb 38 c ≡ false → sign_of (38 ∷ c ∷ cs) ≡ Some sign.Ampersand
unfolding sign_of
found-Ampersand c cs failed = rw failed refl

found-Bar : (c : ℕ) (cs : List ℕ) → eqb 124 c ≡ false → sign_of (124 ∷ c ∷ cs) ≡ Some sign.Bar
unfolding sign_of
found-Bar c cs failed = rw failed refl

found-Bang : (c : ℕ) (cs : List ℕ) → eqb 61 c ≡ false → sign_of (33 ∷ c ∷ cs) ≡ Some sign.Bang
unfolding sign_of
found-Bang c cs failed = rw failed refl

found-Plus : (c : ℕ) (cs : List ℕ) → eqb 43 c ≡ false → sign_of (43 ∷ c ∷ cs) ≡ Some sign.Plus
unfolding sign_of
found-Plus c cs failed = rw failed refl

found-Less : (c : ℕ) (cs : List ℕ) → eqb 60 c ≡ false → eqb 61 c ≡ false → sign_of (60 ∷ c ∷ cs) ≡ Some sign.Less
unfolding sign_of
found-Less c cs failed other = rw (failed, other) refl

found-Greater : (c : ℕ) (cs : List ℕ) → eqb 62 c ≡ false → eqb 61 c ≡ false → sign_of (62 ∷ c ∷ cs) ≡ Some sign.Greater
unfolding sign_of
found-Greater c cs failed other = rw (failed, other) refl

pub sign_of-marks : (s : Sign) (rest : List ℕ) → MayStandBefore rest (Symbol s) → sign_of (marks s ++ rest) ≡ Some s
unfolding sign_of
sign_of-marks sign.EqualEqual rest h = refl
sign_of-marks sign.BangEqual rest h = refl
sign_of-marks sign.LessEqual rest h = refl
sign_of-marks sign.GreaterEqual rest h = refl
sign_of-marks sign.LessLess rest h = refl
sign_of-marks sign.GreaterGreater rest h = refl
sign_of-marks sign.AmpersandAmpersand rest h = refl
sign_of-marks sign.BarBar rest h = refl
sign_of-marks sign.PlusPlus rest h = refl
sign_of-marks sign.BraceOpen rest h = refl
sign_of-marks sign.BraceClose rest h = refl
sign_of-marks sign.ParenOpen rest h = refl
sign_of-marks sign.ParenClose rest h = refl
sign_of-marks sign.BracketOpen rest h = refl
sign_of-marks sign.BracketClose rest h = refl
sign_of-marks sign.Semicolon rest h = refl
sign_of-marks sign.Comma rest h = refl
sign_of-marks sign.Equal [] h = refl
sign_of-marks sign.Equal (c ∷ cs) h = found-Equal c cs (or_parts (eqb 61 c) false h).0
sign_of-marks sign.Ampersand [] h = refl
sign_of-marks sign.Ampersand (c ∷ cs) h = found-Ampersand c cs (or_parts (eqb 38 c) false h).0
sign_of-marks sign.Bar [] h = refl
sign_of-marks sign.Bar (c ∷ cs) h = found-Bar c cs (or_parts (eqb 124 c) false h).0
sign_of-marks sign.Caret rest h = refl
sign_of-marks sign.Tilde rest h = refl
sign_of-marks sign.Bang [] h = refl
sign_of-marks sign.Bang (c ∷ cs) h = found-Bang c cs (or_parts (eqb 61 c) false h).0
sign_of-marks sign.Plus [] h = refl
sign_of-marks sign.Plus (c ∷ cs) h = found-Plus c cs (or_parts (eqb 43 c) false h).0
sign_of-marks sign.Minus rest h = refl
sign_of-marks sign.Star rest h = refl
sign_of-marks sign.Slash rest h = refl
sign_of-marks sign.Percent rest h = refl
sign_of-marks sign.Less [] h = refl
sign_of-marks sign.Less (c ∷ cs) h = found-Less c cs (or_parts (eqb 60 c) (eqb 61 c || false) h).0 (or_parts (eqb 61 c) false (or_parts (eqb 60 c) (eqb 61 c || false) h).1).0
sign_of-marks sign.Greater [] h = refl
sign_of-marks sign.Greater (c ∷ cs) h = found-Greater c cs (or_parts (eqb 62 c) (eqb 61 c || false) h).0 (or_parts (eqb 61 c) false (or_parts (eqb 62 c) (eqb 61 c || false) h).1).0

rowed-Less : (c : ℕ) (cs : List ℕ) → 60 ≡ c → sign_of (60 ∷ c ∷ cs) ≡ Some sign.Less → ⊥
unfolding sign_of
rowed-Less c cs e h = let k : sign_of (60 ∷ 60 ∷ cs) ≡ Some sign.Less = ap (λ d. sign_of (60 ∷ d ∷ cs)) e ∙ h in cc

rowed_too-Less : (c : ℕ) (cs : List ℕ) → 61 ≡ c → sign_of (60 ∷ c ∷ cs) ≡ Some sign.Less → ⊥
unfolding sign_of
rowed_too-Less c cs e h = let k : sign_of (60 ∷ 61 ∷ cs) ≡ Some sign.Less = ap (λ d. sign_of (60 ∷ d ∷ cs)) e ∙ h in cc

rowed-Greater : (c : ℕ) (cs : List ℕ) → 62 ≡ c → sign_of (62 ∷ c ∷ cs) ≡ Some sign.Greater → ⊥
unfolding sign_of
rowed-Greater c cs e h = let k : sign_of (62 ∷ 62 ∷ cs) ≡ Some sign.Greater = ap (λ d. sign_of (62 ∷ d ∷ cs)) e ∙ h in cc

rowed_too-Greater : (c : ℕ) (cs : List ℕ) → 61 ≡ c → sign_of (62 ∷ c ∷ cs) ≡ Some sign.Greater → ⊥
unfolding sign_of
rowed_too-Greater c cs e h = let k : sign_of (62 ∷ 61 ∷ cs) ≡ Some sign.Greater = ap (λ d. sign_of (62 ∷ d ∷ cs)) e ∙ h in cc

-- a sign that is found isn't the front of a longer one
bar-Equal : (c : ℕ) (cs : List ℕ) → sign_of (61 ∷ c ∷ cs) ≡ Some sign.Equal → (eqb 61 c ≡ true) ⊎ (eqb 61 c ≡ false) → is_among (longer sign.Equal) c ≡ false
unfolding sign_of
bar-Equal c cs h (inl held) = let k = rw held at h in cc
bar-Equal c cs h (inr failed) = or_from (eqb 61 c) false failed refl

bar-Ampersand : (c : ℕ) (cs : List ℕ) → sign_of (38 ∷ c ∷ cs) ≡ Some sign.Ampersand → (eqb 38 c ≡ true) ⊎ (eqb 38 c ≡ false) → is_among (longer sign.Ampersand) c ≡ false
unfolding sign_of
bar-Ampersand c cs h (inl held) = let k = rw held at h in cc
bar-Ampersand c cs h (inr failed) = or_from (eqb 38 c) false failed refl

bar-Bar : (c : ℕ) (cs : List ℕ) → sign_of (124 ∷ c ∷ cs) ≡ Some sign.Bar → (eqb 124 c ≡ true) ⊎ (eqb 124 c ≡ false) → is_among (longer sign.Bar) c ≡ false
unfolding sign_of
bar-Bar c cs h (inl held) = let k = rw held at h in cc
bar-Bar c cs h (inr failed) = or_from (eqb 124 c) false failed refl

bar-Bang : (c : ℕ) (cs : List ℕ) → sign_of (33 ∷ c ∷ cs) ≡ Some sign.Bang → (eqb 61 c ≡ true) ⊎ (eqb 61 c ≡ false) → is_among (longer sign.Bang) c ≡ false
unfolding sign_of
bar-Bang c cs h (inl held) = let k = rw held at h in cc
bar-Bang c cs h (inr failed) = or_from (eqb 61 c) false failed refl

bar-Plus : (c : ℕ) (cs : List ℕ) → sign_of (43 ∷ c ∷ cs) ≡ Some sign.Plus → (eqb 43 c ≡ true) ⊎ (eqb 43 c ≡ false) → is_among (longer sign.Plus) c ≡ false
unfolding sign_of
bar-Plus c cs h (inl held) = let k = rw held at h in cc
bar-Plus c cs h (inr failed) = or_from (eqb 43 c) false failed refl

bar-Less : (c : ℕ) (cs : List ℕ) → sign_of (60 ∷ c ∷ cs) ≡ Some sign.Less → (eqb 60 c ≡ true) ⊎ (eqb 60 c ≡ false) → (eqb 61 c ≡ true) ⊎ (eqb 61 c ≡ false) → is_among (longer sign.Less) c ≡ false
unfolding sign_of
bar-Less c cs h (inl held) other = let e : 60 ≡ c = eqb-true 60 c held in absurd (rowed-Less c cs e h)
bar-Less c cs h (inr failed) (inl held) = let e : 61 ≡ c = eqb-true 61 c held in absurd (rowed_too-Less c cs e h)
bar-Less c cs h (inr failed) (inr none) = or_from (eqb 60 c) (eqb 61 c || false) failed (or_from (eqb 61 c) false none refl)

bar-Greater : (c : ℕ) (cs : List ℕ) → sign_of (62 ∷ c ∷ cs) ≡ Some sign.Greater → (eqb 62 c ≡ true) ⊎ (eqb 62 c ≡ false) → (eqb 61 c ≡ true) ⊎ (eqb 61 c ≡ false) → is_among (longer sign.Greater) c ≡ false
unfolding sign_of
bar-Greater c cs h (inl held) other = let e : 62 ≡ c = eqb-true 62 c held in absurd (rowed-Greater c cs e h)
bar-Greater c cs h (inr failed) (inl held) = let e : 61 ≡ c = eqb-true 61 c held in absurd (rowed_too-Greater c cs e h)
bar-Greater c cs h (inr failed) (inr none) = or_from (eqb 62 c) (eqb 61 c || false) failed (or_from (eqb 61 c) false none refl)

-- no comment begins the text
pub record NoComment (text : List ℕ) : Type 0 where
  pub line : starts_with ◌==◌ text (codes "//") ≡ false
  pub block : starts_with ◌==◌ text (codes "/*") ≡ false

not-second : (d c : ℕ) → (eqb d c && true) ≡ false → (eqb d c ≡ true) ⊎ (eqb d c ≡ false) → eqb d c ≡ false
not-second d c h (inl held) = let k = rw held at h in absurd (false≢true (sym k))
not-second d c h (inr failed) = failed

bar-Slash : (c : ℕ) (cs : List ℕ) → NoComment (47 ∷ c ∷ cs) → is_among (longer sign.Slash) c ≡ false
bar-Slash c cs n = or_from (eqb 47 c) (eqb 42 c || false) (not-second 47 c n.line (cases_Bool (eqb 47 c))) (or_from (eqb 42 c) false (not-second 42 c n.block (cases_Bool (eqb 42 c))) refl)

pub sign_of-stands : (s : Sign) (rest : List ℕ) → sign_of (marks s ++ rest) ≡ Some s → NoComment (marks s ++ rest) → MayStandBefore rest (Symbol s)
sign_of-stands sign.EqualEqual [] h n = tt
sign_of-stands sign.EqualEqual (c ∷ cs) h n = refl
sign_of-stands sign.BangEqual [] h n = tt
sign_of-stands sign.BangEqual (c ∷ cs) h n = refl
sign_of-stands sign.LessEqual [] h n = tt
sign_of-stands sign.LessEqual (c ∷ cs) h n = refl
sign_of-stands sign.GreaterEqual [] h n = tt
sign_of-stands sign.GreaterEqual (c ∷ cs) h n = refl
sign_of-stands sign.LessLess [] h n = tt
sign_of-stands sign.LessLess (c ∷ cs) h n = refl
sign_of-stands sign.GreaterGreater [] h n = tt
sign_of-stands sign.GreaterGreater (c ∷ cs) h n = refl
sign_of-stands sign.AmpersandAmpersand [] h n = tt
sign_of-stands sign.AmpersandAmpersand (c ∷ cs) h n = refl
sign_of-stands sign.BarBar [] h n = tt
sign_of-stands sign.BarBar (c ∷ cs) h n = refl
sign_of-stands sign.PlusPlus [] h n = tt
sign_of-stands sign.PlusPlus (c ∷ cs) h n = refl
sign_of-stands sign.BraceOpen [] h n = tt
sign_of-stands sign.BraceOpen (c ∷ cs) h n = refl
sign_of-stands sign.BraceClose [] h n = tt
sign_of-stands sign.BraceClose (c ∷ cs) h n = refl
sign_of-stands sign.ParenOpen [] h n = tt
sign_of-stands sign.ParenOpen (c ∷ cs) h n = refl
sign_of-stands sign.ParenClose [] h n = tt
sign_of-stands sign.ParenClose (c ∷ cs) h n = refl
sign_of-stands sign.BracketOpen [] h n = tt
sign_of-stands sign.BracketOpen (c ∷ cs) h n = refl
sign_of-stands sign.BracketClose [] h n = tt
sign_of-stands sign.BracketClose (c ∷ cs) h n = refl
sign_of-stands sign.Semicolon [] h n = tt
sign_of-stands sign.Semicolon (c ∷ cs) h n = refl
sign_of-stands sign.Comma [] h n = tt
sign_of-stands sign.Comma (c ∷ cs) h n = refl
sign_of-stands sign.Equal [] h n = tt
sign_of-stands sign.Equal (c ∷ cs) h n = bar-Equal c cs h (cases_Bool (eqb 61 c))
sign_of-stands sign.Ampersand [] h n = tt
sign_of-stands sign.Ampersand (c ∷ cs) h n = bar-Ampersand c cs h (cases_Bool (eqb 38 c))
sign_of-stands sign.Bar [] h n = tt
sign_of-stands sign.Bar (c ∷ cs) h n = bar-Bar c cs h (cases_Bool (eqb 124 c))
sign_of-stands sign.Caret [] h n = tt
sign_of-stands sign.Caret (c ∷ cs) h n = refl
sign_of-stands sign.Tilde [] h n = tt
sign_of-stands sign.Tilde (c ∷ cs) h n = refl
sign_of-stands sign.Bang [] h n = tt
sign_of-stands sign.Bang (c ∷ cs) h n = bar-Bang c cs h (cases_Bool (eqb 61 c))
sign_of-stands sign.Plus [] h n = tt
sign_of-stands sign.Plus (c ∷ cs) h n = bar-Plus c cs h (cases_Bool (eqb 43 c))
sign_of-stands sign.Minus [] h n = tt
sign_of-stands sign.Minus (c ∷ cs) h n = refl
sign_of-stands sign.Star [] h n = tt
sign_of-stands sign.Star (c ∷ cs) h n = refl
sign_of-stands sign.Slash [] h n = tt
sign_of-stands sign.Slash (c ∷ cs) h n = bar-Slash c cs n
sign_of-stands sign.Percent [] h n = tt
sign_of-stands sign.Percent (c ∷ cs) h n = refl
sign_of-stands sign.Less [] h n = tt
sign_of-stands sign.Less (c ∷ cs) h n = bar-Less c cs h (cases_Bool (eqb 60 c)) (cases_Bool (eqb 61 c))
sign_of-stands sign.Greater [] h n = tt
sign_of-stands sign.Greater (c ∷ cs) h n = bar-Greater c cs h (cases_Bool (eqb 62 c)) (cases_Bool (eqb 61 c))

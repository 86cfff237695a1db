-- The places of a text's tokens rise.
use Rattle.std.proofs.Common.{◌≡◌, ◌≢◌, ◌∙◌, ◌⊎◌, inl, inr, ℕ, ◌+◌, ◌<◌, Bool, true, false, List, [], ◌∷◌, ◌++◌, map, Option, Some, None, refl, sym, ap, subst, arith, eqb, if◌then◌else◌}
use Rattle.std.specs.List.{AllByRecursion}
use Rattle.ease_base.specs.declared.place.Pos.{Pos}
use Rattle.task_tokens.specs.declared.token.Keyword.{Keyword}
use Rattle.task_tokens.specs.declared.token.Keyword.TheVariants as keyword
use Rattle.task_tokens.specs.declared.token.Sign.{Sign}
use Rattle.task_tokens.specs.declared.token.Sign.TheVariants as sign
use Rattle.task_tokens.specs.declared.token.Lexeme.{Lexeme}
use Rattle.task_tokens.specs.declared.token.Lexeme.TheVariants as lexeme
use Rattle.task_tokens.specs.declared.token.Token.{Token}
use Rattle.task_tokens.specs.Spelling.{letters, marks, Spells}
use Rattle.task_tokens.specs.Division.{Piece, Fits, joined, ArePieces, next_place, behind, with_token, tokens_of}
use Rattle.task_check.specs.Order.{IsBefore, Rise}

-- the places of tokens
abbrev pub places : List Token → List Pos
places [] = []
places (t ∷ ts) = t.at ∷ places ts

pub places_append : (xs ys : List Token) → places (xs ++ ys) ≡ places xs ++ places ys
places_append [] ys = refl
places_append (x ∷ xs) ys = ap (λ ps. x.at ∷ ps) (places_append xs ys)

-- ---- places behind bytes

before_through : (p q r : Pos) → IsBefore p q → IsBefore q r → IsBefore p r
before_through p q r (inl h) (inl k) = inl (omega (arith, h, k))
before_through p q r (inl h) (inr k) = inl (omega (arith, h, k.0))
before_through p q r (inr h) (inl k) = inl (omega (arith, h.0, k))
before_through p q r (inr h) (inr k) = inr (h.0 ∙ k.0, omega (arith, h.1, k.1))

-- the same place, or a later one
abbrev IsFrom : Pos → Pos → Type 0
IsFrom p q = (p ≡ q) ⊎ IsBefore p q

before_from : (p q r : Pos) → IsBefore p q → IsFrom q r → IsBefore p r
before_from p q r h (inl e) = subst (IsBefore p) e h
before_from p q r h (inr k) = before_through p q r h k

from_through : (p q r : Pos) → IsFrom p q → IsFrom q r → IsFrom p r
from_through p q r (inl e) k = subst (λ x. IsFrom x r) (sym e) k
from_through p q r (inr h) k = inr (before_from p q r h k)

next_is_behind : (p : Pos) (b : ℕ) → IsBefore p (next_place p b)
next_is_behind p b = by_test (eqb b 10)
  where
    by_test : (t : Bool) → IsBefore p (if t then record { line = p.line + 1; column = 1 } else record { line = p.line; column = p.column + 1 })
    by_test true = inl (omega arith)
    by_test false = inr (refl, omega arith)

behind_from : (p : Pos) (bytes : List ℕ) → IsFrom p (behind p bytes)
behind_from p [] = inl refl
behind_from p (b ∷ bytes) = from_through p (next_place p b) (behind (next_place p b) bytes) (inr (next_is_behind p b)) (behind_from (next_place p b) bytes)

behind_some : (p : Pos) (bytes : List ℕ) → bytes ≢ [] → IsBefore p (behind p bytes)
behind_some p [] some = absurd (some refl)
behind_some p (b ∷ bytes) some = before_from p (next_place p b) (behind (next_place p b) bytes) (next_is_behind p b) (behind_from (next_place p b) bytes)

-- ---- a token has bytes

some_letters : (k : Keyword) → [] ≡ letters k → ⊥
some_letters keyword.Nv e = cc
some_letters keyword.Const e = cc
some_letters keyword.Word e = cc
some_letters keyword.Peripheral e = cc
some_letters keyword.Task e = cc
some_letters keyword.If e = cc
some_letters keyword.Else e = cc
some_letters keyword.For e = cc
some_letters keyword.Io e = cc
some_letters keyword.IoBlock e = cc
some_letters keyword.Dma e = cc
some_letters keyword.Next e = cc
some_letters keyword.Stop e = cc
some_letters keyword.Single e = cc
some_letters keyword.Timely e = cc
some_letters keyword.Always e = cc

some_marks : (s : Sign) → [] ≡ marks s → ⊥
some_marks sign.BraceOpen e = cc
some_marks sign.BraceClose e = cc
some_marks sign.ParenOpen e = cc
some_marks sign.ParenClose e = cc
some_marks sign.BracketOpen e = cc
some_marks sign.BracketClose e = cc
some_marks sign.Semicolon e = cc
some_marks sign.Comma e = cc
some_marks sign.Equal e = cc
some_marks sign.Ampersand e = cc
some_marks sign.Bar e = cc
some_marks sign.Caret e = cc
some_marks sign.Tilde e = cc
some_marks sign.Bang e = cc
some_marks sign.Plus e = cc
some_marks sign.Minus e = cc
some_marks sign.Star e = cc
some_marks sign.Slash e = cc
some_marks sign.Percent e = cc
some_marks sign.Less e = cc
some_marks sign.Greater e = cc
some_marks sign.EqualEqual e = cc
some_marks sign.BangEqual e = cc
some_marks sign.LessEqual e = cc
some_marks sign.GreaterEqual e = cc
some_marks sign.LessLess e = cc
some_marks sign.GreaterGreater e = cc
some_marks sign.AmpersandAmpersand e = cc
some_marks sign.BarBar e = cc
some_marks sign.PlusPlus e = cc

spelled_by_bytes : (x : Lexeme) → Spells [] x → ⊥
spelled_by_bytes (lexeme.Name text) h = cc
spelled_by_bytes (lexeme.Number n) h = let e = h.0 in cc
spelled_by_bytes lexeme.TooWide h = let e = h.1 in cc
spelled_by_bytes (lexeme.Reserved k) h = some_letters k h
spelled_by_bytes (lexeme.Symbol s) h = some_marks s h

spelled_some : (bytes : List ℕ) (x : Lexeme) → Spells bytes x → bytes ≢ []
spelled_some bytes x h e = spelled_by_bytes x (subst (λ (bs : List ℕ). Spells bs x) e h)

-- ---- the tokens of pieces

-- all tokens stand at a place or later
tokens_from : (at : Pos) (ps : List Piece) → AllByRecursion (IsFrom at) (places (tokens_of at ps))
tokens_from at [] = tt
tokens_from at (p ∷ ps) = by_piece p.lexeme (later (places (tokens_of (behind at p.bytes) ps)) (tokens_from (behind at p.bytes) ps))
  where
    later : (qs : List Pos) → AllByRecursion (IsFrom (behind at p.bytes)) qs → AllByRecursion (IsFrom at) qs
    later [] all = tt
    later (q ∷ qs) all = (from_through at (behind at p.bytes) q (behind_from at p.bytes) all.0, later qs all.1)

    by_piece : (x : Option Lexeme) → AllByRecursion (IsFrom at) (places (tokens_of (behind at p.bytes) ps)) → AllByRecursion (IsFrom at) (places (with_token x at (tokens_of (behind at p.bytes) ps)))
    by_piece None all = all
    by_piece (Some x) all = (inl refl, all)

pub tokens_rise : (at : Pos) (ps : List Piece) (rest : List ℕ) → ArePieces ps rest → Rise (places (tokens_of at ps))
tokens_rise at [] rest h = tt
tokens_rise at (p ∷ ps) rest h = by_piece p.lexeme h.0 (tokens_rise (behind at p.bytes) ps rest h.1)
  where
    after : IsBefore at (behind at p.bytes) → (qs : List Pos) → AllByRecursion (IsFrom (behind at p.bytes)) qs → AllByRecursion (IsBefore at) qs
    after k [] all = tt
    after k (q ∷ qs) all = (before_from at (behind at p.bytes) q k all.0, after k qs all.1)

    by_piece : (x : Option Lexeme) → Fits p.bytes (joined ps rest) x → Rise (places (tokens_of (behind at p.bytes) ps)) → Rise (places (with_token x at (tokens_of (behind at p.bytes) ps)))
    by_piece None fits rise = rise
    by_piece (Some x) fits rise = (after (behind_some at p.bytes (spelled_some p.bytes x fits.0)) (places (tokens_of (behind at p.bytes) ps)) (tokens_from (behind at p.bytes) ps), rise)

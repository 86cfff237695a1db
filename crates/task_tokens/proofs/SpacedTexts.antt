-- A printed text divides into the tokens that were printed.
use Rattle.std.proofs.Common.{◌≡◌, inl, ℕ, false, List, [], ◌∷◌, ◌++◌, Some, None, refl, sym, ap, subst}
use Rattle.std.specs.List.{AllByRecursion}
use Rattle.op_table.specs.Reserved.{IsReserved}
use Rattle.ease_base.specs.declared.place.Pos.{Pos}
use Rattle.task_tokens.specs.declared.token.Sign.{Sign}
use Rattle.task_tokens.specs.declared.token.Sign.TheVariants as sign
use Rattle.task_tokens.specs.declared.token.Lexeme.{Lexeme}
use Rattle.task_tokens.specs.declared.token.Lexeme.TheVariants as lexeme
use Rattle.task_tokens.specs.declared.token.Token.{Token}
use Rattle.task_tokens.specs.Spelling.{longer, Spells, is_among, is_barred}
use Rattle.task_tokens.specs.Division.{Piece, joined, ArePieces, start, behind, tokens_of}
use Rattle.task_tokens.specs.Fair.{IsNarrow}
use Rattle.task_tokens.specs.Spaced.{lexemes, spelling, spaced, IsPrintable, DividesSo}
use Rattle.task_tokens.proofs.ReservedWords.{keyword-reserved}
use Rattle.task_tokens.proofs.Decimals.{numeral_decimal}

spelled_so : (x : Lexeme) → IsPrintable x → Spells (spelling x) x
spelled_so (lexeme.Name text) h = (refl, h.0, λ k is. h.1 (subst IsReserved (sym is) (keyword-reserved k)))
spelled_so (lexeme.Number n) h = (numeral_decimal n h, h)
spelled_so lexeme.TooWide h = absurd h
spelled_so (lexeme.Reserved k) h = refl
spelled_so (lexeme.Symbol s) h = refl

-- no sign goes on with a space or a line feed
sign_ends : (s : Sign) → (is_among (longer s) 32 ≡ false) × (is_among (longer s) 10 ≡ false)
sign_ends sign.BraceOpen = (refl, refl)
sign_ends sign.BraceClose = (refl, refl)
sign_ends sign.ParenOpen = (refl, refl)
sign_ends sign.ParenClose = (refl, refl)
sign_ends sign.BracketOpen = (refl, refl)
sign_ends sign.BracketClose = (refl, refl)
sign_ends sign.Semicolon = (refl, refl)
sign_ends sign.Comma = (refl, refl)
sign_ends sign.Equal = (refl, refl)
sign_ends sign.Ampersand = (refl, refl)
sign_ends sign.Bar = (refl, refl)
sign_ends sign.Caret = (refl, refl)
sign_ends sign.Tilde = (refl, refl)
sign_ends sign.Bang = (refl, refl)
sign_ends sign.Plus = (refl, refl)
sign_ends sign.Minus = (refl, refl)
sign_ends sign.Star = (refl, refl)
sign_ends sign.Slash = (refl, refl)
sign_ends sign.Percent = (refl, refl)
sign_ends sign.Less = (refl, refl)
sign_ends sign.Greater = (refl, refl)
sign_ends sign.EqualEqual = (refl, refl)
sign_ends sign.BangEqual = (refl, refl)
sign_ends sign.LessEqual = (refl, refl)
sign_ends sign.GreaterEqual = (refl, refl)
sign_ends sign.LessLess = (refl, refl)
sign_ends sign.GreaterGreater = (refl, refl)
sign_ends sign.AmpersandAmpersand = (refl, refl)
sign_ends sign.BarBar = (refl, refl)
sign_ends sign.PlusPlus = (refl, refl)

ends_before : (x : Lexeme) → IsPrintable x → (is_barred x 32 ≡ false) × (is_barred x 10 ≡ false)
ends_before (lexeme.Name text) h = (refl, refl)
ends_before (lexeme.Number n) h = (refl, refl)
ends_before lexeme.TooWide h = absurd h
ends_before (lexeme.Reserved k) h = (refl, refl)
ends_before (lexeme.Symbol s) h = sign_ends s

abbrev piece : Lexeme → Piece
piece x = record { bytes = spelling x; lexeme = Some x }

abbrev white : ℕ → Piece
white b = record { bytes = b ∷ []; lexeme = None }

-- the pieces of a printed text
abbrev pieces : List Lexeme → List Piece
pieces [] = []
pieces (x ∷ []) = piece x ∷ white 10 ∷ []
pieces (x ∷ y ∷ more) = piece x ∷ white 32 ∷ pieces (y ∷ more)

joined_so : (xs : List Lexeme) → spaced xs ≡ joined (pieces xs) []
joined_so [] = refl
joined_so (x ∷ []) = refl
joined_so (x ∷ y ∷ more) = ap (λ bytes. spelling x ++ 32 ∷ bytes) (joined_so (y ∷ more))

fit_so : (xs : List Lexeme) → AllByRecursion IsPrintable xs → ArePieces (pieces xs) []
fit_so [] all = tt
fit_so (x ∷ []) all = ((spelled_so x all.0, (ends_before x all.0).1), (inl (10, refl, refl), tt))
fit_so (x ∷ y ∷ more) all = ((spelled_so x all.0, (ends_before x all.0).0), (inl (32, refl, refl), fit_so (y ∷ more) all.1))

tokens_so : (at : Pos) (xs : List Lexeme) → lexemes (tokens_of at (pieces xs)) ≡ xs
tokens_so at [] = refl
tokens_so at (x ∷ []) = refl
tokens_so at (x ∷ y ∷ more) = ap (λ ls. x ∷ ls) (tokens_so (behind (behind at (spelling x)) (32 ∷ [])) (y ∷ more))

narrow_one : (t : Token) → IsPrintable t.lexeme → IsNarrow t
narrow_one t h is = subst IsPrintable is h

narrow_so : (tokens : List Token) → AllByRecursion IsPrintable (lexemes tokens) → AllByRecursion IsNarrow tokens
narrow_so [] all = tt
narrow_so (t ∷ ts) all = (narrow_one t all.0, narrow_so ts all.1)

-- a printed text and its tokens
pub divides_so : (xs : List Lexeme) → AllByRecursion IsPrintable xs → DividesSo xs
divides_so xs all = record {
  pieces = pieces xs;
  divides = record { whole = joined_so xs; each = fit_so xs all };
  narrow = narrow_so (tokens_of start (pieces xs)) (subst (AllByRecursion IsPrintable) (sym (tokens_so start xs)) all);
  are = tokens_so start xs;
}

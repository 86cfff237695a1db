-- The tokens of a text: names are name tokens, numbers fit a word, and there are no more of them than bytes.
use Rattle.std.proofs.Common.{◌≢◌, ℕ, ◌<◌, ◌≤◌, List, [], ◌∷◌, ◌++◌, length, Option, Some, None, refl, sym, ap, subst, arith}
use Rattle.std.specs.List.{AllByRecursion}
use Rattle.std.proofs.lemmas.List.{length-append}
use Rattle.op_table.specs.Reserved.{IsReserved}
use Rattle.ease_base.specs.declared.place.Pos.{Pos}
use Rattle.task_ast.specs.NameToken.{IsNameToken}
use Rattle.task_tokens.specs.declared.token.Keyword.{Keyword}
use Rattle.task_tokens.specs.declared.token.Lexeme.{Lexeme}
use Rattle.task_tokens.specs.declared.token.Lexeme.TheVariants as lexeme
use Rattle.task_tokens.proofs.ReservedWords.{reserved-keyword}
use Rattle.task_tokens.proofs.CutSound.{cut_sound}
use Rattle.task_tokens.proofs.DivisionLaws.{piece-cut}
use Rattle.task_tokens.specs.Fair.{IsFairLexeme, IsFair}
use Rattle.task_tokens.specs.Spelling.{letters, Spells}
use Rattle.task_tokens.specs.Division.{Piece, Fits, joined, ArePieces, Divides, start, behind, tokens_of}

fair_name : (text : List ℕ) → ((k : Keyword) → text ≢ letters k) → IsReserved text → ⊥
fair_name text free reserved = let k = reserved-keyword text reserved in free k.0 k.1

-- a token that is spelled is fair
spelled_fair : (bytes : List ℕ) (x : Lexeme) → Spells bytes x → IsFairLexeme x
spelled_fair bytes (lexeme.Name text) h =
    let same = h.0 in subst IsNameToken (sym same) (h.1, fair_name bytes h.2)
spelled_fair bytes (lexeme.Number n) h = h.1
spelled_fair bytes lexeme.TooWide h = tt
spelled_fair bytes (lexeme.Reserved k) h = tt
spelled_fair bytes (lexeme.Symbol s) h = tt

-- a piece has a byte, since one is cut off there
some_bytes : (bytes rest : List ℕ) (x : Option Lexeme) → Fits bytes rest x → 0 < length bytes
some_bytes bytes rest x fits =
    let cut = cut_sound (bytes ++ rest) _ (piece-cut (bytes ++ rest) rest (record { bytes = bytes; lexeme = x }) refl fits) in
    omega (arith, cut.some, cut.len)

-- the tokens of pieces are fair
fair_pieces : (at : Pos) (ps : List Piece) (rest : List ℕ) → ArePieces ps rest → AllByRecursion IsFair (tokens_of at ps)
fair_pieces at [] rest h = tt
fair_pieces at (p ∷ ps) rest h = by_piece p.lexeme h.0 (fair_pieces (behind at p.bytes) ps rest h.1)
  where
    by_piece : (x : Option Lexeme) → Fits p.bytes (joined ps rest) x → AllByRecursion IsFair (tokens_of (behind at p.bytes) ps)
        → AllByRecursion IsFair (tokens_of at (record { bytes = p.bytes; lexeme = x } ∷ ps))
    by_piece None fits all = all
    by_piece (Some x) fits all = (spelled_fair p.bytes x fits.0, all)

-- and no more than bytes
few_pieces : (at : Pos) (ps : List Piece) (rest : List ℕ) → ArePieces ps rest → length (tokens_of at ps) ≤ length (joined ps rest)
few_pieces at [] rest h = omega arith
few_pieces at (p ∷ ps) rest h = by_piece p.lexeme h.0 (few_pieces (behind at p.bytes) ps rest h.1)
  where
    by_piece : (x : Option Lexeme) → Fits p.bytes (joined ps rest) x → length (tokens_of (behind at p.bytes) ps) ≤ length (joined ps rest)
        → length (tokens_of at (record { bytes = p.bytes; lexeme = x } ∷ ps)) ≤ length (p.bytes ++ joined ps rest)
    by_piece None fits few = omega (arith, few, length-append p.bytes (joined ps rest))
    by_piece (Some x) fits few = omega (arith, few, some_bytes p.bytes (joined ps rest) (Some x) fits, length-append p.bytes (joined ps rest))

-- the tokens of a text are fair
pub fair_text : (text : List ℕ) (ps : List Piece) → Divides text ps → AllByRecursion IsFair (tokens_of start ps)
fair_text text ps divides = fair_pieces start ps [] divides.each

-- and no more than its bytes
pub few_in_text : (text : List ℕ) (ps : List Piece) → Divides text ps → length (tokens_of start ps) ≤ length text
few_in_text text ps divides = omega (arith, few_pieces start ps [] divides.each, ap length divides.whole)

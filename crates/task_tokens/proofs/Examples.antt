-- The division, computed on short texts.
use Rattle.std.proofs.Common.{◌≡◌, ◌≢◌, ℕ, List, [], ◌∷◌, Some, None, codes, refl, sym, ap, ◌∙◌, inl, lit≤}
use Rattle.std.proofs.lemmas.Option.{none-some}
use Rattle.task_tokens.specs.declared.token.Keyword.{Keyword}
use Rattle.task_tokens.specs.declared.token.Keyword.TheVariants as keyword
use Rattle.task_tokens.specs.declared.token.Sign.TheVariants as sign
use Rattle.task_tokens.specs.declared.token.Lexeme.{Lexeme}
use Rattle.task_tokens.specs.declared.token.Lexeme.TheVariants.{Name as Named, Number, TooWide, Reserved, Symbol}
use Rattle.task_tokens.specs.Spelling.{letters}
use Rattle.task_tokens.specs.Division.{Piece, Divides, BreaksAt, start}
use Rattle.task_tokens.specs.Cutting.{keyword_of, first_cut, run_cut, run_lexeme, mark_cut}
use Rattle.task_tokens.proofs.Tables.{keyword_of-letters}
use Rattle.task_tokens.proofs.DivisionLaws.{piece-cut}

abbrev space : Piece
space = record { bytes = codes " "; lexeme = None }

abbrev word : List ℕ → Keyword → Piece
word bytes k = record { bytes = bytes; lexeme = Some (Reserved k) }

abbrev name : List ℕ → Piece
name bytes = record { bytes = bytes; lexeme = Some (Named bytes) }

abbrev digits : List ℕ → ℕ → Piece
digits bytes n = record { bytes = bytes; lexeme = Some (Number n) }

abbrev sign_piece : List ℕ → Lexeme → Piece
sign_piece bytes lexeme = record { bytes = bytes; lexeme = Some lexeme }

-- a name isn't reserved where no reserved word is found
free : (bytes : List ℕ) → keyword_of bytes ≡ None → (k : Keyword) → bytes ≢ letters k
free bytes h k e = none-some k (sym h ∙ ap keyword_of e ∙ keyword_of-letters k)

-- ---- no space that a text can do without

abbrev stop : List ℕ
stop = codes "task t{STOP;}"

free-t : (k : Keyword) → codes "t" ≢ letters k
unfolding keyword_of
free-t = free (codes "t") refl

abbrev stop_pieces : List Piece
stop_pieces =
    word (codes "task") keyword.Task ∷ space ∷ name (codes "t") ∷ sign_piece (codes "{") (Symbol sign.BraceOpen)
    ∷ word (codes "STOP") keyword.Stop ∷ sign_piece (codes ";") (Symbol sign.Semicolon) ∷ sign_piece (codes "}") (Symbol sign.BraceClose) ∷ []

pub stop-divides : Divides stop stop_pieces
stop-divides = record {
  whole = refl;
  each = ((refl, refl), (inl (32, refl, refl), (((refl, refl, free-t), refl), ((refl, refl), ((refl, refl), ((refl, refl), ((refl, tt), tt)))))));
}

-- ---- texts that are refused

stuck-by : (text : List ℕ) → text ≢ [] → first_cut text ≡ None → BreaksAt text start
stuck-by text some h = record {
  pieces = [];
  rest = text;
  begins = record { whole = refl; each = tt };
  place = refl;
  stuck = record { some = some; none = λ bytes more lexeme e f. none-some _ (sym h ∙ piece-cut text more (record { bytes = bytes; lexeme = lexeme }) e f) };
}

pub zero-one-breaks : BreaksAt (codes "01") start
unfolding first_cut run_cut run_lexeme
zero-one-breaks = stuck-by (codes "01") (λ e. cc) refl

pub open-comment-breaks : BreaksAt (codes "/*/") start
unfolding first_cut mark_cut
open-comment-breaks = stuck-by (codes "/*/") (λ e. cc) refl

-- a number that is too wide is a token of its own
pub wide-divides : Divides (codes "4294967296") (record { bytes = codes "4294967296"; lexeme = Some TooWide } ∷ [])
wide-divides = record { whole = refl; each = (((4294967296, refl, lit≤ tt), tt), tt) }

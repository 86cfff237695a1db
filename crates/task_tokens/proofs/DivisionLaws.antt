-- A text divides in at most one way, or breaks off at one place.
use Rattle.std.proofs.Common.{◌≡◌, ℕ, List, [], ◌∷◌, ◌++◌, length, Option, Some, refl, sym, ap, ◌∙◌, arith}
use Rattle.std.proofs.lemmas.Option.{none-some, same_Some}
use Rattle.ease_base.specs.declared.place.Pos.{Pos}
use Rattle.task_tokens.specs.declared.token.Lexeme.{Lexeme}
use Rattle.task_tokens.specs.declared.cut.Cut.{Cut}
use Rattle.task_tokens.specs.Division.{Piece, Fits, joined, ArePieces, Divides, BreaksAt, start, end_of}
use Rattle.task_tokens.specs.Once.{DividesOnce}
use Rattle.task_tokens.specs.Cutting.{first_cut}
use Rattle.task_tokens.proofs.CutComplete.{cut_complete}

-- the cut of a piece
abbrev cut_of : Piece → Cut
cut_of p = record { len = length p.bytes; lexeme = p.lexeme }

pub piece-cut : (text rest : List ℕ) (p : Piece) → text ≡ p.bytes ++ rest → Fits p.bytes rest p.lexeme → first_cut text ≡ Some (cut_of p)
piece-cut text rest p e fits = ap first_cut e ∙ cut_complete p.bytes rest p.lexeme fits

-- two pieces at one front are one, with one rest
record Same (p q : Piece) (rest other : List ℕ) : Type 0 where
  piece : p ≡ q
  tail : rest ≡ other

same_bytes : (a b rest other : List ℕ) → a ++ rest ≡ b ++ other → length a ≡ length b → (a ≡ b) × (rest ≡ other)
same_bytes [] [] rest other e h = (refl, e)
same_bytes [] (y ∷ ys) rest other e h = absurd (omega arith)
same_bytes (x ∷ xs) [] rest other e h = absurd (omega arith)
same_bytes (x ∷ xs) (y ∷ ys) rest other e h =
    let first : x ≡ y = cc in
    let more : xs ++ rest ≡ ys ++ other = cc in
    let r = same_bytes xs ys rest other more (omega arith) in
    let f = r.0 in
    (cc, r.1)

same_piece : (text rest other : List ℕ) (p q : Piece) → text ≡ p.bytes ++ rest → Fits p.bytes rest p.lexeme → text ≡ q.bytes ++ other → Fits q.bytes other q.lexeme → Same p q rest other
same_piece text rest other p q e f g h =
    let c : cut_of p ≡ cut_of q = same_Some _ _ (sym (piece-cut text rest p e f) ∙ piece-cut text other q g h) in
    let bytes = same_bytes p.bytes q.bytes rest other (sym e ∙ g) (ap (λ x. x.len) c) in
    record { piece = ap (λ b. record { bytes = b; lexeme = p.lexeme }) bytes.0 ∙ ap (λ l. record { bytes = q.bytes; lexeme = l }) (ap (λ x. x.lexeme) c); tail = bytes.1 }

-- no piece fits before nothing, for a piece has a byte
piece_some : (rest : List ℕ) (p : Piece) → [] ≡ p.bytes ++ rest → Fits p.bytes rest p.lexeme → ⊥
unfolding first_cut
piece_some rest p e f = none-some (cut_of p) (piece-cut [] rest p e f)

-- the pieces and the rest, as far as a text can be divided
record Agree (ps qs : List Piece) (rest other : List ℕ) : Type 0 where
  pieces : ps ≡ qs
  tail : rest ≡ other

-- nothing begins with a piece
abbrev pub IsEnded : List ℕ → Type 0
IsEnded rest = (bytes more : List ℕ) (lexeme : Option Lexeme) → rest ≡ bytes ++ more → Fits bytes more lexeme → ⊥

nothing-ended : IsEnded []
nothing-ended bytes more lexeme e f = piece_some more (record { bytes = bytes; lexeme = lexeme }) e f

agree : (text : List ℕ) (ps qs : List Piece) (rest other : List ℕ) → text ≡ joined ps rest → ArePieces ps rest → IsEnded rest → text ≡ joined qs other → ArePieces qs other → IsEnded other → Agree ps qs rest other
agree text [] [] rest other e each end f also too = record { pieces = refl; tail = sym e ∙ f }
agree text [] (q ∷ qs) rest other e each end f also too = absurd (end q.bytes (joined qs other) q.lexeme (sym e ∙ f) also.0)
agree text (p ∷ ps) [] rest other e each end f also too = absurd (too p.bytes (joined ps rest) p.lexeme (sym f ∙ e) each.0)
agree text (p ∷ ps) (q ∷ qs) rest other e each end f also too =
    let first = same_piece text (joined ps rest) (joined qs other) p q e each.0 f also.0 in
    let later = agree (joined ps rest) ps qs rest other refl each.1 end first.tail also.1 too in
    record { pieces = ap (λ x. x ∷ ps) first.piece ∙ ap (λ xs. q ∷ xs) later.pieces; tail = later.tail }

-- two divisions of a text are one
pub one_division : (text : List ℕ) (ps qs : List Piece) → Divides text ps → Divides text qs → ps ≡ qs
one_division text ps qs d e = (agree text ps qs [] [] d.whole d.each nothing-ended e.whole e.each nothing-ended).pieces

-- a text that divides doesn't break off
pub no_break : (text : List ℕ) (ps : List Piece) (at : Pos) → Divides text ps → BreaksAt text at → ⊥
no_break text ps at d b =
    let same = agree text ps b.pieces [] b.rest d.whole d.each nothing-ended b.begins.whole b.begins.each b.stuck.none in
    b.stuck.some (sym same.tail)

-- a text breaks off at one place
pub one_break : (text : List ℕ) (at to : Pos) → BreaksAt text at → BreaksAt text to → at ≡ to
one_break text at to b c =
    let same = agree text b.pieces c.pieces b.rest c.rest b.begins.whole b.begins.each b.stuck.none c.begins.whole c.begins.each c.stuck.none in
    b.place ∙ ap (end_of start) same.pieces ∙ sym c.place

-- the three together
pub divides_once : DividesOnce
divides_once = record { one = one_division; one_break = one_break; not_both = no_break }

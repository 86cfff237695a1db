-- The division of a text, piece by piece.
use Rattle.std.proofs.Common.{◌≡◌, ◌≢◌, ℕ, ◌<◌, ◌≤◌, List, [], ◌∷◌, ◌++◌, length, take, drop, Option, Some, None, refl, sym, ap, subst, ◌∙◌, arith, take-append-drop, Bool, false, eqb}
use Rattle.std.proofs.lemmas.List.Prefix.{front_rest, front_fits}
use Rattle.std.proofs.lemmas.Bool.{false≢true}
use Rattle.std.proofs.lemmas.Option.{none-some}
use Rattle.ease_base.specs.declared.place.Pos.{Pos}
use Rattle.task_tokens.specs.declared.token.Lexeme.{Lexeme}
use Rattle.task_tokens.specs.declared.token.Token.{Token}
use Rattle.task_tokens.specs.declared.cut.Cut.{Cut}
use Rattle.task_tokens.specs.Division.{Piece, Fits, joined, ArePieces, BeginsWith, BreaksAt, start, behind, end_of, tokens_of, with_token}
use Rattle.task_tokens.specs.Divided.{IsDivided}
use Rattle.task_tokens.specs.Cutting.{first_cut}
use Rattle.task_tokens.proofs.CutSound.{cut_sound}
use Rattle.task_tokens.proofs.DivisionLaws.{piece-cut}

-- so far the text is some pieces, with these tokens, up to a rest at this place
pub record Progress (text : List ℕ) (tokens : List Token) (at : Pos) (rest : List ℕ) : Type 0 where
  pub pieces : List Piece
  pub begins : BeginsWith text pieces rest
  pub made : tokens ≡ tokens_of start pieces
  pub place : at ≡ end_of start pieces

pub Progress-none : (text : List ℕ) → Progress text [] start text
Progress-none text = record { pieces = []; begins = record { whole = refl; each = tt }; made = refl; place = refl }

joined-push : (ps : List Piece) (p : Piece) (rest : List ℕ) → joined (ps ++ p ∷ []) rest ≡ joined ps (p.bytes ++ rest)
joined-push [] p rest = refl
joined-push (q ∷ ps) p rest = ap (λ ys. q.bytes ++ ys) (joined-push ps p rest)

pieces-push : (ps : List Piece) (p : Piece) (rest : List ℕ) → ArePieces ps (p.bytes ++ rest) → Fits p.bytes rest p.lexeme → ArePieces (ps ++ p ∷ []) rest
pieces-push [] p rest each f = (f, tt)
pieces-push (q ∷ ps) p rest each f = (subst (λ ys. Fits q.bytes ys q.lexeme) (sym (joined-push ps p rest)) each.0, pieces-push ps p rest each.1 f)

end_of-push : (at : Pos) (ps : List Piece) (p : Piece) → end_of at (ps ++ p ∷ []) ≡ behind (end_of at ps) p.bytes
end_of-push at [] p = refl
end_of-push at (q ∷ ps) p = end_of-push (behind at q.bytes) ps p

with_token-append : (l : Option Lexeme) (at : Pos) (ts us : List Token) → with_token l at (ts ++ us) ≡ with_token l at ts ++ us
with_token-append None at ts us = refl
with_token-append (Some x) at ts us = refl

tokens_of-push : (at : Pos) (ps : List Piece) (p : Piece) → tokens_of at (ps ++ p ∷ []) ≡ tokens_of at ps ++ with_token p.lexeme (end_of at ps) []
tokens_of-push at [] p = refl
tokens_of-push at (q ∷ ps) p = ap (with_token q.lexeme at) (tokens_of-push (behind at q.bytes) ps p) ∙ with_token-append q.lexeme at _ _

take-front : (xs ys : List ℕ) → take (length xs) (xs ++ ys) ≡ xs
take-front [] ys = refl
take-front (x ∷ xs) ys = ap (λ zs. x ∷ zs) (take-front xs ys)

-- what is cut, as the front and the rest at its length
pub cut-parts : (text : List ℕ) (c : Cut) → first_cut text ≡ Some c → (c.len ≤ length text) × (0 < c.len) × Fits (take c.len text) (drop c.len text) c.lexeme
cut-parts text c h =
    let r = cut_sound text c h in
    let rest : drop (length r.bytes) text ≡ r.rest = front_rest text r.bytes r.rest r.whole in
    let front : take (length r.bytes) text ≡ r.bytes = ap (take (length r.bytes)) r.whole ∙ take-front r.bytes r.rest in
    (omega (arith, r.len, front_fits text r.bytes r.rest r.whole), omega (arith, r.len, r.some), subst (λ n. Fits (take n text) (drop n text) c.lexeme) (sym r.len) (subst (λ xs. Fits xs (drop (length r.bytes) text) c.lexeme) (sym front) (subst (λ ys. Fits r.bytes ys c.lexeme) (sym rest) r.fits)))

pub Progress-more : (text : List ℕ) (tokens : List Token) (at : Pos) (rest : List ℕ) (c : Cut) → Progress text tokens at rest → first_cut rest ≡ Some c → Progress text (tokens ++ with_token c.lexeme at []) (behind at (take c.len rest)) (drop c.len rest)
Progress-more text tokens at rest c r h =
    let p : Piece = record { bytes = take c.len rest; lexeme = c.lexeme } in
    let split : rest ≡ p.bytes ++ drop c.len rest = sym (take-append-drop c.len rest) in
    record {
      pieces = r.pieces ++ p ∷ [];
      begins = record {
        whole = r.begins.whole ∙ ap (joined r.pieces) split ∙ sym (joined-push r.pieces p (drop c.len rest));
        each = pieces-push r.pieces p (drop c.len rest) (subst (ArePieces r.pieces) split r.begins.each) (cut-parts rest c h).2;
      };
      made = ap (λ ts. ts ++ with_token c.lexeme at []) r.made ∙ ap (λ x. tokens_of start r.pieces ++ with_token c.lexeme x []) r.place ∙ sym (tokens_of-push start r.pieces p);
      place = ap (λ x. behind x p.bytes) r.place ∙ sym (end_of-push start r.pieces p);
    }

pub Progress-stuck : (text : List ℕ) (tokens : List Token) (at : Pos) (rest : List ℕ) → Progress text tokens at rest → rest ≢ [] → first_cut rest ≡ None → BreaksAt text at
Progress-stuck text tokens at rest r some h = record {
  pieces = r.pieces;
  rest = rest;
  begins = r.begins;
  place = r.place;
  stuck = record { some = some; none = λ bytes more lexeme e f. none-some _ (sym h ∙ piece-cut rest more (record { bytes = bytes; lexeme = lexeme }) e f) };
}

pub Progress-all : (text : List ℕ) (tokens : List Token) (at : Pos) (rest : List ℕ) → Progress text tokens at rest → rest ≡ [] → IsDivided text (record { tokens = tokens; end = at })
Progress-all text tokens at rest r e = record { pieces = r.pieces; divides = subst (BeginsWith text r.pieces) e r.begins; tokens = r.made; end = r.place }

-- the same, with the values by their equations
pub Progress-step : (text : List ℕ) (tokens more : List Token) (at to : Pos) (rest piece left : List ℕ) (c : Cut) → Progress text tokens at rest → first_cut rest ≡ Some c → more ≡ tokens ++ with_token c.lexeme at [] → piece ≡ take c.len rest → to ≡ behind at piece → left ≡ drop c.len rest → Progress text more to left
Progress-step text tokens more at to rest piece left c r h add front place back =
    let step = Progress-more text tokens at rest c r h in
    record { pieces = step.pieces; begins = subst (BeginsWith text step.pieces) (sym back) step.begins; made = add ∙ step.made; place = place ∙ ap (behind at) front ∙ step.place }

pub not_empty : (rest : List ℕ) (b : Bool) → b ≡ eqb (length rest) 0 → b ≡ false → rest ≢ []
not_empty rest b e f g = false≢true (sym f ∙ e ∙ ap (λ (xs : List ℕ). eqb (length xs) 0) g)

-- Each text divides, or breaks off.
use Rattle.std.proofs.Common.{◌≡◌, ◌≢◌, ℕ, zero, suc, ◌≤◌, List, [], ◌∷◌, ◌++◌, length, Option, Some, None, refl, sym, ap, subst, ◌∙◌, arith, ◌⊎◌, inl, inr, length-append}
use Rattle.std.proofs.lemmas.Option.{none-some}
use Rattle.ease_base.specs.declared.place.Pos.{Pos}
use Rattle.task_tokens.specs.declared.cut.Cut.{Cut}
use Rattle.task_tokens.specs.Division.{Piece, Divides, BreaksAt, BeginsWith, IsStuck, Fits, start, end_of}
use Rattle.task_tokens.specs.Cutting.{first_cut}
use Rattle.task_tokens.proofs.CutSound.{cut_sound}
use Rattle.task_tokens.proofs.DivisionLaws.{piece-cut}

-- as far as a text can be divided
record Divided (text : List ℕ) : Type 0 where
  pieces : List Piece
  rest : List ℕ
  begins : BeginsWith text pieces rest
  ended : (rest ≡ []) ⊎ IsStuck rest

stuck : (text : List ℕ) → text ≢ [] → first_cut text ≡ None → IsStuck text
stuck text some h = record { some = some; none = λ bytes more lexeme e f. none-some _ (sym h ∙ piece-cut text more (record { bytes = bytes; lexeme = lexeme }) e f) }

divided-cut : (b : ℕ) (bs : List ℕ) (o : Option Cut) → first_cut (b ∷ bs) ≡ o → ((rest : List ℕ) → length rest ≤ length bs → Divided rest) → Divided (b ∷ bs)
divided-cut b bs None e later = record { pieces = []; rest = b ∷ bs; begins = record { whole = refl; each = tt }; ended = inr (stuck (b ∷ bs) (λ k. cc) e) }
divided-cut b bs (Some c) e later =
    let r = cut_sound (b ∷ bs) c e in
    let d = later r.rest (omega (arith, ap length r.whole, length-append r.bytes r.rest, r.some)) in
    record {
      pieces = record { bytes = r.bytes; lexeme = c.lexeme } ∷ d.pieces;
      rest = d.rest;
      ended = d.ended;
      begins = record { whole = r.whole ∙ ap (λ ys. r.bytes ++ ys) d.begins.whole; each = (subst (λ ys. Fits r.bytes ys c.lexeme) d.begins.whole r.fits, d.begins.each) };
    }

divided-below : (n : ℕ) (text : List ℕ) → length text ≤ n → Divided text
divided-below n [] h = record { pieces = []; rest = []; begins = record { whole = refl; each = tt }; ended = inl refl }
divided-below zero (b ∷ bs) h = absurd (let k : ⊥ = omega arith in k)
divided-below (suc n) (b ∷ bs) h = divided-cut b bs (first_cut (b ∷ bs)) refl (λ rest k. divided-below n rest (omega arith))

by_end : (text : List ℕ) (ps : List Piece) (rest : List ℕ) → BeginsWith text ps rest → (rest ≡ []) ⊎ IsStuck rest → ((qs : List Piece) × Divides text qs) ⊎ ((at : Pos) × BreaksAt text at)
by_end text ps rest b (inl e) = inl (ps, subst (BeginsWith text ps) e b)
by_end text ps rest b (inr s) = inr (end_of start ps, record { pieces = ps; rest = rest; begins = b; stuck = s; place = refl })

-- a text divides or breaks off
pub divides_or_breaks : (text : List ℕ) → ((ps : List Piece) × Divides text ps) ⊎ ((at : Pos) × BreaksAt text at)
divides_or_breaks text = let d = divided-below (length text) text (omega arith) in by_end text d.pieces d.rest d.begins d.ended

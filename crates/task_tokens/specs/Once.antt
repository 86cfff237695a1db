-- A text has at most one division, or breaks off at one place.
use Rattle.std.specs.Prelude.{◌≡◌, ℕ, List}
use Rattle.ease_base.specs.declared.place.Pos.{Pos}
use Rattle.task_tokens.specs.Division.{Piece, Divides, BreaksAt}

-- two divisions of a text are one, two places where it breaks off are one, and a text that divides doesn't break off
pub record DividesOnce : Type 0 where
  pub one : (text : List ℕ) (ps qs : List Piece) → Divides text ps → Divides text qs → ps ≡ qs
  pub one_break : (text : List ℕ) (at to : Pos) → BreaksAt text at → BreaksAt text to → at ≡ to
  pub not_both : (text : List ℕ) (ps : List Piece) (at : Pos) → Divides text ps → BreaksAt text at → ⊥

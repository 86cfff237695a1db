-- A printed program that some text has is read again, up to places.
use Rattle.std.proofs.Common.{◌≡◌, ℕ, List, sym, subst}
use Rattle.std.specs.List.{AllByRecursion}
use Rattle.task_ast.specs.declared.tree.Program.{Program}
use Rattle.task_tokens.specs.declared.token.Lexeme.{Lexeme}
use Rattle.task_tokens.specs.Division.{Piece, Divides, start, tokens_of}
use Rattle.task_tokens.specs.Fair.{IsFair}
use Rattle.task_tokens.specs.Spaced.{IsPrintable, DividesSo}
use Rattle.task_text.specs.Reads.{Reads}
use Rattle.task_print.specs.Printed.{program_tokens, printed}
use Rattle.task_print.specs.Unplaced.{unplaced}
use Rattle.task_print.proofs.PrintedPrograms.{program-again}

module _ (fair_text : (text : List ℕ) (ps : List Piece) → Divides text ps → AllByRecursion IsFair (tokens_of start ps)) (divides_so : (xs : List Lexeme) → AllByRecursion IsPrintable xs → DividesSo xs) where
  -- a printed program that some text has is read again, up to places
  pub read_again : (text : List ℕ) (p : Program) → Reads text p → (q : Program) × Reads (printed p) q × (unplaced q ≡ unplaced p)
  unfolding printed
  read_again text p reads =
      let fair = fair_text text reads.pieces reads.divides in
      let whole = program-again p (tokens_of start reads.pieces) reads.program fair in
      let d = divides_so (program_tokens p) whole.printable in
      let again = whole.again (tokens_of start d.pieces) d.are in
      (again.0, record { pieces = d.pieces; divides = d.divides; narrow = d.narrow; program = again.1 }, again.2)

  -- the same of the text itself
  pub read_printed : (p : Program) (text : List ℕ) → (source : List ℕ) × Reads source p → text ≡ printed p → (q : Program) × Reads text q × (unplaced q ≡ unplaced p)
  read_printed p text read is =
      let again = read_again read.0 p read.1 in (again.0, subst (λ t. Reads t again.0) (sym is) again.1, again.2)

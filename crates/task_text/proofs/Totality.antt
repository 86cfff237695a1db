-- Each text is a program or refused.
use Rattle.std.proofs.Common.{◌≡◌, ℕ, List, [], ◌∷◌, Ok, Err, refl, ap, ◌⊎◌, inl, inr, true, false}
use Rattle.std.proofs.lemmas.Bool.{cases_Bool}
use Rattle.std.specs.List.{AllByRecursion}
use Rattle.ease_base.specs.declared.place.Pos.{Pos}
use Rattle.task_ast.specs.declared.tree.Program.{Program}
use Rattle.task_tokens.specs.declared.token.Token.{Token}
use Rattle.task_tokens.specs.Division.{Piece, Divides, BreaksAt, start, tokens_of, end_of}
use Rattle.task_tokens.specs.Fair.{IsNarrow}
use Rattle.task_text.specs.declared.error.TextError.{TextError}
use Rattle.task_text.specs.declared.error.TextError.TheVariants.{Syntax, NumberTooWide}
use Rattle.task_text.specs.Reading.{Outcome}
use Rattle.task_text.specs.ReadingProgram.{program_at}
use Rattle.task_text.specs.Reads.{Reads, Refuses, IsFirstTooWide, is_too_wide}
use Rattle.task_text.proofs.ProgramLaws.{program-sound}
use Rattle.task_text.proofs.ReadLaws.{narrow-from, wide-is, none-read}

-- no number is too wide, or a first one is
scan-first : (t : Token) (ts : List Token) → AllByRecursion IsNarrow ts ⊎ ((at : Pos) × IsFirstTooWide ts at) → (is_too_wide t.lexeme ≡ true) ⊎ (is_too_wide t.lexeme ≡ false) → AllByRecursion IsNarrow (t ∷ ts) ⊎ ((at : Pos) × IsFirstTooWide (t ∷ ts) at)
scan-first t ts later (inl held) = inr (t.at, record { front = []; token = t; back = ts; whole = refl; narrow = tt; wide = wide-is t.lexeme held; place = refl })
scan-first t ts (inl narrow) (inr failed) = inl (narrow-from t.lexeme failed, narrow)
scan-first t ts (inr w) (inr failed) = inr (w.0, record { front = t ∷ w.1.front; token = w.1.token; back = w.1.back; whole = ap (λ xs. t ∷ xs) w.1.whole; narrow = (narrow-from t.lexeme failed, w.1.narrow); wide = w.1.wide; place = w.1.place })

scan : (ts : List Token) → AllByRecursion IsNarrow ts ⊎ ((at : Pos) × IsFirstTooWide ts at)
scan [] = inl tt
scan (t ∷ ts) = scan-first t ts (scan ts) (cases_Bool (is_too_wide t.lexeme))

abbrev Either : List ℕ → Type 0
Either text = ((p : Program) × Reads text p) ⊎ ((e : TextError) × Refuses text e)

either-read : (text : List ℕ) (ps : List Piece) → Divides text ps → AllByRecursion IsNarrow (tokens_of start ps) → (o : Outcome Program) → program_at (tokens_of start ps) ≡ o → Either text
either-read text ps d n (Ok x) e = inl (x.value, record { pieces = ps; divides = d; narrow = n; program = program-sound (tokens_of start ps) x.rest x.value e })
either-read text ps d n (Err us) e = inr (Syntax (end_of start ps), inr (record { pieces = ps; divides = d; narrow = n; none = none-read (tokens_of start ps) us e; place = inr refl }))

either-scanned : (text : List ℕ) (ps : List Piece) → Divides text ps → AllByRecursion IsNarrow (tokens_of start ps) ⊎ ((at : Pos) × IsFirstTooWide (tokens_of start ps) at) → Either text
either-scanned text ps d (inl n) = either-read text ps d n (program_at (tokens_of start ps)) refl
either-scanned text ps d (inr w) = inr (NumberTooWide w.0, record { pieces = ps; divides = d; first = w.1 })

-- a text that divides or breaks off is a program, or a refusal is right for it
pub read_or_refused_law : (text : List ℕ) → ((ps : List Piece) × Divides text ps) ⊎ ((at : Pos) × BreaksAt text at) → Either text
read_or_refused_law text (inl d) = either-scanned text d.0 d.1 (scan (tokens_of start d.0))
read_or_refused_law text (inr b) = inr (Syntax b.0, inl b.1)

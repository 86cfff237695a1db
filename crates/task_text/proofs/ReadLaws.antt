-- A text is at most one program, or refused; not both.
use Rattle.std.proofs.Common.{◌≡◌, ◌≢◌, ℕ, suc, ◌<◌, true, false, List, [], ◌∷◌, ◌++◌, length, get_or, take, drop, Result, Ok, Err, refl, sym, ap, subst, ◌∙◌, inl, inr}
use Rattle.std.proofs.Math.Seq.{drop-cons}
use Rattle.std.proofs.lemmas.Bool.{false≢true}
use Rattle.std.proofs.lemmas.List.{take-append-drop}
use Rattle.std.specs.List.{AllByRecursion}
use Rattle.std.specs.Prelude.{IfOk, IfErr}
use Rattle.ease_base.specs.declared.place.Pos.{Pos}
use Rattle.task_ast.specs.declared.tree.Program.{Program}
use Rattle.task_tokens.specs.declared.token.Token.{Token}
use Rattle.task_tokens.specs.declared.token.Lexeme.{Lexeme}
use Rattle.task_tokens.specs.declared.token.Lexeme.TheVariants as lexeme
use Rattle.task_tokens.specs.declared.dividing.Divided.{Divided}
use Rattle.task_text.specs.declared.error.TextError.{TextError}
use Rattle.task_text.specs.declared.error.TextError.TheVariants.{Syntax, NumberTooWide, NoMemory}
use Rattle.task_tokens.specs.Division.{Piece, BreaksAt, start, tokens_of, end_of}
use Rattle.task_tokens.specs.Divided.{IsDivided}
use Rattle.task_text.specs.Grammar.{IsProgram}
use Rattle.task_text.specs.Reading.{Found, found}
use Rattle.task_text.specs.ReadingProgram.{program_at}
use Rattle.task_text.specs.Reads.{Reads, Refuses, IsCause, IsFirstTooWide, IsTooWideAt, IsPlaceAmong, Answers, IsReading, IsResult, is_too_wide}
use Rattle.task_tokens.specs.Fair.{IsNarrow}
use Rattle.task_tokens.specs.Once.{DividesOnce}
use Rattle.task_text.proofs.ProgramLaws.{program-sound, program-complete}
use Rattle.task_text.proofs.TokenLaws.{not_found, same_found}

pub one_program : (tokens : List Token) (p q : Program) → IsProgram p tokens → IsProgram q tokens → p ≡ q
one_program tokens p q h k = let e : found p [] ≡ found q [] = sym (program-complete p tokens h) ∙ program-complete q tokens k in ap (λ (f : Found Program). f.value) (same_found (record { value = p; rest = [] }) q [] e)

abbrev tokens_in : List Piece → List Token
tokens_in ps = tokens_of start ps

-- a token among narrow ones isn't too wide
narrow-at : (front back : List Token) (t : Token) → AllByRecursion IsNarrow (front ++ t ∷ back) → t.lexeme ≢ lexeme.TooWide
narrow-at [] back t h = h.0
narrow-at (u ∷ front) back t h = narrow-at front back t h.1

not_narrow : (tokens : List Token) (at : Pos) → AllByRecursion IsNarrow tokens → IsFirstTooWide tokens at → ⊥
not_narrow tokens at n w = narrow-at w.front w.back w.token (subst (AllByRecursion IsNarrow) w.whole n) w.wide

-- the first token that is too wide is one
first-same : (front other back more : List Token) (t u : Token) → front ++ t ∷ back ≡ other ++ u ∷ more → AllByRecursion IsNarrow front → AllByRecursion IsNarrow other → t.lexeme ≡ lexeme.TooWide → u.lexeme ≡ lexeme.TooWide → t ≡ u
first-same [] [] back more t u e n m w v = cc
first-same [] (y ∷ ys) back more t u e n m w v = absurd (m.0 (let k : t ≡ y = cc in subst (λ (x : Token). x.lexeme ≡ lexeme.TooWide) k w))
first-same (x ∷ xs) [] back more t u e n m w v = absurd (n.0 (let k : u ≡ x = cc in subst (λ (x : Token). x.lexeme ≡ lexeme.TooWide) k v))
first-same (x ∷ xs) (y ∷ ys) back more t u e n m w v = first-same xs ys back more t u (let k : xs ++ t ∷ back ≡ ys ++ u ∷ more = cc in k) n.1 m.1 w v

one_wide : (tokens : List Token) (at to : Pos) → IsFirstTooWide tokens at → IsFirstTooWide tokens to → at ≡ to
one_wide tokens at to a b = sym a.place ∙ ap (λ (t : Token). t.at) (first-same a.front b.front a.back b.back a.token b.token (sym a.whole ∙ b.whole) a.narrow b.narrow a.wide b.wide) ∙ b.place

module _ (once : DividesOnce) where
  pub one_tree_law : (text : List ℕ) (p q : Program) → Reads text p → Reads text q → p ≡ q
  one_tree_law text p q r s =
      let e = once.one text r.pieces s.pieces r.divides s.divides in
      one_program (tokens_in s.pieces) p q (subst (λ ps. IsProgram p (tokens_in ps)) e r.program) s.program

  pub not_both : (text : List ℕ) (p : Program) (e : TextError) → Reads text p → Refuses text e → ⊥
  not_both text p (Syntax at) r (inl b) = once.not_both text r.pieces at r.divides b
  not_both text p (Syntax at) r (inr n) =
      let e = once.one text r.pieces n.pieces r.divides n.divides in
      n.none p (subst (λ ps. IsProgram p (tokens_in ps)) e r.program)
  not_both text p (NumberTooWide at) r w =
      let e = once.one text r.pieces w.pieces r.divides w.divides in
      not_narrow (tokens_in w.pieces) at (subst (λ ps. AllByRecursion IsNarrow (tokens_in ps)) e r.narrow) w.first
  not_both text p NoMemory r h = h

  -- what a result is, where the text is a program
  pub only-from : (text : List ℕ) (r : Result Program TextError) → IsResult text r → (p : Program) → Reads text p → Answers r (Ok p)
  only-from text (Ok q) h p k = ap Ok (one_tree_law text q p h k)
  only-from text (Err NoMemory) h p k = tt
  only-from text (Err (Syntax at)) h p k = absurd (not_both text p (Syntax at) k h)
  only-from text (Err (NumberTooWide at)) h p k = absurd (not_both text p (NumberTooWide at) k h)

  -- where it breaks off
  pub breaks-from : (text : List ℕ) (r : Result Program TextError) → IsResult text r → (at : Pos) → BreaksAt text at → Answers r (Err (Syntax at))
  breaks-from text (Ok q) h at b = absurd (not_both text q (Syntax at) h (inl b))
  breaks-from text (Err NoMemory) h at b = tt
  breaks-from text (Err (Syntax to)) (inl c) at b = ap (λ x. Err (Syntax x)) (once.one_break text to at c b)
  breaks-from text (Err (Syntax to)) (inr n) at b = absurd (once.not_both text n.pieces at n.divides b)
  breaks-from text (Err (NumberTooWide to)) h at b = absurd (once.not_both text h.pieces at h.divides b)

  -- and where a number is too wide
  pub wide-from : (text : List ℕ) (r : Result Program TextError) → IsResult text r → (at : Pos) → IsTooWideAt text at → Answers r (Err (NumberTooWide at))
  wide-from text (Ok q) h at w = absurd (not_both text q (NumberTooWide at) h w)
  wide-from text (Err NoMemory) h at w = tt
  wide-from text (Err (Syntax to)) (inl c) at w = absurd (once.not_both text w.pieces to w.divides c)
  wide-from text (Err (Syntax to)) (inr n) at w =
      let e = once.one text n.pieces w.pieces n.divides w.divides in
      absurd (not_narrow (tokens_in w.pieces) at (subst (λ ps. AllByRecursion IsNarrow (tokens_in ps)) e n.narrow) w.first)
  wide-from text (Err (NumberTooWide to)) h at w =
      let e = once.one text h.pieces w.pieces h.divides w.divides in
      ap (λ x. Err (NumberTooWide x)) (one_wide (tokens_in w.pieces) to at (subst (λ ps. IsFirstTooWide (tokens_in ps) to) e h.first) w.first)

pub found-from : (text : List ℕ) (r : Result Program TextError) → IsResult text r → IfOk r (Reads text)
found-from text (Ok p) h = h
found-from text (Err e) h = tt

pub refused-from : (text : List ℕ) (r : Result Program TextError) → IsResult text r → IfErr r (IsCause text)
refused-from text (Ok p) h = tt
refused-from text (Err e) h = h

-- reading the tokens, by what the cursor's program gives
pub reading-found : (tokens us : List Token) (end : Pos) (p : Program) → program_at tokens ≡ found p us → IsReading tokens end (Ok p)
reading-found tokens us end p e = program-sound tokens us p e

pub none-read : (tokens us : List Token) → program_at tokens ≡ Err us → (p : Program) → IsProgram p tokens → ⊥
none-read tokens us e p h = not_found p [] us (sym e ∙ program-complete p tokens h)

-- a token of the tokens is among them
pub among : (tokens : List Token) (i : ℕ) (t : Token) (end : Pos) → i < length tokens → t ≡ get_or tokens i t → IsPlaceAmong tokens end t.at
among tokens i t end h e = inl (take i tokens, drop (suc i) tokens, t, sym (take-append-drop i tokens) ∙ ap (λ xs. take i tokens ++ xs) (drop-cons tokens i t h ∙ ap (λ x. x ∷ drop (suc i) tokens) (sym e)), refl)

-- the scan for a number that is too wide
pub narrow-from : (x : Lexeme) → is_too_wide x ≡ false → x ≢ lexeme.TooWide
narrow-from x h e = false≢true (sym h ∙ ap is_too_wide e)

pub wide-is : (x : Lexeme) → is_too_wide x ≡ true → x ≡ lexeme.TooWide
wide-is lexeme.TooWide h = refl
wide-is (lexeme.Name x) h = absurd (false≢true h)
wide-is (lexeme.Number n) h = absurd (false≢true h)
wide-is (lexeme.Reserved k) h = absurd (false≢true h)
wide-is (lexeme.Symbol s) h = absurd (false≢true h)

-- the text, by its tokens
pub result-from : (text : List ℕ) (d : Divided) (r : Result Program TextError) → IsDivided text d → AllByRecursion IsNarrow d.tokens → IsReading d.tokens d.end r → IsResult text r
result-from text d (Ok p) i n h = record { pieces = i.pieces; divides = i.divides; narrow = subst (AllByRecursion IsNarrow) i.tokens n; program = subst (IsProgram p) i.tokens h }
result-from text d (Err NoMemory) i n h = tt
result-from text d (Err (NumberTooWide at)) i n h = absurd h
result-from text d (Err (Syntax at)) i n h = inr (record {
  pieces = i.pieces;
  divides = i.divides;
  narrow = subst (AllByRecursion IsNarrow) i.tokens n;
  none = subst (λ ts. (p : Program) → IsProgram p ts → ⊥) i.tokens h.0;
  place = subst (λ ts. IsPlaceAmong ts (end_of start i.pieces) at) i.tokens (subst (λ e. IsPlaceAmong d.tokens e at) i.end h.1);
})

pub wide-result : (text : List ℕ) (d : Divided) (at : Pos) → IsDivided text d → IsFirstTooWide d.tokens at → IsResult text (Err (NumberTooWide at))
wide-result text d at i w = record { pieces = i.pieces; divides = i.divides; first = subst (λ ts. IsFirstTooWide ts at) i.tokens w }

pub wide-found : (tokens : List Token) (i : ℕ) (t : Token) → i < length tokens → t ≡ get_or tokens i t → AllByRecursion IsNarrow (take i tokens) → is_too_wide t.lexeme ≡ true → IsFirstTooWide tokens t.at
wide-found tokens i t h e n w = record {
  front = take i tokens;
  token = t;
  back = drop (suc i) tokens;
  whole = sym (take-append-drop i tokens) ∙ ap (λ xs. take i tokens ++ xs) (drop-cons tokens i t h ∙ ap (λ x. x ∷ drop (suc i) tokens) (sym e));
  narrow = n;
  wide = wide-is t.lexeme w;
  place = refl;
}

pub read-result : (text : List ℕ) (d : Divided) (r : Result Program TextError) (scanned tokens : List Token) → IsDivided text d → scanned ≡ d.tokens → AllByRecursion IsNarrow scanned → tokens ≡ d.tokens → IsReading tokens d.end r → IsResult text r
read-result text d r scanned tokens i e n f h = result-from text d r i (subst (AllByRecursion IsNarrow) e n) (subst (λ ts. IsReading ts d.end r) f h)

-- Statements that are read are in the grammar, and those in the grammar are read.
use Rattle.std.proofs.Common.{◌≡◌, ℕ, zero, suc, ◌-◌, false, List, ◌∷◌, Option, Some, None, refl, sym, ap, ◌∙◌, arith, inl, inr}
use Rattle.ease_base.specs.declared.place.Pos.{Pos}
use Rattle.task_ast.specs.declared.tree.Op1.{Op1}
use Rattle.task_ast.specs.declared.tree.Op1.TheVariants as op1
use Rattle.task_ast.specs.declared.tree.Name.{Name}
use Rattle.task_ast.specs.declared.tree.Expr.{Expr}
use Rattle.task_ast.specs.declared.tree.Target.{Target}
use Rattle.task_ast.specs.declared.tree.Target.TheVariants as target
use Rattle.task_ast.specs.declared.tree.Stmt.{Stmt}
use Rattle.task_ast.specs.declared.tree.Stmt.TheVariants as stmt
use Rattle.task_tokens.specs.declared.token.Keyword.TheVariants as keyword
use Rattle.task_tokens.specs.declared.token.Sign.TheVariants as sign
use Rattle.task_tokens.specs.declared.token.Token.{Token}
use Rattle.task_text.specs.declared.cursor.Opening.{Opening}
use Rattle.task_text.specs.declared.cursor.Opening.TheVariants as opening
use Rattle.task_text.specs.Forms.{reserved, symbol, name, Form}
use Rattle.task_text.specs.Grammar.{prefix_of, IsCall, IsSetting, IsGiving, IsAssigning, IsCopy, IsBody, IsBlock, IsChoice, IsIf, IsLoop, IsStmt}
use Rattle.task_text.specs.Reading.{Reader, begins_sign, begins_reserved, begins_stmt, next_opening}
use Rattle.task_text.specs.ReadingStmt.{call_at, setting_of, giving_of, assigned_of, assigning_at, copy_at, body_of, block_of, else_of, choice_of, if_of, loop_of, stmt_of, stmt_at}
use Rattle.task_text.proofs.TokenLaws.{not_found}
use Rattle.task_text.proofs.Offs.{IsSound}
use Rattle.task_text.proofs.Items.{Takes}
use Rattle.task_text.proofs.Many.{NoElse, Beginnings, item-takes}
use Rattle.task_text.proofs.ExprSound.{value-sound}
use Rattle.task_text.proofs.ExprComplete.{Heads, value-starts, value-complete}
use Rattle.task_text.proofs.PartLaws.{target-sound, target-complete, address-sound, address-complete, place-sound, place-complete, ann-sound, ann-complete, arguments-sound, arguments-complete, test-sound, test-complete, head-sound, head-complete}
use Rattle.task_text.proofs.Chain.{word-sound, mark-sound, named-sound, done-sound, chain-sound, enclosed-sound, many-sound, either-sound, widen}
use Rattle.task_text.proofs.Starts.{Starts, IsReadBefore, word-starts, mark-starts, then-starts, named-starts, either-starts}
use Rattle.task_text.proofs.Complete.{Any, word-complete, mark-complete, named-complete, done-complete, chain-complete, chain-before, last-complete, enclosed-complete, choose-complete, optional-complete, both-complete, kind-complete, items-complete}

-- ---- what is read is in the grammar

call-sound : (x : Option Target) → IsSound (IsCall x) (call_at x)
unfolding call_at
call-sound x =
    chain-sound (word-sound keyword.Io) (λ at. chain-sound (mark-sound sign.ParenOpen) (λ _. chain-sound named-sound (λ p. chain-sound (mark-sound sign.Comma) (λ _. chain-sound ann-sound (λ a. chain-sound arguments-sound
    (λ args. chain-sound (mark-sound sign.ParenClose) (λ _. chain-sound (mark-sound sign.Semicolon) (λ _. done-sound (stmt.Io x p a args at)))))))))

setting-sound : (x : Target) → IsSound (IsSetting x) (setting_of x)
unfolding setting_of
setting-sound (target.Scalar p) ts us y h = chain-sound (mark-sound sign.Ampersand) (λ _. chain-sound address-sound (λ to. chain-sound (mark-sound sign.Semicolon) (λ _. done-sound (stmt.Point p to)))) ts us y h
setting-sound (target.Element x i) ts us y h = absurd (not_found y us ts h)

giving-sound : (x : Target) → IsSound (IsGiving x) (giving_of x)
unfolding giving_of
giving-sound x = chain-sound value-sound (λ e. chain-sound (mark-sound sign.Semicolon) (λ _. done-sound (stmt.Assign x e)))

assigning-sound : IsSound IsAssigning assigning_at
unfolding assigning_at assigned_of
assigning-sound =
    chain-sound target-sound (λ x. chain-sound (mark-sound sign.Equal)
    (λ _. either-sound (begins_reserved keyword.Io) (call-sound (Some x)) (either-sound (begins_sign sign.Ampersand) (setting-sound x) (giving-sound x))))

copy-sound : IsSound IsCopy copy_at
unfolding copy_at
copy-sound =
    chain-sound (word-sound keyword.Dma) (λ at. chain-sound (mark-sound sign.ParenOpen) (λ _. chain-sound place-sound (λ to. chain-sound (mark-sound sign.Comma) (λ _. chain-sound place-sound (λ from. chain-sound (mark-sound sign.Comma)
    (λ _. chain-sound value-sound (λ n. chain-sound (mark-sound sign.ParenClose) (λ _. chain-sound (mark-sound sign.Semicolon) (λ _. done-sound (stmt.Dma to from n at))))))))))

module _ {P : Form Stmt} {item : Reader Stmt} (each : IsSound P item) where
  body-sound : IsSound (IsBody P) (body_of item)
  body-sound = enclosed-sound sign.BraceOpen sign.BraceClose (many-sound begins_stmt each)

  block-sound : IsSound (IsBlock P) (block_of item)
  unfolding block_of
  block-sound = chain-sound (word-sound keyword.IoBlock) (λ at. chain-sound (enclosed-sound sign.ParenOpen sign.ParenClose ann-sound) (λ a. chain-sound body-sound (λ body. done-sound (stmt.Block a body at))))

  pub choice-sound : (c : Expr) → IsSound (IsChoice P c) (choice_of item c)
  unfolding choice_of else_of
  choice-sound c =
      chain-sound body-sound (λ xs. chain-sound (either-sound (begins_reserved keyword.Else) (chain-sound (word-sound keyword.Else) (λ _. body-sound)) (done-sound _)) (λ ys. done-sound (stmt.If c xs ys)))

  if-sound : IsSound (IsIf P) (if_of item)
  unfolding if_of
  if-sound = chain-sound test-sound (λ c. choice-sound c)

  loop-sound : IsSound (IsLoop P) (loop_of item)
  unfolding loop_of
  loop-sound = chain-sound head-sound (λ h. chain-sound body-sound (λ body. done-sound (stmt.For h.variable h.turns.value h.turns.at body h.word)))

kind-sound : (n : ℕ) → IsSound (IsStmt n) (stmt_at n) → (o : Opening) → IsSound (IsStmt (suc n)) (stmt_of o (stmt_at n))
unfolding IsStmt
kind-sound n each opening.Assignment = widen (λ s ts h. inl h) assigning-sound
kind-sound n each opening.Call = widen (λ s ts h. inr (inl h)) (call-sound None)
kind-sound n each opening.Copy = widen (λ s ts h. inr (inr (inl h))) copy-sound
kind-sound n each opening.Block = widen (λ s ts h. inr (inr (inr (inl h)))) (block-sound each)
kind-sound n each opening.If = widen (λ s ts h. inr (inr (inr (inr (inl h))))) (if-sound each)
kind-sound n each opening.Loop = widen (λ s ts h. inr (inr (inr (inr (inr h))))) (loop-sound each)
kind-sound n each opening.Nothing = λ ts us s h. absurd (not_found s us ts h)

pub stmt-sound : (n : ℕ) → IsSound (IsStmt n) (stmt_at n)
unfolding stmt_at
stmt-sound zero ts us s h = absurd (not_found s us ts h)
stmt-sound (suc n) ts us s h = kind-sound n (stmt-sound n) (next_opening ts) ts us s h

-- ---- what is in the grammar is read

call-complete : {F : List Token → Type 0} (x : Option Target) → IsReadBefore F (IsCall x) (call_at x)
unfolding call_at
call-complete x =
    chain-complete (word-complete keyword.Io) (λ at. chain-complete (mark-complete sign.ParenOpen) (λ _. chain-complete named-complete (λ p. chain-complete (mark-complete sign.Comma) (λ _. chain-complete ann-complete
    (λ a. chain-before arguments-complete (λ args. then-starts (mark-starts (λ at us. (refl, (refl, refl))))) (λ args. chain-complete (mark-complete sign.ParenClose) (λ _. chain-complete (mark-complete sign.Semicolon) (λ _. done-complete (stmt.Io x p a args at)))))))))

setting-complete : (x : Target) → IsReadBefore NoElse (IsSetting x) (setting_of x)
unfolding setting_of
setting-complete (target.Scalar p) =
    chain-complete (mark-complete sign.Ampersand) (λ _. chain-before address-complete (λ to. then-starts (mark-starts (λ at us. refl))) (λ to. chain-complete (mark-complete sign.Semicolon) (λ _. done-complete (stmt.Point p to))))
setting-complete (target.Element x i) = record { reads = λ y front rest h safe. absurd h }

giving-complete : (x : Target) → IsReadBefore NoElse (IsGiving x) (giving_of x)
unfolding giving_of
giving-complete x = chain-before value-complete (λ e. then-starts (mark-starts (λ at us. (refl, refl)))) (λ e. chain-complete (mark-complete sign.Semicolon) (λ _. done-complete (stmt.Assign x e)))

setting-starts : {G : List Token → Type 0} (x : Target) → ((at : Pos) (us : List Token) → G (symbol sign.Ampersand at ∷ us)) → Starts G (IsSetting x)
setting-starts (target.Scalar p) h = then-starts (mark-starts h)
setting-starts (target.Element x i) h = record { so = λ y front rest k. absurd k }

copy-complete : {F : List Token → Type 0} → IsReadBefore F IsCopy copy_at
unfolding copy_at
copy-complete =
    chain-complete (word-complete keyword.Dma) (λ at. chain-complete (mark-complete sign.ParenOpen) (λ _. chain-before place-complete (λ to. then-starts (mark-starts (λ at us. refl))) (λ to. chain-complete (mark-complete sign.Comma)
    (λ _. chain-before place-complete (λ from. then-starts (mark-starts (λ at us. refl))) (λ from. chain-complete (mark-complete sign.Comma) (λ _. chain-before value-complete (λ n. then-starts (mark-starts (λ at us. (refl, refl))))
    (λ n. chain-complete (mark-complete sign.ParenClose) (λ _. chain-complete (mark-complete sign.Semicolon) (λ _. done-complete (stmt.Dma to from n at))))))))))

-- an expression begins with no `IO` and no `&`
no-call : Heads (λ ts. begins_reserved keyword.Io ts ≡ false)
no-call = record { number = λ n at us. refl; named = λ x us. refl; paren = λ at us. refl; prefix = λ o at us. refl }

prefix-alone : (o : Op1) (at : Pos) (us : List Token) → begins_sign sign.Ampersand (symbol (prefix_of o) at ∷ us) ≡ false
prefix-alone op1.Not at us = refl
prefix-alone op1.Inv at us = refl
prefix-alone op1.Neg at us = refl

no-address : Heads (λ ts. begins_sign sign.Ampersand ts ≡ false)
no-address = record { number = λ n at us. refl; named = λ x us. refl; paren = λ at us. refl; prefix = prefix-alone }

assigning-complete : IsReadBefore NoElse IsAssigning assigning_at
unfolding assigning_at assigned_of
assigning-complete =
    chain-before target-complete (λ x. then-starts (mark-starts (λ at us. refl))) (λ x. chain-complete (mark-complete sign.Equal)
    (λ _. choose-complete (begins_reserved keyword.Io) (then-starts (word-starts (λ at us. refl))) (either-starts (setting-starts x (λ at us. refl)) (then-starts (value-starts no-call))) (call-complete (Some x))
    (choose-complete (begins_sign sign.Ampersand) (setting-starts x (λ at us. refl)) (then-starts (value-starts no-address)) (setting-complete x) (giving-complete x))))

-- ---- how a statement begins

pub record Openings (G : List Token → Type 0) : Type 0 where
  pub named : (x : Name) (us : List Token) → G (name x ∷ us)
  pub call : (at : Pos) (us : List Token) → G (reserved keyword.Io at ∷ us)
  pub copy : (at : Pos) (us : List Token) → G (reserved keyword.Dma at ∷ us)
  pub block : (at : Pos) (us : List Token) → G (reserved keyword.IoBlock at ∷ us)
  pub choice : (at : Pos) (us : List Token) → G (reserved keyword.If at ∷ us)
  pub turns : (at : Pos) (us : List Token) → G (reserved keyword.For at ∷ us)

pub stmt-starts : {G : List Token → Type 0} → Openings G → (n : ℕ) → Starts G (IsStmt n)
unfolding IsStmt
stmt-starts o zero = record { so = λ s front rest h. absurd h }
stmt-starts o (suc n) =
    either-starts (then-starts (then-starts (named-starts o.named))) (either-starts (then-starts (word-starts o.call)) (either-starts (then-starts (word-starts o.copy)) (either-starts (then-starts (word-starts o.block))
    (either-starts (then-starts (then-starts (word-starts o.choice))) (then-starts (then-starts (then-starts (word-starts o.turns))))))))

pub statements : (n : ℕ) → Beginnings NoElse (IsStmt n) begins_stmt
statements n = record {
  starts = stmt-starts (record { named = λ x us. refl; call = λ at us. refl; copy = λ at us. refl; block = λ at us. refl; choice = λ at us. refl; turns = λ at us. refl }) n;
  safe = stmt-starts (record { named = λ x us. refl; call = λ at us. refl; copy = λ at us. refl; block = λ at us. refl; choice = λ at us. refl; turns = λ at us. refl }) n;
  ends = refl;
}

-- each takes a token
pub stmt-takes : (n : ℕ) → Takes (stmt_at n)
stmt-takes n = item-takes (statements n) (stmt-sound n)

-- ---- statements with statements inside

module _ {P : Form Stmt} {item : Reader Stmt} (b : Beginnings NoElse P begins_stmt) (each : IsReadBefore NoElse P item) where
  body-complete : {F : List Token → Type 0} → IsReadBefore F (IsBody P) (body_of item)
  body-complete = enclosed-complete sign.BraceOpen sign.BraceClose (items-complete b each) (λ at us. (refl, refl))

  block-complete : IsReadBefore NoElse (IsBlock P) (block_of item)
  unfolding block_of
  block-complete = chain-complete (word-complete keyword.IoBlock) (λ at. chain-complete (enclosed-complete {G = Any} sign.ParenOpen sign.ParenClose ann-complete (λ at us. tt)) (λ a. chain-complete body-complete (λ body. done-complete (stmt.Block a body at))))

  pub choice-complete : (c : Expr) → IsReadBefore NoElse (IsChoice P c) (choice_of item c)
  unfolding choice_of else_of
  choice-complete c = chain-complete body-complete (λ xs. last-complete (optional-complete (begins_reserved keyword.Else) (then-starts (word-starts (λ at us. refl))) (λ rest safe. safe) (chain-complete (word-complete keyword.Else) (λ _. body-complete))))

  if-complete : IsReadBefore NoElse (IsIf P) (if_of item)
  unfolding if_of
  if-complete = chain-complete test-complete (λ c. choice-complete c)

  loop-complete : IsReadBefore NoElse (IsLoop P) (loop_of item)
  unfolding loop_of
  loop-complete = chain-complete head-complete (λ h. chain-complete body-complete (λ body. done-complete (stmt.For h.variable h.turns.value h.turns.at body h.word)))

stmt-inside : (n : ℕ) → IsReadBefore NoElse (IsStmt n) (stmt_at n) → IsReadBefore NoElse (IsStmt (suc n)) (stmt_at (suc n))
unfolding IsStmt stmt_at
stmt-inside n each =
    let read = λ (o : Opening). stmt_of o (stmt_at n) in
    let b = statements n in
    both-complete (kind-complete read opening.Assignment (then-starts (then-starts (named-starts (λ x us. refl)))) assigning-complete)
    (both-complete (kind-complete read opening.Call (then-starts (word-starts (λ at us. refl))) (call-complete None))
    (both-complete (kind-complete read opening.Copy (then-starts (word-starts (λ at us. refl))) copy-complete)
    (both-complete (kind-complete read opening.Block (then-starts (word-starts (λ at us. refl))) (block-complete b each))
    (both-complete (kind-complete read opening.If (then-starts (then-starts (word-starts (λ at us. refl)))) (if-complete b each))
    (kind-complete read opening.Loop (then-starts (then-starts (then-starts (word-starts (λ at us. refl))))) (loop-complete b each))))))

pub stmt-complete : (n : ℕ) → IsReadBefore NoElse (IsStmt n) (stmt_at n)
unfolding IsStmt
stmt-complete zero = record { reads = λ s front rest h safe. absurd h }
stmt-complete (suc n) = stmt-inside n (stmt-complete n)

-- ---- the statement that begins so

below : (n : ℕ) → n ≡ suc n - 1
below n = omega arith

pub stmt-step : (n : ℕ) (ts : List Token) (o : Opening) → (n ≡ 0 → ⊥) → o ≡ next_opening ts → stmt_at n ts ≡ stmt_of o (stmt_at (n - 1)) ts
unfolding stmt_at
stmt-step zero ts o h e = absurd (h refl)
stmt-step (suc n) ts o h e = ap (λ p. stmt_of p (stmt_at n) ts) (sym e) ∙ ap (λ m. stmt_of o (stmt_at m) ts) (below n)

-- Exits that are read are in the grammar, and those in the grammar are read.
use Rattle.std.proofs.Common.{◌≡◌, ℕ, zero, suc, ◌-◌, true, false, List, ◌∷◌, refl, ap, ◌∙◌, arith}
use Rattle.std.proofs.lemmas.Bool.{cond-true, cond-false}
use Rattle.ease_base.specs.declared.place.Pos.{Pos}
use Rattle.task_ast.specs.declared.tree.Expr.{Expr}
use Rattle.task_ast.specs.declared.tree.Exit.{Exit}
use Rattle.task_ast.specs.declared.tree.Exit.TheVariants as exit
use Rattle.task_tokens.specs.declared.token.Keyword.TheVariants as keyword
use Rattle.task_tokens.specs.declared.token.Sign.TheVariants as sign
use Rattle.task_tokens.specs.declared.token.Token.{Token}
use Rattle.task_text.specs.Forms.{reserved, Form}
use Rattle.task_text.specs.Grammar.{IsLeave, IsChosen, IsExit}
use Rattle.task_text.specs.Reading.{Reader, begins_reserved}
use Rattle.task_text.specs.ReadingProgram.{next_at, stop_at, leave_at, chosen_of, choose_of, exit_at}
use Rattle.task_text.proofs.Offs.{IsSound}
use Rattle.task_text.proofs.PartLaws.{test-sound, test-complete}
use Rattle.task_text.proofs.Chain.{word-sound, mark-sound, named-sound, done-sound, chain-sound, either-sound}
use Rattle.task_text.proofs.Starts.{Starts, IsReadBefore, word-starts, then-starts, either-starts}
use Rattle.task_text.proofs.Complete.{Any, word-complete, mark-complete, named-complete, done-complete, chain-complete, choose-complete}

-- ---- what is read is in the grammar

pub leave-sound : IsSound IsLeave leave_at
unfolding leave_at next_at stop_at
leave-sound =
    either-sound (begins_reserved keyword.Next)
    (chain-sound (word-sound keyword.Next) (λ _. chain-sound (mark-sound sign.ParenOpen) (λ _. chain-sound named-sound (λ x. chain-sound (mark-sound sign.ParenClose) (λ _. chain-sound (mark-sound sign.Semicolon) (λ _. done-sound (exit.Next x)))))))
    (chain-sound (word-sound keyword.Stop) (λ _. chain-sound (mark-sound sign.Semicolon) (λ _. done-sound exit.Stop)))

pub chosen-sound : {P : Form Exit} {inner : Reader Exit} → IsSound P inner → (c : Expr) → IsSound (IsChosen P c) (chosen_of inner c)
unfolding chosen_of
chosen-sound each c = chain-sound each (λ a. chain-sound (word-sound keyword.Else) (λ _. chain-sound each (λ b. done-sound (exit.Choose c a b))))

pub exit-sound : (n : ℕ) → IsSound (IsExit n) (exit_at n)
unfolding IsExit exit_at choose_of
exit-sound zero ts us e h = leave-sound ts us e h
exit-sound (suc n) ts us e h = either-sound (begins_reserved keyword.If) (chain-sound test-sound (λ c. chosen-sound (exit-sound n) c)) leave-sound ts us e h

-- ---- how an exit begins

pub record Leaves (G : List Token → Type 0) : Type 0 where
  pub next : (at : Pos) (us : List Token) → G (reserved keyword.Next at ∷ us)
  pub stop : (at : Pos) (us : List Token) → G (reserved keyword.Stop at ∷ us)

pub record Endings (G : List Token → Type 0) : Type 0 where
  pub leaves : Leaves G
  pub choice : (at : Pos) (us : List Token) → G (reserved keyword.If at ∷ us)

pub leave-starts : {G : List Token → Type 0} → Leaves G → Starts G IsLeave
leave-starts e = either-starts (then-starts (word-starts e.next)) (then-starts (word-starts e.stop))

pub exit-starts : {G : List Token → Type 0} → Endings G → (n : ℕ) → Starts G (IsExit n)
unfolding IsExit
exit-starts e zero = leave-starts e.leaves
exit-starts e (suc n) = either-starts (then-starts (then-starts (word-starts e.choice))) (leave-starts e.leaves)

-- ---- what is in the grammar is read

pub leave-complete : {F : List Token → Type 0} → IsReadBefore F IsLeave leave_at
unfolding leave_at next_at stop_at
leave-complete =
    choose-complete (begins_reserved keyword.Next) (then-starts (word-starts (λ at us. refl))) (then-starts (word-starts (λ at us. refl)))
    (chain-complete (word-complete keyword.Next) (λ _. chain-complete (mark-complete sign.ParenOpen) (λ _. chain-complete named-complete (λ x. chain-complete (mark-complete sign.ParenClose) (λ _. chain-complete (mark-complete sign.Semicolon) (λ _. done-complete (exit.Next x)))))))
    (chain-complete (word-complete keyword.Stop) (λ _. chain-complete (mark-complete sign.Semicolon) (λ _. done-complete exit.Stop)))

pub chosen-complete : {F : List Token → Type 0} {P : Form Exit} {inner : Reader Exit} → IsReadBefore Any P inner → (c : Expr) → IsReadBefore F (IsChosen P c) (chosen_of inner c)
unfolding chosen_of
chosen-complete each c = chain-complete each (λ a. chain-complete (word-complete keyword.Else) (λ _. chain-complete each (λ b. done-complete (exit.Choose c a b))))

exit-inside : (n : ℕ) → IsReadBefore Any (IsExit n) (exit_at n) → IsReadBefore Any (IsExit (suc n)) (exit_at (suc n))
unfolding IsExit exit_at choose_of
exit-inside n each =
    choose-complete (begins_reserved keyword.If) (then-starts (then-starts (word-starts (λ at us. refl)))) (leave-starts (record { next = λ at us. refl; stop = λ at us. refl }))
    (chain-complete test-complete (λ c. chosen-complete each c)) leave-complete

pub exit-complete : (n : ℕ) → IsReadBefore Any (IsExit n) (exit_at n)
unfolding IsExit exit_at
exit-complete zero = leave-complete
exit-complete (suc n) = exit-inside n (exit-complete n)

-- ---- the exit that begins so

below : (n : ℕ) → n ≡ suc n - 1
below n = omega arith

pub exit-choose : (n : ℕ) (ts : List Token) → (n ≡ 0 → ⊥) → begins_reserved keyword.If ts ≡ true → exit_at n ts ≡ choose_of (exit_at (n - 1)) ts
unfolding exit_at
exit-choose zero ts h e = absurd (h refl)
exit-choose (suc n) ts h e = cond-true (begins_reserved keyword.If ts) _ _ e ∙ ap (λ m. choose_of (exit_at m) ts) (below n)

pub exit-leave : (n : ℕ) (ts : List Token) → (n ≡ 0 → ⊥) → begins_reserved keyword.If ts ≡ false → exit_at n ts ≡ leave_at ts
unfolding exit_at
exit-leave zero ts h e = absurd (h refl)
exit-leave (suc n) ts h e = cond-false (begins_reserved keyword.If ts) _ _ e

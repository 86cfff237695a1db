-- Tasks that are read are in the grammar, and those in the grammar are read.
use Rattle.std.proofs.Common.{◌≡◌, ℕ, zero, suc, ◌-◌, ◌≤◌, Bool, true, false, List, [], ◌∷◌, ◌++◌, length, None, refl, sym, ap, subst, ◌∙◌, arith, ◌⊎◌, inl, inr, append_assoc, append-nil, length-append}
use Rattle.task_ast.specs.declared.tree.Expr.{Expr}
use Rattle.task_ast.specs.declared.tree.Stmt.{Stmt}
use Rattle.task_ast.specs.declared.tree.Exit.{Exit}
use Rattle.task_ast.specs.Readable.{most_nested}
use Rattle.task_tokens.specs.declared.token.Keyword.TheVariants as keyword
use Rattle.task_tokens.specs.declared.token.Sign.TheVariants as sign
use Rattle.task_tokens.specs.declared.token.Token.{Token}
use Rattle.task_text.specs.declared.cursor.Opening.{Opening}
use Rattle.task_text.specs.declared.cursor.Opening.TheVariants as opening
use Rattle.task_text.specs.declared.task.Turn.{Turn}
use Rattle.task_text.specs.declared.task.Turn.TheVariants as turn
use Rattle.task_text.specs.declared.task.Body.{Body}
use Rattle.task_text.specs.Forms.{Form, Then, Done, Either, AreAll}
use Rattle.task_text.specs.Grammar.{IsTest, IsAssigning, IsCall, IsCopy, IsBlock, IsChoice, IsIf, IsLoop, IsStmt, IsLeave, IsChosen, IsExit, IsWork, IsTask}
use Rattle.task_text.specs.Reading.{found, begins_sign, begins_reserved, begins_stmt, next_opening}
use Rattle.task_text.specs.ReadingStmt.{stmt_at}
use Rattle.task_text.specs.ReadingProgram.{leave_at, branch_of, choosing_at, acting_at, leaving_at, turn_of, turn_at, after_turn, work_in, work_at, task_at}
use Rattle.task_text.proofs.TokenLaws.{not_found, bind_found}
use Rattle.task_text.proofs.Offs.{Off, off-found, off-after, IsSound, bind-at}
use Rattle.task_text.proofs.Items.{Takes}
use Rattle.task_text.proofs.Many.{NoElse, Beginnings, some-item, item-takes, items-safe}
use Rattle.task_text.proofs.PartLaws.{test-sound, test-complete}
use Rattle.task_text.proofs.StmtLaws.{stmt-sound, stmt-complete, stmt-starts, choice-sound, choice-complete, statements}
use Rattle.task_text.proofs.ExitLaws.{leave-sound, leave-complete, leave-starts, chosen-sound, chosen-complete, exit-sound, exit-complete, exit-starts}
use Rattle.task_text.proofs.Chain.{word-sound, mark-sound, named-sound, done-sound, chain-sound, either-sound, widen, mapped-sound}
use Rattle.task_text.proofs.Starts.{Starts, IsReadBefore, word-starts, mark-starts, then-starts, enclosed-starts, named-starts}
use Rattle.task_text.proofs.Complete.{Any, word-complete, mark-complete, named-complete, done-complete, chain-complete, chain-before, last-complete, choose-complete}

-- a statement of a task, or its exit
abbrev pub IsTurn : Form Turn
IsTurn (turn.Act s) tokens = IsStmt most_nested s tokens
IsTurn (turn.Leave e) tokens = IsExit most_nested e tokens

-- the nesting that is left inside the first braces and the first `if`
abbrev inner_left : ℕ
inner_left = most_nested - 1

-- what stands behind the condition of an `if` in a task
abbrev IsBranch : Expr → Form Turn
IsBranch c = Either (Then (IsChoice (IsStmt inner_left) c) (λ s. Done (turn.Act s))) (Then (IsChosen (IsExit inner_left) c) (λ e. Done (turn.Leave e)))

-- the forms of a statement and of an exit, one level up
if-stmt : (n : ℕ) (s : Stmt) (tokens : List Token) → IsIf (IsStmt n) s tokens → IsStmt (suc n) s tokens
unfolding IsStmt
if-stmt n s tokens h = inr (inr (inr (inr (inl h))))

if-exit : (n : ℕ) (e : Exit) (tokens : List Token) → Then IsTest (IsChosen (IsExit n)) e tokens → IsExit (suc n) e tokens
unfolding IsExit
if-exit n e tokens h = inl h

leave-exit : (n : ℕ) (e : Exit) (tokens : List Token) → IsLeave e tokens → IsExit (suc n) e tokens
unfolding IsExit
leave-exit n e tokens h = inr h

-- ---- what is read is in the grammar

branch-sound : (c : Expr) → IsSound (IsBranch c) (branch_of c)
unfolding branch_of
branch-sound c = either-sound (begins_sign sign.BraceOpen) (chain-sound (choice-sound (stmt-sound inner_left) c) (λ s. done-sound (turn.Act s))) (chain-sound (chosen-sound (exit-sound inner_left) c) (λ e. done-sound (turn.Leave e)))

-- a condition and a branch are a turn
branch-turn : (t : Turn) (tokens : List Token) → Then IsTest IsBranch t tokens → IsTurn t tokens
branch-turn t tokens (c, a, b, w, test, inl (s, front, back, v, h, (e, none))) =
    subst (λ t. IsTurn t tokens) e (if-stmt inner_left s tokens (c, a, front, w ∙ ap (λ ts. a ++ ts) (v ∙ ap (λ ts. front ++ ts) none ∙ append-nil front), test, h))
branch-turn t tokens (c, a, b, w, test, inr (x, front, back, v, h, (e, none))) =
    subst (λ t. IsTurn t tokens) e (if-exit inner_left x tokens (c, a, front, w ∙ ap (λ ts. a ++ ts) (v ∙ ap (λ ts. front ++ ts) none ∙ append-nil front), test, h))

acting-sound : IsSound IsTurn acting_at
unfolding acting_at
acting-sound = mapped-sound turn.Act (λ s tokens h. h) (stmt-sound most_nested)

kind-sound : (o : Opening) → IsSound IsTurn (turn_of o)
unfolding choosing_at leaving_at
kind-sound opening.If = widen branch-turn (chain-sound test-sound (λ c. branch-sound c))
kind-sound opening.Nothing = mapped-sound turn.Leave (λ e tokens h. leave-exit inner_left e tokens h) leave-sound
kind-sound opening.Assignment = acting-sound
kind-sound opening.Call = acting-sound
kind-sound opening.Copy = acting-sound
kind-sound opening.Block = acting-sound
kind-sound opening.Loop = acting-sound

turn-sound : IsSound IsTurn turn_at
unfolding turn_at
turn-sound ts us t h = kind-sound (next_opening ts) ts us t h

-- statements and then an exit
record Works (b : Body) (tokens : List Token) : Type 0 where
  body : List Token
  ending : List Token
  whole : tokens ≡ body ++ ending
  stmts : AreAll (IsStmt most_nested) b.stmts body
  exit : IsExit most_nested b.exit ending

works-is : (b : Body) (tokens : List Token) → Works b tokens → IsWork b tokens
works-is b tokens h = (b.stmts, h.body, h.ending, h.whole, h.stmts, (b.exit, h.ending, [], sym (append-nil h.ending), h.exit, (refl, refl)))

work-turn : (n : ℕ) → IsSound (λ b tokens. Works b tokens) (work_in n) → (old : List Token) (t : Turn) (ts us : List Token) (b : Body) → Off IsTurn old t ts → after_turn (work_in n) t ts ≡ found b us → Off (λ b tokens. Works b tokens) old b us
work-turn n later old (turn.Act s) ts us b o h =
    let r = bind_found (work_in n ts) _ b us h in
    let p = later ts r.0.rest r.0.value r.1 in
    let f = p.fits in
    off-found (λ b tokens. Works b tokens) old _ b us (record {
      front = o.front ++ p.front;
      split = off-after IsTurn old ts r.0.rest p.front (turn.Act s) o p.split;
      fits = record { body = o.front ++ f.body; ending = f.ending; whole = ap (λ xs. o.front ++ xs) f.whole ∙ sym (append_assoc o.front f.body f.ending); stmts = (o.front, f.body, refl, o.fits, f.stmts); exit = f.exit };
    }) r.2
work-turn n later old (turn.Leave e) ts us b o h =
    off-found (λ b tokens. Works b tokens) old (record { value = record { stmts = []; exit = e }; rest = ts }) b us (record { front = o.front; split = o.split; fits = record { body = []; ending = o.front; whole = refl; stmts = refl; exit = o.fits } }) h

works-sound : (n : ℕ) → IsSound (λ b tokens. Works b tokens) (work_in n)
unfolding work_in
works-sound zero ts us b h = absurd (not_found b us ts h)
works-sound (suc n) ts us b h =
    let t = bind_found (turn_at ts) _ b us h in
    work-turn n (works-sound n) ts t.0.value t.0.rest us b (turn-sound ts t.0.rest t.0.value t.1) t.2

work-sound : IsSound IsWork work_at
work-sound ts us b h = widen works-is (works-sound (length ts)) ts us b h

pub task-sound : IsSound IsTask task_at
unfolding task_at
task-sound = chain-sound (word-sound keyword.Task) (λ _. chain-sound named-sound (λ x. chain-sound (mark-sound sign.BraceOpen) (λ _. chain-sound work-sound (λ b. chain-sound (mark-sound sign.BraceClose) (λ close. done-sound _)))))

-- ---- what is in the grammar is read

branch-complete : (c : Expr) → IsReadBefore NoElse (IsBranch c) (branch_of c)
unfolding branch_of
branch-complete c =
    choose-complete (begins_sign sign.BraceOpen) (then-starts (then-starts (enclosed-starts (λ at us. refl)))) (then-starts (then-starts (exit-starts (record { leaves = record { next = λ at us. refl; stop = λ at us. refl }; choice = λ at us. refl }) inner_left)))
    (last-complete (choice-complete (statements inner_left) (stmt-complete inner_left) c)) (last-complete (chosen-complete (exit-complete inner_left) c))

choosing-complete : IsReadBefore NoElse (Then IsTest IsBranch) choosing_at
unfolding choosing_at
choosing-complete = chain-complete test-complete (λ c. branch-complete c)

-- the turn that begins so
turn-so : (o : Opening) (ts : List Token) → next_opening ts ≡ o → turn_at ts ≡ turn_of o ts
unfolding turn_at
turn-so o ts e = ap (λ p. turn_of p ts) e

plain-act : (o : Opening) → ((ts : List Token) → turn_of o ts ≡ acting_at ts) → (s : Stmt) (front rest : List Token) → next_opening (front ++ rest) ≡ o → IsStmt most_nested s front → NoElse rest → turn_at (front ++ rest) ≡ found (turn.Act s) rest
unfolding acting_at
plain-act o plain s front rest e h safe =
    turn-so o (front ++ rest) e ∙ plain (front ++ rest)
    ∙ bind-at (stmt_at most_nested (front ++ rest)) (λ x. found (turn.Act x.value) x.rest) s rest ((stmt-complete most_nested).reads s front rest h safe)

-- what tokens of a form open
opens : {T : Type 0} {P : Form T} (o : Opening) → Starts (λ ts. next_opening ts ≡ o) P → (x : T) (front rest : List Token) → P x front → next_opening (front ++ rest) ≡ o
opens o starts x front rest h = starts.so x front rest h

if-act : (s : Stmt) (front rest : List Token) → IsIf (IsStmt inner_left) s front → NoElse rest → turn_at (front ++ rest) ≡ found (turn.Act s) rest
if-act s front rest (c, a, b, w, test, h) safe =
    let t : Then IsTest IsBranch (turn.Act s) front = (c, a, b, w, test, inl (s, b, [], sym (append-nil b), h, (refl, refl))) in
    turn-so opening.If (front ++ rest) (opens {P = Then IsTest IsBranch} opening.If (then-starts (then-starts (word-starts (λ at us. refl)))) (turn.Act s) front rest t)
    ∙ choosing-complete.reads (turn.Act s) front rest t safe

-- an `if`, or a statement that begins as no other turn does
abbrev IsPlain : List Token → Type 0
IsPlain front = (o : Opening) × ((ts : List Token) → turn_of o ts ≡ acting_at ts) × ((rest : List Token) → next_opening (front ++ rest) ≡ o)

act-cases : (n : ℕ) (s : Stmt) (front : List Token) → IsStmt (suc n) s front → IsIf (IsStmt n) s front ⊎ IsPlain front
unfolding IsStmt
act-cases n s front (inl h) = inr (opening.Assignment, (λ ts. refl), λ rest. opens {P = IsAssigning} opening.Assignment (then-starts (then-starts (named-starts (λ x us. refl)))) s front rest h)
act-cases n s front (inr (inl h)) = inr (opening.Call, (λ ts. refl), λ rest. opens {P = IsCall None} opening.Call (then-starts (word-starts (λ at us. refl))) s front rest h)
act-cases n s front (inr (inr (inl h))) = inr (opening.Copy, (λ ts. refl), λ rest. opens {P = IsCopy} opening.Copy (then-starts (word-starts (λ at us. refl))) s front rest h)
act-cases n s front (inr (inr (inr (inl h)))) = inr (opening.Block, (λ ts. refl), λ rest. opens {P = IsBlock (IsStmt n)} opening.Block (then-starts (word-starts (λ at us. refl))) s front rest h)
act-cases n s front (inr (inr (inr (inr (inl h))))) = inl h
act-cases n s front (inr (inr (inr (inr (inr h))))) = inr (opening.Loop, (λ ts. refl), λ rest. opens {P = IsLoop (IsStmt n)} opening.Loop (then-starts (then-starts (then-starts (word-starts (λ at us. refl))))) s front rest h)

act-complete : (s : Stmt) (front rest : List Token) → IsStmt most_nested s front → NoElse rest → turn_at (front ++ rest) ≡ found (turn.Act s) rest
act-complete s front rest h safe = by_case (act-cases inner_left s front h)
  where
    by_case : IsIf (IsStmt inner_left) s front ⊎ IsPlain front → turn_at (front ++ rest) ≡ found (turn.Act s) rest
    by_case (inl k) = if-act s front rest k safe
    by_case (inr p) = plain-act p.0 p.1 s front rest (p.2 rest) h safe

exit-cases : (n : ℕ) (e : Exit) (front : List Token) → IsExit (suc n) e front → Then IsTest (IsChosen (IsExit n)) e front ⊎ IsLeave e front
unfolding IsExit
exit-cases n e front h = h

leave-act : (e : Exit) (front rest : List Token) → IsExit most_nested e front → NoElse rest → turn_at (front ++ rest) ≡ found (turn.Leave e) rest
unfolding leaving_at
leave-act e front rest h safe = by_case (exit-cases inner_left e front h)
  where
    by_case : Then IsTest (IsChosen (IsExit inner_left)) e front ⊎ IsLeave e front → turn_at (front ++ rest) ≡ found (turn.Leave e) rest
    by_case (inl (c, a, b, w, test, k)) =
        let t : Then IsTest IsBranch (turn.Leave e) front = (c, a, b, w, test, inr (e, b, [], sym (append-nil b), k, (refl, refl))) in
        turn-so opening.If (front ++ rest) (opens {P = Then IsTest IsBranch} opening.If (then-starts (then-starts (word-starts (λ at us. refl)))) (turn.Leave e) front rest t)
        ∙ choosing-complete.reads (turn.Leave e) front rest t safe
    by_case (inr k) =
        let leaves : IsReadBefore Any IsLeave leave_at = leave-complete in
        turn-so opening.Nothing (front ++ rest) (opens {P = IsLeave} opening.Nothing (leave-starts (record { next = λ at us. refl; stop = λ at us. refl })) e front rest k)
        ∙ bind-at (leave_at (front ++ rest)) (λ x. found (turn.Leave x.value) x.rest) e rest (leaves.reads e front rest k tt)

-- what follows the first statements begins with no `else`
exits-safe : Starts NoElse (IsExit most_nested)
exits-safe = exit-starts (record { leaves = record { next = λ at us. refl; stop = λ at us. refl }; choice = λ at us. refl }) most_nested

body-safe : (xs : List Stmt) (e : Exit) (body ending rest : List Token) → AreAll (IsStmt most_nested) xs body → IsExit most_nested e ending → NoElse (body ++ (ending ++ rest))
body-safe xs e body ending rest h k = items-safe NoElse (IsStmt most_nested) begins_stmt (stmt_at most_nested) (statements most_nested) (stmt-complete most_nested) xs body (ending ++ rest) h (exits-safe.so e ending rest k)

-- a turn takes a token
abbrev begins_some : List Token → Bool
begins_some [] = false
begins_some (t ∷ ts) = true

turn-starts : {G : List Token → Type 0} → ((t : Token) (us : List Token) → G (t ∷ us)) → Starts G IsTurn
turn-starts {G} h = record { so = by_turn }
  where
    by_turn : (t : Turn) (front rest : List Token) → IsTurn t front → G (front ++ rest)
    by_turn (turn.Act s) front rest k =
        let starts : Starts G (IsStmt most_nested) = stmt-starts (record { named = λ x us. h _ us; call = λ at us. h _ us; copy = λ at us. h _ us; block = λ at us. h _ us; choice = λ at us. h _ us; turns = λ at us. h _ us }) most_nested in
        starts.so s front rest k
    by_turn (turn.Leave e) front rest k =
        let starts : Starts G (IsExit most_nested) = exit-starts (record { leaves = record { next = λ at us. h _ us; stop = λ at us. h _ us }; choice = λ at us. h _ us }) most_nested in
        starts.so e front rest k

turns : Beginnings Any IsTurn begins_some
turns = record { starts = turn-starts (λ t us. refl); safe = turn-starts (λ t us. tt); ends = refl }

pub turn-takes : Takes turn_at
turn-takes = item-takes turns turn-sound

works-complete : (n : ℕ) (xs : List Stmt) (e : Exit) (body ending rest : List Token) → NoElse rest → AreAll (IsStmt most_nested) xs body → IsExit most_nested e ending → length (body ++ (ending ++ rest)) ≤ n → work_in n (body ++ (ending ++ rest)) ≡ found (record { stmts = xs; exit = e }) rest
unfolding work_in
works-complete zero xs e body ending rest safe h k room =
    let some = some-item turns (turn.Leave e) ending k in
    absurd (let k : ⊥ = omega (arith, some, length-append body (ending ++ rest), length-append ending rest) in k)
works-complete (suc n) [] e body ending rest safe h k room =
    ap (λ ts. work_in (suc n) (ts ++ (ending ++ rest))) h ∙ bind-at _ _ (turn.Leave e) rest (leave-act e ending rest k safe)
works-complete (suc n) (x ∷ xs) e body ending rest safe (front, back, w, f, more) k room =
    let later = back ++ (ending ++ rest) in
    let some = some-item turns (turn.Act x) front f in
    let less : length later ≤ n = omega (arith, some, ap length w, length-append front back, length-append body (ending ++ rest), length-append back (ending ++ rest)) in
    ap (λ ts. work_in (suc n) (ts ++ (ending ++ rest))) w ∙ ap (work_in (suc n)) (append_assoc front back (ending ++ rest))
    ∙ bind-at _ _ (turn.Act x) later (act-complete x front later f (body-safe xs e back ending rest more k))
    ∙ bind-at _ _ (record { stmts = xs; exit = e }) rest (works-complete n xs e back ending rest safe more k less)

-- a body of the grammar, by its parts
works-of : (b : Body) (tokens : List Token) → IsWork b tokens → Works b tokens
works-of b tokens (stmts, body, back, w, h, (e, ending, none, v, k, (same, nil))) =
    subst (λ b. Works b tokens) same (record { body = body; ending = ending; whole = w ∙ ap (λ ts. body ++ ts) (v ∙ ap (λ ts. ending ++ ts) nil ∙ append-nil ending); stmts = h; exit = k })

work-complete : IsReadBefore NoElse IsWork work_at
work-complete = record {
  reads = λ b front rest h safe.
      let p = works-of b front h in
      let e : front ++ rest ≡ p.body ++ (p.ending ++ rest) = ap (λ ts. ts ++ rest) p.whole ∙ append_assoc p.body p.ending rest in
      ap work_at e ∙ works-complete (length (p.body ++ (p.ending ++ rest))) b.stmts b.exit p.body p.ending rest safe p.stmts p.exit (omega arith);
}

pub task-complete : IsReadBefore NoElse IsTask task_at
unfolding task_at
task-complete =
    chain-complete (word-complete keyword.Task) (λ _. chain-complete named-complete (λ x. chain-complete (mark-complete sign.BraceOpen) (λ _. chain-before work-complete (λ b. then-starts (mark-starts (λ at us. refl)))
    (λ b. chain-complete (mark-complete sign.BraceClose) (λ close. done-complete _)))))

pub tasks : Beginnings NoElse IsTask (begins_reserved keyword.Task)
tasks = record { starts = then-starts (word-starts (λ at us. refl)); safe = then-starts (word-starts (λ at us. refl)); ends = refl }

pub task-takes : Takes task_at
task-takes = item-takes tasks task-sound

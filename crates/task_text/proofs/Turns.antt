-- The statements of a task are read turn by turn.
use Rattle.std.proofs.Common.{◌≡◌, ℕ, zero, suc, ◌≤◌, List, [], ◌∷◌, ◌++◌, length, Ok, Err, refl, sym, ap, ◌∙◌, arith, append_assoc, append-nil}
use Rattle.task_ast.specs.declared.tree.Stmt.{Stmt}
use Rattle.task_ast.specs.declared.tree.Exit.{Exit}
use Rattle.task_tokens.specs.declared.token.Token.{Token}
use Rattle.task_text.specs.declared.task.Turn.{Turn}
use Rattle.task_text.specs.declared.task.Turn.TheVariants as turn
use Rattle.task_text.specs.declared.task.Body.{Body}
use Rattle.task_text.specs.Reading.{Outcome, found, ◌>>=◌}
use Rattle.task_text.specs.Reading.{reserved_at}
use Rattle.task_text.specs.ReadingProgram.{leaving_at, leave_at, stop_at, turn_at, after_turn, work_in}
use Rattle.task_text.proofs.TaskLaws.{turn-takes}

-- what was read before stands before what is read
abbrev pub behind : List Stmt → Outcome Body → Outcome Body
behind front read = read >>= λ b. found (record { stmts = front ++ b.value.stmts; exit = b.value.exit }) b.rest

-- what is read of a task's statements so far, and what goes on behind it
pub record Turns (old : List Token) (front : List Stmt) (ts : List Token) : Type 0 where
  pub more : ℕ
  pub room : length ts ≤ more
  pub same : work_in (length old) old ≡ behind front (work_in more ts)

behind-none : (read : Outcome Body) → read ≡ behind [] read
behind-none (Ok b) = refl
behind-none (Err left) = refl

behind-more : (front : List Stmt) (s : Stmt) (read : Outcome Body) → behind front (read >>= λ b. found (record { stmts = s ∷ b.value.stmts; exit = b.value.exit }) b.rest) ≡ behind (front ++ s ∷ []) read
behind-more front s (Ok b) = ap (λ ys. found (record { stmts = ys; exit = b.value.exit }) b.rest) (sym (append_assoc front (s ∷ []) b.value.stmts))
behind-more front s (Err left) = refl

pub Turns-none : (old : List Token) → Turns old [] old
Turns-none old = record { more = length old; room = omega arith; same = behind-none (work_in (length old) old) }

body-more : (more : ℕ) (t : Turn) (ts us : List Token) → turn_at ts ≡ found t us → work_in (suc more) ts ≡ after_turn (work_in more) t us
unfolding work_in
body-more more t ts us e = ap (λ r. r >>= λ t. after_turn (work_in more) t.value t.rest) e

-- so much is left that another turn may be read
pub Turns-step : (old : List Token) (front : List Stmt) (t : Turn) (ts us : List Token) → Turns old front ts → turn_at ts ≡ found t us → (more : ℕ) × (length us ≤ more) × (work_in (length old) old ≡ behind front (after_turn (work_in more) t us))
Turns-step old front t ts us r e = go r.more r.room r.same where
  go : (more : ℕ) → length ts ≤ more → work_in (length old) old ≡ behind front (work_in more ts) → (more : ℕ) × (length us ≤ more) × (work_in (length old) old ≡ behind front (after_turn (work_in more) t us))
  go zero room same = let less = turn-takes ts us t e in absurd (let k : ⊥ = omega arith in k)
  go (suc more) room same = let less = turn-takes ts us t e in (more, omega arith, same ∙ ap (behind front) (body-more more t ts us e))

pub Turns-more : (old : List Token) (front : List Stmt) (s : Stmt) (ts us : List Token) → Turns old front ts → turn_at ts ≡ found (turn.Act s) us → Turns old (front ++ s ∷ []) us
Turns-more old front s ts us r e =
    let g = Turns-step old front (turn.Act s) ts us r e in
    record { more = g.0; room = g.1; same = g.2 ∙ behind-more front s (work_in g.0 us) }

pub Turns-all : (old : List Token) (front : List Stmt) (e : Exit) (ts us : List Token) → Turns old front ts → turn_at ts ≡ found (turn.Leave e) us → work_in (length old) old ≡ found (record { stmts = front; exit = e }) us
Turns-all old front e ts us r h =
    let g = Turns-step old front (turn.Leave e) ts us r h in
    g.2 ∙ ap (λ xs. found (record { stmts = xs; exit = e }) us) (append-nil front)

nothing-read : turn_at [] ≡ Err []
unfolding turn_at leaving_at leave_at stop_at reserved_at
nothing-read = refl

same-left : (us vs : List Token) → ◌≡◌ {A = Outcome Turn} (Err us) (Err vs) → us ≡ vs
same-left us vs h = cc

body-broken : (more : ℕ) (ts us : List Token) → length ts ≤ more → turn_at ts ≡ Err us → work_in more ts ≡ Err us
unfolding work_in
body-broken zero [] us room e = ap Err (same-left [] us (sym nothing-read ∙ e))
body-broken zero (t ∷ ts) us room e = absurd (let k : ⊥ = omega arith in k)
body-broken (suc more) ts us room e = ap (λ r. r >>= λ t. after_turn (work_in more) t.value t.rest) e

-- where a turn breaks off
pub Turns-break : (old : List Token) (front : List Stmt) (ts us : List Token) → Turns old front ts → turn_at ts ≡ Err us → work_in (length old) old ≡ Err us
Turns-break old front ts us r e = r.same ∙ ap (behind front) (body-broken r.more ts us r.room e)

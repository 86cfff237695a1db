-- A statement without sites by how it ended, an `if` by its condition, and a block by its body.
use Rattle.std.proofs.Common.{◌≡◌, ◌≢◌, ◌∙◌, ℕ, List, Result, Err, refl, sym, ap, subst}
use Rattle.task_ast.specs.declared.core_form.CoreExpr.{CoreExpr}
use Rattle.task_ast.specs.declared.core_form.CoreStmt.{CoreStmt, Row_of-CoreStmt, end_of-CoreStmt, more_of-CoreStmt, items-the_row-CoreStmt}
use Rattle.task_ast.specs.declared.core_form.CoreStmt.TheVariants as stmt
use Rattle.task_ast.specs.Rows.{core_row_of, core_row_shows}
use Rattle.walk_run.specs.declared.trap.Trap.{Trap}
use Rattle.walk_run.specs.Store.{Store}
use Rattle.walk_run.specs.Outcome.{ran_of}
use Rattle.walk_run.specs.Plain.{chosen, plain_done}
use Rattle.walk_run.proofs.Steps.{chosen_first}
use Rattle.audit_check.specs.declared.around.Around.{Around}
use Rattle.audit_check.specs.declared.walking.Stop.{Stop}
use Rattle.audit_check.specs.declared.walking.Stop.TheVariants as stop
use Rattle.audit_check.specs.Walking.{Walking, Way, Gives, moved, chain, word}
use Rattle.audit_check.specs.Walked.{ran_walked, statement_walked, row_walked, body_walked, block_walked}

-- a statement without sites
pub plain_ends : (s : CoreStmt) (w : Walking) (after : Store) (r : Result (Unit {0}) Trap) → ran_of r after ≡ plain_done s w.store → ran_walked (plain_done s w.store) w ≡ ran_walked (ran_of r after) w
plain_ends s w after r ends = ap (λ r. ran_walked r w) (sym ends)

-- a row goes as the statements that it shows
row_goes : (a : Around) (n : _) (row : Row_of-CoreStmt n) (w : Walking) → row_walked a row w ≡ body_walked a (items-the_row-CoreStmt n row) w
row_goes a n end_of-CoreStmt w = refl
row_goes a n (more_of-CoreStmt s rest) w = λ i. chain (statement_walked a s w) (λ _ v. row_goes a _ rest v i)

body_goes : (a : Around) (body : List CoreStmt) (w : Walking) → row_walked a (core_row_of body).1 w ≡ body_walked a body w
body_goes a body w = row_goes a (core_row_of body).0 (core_row_of body).1 w ∙ ap (λ b. body_walked a b w) (core_row_shows body)

-- an `if`
if_goes : (a : Around) (c : CoreExpr) (yes_part no_part : List CoreStmt) (w : Walking)
    → statement_walked a (stmt.If c yes_part no_part) w ≡ chain (word c w) (λ n w. chosen n (body_walked a yes_part w) (body_walked a no_part w))
if_goes a c yes_part no_part w = λ i. chain (word c w) (λ n v. chosen n (body_goes a yes_part v i) (body_goes a no_part v i))

-- a block
block_goes : (a : Around) (k : ℕ) (body : List CoreStmt) (w : Walking) → statement_walked a (stmt.Block k body) w ≡ block_walked a k (body_walked a body) w
block_goes a k body w = λ i. block_walked a k (λ v. body_goes a body v i) w

if_at : (a : Around) (s : CoreStmt) (c : CoreExpr) (yes_part no_part : List CoreStmt) (w : Walking) (way : Way ℕ) → s ≡ stmt.If c yes_part no_part → word c w ≡ way
    → statement_walked a s w ≡ chain way (λ n w. chosen n (body_walked a yes_part w) (body_walked a no_part w))
if_at a s c yes_part no_part w way is v =
    ap (λ s. statement_walked a s w) is ∙ if_goes a c yes_part no_part w ∙ ap (λ way. chain way (λ n w. chosen n (body_walked a yes_part w) (body_walked a no_part w))) v

-- where the condition isn't valued, nothing is done
pub if_breaks : (a : Around) (s : CoreStmt) (c : CoreExpr) (yes_part no_part : List CoreStmt) (w v : Walking) (why : Stop) → s ≡ stmt.If c yes_part no_part
    → Gives (word c w) (Err why) v → Gives (statement_walked a s w) (Err why) v
if_breaks a s c yes_part no_part w v stop.Parted is broke = if_at a s c yes_part no_part w (Err v) is broke
if_breaks a s c yes_part no_part w v stop.NoMemory is broke = tt

-- where the word of the condition isn't 0, the first body is done
pub if_holds : (a : Around) (s : CoreStmt) (c : CoreExpr) (yes_part no_part got : List CoreStmt) (n : ℕ) (w v u : Walking) (r : Result (Unit {0}) Stop) → s ≡ stmt.If c yes_part no_part
    → word c w ≡ moved n v → n ≢ 0 → got ≡ yes_part → Gives (body_walked a got v) r u → Gives (statement_walked a s w) r u
if_holds a s c yes_part no_part got n w v u r is valued some same gives =
    let way : statement_walked a s w ≡ body_walked a got v =
    if_at a s c yes_part no_part w (moved n v) is valued ∙ chosen_first n some (body_walked a yes_part v) (body_walked a no_part v) ∙ ap (λ b. body_walked a b v) (sym same) in
    subst (λ way. Gives way r u) (sym way) gives

-- and where it is 0, the second
pub if_fails : (a : Around) (s : CoreStmt) (c : CoreExpr) (yes_part no_part got : List CoreStmt) (n : ℕ) (w v u : Walking) (r : Result (Unit {0}) Stop) → s ≡ stmt.If c yes_part no_part
    → word c w ≡ moved n v → n ≡ 0 → got ≡ no_part → Gives (body_walked a got v) r u → Gives (statement_walked a s w) r u
if_fails a s c yes_part no_part got n w v u r is valued none same gives =
    let way : statement_walked a s w ≡ body_walked a got v =
    if_at a s c yes_part no_part w (moved n v) is valued ∙ ap (λ n. chosen n (body_walked a yes_part v) (body_walked a no_part v)) none ∙ ap (λ b. body_walked a b v) (sym same) in
    subst (λ way. Gives way r u) (sym way) gives

-- a block is its body's
pub block_is : (a : Around) (s : CoreStmt) (k : ℕ) (body got : List CoreStmt) (w u : Walking) (r : Result (Unit {0}) Stop) → s ≡ stmt.Block k body
    → got ≡ body → Gives (block_walked a k (body_walked a got) w) r u → Gives (statement_walked a s w) r u
block_is a s k body got w u r is same gives =
    let way : statement_walked a s w ≡ block_walked a k (body_walked a got) w =
    ap (λ s. statement_walked a s w) is ∙ block_goes a k body w ∙ ap (λ b. block_walked a k (body_walked a b) w) (sym same) in
    subst (λ way. Gives way r u) (sym way) gives

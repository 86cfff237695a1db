-- How a run may end: by what the expressions and statements of its program can meet.
use Rattle.std.proofs.Common.{ℕ, zero, suc, ◌+◌, ◌-◌, ◌*◌, ◌/◌, ◌%◌, ◌^◌, Bool, true, false, nat_lt, nat_le, List, [], ◌∷◌, length, Option, Some, None, Result, Ok, Err}
use Rattle.std.specs.Prelude.{slice_get, if◌then◌else◌}
use Rattle.std.specs.List.{AllByRecursion}
use Rattle.ease_base.specs.Found.{with_found}
use Rattle.task_ast.specs.declared.tree.Op2.{Op2}
use Rattle.task_ast.specs.declared.tree.Op2.TheVariants as op
use Rattle.task_ast.specs.declared.core_form.CoreExpr.{CoreExpr, end_of-CoreExpr, more_of-CoreExpr}
use Rattle.task_ast.specs.declared.core_form.CoreExpr.TheVariants as expr
use Rattle.task_ast.specs.declared.core_form.CoreTarget.{CoreTarget}
use Rattle.task_ast.specs.declared.core_form.CoreTarget.TheVariants as target
use Rattle.task_ast.specs.declared.core_form.CoreEnd.{CoreEnd}
use Rattle.task_ast.specs.declared.core_form.CoreEnd.TheVariants as end
use Rattle.task_ast.specs.declared.core_form.CoreStmt.{CoreStmt, Row_of-CoreStmt, end_of-CoreStmt, more_of-CoreStmt}
use Rattle.task_ast.specs.declared.core_form.CoreStmt.TheVariants as stmt
use Rattle.task_ast.specs.declared.core_form.CoreExit.{CoreExit, end_of-CoreExit, more_of-CoreExit}
use Rattle.task_ast.specs.declared.core_form.CoreExit.TheVariants as exit
use Rattle.task_ast.specs.declared.core_form.CoreTask.{CoreTask}
use Rattle.task_ast.specs.declared.core_form.Core.{Core}
use Rattle.walk_run.specs.declared.trap.Trap.{Trap}
use Rattle.walk_run.specs.declared.trap.Trap.TheVariants.{Index, Divisor, Unset, Range}
use Rattle.walk_run.specs.declared.place.Place.{Place}
use Rattle.walk_run.specs.declared.walked.EarlyEnd.{EarlyEnd}
use Rattle.walk_run.specs.declared.walked.EarlyEnd.TheVariants as early
use Rattle.walk_run.specs.declared.walked.WalkEnd.{WalkEnd}
use Rattle.walk_run.specs.declared.walked.WalkEnd.TheVariants.{Stopped, Limit, Trapped, NoReading}
use Rattle.walk_run.specs.declared.walked.Walked.{Walked}
use Rattle.walk_run.specs.Operators.{divided, shifted, two_words, decided, unless_decided, two_values}
use Rattle.walk_run.specs.Store.{Store, place, words_of, pointed, put_word, declared_store, fresh}
use Rattle.walk_run.specs.Value.{place_in, place_behind, cell_place, through_place, value_of, target_place, place_pointed, end_place, with_room}
use Rattle.walk_run.specs.Plain.{Ran, done, trapped, if_found, and_then, chosen, set_variable, turns_done, plain_done, row_done}
use Rattle.walk_run.specs.Walk.{Onward, move_words, on_found, from_ran, value_walk, branch_walk, each_valued, with_reading, call_walk, end_walk, room_walk, copy_walk, statement_walk, row_walk, body_walk, exit_walk, ends_early, unless_stopped, task_end, task_if_there, walk_from, walk_of}

-- a run may end in these ways within a task, by an index and a divisor among them
pub record Allows (E : EarlyEnd → Type 0) : Type 0 where
  pub index : E (early.Trapped Index)
  pub divisor : E (early.Trapped Divisor)

module _ (E : EarlyEnd → Type 0) where
  -- the parts of an expression, and of what has expressions, meet nothing else
  abbrev pub IsTame : CoreExpr → Type 0
  IsTame (expr.Number n) = Unit {0}
  IsTame (expr.Cell' array u (more_of-CoreExpr i end_of-CoreExpr)) = IsTame i
  IsTame (expr.Through' p u (more_of-CoreExpr i end_of-CoreExpr)) = E (early.Trapped Unset) × IsTame i
  IsTame (expr.One' o u (more_of-CoreExpr e end_of-CoreExpr)) = IsTame e
  IsTame (expr.Two' o u (more_of-CoreExpr a end_of-CoreExpr) v (more_of-CoreExpr b end_of-CoreExpr)) = IsTame a × IsTame b

  abbrev pub IsTameTarget : CoreTarget → Type 0
  IsTameTarget (target.Cell array i) = IsTame i
  IsTameTarget (target.Through p i) = E (early.Trapped Unset) × IsTame i

  abbrev pub IsTameReading : Option CoreTarget → Type 0
  IsTameReading None = Unit {0}
  IsTameReading (Some x) = IsTameTarget x

  abbrev pub IsTameEnd : CoreEnd → Type 0
  IsTameEnd (end.Cell array i) = IsTame i
  IsTameEnd (end.Pointer p) = E (early.Trapped Unset)

  abbrev mutual
    pub IsTameStmt : CoreStmt → Type 0
    IsTameStmt (stmt.Assign x e) = IsTameTarget x × IsTame e
    IsTameStmt (stmt.Point p array i) = IsTame i
    IsTameStmt (stmt.If' c m yes_row n no_row) = IsTame c × AreTame yes_row × AreTame no_row
    IsTameStmt (stmt.Loop' variable turns m row) = AreTame row
    IsTameStmt (stmt.Io site x p args) = E early.NoReading × IsTameReading x × AllByRecursion IsTame args
    IsTameStmt (stmt.Block' site m row) = AreTame row
    IsTameStmt (stmt.Copy site to from n) = E (early.Trapped Range) × IsTameEnd to × IsTameEnd from × IsTame n

    pub AreTame : {n : _} → Row_of-CoreStmt n → Type 0
    AreTame end_of-CoreStmt = Unit {0}
    AreTame (more_of-CoreStmt s rest) = IsTameStmt s × AreTame rest

  abbrev pub IsTameExit : CoreExit → Type 0
  IsTameExit (exit.Next t) = Unit {0}
  IsTameExit exit.Stop = Unit {0}
  IsTameExit (exit.Choose' c u (more_of-CoreExit a end_of-CoreExit) v (more_of-CoreExit b end_of-CoreExit)) = IsTame c × IsTameExit a × IsTameExit b

  -- where nothing is found, it is for one of these
  abbrev MissesSo : {A : Type 0} → Result A Trap → Type 0
  MissesSo (Ok x) = Unit {0}
  MissesSo (Err trap) = E (early.Trapped trap)

  then_misses : {A B : Type 0} (r : Result A Trap) (go : A → Result B Trap) → MissesSo r → ((x : A) → MissesSo (go x)) → MissesSo (with_found r go)
  then_misses (Ok x) go h k = k x
  then_misses (Err trap) go h k = h

  if_misses : {A : Type 0} (b : Bool) (x : A) (trap : Trap) → E (early.Trapped trap) → MissesSo {A = A} (if b then Ok x else Err trap)
  if_misses true x trap h = tt
  if_misses false x trap h = h

  shifted_misses : (f : ℕ → ℕ → ℕ) (x y : ℕ) → MissesSo (shifted f x y)
  shifted_misses f x y = by_test (nat_lt y 32)
    where
      by_test : (b : Bool) → MissesSo {A = ℕ} (if b then Ok (f x y) else Ok 0)
      by_test true = tt
      by_test false = tt

module _ (E : EarlyEnd → Type 0) (allows : Allows E) where
  divided_misses : (f : ℕ → ℕ → ℕ) (x y : ℕ) → MissesSo E (divided f x y)
  divided_misses f x zero = allows.divisor
  divided_misses f x (suc y) = tt

  words_miss : (o : Op2) (x y : ℕ) → MissesSo E (two_words o x y)
  words_miss op.Add x y = tt
  words_miss op.Sub x y = tt
  words_miss op.Mul x y = tt
  words_miss op.Div x y = divided_misses ◌/◌ x y
  words_miss op.Rem x y = divided_misses ◌%◌ x y
  words_miss op.And x y = tt
  words_miss op.Or x y = tt
  words_miss op.Xor x y = tt
  words_miss op.Shl x y = shifted_misses E (λ a b. a * 2 ^ b % 2 ^ 32) x y
  words_miss op.Shr x y = shifted_misses E (λ a b. a / 2 ^ b) x y
  words_miss op.Eq x y = tt
  words_miss op.Ne x y = tt
  words_miss op.Lt x y = tt
  words_miss op.Le x y = tt
  words_miss op.Gt x y = tt
  words_miss op.Ge x y = tt
  words_miss op.Both x y = tt
  words_miss op.Either x y = tt

  two_miss : (o : Op2) (x y : Result ℕ Trap) → MissesSo E x → MissesSo E y → MissesSo E (two_values o x y)
  two_miss o x y h k = then_misses E x _ h (λ left. by_decision left (decided o left))
    where
      by_decision : (left : ℕ) (d : Option ℕ) → MissesSo E (unless_decided d (with_found y (two_words o left)))
      by_decision left (Some w) = tt
      by_decision left None = then_misses E y (two_words o left) k (words_miss o left)

  place_misses : (s : Store) (array index : ℕ) → MissesSo E (place_in s array index)
  place_misses s array index = if_misses E (nat_lt index (length (words_of s array))) (place array index) Index allows.index

  cell_misses : (s : Store) (array : ℕ) (index : Result ℕ Trap) → MissesSo E index → MissesSo E (cell_place s array index)
  cell_misses s array index h = then_misses E index _ h (place_misses s array)

  through_misses : (s : Store) (p : ℕ) (index : Result ℕ Trap) → E (early.Trapped Unset) → MissesSo E index → MissesSo E (through_place s p index)
  through_misses s p index unset h = then_misses E index _ h (by_pointed (pointed s p))
    where
      by_pointed : (o : Option Place) (i : ℕ) → MissesSo E (place_behind s o i)
      by_pointed None i = unset
      by_pointed (Some first) i = place_misses s first.array (first.index + i)

  value_misses : (e : CoreExpr) → IsTame E e → (s : Store) → MissesSo E (value_of e s)
  value_misses (expr.Number n) tame s = tt
  value_misses (expr.Cell' array u (more_of-CoreExpr i end_of-CoreExpr)) tame s = then_misses E (cell_place s array (value_of i s)) _ (cell_misses s array (value_of i s) (value_misses i tame s)) (λ at. tt)
  value_misses (expr.Through' p u (more_of-CoreExpr i end_of-CoreExpr)) tame s =
      then_misses E (through_place s p (value_of i s)) _ (through_misses s p (value_of i s) tame.0 (value_misses i tame.1 s)) (λ at. tt)
  value_misses (expr.One' o u (more_of-CoreExpr e end_of-CoreExpr)) tame s = then_misses E (value_of e s) _ (value_misses e tame s) (λ word. tt)
  value_misses (expr.Two' o u (more_of-CoreExpr a end_of-CoreExpr) v (more_of-CoreExpr b end_of-CoreExpr)) tame s =
      two_miss o (value_of a s) (value_of b s) (value_misses a tame.0 s) (value_misses b tame.1 s)

  target_misses : (x : CoreTarget) → IsTameTarget E x → (s : Store) → MissesSo E (target_place x s)
  target_misses (target.Cell array i) tame s = cell_misses s array (value_of i s) (value_misses i tame s)
  target_misses (target.Through p i) tame s = through_misses s p (value_of i s) tame.0 (value_misses i tame.1 s)

  end_misses : (e : CoreEnd) → IsTameEnd E e → (s : Store) → MissesSo E (end_place e s)
  end_misses (end.Cell array i) tame s = cell_misses s array (value_of i s) (value_misses i tame s)
  end_misses (end.Pointer p) tame s = by_pointed (pointed s p)
    where
      by_pointed : (o : Option Place) → MissesSo E (place_pointed o)
      by_pointed None = tame
      by_pointed (Some at) = tt

  -- where statements trap, it is for one of these
  abbrev TrapsSo : Ran → Type 0
  TrapsSo (done s) = Unit {0}
  TrapsSo (trapped trap s) = E (early.Trapped trap)

  found_traps : {A : Type 0} (r : Result A Trap) (s : Store) (go : A → Ran) → MissesSo E r → ((x : A) → TrapsSo (go x)) → TrapsSo (if_found r s go)
  found_traps (Ok x) s go h k = k x
  found_traps (Err trap) s go h k = h

  then_traps : (r : Ran) (go : Store → Ran) → TrapsSo r → ((s : Store) → TrapsSo (go s)) → TrapsSo (and_then r go)
  then_traps (done s) go h k = k s
  then_traps (trapped trap s) go h k = h

  chosen_traps : (word : ℕ) (s : Store) (f g : Store → Ran) → TrapsSo (f s) → TrapsSo (g s) → TrapsSo (chosen word f g s)
  chosen_traps zero s f g yes_traps no_traps = no_traps
  chosen_traps (suc n) s f g yes_traps no_traps = yes_traps

  turns_trap : (body : Store → Ran) → ((s : Store) → TrapsSo (body s)) → (variable number left : ℕ) (s : Store) → TrapsSo (turns_done body variable number left s)
  turns_trap body h variable number zero s = tt
  turns_trap body h variable number (suc left) s =
      then_traps (body (set_variable variable number s)) (turns_done body variable (number + 1) left) (h (set_variable variable number s)) (turns_trap body h variable (number + 1) left)

  mutual
    plain_traps : (s : CoreStmt) → IsTameStmt E s → (store : Store) → TrapsSo (plain_done s store)
    plain_traps (stmt.Assign x e) tame store =
        found_traps (target_place x store) store _ (target_misses x tame.0 store) (λ at. found_traps (value_of e store) store _ (value_misses e tame.1 store) (λ word. tt))
    plain_traps (stmt.Point p array i) tame store = found_traps (cell_place store array (value_of i store)) store _ (cell_misses store array (value_of i store) (value_misses i tame store)) (λ at. tt)
    plain_traps (stmt.If' c m yes_row n no_row) tame store =
        found_traps (value_of c store) store _ (value_misses c tame.0 store) (λ word. chosen_traps word store (row_done yes_row) (row_done no_row) (rows_trap yes_row tame.1 store) (rows_trap no_row tame.2 store))
    plain_traps (stmt.Loop' variable turns m row) tame store = turns_trap (row_done row) (rows_trap row tame) variable 0 turns store
    plain_traps (stmt.Io site x p args) tame store = tt
    plain_traps (stmt.Block' site m row) tame store = tt
    plain_traps (stmt.Copy site to from n) tame store = tt

    rows_trap : {n : _} (row : Row_of-CoreStmt n) → AreTame E row → (store : Store) → TrapsSo (row_done row store)
    rows_trap end_of-CoreStmt tame store = tt
    rows_trap (more_of-CoreStmt s rest) tame store = then_traps (plain_done s store) (row_done rest) (plain_traps s tame.0 store) (rows_trap rest tame.1)

  -- how a run ends, if it ends within a task
  abbrev pub EndsSo : WalkEnd → Type 0
  EndsSo Stopped = Unit {0}
  EndsSo Limit = Unit {0}
  EndsSo (Trapped trap) = E (early.Trapped trap)
  EndsSo NoReading = E early.NoReading

  abbrev GoesSo : Onward Walked → Type 0
  GoesSo go = (s : Store) (readings : List ℕ) → EndsSo (go s readings).end

  found_goes : {A : Type 0} (r : Result A Trap) (go : A → Onward Walked) → MissesSo E r → ((x : A) → GoesSo (go x)) → GoesSo (on_found ends_early r go)
  found_goes (Ok x) go h k s readings = k x s readings
  found_goes (Err trap) go h k s readings = h

  ran_goes : (r : Ran) (go : Onward Walked) (readings : List ℕ) → TrapsSo r → GoesSo go → EndsSo (from_ran ends_early r go readings).end
  ran_goes (done s) go readings h k = k s readings
  ran_goes (trapped trap s) go readings h k = h

  value_goes : (e : CoreExpr) (go : ℕ → Onward Walked) → IsTame E e → ((w : ℕ) → GoesSo (go w)) → GoesSo (value_walk ends_early e go)
  value_goes e go tame k s readings = found_goes (value_of e s) go (value_misses e tame s) k s readings

  chosen_goes : (word : ℕ) (a b : Onward Walked) → GoesSo a → GoesSo b → GoesSo (chosen word a b)
  chosen_goes zero a b yes_goes no_goes = no_goes
  chosen_goes (suc n) a b yes_goes no_goes = yes_goes

  branch_goes : (c : CoreExpr) (a b : Onward Walked) → IsTame E c → GoesSo a → GoesSo b → GoesSo (branch_walk ends_early c a b)
  branch_goes c a b tame yes_goes no_goes = value_goes c _ tame (λ word. chosen_goes word a b yes_goes no_goes)

  values_go : (es : List CoreExpr) (go : Onward Walked) → AllByRecursion (IsTame E) es → GoesSo go → GoesSo (each_valued ends_early es go)
  values_go [] go tame k = k
  values_go (e ∷ es) go tame k = value_goes e _ tame.0 (λ word. values_go es go tame.1 k)

  reading_goes : (go : ℕ → Onward Walked) → E early.NoReading → ((r : ℕ) → GoesSo (go r)) → GoesSo (with_reading ends_early go)
  reading_goes go may k s [] = may
  reading_goes go may k s (r ∷ readings) = k r s readings

  call_goes : (x : Option CoreTarget) (args : List CoreExpr) (go : Onward Walked) → E early.NoReading → IsTameReading E x → AllByRecursion (IsTame E) args → GoesSo go → GoesSo (call_walk ends_early x args go)
  call_goes None args go may put tame k s readings = values_go args _ tame (reading_goes _ may (λ r. k)) s readings
  call_goes (Some x) args go may put tame k s readings =
      found_goes (target_place x s) _ (target_misses x put s) (λ at. values_go args _ tame (reading_goes _ may (λ r after. k (put_word at r after)))) s readings

  end_goes : (e : CoreEnd) (go : Place → Onward Walked) → IsTameEnd E e → ((at : Place) → GoesSo (go at)) → GoesSo (end_walk ends_early e go)
  end_goes e go tame k s readings = found_goes (end_place e s) go (end_misses e tame s) k s readings

  room_goes : (at : Place) (n : ℕ) (go : Onward Walked) → E (early.Trapped Range) → GoesSo go → GoesSo (room_walk ends_early at n go)
  room_goes at n go may k s readings = found_goes (with_room s at n) _ (if_misses E (nat_le (at.index + n) (length (words_of s at.array))) at Range may) (λ _. k) s readings

  copy_goes : (to from : CoreEnd) (words : CoreExpr) (go : Onward Walked) → E (early.Trapped Range) → IsTameEnd E to → IsTameEnd E from → IsTame E words → GoesSo go → GoesSo (copy_walk ends_early to from words go)
  copy_goes to from words go may t_tame f_tame tame k =
      end_goes to _ t_tame (λ t. end_goes from _ f_tame (λ f. value_goes words _ tame (λ n. room_goes t n _ may (room_goes f n _ may (λ s. k (move_words n t f s))))))

  mutual
    statement_goes : (s : CoreStmt) → IsTameStmt E s → (go : Onward Walked) → GoesSo go → GoesSo (statement_walk ends_early s go)
    statement_goes (stmt.Assign x e) tame go k store readings = ran_goes (plain_done (stmt.Assign x e) store) go readings (plain_traps (stmt.Assign x e) tame store) k
    statement_goes (stmt.Point p array i) tame go k store readings = ran_goes (plain_done (stmt.Point p array i) store) go readings (plain_traps (stmt.Point p array i) tame store) k
    statement_goes (stmt.If' c m yes_row n no_row) tame go k store readings = branch_goes c _ _ tame.0 (row_goes yes_row tame.1 go k) (row_goes no_row tame.2 go k) store readings
    statement_goes (stmt.Loop' variable turns m row) tame go k store readings =
        ran_goes (turns_done (row_done row) variable 0 turns store) go readings (turns_trap (row_done row) (rows_trap row tame) variable 0 turns store) k
    statement_goes (stmt.Io site x p args) tame go k store readings = call_goes x args go tame.0 tame.1 tame.2 k store readings
    statement_goes (stmt.Block' site m row) tame go k store readings = row_goes row tame go k store readings
    statement_goes (stmt.Copy site to from n) tame go k store readings = copy_goes to from n go tame.0 tame.1 tame.2 tame.3 k store readings

    row_goes : {n : _} (row : Row_of-CoreStmt n) → AreTame E row → (go : Onward Walked) → GoesSo go → GoesSo (row_walk ends_early row go)
    row_goes end_of-CoreStmt tame go k = k
    row_goes (more_of-CoreStmt s rest) tame go k = statement_goes s tame.0 _ (row_goes rest tame.1 go k)

  body_goes : (body : List CoreStmt) → AllByRecursion (IsTameStmt E) body → (go : Onward Walked) → GoesSo go → GoesSo (body_walk ends_early body go)
  body_goes [] tame go k = k
  body_goes (s ∷ rest) tame go k = statement_goes s tame.0 _ (body_goes rest tame.1 go k)

  exit_goes : (e : CoreExit) → IsTameExit E e → (go : ℕ → Onward Walked) → ((t : ℕ) → GoesSo (go t)) → GoesSo (exit_walk ends_early e go)
  exit_goes (exit.Next t) tame go k = k t
  exit_goes exit.Stop tame go k = k 0
  exit_goes (exit.Choose' c u (more_of-CoreExit a end_of-CoreExit) v (more_of-CoreExit b end_of-CoreExit)) tame go k =
      branch_goes c _ _ tame.0 (exit_goes a tame.1 go k) (exit_goes b tame.2 go k)

  -- a task whose parts meet nothing else
  pub record IsTameTask (t : CoreTask) : Type 0 where
    pub body : AllByRecursion (IsTameStmt E) t.body
    pub leaves : IsTameExit E t.exit

  unless_goes : (next : ℕ) (w : Walked) → EndsSo w.end → EndsSo (unless_stopped next w).end
  unless_goes zero w h = tt
  unless_goes (suc n) w h = h

  task_goes : (c : Core) (ts : List CoreTask) → AllByRecursion IsTameTask ts → (n : ℕ) (rest : ℕ → Onward Walked) → ((next : ℕ) → GoesSo (rest next)) → GoesSo (task_if_there c (slice_get ts n) rest)
  task_goes c [] tame n rest k s readings = tt
  task_goes c (t ∷ ts) tame zero rest k s readings =
      body_goes t.body tame.0.body _ (exit_goes t.exit tame.0.leaves (task_end c rest) (λ next after left. unless_goes next (rest next after left) (k next after left))) (fresh c s) readings
  task_goes c (t ∷ ts) tame (suc n) rest k s readings = task_goes c ts tame.1 n rest k s readings

  from_goes : (c : Core) → AllByRecursion IsTameTask c.tasks → (tasks number : ℕ) → GoesSo (walk_from c tasks number)
  unfolding walk_from
  from_goes c tame zero number s readings = tt
  from_goes c tame (suc tasks) number s readings = task_goes c c.tasks tame (number - 1) (walk_from c tasks) (from_goes c tame tasks) s readings

  pub walk_goes : (c : Core) → AllByRecursion IsTameTask c.tasks → (readings : List ℕ) (tasks : ℕ) → EndsSo (walk_of c readings tasks).end
  unfolding walk_of
  walk_goes c tame readings tasks = from_goes c tame tasks 1 (declared_store c) readings

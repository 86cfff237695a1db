-- What every checked form meets: each number names what is there, names are distinct, nothing is written that may
-- not be, sites are numbered in text order, and the limits hold (docs/LANGUAGE.md, "The checked form").
use Rattle.std.specs.Prelude.{◌≡◌, ◌+◌, ◌<◌, ◌≤◌, ℕ, max, Bool, true, false, ◌==◌, List, [], ◌∷◌, ◌++◌, length, map, sum_by, Some, slice_get, bytes_eq, if◌then◌else◌}
use Rattle.std.specs.List.{AllByRecursion, list_any, range_with_len}
use Rattle.std.specs.Option.{ForSome}
use Rattle.std.proofs.Common.{refl, ap, ◌∙◌}
use Rattle.op_table.specs.Places.{repeats}
use Rattle.ease_base.specs.declared.place.Peripheral.{Peripheral}
use Rattle.task_ast.specs.declared.limits.TheConstants.{MOST_TASKS, MOST_NAMES, LONGEST_NAME, MOST_NV_WORDS, MOST_VOL_WORDS, HIGHEST_PERIPHERAL, MOST_SITES, MOST_KEPT_WORDS, MOST_NODES, MOST_TURNS, MOST_LOOPS, MOST_ARGUMENTS}
use Rattle.task_ast.specs.declared.tree.Kind.{Kind}
use Rattle.task_ast.specs.declared.tree.Kind.TheVariants.{Nv, Const, Vol}
use Rattle.task_ast.specs.declared.core_form.Array.{Array}
use Rattle.task_ast.specs.declared.core_form.Site.{Site}
use Rattle.task_ast.specs.declared.core_form.Site.TheVariants as site
use Rattle.task_ast.specs.declared.core_form.CoreExpr.{CoreExpr, end_of-CoreExpr, more_of-CoreExpr}
use Rattle.task_ast.specs.declared.core_form.CoreExpr.TheVariants as expr
use Rattle.task_ast.specs.declared.core_form.CoreTarget.{CoreTarget}
use Rattle.task_ast.specs.declared.core_form.CoreTarget.TheVariants as target
use Rattle.task_ast.specs.declared.core_form.CoreEnd.{CoreEnd}
use Rattle.task_ast.specs.declared.core_form.CoreEnd.TheVariants as end
use Rattle.task_ast.specs.declared.core_form.CoreStmt.{CoreStmt, Row_of-CoreStmt, end_of-CoreStmt, more_of-CoreStmt, items-the_row-CoreStmt}
use Rattle.task_ast.specs.declared.core_form.CoreStmt.TheVariants as stmt
use Rattle.task_ast.specs.declared.core_form.CoreExit.{CoreExit, end_of-CoreExit, more_of-CoreExit}
use Rattle.task_ast.specs.declared.core_form.CoreExit.TheVariants as exit
use Rattle.task_ast.specs.declared.core_form.CoreTask.{CoreTask}
use Rattle.task_ast.specs.declared.core_form.Core.{Core}
use Rattle.task_ast.specs.CoreNodes.{is_zero, task_nodes}
use Rattle.task_ast.specs.CoreSites.{row_numbers, body_numbers, all_numbers, all_standings, standing_of}
use Rattle.task_ast.specs.NameToken.{IsNameToken}
use Rattle.task_ast.specs.Pointing.{Pointing, pointing, end_arrays}
use Rattle.task_ast.specs.Readable.{IsWord, IsReadableAnn, deepest, most_nested}
use Rattle.task_ast.specs.Rows.{core_row_of, core_row_shows}

-- what is declared, as far as statements name it, and the arrays to which each pointer of the task may point
pub record Scope : Type 0 where
  pub arrays : List Array
  pub pointers : ℕ
  pub peripherals : ℕ
  pub points : Pointing

-- how deep an expression is; a cell at the number 0 is 1 deep, as a scalar is
abbrev pub core_depth : CoreExpr → ℕ
core_depth (expr.Number n) = 1
core_depth (expr.Cell' array u (more_of-CoreExpr i end_of-CoreExpr)) = if is_zero i then 1 else 1 + core_depth i
core_depth (expr.Through' pointer u (more_of-CoreExpr i end_of-CoreExpr)) = 1 + core_depth i
core_depth (expr.One' op u (more_of-CoreExpr e end_of-CoreExpr)) = 1 + core_depth e
core_depth (expr.Two' op u (more_of-CoreExpr a end_of-CoreExpr) v (more_of-CoreExpr b end_of-CoreExpr)) = 1 + max (core_depth a) (core_depth b)

-- the arrays and pointers of an expression are there, and its numbers fit a word
abbrev pub IsOver : Scope → CoreExpr → Type 0
IsOver s (expr.Number n) = IsWord n
IsOver s (expr.Cell' array u (more_of-CoreExpr i end_of-CoreExpr)) = (array < length s.arrays) × IsOver s i
IsOver s (expr.Through' pointer u (more_of-CoreExpr i end_of-CoreExpr)) = (pointer < s.pointers) × IsOver s i
IsOver s (expr.One' op u (more_of-CoreExpr e end_of-CoreExpr)) = IsOver s e
IsOver s (expr.Two' op u (more_of-CoreExpr a end_of-CoreExpr) v (more_of-CoreExpr b end_of-CoreExpr)) = IsOver s a × IsOver s b

-- an expression
abbrev pub IsCoreExpr : Scope → CoreExpr → Type 0
IsCoreExpr s e = (core_depth e ≤ deepest) × IsOver s e

-- whether a loop around a place has this variable
abbrev pub is_turning : List ℕ → ℕ → Bool
is_turning turning array = list_any (λ a. a == array) turning

-- A word of this array may be written: it isn't constant, and isn't the variable of a loop around the place.
pub record IsWritable (arrays : List Array) (turning : List ℕ) (array : ℕ) : Type 0 where
  pub found : Array
  pub there : slice_get arrays array ≡ Some found
  pub kept : found.kind ≡ Const → ⊥
  pub still : is_turning turning array ≡ false

-- This array may be the variable of a loop: a volatile scalar that isn't one already.
pub record IsVariable (arrays : List Array) (turning : List ℕ) (array : ℕ) : Type 0 where
  pub found : Array
  pub there : slice_get arrays array ≡ Some found
  pub volatile : found.kind ≡ Vol
  pub one : length found.first ≡ 1
  pub still : is_turning turning array ≡ false

-- a target inside loops with these variables: each array that it may be in may be written
abbrev pub IsTarget : Scope → List ℕ → CoreTarget → Type 0
IsTarget s turning (target.Cell array i) = IsWritable s.arrays turning array × IsCoreExpr s i
IsTarget s turning (target.Through pointer i) =
    (pointer < s.pointers) × AllByRecursion (IsWritable s.arrays turning) (s.points pointer) × IsCoreExpr s i

-- an end of a copy
abbrev pub IsEnd : Scope → CoreEnd → Type 0
IsEnd s (end.Cell array i) = (array < length s.arrays) × IsCoreExpr s i
IsEnd s (end.Pointer pointer) = pointer < s.pointers

-- a copy's destination: each array that it may be in may be written
abbrev pub IsDestination : Scope → CoreEnd → Type 0
IsDestination s to = IsEnd s to × AllByRecursion (IsWritable s.arrays []) (end_arrays s.points to)

-- how many turns a loop may have, and how many loops may stand inside one another
abbrev pub most_turns : ℕ
most_turns = MOST_TURNS

abbrev pub most_loops : ℕ
most_loops = MOST_LOOPS

abbrev mutual
  -- A statement at this nesting, under an `if` or not, inside loops with these variables. A copy stands under no `if`,
  -- and no site in a loop.
  pub IsCoreStmt : Scope → (level : ℕ) → (branched : Bool) → (turning : List ℕ) → CoreStmt → Type 0
  IsCoreStmt s level branched turning (stmt.Assign x e) = (level ≤ most_nested) × IsTarget s turning x × IsCoreExpr s e
  IsCoreStmt s level branched turning (stmt.Point p array i) = (level ≤ most_nested) × (p < s.pointers) × (array < length s.arrays) × IsCoreExpr s i
  IsCoreStmt s level branched turning (stmt.If' c m yes_row n no_row) =
      (level ≤ most_nested) × IsCoreExpr s c × AreCoreStmts s (1 + level) true turning yes_row × AreCoreStmts s (1 + level) true turning no_row
  IsCoreStmt s level branched turning (stmt.Loop' i turns m row) =
      (level ≤ most_nested) × IsVariable s.arrays turning i × (turns ≤ most_turns) × (length turning < most_loops) × (row_numbers row ≡ []) × AreCoreStmts s (1 + level) branched (i ∷ turning) row
  IsCoreStmt s level branched turning (stmt.Io site x p args) =
      (level ≤ most_nested) × ForSome x (IsTarget s turning) × (p < s.peripherals) × (length args ≤ MOST_ARGUMENTS) × AllByRecursion (IsCoreExpr s) args
  IsCoreStmt s level branched turning (stmt.Block' site m row) = (level ≤ most_nested) × AreCoreStmts s (1 + level) branched turning row
  IsCoreStmt s level branched turning (stmt.Copy site to from n) =
      (level ≤ most_nested) × (branched ≡ false) × IsDestination s to × IsEnd s from × IsCoreExpr s n

  -- the same of each statement of a row
  pub AreCoreStmts : Scope → (level : ℕ) → (branched : Bool) → (turning : List ℕ) → {n : _} → Row_of-CoreStmt n → Type 0
  AreCoreStmts s level branched turning end_of-CoreStmt = Unit {0}
  AreCoreStmts s level branched turning (more_of-CoreStmt x rest) = IsCoreStmt s level branched turning x × AreCoreStmts s level branched turning rest

-- An exit over so many tasks, numbered from 1; its outermost `if` is the one of this number on its path.
abbrev pub IsCoreExit : Scope → (tasks level : ℕ) → CoreExit → Type 0
IsCoreExit s tasks level (exit.Next t) = (0 < t) × (t ≤ tasks)
IsCoreExit s tasks level exit.Stop = Unit {0}
IsCoreExit s tasks level (exit.Choose' c u (more_of-CoreExit a end_of-CoreExit) v (more_of-CoreExit b end_of-CoreExit)) =
    (level ≤ most_nested) × IsCoreExpr s c × IsCoreExit s tasks (1 + level) a × IsCoreExit s tasks (1 + level) b

-- a declared name: a name token that isn't too long
abbrev pub IsDeclaredName : List ℕ → Type 0
IsDeclaredName text = IsNameToken text × (length text ≤ LONGEST_NAME)

-- an array: a name, and a word for each of its places
abbrev pub IsCoreArray : Array → Type 0
IsCoreArray a = IsDeclaredName a.name × (0 < length a.first) × AllByRecursion IsWord a.first

-- a peripheral: a name and a number
abbrev pub IsCorePeripheral : Peripheral → Type 0
IsCorePeripheral p = IsDeclaredName p.name × (p.number ≤ HIGHEST_PERIPHERAL)

-- what is said to stand at a site: an annotation's time fits a word
abbrev pub IsSite : Site → Type 0
IsSite (site.Io a) = IsReadableAnn a
IsSite (site.Block a) = IsReadableAnn a
IsSite (site.Copy n) = Unit {0}

-- the words that a site keeps over a failure, which only a copy does
abbrev pub site_words : Site → ℕ
site_words (site.Io a) = 0
site_words (site.Block a) = 0
site_words (site.Copy n) = n

-- what the statements of a task may name
abbrev pub scope_of : Core → CoreTask → Scope
scope_of c t = record { arrays = c.arrays; pointers = length c.pointers; peripherals = length c.peripherals; points = pointing t }

-- The sites of a task: numbered from 1 in text order, each with what stands there.
pub record HasItsSites (arrays : List Array) (t : CoreTask) : Type 0 where
  pub numbers : all_numbers t.body ≡ range_with_len 1 (length t.sites)
  pub standing : all_standings arrays (pointing t) t.body ≡ map standing_of t.sites
  pub times : AllByRecursion IsSite t.sites
  pub few : length t.sites ≤ MOST_SITES
  pub kept : sum_by site_words t.sites ≤ MOST_KEPT_WORDS

-- a task of a program
pub record IsCoreTask (c : Core) (t : CoreTask) : Type 0 where
  pub name : IsDeclaredName t.name
  pub body : AllByRecursion (IsCoreStmt (scope_of c t) 1 false []) t.body
  pub exit : IsCoreExit (scope_of c t) (length c.tasks) 1 t.exit
  pub sites : HasItsSites c.arrays t

-- the declared names: arrays, pointers, peripherals, tasks
abbrev pub core_names : Core → List (List ℕ)
core_names c = map (λ a. a.name) c.arrays ++ c.pointers ++ map (λ p. p.name) c.peripherals ++ map (λ t. t.name) c.tasks

-- the words of an array in FRAM, nonvolatile or constant, and of a volatile one in RAM
abbrev pub fram_size : Kind → ℕ → ℕ
fram_size Nv size = size
fram_size Const size = size
fram_size Vol size = 0

abbrev pub ram_size : Kind → ℕ → ℕ
ram_size Nv size = 0
ram_size Const size = 0
ram_size Vol size = size

-- The checked form of an accepted program: every later call over a checked form requires this.
pub record IsWellFormed (c : Core) : Type 0 where
  pub arrays : AllByRecursion IsCoreArray c.arrays
  pub pointers : AllByRecursion IsDeclaredName c.pointers
  pub peripherals : AllByRecursion IsCorePeripheral c.peripherals
  pub tasks : AllByRecursion (IsCoreTask c) c.tasks
  pub distinct : repeats bytes_eq (core_names c) ≡ false
  pub numbered : repeats (λ m n. m == n) (map (λ p. p.number) c.peripherals) ≡ false
  pub some : 0 < length c.tasks
  pub few_tasks : length c.tasks ≤ MOST_TASKS
  pub few_names : length (core_names c) ≤ MOST_NAMES
  pub fram : sum_by (λ a. fram_size a.kind (length a.first)) c.arrays ≤ MOST_NV_WORDS
  pub ram : sum_by (λ a. ram_size a.kind (length a.first)) c.arrays ≤ MOST_VOL_WORDS
  pub nodes : sum_by task_nodes c.tasks ≤ MOST_NODES

-- what is said of a row is said of the statements that it shows
core_row : (s : Scope) (level : ℕ) (branched : Bool) (turning : List ℕ) (n : _) (row : Row_of-CoreStmt n) →
    AreCoreStmts s level branched turning row ≡ AllByRecursion (IsCoreStmt s level branched turning) (items-the_row-CoreStmt n row)
core_row s level branched turning n end_of-CoreStmt = refl
core_row s level branched turning n (more_of-CoreStmt x rest) = ap (λ t. IsCoreStmt s level branched turning x × t) (core_row s level branched turning _ rest)

core_body : (s : Scope) (level : ℕ) (branched : Bool) (turning : List ℕ) (body : List CoreStmt) →
    AreCoreStmts s level branched turning (core_row_of body).1 ≡ AllByRecursion (IsCoreStmt s level branched turning) body
core_body s level branched turning body =
    core_row s level branched turning (core_row_of body).0 (core_row_of body).1 ∙ ap (AllByRecursion (IsCoreStmt s level branched turning)) (core_row_shows body)

-- a checked `if`, by its condition and its two bodies
pub core_if : (s : Scope) (level : ℕ) (branched : Bool) (turning : List ℕ) (c : CoreExpr) (yes_part no_part : List CoreStmt) →
    IsCoreStmt s level branched turning (stmt.If c yes_part no_part)
    ≡ ((level ≤ most_nested) × IsCoreExpr s c × AllByRecursion (IsCoreStmt s (1 + level) true turning) yes_part × AllByRecursion (IsCoreStmt s (1 + level) true turning) no_part)
core_if s level branched turning c yes_part no_part =
    ap (λ t. (level ≤ most_nested) × IsCoreExpr s c × t × AreCoreStmts s (1 + level) true turning (core_row_of no_part).1) (core_body s (1 + level) true turning yes_part)
    ∙ ap (λ t. (level ≤ most_nested) × IsCoreExpr s c × AllByRecursion (IsCoreStmt s (1 + level) true turning) yes_part × t) (core_body s (1 + level) true turning no_part)

-- a checked loop, by its variable, its turns and its body, which has no sites
pub core_loop : (s : Scope) (level : ℕ) (branched : Bool) (turning : List ℕ) (i turns : ℕ) (body : List CoreStmt) →
    IsCoreStmt s level branched turning (stmt.Loop i turns body)
    ≡ ((level ≤ most_nested) × IsVariable s.arrays turning i × (turns ≤ most_turns) × (length turning < most_loops) × (all_numbers body ≡ []) × AllByRecursion (IsCoreStmt s (1 + level) branched (i ∷ turning)) body)
core_loop s level branched turning i turns body =
    ap (λ (ks : List ℕ). (level ≤ most_nested) × IsVariable s.arrays turning i × (turns ≤ most_turns) × (length turning < most_loops) × (ks ≡ []) × AreCoreStmts s (1 + level) branched (i ∷ turning) (core_row_of body).1) (body_numbers body)
    ∙ ap (λ t. (level ≤ most_nested) × IsVariable s.arrays turning i × (turns ≤ most_turns) × (length turning < most_loops) × (all_numbers body ≡ []) × t) (core_body s (1 + level) branched (i ∷ turning) body)

-- a checked block, by its body
pub core_block : (s : Scope) (level : ℕ) (branched : Bool) (turning : List ℕ) (site : ℕ) (body : List CoreStmt) →
    IsCoreStmt s level branched turning (stmt.Block site body)
    ≡ ((level ≤ most_nested) × AllByRecursion (IsCoreStmt s (1 + level) branched turning) body)
core_block s level branched turning site body = ap (λ t. (level ≤ most_nested) × t) (core_body s (1 + level) branched turning body)

-- Where nothing is at fault, expressions, statements and exits have well-formed checked forms.
use Rattle.std.proofs.Common.{◌≡◌, ℕ, zero, suc, ◌+◌, ◌^◌, ◌<◌, ◌≤◌, Bool, true, false, ◌||◌, ◌==◌, List, [], ◌∷◌, ◌++◌, length, map, Option, Some, None, refl, sym, ap, subst, ◌∙◌, arith, is_some, true≢false}
use Rattle.std.specs.Prelude.{slice_get, if◌then◌else◌, nat_lt}
use Rattle.std.specs.List.{AllByRecursion, list_any, flat_map}
use Rattle.std.specs.Option.{ForSome, option_map}
use Rattle.std.proofs.lemmas.Bool.Decides.{nat_tests}
use Rattle.std.proofs.lemmas.List.{length-map}
use Rattle.ease_base.specs.declared.place.Pos.{Pos}
use Rattle.task_ast.specs.declared.limits.TheConstants.{MOST_ARGUMENTS, MOST_UNROLLED}
use Rattle.task_ast.specs.declared.tree.Kind.{Kind}
use Rattle.task_ast.specs.declared.tree.Kind.TheVariants.{Nv, Const, Vol}
use Rattle.task_ast.specs.declared.tree.Name.{Name}
use Rattle.task_ast.specs.declared.tree.Expr.{Expr, end_of-Expr, more_of-Expr}
use Rattle.task_ast.specs.declared.tree.Expr.TheVariants as expr
use Rattle.task_ast.specs.declared.tree.Target.{Target}
use Rattle.task_ast.specs.declared.tree.Target.TheVariants as target
use Rattle.task_ast.specs.declared.tree.Place.{Place}
use Rattle.task_ast.specs.declared.tree.Place.TheVariants as place
use Rattle.task_ast.specs.declared.tree.Stmt.{Stmt, Row_of-Stmt, end_of-Stmt, more_of-Stmt}
use Rattle.task_ast.specs.declared.tree.Stmt.TheVariants as stmt
use Rattle.task_ast.specs.declared.tree.Exit.{Exit, end_of-Exit, more_of-Exit}
use Rattle.task_ast.specs.declared.tree.Exit.TheVariants as exit
use Rattle.task_ast.specs.declared.core_form.Array.{Array}
use Rattle.task_ast.specs.declared.core_form.CoreExpr.{CoreExpr}
use Rattle.task_ast.specs.declared.core_form.CoreExpr.TheVariants as core
use Rattle.task_ast.specs.declared.core_form.CoreExpr.TheBlock.{hidden-the_row-CoreExpr-0, shape-the_row-CoreExpr-0}
use Rattle.task_ast.specs.declared.core_form.CoreStmt.{CoreStmt}
use Rattle.task_ast.specs.declared.core_form.CoreTarget.{CoreTarget}
use Rattle.task_ast.specs.declared.core_form.CoreExit.TheBlock.{hidden-the_row-CoreExit-0, shape-the_row-CoreExit-0}
use Rattle.task_ast.specs.CoreNodes.{is_zero}
use Rattle.task_ast.specs.Pointing.{end_arrays}
use Rattle.task_ast.specs.CoreSites.{all_numbers}
use Rattle.task_ast.specs.Readable.{depth, most_nested, HasWords, IsReadableExpr, IsReadableTarget, IsReadablePlace, IsReadableAddress, IsReadableStmt, AreReadableStmts, IsReadableExit}
use Rattle.task_ast.specs.WellFormed.{Scope, core_depth, IsOver, IsCoreExpr, is_turning, IsWritable, IsVariable, IsTarget, IsEnd, most_turns, most_loops, IsCoreStmt, IsCoreExit, core_if, core_loop, core_block}
use Rattle.task_check.specs.declared.error.CheckError.{CheckError}
use Rattle.task_check.specs.declared.error.CheckError.TheVariants.{LimitReached}
use Rattle.task_check.specs.declared.error.Limit.{Limit}
use Rattle.task_check.specs.declared.error.Limit.TheVariants.{Turns, Loops}
use Rattle.task_check.specs.declared.names.Meaning.{Meaning}
use Rattle.task_check.specs.declared.names.Meaning.TheVariants as meaning
use Rattle.task_check.specs.Around.{Around, in_loop}
use Rattle.task_check.specs.Names.{Meanings, array_number, array_of, pointer_of, peripheral_number, task_number}
use Rattle.task_check.specs.Reach.{Reach, reach_of, is_const, is_const_kind, is_const_found}
use Rattle.task_check.specs.Refusals.{where_true, unknown_name, not_scalar, not_array, not_array_or_pointer, not_pointer, not_peripheral, not_task, not_variable, variable_written, const_written, copy_under_if, too_many_arguments}
use Rattle.task_check.specs.Limits.{passes, turns_limit, loops_limit}
use Rattle.task_check.specs.Sites.{row_has_sites}
use Rattle.task_check.specs.Faults.{scalar_faults, indexed_faults, array_faults, pointer_faults, peripheral_faults, variable_faults, written_faults, expr_faults, target_faults, reading_faults, place_name_faults, place_index_faults, place_faults, destination_faults, head_faults, stmt_faults, row_faults, exit_faults}
use Rattle.task_check.specs.CheckedForm.{indexed, core_expr, indexed_target, target_of, place_name, place_index, bare_end, end_of, setting, turns_from, core_loop as core_loop_of, pointed, core_stmts, core_row_stmts, core_exit}
use Rattle.task_check.proofs.FirstLemmas.{none-front, none-behind}
use Rattle.task_check.proofs.NumberLemmas.{row_counted, row_none_listed}
use Rattle.task_check.proofs.ReachLemmas.{IsIn, all_in, in_all, any_in}
use denote.Hole.Carrier.{hidden}

-- an array of a kind stands at this place
abbrev pub Stands : List Array → ℕ → Kind → Type 0
Stands arrays n kind = (a : Array) × (slice_get arrays n ≡ Some a) × (a.kind ≡ kind)

-- and has one word
abbrev pub StandsAlone : List Array → ℕ → Kind → Type 0
StandsAlone arrays n kind = (a : Array) × (slice_get arrays n ≡ Some a) × (a.kind ≡ kind) × (length a.first ≡ 1)

-- what a name stands for is there
abbrev pub IsThere : Scope → ℕ → Meaning → Type 0
IsThere s tasks (meaning.Scalar n kind) = StandsAlone s.arrays n kind
IsThere s tasks (meaning.Array n kind) = Stands s.arrays n kind
IsThere s tasks (meaning.Pointer p) = p < s.pointers
IsThere s tasks (meaning.Peripheral p) = p < s.peripherals
IsThere s tasks (meaning.Task t) = (1 ≤ t) × (t ≤ tasks)

-- the same where a name stands for something
abbrev pub IsThereIfSome : Scope → ℕ → Option Meaning → Type 0
IsThereIfSome s tasks None = Unit {0}
IsThereIfSome s tasks (Some m) = IsThere s tasks m

pub get_within : {A : Type 0} (xs : List A) (n : ℕ) (a : A) → slice_get xs n ≡ Some a → n < length xs
get_within [] n a is = absurd (true≢false (sym (ap is_some is)))
get_within (x ∷ xs) zero a is = omega arith
get_within (x ∷ xs) (suc n) a is = omega (arith, get_within xs n a is)

-- where a rule gives no refusal, its test doesn't hold
pub not_true : (b : Bool) (e : CheckError) → where_true b e ≡ [] → b ≡ false
not_true true e none = absurd (let k = ap length none in omega (arith, k))
not_true false e none = refl

-- where a limit isn't passed, the count is within it
pub within : (limit : Limit) (most : ℕ) (at : Pos) (count : ℕ) → passes limit most at count ≡ [] → count ≤ most
within limit most at count none = let h = not_true (nat_lt most count) (LimitReached at limit count) none in grind (arith, nat_tests)

pub all_append : {A : Type 0} (P : A → Type 0) (xs ys : List A) → AllByRecursion P xs → AllByRecursion P ys → AllByRecursion P (xs ++ ys)
all_append P [] ys h k = k
all_append P (x ∷ xs) ys h k = (h.0, all_append P xs ys h.1 k)

or_none : (a b : Bool) → (a || b) ≡ false → (a ≡ false) × (b ≡ false)
or_none true b h = absurd (true≢false h)
or_none false b h = (refl, h)

-- no list of one fault is empty
one_fault : (e : CheckError) (rest : List CheckError) → e ∷ rest ≡ [] → ⊥
one_fault e rest h = let k = ap length h in omega (arith, k)

module _ (names : Meanings) (s : Scope) (tasks : ℕ) (there : (text : List ℕ) → IsThereIfSome s tasks (names text)) where
  -- a scalar that is read
  scalar_there : (at : Pos) (m : Option Meaning) → IsThereIfSome s tasks m → unknown_name at m ++ not_scalar at m ≡ [] → array_number m < length s.arrays
  scalar_there at None h none = absurd (one_fault _ _ none)
  scalar_there at (Some (meaning.Scalar n kind)) h none = get_within s.arrays n h.0 h.1
  scalar_there at (Some (meaning.Array n kind)) h none = absurd (one_fault _ _ none)
  scalar_there at (Some (meaning.Pointer p)) h none = absurd (one_fault _ _ none)
  scalar_there at (Some (meaning.Peripheral p)) h none = absurd (one_fault _ _ none)
  scalar_there at (Some (meaning.Task t)) h none = absurd (one_fault _ _ none)

  -- an array that is indexed behind `&`
  array_there : (at : Pos) (m : Option Meaning) → IsThereIfSome s tasks m → unknown_name at m ++ not_array at m ≡ [] → array_number m < length s.arrays
  array_there at None h none = absurd (one_fault _ _ none)
  array_there at (Some (meaning.Scalar n kind)) h none = absurd (one_fault _ _ none)
  array_there at (Some (meaning.Array n kind)) h none = get_within s.arrays n h.0 h.1
  array_there at (Some (meaning.Pointer p)) h none = absurd (one_fault _ _ none)
  array_there at (Some (meaning.Peripheral p)) h none = absurd (one_fault _ _ none)
  array_there at (Some (meaning.Task t)) h none = absurd (one_fault _ _ none)

  -- a peripheral that is called
  peripheral_there : (at : Pos) (m : Option Meaning) → IsThereIfSome s tasks m → unknown_name at m ++ not_peripheral at m ≡ [] → peripheral_number m < s.peripherals
  peripheral_there at None h none = absurd (one_fault _ _ none)
  peripheral_there at (Some (meaning.Scalar n kind)) h none = absurd (one_fault _ _ none)
  peripheral_there at (Some (meaning.Array n kind)) h none = absurd (one_fault _ _ none)
  peripheral_there at (Some (meaning.Pointer p)) h none = absurd (one_fault _ _ none)
  peripheral_there at (Some (meaning.Peripheral p)) h none = h
  peripheral_there at (Some (meaning.Task t)) h none = absurd (one_fault _ _ none)

  -- a task that is next
  task_there : (at : Pos) (m : Option Meaning) → IsThereIfSome s tasks m → unknown_name at m ++ not_task at m ≡ [] → (0 < task_number m) × (task_number m ≤ tasks)
  task_there at None h none = absurd (one_fault _ _ none)
  task_there at (Some (meaning.Scalar n kind)) h none = absurd (one_fault _ _ none)
  task_there at (Some (meaning.Array n kind)) h none = absurd (one_fault _ _ none)
  task_there at (Some (meaning.Pointer p)) h none = absurd (one_fault _ _ none)
  task_there at (Some (meaning.Peripheral p)) h none = absurd (one_fault _ _ none)
  task_there at (Some (meaning.Task t)) h none = (omega (arith, h.0), h.1)

  -- an array or a pointer that is indexed
  indexed_there : (at : Pos) (m : Option Meaning) (i : CoreExpr) → IsThereIfSome s tasks m → unknown_name at m ++ not_array_or_pointer at m ≡ [] → IsOver s i → IsOver s (indexed (pointer_of m) (array_number m) i)
  unfolding hidden-the_row-CoreExpr-0 shape-the_row-CoreExpr-0 hidden
  indexed_there at None i h none over = absurd (one_fault _ _ none)
  indexed_there at (Some (meaning.Scalar n kind)) i h none over = absurd (one_fault _ _ none)
  indexed_there at (Some (meaning.Array n kind)) i h none over = (get_within s.arrays n h.0 h.1, over)
  indexed_there at (Some (meaning.Pointer p)) i h none over = (h, over)
  indexed_there at (Some (meaning.Peripheral p)) i h none over = absurd (one_fault _ _ none)
  indexed_there at (Some (meaning.Task t)) i h none over = absurd (one_fault _ _ none)

  -- arrays and pointers are there
  pub over : (e : Expr) → HasWords e → expr_faults names e ≡ [] → IsOver s (core_expr names e)
  unfolding hidden-the_row-CoreExpr-0 shape-the_row-CoreExpr-0 hidden
  over (expr.Number n at) words none = words
  over (expr.Read x) words none = (scalar_there x.at (names x.text) (there x.text) none, omega arith)
  over (expr.Index' x u (more_of-Expr i end_of-Expr)) words none =
      indexed_there x.at (names x.text) (core_expr names i) (there x.text) (none-front _ (expr_faults names i) none) (over i words (none-behind (indexed_faults names x) _ none))
  over (expr.Paren' u (more_of-Expr e end_of-Expr)) words none = over e words none
  over (expr.One' op u (more_of-Expr e end_of-Expr)) words none = over e words none
  over (expr.Two' op u (more_of-Expr a end_of-Expr) v (more_of-Expr b end_of-Expr)) words none =
      (over a words.0 (none-front _ (expr_faults names b) none), over b words.1 (none-behind (expr_faults names a) _ none))

  cell_deep : (b : Bool) (d e : ℕ) → d ≤ e → (if b then 1 else 1 + d) ≤ 1 + e
  cell_deep true d e h = omega arith
  cell_deep false d e h = omega arith

  indexed_deep : (p : Option ℕ) (a : ℕ) (i : CoreExpr) (e : ℕ) → core_depth i ≤ e → core_depth (indexed p a i) ≤ 1 + e
  unfolding hidden-the_row-CoreExpr-0 shape-the_row-CoreExpr-0 hidden
  indexed_deep None a i e h = cell_deep (is_zero i) (core_depth i) e h
  indexed_deep (Some p) a i e h = omega (arith, h)

  -- a checked expression is no deeper
  pub no_deeper : (e : Expr) → core_depth (core_expr names e) ≤ depth e
  unfolding hidden-the_row-CoreExpr-0 shape-the_row-CoreExpr-0 hidden
  no_deeper (expr.Number n at) = omega arith
  no_deeper (expr.Read x) = omega arith
  no_deeper (expr.Index' x u (more_of-Expr i end_of-Expr)) = indexed_deep (pointer_of (names x.text)) (array_number (names x.text)) (core_expr names i) (depth i) (no_deeper i)
  no_deeper (expr.Paren' u (more_of-Expr e end_of-Expr)) = omega (arith, no_deeper e)
  no_deeper (expr.One' op u (more_of-Expr e end_of-Expr)) = omega (arith, no_deeper e)
  no_deeper (expr.Two' op u (more_of-Expr a end_of-Expr) v (more_of-Expr b end_of-Expr)) =
      let p = no_deeper a in let q = no_deeper b in grind (arith, nat_tests)

  -- an expression without a fault
  pub expr_formed : (e : Expr) → IsReadableExpr e → expr_faults names e ≡ [] → IsCoreExpr s (core_expr names e)
  expr_formed e readable none = (omega (arith, no_deeper e, readable.0), over e readable.1 none)

  exprs_formed : (es : List Expr) → AllByRecursion IsReadableExpr es → flat_map (expr_faults names) es ≡ [] → AllByRecursion (IsCoreExpr s) (map (core_expr names) es)
  exprs_formed [] readable none = tt
  exprs_formed (e ∷ es) readable none =
      (expr_formed e readable.0 (none-front (expr_faults names e) (flat_map (expr_faults names) es) none), exprs_formed es readable.1 (none-behind (expr_faults names e) (flat_map (expr_faults names) es) none))

  -- the index 0
  zero_formed : IsCoreExpr s (core.Number 0)
  zero_formed = (omega arith, omega arith)

  -- an exit without a fault
  pub exit_formed : (level : ℕ) (e : Exit) → IsReadableExit level e → exit_faults names e ≡ [] → IsCoreExit s tasks level (core_exit names e)
  unfolding hidden-the_row-CoreExit-0 shape-the_row-CoreExit-0 hidden
  exit_formed level (exit.Next x) readable none = task_there x.at (names x.text) (there x.text) none
  exit_formed level exit.Stop readable none = tt
  exit_formed level (exit.Choose' c u (more_of-Exit a end_of-Exit) v (more_of-Exit b end_of-Exit)) readable none =
      let front = none-front (expr_faults names c ++ exit_faults names a) (exit_faults names b) none in (
        readable.0,
        expr_formed c readable.1 (none-front (expr_faults names c) (exit_faults names a) front),
        exit_formed (1 + level) a readable.2 (none-behind (expr_faults names c) (exit_faults names a) front),
        exit_formed (1 + level) b readable.3 (none-behind (expr_faults names c ++ exit_faults names a) (exit_faults names b) none),
      )

  -- The arrays to which pointers may point are there.
  module _ (pointed_there : (p : ℕ) → AllByRecursion (λ a. a < length s.arrays) (s.points p)) where
    abbrev pub reach : ℕ → Reach
    reach p = reach_of s.arrays (s.points p)

    -- the surroundings of a statement
    abbrev pub around : List ℕ → ℕ → Bool → Around
    around barred level branched = record { names = names; reach = reach; barred = barred; level = level; branched = branched }

    -- what is no variable of the loops around in the text is none of the pure loops around
    abbrev pub Below : List ℕ → List ℕ → Type 0
    Below turning barred = (n : ℕ) → is_turning barred n ≡ false → is_turning turning n ≡ false

    kind_free : (kind : Kind) → is_const_kind kind ≡ false → kind ≡ Const → ⊥
    kind_free kind free is = true≢false (sym (ap is_const_kind is) ∙ free)

    -- an array that may be written
    array_writable : (turning : List ℕ) (n : ℕ) (kind : Kind) → Stands s.arrays n kind → is_turning turning n ≡ false → is_const_kind kind ≡ false → IsWritable s.arrays turning n
    array_writable turning n kind h still free = record { found = h.0; there = h.1; kept = λ is. kind_free kind free (sym h.2 ∙ is); still = still }

    array_at : (xs : List Array) (n : ℕ) → n < length xs → (a : Array) × (slice_get xs n ≡ Some a)
    array_at [] n h = absurd (let k : n < 0 = h in omega (arith, k))
    array_at (x ∷ xs) zero h = (x, refl)
    array_at (x ∷ xs) (suc n) h = array_at xs n (omega (arith, h))

    -- no variable is among these, so none of these is a variable
    apart : (xs barred : List ℕ) (a : ℕ) → list_any (is_turning xs) barred ≡ false → IsIn xs a → is_turning barred a ≡ false
    apart xs [] a none k = refl
    apart xs (v ∷ barred) a none k =
        let parts = or_none (is_turning xs v) (list_any (is_turning xs) barred) none in
        by parts.0 (apart xs barred a parts.1 k) (v == a) refl
      where
        by : is_turning xs v ≡ false → is_turning barred a ≡ false → (b : Bool) → (v == a) ≡ b → ((v == a) || is_turning barred a) ≡ false
        by first rest true e = let same : v ≡ a = grind arith in absurd (true≢false (sym k ∙ ap (is_turning xs) (sym same) ∙ first))
        by first rest false e = ap (λ b. b || is_turning barred a) e ∙ rest

    free_of : (b : Bool) → (b ≡ true → ⊥) → b ≡ false
    free_of true f = absurd (f refl)
    free_of false f = refl

    one_writable : (turning barred : List ℕ) (p : ℕ) → Below turning barred → list_any (reach p).holds barred ≡ false → (reach p).constant ≡ false → (a : ℕ) → IsIn (s.points p) a → IsWritable s.arrays turning a
    one_writable turning barred p below still free a k =
        let found = array_at s.arrays a (in_all (λ n. n < length s.arrays) (s.points p) a (pointed_there p) k) in
        let constant : is_const s.arrays a ≡ false = free_of (is_const s.arrays a) (λ is. true≢false (sym (any_in (is_const s.arrays) (s.points p) a k is) ∙ free)) in
        array_writable turning a found.0.kind (found.0, found.1, refl) (below a (apart (s.points p) barred a still k)) (sym (ap is_const_found found.1) ∙ constant)

    -- each array to which a pointer may point may be written through it
    all_writable : (turning barred : List ℕ) (p : ℕ) → Below turning barred → list_any (reach p).holds barred ≡ false → (reach p).constant ≡ false → AllByRecursion (IsWritable s.arrays turning) (s.points p)
    all_writable turning barred p below still free = all_in (IsWritable s.arrays turning) (s.points p) (one_writable turning barred p below still free)

    -- a scalar that is assigned
    scalar_written : (turning barred : List ℕ) (at : Pos) (m : Option Meaning) → Below turning barred → IsThereIfSome s tasks m → unknown_name at m ++ not_scalar at m ≡ []
        → variable_written reach barred at m ++ const_written reach at m ≡ [] → IsWritable s.arrays turning (array_number m)
    scalar_written turning barred at None below h none written = absurd (one_fault _ _ none)
    scalar_written turning barred at (Some (meaning.Scalar n kind)) below h none written =
        array_writable turning n kind (h.0, h.1, h.2) (below n (not_true _ _ (none-front (variable_written reach barred at (Some (meaning.Scalar n kind))) _ written)))
        (not_true _ _ (none-behind (variable_written reach barred at (Some (meaning.Scalar n kind))) _ written))
    scalar_written turning barred at (Some (meaning.Array n kind)) below h none written = absurd (one_fault _ _ none)
    scalar_written turning barred at (Some (meaning.Pointer p)) below h none written = absurd (one_fault _ _ none)
    scalar_written turning barred at (Some (meaning.Peripheral p)) below h none written = absurd (one_fault _ _ none)
    scalar_written turning barred at (Some (meaning.Task t)) below h none written = absurd (one_fault _ _ none)

    -- an array or a pointer through which is assigned
    element_written : (turning barred : List ℕ) (at : Pos) (m : Option Meaning) (i : CoreExpr) → Below turning barred → IsThereIfSome s tasks m → unknown_name at m ++ not_array_or_pointer at m ≡ []
        → variable_written reach barred at m ++ const_written reach at m ≡ [] → IsCoreExpr s i → IsTarget s turning (indexed_target (pointer_of m) (array_number m) i)
    element_written turning barred at None i below h none written k = absurd (one_fault _ _ none)
    element_written turning barred at (Some (meaning.Scalar n kind)) i below h none written k = absurd (one_fault _ _ none)
    element_written turning barred at (Some (meaning.Array n kind)) i below h none written k = (
      array_writable turning n kind h (below n (not_true _ _ (none-front (variable_written reach barred at (Some (meaning.Array n kind))) _ written)))
          (not_true _ _ (none-behind (variable_written reach barred at (Some (meaning.Array n kind))) _ written)),
      k,
    )
    element_written turning barred at (Some (meaning.Pointer p)) i below h none written k = (
      h,
      all_writable turning barred p below (not_true _ _ (none-front (variable_written reach barred at (Some (meaning.Pointer p))) _ written))
          (not_true _ _ (none-behind (variable_written reach barred at (Some (meaning.Pointer p))) _ written)),
      k,
    )
    element_written turning barred at (Some (meaning.Peripheral p)) i below h none written k = absurd (one_fault _ _ none)
    element_written turning barred at (Some (meaning.Task t)) i below h none written k = absurd (one_fault _ _ none)

    -- a target without a fault
    target_formed : (turning barred : List ℕ) (level : ℕ) (branched : Bool) (x : Target) → Below turning barred → IsReadableTarget x → target_faults (around barred level branched) x ≡ [] → IsTarget s turning (target_of names x)
    target_formed turning barred level branched (target.Scalar x) below readable none =
        let a = around barred level branched in
        (scalar_written turning barred x.at (names x.text) below (there x.text) (none-front (scalar_faults names x) (written_faults a x) none) (none-behind (scalar_faults names x) (written_faults a x) none), zero_formed)
    target_formed turning barred level branched (target.Element x i) below readable none =
        let a = around barred level branched in
        let front = none-front (indexed_faults names x ++ written_faults a x) (expr_faults names i) none in
        element_written turning barred x.at (names x.text) (core_expr names i) below (there x.text) (none-front (indexed_faults names x) (written_faults a x) front) (none-behind (indexed_faults names x) (written_faults a x) front)
        (expr_formed i readable (none-behind (indexed_faults names x ++ written_faults a x) (expr_faults names i) none))

    abbrev or_this : CoreTarget → Option CoreTarget → CoreTarget
    or_this x None = x
    or_this x (Some y) = y

    reading_formed : (turning barred : List ℕ) (level : ℕ) (branched : Bool) (x : Option Target) → Below turning barred → ForSome x IsReadableTarget → reading_faults (around barred level branched) x ≡ []
        → ForSome (option_map (target_of names) x) (IsTarget s turning)
    reading_formed turning barred level branched None below readable none = λ y e. absurd (true≢false (sym (ap is_some e)))
    reading_formed turning barred level branched (Some x) below readable none = λ y e.
        subst (IsTarget s turning) (ap (or_this (target_of names x)) e) (target_formed turning barred level branched x below (readable x refl) none)

    -- a bare end
    bare_there : (at : Pos) (m : Option Meaning) → IsThereIfSome s tasks m → unknown_name at m ++ not_array_or_pointer at m ≡ [] → IsEnd s (bare_end (pointer_of m) (array_number m))
    bare_there at None h none = absurd (one_fault _ _ none)
    bare_there at (Some (meaning.Scalar n kind)) h none = absurd (one_fault _ _ none)
    bare_there at (Some (meaning.Array n kind)) h none = (get_within s.arrays n h.0 h.1, zero_formed)
    bare_there at (Some (meaning.Pointer p)) h none = h
    bare_there at (Some (meaning.Peripheral p)) h none = absurd (one_fault _ _ none)
    bare_there at (Some (meaning.Task t)) h none = absurd (one_fault _ _ none)

    -- an end of a copy without a fault
    end_formed : (x : Place) → IsReadablePlace x → place_name_faults names x ≡ [] → place_index_faults names x ≡ [] → IsEnd s (end_of names x)
    end_formed (place.Bare x) readable none index = bare_there x.at (names x.text) (there x.text) none
    end_formed (place.Scalar x) readable none index = (scalar_there x.at (names x.text) (there x.text) none, zero_formed)
    end_formed (place.Element x i) readable none index = (array_there x.at (names x.text) (there x.text) none, expr_formed i readable index)

    none_turning : Below [] []
    none_turning n h = refl

    scalar_free : (at : Pos) (m : Option Meaning) → IsThereIfSome s tasks m → unknown_name at m ++ not_scalar at m ≡ [] → const_written reach at m ≡ [] → IsWritable s.arrays [] (array_number m)
    scalar_free at None h none free = absurd (one_fault _ _ none)
    scalar_free at (Some (meaning.Scalar n kind)) h none free = array_writable [] n kind (h.0, h.1, h.2) refl (not_true _ _ free)
    scalar_free at (Some (meaning.Array n kind)) h none free = absurd (one_fault _ _ none)
    scalar_free at (Some (meaning.Pointer p)) h none free = absurd (one_fault _ _ none)
    scalar_free at (Some (meaning.Peripheral p)) h none free = absurd (one_fault _ _ none)
    scalar_free at (Some (meaning.Task t)) h none free = absurd (one_fault _ _ none)

    array_free : (at : Pos) (m : Option Meaning) → IsThereIfSome s tasks m → unknown_name at m ++ not_array at m ≡ [] → const_written reach at m ≡ [] → IsWritable s.arrays [] (array_number m)
    array_free at None h none free = absurd (one_fault _ _ none)
    array_free at (Some (meaning.Scalar n kind)) h none free = absurd (one_fault _ _ none)
    array_free at (Some (meaning.Array n kind)) h none free = array_writable [] n kind h refl (not_true _ _ free)
    array_free at (Some (meaning.Pointer p)) h none free = absurd (one_fault _ _ none)
    array_free at (Some (meaning.Peripheral p)) h none free = absurd (one_fault _ _ none)
    array_free at (Some (meaning.Task t)) h none free = absurd (one_fault _ _ none)

    bare_free : (at : Pos) (m : Option Meaning) → IsThereIfSome s tasks m → unknown_name at m ++ not_array_or_pointer at m ≡ [] → const_written reach at m ≡ []
        → AllByRecursion (IsWritable s.arrays []) (end_arrays s.points (bare_end (pointer_of m) (array_number m)))
    bare_free at None h none free = absurd (one_fault _ _ none)
    bare_free at (Some (meaning.Scalar n kind)) h none free = absurd (one_fault _ _ none)
    bare_free at (Some (meaning.Array n kind)) h none free = (array_writable [] n kind h refl (not_true _ _ free), tt)
    bare_free at (Some (meaning.Pointer p)) h none free = all_writable [] [] p none_turning refl (not_true _ _ free)
    bare_free at (Some (meaning.Peripheral p)) h none free = absurd (one_fault _ _ none)
    bare_free at (Some (meaning.Task t)) h none free = absurd (one_fault _ _ none)

    -- each array that a destination may be in may be written
    end_free : (x : Place) → place_name_faults names x ≡ [] → const_written reach (place_name x).at (names (place_name x).text) ≡ [] → AllByRecursion (IsWritable s.arrays []) (end_arrays s.points (end_of names x))
    end_free (place.Bare x) none free = bare_free x.at (names x.text) (there x.text) none free
    end_free (place.Scalar x) none free = (scalar_free x.at (names x.text) (there x.text) none free, tt)
    end_free (place.Element x i) none free = (array_free x.at (names x.text) (there x.text) none free, tt)

    -- a loop's variable
    variable_formed : (turning barred : List ℕ) (at : Pos) (m : Option Meaning) → Below turning barred → IsThereIfSome s tasks m
        → unknown_name at m ++ not_variable at m ++ variable_written reach barred at m ≡ [] → IsVariable s.arrays turning (array_number m)
    variable_formed turning barred at None below h none = absurd (one_fault _ _ none)
    variable_formed turning barred at (Some (meaning.Scalar n Vol)) below h none =
        record { found = h.0; there = h.1; volatile = h.2; one = h.3; still = below n (not_true _ _ none) }
    variable_formed turning barred at (Some (meaning.Scalar n Nv)) below h none = absurd (one_fault _ _ none)
    variable_formed turning barred at (Some (meaning.Scalar n Const)) below h none = absurd (one_fault _ _ none)
    variable_formed turning barred at (Some (meaning.Array n kind)) below h none = absurd (one_fault _ _ none)
    variable_formed turning barred at (Some (meaning.Pointer p)) below h none = absurd (one_fault _ _ none)
    variable_formed turning barred at (Some (meaning.Peripheral p)) below h none = absurd (one_fault _ _ none)
    variable_formed turning barred at (Some (meaning.Task t)) below h none = absurd (one_fault _ _ none)

    -- an address that is given to a pointer
    pointed_formed : (level : ℕ) (branched : Bool) (turning : List ℕ) (at at' : Pos) (m m' : Option Meaning) (i : CoreExpr) → level ≤ most_nested → IsThereIfSome s tasks m → unknown_name at m ++ not_pointer at m ≡ []
        → (n : ℕ) → array_of m' ≡ Some n → n < length s.arrays → IsCoreExpr s i → AllByRecursion (IsCoreStmt s level branched turning) (pointed (pointer_of m) (array_of m') i)
    pointed_formed level branched turning at at' None m' i nested h none n is within k = absurd (one_fault _ _ none)
    pointed_formed level branched turning at at' (Some (meaning.Scalar a kind)) m' i nested h none n is within k = absurd (one_fault _ _ none)
    pointed_formed level branched turning at at' (Some (meaning.Array a kind)) m' i nested h none n is within k = absurd (one_fault _ _ none)
    pointed_formed level branched turning at at' (Some (meaning.Pointer p)) m' i nested h none n is within k =
        subst (λ o. AllByRecursion (IsCoreStmt s level branched turning) (pointed (Some p) o i)) (sym is) ((nested, h, within, k), tt)
    pointed_formed level branched turning at at' (Some (meaning.Peripheral p)) m' i nested h none n is within k = absurd (one_fault _ _ none)
    pointed_formed level branched turning at at' (Some (meaning.Task t)) m' i nested h none n is within k = absurd (one_fault _ _ none)

    -- a scalar or an array whose address is taken
    scalar_is : (at : Pos) (m : Option Meaning) → IsThereIfSome s tasks m → unknown_name at m ++ not_scalar at m ≡ [] → (n : ℕ) × (array_of m ≡ Some n) × (n < length s.arrays)
    scalar_is at None h none = absurd (one_fault _ _ none)
    scalar_is at (Some (meaning.Scalar n kind)) h none = (n, refl, get_within s.arrays n h.0 h.1)
    scalar_is at (Some (meaning.Array n kind)) h none = absurd (one_fault _ _ none)
    scalar_is at (Some (meaning.Pointer p)) h none = absurd (one_fault _ _ none)
    scalar_is at (Some (meaning.Peripheral p)) h none = absurd (one_fault _ _ none)
    scalar_is at (Some (meaning.Task t)) h none = absurd (one_fault _ _ none)

    array_is : (at : Pos) (m : Option Meaning) → IsThereIfSome s tasks m → unknown_name at m ++ not_array at m ≡ [] → (n : ℕ) × (array_of m ≡ Some n) × (n < length s.arrays)
    array_is at None h none = absurd (one_fault _ _ none)
    array_is at (Some (meaning.Scalar n kind)) h none = absurd (one_fault _ _ none)
    array_is at (Some (meaning.Array n kind)) h none = (n, refl, get_within s.arrays n h.0 h.1)
    array_is at (Some (meaning.Pointer p)) h none = absurd (one_fault _ _ none)
    array_is at (Some (meaning.Peripheral p)) h none = absurd (one_fault _ _ none)
    array_is at (Some (meaning.Task t)) h none = absurd (one_fault _ _ none)

    address_formed : (level : ℕ) (branched : Bool) (turning : List ℕ) (p : Name) (to : Place) → level ≤ most_nested → IsReadableAddress to → pointer_faults names p ++ place_faults names to ≡ []
        → AllByRecursion (IsCoreStmt s level branched turning) (pointed (pointer_of (names p.text)) (array_of (names (place_name to).text)) (place_index names to))
    address_formed level branched turning p (place.Bare x) nested readable none = absurd readable
    address_formed level branched turning p (place.Scalar x) nested readable none =
        let to = none-behind (pointer_faults names p) (scalar_faults names x ++ []) none in
        let found = scalar_is x.at (names x.text) (there x.text) (none-front (scalar_faults names x) [] to) in
        pointed_formed level branched turning p.at x.at (names p.text) (names x.text) (core.Number 0) nested (there p.text) (none-front (pointer_faults names p) (scalar_faults names x ++ []) none) found.0 found.1 found.2 zero_formed
    address_formed level branched turning p (place.Element x i) nested readable none =
        let to = none-behind (pointer_faults names p) (array_faults names x ++ expr_faults names i) none in
        let found = array_is x.at (names x.text) (there x.text) (none-front (array_faults names x) (expr_faults names i) to) in
        pointed_formed level branched turning p.at x.at (names p.text) (names x.text) (core_expr names i) nested (there p.text) (none-front (pointer_faults names p) (array_faults names x ++ expr_faults names i) none) found.0 found.1 found.2
        (expr_formed i readable (none-behind (array_faults names x) (expr_faults names i) to))

    volatile_apart : Vol ≡ Const → ⊥
    volatile_apart is = cc

    -- the variable of an unrolled loop is set
    setting_formed : (level : ℕ) (branched : Bool) (turning : List ℕ) (v j : ℕ) → level ≤ most_nested → IsVariable s.arrays turning v → j ≤ 64 → IsCoreStmt s level branched turning (setting v j)
    setting_formed level branched turning v j nested var small = (
      nested,
      (record { found = var.found; there = var.there; kept = λ is. volatile_apart (sym var.volatile ∙ is); still = var.still }, zero_formed),
      (let k : 1 ≤ 24 = omega arith in k, let w : j < 2 ^ 32 = omega (arith, small) in w),
    )

    -- the turns of an unrolled loop, each of which has the statements of the body
    turns_formed : (level : ℕ) (branched : Bool) (turning : List ℕ) (v j n : ℕ) (body : List CoreStmt) → level ≤ most_nested → IsVariable s.arrays turning v → j + n ≤ 64
        → AllByRecursion (IsCoreStmt s level branched turning) body → AllByRecursion (IsCoreStmt s level branched turning) (turns_from v j n body)
    turns_formed level branched turning v j zero body nested var few h = (setting_formed level branched turning v j nested var (omega (arith, few)), tt)
    turns_formed level branched turning v j (suc n) body nested var few h = (
      setting_formed level branched turning v j nested var (omega (arith, few)),
      all_append (IsCoreStmt s level branched turning) body (turns_from v (j + 1) n body) h (turns_formed level branched turning v (j + 1) n body nested var (omega (arith, few)) h),
    )

    below_more : (turning barred : List ℕ) (v : ℕ) → Below turning barred → Below turning (v ∷ barred)
    below_more turning barred v below n none = below n (or_none (v == n) (is_turning barred n) none).1

    below_both : (turning barred : List ℕ) (v : ℕ) → Below turning barred → Below (v ∷ turning) (v ∷ barred)
    below_both turning barred v below n none =
        let parts = or_none (v == n) (is_turning barred n) none in (λ i. parts.0 i || below n parts.1 i)

    empty_numbers : (cs : List CoreStmt) → length (all_numbers cs) ≡ 0 → all_numbers cs ≡ []
    empty_numbers cs = by (all_numbers cs)
      where
        by : (ks : List ℕ) → length ks ≡ 0 → ks ≡ []
        by [] h = refl
        by (k ∷ ks) h = absurd (omega (arith, h))

    -- a loop, by what its body gives unrolled and not
    loop_formed : (level pures : ℕ) (branched : Bool) (barred turning : List ℕ) (i : Name) (turns : ℕ) (at word : Pos) (u : Bool) (body : List CoreStmt) (inner : List CheckError) → level ≤ most_nested
        → Below turning barred → pures ≡ length turning → head_faults (around barred pures branched) u i turns at word ++ inner ≡ []
        → (u ≡ true → inner ≡ [] → AllByRecursion (IsCoreStmt s level branched turning) body)
        → (u ≡ false → inner ≡ [] → (all_numbers body ≡ []) × AllByRecursion (IsCoreStmt s (1 + level) branched (array_number (names i.text) ∷ turning)) body)
        → AllByRecursion (IsCoreStmt s level branched turning) (core_loop_of u (array_number (names i.text)) turns body)
    loop_formed level pures branched barred turning i turns at word true body inner nested below deep none unrolled pure =
        let a = around barred pures branched in
        let head = none-front (head_faults a true i turns at word) inner none in
        let var = none-front (variable_faults a i) (turns_limit true at turns) head in
        let few = within Turns MOST_UNROLLED at turns (none-behind (variable_faults a i) (turns_limit true at turns) head) in
        turns_formed level branched turning (array_number (names i.text)) 0 turns body nested (variable_formed turning barred i.at (names i.text) below (there i.text) var) (omega (arith, few))
        (unrolled refl (none-behind (head_faults a true i turns at word) inner none))
    loop_formed level pures branched barred turning i turns at word false body inner nested below deep none unrolled pure =
        let a = around barred pures branched in
        let v = array_number (names i.text) in
        let head = none-front (head_faults a false i turns at word) inner none in
        let front = none-front (loops_limit false word (pures + 1) ++ variable_faults a i) (turns_limit false at turns) head in
        let loops = within Loops most_loops word (pures + 1) (none-front (loops_limit false word (pures + 1)) (variable_faults a i) front) in
        let inside = pure refl (none-behind (head_faults a false i turns at word) inner none) in
        let made : (level ≤ most_nested) × IsVariable s.arrays turning v × (turns ≤ most_turns) × (length turning < most_loops) × (all_numbers body ≡ []) × AllByRecursion (IsCoreStmt s (1 + level) branched (v ∷ turning)) body = (
          nested,
          variable_formed turning barred i.at (names i.text) below (there i.text) (none-behind (loops_limit false word (pures + 1)) (variable_faults a i) front),
          within Turns most_turns at turns (none-behind (loops_limit false word (pures + 1) ++ variable_faults a i) (turns_limit false at turns) head),
          omega (arith, loops, deep),
          inside.0,
          inside.1,
        ) in
        (subst (λ t. t) (sym (core_loop s level branched turning v turns body)) made, tt)

    mutual
      -- a statement without a fault
      pub stmt_formed : (nesting level pures : ℕ) (branched : Bool) (barred turning : List ℕ) (x : Stmt) → level ≤ nesting → Below turning barred → pures ≡ length turning → IsReadableStmt nesting x
          → stmt_faults (around barred pures branched) x ≡ [] → AllByRecursion (IsCoreStmt s level branched turning) (core_stmts names x)
      stmt_formed nesting level pures branched barred turning (stmt.Assign x e) low below deep readable none =
          let a = around barred pures branched in
          ((omega (arith, low, readable.0), target_formed turning barred pures branched x below readable.1 (none-front (target_faults a x) (expr_faults names e) none), expr_formed e readable.2 (none-behind (target_faults a x) (expr_faults names e) none)), tt)
      stmt_formed nesting level pures branched barred turning (stmt.Point p to) low below deep readable none =
          address_formed level branched turning p to (omega (arith, low, readable.0)) readable.1 none
      stmt_formed nesting level pures branched barred turning (stmt.If' c m yes_row n no_row) low below deep readable none =
          let b = around barred pures true in
          let front = none-front (expr_faults names c ++ row_faults b yes_row) (row_faults b no_row) none in
          let made : (level ≤ most_nested) × IsCoreExpr s (core_expr names c) × AllByRecursion (IsCoreStmt s (1 + level) true turning) (core_row_stmts names yes_row) × AllByRecursion (IsCoreStmt s (1 + level) true turning) (core_row_stmts names no_row) = (
            omega (arith, low, readable.0),
            expr_formed c readable.1 (none-front (expr_faults names c) (row_faults b yes_row) front),
            row_formed (1 + nesting) (1 + level) pures true barred turning yes_row (omega (arith, low)) below deep readable.2 (none-behind (expr_faults names c) (row_faults b yes_row) front),
            row_formed (1 + nesting) (1 + level) pures true barred turning no_row (omega (arith, low)) below deep readable.3 (none-behind (expr_faults names c ++ row_faults b yes_row) (row_faults b no_row) none),
          ) in
          (subst (λ t. t) (sym (core_if s level branched turning (core_expr names c) (core_row_stmts names yes_row) (core_row_stmts names no_row))) made, tt)
      stmt_formed nesting level pures branched barred turning (stmt.For' i turns at m row word) low below deep readable none =
          let v = array_number (names i.text) in
          loop_formed level pures branched barred turning i turns at word (row_has_sites row) (core_row_stmts names row) (row_faults (in_loop (around barred pures branched) (row_has_sites row) v) row)
          (omega (arith, low, readable.0)) below deep none
          (λ is bare. row_formed (1 + nesting) level pures branched (v ∷ barred) turning row (omega (arith, low)) (below_more turning barred v below) deep readable.2
          (ap (λ u. row_faults (in_loop (around barred pures branched) u v) row) (sym is) ∙ bare))
          (λ is bare. (
            empty_numbers (core_row_stmts names row) (row_counted (λ to from. 0) names row ∙ ap length (row_none_listed (λ to from. 0) row is)),
            row_formed (1 + nesting) (1 + level) (pures + 1) branched (v ∷ barred) (v ∷ turning) row (omega (arith, low)) (below_both turning barred v below) (omega (arith, deep)) readable.2
                (ap (λ u. row_faults (in_loop (around barred pures branched) u v) row) (sym is) ∙ bare),
          ))
      stmt_formed nesting level pures branched barred turning (stmt.Io x p a args word) low below deep readable none =
          let r = around barred pures branched in
          let front = none-front (reading_faults r x ++ too_many_arguments word (length args) ++ peripheral_faults names p) (flat_map (expr_faults names) args) none in
          let head = none-front (reading_faults r x ++ too_many_arguments word (length args)) (peripheral_faults names p) front in
          let few = not_true _ _ (none-behind (reading_faults r x) (too_many_arguments word (length args)) head) in
          let count = length-map args (core_expr names) in
          let fit : length args ≤ MOST_ARGUMENTS = grind (arith, nat_tests) in (
            (
              omega (arith, low, readable.0),
              reading_formed turning barred pures branched x below readable.1 (none-front (reading_faults r x) (too_many_arguments word (length args)) head),
              peripheral_there p.at (names p.text) (there p.text) (none-behind (reading_faults r x ++ too_many_arguments word (length args)) (peripheral_faults names p) front),
              omega (arith, count, fit),
              exprs_formed args readable.3 (none-behind (reading_faults r x ++ too_many_arguments word (length args) ++ peripheral_faults names p) (flat_map (expr_faults names) args) none),
            ),
            tt,
          )
      stmt_formed nesting level pures branched barred turning (stmt.Block' a m row word) low below deep readable none = (
        subst (λ t. t) (sym (core_block s level branched turning 0 (core_row_stmts names row)))
            (omega (arith, low, readable.0), row_formed (1 + nesting) (1 + level) pures branched barred turning row (omega (arith, low)) below deep readable.2 none),
        tt,
      )
      stmt_formed nesting level pures branched barred turning (stmt.Dma to from n word) low below deep readable none =
          let a = around barred pures branched in
          let front = none-front (copy_under_if branched word ++ destination_faults a to ++ place_faults names from) (expr_faults names n) none in
          let ends = none-front (copy_under_if branched word ++ destination_faults a to) (place_faults names from) front in
          let source = none-behind (copy_under_if branched word ++ destination_faults a to) (place_faults names from) front in
          let dest = none-behind (copy_under_if branched word) (destination_faults a to) ends in
          let free = const_written reach (place_name to).at (names (place_name to).text) in
          let named = none-front (place_name_faults names to ++ free) (place_index_faults names to) dest in (
            (
              omega (arith, low, readable.0),
              not_true _ _ (none-front (copy_under_if branched word) (destination_faults a to) ends),
              (
                end_formed to readable.1 (none-front (place_name_faults names to) free named) (none-behind (place_name_faults names to ++ free) (place_index_faults names to) dest),
                end_free to (none-front (place_name_faults names to) free named) (none-behind (place_name_faults names to) free named),
              ),
              end_formed from readable.2 (none-front (place_name_faults names from) (place_index_faults names from) source) (none-behind (place_name_faults names from) (place_index_faults names from) source),
              expr_formed n readable.3 (none-behind (copy_under_if branched word ++ destination_faults a to ++ place_faults names from) (expr_faults names n) none),
            ),
            tt,
          )

      -- the same of a row
      pub row_formed : (nesting level pures : ℕ) (branched : Bool) (barred turning : List ℕ) {n : _} (row : Row_of-Stmt n) → level ≤ nesting → Below turning barred → pures ≡ length turning → AreReadableStmts nesting row
          → row_faults (around barred pures branched) row ≡ [] → AllByRecursion (IsCoreStmt s level branched turning) (core_row_stmts names row)
      row_formed nesting level pures branched barred turning end_of-Stmt low below deep readable none = tt
      row_formed nesting level pures branched barred turning (more_of-Stmt x rest) low below deep readable none =
          let a = around barred pures branched in
          all_append (IsCoreStmt s level branched turning) (core_stmts names x) (core_row_stmts names rest)
          (stmt_formed nesting level pures branched barred turning x low below deep readable.0 (none-front (stmt_faults a x) (row_faults a rest) none))
          (row_formed nesting level pures branched barred turning rest low below deep readable.1 (none-behind (stmt_faults a x) (row_faults a rest) none))

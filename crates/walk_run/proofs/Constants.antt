-- Constants never change, and a task depends on the nonvolatile words alone.
use Rattle.std.proofs.Common.{◌≡◌, ◌∙◌, ℕ, zero, suc, ◌+◌, Bool, true, false, ◌==◌, List, [], ◌∷◌, ◌++◌, map, length, get_or, set, ◌⊎◌, inl, inr, Option, Some, None, refl, ap, subst, sym}
use Rattle.std.specs.Prelude.{slice_get, cond}
use Rattle.std.specs.List.{AllByRecursion}
use Rattle.std.specs.Option.{ForSome}
use Rattle.std.proofs.lemmas.Bool.{eqb-false}
use Rattle.task_ast.specs.declared.tree.Kind.{Kind}
use Rattle.task_ast.specs.declared.tree.Kind.TheVariants.{Nv, Const, Vol}
use Rattle.task_ast.specs.declared.core_form.Array.{Array}
use Rattle.task_ast.specs.declared.core_form.CoreTarget.{CoreTarget}
use Rattle.task_ast.specs.declared.core_form.CoreTarget.TheVariants as target
use Rattle.task_ast.specs.declared.core_form.CoreEnd.{CoreEnd}
use Rattle.task_ast.specs.declared.core_form.CoreEnd.TheVariants as end
use Rattle.task_ast.specs.declared.core_form.CoreStmt.{CoreStmt, Row_of-CoreStmt, end_of-CoreStmt, more_of-CoreStmt}
use Rattle.task_ast.specs.declared.core_form.CoreStmt.TheVariants as stmt
use Rattle.task_ast.specs.declared.core_form.CoreTask.{CoreTask}
use Rattle.task_ast.specs.declared.core_form.Core.{Core}
use Rattle.task_ast.specs.Pointing.{pointing, addresses, row_addresses, all_addresses}
use Rattle.task_ast.specs.WellFormed.{IsWellFormed, IsWritable, IsVariable, IsTarget, IsDestination, IsCoreStmt, AreCoreStmts, IsCoreTask, scope_of}
use Rattle.walk_run.specs.declared.place.Place.{Place}
use Rattle.walk_run.specs.Store.{Store, Fits, HasShape, pointed, put_word, put_pointer, unset, declared_store, fresh, fresh_words, fresh_arrays}
use Rattle.walk_run.specs.StoreLaws.{words_other}
use Rattle.walk_run.specs.Laws.{outcome_store, HasItsConstants, AreAlike}
use Rattle.walk_run.specs.Outcome.{ended, halted, task_outcome}
use Rattle.walk_run.specs.Walk.{body_walk, exit_walk}
use Rattle.walk_run.proofs.Keeping.{Kept, MayPut, MayPutReading, MayMove, May, MayAll, body_good, exit_good}
use Rattle.walk_run.proofs.Fitting.{Any, any_exit}
use Rattle.walk_run.proofs.UnderWay.{each_task}

-- at the start
pub declared_constants : (c : Core) → HasItsConstants c (declared_store c)
declared_constants c n a is const = by_arrays c.arrays n a is
  where
    by_arrays : (arrays : List Array) (n : ℕ) (a : Array) → slice_get arrays n ≡ Some a → get_or (map (λ x. x.first) arrays) n [] ≡ a.first
    by_arrays [] n a is = cc
    by_arrays (b ∷ arrays) zero a is = let same : b ≡ a = cc in ap (λ x. x.first) same
    by_arrays (b ∷ arrays) (suc n) a is = by_arrays arrays n a is

kept_words : (kind : Kind) (first words : List ℕ) → (kind ≡ Vol → ⊥) → fresh_words kind first words ≡ words
kept_words Nv first words not = refl
kept_words Const first words not = refl
kept_words Vol first words not = absurd (not refl)

-- a nonvolatile array is as it was when a task begins
kept_array : (arrays : List Array) (words : List (List ℕ)) (n : ℕ) (a : Array) → slice_get arrays n ≡ Some a → (a.kind ≡ Vol → ⊥)
    → get_or (fresh_arrays arrays words) n [] ≡ get_or words n []
kept_array [] words n a is not = refl
kept_array (b ∷ arrays) [] n a is not = refl
kept_array (b ∷ arrays) (w ∷ words) zero a is not = let same : b ≡ a = cc in kept_words b.kind b.first w (subst (λ x. x.kind ≡ Vol → ⊥) (sym same) not)
kept_array (b ∷ arrays) (w ∷ words) (suc n) a is not = kept_array arrays words n a is not

const_stays : (a : Array) → a.kind ≡ Const → (a.kind ≡ Vol → ⊥)
const_stays a const vol = cc

-- a pointer after one is set: the place that was set, or what it was
set_either : (ps : List (Option Place)) (p q : ℕ) (at to : Place) → get_or (set ps p (Some at)) q None ≡ Some to → ((q ≡ p) × (to ≡ at)) ⊎ (get_or ps q None ≡ Some to)
set_either [] p q at to is = inr is
set_either (x ∷ ps) zero zero at to is = inl (refl, cc)
set_either (x ∷ ps) zero (suc q) at to is = inr is
set_either (x ∷ ps) (suc p) zero at to is = inr is
set_either (x ∷ ps) (suc p) (suc q) at to is = elim (set_either ps p q at to is) [ inl same ↦ inl (ap suc same.0, same.1) | inr before ↦ inr before ]

-- a number is itself
is_itself : (n : ℕ) → (n == n) ≡ true
is_itself n = by_test (n == n) refl
  where
    by_test : (q : Bool) → (n == n) ≡ q → q ≡ true
    by_test true is = refl
    by_test false is = absurd (eqb-false n n is refl)

-- what holds of all of a joined list holds of both parts
all_parts : {A : Type 0} (P : A → Type 0) (xs ys : List A) → AllByRecursion P (xs ++ ys) → AllByRecursion P xs × AllByRecursion P ys
all_parts P [] ys all = (tt, all)
all_parts P (x ∷ xs) ys all = let rest = all_parts P xs ys all.1 in ((all.0, rest.0), rest.1)

module _ (c : Core) (t : CoreTask) where
  -- an array that isn't constant
  abbrev Changes : ℕ → Type 0
  Changes array = (a : Array) → slice_get c.arrays array ≡ Some a → a.kind ≡ Const → ⊥

  -- where none of the arrays to which a pointer may point is constant, this one isn't
  abbrev Reaches : (pointer array : ℕ) → Type 0
  Reaches p array = AllByRecursion Changes (pointing t p) → Changes array

  -- constants are as declared, and pointers point to where they may
  pub record IsGood (store : Store) : Type 0 where
    pub constants : HasItsConstants c store
    pub pointers : (p : ℕ) (at : Place) → pointed store p ≡ Some at → Reaches p at.array

  good_word : (at : Place) (w : ℕ) (s : Store) → Changes at.array → IsGood s → IsGood (put_word at w s)
  good_word at w s changes h = record {
    constants = λ n a is const. words_other at w s n (λ same. changes a (subst (λ m. slice_get c.arrays m ≡ Some a) same is) const) ∙ h.constants n a is const;
    pointers = h.pointers;
  }

  good_pointer : (p : ℕ) (at : Place) (s : Store) → Reaches p at.array → IsGood s → IsGood (put_pointer p at s)
  good_pointer p at s reaches h = record {
    constants = h.constants;
    pointers = λ q to is. set_reaches q to (set_either s.pointers p q at to is);
  }
    where
      set_reaches : (q : ℕ) (to : Place) → ((q ≡ p) × (to ≡ at)) ⊎ (pointed s q ≡ Some to) → Reaches q to.array
      set_reaches q to (inl same) = subst (λ k. Reaches k to.array) (sym same.0) (subst (λ place. Reaches p place.array) (sym same.1) reaches)
      set_reaches q to (inr before) = h.pointers q to before

  kept_good : Kept IsGood Changes Reaches
  kept_good = record {
    word = λ at w s changes h. good_word at w s changes h;
    pointer = λ p at s reaches inside h. good_pointer p at s reaches h;
    pointing = λ p at s is h. h.pointers p at is;
  }

  writable_changes : (turning : List ℕ) (array : ℕ) → IsWritable c.arrays turning array → Changes array
  writable_changes turning array h a is const = let same : h.found ≡ a = cc in h.kept (ap (λ x. x.kind) same ∙ const)

  variable_changes : (turning : List ℕ) (array : ℕ) → IsVariable c.arrays turning array → Changes array
  variable_changes turning array h a is const = let same : h.found ≡ a = cc in let vol : a.kind ≡ Vol = ap (λ x. x.kind) (sym same) ∙ h.volatile in cc

  all_change : (turning : List ℕ) (arrays : List ℕ) → AllByRecursion (IsWritable c.arrays turning) arrays → AllByRecursion Changes arrays
  all_change turning [] all = tt
  all_change turning (a ∷ arrays) all = (writable_changes turning a all.0, all_change turning arrays all.1)

  may_put : (turning : List ℕ) (x : CoreTarget) → IsTarget (scope_of c t) turning x → MayPut Changes Reaches x
  may_put turning (target.Cell array i) h = writable_changes turning array h.0
  may_put turning (target.Through p i) h = λ array reaches. reaches (all_change turning (pointing t p) h.1)

  may_put_reading : (turning : List ℕ) (x : Option CoreTarget) → ForSome x (IsTarget (scope_of c t) turning) → MayPutReading Changes Reaches x
  may_put_reading turning None h = tt
  may_put_reading turning (Some x) h = may_put turning x (h x refl)

  may_move : (e : CoreEnd) → IsDestination (scope_of c t) e → MayMove Changes Reaches e
  may_move (end.Cell array i) h = writable_changes [] array h.1.0
  may_move (end.Pointer p) h = λ array reaches. reaches (all_change [] (pointing t p) h.1)

  -- where none of the arrays to which a pointer may point is constant, none of these is, to which a part makes it point
  abbrev Below : (ℕ → List ℕ) → Type 0
  Below given = (p : ℕ) → AllByRecursion Changes (pointing t p) → AllByRecursion Changes (given p)

  below_front : (f g : ℕ → List ℕ) → Below (λ p. f p ++ g p) → Below f
  below_front f g below p all = (all_parts Changes (f p) (g p) (below p all)).0

  below_behind : (f g : ℕ → List ℕ) → Below (λ p. f p ++ g p) → Below g
  below_behind f g below p all = (all_parts Changes (f p) (g p) (below p all)).1

  mutual
    may : (level : ℕ) (branched : Bool) (turning : List ℕ) (s : CoreStmt) → IsCoreStmt (scope_of c t) level branched turning s → Below (λ p. addresses p s) → May Changes Reaches s
    may level branched turning (stmt.Assign x e) h below = may_put turning x h.1
    may level branched turning (stmt.Point p array i) h below = λ all. (subst (λ b. AllByRecursion Changes (cond b (array ∷ []) [])) (is_itself p) (below p all)).0
    may level branched turning (stmt.If' e m yes_row n no_row) h below = (
      may_row (1 + level) true turning yes_row h.2 (below_front (λ p. row_addresses p yes_row) (λ p. row_addresses p no_row) below),
      may_row (1 + level) true turning no_row h.3 (below_behind (λ p. row_addresses p yes_row) (λ p. row_addresses p no_row) below),
    )
    may level branched turning (stmt.Loop' variable turns m row) h below = (variable_changes turning variable h.1, may_row (1 + level) branched (variable ∷ turning) row h.5 below)
    may level branched turning (stmt.Io site x p args) h below = may_put_reading turning x h.1
    may level branched turning (stmt.Block' site m row) h below = may_row (1 + level) branched turning row h.1 below
    may level branched turning (stmt.Copy site to from n) h below = may_move to h.2

    may_row : (level : ℕ) (branched : Bool) (turning : List ℕ) {n : _} (row : Row_of-CoreStmt n) → AreCoreStmts (scope_of c t) level branched turning row → Below (λ p. row_addresses p row) → MayAll Changes Reaches row
    may_row level branched turning end_of-CoreStmt h below = tt
    may_row level branched turning (more_of-CoreStmt s rest) h below = (
      may level branched turning s h.0 (below_front (λ p. addresses p s) (λ p. row_addresses p rest) below),
      may_row level branched turning rest h.1 (below_behind (λ p. addresses p s) (λ p. row_addresses p rest) below),
    )

  may_body : (body : List CoreStmt) → AllByRecursion (IsCoreStmt (scope_of c t) 1 false []) body → Below (λ p. all_addresses p body) → AllByRecursion (May Changes Reaches) body
  may_body [] h below = tt
  may_body (s ∷ rest) h below = (
    may 1 false [] s h.0 (below_front (λ p. addresses p s) (λ p. all_addresses p rest) below),
    may_body rest h.1 (below_behind (λ p. addresses p s) (λ p. all_addresses p rest) below),
  )

  -- pointers that point to nothing
  unset_nowhere : {A : Type 0} (names : List A) (p : ℕ) (at : Place) → get_or (unset names) p None ≡ Some at → ⊥
  unset_nowhere [] p at is = cc
  unset_nowhere (n ∷ names) zero at is = cc
  unset_nowhere (n ∷ names) (suc p) at is = unset_nowhere names p at is

  good_fresh : (store : Store) → HasItsConstants c store → IsGood (fresh c store)
  good_fresh store constants = record {
    constants = λ n a is const. kept_array c.arrays store.words n a is (const_stays a const) ∙ constants n a is const;
    pointers = λ p at is. absurd (unset_nowhere c.pointers p at is);
  }

  constants_left : IsCoreTask c t → (store : Store) (readings : List ℕ) → HasItsConstants c store → IsGood (outcome_store (task_outcome c t store readings))
  constants_left is store readings constants =
      body_good IsGood Changes Reaches kept_good halted (λ o. IsGood (outcome_store o)) (λ why s g. g) t.body (may_body t.body is.body (λ p all. all)) _
      (exit_good IsGood Changes Reaches kept_good halted (λ o. IsGood (outcome_store o)) (λ why s g. g) Any t.exit (any_exit t.exit) ended (λ next _ s more g. g))
      _ readings (good_fresh store constants)

-- and after each task
pub task_constants : (c : Core) → IsWellFormed c → (n : ℕ) (t : CoreTask) → slice_get c.tasks n ≡ Some t → (store : Store) (readings : List ℕ)
    → HasItsConstants c store → HasItsConstants c (outcome_store (task_outcome c t store readings))
task_constants c well n t there store readings constants = (constants_left c t (each_task (IsCoreTask c) c.tasks n t well.tasks there) store readings constants).constants

-- the words with which a task begins, by the nonvolatile ones
fresh_alike : (arrays : List Array) (x y : List (List ℕ)) → HasShape arrays x → HasShape arrays y
    → ((n : ℕ) (a : Array) → slice_get arrays n ≡ Some a → (a.kind ≡ Vol → ⊥) → get_or x n [] ≡ get_or y n []) → fresh_arrays arrays x ≡ fresh_arrays arrays y
fresh_alike [] [] [] hx hy alike = refl
fresh_alike [] [] (w ∷ y) hx hy alike = cc
fresh_alike [] (v ∷ x) y hx hy alike = cc
fresh_alike (a ∷ arrays) [] y hx hy alike = cc
fresh_alike (a ∷ arrays) (v ∷ x) [] hx hy alike = cc
fresh_alike (a ∷ arrays) (v ∷ x) (w ∷ y) hx hy alike =
    let rest_x : map length x ≡ map (λ b. length b.first) arrays = cc in
    let rest_y : map length y ≡ map (λ b. length b.first) arrays = cc in
    λ i. by_kind a.kind (alike 0 a refl) i ∷ fresh_alike arrays x y rest_x rest_y (λ n b is not. alike (suc n) b is not) i
  where
    by_kind : (kind : Kind) → ((kind ≡ Vol → ⊥) → v ≡ w) → fresh_words kind a.first v ≡ fresh_words kind a.first w
    by_kind Nv same = same (λ e. cc)
    by_kind Const same = same (λ e. cc)
    by_kind Vol same = refl

pub task_alike : (c : Core) (t : CoreTask) (x y : Store) (readings : List ℕ) → Fits c x → Fits c y → AreAlike c x y → task_outcome c t x readings ≡ task_outcome c t y readings
task_alike c t x y readings fits_x fits_y alike =
    ap (λ s. body_walk halted t.body (exit_walk halted t.exit ended) s readings)
    (λ i. record { words = fresh_alike c.arrays x.words y.words fits_x.shape fits_y.shape alike i; pointers = unset c.pointers })

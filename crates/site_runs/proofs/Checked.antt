-- What a call's acts ask of the checked program and of the world.
use Rattle.std.specs.Prelude.{filter, length, min, slice_get, slice_index, cond, Some, Result, Ok, All, if◌then◌else◌}
use Rattle.std.specs.List.{AllByRecursion, range_with_len}
use Rattle.std.proofs.Common.{◌≡◌, ℕ, zero, suc, ◌+◌, ◌-◌, ◌^◌, ◌<◌, ◌≤◌, ◌==◌, Bool, true, false, List, [], ◌∷◌, subst, arith}
use Rattle.ease_base.specs.declared.place.Peripheral.{Peripheral}
use Rattle.devices.specs.Reading.{reading, reading_in, values_in}
use Rattle.devices.specs.World.{AreWords, IsFeed, IsWithinLimits}
use Rattle.devices.specs.declared.world.Feed.{Feed}
use Rattle.devices.specs.declared.world.World.{World}
use Rattle.io_depend.specs.Depend.{dependents, flow}
use Rattle.io_depend.specs.Sets.{has}
use Rattle.io_flow.specs.Written.{Covers}
use Rattle.task_ast.specs.Pointing.{addresses, pointing}
use Rattle.task_ast.specs.Readable.{IsReadableAnn}
use Rattle.task_ast.specs.WellFormed as form
use Rattle.task_ast.specs.WellFormed.{IsCoreExpr, IsCorePeripheral, IsCoreTask, IsTarget, IsWellFormed, Scope, scope_of}
use Rattle.task_ast.specs.declared.core_form.Core.{Core}
use Rattle.task_ast.specs.declared.core_form.CoreExpr.{CoreExpr}
use Rattle.task_ast.specs.declared.core_form.CoreExpr.TheVariants as expr
use Rattle.task_ast.specs.declared.core_form.CoreStmt.TheVariants as stmt
use Rattle.task_ast.specs.declared.core_form.CoreTarget.{CoreTarget}
use Rattle.task_ast.specs.declared.core_form.CoreTarget.TheVariants as target
use Rattle.task_ast.specs.declared.core_form.CoreTask.{CoreTask}
use Rattle.task_ast.specs.declared.core_form.Site.{Site}
use Rattle.task_ast.specs.declared.core_form.Site.TheVariants as site
use Rattle.task_ast.specs.declared.tree.Ann.{Ann}
use Rattle.task_ast.specs.declared.tree.Ann.TheVariants.{Single, Timely, Always}
use Rattle.task_attempts.specs.Boots.{task_of}
use Rattle.task_attempts.specs.Calls.{number_or_none}
use Rattle.walk_run.specs.declared.place.Place.{Place}
use Rattle.walk_run.specs.declared.trap.Trap.{Trap}
use Rattle.walk_run.specs.Plain.{plain_done}
use Rattle.walk_run.specs.PlainWrites.{found_writes, plain_writes, sets}
use Rattle.walk_run.specs.Store.{Store}
use Rattle.walk_run.specs.Value.{target_place}
use Rattle.line_laws.specs.Suits.{IsOverTarget}
use Rattle.word_code.proofs.ShortLaws.{expr_short}
use Rattle.act_laws.specs.Values.{AreArguments}
use Rattle.act_laws.specs.Words.{FitsLimit}
use Rattle.cell_laws.specs.Standing.{IsSite}
use Rattle.act_refines.specs.Does.{IsGoodWrite, IsWritable}
use Rattle.code_runs.proofs.BarePlans.{all_at}
use Rattle.code_runs.proofs.Words.{IsSound}
use Rattle.code_runs.proofs.Writes.{Good, statement_good}

-- ---- the world

word_fits : (values : List ℕ) → AreWords values → (i : ℕ) → slice_index values i < 2 ^ 32
word_fits [] words i = omega arith
word_fits (x ∷ values) words zero = words 0 0 (omega arith)
word_fits (x ∷ values) words (suc i) = word_fits values (λ j d low. words (suc j) d (omega (arith, low))) i

values_fit : (feeds : List Feed) → All IsFeed feeds → (p : ℕ) → AreWords (values_in feeds p)
unfolding values_in
values_fit [] all p = λ k d low. absurd (omega (arith, low))
values_fit (feed ∷ feeds) all p = by (feed.number == p) (values_fit feeds (λ j d low. all (suc j) d (omega (arith, low))) p)
  where
    by : (b : Bool) → AreWords (values_in feeds p) → AreWords (if b then feed.values else values_in feeds p)
    by true rest = (all 0 feed (omega arith)).values
    by false rest = rest

-- each reading is a word
pub reading_fits : (world : World) → IsWithinLimits world → (r n : ℕ) → reading_in world.feeds r n < 2 ^ 32
unfolding reading
reading_fits world limits r n = word_fits (values_in world.feeds r) (values_fit world.feeds limits.feeds r) (min n (length (values_in world.feeds r)) - 1)

-- ---- the program

-- each peripheral has a number of 8 bits
pub number_fits : (peripherals : List Peripheral) → AllByRecursion IsCorePeripheral peripherals → (q : ℕ) → number_or_none (slice_get peripherals q) < 256
number_fits [] all q = omega arith
number_fits (x ∷ peripherals) all zero = let low : x.number ≤ 255 = all.0.1 in omega (arith, low)
number_fits (x ∷ peripherals) all (suc q) = number_fits peripherals all.1 q

-- the task of a number is one of the checked form
pub task_formed : (c : Core) (number : ℕ) (t : CoreTask) → IsWellFormed c → task_of c number ≡ Some t → IsCoreTask c t
task_formed c zero t well is = absurd (cc is)
task_formed c (suc n) t well is = all_at CoreTask (IsCoreTask c) c.tasks n t well.tasks is

-- the limit of a site's annotation is a word
limit_fits : (ann : Ann) → IsReadableAnn ann → FitsLimit ann
limit_fits Single h = tt
limit_fits (Timely ticks) h = h
limit_fits Always h = tt

pub site_limit : (c : Core) (t : CoreTask) (k : ℕ) (ann : Ann) → IsCoreTask c t → slice_get t.sites k ≡ Some (site.Io ann) → FitsLimit ann
site_limit c t k ann formed there = limit_fits ann (all_at Site form.IsSite t.sites k (site.Io ann) formed.sites.times there)

-- numbers of sites
ranged_sites : (f : ℕ → Bool) (n from : ℕ) → 1 ≤ from → from + n ≤ 129 → AllByRecursion IsSite (filter f (range_with_len from n))
ranged_sites f zero from first few = tt
ranged_sites f (suc n) from first few = by (f from) (ranged_sites f n (from + 1) (omega (arith, first)) (omega (arith, few)))
  where
    by : (b : Bool) → AllByRecursion IsSite (filter f (range_with_len (from + 1) n)) → AllByRecursion IsSite (cond b (from ∷ filter f (range_with_len (from + 1) n)) (filter f (range_with_len (from + 1) n)))
    by true rest = (record { from = first; few = omega (arith, few) }, rest)
    by false rest = rest

pub dependent_sites : (c : Core) (t : CoreTask) (k : ℕ) → IsCoreTask c t → IsSite k → AllByRecursion IsSite (dependents t k)
dependent_sites c t k formed here =
    let few : length t.sites ≤ 128 = formed.sites.few in
    let low : k ≤ 128 = here.few in
    ranged_sites (has (flow t k).sites) (length t.sites - k) (k + 1) (omega arith) (omega (arith, few, low))

-- ---- what is valued

pub arguments_short : (scope : Scope) → scope.pointers ≤ 256 → (args : List CoreExpr) → AllByRecursion (IsCoreExpr scope) args → AreArguments scope args
arguments_short scope few [] h = tt
arguments_short scope few (e ∷ es) h = (h.0.1, expr_short scope few 0 e (omega arith) h.0, arguments_short scope few es h.1)

pub target_over : (scope : Scope) → scope.pointers ≤ 256 → (turning : List ℕ) (x : CoreTarget) → IsTarget scope turning x → IsOverTarget scope x
target_over scope few turning (target.Cell array i) h = (h.1.1, expr_short scope few 0 i (omega arith) h.1)
target_over scope few turning (target.Through q i) h = (h.0, h.2.1, expr_short scope few 0 i (omega arith) h.2)

-- a word that may be assigned to a target may be written there
pub target_aims : (c : Core) (t : CoreTask) (turning : List ℕ) (x : CoreTarget) (store : Store) → IsSound c (pointing t) store → IsTarget (scope_of c t) turning x → (at : Place) → target_place x store ≡ Ok at → IsWritable c at
target_aims c t turning x store sound may at is =
    let zero_fits : IsCoreExpr (scope_of c t) (expr.Number 0) = (omega arith, omega arith) in
    let covers : Covers (pointing t) (λ q. addresses q (stmt.Assign x (expr.Number 0))) = λ q n there. absurd (cc there) in
    let good : Good c t (plain_writes (stmt.Assign x (expr.Number 0)) store) (plain_done (stmt.Assign x (expr.Number 0)) store) =
    statement_good c t (stmt.Assign x (expr.Number 0)) 1 false turning (omega arith, may, zero_fits) covers store sound in
    (subst (λ (r : Result Place Trap). AllByRecursion (IsGoodWrite c) (found_writes r (λ to. sets to 0 ∷ []))) is good.well).0.0

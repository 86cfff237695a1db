-- Attempts in code: no record is left, and the stores stay the program's between the parts of an attempt.
use Rattle.std.proofs.Common.{◌≡◌, ◌∙◌, ℕ, zero, suc, ◌+◌, ◌-◌, ◌<◌, ◌≤◌, List, [], ◌∷◌, ◌++◌, length, take, drop, set, Option, Some, None, Result, Err, IfSome, slice_get, refl, sym, ap, subst, arith, add-one}
use Rattle.task_ast.specs.declared.core_form.Core.{Core}
use Rattle.task_ast.specs.declared.core_form.CoreStmt.{CoreStmt}
use Rattle.walk_run.proofs.Stores.{fits_declared}
use Rattle.devices.specs.declared.world.Feed.{Feed}
use Rattle.devices.specs.Journal.{begins, commits}
use Rattle.audit_check.specs.declared.journal.TimedEvent.{TimedEvent}
use Rattle.audit_check.specs.declared.journal.ReportBoot.{ReportBoot}
use Rattle.audit_check.specs.declared.walking.Kept.{Kept}
use Rattle.audit_check.specs.declared.walking.Stop.{Stop}
use Rattle.audit_check.specs.declared.walking.Stop.TheVariants as stop
use Rattle.audit_check.specs.declared.around.Around.{Around}
use Rattle.audit_check.specs.Walking.{Walking, Way, Gives, moved, chain, taken}
use Rattle.audit_check.specs.Walked.{none_kept, body_walked, begin_walked, exit_walked, attempt_walked}
use Rattle.audit_check.specs.Booted.{task_at, attempt_if_there, attempts_walked, with_rest, Booted, all_walked, unwalked}
use Rattle.audit_check.specs.Fit.{AreStores, AreAlike, AreTasksOf, AreStoresOf}
use Rattle.audit_check.proofs.FitLaws.{LeavesStores, behind_leaves, taken_leaves, begin_leaves, body_leaves, exit_leaves, attempt_leaves}

-- one record more isn't kept
pub one_dropped : (rs : List (Option Kept)) (n : ℕ) → n < length rs → set (none_kept (take n rs) ++ drop n rs) n None ≡ none_kept (take (n + 1) rs) ++ drop (n + 1) rs
one_dropped rs n there = step rs n there ∙ ap (λ k. none_kept (take k rs) ++ drop k rs) (sym (add-one n))
  where
    step : (rs : List (Option Kept)) (n : ℕ) → n < length rs → set (none_kept (take n rs) ++ drop n rs) n None ≡ none_kept (take (suc n) rs) ++ drop (suc n) rs
    step [] n there = absurd (omega (arith, there))
    step (r ∷ rs) zero there = refl
    step (r ∷ rs) (suc n) there = ap (λ qs. None ∷ qs) (step rs n (omega (arith, there)))

-- behind a step that was done
pub stays : {A : Type 0} (c : Core) (way : Way A) (x : A) (v : Walking) → LeavesStores c way → way ≡ moved x v → AreStores c v
stays c way x v leaves is = subst (LeavesStores c) is leaves

pub begins_stay : (a : Around) (n : ℕ) (w v : Walking) → AreStores a.core.now w → taken (begins n) w ≡ moved tt v → AreStores a.core.now v
begins_stay a n w v h is = stays a.core.now (taken (begins n) w) tt v (taken_leaves a.core.now (begins n) w h) is

-- two stores of one program are alike
pub alike : (c : Core) (w : Walking) → AreStores c w → AreAlike w
alike c w h = (h.1.shape ∙ sym h.0.shape, h.1.count ∙ sym h.0.count)

pub commits_alike : (a : Around) (n : ℕ) (w v : Walking) → AreStores a.core.now w → taken (commits n) w ≡ moved tt v → AreAlike v
commits_alike a n w v h is = alike a.core.now v (stays a.core.now (taken (commits n) w) tt v (taken_leaves a.core.now (commits n) w h) is)

-- before the commit of an attempt
pub before_commit : (a : Around) (body : List CoreStmt) (next : ℕ) (w begun done there : Walking) → AreStores a.core.now w → begin_walked a w ≡ moved tt begun
    → body_walked a body begun ≡ moved tt done → exit_walked a done ≡ moved next there → AreStores a.core.now there
before_commit a body next w begun done there h began did leads =
    let first = stays a.core.now (begin_walked a w) tt begun (begin_leaves a.core.now a refl w h) began in
    let second = stays a.core.now (body_walked a body begun) tt done (body_leaves a.core.now a body begun first) did in
    stays a.core.now (exit_walked a done) next there (exit_leaves a.core.now a done second) leads

-- ---- attempts one after another

pub task_there : (tasks : List Around) (n : ℕ) → (n ≡ 0 → ⊥) → task_at tasks n ≡ slice_get tasks (n - 1)
task_there tasks zero some = absurd (some refl)
task_there tasks (suc n) some = let e : n ≡ suc n - 1 = omega arith in ap (λ n. slice_get tasks n) e

-- a task that is there is of the program
of_program : (tasks : List Around) (c : Core) → AreTasksOf c tasks → (n : ℕ) (a : Around) → slice_get tasks n ≡ Some a → a.core.now ≡ c
of_program tasks c of_it n a is = subst (λ o. IfSome o (λ a. a.core.now ≡ c)) is (of_it n)

pub stores_there : (tasks : List Around) (w : Walking) (n : ℕ) (a : Around) → AreStoresOf tasks w → slice_get tasks n ≡ Some a → AreStores a.core.now w
stores_there tasks w n a h is = subst (λ c. AreStores c w) (sym (of_program tasks h.program h.of_it n a is)) h.stores

pub stores_at : (tasks : List Around) (w : Walking) (n : ℕ) (a : Around) → AreStoresOf tasks w → Some a ≡ task_at tasks n → AreStores a.core.now w
stores_at tasks w zero a h is = absurd (some_none is)
  where
    some_none : {A : Type 0} {x : A} → Some x ≡ None → ⊥
    some_none e = grind arith
stores_at tasks w (suc n) a h is = stores_there tasks w n a h (sym is)

-- the attempt of the task that comes next
pub next_tried : (tasks : List Around) (w v : Walking) (n : ℕ) (a : Around) (r : Result (Unit {0}) Stop) → n ≡ w.next → Some a ≡ task_at tasks n → Gives (attempt_walked a w) r v
    → Gives (attempt_if_there (task_at tasks w.next) w) r v
next_tried tasks w v n a r is there gives =
    let way : attempt_walked a w ≡ attempt_if_there (task_at tasks w.next) w = ap (λ o. attempt_if_there o w) (there ∙ ap (task_at tasks) is) in
    subst (λ way. Gives way r v) way gives

pub next_missing : (tasks : List Around) (w : Walking) (n : ℕ) → n ≡ w.next → None ≡ task_at tasks n → attempt_if_there (task_at tasks w.next) w ≡ Err w
next_missing tasks w n is there = sym (ap (λ o. attempt_if_there o w) (there ∙ ap (task_at tasks) is))

next_leaves : (tasks : List Around) (c : Core) → AreTasksOf c tasks → (n : ℕ) (o : Option Around) → task_at tasks n ≡ o → (w : Walking) → AreStores c w → LeavesStores c (attempt_if_there o w)
next_leaves tasks c of_it n None is w h = h
next_leaves tasks c of_it zero (Some a) is w h = absurd (none_some is)
  where
    none_some : {A : Type 0} {x : A} → None ≡ Some x → ⊥
    none_some e = grind arith
next_leaves tasks c of_it (suc n) (Some a) is w h = attempt_leaves c a (of_program tasks c of_it n a is) w h

attempts_leave : (tasks : List Around) (c : Core) → AreTasksOf c tasks → (n : ℕ) (w : Walking) → AreStores c w → LeavesStores c (attempts_walked tasks n w)
attempts_leave tasks c of_it zero w h = h
attempts_leave tasks c of_it (suc n) w h =
    behind_leaves c (attempt_if_there (task_at tasks w.next) w) (λ _ w. attempts_walked tasks n w) (next_leaves tasks c of_it w.next (task_at tasks w.next) refl w h)
    (λ _ w h. attempts_leave tasks c of_it n w h)

-- What is known between two attempts: the attempts that are left lead where all lead, and the stores are the program's.
pub record AreUnderWay (tasks : List Around) (attempts attempted : ℕ) (w begun : Walking) : Type 0 where
  pub left : attempts_walked tasks (attempts - attempted) w ≡ attempts_walked tasks attempts begun
  pub kept : AreStoresOf tasks w

pub attempts_begin : (tasks : List Around) (attempts : ℕ) (w : Walking) → AreStoresOf tasks w → AreUnderWay tasks attempts 0 w w
attempts_begin tasks attempts w h =
    let all : attempts - 0 ≡ attempts = omega arith in
    record { left = ap (λ n. attempts_walked tasks n w) all; kept = h }

-- one more
next_of_them : (tasks : List Around) (attempts attempted : ℕ) (w : Walking) → attempted < attempts
    → attempts_walked tasks (attempts - attempted) w ≡ chain (attempt_if_there (task_at tasks w.next) w) (λ _ w. attempts_walked tasks (attempts - (attempted + 1)) w)
next_of_them tasks attempts attempted w more =
    let left : attempts - attempted ≡ suc (attempts - (attempted + 1)) = omega arith in
    ap (λ n. attempts_walked tasks n w) left

pub attempts_go_on : (tasks : List Around) (attempts attempted : ℕ) (w v begun : Walking) (unit : Unit {0}) → AreUnderWay tasks attempts attempted w begun → attempted < attempts
    → attempt_if_there (task_at tasks w.next) w ≡ moved unit v → AreUnderWay tasks attempts (attempted + 1) v begun
attempts_go_on tasks attempts attempted w v begun unit h more is =
    record {
      left = sym (next_of_them tasks attempts attempted w more ∙ ap (λ way. chain way (λ _ w. attempts_walked tasks (attempts - (attempted + 1)) w)) is) ∙ h.left;
      kept = record {
        program = h.kept.program;
        of_it = h.kept.of_it;
        stores = stays h.kept.program (attempt_if_there (task_at tasks w.next) w) unit v (next_leaves tasks h.kept.program h.kept.of_it w.next (task_at tasks w.next) refl w h.kept.stores) is;
      };
    }

-- one that breaks off ends them
pub attempts_break : (tasks : List Around) (attempts attempted : ℕ) (w v begun : Walking) (why : Stop) → AreUnderWay tasks attempts attempted w begun → attempted < attempts
    → Gives (attempt_if_there (task_at tasks w.next) w) (Err why) v → Gives (attempts_walked tasks attempts begun) (Err why) v
attempts_break tasks attempts attempted w v begun stop.Parted h more is =
    sym h.left ∙ next_of_them tasks attempts attempted w more ∙ ap (λ way. chain way (λ _ w. attempts_walked tasks (attempts - (attempted + 1)) w)) is
attempts_break tasks attempts attempted w v begun stop.NoMemory h more is = tt

-- none is left
pub attempts_end : (tasks : List Around) (attempts attempted : ℕ) (w begun : Walking) → AreUnderWay tasks attempts attempted w begun → attempts ≤ attempted → attempts_walked tasks attempts begun ≡ Err w
attempts_end tasks attempts attempted w begun h over =
    let none : 0 ≡ attempts - attempted = omega arith in
    sym h.left ∙ sym (ap (λ n. attempts_walked tasks n w) none)

-- attempts that stopped leave the stores the program's
pub stopped_stores : (tasks : List Around) (attempts : ℕ) (w v : Walking) → AreStoresOf tasks w → attempts_walked tasks attempts w ≡ Err v → AreStoresOf tasks v
stopped_stores tasks attempts w v h is = record {
  program = h.program;
  of_it = h.of_it;
  stores = subst (LeavesStores h.program) is (attempts_leave tasks h.program h.of_it attempts w h.stores);
}

pub done_stores : (tasks : List Around) (attempts : ℕ) (w v : Walking) (unit : Unit {0}) → AreStoresOf tasks w → attempts_walked tasks attempts w ≡ moved unit v → AreStoresOf tasks v
done_stores tasks attempts w v unit h is = record {
  program = h.program;
  of_it = h.of_it;
  stores = stays h.program (attempts_walked tasks attempts w) unit v (attempts_leave tasks h.program h.of_it attempts w h.stores) is;
}

-- ---- boots

rest_stores : (tasks : List Around) (rest : List TimedEvent) (w u : Walking) → AreStoresOf tasks w → u ≡ with_rest rest w → AreStoresOf tasks u
rest_stores tasks rest w u h is = subst (AreStoresOf tasks) (sym is) (record { program = h.program; of_it = h.of_it; stores = h.stores })

pub boot_done : (tasks : List Around) (attempts : ℕ) (rest : List TimedEvent) (w u v : Walking) (unit : Unit {0}) → AreStoresOf tasks w → u ≡ with_rest rest w
    → attempts_walked tasks attempts u ≡ moved unit v → AreStoresOf tasks v
boot_done tasks attempts rest w u v unit h is done = done_stores tasks attempts u v unit (rest_stores tasks rest w u h is) done

pub boot_stopped : (tasks : List Around) (attempts : ℕ) (rest : List TimedEvent) (w u v : Walking) (why : Stop) → AreStoresOf tasks w → u ≡ with_rest rest w → why ≡ stop.Parted
    → Gives (attempts_walked tasks attempts u) (Err why) v → AreStoresOf tasks v
boot_stopped tasks attempts rest w u v why h is parted stopped =
    let at_end : attempts_walked tasks attempts u ≡ Err v = subst (λ why. Gives (attempts_walked tasks attempts u) (Err why) v) parted stopped in
    stopped_stores tasks attempts u v (rest_stores tasks rest w u h is) at_end

-- What is known between two boots: those that are left lead where all lead, and the stores are the program's.
pub record AreBooting (tasks : List Around) (left : List ReportBoot) (r end : Booted) : Type 0 where
  pub lead : all_walked tasks r left ≡ end
  pub kept : AreStoresOf tasks r.walking

-- before the first boot the stores are as declared
pub first_stores : (tasks : List Around) (c : Core) (feeds : List Feed) (w : Walking) → AreTasksOf c tasks → w ≡ unwalked c feeds → AreStoresOf tasks w
first_stores tasks c feeds w of_it is = record {
  program = c;
  of_it = of_it;
  stores = subst (AreStores c) (sym is) (fits_declared c, fits_declared c);
}

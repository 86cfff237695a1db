-- In every boot of every run the records that are followed agree, whatever the cuts and the looks.
use Rattle.std.proofs.Common.{◌≡◌, ℕ, zero, suc, List, [], ◌∷◌, ◌++◌, take, get_or, Option, Some, None, refl, ap, sym, subst, ◌∙◌}
use Rattle.std.specs.Prelude.{slice_get}
use Rattle.std.specs.List.{AllByRecursion}
use Rattle.std.specs.Prelude.{Bool, true, false, ◌+◌}
use Rattle.attempt_laws.proofs.NumberLaws.{numbered_in_order}
use Rattle.attempt_laws.proofs.RecordLaws.{Ends, task_fine}
use Rattle.attempt_laws.specs.Records.{AllHold, AreNumbered, Hold, Holds, IsInOrder, IsNumbered}
use Rattle.devices.specs.declared.world.World.{World}
use Rattle.io_flow.specs.Replay.{all_sites_in, row_sites_in, sites_in}
use Rattle.task_ast.specs.CoreSites.{all_numbers, row_numbers, site_numbers}
use Rattle.task_ast.specs.WellFormed.{AreCoreStmts, IsCoreStmt, IsCoreTask, IsWellFormed, Scope, scope_of}
use Rattle.task_ast.specs.declared.core_form.Core.{Core}
use Rattle.task_ast.specs.declared.core_form.CoreStmt.{CoreStmt, Row_of-CoreStmt, end_of-CoreStmt, more_of-CoreStmt}
use Rattle.task_ast.specs.declared.core_form.CoreTask.{CoreTask}
use Rattle.task_attempts.specs.Along.{setting_of}
use Rattle.task_attempts.specs.Attempts.{begun_by, commit, committed_by}
use Rattle.task_attempts.specs.Boots.{after, attempt_if_there, attempts_log, boot_log, booted, boots, boots_from, rules_of, task_of}
use Rattle.task_attempts.specs.Sound.{RecordsAgree}
use Rattle.task_attempts.specs.State.{Here, Log, Logged, Rest, Rules, Standing, start}
use Rattle.walk_run.specs.Plain.{branched}
use Rattle.walk_run.specs.Store.{Store, declared_store, fresh, unset}
use Rattle.task_ast.specs.declared.core_form.CoreStmt.TheVariants as stmt

-- ---- sites are numbered in order

mutual
  well_numbered : (s : Scope) (level : ℕ) (branched : Bool) (turning : List ℕ) (x : CoreStmt) → IsCoreStmt s level branched turning x → sites_in x ≡ site_numbers x
  well_numbered s level branched turning (stmt.Assign target e) is = refl
  well_numbered s level branched turning (stmt.Point p a i) is = refl
  well_numbered s level branched turning (stmt.If' c size_a yes_part size_b no_part) is = λ i. row_well_numbered s (1 + level) true turning yes_part is.2 i ++ row_well_numbered s (1 + level) true turning no_part is.3 i
  well_numbered s level branched turning (stmt.Loop' variable turns size body) is = sym is.4
  well_numbered s level branched turning (stmt.Io k t p args) is = refl
  well_numbered s level branched turning (stmt.Block' k size body) is = ap {B = List ℕ} (λ ks. k ∷ ks) (row_well_numbered s (1 + level) branched turning body is.1)
  well_numbered s level branched turning (stmt.Copy k to from words) is = refl

  row_well_numbered : (s : Scope) (level : ℕ) (branched : Bool) (turning : List ℕ) {size : _} (row : Row_of-CoreStmt size) → AreCoreStmts s level branched turning row → row_sites_in row ≡ row_numbers row
  row_well_numbered s level branched turning end_of-CoreStmt are = refl
  row_well_numbered s level branched turning (more_of-CoreStmt x rest) are = λ i. well_numbered s level branched turning x are.0 i ++ row_well_numbered s level branched turning rest are.1 i

body_well_numbered : (s : Scope) (level : ℕ) (branched : Bool) (turning : List ℕ) (body : List CoreStmt) → AllByRecursion (IsCoreStmt s level branched turning) body → all_sites_in body ≡ all_numbers body
body_well_numbered s level branched turning [] are = refl
body_well_numbered s level branched turning (x ∷ rest) are = λ i. well_numbered s level branched turning x are.0 i ++ body_well_numbered s level branched turning rest are.1 i

-- every task of a well-formed program
in_order : (c : Core) (t : CoreTask) → IsCoreTask c t → IsInOrder t
in_order c t is = body_well_numbered (scope_of c t) 1 false [] t.body is.body ∙ is.sites.numbers

-- ---- what a boot begins with

-- pointers at nothing
pub none_pointed : {A : Type 0} (names : List A) (p : ℕ) → get_or (unset names) p None ≡ None
none_pointed [] p = refl
none_pointed (x ∷ names) zero = refl
none_pointed (x ∷ names) (suc p) = none_pointed names p

-- no record
pub none_hold : (c : Core) (store : Store) (next : ℕ) → Hold c (fresh c store) next (λ k. None)
none_hold c store next = record { of_task = λ t is. record { last = λ _. 0; unset = none_pointed c.pointers; stand = λ k. tt } }

module _ (rules : Rules) (numbered : AreNumbered rules.core) where
  abbrev GoHold : Rest → Type 0
  GoHold go = (here : Here) → Holds rules.core here.standing → AllHold rules.core (go here)

  commit_holds : (t : CoreTask) (next here_next : ℕ) (is : task_of rules.core here_next ≡ Some t) (go : Rest) → GoHold go → Ends rules t (numbered here_next t is) (commit go next)
  commit_holds t next here_next is go holds here l left at =
      let none = none_hold rules.core here.store next in
      record { all = ((tt, none), holds (committed_by next here) none) }

  attempt_holds : (o : Option CoreTask) (go : Rest) → GoHold go → (here : Here) → task_of rules.core here.standing.next ≡ o → Holds rules.core here.standing → AllHold rules.core (attempt_if_there rules o go here)
  attempt_holds None go holds here is hold = tt
  attempt_holds (Some t) go holds here is hold =
      ((tt, hold), (task_fine rules t (numbered here.standing.next t is) (commit go) (λ next. commit_holds t next here.standing.next is go holds) (begun_by (setting_of rules t) here) refl is (hold.of_task t is)).all)

  attempts_hold : (n : ℕ) → GoHold (attempts_log rules n)
  attempts_hold zero here hold = tt
  attempts_hold (suc n) here hold = attempt_holds (task_of rules.core here.standing.next) (attempts_log rules n) (attempts_hold n) here refl hold

  -- a boot, from records that hold
  pub boot_holds : (n : ℕ) (s : Standing) → Holds rules.core s → AllHold rules.core (boot_log rules n s)
  unfolding boot_log
  boot_holds n s hold = attempts_hold n (booted rules s) hold

-- of the first events too
pub taken_all : (P : Logged → Type 0) (n : ℕ) (log : Log) → AllByRecursion P log → AllByRecursion P (take n log)
taken_all P zero log all = tt
taken_all P (suc n) [] all = tt
taken_all P (suc n) (l ∷ log) all = (all.0, taken_all P n log all.1)

pub after_holds : (c : Core) (s : Standing) (log : Log) → Holds c s → AllHold c log → Holds c (after s log)
after_holds c s [] hold all = hold
after_holds c s (l ∷ log) hold all = after_holds c l.after log all.0.1 all.1

pub agree_there : (c : Core) (log : Log) → AllHold c log → RecordsAgree log
agree_there c [] all = tt
agree_there c (l ∷ log) all = (all.0.0, agree_there c log all.1)

boots_agree : (rules : Rules) → AreNumbered rules.core → (cuts : List ℕ) (s : Standing) → Holds rules.core s → AllByRecursion RecordsAgree (boots_from rules cuts s)
unfolding boots_from
boots_agree rules numbered [] s hold = tt
boots_agree rules numbered (cut ∷ rest) s hold =
    let taken = take cut (boot_log rules cut s) in
    let all : AllHold rules.core taken = taken_all _ cut (boot_log rules cut s) (boot_holds rules numbered cut s hold) in
    (agree_there rules.core taken all, boots_agree rules numbered rest (after s taken) (after_holds rules.core s taken hold all))

-- every task of a well-formed program is numbered
numbered_there : (c : Core) (tasks : List CoreTask) → AllByRecursion (IsCoreTask c) tasks → (n : ℕ) (t : CoreTask) → slice_get tasks n ≡ Some t → IsNumbered t
numbered_there c [] well n t is = absurd (cc is)
numbered_there c (x ∷ tasks) well zero t is = subst IsNumbered (cc is) (numbered_in_order x (in_order c x well.0))
numbered_there c (x ∷ tasks) well (suc n) t is = numbered_there c tasks well.1 n t is

pub are_numbered : (c : Core) → IsWellFormed c → AreNumbered c
are_numbered c well zero t is = absurd (cc is)
are_numbered c well (suc n) t is = numbered_there c c.tasks well.tasks n t is

-- the law, for every well-formed program, all cuts and all looks
pub records_agree : (c : Core) (world : World) → IsWellFormed c → (cuts times : List ℕ) → AllByRecursion RecordsAgree (boots (rules_of c world) cuts times)
records_agree c world well cuts times = boots_agree (rules_of c world) (are_numbered c well) cuts (start c times) (none_hold c (declared_store c) 1)

-- When the rules' log of a boot has no more entries: behind a trap, and where no task is next.
use Rattle.std.specs.Prelude.{⊤, Option, Some, None}
use Rattle.std.proofs.Common.{◌≡◌, ◌∙◌, ℕ, zero, suc, ◌≤◌, List, [], ◌∷◌, ◌++◌, length, take, refl, sym, subst, arith}
use Rattle.task_ast.specs.declared.core_form.CoreTask.{CoreTask}
use Rattle.task_ast.specs.declared.core_form.Core.{Core}
use Rattle.devices.specs.Journal.{JournalEvent, begins, looks, keeps, drops, issues, seals, copies, commits, traps}
use Rattle.task_attempts.specs.State.{Rules, Standing, Here, Steps, Log, Rest}
use Rattle.task_attempts.specs.Along.{GoesAlong, setting_of}
use Rattle.task_attempts.specs.Attempts.{begun_by, commit, committed_by}
use Rattle.task_attempts.specs.Boots.{after, attempt_if_there, attempts_log, boot_log, booted, events_in, task_of}
use Rattle.task_attempts.specs.Laws.{EndsWith, IsLast, TrapsAreLast}
use Rattle.task_attempts.proofs.AttemptLaws.{inside_goes}
use Rattle.run_plan.specs.Sound.{IsTrap}

-- ---- a task is next wherever an event comes

abbrev pub AreTasks : Core → (next : ℕ) → Log → Type 0
AreTasks c next [] = ⊤
AreTasks c next (l ∷ log) = (task_of c next ≡ None → ⊥) × AreTasks c l.after.next log

-- inside an attempt, whose task is there
abbrev Inside : Core → Here → Steps → Log → Log → Type 0
Inside c here s a b = (task_of c here.standing.next ≡ None → ⊥) → AreTasks c here.standing.next a

inside_along : (c : Core) → GoesAlong (Inside c)
inside_along c = record {
  event = λ e inner f here s a b h there. (there, h there);
  trap = λ why here s there. (there, tt);
  later = λ a s b t later x y h there. subst (λ n. AreTasks c n x) later.next (h (subst (λ n. task_of c n ≡ None → ⊥) (sym later.next) there));
}

attempt_there : (rules : Rules) (go : Rest) → ((here : Here) → AreTasks rules.core here.standing.next (go here)) → (o : Option CoreTask) (here : Here) → task_of rules.core here.standing.next ≡ o
    → AreTasks rules.core here.standing.next (attempt_if_there rules o go here)
attempt_there rules go on None here is = tt
attempt_there rules go on (Some t) here is =
    let there : task_of rules.core here.standing.next ≡ None → ⊥ = (λ none. let clash : Some t ≡ None = sym is ∙ none in cc clash) in
    let begun : Here = begun_by (setting_of rules t) here in (
      there,
      inside_goes (Inside rules.core) (inside_along rules.core) (setting_of rules t) (commit go) (commit go) (λ next at s there. (there, on (committed_by next at))) begun begun.steps there,
    )

attempts_there : (rules : Rules) (n : ℕ) (here : Here) → AreTasks rules.core here.standing.next (attempts_log rules n here)
attempts_there rules zero here = tt
attempts_there rules (suc n) here = attempt_there rules (attempts_log rules n) (attempts_there rules n) (task_of rules.core here.standing.next) here refl

pub boot_there : (rules : Rules) (n : ℕ) (s : Standing) → AreTasks rules.core s.next (boot_log rules n s)
unfolding boot_log
boot_there rules n s = attempts_there rules n (booted rules s)

-- so nothing comes where none is next
pub none_next : (c : Core) (k : ℕ) (log : Log) (s : Standing) → AreTasks c s.next log → task_of c (after s (take k log)).next ≡ None → length log ≤ k
none_next c zero [] s there none = omega arith
none_next c zero (l ∷ log) s there none = absurd (there.0 none)
none_next c (suc k) [] s there none = omega arith
none_next c (suc k) (l ∷ log) s there none = let rest = none_next c k log l.after there.1 none in omega (arith, rest)

-- ---- nothing comes behind a trap

last_trap : (e : JournalEvent) (log : Log) → IsTrap e → IsLast e log → log ≡ []
last_trap (traps code) log is last = last
last_trap (begins t) log is last = absurd is
last_trap (looks k t) log is last = absurd is
last_trap (keeps k value) log is last = absurd is
last_trap (drops k) log is last = absurd is
last_trap (issues k p args reading) log is last = absurd is
last_trap (seals k) log is last = absurd is
last_trap (copies k from to n) log is last = absurd is
last_trap (commits next) log is last = absurd is

pub none_behind_trap : (k : ℕ) (log : Log) → TrapsAreLast log → EndsWith IsTrap (events_in (take k log)) → length log ≤ k
none_behind_trap zero log last ends = absurd ends
none_behind_trap (suc k) [] last ends = absurd ends
none_behind_trap (suc k) (l ∷ []) last ends = omega arith
none_behind_trap (suc zero) (l ∷ m ∷ log) last ends = absurd (let none : m ∷ log ≡ [] = last_trap l.event (m ∷ log) ends last.0 in cc none)
none_behind_trap (suc (suc k)) (l ∷ m ∷ log) last ends = let rest = none_behind_trap (suc k) (m ∷ log) last.1 ends in omega (arith, rest)

-- events with a trap at their end
pub trap_at_end : (es : List JournalEvent) (code : ℕ) → EndsWith IsTrap (es ++ traps code ∷ [])
trap_at_end [] code = tt
trap_at_end (e ∷ []) code = tt
trap_at_end (e ∷ f ∷ es) code = trap_at_end (f ∷ es) code

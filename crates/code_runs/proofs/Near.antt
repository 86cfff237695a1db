-- How far a run has come, one piece behind another.
use Rattle.std.specs.Prelude.{length}
use Rattle.std.proofs.Common.{◌≡◌, ◌∙◌, ℕ, ◌+◌, ◌≤◌, List, [], ◌∷◌, ◌++◌, refl, sym, ap, subst, arith}
use Rattle.devices.specs.Journal.{traps}
use Rattle.task_ast.specs.declared.core_form.Core.{Core}
use Rattle.word_isa.specs.declared.parts.Scheme.{Scheme}
use Rattle.run_plan.specs.Cells.{State}
use Rattle.act_refines.specs.Seen.{Seen, puts, tells}
use Rattle.code_cuts.specs.Acts.{IsQuiet}
use Rattle.code_cuts.specs.Lasting.{IsNear, bank_behind, bank_by, looks_behind, looks_by, task_behind, task_by}

pub task_more : (a b : List Seen) (task : ℕ) → task_behind (a ++ b) task ≡ task_behind b (task_behind a task)
task_more [] b task = refl
task_more (puts at word ∷ a) b task = task_more a b task
task_more (tells e ∷ a) b task = task_more a b (task_by e task)

pub looks_more : (a b : List Seen) (times : List ℕ) → looks_behind (a ++ b) times ≡ looks_behind b (looks_behind a times)
looks_more [] b times = refl
looks_more (puts at word ∷ a) b times = looks_more a b times
looks_more (tells e ∷ a) b times = looks_more a b (looks_by e times)

pub bank_more : (scheme : Scheme) (a b : List Seen) (bank : ℕ) → bank_behind scheme (a ++ b) bank ≡ bank_behind scheme b (bank_behind scheme a bank)
bank_more scheme [] b bank = refl
bank_more scheme (puts at word ∷ a) b bank = bank_more scheme a b bank
bank_more scheme (tells e ∷ a) b bank = bank_more scheme a b (bank_by scheme e bank)

-- no step
pub near_none : (c : Core) (scheme : Scheme) (s : State) → IsNear c scheme 0 [] s s
near_none c scheme s = record { epoch = omega arith; task = refl; bank = refl; looks = refl; there = λ is. is }

-- a trap that is seen
pub near_trap : (c : Core) (scheme : Scheme) (code : ℕ) (s : State) → IsNear c scheme 0 (tells (traps code) ∷ []) s s
near_trap c scheme code s = record { epoch = omega arith; task = refl; bank = refl; looks = refl; there = λ is. is }

-- more steps
pub near_later : (c : Core) (scheme : Scheme) (n m : ℕ) (seen : List Seen) (s t : State) → n ≤ m → IsNear c scheme n seen s t → IsNear c scheme m seen s t
near_later c scheme n m seen s t few x = record { epoch = let up : t.epoch ≤ s.epoch + n = x.epoch in omega (arith, few, up); task = x.task; bank = x.bank; looks = x.looks; there = x.there }

-- one piece, and then another
pub near_then : (c : Core) (scheme : Scheme) (n k all : ℕ) (a b : List Seen) (s t u : State) → n + k ≡ all → IsNear c scheme n a s t → IsNear c scheme k b t u → IsNear c scheme all (a ++ b) s u
near_then c scheme n k all a b s t u sum x y = record {
  epoch = let one : t.epoch ≤ s.epoch + n = x.epoch in let two : u.epoch ≤ t.epoch + k = y.epoch in omega (arith, sum, one, two);
  task = y.task ∙ ap (task_behind b) x.task ∙ sym (task_more a b s.task);
  bank = y.bank ∙ ap (bank_behind scheme b) x.bank ∙ sym (bank_more scheme a b s.bank);
  looks = y.looks ∙ ap (looks_behind b) x.looks ∙ sym (looks_more a b s.looks);
  there = λ is. y.there (x.there is);
}

-- what an act's end changes is none of it
pub near_quiet : (c : Core) (scheme : Scheme) (n : ℕ) (seen : List Seen) (s t u : State) → IsNear c scheme n seen s t → IsQuiet t u → IsNear c scheme n seen s u
near_quiet c scheme n seen s t u x same = record {
  epoch = let up : t.epoch ≤ s.epoch + n = x.epoch in let is : u.epoch ≡ t.epoch = same.epoch in omega (arith, up, is);
  task = same.task ∙ x.task;
  bank = same.bank ∙ x.bank;
  looks = same.looks ∙ x.looks;
  there = λ few. let is : u.task ≡ t.task = same.task in subst (λ k. k ≤ length c.tasks) (sym is) (x.there few);
}

-- What is known at the places of a program with so many steps to go.
use Rattle.std.specs.Prelude.{◌≡◌, ℕ, ◌+◌, ◌^◌, ◌<◌, ◌≤◌}
use Rattle.devices.specs.Journal.{Place}
use Rattle.io_flow.specs.Written.{AllWithin}
use Rattle.task_ast.specs.Pointing.{pointing}
use Rattle.task_ast.specs.declared.core_form.CoreTask.{CoreTask}
use Rattle.task_attempts.specs.State.{Rules}
use Rattle.word_isa.specs.declared.parts.Scheme.{Scheme}
use Rattle.word_machine.specs.State.{Program}
use Rattle.word_machine.specs.Straight.{Spot}
use Rattle.run_plan.specs.Cells.{State}
use Rattle.code_cuts.specs.Boots.{AreDue}
use Rattle.code_cuts.specs.Lasting.{MayFollow, MayRun, doing_of}

-- Anywhere in the task of a number: the state word and the clock have room for what these steps come to, what is recorded may be
-- followed by whichever task may run, and the plan's looks are those that the machine will show.
pub record Common (p : Program) (place_of : ℕ → Place) (rules : Rules) (scheme : Scheme) (number n : ℕ) (m : Spot) (s : State) : Type 0 where
  pub room : s.epoch + n + 1 < 2 ^ 24
  pub ticks : m.clock + n < 2 ^ 32
  pub task : s.task ≡ number
  pub follows : (t : CoreTask) → MayRun rules.core s.task t → MayFollow (doing_of rules scheme t) m.clock s
  pub due : AreDue p place_of n m s.looks

-- in an attempt of a task without sites: pointers point where the task lets them
pub record GoesWell (p : Program) (place_of : ℕ → Place) (rules : Rules) (scheme : Scheme) (number : ℕ) (t : CoreTask) (n : ℕ) (m : Spot) (s : State) : Type 0 where
  pub common : Common p place_of rules scheme number n m s
  pub within : AllWithin (pointing t) s.store

-- A claim that holds between the acts of an attempt: it says what is known anywhere, and that pointers point where the task lets them;
-- and it goes on to hold where all else that lives between acts is as it was.
pub record IsClaim (p : Program) (place_of : ℕ → Place) (rules : Rules) (scheme : Scheme) (number : ℕ) (t : CoreTask) (Well : ℕ → Spot → State → Type 0) : Type 0 where
  pub common : (n : ℕ) (m : Spot) (s : State) → Well n m s → Common p place_of rules scheme number n m s
  pub within : (n : ℕ) (m : Spot) (s : State) → Well n m s → AllWithin (pointing t) s.store
  pub kept : (n k : ℕ) (m there : Spot) (s to : State) → Well n m s → m.clock ≤ there.clock → to.frame ≡ s.frame → Common p place_of rules scheme number k there to → AllWithin (pointing t) to.store → Well k there to

-- one of the two
pub data Claim : Type 0 where
  before_attempt : (number : ℕ) → Claim
  in_attempt : (number : ℕ) → CoreTask → Claim

abbrev pub Claimed : Program → (ℕ → Place) → Rules → Scheme → Claim → ℕ → Spot → State → Type 0
Claimed p place_of rules scheme (before_attempt number) n m s = Common p place_of rules scheme number n m s
Claimed p place_of rules scheme (in_attempt number t) n m s = GoesWell p place_of rules scheme number t n m s

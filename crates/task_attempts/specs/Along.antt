-- One induction for all claims about what comes of an attempt.
use Rattle.std.specs.Prelude.{◌≡◌, ℕ, ◌+◌, ◌≤◌, ⊤, [], ◌∷◌, Option, None}
use Rattle.task_ast.specs.declared.core_form.CoreTask.{CoreTask}
use Rattle.walk_run.specs.declared.trap.Trap.{Trap}
use Rattle.devices.specs.Journal.{JournalEvent, begins, commits, traps}
use Rattle.word_isa.specs.declared.parts.Scheme.{Scheme}
use Rattle.task_attempts.specs.State.{Steps, Rules, Setting, Here, Followed, Log}
use Rattle.task_attempts.specs.Changes.{with_steps}
use Rattle.task_attempts.specs.Costs.{beginning_steps, commit_steps}
use Rattle.task_attempts.specs.Told.{logged, trap}
use Rattle.task_attempts.specs.Attempts.{begun_by, committed_by}

-- the events inside an attempt
abbrev pub IsInner : JournalEvent → Type 0
IsInner (begins task) = ⊥
IsInner (commits next) = ⊥
IsInner (traps code) = ⊥
IsInner e = ⊤

-- A later place of the same attempt; and beside the two, other steps that grow as theirs do.
pub record IsLater (a : Here) (s : Steps) (b : Here) (t : Steps) : Type 0 where
  pub committed : b.standing.committed ≡ a.standing.committed
  pub next : b.standing.next ≡ a.standing.next
  pub steps : (scheme : Scheme) → a.steps scheme ≤ b.steps scheme
  pub alike : s ≡ a.steps → t ≡ b.steps

-- A claim about two logs, one from a place on, the other from the same place with other steps. It goes along: over an
-- event inside an attempt that both begin with, over a trap, and from a later place to an earlier one. A claim about one
-- log is one that doesn't look at the second.
pub record GoesAlong (P : Here → Steps → Log → Log → Type 0) : Type 0 where
  pub event : (e : JournalEvent) → IsInner e → (followed : Option Followed) (here : Here) (s : Steps) (a b : Log) → P here s a b
      → P here s (logged e followed here ∷ a) (logged e followed (with_steps s here) ∷ b)
  pub trap : (why : Trap) (here : Here) (s : Steps) → P here s (trap why here) (trap why (with_steps s here))
  pub later : (a : Here) (s : Steps) (b : Here) (t : Steps) → IsLater a s b t → (c d : Log) → P b t c d → P a s c d

-- what an attempt goes by
abbrev pub setting_of : Rules → CoreTask → Setting
setting_of rules t = record { rules = rules; task = t }

-- other steps at an attempt's beginning, and behind its commit
abbrev pub steps_begun : Rules → CoreTask → Steps → Steps
steps_begun rules t s = λ scheme. s scheme + beginning_steps rules.core t scheme

abbrev pub steps_committed : Steps → Steps
steps_committed s = λ scheme. s scheme + commit_steps

-- and over a whole boot: besides over an attempt's beginning, over a commit, and at the end
pub record GoesOver (rules : Rules) (P : Here → Steps → Log → Log → Type 0) : Type 0 where
  pub along : GoesAlong P
  pub begin : (t : CoreTask) (here : Here) (s : Steps) (a b : Log) → P (begun_by (setting_of rules t) here) (steps_begun rules t s) a b
      → P here s (logged (begins here.standing.next) None (begun_by (setting_of rules t) here) ∷ a) (logged (begins here.standing.next) None (with_steps (steps_begun rules t s) (begun_by (setting_of rules t) here)) ∷ b)
  pub commit : (next : ℕ) (here : Here) (s : Steps) (a b : Log) → P (committed_by next here) (steps_committed s) a b
      → P here s (logged (commits next) None (committed_by next here) ∷ a) (logged (commits next) None (with_steps (steps_committed s) (committed_by next here)) ∷ b)
  pub end : (here : Here) (s : Steps) → P here s [] []

-- A journal with its steps that keeps the rules: a call that is issued twice, since the power failed before its seal.
use Rattle.std.proofs.Common.{◌≡◌, ℕ, zero, suc, ◌≤◌, List, [], ◌∷◌, take, refl, arith, not-suc-le-zero, le_of_suc-le-suc}
use Rattle.task_ast.specs.declared.core_form.CoreExpr.TheBlock.{hidden-the_row-CoreExpr-0, shape-the_row-CoreExpr-0}
use Rattle.walk_run.specs.declared.walked.State.{State}
use Rattle.walk_run.specs.Walk.{walk_from, walk_of}
use Rattle.word_isa.specs.declared.parts.Scheme.TheVariants.{Undo}
use Rattle.devices.specs.declared.event.RunEnd.TheVariants.{Halted}
use Rattle.devices.specs.Reading.{reading, values_in}
use Rattle.devices.specs.Journal.{Journal, begins, looks, drops, issues, seals, commits}
use Rattle.task_attempts.specs.State.{Rules}
use Rattle.task_attempts.specs.Boots.{boot_log, boots_from, costs_from}
use Rattle.task_attempts.specs.Sound.{IsLegal, AreWalked, IsInTime, ends_from, AllSealed, AllEndWell, KeepsRules}
use Rattle.task_attempts.specs.Journals.{all_events}
use Rattle.task_attempts.proofs.Programs.{sending}
use denote.Hole.Carrier.{hidden}

-- boot 1 lasts 60 steps, the power is away for 100 ticks
rules : Rules
rules = record {
  core = sending;
  world = record {
    power = record { on = 60; off = 100; fill = 0 } ∷ record { on = 200; off = 0; fill = 0 } ∷ [];
    feeds = record { number = 0; values = 1 ∷ 2 ∷ 3 ∷ [] } ∷ [];
    retained = [];
  };
}

journal : Journal
journal = record {
  boots =
      record { begun_at = 0; events = (20, begins 1) ∷ (41, looks 1 40) ∷ (50, drops 1) ∷ (60, issues 1 0 (7 ∷ []) 1) ∷ [] }
      ∷ record { begun_at = 60; events = (80, begins 1) ∷ (101, looks 1 200) ∷ (110, drops 1) ∷ (115, issues 1 0 (7 ∷ []) 2) ∷ (118, seals 1) ∷ (130, commits 0) ∷ [] }
      ∷ [];
  steps = 135;
  ending = Halted;
}

-- the state behind its commit: n is 7 + 2
states : List State
states = record { next = 0; words = (9 ∷ []) ∷ [] } ∷ []

legal : IsLegal rules journal
unfolding hidden-the_row-CoreExpr-0 shape-the_row-CoreExpr-0 hidden boot_log boots_from values_in reading sending rules journal
legal = record { expected = refl; timed = ((tt, (refl, (tt, (tt, tt)))), ((tt, (refl, (tt, (tt, (tt, (tt, tt)))))), tt)) }

-- the unbroken run that is fed the second reading ends with n = 9
walked_by : (i : ℕ) → i ≤ 1 → (walk_of sending (2 ∷ []) i).states ≡ take i states
unfolding hidden-the_row-CoreExpr-0 shape-the_row-CoreExpr-0 hidden sending states walk_from walk_of
walked_by zero le = refl
walked_by (suc zero) le = refl
walked_by (suc (suc i)) le = absurd (not-suc-le-zero (le_of_suc-le-suc le))

walked : AreWalked sending (all_events journal) states
unfolding hidden-the_row-CoreExpr-0 shape-the_row-CoreExpr-0 hidden sending journal states walk_from walk_of
walked = record { nexts = refl; walked = walked_by }

-- the second boot's events come by 60 and 180, 312 .. 312, 432 more; the first boot ends before it must have come further
in_time : IsInTime rules Undo journal
unfolding hidden-the_row-CoreExpr-0 shape-the_row-CoreExpr-0 hidden boot_log costs_from values_in reading sending rules journal
in_time = (
  (omega arith, (omega arith, (omega arith, (omega arith, omega arith)))),
  ((omega arith, (omega arith, (omega arith, (omega arith, (omega arith, (omega arith, tt)))))), tt),
)

-- the first boot ends 0 steps behind its issue, and in the second the seal comes 3 steps behind it
sealed : AllSealed sending journal.boots (ends_from journal.boots journal.steps)
unfolding hidden-the_row-CoreExpr-0 shape-the_row-CoreExpr-0 hidden sending journal
sealed = ((tt, (tt, (tt, (omega arith, tt)))), ((tt, (tt, (tt, ((refl, omega arith), (tt, (tt, tt)))))), tt))

-- it halts 5 steps behind its commit
ends : AllEndWell 1 journal.steps journal.boots journal.ending
unfolding journal
ends = (tt, omega arith)

-- all of it
it_keeps_the_rules : KeepsRules rules Undo journal states
unfolding hidden-the_row-CoreExpr-0 shape-the_row-CoreExpr-0 hidden boot_log boots_from values_in reading sending rules journal states
it_keeps_the_rules = record {
  legal = legal;
  walked = walked;
  trap = tt;
  in_time = in_time;
  sealed = sealed;
  agree = ((tt, (tt, (tt, (tt, tt)))), ((tt, (tt, (tt, (tt, (tt, (tt, tt)))))), tt));
  ends = ends;
}

-- Journals that are walked: how many of their first lines go along the rules, and whether their runs may end so.
use Rattle.std.proofs.Common.{◌≡◌, ℕ, true, false, List, [], ◌∷◌, Some, codes, refl}
use Rattle.task_ast.specs.declared.tree.Kind.TheVariants.{Nv, Vol}
use Rattle.task_ast.specs.declared.tree.Ann.TheVariants.{Single}
use Rattle.task_ast.specs.declared.tree.Op2.TheVariants.{Add}
use Rattle.task_ast.specs.declared.core_form.CoreExpr.TheBlock.{hidden-the_row-CoreExpr-0, shape-the_row-CoreExpr-0}
use Rattle.task_ast.specs.declared.core_form.CoreExpr.TheVariants.{Number, Cell, Two}
use Rattle.task_ast.specs.declared.core_form.CoreTarget.TheVariants as target
use Rattle.task_ast.specs.declared.core_form.CoreStmt.TheVariants.{Assign, Io}
use Rattle.task_ast.specs.declared.core_form.CoreExit.TheVariants.{Stop}
use Rattle.task_ast.specs.declared.core_form.CoreTask.{CoreTask}
use Rattle.task_ast.specs.declared.core_form.Site.TheVariants as site
use Rattle.task_ast.specs.declared.core_form.Core.{Core}
use Rattle.devices.specs.declared.world.PowerRow.{PowerRow}
use Rattle.devices.specs.declared.event.RunEnd.TheVariants.{Halted, Power}
use Rattle.devices.specs.declared.world.Feed.{Feed}
use Rattle.devices.specs.Reading.{reading, values_in}
use Rattle.audit_check.specs.declared.around.Around.{Around}
use Rattle.audit_check.specs.declared.journal.ReportEvent.{ReportEvent}
use Rattle.audit_check.specs.declared.journal.ReportEvent.TheVariants.{Begin, Look, Kept, Drop, Issue, Seal, Commit}
use Rattle.audit_check.specs.declared.journal.TimedEvent.{TimedEvent}
use Rattle.audit_check.specs.declared.journal.ReportBoot.{ReportBoot}
use Rattle.audit_check.specs.Walking.{taken, looked, dropped, dropped_if, sealed, issued_now, trapped_by, word, reading_target, put_reading}
use Rattle.audit_check.specs.Walked.{issued_anew, read_by, call_walked, plain_walked, plain_worked, commit_walked, begin_walked, exit_walked, attempt_walked}
use Rattle.audit_check.specs.Booted.{boot_walked, journal_walked}
use Rattle.audit_check.specs.Ended.{end_fits}
use denote.Hole.Carrier.{hidden}

-- peripheral radio 0; nv word n = 7; word v; task a { v = IO(radio, SINGLE, n); n = n + v; STOP; }
unfoldable task : CoreTask
task = record {
  name = codes "a";
  body = Io 1 (Some (target.Cell 1 (Number 0))) 0 (Cell 0 (Number 0) ∷ []) ∷ Assign (target.Cell 0 (Number 0)) (Two Add (Cell 0 (Number 0)) (Cell 1 (Number 0))) ∷ [];
  exit = Stop;
  sites = site.Io Single ∷ [];
}

unfoldable program : Core
program = record {
  arrays = record { name = codes "n"; kind = Nv; first = 7 ∷ [] } ∷ record { name = codes "v"; kind = Vol; first = 0 ∷ [] } ∷ [];
  pointers = [];
  peripherals = record { name = codes "radio"; number = 0 } ∷ [];
  tasks = task ∷ [];
}

-- its one task, on whose one site no other depends
unfoldable tasks : List Around
tasks =
    record {
      core = record { ref_ptr = (0, 0); now = program };
      task = record { ref_ptr = (0, 0); now = task };
      depends = record { ref_ptr = (0, 0); now = record { sites = 0 ∷ 0 ∷ []; points = [] } };
    }
    ∷ []

abbrev feeds : List Feed
feeds = record { number = 0; values = 1 ∷ [] } ∷ []

abbrev row : ℕ → PowerRow
row on = record { on = on; off = 0; fill = 0 }

abbrev at : ℕ → ReportEvent → TimedEvent
at step e = record { step = step; event = e }

abbrev boot : ℕ → List TimedEvent → ReportBoot
boot begun events = record { begun_at = begun; events = events }

-- one boot up to its commit
abbrev one_boot : (reading : ℕ) → List ReportBoot
one_boot reading = boot 0 (at 1 (Begin 1) ∷ at 2 (Look 1 1) ∷ at 3 (Drop 1) ∷ at 4 (Issue 1 0 (7 ∷ []) reading) ∷ at 5 (Seal 1) ∷ at 6 (Commit 0) ∷ []) ∷ []

-- one boot without its drop
abbrev no_drop : List ReportBoot
no_drop = boot 0 (at 1 (Begin 1) ∷ at 2 (Look 1 1) ∷ at 4 (Issue 1 0 (7 ∷ []) 1) ∷ at 5 (Seal 1) ∷ at 6 (Commit 0) ∷ []) ∷ []

-- two boots, and an event of the second
abbrev two_boots : ReportEvent → List ReportBoot
two_boots e =
    boot 0 (at 1 (Begin 1) ∷ at 2 (Look 1 1) ∷ at 3 (Drop 1) ∷ at 4 (Issue 1 0 (7 ∷ []) 1) ∷ at 5 (Seal 1) ∷ [])
    ∷ boot 5 (at 6 (Begin 1) ∷ at 7 (Look 1 6) ∷ at 8 e ∷ at 9 (Commit 0) ∷ []) ∷ []

-- how many first lines go along the rules
unfoldable lines : List ReportBoot → ℕ
lines boots = (journal_walked tasks program feeds boots).lines

all_of_it : lines (one_boot 1) ≡ 7
unfolding hidden-the_row-CoreExpr-0 shape-the_row-CoreExpr-0 hidden lines tasks task program values_in reading taken looked dropped dropped_if sealed issued_now trapped_by word reading_target put_reading issued_anew read_by call_walked plain_walked plain_worked commit_walked begin_walked exit_walked attempt_walked boot_walked
all_of_it = refl

another_reading : lines (one_boot 2) ≡ 4
unfolding hidden-the_row-CoreExpr-0 shape-the_row-CoreExpr-0 hidden lines tasks task program values_in reading taken looked dropped dropped_if sealed issued_now trapped_by word reading_target put_reading issued_anew read_by call_walked plain_walked plain_worked commit_walked begin_walked exit_walked attempt_walked boot_walked
another_reading = refl

drop_left_out : lines no_drop ≡ 3
unfolding hidden-the_row-CoreExpr-0 shape-the_row-CoreExpr-0 hidden lines tasks task program values_in reading taken looked dropped dropped_if sealed issued_now trapped_by word reading_target put_reading issued_anew read_by call_walked plain_walked plain_worked commit_walked begin_walked exit_walked attempt_walked boot_walked
drop_left_out = refl

second_keeps : lines (two_boots (Kept 1 1)) ≡ 11
unfolding hidden-the_row-CoreExpr-0 shape-the_row-CoreExpr-0 hidden lines tasks task program values_in reading taken looked dropped dropped_if sealed issued_now trapped_by word reading_target put_reading issued_anew read_by call_walked plain_walked plain_worked commit_walked begin_walked exit_walked attempt_walked boot_walked
second_keeps = refl

second_drops : lines (two_boots (Drop 1)) ≡ 9
unfolding hidden-the_row-CoreExpr-0 shape-the_row-CoreExpr-0 hidden lines tasks task program values_in reading taken looked dropped dropped_if sealed issued_now trapped_by word reading_target put_reading issued_anew read_by call_walked plain_walked plain_worked commit_walked begin_walked exit_walked attempt_walked boot_walked
second_drops = refl

-- ---- ends

halts_behind : end_fits (row 100 ∷ []) (one_boot 1) 7 Halted ≡ true
halts_behind = refl

halts_with_the_last_event : end_fits (row 100 ∷ []) (one_boot 1) 6 Halted ≡ false
halts_with_the_last_event = refl

halts_past_the_power : end_fits (row 100 ∷ []) (one_boot 1) 101 Halted ≡ false
halts_past_the_power = refl

ends_with_the_power : end_fits (row 5 ∷ row 100 ∷ []) (two_boots (Kept 1 1)) 105 Power ≡ true
ends_with_the_power = refl

ends_before_the_power : end_fits (row 5 ∷ row 100 ∷ []) (two_boots (Kept 1 1)) 104 Power ≡ false
ends_before_the_power = refl

-- The end of a machine's journal fits its power, where it halts as the rules let it.
use Rattle.std.proofs.Common.{◌≡◌, ℕ, ◌+◌, List, refl, ap, subst, arith}
use Rattle.devices.specs.Journal.{Place}
use Rattle.devices.specs.declared.world.PowerRow.{PowerRow}
use Rattle.task_attempts.specs.Laws.{EndsWith}
use Rattle.task_attempts.specs.Sound.{AllEndWell}
use Rattle.audit_check.specs.Ended.{ComesBefore, EndFits, TrapsAt}
use Rattle.word_machine.specs.Runs.{boots, end_of, is_running, last_ending, total_steps}
use Rattle.word_machine.specs.State.{Program, State}
use Rattle.word_machine.specs.declared.ending.Ending.{Ending}
use Rattle.word_machine.specs.declared.ending.Ending.TheVariants.{Running, Halted, Trapped}
use Rattle.journal_fits.proofs.Ends.{halts_in, spent, steps_within, traps_in}
use Rattle.journal_fits.proofs.NextTask.{halts_at_none}

from_none : (n : ℕ) → 0 + n ≡ n
from_none n = omega arith

pub end_fits : (place_of : ℕ → Place) (p : Program) (rows : List PowerRow) (s : State) → s.ending ≡ Running → AllEndWell 1 (total_steps p rows s) (boots place_of p rows 0 s) (end_of (last_ending p rows s))
    → EndFits rows (boots place_of p rows 0 s) (total_steps p rows s) (end_of (last_ending p rows s))
end_fits place_of p rows s on well = by (last_ending p rows s) refl well
  where
    by : (e : Ending) → last_ending p rows s ≡ e → AllEndWell 1 (total_steps p rows s) (boots place_of p rows 0 s) (end_of e) → EndFits rows (boots place_of p rows 0 s) (total_steps p rows s) (end_of e)
    by Running is well = spent place_of p rows 0 s (ap is_running is)
    by Halted is well =
        let before : EndsWith (ComesBefore (total_steps p rows s)) (boots place_of p rows 0 s) = subst (λ k. EndsWith (ComesBefore k) (boots place_of p rows 0 s)) (from_none (total_steps p rows s)) (halts_in place_of p rows 0 s (ap is_running on) is) in (
          halts_at_none (ComesBefore (total_steps p rows s)) 1 (total_steps p rows s) (boots place_of p rows 0 s) before well,
          before,
          steps_within place_of p rows 0 s,
        )
    by (Trapped code) is well = subst (λ k. EndsWith (TrapsAt k code) (boots place_of p rows 0 s)) (from_none (total_steps p rows s)) (traps_in place_of p rows 0 code s (ap is_running on) is)

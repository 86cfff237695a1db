-- A session: what it is, and what each command makes of it and writes (docs/COMMANDS.md, "The debugger").
use Rattle.std.specs.Prelude.{ℕ, zero, suc, ◌+◌, ◌-◌, ◌==◌, Bool, true, false, not, ◌&&◌, ◌||◌, nat_lt, List, [], ◌∷◌, ◌++◌, codes, Option, Some, None, if◌then◌else◌}
use Rattle.devices.specs.Reading.{values_in}
use Rattle.devices.specs.declared.world.World.{World}
use Rattle.ease_debug.specs.Past.{Happening, boots, shows, site_of, why}
use Rattle.ease_debug.specs.Shown.{show_line, regs_line, why_line, last_line}
use Rattle.ease_debug.specs.declared.command.Command.{Command}
use Rattle.ease_debug.specs.declared.command.Command.TheVariants.{Step, Fail, To, At, Show, Regs, Why}
use Rattle.ease_debug.specs.declared.end.DebugEnd.{DebugEnd}
use Rattle.ease_debug.specs.declared.end.DebugEnd.TheVariants as ended
use Rattle.ease_debug.specs.declared.stop.Stop.{Stop}
use Rattle.ease_debug.specs.declared.stop.Stop.TheVariants.{Never, Site, SiteOf}
use Rattle.power_trace.specs.Report.{number}
use Rattle.power_trace.specs.Run.{program_in, told_text}
use Rattle.word_isa.specs.Marks.{mark_at}
use Rattle.word_isa.specs.declared.image.Image.{Image}
use Rattle.word_isa.specs.declared.mark.Mark.{Mark}
use Rattle.word_machine.specs.Events.{stepped_next}
use Rattle.word_machine.specs.Runs.{is_running, fail_behind}
use Rattle.word_machine.specs.State.{Program, State, start}
use Rattle.word_machine.specs.Step.{step}
use Rattle.word_machine.specs.declared.ending.Ending.{Ending}
use Rattle.word_machine.specs.declared.ending.Ending.TheVariants as ending
use Rattle.word_machine.specs.declared.stepped.Stepped.{Stepped}
use Rattle.word_machine.specs.declared.stepped.Stepped.TheVariants as stepped

-- the machine, the steps so far, the boot's number, whether the session is spent, and what happened, the newest first
pub record Session : Type 0 where
  pub state : State
  pub steps : ℕ
  pub boot : ℕ
  pub spent : Bool
  pub past : List Happening

-- a session and the lines that were written on the way to it
pub record Did : Type 0 where
  pub session : Session
  pub lines : List ℕ

abbrev pub nothing : Session → Did
nothing s = record { session = s; lines = [] }

-- one thing after another
abbrev pub and_then : Did → (Session → Did) → Did
and_then d go = record { session = (go d.session).session; lines = d.lines ++ (go d.session).lines }

-- the machine goes on and the session isn't spent
abbrev pub goes_on : Session → Bool
goes_on s = is_running s.state.ending && not s.spent

-- all steps or all ticks of a session are used
abbrev pub is_full : Session → Bool
is_full s = (s.steps == 4194304) || (s.state.clock == 4294967295)

-- what a step's answer adds to what happened
abbrev pub happened : Stepped → List Happening
happened (stepped.Ran None) = []
happened (stepped.Ran (Some e)) = shows e ∷ []
happened stepped.Halted = []
happened (stepped.Trapped code) = []

-- one step, with the line of its event
abbrev pub one_step : Image → Program → Session → Did
one_step image p s = record {
  session = record s { state = step p s.state; steps = s.steps + 1; past = happened (stepped_next p s.state) ++ s.past };
  lines = told_text image true (s.steps + 1) (stepped_next p s.state);
}

-- the event is at the site
abbrev pub is_at : ℕ → Option ℕ → Bool
is_at k None = false
is_at k (Some j) = j == k

abbrev pub comes_from : ℕ → Stepped → Bool
comes_from k (stepped.Ran None) = false
comes_from k (stepped.Ran (Some e)) = is_at k (site_of e)
comes_from k stepped.Halted = false
comes_from k (stepped.Trapped code) = false

-- where the mark of the event of a machine's next step stands: at the counter, or before it while the engine moves words
abbrev pub mark_place : State → ℕ
mark_place s = if s.engine.left == 0 then s.pc else s.pc - 1

-- the task that the mark at an address names
abbrev pub task_of : Option Mark → ℕ
task_of None = 0
task_of (Some m) = m.task

-- the machine's next step is the last
abbrev pub stops : Image → Stop → Program → State → Bool
stops image Never p s = false
stops image (Site k) p s = comes_from k (stepped_next p s)
stops image (SiteOf task k) p s = comes_from k (stepped_next p s) && task_of (mark_at image.marks (mark_place s)) == task

-- so many steps, or fewer where one stops; a step past a limit isn't done, and spends the session
unfoldable pub going : Image → Stop → Program → ℕ → Session → Did
going image stop p zero s = nothing s
going image stop p (suc n) s =
    if not (goes_on s) then nothing s else if is_full s then nothing (record s { spent = true })
    else if stops image stop p s.state then one_step image p s else and_then (one_step image p s) (going image stop p n)

-- more steps than any session has
abbrev pub any_steps : ℕ
any_steps = 4194305

-- the line of a boot
abbrev pub boot_text : ℕ → List ℕ
boot_text k = codes "boot" ++ number k ++ codes "\n"

-- a power failure; past the last tick it isn't done, and spends the session
abbrev pub failing : (off fill : ℕ) → Session → Did
failing off fill s =
    if not (goes_on s) then nothing s else if nat_lt 4294967295 (s.state.clock + off) then nothing (record s { spent = true })
    else record {
      session = record s { state = fail_behind (record { on = 0; off = off; fill = fill }) s.state; boot = s.boot + 1; past = boots ∷ s.past };
      lines = boot_text (s.boot + 1);
    }

-- a command; the last three show and change nothing
abbrev pub does : Image → Program → Command → Session → Did
does image p (Step n) s = going image Never p n s
does image p (Fail off fill) s = failing off fill s
does image p (To site) s = going image (Site site) p any_steps s
does image p (At task site) s = going image (SiteOf task site) p any_steps s
does image p (Show k) s = record { session = s; lines = show_line image k s.state.store }
does image p Regs s = record { session = s; lines = regs_line s.state.pc s.state.regs }
does image p (Why site) s = record { session = s; lines = why_line site (why site s.past) }

-- all commands of a script
abbrev pub does_all : Image → Program → List Command → Session → Did
does_all image p [] s = nothing s
does_all image p (c ∷ commands) s = and_then (does image p c s) (does_all image p commands)

-- how a session ends
abbrev pub end_by : Ending → (spent : Bool) → DebugEnd
end_by ending.Running spent = if spent then ended.Power else ended.Script
end_by ending.Halted spent = ended.Halted
end_by (ending.Trapped code) spent = ended.Trapped code

-- the first boot, before its first step
abbrev pub first : Image → Session
first image = record { state = start image.fram; steps = 0; boot = 1; spent = false; past = [] }

-- all commands of a script, from the first boot on
abbrev pub session_of : Image → (values : ℕ → List ℕ) → List Command → Did
session_of image values commands = does_all image (program_in image values) commands (first image)

abbrev pub end_of : Session → DebugEnd
end_of s = end_by s.state.ending s.spent

-- the text of a session: the first boot's line, those of the commands, and how it ended
abbrev pub text_of : Did → List ℕ
text_of d = boot_text 1 ++ d.lines ++ last_line (end_of d.session)

abbrev pub session_on : Image → World → List Command → Did
session_on image world commands = session_of image (values_in world.feeds) commands

abbrev pub session_text : Image → World → List Command → List ℕ
session_text image world commands = text_of (session_on image world commands)

abbrev pub session_end : Image → World → List Command → DebugEnd
session_end image world commands = end_of (session_on image world commands).session

-- What a debugger holds, and the session that this is (docs/COMMANDS.md, "The debugger").
use Rattle.std.specs.Prelude.{◌≡◌, ℕ, ◌≤◌, ◌==◌, Bool, not, ◌&&◌, ◌||◌, List, [], ◌∷◌, Option, Some, None, Result, Ok, Err}
use Rattle.ease_base.specs.declared.error.Failed.{Failed}
use Rattle.ease_debug.specs.Past.{Happening, shows}
use Rattle.ease_debug.specs.Session.{Session, Did}
use Rattle.ease_debug.specs.Stopping.{Names}
use Rattle.ease_debug.specs.Trails.{Trails, Slots, trails_in, noted, no_trails}
use Rattle.power_trace.specs.Live.{state_of, program_in_live}
use Rattle.power_trace.specs.Writing.{Wrote, BrokeOff}
use Rattle.power_trace.specs.declared.live.Live.{Live}
use Rattle.word_isa.specs.declared.image.Image.{Image}
use Rattle.word_isa.specs.declared.mark.Mark.{Mark}
use Rattle.word_machine.specs.Runs.{is_running}
use Rattle.word_machine.specs.declared.ending.Ending.{Ending}
use Rattle.word_machine.specs.declared.ending.Ending.TheVariants.{Running, Halted, Trapped}
use Rattle.word_machine.specs.declared.stepped.Stepped.{Stepped}
use Rattle.word_machine.specs.declared.stepped.Stepped.TheVariants as stepped

-- what is known behind all that happened
unfoldable pub trails_of : List Happening → Trails
trails_of [] = no_trails
trails_of (h ∷ past) = noted h (trails_of past)

-- the image, the machine on its way and how it is, the trails, the boot's number and whether the session is spent
pub record Held : Type 0 where
  pub image : Image
  pub live : Live
  pub ending : Ending
  pub trails : Slots
  pub boot : ℕ
  pub spent : Bool

abbrev pub goes_on : Held → Bool
goes_on h = is_running h.ending && not h.spent

abbrev pub is_full : Held → Bool
is_full h = (h.live.steps == 4194304) || (h.live.outside.clock == 4294967295)

-- how the machine is behind a step, by its answer
abbrev pub ending_of : Stepped → Ending
ending_of (stepped.Ran e) = Running
ending_of stepped.Halted = Halted
ending_of (stepped.Trapped code) = Trapped code

-- the trails behind a step, by its answer
abbrev pub heard : Stepped → Trails → Trails
heard (stepped.Ran None) t = t
heard (stepped.Ran (Some e)) t = noted (shows e) t
heard stepped.Halted t = t
heard (stepped.Trapped code) t = t

-- what a debugger keeps: the tasks of the image's marks, no step too many, and how the machine is
pub record IsSound (live : Live) (ending : Ending) (tasks : List ℕ) (marks : List Mark) : Type 0 where
  pub names : Names tasks marks
  pub steps : live.steps ≤ 4194304
  pub running : ending ≡ (state_of live).ending

-- this is the session
pub record Stands (h : Held) (s : Session) : Type 0 where
  pub state : state_of h.live ≡ s.state
  pub steps : h.live.steps ≡ s.steps
  pub ending : h.ending ≡ s.state.ending
  pub trails : trails_in h.trails ≡ trails_of s.past
  pub boot : h.boot ≡ s.boot
  pub spent : h.spent ≡ s.spent

-- the program and the image stay
pub record Stays (before after : Held) : Type 0 where
  pub program : program_in_live after.live ≡ program_in_live before.live
  pub image : after.image ≡ before.image

-- a call leaves what was to be done, and wrote its lines, or a front of them
abbrev pub Goes : {A : Type 0} → Result A Failed → Held → (old new : Option (List ℕ)) → (faults_before faults_after : ℕ) → Did → Type 0
Goes (Ok x) h old new faults_before faults_after d = Stands h d.session × Wrote old new faults_before faults_after d.lines
Goes (Err e) h old new faults_before faults_after d = BrokeOff old new faults_before faults_after d.lines

-- the same of a step, which answers whether it stops
abbrev pub Steps : Result Bool Failed → Held → (old new : Option (List ℕ)) → (faults_before faults_after : ℕ) → (stops : Bool) → Did → Type 0
Steps (Ok x) h old new faults_before faults_after stops d = (x ≡ stops) × Stands h d.session × Wrote old new faults_before faults_after d.lines
Steps (Err e) h old new faults_before faults_after stops d = BrokeOff old new faults_before faults_after d.lines

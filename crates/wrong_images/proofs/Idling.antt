-- An image that jumps in place is not sound: the first event doesn't come in time (`in_time`).
use Rattle.std.proofs.Common.{◌≡◌, ℕ, zero, suc, ◌+◌, ◌≤◌, List, [], ◌∷◌, ap, refl, subst, sym, arith, if◌then◌else◌}
use Rattle.devices.specs.Journal.{Journal, JournalEvent, Place}
use Rattle.devices.specs.Reading.{values_in}
use Rattle.devices.specs.declared.world.PowerRow.{PowerRow}
use Rattle.power_trace.specs.Report.{place_in}
use Rattle.sound_images.specs.Sound.{IsSound}
use Rattle.task_ast.specs.declared.core_form.Core.{Core}
use Rattle.task_ast.specs.declared.core_form.CoreExit.TheVariants.{Stop}
use Rattle.task_ast.specs.declared.core_form.CoreExit.TheBlock.{hidden-the_row-CoreExit-0, shape-the_row-CoreExit-0}
use Rattle.task_attempts.specs.Boots.{boot_log, costs_from, rules_of}
use Rattle.task_attempts.specs.Sound.{IsInTime}
use Rattle.word_isa.specs.Decoding.{decoded}
use Rattle.word_isa.specs.Marks.{mark_at}
use Rattle.word_isa.specs.declared.image.Image.{Image}
use Rattle.word_isa.specs.declared.parts.Scheme.{Scheme}
use Rattle.word_isa.specs.declared.parts.Scheme.TheVariants.{Undo, Bank}
use Rattle.word_machine.specs.Events.{event_next, stepped_next}
use Rattle.word_machine.specs.Runs.{boots, end_of, fail_behind, fail_behind_at, is_running, last_ending, numbered, steps_done, total_steps}
use Rattle.word_machine.specs.State.{Program, State, program_of, start}
use Rattle.word_machine.specs.declared.ending.Ending.{Ending}
use Rattle.word_machine.specs.declared.ending.Ending.TheVariants.{Running}
use Rattle.word_machine.specs.Step.{exec, fail, fail_at, step}
use Rattle.wrong_images.proofs.Halting.{journal_by}
use Rattle.wrong_images.proofs.Worlds.{lasting, long_within, row_of}
use denote.Hole.Carrier.{hidden}

-- task t { STOP; }
unfoldable pub stopping : Core
stopping = record { arrays = []; pointers = []; peripherals = []; tasks = record { name = []; body = []; exit = Stop; sites = [] } ∷ [] }

-- JMP 0
abbrev pub jump : List ℕ
jump = 335544320 ∷ []

-- the machine that runs it, at a time
abbrev jumping : Program
jumping = program_of jump [] (values_in [])

abbrev standing : (fram : List ℕ) (time : ℕ) → State
standing fram time = record (start fram) { clock = time }

-- it shows nothing, and goes on for as long as the power is on
shows : (place_of : ℕ → Place) (fram : List ℕ) (time before n : ℕ) → numbered place_of jumping before n (standing fram time) ≡ []
unfolding numbered stepped_next event_next decoded step mark_at
shows place_of fram time before zero = refl
shows place_of fram time before (suc n) = shows place_of fram (time + 1) (suc before) n

goes : (fram : List ℕ) (time n : ℕ) → (exec jumping n (standing fram time)).ending ≡ Running
unfolding exec decoded step
goes fram time zero = refl
goes fram time (suc n) = goes fram (time + 1) n

lasts : (fram : List ℕ) (time n : ℕ) → steps_done jumping n (standing fram time) ≡ n
unfolding steps_done decoded step
lasts fram time zero = refl
lasts fram time (suc n) = ap suc (lasts fram (time + 1) n)

-- and so it does behind a failure
outlasts : (row : PowerRow) (s : State) → s.ending ≡ Running → (fail_behind row s).ending ≡ Running
unfolding fail
outlasts row s is =
    subst (λ e. (fail_behind_at e row s).ending ≡ Running) (sym is) (subst (λ e. (fail_at e row.fill s).ending ≡ Running) (sym is) is)

-- a journal of one boot
abbrev of_one_boot : List (ℕ × JournalEvent) → (how last : Ending) → (steps : ℕ) → Journal
of_one_boot events how last steps = record {
  boots = record { begun_at = 0; events = events } ∷ (if is_running how then [] else []);
  steps = steps + 0;
  ending = end_of last;
}

idles : (place_of : ℕ → Place) (fram : List ℕ) (n : ℕ) → journal_by jump [] n place_of fram ≡ of_one_boot [] Running Running n
unfolding boots total_steps last_ending
idles place_of fram n =
    let s = exec jumping n (start fram) in
    let events = numbered place_of jumping 0 n (start fram) in
    subst (λ e. journal_by jump [] n place_of fram ≡ of_one_boot e Running Running n) (shows place_of fram 0 0 n)
    (subst (λ how. journal_by jump [] n place_of fram ≡ of_one_boot events how Running n) (goes fram 0 n)
    (subst (λ last. journal_by jump [] n place_of fram ≡ of_one_boot events s.ending last n) (outlasts (row_of n) s (goes fram 0 n))
    (subst (λ steps. journal_by jump [] n place_of fram ≡ of_one_boot events s.ending (fail_behind (row_of n) s).ending steps) (lasts fram 0 n) refl)))

-- so the attempt's beginning doesn't come in time
late : (scheme : Scheme) → IsInTime (rules_of stopping (lasting 200)) scheme (of_one_boot [] Running Running 200) → ⊥
unfolding hidden-the_row-CoreExit-0 shape-the_row-CoreExit-0 hidden stopping costs_from boot_log
late Undo h = let far : 201 ≤ 144 = h.0 in omega (arith, far)
late Bank h = let far : 201 ≤ 128 = h.0 in omega (arith, far)

pub idling_isn't_sound : (scheme : Scheme) (i : Image) → i.code ≡ jump → i.marks ≡ [] → IsSound stopping scheme i → ⊥
idling_isn't_sound scheme i code marks sound =
    let rules = rules_of stopping (lasting 200) in
    let by_code = subst (λ code. IsInTime rules scheme (journal_by code i.marks 200 (place_in i) i.fram)) code (sound.runs (lasting 200) long_within).keeps.in_time in
    let by_marks = subst (λ marks. IsInTime rules scheme (journal_by jump marks 200 (place_in i) i.fram)) marks by_code in
    late scheme (subst (λ j. IsInTime rules scheme j) (idles (place_in i) i.fram 200) by_marks)

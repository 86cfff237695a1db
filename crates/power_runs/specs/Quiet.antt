-- A step that ends the machine shows no event, where no mark is at an instruction that halts.
use Rattle.std.specs.Prelude.{Option, Some, None}
use Rattle.std.proofs.Common.{◌≡◌, ◌∙◌, ℕ, ◌+◌, ◌==◌, Bool, true, false, List, refl, sym, ap, if◌then◌else◌}
use Rattle.fram_ram.specs.Engine.{advanced, idle, moved_word}
use Rattle.word_isa.specs.declared.instr.Instr.{Instr}
use Rattle.word_isa.specs.declared.instr.Instr.TheVariants.{Halt}
use Rattle.word_machine.specs.Events.{copied_event, event, event_at, event_next, fetched_event, marked, moved_event, unless_fault, worked_event}
use Rattle.word_machine.specs.Instructions.{act, fault}
use Rattle.word_machine.specs.State as machine
use Rattle.word_machine.specs.State.{Program}
use Rattle.word_machine.specs.Step.{can_move, done, fetched, moved, step, step_at, worked}
use Rattle.word_machine.specs.declared.ending.Ending.{Ending}
use Rattle.word_machine.specs.declared.ending.Ending.TheVariants.{Running, Halted, Trapped}
use Rattle.power_runs.specs.Due.{HaltsUnmarked}

running_trapped : {A : Type 0} (e : Ending) (code : ℕ) → e ≡ Running → e ≡ Trapped code → A
running_trapped e code on is = absurd (let clash : Running ≡ Trapped code = sym on ∙ is in cc clash)

running_halted : {A : Type 0} (e : Ending) → e ≡ Running → e ≡ Halted → A
running_halted e on is = absurd (let clash : Running ≡ Halted = sym on ∙ is in cc clash)

halted_trapped : {A : Type 0} (code : ℕ) → Halted ≡ Trapped code → A
halted_trapped code is = absurd (cc is)

trapped_halted : {A : Type 0} (code : ℕ) → Trapped code ≡ Halted → A
trapped_halted code is = absurd (cc is)

act_traps : {A : Type 0} (values : ℕ → List ℕ) (i : Instr) (s : machine.State) (code : ℕ) → s.ending ≡ Running → (act values i s).ending ≡ Trapped code → A
act_traps values Halt s code on is = halted_trapped code is
act_traps values _ s code on is = running_trapped s.ending code on is

trap_untold : (p : Program) (s : machine.State) (code : ℕ) → s.ending ≡ Running → (worked p s).ending ≡ Trapped code → worked_event p s ≡ None
trap_untold p s code on = at_work (s.engine.left == 0)
  where
    by_fault : (i : Instr) (f : Option ℕ) → (done p.values i f (record s { pc = s.pc + 1 })).ending ≡ Trapped code → unless_fault f (event p.values (p.mark s.pc) i s) ≡ None
    by_fault i None is = act_traps p.values i (record s { pc = s.pc + 1 }) code on is
    by_fault i (Some why) is = refl

    by_instr : (i : Option Instr) → (fetched p i s).ending ≡ Trapped code → fetched_event p i s ≡ None
    by_instr None is = refl
    by_instr (Some i) is = by_fault i (fault i s) is

    by_move : (b : Bool) → (if b then record s { store = moved_word s.engine s.store; engine = advanced s.engine } else record s { ending = Trapped 16; engine = idle }).ending ≡ Trapped code → (if b then copied_event p s else None) ≡ None
    by_move true is = running_trapped s.ending code on is
    by_move false is = refl

    at_work : (b : Bool) → (if b then fetched p (p.instr s.pc) s else moved s).ending ≡ Trapped code → (if b then fetched_event p (p.instr s.pc) s else moved_event p s) ≡ None
    at_work true is = by_instr (p.instr s.pc) is
    at_work false is = by_move (can_move s) is

halt_untold : (p : Program) → HaltsUnmarked p → (s : machine.State) → s.ending ≡ Running → (worked p s).ending ≡ Halted → worked_event p s ≡ None
halt_untold p unmarked s on = at_work (s.engine.left == 0)
  where
    by_act : (i : Instr) → p.instr s.pc ≡ Some i → (act p.values i (record s { pc = s.pc + 1 })).ending ≡ Halted → event p.values (p.mark s.pc) i s ≡ None
    by_act Halt there is = ap (λ sign. marked sign 0) (unmarked s.pc there)
    by_act _ there is = running_halted s.ending on is

    by_fault : (i : Instr) (f : Option ℕ) → p.instr s.pc ≡ Some i → (done p.values i f (record s { pc = s.pc + 1 })).ending ≡ Halted → unless_fault f (event p.values (p.mark s.pc) i s) ≡ None
    by_fault i None there is = by_act i there is
    by_fault i (Some why) there is = trapped_halted why is

    by_instr : (i : Option Instr) → p.instr s.pc ≡ i → (fetched p i s).ending ≡ Halted → fetched_event p i s ≡ None
    by_instr None there is = refl
    by_instr (Some i) there is = by_fault i (fault i s) there is

    by_move : (b : Bool) → (if b then record s { store = moved_word s.engine s.store; engine = advanced s.engine } else record s { ending = Trapped 16; engine = idle }).ending ≡ Halted → (if b then copied_event p s else None) ≡ None
    by_move true is = running_halted s.ending on is
    by_move false is = refl

    at_work : (b : Bool) → (if b then fetched p (p.instr s.pc) s else moved s).ending ≡ Halted → (if b then fetched_event p (p.instr s.pc) s else moved_event p s) ≡ None
    at_work true is = by_instr (p.instr s.pc) refl is
    at_work false is = by_move (can_move s) is

-- of the step that is next
pub trap_quiet : (p : Program) (s : machine.State) (code : ℕ) → s.ending ≡ Running → (step p s).ending ≡ Trapped code → event_next p s ≡ None
unfolding step event_next
trap_quiet p s code on is =
    let worked_is : (worked p s).ending ≡ Trapped code = sym (ap (λ e. (step_at p e s).ending) on) ∙ is in
    ap (λ e. event_at p e s) on ∙ trap_untold p s code on worked_is

pub halt_quiet : (p : Program) → HaltsUnmarked p → (s : machine.State) → s.ending ≡ Running → (step p s).ending ≡ Halted → event_next p s ≡ None
unfolding step event_next
halt_quiet p unmarked s on is =
    let worked_is : (worked p s).ending ≡ Halted = sym (ap (λ e. (step_at p e s).ending) on) ∙ is in
    ap (λ e. event_at p e s) on ∙ halt_untold p unmarked s on worked_is

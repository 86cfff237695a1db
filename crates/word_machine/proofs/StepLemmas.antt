-- From what the parts of a step answer to what the step answers.
use Rattle.std.specs.Prelude.{◌==◌, if◌then◌else◌}
use Rattle.std.proofs.Common.{◌≡◌, ◌∙◌, ℕ, ◌+◌, ◌<◌, Bool, true, false, List, Option, Some, None, refl, sym, ap, arith}
use Rattle.std.proofs.lemmas.Bool.Decides.{nat_tests}
use Rattle.devices.specs.declared.event.Event.{Event}
use Rattle.word_isa.specs.declared.instr.Instr.{Instr}
use Rattle.word_isa.specs.declared.instr.Instr.TheVariants.{Halt, Ldi, Lui, Mov, Add, Sub, Mul, Div, Rem, Ld, St, Io, Time, Dma, Trap}
use Rattle.word_machine.specs.Events.{event, unless_fault, fetched_event, copied_event, moved_event, worked_event, told}
use Rattle.word_machine.specs.Instructions.{fault}
use Rattle.word_machine.specs.State.{Program, State}
use Rattle.word_machine.specs.Step.{done, fetched, can_move}
use Rattle.word_machine.specs.declared.cell.Sign.{Sign}
use Rattle.word_machine.specs.declared.ending.Ending.{Ending}
use Rattle.word_machine.specs.declared.ending.Ending.TheVariants.{Running}
use Rattle.word_machine.specs.declared.stepped.Stepped.{Stepped}
use Rattle.word_machine.specs.declared.stepped.Stepped.TheVariants.{Ran}

-- neither a trap nor an event asks where the counter stands
fault_anywhere : (i : Instr) (s : State) (pc : ℕ) → fault i (record s { pc = pc }) ≡ fault i s
fault_anywhere Halt s pc = refl
fault_anywhere (Ldi a m) s pc = refl
fault_anywhere (Lui a m) s pc = refl
fault_anywhere (Mov a b) s pc = refl
fault_anywhere (Add a b) s pc = refl
fault_anywhere (Sub a b) s pc = refl
fault_anywhere (Mul a b) s pc = refl
fault_anywhere (Div a b) s pc = refl
fault_anywhere (Rem a b) s pc = refl
fault_anywhere (Ld a b m) s pc = refl
fault_anywhere (St a b m) s pc = refl
fault_anywhere (Trap m) s pc = refl
fault_anywhere _ s pc = refl

event_anywhere : (values : ℕ → List ℕ) (m : Option Sign) (i : Instr) (s : State) (pc : ℕ) → event values m i (record s { pc = pc }) ≡ event values m i s
event_anywhere values m (Mov a b) s pc = refl
event_anywhere values m (Io a b n) s pc = refl
event_anywhere values m (Time a) s pc = refl
event_anywhere values m (Dma a b n) s pc = refl
event_anywhere values m _ s pc = refl

-- the instruction at the counter, done from behind it
pub fetched_state : (p : Program) (s mid new : State) (i : Instr) (found : Option Instr) → found ≡ Some i → mid ≡ record s { pc = s.pc + 1 }
    → new ≡ done p.values i (fault i mid) mid → new ≡ fetched p found s
fetched_state p s mid new i found there behind is =
    is ∙ ap (λ m. done p.values i (fault i m) m) behind
    ∙ ap (λ f. done p.values i f (record s { pc = s.pc + 1 })) (fault_anywhere i s (s.pc + 1))
    ∙ sym (ap (λ o. fetched p o s) there)

-- and its answer
pub fetched_answer : (p : Program) (s mid new : State) (m : Option Sign) (i : Instr) (found : Option Instr) (answer : Stepped) → found ≡ Some i → p.mark s.pc ≡ m
    → mid ≡ record s { pc = s.pc + 1 } → answer ≡ told new.ending (unless_fault (fault i mid) (event p.values m i mid)) → answer ≡ told new.ending (fetched_event p found s)
fetched_answer p s mid new m i found answer there marked behind is =
    is ∙ ap (λ t. told new.ending (unless_fault (fault i t) (event p.values m i t))) behind
    ∙ ap (λ f. told new.ending (unless_fault f (event p.values m i (record s { pc = s.pc + 1 })))) (fault_anywhere i s (s.pc + 1))
    ∙ ap (λ e. told new.ending (unless_fault (fault i s) e)) (event_anywhere p.values m i s (s.pc + 1))
    ∙ ap (λ k. told new.ending (unless_fault (fault i s) (event p.values k i s))) (sym marked)
    ∙ sym (ap (λ o. told new.ending (fetched_event p o s)) there)

-- the engine's word was moved
pub moved_answer : (p : Program) (s : State) (shown : Option Event) (now : Ending) → shown ≡ copied_event p s → true ≡ can_move s → now ≡ Running
    → Ran shown ≡ told now (moved_event p s)
moved_answer p s shown now is can on =
    ap Ran is ∙ ap (λ (b : Bool). Ran (if b then copied_event p s else None)) can ∙ sym (ap (λ e. told e (moved_event p s)) on)

some_left : (n : ℕ) → 0 < n → (n == 0) ≡ false
some_left n h = grind (arith, nat_tests)

-- with words left the engine goes first
pub engine_answer : (p : Program) (s : State) (now : Ending) (answer : Stepped) → 0 < s.engine.left → answer ≡ told now (moved_event p s) → answer ≡ told now (worked_event p s)
engine_answer p s now answer left is = is ∙ sym (ap (λ (b : Bool). told now (if b then fetched_event p (p.instr s.pc) s else moved_event p s)) (some_left s.engine.left left))

-- The memory after some steps: in FRAM it is the memory before them with the writes that were seen, at most one a step.
use Rattle.std.specs.Prelude.{◌==◌, ◌≤◌, if◌then◌else◌}
use Rattle.std.proofs.Common.{◌≡◌, ◌∙◌, ℕ, zero, suc, ◌+◌, Bool, true, false, List, [], ◌∷◌, ◌++◌, length, Option, Some, None, refl, sym, ap, lit≤, arith}
use Rattle.std.proofs.lemmas.Bool.Decides.{nat_tests}
use Rattle.devices.specs.declared.event.Event.{Event}
use Rattle.fram_ram.specs.Memories.{is_fram, put}
use Rattle.fram_ram.specs.Engine.{idle, advanced, next_source, next_destination, moved_word}
use Rattle.word_isa.specs.declared.instr.Instr.{Instr}
use Rattle.word_isa.specs.declared.instr.Instr.TheVariants.{St}
use Rattle.word_machine.specs.Events.{event_next}
use Rattle.word_machine.specs.Instructions.{fault, act, address}
use Rattle.word_machine.specs.State.{Program, State}
use Rattle.word_machine.specs.Step.{done, fetched, can_move, moved, step, step_at, exec}
use Rattle.word_machine.specs.Traces.{Atom, wrote, showed, noted, writes, shows, unless_trap, fetched_writes, moved_writes, writes_at, writes_next, seen, trace, applied}
use Rattle.word_machine.specs.declared.ending.Ending.{Ending}
use Rattle.word_machine.specs.declared.ending.Ending.TheVariants.{Running, Halted, Trapped}

-- the writes of two traces, one after the other
pub applied_more : (a b : List Atom) (store : ℕ → ℕ) → applied (a ++ b) store ≡ applied b (applied a store)
applied_more [] b store = refl
applied_more (wrote at word ∷ a) b store = applied_more a b (put store at word)
applied_more (showed e ∷ a) b store = applied_more a b store

-- two stores that are alike in FRAM
abbrev pub IsAlike : (ℕ → ℕ) → (ℕ → ℕ) → Type 0
IsAlike f g = (at : ℕ) → is_fram at ≡ true → f at ≡ g at

alike_put : (f g : ℕ → ℕ) (at word : ℕ) → IsAlike f g → IsAlike (put f at word) (put g at word)
alike_put f g at word h a fram = ap (λ (x : ℕ). if at == a then word else x) (h a fram)

-- and stay alike after the same writes
pub alike_applied : (atoms : List Atom) (f g : ℕ → ℕ) → IsAlike f g → IsAlike (applied atoms f) (applied atoms g)
alike_applied [] f g h = h
alike_applied (wrote at word ∷ atoms) f g h = alike_applied atoms (put f at word) (put g at word) (alike_put f g at word h)
alike_applied (showed e ∷ atoms) f g h = alike_applied atoms f g h

-- a write elsewhere isn't seen in FRAM
elsewhere : (at a : ℕ) → is_fram at ≡ false → is_fram a ≡ true → (at == a) ≡ false
elsewhere at a h k = grind (arith, nat_tests)

noted_put : (at word : ℕ) (store : ℕ → ℕ) → IsAlike (put store at word) (applied (noted at word) store)
noted_put at word store a fram = by (is_fram at) refl
  where
    by : (b : Bool) → is_fram at ≡ b → put store at word a ≡ applied (if b then wrote at word ∷ [] else []) store a
    by true is = refl
    by false is = rw (elsewhere at a is fram)

-- an event writes nothing
shows_applied : (e : Option Event) (store : ℕ → ℕ) → applied (shows e) store ≡ store
shows_applied None store = refl
shows_applied (Some e) store = refl

act_writes : (values : ℕ → List ℕ) (i : Instr) (s : State) → IsAlike (act values i (record s { pc = s.pc + 1 })).store (applied (writes i s) s.store)
act_writes values (St a b m) s x fram = noted_put (address s b m) (s.regs a) s.store x fram
act_writes values _ s x fram = refl

fetched_are : (p : Program) (i : Option Instr) (s : State) → IsAlike (fetched p i s).store (applied (fetched_writes i s) s.store)
fetched_are p None s a fram = refl
fetched_are p (Some i) s a fram = by (fault i s)
  where
    by : (f : Option ℕ) → (done p.values i f (record s { pc = s.pc + 1 })).store a ≡ applied (unless_trap f (writes i s)) s.store a
    by None = act_writes p.values i s a fram
    by (Some code) = refl

moved_are : (s : State) → IsAlike (moved s).store (applied (moved_writes s) s.store)
moved_are s a fram = by (can_move s)
  where
    by : (b : Bool) → (if b then record s { store = moved_word s.engine s.store; engine = advanced s.engine } else record s { ending = Trapped 16; engine = idle }).store a
        ≡ applied (if b then noted (next_destination s.engine) (s.store (next_source s.engine)) else []) s.store a
    by true = noted_put (next_destination s.engine) (s.store (next_source s.engine)) s.store a fram
    by false = refl

step_are : (p : Program) (s : State) → IsAlike (step p s).store (applied (writes_next p s) s.store)
unfolding step writes_next
step_are p s a fram = by s.ending
  where
    at_work : (b : Bool) → (if b then fetched p (p.instr s.pc) s else moved s).store a ≡ applied (if b then fetched_writes (p.instr s.pc) s else moved_writes s) s.store a
    at_work true = fetched_are p (p.instr s.pc) s a fram
    at_work false = moved_are s a fram

    by : (ending : Ending) → (step_at p ending s).store a ≡ applied (writes_at p ending s) s.store a
    by Running = at_work (s.engine.left == 0)
    by Halted = refl
    by (Trapped code) = refl

-- FRAM after a step
pub step_writes : (p : Program) (s : State) → IsAlike (step p s).store (applied (seen p s) s.store)
step_writes p s a fram =
    step_are p s a fram
    ∙ sym (ap (λ f. f a) (applied_more (writes_next p s) (shows (event_next p s)) s.store ∙ shows_applied (event_next p s) (applied (writes_next p s) s.store)))

-- FRAM after so many steps is FRAM before them with the writes of the trace
pub traced : (p : Program) (n : ℕ) (s : State) → IsAlike (exec p n s).store (applied (trace p n s) s.store)
unfolding exec trace
traced p zero s a fram = refl
traced p (suc n) s a fram =
    traced p n (step p s) a fram
    ∙ alike_applied (trace p n (step p s)) (step p s).store (applied (seen p s) s.store) (step_writes p s) a fram
    ∙ sym (ap (λ f. f a) (applied_more (seen p s) (trace p n (step p s)) s.store))

noted_one : (at word : ℕ) → length (noted at word) ≤ 1
noted_one at word = by (is_fram at)
  where
    by : (b : Bool) → length (if b then wrote at word ∷ [] else []) ≤ 1
    by true = lit≤ tt
    by false = lit≤ tt

instruction_one : (i : Instr) (s : State) → length (writes i s) ≤ 1
instruction_one (St a b m) s = noted_one (address s b m) (s.regs a)
instruction_one _ s = lit≤ tt

fetched_one : (i : Option Instr) (s : State) → length (fetched_writes i s) ≤ 1
fetched_one None s = lit≤ tt
fetched_one (Some i) s = by (fault i s)
  where
    by : (f : Option ℕ) → length (unless_trap f (writes i s)) ≤ 1
    by None = instruction_one i s
    by (Some code) = lit≤ tt

moved_one : (s : State) → length (moved_writes s) ≤ 1
moved_one s = by (can_move s)
  where
    by : (b : Bool) → length (if b then noted (next_destination s.engine) (s.store (next_source s.engine)) else []) ≤ 1
    by true = noted_one (next_destination s.engine) (s.store (next_source s.engine))
    by false = lit≤ tt

-- a step writes at most one word of FRAM
pub one_write : (p : Program) (s : State) → length (writes_next p s) ≤ 1
unfolding writes_next
one_write p s = by s.ending
  where
    at_work : (b : Bool) → length (if b then fetched_writes (p.instr s.pc) s else moved_writes s) ≤ 1
    at_work true = fetched_one (p.instr s.pc) s
    at_work false = moved_one s

    by : (ending : Ending) → length (writes_at p ending s) ≤ 1
    by Running = at_work (s.engine.left == 0)
    by Halted = lit≤ tt
    by (Trapped code) = lit≤ tt

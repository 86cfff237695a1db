-- Laws on runs: more steps, a line of plain instructions, a jump, a trap, and the memory behind a trace.
use Rattle.std.specs.Prelude.{◌==◌, ◌%◌, ◌^◌, if◌then◌else◌}
use Rattle.std.proofs.Common.{◌≡◌, ◌∙◌, ℕ, zero, suc, ◌+◌, true, List, [], ◌∷◌, ◌++◌, length, Some, None, refl, sym, ap, append_assoc, append-nil, arith}
use native.Mathlib.Nat.{zero-add, add-zero, suc-add}
use Rattle.devices.specs.Readings.{issued_after}
use Rattle.fram_ram.specs.Engine.{begun}
use Rattle.fram_ram.specs.Memories.{put}
use Rattle.word_isa.specs.declared.instr.Instr.{Instr}
use Rattle.word_isa.specs.declared.instr.Instr.TheVariants.{Halt, Jmp, Jz, Io, Time, Dma, Trap}
use Rattle.word_machine.specs.Events.{event, event_next}
use Rattle.word_machine.specs.Instructions.{fault, act, next_reading}
use Rattle.word_machine.specs.State.{Program, State}
use Rattle.word_machine.specs.Step.{step_at, step, exec}
use Rattle.word_machine.specs.Straight.{Stand, Stands, Spot, live, is_plain, after, line, Straight, line_writes}
use Rattle.word_machine.specs.Traces.{seen, shows, trace, writes, writes_next}
use Rattle.word_machine.specs.declared.ending.Ending.{Ending}
use Rattle.word_machine.specs.declared.ending.Ending.TheVariants.{Running, Halted, Trapped}

pub exec_more : (p : Program) (n m : ℕ) (s : State) → exec p (n + m) s ≡ exec p m (exec p n s)
unfolding exec
exec_more p zero m s = rw zero-add
exec_more p (suc n) m s = rw suc-add (exec_more p n m (step p s))

pub trace_more : (p : Program) (n m : ℕ) (s : State) → trace p (n + m) s ≡ trace p n s ++ trace p m (exec p n s)
unfolding exec trace
trace_more p zero m s = rw zero-add
trace_more p (suc n) m s = rw suc-add (ap (λ t. seen p s ++ t) (trace_more p n m (step p s)) ∙ sym (append_assoc (seen p s) (trace p n (step p s)) (trace p m (exec p n (step p s)))))

-- one instruction that is plain and doesn't trap, marked or not
pub step_of : (p : Program) (i : Instr) (s : Spot) → p.instr s.pc ≡ Some i → is_plain i ≡ true → fault i (live s) ≡ None → step p (live s) ≡ live (after p i s)
unfolding step
step_of p i s instr plain safe = rw (instr, safe) (acts i plain)
  where
    acts : (i : Instr) → is_plain i ≡ true → record (act p.values i (record (live s) { pc = s.pc + 1 })) { clock = s.clock + 1 } ≡ live (after p i s)
    acts Halt h = cc
    acts (Jmp t) h = cc
    acts (Jz a m) h = cc
    acts (Io a b m) h = cc
    acts (Dma a b m) h = cc
    acts (Trap m) h = cc
    acts (Time a) h = cc
    acts _ h = refl

pub step_plain : (p : Program) (i : Instr) (s : Spot) → Stand p s.pc i → is_plain i ≡ true → fault i (live s) ≡ None → step p (live s) ≡ live (after p i s)
step_plain p i s stand plain safe = step_of p i s stand.instr plain safe

-- an instruction shows its write, and its event
pub seen_of : (p : Program) (i : Instr) (s : Spot) → p.instr s.pc ≡ Some i → fault i (live s) ≡ None → seen p (live s) ≡ writes i (live s) ++ shows (event p.values (p.mark s.pc) i (live s))
unfolding writes_next event_next
seen_of p i s instr safe = rw (instr, safe)

no_event : (values : ℕ → List ℕ) (i : Instr) (s : State) → is_plain i ≡ true → event values None i s ≡ None
no_event values (Time a) s h = cc
no_event values (Io a b m) s h = cc
no_event values (Dma a b m) s h = cc
no_event values _ s h = refl

pub seen_plain : (p : Program) (i : Instr) (s : Spot) → Stand p s.pc i → is_plain i ≡ true → fault i (live s) ≡ None → seen p (live s) ≡ writes i (live s)
unfolding writes_next event_next
seen_plain p i s stand plain safe = rw (stand.instr, safe, stand.mark) (ap (λ e. writes i (live s) ++ shows e) (no_event p.values i (live s) plain) ∙ append-nil (writes i (live s)))

-- a line of plain instructions that don't trap runs in as many steps
pub line_runs : (p : Program) (is : List Instr) (s : Spot) → Stands p s.pc is → Straight p is s → exec p (length is) (live s) ≡ live (line p is s)
unfolding exec
line_runs p [] s stands straight = refl
line_runs p (i ∷ is) s stands straight =
    ap (exec p (length is)) (step_plain p i s stands.0 straight.0 straight.1) ∙ line_runs p is (after p i s) stands.1 straight.2

-- and shows its writes of FRAM
pub line_shows : (p : Program) (is : List Instr) (s : Spot) → Stands p s.pc is → Straight p is s → trace p (length is) (live s) ≡ line_writes p is s
unfolding trace
line_shows p [] s stands straight = refl
line_shows p (i ∷ is) s stands straight =
    let first : seen p (live s) ≡ writes i (live s) = seen_plain p i s stands.0 straight.0 straight.1 in
    let rest : trace p (length is) (step p (live s)) ≡ line_writes p is (after p i s) =
    ap (trace p (length is)) (step_plain p i s stands.0 straight.0 straight.1) ∙ line_shows p is (after p i s) stands.1 straight.2 in
    cc

-- a line ends behind its instructions
pub line_ends : (p : Program) (is : List Instr) (s : Spot) → (line p is s).pc ≡ s.pc + length is
line_ends p [] s = omega arith
line_ends p (i ∷ is) s = omega (arith, line_ends p is (after p i s))

-- instructions in front of others, and behind them
pub stands_front : (p : Program) (at : ℕ) (a b : List Instr) → Stands p at (a ++ b) → Stands p at a
stands_front p at [] b h = tt
stands_front p at (i ∷ a) b h = (h.0, stands_front p (at + 1) a b h.1)

pub stands_behind : (p : Program) (at : ℕ) (a b : List Instr) (n : ℕ) → Stands p at (a ++ b) → n ≡ at + length a → Stands p n b
stands_behind p at [] b n h e = rw (e, add-zero) h
stands_behind p at (i ∷ a) b n h e = stands_behind p (at + 1) a b n h.1 (omega arith)

-- a jump where a register is 0
pub step_jz : (p : Program) (a m : ℕ) (s : Spot) → Stand p s.pc (Jz a m)
    → step p (live s) ≡ live (record s { pc = if s.regs a == 0 then s.pc + 1 + m else s.pc + 1; clock = s.clock + 1 })
unfolding step
step_jz p a m s stand = rw stand.instr

-- a jump
pub step_jmp : (p : Program) (t : ℕ) (s : Spot) → Stand p s.pc (Jmp t) → step p (live s) ≡ live (record s { pc = t; clock = s.clock + 1 })
unfolding step
step_jmp p t s stand = rw stand.instr

-- the end of a program
pub step_halt : (p : Program) (s : Spot) → p.instr s.pc ≡ Some Halt → step p (live s) ≡ record (live s) { pc = s.pc + 1; clock = s.clock + 1; ending = Halted }
unfolding step
step_halt p s instr = rw instr

-- a look at the clock, marked or not
pub step_time : (p : Program) (a : ℕ) (s : Spot) → p.instr s.pc ≡ Some (Time a)
    → step p (live s) ≡ live (record s { pc = s.pc + 1; regs = put s.regs a (s.clock % 2 ^ 32); clock = s.clock + 1 })
unfolding step
step_time p a s instr = rw instr

-- an issue, marked or not
pub step_io : (p : Program) (a b m : ℕ) (s : Spot) → p.instr s.pc ≡ Some (Io a b m)
    → step p (live s) ≡ live (record s { pc = s.pc + 1; regs = put s.regs a (next_reading p.values m (live s)); issued = issued_after p.values s.issued (m % 256); clock = s.clock + 1 })
unfolding step
step_io p a b m s instr = rw instr

-- the start of a transfer, marked or not; its words follow as TransferLaws says, and with none the machine goes on
pub step_dma : (p : Program) (a b m : ℕ) (s : Spot) → p.instr s.pc ≡ Some (Dma a b m)
    → step p (live s) ≡ record (live s) { pc = s.pc + 1; engine = begun (s.regs a) (s.regs b) (s.regs m); clock = s.clock + 1 }
unfolding step
step_dma p a b m s instr = rw instr

-- no instruction at the counter
pub step_past : (p : Program) (s : Spot) → p.instr s.pc ≡ None → step p (live s) ≡ record (live s) { clock = s.clock + 1; ending = Trapped 17 }
unfolding step
step_past p s instr = rw instr

-- an instruction that traps ends the machine, and shows nothing
pub step_trap : (p : Program) (i : Instr) (code : ℕ) (s : Spot) → Stand p s.pc i → fault i (live s) ≡ Some code → (step p (live s)).ending ≡ Trapped code
unfolding step
step_trap p i code s stand e = rw (stand.instr, e)

pub seen_trap : (p : Program) (i : Instr) (code : ℕ) (s : Spot) → Stand p s.pc i → fault i (live s) ≡ Some code → seen p (live s) ≡ []
unfolding writes_next event_next
seen_trap p i code s stand e = rw (stand.instr, e)

-- an ended machine stays as it is
pub stays_halted : (p : Program) (n : ℕ) (s : State) → s.ending ≡ Halted → exec p n s ≡ s
unfolding exec step
stays_halted p zero s is = refl
stays_halted p (suc n) s is = ap (λ e. exec p n (step_at p e s)) is ∙ stays_halted p n s is

pub stays_trapped : (p : Program) (n code : ℕ) (s : State) → s.ending ≡ Trapped code → exec p n s ≡ s
unfolding exec step
stays_trapped p zero code s is = refl
stays_trapped p (suc n) code s is = ap (λ e. exec p n (step_at p e s)) is ∙ stays_trapped p n code s is

rising : (p : Program) (s : State) → s.ending ≡ Running → (step p s).clock ≡ s.clock + 1
unfolding step
rising p s is = rw is

-- a machine that still goes on has a clock that rose by one a step
pub clock_rises : (p : Program) (n : ℕ) (s : State) → (exec p n s).ending ≡ Running → (exec p n s).clock ≡ s.clock + n
unfolding exec
clock_rises p zero s on = omega arith
clock_rises p (suc n) s on = by s.ending refl (clock_rises p n (step p s) on)
  where
    by : (e : Ending) → s.ending ≡ e → (exec p n (step p s)).clock ≡ (step p s).clock + n → (exec p n (step p s)).clock ≡ s.clock + suc n
    by Running is rest = omega (arith, rest, rising p s is)
    by Halted is rest = let ended : (exec p n (step p s)).ending ≡ s.ending = ap (λ t. t.ending) (stays_halted p (suc n) s is) in cc
    by (Trapped code) is rest = let ended : (exec p n (step p s)).ending ≡ s.ending = ap (λ t. t.ending) (stays_trapped p (suc n) code s is) in cc

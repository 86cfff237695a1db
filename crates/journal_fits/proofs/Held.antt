-- A step of a machine leaves words where it found words.
use Rattle.std.specs.Prelude.{◌==◌, ◌-◌, ◌/◌, ◌%◌, ◌*◌, ◌^◌, nat_lt, bit_and, bit_or, bit_xor, if◌then◌else◌}
use Rattle.std.proofs.Common.{◌≡◌, ℕ, zero, suc, ◌+◌, ◌<◌, Bool, true, false, Option, Some, None, refl, lit<, arith}
use Rattle.std.proofs.Math.Nat.{div-le_self, mod-le}
use Rattle.std.proofs.lemmas.Bool.Decides.{nat_tests}
use Rattle.std.proofs.lemmas.Nat.{and_le_l, or_lt, xor_lt}
use Rattle.fram_ram.specs.Engine.{advanced, begun, idle, Transfer}
use Rattle.fram_ram.specs.Memories.{failed, has_word, is_fram, is_ram, put}
use Rattle.power_trace.specs.Short.{IsWord}
use Rattle.word_isa.specs.Instructions.{FitsFields}
use Rattle.word_isa.specs.declared.instr.Instr.{Instr}
use Rattle.word_isa.specs.declared.instr.Instr.TheVariants.{Halt, Ldi, Lui, Mov, Add, Sub, Mul, Div, Rem, And, Or, Xor, Shl, Shr, Eq, Ltu, Adi, Ld, St, Jmp, Jz, Io, Time, Dma, Trap}
use Rattle.word_machine.specs.Instructions.{act, address, fault, set}
use Rattle.word_machine.specs.Runs.{fail_behind, fail_behind_at}
use Rattle.word_machine.specs.State.{Program, State}
use Rattle.word_machine.specs.Step.{can_move, done, exec, fail, fail_at, fetched, moved, step, step_at, trap, worked}
use Rattle.word_machine.specs.declared.ending.Ending.{Ending}
use Rattle.word_machine.specs.declared.ending.Ending.TheVariants.{Running, Halted, Trapped}
use Rattle.devices.specs.declared.world.PowerRow.{PowerRow}
use Rattle.journal_fits.specs.Words.{FitsOr, HoldsWords, IsWordOr, ReadsWords}

-- ---- numbers

either_word : (b : Bool) (x y : ℕ) → IsWord x → IsWord y → IsWord (if b then x else y)
either_word true x y first second = first
either_word false x y first second = second

wrapped : (x : ℕ) → IsWord (x % 2 ^ 32)
wrapped x = omega arith

divided : (x y : ℕ) → IsWord x → IsWord (x / y)
divided x y h = omega (arith, div-le_self x y, h)

remains : (x y : ℕ) → IsWord x → IsWord (x % y)
remains x y h = omega (arith, mod-le x y, h)

upper : (m x : ℕ) → m < 65536 → IsWord (m * 65536 + x % 65536)
upper m x h = omega (arith, h)

bits_both : (x y : ℕ) → IsWord x → IsWord (bit_and x y)
bits_both x y h = omega (arith, and_le_l x y, h)

put_words : (store : ℕ → ℕ) (at word : ℕ) → ((k : ℕ) → IsWord (store k)) → IsWord word → (k : ℕ) → IsWord (put store at word k)
put_words store at word all fits k = either_word (at == k) word (store k) fits (all k)

-- ---- an instruction

set_holds : (a word : ℕ) (s : State) → HoldsWords s → IsWord word → HoldsWords (set a word s)
set_holds a word s h fits = record { regs = put_words s.regs a word h.regs fits; store = h.store; to = h.to; from = h.from; length = h.length; ending = h.ending }

-- the engine's fields
record EngineFits (t : Transfer) : Type 0 where
  to : IsWord t.to
  from : IsWord t.from
  length : IsWord (t.moved + t.left)

idle_fits : EngineFits idle
idle_fits = record { to = lit< tt; from = lit< tt; length = lit< tt }

begun_fits : (to from n : ℕ) → IsWord to → IsWord from → IsWord n → EngineFits (begun to from n)
begun_fits to from n a b c = by (n == 0)
  where
    by : (z : Bool) → EngineFits (if z then idle else record { to = to; from = from; moved = 0; left = n })
    by true = idle_fits
    by false = record { to = a; from = b; length = omega (arith, c) }

with_engine : (t : Transfer) (s : State) → HoldsWords s → EngineFits t → HoldsWords (record s { engine = t })
with_engine t s h fits = record { regs = h.regs; store = h.store; to = fits.to; from = fits.from; length = fits.length; ending = h.ending }

act_holds : (p : Program) (i : Instr) (s : State) → ReadsWords p → FitsFields i → HoldsWords s → HoldsWords (act p.values i s)
act_holds p Halt s reads fits h = record { regs = h.regs; store = h.store; to = h.to; from = h.from; length = h.length; ending = tt }
act_holds p (Ldi a m) s reads fits h = set_holds a m s h (omega (arith, fits.1))
act_holds p (Lui a m) s reads fits h = set_holds a (m * 65536 + s.regs a % 65536) s h (upper m (s.regs a) fits.1)
act_holds p (Mov a b) s reads fits h = set_holds a (s.regs b) s h (h.regs b)
act_holds p (Add a b) s reads fits h = set_holds a ((s.regs a + s.regs b) % 2 ^ 32) s h (wrapped _)
act_holds p (Sub a b) s reads fits h = set_holds a ((s.regs a + (2 ^ 32 - s.regs b)) % 2 ^ 32) s h (wrapped _)
act_holds p (Mul a b) s reads fits h = set_holds a (s.regs a * s.regs b % 2 ^ 32) s h (wrapped _)
act_holds p (Div a b) s reads fits h = set_holds a (s.regs a / s.regs b) s h (divided (s.regs a) (s.regs b) (h.regs a))
act_holds p (Rem a b) s reads fits h = set_holds a (s.regs a % s.regs b) s h (remains (s.regs a) (s.regs b) (h.regs a))
act_holds p (And a b) s reads fits h = set_holds a (bit_and (s.regs a) (s.regs b)) s h (bits_both (s.regs a) (s.regs b) (h.regs a))
act_holds p (Or a b) s reads fits h = set_holds a (bit_or (s.regs a) (s.regs b)) s h (or_lt 32 (s.regs a) (s.regs b) (h.regs a) (h.regs b))
act_holds p (Xor a b) s reads fits h = set_holds a (bit_xor (s.regs a) (s.regs b)) s h (xor_lt 32 (s.regs a) (s.regs b) (h.regs a) (h.regs b))
act_holds p (Shl a b) s reads fits h =
    set_holds a (if nat_lt (s.regs b) 32 then s.regs a * 2 ^ s.regs b % 2 ^ 32 else 0) s h (either_word (nat_lt (s.regs b) 32) (s.regs a * 2 ^ s.regs b % 2 ^ 32) 0 (wrapped _) (lit< tt))
act_holds p (Shr a b) s reads fits h =
    set_holds a (if nat_lt (s.regs b) 32 then s.regs a / 2 ^ s.regs b else 0) s h (either_word (nat_lt (s.regs b) 32) (s.regs a / 2 ^ s.regs b) 0 (divided (s.regs a) (2 ^ s.regs b) (h.regs a)) (lit< tt))
act_holds p (Eq a b) s reads fits h = set_holds a (if s.regs a == s.regs b then 1 else 0) s h (either_word (s.regs a == s.regs b) 1 0 (lit< tt) (lit< tt))
act_holds p (Ltu a b) s reads fits h = set_holds a (if nat_lt (s.regs a) (s.regs b) then 1 else 0) s h (either_word (nat_lt (s.regs a) (s.regs b)) 1 0 (lit< tt) (lit< tt))
act_holds p (Adi a m) s reads fits h = set_holds a ((s.regs a + m) % 2 ^ 32) s h (wrapped _)
act_holds p (Ld a b m) s reads fits h = set_holds a (s.store (address s b m)) s h (h.store (address s b m))
act_holds p (St a b m) s reads fits h =
    record { regs = h.regs; store = put_words s.store (address s b m) (s.regs a) h.store (h.regs a); to = h.to; from = h.from; length = h.length; ending = h.ending }
act_holds p (Jmp t) s reads fits h = record { regs = h.regs; store = h.store; to = h.to; from = h.from; length = h.length; ending = h.ending }
act_holds p (Jz a m) s reads fits h = record { regs = h.regs; store = h.store; to = h.to; from = h.from; length = h.length; ending = h.ending }
act_holds p (Io a b m) s reads fits h =
    record { regs = put_words s.regs a _ h.regs (reads.values (m % 256) (s.issued (m % 256) + 1)); store = h.store; to = h.to; from = h.from; length = h.length; ending = h.ending }
act_holds p (Time a) s reads fits h = set_holds a (s.clock % 2 ^ 32) s h (wrapped _)
act_holds p (Dma a b m) s reads fits h = with_engine (begun (s.regs a) (s.regs b) (s.regs m)) s h (begun_fits (s.regs a) (s.regs b) (s.regs m) (h.regs a) (h.regs b) (h.regs m))
act_holds p (Trap m) s reads fits h = h

-- ---- its trap

if_trapped : (b : Bool) (code : ℕ) → IsWord code → IsWordOr (if b then Some code else None)
if_trapped true code h = h
if_trapped false code h = tt

if_not : (b : Bool) (code : ℕ) → IsWord code → IsWordOr (if b then None else Some code)
if_not true code h = tt
if_not false code h = h

fault_word : (i : Instr) (s : State) → FitsFields i → IsWordOr (fault i s)
fault_word (Div a b) s fits = if_trapped (s.regs b == 0) 2 (lit< tt)
fault_word (Rem a b) s fits = if_trapped (s.regs b == 0) 2 (lit< tt)
fault_word (Ld a b m) s fits = if_not (has_word (address s b m)) 16 (lit< tt)
fault_word (St a b m) s fits = if_not (has_word (address s b m)) 16 (lit< tt)
fault_word (Trap m) s fits = omega (arith, fits)
fault_word _ s fits = tt

trap_holds : (code : ℕ) (s : State) → HoldsWords s → IsWord code → HoldsWords (trap code s)
trap_holds code s h fits = record { regs = h.regs; store = h.store; to = h.to; from = h.from; length = h.length; ending = fits }

-- ---- a step

at_next : (pc : ℕ) (s : State) → HoldsWords s → HoldsWords (record s { pc = pc })
at_next pc s h = record { regs = h.regs; store = h.store; to = h.to; from = h.from; length = h.length; ending = h.ending }

done_holds : (p : Program) (i : Instr) (f : Option ℕ) (s : State) → ReadsWords p → FitsFields i → IsWordOr f → HoldsWords s → HoldsWords (done p.values i f s)
done_holds p i None s reads fits code h = act_holds p i s reads fits h
done_holds p i (Some c) s reads fits code h = trap_holds c s h code

fetched_holds : (p : Program) (i : Option Instr) (s : State) → ReadsWords p → FitsOr i → HoldsWords s → HoldsWords (fetched p i s)
fetched_holds p None s reads fits h = trap_holds 17 s h (lit< tt)
fetched_holds p (Some i) s reads fits h = done_holds p i (fault i s) (record s { pc = s.pc + 1 }) reads fits (fault_word i s fits) (at_next (s.pc + 1) s h)

advanced_fits : (t : Transfer) → EngineFits t → (t.left == 0) ≡ false → EngineFits (advanced t)
advanced_fits t h some = by (t.left == 1)
  where
    by : (b : Bool) → EngineFits (if b then idle else record t { moved = t.moved + 1; left = t.left - 1 })
    by true = idle_fits
    by false = record { to = h.to; from = h.from; length = grind (arith, nat_tests, some, h.length) }

engine_of : (s : State) → HoldsWords s → EngineFits s.engine
engine_of s h = record { to = h.to; from = h.from; length = h.length }

moved_holds : (s : State) → HoldsWords s → (s.engine.left == 0) ≡ false → HoldsWords (moved s)
moved_holds s h some = by (can_move s)
  where
    by : (b : Bool) → HoldsWords (if b then record s { store = put s.store (s.engine.to + s.engine.moved) (s.store (s.engine.from + s.engine.moved)); engine = advanced s.engine } else record s { ending = Trapped 16; engine = idle })
    by true =
        let on = advanced_fits s.engine (engine_of s h) some in
        record { regs = h.regs; store = put_words s.store (s.engine.to + s.engine.moved) (s.store (s.engine.from + s.engine.moved)) h.store (h.store (s.engine.from + s.engine.moved)); to = on.to; from = on.from; length = on.length; ending = h.ending }
    by false = record { regs = h.regs; store = h.store; to = lit< tt; from = lit< tt; length = lit< tt; ending = lit< tt }

worked_holds : (p : Program) (s : State) → ReadsWords p → HoldsWords s → HoldsWords (worked p s)
worked_holds p s reads h = by (s.engine.left == 0) refl
  where
    by : (b : Bool) → (s.engine.left == 0) ≡ b → HoldsWords (if b then fetched p (p.instr s.pc) s else moved s)
    by true is = fetched_holds p (p.instr s.pc) s reads (reads.instrs s.pc) h
    by false is = moved_holds s h is

pub step_holds : (p : Program) (s : State) → ReadsWords p → HoldsWords s → HoldsWords (step p s)
unfolding step
step_holds p s reads h = by s.ending
  where
    by : (e : Ending) → HoldsWords (step_at p e s)
    by Running =
        let on = worked_holds p s reads h in
        record { regs = on.regs; store = on.store; to = on.to; from = on.from; length = on.length; ending = on.ending }
    by Halted = h
    by (Trapped code) = h

pub exec_holds : (p : Program) (n : ℕ) (s : State) → ReadsWords p → HoldsWords s → HoldsWords (exec p n s)
unfolding exec
exec_holds p zero s reads h = h
exec_holds p (suc n) s reads h = exec_holds p n (step p s) reads (step_holds p s reads h)

-- ---- a failure

failed_words : (store : ℕ → ℕ) (fill : ℕ) → ((k : ℕ) → IsWord (store k)) → IsWord fill → (k : ℕ) → IsWord (failed store fill k)
failed_words store fill all fits k = either_word (is_fram k) (store k) (if is_ram k then fill else 0) (all k) (either_word (is_ram k) fill 0 fits (lit< tt))

fail_holds : (fill : ℕ) (s : State) → IsWord fill → HoldsWords s → HoldsWords (fail fill s)
unfolding fail
fail_holds fill s fits h = by s.ending
  where
    by : (e : Ending) → HoldsWords (fail_at e fill s)
    by Running = record { regs = λ r. either_word (nat_lt r 16) fill 0 fits (lit< tt); store = failed_words s.store fill h.store fits; to = lit< tt; from = lit< tt; length = lit< tt; ending = h.ending }
    by Halted = h
    by (Trapped code) = h

pub failure_holds : (row : PowerRow) (s : State) → IsWord row.fill → HoldsWords s → HoldsWords (fail_behind row s)
failure_holds row s fits h = by s.ending
  where
    by : (e : Ending) → HoldsWords (fail_behind_at e row s)
    by Running =
        let on = fail_holds row.fill s fits h in
        record { regs = on.regs; store = on.store; to = on.to; from = on.from; length = on.length; ending = on.ending }
    by Halted = h
    by (Trapped code) = h

-- The time that a look shows is the clock before its step.
use Rattle.std.specs.Prelude.{◌^◌, ◌%◌, ◌==◌, nat_lt, nat_le, sum_by, if◌then◌else◌}
use Rattle.std.specs.List.{AllByRecursion}
use Rattle.std.proofs.Common.{◌≡◌, ◌∙◌, ℕ, zero, suc, ◌+◌, ◌-◌, ◌<◌, ◌≤◌, Bool, true, false, List, [], ◌∷◌, ◌++◌, map, Option, Some, None, refl, sym, ap, subst, arith}
use Rattle.std.proofs.lemmas.Bool.Decides.{nat_tests}
use Rattle.std.proofs.lemmas.List.Sums.{sum_by-cons}
use Rattle.devices.specs.Clock.{clock_at, off_ticks}
use Rattle.devices.specs.Journal.{JournalEvent, Boot, Place, placed, traps, looks}
use Rattle.devices.specs.declared.event.Event.{Event}
use Rattle.devices.specs.declared.event.Event.TheVariants as the
use Rattle.devices.specs.declared.world.PowerRow.{PowerRow}
use Rattle.devices.specs.declared.world.World.{World}
use Rattle.devices.specs.World.{IsWithinLimits, ticks_of}
use Rattle.task_attempts.specs.Sound.{IsTimed}
use Rattle.word_isa.specs.declared.instr.Instr.{Instr}
use Rattle.word_isa.specs.declared.instr.Instr.TheVariants.{Halt, Ldi, Lui, Mov, Add, Sub, Mul, Div, Rem, And, Or, Xor, Shl, Shr, Eq, Ltu, Adi, Ld, St, Jmp, Jz, Io, Time, Dma, Trap}
use Rattle.word_isa.specs.declared.mark.MarkKind.{MarkKind}
use Rattle.word_isa.specs.declared.mark.MarkKind.TheVariants as mark
use Rattle.word_machine.specs.Events.{copied_event, event, event_at, event_next, event_of, fetched_event, marked, moved_event, stepped_next, told, unless_fault}
use Rattle.word_machine.specs.Instructions.{fault}
use Rattle.word_machine.specs.RunLaws.{clock_rises, stays_halted, stays_trapped}
use Rattle.word_machine.specs.Runs.{boots, fail_behind, fail_behind_at, is_running, journal_event, numbered, told_event}
use Rattle.word_machine.specs.State.{Program, State}
use Rattle.word_machine.specs.Step.{can_move, exec, fail, step}
use Rattle.word_machine.specs.declared.cell.Sign.{Sign}
use Rattle.word_machine.specs.declared.ending.Ending.{Ending}
use Rattle.word_machine.specs.declared.ending.Ending.TheVariants.{Running, Halted, Trapped}

-- ---- the event of a step

-- a look has the clock's time
abbrev Fits : (clock : ℕ) → Option Event → Type 0
Fits clock None = Unit {0}
Fits clock (Some (the.Begin task)) = Unit {0}
Fits clock (Some (the.Look site time)) = time ≡ clock % 2 ^ 32
Fits clock (Some (the.Kept site value)) = Unit {0}
Fits clock (Some (the.Dropped site)) = Unit {0}
Fits clock (Some (the.Issued site q args reading)) = Unit {0}
Fits clock (Some (the.Sealed site)) = Unit {0}
Fits clock (Some (the.Copied site from to words)) = Unit {0}
Fits clock (Some (the.Commit next)) = Unit {0}

marks_fit : (clock : ℕ) (m : Option Sign) (word : ℕ) → Fits clock (marked m word)
marks_fit clock None word = tt
marks_fit clock (Some m) word = by m.kind
  where
    by : (k : MarkKind) → Fits clock (event_of k m.site word)
    by mark.Begin = tt
    by mark.Look = tt
    by mark.Kept = tt
    by mark.Drop = tt
    by mark.Issue = tt
    by mark.Seal = tt
    by mark.Copy = tt
    by mark.Commit = tt

copies_fit : (clock : ℕ) (b : Bool) (site from to words : ℕ) → Fits clock (if b then Some (the.Copied site from to words) else None)
copies_fit clock true site from to words = tt
copies_fit clock false site from to words = tt

instruction_fits : (values : ℕ → List ℕ) (m : Option Sign) (i : Instr) (s : State) → Fits s.clock (event values m i s)
instruction_fits values m Halt s = marks_fit s.clock m 0
instruction_fits values m (Ldi a n) s = marks_fit s.clock m 0
instruction_fits values m (Lui a n) s = marks_fit s.clock m 0
instruction_fits values m (Mov a b) s = marks_fit s.clock m (s.regs b)
instruction_fits values m (Add a b) s = marks_fit s.clock m 0
instruction_fits values m (Sub a b) s = marks_fit s.clock m 0
instruction_fits values m (Mul a b) s = marks_fit s.clock m 0
instruction_fits values m (Div a b) s = marks_fit s.clock m 0
instruction_fits values m (Rem a b) s = marks_fit s.clock m 0
instruction_fits values m (And a b) s = marks_fit s.clock m 0
instruction_fits values m (Or a b) s = marks_fit s.clock m 0
instruction_fits values m (Xor a b) s = marks_fit s.clock m 0
instruction_fits values m (Shl a b) s = marks_fit s.clock m 0
instruction_fits values m (Shr a b) s = marks_fit s.clock m 0
instruction_fits values m (Eq a b) s = marks_fit s.clock m 0
instruction_fits values m (Ltu a b) s = marks_fit s.clock m 0
instruction_fits values m (Adi a n) s = marks_fit s.clock m 0
instruction_fits values m (Ld a b n) s = marks_fit s.clock m 0
instruction_fits values m (St a b n) s = marks_fit s.clock m 0
instruction_fits values m (Jmp t) s = marks_fit s.clock m 0
instruction_fits values m (Jz a n) s = marks_fit s.clock m 0
instruction_fits values m (Io a b n) s = tt
instruction_fits values m (Time a) s = refl
instruction_fits values m (Dma a b n) s = copies_fit s.clock (s.regs n == 0) _ (s.regs b) (s.regs a) 0
instruction_fits values m (Trap n) s = marks_fit s.clock m 0

unless_fits : (clock : ℕ) (f : Option ℕ) (e : Option Event) → Fits clock e → Fits clock (unless_fault f e)
unless_fits clock None e h = h
unless_fits clock (Some code) e h = tt

fetched_fits : (p : Program) (i : Option Instr) (s : State) → Fits s.clock (fetched_event p i s)
fetched_fits p None s = tt
fetched_fits p (Some i) s = unless_fits s.clock (fault i s) (event p.values (p.mark s.pc) i s) (instruction_fits p.values (p.mark s.pc) i s)

moved_fits : (p : Program) (s : State) → Fits s.clock (moved_event p s)
moved_fits p s = by (can_move s)
  where
    by : (b : Bool) → Fits s.clock (if b then copied_event p s else None)
    by true = copies_fit s.clock (s.engine.left == 1) _ _ _ _
    by false = tt

event_fits : (p : Program) (s : State) → Fits s.clock (event_next p s)
unfolding event_next
event_fits p s = by s.ending
  where
    at_work : (b : Bool) → Fits s.clock (if b then fetched_event p (p.instr s.pc) s else moved_event p s)
    at_work true = fetched_fits p (p.instr s.pc) s
    at_work false = moved_fits p s

    by : (e : Ending) → Fits s.clock (event_at p e s)
    by Running = at_work (s.engine.left == 0)
    by Halted = tt
    by (Trapped code) = tt

-- ---- the journal's events

-- a step's event in the journal has its time, where that is what the clock shows
placed_timed : (world : World) (place_of : ℕ → Place) (number clock : ℕ) → clock % 2 ^ 32 ≡ clock_at world.power number → (e : Event) → Fits clock (Some e) → IsTimed world number (placed place_of e)
placed_timed world place_of number clock is (the.Begin task) h = tt
placed_timed world place_of number clock is (the.Look site time) h = h ∙ is
placed_timed world place_of number clock is (the.Kept site value) h = tt
placed_timed world place_of number clock is (the.Dropped site) h = tt
placed_timed world place_of number clock is (the.Issued site q args reading) h = tt
placed_timed world place_of number clock is (the.Sealed site) h = tt
placed_timed world place_of number clock is (the.Copied site from to words) h = tt
placed_timed world place_of number clock is (the.Commit next) h = tt

told_timed : (world : World) (place_of : ℕ → Place) (number clock : ℕ) → clock % 2 ^ 32 ≡ clock_at world.power number → (ending : Ending) (e : Option Event) → Fits clock e
    → AllByRecursion (IsTimed world number) (told_event place_of (told ending e))
told_timed world place_of number clock is Running None h = tt
told_timed world place_of number clock is Running (Some e) h = (placed_timed world place_of number clock is e h, tt)
told_timed world place_of number clock is Halted e h = tt
told_timed world place_of number clock is (Trapped code) e h = (tt, tt)

-- the events of a step that comes behind so many of a boot
step_timed : (world : World) (place_of : ℕ → Place) (p : Program) (number : ℕ) (s : State) → (s.ending ≡ Running → s.clock % 2 ^ 32 ≡ clock_at world.power number) → AllByRecursion (IsTimed world number) (journal_event place_of p s)
unfolding stepped_next
step_timed world place_of p number s clocked = by s.ending refl
  where
    by : (e : Ending) → s.ending ≡ e → AllByRecursion (IsTimed world number) (if is_running e then told_event place_of (stepped_next p s) else [])
    by Running is = told_timed world place_of number s.clock (clocked is) (step p s).ending (event_next p s) (event_fits p s)
    by Halted is = tt
    by (Trapped code) is = tt

all_behind : {A : Type 0} (P : A → Type 0) (xs ys : List A) → AllByRecursion P xs → AllByRecursion P ys → AllByRecursion P (xs ++ ys)
all_behind P [] ys a b = b
all_behind P (x ∷ xs) ys a b = (a.0, all_behind P xs ys a.1 b)

all_numbered : (world : World) (number : ℕ) (es : List JournalEvent) → AllByRecursion (IsTimed world number) es → AllByRecursion (λ (e : ℕ × JournalEvent). IsTimed world e.0 e.1) (map (λ e. (number, e)) es)
all_numbered world number [] h = tt
all_numbered world number (e ∷ es) h = (h.0, all_numbered world number es h.1)

boot_timed : (world : World) (place_of : ℕ → Place) (p : Program) (before n : ℕ) (s : State) → ((j : ℕ) → j < n → (exec p j s).ending ≡ Running → (exec p j s).clock % 2 ^ 32 ≡ clock_at world.power (suc (before + j)))
    → AllByRecursion (λ (e : ℕ × JournalEvent). IsTimed world e.0 e.1) (numbered place_of p before n s)
unfolding numbered exec
boot_timed world place_of p before zero s clocked = tt
boot_timed world place_of p before (suc n) s clocked =
    let none : before + 0 ≡ before = omega arith in
    all_behind (λ (e : ℕ × JournalEvent). IsTimed world e.0 e.1) (map (λ e. (suc before, e)) (journal_event place_of p s)) (numbered place_of p (suc before) n (step p s))
    (all_numbered world (suc before) (journal_event place_of p s) (step_timed world place_of p (suc before) s (λ on. clocked 0 (omega arith) on ∙ ap (λ b. clock_at world.power (suc b)) none)))
    (boot_timed world place_of p (suc before) n (step p s) (λ j less on. let next : suc before + j ≡ before + suc j = omega arith in
    sym (ap (λ b. clock_at world.power (suc b)) next ∙ sym (clocked (suc j) (omega (arith, less)) on))))

-- ---- all boots

-- behind so many steps the clock counts those and the time without power so far; what is left of both fits a word
record Clocks (world : World) (before : ℕ) (rows : List PowerRow) (s : State) : Type 0 where
  off : ℕ
  behind : (k : ℕ) → off_ticks world.power (before + k) ≡ off + off_ticks rows k
  clock : s.ending ≡ Running → s.clock ≡ before + off
  few : before + off + ticks_of rows < 2 ^ 32

within_row : (row : PowerRow) (rows : List PowerRow) (k : ℕ) → k < row.on → off_ticks (row ∷ rows) k ≡ 0
within_row row [] k less = refl
within_row row (next ∷ rows) k less = by (nat_le row.on k) refl
  where
    by : (b : Bool) → nat_le row.on k ≡ b → (if b then row.off + off_ticks (next ∷ rows) (k - row.on) else 0) ≡ 0
    by true is = absurd (grind (arith, nat_tests, less, is))
    by false is = refl

behind_row : (row next : PowerRow) (rows : List PowerRow) (k : ℕ) → off_ticks (row ∷ next ∷ rows) (row.on + k) ≡ row.off + off_ticks (next ∷ rows) k
behind_row row next rows k = by (nat_le row.on (row.on + k)) refl
  where
    by : (b : Bool) → nat_le row.on (row.on + k) ≡ b → (if b then row.off + off_ticks (next ∷ rows) (row.on + k - row.on) else 0) ≡ row.off + off_ticks (next ∷ rows) k
    by true is = let left : row.on + k - row.on ≡ k = omega arith in ap (λ j. row.off + off_ticks (next ∷ rows) j) left
    by false is = absurd (grind (arith, nat_tests, is))

fails_on : (row : PowerRow) (s : State) → s.ending ≡ Running → (fail_behind row s).clock ≡ s.clock + row.off
unfolding fail
fails_on row s is = ap (λ e. (fail_behind_at e row s).clock) is

ticks_more : (row : PowerRow) (rows : List PowerRow) → ticks_of (row ∷ rows) ≡ row.on + row.off + ticks_of rows
ticks_more row rows = omega (arith, sum_by-cons (λ (r : PowerRow). r.on + r.off) row rows)

unless_over : (world : World) (b : Bool) (bs : List Boot) → (b ≡ true → AllByRecursion (λ (boot : Boot). AllByRecursion (λ (e : ℕ × JournalEvent). IsTimed world e.0 e.1) boot.events) bs)
    → AllByRecursion (λ (boot : Boot). AllByRecursion (λ (e : ℕ × JournalEvent). IsTimed world e.0 e.1) boot.events) (if b then bs else [])
unless_over world true bs h = h refl
unless_over world false bs h = tt

goes_on : (e : Ending) → is_running e ≡ true → e ≡ Running
goes_on Running is = refl
goes_on Halted is = absurd (cc is)
goes_on (Trapped code) is = absurd (cc is)

-- a machine that goes on went on before
went_on : (p : Program) (j : ℕ) (s : State) → (exec p j s).ending ≡ Running → s.ending ≡ Running
went_on p j s on = by s.ending refl
  where
    by : (e : Ending) → s.ending ≡ e → e ≡ Running
    by Running is = refl
    by Halted is = let ended : (exec p j s).ending ≡ s.ending = ap (λ t. t.ending) (stays_halted p j s is) in cc
    by (Trapped code) is = let ended : (exec p j s).ending ≡ s.ending = ap (λ t. t.ending) (stays_trapped p j code s is) in cc

-- in the first boot
clocked : (world : World) (p : Program) (row : PowerRow) (rows : List PowerRow) (before : ℕ) (s : State) → Clocks world before (row ∷ rows) s → (j : ℕ) → j < row.on → (exec p j s).ending ≡ Running
    → (exec p j s).clock % 2 ^ 32 ≡ clock_at world.power (suc (before + j))
clocked world p row rows before s h j less on =
    let now : (exec p j s).clock ≡ before + h.off + j = clock_rises p j s on ∙ ap (λ c. c + j) (h.clock (went_on p j s on)) in
    let fits : (exec p j s).clock < 2 ^ 32 = omega (arith, now, less, ticks_more row rows, h.few) in
    let off : off_ticks world.power (before + j) ≡ h.off = omega (arith, h.behind j, within_row row rows j less) in
    let one : suc (before + j) - 1 ≡ before + j = omega arith in
    let shows : clock_at world.power (suc (before + j)) ≡ before + j + off_ticks world.power (before + j) = ap (λ k. k + off_ticks world.power k) one in
    omega (arith, now, fits, off, shows)

-- and behind its failure
clocks_behind : (world : World) (p : Program) (row next : PowerRow) (rows : List PowerRow) (before : ℕ) (s : State) → Clocks world before (row ∷ next ∷ rows) s → (exec p row.on s).ending ≡ Running
    → Clocks world (before + row.on) (next ∷ rows) (fail_behind row (exec p row.on s))
clocks_behind world p row next rows before s h on = record {
  off = h.off + row.off;
  behind = λ k.
      let sum_is : before + row.on + k ≡ before + (row.on + k) = omega arith in
      let there : off_ticks world.power (before + row.on + k) ≡ h.off + off_ticks (row ∷ next ∷ rows) (row.on + k) = ap (off_ticks world.power) sum_is ∙ h.behind (row.on + k) in
      omega (arith, there, behind_row row next rows k);
  clock = λ again.
      let now : (exec p row.on s).clock ≡ before + h.off + row.on = clock_rises p row.on s on ∙ ap (λ c. c + row.on) (h.clock (went_on p row.on s on)) in
      omega (arith, now, fails_on row (exec p row.on s) on);
  few = omega (arith, ticks_more row (next ∷ rows), h.few);
}

all_timed : (world : World) (place_of : ℕ → Place) (p : Program) (rows : List PowerRow) (before : ℕ) (s : State) → Clocks world before rows s
    → AllByRecursion (λ (boot : Boot). AllByRecursion (λ (e : ℕ × JournalEvent). IsTimed world e.0 e.1) boot.events) (boots place_of p rows before s)
unfolding boots
all_timed world place_of p [] before s h = tt
all_timed world place_of p (row ∷ []) before s h = (
  boot_timed world place_of p before row.on s (clocked world p row [] before s h),
  unless_over world (is_running (exec p row.on s).ending) [] (λ on. tt),
)
all_timed world place_of p (row ∷ next ∷ rows) before s h = (
  boot_timed world place_of p before row.on s (clocked world p row (next ∷ rows) before s h),
  unless_over world (is_running (exec p row.on s).ending) (boots place_of p (next ∷ rows) (before + row.on) (fail_behind row (exec p row.on s)))
      (λ on. all_timed world place_of p (next ∷ rows) (before + row.on) (fail_behind row (exec p row.on s)) (clocks_behind world p row next rows before s h (goes_on (exec p row.on s).ending on))),
)

pub looks_timed : (p : Program) (place_of : ℕ → Place) (world : World) (s : State) → IsWithinLimits world → s.clock ≡ 0
    → AllByRecursion (λ (boot : Boot). AllByRecursion (λ (e : ℕ × JournalEvent). IsTimed world e.0 e.1) boot.events) (boots place_of p world.power 0 s)
looks_timed p place_of world s limits zero_is = all_timed world place_of p world.power 0 s (record {
  off = 0;
  behind = λ k. let none : 0 + k ≡ k = omega arith in omega (arith, ap (off_ticks world.power) none);
  clock = λ on. omega (arith, zero_is);
  few = omega (arith, limits.ticks);
})

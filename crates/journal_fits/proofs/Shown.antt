-- The numbers of a step's event are words, where the machine holds words.
use Rattle.std.specs.Prelude.{◌==◌, ◌-◌, ◌/◌, ◌%◌, ◌^◌, nat_lt, if◌then◌else◌}
use Rattle.std.proofs.Common.{ℕ, zero, suc, ◌+◌, ◌<◌, ◌≤◌, Bool, true, false, All, [], ◌∷◌, length, take, get_or, Option, Some, None, sym, subst, lit<, arith}
use Rattle.std.proofs.lemmas.List.{get_or-take, length-take}
use Rattle.devices.specs.Journal.{Place, arguments_of, placed}
use Rattle.devices.specs.declared.event.Args.{Args}
use Rattle.devices.specs.declared.event.Event.{Event}
use Rattle.devices.specs.declared.event.Event.TheVariants as the
use Rattle.fram_ram.specs.Engine.{length_of}
use Rattle.power_trace.specs.Report.{Style}
use Rattle.power_trace.specs.Short.{HasWords, IsWord, IsWordPlace}
use Rattle.report_text.specs.Written.{AreThere, IsThere}
use Rattle.word_isa.specs.declared.instr.Instr.{Instr}
use Rattle.word_isa.specs.declared.instr.Instr.TheVariants.{Halt, Ldi, Lui, Mov, Add, Sub, Mul, Div, Rem, And, Or, Xor, Shl, Shr, Eq, Ltu, Adi, Ld, St, Jmp, Jz, Io, Time, Dma, Trap}
use Rattle.word_isa.specs.declared.mark.MarkKind.{MarkKind}
use Rattle.word_isa.specs.declared.mark.MarkKind.TheVariants as mark
use Rattle.word_machine.specs.Events.{args_of, argument, copied_event, event, event_at, event_next, event_of, fetched_event, marked, moved_event, site_of, unless_fault}
use Rattle.word_machine.specs.Instructions.{fault}
use Rattle.word_machine.specs.State.{Program, State}
use Rattle.word_machine.specs.Step.{can_move}
use Rattle.word_machine.specs.declared.cell.Sign.{Sign}
use Rattle.word_machine.specs.declared.ending.Ending.{Ending}
use Rattle.word_machine.specs.declared.ending.Ending.TheVariants.{Running, Halted, Trapped}
use Rattle.journal_fits.specs.Words.{AreWordArgs, HoldsWords, ReadsWords, ShowsWords, ShowsWordsOr, SignsWord}

-- ---- what a step shows

wrapped : (x : ℕ) → IsWord (x % 2 ^ 32)
wrapped x = omega arith

short_number : (x : ℕ) → IsWord (x % 256)
short_number x = omega arith

site_word : (m : Option Sign) → SignsWord m → IsWord (site_of m)
site_word None fits = lit< tt
site_word (Some m) fits = fits

marked_words : (m : Option Sign) (word : ℕ) → SignsWord m → IsWord word → ShowsWordsOr (marked m word)
marked_words None word fits fits_word = tt
marked_words (Some m) word fits fits_word = by m.kind
  where
    by : (k : MarkKind) → ShowsWordsOr (event_of k m.site word)
    by mark.Begin = fits
    by mark.Look = tt
    by mark.Kept = (fits, fits_word)
    by mark.Drop = fits
    by mark.Issue = tt
    by mark.Seal = fits
    by mark.Copy = tt
    by mark.Commit = fits

argument_word : (n from k : ℕ) (s : State) → HoldsWords s → IsWord (argument n from k s.regs)
argument_word n from k s h = by (nat_lt k n)
  where
    by : (b : Bool) → IsWord (if b then s.regs (from + k) else 0)
    by true = h.regs (from + k)
    by false = lit< tt

args_hold : (n from : ℕ) (s : State) → HoldsWords s → AreWordArgs (args_of n from s.regs)
args_hold n from s h = record { first = argument_word n from 0 s h; second = argument_word n from 1 s h; third = argument_word n from 2 s h; fourth = argument_word n from 3 s h }

copied_words : (b : Bool) (site from to words : ℕ) → IsWord site → IsWord from → IsWord to → IsWord words → ShowsWordsOr (if b then Some (the.Copied site from to words) else None)
copied_words true site from to words a b c d = (a, b, c, d)
copied_words false site from to words a b c d = tt

instruction_shows : (p : Program) (m : Option Sign) (i : Instr) (s : State) → ReadsWords p → SignsWord m → HoldsWords s → ShowsWordsOr (event p.values m i s)
instruction_shows p m (Mov a b) s reads fits h = marked_words m (s.regs b) fits (h.regs b)
instruction_shows p m (Io a b n) s reads fits h = (site_word m fits, short_number n, args_hold (n / 256) b s h, reads.values (n % 256) (s.issued (n % 256) + 1))
instruction_shows p m (Time a) s reads fits h = (site_word m fits, wrapped s.clock)
instruction_shows p m (Dma a b n) s reads fits h = copied_words (s.regs n == 0) (site_of m) (s.regs b) (s.regs a) 0 (site_word m fits) (h.regs b) (h.regs a) (lit< tt)
instruction_shows p m Halt s reads fits h = marked_words m 0 fits (lit< tt)
instruction_shows p m (Ldi a n) s reads fits h = marked_words m 0 fits (lit< tt)
instruction_shows p m (Lui a n) s reads fits h = marked_words m 0 fits (lit< tt)
instruction_shows p m (Add a b) s reads fits h = marked_words m 0 fits (lit< tt)
instruction_shows p m (Sub a b) s reads fits h = marked_words m 0 fits (lit< tt)
instruction_shows p m (Mul a b) s reads fits h = marked_words m 0 fits (lit< tt)
instruction_shows p m (Div a b) s reads fits h = marked_words m 0 fits (lit< tt)
instruction_shows p m (Rem a b) s reads fits h = marked_words m 0 fits (lit< tt)
instruction_shows p m (And a b) s reads fits h = marked_words m 0 fits (lit< tt)
instruction_shows p m (Or a b) s reads fits h = marked_words m 0 fits (lit< tt)
instruction_shows p m (Xor a b) s reads fits h = marked_words m 0 fits (lit< tt)
instruction_shows p m (Shl a b) s reads fits h = marked_words m 0 fits (lit< tt)
instruction_shows p m (Shr a b) s reads fits h = marked_words m 0 fits (lit< tt)
instruction_shows p m (Eq a b) s reads fits h = marked_words m 0 fits (lit< tt)
instruction_shows p m (Ltu a b) s reads fits h = marked_words m 0 fits (lit< tt)
instruction_shows p m (Adi a n) s reads fits h = marked_words m 0 fits (lit< tt)
instruction_shows p m (Ld a b n) s reads fits h = marked_words m 0 fits (lit< tt)
instruction_shows p m (St a b n) s reads fits h = marked_words m 0 fits (lit< tt)
instruction_shows p m (Jmp t) s reads fits h = marked_words m 0 fits (lit< tt)
instruction_shows p m (Jz a n) s reads fits h = marked_words m 0 fits (lit< tt)
instruction_shows p m (Trap n) s reads fits h = marked_words m 0 fits (lit< tt)

unless_shows : (f : Option ℕ) (e : Option Event) → ShowsWordsOr e → ShowsWordsOr (unless_fault f e)
unless_shows None e h = h
unless_shows (Some code) e h = tt

fetched_shows : (p : Program) (i : Option Instr) (s : State) → ReadsWords p → HoldsWords s → ShowsWordsOr (fetched_event p i s)
fetched_shows p None s reads h = tt
fetched_shows p (Some i) s reads h = unless_shows (fault i s) (event p.values (p.mark s.pc) i s) (instruction_shows p (p.mark s.pc) i s reads (reads.signs s.pc) h)

moved_shows : (p : Program) (s : State) → ReadsWords p → HoldsWords s → ShowsWordsOr (moved_event p s)
moved_shows p s reads h = by (can_move s)
  where
    by : (b : Bool) → ShowsWordsOr (if b then copied_event p s else None)
    by true = copied_words (s.engine.left == 1) (site_of (p.mark (s.pc - 1))) s.engine.from s.engine.to (length_of s.engine) (site_word (p.mark (s.pc - 1)) (reads.signs (s.pc - 1))) h.from h.to h.length
    by false = tt

pub event_shows : (p : Program) (s : State) → ReadsWords p → HoldsWords s → ShowsWordsOr (event_next p s)
unfolding event_next
event_shows p s reads h = by s.ending
  where
    at_work : (b : Bool) → ShowsWordsOr (if b then fetched_event p (p.instr s.pc) s else moved_event p s)
    at_work true = fetched_shows p (p.instr s.pc) s reads h
    at_work false = moved_shows p s reads h

    by : (e : Ending) → ShowsWordsOr (event_at p e s)
    by Running = at_work (s.engine.left == 0)
    by Halted = tt
    by (Trapped code) = tt

-- ---- as the journal has it

four_words : (count a b c d : ℕ) → IsWord a → IsWord b → IsWord c → IsWord d → All IsWord (take count (a ∷ b ∷ c ∷ d ∷ []))
four_words count a b c d first second third fourth k e within =
    let few : length (take count (a ∷ b ∷ c ∷ d ∷ [])) ≤ 4 = omega (arith, length-take count (a ∷ b ∷ c ∷ d ∷ [])) in
    let inside : k < count = omega (arith, length-take count (a ∷ b ∷ c ∷ d ∷ []), within) in
    subst IsWord (sym (get_or-take count (a ∷ b ∷ c ∷ d ∷ []) k e inside)) (all k (omega (arith, within, few)))
  where
    all : (k : ℕ) → k < 4 → IsWord (get_or (a ∷ b ∷ c ∷ d ∷ []) k e)
    all zero h = first
    all (suc zero) h = second
    all (suc (suc zero)) h = third
    all (suc (suc (suc zero))) h = fourth
    all (suc (suc (suc (suc k)))) h = absurd (omega arith)

args_few : (args : Args) → length (arguments_of args) ≤ 4
args_few args = omega (arith, length-take args.count (args.a0 ∷ args.a1 ∷ args.a2 ∷ args.a3 ∷ []))

-- places whose numbers are words, and whose symbols are there
abbrev pub AreGoodPlaces : Style → (ℕ → Place) → Type 0
AreGoodPlaces style place_of = (at : ℕ) → IsWord at → IsWordPlace (place_of at) × IsThere style (place_of at)

pub placed_words : (style : Style) (place_of : ℕ → Place) (e : Event) → AreGoodPlaces style place_of → ShowsWords e → HasWords (placed place_of e) × AreThere style (placed place_of e)
placed_words style place_of (the.Begin task) places h = (h, tt)
placed_words style place_of (the.Look site time) places h = (h, tt)
placed_words style place_of (the.Kept site value) places h = (h, tt)
placed_words style place_of (the.Dropped site) places h = (h, tt)
placed_words style place_of (the.Issued site q args reading) places h =
    ((h.0, h.1, args_few args, four_words args.count args.a0 args.a1 args.a2 args.a3 h.2.first h.2.second h.2.third h.2.fourth, h.3), tt)
placed_words style place_of (the.Sealed site) places h = (h, tt)
placed_words style place_of (the.Copied site from to words) places h = ((h.0, (places from h.1).0, (places to h.2).0, h.3), ((places from h.1).1, (places to h.2).1))
placed_words style place_of (the.Commit next) places h = (h, tt)

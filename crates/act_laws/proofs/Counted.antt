-- The counts of issues after some steps are those before them with the issues that were seen.
use Rattle.std.specs.Prelude.{◌==◌, ◌-◌, if◌then◌else◌}
use Rattle.std.proofs.Common.{◌≡◌, ◌∙◌, ℕ, zero, suc, ◌+◌, ◌%◌, Bool, true, false, List, [], ◌∷◌, ◌++◌, Option, Some, None, refl, sym, ap}
use Rattle.devices.specs.declared.event.Event.{Event}
use Rattle.devices.specs.declared.event.Event.TheVariants as the
use Rattle.devices.specs.Readings.{issued_after}
use Rattle.fram_ram.specs.Memories.{has_word, is_fram}
use Rattle.fram_ram.specs.Engine.{idle, length_of, next_source, next_destination, advanced, moved_word}
use Rattle.word_isa.specs.declared.instr.Instr.{Instr}
use Rattle.word_isa.specs.declared.instr.Instr.TheVariants.{St, Mov, Io, Time, Dma}
use Rattle.word_isa.specs.declared.mark.MarkKind.{MarkKind}
use Rattle.word_isa.specs.declared.mark.MarkKind.TheVariants as mark
use Rattle.word_machine.specs.declared.cell.Sign.{Sign}
use Rattle.word_machine.specs.declared.ending.Ending.{Ending}
use Rattle.word_machine.specs.declared.ending.Ending.TheVariants.{Running, Halted, Trapped}
use Rattle.word_machine.specs.Events.{site_of, event_of, marked, event, unless_fault, fetched_event, copied_event, moved_event, worked_event, event_at, event_next}
use Rattle.word_machine.specs.Instructions.{address, fault, act}
use Rattle.word_machine.specs.State.{Program, State}
use Rattle.word_machine.specs.Step.{done, fetched, can_move, moved, worked, step, step_at, exec}
use Rattle.word_machine.specs.Traces.{Atom, wrote, showed, noted, writes, shows, unless_trap, fetched_writes, moved_writes, writes_at, writes_next, seen, trace}

-- each issue that was seen counts one of its peripheral
abbrev pub counted_event : Program → Event → (ℕ → ℕ) → ℕ → ℕ
counted_event p (the.Begin t) counts = counts
counted_event p (the.Look k t) counts = counts
counted_event p (the.Kept k w) counts = counts
counted_event p (the.Dropped k) counts = counts
counted_event p (the.Issued k q args r) counts = issued_after p.values counts q
counted_event p (the.Sealed k) counts = counts
counted_event p (the.Copied k from to n) counts = counts
counted_event p (the.Commit t) counts = counts

abbrev pub counted : Program → List Atom → (ℕ → ℕ) → ℕ → ℕ
counted p [] counts = counts
counted p (wrote at word ∷ atoms) counts = counted p atoms counts
counted p (showed e ∷ atoms) counts = counted p atoms (counted_event p e counts)

counted_more : (p : Program) (a b : List Atom) (f : ℕ → ℕ) → counted p (a ++ b) f ≡ counted p b (counted p a f)
counted_more p [] b f = refl
counted_more p (wrote at word ∷ a) b f = counted_more p a b f
counted_more p (showed e ∷ a) b f = counted_more p a b (counted_event p e f)

-- writes, and events but an issue, count nothing
noted_counts : (p : Program) (b : Bool) (at word : ℕ) (f : ℕ → ℕ) → counted p (if b then wrote at word ∷ [] else []) f ≡ f
noted_counts p true at word f = refl
noted_counts p false at word f = refl

writes_count : (p : Program) (i : Instr) (s : State) (f : ℕ → ℕ) → counted p (writes i s) f ≡ f
writes_count p (St a b m) s f = noted_counts p (is_fram (address s b m)) (address s b m) (s.regs a) f
writes_count p _ s f = refl

kind_counts : (p : Program) (kind : MarkKind) (site word : ℕ) (f : ℕ → ℕ) → counted p (shows (event_of kind site word)) f ≡ f
kind_counts p mark.Begin site word f = refl
kind_counts p mark.Look site word f = refl
kind_counts p mark.Kept site word f = refl
kind_counts p mark.Drop site word f = refl
kind_counts p mark.Issue site word f = refl
kind_counts p mark.Seal site word f = refl
kind_counts p mark.Copy site word f = refl
kind_counts p mark.Commit site word f = refl

marked_counts : (p : Program) (m : Option Sign) (word : ℕ) (f : ℕ → ℕ) → f ≡ counted p (shows (marked m word)) f
marked_counts p None word f = refl
marked_counts p (Some m) word f = sym (kind_counts p m.kind m.site word f)

act_counts : (p : Program) (m : Option Sign) (i : Instr) (s : State) → (act p.values i (record s { pc = s.pc + 1 })).issued ≡ counted p (shows (event p.values m i s)) s.issued
act_counts p m (Time a) s = refl
act_counts p m (Io a b n) s = refl
act_counts p m (Dma a b n) s = by (s.regs n == 0)
  where
    by : (e : Bool) → s.issued ≡ counted p (shows (if e then Some (the.Copied (site_of m) (s.regs b) (s.regs a) 0) else None)) s.issued
    by true = refl
    by false = refl
act_counts p m (Mov a b) s = marked_counts p m (s.regs b) s.issued
act_counts p m _ s = marked_counts p m 0 s.issued

fetched_counts : (p : Program) (i : Option Instr) (s : State) → (fetched p i s).issued ≡ counted p (fetched_writes i s ++ shows (fetched_event p i s)) s.issued
fetched_counts p None s = refl
fetched_counts p (Some i) s = by (fault i s)
  where
    by : (f : Option ℕ) → (done p.values i f (record s { pc = s.pc + 1 })).issued ≡ counted p (unless_trap f (writes i s) ++ shows (unless_fault f (event p.values (p.mark s.pc) i s))) s.issued
    by None = act_counts p (p.mark s.pc) i s ∙ sym (counted_more p (writes i s) (shows (event p.values (p.mark s.pc) i s)) s.issued ∙ ap (counted p (shows (event p.values (p.mark s.pc) i s))) (writes_count p i s s.issued))
    by (Some code) = refl

copy_counts : (p : Program) (b : Bool) (k from to n : ℕ) (f : ℕ → ℕ) → counted p (shows (if b then Some (the.Copied k from to n) else None)) f ≡ f
copy_counts p true k from to n f = refl
copy_counts p false k from to n f = refl

moved_counts : (p : Program) (s : State) → (moved s).issued ≡ counted p (moved_writes s ++ shows (moved_event p s)) s.issued
moved_counts p s = by (can_move s)
  where
    by : (b : Bool) → (if b then record s { store = moved_word s.engine s.store; engine = advanced s.engine } else record s { ending = Trapped 16; engine = idle }).issued
        ≡ counted p ((if b then noted (next_destination s.engine) (s.store (next_source s.engine)) else []) ++ shows (if b then copied_event p s else None)) s.issued
    by true =
        let word : List Atom = noted (next_destination s.engine) (s.store (next_source s.engine)) in
        sym (counted_more p word (shows (copied_event p s)) s.issued ∙ copy_counts p (s.engine.left == 1) (site_of (p.mark (s.pc - 1))) s.engine.from s.engine.to (length_of s.engine) (counted p word s.issued)
        ∙ noted_counts p (is_fram (next_destination s.engine)) (next_destination s.engine) (s.store (next_source s.engine)) s.issued)
    by false = refl

step_counts : (p : Program) (s : State) → (step p s).issued ≡ counted p (seen p s) s.issued
unfolding step writes_next event_next
step_counts p s = by s.ending
  where
    at_work : (b : Bool) → (if b then fetched p (p.instr s.pc) s else moved s).issued ≡ counted p ((if b then fetched_writes (p.instr s.pc) s else moved_writes s) ++ shows (if b then fetched_event p (p.instr s.pc) s else moved_event p s)) s.issued
    at_work true = fetched_counts p (p.instr s.pc) s
    at_work false = moved_counts p s

    by : (ending : Ending) → (step_at p ending s).issued ≡ counted p (writes_at p ending s ++ shows (event_at p ending s)) s.issued
    by Running = at_work (s.engine.left == 0)
    by Halted = refl
    by (Trapped code) = refl

pub issued_traced : (p : Program) (n : ℕ) (s : State) → (exec p n s).issued ≡ counted p (trace p n s) s.issued
unfolding exec trace
issued_traced p zero s = refl
issued_traced p (suc n) s = issued_traced p n (step p s) ∙ ap (counted p (trace p n (step p s))) (step_counts p s) ∙ sym (counted_more p (seen p s) (trace p n (step p s)) s.issued)

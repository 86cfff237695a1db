-- The event of a step has the site of the mark that it comes from.
use Rattle.std.specs.Prelude.{◌≡◌, ◌+◌, ◌-◌, ℕ, Bool, true, false, ◌==◌, if◌then◌else◌, List, Option, Some, None}
use Rattle.std.proofs.Common.{ap, sym}
use Rattle.devices.specs.declared.event.Event.{Event}
use Rattle.devices.specs.declared.event.Event.TheVariants as the
use Rattle.word_isa.specs.declared.instr.Instr.{Instr}
use Rattle.word_isa.specs.declared.instr.Instr.TheVariants.{Mov, Io, Time, Dma}
use Rattle.word_isa.specs.declared.mark.MarkKind.{MarkKind}
use Rattle.word_isa.specs.declared.mark.MarkKind.TheVariants as mark
use Rattle.word_machine.specs.Events.{event, event_at, event_next, event_of, fetched_event, marked, moved_event, site_of, unless_fault}
use Rattle.word_machine.specs.Instructions.{fault}
use Rattle.word_machine.specs.State.{Program, State}
use Rattle.word_machine.specs.Step.{can_move}
use Rattle.word_machine.specs.declared.cell.Sign.{Sign}
use Rattle.word_machine.specs.declared.ending.Ending.{Ending}
use Rattle.word_machine.specs.declared.ending.Ending.TheVariants.{Running, Halted, Trapped}
use Rattle.task_marks.specs.Told.{site_in, told_at}

same_site : (x e : Event) → Some x ≡ Some e → site_in e ≡ site_in x
same_site x e is =
    let same : x ≡ e = cc in
    ap site_in (sym same)

kind_site : (k : MarkKind) (site word : ℕ) (e : Event) → event_of k site word ≡ Some e → site_in e ≡ site
kind_site mark.Begin site word e is = same_site (the.Begin site) e is
kind_site mark.Look site word e is = absurd (cc is)
kind_site mark.Kept site word e is = same_site (the.Kept site word) e is
kind_site mark.Drop site word e is = same_site (the.Dropped site) e is
kind_site mark.Issue site word e is = absurd (cc is)
kind_site mark.Seal site word e is = same_site (the.Sealed site) e is
kind_site mark.Copy site word e is = absurd (cc is)
kind_site mark.Commit site word e is = same_site (the.Commit site) e is

marked_site : (m : Option Sign) (word : ℕ) (e : Event) → marked m word ≡ Some e → site_in e ≡ site_of m
marked_site None word e is = absurd (cc is)
marked_site (Some m) word e is = kind_site m.kind m.site word e is

if_site : (x : Bool) (site from to n : ℕ) (e : Event) → (if x then Some (the.Copied site from to n) else None) ≡ Some e → site_in e ≡ site
if_site true site from to n e is = same_site (the.Copied site from to n) e is
if_site false site from to n e is = absurd (cc is)

event_site : (values : ℕ → List ℕ) (m : Option Sign) (i : Instr) (s : State) (e : Event) → event values m i s ≡ Some e → site_in e ≡ site_of m
event_site values m (Io a b n) s e is = same_site _ e is
event_site values m (Time a) s e is = same_site _ e is
event_site values m (Dma a b n) s e is = if_site (s.regs n == 0) (site_of m) (s.regs b) (s.regs a) 0 e is
event_site values m (Mov a b) s e is = marked_site m (s.regs b) e is
event_site values m i s e is = marked_site m 0 e is

safe_site : (f : Option ℕ) (values : ℕ → List ℕ) (m : Option Sign) (i : Instr) (s : State) (e : Event) → unless_fault f (event values m i s) ≡ Some e → site_in e ≡ site_of m
safe_site None values m i s e is = event_site values m i s e is
safe_site (Some code) values m i s e is = absurd (cc is)

fetched_site : (p : Program) (o : Option Instr) (s : State) (e : Event) → fetched_event p o s ≡ Some e → site_in e ≡ site_of (p.mark s.pc)
fetched_site p None s e is = absurd (cc is)
fetched_site p (Some i) s e is = safe_site (fault i s) p.values (p.mark s.pc) i s e is

moved_site : (p : Program) (s : State) (a b : Bool) (e : Event) → (if a then (if b then Some (the.Copied (site_of (p.mark (s.pc - 1))) s.engine.from s.engine.to (s.engine.moved + s.engine.left)) else None) else None) ≡ Some e
    → site_in e ≡ site_of (p.mark (s.pc - 1))
moved_site p s true b e is = if_site b (site_of (p.mark (s.pc - 1))) s.engine.from s.engine.to (s.engine.moved + s.engine.left) e is
moved_site p s false b e is = absurd (cc is)

worked_site : (p : Program) (s : State) (x : Bool) (e : Event) → (if x then fetched_event p (p.instr s.pc) s else moved_event p s) ≡ Some e → site_in e ≡ site_of (p.mark (if x then s.pc else s.pc - 1))
worked_site p s true e is = fetched_site p (p.instr s.pc) s e is
worked_site p s false e is = moved_site p s (can_move s) (s.engine.left == 1) e is

ending_site : (p : Program) (s : State) (x : Ending) (e : Event) → event_at p x s ≡ Some e → site_in e ≡ site_of (p.mark (told_at s))
ending_site p s Running e is = worked_site p s (s.engine.left == 0) e is
ending_site p s Halted e is = absurd (cc is)
ending_site p s (Trapped code) e is = absurd (cc is)

pub site_told : (p : Program) (s : State) (e : Event) → event_next p s ≡ Some e → site_in e ≡ site_of (p.mark (told_at s))
unfolding event_next
site_told p s e is = ending_site p s s.ending e is

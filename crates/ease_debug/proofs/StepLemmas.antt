-- A step of a session, as the debugger does it.
use Rattle.std.specs.Prelude.{slice_index, if◌then◌else◌, ◌==◌, ◌&&◌}
use Rattle.std.proofs.Common.{◌≡◌, ◌∙◌, ℕ, suc, ◌+◌, ◌-◌, Bool, true, false, List, [], ◌++◌, Option, Some, None, refl, sym, ap, arith}
use Rattle.std.proofs.lemmas.Bool.Decides.{nat_tests}
use Rattle.devices.specs.declared.event.Event.{Event}
use Rattle.devices.specs.declared.event.Event.TheVariants as the
use Rattle.ease_debug.specs.Past.{Happening}
use Rattle.ease_debug.specs.Session.{Session, happened, comes_from, mark_place, task_of, stops, one_step}
use Rattle.ease_debug.specs.Standing.{Held, Stands, trails_of, heard, ending_of}
use Rattle.ease_debug.specs.Stopping.{place_by, stops_by, Names}
use Rattle.ease_debug.specs.Trails.{Slots, trails_in, no_trails}
use Rattle.ease_debug.specs.declared.stop.Stop.{Stop}
use Rattle.ease_debug.specs.declared.stop.Stop.TheVariants.{Never, Site, SiteOf}
use Rattle.power_trace.specs.Live.{state_of}
use Rattle.word_isa.specs.Marks.{mark_at}
use Rattle.word_isa.specs.declared.image.Image.{Image}
use Rattle.word_isa.specs.declared.instr.Instr.{Instr}
use Rattle.word_isa.specs.declared.instr.Instr.TheVariants.{Halt, Ldi, Lui, Mov, Add, Sub, Mul, Div, Rem, And, Or, Xor, Shl, Shr, Eq, Ltu, Adi, Ld, St, Jmp, Jz, Io, Time, Dma, Trap}
use Rattle.word_isa.specs.declared.mark.MarkKind.{MarkKind}
use Rattle.word_isa.specs.declared.mark.MarkKind.TheVariants as mark
use Rattle.word_machine.specs.Events.{told, event_next, stepped_next, marked, event, event_of, event_at, unless_fault, fetched_event, moved_event, worked_event}
use Rattle.word_machine.specs.Instructions.{fault}
use Rattle.word_machine.specs.State.{Program, State}
use Rattle.word_machine.specs.Step.{step, can_move}
use Rattle.word_machine.specs.declared.cell.Sign.{Sign}
use Rattle.word_machine.specs.declared.ending.Ending.{Ending}
use Rattle.word_machine.specs.declared.ending.Ending.TheVariants.{Running, Halted, Trapped}
use Rattle.word_machine.specs.declared.stepped.Stepped.{Stepped}
use Rattle.word_machine.specs.declared.stepped.Stepped.TheVariants as stepped

-- where the mark of an event stands; of none, at the counter
abbrev place_opt : Option Event → ℕ → ℕ
place_opt None at = at
place_opt (Some e) at = place_by (stepped.Ran (Some e)) at

at_kind : (k : MarkKind) (site w at : ℕ) → place_opt (event_of k site w) at ≡ at
at_kind mark.Begin site w at = refl
at_kind mark.Look site w at = refl
at_kind mark.Kept site w at = refl
at_kind mark.Drop site w at = refl
at_kind mark.Issue site w at = refl
at_kind mark.Seal site w at = refl
at_kind mark.Copy site w at = refl
at_kind mark.Commit site w at = refl

at_mark : (m : Option Sign) (w at : ℕ) → place_opt (marked m w) at ≡ at
at_mark None w at = refl
at_mark (Some s) w at = at_kind s.kind s.site w at

at_zero : (b : Bool) (site from to at : ℕ) → place_opt (if b then Some (the.Copied site from to 0) else None) at ≡ at
at_zero true site from to at = refl
at_zero false site from to at = refl

-- the mark of an instruction's event is the instruction's
at_instr : (values : ℕ → List ℕ) (m : Option Sign) (i : Instr) (s : State) (at : ℕ) → place_opt (event values m i s) at ≡ at
at_instr values m Halt s at = at_mark m 0 at
at_instr values m (Ldi a n) s at = at_mark m 0 at
at_instr values m (Lui a n) s at = at_mark m 0 at
at_instr values m (Mov a b) s at = at_mark m (s.regs b) at
at_instr values m (Add a b) s at = at_mark m 0 at
at_instr values m (Sub a b) s at = at_mark m 0 at
at_instr values m (Mul a b) s at = at_mark m 0 at
at_instr values m (Div a b) s at = at_mark m 0 at
at_instr values m (Rem a b) s at = at_mark m 0 at
at_instr values m (And a b) s at = at_mark m 0 at
at_instr values m (Or a b) s at = at_mark m 0 at
at_instr values m (Xor a b) s at = at_mark m 0 at
at_instr values m (Shl a b) s at = at_mark m 0 at
at_instr values m (Shr a b) s at = at_mark m 0 at
at_instr values m (Eq a b) s at = at_mark m 0 at
at_instr values m (Ltu a b) s at = at_mark m 0 at
at_instr values m (Adi a n) s at = at_mark m 0 at
at_instr values m (Ld a b n) s at = at_mark m 0 at
at_instr values m (St a b n) s at = at_mark m 0 at
at_instr values m (Jmp t) s at = at_mark m 0 at
at_instr values m (Jz a n) s at = at_mark m 0 at
at_instr values m (Io a b n) s at = refl
at_instr values m (Time a) s at = refl
at_instr values m (Dma a b n) s at = at_zero (s.regs n == 0) _ (s.regs b) (s.regs a) at
at_instr values m (Trap n) s at = at_mark m 0 at

at_unless : (f : Option ℕ) (e : Option Event) (at : ℕ) → place_opt e at ≡ at → place_opt (unless_fault f e) at ≡ at
at_unless None e at h = h
at_unless (Some code) e at h = refl

at_fetched : (p : Program) (o : Option Instr) (s : State) → place_opt (fetched_event p o s) s.pc ≡ s.pc
at_fetched p None s = refl
at_fetched p (Some i) s = at_unless (fault i s) (event p.values (p.mark s.pc) i s) s.pc (at_instr p.values (p.mark s.pc) i s s.pc)

-- that of a copy of words stands before the counter
at_moved : (can last : Bool) (site from to moved left pc : ℕ) (e : Event) → (last ≡ true → left ≡ 1)
    → (if can then (if last then Some (the.Copied site from to (moved + left)) else None) else None) ≡ Some e → place_opt (Some e) pc ≡ pc - 1
at_moved true true site from to moved left pc e one is =
    let words : moved + left ≡ suc moved = omega (arith, one refl) in
    ap (λ o. place_opt o pc) (sym is) ∙ ap (λ n. if n == 0 then pc else pc - 1) words ∙ never moved pc
  where
    never : (m pc : ℕ) → (if suc m == 0 then pc else pc - 1) ≡ pc - 1
    never m pc = grind (arith, nat_tests)
at_moved true false site from to moved left pc e one is = cc
at_moved false last site from to moved left pc e one is = cc

one_left : (n : ℕ) → (n == 1) ≡ true → n ≡ 1
one_left n e = grind (arith, nat_tests)

-- the mark of the event of a step
at_worked : (p : Program) (s : State) (e : Event) → worked_event p s ≡ Some e → place_opt (Some e) s.pc ≡ mark_place s
at_worked p s e is = by (s.engine.left == 0) refl
  where
    by : (b : Bool) → (s.engine.left == 0) ≡ b → place_opt (Some e) s.pc ≡ mark_place s
    by true idle =
        let here : fetched_event p (p.instr s.pc) s ≡ Some e = ap (λ b. if b then fetched_event p (p.instr s.pc) s else moved_event p s) (sym idle) ∙ is in
        ap (λ o. place_opt o s.pc) (sym here) ∙ at_fetched p (p.instr s.pc) s ∙ ap (λ b. if b then s.pc else s.pc - 1) (sym idle)
    by false idle =
        let here : moved_event p s ≡ Some e = ap (λ b. if b then fetched_event p (p.instr s.pc) s else moved_event p s) (sym idle) ∙ is in
        at_moved (can_move s) (s.engine.left == 1) _ s.engine.from s.engine.to s.engine.moved s.engine.left s.pc e (one_left s.engine.left) here
        ∙ ap (λ b. if b then s.pc else s.pc - 1) (sym idle)

false_true : (b : Bool) → b ≡ false → b ≡ true → ⊥
false_true b f t = cc

-- where a step's event is at the site, its mark is found by the step's answer
place_same : (k : ℕ) (p : Program) (s : State) → s.ending ≡ Running → comes_from k (stepped_next p s) ≡ true → place_by (stepped_next p s) s.pc ≡ mark_place s
unfolding stepped_next event_next
place_same k p s running comes = by (step p s).ending (worked_event p s) refl (ap (λ (e : Ending). event_at p e s) running) comes
  where
    by : (end : Ending) (o : Option Event) → worked_event p s ≡ o → event_at p s.ending s ≡ worked_event p s → comes_from k (told end (event_at p s.ending s)) ≡ true → place_by (told end (event_at p s.ending s)) s.pc ≡ mark_place s
    by Running None none same c = absurd (false_true _ (ap (λ (x : Option Event). comes_from k (stepped.Ran x)) (same ∙ none)) c)
    by Running (Some e) some same c = ap (λ (x : Option Event). place_by (stepped.Ran x) s.pc) (same ∙ some) ∙ at_worked p s e some
    by Halted o is same c = cc
    by (Trapped code) o is same c = cc

-- a step stops as its answer says
pub stops_same : (image : Image) (tasks : List ℕ) (stop : Stop) (p : Program) (s : State) (at : ℕ) (answer : Stepped) → Names tasks image.marks → at ≡ s.pc → answer ≡ stepped_next p s → s.ending ≡ Running
    → stops_by tasks stop at answer ≡ stops image stop p s
stops_same image tasks Never p s at answer names here is running = refl
stops_same image tasks (Site k) p s at answer names here is running = ap (comes_from k) is
stops_same image tasks (SiteOf task k) p s at answer names here is running = by (comes_from k (stepped_next p s)) refl
  where
    same : stops_by tasks (SiteOf task k) at answer ≡ stops_by tasks (SiteOf task k) s.pc (stepped_next p s)
    same = λ i. stops_by tasks (SiteOf task k) (here i) (is i)

    by : (b : Bool) → comes_from k (stepped_next p s) ≡ b → stops_by tasks (SiteOf task k) at answer ≡ stops image (SiteOf task k) p s
    by false e = same ∙ ap (λ b. b && slice_index tasks (place_by (stepped_next p s) s.pc) == task) e ∙ sym (ap (λ b. b && task_of (mark_at image.marks (mark_place s)) == task) e)
    by true e = same ∙ ap (λ n. comes_from k (stepped_next p s) && n == task) (names (place_by (stepped_next p s) s.pc)) ∙ ap (λ n. comes_from k (stepped_next p s) && task_of (mark_at image.marks n) == task) (place_same k p s running e)

-- how the machine is behind a step
pub ending_told : (p : Program) (s : State) (answer : Stepped) → answer ≡ stepped_next p s → ending_of answer ≡ (step p s).ending
unfolding stepped_next
ending_told p s answer is = ap ending_of is ∙ by (step p s).ending (event_next p s)
  where
    by : (end : Ending) (e : Option Event) → ending_of (told end e) ≡ end
    by Running e = refl
    by Halted e = refl
    by (Trapped code) e = refl

-- the trails behind a step
heard_is : (answer : Stepped) (past : List Happening) → heard answer (trails_of past) ≡ trails_of (happened answer ++ past)
unfolding trails_of
heard_is (stepped.Ran None) past = refl
heard_is (stepped.Ran (Some e)) past = refl
heard_is stepped.Halted past = refl
heard_is (stepped.Trapped code) past = refl

-- a debugger behind a step stands at the session behind it
pub step_stands : (image : Image) (h g : Held) (p : Program) (s : Session) (answer : Stepped) → Stands h s → answer ≡ stepped_next p (state_of h.live)
    → state_of g.live ≡ step p (state_of h.live) → g.live.steps ≡ h.live.steps + 1 → g.ending ≡ ending_of answer → trails_in g.trails ≡ heard answer (trails_in h.trails) → g.boot ≡ h.boot → g.spent ≡ h.spent
    → Stands g (one_step image p s).session
step_stands image h g p s answer stands is state steps ending trails boot spent =
    let here : answer ≡ stepped_next p s.state = is ∙ ap (stepped_next p) stands.state in
    record {
      state = state ∙ ap (step p) stands.state;
      steps = steps ∙ ap (λ n. n + 1) stands.steps;
      ending = ending ∙ ending_told p s.state answer here;
      trails = trails ∙ ap (heard answer) stands.trails ∙ heard_is answer s.past ∙ ap (λ a. trails_of (happened a ++ s.past)) here;
      boot = boot ∙ stands.boot;
      spent = spent ∙ stands.spent;
    }

pub trails_first : (t : Slots) → trails_in t ≡ no_trails → trails_in t ≡ trails_of []
unfolding trails_of
trails_first t is = is

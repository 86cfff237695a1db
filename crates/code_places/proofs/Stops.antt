-- A machine that shows the commit behind which no task is next halts on its way from there.
use Rattle.std.specs.Prelude.{◌≡◌, ℕ, zero, suc, ◌+◌, Bool, true, false, ◌==◌, if◌then◌else◌, List, [], ◌∷◌, length, ◌-◌, Option, Some, None, refl}
use Rattle.std.proofs.Common.{ap, sym, ◌∙◌, arith, subst}
use Rattle.devices.specs.declared.event.Event.TheVariants as event
use Rattle.fram_ram.specs.Memories.{has_word}
use Rattle.fram_ram.specs.Engine.{Transfer}
use Rattle.word_isa.specs.declared.instr.Instr.{Instr}
use Rattle.word_isa.specs.declared.instr.Instr.TheVariants.{Halt, Ldi, Lui, Mov, Mul, Rem, Shr, Eq, Ld, St, Jmp, Jz, Io, Time, Dma, Trap}
use Rattle.word_isa.specs.declared.mark.MarkKind.{MarkKind}
use Rattle.word_isa.specs.declared.mark.MarkKind.TheVariants as mark
use Rattle.word_isa.specs.declared.parts.Scheme.{Scheme}
use Rattle.word_machine.specs.Events as machine
use Rattle.word_machine.specs.Events.{event_next, unless_fault}
use Rattle.word_machine.specs.Instructions.{fault, act}
use Rattle.word_machine.specs.RunLaws.{exec_more, stays_halted}
use Rattle.word_machine.specs.State.{Program, State}
use Rattle.word_machine.specs.Step.{can_move, done, fetched, moved, step_at, step, exec}
use Rattle.word_machine.specs.Straight.{Stand, Stands, is_plain}
use Rattle.word_machine.specs.declared.cell.Sign.{Sign}
use Rattle.word_machine.specs.declared.ending.Ending.TheVariants.{Running, Halted}
use Rattle.line_code.specs.declared.line.Line.{Line}
use Rattle.line_code.specs.declared.line.Sign as line
use Rattle.line_laws.specs.Standing.{StandsWith, Lie, lie_front, lie_behind}
use Rattle.word_code.specs.Acts.{jump}
use Rattle.word_code.specs.Frames.{halt_at, stride}
use Rattle.word_code.specs.Heads.{fix_code}
use Rattle.code_places.proofs.ActGoods.{way_of}
use Rattle.code_places.proofs.Good.{is_final, is_last, IsFollowed, Follows, AllFollowed}
use Rattle.code_places.proofs.Standing.{said, sign_in}

-- ---- what a last commit comes from

abbrev last : Sign
last = record { kind = mark.Commit; site = 0 }

kind_last : (k : MarkKind) (site word : ℕ) → machine.event_of k site word ≡ Some (event.Commit 0) → Some (record { kind = k; site = site }) ≡ Some last
kind_last mark.Begin site word e = cc
kind_last mark.Look site word e = cc
kind_last mark.Kept site word e = cc
kind_last mark.Drop site word e = cc
kind_last mark.Issue site word e = cc
kind_last mark.Seal site word e = cc
kind_last mark.Copy site word e = cc
kind_last mark.Commit site word e = let zeroed : site ≡ 0 = cc in ap (λ (n : ℕ). Some (record { kind = mark.Commit; site = n })) zeroed

mark_last : (m : Option Sign) (word : ℕ) → machine.marked m word ≡ Some (event.Commit 0) → m ≡ Some last
mark_last None word e = cc
mark_last (Some m) word e = kind_last m.kind m.site word e

event_last : (values : ℕ → List ℕ) (m : Option Sign) (i : Instr) (s : State) → machine.event values m i s ≡ Some (event.Commit 0) → m ≡ Some last
event_last values m (Io a b n) s e = cc
event_last values m (Time a) s e = cc
event_last values m (Dma a b n) s e = by (s.regs n == 0) e
  where
    by : (b' : Bool) → (if b' then Some (event.Copied (machine.site_of m) (s.regs b) (s.regs a) 0) else None) ≡ Some (event.Commit 0) → m ≡ Some last
    by true h = cc
    by false h = cc
event_last values m (Mov a b) s e = mark_last m (s.regs b) e
event_last values m _ s e = mark_last m 0 e

-- the instruction with the mark, and that it doesn't trap
record IsLast (p : Program) (s : State) : Type 0 where
  pub instr : Instr
  pub there : p.instr s.pc ≡ Some instr
  pub sign : p.mark s.pc ≡ Some last
  pub safe : fault instr s ≡ None
  pub idle : (s.engine.left == 0) ≡ true

safe_of : (p : Program) (i : Instr) (s : State) (f : Option ℕ) → fault i s ≡ f → p.instr s.pc ≡ Some i → (s.engine.left == 0) ≡ true → unless_fault f (machine.event p.values (p.mark s.pc) i s) ≡ Some (event.Commit 0) → IsLast p s
safe_of p i s None is there idle e = record { instr = i; there = there; sign = event_last p.values (p.mark s.pc) i s e; safe = is; idle = idle }
safe_of p i s (Some code) is there idle e = cc

instr_of : (p : Program) (s : State) (o : Option Instr) → p.instr s.pc ≡ o → (s.engine.left == 0) ≡ true → machine.fetched_event p o s ≡ Some (event.Commit 0) → IsLast p s
instr_of p s None is idle e = cc
instr_of p s (Some i) is idle e = safe_of p i s (fault i s) refl is idle e

moved_not : (p : Program) (s : State) (a b : Bool) → (if a then (if b then Some (event.Copied (machine.site_of (p.mark (s.pc - 1))) s.engine.from s.engine.to (s.engine.moved + s.engine.left)) else None) else None) ≡ Some (event.Commit 0) → IsLast p s
moved_not p s true true e = cc
moved_not p s true false e = cc
moved_not p s false b e = cc

worked_of : (p : Program) (s : State) (b : Bool) → (s.engine.left == 0) ≡ b → (if b then machine.fetched_event p (p.instr s.pc) s else machine.moved_event p s) ≡ Some (event.Commit 0) → IsLast p s
worked_of p s true is e = instr_of p s (p.instr s.pc) refl is e
worked_of p s false is e = moved_not p s (can_move s) (s.engine.left == 1) e

last_of : (p : Program) (s : State) → s.ending ≡ Running → event_next p s ≡ Some (event.Commit 0) → IsLast p s
unfolding event_next
last_of p s running e =
    let worked : machine.worked_event p s ≡ Some (event.Commit 0) = sym (ap (λ x. machine.event_at p x s) running) ∙ e in
    worked_of p s (s.engine.left == 0) refl worked

-- ---- the line that it stands at

record IsBefore (p : Program) (way : List Line) (at : ℕ) : Type 0 where
  pub write : p.instr at ≡ Some (St 1 0 0)
  pub behind : Lie p (at + 1) way

stood : (p : Program) (at : ℕ) (i : Instr) (o : Option line.Sign) → StandsWith p at i o → p.instr at ≡ Some i
stood p at i None h = h.instr
stood p at i (Some x) h = h.instr

kind_in : Option Sign → MarkKind
kind_in None = mark.Commit
kind_in (Some m) = m.kind

said_last : (o : Option line.Sign) → said o ≡ Some last → is_last o ≡ true
unfolding kind_in
said_last None e = cc
said_last (Some x) e =
    let kind : x.kind ≡ mark.Commit = ap kind_in e in
    let site : x.site ≡ 0 = ap machine.site_of e in
    λ i. is_final (kind i) (site i)

here_last : (p : Program) (way : List Line) (at : ℕ) (l : Line) (rest : List Line) → Lie p at (l ∷ rest) → IsFollowed way l.instr rest → IsBefore p way at
here_last p way at l rest lies follows = record {
  write = stood p at l.instr l.sign lies.0 ∙ ap (λ (i : Instr). Some i) follows.write;
  behind = lie_front p (at + 1) way follows.others (subst (Lie p (at + 1)) follows.behind lies.1);
}

find_last : (p : Program) (way lines : List Line) (n k at : ℕ) → at ≡ n + k → AllFollowed way lines → Lie p n lines → sign_in lines k ≡ Some last → IsBefore p way at
find_last p way [] n k at is followed lies e = cc
find_last p way (l ∷ lines) n zero at is followed lies e =
    let same : n ≡ at = omega (arith, is) in
    let one : Follows true way l.instr lines = subst (λ (b : Bool). Follows b way l.instr lines) (said_last l.sign e) followed.0 in
    subst (IsBefore p way) same (here_last p way n l lines lies one)
find_last p way (l ∷ lines) n (suc k) at is followed lies e = find_last p way lines (n + 1) k at (omega (arith, is)) followed.1 lies.1 e

-- ---- the way to the halt

-- a machine that goes on, between two instructions
record IsAlive (s : State) : Type 0 where
  pub running : s.ending ≡ Running
  pub idle : (s.engine.left == 0) ≡ true

abbrev next : Program → Instr → State → State
next p i s = record (act p.values i (record s { pc = s.pc + 1 })) { clock = s.clock + 1 }

step_safe : (p : Program) (i : Instr) (s : State) → IsAlive s → p.instr s.pc ≡ Some i → fault i s ≡ None → step p s ≡ next p i s
unfolding step
step_safe p i s alive there safe =
    ap (λ e. step_at p e s) alive.running
    ∙ ap (λ (b : Bool). record (if b then fetched p (p.instr s.pc) s else moved s) { clock = s.clock + 1 }) alive.idle
    ∙ ap (λ (o : Option Instr). record (fetched p o s) { clock = s.clock + 1 }) there
    ∙ ap (λ (f : Option ℕ). record (done p.values i f (record s { pc = s.pc + 1 })) { clock = s.clock + 1 }) safe

-- a plain instruction goes to the next
record IsNext (s t : State) : Type 0 where
  pub pc : t.pc ≡ s.pc + 1
  pub ending : t.ending ≡ s.ending
  pub engine : t.engine ≡ s.engine

plain_next : (p : Program) (i : Instr) (s : State) → is_plain i ≡ true → IsNext s (next p i s)
plain_next p Halt s h = cc
plain_next p (Jmp t) s h = cc
plain_next p (Jz a m) s h = cc
plain_next p (Io a b m) s h = cc
plain_next p (Dma a b m) s h = cc
plain_next p (Trap m) s h = cc
plain_next p (Time a) s h = cc
plain_next p _ s h = record { pc = refl; ending = refl; engine = refl }

alive_next : (s t : State) → IsAlive s → IsNext s t → IsAlive t
alive_next s t alive is = record { running = is.ending ∙ alive.running; idle = ap (λ (e : Transfer). e.left == 0) is.engine ∙ alive.idle }

abbrev run : Program → List Instr → State → State
run p [] s = s
run p (i ∷ is) s = run p is (next p i s)

abbrev AreSafe : Program → List Instr → State → Type 0
AreSafe p [] s = Unit {0}
AreSafe p (i ∷ is) s = (is_plain i ≡ true) × (fault i s ≡ None) × AreSafe p is (next p i s)

-- a line of plain instructions runs to its end
record IsRun (p : Program) (is : List Instr) (at : ℕ) (s : State) : Type 0 where
  pub state : exec p (length is) s ≡ run p is s
  pub alive : IsAlive (run p is s)
  pub pc : (run p is s).pc ≡ at + length is

line_runs : (p : Program) (is : List Instr) (at : ℕ) (s : State) → s.pc ≡ at → IsAlive s → Stands p at is → AreSafe p is s → IsRun p is at s
unfolding exec
line_runs p [] at s pc alive stands safe = record { state = refl; alive = alive; pc = omega (arith, pc) }
line_runs p (i ∷ is) at s pc alive stands safe =
    let step_is : step p s ≡ next p i s = step_safe p i s alive (ap p.instr pc ∙ stands.0.instr) safe.1 in
    let further : IsNext s (next p i s) = plain_next p i s safe.0 in
    let rest : IsRun p is (at + 1) (next p i s) = line_runs p is (at + 1) (next p i s) (omega (arith, further.pc, pc)) (alive_next s (next p i s) alive further) stands.1 safe.2 in
    record { state = ap (exec p (length is)) step_is ∙ rest.state; alive = rest.alive; pc = omega (arith, rest.pc) }

abbrev fixes : (far : ℕ) → List Instr
fixes far = Ldi 0 0 ∷ Ldi 15 0 ∷ Lui 15 16 ∷ Ld 13 0 0 ∷ Mov 12 13 ∷ Ldi 1 2 ∷ Rem 12 1 ∷ Mov 14 12 ∷ Eq 14 0 ∷ Ldi 1 far ∷ Mul 12 1 ∷ Mul 14 1 ∷ Ldi 1 8 ∷ Shr 13 1 ∷ []

fixes_safe : (p : Program) (far : ℕ) (s : State) → AreSafe p (fixes far) s
unfolding has_word
fixes_safe p far s =
    ((refl, refl, (refl, refl, (refl, refl, (refl, refl, (refl, refl, (refl, refl, (refl, refl, (refl, refl, (refl, refl, (refl, refl, (refl, refl, (refl, refl, (refl, refl, (refl, refl, tt)))))))))))))))

-- from the state word's write to the halt
jump_halts : (p : Program) (halt : ℕ) (s : State) → IsAlive s → p.instr s.pc ≡ Some (Jmp halt) → p.instr halt ≡ Some Halt → (exec p 18 s).ending ≡ Halted
unfolding exec
jump_halts p halt s alive jumps halts =
    let one : step p s ≡ next p (Jmp halt) s = step_safe p (Jmp halt) s alive jumps refl in
    let there : State = next p (Jmp halt) s in
    let still : IsAlive there = record { running = alive.running; idle = alive.idle } in
    let two : step p there ≡ next p Halt there = step_safe p Halt there still halts refl in
    ap (λ x. (exec p 17 x).ending) one ∙ ap (λ x. (exec p 16 x).ending) two ∙ ap (λ x. x.ending) (stays_halted p 16 (next p Halt there) refl)

way_halts : (p : Program) (scheme : Scheme) (tasks at : ℕ) (s : State) → s.pc ≡ at → IsAlive s → Lie p at (way_of scheme tasks) → p.instr (halt_at tasks) ≡ Some Halt → (exec p 32 s).ending ≡ Halted
way_halts p scheme tasks at s pc alive lies halts =
    let stands : Stands p at (fixes (stride scheme)) = lie_front p at (fix_code (stride scheme)) (jump (halt_at tasks)) lies in
    let ran : IsRun p (fixes (stride scheme)) at s = line_runs p (fixes (stride scheme)) at s pc alive stands (fixes_safe p (stride scheme) s) in
    let jumps : Stand p (at + 14) (Jmp (halt_at tasks)) = (lie_behind p at (fix_code (stride scheme)) (jump (halt_at tasks)) (at + 14) lies (omega arith)).0 in
    let state : exec p 14 s ≡ run p (fixes (stride scheme)) s = ran.state in
    let end : State = run p (fixes (stride scheme)) s in
    let there : p.instr end.pc ≡ Some (Jmp (halt_at tasks)) = ap p.instr ran.pc ∙ jumps.instr in
    ap (λ x. x.ending) (exec_more p 14 18 s) ∙ ap (λ x. (exec p 18 x).ending) state ∙ jump_halts p (halt_at tasks) end ran.alive there halts

pub stops : (p : Program) (scheme : Scheme) (tasks : ℕ) (lines : List Line) → AllFollowed (way_of scheme tasks) lines → Lie p 0 lines → ((at : ℕ) → p.mark at ≡ sign_in lines at) → p.instr (halt_at tasks) ≡ Some Halt
    → (s : State) → s.ending ≡ Running → event_next p s ≡ Some (event.Commit 0) → (exec p 33 s).ending ≡ Halted
unfolding exec
stops p scheme tasks lines followed lies marks halts s running shows =
    let is : IsLast p s = last_of p s running shows in
    let before : IsBefore p (way_of scheme tasks) s.pc = find_last p (way_of scheme tasks) lines 0 s.pc s.pc (omega arith) followed lies (sym (marks s.pc) ∙ is.sign) in
    let same : Some is.instr ≡ Some (St 1 0 0) = sym is.there ∙ before.write in
    let alive : IsAlive s = record { running = running; idle = is.idle } in
    let writes : is.instr ≡ St 1 0 0 = cc in
    let safe : fault (St 1 0 0) s ≡ None = subst (λ (i : Instr). fault i s ≡ None) writes is.safe in
    let one : step p s ≡ next p (St 1 0 0) s = step_safe p (St 1 0 0) s alive before.write safe in
    let further : IsNext s (next p (St 1 0 0) s) = record { pc = refl; ending = refl; engine = refl } in
    ap (λ x. (exec p 32 x).ending) one
    ∙ way_halts p scheme tasks (s.pc + 1) (next p (St 1 0 0) s) refl (alive_next s (next p (St 1 0 0) s) alive further) before.behind halts

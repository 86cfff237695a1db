-- Laws on code with marks: a line, a jump, and one piece before another.
use Rattle.std.specs.Prelude.{◌==◌, if◌then◌else◌, ◌&&◌}
use Rattle.std.proofs.Common.{◌≡◌, ◌∙◌, ℕ, ◌+◌, ◌<◌, ◌≤◌, Bool, true, false, List, [], ◌∷◌, ◌++◌, length, Some, None, Option, refl, sym, ap, subst, append-nil, arith}
use Rattle.std.proofs.Math.Path.{fun_ext}
use Rattle.std.proofs.lemmas.Bool.Decides.{nat_tests}
use Rattle.fram_ram.specs.Addresses.{fram_has_word}
use Rattle.word_isa.specs.declared.instr.Instr.{Instr}
use Rattle.word_isa.specs.declared.instr.Instr.TheVariants.{Halt, Jmp, Jz, Dma, Trap}
use Rattle.word_machine.specs.Events.{event, event_next}
use Rattle.word_machine.specs.Instructions.{fault, act}
use Rattle.word_machine.specs.RunLaws.{exec_more, trace_more}
use Rattle.word_machine.specs.State.{Program}
use Rattle.word_machine.specs.Step.{step, exec}
use Rattle.word_machine.specs.Straight.{Spot, live}
use Rattle.word_machine.specs.Traces.{Atom, seen, trace, writes, writes_next, shows}
use Rattle.line_code.specs.declared.line.Line.{Line}
use Rattle.line_code.specs.declared.line.Sign as line
use Rattle.line_code.specs.Lines.{bares}
use Rattle.line_laws.specs.Standing.{StandsWith, Lie, lie_front, lie_behind}
use Rattle.act_laws.specs.Codes.{mark_of, flows, behind, after_code, is_safe, ready, code_atoms, Goes, Fixed, shaped, HasFixed, top, End, Acts, FramCell, RamCell}

three_true : (a b c : Bool) → (a && b && c) ≡ true → (a ≡ true) × (b ≡ true) × (c ≡ true)
three_true true true c h = (refl, refl, h)
three_true true false c h = cc
three_true false b c h = cc

safe_is : (f : Option ℕ) → is_safe f ≡ true → f ≡ None
safe_is None h = refl
safe_is (Some c) h = cc

step_behind : (p : Program) (i : Instr) (s : Spot) → p.instr s.pc ≡ Some i → flows i ≡ true → fault i (live s) ≡ None → step p (live s) ≡ live (behind p i s)
unfolding step
step_behind p i s instr plain safe = rw (instr, safe) (acts i plain)
  where
    acts : (i : Instr) → flows i ≡ true → record (act p.values i (record (live s) { pc = s.pc + 1 })) { clock = s.clock + 1 } ≡ live (behind p i s)
    acts Halt h = cc
    acts (Jmp t) h = cc
    acts (Jz a m) h = cc
    acts (Dma a b m) h = cc
    acts (Trap m) h = cc
    acts _ h = refl

seen_behind : (p : Program) (w : Line) (s : Spot) → p.instr s.pc ≡ Some w.instr → p.mark s.pc ≡ mark_of w.sign → fault w.instr (live s) ≡ None → seen p (live s) ≡ writes w.instr (live s) ++ shows (event p.values (mark_of w.sign) w.instr (live s))
unfolding writes_next event_next
seen_behind p w s instr mark safe = rw (instr, safe, mark)

-- what stands at a line's address
instr_is : (p : Program) (at : ℕ) (i : Instr) (sign : Option line.Sign) → StandsWith p at i sign → p.instr at ≡ Some i
instr_is p at i None h = h.instr
instr_is p at i (Some sign) h = h.instr

mark_is : (p : Program) (at : ℕ) (i : Instr) (sign : Option line.Sign) → StandsWith p at i sign → p.mark at ≡ mark_of sign
mark_is p at i None h = h.mark
mark_is p at i (Some sign) h = h.mark

-- no steps, and one step
pub goes_none : (p : Program) (s : Spot) → Goes p 0 s s []
unfolding exec trace
goes_none p s = record { runs = refl; seen = refl }

pub goes_one : (p : Program) (s t : Spot) (a : List Atom) → step p (live s) ≡ live t → seen p (live s) ≡ a → Goes p 1 s t a
unfolding exec trace
goes_one p s t a e f = record { runs = e; seen = ap (λ l. l ++ []) f ∙ append-nil a }

-- one piece before another
pub goes_then : (p : Program) (n m k : ℕ) (s t u : Spot) (a b c : List Atom) → Goes p n s t a → Goes p m t u b → n + m ≡ k → a ++ b ≡ c → Goes p k s u c
goes_then p n m k s t u a b c g h e f = record {
  runs = ap (λ j. exec p j (live s)) (sym e) ∙ exec_more p n m (live s) ∙ ap (exec p m) g.runs ∙ h.runs;
  seen = ap (λ j. trace p j (live s)) (sym e) ∙ trace_more p n m (live s) ∙ ap (λ l. l ++ trace p m (exec p n (live s))) g.seen ∙ ap (λ l. a ++ trace p m l) g.runs ∙ ap (λ l. a ++ l) h.seen ∙ f;
}

-- a line
pub goes_code : (p : Program) (code : List Line) (s : Spot) → Lie p s.pc code → ready p code s ≡ true → Goes p (length code) s (after_code p code s) (code_atoms p code s)
goes_code p [] s has h = goes_none p s
goes_code p (w ∷ code) s has h =
    let b : (flows w.instr ≡ true) × (is_safe (fault w.instr (live s)) ≡ true) × (ready p code (behind p w.instr s) ≡ true) = three_true (flows w.instr) (is_safe (fault w.instr (live s))) _ h in
    let safe : fault w.instr (live s) ≡ None = safe_is (fault w.instr (live s)) b.1 in
    goes_then p 1 (length code) _ s (behind p w.instr s) _ (writes w.instr (live s) ++ shows (event p.values (mark_of w.sign) w.instr (live s))) (code_atoms p code (behind p w.instr s)) _
    (goes_one p s (behind p w.instr s) _ (step_behind p w.instr s (instr_is p s.pc w.instr w.sign has.0) b.0 safe) (seen_behind p w s (instr_is p s.pc w.instr w.sign has.0) (mark_is p s.pc w.instr w.sign has.0) safe))
    (goes_code p code (behind p w.instr s) has.1 b.2) (omega arith) refl

-- a jump, and a test of a register
pub goes_jmp : (p : Program) (t : ℕ) (s : Spot) → Lie p s.pc (bares (Jmp t ∷ [])) → Goes p 1 s (record s { pc = t; clock = s.clock + 1 }) []
unfolding step writes_next event_next
goes_jmp p t s has = goes_one p s _ [] (rw has.0.instr) (rw (has.0.instr, has.0.mark))

pub goes_jz : (p : Program) (r m : ℕ) (s : Spot) → Lie p s.pc (bares (Jz r m ∷ [])) → Goes p 1 s (record s { pc = if s.regs r == 0 then s.pc + 1 + m else s.pc + 1; clock = s.clock + 1 }) []
unfolding step writes_next event_next
goes_jz p r m s has = goes_one p s _ [] (rw has.0.instr) (rw (has.0.instr, has.0.mark))

pub code_ends : (p : Program) (code : List Line) (s : Spot) → (after_code p code s).pc ≡ s.pc + length code
code_ends p [] s = omega arith
code_ends p (w ∷ code) s = omega (arith, code_ends p code (behind p w.instr s))

-- registers whose fixed ones are right have the shape
pub shape_is : (x : Fixed) (s : Spot) → HasFixed x s → s.regs ≡ shaped x s.regs
shape_is x s h = fun_ext (λ r. by r (r == 0) refl (r == 12) refl (r == 13) refl (r == 14) refl (r == 15) refl)
  where
    same : (a b : ℕ) → (a == b) ≡ true → a ≡ b
    same a b e = grind (arith, nat_tests)

    by : (r : ℕ) (a : Bool) → (r == 0) ≡ a → (b : Bool) → (r == 12) ≡ b → (c : Bool) → (r == 13) ≡ c → (d : Bool) → (r == 14) ≡ d → (f : Bool) → (r == 15) ≡ f
        → s.regs r ≡ (if a then 0 else if b then x.committed else if c then x.epoch else if d then x.working else if f then 1048576 else s.regs r)
    by r true e b eb c ec d ed f ef = rw (same r 0 e) h.0
    by r false e true eb c ec d ed f ef = rw (same r 12 eb) h.1
    by r false e false eb true ec d ed f ef = rw (same r 13 ec) h.2
    by r false e false eb false ec true ed f ef = rw (same r 14 ed) h.3
    by r false e false eb false ec false ed true ef = rw (same r 15 ef) h.4
    by r false e false eb false ec false ed false ef = refl

-- a law at the top's shape is a law wherever the fixed registers are right
pub at_any : (p : Program) (x : Fixed) (most : ℕ) (s : Spot) (e : End) → HasFixed x s → Acts p x most (top x s) e → Acts p x most s e
at_any p x most s e h a = subst (λ f. Acts p x most (record s { regs = f }) e) (sym (shape_is x s h)) a

-- an address of FRAM
pub fram_cell : (a : ℕ) → a < 65536 → FramCell a
fram_cell a h = record { fram = grind (arith, nat_tests); there = fram_has_word a h; wraps = omega arith }

-- an address of RAM before its end
pub ram_cell : (m : ℕ) → m < 4096 → RamCell m
ram_cell m h = record { apart = grind (arith, nat_tests); ram = grind (arith, nat_tests, h); wraps = omega (arith, h) }

-- a line before the act's last jump
pub line_acts : (p : Program) (x : Fixed) (most : ℕ) (code : List Line) (next : ℕ) (s : Spot) (e : End) → Lie p s.pc (code ++ bares (Jmp next ∷ []))
    → ready p code s ≡ true → HasFixed x (after_code p code s) → next ≡ e.pc → (after_code p code s).store ≡ e.store → (after_code p code s).issued ≡ e.issued → code_atoms p code s ≡ e.atoms
    → length code + 1 ≤ most → Acts p x most s e
line_acts p x most code next s e has ok fixed at stored counts atoms few =
    let t : Spot = after_code p code s in
    record {
      steps = length code + 1;
      few = few;
      there = record t { pc = next; clock = t.clock + 1 };
      goes = goes_then p (length code) 1 _ s t _ (code_atoms p code s) [] e.atoms (goes_code p code s (lie_front p s.pc code _ has) ok)
          (goes_jmp p next t (lie_behind p s.pc code _ t.pc has (code_ends p code s))) refl (append-nil (code_atoms p code s) ∙ atoms);
      at = at;
      fixed = fixed;
      stored = stored;
      counts = counts;
    }

-- a line, at whose end the next code stands
pub flow_acts : (p : Program) (x : Fixed) (most : ℕ) (code : List Line) (s : Spot) (e : End) → Lie p s.pc code
    → ready p code s ≡ true → HasFixed x (after_code p code s) → s.pc + length code ≡ e.pc → (after_code p code s).store ≡ e.store → (after_code p code s).issued ≡ e.issued → code_atoms p code s ≡ e.atoms
    → length code ≤ most → Acts p x most s e
flow_acts p x most code s e has ok fixed at stored counts atoms few = record {
  steps = length code;
  few = few;
  there = after_code p code s;
  goes = subst (λ a. Goes p (length code) s (after_code p code s) a) atoms (goes_code p code s has ok);
  at = code_ends p code s ∙ at;
  fixed = fixed;
  stored = stored;
  counts = counts;
}

-- a place at the end of one piece, where the next one begins
abbrev pub from_end : Fixed → End → (ℕ → ℕ) → ℕ → Spot
from_end x e regs clock = record { pc = e.pc; regs = shaped x regs; store = e.store; clock = clock; issued = e.issued }

-- one piece before another
pub acts_then : (p : Program) (x y : Fixed) (n m most : ℕ) (s : Spot) (e f : End) (atoms : List Atom)
    → Acts p x n s e → ((regs : ℕ → ℕ) (clock : ℕ) → Acts p y m (from_end x e regs clock) f) → n + m ≤ most → e.atoms ++ f.atoms ≡ atoms → Acts p y most s (record f { atoms = atoms })
acts_then p x y n m most s e f atoms a go few joined =
    let t : Spot = a.there in
    let b : Acts p y m t f =
    subst (λ r. Acts p y m (record t { regs = r }) f) (sym (shape_is x t a.fixed))
    (subst (λ pc. Acts p y m (record { pc = pc; regs = shaped x t.regs; store = t.store; clock = t.clock; issued = t.issued }) f) (sym a.at)
    (subst (λ st. Acts p y m (record { pc = e.pc; regs = shaped x t.regs; store = st; clock = t.clock; issued = t.issued }) f) (sym a.stored)
    (subst (λ c. Acts p y m (record { pc = e.pc; regs = shaped x t.regs; store = e.store; clock = t.clock; issued = c }) f) (sym a.counts) (go t.regs t.clock)))) in
    record {
      steps = a.steps + b.steps;
      few = omega (arith, a.few, b.few);
      there = b.there;
      goes = goes_then p a.steps b.steps _ s t b.there e.atoms f.atoms atoms a.goes b.goes refl joined;
      at = b.at;
      fixed = b.fixed;
      stored = b.stored;
      counts = b.counts;
    }

-- within more steps
pub acts_most : (p : Program) (x : Fixed) (n most : ℕ) (s : Spot) (e : End) → Acts p x n s e → n ≤ most → Acts p x most s e
acts_most p x n most s e a few = record { steps = a.steps; few = omega (arith, a.few); there = a.there; goes = a.goes; at = a.at; fixed = a.fixed; stored = a.stored; counts = a.counts }

-- nothing more to do
pub acts_none : (p : Program) (x : Fixed) (most : ℕ) (s : Spot) → Acts p x most (top x s) (record { pc = s.pc; store = s.store; issued = s.issued; atoms = [] })
acts_none p x most s = record { steps = 0; few = omega arith; there = top x s; goes = goes_none p (top x s); at = refl; fixed = (refl, refl, refl, refl, refl); stored = refl; counts = refl }

-- steps before a piece, with the very place where they lead
pub goes_acts : (p : Program) (x : Fixed) (n m most : ℕ) (s t : Spot) (f : End) (a atoms : List Atom) → Goes p n s t a → Acts p x m t f → n + m ≤ most → a ++ f.atoms ≡ atoms → Acts p x most s (record f { atoms = atoms })
goes_acts p x n m most s t f a atoms g b few joined = record {
  steps = n + b.steps;
  few = omega (arith, b.few);
  there = b.there;
  goes = goes_then p n b.steps _ s t b.there a f.atoms atoms g b.goes refl joined;
  at = b.at;
  fixed = b.fixed;
  stored = b.stored;
  counts = b.counts;
}

-- a line before a piece
pub line_then : (p : Program) (x : Fixed) (m most : ℕ) (code : List Line) (s : Spot) (f : End) (atoms : List Atom) → Lie p s.pc code → ready p code s ≡ true
    → Acts p x m (after_code p code s) f → length code + m ≤ most → code_atoms p code s ++ f.atoms ≡ atoms → Acts p x most s (record f { atoms = atoms })
line_then p x m most code s f atoms has ok b few joined = goes_acts p x (length code) m most s (after_code p code s) f (code_atoms p code s) atoms (goes_code p code s has ok) b few joined

-- a jump before a piece, and one where a register is not 0
pub jump_then : (p : Program) (x : Fixed) (m most to : ℕ) (s : Spot) (f : End) → Lie p s.pc (bares (Jmp to ∷ [])) → Acts p x m (record s { pc = to; clock = s.clock + 1 }) f → 1 + m ≤ most → Acts p x most s f
jump_then p x m most to s f has b few = goes_acts p x 1 m most s _ f [] f.atoms (goes_jmp p to s has) b few refl

pub when_then : (p : Program) (x : Fixed) (m most r to : ℕ) (s : Spot) (f : End) (b : Bool) → Lie p s.pc (bares (Jz r 1 ∷ Jmp to ∷ [])) → (s.regs r == 0) ≡ b
    → (b ≡ true → Acts p x m (record s { pc = s.pc + 1 + 1; clock = s.clock + 1 }) f)
    → (b ≡ false → Acts p x m (record s { pc = to; clock = s.clock + 1 + 1 }) f)
    → 2 + m ≤ most → Acts p x most s f
when_then p x m most r to s f true has is zero_case other few =
    goes_acts p x 1 m most s _ f [] f.atoms (subst (λ b. Goes p 1 s (record s { pc = if b then s.pc + 1 + 1 else s.pc + 1; clock = s.clock + 1 }) []) is (goes_jz p r 1 s (has.0, tt))) (zero_case refl) (omega (arith, few)) refl
when_then p x m most r to s f false has is zero_case other few =
    goes_acts p x 1 (1 + m) most s (record s { pc = s.pc + 1; clock = s.clock + 1 }) f [] f.atoms
    (subst (λ b. Goes p 1 s (record s { pc = if b then s.pc + 1 + 1 else s.pc + 1; clock = s.clock + 1 }) []) is (goes_jz p r 1 s (has.0, tt)))
    (jump_then p x m (1 + m) to (record s { pc = s.pc + 1; clock = s.clock + 1 }) f has.1 (other refl) (omega arith)) (omega (arith, few)) refl

-- the end of a piece
pub arrived : (p : Program) (x : Fixed) (most : ℕ) (s : Spot) (e : End) → HasFixed x s → s.pc ≡ e.pc → s.store ≡ e.store → s.issued ≡ e.issued → [] ≡ e.atoms → Acts p x most s e
arrived p x most s e fixed at stored counts atoms = record { steps = 0; few = omega arith; there = s; goes = subst (λ a. Goes p 0 s s a) atoms (goes_none p s); at = at; fixed = fixed; stored = stored; counts = counts }

-- a line and a jump where a register is not 0 behind it
pub when_acts : (p : Program) (x : Fixed) (most : ℕ) (code : List Line) (r to : ℕ) (s : Spot) (e : End) (b : Bool) → Lie p s.pc (code ++ bares (Jz r 1 ∷ Jmp to ∷ []))
    → ready p code s ≡ true → HasFixed x (after_code p code s) → ((after_code p code s).regs r == 0) ≡ b → (if b then s.pc + length code + 2 else to) ≡ e.pc
    → (after_code p code s).store ≡ e.store → (after_code p code s).issued ≡ e.issued → code_atoms p code s ≡ e.atoms
    → length code + 2 ≤ most → Acts p x most s e
when_acts p x most code r to s e b has ok fixed is at stored counts atoms few =
    let t : Spot = after_code p code s in
    let past : (b ≡ true) → s.pc + length code + 2 ≡ e.pc = λ h. subst (λ c. (if c then s.pc + length code + 2 else to) ≡ e.pc) h at in
    goes_acts p x (length code) 2 most s t (record e { atoms = [] }) e.atoms e.atoms (subst (λ a. Goes p (length code) s t a) atoms (goes_code p code s (lie_front p s.pc code _ has) ok))
    (when_then p x 0 2 r to t (record e { atoms = [] }) b (lie_behind p s.pc code _ t.pc has (code_ends p code s)) is
    (λ h. arrived p x 0 _ _ fixed (omega (arith, code_ends p code s, past h)) stored counts refl)
    (λ h. arrived p x 0 _ _ fixed (subst (λ c. (if c then s.pc + length code + 2 else to) ≡ e.pc) h at) stored counts refl) (omega arith)) few (append-nil e.atoms)

-- one of two lists, by a register
pub fork_then : (p : Program) (x : Fixed) (m most r to other : ℕ) (s : Spot) (f : End) (b : Bool) → Lie p s.pc (bares (Jz r 1 ∷ Jmp to ∷ Jmp other ∷ [])) → (s.regs r == 0) ≡ b
    → Acts p x m (record s { pc = if b then other else to; clock = s.clock + 1 + 1 }) f → 2 + m ≤ most → Acts p x most s f
fork_then p x m most r to other s f true at is go few =
    goes_acts p x 1 (1 + m) most s (record s { pc = s.pc + 1 + 1; clock = s.clock + 1 }) f [] f.atoms
    (subst (λ b. Goes p 1 s (record s { pc = if b then s.pc + 1 + 1 else s.pc + 1; clock = s.clock + 1 }) []) is (goes_jz p r 1 s (at.0, tt)))
    (jump_then p x m (1 + m) other (record s { pc = s.pc + 1 + 1; clock = s.clock + 1 }) f at.1.1 go (omega arith)) (omega (arith, few)) refl
fork_then p x m most r to other s f false at is go few =
    when_then p x m most r to s f false (at.0, (at.1.0, tt)) is (λ e. cc) (λ e. go) few

-- a line, and one of two lists behind it
pub fork_acts : (p : Program) (x : Fixed) (most : ℕ) (code : List Line) (r to other : ℕ) (s : Spot) (e : End) (b : Bool)
    → Lie p s.pc (code ++ bares (Jz r 1 ∷ Jmp to ∷ Jmp other ∷ []))
    → ready p code s ≡ true → HasFixed x (after_code p code s) → ((after_code p code s).regs r == 0) ≡ b → (if b then other else to) ≡ e.pc
    → (after_code p code s).store ≡ e.store → (after_code p code s).issued ≡ e.issued → code_atoms p code s ≡ e.atoms → length code + 2 ≤ most
    → Acts p x most s e
fork_acts p x most code r to other s e b has ok fixed is goal stored counts atoms few =
    let t : Spot = after_code p code s in
    let at : Lie p t.pc (bares (Jz r 1 ∷ Jmp to ∷ Jmp other ∷ [])) = lie_behind p s.pc code _ t.pc has (code_ends p code s) in
    goes_acts p x (length code) 2 most s t (record e { atoms = [] }) e.atoms e.atoms (subst (λ a. Goes p (length code) s t a) atoms (goes_code p code s (lie_front p s.pc code _ has) ok))
    (fork_then p x 0 2 r to other t (record e { atoms = [] }) b at is (arrived p x 0 _ _ fixed goal stored counts refl) (omega arith)) few (append-nil e.atoms)

pub branch_acts : (p : Program) (x : Fixed) (most : ℕ) (code : List Line) (r to other : ℕ) (s : Spot) (b : Bool)
    → Lie p s.pc (code ++ bares (Jz r 1 ∷ Jmp to ∷ Jmp other ∷ []))
    → ready p code s ≡ true → HasFixed x (after_code p code s) → ((after_code p code s).regs r == 0) ≡ b
    → (after_code p code s).store ≡ s.store → (after_code p code s).issued ≡ s.issued → code_atoms p code s ≡ [] → length code + 2 ≤ most
    → Acts p x most s (record { pc = if b then other else to; store = s.store; issued = s.issued; atoms = [] })
branch_acts p x most code r to other s b has ok fixed is stored counts quiet few =
    fork_acts p x most code r to other s (record { pc = if b then other else to; store = s.store; issued = s.issued; atoms = [] }) b has ok fixed is refl stored counts quiet few

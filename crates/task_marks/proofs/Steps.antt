-- Where each instruction that may be reached leads, and the marks of a run that goes by it.
use Rattle.std.specs.Prelude.{◌≡◌, ℕ, zero, suc, ◌+◌, ◌-◌, ◌==◌, Bool, true, false, List, [], ◌∷◌, ◌++◌, Option, Some, None, if◌then◌else◌, ⊤, refl}
use Rattle.std.specs.Option.{option_map}
use Rattle.std.proofs.Common.{ap, sym, ◌∙◌, append_assoc, arith, subst}
use Rattle.devices.specs.declared.event.Event.{Event}
use Rattle.devices.specs.declared.world.PowerRow.{PowerRow}
use Rattle.fram_ram.specs.Engine.{advanced, moved_word}
use Rattle.fram_ram.specs.Engine as engine
use Rattle.fram_ram.specs.Memories.{failed}
use Rattle.word_isa.specs.Marks.{mark_at}
use Rattle.word_isa.specs.declared.instr.Instr.{Instr}
use Rattle.word_isa.specs.declared.instr.Instr.TheVariants.{Halt, Ldi, Jmp, Jz, Dma, Trap}
use Rattle.word_isa.specs.declared.mark.Mark.{Mark}
use Rattle.word_isa.specs.declared.mark.MarkKind.{MarkKind}
use Rattle.word_isa.specs.declared.mark.MarkKind.TheVariants as mark
use Rattle.word_machine.specs.Events.{copied_event, event, event_at, event_next, fetched_event, marked, moved_event, stepped_next, told, unless_fault}
use Rattle.word_machine.specs.Instructions.{act, fault}
use Rattle.word_machine.specs.Runs.{fail_behind, fail_behind_at, is_running}
use Rattle.word_machine.specs.State.{Program, State, all_registers, sign_of, start}
use Rattle.word_machine.specs.Step.{can_move, done, exec, fail, fail_at, fetched, moved, step, step_at}
use Rattle.word_machine.specs.declared.cell.Sign.{Sign}
use Rattle.word_machine.specs.declared.ending.Ending.{Ending}
use Rattle.word_machine.specs.declared.ending.Ending.TheVariants.{Running, Halted, Trapped}
use Rattle.word_machine.specs.declared.stepped.Stepped.{Stepped}
use Rattle.word_machine.specs.declared.stepped.Stepped.TheVariants as stepped
use Rattle.task_marks.specs.Told.{told_at, mark_told, marks_in, marks_on, begun_by, IsOfBegun, AtTheirTasks}

-- ---- what is known of an instruction that may be reached

-- a mark of another kind than a begin's, which names the task that began last
abbrev pub Names : MarkKind → (task : ℕ) → (begun : Option ℕ) → Type 0
Names mark.Begin task begun = ⊥
Names kind task begun = begun ≡ Some task

abbrev pub IfMarked : Option Mark → (begun : Option ℕ) → Type 0
IfMarked None begun = ⊤
IfMarked (Some m) begun = Names m.kind m.task begun

-- the addresses that an instruction leads to
abbrev pub Leads : (May : ℕ → Type 0) → (at : ℕ) → Instr → Type 0
Leads May at Halt = ⊤
Leads May at (Trap code) = ⊤
Leads May at (Jmp t) = May t
Leads May at (Jz a m) = May (at + 1) × May (at + 1 + m)
Leads May at _ = May (at + 1)

-- a begin's mark, behind which its task has begun
pub record Begins (May : Option ℕ → ℕ → Type 0) (at : ℕ) (i : Instr) (m : Option Mark) : Type 0 where
  pub task : ℕ
  pub by : ℕ
  pub place : ℕ
  pub word : ℕ
  pub marked : m ≡ Some (record { at = place; kind = mark.Begin; site = task; task = by })
  pub loads : i ≡ Ldi 1 word
  pub leads : May (Some task) (at + 1)

-- an instruction that goes on within the task that began last
pub record Goes (May : Option ℕ → ℕ → Type 0) (begun : Option ℕ) (at : ℕ) (i : Instr) (m : Option Mark) : Type 0 where
  pub named : IfMarked m begun
  pub leads : Leads (May begun) at i

pub data Fares (May : Option ℕ → ℕ → Type 0) (begun : Option ℕ) (at : ℕ) (i : Instr) (m : Option Mark) : Type 0 where
  begins : Begins May at i m → Fares May begun at i m
  goes : Goes May begun at i m → Fares May begun at i m

-- ---- one step

kind_named : (k : MarkKind) (task site : ℕ) (b : Option ℕ) → Names k task b → IsOfBegun k task b × (begun_by k site b ≡ b)
kind_named mark.Begin task site b h = absurd h
kind_named mark.Look task site b h = (h, refl)
kind_named mark.Kept task site b h = (h, refl)
kind_named mark.Drop task site b h = (h, refl)
kind_named mark.Issue task site b h = (h, refl)
kind_named mark.Seal task site b h = (h, refl)
kind_named mark.Copy task site b h = (h, refl)
kind_named mark.Commit task site b h = (h, refl)

-- what is told at such a mark changes nothing
told_within : (x : Stepped) (m : Option Mark) (b : Option ℕ) (rest : List Mark) → IfMarked m b → AtTheirTasks b rest → AtTheirTasks b (mark_told x m ++ rest)
told_within (stepped.Ran None) m b rest named h = h
told_within (stepped.Ran (Some e)) None b rest named h = h
told_within (stepped.Ran (Some e)) (Some m) b rest named h =
    let both = kind_named m.kind m.task m.site b named in
    (both.0, subst (λ (x : Option ℕ). AtTheirTasks x rest) (sym both.1) h)
told_within stepped.Halted m b rest named h = h
told_within (stepped.Trapped code) m b rest named h = h

-- a machine that goes on stands where it may, and the copy whose words it moves is the begun task's
record Stays (marks : List Mark) (May : Option ℕ → ℕ → Type 0) (begun : Option ℕ) (s : State) : Type 0 where
  there : May begun s.pc
  moving : (s.engine.left == 0) ≡ false → IfMarked (mark_at marks (s.pc - 1)) begun

module _ (marks : List Mark) (p : Program) (May : Option ℕ → ℕ → Type 0) where
  abbrev StaysIf : Ending → Option ℕ → State → Type 0
  StaysIf Running b s = Stays marks May b s
  StaysIf Halted b s = ⊤
  StaysIf (Trapped code) b s = ⊤

  abbrev Holds : Option ℕ → State → Type 0
  Holds b s = StaysIf s.ending b s

  stays_if : (e : Ending) (b : Option ℕ) (s : State) → Stays marks May b s → StaysIf e b s
  stays_if Running b s h = h
  stays_if Halted b s h = tt
  stays_if (Trapped code) b s h = tt

  -- these marks are told on the way to a state, with which it goes on
  record Tells (b : Option ℕ) (told : List Mark) (after : State) : Type 0 where
    behind : Option ℕ
    names : (rest : List Mark) → AtTheirTasks behind rest → AtTheirTasks b (told ++ rest)
    holds : Holds behind after

  within : (x : Stepped) (m : Option Mark) (b : Option ℕ) (after : State) → IfMarked m b → Holds b after → Tells b (mark_told x m) after
  within x m b after named h = record { behind = b; names = λ rest others. told_within x m b rest named others; holds = h }

  -- an instruction that begins a task
  begun_tells : (e : Ending) (o : Option Sign) (m : Option Mark) (at task by : ℕ) (b : Option ℕ) (after : State) → e ≡ Running → o ≡ Some (record { kind = mark.Begin; site = task })
      → m ≡ Some (record { at = at; kind = mark.Begin; site = task; task = by }) → Holds (Some task) after → Tells b (mark_told (told e (marked o 0)) m) after
  begun_tells e o m at task by b after running sign is h =
      let same : mark_told (told e (marked o 0)) m ≡ record { at = at; kind = mark.Begin; site = task; task = by } ∷ [] = (λ j. mark_told (told (running j) (marked (sign j) 0)) (is j)) in
      subst (λ (told : List Mark). Tells b told after) (sym same) (record { behind = Some task; names = λ rest others. (tt, others); holds = h })

  -- an instruction that goes on
  abbrev next : Instr → State → State
  next i s = record (act p.values i (record s { pc = s.pc + 1 })) { clock = s.clock + 1 }

  goes_on : (i : Instr) (b : Option ℕ) (s : State) → (s.engine.left == 0) ≡ true → fault i s ≡ None → IfMarked (mark_at marks s.pc) b → Leads (May b) s.pc i → Holds b (next i s)
  goes_on Halt b s idle safe named leads = tt
  goes_on (Trap code) b s idle safe named leads = absurd (cc safe)
  goes_on (Jmp t) b s idle safe named leads = stays_if s.ending b (next (Jmp t) s) (record { there = leads; moving = λ no. absurd (cc) })
  goes_on (Jz a m) b s idle safe named leads = by (s.regs a == 0)
    where
      by : (x : Bool) → StaysIf s.ending b (record s { pc = if x then s.pc + 1 + m else s.pc + 1; clock = s.clock + 1 })
      by true = stays_if s.ending b (record s { pc = s.pc + 1 + m; clock = s.clock + 1 }) (record { there = leads.1; moving = λ no. absurd (cc) })
      by false = stays_if s.ending b (record s { pc = s.pc + 1; clock = s.clock + 1 }) (record { there = leads.0; moving = λ no. absurd (cc) })
  goes_on (Dma a d n) b s idle safe named leads =
      let back : s.pc ≡ s.pc + 1 - 1 = omega arith in
      stays_if s.ending b (next (Dma a d n) s) (record { there = leads; moving = λ no. subst (λ (at : ℕ). IfMarked (mark_at marks at) b) back named })
  goes_on i b s idle safe named leads = stays_if s.ending b (next i s) (record { there = leads; moving = λ no. absurd (cc) })

  module _ (signs : (at : ℕ) → p.mark at ≡ option_map sign_of (mark_at marks at)) (closed : (b : Option ℕ) (at : ℕ) (i : Instr) → May b at → p.instr at ≡ Some i → Fares May b at i (mark_at marks at)) where
    -- what is told of a step that leads to a state
    abbrev Telling : Option ℕ → Option Event → (at : ℕ) → State → Type 0
    Telling b e at after = Tells b (mark_told (told after.ending e) (mark_at marks at)) after

    fares_tells : (i : Instr) (b : Option ℕ) (s : State) → s.ending ≡ Running → (s.engine.left == 0) ≡ true → fault i s ≡ None → Fares May b s.pc i (mark_at marks s.pc)
        → Telling b (event p.values (p.mark s.pc) i s) s.pc (next i s)
    fares_tells i b s running idle safe (goes h) = within (told (next i s).ending (event p.values (p.mark s.pc) i s)) (mark_at marks s.pc) b (next i s) h.named (goes_on i b s idle safe h.named h.leads)
    fares_tells i b s running idle safe (begins h) =
        subst (λ (x : Instr). Telling b (event p.values (p.mark s.pc) x s) s.pc (next x s)) (sym h.loads)
        (begun_tells s.ending (p.mark s.pc) (mark_at marks s.pc) h.place h.task h.by b (next (Ldi 1 h.word) s) running (signs s.pc ∙ ap (option_map sign_of) h.marked) h.marked
        (stays_if s.ending (Some h.task) (next (Ldi 1 h.word) s) (record { there = h.leads; moving = λ no. absurd (cc) })))

    safe_tells : (i : Instr) (f : Option ℕ) (b : Option ℕ) (s : State) → fault i s ≡ f → s.ending ≡ Running → (s.engine.left == 0) ≡ true → Fares May b s.pc i (mark_at marks s.pc)
        → Telling b (unless_fault f (event p.values (p.mark s.pc) i s)) s.pc (record (done p.values i f (record s { pc = s.pc + 1 })) { clock = s.clock + 1 })
    safe_tells i None b s is running idle h = fares_tells i b s running idle is h
    safe_tells i (Some code) b s is running idle h = record { behind = b; names = λ rest others. others; holds = tt }

    fetched_tells : (o : Option Instr) (b : Option ℕ) (s : State) → p.instr s.pc ≡ o → s.ending ≡ Running → (s.engine.left == 0) ≡ true → Stays marks May b s
        → Telling b (fetched_event p o s) s.pc (record (fetched p o s) { clock = s.clock + 1 })
    fetched_tells None b s is running idle h = record { behind = b; names = λ rest others. others; holds = tt }
    fetched_tells (Some i) b s is running idle h = safe_tells i (fault i s) b s refl running idle (closed b s.pc i h.there is)

    -- the engine's next word
    moved_tells : (b : Option ℕ) (s : State) → May b s.pc → IfMarked (mark_at marks (s.pc - 1)) b → Telling b (moved_event p s) (s.pc - 1) (record (moved s) { clock = s.clock + 1 })
    moved_tells b s there named = by (can_move s)
      where
        by : (x : Bool) → Telling b (if x then copied_event p s else None) (s.pc - 1)
            (record (if x then record s { store = moved_word s.engine s.store; engine = advanced s.engine } else record s { ending = Trapped 16; engine = engine.idle }) { clock = s.clock + 1 })
        by true =
            let after : State = record s { store = moved_word s.engine s.store; engine = advanced s.engine; clock = s.clock + 1 } in
            within (told s.ending (copied_event p s)) (mark_at marks (s.pc - 1)) b after named (stays_if s.ending b after (record { there = there; moving = λ no. named }))
        by false = record { behind = b; names = λ rest others. others; holds = tt }

    worked_tells : (x : Bool) (b : Option ℕ) (s : State) → (s.engine.left == 0) ≡ x → s.ending ≡ Running → Stays marks May b s
        → Telling b (if x then fetched_event p (p.instr s.pc) s else moved_event p s) (if x then s.pc else s.pc - 1) (record (if x then fetched p (p.instr s.pc) s else moved s) { clock = s.clock + 1 })
    worked_tells true b s is running h = fetched_tells (p.instr s.pc) b s refl running is h
    worked_tells false b s is running h = moved_tells b s h.there (h.moving is)

    ending_tells : (e : Ending) (b : Option ℕ) (s : State) → s.ending ≡ e → StaysIf e b s → Tells b (mark_told (told (step_at p e s).ending (event_at p e s)) (mark_at marks (told_at s))) (step_at p e s)
    ending_tells Running b s is h = worked_tells (s.engine.left == 0) b s refl is h
    ending_tells Halted b s is h =
        subst (λ (told : List Mark). Tells b told s) (ap (λ (e : Ending). mark_told (told e None) (mark_at marks (told_at s))) (sym is))
        (record { behind = b; names = λ rest others. others; holds = subst (λ (e : Ending). StaysIf e b s) (sym is) tt })
    ending_tells (Trapped code) b s is h =
        subst (λ (told : List Mark). Tells b told s) (ap (λ (e : Ending). mark_told (told e None) (mark_at marks (told_at s))) (sym is))
        (record { behind = b; names = λ rest others. others; holds = subst (λ (e : Ending). StaysIf e b s) (sym is) tt })

    step_tells : (b : Option ℕ) (s : State) → Holds b s → Tells b (mark_told (stepped_next p s) (mark_at marks (told_at s))) (step p s)
    unfolding step stepped_next event_next
    step_tells b s h = ending_tells s.ending b s refl h

    -- ---- many steps, and power rows

    steps_tell : (n : ℕ) (b : Option ℕ) (s : State) → Holds b s → Tells b (marks_in marks p n s) (exec p n s)
    unfolding marks_in exec
    steps_tell zero b s h = record { behind = b; names = λ rest others. others; holds = h }
    steps_tell (suc n) b s h =
        let one = step_tells b s h in
        let more = steps_tell n one.behind (step p s) one.holds in
        record {
          behind = more.behind;
          names = λ rest others.
              subst (AtTheirTasks b) (sym (append_assoc (mark_told (stepped_next p s) (mark_at marks (told_at s))) (marks_in marks p n (step p s)) rest))
              (one.names (marks_in marks p n (step p s) ++ rest) (more.names rest others));
          holds = more.holds;
        }

    module _ (first : (b : Option ℕ) → May b 0) where
      failed_holds : (row : PowerRow) (b : Option ℕ) (s : State) → Holds b s → Holds b (fail_behind row s)
      unfolding fail
      failed_holds row b s h = by s.ending refl
        where
          begins_anew : State
          begins_anew = record s { pc = 0; regs = all_registers row.fill; store = failed s.store row.fill; engine = engine.idle; clock = s.clock + row.off }

          by : (e : Ending) → s.ending ≡ e → Holds b (fail_behind_at e row s)
          by Running is =
              subst (λ (e : Ending). Holds b (record (fail_at e row.fill s) { clock = s.clock + row.off })) (sym is)
              (stays_if s.ending b begins_anew (record { there = first b; moving = λ no. absurd (cc) }))
          by Halted is = subst (λ e. StaysIf e b s) (sym is) tt
          by (Trapped code) is = subst (λ e. StaysIf e b s) (sym is) tt

      if_there : (x : Bool) (b : Option ℕ) (told : List Mark) → AtTheirTasks b told → AtTheirTasks b (if x then told else [])
      if_there true b told h = h
      if_there false b told h = tt

      rows_tell : (rows : List PowerRow) (b : Option ℕ) (s : State) → Holds b s → AtTheirTasks b (marks_on marks p rows s)
      unfolding marks_on
      rows_tell [] b s h = tt
      rows_tell (row ∷ rows) b s h =
          let one = steps_tell row.on b s h in
          one.names _ (if_there (is_running (exec p row.on s).ending) one.behind (marks_on marks p rows (fail_behind row (exec p row.on s)))
          (rows_tell rows one.behind (fail_behind row (exec p row.on s)) (failed_holds row one.behind (exec p row.on s) one.holds)))

      pub run_tells : (rows : List PowerRow) (fram : List ℕ) → AtTheirTasks None (marks_on marks p rows (start fram))
      run_tells rows fram = rows_tell rows None (start fram) (record { there = first None; moving = λ no. absurd (cc) })

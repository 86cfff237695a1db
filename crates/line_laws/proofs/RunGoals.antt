-- One run before another, a jump behind a run, and a choice of two runs.
use Rattle.std.specs.Prelude.{not}
use Rattle.std.proofs.Common.{◌≡◌, ◌∙◌, ℕ, ◌+◌, ◌≤◌, true, false, List, [], ◌∷◌, ◌++◌, refl, sym, ap, subst, arith, append-nil, append_assoc}
use Rattle.word_isa.specs.declared.instr.Instr.TheVariants.{Eq, Jmp}
use Rattle.walk_run.specs.Trap.{code_of}
use Rattle.walk_run.specs.declared.trap.Trap.{Trap}
use Rattle.walk_run.specs.Operators.{holds, truth}
use Rattle.walk_run.specs.Plain.{Ran, done, trapped, and_then}
use Rattle.walk_run.specs.PlainSteps.{next_steps}
use Rattle.walk_run.specs.PlainWrites.{Write, sets, points, next_writes}
use Rattle.walk_run.specs.Store.{Store}
use Rattle.word_machine.specs.RunLaws.{exec_more, trace_more, step_jmp}
use Rattle.word_machine.specs.State.{Program}
use Rattle.word_machine.specs.Step.{exec}
use Rattle.word_machine.specs.Straight.{Stand, Spot, live, line}
use Rattle.word_machine.specs.Traces.{trace}
use Rattle.line_code.specs.Statements.{unless_code}
use Rattle.line_laws.specs.Gives.{Same, Goal, Gives, IsMetByTrap}
use Rattle.line_laws.specs.Goals.{HasStore, atoms_of, end_back, run_goal}
use Rattle.line_laws.specs.Relation.{Layout, Related}
use Rattle.line_laws.specs.Standing.{Lie}
use Rattle.line_laws.specs.GiveLaws.{come, gives_line, gives_most, gives_step}
use Rattle.line_laws.proofs.Jumps.{when_gives, jmp_seen, denial_open, denial_decided}
use Rattle.line_laws.proofs.Parts.{denied}
use Rattle.line_laws.proofs.Places.{related_same}

-- a goal of a run is met by a trap where nothing was written
pub run_trap : (l : Layout) (c pc : ℕ) (store : Store) (why : Trap) → IsMetByTrap (run_goal l c pc [] (trapped why store)) (code_of why)
run_trap l c pc store why s u atoms h = record { shown = h.quiet; ended = h.ended }

atoms_more : (l : Layout) (a b : List Write) → atoms_of l (a ++ b) ≡ atoms_of l a ++ atoms_of l b
atoms_more l [] b = refl
atoms_more l (sets at word ∷ a) b = rw (atoms_more l a b, append_assoc)
atoms_more l (points pointer at ∷ a) b = atoms_more l a b

-- one run before another
pub run_more : (p : Program) (m : ℕ) (k : Store → ℕ) (s : Spot) (l : Layout) (c mid pc : ℕ) (writes : List Write) (ran : Ran) (next : Store → List Write) (go : Store → Ran)
    → Gives p 0 m s (run_goal l c mid writes ran)
    → ((t : Spot) (store : Store) → ran ≡ done store → t.pc ≡ mid → Related l c t store → Gives p 0 (k store) t (run_goal l c pc (next store) (go store)))
    → Gives p 0 (m + next_steps ran k) s (run_goal l c pc (writes ++ next_writes ran next) (and_then ran go))
run_more p m k s l c mid pc writes (done store) next go g after =
    let e : HasStore l c mid store s g.there = g.met.ended in
    let h : Gives p 0 (k store) e.there (run_goal l c pc (next store) (go store)) = after e.there store refl e.arrives e.related in
    record {
      steps = g.steps + h.steps;
      few = omega (arith, g.few, h.few);
      there = h.there;
      atoms = atoms_of l (writes ++ next store);
      runs = exec_more p g.steps h.steps (live s) ∙ ap (exec p h.steps) (g.runs ∙ e.goes_on) ∙ h.runs;
      shows = trace_more p g.steps h.steps (live s)
          ∙ ap (λ x. x ++ trace p h.steps (exec p g.steps (live s))) (g.shows ∙ g.met.shown)
          ∙ ap (λ x. atoms_of l writes ++ x) (ap (trace p h.steps) (g.runs ∙ e.goes_on) ∙ h.shows ∙ h.met.shown)
          ∙ sym (atoms_more l writes (next store));
      met = record { shown = refl; ended = end_back l c pc (go store) s e.there h.there e.fixed e.kept h.met.ended };
    }
run_more p m k s l c mid pc writes (trapped why store) next go g after = record {
  steps = g.steps;
  few = omega (arith, g.few);
  there = g.there;
  atoms = g.atoms;
  runs = g.runs;
  shows = g.shows;
  met = record { shown = g.met.shown ∙ ap (atoms_of l) (sym (append-nil writes)); ended = g.met.ended };
}

-- a run that is there
pub run_there : (p : Program) (most : ℕ) (s : Spot) (l : Layout) (c pc : ℕ) (store : Store) → s.pc ≡ pc → Related l c s store → Gives p 0 most s (run_goal l c pc [] (done store))
run_there p most s l c pc store at related =
    come p 0 most s (run_goal l c pc [] (done store)) (record { shown = refl; ended = record { there = s; goes_on = refl; arrives = at; fixed = λ r k. refl; kept = λ a k. refl; related = related } })

-- a run before nothing
nothing_behind : (writes : List Write) (ran : Ran) → writes ++ next_writes ran (λ store. []) ≡ writes
nothing_behind writes (done store) = append-nil writes
nothing_behind writes (trapped why store) = append-nil writes

then_done : (ran : Ran) → and_then ran done ≡ ran
then_done (done store) = refl
then_done (trapped why store) = refl

one_most : (ran : Ran) → next_steps ran (λ store. 1) ≤ 1
one_most (done store) = omega arith
one_most (trapped why store) = omega arith

-- a jump behind a run
pub run_jump : (p : Program) (m : ℕ) (s : Spot) (l : Layout) (c mid pc : ℕ) (writes : List Write) (ran : Ran) → Gives p 0 m s (run_goal l c mid writes ran) → Stand p mid (Jmp pc) → Gives p 0 (m + 1) s (run_goal l c pc writes ran)
run_jump p m s l c mid pc writes ran g jump =
    let both = run_more p m (λ store. 1) s l c mid pc writes ran (λ store. []) done g
    (λ t store is at related.
    let stand : Stand p t.pc (Jmp pc) = rw at jump in
    let u : Spot = record t { pc = pc; clock = t.clock + 1 } in
    let same : Same 0 t u = record { fixed = λ r h. refl; kept = λ a h. refl } in
    gives_step p 0 0 1 t u (run_goal l c pc [] (done store)) (step_jmp p pc t stand) (jmp_seen p pc t stand) same
    (run_there p 0 u l c pc store refl (related_same l c 0 t u store related same)) (omega arith)) in
    gives_most p 0 (m + next_steps ran (λ store. 1)) (m + 1) s (run_goal l c pc writes ran)
    (subst (λ w. Gives p 0 (m + next_steps ran (λ store. 1)) s (run_goal l c pc w ran)) (nothing_behind writes ran)
    (subst (λ r. Gives p 0 (m + next_steps ran (λ store. 1)) s (run_goal l c pc (writes ++ next_writes ran (λ store. [])) r)) (then_done ran) both)) (omega (arith, one_most ran))

-- a jump where the word in register 1 is 0
pub unless_gives : (p : Program) (m most to w : ℕ) (s : Spot) (q : Goal 0)
    → Lie p s.pc (unless_code to) → s.regs 0 ≡ 0 → s.regs 1 ≡ w
    → (holds w ≡ true → (t : Spot) → t.pc ≡ s.pc + 3 → Same 0 s t → Gives p 0 m t q)
    → (holds w ≡ false → (t : Spot) → t.pc ≡ to → Same 0 s t → Gives p 0 m t q)
    → m + 3 ≤ most → Gives p 0 most s q
unless_gives p m most to w s q stands zero_is has yes_gives no_gives few =
    let u : Spot = line p (Eq 1 0 ∷ []) s in
    let same_u : Same 0 s u = record { fixed = λ r h. simp (h.one); kept = λ a h. refl } in
    let denial : u.regs 1 ≡ truth (not (holds w)) = rw has (denied w (s.regs 0) zero_is) in
    let stay : Same 0 u u = record { fixed = λ r h. refl; kept = λ a h. refl } in
    gives_line p 0 (m + 2) most (Eq 1 0 ∷ []) s q (stands.0, tt) (refl, refl, tt) refl same_u
    (when_gives p 0 m (m + 2) to (truth (not (holds w))) u q stands.1.0 stands.1.1.0 denial
    (λ is. yes_gives (denial_open w is) (record u { pc = u.pc + 1 + 1; clock = u.clock + 1 }) (omega arith) (record { fixed = same_u.fixed; kept = same_u.kept }))
    (λ more. no_gives (denial_decided w more) (record u { pc = to; clock = u.clock + 1 + 1 }) refl (record { fixed = same_u.fixed; kept = same_u.kept }))
    (omega arith))
    (omega (arith, few))

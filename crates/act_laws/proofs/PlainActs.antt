-- A statement without sites and the jump behind it.
use Rattle.std.specs.Prelude.{◌-◌}
use Rattle.std.proofs.Common.{◌≡◌, ◌∙◌, ℕ, ◌+◌, ◌<◌, ◌≤◌, List, [], ◌∷◌, ◌++◌, length, refl, sym, ap, append-nil, arith}
use Rattle.task_ast.specs.declared.core_form.CoreStmt.{CoreStmt}
use Rattle.task_ast.specs.WellFormed.{Scope}
use Rattle.walk_run.specs.Plain.{Ran, done, trapped, plain_done}
use Rattle.walk_run.specs.PlainSteps.{plain_steps}
use Rattle.walk_run.specs.PlainWrites.{Write, plain_writes}
use Rattle.walk_run.specs.Store.{Store}
use Rattle.word_isa.specs.declared.instr.Instr.TheVariants.{Jmp}
use Rattle.word_machine.specs.Events.{event_next}
use Rattle.word_machine.specs.RunLaws.{exec_more, trace_more, step_jmp}
use Rattle.word_machine.specs.State.{Program, State}
use Rattle.word_machine.specs.Step.{step, exec}
use Rattle.word_machine.specs.Straight.{Stand, Spot, live}
use Rattle.word_machine.specs.Traces.{Atom, seen, trace, writes_next}
use Rattle.line_code.specs.declared.line.Line.{Line}
use Rattle.line_code.specs.Sizes.{statement_size}
use Rattle.line_code.specs.Statements.{statement_code}
use Rattle.line_laws.specs.CodeSizes.{statement_long}
use Rattle.line_laws.specs.Gives.{Gives}
use Rattle.line_laws.specs.GiveLaws.{gives_most}
use Rattle.line_laws.specs.Goals.{HasStore, run_goal}
use Rattle.line_laws.specs.Relation.{Layout, Related}
use Rattle.line_laws.specs.Standing.{Lie, lie_front, lie_behind}
use Rattle.line_laws.specs.Works.{StmtWorks}
use Rattle.word_code.specs.Acts.{jump}
use Rattle.act_laws.specs.Values.{PlainDoes}

-- the relation doesn't look at the counter and the clock
moved : (l : Layout) (c pc clock : ℕ) (s : Spot) (store : Store) → Related l c s store → Related l c (record s { pc = pc; clock = clock }) store
moved l c pc clock s store h = record {
  zero_is = h.zero_is;
  ram_is = h.ram_is;
  few = h.few;
  many = h.many;
  arrays = λ array. let a = h.arrays array in record {
    base = a.base;
    from = a.from;
    rooms = a.rooms;
    cells = λ i below. let x = a.cells i below in record { there = x.there; apart = x.apart; holds = x.holds; fits = x.fits };
  };
  pointers = h.pointers;
}

jmp_seen : (p : Program) (t : ℕ) (s : Spot) → Stand p s.pc (Jmp t) → seen p (live s) ≡ []
unfolding writes_next event_next
jmp_seen p t s stand = rw (stand.instr, stand.mark)

one_step : (p : Program) (s : State) → exec p 1 s ≡ step p s
unfolding exec
one_step p s = refl

one_trace : (p : Program) (s : State) → trace p 1 s ≡ seen p s ++ []
unfolding trace
one_trace p s = refl

-- a run, and the jump behind it
pub run_jump : (p : Program) (m : ℕ) (s : Spot) (l : Layout) (c mid pc : ℕ) (writes : List Write) (ran : Ran) → Gives p 0 m s (run_goal l c mid writes ran) → Stand p mid (Jmp pc) → Gives p 0 (m + 1) s (run_goal l c pc writes ran)
run_jump p m s l c mid pc writes (done store) g jump =
    let e : HasStore l c mid store s g.there = g.met.ended in
    let t : Spot = e.there in
    let stand : Stand p t.pc (Jmp pc) = rw e.arrives jump in
    let u : Spot = record t { pc = pc; clock = t.clock + 1 } in
    record {
      steps = g.steps + 1;
      few = omega (arith, g.few);
      there = live u;
      atoms = g.atoms;
      runs = exec_more p g.steps 1 (live s) ∙ ap (exec p 1) (g.runs ∙ e.goes_on) ∙ one_step p (live t) ∙ step_jmp p pc t stand;
      shows = trace_more p g.steps 1 (live s) ∙ ap (λ x. x ++ trace p 1 (exec p g.steps (live s))) g.shows
          ∙ ap (λ x. g.atoms ++ trace p 1 x) (g.runs ∙ e.goes_on) ∙ ap (λ x. g.atoms ++ x) (one_trace p (live t) ∙ ap (λ x. x ++ []) (jmp_seen p pc t stand)) ∙ append-nil g.atoms;
      met = record { shown = g.met.shown; ended = record { there = u; goes_on = refl; arrives = refl; fixed = e.fixed; kept = e.kept; related = moved l c pc (t.clock + 1) t store e.related } };
    }
run_jump p m s l c mid pc writes (trapped why store) g jump = record {
  steps = g.steps;
  few = omega (arith, g.few);
  there = g.there;
  atoms = g.atoms;
  runs = g.runs;
  shows = g.shows;
  met = record { shown = g.met.shown; ended = g.met.ended };
}

pub plain_acts : (works : (p : Program) (scope : Scope) (l : Layout) (s : CoreStmt) → StmtWorks p scope l s)
    → (p : Program) (scope : Scope) (l : Layout) (s : CoreStmt) (next : ℕ) (t : Spot) (store : Store) → PlainDoes p scope l s next t store
plain_acts works p scope l s next t store has apart related suits covers within some =
    let code : List Line = statement_code l.areas s t.pc in
    let last : Lie p (t.pc + statement_size s) (jump next) = lie_behind p t.pc code (jump next) (t.pc + statement_size s) has (omega (arith, statement_long l.areas s t.pc)) in
    gives_most p 0 (plain_steps s store - 1 + 1) (plain_steps s store) t (run_goal l scope.pointers next (plain_writes s store) (plain_done s store))
    (run_jump p (plain_steps s store - 1) t l scope.pointers (t.pc + statement_size s) next (plain_writes s store) (plain_done s store)
    (works p scope l s t.pc t store refl (lie_front p t.pc code (jump next) has) apart related suits covers within) last.0)
    (omega (arith, some))

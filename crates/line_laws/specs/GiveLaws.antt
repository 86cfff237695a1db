-- How a word's code is put together: lines, steps, traps, and one word's code before another's.
use Rattle.std.proofs.Common.{◌≡◌, ◌∙◌, ℕ, ◌+◌, ◌^◌, ◌<◌, ◌≤◌, false, List, [], ◌++◌, length, Some, Result, Ok, Err, refl, ap, arith}
use Rattle.std.proofs.lemmas.Bool.Decides.{nat_tests}
use Rattle.word_isa.specs.declared.instr.Instr.{Instr}
use Rattle.word_machine.specs.State.{Program}
use Rattle.word_machine.specs.Instructions.{fault}
use Rattle.word_machine.specs.Step.{step, exec}
use Rattle.word_machine.specs.Traces.{seen, trace}
use Rattle.word_machine.specs.Straight.{Stand, Stands, Spot, live, line, Straight, line_writes}
use Rattle.walk_run.specs.Trap.{code_of}
use Rattle.walk_run.specs.declared.trap.Trap.{Trap}
use Rattle.line_laws.specs.Gives.{is_temp, Same, Goal, Gives, HasWord, IsMetByTrap, word_goal}
use Rattle.word_machine.specs.RunLaws.{exec_more, trace_more, line_runs, line_shows, line_ends, step_trap, seen_trap}

shallower : (d e a : ℕ) → d ≤ e → is_temp d a ≡ false → is_temp e a ≡ false
shallower d e a deep h = grind (arith, nat_tests)

pub same_deeper : (d e : ℕ) (s t : Spot) → d ≤ e → Same e s t → Same d s t
same_deeper d e s t deep a = record { fixed = a.fixed; kept = λ x h. a.kept x (shallower d e x deep h) }

-- steps before what comes to a goal
pub gives_after : (p : Program) (d n m most : ℕ) (s t : Spot) (q : Goal d)
    → exec p n (live s) ≡ live t → trace p n (live s) ≡ [] → Same d s t → Gives p d m t q → n + m ≤ most → Gives p d most s q
gives_after p d n m most s t q runs quiet same g few = record {
  steps = n + g.steps;
  few = omega (arith, g.few);
  there = g.there;
  atoms = g.atoms;
  runs = exec_more p n g.steps (live s) ∙ ap (exec p g.steps) runs ∙ g.runs;
  shows = trace_more p n g.steps (live s) ∙ ap (λ x. x ++ trace p g.steps (exec p n (live s))) quiet ∙ ap (trace p g.steps) runs ∙ g.shows;
  met = q.back s t g.there g.atoms same g.met;
}

-- within more steps
pub gives_most : (p : Program) (d m most : ℕ) (s : Spot) (q : Goal d) → Gives p d m s q → m ≤ most → Gives p d most s q
gives_most p d m most s q g few = record { steps = g.steps; few = omega (arith, g.few); there = g.there; atoms = g.atoms; runs = g.runs; shows = g.shows; met = g.met }

-- a line before what comes to a goal
pub gives_line : (p : Program) (d m most : ℕ) (is : List Instr) (s : Spot) (q : Goal d)
    → Stands p s.pc is → Straight p is s → line_writes p is s ≡ [] → Same d s (line p is s) → Gives p d m (line p is s) q → length is + m ≤ most → Gives p d most s q
gives_line p d m most is s q stands straight quiet same g few =
    gives_after p d (length is) m most s (line p is s) q (line_runs p is s stands straight) (line_shows p is s stands straight ∙ quiet) same g few

-- a step before what comes to a goal
pub gives_step : (p : Program) (d m most : ℕ) (s t : Spot) (q : Goal d)
    → step p (live s) ≡ live t → seen p (live s) ≡ [] → Same d s t → Gives p d m t q → 1 + m ≤ most → Gives p d most s q
unfolding exec trace
gives_step p d m most s t q runs quiet same g few = gives_after p d 1 m most s t q runs (ap (λ x. x ++ []) quiet) same g few

-- a goal that is met
pub come : (p : Program) (d most : ℕ) (s : Spot) (q : Goal d) → q.met s (live s) [] → Gives p d most s q
unfolding exec trace
come p d most s q met = record { steps = 0; few = omega arith; there = live s; atoms = []; runs = refl; shows = refl; met = met }

-- a word that is there
pub arrived : (p : Program) (d most : ℕ) (s : Spot) (pc word : ℕ) → s.pc ≡ pc → s.regs 1 ≡ word → word < 2 ^ 32 → Gives p d most s (word_goal d pc (Ok word))
arrived p d most s pc word at has fits =
    come p d most s (word_goal d pc (Ok word))
    (record { there = s; goes_on = refl; at = at; has = has; fits = fits; same = record { fixed = λ r h. refl; kept = λ a h. refl }; quiet = refl })

-- an instruction that traps
pub gives_trap : (p : Program) (d most : ℕ) (i : Instr) (s : Spot) (q : Goal d) (code : ℕ) → Stand p s.pc i → fault i (live s) ≡ Some code → IsMetByTrap q code → 1 ≤ most → Gives p d most s q
unfolding exec trace
gives_trap p d most i s q code stand e met few = record {
  steps = 1;
  few = few;
  there = step p (live s);
  atoms = [];
  runs = refl;
  shows = ap (λ x. x ++ []) (seen_trap p i code s stand e);
  met = met s (step p (live s)) [] (record { ended = step_trap p i code s stand e; quiet = refl });
}

-- the code of a word, which may write deeper cells alone, before what goes on with it
pub gives_then_deeper : (p : Program) (d e m k most : ℕ) (s : Spot) (mid : ℕ) (q : Result ℕ Trap → Goal d) (r : Result ℕ Trap)
    → d ≤ e → Gives p e m s (word_goal e mid r)
    → ((word : ℕ) (t : Spot) → t.pc ≡ mid → t.regs 1 ≡ word → word < 2 ^ 32 → Same e s t → Gives p d k t (q (Ok word)))
    → ((why : Trap) → IsMetByTrap (q (Err why)) (code_of why))
    → m + k ≤ most
    → Gives p d most s (q r)
gives_then_deeper p d e m k most s mid q (Ok word) deep g go stop few =
    let w : HasWord e mid word s g.there g.atoms = g.met in
    gives_after p d g.steps k most s w.there (q (Ok word)) (g.runs ∙ w.goes_on) (g.shows ∙ w.quiet) (same_deeper d e s w.there deep w.same)
    (go word w.there w.at w.has w.fits w.same) (omega (arith, g.few))
gives_then_deeper p d e m k most s mid q (Err why) deep g go stop few =
    record { steps = g.steps; few = omega (arith, g.few); there = g.there; atoms = g.atoms; runs = g.runs; shows = g.shows; met = stop why s g.there g.atoms g.met }

-- the code of a word before what goes on with it
pub gives_then : (p : Program) (d m k most : ℕ) (s : Spot) (mid : ℕ) (q : Result ℕ Trap → Goal d) (r : Result ℕ Trap)
    → Gives p d m s (word_goal d mid r)
    → ((word : ℕ) (t : Spot) → t.pc ≡ mid → t.regs 1 ≡ word → word < 2 ^ 32 → Same d s t → Gives p d k t (q (Ok word)))
    → ((why : Trap) → IsMetByTrap (q (Err why)) (code_of why))
    → m + k ≤ most
    → Gives p d most s (q r)
gives_then p d m k most s mid q r g go stop few = gives_then_deeper p d d m k most s mid q r (omega arith) g go stop few

-- a line that leaves a word
pub line_gives : (p : Program) (d most : ℕ) (is : List Instr) (s : Spot) (word : ℕ)
    → Stands p s.pc is → Straight p is s → line_writes p is s ≡ [] → Same d s (line p is s) → (line p is s).regs 1 ≡ word → word < 2 ^ 32 → length is ≤ most
    → Gives p d most s (word_goal d (s.pc + length is) (Ok word))
line_gives p d most is s word stands straight quiet same has fits few =
    gives_line p d 0 most is s (word_goal d (s.pc + length is) (Ok word)) stands straight quiet same
    (arrived p d 0 (line p is s) (s.pc + length is) word (line_ends p is s) has fits) (omega arith)

-- a line at whose end a goal is met
pub line_comes : (p : Program) (d most : ℕ) (is : List Instr) (s : Spot) (q : Goal d)
    → Stands p s.pc is → Straight p is s → q.met s (live (line p is s)) (line_writes p is s) → length is ≤ most → Gives p d most s q
line_comes p d most is s q stands straight met few = record {
  steps = length is;
  few = few;
  there = live (line p is s);
  atoms = line_writes p is s;
  runs = line_runs p is s stands straight;
  shows = line_shows p is s stands straight;
  met = met;
}

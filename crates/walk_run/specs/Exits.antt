-- An exit by itself, over the store alone.
use Rattle.std.specs.Prelude.{◌≡◌, ℕ, zero, suc, List, Result, Ok, Err}
use Rattle.std.proofs.Common.{refl, ap}
use Rattle.ease_base.specs.Found.{with_found}
use Rattle.task_ast.specs.declared.core_form.CoreExpr.{CoreExpr}
use Rattle.task_ast.specs.declared.core_form.CoreExit.{CoreExit, end_of-CoreExit, more_of-CoreExit}
use Rattle.task_ast.specs.declared.core_form.CoreExit.TheVariants as exit
use Rattle.task_ast.specs.declared.core_form.CoreExit.TheBlock.{hidden-the_row-CoreExit-0, shape-the_row-CoreExit-0}
use Rattle.walk_run.specs.declared.trap.Trap.{Trap}
use Rattle.walk_run.specs.declared.walked.EarlyEnd.{EarlyEnd}
use Rattle.walk_run.specs.Store.{Store}
use Rattle.walk_run.specs.Value.{value_of}
use Rattle.walk_run.specs.Plain.{chosen}
use Rattle.walk_run.specs.Walk.{Onward, on_found, exit_walk}
use denote.Hole.Carrier.{hidden}

-- the task to which an exit leads, numbered from 1; 0 stands for STOP
abbrev pub next_of : CoreExit → Store → Result ℕ Trap
next_of (exit.Next t) store = Ok t
next_of exit.Stop store = Ok 0
next_of (exit.Choose' c u (more_of-CoreExit a end_of-CoreExit) v (more_of-CoreExit b end_of-CoreExit)) store =
    with_found (value_of c store) (λ word. chosen word (next_of a store) (next_of b store))

-- a choice of exits
pub next_at_choose : (e : CoreExit) (store : Store) (c : CoreExpr) (a b : CoreExit) → e ≡ exit.Choose c a b
    → next_of e store ≡ with_found (value_of c store) (λ word. chosen word (next_of a store) (next_of b store))
unfolding hidden-the_row-CoreExit-0 shape-the_row-CoreExit-0 hidden
next_at_choose e store c a b is = ap (λ x. next_of x store) is

module _ {W : Type 0} (halt : EarlyEnd → Store → W) where
  -- the branch that is taken
  branch_leads : (r : Result ℕ Trap) (a b : Result ℕ Trap) (f g : Onward W) (go : ℕ → Onward W) (store : Store) (readings : List ℕ)
      → f store readings ≡ on_found halt a go store readings → g store readings ≡ on_found halt b go store readings
      → on_found halt r (λ word. chosen word f g) store readings ≡ on_found halt (with_found r (λ word. chosen word a b)) go store readings
  branch_leads (Ok zero) a b f g go store readings yes_leads no_leads = no_leads
  branch_leads (Ok (suc n)) a b f g go store readings yes_leads no_leads = yes_leads
  branch_leads (Err trap) a b f g go store readings yes_leads no_leads = refl

  -- an exit runs as it does by itself
  pub exit_runs : (e : CoreExit) (go : ℕ → Onward W) (store : Store) (readings : List ℕ) → exit_walk halt e go store readings ≡ on_found halt (next_of e store) go store readings
  exit_runs (exit.Next t) go store readings = refl
  exit_runs exit.Stop go store readings = refl
  exit_runs (exit.Choose' c u (more_of-CoreExit a end_of-CoreExit) v (more_of-CoreExit b end_of-CoreExit)) go store readings =
      branch_leads (value_of c store) (next_of a store) (next_of b store) (exit_walk halt a go) (exit_walk halt b go) go store readings
      (exit_runs a go store readings) (exit_runs b go store readings)

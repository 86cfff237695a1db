-- What laws on two runs of a task say.
use Rattle.std.specs.Prelude.{◌≡◌, ℕ, true, ⊤, None}
use Rattle.task_ast.specs.declared.core_form.CoreTask.{CoreTask}
use Rattle.walk_run.specs.Store.{Store, pointed}
use Rattle.io_depend.specs.Sets.{has}
use Rattle.io_depend.specs.Depend.{flow}
use Rattle.io_flow.specs.Replay.{Upto, over, met, stopped}

-- Two runs that look for a site agree: both meet it and value it the same, or neither meets it. Of a run that traps
-- before it, nothing is said.
abbrev pub AgreeAt : Upto → Upto → Type 0
AgreeAt (met v) (met w) = v ≡ w
AgreeAt (met v) (over y) = ⊥
AgreeAt (over x) (met w) = ⊥
AgreeAt (over x) (over y) = ⊤
AgreeAt (met v) (stopped why) = ⊤
AgreeAt (over x) (stopped why) = ⊤
AgreeAt (stopped why) u = ⊤

-- two runs have the same reading at each I/O site from which a site is found
abbrev pub AgreeInto : CoreTask → (site : ℕ) → (readings readings' : ℕ → ℕ) → Type 0
AgreeInto t k r r' = (a : ℕ) → has (flow t a).sites k ≡ true → r a ≡ r' a

-- no pointer points to anything, as an attempt begins
abbrev pub PointsNowhere : Store → Type 0
PointsNowhere store = (p : ℕ) → pointed store p ≡ None

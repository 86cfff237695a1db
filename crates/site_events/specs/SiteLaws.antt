-- What is claimed of the acts of sites: of writes of records' cells, and of the acts of a call, of a block and of a copy.
use Rattle.std.specs.Prelude.{◌≡◌, ⊤, ℕ, ◌+◌, ◌<◌, ◌≤◌, Bool, List, [], ◌∷◌, Option, Some, false}
use Rattle.std.specs.List.{AllByRecursion}
use Rattle.task_ast.specs.declared.tree.Ann.{Ann}
use Rattle.task_ast.specs.declared.core_form.CoreExpr.{CoreExpr}
use Rattle.task_ast.specs.declared.core_form.CoreEnd.{CoreEnd}
use Rattle.task_ast.specs.declared.core_form.CoreTarget.{CoreTarget}
use Rattle.task_ast.specs.declared.core_form.CoreStmt.TheVariants as stmt
use Rattle.task_ast.specs.declared.core_form.CoreTask.{CoreTask}
use Rattle.task_ast.specs.declared.core_form.Site.TheVariants as site
use Rattle.task_ast.specs.CoreSites.{greatest}
use Rattle.task_ast.specs.Pointing.{pointing}
use Rattle.task_ast.specs.WellFormed.{IsCoreStmt, scope_of}
use Rattle.region_split.specs.Regions.{region_of, regions}
use Rattle.region_split.specs.Owners.{all_first}
use Rattle.io_annot.specs.declared.choice.Mode.{Mode}
use Rattle.walk_run.specs.Store.{Store}
use Rattle.task_attempts.specs.State.{Rest}
use Rattle.task_attempts.specs.Along.{setting_of}
use Rattle.task_attempts.specs.Calls.{site_at, call_log}
use Rattle.task_attempts.specs.Blocks.{block_log}
use Rattle.task_attempts.specs.Copies.{copy_log}
use Rattle.task_attempts.specs.Boots.{task_of}
use Rattle.run_plan.specs.declared.act.Act.{Act}
use Rattle.run_plan.specs.Cells.{CellWrite, puts_value, puts_stamp, puts_class, puts_to, puts_from, puts_length}
use Rattle.run_plan.specs.Finding.{statement_of}
use Rattle.run_plan.specs.PlanOf.{around, call_acts, block_acts, copy_acts}
use Rattle.run_plan.specs.Runs.{Small, Onward, Planned, at_task, doing, acts_run}
use Rattle.site_events.specs.Follows.{Outer, Beside, Inside, Follows}

-- a write of a cell of a site's record, its flag and its kept words left out
abbrev pub IsCellOf : (site : ℕ) → CellWrite → Type 0
IsCellOf k (puts_value j word) = j ≡ k
IsCellOf k (puts_stamp j time) = j ≡ k
IsCellOf k (puts_class j class) = j ≡ k
IsCellOf k (puts_to j at) = j ≡ k
IsCellOf k (puts_from j at) = j ≡ k
IsCellOf k (puts_length j n) = j ≡ k
IsCellOf k w = ⊥

-- a call of a task, well formed, is the statement of its site
pub record IsCallOf (p : Planned) (number : ℕ) (t : CoreTask) (k : ℕ) (ann : Ann) (target : Option CoreTarget) (q : ℕ) (args : List CoreExpr) : Type 0 where
  pub there : task_of p.rules.core number ≡ Some t
  pub standing : site_at t.sites k ≡ Some (site.Io ann)
  pub found : statement_of (doing p number t) k ≡ Some (stmt.Io k target q args)
  pub level : ℕ
  pub branched : Bool
  pub formed : IsCoreStmt (scope_of p.rules.core t) level branched [] (stmt.Io k target q args)

-- nothing is asked of small steps
abbrev pub Anything : (committed : Store) → Small → Type 0
Anything committed x = ⊤

-- a block around: its site, the mode outside, and the time of its look
pub record Noted : Type 0 where
  pub site : ℕ
  pub outside : Mode
  pub time : ℕ

-- these blocks are noted
abbrev pub AreNoted : List Noted → Outer
AreNoted [] m o b n = ⊤
AreNoted (x ∷ blocks) m o b n = (o x.site ≡ Some x.outside) × (b x.site ≡ Some x.time) × AreNoted blocks m o b n

-- from every place where these blocks are noted the acts before some others do what the rules say
abbrev pub Does : (p : Planned) → (fuel number : ℕ) → CoreTask → Outer → Onward → Rest → Type 0
Does p fuel number t P go rest = Follows p Anything fuel number t (Beside P) 0 go rest

-- What comes behind a call's acts and the rules' log behind it is any; if it goes on as the rules say, so do the acts of the
-- call before it, cut behind whatever small step.
abbrev pub CallsDo : Planned → Type 0
CallsDo p = (fuel number : ℕ) (t : CoreTask) (again : Onward) (blocks : List Noted) (k : ℕ) (ann : Ann) (target : Option CoreTarget) (q : ℕ) (args : List CoreExpr) (go : Onward) (rest : Rest)
    → IsCallOf p number t k ann target q args → Does p fuel number t (AreNoted blocks) go rest
    → Does p fuel number t (AreNoted blocks) (acts_run (doing p number t) again (call_acts (around p.plan.scheme t) k) go) (call_log (setting_of p.rules t) k target q args rest)

-- the acts of a body do what the rules say of it, in the block of a site, whatever its modes and the time of its look
abbrev pub BodyDoes : (p : Planned) → (fuel number : ℕ) → CoreTask → (again : Onward) → Outer → (site : ℕ) → (body : List Act) → (inner : Rest → Rest) → Type 0
BodyDoes p fuel number t again P k body inner =
    (outside inside : Mode) (time : ℕ) (go : Onward) (rest : Rest) → Does p fuel number t (Inside P k outside inside time) go rest
    → Does p fuel number t (Inside P k outside inside time) (acts_run (doing p number t) again body go) (inner rest)

-- so do those of a block whose body does, behind blocks of earlier sites
abbrev pub BlocksDo : Planned → Type 0
BlocksDo p = (fuel number : ℕ) (t : CoreTask) (again : Onward) (blocks : List Noted) (k : ℕ) (ann : Ann) (body : List Act) (inner : Rest → Rest) (go : Onward) (rest : Rest)
    → task_of p.rules.core number ≡ Some t → site_at t.sites (k + 1) ≡ Some (site.Block ann) → AllByRecursion (λ n. n.site ≤ k) blocks
    → BodyDoes p fuel number t again (AreNoted blocks) (k + 1) body inner → Does p fuel number t (AreNoted blocks) go rest
    → Does p fuel number t (AreNoted blocks) (acts_run (doing p number t) again (block_acts (k + 1) body) go) (block_log (setting_of p.rules t) (k + 1) inner rest)

-- a copy of a task, well formed, is the statement of its site, and its region is one of the task
pub record IsCopyOf (p : Planned) (number : ℕ) (t : CoreTask) (k : ℕ) (to from : CoreEnd) (words : CoreExpr) : Type 0 where
  pub there : task_of p.rules.core number ≡ Some t
  pub standing : site_at t.sites k ≡ Some (site.Copy (greatest p.rules.core.arrays (pointing t) to from))
  pub found : statement_of (doing p number t) k ≡ Some (stmt.Copy k to from words)
  pub formed : IsCoreStmt (scope_of p.rules.core t) 1 false [] (stmt.Copy k to from words)
  pub region : region_of t k < regions t
  pub firsts : at_task p.plan.firsts number [] ≡ all_first p.rules.core t

-- these blocks are noted, and the copies up to some region have given their events
abbrev pub AreReached : List Noted → (regions : ℕ) → Outer
AreReached blocks r m o b n = AreNoted blocks m o b n × (r ≤ n + 1)

-- So do those of a copy, from where the copies of all earlier regions have given their events; behind it that of its own has.
abbrev pub CopiesDo : Planned → Type 0
CopiesDo p = (fuel number : ℕ) (t : CoreTask) (again : Onward) (blocks : List Noted) (k : ℕ) (to from : CoreEnd) (words : CoreExpr) (go : Onward) (rest : Rest)
    → IsCopyOf p number t k to from words → Does p fuel number t (AreReached blocks (region_of t k + 1)) go rest
    → Does p fuel number t (AreReached blocks (region_of t k)) (acts_run (doing p number t) again (copy_acts (around p.plan.scheme t) k) go) (copy_log (setting_of p.rules t) k to from words rest)

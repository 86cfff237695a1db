-- Which sites depend on an I/O site, and to which arrays a pointer may point (docs/LANGUAGE.md, "Dependence").
use Rattle.std.specs.Prelude.{ℕ, ◌+◌, ◌-◌, Bool, false, ◌==◌, List, length, filter}
use Rattle.std.specs.List.{range_with_len}
use Rattle.task_ast.specs.declared.core_form.CoreTask.{CoreTask}
use Rattle.task_ast.specs.declared.core_form.Core.{Core}
use Rattle.task_ast.specs.Pointing.{pointing}
use Rattle.io_depend.specs.Sets.{has}
use Rattle.io_depend.specs.Flow.{Carrying, all_passed, no_carrying}

-- the pass over a task for one of its I/O sites
abbrev pub flow : CoreTask → (site : ℕ) → Carrying
flow t site = all_passed (pointing t) (λ k. k == site) t.body false no_carrying

-- the sites later than an I/O site that depend on it, ascending
abbrev pub dependents : CoreTask → (site : ℕ) → List ℕ
dependents t site = filter (has (flow t site).sites) (range_with_len (site + 1) (length t.sites - site))

-- whether a site depends on an I/O site
abbrev pub depends : CoreTask → (site k : ℕ) → Bool
depends t site k = has (dependents t site) k

-- the arrays to which a pointer of a task may point, ascending
abbrev pub points : Core → CoreTask → (pointer : ℕ) → List ℕ
points c t p = filter (has (pointing t p)) (range_with_len 0 (length c.arrays))

-- What a task's acts go by as its plan is written: what is told of its sites, by numbers that may be any.
use Rattle.std.specs.Prelude.{ℕ, min, Bool, true, false, List, [], ◌∷◌, filter, take}
use Rattle.std.specs.List.{range_with_len}
use Rattle.io_depend.specs.Told.{Told, tells_later}
use Rattle.region_split.specs.Regions.{copies}
use Rattle.run_plan.specs.declared.statements.Surroundings.{Surroundings}
use Rattle.run_plan.specs.PlanOf.{Around}

-- whether there is one
abbrev pub some : List ℕ → Bool
some [] = false
some (k ∷ ks) = true

-- the sites of so many that are told to depend on a site
abbrev pub later_told : Told → (many site : ℕ) → List ℕ
later_told d many k = filter (tells_later d k) (range_with_len 1 many)

-- what a task's acts go by, as it is told
abbrev pub told : Surroundings → Around
told s = record {
  scheme = s.scheme;
  dependents = later_told s.depends.now s.many;
  region = λ k. min (copies (take k s.sites.now)) 4294967295;
}

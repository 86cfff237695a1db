use Rattle.std.proofs.Common.{◌≡◌, take, map}
use Rattle.toml.specs.View.{view}
use Rattle.world_file.specs.WorldFile.{row_of}
use Rattle.world_file.proofs.parts.rows_in.Given as goal

abbrev pub invariant-values : goal.invariant-values
invariant-values l = l.rows ≡ map (λ v. row_of (view v)) (take l.value-index l.value-items)

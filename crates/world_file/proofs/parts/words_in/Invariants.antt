use Rattle.std.proofs.Common.{◌≡◌, take, map}
use Rattle.toml.specs.View.{view}
use Rattle.world_file.specs.WorldFile.{word_of}
use Rattle.world_file.proofs.parts.words_in.Given as goal

abbrev pub invariant-values : goal.invariant-values
invariant-values l = l.words ≡ map (λ v. word_of (view v)) (take l.value-index l.value-items)

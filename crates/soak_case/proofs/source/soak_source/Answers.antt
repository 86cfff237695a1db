-- It is short since it is that source.
use Rattle.std.specs.Prelude.{ℕ, List, ◌≤◌, length}
use Rattle.std.proofs.Common.{subst, sym}
use Rattle.soak_case.proofs.Lengths.{source_short}
use Rattle.soak_case.proofs.source.soak_source.Goals as goal

pub returns-clause-short : goal.returns-clause-short
returns-clause-short c = subst (λ (text : List ℕ). length text ≤ 65536) (sym c.in_ok-text.ensures) (source_short c.args.number)

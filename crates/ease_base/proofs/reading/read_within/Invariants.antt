use Rattle.std.proofs.Common.{◌≡◌, ◌+◌, ◌≤◌, ◌-◌, length, vec_len}
use Rattle.std.specs.Io.KnownBytes.{Consumes}
use Rattle.ease_base.proofs.reading.read_within.Given as goal

abbrev pub invariant-loop-piece : goal.invariant-loop-piece
invariant-loop-piece g l = (length l.piece ≡ 4096) × Consumes (g.R.Read.remaining l.initial.reader) (g.R.Read.remaining l.reader) l.into.items × (vec_len l.into ≤ l.initial.limit + 1)

abbrev pub decreases-loop-piece : goal.decreases-loop-piece
decreases-loop-piece g l = l.initial.limit + 1 - vec_len l.into

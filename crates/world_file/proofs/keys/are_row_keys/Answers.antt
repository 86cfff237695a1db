use Rattle.std.proofs.Common.{rules}
use Rattle.world_file.proofs.SeenLemmas.{all_pairs_seen}
use Rattle.world_file.specs.Tests.{is_row_key}
use Rattle.world_file.proofs.keys.are_row_keys.Goals as goal

pub returns-then-are_known : goal.returns-then-are_known
returns-then-are_known c =
    rw (all_pairs_seen (λ p. is_row_key p.0) c.args.row.now.entries, ← c.are_known.ensures, c.if-are_known.true) (search rules)

pub returns-else-are_known : goal.returns-else-are_known
returns-else-are_known c =
    rw (all_pairs_seen (λ p. is_row_key p.0) c.args.row.now.entries, ← c.are_known.ensures, c.if-are_known.false) (search rules)

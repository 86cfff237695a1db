use Rattle.std.proofs.Common.{rules}
use Rattle.world_file.proofs.SeenLemmas.{all_pairs_seen}
use Rattle.world_file.specs.Tests.{is_top_key}
use Rattle.world_file.proofs.keys.has_known_keys.Goals as goal

pub returns-then-are_top_keys : goal.returns-then-are_top_keys
returns-then-are_top_keys c =
    rw (all_pairs_seen (λ p. is_top_key p.0) c.args.top.now.entries, ← c.are_top_keys.ensures, c.if-are_top_keys.true) (search rules)

pub returns-else-are_top_keys : goal.returns-else-are_top_keys
returns-else-are_top_keys c =
    rw (all_pairs_seen (λ p. is_top_key p.0) c.args.top.now.entries, ← c.are_top_keys.ensures, c.if-are_top_keys.false) (search rules)

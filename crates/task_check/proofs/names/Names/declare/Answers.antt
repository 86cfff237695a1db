use Rattle.std.proofs.Common.{◌≡◌, false, is_some, arith}
use Rattle.std.proofs.lemmas.Map.Text.{hash_map_updates_str}
use Rattle.task_check.specs.Table.{meanings}
use Rattle.task_check.proofs.NameLemmas.{new_behind}
use Rattle.task_check.proofs.names.Names.declare.Goals as goal

pub returns-clause-declared : goal.returns-clause-declared
returns-clause-declared c =
    let new : is_some (meanings c.args.self.now c.args.text.now) ≡ false = grind arith in
    new_behind (meanings c.args.self.now) c.args.text.now c.args.meaning new _ (hash_map_updates_str c.args.text.now c.args.self.now.map c.insert.new.self _ c.in_ok-insert.ensures.updates)

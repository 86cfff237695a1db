-- The row that a list of acts has inside an act, for definitions by recursion on acts.
use Rattle.std.specs.Prelude.{◌≡◌, List}
use Rattle.run_plan.specs.declared.act.Act.{Act, Row_of-Act, end_of-Act, items-the_row-Act, items_hidden-the_row-Act-0}
use Rattle.run_plan.specs.declared.act.Act.TheVariants as act

-- the row of a block's end
abbrev leave_row : Act → (n : _) × Row_of-Act n
leave_row (act.Leave' k m row) = (_, row)
leave_row _ = (_, end_of-Act)

-- the row that a list of acts has inside an act
abbrev pub act_row_of : List Act → (n : _) × Row_of-Act n
act_row_of acts = leave_row (act.Leave 0 acts)

-- it shows the list
pub act_row_shows : (acts : List Act) → items-the_row-Act (act_row_of acts).0 (act_row_of acts).1 ≡ acts
act_row_shows acts = items_hidden-the_row-Act-0 acts

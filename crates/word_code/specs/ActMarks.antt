-- How many marks the code of acts has.
use Rattle.std.specs.Prelude.{ℕ, ◌+◌, List, [], ◌∷◌}
use Rattle.run_plan.specs.declared.act.Act.{Act, Row_of-Act, end_of-Act, more_of-Act}
use Rattle.run_plan.specs.declared.act.Act.TheVariants as act
use Rattle.run_plan.specs.declared.parts.Plan.{Plan}
use Rattle.word_code.specs.CodeOf.{Job}

abbrev mutual
  -- an act has one where it shows an event, and those of its lists
  pub act_marks : Act → ℕ
  act_marks (act.Restore r) = 0
  act_marks (act.Begin t) = 1
  act_marks (act.Save r) = 0
  act_marks (act.Lock r) = 0
  act_marks (act.Plain s) = 0
  act_marks (act.Test' c m yes_row n no_row) = row_marks yes_row + row_marks no_row
  act_marks (act.Value k) = 0
  act_marks (act.Look k) = 1
  act_marks (act.Choose' k m issue_row n keep_row) = row_marks issue_row + row_marks keep_row
  act_marks (act.Drop k) = 1
  act_marks (act.Issue k) = 1
  act_marks (act.Seal k) = 1
  act_marks (act.Take k) = 1
  act_marks (act.Write k) = 0
  act_marks (act.Enter k) = 0
  act_marks (act.Leave' k m row) = row_marks row
  act_marks (act.ByClass' k l single_row m private_row n rest_row) = row_marks single_row + row_marks private_row + row_marks rest_row
  act_marks (act.Transfer k leg) = 1
  act_marks (act.KeepWords k) = 0
  act_marks (act.PutWords k) = 1
  act_marks (act.Commit t) = 1

  -- a row's acts
  pub row_marks : {n : _} → Row_of-Act n → ℕ
  row_marks end_of-Act = 0
  row_marks (more_of-Act a rest) = act_marks a + row_marks rest

-- acts, one after another
abbrev pub acts_marks : List Act → ℕ
acts_marks [] = 0
acts_marks (a ∷ rest) = act_marks a + acts_marks rest

-- what a boot restores for a task, and the task's acts
abbrev pub job_marks : Plan → Job → ℕ
job_marks p j = acts_marks p.boot + acts_marks j.acts

-- all tasks
abbrev pub jobs_marks : Plan → List Job → ℕ
jobs_marks p [] = 0
jobs_marks p (j ∷ rest) = job_marks p j + jobs_marks p rest

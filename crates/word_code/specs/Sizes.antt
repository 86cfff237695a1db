-- How many lines the code of acts has, wherever it stands.
use Rattle.std.specs.Prelude.{ℕ, ◌+◌, nat_lt, cond, List, [], ◌∷◌, Option, Some, length}
use Rattle.task_ast.specs.declared.core_form.CoreStmt.{CoreStmt}
use Rattle.task_ast.specs.declared.core_form.CoreStmt.TheVariants as stmt
use Rattle.task_ast.specs.declared.core_form.Site.{Site}
use Rattle.task_ast.specs.declared.core_form.Site.TheVariants as site
use Rattle.line_code.specs.Sizes.{expr_size, statement_size}
use Rattle.run_plan.specs.declared.act.Act.{Act, Row_of-Act, end_of-Act, more_of-Act}
use Rattle.run_plan.specs.declared.act.Act.TheVariants as act
use Rattle.word_code.specs.Acts.{count_of}
use Rattle.word_code.specs.Beginnings.{first_of, homes_size, begin_size}
use Rattle.word_code.specs.Finding.{statement_at}
use Rattle.word_code.specs.Frames.{Frame, site_at}
use Rattle.word_code.specs.Tables.{ann_of, own_size, keeps_size}
use Rattle.word_code.specs.Values.{value_size}

-- a record's sealing, and the writing of a word
abbrev pub seal_size : Option Site → ℕ
seal_size (Some (site.Io ann)) = 5
seal_size (Some (site.Block ann)) = 3
seal_size _ = 9

abbrev pub write_size : Option CoreStmt → ℕ
write_size (Some (stmt.Io k (Some x) p args)) = 3
write_size _ = 0

-- an act without lists that jumps nowhere but to the next act, beside that jump
abbrev pub simple_size : Frame → Act → ℕ
simple_size f (act.Begin t) = begin_size f
simple_size f (act.Lock r) = 1
simple_size f (act.Plain s) = statement_size s
simple_size f (act.Value k) = value_size (statement_at f k)
simple_size f (act.Look k) = 2
simple_size f (act.Drop k) = 1
simple_size f (act.Issue k) = count_of (statement_at f k) + 2
simple_size f (act.Seal k) = seal_size (site_at f k)
simple_size f (act.Take k) = 3
simple_size f (act.Write k) = write_size (statement_at f k)
simple_size f (act.Enter k) = own_size (ann_of (site_at f k)) + 12
simple_size f (act.Transfer k leg) = 4
simple_size f _ = 0

-- the words of a region, twice
abbrev pub region_size : Frame → (region : ℕ) → ℕ
region_size f r = homes_size f.areas (first_of f r)

abbrev pub restored_size : Frame → (region : ℕ) → ℕ
restored_size f r = cond (nat_lt r (length f.firsts)) (region_size f r + 6) 0

abbrev mutual
  -- an act; a region that the task hasn't is not restored
  pub act_size : Frame → Act → ℕ
  act_size f (act.Restore r) = restored_size f r
  act_size f (act.Save r) = region_size f r + 5
  act_size f (act.Test' c m yes_row n no_row) = expr_size c + row_size f yes_row + row_size f no_row + 4
  act_size f (act.Choose' k m issue_row n keep_row) = keeps_size (site_at f k) + row_size f issue_row + row_size f keep_row + 3
  act_size f (act.Leave' k m row) = row_size f row + 8
  act_size f (act.ByClass' k l single_row m private_row n rest_row) = row_size f single_row + row_size f private_row + row_size f rest_row + 12
  act_size f (act.KeepWords k) = 13
  act_size f (act.PutWords k) = 14
  act_size f (act.Commit t) = 25
  act_size f a = simple_size f a + 1

  -- a row's acts
  pub row_size : Frame → {n : _} → Row_of-Act n → ℕ
  row_size f end_of-Act = 0
  row_size f (more_of-Act a rest) = act_size f a + row_size f rest

-- acts, one after another
abbrev pub acts_size : Frame → List Act → ℕ
acts_size f [] = 0
acts_size f (a ∷ rest) = act_size f a + acts_size f rest

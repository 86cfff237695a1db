-- What is valued inside an attempt, with its traps and its steps.
use Rattle.std.specs.Prelude.{ℕ, List, [], ◌∷◌, Option, Some, None}
use Rattle.task_ast.specs.declared.core_form.CoreExpr.{CoreExpr}
use Rattle.task_ast.specs.declared.core_form.CoreTarget.{CoreTarget}
use Rattle.task_ast.specs.declared.core_form.CoreEnd.{CoreEnd}
use Rattle.task_ast.specs.declared.core_form.CoreStmt.{CoreStmt}
use Rattle.walk_run.specs.declared.place.Place.{Place}
use Rattle.walk_run.specs.Store.{put_word}
use Rattle.walk_run.specs.Value.{value_of, target_place, end_place, with_room}
use Rattle.walk_run.specs.Plain.{Ran, done, trapped, chosen, plain_done}
use Rattle.walk_run.specs.PlainSteps.{expr_steps, target_steps, end_steps, condition_steps, plain_steps}
use Rattle.task_attempts.specs.State.{Here, Rest}
use Rattle.task_attempts.specs.Changes.{with_store, spent}
use Rattle.task_attempts.specs.Told.{trap, unless_trap}

-- a word is valued
abbrev pub value : CoreExpr → (ℕ → Rest) → Rest
value e go here = unless_trap (value_of e here.store) go (spent (expr_steps e) here)

-- words are valued from left to right
abbrev pub values : List CoreExpr → (List ℕ → Rest) → Rest
values [] go = go []
values (e ∷ es) go = value e (λ word. values es (λ words. go (word ∷ words)))

-- a target is found, where a call has one
abbrev pub reading_place : Option CoreTarget → (Option Place → Rest) → Rest
reading_place None go here = go None here
reading_place (Some t) go here = unless_trap (target_place t here.store) (λ at. go (Some at)) (spent (target_steps t) here)

-- a reading goes to its target
abbrev pub put_into : Option Place → (word : ℕ) → Here → Here
put_into None word here = here
put_into (Some at) word here = with_store (put_word at word here.store) here

-- an end of a copy is found
abbrev pub copy_end : CoreEnd → (Place → Rest) → Rest
copy_end e go here = unless_trap (end_place e here.store) go (spent (end_steps e) here)

-- so many words from a place on are tested to be in its array
abbrev pub tested : Place → (words : ℕ) → Rest → Rest
tested at n go here = unless_trap (with_room here.store at n) (λ found. go) here

-- a condition is valued, and one of two ways taken
abbrev pub branch : CoreExpr → (yes_part no_part : Rest) → Rest
branch c yes_part no_part here = unless_trap (value_of c here.store) (λ word. chosen word yes_part no_part) (spent (condition_steps c) here)

-- from where a statement without sites ends, or its trap
abbrev pub from_ran : Ran → Rest → Rest
from_ran (done store) go here = go (with_store store here)
from_ran (trapped why store) go here = trap why (with_store store here)

-- a statement without sites shows no event
abbrev pub plain_log : CoreStmt → Rest → Rest
plain_log s go here = from_ran (plain_done s here.store) go (spent (plain_steps s here.store) here)

-- A block in an attempt: a look, its body in a mode, and its end (docs/ATTEMPTS.md, "Blocks").
use Rattle.std.specs.Prelude.{ℕ, Option, Some, None}
use Rattle.io_annot.specs.declared.choice.Mode.{Mode}
use Rattle.io_annot.specs.declared.choice.Mode.TheVariants as mode
use Rattle.block_scope.specs.Enter.{entered}
use Rattle.task_attempts.specs.State.{Setting, Record, of_reading, of_block, of_copy, Rest}
use Rattle.task_attempts.specs.Changes.{with_mode, spent}
use Rattle.task_attempts.specs.Costs.{block_steps}
use Rattle.task_attempts.specs.Told.{drop_one, seal, look}
use Rattle.task_attempts.specs.Calls.{annotation}

-- the stamp of a block's record
abbrev pub stamp_in : Option Record → Option ℕ
stamp_in (Some (of_block stamp)) = Some stamp
stamp_in (Some (of_reading value stamp args)) = None
stamp_in (Some (of_copy class to from words)) = None
stamp_in None = None

-- a block that didn't keep is dropped, and sealed with the time of its beginning
abbrev pub block_sealed : (site t : ℕ) → (inside : Mode) → Rest → Rest
block_sealed k t mode.Keep go = go
block_sealed k t mode.Own go = drop_one k (seal k (of_block t) go)
block_sealed k t mode.Force go = drop_one k (seal k (of_block t) go)

-- a block's end; behind it the mode is that outside
abbrev pub block_end : (site t : ℕ) → (outside inside : Mode) → Rest → Rest
block_end k t outside inside go here = block_sealed k t inside (λ after. go (with_mode outside after)) (spent block_steps here)

-- behind the look a block's record gives the mode for its body, and at the body's end the block is sealed
abbrev pub block_inside : Setting → (site : ℕ) → (body : Rest → Rest) → Rest → (t : ℕ) → Rest
block_inside setting k body go t before =
    let inside = entered before.mode (annotation setting k) (stamp_in (before.standing.account.records k)) t in
    body (block_end k t before.mode inside go) (with_mode inside before)

-- a block looks at the clock, and then its body goes
abbrev pub block_log : Setting → (site : ℕ) → (body : Rest → Rest) → Rest → Rest
block_log setting k body go here = look k (block_inside setting k body go) (spent block_steps here)

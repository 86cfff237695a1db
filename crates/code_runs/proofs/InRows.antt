-- Acts in a row: one induction over an act and its lists.
use Rattle.std.proofs.Common.{ℕ, suc, ◌+◌, true, List, [], ◌∷◌}
use Rattle.devices.specs.Journal.{Place}
use Rattle.line_code.specs.Sizes.{expr_size}
use Rattle.word_machine.specs.State as machine
use Rattle.word_machine.specs.State.{Program}
use Rattle.word_machine.specs.Straight.{Spot}
use Rattle.run_plan.specs.declared.act.Act.{Act, Row_of-Act, end_of-Act, more_of-Act}
use Rattle.run_plan.specs.declared.act.Act.TheVariants as act
use Rattle.run_plan.specs.Cells.{State}
use Rattle.run_plan.specs.Runs.{Onward, act_run, acts_run, by_way, row_run, straight}
use Rattle.run_plan.specs.Small.{Doing}
use Rattle.word_code.specs.ActCode.{acts_entry, entry}
use Rattle.word_code.specs.Frames.{site_at}
use Rattle.word_code.specs.Sizes.{act_size, row_size}
use Rattle.word_code.specs.Tables.{keeps_size}
use Rattle.act_refines.specs.Between.{AreRelated}
use Rattle.act_refines.specs.Does.{frame_of}
use Rattle.code_runs.specs.Following.{ActRuns, ActsRun, AnyWay, Leads, LeadsAgain, RowRuns}
use Rattle.code_runs.proofs.Following.{act_follows, commit_follows, ways_lead}

module _ (p : Program) (place_of : ℕ → Place) (d : Doing) (number : ℕ) (Stood : machine.State → State → Type 0) (Ready : ℕ → ℕ → Spot → State → Type 0) (Holds : ℕ → Spot → State → Type 0) (most : ℕ) (again : Onward) (leads : LeadsAgain p place_of d Stood Ready most again) where
  mutual
    pub in_act : (a : Act) (at next : ℕ) (go : Onward) → ActRuns p place_of d number Stood Ready Holds a at next → Leads p place_of d Stood Holds (suc most) next go → Leads p place_of d Stood Holds (suc most) at (act_run d again a go)
    in_act (act.Restore r) at next go runs on = elim runs [ ]
    in_act (act.Begin t) at next go runs on = elim runs [ ]
    in_act (act.Save r) at next go runs on = act_follows p place_of d number Stood Holds (AnyWay Holds) (AreRelated p d true) (act.Save r) at next most (straight go) (λ m s related. related) runs (λ s way goes. on)
    in_act (act.Lock r) at next go runs on = act_follows p place_of d number Stood Holds (AnyWay Holds) (AreRelated p d true) (act.Lock r) at next most (straight go) (λ m s related. related) runs (λ s way goes. on)
    in_act (act.Plain x) at next go runs on = act_follows p place_of d number Stood Holds (AnyWay Holds) (AreRelated p d true) (act.Plain x) at next most (straight go) (λ m s related. related) runs (λ s way goes. on)
    in_act (act.Value k) at next go runs on = act_follows p place_of d number Stood Holds (AnyWay Holds) (AreRelated p d true) (act.Value k) at next most (straight go) (λ m s related. related) runs (λ s way goes. on)
    in_act (act.Look k) at next go runs on = act_follows p place_of d number Stood Holds (AnyWay Holds) (AreRelated p d true) (act.Look k) at next most (straight go) (λ m s related. related) runs (λ s way goes. on)
    in_act (act.Drop k) at next go runs on = act_follows p place_of d number Stood Holds (AnyWay Holds) (AreRelated p d true) (act.Drop k) at next most (straight go) (λ m s related. related) runs (λ s way goes. on)
    in_act (act.Issue k) at next go runs on = act_follows p place_of d number Stood Holds (AnyWay Holds) (AreRelated p d true) (act.Issue k) at next most (straight go) (λ m s related. related) runs (λ s way goes. on)
    in_act (act.Seal k) at next go runs on = act_follows p place_of d number Stood Holds (AnyWay Holds) (AreRelated p d true) (act.Seal k) at next most (straight go) (λ m s related. related) runs (λ s way goes. on)
    in_act (act.Take k) at next go runs on = act_follows p place_of d number Stood Holds (AnyWay Holds) (AreRelated p d true) (act.Take k) at next most (straight go) (λ m s related. related) runs (λ s way goes. on)
    in_act (act.Write k) at next go runs on = act_follows p place_of d number Stood Holds (AnyWay Holds) (AreRelated p d true) (act.Write k) at next most (straight go) (λ m s related. related) runs (λ s way goes. on)
    in_act (act.Enter k) at next go runs on = act_follows p place_of d number Stood Holds (AnyWay Holds) (AreRelated p d true) (act.Enter k) at next most (straight go) (λ m s related. related) runs (λ s way goes. on)
    in_act (act.Transfer k leg) at next go runs on = act_follows p place_of d number Stood Holds (AnyWay Holds) (AreRelated p d true) (act.Transfer k leg) at next most (straight go) (λ m s related. related) runs (λ s way goes. on)
    in_act (act.KeepWords k) at next go runs on = act_follows p place_of d number Stood Holds (AnyWay Holds) (AreRelated p d true) (act.KeepWords k) at next most (straight go) (λ m s related. related) runs (λ s way goes. on)
    in_act (act.PutWords k) at next go runs on = act_follows p place_of d number Stood Holds (AnyWay Holds) (AreRelated p d true) (act.PutWords k) at next most (straight go) (λ m s related. related) runs (λ s way goes. on)
    in_act (act.Test' c m yes_row n no_row) at next go runs on =
        let yes_at : ℕ = at + expr_size c + 4 in
        let no_at : ℕ = yes_at + row_size (frame_of d number) yes_row in
        act_follows p place_of d number Stood Holds (AnyWay Holds) (AreRelated p d true) (act.Test' c m yes_row n no_row) at next most (by_way (row_run d again yes_row go) (row_run d again no_row go) go go) (λ m s related. related) runs.0
        (λ s way goes. ways_lead p place_of d number Stood Ready Holds (suc most) (entry yes_row yes_at next) (entry no_row no_at next) next next (row_run d again yes_row go) (row_run d again no_row go) go go
        (in_row yes_row yes_at next go runs.1 on) (in_row no_row no_at next go runs.2 on) on on way)
    in_act (act.Choose' k m issue_row n keep_row) at next go runs on =
        let issue_at : ℕ = at + keeps_size (site_at (frame_of d number) k) + 3 in
        let keep_at : ℕ = issue_at + row_size (frame_of d number) issue_row in
        act_follows p place_of d number Stood Holds (AnyWay Holds) (AreRelated p d true) (act.Choose' k m issue_row n keep_row) at next most (by_way (row_run d again issue_row go) (row_run d again keep_row go) go go) (λ m s related. related) runs.0
        (λ s way goes. ways_lead p place_of d number Stood Ready Holds (suc most) (entry issue_row issue_at next) (entry keep_row keep_at next) next next (row_run d again issue_row go) (row_run d again keep_row go) go go
        (in_row issue_row issue_at next go runs.1 on) (in_row keep_row keep_at next go runs.2 on) on on way)
    in_act (act.Leave' k m row) at next go runs on =
        act_follows p place_of d number Stood Holds (AnyWay Holds) (AreRelated p d true) (act.Leave' k m row) at next most (by_way (row_run d again row go) go go go) (λ m s related. related) runs.0
        (λ s way goes. ways_lead p place_of d number Stood Ready Holds (suc most) (entry row (at + 8) next) next next next (row_run d again row go) go go go (in_row row (at + 8) next go runs.1 on) on on on way)
    in_act (act.ByClass' k l single_row m private_row n rest_row) at next go runs on =
        let private_at : ℕ = at + 12 + row_size (frame_of d number) single_row in
        let rest_at : ℕ = private_at + row_size (frame_of d number) private_row in
        act_follows p place_of d number Stood Holds (AnyWay Holds) (AreRelated p d true) (act.ByClass' k l single_row m private_row n rest_row) at next most (by_way (row_run d again single_row go) (row_run d again private_row go) (row_run d again rest_row go) go)
        (λ m s related. related) runs.0
        (λ s way goes. ways_lead p place_of d number Stood Ready Holds (suc most) (entry single_row (at + 12) next) (entry private_row private_at next) (entry rest_row rest_at next) next
        (row_run d again single_row go) (row_run d again private_row go) (row_run d again rest_row go) go
        (in_row single_row (at + 12) next go runs.1 on) (in_row private_row private_at next go runs.2 on) (in_row rest_row rest_at next go runs.3 on) on way)
    in_act (act.Commit t) at next go runs on = commit_follows p place_of d number Stood Ready Holds t at next most again runs.0 runs.1 leads

    in_row : {n : _} (row : Row_of-Act n) (at next : ℕ) (go : Onward) → RowRuns p place_of d number Stood Ready Holds row at next → Leads p place_of d Stood Holds (suc most) next go → Leads p place_of d Stood Holds (suc most) (entry row at next) (row_run d again row go)
    in_row end_of-Act at next go runs on = on
    in_row (more_of-Act a rest) at next go runs on =
        let behind_at : ℕ = at + act_size (frame_of d number) a in
        in_act a at (entry rest behind_at next) (row_run d again rest go) runs.0 (in_row rest behind_at next go runs.1 on)

  -- acts in a list
  pub acts_follow : (acts : List Act) (at next : ℕ) (go : Onward) → ActsRun p place_of d number Stood Ready Holds acts at next → Leads p place_of d Stood Holds (suc most) next go → Leads p place_of d Stood Holds (suc most) (acts_entry acts at next) (acts_run d again acts go)
  acts_follow [] at next go runs on = on
  acts_follow (a ∷ rest) at next go runs on =
      let behind_at : ℕ = at + act_size (frame_of d number) a in
      in_act a at (acts_entry rest behind_at next) (acts_run d again rest go) runs.0 (acts_follow rest behind_at next go runs.1 on)

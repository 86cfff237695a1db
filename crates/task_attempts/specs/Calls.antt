-- An I/O site in an attempt: it keeps or issues (docs/ATTEMPTS.md, "Calls").
use Rattle.std.specs.Prelude.{ℕ, zero, suc, ◌+◌, List, [], Option, Some, None, slice_get}
use Rattle.task_ast.specs.declared.tree.Ann.{Ann}
use Rattle.task_ast.specs.declared.tree.Ann.TheVariants.{Always}
use Rattle.task_ast.specs.declared.core_form.CoreExpr.{CoreExpr}
use Rattle.task_ast.specs.declared.core_form.CoreTarget.{CoreTarget}
use Rattle.task_ast.specs.declared.core_form.Site.{Site}
use Rattle.task_ast.specs.declared.core_form.Site.TheVariants as site
use Rattle.ease_base.specs.declared.place.Peripheral.{Peripheral}
use Rattle.walk_run.specs.declared.place.Place.{Place}
use Rattle.io_annot.specs.declared.choice.Choice.{Choice}
use Rattle.io_annot.specs.declared.choice.Choice.TheVariants.{Keep, Issue}
use Rattle.io_annot.specs.Choice.{choice}
use Rattle.io_depend.specs.Depend.{dependents}
use Rattle.devices.specs.Reading.{reading_in}
use Rattle.devices.specs.Journal.{keeps, issues}
use Rattle.task_attempts.specs.State.{Setting, arguments, Record, of_reading, of_block, of_copy, Rest}
use Rattle.task_attempts.specs.Changes.{spent, with_issue}
use Rattle.task_attempts.specs.Costs.{call_steps}
use Rattle.task_attempts.specs.Told.{told, told_following, drop_one, drop_all, seal, look}
use Rattle.task_attempts.specs.Values.{values, reading_place, put_into}

-- the annotation of what stands at a site; a copy has none, and is done in each attempt
abbrev pub annotation_of : Option Site → Ann
annotation_of (Some (site.Io ann)) = ann
annotation_of (Some (site.Block ann)) = ann
annotation_of (Some (site.Copy greatest)) = Always
annotation_of None = Always

-- the site of a number from 1
abbrev pub site_at : List Site → (number : ℕ) → Option Site
site_at sites zero = None
site_at sites (suc n) = slice_get sites n

-- the annotation at a site
abbrev pub annotation : Setting → (site : ℕ) → Ann
annotation setting k = annotation_of (site_at setting.task.sites k)

-- the number of a peripheral that is there
abbrev pub number_or_none : Option Peripheral → ℕ
number_or_none None = 0
number_or_none (Some p) = p.number

-- the number by which a peripheral of the program is known outside
abbrev pub number_of : Setting → (peripheral : ℕ) → ℕ
number_of setting p = number_or_none (slice_get setting.rules.core.peripherals p)

-- a peripheral is issued, by its number, and its next reading is taken
abbrev pub issue : Setting → (site p : ℕ) → (args : List ℕ) → (ℕ → Rest) → Rest
issue setting k p args go here =
    let r = reading_in setting.rules.world.feeds p (here.standing.account.issued p + 1) in
    told (issues k p args r) (go r) (with_issue p here)

-- The site's own record is dropped, then those of the sites that depend on it; it is issued, and its record sealed with
-- the time of the look.
abbrev pub issue_anew : Setting → (site p : ℕ) → (args : List ℕ) → (t : ℕ) → (ℕ → Rest) → Rest
issue_anew setting k p args t go =
    drop_one k (drop_all (dependents setting.task k) (issue setting k p args (λ r. seal k (of_reading r t args) (go r))))

-- the value and the stamp of a reading's record
abbrev pub kept_in : Option Record → Option (ℕ × ℕ)
kept_in (Some (of_reading value stamp args)) = Some (value, stamp)
kept_in (Some (of_block stamp)) = None
kept_in (Some (of_copy class to from words)) = None
kept_in None = None

-- the arguments that it was issued with
abbrev pub issued_with : Option Record → List ℕ
issued_with (Some (of_reading value stamp args)) = args
issued_with (Some (of_block stamp)) = []
issued_with (Some (of_copy class to from words)) = []
issued_with None = []

-- it keeps the record's value, or issues
abbrev pub by_choice : Setting → (site p : ℕ) → (made_with args : List ℕ) → (t : ℕ) → (ℕ → Rest) → Choice → Rest
by_choice setting k p made_with args t go (Keep v) = told_following (record { made_with = arguments made_with; valued = arguments args }) (keeps k v) (go v)
by_choice setting k p made_with args t go Issue = issue_anew setting k p args t go

-- what a site does with its record, or with none
abbrev pub by_record : Setting → (site p : ℕ) → (args : List ℕ) → (t : ℕ) → (ℕ → Rest) → Option Record → Rest
by_record setting k p args t go r here = by_choice setting k p (issued_with r) args t go (choice here.mode (annotation setting k) (kept_in r) t) here

-- behind the look it goes by its record, and the word that it takes goes to the target
abbrev pub call_inside : Setting → (site p : ℕ) → Option Place → (args : List ℕ) → Rest → (t : ℕ) → Rest
call_inside setting k p at args go t here =
    by_record setting k p args t (λ word after. go (put_into at word after)) (here.standing.account.records k) here

-- a call's target is found and its arguments are valued; then it looks at the clock
abbrev pub call_log : Setting → (site : ℕ) → Option CoreTarget → (peripheral : ℕ) → List CoreExpr → Rest → Rest
call_log setting k onto peripheral args go here =
    reading_place onto (λ at. values args (λ words. look k (call_inside setting k (number_of setting peripheral) at words go)))
    (spent (call_steps setting.task k) here)

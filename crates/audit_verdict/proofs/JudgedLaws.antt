-- The answer on the lines of a report, by what is counted of them.
use Rattle.std.proofs.Common.{◌≡◌, ℕ, ◌+◌, ◌==◌, ◌≤◌, min, Bool, cond, if◌then◌else◌, Option, Some, None, IfSome, List, length, refl, sym, ap, subst, ◌∙◌}
use Rattle.std.specs.List.{flat_map}
use Rattle.task_ast.specs.declared.core_form.Core.{Core}
use Rattle.devices.specs.declared.world.World.{World}
use Rattle.devices.specs.declared.event.RunEnd.{RunEnd}
use Rattle.report_text.specs.declared.line.ReportLine.{ReportLine}
use Rattle.report_text.specs.Grammar.{row}
use Rattle.audit_check.specs.declared.around.Around.{Around}
use Rattle.audit_check.specs.declared.journal.ReportBoot.{ReportBoot}
use Rattle.audit_check.specs.Allowed.{IsAllowed}
use Rattle.audit_check.specs.Booted.{journal_walked}
use Rattle.audit_check.specs.Ended.{end_fits}
use Rattle.audit_check.specs.Fits.{BootsFitWorld}
use Rattle.audit_check.specs.Journal.{boots_of}
use Rattle.audit_check.specs.Lines.{Reaches, lines_of}
use Rattle.audit_laws.specs.Answers.{IsAnswer}
use Rattle.audit_laws.specs.Gathered.{ends_well, right_lines}
use Rattle.audit_laws.specs.Right.{AreAround}
use Rattle.audit_laws.specs.Verdict.{answer_by}
use Rattle.audit_gather.specs.declared.lines.Told.{Told}
use Rattle.audit_gather.specs.declared.answer.Verdict.{Verdict}
use Rattle.audit_gather.specs.Told.{answer_of}
use Rattle.audit_verdict.specs.Judged.{AreAlong, AreTelling, IsTold, IsVerdict, right_of}

-- whether an end fits
abbrev Fits : Type 0
Fits = ℕ × RunEnd → Bool

-- ---- the lines that are allowed

-- as many as fit and as go along, whichever are fewer
pub allowed_is : (c : Core) (world : World) (boots : List ReportBoot) (fits along : ℕ)
    → ((tasks : List Around) → AreAround c tasks → (boots : List ReportBoot) (n : ℕ) → lines_of (boots_of boots) ≤ 4294967295
    → Reaches (BootsFitWorld world) (boots_of boots) n → Reaches (IsAllowed c world) (boots_of boots) (min n (journal_walked tasks c world.feeds boots).lines))
    → lines_of (boots_of boots) ≤ 4294967295 → Reaches (BootsFitWorld world) (boots_of boots) fits → AreAlong c world boots along
    → Reaches (IsAllowed c world) (boots_of boots) (min fits along)
allowed_is c world boots fits along law few fit at =
    subst (λ n. Reaches (IsAllowed c world) (boots_of boots) (min fits n)) (sym at.walked) (law at.tasks at.around boots fits few fit)

-- ---- an end that fits or doesn't

ends_same : (ending : Option (ℕ × RunEnd)) (f g : Fits) → IfSome ending (λ e. f e ≡ g e) → ends_well ending f ≡ ends_well ending g
ends_same None f g same = refl
ends_same (Some e) f g same = ap (λ t. cond t 1 0) same

right_same : (n all : ℕ) (ending : Option (ℕ × RunEnd)) (f g : Fits) → IfSome ending (λ e. f e ≡ g e) → right_lines n all ending f ≡ right_lines n all ending g
right_same n all ending f g same = ap (λ k. if n == all then all + k else n) (ends_same ending f g same)

-- what is counted is how many lines are right
counted : (c : Core) (world : World) (lines : List ReportLine) (told : Told) (n all : ℕ) → IsTold c lines told → all ≡ lines_of (boots_of told.boots)
    → right_lines n all told.ending (λ e. end_fits world.power told.boots e.0 e.1) ≡ right_of c world lines told.boots n
counted c world lines told n all is all_is =
    let f : Fits = λ e. end_fits world.power told.boots e.0 e.1 in
    ap (λ k. right_lines n k told.ending f) all_is ∙ ap (λ ending. right_lines n (lines_of (boots_of told.boots)) ending f) is.ending

-- ---- the answer

-- no more lines are counted right than there are
pub few_right : (c : Core) (world : World) (lines : List ReportLine) (told : Told) (n all count : ℕ) (well : Bool) → AreTelling c world lines told.boots n → IsTold c lines told
    → all ≡ lines_of (boots_of told.boots) → count ≡ length lines → IfSome told.ending (λ e. end_fits world.power told.boots e.0 e.1 ≡ well)
    → right_lines n all told.ending (λ _. well) ≤ count
few_right c world lines told n all count well telling is all_is count_is ends =
    let f : Fits = λ e. end_fits world.power told.boots e.0 e.1 in
    subst (λ k. right_lines n all told.ending (λ _. well) ≤ k) (sym count_is)
    (subst (λ k. k ≤ length lines) (sym (counted c world lines told n all is all_is) ∙ right_same n all told.ending f (λ _. well) ends) telling.within)

-- the verdict is the answer, and nothing else is
pub verdict_is : (c : Core) (world : World) (lines : List ReportLine) (told : Told) (n all count : ℕ) (well : Bool) (v : Verdict) → AreTelling c world lines told.boots n → IsTold c lines told
    → all ≡ lines_of (boots_of told.boots) → count ≡ length lines → IfSome told.ending (λ e. end_fits world.power told.boots e.0 e.1 ≡ well)
    → ((fits : Fits) → IfSome told.ending (λ e. fits e ≡ well) → answer_of v ≡ answer_by (right_lines n all told.ending fits) count) → IsVerdict c world lines v
verdict_is c world lines told n all count well v telling is all_is count_is ends judged =
    let f : Fits = λ e. end_fits world.power told.boots e.0 e.1 in
    let same : answer_of v ≡ answer_by (right_of c world lines told.boots n) (length lines) =
    judged f ends ∙ ap (λ k. answer_by k count) (counted c world lines told n all is all_is) ∙ ap (λ k. answer_by (right_of c world lines told.boots n) k) count_is in
    record {
      right = subst (λ a. IsAnswer c world (flat_map row lines) a) (sym same) telling.right;
      only = λ a answers. telling.only a answers ∙ sym same;
    }

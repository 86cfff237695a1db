-- A run that halts does so where no task is next.
use Rattle.std.proofs.Common.{◌≡◌, ◌∙◌, ℕ, zero, suc, List, [], ◌∷◌, refl, sym, ap}
use Rattle.devices.specs.Journal.{Boot, JournalEvent, begins, looks, keeps, drops, issues, seals, copies, commits, traps}
use Rattle.devices.specs.declared.event.RunEnd.TheVariants.{Halted}
use Rattle.task_attempts.specs.Laws.{EndsWith}
use Rattle.task_attempts.specs.Sound.{AllEndWell, EndsWell, Reached, reached, reached_by}
use Rattle.audit_check.specs.Ended.{next_behind, next_by, next_of_all}

next_is : (r : Reached) (e : ℕ × JournalEvent) → (reached_by r e).next ≡ next_by r.next e.1
next_is r (step, begins task) = refl
next_is r (step, looks site time) = refl
next_is r (step, keeps site value) = refl
next_is r (step, drops site) = refl
next_is r (step, issues site p args reading) = refl
next_is r (step, seals site) = refl
next_is r (step, copies site from to words) = refl
next_is r (step, commits next) = refl
next_is r (step, traps code) = refl

-- the task that is next behind the events of a boot
behind_is : (r : Reached) (es : List (ℕ × JournalEvent)) → (reached r es).next ≡ next_behind r.next es
behind_is r [] = refl
behind_is r (e ∷ es) = behind_is (reached_by r e) es ∙ ap (λ n. next_behind n es) (next_is r e)

none_next : (next since ends : ℕ) → EndsWell next since ends Halted → next ≡ 0
none_next zero since ends well = refl
none_next (suc task) since ends well = absurd well

-- where a journal of some boots ends well with a halt
pub halts_at_none : (P : Boot → Type 0) (next last : ℕ) (bs : List Boot) → EndsWith P bs → AllEndWell next last bs Halted → next_of_all next bs ≡ 0
halts_at_none P next last [] some well = absurd some
halts_at_none P next last (b ∷ []) some well =
    let r = reached (record { next = next; since = b.begun_at }) b.events in
    sym (behind_is (record { next = next; since = b.begun_at }) b.events) ∙ none_next r.next r.since last well
halts_at_none P next last (b ∷ c ∷ bs) some well =
    let r = reached (record { next = next; since = b.begun_at }) b.events in
    ap (λ n. next_of_all n (c ∷ bs)) (sym (behind_is (record { next = next; since = b.begun_at }) b.events)) ∙ halts_at_none P r.next last (c ∷ bs) some well.1

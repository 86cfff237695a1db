-- The test of a run's end is what is asked of it.
use Rattle.std.proofs.Common.{◌≡◌, ℕ, suc, ◌-◌, ◌<◌, ◌≤◌, Bool, true, false, ◌&&◌, ◌||◌, not, nat_lt, nat_le, ◌==◌, List, [], ◌∷◌, length, take, map, Option, Some, None, slice_get, refl, sym, ap, ◌∙◌, subst, arith}
use Rattle.std.proofs.lemmas.Bool.{false≢true}
use Rattle.std.proofs.lemmas.Bool.Decides.{nat_tests}
use Rattle.std.specs.List.{AllByRecursion}
use Rattle.devices.specs.declared.world.PowerRow.{PowerRow}
use Rattle.devices.specs.declared.event.RunEnd.{RunEnd}
use Rattle.devices.specs.declared.event.RunEnd.TheVariants.{Halted, Trapped, Power}
use Rattle.devices.specs.World.{steps_of}
use Rattle.devices.specs.Journal.{JournalEvent, traps, Boot}
use Rattle.task_attempts.specs.Laws.{EndsWith}
use Rattle.audit_check.specs.declared.journal.ReportEvent.{ReportEvent}
use Rattle.audit_check.specs.declared.journal.ReportEvent.TheVariants as event
use Rattle.audit_check.specs.declared.journal.TimedEvent.{TimedEvent}
use Rattle.audit_check.specs.declared.journal.ReportBoot.{ReportBoot}
use Rattle.audit_check.specs.Journal.{event_of, timed_of, boot_of, boots_of}
use Rattle.audit_check.specs.Same.{same}
use Rattle.audit_check.specs.Fits.{is_trap, has_trap}
use Rattle.audit_check.specs.Fitting.{traps_here}
use Rattle.audit_check.specs.Ended.{next_by, next_behind, next_of_all, TrapsAt, ComesBefore, EndFits, last_of, told_next, told_behind, told_last, none_traps, nothing_traps, is_trap_at, traps_last, are_before, is_before, end_fits}
use Rattle.audit_check.proofs.SameLaws.{same_is, is_same}

-- ---- tests

both : (a b : Bool) → (a && b) ≡ true → (a ≡ true) × (b ≡ true)
both true b h = (refl, h)
both false b h = absurd (false≢true h)

put_together : (a b : Bool) → a ≡ true → b ≡ true → (a && b) ≡ true
put_together true b h k = k
put_together false b h k = absurd (false≢true h)

are_equal : (a b : ℕ) → (a == b) ≡ true → a ≡ b
are_equal a b h = grind (arith, nat_tests)

show_equal : (a b : ℕ) → a ≡ b → (a == b) ≡ true
show_equal a b h = grind (arith, nat_tests)

is_less : (a b : ℕ) → nat_lt a b ≡ true → a < b
is_less a b h = grind (arith, nat_tests)

show_less : (a b : ℕ) → a < b → nat_lt a b ≡ true
show_less a b h = grind (arith, nat_tests)

is_within : (a b : ℕ) → nat_le a b ≡ true → a ≤ b
is_within a b h = grind (arith, nat_tests)

show_within : (a b : ℕ) → a ≤ b → nat_le a b ≡ true
show_within a b h = grind (arith, nat_tests)

not_true : (b : Bool) → not b ≡ true → b ≡ false
not_true true h = absurd (false≢true h)
not_true false h = refl

-- ---- the last of a list

-- whether it passes a test
abbrev by_last : {A : Type 0} → (A → Bool) → Option A → Bool
by_last passes None = false
by_last passes (Some x) = passes x

last_more : {A : Type 0} (x y : A) (xs : List A) → last_of (x ∷ y ∷ xs) ≡ last_of (y ∷ xs)
last_more x y xs =
    let less : suc (suc (length xs)) - 1 ≡ suc (suc (length xs) - 1) = omega arith in
    ap (slice_get (x ∷ y ∷ xs)) less

last_holds : {A B : Type 0} (passes : A → Bool) (P : B → Type 0) (f : A → B) → ((x : A) → passes x ≡ true → P (f x)) → (xs : List A) → by_last passes (last_of xs) ≡ true → EndsWith P (map f xs)
last_holds passes P f holds [] h = absurd (false≢true h)
last_holds passes P f holds (x ∷ []) h = holds x h
last_holds passes P f holds (x ∷ y ∷ xs) h = last_holds passes P f holds (y ∷ xs) (sym (ap (by_last passes) (last_more x y xs)) ∙ h)

last_passes : {A B : Type 0} (passes : A → Bool) (P : B → Type 0) (f : A → B) → ((x : A) → P (f x) → passes x ≡ true) → (xs : List A) → EndsWith P (map f xs) → by_last passes (last_of xs) ≡ true
last_passes passes P f shows [] ends = absurd ends
last_passes passes P f shows (x ∷ []) ends = shows x ends
last_passes passes P f shows (x ∷ y ∷ xs) ends = ap (by_last passes) (last_more x y xs) ∙ last_passes passes P f shows (y ∷ xs) ends

length_boots : (bs : List ReportBoot) → length (boots_of bs) ≡ length bs
length_boots [] = refl
length_boots (b ∷ bs) = ap suc (length_boots bs)

-- ---- the task that is next

next_is : (n : ℕ) (e : ReportEvent) → told_next n e ≡ next_by n (event_of e)
next_is n (event.Begin task) = refl
next_is n (event.Look site time) = refl
next_is n (event.Kept site value) = refl
next_is n (event.Drop site) = refl
next_is n (event.Issue site peripheral arguments reading) = refl
next_is n (event.Seal site) = refl
next_is n (event.Copy site from to words) = refl
next_is n (event.Commit next) = refl
next_is n (event.Trap code) = refl

behind_is : (es : List TimedEvent) (n : ℕ) → told_behind n es ≡ next_behind n (map timed_of es)
behind_is [] n = refl
behind_is (e ∷ es) n = behind_is es (told_next n e.event) ∙ ap (λ n. next_behind n (map timed_of es)) (next_is n e.event)

all_is : (bs : List ReportBoot) (n : ℕ) → told_last n bs ≡ next_of_all n (boots_of bs)
all_is [] n = refl
all_is (b ∷ bs) n = all_is bs (told_behind n b.events) ∙ ap (λ n. next_of_all n (boots_of bs)) (behind_is b.events n)

-- ---- traps

trap_is : (e : ReportEvent) → traps_here e ≡ is_trap (event_of e)
trap_is (event.Begin task) = refl
trap_is (event.Look site time) = refl
trap_is (event.Kept site value) = refl
trap_is (event.Drop site) = refl
trap_is (event.Issue site peripheral arguments reading) = refl
trap_is (event.Seal site) = refl
trap_is (event.Copy site from to words) = refl
trap_is (event.Commit next) = refl
trap_is (event.Trap code) = refl

neither : (a b : Bool) → (not a && not b) ≡ not (a || b)
neither true b = refl
neither false b = refl

none_is : (es : List TimedEvent) → none_traps es ≡ not (has_trap (map timed_of es))
none_is [] = refl
none_is (e ∷ es) = (λ i. not (trap_is e.event i) && none_is es i) ∙ neither (is_trap (event_of e.event)) (has_trap (map timed_of es))

nothing_holds : (bs : List ReportBoot) → nothing_traps bs ≡ true → AllByRecursion (λ (b : Boot). has_trap b.events ≡ false) (boots_of bs)
nothing_holds [] h = tt
nothing_holds (b ∷ bs) h =
    let two = both (none_traps b.events) (nothing_traps bs) h in
    (not_true (has_trap (map timed_of b.events)) (sym (none_is b.events) ∙ two.0), nothing_holds bs two.1)

nothing_shown : (bs : List ReportBoot) → AllByRecursion (λ (b : Boot). has_trap b.events ≡ false) (boots_of bs) → nothing_traps bs ≡ true
nothing_shown [] all = refl
nothing_shown (b ∷ bs) all = put_together (none_traps b.events) (nothing_traps bs) (none_is b.events ∙ ap not all.0) (nothing_shown bs all.1)

abbrev passes_trap : (steps code : ℕ) → TimedEvent → Bool
passes_trap steps code e = e.step == steps && same (event_of e.event) (traps code)

abbrev passes_last : (steps code : ℕ) → ReportBoot → Bool
passes_last steps code b = is_trap_at steps code (last_of b.events)

trap_by : (steps code : ℕ) (e : Option TimedEvent) → is_trap_at steps code e ≡ by_last (passes_trap steps code) e
trap_by steps code None = refl
trap_by steps code (Some e) = refl

last_by : (steps code : ℕ) (b : Option ReportBoot) → traps_last steps code b ≡ by_last (passes_last steps code) b
last_by steps code None = refl
last_by steps code (Some b) = refl

trap_holds : (steps code : ℕ) (b : ReportBoot) → passes_last steps code b ≡ true → TrapsAt steps code (boot_of b)
trap_holds steps code b h =
    last_holds (passes_trap steps code) (λ e. (e.0 ≡ steps) × (e.1 ≡ traps code)) timed_of
    (λ e h. let two = both (e.step == steps) (same (event_of e.event) (traps code)) h in (are_equal e.step steps two.0, same_is (event_of e.event) (traps code) two.1))
    b.events (sym (trap_by steps code (last_of b.events)) ∙ h)

trap_shown : (steps code : ℕ) (b : ReportBoot) → TrapsAt steps code (boot_of b) → passes_last steps code b ≡ true
trap_shown steps code b at =
    trap_by steps code (last_of b.events)
    ∙ last_passes (passes_trap steps code) (λ e. (e.0 ≡ steps) × (e.1 ≡ traps code)) timed_of
    (λ e two. put_together (e.step == steps) (same (event_of e.event) (traps code)) (show_equal e.step steps two.0) (is_same (event_of e.event) (traps code) two.1)) b.events at

-- ---- what comes before a step

events_before : (steps : ℕ) (es : List TimedEvent) → are_before steps es ≡ true → AllByRecursion (λ (e : ℕ × JournalEvent). e.0 < steps) (map timed_of es)
events_before steps [] h = tt
events_before steps (e ∷ es) h = let two = both (nat_lt e.step steps) (are_before steps es) h in (is_less e.step steps two.0, events_before steps es two.1)

before_shown : (steps : ℕ) (es : List TimedEvent) → AllByRecursion (λ (e : ℕ × JournalEvent). e.0 < steps) (map timed_of es) → are_before steps es ≡ true
before_shown steps [] all = refl
before_shown steps (e ∷ es) all = put_together (nat_lt e.step steps) (are_before steps es) (show_less e.step steps all.0) (before_shown steps es all.1)

abbrev passes_before : (steps : ℕ) → ReportBoot → Bool
passes_before steps b = nat_lt b.begun_at steps && are_before steps b.events

before_by : (steps : ℕ) (b : Option ReportBoot) → is_before steps b ≡ by_last (passes_before steps) b
before_by steps None = refl
before_by steps (Some b) = refl

boot_before : (steps : ℕ) (b : ReportBoot) → passes_before steps b ≡ true → ComesBefore steps (boot_of b)
boot_before steps b h = let two = both (nat_lt b.begun_at steps) (are_before steps b.events) h in (is_less b.begun_at steps two.0, events_before steps b.events two.1)

boot_shown : (steps : ℕ) (b : ReportBoot) → ComesBefore steps (boot_of b) → passes_before steps b ≡ true
boot_shown steps b at = put_together (nat_lt b.begun_at steps) (are_before steps b.events) (show_less b.begun_at steps at.0) (before_shown steps b.events at.1)

-- ---- the end

pub end_holds : (rows : List PowerRow) (bs : List ReportBoot) (steps : ℕ) (how : RunEnd) → end_fits rows bs steps how ≡ true → EndFits rows (boots_of bs) steps how
end_holds rows bs steps Power h =
    let one = both (length bs == length rows) (steps == steps_of rows && nothing_traps bs) h in
    let two = both (steps == steps_of rows) (nothing_traps bs) one.1 in
    (length_boots bs ∙ are_equal (length bs) (length rows) one.0, are_equal steps (steps_of rows) two.0, nothing_holds bs two.1)
end_holds rows bs steps (Trapped code) h = last_holds (passes_last steps code) (TrapsAt steps code) boot_of (trap_holds steps code) bs (sym (last_by steps code (last_of bs)) ∙ h)
end_holds rows bs steps Halted h =
    let one = both (told_last 1 bs == 0) (is_before steps (last_of bs) && nat_le steps (steps_of (take (length bs) rows))) h in
    let two = both (is_before steps (last_of bs)) (nat_le steps (steps_of (take (length bs) rows))) one.1 in (
      sym (all_is bs 1) ∙ are_equal (told_last 1 bs) 0 one.0,
      last_holds (passes_before steps) (ComesBefore steps) boot_of (boot_before steps) bs (sym (before_by steps (last_of bs)) ∙ two.0),
      subst (λ k. steps ≤ steps_of (take k rows)) (sym (length_boots bs)) (is_within steps (steps_of (take (length bs) rows)) two.1),
    )

pub end_shown : (rows : List PowerRow) (bs : List ReportBoot) (steps : ℕ) (how : RunEnd) → EndFits rows (boots_of bs) steps how → end_fits rows bs steps how ≡ true
end_shown rows bs steps Power at =
    put_together (length bs == length rows) _ (show_equal (length bs) (length rows) (sym (length_boots bs) ∙ at.0))
    (put_together (steps == steps_of rows) (nothing_traps bs) (show_equal steps (steps_of rows) at.1) (nothing_shown bs at.2))
end_shown rows bs steps (Trapped code) at = last_by steps code (last_of bs) ∙ last_passes (passes_last steps code) (TrapsAt steps code) boot_of (trap_shown steps code) bs at
end_shown rows bs steps Halted at =
    put_together (told_last 1 bs == 0) _ (show_equal (told_last 1 bs) 0 (all_is bs 1 ∙ at.0))
    (put_together (is_before steps (last_of bs)) _ (before_by steps (last_of bs) ∙ last_passes (passes_before steps) (ComesBefore steps) boot_of (boot_shown steps) bs at.1)
    (show_within steps (steps_of (take (length bs) rows)) (subst (λ k. steps ≤ steps_of (take k rows)) (length_boots bs) at.2)))

-- What is gathered from the first line on is what is gathered from the last line back.
use Rattle.std.proofs.Common.{◌≡◌, ℕ, suc, ◌==◌, Bool, true, false, if◌then◌else◌, Option, Some, None, List, [], ◌∷◌, ◌++◌, map, refl, sym, ap, ◌∙◌, append_assoc, append-nil, length}
use Rattle.std.proofs.lemmas.List.{length-map}
use Rattle.task_ast.specs.declared.core_form.Core.{Core}
use Rattle.devices.specs.declared.event.RunEnd.{RunEnd}
use Rattle.devices.specs.Journal.{JournalEvent, Boot}
use Rattle.report_text.specs.declared.line.ReportLine.{ReportLine}
use Rattle.audit_check.specs.declared.journal.TimedEvent.{TimedEvent}
use Rattle.audit_check.specs.declared.journal.ReportBoot.{ReportBoot}
use Rattle.audit_check.specs.Journal.{timed_of, boot_of, boots_of}
use Rattle.audit_laws.specs.Gathered.{Item, a_boot, an_event, an_end, nothing, item_in, Gathered, no_more, gathered_by, gathered}
use Rattle.audit_gather.specs.Gathering.{Gathering, boots_so_far, opened, stopped, with_item, with_lines, ungathered}

-- ---- a boot and an event more

pub boots_more : (bs : List ReportBoot) (b : ReportBoot) → boots_of (bs ++ b ∷ []) ≡ boots_of bs ++ boot_of b ∷ []
boots_more [] b = refl
boots_more (x ∷ bs) b = ap (λ (rest : List Boot). boot_of x ∷ rest) (boots_more bs b)

pub events_more : (es : List TimedEvent) (e : TimedEvent) → map timed_of (es ++ e ∷ []) ≡ map timed_of es ++ timed_of e ∷ []
events_more [] e = refl
events_more (x ∷ es) e = ap (λ (rest : List (ℕ × JournalEvent)). timed_of x ∷ rest) (events_more es e)

-- ---- boots

-- a boot of events
boot_with : (begun : ℕ) → List (ℕ × JournalEvent) → Boot
boot_with begun es = record { begun_at = begun; events = es }

-- what is known, in a boot or not
held : List Boot → Bool → ℕ → List (ℕ × JournalEvent) → ℕ → Option (ℕ × RunEnd) → Bool → Gathering
held boots inside begun es number ending over = record { boots = boots; inside = inside; begun_at = begun; events = es; number = number; ending = ending; over = over }

-- what is gathered of the lines behind, put behind it
joined : Bool → List Boot → ℕ → List (ℕ × JournalEvent) → Gathered → List Boot
joined true boots begun es r = boots ++ boot_with begun (es ++ r.events) ∷ r.boots
joined false boots begun es r = boots ++ r.boots

-- where it is over no line tells more
over_stays : (c : Core) (lines : List ReportLine) (boots : List Boot) (inside : Bool) (begun : ℕ) (es : List (ℕ × JournalEvent)) (number : ℕ) (ending : Option (ℕ × RunEnd))
    → with_lines c (held boots inside begun es number ending true) lines ≡ held boots inside begun es number ending true
unfolding held
over_stays c [] boots inside begun es number ending = refl
over_stays c (l ∷ lines) boots inside begun es number ending = over_stays c lines boots inside begun es number ending

-- nothing behind it
alone : (boots : List Boot) (inside : Bool) (begun : ℕ) (es : List (ℕ × JournalEvent)) (number : ℕ) (ending : Option (ℕ × RunEnd)) (r : Gathered) → r.events ≡ [] → r.boots ≡ []
    → boots_so_far (held boots inside begun es number ending true) ≡ joined inside boots begun es r
unfolding held joined boot_with
alone boots true begun es number ending r no_events no_boots =
    ap (λ xs. boots ++ boot_with begun xs ∷ []) (sym (append-nil es)) ∙ ap (λ xs. boots ++ boot_with begun (es ++ xs) ∷ []) (sym no_events)
    ∙ ap (λ bs. boots ++ boot_with begun (es ++ r.events) ∷ bs) (sym no_boots)
alone boots false begun es number ending r no_events no_boots = sym (append-nil boots) ∙ ap (λ bs. boots ++ bs) (sym no_boots)

stops : (c : Core) (lines : List ReportLine) (boots : List Boot) (inside : Bool) (begun : ℕ) (es : List (ℕ × JournalEvent)) (number : ℕ) (ending : Option (ℕ × RunEnd)) (r : Gathered)
    → r.events ≡ [] → r.boots ≡ [] → boots_so_far (with_lines c (held boots inside begun es number ending true) lines) ≡ joined inside boots begun es r
stops c lines boots inside begun es number ending r no_events no_boots =
    ap boots_so_far (over_stays c lines boots inside begun es number ending) ∙ alone boots inside begun es number ending r no_events no_boots

-- what lines tell of boots
Boots : Core → List ReportLine → Type 0
Boots c lines = (boots : List Boot) (inside : Bool) (begun : ℕ) (es : List (ℕ × JournalEvent)) (number : ℕ)
    → boots_so_far (with_lines c (held boots inside begun es number None false) lines) ≡ joined inside boots begun es (gathered c inside number lines)

-- behind a boot's line
opened_boots : (boots : List Boot) (inside : Bool) (begun : ℕ) (es : List (ℕ × JournalEvent)) (number steps : ℕ) (r : Gathered)
    → joined true (boots_so_far (held boots inside begun es number None false)) steps [] r ≡ joined inside boots begun es (record { events = []; boots = record { begun_at = steps; events = r.events } ∷ r.boots; ending = r.ending; lines = suc r.lines })
unfolding held joined boot_with
opened_boots boots true begun es number steps r =
    append_assoc boots (boot_with begun es ∷ []) (boot_with steps r.events ∷ r.boots)
    ∙ ap (λ xs. boots ++ boot_with begun xs ∷ boot_with steps r.events ∷ r.boots) (sym (append-nil es))
opened_boots boots false begun es number steps r = refl

boot_line : (c : Core) (lines : List ReportLine) → Boots c lines → (right : Bool) (boots : List Boot) (inside : Bool) (begun : ℕ) (es : List (ℕ × JournalEvent)) (number steps : ℕ)
    → boots_so_far (with_lines c (if right then opened steps (held boots inside begun es number None false) else stopped (held boots inside begun es number None false)) lines)
    ≡ joined inside boots begun es (if right then record { events = []; boots = record { begun_at = steps; events = (gathered c true (suc number) lines).events } ∷ (gathered c true (suc number) lines).boots; ending = (gathered c true (suc number) lines).ending; lines = suc (gathered c true (suc number) lines).lines } else no_more)
unfolding held Boots
boot_line c lines rest true boots inside begun es number steps =
    rest (boots_so_far (held boots inside begun es number None false)) true steps [] (suc number) ∙ opened_boots boots inside begun es number steps (gathered c true (suc number) lines)
boot_line c lines rest false boots inside begun es number steps = stops c lines boots inside begun es number None no_more refl refl

item_line : (c : Core) (lines : List ReportLine) → Boots c lines → (it : Item) (boots : List Boot) (inside : Bool) (begun : ℕ) (es : List (ℕ × JournalEvent)) (number steps : ℕ)
    → boots_so_far (with_lines c (with_item steps it (held boots inside begun es number None false)) lines) ≡ joined inside boots begun es (gathered_by inside number steps it (λ inside k. gathered c inside k lines))
unfolding held joined Boots boot_with
item_line c lines rest (a_boot n) boots inside begun es number steps = boot_line c lines rest (n == number) boots inside begun es number steps
item_line c lines rest (an_event e) boots true begun es number steps =
    rest boots true begun (es ++ (steps, e) ∷ []) number ∙ ap (λ xs. boots ++ boot_with begun xs ∷ (gathered c true number lines).boots) (append_assoc es ((steps, e) ∷ []) (gathered c true number lines).events)
item_line c lines rest (an_event e) boots false begun es number steps = stops c lines boots false begun es number None no_more refl refl
item_line c lines rest (an_end ending) boots inside begun es number steps =
    stops c lines boots inside begun es number (Some (steps, ending)) (record { events = []; boots = []; ending = Some (steps, ending); lines = 1 }) refl refl
item_line c lines rest nothing boots inside begun es number steps = stops c lines boots inside begun es number None no_more refl refl

all_boots : (c : Core) (lines : List ReportLine) → Boots c lines
unfolding Boots held
all_boots c [] = λ boots inside begun es number. alone boots inside begun es number None no_more refl refl
all_boots c (l ∷ lines) = λ boots inside begun es number. item_line c lines (all_boots c lines) (item_in c l.text) boots inside begun es number l.steps

pub gathered_boots : (c : Core) (lines : List ReportLine) → boots_so_far (with_lines c ungathered lines) ≡ (gathered c false 1 lines).boots
unfolding held joined Boots
gathered_boots c lines = all_boots c lines [] false 0 [] 1

-- ---- the end

-- what lines tell of the end
Ends : Core → List ReportLine → Type 0
Ends c lines = (boots : List Boot) (inside : Bool) (begun : ℕ) (es : List (ℕ × JournalEvent)) (number : ℕ)
    → (with_lines c (held boots inside begun es number None false) lines).ending ≡ (gathered c inside number lines).ending

boot_end : (c : Core) (lines : List ReportLine) → Ends c lines → (right : Bool) (boots : List Boot) (inside : Bool) (begun : ℕ) (es : List (ℕ × JournalEvent)) (number steps : ℕ)
    → (with_lines c (if right then opened steps (held boots inside begun es number None false) else stopped (held boots inside begun es number None false)) lines).ending
    ≡ (if right then record { events = []; boots = record { begun_at = steps; events = (gathered c true (suc number) lines).events } ∷ (gathered c true (suc number) lines).boots; ending = (gathered c true (suc number) lines).ending; lines = suc (gathered c true (suc number) lines).lines } else no_more).ending
unfolding held Ends
boot_end c lines rest true boots inside begun es number steps = rest (boots_so_far (held boots inside begun es number None false)) true steps [] (suc number)
boot_end c lines rest false boots inside begun es number steps = ap (λ (g : Gathering). g.ending) (over_stays c lines boots inside begun es number None)

item_end : (c : Core) (lines : List ReportLine) → Ends c lines → (it : Item) (boots : List Boot) (inside : Bool) (begun : ℕ) (es : List (ℕ × JournalEvent)) (number steps : ℕ)
    → (with_lines c (with_item steps it (held boots inside begun es number None false)) lines).ending ≡ (gathered_by inside number steps it (λ inside k. gathered c inside k lines)).ending
unfolding held Ends
item_end c lines rest (a_boot n) boots inside begun es number steps = boot_end c lines rest (n == number) boots inside begun es number steps
item_end c lines rest (an_event e) boots true begun es number steps = rest boots true begun (es ++ (steps, e) ∷ []) number
item_end c lines rest (an_event e) boots false begun es number steps = ap (λ (g : Gathering). g.ending) (over_stays c lines boots false begun es number None)
item_end c lines rest (an_end ending) boots inside begun es number steps = ap (λ (g : Gathering). g.ending) (over_stays c lines boots inside begun es number (Some (steps, ending)))
item_end c lines rest nothing boots inside begun es number steps = ap (λ (g : Gathering). g.ending) (over_stays c lines boots inside begun es number None)

all_ends : (c : Core) (lines : List ReportLine) → Ends c lines
unfolding Ends held
all_ends c [] = λ boots inside begun es number. refl
all_ends c (l ∷ lines) = λ boots inside begun es number. item_end c lines (all_ends c lines) (item_in c l.text) boots inside begun es number l.steps

pub gathered_end : (c : Core) (lines : List ReportLine) → (with_lines c ungathered lines).ending ≡ (gathered c false 1 lines).ending
unfolding held Ends
gathered_end c lines = all_ends c lines [] false 0 [] 1

-- ---- how many lines boots have

pub events_counted : (es : List TimedEvent) → length (map timed_of es) ≡ length es
events_counted es = length-map es timed_of

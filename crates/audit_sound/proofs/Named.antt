-- Each event of a journal that can be written, and that the rules allow, has the names of the program.
use Rattle.std.specs.List.{AllByRecursion}
use Rattle.std.proofs.Common.{ℕ, List, [], ◌∷◌, map, sym, subst}
use Rattle.task_ast.specs.declared.core_form.Core.{Core}
use Rattle.devices.specs.Journal.{Boot, Journal, JournalEvent, begins, looks, keeps, drops, issues, seals, copies, commits, traps}
use Rattle.devices.specs.declared.world.World.{World}
use Rattle.power_trace.specs.Short.{HasWords}
use Rattle.report_text.specs.Events.{IsOf, style_of}
use Rattle.report_text.specs.Written.{AreThere, IsBoot, IsEvent, IsJournal}
use Rattle.task_attempts.specs.Boots.{expect, rules_of}
use Rattle.task_attempts.specs.Journals.{cuts_of, events_of, looks_of}
use Rattle.task_attempts.specs.Sound.{IsLegal}
use Rattle.audit_laws.specs.Answers.{AreNamed, BootsAreNamed}
use Rattle.journal_fits.specs.Names.{AllNamePeripherals, NamePeripherals, NamesPeripheral}
use Rattle.journal_fits.proofs.Written.{each_of}

event_named : (c : Core) (e : JournalEvent) → NamesPeripheral c e → HasWords e → AreThere (style_of c) e → IsOf c e
event_named c (begins task) names words there = tt
event_named c (looks site time) names words there = tt
event_named c (keeps site value) names words there = tt
event_named c (drops site) names words there = tt
event_named c (issues site p args reading) names words there = (names, words.2)
event_named c (seals site) names words there = tt
event_named c (copies site from to words) names fits there = there
event_named c (commits next) names words there = tt
event_named c (traps code) names words there = tt

events_named : (c : Core) (es : List (ℕ × JournalEvent)) → NamePeripherals c (map (λ e. e.1) es) → AllByRecursion (IsEvent (style_of c)) es → AreNamed c es
events_named c [] names written = tt
events_named c (e ∷ es) names written = (event_named c e.1 names.0 written.0.words written.0.there, events_named c es names.1 written.1)

boots_named : (c : Core) (bs : List Boot) → AllNamePeripherals c (map events_of bs) → AllByRecursion (IsBoot (style_of c)) bs → BootsAreNamed c bs
boots_named c [] names written = tt
boots_named c (b ∷ bs) names written = (events_named c b.events names.0 (each_of (IsEvent (style_of c)) b.events written.0.events), boots_named c bs names.1 written.1)

pub journal_named : (c : Core) (world : World) (j : Journal) → ((cuts looks : List ℕ) → AllNamePeripherals c (expect (rules_of c world) cuts looks)) → IsJournal (style_of c) j → IsLegal (rules_of c world) j → BootsAreNamed c j.boots
journal_named c world j names written legal =
    boots_named c j.boots (subst (AllNamePeripherals c) (sym legal.expected) (names (cuts_of j) (looks_of j))) (each_of (IsBoot (style_of c)) j.boots written.boots)

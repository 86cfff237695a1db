-- What was seen of a run says what FRAM and the counts of issues are behind it.
use Rattle.std.proofs.Common.{◌≡◌, ◌∙◌, ℕ, ◌<◌, true, List, [], ◌∷◌, ◌++◌, Option, Some, None, refl, ap, arith}
use Rattle.std.proofs.lemmas.Bool.Decides.{nat_tests}
use Rattle.devices.specs.declared.event.Event.{Event}
use Rattle.devices.specs.declared.event.Event.TheVariants as the
use Rattle.devices.specs.Journal.{JournalEvent, Place, begins, looks, keeps, drops, issues, seals, copies, commits, placed, traps}
use Rattle.devices.specs.Readings.{issued_after}
use Rattle.fram_ram.specs.Memories.{is_fram, put}
use Rattle.task_ast.specs.declared.core_form.Core.{Core}
use Rattle.word_isa.specs.declared.parts.Scheme.{Scheme}
use Rattle.word_machine.specs.State.{Program}
use Rattle.word_machine.specs.Step.{exec}
use Rattle.word_machine.specs.Straight.{Spot, live}
use Rattle.word_machine.specs.TraceLaws.{traced}
use Rattle.word_machine.specs.Traces as trace
use Rattle.word_machine.specs.Traces.{applied}
use Rattle.run_plan.specs.Cells.{CellWrite, State}
use Rattle.act_laws.proofs.Counted.{counted, counted_event, issued_traced}
use Rattle.act_refines.specs.Seen.{Seen, event_seen, puts, tells, trace_seen, write_seen}

-- ---- FRAM

-- a memory with the words that were seen
abbrev pub put_seen : List Seen → (ℕ → ℕ) → ℕ → ℕ
put_seen [] m = m
put_seen (puts at word ∷ seen) m = put_seen seen (put m at word)
put_seen (tells e ∷ seen) m = put_seen seen m

applied_seen : (place_of : ℕ → Place) (atoms : List trace.Atom) (m : ℕ → ℕ) → applied atoms m ≡ put_seen (trace_seen place_of atoms) m
applied_seen place_of [] m = refl
applied_seen place_of (trace.wrote at word ∷ atoms) m = applied_seen place_of atoms (put m at word)
applied_seen place_of (trace.showed e ∷ atoms) m = applied_seen place_of atoms m

pub fram_is : (a : ℕ) → a < 65536 → is_fram a ≡ true
fram_is a low = grind (arith, nat_tests, low)

-- FRAM behind so many steps
pub fram_behind : (p : Program) (place_of : ℕ → Place) (n : ℕ) (m : Spot) (seen : List Seen) → trace_seen place_of (trace.trace p n (live m)) ≡ seen → (a : ℕ) → a < 65536 → (exec p n (live m)).store a ≡ put_seen seen m.store a
fram_behind p place_of n m seen is a low =
    traced p n (live m) a (fram_is a low) ∙ ap (λ (f : ℕ → ℕ). f a) (applied_seen place_of (trace.trace p n (live m)) m.store) ∙ ap (λ (xs : List Seen). put_seen xs m.store a) is

-- ---- counts of issues

abbrev pub count_event : Program → JournalEvent → (ℕ → ℕ) → ℕ → ℕ
count_event p (begins t) counts = counts
count_event p (looks k t) counts = counts
count_event p (keeps k value) counts = counts
count_event p (drops k) counts = counts
count_event p (issues k q args reading) counts = issued_after p.values counts q
count_event p (seals k) counts = counts
count_event p (copies k from to n) counts = counts
count_event p (commits next) counts = counts
count_event p (traps code) counts = counts

-- counts with the issues that were seen
abbrev pub count_seen : Program → List Seen → (ℕ → ℕ) → ℕ → ℕ
count_seen p [] counts = counts
count_seen p (puts at word ∷ seen) counts = count_seen p seen counts
count_seen p (tells e ∷ seen) counts = count_seen p seen (count_event p e counts)

event_counts : (p : Program) (place_of : ℕ → Place) (e : Event) (counts : ℕ → ℕ) → counted_event p e counts ≡ count_event p (placed place_of e) counts
event_counts p place_of (the.Begin t) counts = refl
event_counts p place_of (the.Look k t) counts = refl
event_counts p place_of (the.Kept k w) counts = refl
event_counts p place_of (the.Dropped k) counts = refl
event_counts p place_of (the.Issued k q args r) counts = refl
event_counts p place_of (the.Sealed k) counts = refl
event_counts p place_of (the.Copied k from to n) counts = refl
event_counts p place_of (the.Commit t) counts = refl

counted_seen : (p : Program) (place_of : ℕ → Place) (atoms : List trace.Atom) (counts : ℕ → ℕ) → counted p atoms counts ≡ count_seen p (trace_seen place_of atoms) counts
counted_seen p place_of [] counts = refl
counted_seen p place_of (trace.wrote at word ∷ atoms) counts = counted_seen p place_of atoms counts
counted_seen p place_of (trace.showed e ∷ atoms) counts = counted_seen p place_of atoms (counted_event p e counts) ∙ ap (count_seen p (trace_seen place_of atoms)) (event_counts p place_of e counts)

-- the counts behind so many steps
pub counts_behind : (p : Program) (place_of : ℕ → Place) (n : ℕ) (m : Spot) (seen : List Seen) → trace_seen place_of (trace.trace p n (live m)) ≡ seen → (exec p n (live m)).issued ≡ count_seen p seen m.issued
counts_behind p place_of n m seen is = issued_traced p n (live m) ∙ counted_seen p place_of (trace.trace p n (live m)) m.issued ∙ ap (λ (xs : List Seen). count_seen p xs m.issued) is

-- ---- of a small step before others

abbrev pub count_if : Program → Option JournalEvent → (ℕ → ℕ) → ℕ → ℕ
count_if p None counts = counts
count_if p (Some e) counts = count_event p e counts

pub puts_first : (c : Core) (scheme : Scheme) (s : State) (w : Option CellWrite) (e : Option JournalEvent) (rest : List Seen) (m : ℕ → ℕ) → put_seen (write_seen c scheme s w ++ event_seen e ++ rest) m ≡ put_seen rest (put_seen (write_seen c scheme s w) m)
puts_first c scheme s None None rest m = refl
puts_first c scheme s None (Some e) rest m = refl
puts_first c scheme s (Some w) None rest m = refl
puts_first c scheme s (Some w) (Some e) rest m = refl

pub counts_first : (p : Program) (c : Core) (scheme : Scheme) (s : State) (w : Option CellWrite) (e : Option JournalEvent) (rest : List Seen) (counts : ℕ → ℕ) → count_seen p (write_seen c scheme s w ++ event_seen e ++ rest) counts ≡ count_seen p rest (count_if p e counts)
counts_first p c scheme s None None rest counts = refl
counts_first p c scheme s None (Some e) rest counts = refl
counts_first p c scheme s (Some w) None rest counts = refl
counts_first p c scheme s (Some w) (Some e) rest counts = refl

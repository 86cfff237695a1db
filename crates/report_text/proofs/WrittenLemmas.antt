-- The full report of a journal is of the lines that tell it.
use Rattle.std.specs.Prelude.{◌==◌, codes, decimal, if◌then◌else◌, IsTrue}
use Rattle.std.specs.List.{flat_map}
use Rattle.std.proofs.Common.{All, ◌≡◌, ◌∙◌, inl, inr, ℕ, zero, suc, ◌+◌, ◌<◌, ◌^◌, Bool, true, false, List, [], ◌∷◌, ◌++◌, length, refl, sym, ap, subst, append_assoc, append-nil, arith}
use Rattle.std.proofs.lemmas.List.Concat.{flat_map-append}
use Rattle.std.proofs.lemmas.List.Elements.{All-tail}
use Rattle.devices.specs.Journal.{Place, cell, keep, address, JournalEvent, begins, looks, keeps, drops, issues, seals, copies, commits, traps, Boot, Journal}
use Rattle.ease_base.specs.declared.place.Peripheral.{Peripheral}
use Rattle.power_trace.specs.Report as written
use Rattle.power_trace.specs.Report.{Style, symbol_name, peripheral_name, event_text, event_lines, boot_lines, boots_lines, end_text, look_text, issue_text, report}
use Rattle.power_trace.specs.Short.{IsWord, IsWordPlace, HasWords}
use Rattle.report_text.proofs.IssueLemmas.{values_are}
use Rattle.report_text.specs.Grammar.{place_text, text_of, row, is_end, IsIssued, IsPlace, IsText, AreLines, IsReport}
use Rattle.report_text.specs.Written.{IsFull, place_told, event_told, line_told, events_told, boots_told, journal_told, IsThere, AreThere, IsEvent, IsBoot, IsJournal}
use Rattle.report_text.specs.declared.line.LineText.{LineText}
use Rattle.report_text.specs.declared.line.LineText.TheVariants as line
use Rattle.report_text.specs.declared.line.ReportLine.{ReportLine}
use Rattle.task_ast.specs.NameToken.{is_name}
use Rattle.word_isa.specs.declared.parts.Symbol.{Symbol}

symbol_is_name : (symbols : List Symbol) (k : ℕ) → All (λ (s : Symbol). IsTrue (is_name s.name)) symbols → k < length symbols → IsTrue (is_name (symbol_name symbols k))
symbol_is_name [] k all within = absurd (omega (arith, within))
symbol_is_name (s ∷ symbols) zero all within = all 0 s (omega arith)
symbol_is_name (s ∷ symbols) (suc k) all within = symbol_is_name symbols k (All-tail (λ (t : Symbol). IsTrue (is_name t.name)) s symbols all) (omega (arith, within))

peripheral_is_issued : (peripherals : List Peripheral) (n : ℕ) → All (λ (p : Peripheral). IsTrue (is_name p.name)) peripherals → IsWord n → IsIssued (peripheral_name peripherals n)
peripheral_is_issued [] n all small = inr (n, small, refl)
peripheral_is_issued (p ∷ peripherals) n all small =
    by (p.number == n) (all 0 p (omega arith)) (peripheral_is_issued peripherals n (All-tail (λ (q : Peripheral). IsTrue (is_name q.name)) p peripherals all) small)
  where
    by : (t : Bool) → IsTrue (is_name p.name) → IsIssued (peripheral_name peripherals n) → IsIssued (if t then p.name else peripheral_name peripherals n)
    by true first others = inl first
    by false first others = others

place_spelled : (style : Style) (p : Place) → place_text (place_told style p) ≡ written.place_text style.symbols p
place_spelled style (cell k i) = refl
place_spelled style keep = refl
place_spelled style (address at) = refl

place_is : (style : Style) (p : Place) → IsFull style → IsWordPlace p → IsThere style p → IsPlace (place_told style p)
place_is style (cell k i) is words there = (symbol_is_name style.symbols k is.symbols there, words)
place_is style keep is words there = tt
place_is style (address at) is words there = words

-- the text of an event is that of its line
event_spelled : (style : Style) (e : JournalEvent) → IsFull style → HasWords e → text_of (event_told style e) ≡ event_text style e
event_spelled style (begins task) is words = refl
event_spelled style (looks site time) is words = ap (λ b. look_text b site time) (sym is.brief)
event_spelled style (keeps site value) is words = refl
event_spelled style (drops site) is words = refl
event_spelled style (issues site p arguments reading) is words =
    ap (λ vs. issue_text (record { name = peripheral_name style.peripherals p; number = 0 } ∷ []) site 0 vs reading) (values_are arguments words.2)
event_spelled style (seals site) is words = refl
event_spelled style (copies site from to n) is words =
    λ i. codes "copy" ++ written.number site ++ codes " " ++ place_spelled style from i ++ codes " " ++ place_spelled style to i ++ written.number n
event_spelled style (commits next) is words = refl
event_spelled style (traps code) is words = refl

-- which is a text of the grammar
event_is_text : (style : Style) (e : JournalEvent) → IsFull style → HasWords e → AreThere style e → IsText (event_told style e)
event_is_text style (begins task) is words there = words
event_is_text style (looks site time) is words there = words
event_is_text style (keeps site value) is words there = words
event_is_text style (drops site) is words there = words
event_is_text style (issues site p arguments reading) is words there =
    (words.0, peripheral_is_issued style.peripherals p is.peripherals words.1, record { values = arguments; few = words.2; words = words.3; are = refl }, words.4)
event_is_text style (seals site) is words there = words
event_is_text style (copies site from to n) is words there = (words.0, place_is style from is words.1 there.0, place_is style to is words.2 there.1, words.3)
event_is_text style (commits next) is words there = words
event_is_text style (traps code) is words there = words

-- and no end
event_is_no_end : (style : Style) (e : JournalEvent) → is_end (event_told style e) ≡ false
event_is_no_end style (begins task) = refl
event_is_no_end style (looks site time) = refl
event_is_no_end style (keeps site value) = refl
event_is_no_end style (drops site) = refl
event_is_no_end style (issues site p arguments reading) = refl
event_is_no_end style (seals site) = refl
event_is_no_end style (copies site from to words) = refl
event_is_no_end style (commits next) = refl
event_is_no_end style (traps code) = refl

row_spelled : (style : Style) (steps : ℕ) (t : LineText) (text : List ℕ) → IsFull style → text_of t ≡ text → row (line_told steps t) ≡ written.line style steps text
row_spelled style steps t text is same = λ i. (if sym is.brief i then [] else decimal steps ++ codes " ") ++ same i ++ 10 ∷ []

events_spelled : (style : Style) (events : List (ℕ × JournalEvent)) → IsFull style → All (IsEvent style) events → flat_map row (events_told style events) ≡ event_lines style events
events_spelled style [] is all = refl
events_spelled style (e ∷ events) is all =
    let first = all 0 e (omega arith) in
    let here = row_spelled style e.0 (event_told style e.1) (event_text style e.1) is (event_spelled style e.1 is first.words) in
    let others = events_spelled style events is (All-tail (IsEvent style) e events all) in
    λ i. here i ++ others i

events_are : (style : Style) (events : List (ℕ × JournalEvent)) (rest : List ReportLine) → IsFull style → All (IsEvent style) events → AreLines false rest → AreLines false (events_told style events ++ rest)
events_are style [] rest is all are = are
events_are style (e ∷ events) rest is all are =
    let first = all 0 e (omega arith) in (
      refl,
      record { steps = first.step; text = event_is_text style e.1 is first.words first.there },
      subst (λ b. AreLines b (events_told style events ++ rest)) (sym (event_is_no_end style e.1)) (events_are style events rest is (All-tail (IsEvent style) e events all) are),
    )

boots_spelled : (style : Style) (k : ℕ) (boots : List Boot) → IsFull style → All (IsBoot style) boots → flat_map row (boots_told style k boots) ≡ boots_lines style k boots
boots_spelled style k [] is all = refl
boots_spelled style k (boot ∷ boots) is all =
    let first = all 0 boot (omega arith) in
    let here = row_spelled style boot.begun_at (line.Boot k) (codes "boot" ++ written.number k) is refl in
    let events = events_spelled style boot.events is first.events in
    let others = boots_spelled style (suc k) boots is (All-tail (IsBoot style) boot boots all) in
    flat_map-append row (line_told boot.begun_at (line.Boot k) ∷ events_told style boot.events) (boots_told style (suc k) boots)
    ∙ (λ i. (here i ++ events i) ++ others i)

boots_are : (style : Style) (k : ℕ) (boots : List Boot) (rest : List ReportLine) → IsFull style → k + length boots < 2 ^ 32 → All (IsBoot style) boots → AreLines false rest → AreLines false (boots_told style k boots ++ rest)
boots_are style k [] rest is few all are = are
boots_are style k (boot ∷ boots) rest is few all are =
    let first = all 0 boot (omega arith) in
    let later = boots_are style (suc k) boots rest is (omega (arith, few)) (All-tail (IsBoot style) boot boots all) are in
    let number : IsWord k = omega (arith, few) in (
      refl,
      record { steps = first.begun; text = number },
      subst (AreLines false) (sym (append_assoc (events_told style boot.events) (boots_told style (suc k) boots) rest)) (events_are style boot.events (boots_told style (suc k) boots ++ rest) is first.events later),
    )

-- the report of a journal is of the lines that tell it
pub journal_is_told : (style : Style) (j : Journal) → IsFull style → IsJournal style j → IsReport (report style j) (journal_told style j)
journal_is_told style j is journal =
    let last = line_told j.steps (line.End j.ending) in
    let end = row_spelled style j.steps (line.End j.ending) (end_text j.ending) is refl in
    record {
      are = boots_are style 1 j.boots (last ∷ []) is (omega (arith, journal.count)) journal.boots (refl, record { steps = journal.steps; text = journal.ending }, refl);
      spelled =
          sym (flat_map-append row (boots_told style 1 j.boots) (last ∷ [])
          ∙ (λ i. boots_spelled style 1 j.boots is journal.boots i ++ (end i ++ []))
          ∙ ap (λ x. boots_lines style 1 j.boots ++ x) (append-nil (written.line style j.steps (end_text j.ending))));
    }

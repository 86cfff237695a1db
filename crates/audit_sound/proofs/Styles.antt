-- The report of a sound image has the names of its program.
use Rattle.std.specs.Prelude.{false, codes, decimal, map}
use Rattle.std.proofs.Common.{◌≡◌, ◌∙◌, ℕ, zero, suc, List, [], ◌∷◌, ◌++◌, length, refl, ap}
use Rattle.ease_base.specs.declared.place.Peripheral.{Peripheral}
use Rattle.task_ast.specs.declared.core_form.Array.{Array}
use Rattle.task_ast.specs.declared.core_form.Core.{Core}
use Rattle.devices.specs.Journal.{Boot, Journal, JournalEvent, Place, cell, keep, address, begins, looks, keeps, drops, issues, seals, copies, commits, traps}
use Rattle.power_trace.specs.Report as written
use Rattle.power_trace.specs.Report.{Style, boot_lines, boots_lines, event_lines, event_text, line, number, place_text, report, symbol_name}
use Rattle.report_text.specs.Events.{style_of, symbol_of}
use Rattle.sound_images.specs.Sound.{TellArrays, TellsProgram}
use Rattle.word_isa.specs.declared.image.Image.{Image}
use Rattle.word_isa.specs.declared.parts.Scheme.{Scheme}
use Rattle.word_isa.specs.declared.parts.Symbol.{Symbol}

-- ---- symbols that are told are as many, with the same names

pub as_many : (arrays : List Array) (symbols : List Symbol) → TellArrays arrays symbols → length (map symbol_of arrays) ≡ length symbols
as_many [] [] tells = refl
as_many [] (s ∷ symbols) tells = absurd tells
as_many (a ∷ arrays) [] tells = absurd tells
as_many (a ∷ arrays) (s ∷ symbols) tells = ap suc (as_many arrays symbols tells.1)

same_name : (arrays : List Array) (symbols : List Symbol) (k : ℕ) → TellArrays arrays symbols → symbol_name symbols k ≡ symbol_name (map symbol_of arrays) k
same_name [] [] k tells = refl
same_name [] (s ∷ symbols) k tells = absurd tells
same_name (a ∷ arrays) [] k tells = absurd tells
same_name (a ∷ arrays) (s ∷ symbols) zero tells = tells.0.name
same_name (a ∷ arrays) (s ∷ symbols) (suc k) tells = same_name arrays symbols k tells.1

-- ---- styles with the same names write the same

abbrev full : List Symbol → List Peripheral → Style
full symbols peripherals = record { symbols = symbols; peripherals = peripherals; brief = false }

module _ (ps : List Peripheral) (a b : List Symbol) (same : (k : ℕ) → symbol_name a k ≡ symbol_name b k) where
  places_same : (x : Place) → place_text a x ≡ place_text b x
  places_same (cell k i) = ap (λ name. name ++ codes "[" ++ decimal i ++ codes "]") (same k)
  places_same keep = refl
  places_same (address at) = refl

  events_same : (e : JournalEvent) → event_text (full a ps) e ≡ event_text (full b ps) e
  events_same (begins task) = refl
  events_same (looks site time) = refl
  events_same (keeps site value) = refl
  events_same (drops site) = refl
  events_same (issues site p args reading) = refl
  events_same (seals site) = refl
  events_same (copies site from to words) =
      λ i. codes "copy" ++ number site ++ codes " " ++ places_same from i ++ codes " " ++ places_same to i ++ number words
  events_same (commits next) = refl
  events_same (traps code) = refl

  lines_same : (es : List (ℕ × JournalEvent)) → event_lines (full a ps) es ≡ event_lines (full b ps) es
  lines_same [] = refl
  lines_same (e ∷ es) = λ i. line (full b ps) e.0 (events_same e.1 i) ++ lines_same es i

  boots_same : (k : ℕ) (bs : List Boot) → boots_lines (full a ps) k bs ≡ boots_lines (full b ps) k bs
  boots_same k [] = refl
  boots_same k (boot ∷ bs) = λ i. (line (full b ps) boot.begun_at (codes "boot" ++ number k) ++ lines_same boot.events i) ++ boots_same (suc k) bs i

  reports_same : (j : Journal) → report (full a ps) j ≡ report (full b ps) j
  reports_same j = ap (λ lines. lines ++ line (full b ps) j.steps (written.end_text j.ending)) (boots_same 1 j.boots)

-- so the report of an image with the program's names is that with these names
pub report_told : (c : Core) (scheme : Scheme) (i : Image) (j : Journal) → TellsProgram c scheme i → report (written.style_of i false) j ≡ report (style_of c) j
report_told c scheme i j tells =
    ap (λ ps. report (full i.symbols ps) j) tells.peripherals
    ∙ reports_same c.peripherals i.symbols (map symbol_of c.arrays) (λ k. same_name c.arrays i.symbols k tells.symbols) j

-- The boots of a journal are no more than the world's power rows, and no more than the bytes of its report.
use Rattle.std.specs.Prelude.{codes, decimal, if◌then◌else◌}
use Rattle.std.proofs.Common.{◌≡◌, ℕ, suc, ◌+◌, ◌≤◌, Bool, true, false, List, [], ◌∷◌, ◌++◌, length, length-append, arith}
use Rattle.devices.specs.Journal.{Boot, Journal, Place}
use Rattle.devices.specs.declared.world.PowerRow.{PowerRow}
use Rattle.power_trace.specs.Report.{Style, boots_lines, end_text, event_lines, line, number, report}
use Rattle.word_machine.specs.Runs.{boots, fail_behind, is_running}
use Rattle.word_machine.specs.State.{Program, State}
use Rattle.word_machine.specs.Step.{exec}

pub few_rows : (place_of : ℕ → Place) (p : Program) (rows : List PowerRow) (before : ℕ) (s : State) → length (boots place_of p rows before s) ≤ length rows
unfolding boots
few_rows place_of p [] before s = omega arith
few_rows place_of p (row ∷ rows) before s = by (is_running (exec p row.on s).ending) (few_rows place_of p rows (before + row.on) (fail_behind row (exec p row.on s)))
  where
    by : (b : Bool) → length (boots place_of p rows (before + row.on) (fail_behind row (exec p row.on s))) ≤ length rows
        → suc (length (if b then boots place_of p rows (before + row.on) (fail_behind row (exec p row.on s)) else [])) ≤ suc (length rows)
    by true h = omega (arith, h)
    by false h = omega arith

-- a line has a byte
some_bytes : (style : Style) (steps : ℕ) (text : List ℕ) → 1 ≤ length (line style steps text)
some_bytes style steps text = omega (arith, length-append ((if style.brief then [] else decimal steps ++ codes " ") ++ text) (10 ∷ []))

few_lines : (style : Style) (k : ℕ) (bs : List Boot) → length bs ≤ length (boots_lines style k bs)
few_lines style k [] = omega arith
few_lines style k (b ∷ bs) =
    let head = line style b.begun_at (codes "boot" ++ number k) in
    let own : length (head ++ event_lines style b.events) ≡ length head + length (event_lines style b.events) = length-append head (event_lines style b.events) in
    let all : length ((head ++ event_lines style b.events) ++ boots_lines style (suc k) bs) ≡ length (head ++ event_lines style b.events) + length (boots_lines style (suc k) bs) =
    length-append (head ++ event_lines style b.events) (boots_lines style (suc k) bs) in
    omega (arith, own, all, few_lines style (suc k) bs, some_bytes style b.begun_at (codes "boot" ++ number k))

pub few_bytes : (style : Style) (j : Journal) → length j.boots ≤ length (report style j)
few_bytes style j = omega (arith, few_lines style 1 j.boots, length-append (boots_lines style 1 j.boots) (line style j.steps (end_text j.ending)))

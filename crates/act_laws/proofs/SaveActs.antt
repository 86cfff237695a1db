-- Saving and restoring a region: all of its words, or none.
use Rattle.std.specs.Prelude.{◌==◌, not, ◌*◌}
use Rattle.std.specs.List.{AllByRecursion}
use Rattle.std.proofs.Common.{◌≡◌, ℕ, zero, suc, ◌+◌, ◌≤◌, ◌<◌, Bool, List, [], ◌∷◌, ◌++◌, length, refl, ap, subst, slice_index_or, arith}
use Rattle.word_machine.specs.State.{Program}
use Rattle.word_machine.specs.Straight.{Spot}
use Rattle.line_code.specs.declared.areas.Placed.{Placed}
use Rattle.line_code.specs.declared.line.Line.{Line}
use Rattle.line_code.specs.Areas.{area_at}
use Rattle.line_code.specs.Lines.{bares}
use Rattle.word_isa.specs.declared.instr.Instr.TheVariants.{Ld, Eq, Jz, Jmp}
use Rattle.word_code.specs.Acts.{jump}
use Rattle.word_code.specs.Beginnings.{AreLow, first_of, save_code, restore_code}
use Rattle.word_code.specs.Frames.{Frame, lock_at}
use Rattle.line_laws.specs.Standing.{Lie}
use Rattle.act_laws.specs.Blocks.{list_code, AllGood, Copy, GoodCopy, copies, word_copies, array_copies}
use Rattle.act_laws.specs.Codes.{Fixed, top, Acts, FramCell}
use Rattle.act_laws.specs.CodeLaws.{fram_cell}
use Rattle.act_laws.specs.Templates.{SaveDoes, RestoreDoes}
use Rattle.act_laws.proofs.BeginActs.{homes_are, all_good_more}
use Rattle.act_laws.proofs.BlockActs.{save_acts, restore_acts}

good_words : (from to i n : ℕ) → from + i + n ≤ 65536 → to + i + n ≤ 65536 → AllGood copies (word_copies from to i n)
good_words from to i zero low high = tt
good_words from to i (suc n) low high = (record { from = fram_cell (from + i) (omega (arith, low)); to = fram_cell (to + i) (omega (arith, high)) }, good_words from to (i + 1) n (omega (arith, low)) (omega (arith, high)))

area_low : (areas : List Placed) (a : ℕ) → AreLow areas → (area_at areas a).offset + (area_at areas a).room ≤ 9026
area_low [] a low = omega arith
area_low (p ∷ areas) zero low = low.0
area_low (p ∷ areas) (suc a) low = area_low areas a low.1

good_arrays : (areas : List Placed) (from to : ℕ) (arrays : List ℕ) → AreLow areas → from ≤ 2048 → to ≤ 2048 → AllGood copies (array_copies areas from to arrays)
good_arrays areas from to [] low h k = tt
good_arrays areas from to (a ∷ rest) low h k =
    let p : Placed = area_at areas a in
    all_good_more copies (word_copies (p.offset + from) (p.offset + to) 0 p.room) (array_copies areas from to rest)
    (good_words (p.offset + from) (p.offset + to) 0 p.room (omega (arith, area_low areas a low, h)) (omega (arith, area_low areas a low, k))) (good_arrays areas from to rest low h k)

pub save_works : (p : Program) (x : Fixed) (f : Frame) (r next : ℕ) (s : Spot) (held : Bool) → SaveDoes p x f r next s held
save_works p x f r next s held low areas is has =
    let cs : List Copy = array_copies f.areas 0 2048 (first_of f r) in
    save_acts p x (lock_at r) cs next s held is (fram_cell (lock_at r) (omega (arith, low))) (good_arrays f.areas 0 2048 (first_of f r) areas (omega arith) (omega arith))
    (subst (λ (z : List Line). Lie p s.pc (bares (Ld 1 0 (lock_at r) ∷ Eq 1 13 ∷ Jz 1 1 ∷ Jmp next ∷ []) ++ (z ++ jump next))) (homes_are f.areas 0 2048 (first_of f r)) has)

pub restore_works : (p : Program) (x : Fixed) (f : Frame) (r next : ℕ) (s : Spot) (held : Bool) → RestoreDoes p x f r next s held
restore_works p x f r next s held low areas is has =
    let cs : List Copy = array_copies f.areas 2048 0 (first_of f r) in
    restore_acts p x (lock_at r) cs next s held is (fram_cell (lock_at r) (omega (arith, low))) (good_arrays f.areas 2048 0 (first_of f r) areas (omega arith) (omega arith))
    (subst (λ (z : List Line). Lie p s.pc (bares (Ld 1 0 (lock_at r) ∷ Eq 1 13 ∷ Eq 1 0 ∷ Jz 1 1 ∷ Jmp next ∷ []) ++ (z ++ jump next))) (homes_are f.areas 2048 0 (first_of f r)) has)

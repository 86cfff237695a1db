-- Cells that get their signs, one mark after another from the last.
use Rattle.std.specs.Prelude.{◌==◌, ◌≤◌, ◌&&◌, nat_lt, if◌then◌else◌}
use Rattle.std.specs.Option.{option_map, option_and_then, unwrap_or}
use Rattle.std.proofs.Common.{◌≡◌, ◌∙◌, ℕ, zero, suc, ◌<◌, Bool, true, false, All, List, [], ◌∷◌, length, map, drop, Option, Some, None, refl, sym, ap, subst, get_or, set, arith}
use Rattle.std.proofs.Math.Path.{fun_ext}
use Rattle.std.proofs.Math.Seq.{drop-cons}
use Rattle.std.proofs.lemmas.Bool.Decides.{nat_tests}
use Rattle.std.proofs.lemmas.List.{drop_all, length-set}
use Rattle.std.proofs.lemmas.Option.{slice_get_within, slice_get-get_or}
use Rattle.std.specs.List.{slice_get}
use Rattle.word_isa.specs.Checks.{first_too_large, first_bad_word}
use Rattle.word_isa.specs.Decoding.{decoded}
use Rattle.word_isa.specs.ImageLaws.{passes_at, row_at}
use Rattle.word_isa.specs.Instructions.{FitsFields}
use Rattle.word_isa.specs.Marks.{mark_at, first_bad_mark, mark_passes, stands_at}
use Rattle.word_isa.specs.RowLaws.{decoded_row, row_decoded}
use Rattle.word_isa.specs.declared.instr.Instr.{Instr}
use Rattle.word_isa.specs.declared.instr.Instr.TheVariants.{Halt}
use Rattle.word_isa.specs.declared.mark.Mark.{Mark}
use Rattle.word_isa.specs.declared.mark.MarkKind.{MarkKind}
use Rattle.word_machine.specs.Held.{instr_in, sign_in, program_with}
use Rattle.word_machine.specs.Loading.{bare_cell, signed, AreSigned}
use Rattle.word_machine.specs.State.{Program, sign_of, program_of}
use Rattle.word_machine.specs.declared.cell.Cell.{Cell}
use Rattle.word_machine.specs.declared.cell.Sign.{Sign}

-- the cell at a place with this sign
abbrev with_sign : List Cell → ℕ → Option Sign → Cell → List Cell
with_sign cells at s d = set cells at (record { instr = (get_or cells at d).instr; sign = s })

instrs_stay : (cells : List Cell) (at : ℕ) (s : Option Sign) (d : Cell) (k : ℕ) → instr_in (with_sign cells at s d) k ≡ instr_in cells k
instrs_stay [] at s d k = refl
instrs_stay (c ∷ cells) zero s d zero = refl
instrs_stay (c ∷ cells) zero s d (suc k) = refl
instrs_stay (c ∷ cells) (suc at) s d zero = refl
instrs_stay (c ∷ cells) (suc at) s d (suc k) = instrs_stay cells at s d k

zero_and_suc : (k : ℕ) → (0 == suc k) ≡ false
zero_and_suc k = grind (arith, nat_tests)

suc_and_zero : (k : ℕ) → (suc k == 0) ≡ false
suc_and_zero k = grind (arith, nat_tests)

suc_and_suc : (at k : ℕ) → (suc at == suc k) ≡ (at == k)
suc_and_suc at k = grind (arith, nat_tests)

sign_put : (cells : List Cell) (at : ℕ) (s : Option Sign) (d : Cell) (k : ℕ) → at < length cells
    → sign_in (with_sign cells at s d) k ≡ (if at == k then s else sign_in cells k)
sign_put [] at s d k h = absurd (omega arith)
sign_put (c ∷ cells) zero s d zero h = refl
sign_put (c ∷ cells) zero s d (suc k) h = rw (zero_and_suc k) refl
sign_put (c ∷ cells) (suc at) s d zero h = rw (suc_and_zero at) refl
sign_put (c ∷ cells) (suc at) s d (suc k) h = rw (suc_and_suc at k) (sign_put cells at s d k (omega arith))

first_mark : (b : Bool) (m : Mark) (o : Option Mark) → option_map sign_of (if b then Some m else o) ≡ (if b then Some (sign_of m) else option_map sign_of o)
first_mark true m o = refl
first_mark false m o = refl

mark_cons : (m : Mark) (marks : List Mark) (k : ℕ) → option_map sign_of (mark_at (m ∷ marks) k) ≡ (if m.at == k then Some (sign_of m) else option_map sign_of (mark_at marks k))
unfolding mark_at
mark_cons m marks k = first_mark (m.at == k) m (mark_at marks k)

-- one mark more, before the others
signed_more : (m : Mark) (marks : List Mark) (before after : List Cell) → m.at < length before → AreSigned marks before after → AreSigned (m ∷ marks) before (signed m after)
signed_more m marks before after within h = record {
  instrs = λ k. instrs_stay after m.at (Some (sign_of m)) (bare_cell 0) k ∙ h.instrs k;
  count = length-set after m.at (record { instr = (get_or after m.at (bare_cell 0)).instr; sign = Some (sign_of m) }) ∙ h.count;
  signs = λ bare k. sign_put after m.at (Some (sign_of m)) (bare_cell 0) k (subst (λ n. m.at < n) (sym h.count) within)
      ∙ ap (λ o. if m.at == k then Some (sign_of m) else o) (h.signs bare k) ∙ sym (mark_cons m marks k);
}

-- no marks, no signs
signed_none : (cells : List Cell) → AreSigned [] cells cells
unfolding mark_at
signed_none cells = record { instrs = λ k. refl; count = refl; signs = λ bare k. bare k }

-- so many marks from the last are done
pub record IsSigning (marks : List Mark) (left : ℕ) (before after : List Cell) : Type 0 where
  pub done : AreSigned (drop left marks) before after

pub signing_starts : (marks : List Mark) (left : ℕ) (cells : List Cell) → left ≡ length marks → IsSigning marks left cells cells
signing_starts marks left cells e = record { done = subst (λ xs. AreSigned xs cells cells) (sym (drop_all left marks (omega (arith, e)))) (signed_none cells) }

-- and one more
pub signing_goes_on : (marks : List Mark) (left : ℕ) (before after : List Cell) (m : Mark) → left < length marks → m ≡ get_or marks left m → m.at < length before
    → IsSigning marks (suc left) before after → IsSigning marks left before (signed m after)
signing_goes_on marks left before after m within is low h =
    let front : drop left marks ≡ m ∷ drop (suc left) marks = drop-cons marks left m within ∙ ap (λ x. x ∷ drop (suc left) marks) (sym is) in
    record { done = subst (λ xs. AreSigned xs before (signed m after)) (sym front) (signed_more m (drop (suc left) marks) before after low h.done) }

-- where a mark stands there is a word
word_there : (kind : MarkKind) (code : List ℕ) (at : ℕ) (o : Option ℕ) → slice_get code at ≡ o → stands_at kind o ≡ true → at < length code
word_there kind code at None is stands = cc
word_there kind code at (Some w) is stands = slice_get_within code at w is

first_true : (a b c d : Bool) → (a && b && c && d) ≡ true → a ≡ true
first_true true b c d e = refl
first_true false b c d e = e

-- so a good mark lies below the end of the code
pub mark_low : (version : ℕ) (code : List ℕ) (marks : List Mark) (k : ℕ) (d : Mark) → first_bad_mark version code marks ≡ None → k < length marks → (get_or marks k d).at < length code
unfolding mark_passes
mark_low version code marks k d good within =
    let m : Mark = get_or marks k d in
    word_there m.kind code m.at (slice_get code m.at) refl (first_true _ _ _ _ (passes_at (mark_passes version code) marks k m good (slice_get-get_or marks k d within)))

fits_or_halts : (w : ℕ) (o : Option Instr) → decoded w ≡ o → FitsFields (unwrap_or o Halt)
fits_or_halts w None is = tt
fits_or_halts w (Some i) is = (decoded_row w i is).0

-- the instructions of decoded words fit
pub bare_fits : (code : List ℕ) (at : ℕ) (i : Instr) → instr_in (map bare_cell code) at ≡ Some i → FitsFields i
bare_fits [] at i e = cc
bare_fits (w ∷ ws) zero i e = let same : unwrap_or (decoded w) Halt ≡ i = cc in subst FitsFields same (fits_or_halts w (decoded w) refl)
bare_fits (w ∷ ws) (suc at) i e = bare_fits ws at i e

-- and so do those of cells with the same instructions
pub cells_fit : (code : List ℕ) (cells : List Cell) → ((at : ℕ) → instr_in cells at ≡ instr_in (map bare_cell code) at) → All (λ (c : Cell). FitsFields c.instr) cells
cells_fit code cells same k d within = bare_fits code k (get_or cells k d).instr (sym (same k) ∙ ap (option_map (λ (c : Cell). c.instr)) (slice_get-get_or cells k d within))

-- no decoded word has a sign
pub bare_unsigned : (code : List ℕ) (at : ℕ) → sign_in (map bare_cell code) at ≡ None
bare_unsigned [] at = refl
bare_unsigned (w ∷ ws) zero = refl
bare_unsigned (w ∷ ws) (suc at) = bare_unsigned ws at

-- a count of code words that passes
pub code_short : (code fram symbols peripherals marks : ℕ) → first_too_large code fram symbols peripherals marks ≡ None → code ≤ 4194304
code_short code fram symbols peripherals marks e = by (nat_lt 4194304 code) refl
  where
    by : (b : Bool) → nat_lt 4194304 code ≡ b → code ≤ 4194304
    by true is = let found : first_too_large code fram symbols peripherals marks ≡ Some code = ap (λ (b : Bool). if b then Some code else first_too_large 0 fram symbols peripherals marks) is in cc
    by false is = grind (arith, nat_tests)

-- where every word has a row, the decoded word is its instruction
bare_instr : (code : List ℕ) (at : ℕ) → instr_in (map bare_cell code) at ≡ option_map (λ w. unwrap_or (decoded w) Halt) (slice_get code at)
bare_instr [] at = refl
bare_instr (w ∷ ws) zero = refl
bare_instr (w ∷ ws) (suc at) = bare_instr ws at

with_row : (w : ℕ) (i : Instr) → decoded w ≡ Some i → Some (unwrap_or (decoded w) Halt) ≡ decoded w
with_row w i e = rw e refl

row_instr : (code : List ℕ) (at : ℕ) (o : Option ℕ) → slice_get code at ≡ o → first_bad_word code ≡ None → option_map (λ w. unwrap_or (decoded w) Halt) o ≡ option_and_then decoded o
row_instr code at None is good = refl
row_instr code at (Some w) is good = let found = row_at code at w good is in with_row w found.0 (row_decoded w found.0 found.1)

pub bare_decoded : (code : List ℕ) (at : ℕ) → first_bad_word code ≡ None → instr_in (map bare_cell code) at ≡ option_and_then decoded (slice_get code at)
bare_decoded code at good = bare_instr code at ∙ row_instr code at (slice_get code at) refl good

-- so the signed cells are the program of the code and the marks
pub same_program : (code : List ℕ) (marks : List Mark) (cells : List Cell) (values : ℕ → List ℕ) → first_bad_word code ≡ None → AreSigned marks (map bare_cell code) cells
    → program_with cells values ≡ program_of code marks values
same_program code marks cells values good h =
    let instrs : instr_in cells ≡ (λ at. option_and_then decoded (slice_get code at)) = fun_ext (λ at. h.instrs at ∙ bare_decoded code at good) in
    let signs : sign_in cells ≡ (λ at. option_map sign_of (mark_at marks at)) = fun_ext (h.signs (bare_unsigned code)) in
    ap {B = Program} (λ f. record { instr = f; mark = sign_in cells; values = values }) instrs
    ∙ ap {B = Program} (λ g. record { instr = λ at. option_and_then decoded (slice_get code at); mark = g; values = values }) signs

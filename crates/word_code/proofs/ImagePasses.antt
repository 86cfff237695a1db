-- The parts of the image of every plan pass the tests of an image.
use Rattle.std.specs.Prelude.{◌≡◌, ℕ, suc, ◌+◌, ◌-◌, ◌≤◌, true, false, ◌&&◌, nat_lt, nat_le, List, [], ◌∷◌, ◌++◌, length, map, replicate, None, refl}
use Rattle.std.proofs.Common.{ap, sym, ◌∙◌, arith, subst, length-append}
use Rattle.std.proofs.lemmas.Bool.{le-leb}
use Rattle.std.proofs.lemmas.Bool.Decides.{nat_tests}
use Rattle.std.proofs.lemmas.List.{length-map, length-replicate}
use Rattle.std.proofs.lemmas.List.Sums.{sum_by-cons}
use Rattle.ease_base.specs.declared.place.Peripheral.{Peripheral}
use Rattle.task_ast.specs.declared.tree.Kind.{Kind}
use Rattle.task_ast.specs.declared.tree.Kind.TheVariants.{Nv, Const, Vol}
use Rattle.task_ast.specs.declared.core_form.Array.{Array}
use Rattle.task_ast.specs.declared.core_form.CoreTask.{CoreTask}
use Rattle.task_ast.specs.declared.core_form.Core.{Core}
use Rattle.task_ast.specs.WellFormed.{IsWellFormed, core_names}
use Rattle.word_isa.specs.declared.parts.Scheme.{Scheme}
use Rattle.word_isa.specs.declared.parts.Scheme.TheVariants.{Undo, Bank}
use Rattle.word_isa.specs.Checks.{first_too_large, stride_passes, banks_pass}
use Rattle.word_isa.specs.Instructions.{encoded}
use Rattle.line_code.specs.declared.areas.Placed.{Placed}
use Rattle.line_code.specs.declared.line.Line.{Line}
use Rattle.line_code.specs.Areas.{areas_from, free_at_first, total}
use Rattle.run_plan.specs.declared.parts.Plan.{Plan}
use Rattle.run_plan.specs.PlanOf.{plan_of}
use Rattle.run_plan.specs.Sizes.{AreWithin}
use Rattle.word_code.specs.CodeOf.{words_of, marks_of, code_of, constant_words, homes_of, constants_of, fram_with, fram_of, symbols_from, most_kept, first_at, jobs_of, jobs_size}
use Rattle.word_code.specs.ActMarks.{jobs_marks}
use Rattle.word_code.specs.FitPlan.{IsFitPlan}
use Rattle.word_code.specs.Frames.{stride}
use Rattle.word_code.specs.ImageOf.{HasImage}
use Rattle.word_code.specs.Within.{IsWithin}
use Rattle.word_code.proofs.BeginLemmas.{homes_few}
use Rattle.word_code.proofs.CodePasses.{code_fine}
use Rattle.word_code.proofs.Fine.{Fine, marks_counted}
use Rattle.word_code.proofs.FitLaws.{plan_fits}
use Rattle.word_code.proofs.SymbolPasses.{symbols_pass, peripherals_pass}
use Rattle.word_code.proofs.TestLaws.{words_pass, marks_pass}
use Rattle.word_code.proofs.WithinLaws.{kept_few}

-- ---- counts

constant_part : (k : Kind) (words : List ℕ) → length (constant_words k words) ≤ length words
constant_part Nv words = omega arith
constant_part Const words = omega arith
constant_part Vol words = omega arith

constants_few : (arrays : List Array) → length (constants_of arrays) ≤ total arrays
constants_few [] = omega arith
constants_few (a ∷ rest) =
    omega (arith, sum_by-cons (λ (x : Array). length x.first) a rest, length-append (constant_words a.kind a.first) (constants_of rest), constant_part a.kind a.first, constants_few rest)

fram_few : (homes constants : List ℕ) → length homes ≤ 4096 → length constants ≤ 4096 → length (fram_with homes constants) ≤ 65536
fram_few homes [] one two = omega (arith, one)
fram_few homes (w ∷ words) one two =
    omega (
      arith,
      one,
      two,
      length-append (homes ++ replicate (4096 - length homes) 0) (w ∷ words),
      length-append homes (replicate (4096 - length homes) 0),
      length-replicate {A = ℕ} (4096 - length homes) 0,
    )

symbols_counted : (areas : List Placed) (number : ℕ) (arrays : List Array) → length (symbols_from areas number arrays) ≡ length arrays
symbols_counted areas number [] = refl
symbols_counted areas number (a ∷ rest) = ap suc (symbols_counted areas (number + 1) rest)

within : (n limit : ℕ) → n ≤ limit → nat_lt limit n ≡ false
within n limit few = grind (arith, nat_tests)

none_too_large : (a b c d e : ℕ) → a ≤ 4194304 → b ≤ 65536 → c ≤ 256 → d ≤ 256 → e ≤ 2097152 → first_too_large a b c d e ≡ None
none_too_large a b c d e one two three four five =
    rw (within a 4194304 one, within b 65536 two, within c 256 three, within d 256 four, within e 2097152 five) refl

words_counted : (lines : List Line) → length lines ≤ 4194304 → length (words_of lines) ≤ 4194304
words_counted lines short = omega (arith, length-map lines (λ (l : Line). encoded l.instr), short)

stride_good : (scheme : Scheme) → stride_passes scheme (stride scheme) ≡ true
stride_good Undo = refl
stride_good Bank = refl

banks_good : (scheme : Scheme) (kept : ℕ) → 7042 + kept ≤ 65536 → banks_pass scheme (stride scheme) 7042 kept ≡ true
banks_good scheme kept few = (λ i. stride_good scheme i && nat_le (7042 + kept) 65536) ∙ le-leb (7042 + kept) 65536 few

peripherals_few : (c : Core) → IsWellFormed c → length c.peripherals ≤ 256
peripherals_few c w =
    let a : List (List ℕ) = map (λ (x : Array). x.name) c.arrays in
    let q : List (List ℕ) = map (λ (x : Peripheral). x.name) c.peripherals in
    let t : List (List ℕ) = map (λ (x : CoreTask). x.name) c.tasks in
    let named : length (core_names c) ≤ 256 = w.few_names in
    omega (arith, named, length-append (a ++ c.pointers ++ q) t, length-append (a ++ c.pointers) q, length-map c.peripherals (λ (x : Peripheral). x.name))

-- ---- the image

-- a plan that fits and stays within its formulas
passes : (c : Core) (p : Plan) → IsWellFormed c → IsFitPlan p c → IsWithin p c → AreWithin p.scheme c → HasImage p c
passes c p w fit own limits =
    let low : first_at c + jobs_size p (jobs_of p c) ≤ 4194304 = omega (arith, own.code, limits.code) in
    let fine : Fine (jobs_marks p (jobs_of p c)) (code_of p c) = code_fine p c w fit low in
    let kept : most_kept c.tasks ≤ 16384 = kept_few c c.tasks w.tasks in
    let fram : length (fram_of c.arrays) ≤ 65536 = fram_few (homes_of c.arrays) (constants_of c.arrays) (omega (arith, homes_few c.arrays, fit.words)) (omega (arith, constants_few c.arrays, fit.words)) in
    let symbols : length (symbols_from (areas_from free_at_first c.arrays) 0 c.arrays) ≤ 256 = omega (arith, symbols_counted (areas_from free_at_first c.arrays) 0 c.arrays, fit.arrays) in
    let marks : length (marks_of 0 (code_of p c)) ≤ 2097152 = omega (arith, marks_counted 0 (code_of p c), fine.signs, own.marks, limits.marks) in
    record {
      short = low;
      lines = fine.pass;
      tests = λ all short. record {
        versions = refl;
        counts = none_too_large (length (words_of (code_of p c))) (length (fram_of c.arrays)) (length (symbols_from (areas_from free_at_first c.arrays) 0 c.arrays)) (length c.peripherals) (length (marks_of 0 (code_of p c)))
            (words_counted (code_of p c) short) fram symbols (peripherals_few c w) marks;
        words = words_pass (code_of p c) all;
        banks = banks_good p.scheme (most_kept c.tasks) own.fram.kept;
        symbols_pass = symbols_pass p.scheme c (most_kept c.tasks) w kept;
        peripherals_pass = peripherals_pass c w;
        marks_pass = marks_pass (code_of p c) all fine.pass;
      };
    }

-- the plan of a well-formed program
pub plan_passes : (c : Core) (p : Plan) → IsWellFormed c → p ≡ plan_of c p.scheme → IsWithin (plan_of c p.scheme) c → AreWithin p.scheme c → HasImage p c
plan_passes c p w is within_formulas limits =
    passes c p w (subst (λ (q : Plan). IsFitPlan q c) (sym is) (plan_fits c p.scheme w)) (subst (λ (q : Plan). IsWithin q c) (sym is) within_formulas) limits

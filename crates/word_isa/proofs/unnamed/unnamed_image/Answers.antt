-- Without names no test of names can fail.
use Rattle.std.specs.Prelude.{◌≡◌, ℕ, true, List, [], Option, Some, None, length, refl}
use Rattle.std.proofs.Common.{sym, ◌∙◌, ap}
use Rattle.std.specs.Option.{is_none}
use Rattle.ease_base.specs.declared.place.Peripheral.{Peripheral}
use Rattle.word_isa.specs.Checks.{first_too_large, first_bad_word}
use Rattle.word_isa.specs.FirstFailing.{first_failing}
use Rattle.word_isa.specs.ImageTests.{PassesTests}
use Rattle.word_isa.specs.Marks.{first_bad_mark}
use Rattle.word_isa.specs.declared.mark.Mark.{Mark}
use Rattle.word_isa.specs.declared.parts.Scheme.TheVariants.{Undo}
use Rattle.word_isa.specs.declared.parts.Symbol.{Symbol}
use Rattle.word_isa.proofs.unnamed.unnamed_image.Goals as goal

nothing : {A : Type 0} (o : Option A) → is_none o ≡ true → o ≡ None
nothing None e = refl
nothing (Some x) e = cc

unnamed : (code fram : List ℕ) (symbols : List Symbol) (peripherals : List Peripheral) (marks : List Mark) → symbols ≡ [] → peripherals ≡ []
    → first_too_large (length code) (length fram) 0 0 (length marks) ≡ None → first_bad_word code ≡ None → first_bad_mark 1 code marks ≡ None
    → PassesTests 1 Undo 0 0 0 code fram symbols peripherals marks
unfolding first_failing
unnamed code fram symbols peripherals marks no_symbols no_peripherals small words good =
    rw (no_symbols, no_peripherals) (record { versions = refl; counts = small; words = words; banks = refl; symbols_pass = refl; peripherals_pass = refl; marks_pass = good })

pub invariant_of-result : goal.invariant_of-result
invariant_of-result c =
    let code = c.args.code in
    let counts : is_none (first_too_large (length code) (length c.args.fram) 0 0 (length c.args.marks)) ≡ true =
    ap (λ n. is_none (first_too_large n (length c.args.fram) 0 0 (length c.args.marks))) (sym c.len.ensures)
    ∙ ap (λ n. is_none (first_too_large c.len.result n 0 0 (length c.args.marks))) (sym c.len-2.ensures)
    ∙ ap (λ n. is_none (first_too_large c.len.result c.len-2.result 0 0 n)) (sym c.len-3.ensures)
    ∙ sym c.counts_pass.ensures ∙ c.if-not-counts_pass.false in
    record {
      tested = unnamed code c.args.fram c.new.result c.new-2.result c.args.marks c.new.ensures c.new-2.ensures
          (nothing (first_too_large (length code) (length c.args.fram) 0 0 (length c.args.marks)) counts)
          (sym (c.in-None.ensures.value ∙ ap first_bad_word c.as_slice.ensures))
          (sym (c.in-None-first_bad_mark.ensures.value ∙ ap (λ xs. first_bad_mark 1 xs c.as_slice-3.result.now) c.as_slice-2.ensures ∙ ap (first_bad_mark 1 code) c.as_slice-3.ensures));
    }

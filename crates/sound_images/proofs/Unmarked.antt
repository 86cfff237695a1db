-- No mark of an image stands where its machine halts.
use Rattle.std.specs.Prelude.{◌==◌, ◌&&◌, slice_get, option_and_then, option_map, if◌then◌else◌, Option, Some, None}
use Rattle.std.proofs.Common.{◌≡◌, ◌∙◌, ℕ, suc, ◌-◌, length, Bool, true, false, List, [], ◌∷◌, ◌++◌, refl, sym, ap, subst, eqb-true, arith}
use Rattle.power_runs.specs.Due.{HaltsUnmarked}
use Rattle.power_trace.specs.Run.{program_in}
use Rattle.word_isa.specs.Decoding.{decoded}
use Rattle.word_isa.specs.FirstFailing.{first_failing}
use Rattle.word_isa.specs.Marks.{is_above, mark_at, mark_passes, may_stand_at, site_passes, stands_at, task_passes}
use Rattle.word_isa.specs.declared.image.Image.{Image}
use Rattle.word_isa.specs.declared.instr.Instr.{Instr}
use Rattle.word_isa.specs.declared.instr.Instr.TheVariants.{Halt}
use Rattle.word_isa.specs.declared.mark.Mark.{Mark}
use Rattle.word_isa.specs.declared.mark.MarkKind.{MarkKind}
use Rattle.word_isa.specs.declared.mark.MarkKind.TheVariants as mark
use Rattle.word_machine.specs.State.{sign_of}

-- no kind of mark may stand at a halt
never_halt : (kind : MarkKind) → may_stand_at kind (Some Halt) ≡ false
never_halt mark.Begin = refl
never_halt mark.Look = refl
never_halt mark.Kept = refl
never_halt mark.Drop = refl
never_halt mark.Issue = refl
never_halt mark.Seal = refl
never_halt mark.Copy = refl
never_halt mark.Commit = refl

-- a mark that passes stands where it may
passes_stands : (version : ℕ) (code : List ℕ) (earlier : List Mark) (m : Mark) → mark_passes version code earlier m ≡ true → stands_at m.kind (slice_get code m.at) ≡ true
unfolding mark_passes
passes_stands version code earlier m is = by (stands_at m.kind (slice_get code m.at)) is
  where
    by : (b : Bool) → (b && is_above (slice_get earlier (length earlier - 1)) m && site_passes m.kind m.site && task_passes version m.kind m.site m.task) ≡ true → b ≡ true
    by true is = refl
    by false is = is

none_more : (o : Option ℕ) → option_map suc o ≡ None → o ≡ None
none_more None is = refl
none_more (Some n) is = absurd (cc is)

module _ (version : ℕ) (code : List ℕ) where
  stands : (earlier marks : List Mark) → first_failing (mark_passes version code) earlier marks ≡ None → (at : ℕ) (m : Mark) → mark_at marks at ≡ Some m → stands_at m.kind (slice_get code at) ≡ true
  unfolding first_failing mark_at
  stands earlier [] none at m there = absurd (cc there)
  stands earlier (x ∷ marks) none at m there = by_test (mark_passes version code earlier x) refl none (stands (earlier ++ x ∷ []) marks)
    where
      here : (b : Bool) → (x.at == at) ≡ b → stands_at x.kind (slice_get code x.at) ≡ true → (if b then Some x else mark_at marks at) ≡ Some m → (mark_at marks at ≡ Some m → stands_at m.kind (slice_get code at) ≡ true) → stands_at m.kind (slice_get code at) ≡ true
      here true same well is rest = let one : x ≡ m = cc is in subst (λ (y : Mark). stands_at y.kind (slice_get code at) ≡ true) one (subst (λ a. stands_at x.kind (slice_get code a) ≡ true) (eqb-true x.at at same) well)
      here false same well is rest = rest is

      by_test : (b : Bool) → mark_passes version code earlier x ≡ b → (if b then option_map suc (first_failing (mark_passes version code) (earlier ++ x ∷ []) marks) else Some 0) ≡ None
          → (first_failing (mark_passes version code) (earlier ++ x ∷ []) marks ≡ None → (at : ℕ) (m : Mark) → mark_at marks at ≡ Some m → stands_at m.kind (slice_get code at) ≡ true) → stands_at m.kind (slice_get code at) ≡ true
      by_test true passes is rest = here (x.at == at) refl (passes_stands version code earlier x passes) there (λ later. rest (none_more (first_failing (mark_passes version code) (earlier ++ x ∷ []) marks) is) at m later)
      by_test false passes is rest = absurd (cc is)

-- where an image's mark stands its machine doesn't halt
pub halts_unmarked : (i : Image) (values : ℕ → List ℕ) → HaltsUnmarked (program_in i values)
halts_unmarked i values at is = by (mark_at i.marks at) refl
  where
    word_there : (o : Option ℕ) → option_and_then decoded o ≡ Some Halt → (kind : MarkKind) → stands_at kind o ≡ true → ⊥
    word_there None is kind stands = cc is
    word_there (Some word) is kind stands = let clash : true ≡ false = sym stands ∙ ap (may_stand_at kind) is ∙ never_halt kind in cc clash

    by : (o : Option Mark) → mark_at i.marks at ≡ o → option_map sign_of o ≡ None
    by None there = refl
    by (Some m) there = absurd (word_there (slice_get i.code at) is m.kind (stands i.version i.code [] i.marks i.tested.marks_pass at m there))

-- The words that an image's symbols show behind a commit are those of the plan's run.
use Rattle.std.specs.Prelude.{◌⊎◌, slice_get, Option, Some, None}
use Rattle.std.proofs.Common.{◌≡◌, ◌∙◌, ℕ, ◌<◌, List, [], ◌∷◌, map, length, inl, inr, refl, sym, ap, subst, arith}
use Rattle.task_ast.specs.WellFormed.{IsWellFormed}
use Rattle.task_ast.specs.declared.core_form.Core.{Core}
use Rattle.task_ast.specs.declared.core_form.CoreTask.{CoreTask}
use Rattle.task_attempts.specs.Boots.{task_of}
use Rattle.task_attempts.specs.State.{Rules}
use Rattle.walk_run.specs.declared.walked.State as walked
use Rattle.word_isa.specs.declared.image.Image.{Image}
use Rattle.word_isa.specs.declared.parts.Scheme.{Scheme}
use Rattle.word_machine.specs.Places.{bank_offset, nv_words}
use Rattle.word_machine.specs.State as machine
use Rattle.word_machine.specs.State.{Program}
use Rattle.line_code.specs.Areas.{areas_from, free_at_first}
use Rattle.run_plan.specs.Cells.{State}
use Rattle.run_plan.specs.PlanOf.{plan_of}
use Rattle.run_plan.specs.Runs.{committed_words}
use Rattle.word_code.specs.CodeOf.{symbols_from}
use Rattle.word_code.specs.Frames.{stride}
use Rattle.word_code.specs.ImageOf.{IsImageOf}
use Rattle.cell_laws.specs.Standing.{HasStore}
use Rattle.act_refines.specs.Between.{IsTidy}
use Rattle.code_cuts.specs.Lasting.{Lasts, MayRun}
use Rattle.sound_runs.specs.Committed.{AreCommitted, IsCommitted}
use Rattle.sound_images.specs.Sound.{shown_state}

-- a task that may run next, in a program that has one
pub record SomeNext (c : Core) (number : ℕ) : Type 0 where
  pub task : CoreTask
  pub may : MayRun c number task

pub some_next : (c : Core) (number : ℕ) → IsWellFormed c → SomeNext c number
some_next c number well = by (task_of c number) refl c.tasks well.some
  where
    by : (o : Option CoreTask) → task_of c number ≡ o → (tasks : List CoreTask) → 0 < length tasks → SomeNext c number
    by (Some t) is tasks some = record { task = t; may = inl is }
    by None is [] some = absurd (omega (arith, some))
    by None is (t ∷ tasks) some = record { task = t; may = inr is }

-- symbols, offsets and words of an image of a plan
abbrev pub Shows : Core → Scheme → Type 0
Shows c scheme = (m : ℕ → ℕ) (s : State) → HasStore c scheme m s → IsTidy c scheme s
    → nv_words (symbols_from (areas_from free_at_first c.arrays) 0 c.arrays) (bank_offset 0 (stride scheme) m) m ≡ committed_words scheme c s

module _ (p : Program) (rules : Rules) (scheme : Scheme) (i : Image) (well : IsWellFormed rules.core) (image : IsImageOf (plan_of rules.core scheme) rules.core i) (shows : Shows rules.core scheme) where
  one_shown : (next : ℕ) (e : machine.State) (w : walked.State) → IsCommitted p rules scheme next e w → shown_state i (next, e) ≡ w
  one_shown next e w h =
      let t = some_next rules.core h.state.task well in
      let stands = (h.lasts t.task t.may).memory in
      let words : nv_words i.symbols (bank_offset i.state i.stride e.store) e.store ≡ w.words =
      (λ j. nv_words (image.symbols j) (bank_offset (image.state j) (image.stride j) e.store) e.store) ∙ shows e.store h.state stands.cells.store stands.tidy ∙ h.words in
      let told : next ≡ w.next = sym h.told in
      (λ j. record { next = told j; words = words j })

  pub states_shown : (committed : List (ℕ × machine.State)) (states : List walked.State) → AreCommitted p rules scheme committed states → map (shown_state i) committed ≡ states
  states_shown [] [] h = refl
  states_shown [] (w ∷ ws) h = absurd h
  states_shown (x ∷ xs) [] h = absurd h
  states_shown (x ∷ xs) (w ∷ ws) h =
      let first : shown_state i x ≡ w = one_shown x.0 x.1 w h.0 in
      let rest : map (shown_state i) xs ≡ ws = states_shown xs ws h.1 in
      (λ j. first j ∷ rest j)

-- A journal is sealed in time where each boot tells the seals next, and its machine tells something soon.
use Rattle.std.specs.Prelude.{◌≢◌, ◌⊎◌, ⊤, IfSome, map, Option, Some, None}
use Rattle.std.specs.List.{AllByRecursion}
use Rattle.std.proofs.Common.{◌≡◌, ◌∙◌, ℕ, zero, suc, ◌+◌, ◌≤◌, inl, inr, Bool, true, false, List, [], ◌∷◌, ◌++◌, refl, sym, ap, subst, arith, if◌then◌else◌}
use Rattle.devices.specs.Journal.{Boot, JournalEvent, Place}
use Rattle.devices.specs.declared.world.PowerRow.{PowerRow}
use Rattle.task_ast.specs.declared.core_form.Core.{Core}
use Rattle.task_attempts.specs.Journals.{events_of}
use Rattle.task_attempts.specs.Sound.{AllSealed, AreSealed, IsSealed, ends_from, to_seal}
use Rattle.word_machine.specs.RunLaws.{stays_halted, stays_trapped}
use Rattle.word_machine.specs.Runs.{boots, fail_behind, fail_behind_at, is_running, journal_event, numbered, steps_done, total_steps}
use Rattle.word_machine.specs.State.{Program, State}
use Rattle.word_machine.specs.Step.{exec, step, step_at}
use Rattle.word_machine.specs.declared.ending.Ending.{Ending}
use Rattle.word_machine.specs.declared.ending.Ending.TheVariants.{Running, Halted, Trapped}
use Rattle.seal_steps.specs.Soon.{AllFollow, AreSealedNext, FollowsSoon, SealsNext, TellsSoon}

-- ---- the steps of a boot

abbrev is_on : State → Bool
is_on e = is_running e.ending

-- an ended machine stays as it is
stays_ended : (p : Program) (n : ℕ) (e : State) → is_on e ≡ false → exec p n e ≡ e
stays_ended p n e off = by e.ending refl off
  where
    by : (ending : Ending) → e.ending ≡ ending → is_running ending ≡ false → exec p n e ≡ e
    by Running is no_more = absurd (cc no_more)
    by Halted is no_more = stays_halted p n e is
    by (Trapped code) is no_more = stays_trapped p n code e is

steps_few : (p : Program) (n : ℕ) (e : State) → steps_done p n e ≤ n
unfolding steps_done
steps_few p zero e = omega arith
steps_few p (suc n) e = by (is_on e) (steps_few p n (step p e))
  where
    by : (b : Bool) → steps_done p n (step p e) ≤ n → (if b then suc (steps_done p n (step p e)) else 0) ≤ suc n
    by true few = omega (arith, few)
    by false few = omega arith

no_steps : (p : Program) (n : ℕ) (e : State) → is_on e ≡ false → steps_done p n e ≡ 0
unfolding steps_done
no_steps p zero e off = refl
no_steps p (suc n) e off = ap (λ b. if b then suc (steps_done p n (step p e)) else 0) off

-- a machine that still goes on has done all of its steps
step_off : (p : Program) (e : State) → is_on e ≡ false → step p e ≡ e
unfolding step
step_off p e off = by e.ending refl off
  where
    by : (ending : Ending) → e.ending ≡ ending → is_running ending ≡ false → step_at p e.ending e ≡ e
    by Running is no_more = absurd (cc no_more)
    by Halted is no_more = ap (λ x. step_at p x e) is
    by (Trapped code) is no_more = ap (λ x. step_at p x e) is

all_steps : (p : Program) (n : ℕ) (e : State) → is_on (exec p n e) ≡ true → steps_done p n e ≡ n
unfolding exec steps_done
all_steps p zero e on = refl
all_steps p (suc n) e on = by (is_on e) refl (all_steps p n (step p e) on)
  where
    by : (b : Bool) → is_on e ≡ b → steps_done p n (step p e) ≡ n → (if b then suc (steps_done p n (step p e)) else 0) ≡ suc n
    by true is rest = ap suc rest
    by false is rest =
        let stays : exec p n (step p e) ≡ e = ap (exec p n) (step_off p e is) ∙ stays_ended p n e is in
        let clash : true ≡ false = sym on ∙ ap is_on stays ∙ is in
        absurd (cc clash)

stays_failed : (row : PowerRow) (e : State) → is_on e ≡ false → fail_behind row e ≡ e
stays_failed row e off = by e.ending refl off
  where
    by : (ending : Ending) → e.ending ≡ ending → is_running ending ≡ false → fail_behind_at e.ending row e ≡ e
    by Running is no_more = absurd (cc no_more)
    by Halted is no_more = ap (λ x. fail_behind_at x row e) is
    by (Trapped code) is no_more = ap (λ x. fail_behind_at x row e) is

none_done : (p : Program) (rows : List PowerRow) (e : State) → is_on e ≡ false → total_steps p rows e ≡ 0
unfolding total_steps
none_done p [] e off = refl
none_done p (row ∷ rows) e off =
    let stays : fail_behind row (exec p row.on e) ≡ e = ap (fail_behind row) (stays_ended p row.on e off) ∙ stays_failed row e off in
    let rest : total_steps p rows (fail_behind row (exec p row.on e)) ≡ 0 = ap (total_steps p rows) stays ∙ none_done p rows e off in
    omega (arith, no_steps p row.on e off, rest)

-- ---- a boot

module _ (c : Core) (place_of : ℕ → Place) (p : Program) where
  abbrev Told : (before : ℕ) → List JournalEvent → List (ℕ × JournalEvent)
  Told before js = map (λ e. (suc before, e)) js

  abbrev unnumbered : List (ℕ × JournalEvent) → List JournalEvent
  unnumbered events = map (λ e. e.1) events

  -- where something comes soon, a seal that comes next comes as soon, or the boot ends before
  next_sealed : (n before by k ends : ℕ) (e : State) → ends ≤ before + n → TellsSoon place_of p by e → SealsNext k (unnumbered (numbered place_of p before n e)) → IsSealed ends k (before + by) (numbered place_of p before n e)
  unfolding TellsSoon numbered
  next_sealed n before zero k ends e few soon next = absurd soon
  next_sealed zero before (suc by) k ends e few soon next = omega (arith, few)
  next_sealed (suc n) before (suc by) k ends e few soon next = at (journal_event place_of p e) refl soon next
      (λ later told. next_sealed n (suc before) by k ends (step p e) (omega (arith, few)) later told)
    where
      rest : List (ℕ × JournalEvent)
      rest = numbered place_of p (suc before) n (step p e)

      at : (js : List JournalEvent) → journal_event place_of p e ≡ js → (journal_event place_of p e ≢ []) ⊎ TellsSoon place_of p by (step p e) → SealsNext k (unnumbered (Told before js ++ rest))
          → (TellsSoon place_of p by (step p e) → SealsNext k (unnumbered rest) → IsSealed ends k (suc before + by) rest) → IsSealed ends k (before + suc by) (Told before js ++ rest)
      at [] is (inl told) next later = absurd (told is)
      at [] is (inr soon) next later = let same : suc before + by ≡ before + suc by = omega arith in subst (λ (m : ℕ). IsSealed ends k m rest) same (later soon next)
      at (j ∷ js) is tells next later = (next, omega arith)

  -- the events of one step, before others
  step_sealed : (n before ends : ℕ) (e : State) → ends ≤ suc before + n → (js : List JournalEvent)
      → AreSealedNext c (unnumbered (Told before js ++ numbered place_of p (suc before) n e)) → AllByRecursion (FollowsSoon c place_of p e) js
      → (AreSealedNext c (unnumbered (numbered place_of p (suc before) n e)) → AreSealed c ends (numbered place_of p (suc before) n e)) → AreSealed c ends (Told before js ++ numbered place_of p (suc before) n e)
  step_sealed n before ends e few [] next follow rest = rest next
  step_sealed n before ends e few (j ∷ js) next follow rest = (by (to_seal c j) js next.0 follow.0, step_sealed n before ends e few js next.1 follow.1 rest)
    where
      by : (o : Option (ℕ × ℕ)) (js : List JournalEvent) → IfSome o (λ s. SealsNext s.0 (unnumbered (Told before js ++ numbered place_of p (suc before) n e))) → IfSome o (λ s. TellsSoon place_of p s.1 e)
          → IfSome o (λ s. IsSealed ends s.0 (suc before + s.1) (Told before js ++ numbered place_of p (suc before) n e))
      by None js next soon = tt
      by (Some s) [] next soon = next_sealed n (suc before) s.1 s.0 ends e few soon next
      by (Some s) (x ∷ xs) next soon = (next, omega arith)

  -- all of a boot
  boot_sealed : (n before ends : ℕ) (e : State) → ends ≤ before + n → AreSealedNext c (unnumbered (numbered place_of p before n e)) → AllFollow c place_of p n e → AreSealed c ends (numbered place_of p before n e)
  unfolding numbered AllFollow
  boot_sealed zero before ends e few next follow = tt
  boot_sealed (suc n) before ends e few next follow =
      step_sealed n before ends (step p e) (omega (arith, few)) (journal_event place_of p e) next follow.0
      (λ later. boot_sealed n (suc before) ends (step p e) (omega (arith, few)) later follow.1)

  -- ---- boot by boot

  -- along each boot something comes soon
  abbrev pub BootsFollow : List PowerRow → State → Type 0
  BootsFollow [] s = ⊤
  BootsFollow (row ∷ rows) s = AllFollow c place_of p row.on s × (is_on (exec p row.on s) ≡ true → BootsFollow rows (fail_behind row (exec p row.on s)))

  abbrev AllNext : List Boot → Type 0
  AllNext bs = AllByRecursion (λ (b : Boot). AreSealedNext c (events_of b)) bs

  -- a boot before others, and the last one
  before_others : (row : PowerRow) (rows : List PowerRow) (before last : ℕ) (s there : State) → last ≡ before + row.on + total_steps p rows there → AllFollow c place_of p row.on s
      → AreSealedNext c (unnumbered (numbered place_of p before row.on s)) → AllSealed c (boots place_of p rows (before + row.on) there) (ends_from (boots place_of p rows (before + row.on) there) last)
      → AllSealed c (record { begun_at = before; events = numbered place_of p before row.on s } ∷ boots place_of p rows (before + row.on) there)
      (ends_from (record { begun_at = before; events = numbered place_of p before row.on s } ∷ boots place_of p rows (before + row.on) there) last)
  unfolding boots total_steps
  before_others row [] before last s there is follow next rest = (boot_sealed row.on before last s (omega (arith, is)) next follow, tt)
  before_others row (r ∷ rows) before last s there is follow next rest = (boot_sealed row.on before (before + row.on) s (omega arith) next follow, rest)

  pub boots_sealed : (rows : List PowerRow) (before last : ℕ) (s : State) → last ≡ before + total_steps p rows s → BootsFollow rows s → AllNext (boots place_of p rows before s)
      → AllSealed c (boots place_of p rows before s) (ends_from (boots place_of p rows before s) last)
  unfolding boots total_steps
  boots_sealed [] before last s is follow next = tt
  boots_sealed (row ∷ rows) before last s is follow next = by (is_on after) refl next
      (λ on later. boots_sealed rows (before + row.on) last (fail_behind row after) (omega (arith, is, all_steps p row.on s on)) (follow.1 on) later)
    where
      after : State
      after = exec p row.on s

      more : List Boot
      more = boots place_of p rows (before + row.on) (fail_behind row after)

      this : Boot
      this = record { begun_at = before; events = numbered place_of p before row.on s }

      by : (b : Bool) → is_on after ≡ b → AllNext (this ∷ (if b then more else [])) → (is_on after ≡ true → AllNext more → AllSealed c more (ends_from more last))
          → AllSealed c (this ∷ (if b then more else [])) (ends_from (this ∷ (if b then more else [])) last)
      by true on next rest =
          let counted : last ≡ before + row.on + total_steps p rows (fail_behind row after) = omega (arith, is, all_steps p row.on s on) in
          before_others row rows before last s (fail_behind row after) counted follow.0 next.0 (rest on next.1)
      by false off next rest =
          let failed : fail_behind row after ≡ after = stays_failed row after off in
          let none : total_steps p rows (fail_behind row after) ≡ 0 = ap (total_steps p rows) failed ∙ none_done p rows after off in
          (boot_sealed row.on before last s (omega (arith, is, none, steps_few p row.on s)) next.0 follow.0, tt)

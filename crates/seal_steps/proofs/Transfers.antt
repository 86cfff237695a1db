-- A transfer's words, one a step, and its event, which comes with the last of them.
use Rattle.std.specs.Prelude.{◌-◌, ◌==◌, Some, None}
use Rattle.std.proofs.Common.{◌≡◌, ◌∙◌, ℕ, zero, suc, ◌+◌, ◌≤◌, Bool, true, false, refl, sym, ap, subst, arith, if◌then◌else◌}
use Rattle.std.proofs.lemmas.Bool.Decides.{nat_tests}
use Rattle.devices.specs.Journal.{Place, copies, placed}
use Rattle.devices.specs.declared.event.Event.{Event}
use Rattle.devices.specs.declared.event.Event.TheVariants as the
use Rattle.fram_ram.specs.Engine.{begun}
use Rattle.fram_ram.specs.Memories.{has_word, put}
use Rattle.task_ast.specs.declared.core_form.Core.{Core}
use Rattle.word_isa.specs.declared.instr.Instr.TheVariants.{Dma}
use Rattle.word_machine.specs.Events as machine
use Rattle.word_machine.specs.Events.{event_next}
use Rattle.word_machine.specs.RunLaws.{step_dma}
use Rattle.word_machine.specs.State.{Program, State}
use Rattle.word_machine.specs.Step.{step}
use Rattle.word_machine.specs.Straight.{Spot, live}
use Rattle.word_machine.specs.TransferLaws.{moving}
use Rattle.seal_steps.specs.Soon.{AllFollow, FollowsSoon, StepFollows}
use Rattle.seal_steps.proofs.Claims.{On}
use Rattle.seal_steps.proofs.Flow.{Behind, IsQuiet, ended_fine, event_here, is_on, quiet_follows}
use Rattle.seal_steps.proofs.Telling.{follows_by}

not_none : (n : ℕ) → (suc n == 0) ≡ false
not_none n = grind (arith, nat_tests)

not_one : (n : ℕ) → (suc (suc n) == 1) ≡ false
not_one n = grind (arith, nat_tests)

one_less : (n : ℕ) → suc (suc n) - 1 ≡ suc n
one_less n = omega arith

-- where the machine is behind a word
abbrev after_word : Spot → (to from k : ℕ) → Spot
after_word s to from k = record s { store = put s.store (to + k) (s.store (from + k)); clock = s.clock + 1 }

record Next (n : ℕ) : Type 0 where
  before : ℕ
  is : n ≡ suc before

next_of : (n : ℕ) → (n == 0) ≡ false → Next n
next_of zero is = absurd (cc is)
next_of (suc n) is = record { before = n; is = refl }

module _ (p : Program) (s : Spot) (to from k : ℕ) where
  last_step : has_word (from + k) ≡ true → has_word (to + k) ≡ true → step p (moving s to from k 1) ≡ live (after_word s to from k)
  unfolding step
  last_step a b = rw (a, b)

  next_step : (n : ℕ) → has_word (from + k) ≡ true → has_word (to + k) ≡ true → step p (moving s to from k (suc (suc n))) ≡ moving (after_word s to from k) to from (k + 1) (suc n)
  unfolding step
  next_step n a b = rw (not_none (suc n), a, b, not_one n, one_less n)

  last_event : has_word (from + k) ≡ true → has_word (to + k) ≡ true → event_next p (moving s to from k 1) ≡ Some (the.Copied (machine.site_of (p.mark (s.pc - 1))) from to (k + 1))
  unfolding event_next
  last_event a b = rw (a, b)

  next_event : (n : ℕ) → has_word (from + k) ≡ true → has_word (to + k) ≡ true → event_next p (moving s to from k (suc (suc n))) ≡ None
  unfolding event_next
  next_event n a b = rw (not_none (suc n), a, b, not_one n)

  -- where a word has no address the machine traps
  source_off : (n : ℕ) → has_word (from + k) ≡ false → is_on (step p (moving s to from k (suc n))) ≡ false
  unfolding step
  source_off n a = rw (not_none n, a)

  target_off : (n : ℕ) → has_word (from + k) ≡ true → has_word (to + k) ≡ false → is_on (step p (moving s to from k (suc n))) ≡ false
  unfolding step
  target_off n a b = rw (not_none n, a, b)

  source_event : (n : ℕ) → has_word (from + k) ≡ false → event_next p (moving s to from k (suc n)) ≡ None
  unfolding event_next
  source_event n a = rw (not_none n, a)

  target_event : (n : ℕ) → has_word (from + k) ≡ true → has_word (to + k) ≡ false → event_next p (moving s to from k (suc n)) ≡ None
  unfolding event_next
  target_event n a b = rw (not_none n, a, b)

module _ (c : Core) (place_of : ℕ → Place) (p : Program) where
  abbrev Seals : (at : ℕ) → Spot → (to from words : ℕ) → Type 0
  Seals at m to from words = FollowsSoon c place_of p (live m) (copies (machine.site_of (p.mark at)) (place_of from) (place_of to) words)

  none_quiet : (s : State) → event_next p s ≡ None → StepFollows c place_of p s
  none_quiet s is = quiet_follows c place_of p s (subst (IsQuiet c place_of) (sym is) tt)

  -- What holds of a transfer behind so many of its words, by its ends and its length: each word keeps it, and at the end it says what
  -- is known there, and that its event is followed soon.
  pub record IsTransfer (at : ℕ) (Moving : (to from words k : ℕ) → (regs store : ℕ → ℕ) → Type 0) (After : (regs store : ℕ → ℕ) → Type 0) : Type 0 where
    pub word : (to from words k : ℕ) (regs store : ℕ → ℕ) → Moving to from words k regs store → has_word (to + k) ≡ true → Moving to from words (k + 1) regs (put store (to + k) (store (from + k)))
    pub ends : (to from words : ℕ) (regs store : ℕ → ℕ) → Moving to from words words regs store → After regs store
    pub told : (to from words : ℕ) (m : Spot) → m.pc ≡ at + 1 → Moving to from words words m.regs m.store → Seals at m to from words

  module _ (at : ℕ) (Moving : (to from words k : ℕ) → (regs store : ℕ → ℕ) → Type 0) (After : (regs store : ℕ → ℕ) → Type 0) (h : IsTransfer at Moving After) where
    -- its event, where it has come
    told_step : (e : State) (m : Spot) (to from words : ℕ) → event_next p e ≡ Some (the.Copied (machine.site_of (p.mark at)) from to words) → step p e ≡ live m → m.pc ≡ at + 1 → Moving to from words words m.regs m.store → StepFollows c place_of p e
    told_step e m to from words shows steps pc moved = follows_by c place_of p e (Some (the.Copied (machine.site_of (p.mark at)) from to words)) shows by
      where
        soon : FollowsSoon c place_of p (step p e) (copies (machine.site_of (p.mark at)) (place_of from) (place_of to) words)
        soon = subst (λ x. FollowsSoon c place_of p x (copies (machine.site_of (p.mark at)) (place_of from) (place_of to) words)) (sym steps) (h.told to from words m pc moved)

        by : (x : Event) → Some (the.Copied (machine.site_of (p.mark at)) from to words) ≡ Some x → FollowsSoon c place_of p (step p e) (placed place_of x)
        by x is = let same : the.Copied (machine.site_of (p.mark at)) from to words ≡ x = cc is in subst (λ y. FollowsSoon c place_of p (step p e) (placed place_of y)) same soon

    moving_fine : (n j left k : ℕ) (s : Spot) (to from words : ℕ) → Behind c place_of p (On After) n (at + 1) → j ≤ n → s.pc ≡ at + 1 → Moving to from words k s.regs s.store → k + suc left ≡ words → AllFollow c place_of p j (moving s to from k (suc left))
    unfolding AllFollow
    moving_fine n zero left k s to from words behind few pc moved long = tt
    moving_fine n (suc j) left k s to from words behind few pc moved long = by (has_word (from + k)) refl (has_word (to + k)) refl left long
        (λ l more kept. moving_fine n j l (k + 1) (after_word s to from k) to from words behind (omega (arith, few)) pc kept more)
      where
        off : (l : ℕ) → event_next p (moving s to from k (suc l)) ≡ None → is_on (step p (moving s to from k (suc l))) ≡ false → StepFollows c place_of p (moving s to from k (suc l)) × AllFollow c place_of p j (step p (moving s to from k (suc l)))
        off l shows ended = (none_quiet (moving s to from k (suc l)) shows, ended_fine c place_of p j (step p (moving s to from k (suc l))) ended)

        by : (a : Bool) → has_word (from + k) ≡ a → (b : Bool) → has_word (to + k) ≡ b → (l : ℕ) → k + suc l ≡ words
            → ((l : ℕ) → k + 1 + suc l ≡ words → Moving to from words (k + 1) s.regs (put s.store (to + k) (s.store (from + k))) → AllFollow c place_of p j (moving (after_word s to from k) to from (k + 1) (suc l)))
            → StepFollows c place_of p (moving s to from k (suc l)) × AllFollow c place_of p j (step p (moving s to from k (suc l)))
        by false a b there l long on = off l (source_event p s to from k l a) (source_off p s to from k l a)
        by true a false there l long on = off l (target_event p s to from k l a there) (target_off p s to from k l a there)
        by true a true there zero long on =
            let kept : Moving to from words (k + 1) s.regs (put s.store (to + k) (s.store (from + k))) = h.word to from words k s.regs s.store moved there in
            let all : k + 1 ≡ words = omega (arith, long) in
            let done : Moving to from words words s.regs (put s.store (to + k) (s.store (from + k))) = subst (λ x. Moving to from words x s.regs (put s.store (to + k) (s.store (from + k)))) all kept in
            let here : s.pc - 1 ≡ at = omega (arith, pc) in
            let shows : event_next p (moving s to from k 1) ≡ Some (the.Copied (machine.site_of (p.mark at)) from to words) = last_event p s to from k a there ∙ (λ i. Some (the.Copied (machine.site_of (p.mark (here i))) from to (all i))) in
            let steps : step p (moving s to from k 1) ≡ live (after_word s to from k) = last_step p s to from k a there in (
              told_step (moving s to from k 1) (after_word s to from k) to from words shows steps pc done,
              subst (AllFollow c place_of p j) (sym steps) (behind j (after_word s to from k) (omega (arith, few)) pc (h.ends to from words s.regs (put s.store (to + k) (s.store (from + k))) done)),
            )
        by true a true there (suc l) long on =
            let kept : Moving to from words (k + 1) s.regs (put s.store (to + k) (s.store (from + k))) = h.word to from words k s.regs s.store moved there in
            (none_quiet (moving s to from k (suc (suc l))) (next_event p s to from k l a there), subst (AllFollow c place_of p j) (sym (next_step p s to from k l a there)) (on l (omega (arith, long)) kept))

    -- from its start on
    pub transfer_claim : (C : (regs store : ℕ → ℕ) → Type 0) (n : ℕ) → p.instr at ≡ Some (Dma 1 2 3) → ((regs store : ℕ → ℕ) → C regs store → Moving (regs 1) (regs 2) (regs 3) 0 regs store) → Behind c place_of p (On After) n (at + 1) → Behind c place_of p (On C) n at
    unfolding AllFollow
    transfer_claim C n there begins behind zero m few pc known = tt
    transfer_claim C n there begins behind (suc j) m few pc known = by (m.regs 3 == 0) refl
      where
        here : p.instr m.pc ≡ Some (Dma 1 2 3)
        here = ap p.instr pc ∙ there

        next : Spot
        next = record m { pc = m.pc + 1; clock = m.clock + 1 }

        started : State
        started = record (live m) { pc = m.pc + 1; engine = begun (m.regs 1) (m.regs 2) (m.regs 3); clock = m.clock + 1 }

        first : Moving (m.regs 1) (m.regs 2) (m.regs 3) 0 m.regs m.store
        first = begins m.regs m.store known

        shows : (b : Bool) → (m.regs 3 == 0) ≡ b → event_next p (live m) ≡ (if b then Some (the.Copied (machine.site_of (p.mark m.pc)) (m.regs 2) (m.regs 1) 0) else None)
        shows b is = event_here c place_of p m (Dma 1 2 3) here ∙ ap (λ t. if t then Some (the.Copied (machine.site_of (p.mark m.pc)) (m.regs 2) (m.regs 1) 0) else None) is

        by : (b : Bool) → (m.regs 3 == 0) ≡ b → StepFollows c place_of p (live m) × AllFollow c place_of p j (step p (live m))
        by true is =
            let none : m.regs 3 ≡ 0 = grind (arith, nat_tests) in
            let done : Moving (m.regs 1) (m.regs 2) 0 0 m.regs m.store = subst (λ x. Moving (m.regs 1) (m.regs 2) x 0 m.regs m.store) none first in
            let steps : step p (live m) ≡ live next = step_dma p 1 2 3 m here ∙ ap (λ t. record started { engine = if t then record { to = 0; from = 0; moved = 0; left = 0 } else record { to = m.regs 1; from = m.regs 2; moved = 0; left = m.regs 3 } }) is in
            let told : event_next p (live m) ≡ Some (the.Copied (machine.site_of (p.mark at)) (m.regs 2) (m.regs 1) 0) = shows true is ∙ ap (λ x. Some (the.Copied (machine.site_of (p.mark x)) (m.regs 2) (m.regs 1) 0)) pc in (
              told_step (live m) next (m.regs 1) (m.regs 2) 0 told steps (ap (λ x. x + 1) pc) done,
              subst (AllFollow c place_of p j) (sym steps) (behind j next (omega (arith, few)) (ap (λ x. x + 1) pc) (h.ends (m.regs 1) (m.regs 2) 0 m.regs m.store done)),
            )
        by false is =
            let some = next_of (m.regs 3) is in
            let steps : step p (live m) ≡ moving next (m.regs 1) (m.regs 2) 0 (suc some.before) =
            step_dma p 1 2 3 m here ∙ ap (λ t. record started { engine = if t then record { to = 0; from = 0; moved = 0; left = 0 } else record { to = m.regs 1; from = m.regs 2; moved = 0; left = m.regs 3 } }) is
            ∙ ap (λ x. moving next (m.regs 1) (m.regs 2) 0 x) some.is in
            let sum : 0 + suc some.before ≡ m.regs 3 = omega (arith, some.is) in
            (none_quiet (live m) (shows false is), subst (AllFollow c place_of p j) (sym steps) (moving_fine n j some.before 0 next (m.regs 1) (m.regs 2) (m.regs 3) behind (omega (arith, few)) (ap (λ x. x + 1) pc) first sum))

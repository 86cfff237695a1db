-- Within how many steps a machine tells something, by the lines that come.
use Rattle.std.specs.Prelude.{◌⊎◌, ◌≢◌, ◌%◌, Option, Some, None}
use Rattle.std.specs.List.{AllByRecursion}
use Rattle.std.proofs.Common.{◌≡◌, ◌∙◌, ℕ, zero, suc, ◌+◌, inl, inr, Bool, true, false, [], ◌++◌, refl, sym, ap, subst, arith, if◌then◌else◌}
use Rattle.devices.specs.Journal.{Place, placed}
use Rattle.devices.specs.declared.event.Event.{Event}
use Rattle.devices.specs.declared.event.Event.TheVariants as the
use Rattle.line_laws.specs.Standing.{Lie}
use Rattle.task_ast.specs.declared.core_form.Core.{Core}
use Rattle.task_ast.specs.declared.core_form.Site.{Site}
use Rattle.task_ast.specs.declared.core_form.Site.TheVariants as site
use Rattle.word_isa.specs.declared.instr.Instr.{Instr}
use Rattle.word_isa.specs.declared.instr.Instr.TheVariants.{Io, Jmp, St}
use Rattle.word_isa.specs.declared.mark.MarkKind.TheVariants as mark
use Rattle.word_machine.specs.Events as machine
use Rattle.word_machine.specs.Events.{event_next, stepped_next, told, unless_fault}
use Rattle.devices.specs.Readings.{issued_after}
use Rattle.fram_ram.specs.Memories.{put}
use Rattle.word_machine.specs.Instructions.{fault, next_reading}
use Rattle.word_machine.specs.RunLaws.{step_io, step_of}
use Rattle.word_machine.specs.Runs.{is_running, journal_event, told_event}
use Rattle.word_machine.specs.State.{Program, State}
use Rattle.word_machine.specs.Step.{step}
use Rattle.word_machine.specs.Straight.{Spot, after, is_plain, live}
use Rattle.word_machine.specs.declared.ending.Ending.{Ending}
use Rattle.word_machine.specs.declared.ending.Ending.TheVariants.{Running, Halted, Trapped}
use Rattle.word_code.specs.Acts.{seal_code}
use Rattle.word_code.specs.Frames.{Frame, flag_at}
use Rattle.seal_steps.specs.Soon.{AllFollow, FollowsSoon, StepFollows, TellsSoon}
use Rattle.seal_steps.proofs.Flow.{Behind, HasFixed, event_here, still_fixed}

module _ (place_of : ℕ → Place) (p : Program) where
  -- from an address on the machine tells something within so many steps
  abbrev pub Soon : (n at : ℕ) → Type 0
  Soon n at = (m : Spot) → m.pc ≡ at → TellsSoon place_of p n (live m)

  pub tells_more : (n : ℕ) (e : State) → TellsSoon place_of p n e → TellsSoon place_of p (suc n) e
  unfolding TellsSoon
  tells_more zero e soon = absurd soon
  tells_more (suc n) e (inl told) = inl told
  tells_more (suc n) e (inr later) = inr (tells_more n (step p e) later)

  pub tells_within : (n k : ℕ) (e : State) → TellsSoon place_of p n e → TellsSoon place_of p (n + k) e
  tells_within n zero e soon = let same : n ≡ n + zero = omega arith in subst (λ (j : ℕ). TellsSoon place_of p j e) same soon
  tells_within n (suc k) e soon = let same : suc (n + k) ≡ n + suc k = omega arith in subst (λ (j : ℕ). TellsSoon place_of p j e) same (tells_more (n + k) e (tells_within n k e soon))

  trapped : (m : Spot) (i : Instr) (code : ℕ) → p.instr m.pc ≡ Some i → fault i (live m) ≡ Some code → (step p (live m)).ending ≡ Trapped code
  unfolding step
  trapped m i code there is = rw (there, is)

  told_here : (m : Spot) (i : Instr) → p.instr m.pc ≡ Some i → event_next p (live m) ≡ unless_fault (fault i (live m)) (machine.event p.values (p.mark m.pc) i (live m))
  unfolding event_next
  told_here m i there = rw there

  to_jump : (m : Spot) (t : ℕ) → p.instr m.pc ≡ Some (Jmp t) → step p (live m) ≡ live (record m { pc = t; clock = m.clock + 1 })
  unfolding step
  to_jump m t there = rw there

  -- a trap is told
  pub trap_told : (m : Spot) (i : Instr) (code : ℕ) → p.instr m.pc ≡ Some i → fault i (live m) ≡ Some code → journal_event place_of p (live m) ≢ []
  unfolding stepped_next
  trap_told m i code there is none = by (step p (live m)).ending (trapped m i code there is) none
    where
      by : (e : Ending) → e ≡ Trapped code → told_event place_of (told e (event_next p (live m))) ≡ [] → ⊥
      by Running is none = cc is
      by Halted is none = cc is
      by (Trapped k) is none = cc none

  pub soon_plain : (n at : ℕ) (i : Instr) → p.instr at ≡ Some i → is_plain i ≡ true → Soon n (at + 1) → Soon (suc n) at
  unfolding TellsSoon
  soon_plain n at i there plain soon m pc = by (fault i (live m)) refl
    where
      here : p.instr m.pc ≡ Some i
      here = ap p.instr pc ∙ there

      by : (f : Option ℕ) → fault i (live m) ≡ f → (journal_event place_of p (live m) ≢ []) ⊎ TellsSoon place_of p n (step p (live m))
      by None is = inr (subst (TellsSoon place_of p n) (sym (step_of p i m here plain is)) (soon (after p i m) (ap (λ x. x + 1) pc)))
      by (Some code) is = inl (trap_told m i code here is)

  pub soon_jump : (n at t : ℕ) → p.instr at ≡ Some (Jmp t) → Soon n t → Soon (suc n) at
  unfolding TellsSoon
  soon_jump n at t there soon m pc =
      inr (subst (TellsSoon place_of p n) (sym (to_jump m t (ap p.instr pc ∙ there))) (soon (record m { pc = t; clock = m.clock + 1 }) refl))

  -- a seal is told
  seal_told : (m : Spot) (a b w k : ℕ) → p.instr m.pc ≡ Some (St a b w) → p.mark m.pc ≡ Some (record { kind = mark.Seal; site = k }) → fault (St a b w) (live m) ≡ None → journal_event place_of p (live m) ≢ []
  unfolding stepped_next
  seal_told m a b w k there signed safe none =
      let steps : step p (live m) ≡ live (after p (St a b w) m) = step_of p (St a b w) m there refl safe in
      let shows : event_next p (live m) ≡ Some (the.Sealed k) = told_here m (St a b w) there ∙ (λ i. unless_fault (safe i) (machine.event p.values (signed i) (St a b w) (live m))) in
      let is : told_event place_of (told Running (Some (the.Sealed k))) ≡ [] = sym (λ i. told_event place_of (told (steps i).ending (shows i))) ∙ none in
      cc is

  pub soon_seal : (n at a b w k : ℕ) → p.instr at ≡ Some (St a b w) → p.mark at ≡ Some (record { kind = mark.Seal; site = k }) → Soon (suc n) at
  unfolding TellsSoon
  soon_seal n at a b w k there signed m pc = by (fault (St a b w) (live m)) refl
    where
      here : p.instr m.pc ≡ Some (St a b w)
      here = ap p.instr pc ∙ there

      by : (f : Option ℕ) → fault (St a b w) (live m) ≡ f → (journal_event place_of p (live m) ≢ []) ⊎ TellsSoon place_of p n (step p (live m))
      by None is = inl (seal_told m a b w k here (ap p.mark pc ∙ signed) is)
      by (Some code) is = inl (trap_told m (St a b w) code here is)

  -- a record is made, and its seal told, within nine lines
  pub seal_soon : (f : Frame) (k : ℕ) (o : Option Site) (at : ℕ) (more : _) → Lie p at (seal_code f k o ++ more) → Soon 9 at
  seal_soon f k (Some (site.Io x)) at more lies =
      soon_plain 8 at _ lies.0.instr refl (soon_plain 7 _ _ lies.1.0.instr refl (soon_plain 6 _ _ lies.1.1.0.instr refl (soon_plain 5 _ _ lies.1.1.1.0.instr refl
      (soon_seal 4 _ 13 0 (flag_at k) k lies.1.1.1.1.0.instr lies.1.1.1.1.0.mark))))
  seal_soon f k (Some (site.Block x)) at more lies = soon_plain 8 at _ lies.0.instr refl (soon_plain 7 _ _ lies.1.0.instr refl (soon_seal 6 _ 13 0 (flag_at k) k lies.1.1.0.instr lies.1.1.0.mark))
  seal_soon f k (Some (site.Copy n)) at more lies =
      soon_plain 8 at _ lies.0.instr refl (soon_plain 7 _ _ lies.1.0.instr refl (soon_plain 6 _ _ lies.1.1.0.instr refl (soon_plain 5 _ _ lies.1.1.1.0.instr refl
      (soon_plain 4 _ _ lies.1.1.1.1.0.instr refl (soon_plain 3 _ _ lies.1.1.1.1.1.0.instr refl (soon_plain 2 _ _ lies.1.1.1.1.1.1.0.instr refl (soon_plain 1 _ _ lies.1.1.1.1.1.1.1.0.instr refl
      (soon_seal 0 _ 13 0 (flag_at k) k lies.1.1.1.1.1.1.1.1.0.instr lies.1.1.1.1.1.1.1.1.0.mark))))))))
  seal_soon f k None at more lies =
      soon_plain 8 at _ lies.0.instr refl (soon_plain 7 _ _ lies.1.0.instr refl (soon_plain 6 _ _ lies.1.1.0.instr refl (soon_plain 5 _ _ lies.1.1.1.0.instr refl
      (soon_plain 4 _ _ lies.1.1.1.1.0.instr refl (soon_plain 3 _ _ lies.1.1.1.1.1.0.instr refl (soon_plain 2 _ _ lies.1.1.1.1.1.1.0.instr refl (soon_plain 1 _ _ lies.1.1.1.1.1.1.1.0.instr refl
      (soon_seal 0 _ 13 0 (flag_at k) k lies.1.1.1.1.1.1.1.1.0.instr lies.1.1.1.1.1.1.1.1.0.mark))))))))

-- ---- a step whose event is followed soon

module _ (c : Core) (place_of : ℕ → Place) (p : Program) where
  pub follows_by : (s : State) (o : Option Event) → event_next p s ≡ o → ((e : Event) → o ≡ Some e → FollowsSoon c place_of p (step p s) (placed place_of e)) → StepFollows c place_of p s
  unfolding stepped_next
  follows_by s o is soon = subst Held (sym is) (by (is_running s.ending) (step p s).ending o soon)
    where
      Held : Option Event → Type 0
      Held o = AllByRecursion (FollowsSoon c place_of p (step p s)) (if is_running s.ending then told_event place_of (told (step p s).ending o) else [])

      by : (b : Bool) (k : Ending) (o : Option Event) → ((e : Event) → o ≡ Some e → FollowsSoon c place_of p (step p s) (placed place_of e)) → AllByRecursion (FollowsSoon c place_of p (step p s)) (if b then told_event place_of (told k o) else [])
      by false k o soon = tt
      by true Running None soon = tt
      by true Running (Some e) soon = (soon e refl, tt)
      by true Halted o soon = tt
      by true (Trapped code) o soon = (tt, tt)

  -- an issue, behind which a seal comes soon
  io_follows : (m : Spot) (a b w : ℕ) → p.instr m.pc ≡ Some (Io a b w) → Soon place_of p 12 (m.pc + 1) → StepFollows c place_of p (live m)
  io_follows m a b w there soon = follows_by (live m) (machine.event p.values (p.mark m.pc) (Io a b w) (live m)) (event_here c place_of p m (Io a b w) there) by
    where
      behind : TellsSoon place_of p 12 (step p (live m))
      behind = subst (TellsSoon place_of p 12) (sym (step_io p a b w m there)) (soon _ refl)

      by : (e : Event) → machine.event p.values (p.mark m.pc) (Io a b w) (live m) ≡ Some e → FollowsSoon c place_of p (step p (live m)) (placed place_of e)
      by (the.Issued k q args r) is = behind
      by (the.Begin k) is = absurd (cc is)
      by (the.Look k t) is = absurd (cc is)
      by (the.Kept k v) is = absurd (cc is)
      by (the.Dropped k) is = absurd (cc is)
      by (the.Sealed k) is = absurd (cc is)
      by (the.Copied k x y n) is = absurd (cc is)
      by (the.Commit t) is = absurd (cc is)

  -- where the machine is behind an issue
  abbrev after_io : (w : ℕ) → Spot → Spot
  after_io w m = record m { pc = m.pc + 1; regs = put m.regs 1 (next_reading p.values w (live m)); issued = issued_after p.values m.issued (w % 256); clock = m.clock + 1 }

  pub issue_flows : (at w n : ℕ) → p.instr at ≡ Some (Io 1 4 w) → Soon place_of p 12 (at + 1) → Behind c place_of p HasFixed n (at + 1) → Behind c place_of p HasFixed n at
  unfolding AllFollow
  issue_flows at w n there soon behind zero m few pc fixed = tt
  issue_flows at w n there soon behind (suc j) m few pc fixed =
      let here : p.instr m.pc ≡ Some (Io 1 4 w) = ap p.instr pc ∙ there in
      let next : m.pc + 1 ≡ at + 1 = ap (λ x. x + 1) pc in (
        io_follows m 1 4 w here (λ x is. soon x (is ∙ next)),
        subst (AllFollow c place_of p j) (sym (step_io p 1 4 w m here)) (behind j (after_io w m) (omega (arith, few)) next (still_fixed 1 (next_reading p.values w (live m)) m.regs refl fixed)),
      )

-- Where a machine's lines lead: what their steps tell needs no seal, and each goes on to a place that is known.
use Rattle.std.specs.Prelude.{◌⊎◌, ⊤, IfSome, nat_lt, ◌&&◌, ◌==◌, ◌%◌, ◌^◌, Option, Some, None}
use Rattle.std.specs.List.{AllByRecursion}
use Rattle.std.proofs.Common.{◌≡◌, ◌∙◌, ℕ, zero, suc, ◌+◌, ◌<◌, ◌≤◌, inl, inr, Bool, true, false, List, [], ◌∷◌, length, refl, sym, ap, subst, arith, if◌then◌else◌}
use Rattle.std.proofs.lemmas.Bool.Decides.{nat_tests}
use Rattle.devices.specs.Journal.{JournalEvent, Place, placed}
use Rattle.devices.specs.declared.event.Event.{Event}
use Rattle.fram_ram.specs.Memories.{put}
use Rattle.line_code.specs.declared.line.Line.{Line}
use Rattle.line_code.specs.declared.line.Sign as line
use Rattle.line_laws.specs.Standing.{Lie, StandsWith}
use Rattle.task_ast.specs.declared.core_form.Core.{Core}
use Rattle.task_attempts.specs.Sound.{to_seal}
use Rattle.word_isa.specs.declared.instr.Instr.{Instr}
use Rattle.word_isa.specs.declared.instr.Instr.TheVariants.{Halt, Ldi, Lui, Mov, Add, Sub, Mul, Div, Rem, And, Or, Xor, Shl, Shr, Eq, Ltu, Adi, Ld, St, Jmp, Jz, Io, Time, Dma, Trap}
use Rattle.word_isa.specs.declared.mark.MarkKind.{MarkKind}
use Rattle.word_isa.specs.declared.mark.MarkKind.TheVariants as mark
use Rattle.word_machine.specs.Events as machine
use Rattle.word_machine.specs.Events.{event_next, stepped_next, told, unless_fault}
use Rattle.word_machine.specs.Instructions.{fault}
use Rattle.word_machine.specs.Runs.{is_running, told_event}
use Rattle.word_machine.specs.State.{Program, State}
use Rattle.word_machine.specs.Step.{step, step_at}
use Rattle.word_machine.specs.Straight.{Spot, after, is_plain, live}
use Rattle.word_machine.specs.RunLaws.{step_of}
use Rattle.word_machine.specs.declared.cell.Sign.{Sign}
use Rattle.word_machine.specs.declared.ending.Ending.{Ending}
use Rattle.word_machine.specs.declared.ending.Ending.TheVariants.{Running, Halted, Trapped}
use Rattle.seal_steps.specs.Soon.{AllFollow, FollowsSoon, StepFollows, TellsSoon}

-- ---- registers

-- the first register is 0, and the last one where RAM begins
abbrev pub HasFixed : Spot → Type 0
HasFixed m = (m.regs 0 ≡ 0) × (m.regs 15 ≡ 1048576)

-- the registers between them
abbrev pub is_free : ℕ → Bool
is_free a = nat_lt 0 a && nat_lt a 15

other_than : (a b : ℕ) → (a == b) ≡ false → (regs : ℕ → ℕ) (word : ℕ) → put regs a word b ≡ regs b
other_than a b is regs word = ap (λ t. if t then word else regs b) is

free_first : (a : ℕ) → is_free a ≡ true → (a == 0) ≡ false
free_first a is = by (nat_lt 0 a) (nat_lt a 15) refl is
  where
    by : (b d : Bool) → nat_lt 0 a ≡ b → (b && d) ≡ true → (a == 0) ≡ false
    by true d is both = grind (arith, nat_tests)
    by false d is both = absurd (cc both)

free_last : (a : ℕ) → is_free a ≡ true → (a == 15) ≡ false
free_last a is = by (nat_lt 0 a) (nat_lt a 15) refl is
  where
    by : (b d : Bool) → nat_lt a 15 ≡ d → (b && d) ≡ true → (a == 15) ≡ false
    by true true is both = grind (arith, nat_tests)
    by true false is both = absurd (cc both)
    by false d is both = absurd (cc both)

pub still_fixed : (a word : ℕ) (regs : ℕ → ℕ) → is_free a ≡ true → (regs 0 ≡ 0) × (regs 15 ≡ 1048576) → (put regs a word 0 ≡ 0) × (put regs a word 15 ≡ 1048576)
still_fixed a word regs is fixed = (other_than a 0 (free_first a is) regs word ∙ fixed.0, other_than a 15 (free_last a is) regs word ∙ fixed.1)

-- ---- places where a line may lead

-- within a range, or out
abbrev pub Goes : (lo hi : ℕ) → (out : ℕ → Type 0) → (t : ℕ) → Type 0
Goes lo hi out t = ((lo ≤ t) × (t ≤ hi)) ⊎ out t

-- a line at an address that changes free registers alone, goes to such a place, and neither issues nor copies
abbrev pub IsCalm : (lo hi : ℕ) → (out : ℕ → Type 0) → (at : ℕ) → Instr → Type 0
IsCalm lo hi out at Halt = ⊥
IsCalm lo hi out at (Ldi a m) = is_free a ≡ true
IsCalm lo hi out at (Lui a m) = is_free a ≡ true
IsCalm lo hi out at (Mov a b) = is_free a ≡ true
IsCalm lo hi out at (Add a b) = is_free a ≡ true
IsCalm lo hi out at (Sub a b) = is_free a ≡ true
IsCalm lo hi out at (Mul a b) = is_free a ≡ true
IsCalm lo hi out at (Div a b) = is_free a ≡ true
IsCalm lo hi out at (Rem a b) = is_free a ≡ true
IsCalm lo hi out at (And a b) = is_free a ≡ true
IsCalm lo hi out at (Or a b) = is_free a ≡ true
IsCalm lo hi out at (Xor a b) = is_free a ≡ true
IsCalm lo hi out at (Shl a b) = is_free a ≡ true
IsCalm lo hi out at (Shr a b) = is_free a ≡ true
IsCalm lo hi out at (Eq a b) = is_free a ≡ true
IsCalm lo hi out at (Ltu a b) = is_free a ≡ true
IsCalm lo hi out at (Adi a m) = is_free a ≡ true
IsCalm lo hi out at (Ld a b m) = is_free a ≡ true
IsCalm lo hi out at (St a b m) = ⊤
IsCalm lo hi out at (Jmp t) = Goes lo hi out t
IsCalm lo hi out at (Jz a m) = Goes lo hi out (at + 1 + m)
IsCalm lo hi out at (Io a b m) = ⊥
IsCalm lo hi out at (Time a) = is_free a ≡ true
IsCalm lo hi out at (Dma a b m) = ⊥
IsCalm lo hi out at (Trap m) = ⊤

-- lines with a claim on each
abbrev pub AllOk : (Ok : ℕ → Instr → Type 0) → (at : ℕ) → List Line → Type 0
AllOk Ok at [] = ⊤
AllOk Ok at (l ∷ ls) = Ok at l.instr × AllOk Ok (at + 1) ls

-- ---- one step

abbrev pub is_on : State → Bool
is_on e = is_running e.ending

module _ (c : Core) (place_of : ℕ → Place) where
  -- an event behind which no record must be sealed
  abbrev pub IsQuiet : Option Event → Type 0
  IsQuiet None = ⊤
  IsQuiet (Some e) = to_seal c (placed place_of e) ≡ None

  kind_quiet : (k : MarkKind) (site word : ℕ) → IsQuiet (machine.event_of k site word)
  kind_quiet mark.Begin site word = refl
  kind_quiet mark.Look site word = tt
  kind_quiet mark.Kept site word = refl
  kind_quiet mark.Drop site word = refl
  kind_quiet mark.Issue site word = tt
  kind_quiet mark.Seal site word = refl
  kind_quiet mark.Copy site word = tt
  kind_quiet mark.Commit site word = refl

  pub mark_quiet : (m : Option Sign) (word : ℕ) → IsQuiet (machine.marked m word)
  mark_quiet None word = tt
  mark_quiet (Some m) word = kind_quiet m.kind m.site word

  pub event_quiet : (values : ℕ → List ℕ) (lo hi at : ℕ) (out : ℕ → Type 0) (m : Option Sign) (i : Instr) (s : State) → IsCalm lo hi out at i → IsQuiet (machine.event values m i s)
  event_quiet values lo hi at out m (Io a b n) s calm = absurd calm
  event_quiet values lo hi at out m (Time a) s calm = refl
  event_quiet values lo hi at out m (Dma a b n) s calm = absurd calm
  event_quiet values lo hi at out m (Mov a b) s calm = mark_quiet m (s.regs b)
  event_quiet values lo hi at out m _ s calm = mark_quiet m 0

  none_follows : (p : Program) (e : State) (j : JournalEvent) → to_seal c j ≡ None → FollowsSoon c place_of p e j
  none_follows p e j is = by (to_seal c j) is
    where
      by : (o : Option (ℕ × ℕ)) → o ≡ None → IfSome o (λ s. TellsSoon place_of p s.1 e)
      by None is = tt
      by (Some x) is = absurd (cc is)

  module _ (p : Program) where
    abbrev Told : State → List JournalEvent → Type 0
    Told e js = AllByRecursion (FollowsSoon c place_of p e) js

    -- a step whose event needs no seal
    pub quiet_follows : (s : State) → IsQuiet (event_next p s) → StepFollows c place_of p s
    unfolding stepped_next
    quiet_follows s quiet = by (is_on s) (step p s).ending (event_next p s) quiet
      where
        by : (b : Bool) (k : Ending) (o : Option Event) → IsQuiet o → Told (step p s) (if b then told_event place_of (told k o) else [])
        by false k o quiet = tt
        by true Running None quiet = tt
        by true Running (Some e) quiet = (none_follows p (step p s) (placed place_of e) quiet, tt)
        by true Halted o quiet = tt
        by true (Trapped code) o quiet = (tt, tt)

    -- an ended machine tells nothing more
    step_off : (e : State) → is_on e ≡ false → step p e ≡ e
    unfolding step
    step_off e off = by e.ending refl off
      where
        by : (ending : Ending) → e.ending ≡ ending → is_running ending ≡ false → step_at p e.ending e ≡ e
        by Running is no_more = absurd (cc no_more)
        by Halted is no_more = ap (λ x. step_at p x e) is
        by (Trapped code) is no_more = ap (λ x. step_at p x e) is

    off_follows : (e : State) → is_on e ≡ false → StepFollows c place_of p e
    off_follows e off = subst (λ b. Told (step p e) (if b then told_event place_of (stepped_next p e) else [])) (sym off) tt

    pub ended_fine : (n : ℕ) (e : State) → is_on e ≡ false → AllFollow c place_of p n e
    unfolding AllFollow
    ended_fine zero e off = tt
    ended_fine (suc n) e off = (off_follows e off, subst (AllFollow c place_of p n) (sym (step_off e off)) (ended_fine n e off))

    pub event_here : (m : Spot) (i : Instr) → p.instr m.pc ≡ Some i → event_next p (live m) ≡ unless_fault (fault i (live m)) (machine.event p.values (p.mark m.pc) i (live m))
    unfolding event_next
    event_here m i there = rw there

    pub here_quiet : (m : Spot) (i : Instr) → p.instr m.pc ≡ Some i → IsQuiet (machine.event p.values (p.mark m.pc) i (live m)) → StepFollows c place_of p (live m)
    here_quiet m i there quiet = quiet_follows (live m) (subst IsQuiet (sym (event_here m i there)) (by (fault i (live m))))
      where
        by : (f : Option ℕ) → IsQuiet (unless_fault f (machine.event p.values (p.mark m.pc) i (live m)))
        by None = quiet
        by (Some code) = tt

    trap_step : (m : Spot) (i : Instr) (code : ℕ) → p.instr m.pc ≡ Some i → fault i (live m) ≡ Some code → is_on (step p (live m)) ≡ false
    unfolding step
    trap_step m i code there is = rw (there, is)

    pub jmp_step : (m : Spot) (t : ℕ) → p.instr m.pc ≡ Some (Jmp t) → step p (live m) ≡ live (record m { pc = t; clock = m.clock + 1 })
    unfolding step
    jmp_step m t there = rw there

    jz_step : (m : Spot) (a n : ℕ) → p.instr m.pc ≡ Some (Jz a n) → step p (live m) ≡ live (record m { pc = if m.regs a == 0 then m.pc + 1 + n else m.pc + 1; clock = m.clock + 1 })
    unfolding step
    jz_step m a n there = rw there

    time_step : (m : Spot) (a : ℕ) → p.instr m.pc ≡ Some (Time a) → step p (live m) ≡ live (record m { pc = m.pc + 1; regs = put m.regs a (m.clock % 2 ^ 32); clock = m.clock + 1 })
    unfolding step
    time_step m a there = rw there

    -- where a step leads
    pub record To (K : Spot → Type 0) (lo hi : ℕ) (out : ℕ → Type 0) (m : Spot) : Type 0 where
      pub there : Spot
      pub steps : step p (live m) ≡ live there
      pub known : K there
      pub goes : Goes lo hi out there.pc

    abbrev pub Leads : (K : Spot → Type 0) → (lo hi : ℕ) → (out : ℕ → Type 0) → Spot → Type 0
    Leads K lo hi out m = StepFollows c place_of p (live m) × ((is_on (step p (live m)) ≡ false) ⊎ To K lo hi out m)

    -- a plain line either traps or goes on to the next
    pub plain_leads : (K : Spot → Type 0) (lo hi : ℕ) (out : ℕ → Type 0) (m : Spot) (i : Instr) → p.instr m.pc ≡ Some i → is_plain i ≡ true → K (after p i m) → Goes lo hi out (m.pc + 1) → (is_on (step p (live m)) ≡ false) ⊎ To K lo hi out m
    plain_leads K lo hi out m i there plain known goes = by (fault i (live m)) refl
      where
        by : (f : Option ℕ) → fault i (live m) ≡ f → (is_on (step p (live m)) ≡ false) ⊎ To K lo hi out m
        by None is = inr (record { there = after p i m; steps = step_of p i m there plain is; known = known; goes = goes })
        by (Some code) is = inl (trap_step m i code there is)

    -- a calm line
    pub calm_leads : (lo hi : ℕ) (out : ℕ → Type 0) (m : Spot) (i : Instr) → p.instr m.pc ≡ Some i → IsCalm lo hi out m.pc i → lo ≤ m.pc → m.pc < hi → HasFixed m → Leads HasFixed lo hi out m
    calm_leads lo hi out m i there calm from till fixed = (here_quiet m i there (event_quiet p.values lo hi m.pc out (p.mark m.pc) i (live m) calm), by i there calm)
      where
        next : Goes lo hi out (m.pc + 1)
        next = inl (omega arith, omega arith)

        sets : (i : Instr) (a word : ℕ) → p.instr m.pc ≡ Some i → is_plain i ≡ true → (after p i m).regs ≡ put m.regs a word → is_free a ≡ true → (is_on (step p (live m)) ≡ false) ⊎ To HasFixed lo hi out m
        sets i a word there plain is free =
            plain_leads HasFixed lo hi out m i there plain (subst (λ (r : ℕ → ℕ). (r 0 ≡ 0) × (r 15 ≡ 1048576)) (sym is) (still_fixed a word m.regs free fixed)) next

        jumps : (n : ℕ) (b : Bool) → Goes lo hi out (m.pc + 1 + n) → Goes lo hi out (if b then m.pc + 1 + n else m.pc + 1)
        jumps n true goes = goes
        jumps n false goes = next

        by : (i : Instr) → p.instr m.pc ≡ Some i → IsCalm lo hi out m.pc i → (is_on (step p (live m)) ≡ false) ⊎ To HasFixed lo hi out m
        by Halt there calm = absurd calm
        by (Ldi a n) there calm = sets (Ldi a n) a _ there refl refl calm
        by (Lui a n) there calm = sets (Lui a n) a _ there refl refl calm
        by (Mov a b) there calm = sets (Mov a b) a _ there refl refl calm
        by (Add a b) there calm = sets (Add a b) a _ there refl refl calm
        by (Sub a b) there calm = sets (Sub a b) a _ there refl refl calm
        by (Mul a b) there calm = sets (Mul a b) a _ there refl refl calm
        by (Div a b) there calm = sets (Div a b) a _ there refl refl calm
        by (Rem a b) there calm = sets (Rem a b) a _ there refl refl calm
        by (And a b) there calm = sets (And a b) a _ there refl refl calm
        by (Or a b) there calm = sets (Or a b) a _ there refl refl calm
        by (Xor a b) there calm = sets (Xor a b) a _ there refl refl calm
        by (Shl a b) there calm = sets (Shl a b) a _ there refl refl calm
        by (Shr a b) there calm = sets (Shr a b) a _ there refl refl calm
        by (Eq a b) there calm = sets (Eq a b) a _ there refl refl calm
        by (Ltu a b) there calm = sets (Ltu a b) a _ there refl refl calm
        by (Adi a n) there calm = sets (Adi a n) a _ there refl refl calm
        by (Ld a b n) there calm = sets (Ld a b n) a _ there refl refl calm
        by (St a b n) there calm = plain_leads HasFixed lo hi out m (St a b n) there refl fixed next
        by (Jmp t) there calm = inr (record { there = record m { pc = t; clock = m.clock + 1 }; steps = jmp_step m t there; known = fixed; goes = calm })
        by (Jz a n) there calm = inr (record { there = record m { pc = if m.regs a == 0 then m.pc + 1 + n else m.pc + 1; clock = m.clock + 1 }; steps = jz_step m a n there; known = fixed; goes = jumps n (m.regs a == 0) calm })
        by (Io a b n) there calm = absurd calm
        by (Time a) there calm = inr (record { there = record m { pc = m.pc + 1; regs = put m.regs a (m.clock % 2 ^ 32); clock = m.clock + 1 }; steps = time_step m a there; known = still_fixed a _ m.regs calm fixed; goes = next })
        by (Dma a b n) there calm = absurd calm
        by (Trap n) there calm = inl (trap_step m (Trap n) n there refl)

    -- ---- many steps

    -- all is sealed soon along at most so many steps from an address, where this is known
    abbrev pub Behind : (K : Spot → Type 0) → (n at : ℕ) → Type 0
    Behind K n at = (j : ℕ) (m : Spot) → j ≤ n → m.pc ≡ at → K m → AllFollow c place_of p j (live m)

    pub led_fine : (K : Spot → Type 0) (lo hi j : ℕ) (out : ℕ → Type 0) (m : Spot) → Leads K lo hi out m → ((there : Spot) → K there → Goes lo hi out there.pc → AllFollow c place_of p j (live there)) → AllFollow c place_of p (suc j) (live m)
    unfolding AllFollow
    led_fine K lo hi j out m leads on = (leads.0, by leads.1)
      where
        by : (is_on (step p (live m)) ≡ false) ⊎ To K lo hi out m → AllFollow c place_of p j (step p (live m))
        by (inl off) = ended_fine j (step p (live m)) off
        by (inr to) = subst (AllFollow c place_of p j) (sym to.steps) (on to.there to.known to.goes)

    pub record OkAt (Ok : ℕ → Instr → Type 0) (at : ℕ) : Type 0 where
      pub instr : Instr
      pub there : p.instr at ≡ Some instr
      pub ok : Ok at instr

    pub stood : (at : ℕ) (i : Instr) (o : Option line.Sign) → StandsWith p at i o → p.instr at ≡ Some i
    stood at i None h = h.instr
    stood at i (Some x) h = h.instr

    line_at : (Ok : ℕ → Instr → Type 0) (lines : List Line) (lo at : ℕ) → Lie p lo lines → AllOk Ok lo lines → lo ≤ at → at < lo + length lines → OkAt Ok at
    line_at Ok [] lo at lies ok from till = absurd (omega (arith, from, till))
    line_at Ok (l ∷ ls) lo at lies ok from till = by (lo == at) refl (λ far. line_at Ok ls (lo + 1) at lies.1 ok.1 far (omega (arith, till)))
      where
        by : (b : Bool) → (lo == at) ≡ b → (lo + 1 ≤ at → OkAt Ok at) → OkAt Ok at
        by true is further = let same : lo ≡ at = grind (arith, nat_tests) in subst (OkAt Ok) same (record { instr = l.instr; there = stood lo l.instr l.sign lies.0; ok = ok.0 })
        by false is further = further (grind (arith, nat_tests))

    -- a range of lines each of which leads within it or out
    pub region : (K : Spot → Type 0) (Ok : ℕ → Instr → Type 0) (lo hi : ℕ) (out : ℕ → Type 0)
        → ((m : Spot) (i : Instr) → p.instr m.pc ≡ Some i → Ok m.pc i → lo ≤ m.pc → m.pc < hi → K m → Leads K lo hi out m)
        → (lines : List Line) → Lie p lo lines → AllOk Ok lo lines → hi ≡ lo + length lines → (n : ℕ) → Behind K n hi → ((t : ℕ) → out t → Behind K n t)
        → (j : ℕ) (m : Spot) → j ≤ n → lo ≤ m.pc → m.pc ≤ hi → K m → AllFollow c place_of p j (live m)
    unfolding AllFollow
    region K Ok lo hi out leads lines lies ok long n behind outside zero m few from till known = tt
    region K Ok lo hi out leads lines lies ok long n behind outside (suc j) m few from till known = by (m.pc == hi) refl
        (λ there know goes. onward there know goes (λ a b. region K Ok lo hi out leads lines lies ok long n behind outside j there (omega (arith, few)) a b know))
      where
        onward : (there : Spot) → K there → Goes lo hi out there.pc → (lo ≤ there.pc → there.pc ≤ hi → AllFollow c place_of p j (live there)) → AllFollow c place_of p j (live there)
        onward there know (inl within) again = again within.0 within.1
        onward there know (inr is_out) again = outside there.pc is_out j there (omega (arith, few)) refl know

        by : (b : Bool) → (m.pc == hi) ≡ b → ((there : Spot) → K there → Goes lo hi out there.pc → AllFollow c place_of p j (live there)) → AllFollow c place_of p (suc j) (live m)
        by true is on = let same : m.pc ≡ hi = grind (arith, nat_tests) in behind (suc j) m few same known
        by false is on =
            let inside : m.pc < hi = grind (arith, nat_tests) in
            let here : OkAt Ok m.pc = line_at Ok lines lo m.pc lies ok from (omega (arith, inside, long)) in
            led_fine K lo hi j out m (leads m here.instr here.there here.ok from inside known) on

    -- a jump leads to where it goes, with a step less
    pub behind_jump : (K : Spot → Type 0) (n at t : ℕ) → ((m : Spot) → K m → K (record m { pc = t; clock = m.clock + 1 })) → p.instr at ≡ Some (Jmp t) → Behind K n t → Behind K (suc n) at
    unfolding AllFollow
    behind_jump K n at t keeps there behind zero m few pc known = tt
    behind_jump K n at t keeps there behind (suc j) m few pc known =
        let here : p.instr m.pc ≡ Some (Jmp t) = ap p.instr pc ∙ there in (
          here_quiet m (Jmp t) here (mark_quiet (p.mark m.pc) 0),
          subst (AllFollow c place_of p j) (sym (jmp_step m t here)) (behind j (record m { pc = t; clock = m.clock + 1 }) (omega (arith, few)) refl (keeps m known)),
        )

    pub fewer : (K : Spot → Type 0) (n k at : ℕ) → k ≤ n → Behind K n at → Behind K k at
    fewer K n k at less behind j m few pc known = behind j m (omega (arith, less, few)) pc known

-- Lines with claims on registers and memory: straight lines, a jump where a register is 0, and lines that leave RAM alone.
use Rattle.std.specs.Prelude.{◌⊎◌, ⊤, ◌%◌, ◌^◌, ◌==◌, Option, Some, None}
use Rattle.std.proofs.Common.{◌≡◌, ◌∙◌, ℕ, zero, suc, ◌+◌, ◌<◌, ◌≤◌, inl, inr, Bool, true, false, List, [], ◌∷◌, ◌++◌, length, refl, sym, ap, subst, arith, if◌then◌else◌}
use Rattle.std.proofs.lemmas.Bool.Decides.{nat_tests}
use Rattle.devices.specs.Journal.{Place}
use Rattle.fram_ram.specs.Memories.{put}
use Rattle.line_code.specs.declared.line.Line.{Line}
use Rattle.line_code.specs.Lines.{bares}
use Rattle.line_laws.specs.Standing.{Lie}
use Rattle.task_ast.specs.declared.core_form.Core.{Core}
use Rattle.word_isa.specs.declared.instr.Instr.{Instr}
use Rattle.word_isa.specs.declared.instr.Instr.TheVariants.{Mov, St, Jmp, Jz, Io, Time, Dma}
use Rattle.word_machine.specs.Events as machine
use Rattle.word_machine.specs.Instructions.{act, fault}
use Rattle.word_machine.specs.RunLaws.{line_ends}
use Rattle.word_machine.specs.State.{Program, State}
use Rattle.word_machine.specs.Step.{done, step}
use Rattle.word_machine.specs.Straight.{Spot, after, is_plain, line, live}
use Rattle.word_machine.specs.declared.cell.Sign.{Sign}
use Rattle.seal_steps.specs.Soon.{AllFollow}
use Rattle.seal_steps.proofs.Flow.{AllOk, Behind, HasFixed, IsCalm, IsQuiet, Leads, To, behind_jump, calm_leads, fewer, here_quiet, is_on, led_fine, mark_quiet, plain_leads, region}
use Rattle.seal_steps.proofs.Lines.{Calm}

-- ---- claims

-- what registers and memory have
abbrev pub On : ((regs store : ℕ → ℕ) → Type 0) → Spot → Type 0
On C m = C m.regs m.store

abbrev pub AllPlain : List Instr → Type 0
AllPlain [] = ⊤
AllPlain (i ∷ is) = (is_plain i ≡ true) × AllPlain is

-- a line that writes low in FRAM alone
abbrev pub IsLow : Instr → Type 0
IsLow (St a b m) = (b ≡ 0) × (m < 65536)
IsLow i = ⊤

abbrev pub AllLow : List Line → Type 0
AllLow [] = ⊤
AllLow (l ∷ ls) = IsLow l.instr × AllLow ls

pub low_both : (xs ys : List Line) → AllLow xs → AllLow ys → AllLow (xs ++ ys)
low_both [] ys one two = two
low_both (x ∷ xs) ys one two = (one.0, low_both xs ys one.1 two)

-- RAM is as it was
abbrev pub SameRam : (store store' : ℕ → ℕ) → Type 0
SameRam store store' = (x : ℕ) → 65536 ≤ x → store' x ≡ store x

pub not_here : (a x w : ℕ) (store : ℕ → ℕ) → a < x → put store a w x ≡ store x
not_here a x w store less = by (a == x) refl
  where
    by : (b : Bool) → (a == x) ≡ b → (if b then w else store x) ≡ store x
    by true is = absurd (grind (arith, nat_tests))
    by false is = refl

low_act : (values : ℕ → List ℕ) (i : Instr) (s : State) → IsLow i → s.regs 0 ≡ 0 → SameRam s.store (act values i s).store
low_act values (St a b m) s low fixed x high =
    let zeroed : s.regs b ≡ 0 = ap s.regs low.0 ∙ fixed in
    not_here ((s.regs b + m) % 2 ^ 32) x (s.regs a) s.store (omega (arith, zeroed, low.1, high))
low_act values _ s low fixed x high = refl

module _ (c : Core) (place_of : ℕ → Place) (p : Program) where
  plain_quiet : (m : Option Sign) (i : Instr) (s : State) → is_plain i ≡ true → IsQuiet c place_of (machine.event p.values m i s)
  plain_quiet m (Io a b n) s plain = absurd (cc plain)
  plain_quiet m (Time a) s plain = absurd (cc plain)
  plain_quiet m (Dma a b n) s plain = absurd (cc plain)
  plain_quiet m (Mov a b) s plain = mark_quiet c place_of m (s.regs b)
  plain_quiet m _ s plain = mark_quiet c place_of m 0

  -- ---- straight lines

  line_fine : (is : List Instr) (j : ℕ) (m : Spot) → AllPlain is → Lie p m.pc (bares is) → ((i : ℕ) → i ≤ j → AllFollow c place_of p i (live (line p is m))) → AllFollow c place_of p j (live m)
  unfolding AllFollow
  line_fine [] j m plain lies on = on j (omega arith)
  line_fine (i ∷ is) zero m plain lies on = tt
  line_fine (i ∷ is) (suc j) m plain lies on =
      led_fine c place_of p (λ t. t ≡ after p i m) 1 0 j (λ t. ⊤) m
      (here_quiet c place_of p m i lies.0.instr (plain_quiet (p.mark m.pc) i (live m) plain.0), plain_leads c place_of p (λ t. t ≡ after p i m) 1 0 (λ t. ⊤) m i lies.0.instr plain.0 refl (inr tt))
      (λ there is_there goes. subst (λ t. AllFollow c place_of p j (live t)) (sym is_there) (line_fine is j (after p i m) plain.1 lies.1 (λ k few. on k (omega (arith, few)))))

  pub line_claim : (K After : Spot → Type 0) (n at : ℕ) (is : List Instr) → AllPlain is → Lie p at (bares is) → ((m : Spot) → K m → After (line p is m)) → Behind c place_of p After n (at + length is) → Behind c place_of p K n at
  line_claim K After n at is plain lies keeps behind j m few pc known =
      line_fine is j m plain (subst (λ x. Lie p x (bares is)) (sym pc) lies) (λ k less. behind k (line p is m) (omega (arith, less, few)) (line_ends p is m ∙ ap (λ x. x + length is) pc) (keeps m known))

  -- ---- a jump where a register is 0

  jz_step : (m : Spot) (a d : ℕ) → p.instr m.pc ≡ Some (Jz a d) → step p (live m) ≡ live (record m { pc = if m.regs a == 0 then m.pc + 1 + d else m.pc + 1; clock = m.clock + 1 })
  unfolding step
  jz_step m a d there = rw there

  pub jz_claim : (C Zero Other : (regs store : ℕ → ℕ) → Type 0) (n at a d : ℕ) → p.instr at ≡ Some (Jz a d) → ((regs store : ℕ → ℕ) → C regs store → (regs a == 0) ≡ true → Zero regs store)
      → ((regs store : ℕ → ℕ) → C regs store → (regs a == 0) ≡ false → Other regs store) → Behind c place_of p (On Zero) n (at + 1 + d) → Behind c place_of p (On Other) n (at + 1) → Behind c place_of p (On C) n at
  unfolding AllFollow
  jz_claim C Zero Other n at a d there if_zero if_other one two zero m few pc known = tt
  jz_claim C Zero Other n at a d there if_zero if_other one two (suc j) m few pc known =
      (here_quiet c place_of p m (Jz a d) here (mark_quiet c place_of (p.mark m.pc) 0), subst (AllFollow c place_of p j) (sym (jz_step m a d here)) (by (m.regs a == 0) refl))
    where
      here : p.instr m.pc ≡ Some (Jz a d)
      here = ap p.instr pc ∙ there

      by : (b : Bool) → (m.regs a == 0) ≡ b → AllFollow c place_of p j (live (record m { pc = if b then m.pc + 1 + d else m.pc + 1; clock = m.clock + 1 }))
      by true is = one j (record m { pc = m.pc + 1 + d; clock = m.clock + 1 }) (omega (arith, few)) (ap (λ x. x + 1 + d) pc) (if_zero m.regs m.store known is)
      by false is = two j (record m { pc = m.pc + 1; clock = m.clock + 1 }) (omega (arith, few)) (ap (λ x. x + 1) pc) (if_other m.regs m.store known is)

  pub jump_claim : (C : (regs store : ℕ → ℕ) → Type 0) (n at t : ℕ) → p.instr at ≡ Some (Jmp t) → Behind c place_of p (On C) n t → Behind c place_of p (On C) n at
  jump_claim C n at t there behind = fewer c place_of p (On C) (suc n) n at (omega arith) (behind_jump c place_of p (On C) n at t (λ m known. known) there behind)

  -- ---- lines that leave RAM alone

  low_step : (m : Spot) (i : Instr) → p.instr m.pc ≡ Some i → IsLow i → m.regs 0 ≡ 0 → SameRam m.store (step p (live m)).store
  unfolding step
  low_step m i there low fixed x high = rw there (by (fault i (live m)))
    where
      by : (f : Option ℕ) → (done p.values i f (record (live m) { pc = m.pc + 1 })).store x ≡ m.store x
      by None = low_act p.values i (record (live m) { pc = m.pc + 1 }) low fixed x high
      by (Some code) = refl

  -- the fixed registers, and a claim on RAM
  abbrev pub Keeping : ((store : ℕ → ℕ) → Type 0) → (regs store : ℕ → ℕ) → Type 0
  Keeping D regs store = ((regs 0 ≡ 0) × (regs 15 ≡ 1048576)) × D store

  abbrev pub OfRam : ((store : ℕ → ℕ) → Type 0) → Type 0
  OfRam D = (store store' : ℕ → ℕ) → SameRam store store' → D store → D store'

  mild_leads : (D : (store : ℕ → ℕ) → Type 0) → OfRam D → (lo hi : ℕ) (out : ℕ → Type 0) (m : Spot) (i : Instr) → p.instr m.pc ≡ Some i → IsCalm lo hi out m.pc i × IsLow i → lo ≤ m.pc → m.pc < hi → On (Keeping D) m
      → Leads c place_of p (On (Keeping D)) lo hi out m
  mild_leads D moves lo hi out m i there ok from till known = let h = calm_leads c place_of p lo hi out m i there ok.0 from till known.0 in (h.0, by h.1)
    where
      by : (is_on (step p (live m)) ≡ false) ⊎ To c place_of p HasFixed lo hi out m → (is_on (step p (live m)) ≡ false) ⊎ To c place_of p (On (Keeping D)) lo hi out m
      by (inl off) = inl off
      by (inr to) =
          let same : SameRam m.store to.there.store = (λ x high. ap (λ s. s.store x) (sym to.steps) ∙ low_step m i there ok.1 known.0.0 x high) in
          inr (record { there = to.there; steps = to.steps; known = (to.known, moves m.store to.there.store same known.1); goes = to.goes })

  zipped : (lo hi : ℕ) (out : ℕ → Type 0) (at : ℕ) (lines : List Line) → AllOk (IsCalm lo hi out) at lines → AllLow lines → AllOk (λ x i. IsCalm lo hi out x i × IsLow i) at lines
  zipped lo hi out at [] calm low = tt
  zipped lo hi out at (l ∷ ls) calm low = ((calm.0, low.0), zipped lo hi out (at + 1) ls calm.1 low.1)

  pub mild_range : (D : (store : ℕ → ℕ) → Type 0) → OfRam D → (lo hi k : ℕ) (out : ℕ → Type 0) (lines : List Line) → Calm lo hi out lo k lines → AllLow lines → hi ≡ lo + k → Lie p lo lines → (n : ℕ) → Behind c place_of p (On (Keeping D)) n hi
      → ((t : ℕ) → out t → Behind c place_of p (On (Keeping D)) n t) → Behind c place_of p (On (Keeping D)) n lo
  mild_range D moves lo hi k out lines calm low long lies n behind outside j m few pc known =
      region c place_of p (On (Keeping D)) (λ x i. IsCalm lo hi out x i × IsLow i) lo hi out (λ x i there ok from till know. mild_leads D moves lo hi out x i there ok from till know) lines lies (zipped lo hi out lo lines calm.calm low)
      (omega (arith, long, calm.long)) n behind outside j m few (omega (arith, pc)) (omega (arith, pc, long)) known

-- The loops that keep and put a copy's words: where they lead, and how soon a seal comes behind one of so many words.
use Rattle.std.specs.Prelude.{◌⊎◌, ◌≢◌, ◌%◌, ◌^◌, ◌*◌, ◌==◌, Option, Some, None}
use Rattle.std.proofs.Common.{◌≡◌, ◌∙◌, ℕ, zero, suc, ◌+◌, ◌<◌, ◌≤◌, inl, inr, Bool, true, false, List, [], ◌∷◌, ◌++◌, length, refl, sym, ap, subst, arith, if◌then◌else◌}
use Rattle.std.proofs.lemmas.Bool.Decides.{nat_tests}
use Rattle.devices.specs.Journal.{Place}
use Rattle.line_code.specs.declared.line.Line.{Line}
use Rattle.line_code.specs.Lines.{bares, marked}
use Rattle.line_laws.specs.Standing.{Lie, lie_behind, lie_front}
use Rattle.task_ast.specs.declared.core_form.Core.{Core}
use Rattle.word_isa.specs.declared.instr.Instr.{Instr}
use Rattle.word_isa.specs.declared.instr.Instr.TheVariants.{Adi, Jmp, Jz, Ld, Ldi, Mov, St, Sub}
use Rattle.word_isa.specs.declared.mark.MarkKind.TheVariants as mark
use Rattle.word_machine.specs.Instructions.{fault}
use Rattle.word_machine.specs.RunLaws.{line_ends, step_of}
use Rattle.word_machine.specs.Runs.{journal_event}
use Rattle.word_machine.specs.State.{Program}
use Rattle.word_machine.specs.Step.{step}
use Rattle.word_machine.specs.Straight.{Spot, after, is_plain, line, live}
use Rattle.word_code.specs.ActCode.{keep_words_code, loop_code, put_words_code}
use Rattle.word_code.specs.Frames.{Frame, ends_at, kept_at, sign}
use Rattle.seal_steps.specs.Soon.{AllFollow, TellsSoon}
use Rattle.seal_steps.proofs.Acts.{Fixed, calm_range, none_out, nowhere}
use Rattle.seal_steps.proofs.Claims.{AllPlain}
use Rattle.seal_steps.proofs.Flow.{HasFixed, behind_jump, fewer}
use Rattle.seal_steps.proofs.Lines.{Calm, Straight, straight}
use Rattle.seal_steps.proofs.Telling.{Soon, tells_within, trap_told}

-- ---- where they lead

module _ (c : Core) (place_of : ℕ → Place) (p : Program) where
  pub none_yet : (at : ℕ) → Fixed c place_of p 0 at
  unfolding AllFollow
  none_yet at zero m few pc fixed = tt
  none_yet at (suc j) m few pc fixed = absurd (omega (arith, few))

  loop_flows : (top next n : ℕ) → Lie p top (loop_code top next) → Fixed c place_of p n next → Fixed c place_of p n top
  loop_flows top next zero lies behind = none_yet top
  loop_flows top next (suc n) lies behind =
      let lines : List Line = bares (Jz 3 1 ∷ Jmp (top + 3) ∷ Jmp next ∷ Ld 4 1 0 ∷ St 4 2 0 ∷ Adi 1 1 ∷ Adi 2 1 ∷ Ldi 5 1 ∷ Sub 3 5 ∷ []) in
      let last : Lie p (top + 9) (bares (Jmp top ∷ [])) = lie_behind p top lines (bares (Jmp top ∷ [])) (top + 9) lies (omega arith) in
      let calm : Calm top (top + 9) (λ t. t ≡ next) top 9 lines =
      record { long = refl; calm = (inl (omega arith, omega arith), (inl (omega arith, omega arith), (inr refl, (refl, (tt, (refl, (refl, (refl, (refl, tt))))))))) } in
      let again : Fixed c place_of p n top = loop_flows top next n lies (fewer c place_of p HasFixed (suc n) n next (omega arith) behind) in
      calm_range c place_of p top (top + 9) 9 (λ t. t ≡ next) lines calm refl (lie_front p top lines (bares (Jmp top ∷ [])) lies) (suc n)
      (behind_jump c place_of p HasFixed n (top + 9) top (λ m fixed. fixed) last.0.instr again) (λ t is j m few pc fixed. behind j m few (pc ∙ is) fixed)

  pub keep_flows : (f : Frame) (k at next n : ℕ) → Lie p at (keep_words_code f k at next) → Fixed c place_of p n next → Fixed c place_of p n at
  keep_flows f k at next n lies behind =
      let lines : List Line = bares (Ld 1 15 40 ∷ Ldi 2 (kept_at f k) ∷ Ld 3 15 44 ∷ []) in
      let rest : Lie p (at + 3) (loop_code (at + 3) next) = lie_behind p at lines (loop_code (at + 3) next) (at + 3) lies (omega arith) in
      let h : Straight 3 lines = record { long = refl; steady = refl } in
      calm_range c place_of p at (at + 3) 3 nowhere lines (straight at (at + 3) nowhere at (omega arith) (omega arith) h) refl (lie_front p at lines (loop_code (at + 3) next) lies) n (loop_flows (at + 3) next n rest behind) (none_out c place_of p n)

  pub put_flows : (f : Frame) (k at next n : ℕ) → Lie p at (put_words_code f k at next) → Fixed c place_of p n next → Fixed c place_of p n at
  put_flows f k at next n lies behind =
      let lines : List Line = bares (Ld 3 0 (ends_at k + 2) ∷ []) ++ (marked (sign f mark.Kept k) (Mov 3 3) ∷ bares (Ldi 1 (kept_at f k) ∷ Ld 2 0 (ends_at k) ∷ [])) in
      let rest : Lie p (at + 4) (loop_code (at + 4) next) = lie_behind p at lines (loop_code (at + 4) next) (at + 4) lies (omega arith) in
      let h : Straight 4 lines = record { long = refl; steady = refl } in
      calm_range c place_of p at (at + 4) 4 nowhere lines (straight at (at + 4) nowhere at (omega arith) (omega arith) h) refl (lie_front p at lines (loop_code (at + 4) next) lies) n (loop_flows (at + 4) next n rest behind) (none_out c place_of p n)

-- ---- how soon a seal comes

module _ (place_of : ℕ → Place) (p : Program) where
  tells_plain : (n : ℕ) (m : Spot) (i : Instr) → p.instr m.pc ≡ Some i → is_plain i ≡ true → TellsSoon place_of p n (live (after p i m)) → TellsSoon place_of p (suc n) (live m)
  unfolding TellsSoon
  tells_plain n m i there plain soon = by (fault i (live m)) refl
    where
      by : (f : Option ℕ) → fault i (live m) ≡ f → (journal_event place_of p (live m) ≢ []) ⊎ TellsSoon place_of p n (step p (live m))
      by None is = inr (subst (TellsSoon place_of p n) (sym (step_of p i m there plain is)) soon)
      by (Some code) is = inl (trap_told place_of p m i code there is)

  tells_line : (is : List Instr) (n : ℕ) (m : Spot) → AllPlain is → Lie p m.pc (bares is) → TellsSoon place_of p n (live (line p is m)) → TellsSoon place_of p (length is + n) (live m)
  tells_line [] n m plain lies soon = let same : n ≡ 0 + n = omega arith in subst (λ x. TellsSoon place_of p x (live m)) same soon
  tells_line (i ∷ is) n m plain lies soon =
      let sum : suc (length is + n) ≡ suc (length is) + n = omega arith in
      subst (λ x. TellsSoon place_of p x (live m)) sum (tells_plain (length is + n) m i lies.0.instr plain.0 (tells_line is n (after p i m) plain.1 lies.1 soon))

  jumps : (m : Spot) (t : ℕ) → p.instr m.pc ≡ Some (Jmp t) → step p (live m) ≡ live (record m { pc = t; clock = m.clock + 1 })
  unfolding step
  jumps m t there = rw there

  tells_jump : (n : ℕ) (m : Spot) (t : ℕ) → p.instr m.pc ≡ Some (Jmp t) → TellsSoon place_of p n (live (record m { pc = t; clock = m.clock + 1 })) → TellsSoon place_of p (suc n) (live m)
  unfolding TellsSoon
  tells_jump n m t there soon = inr (subst (TellsSoon place_of p n) (sym (jumps m t there)) soon)

  branches : (m : Spot) (a d : ℕ) → p.instr m.pc ≡ Some (Jz a d) → step p (live m) ≡ live (record m { pc = if m.regs a == 0 then m.pc + 1 + d else m.pc + 1; clock = m.clock + 1 })
  unfolding step
  branches m a d there = rw there

  tells_jz : (n : ℕ) (m : Spot) (a d : ℕ) → p.instr m.pc ≡ Some (Jz a d) → TellsSoon place_of p n (live (record m { pc = if m.regs a == 0 then m.pc + 1 + d else m.pc + 1; clock = m.clock + 1 })) → TellsSoon place_of p (suc n) (live m)
  unfolding TellsSoon
  tells_jz n m a d there soon = inr (subst (TellsSoon place_of p n) (sym (branches m a d there)) soon)

  fewer_left : (r v : ℕ) → r ≤ suc v → (r == 0) ≡ false → (r + 4294967295) % 4294967296 ≤ v
  fewer_left r v few some = let one : 0 < r = grind (arith, nat_tests) in omega (arith, few, one)

  -- a turn of the loop, with at most so many words left
  turn_soon : (top next w : ℕ) → Lie p top (loop_code top next) → Soon place_of p 9 next → (m : Spot) → m.pc ≡ top → m.regs 3 ≤ w
      → ((v : ℕ) (there : Spot) → suc v ≡ w → there.pc ≡ top → there.regs 3 ≤ v → TellsSoon place_of p (11 + 9 * v) (live there)) → TellsSoon place_of p (11 + 9 * w) (live m)
  turn_soon top next w lies soon m pc few again = by (m.regs 3 == 0) refl w few again
    where
      at_top : Lie p m.pc (loop_code top next)
      at_top = subst (λ x. Lie p x (loop_code top next)) (sym pc) lies

      ends : (m.regs 3 == 0) ≡ true → TellsSoon place_of p 11 (live m)
      ends is =
          tells_jz 10 m 3 1 at_top.0.instr
          (subst (λ (b : Bool). TellsSoon place_of p 10 (live (record m { pc = if b then m.pc + 1 + 1 else m.pc + 1; clock = m.clock + 1 }))) (sym is)
          (tells_jump 9 (record m { pc = m.pc + 1 + 1; clock = m.clock + 1 }) next at_top.1.1.0.instr (soon (record m { pc = next; clock = m.clock + 1 + 1 }) refl)))

      six : List Instr
      six = Ld 4 1 0 ∷ St 4 2 0 ∷ Adi 1 1 ∷ Adi 2 1 ∷ Ldi 5 1 ∷ Sub 3 5 ∷ []

      inside : Spot
      inside = record m { pc = top + 3; clock = m.clock + 1 + 1 }

      behind : Spot
      behind = line p six inside

      more : Lie p (top + 3) (bares six ++ bares (Jmp top ∷ []))
      more = lie_behind p top (bares (Jz 3 1 ∷ Jmp (top + 3) ∷ Jmp next ∷ [])) (bares six ++ bares (Jmp top ∷ [])) (top + 3) lies (omega arith)

      last : Lie p (top + 9) (bares (Jmp top ∷ []))
      last = lie_behind p (top + 3) (bares six) (bares (Jmp top ∷ [])) (top + 9) more (omega arith)

      back : p.instr behind.pc ≡ Some (Jmp top)
      back = let here : behind.pc ≡ top + 9 = omega (arith, line_ends p six inside) in ap p.instr here ∙ last.0.instr

      turns : (v : ℕ) → (m.regs 3 == 0) ≡ false → TellsSoon place_of p (11 + 9 * v) (live (record behind { pc = top; clock = behind.clock + 1 })) → TellsSoon place_of p (suc (suc (6 + suc (11 + 9 * v)))) (live m)
      turns v is soon =
          tells_jz (suc (6 + suc (11 + 9 * v))) m 3 1 at_top.0.instr
          (subst (λ (b : Bool). TellsSoon place_of p (suc (6 + suc (11 + 9 * v))) (live (record m { pc = if b then m.pc + 1 + 1 else m.pc + 1; clock = m.clock + 1 }))) (sym is)
          (tells_jump (6 + suc (11 + 9 * v)) (record m { pc = m.pc + 1; clock = m.clock + 1 }) (top + 3) at_top.1.0.instr
          (tells_line six (suc (11 + 9 * v)) inside (refl, (refl, (refl, (refl, (refl, (refl, tt)))))) (lie_front p (top + 3) (bares six) (bares (Jmp top ∷ [])) more) (tells_jump (11 + 9 * v) behind top back soon))))

      by : (b : Bool) → (m.regs 3 == 0) ≡ b → (w : ℕ) → m.regs 3 ≤ w → ((v : ℕ) (there : Spot) → suc v ≡ w → there.pc ≡ top → there.regs 3 ≤ v → TellsSoon place_of p (11 + 9 * v) (live there)) → TellsSoon place_of p (11 + 9 * w) (live m)
      by true is w few again = tells_within place_of p 11 (9 * w) (live m) (ends is)
      by false is zero few again = absurd (grind (arith, nat_tests))
      by false is (suc v) few again =
          let sum : suc (suc (6 + suc (11 + 9 * v))) ≡ 11 + 9 * suc v = omega arith in
          subst (λ x. TellsSoon place_of p x (live m)) sum (turns v is (again v (record behind { pc = top; clock = behind.clock + 1 }) refl refl (fewer_left (m.regs 3) v few is)))

  -- from its top on
  loop_soon : (top next w : ℕ) → Lie p top (loop_code top next) → Soon place_of p 9 next → (m : Spot) → m.pc ≡ top → m.regs 3 ≤ w → TellsSoon place_of p (11 + 9 * w) (live m)
  loop_soon top next zero lies soon m pc few = turn_soon top next zero lies soon m pc few (λ v there is at less. absurd (cc is))
  loop_soon top next (suc u) lies soon m pc few =
      turn_soon top next (suc u) lies soon m pc few
      (λ v there is at less. let same : u ≡ v = omega (arith, is) in subst (λ x. TellsSoon place_of p (11 + 9 * x) (live there)) same (loop_soon top next u lies soon there at (omega (arith, same, less))))

  kept_word : (b : ℕ) → b ≡ 1048576 → (b + 44) % 2 ^ 32 ≡ 1048620
  kept_word b is = rw is

  -- from the line behind a transfer of so many words: the way to the keeping of its words, and these
  pub keep_soon : (f : Frame) (k from at next words : ℕ) → p.instr from ≡ Some (Jmp at) → Lie p at (keep_words_code f k at next) → Soon place_of p 9 next → (m : Spot) → m.pc ≡ from → m.regs 15 ≡ 1048576 → m.store 1048620 ≡ words → TellsSoon place_of p (32 + 16 * words) (live m)
  keep_soon f k from at next words jump lies soon m pc fixed long =
      let three : List Instr = Ld 1 15 40 ∷ Ldi 2 (kept_at f k) ∷ Ld 3 15 44 ∷ [] in
      let there : Spot = record m { pc = at; clock = m.clock + 1 } in
      let top : Spot = line p three there in
      let rest : Lie p (at + 3) (loop_code (at + 3) next) = lie_behind p at (bares three) (loop_code (at + 3) next) (at + 3) lies (omega arith) in
      let read : top.regs 3 ≡ words = ap m.store (kept_word (m.regs 15) fixed) ∙ long in
      let looped : TellsSoon place_of p (11 + 9 * words) (live top) = loop_soon (at + 3) next words rest soon top (line_ends p three there) (omega (arith, read)) in
      let all : TellsSoon place_of p (suc (3 + (11 + 9 * words))) (live m) =
      tells_jump (3 + (11 + 9 * words)) m at (ap p.instr pc ∙ jump) (tells_line three (11 + 9 * words) there (refl, (refl, (refl, tt))) (lie_front p at (bares three) (loop_code (at + 3) next) lies) looped) in
      let sum : suc (3 + (11 + 9 * words)) + (17 + 7 * words) ≡ 32 + 16 * words = omega arith in
      subst (λ x. TellsSoon place_of p x (live m)) sum (tells_within place_of p (suc (3 + (11 + 9 * words))) (17 + 7 * words) (live m) all)

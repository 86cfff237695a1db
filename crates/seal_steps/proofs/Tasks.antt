-- Where a task's code leads, and a boot's: from each stub to the next one, and from address 0 on.
use Rattle.std.specs.Prelude.{⊤, ◌-◌, ◌/◌, ◌%◌, ◌*◌, cond, nat_lt, map, Some}
use Rattle.std.proofs.Common.{◌≡◌, ◌∙◌, ℕ, zero, suc, ◌+◌, ◌<◌, ◌≤◌, inl, inr, Bool, true, false, List, [], ◌∷◌, ◌++◌, length, refl, sym, ap, subst, arith, length-append}
use Rattle.std.proofs.lemmas.Bool.Decides.{nat_tests}
use Rattle.devices.specs.Journal.{Place}
use Rattle.line_code.specs.declared.line.Line.{Line}
use Rattle.line_code.specs.Lines.{bares, marked}
use Rattle.line_laws.specs.Standing.{Lie, lie_behind, lie_front}
use Rattle.task_ast.specs.declared.core_form.Core.{Core}
use Rattle.word_isa.specs.declared.instr.Instr.{Instr}
use Rattle.word_isa.specs.declared.instr.Instr.TheVariants.{Add, Adi, Eq, Halt, Jmp, Jz, Ld, Ldi, Ltu, Lui, Mov, Mul, Rem, Shl, Shr, St}
use Rattle.word_isa.specs.declared.mark.MarkKind.TheVariants as mark
use Rattle.word_machine.specs.Events as machine
use Rattle.word_machine.specs.RunLaws.{step_halt}
use Rattle.word_machine.specs.State.{Program}
use Rattle.word_machine.specs.Step.{step}
use Rattle.word_machine.specs.Straight.{Spot, Stand, after, is_plain, live}
use Rattle.run_plan.specs.declared.act.Act.TheVariants as act
use Rattle.word_code.specs.ActCode.{acts_entry, ended, restored}
use Rattle.word_code.specs.Acts.{jump}
use Rattle.word_code.specs.Beginnings.{restore_code}
use Rattle.word_code.specs.Frames.{Frame, sign, stride, stub_at}
use Rattle.word_code.specs.Heads.{boot_at, fix_code, head_code, leaf_code, tree_code}
use Rattle.word_code.specs.Sizes.{acts_size, region_size, restored_size}
use Rattle.code_places.specs.Placed.{ActsLie}
use Rattle.seal_steps.specs.Soon.{AllFollow}
use Rattle.seal_steps.proofs.Acts.{Fixed, calm_range, jump_fixed, none_out, nowhere, restore_flows, straight_jump}
use Rattle.seal_steps.proofs.Flow.{Behind, Goes, HasFixed, IsQuiet, ended_fine, here_quiet, is_on, led_fine, mark_quiet, plain_leads}
use Rattle.seal_steps.proofs.Lines.{Calm, Straight, straight}

-- ---- the fixed registers are made again

module _ (c : Core) (place_of : ℕ → Place) (p : Program) where
  -- nothing is known
  abbrev pub Any : Spot → Type 0
  Any m = ⊤

  -- a plain line that goes from one claim to another
  step_on : (K After : Spot → Type 0) (n at : ℕ) (i : Instr) → p.instr at ≡ Some i → is_plain i ≡ true → ((m : Spot) → machine.event p.values (p.mark m.pc) i (live m) ≡ machine.marked (p.mark m.pc) 0) → ((m : Spot) → K m → After (after p i m))
      → Behind c place_of p After n (at + 1) → Behind c place_of p K n at
  unfolding AllFollow
  step_on K After n at i there plain shows keeps behind zero m few pc known = tt
  step_on K After n at i there plain shows keeps behind (suc j) m few pc known =
      led_fine c place_of p After 1 0 j out m
      (here_quiet c place_of p m i here (subst (IsQuiet c place_of) (sym (shows m)) (mark_quiet c place_of (p.mark m.pc) 0)), plain_leads c place_of p After 1 0 out m i here plain (keeps m known) (inr (ap (λ x. x + 1) pc)))
      (λ there know goes. onward there know goes)
    where
      here : p.instr m.pc ≡ Some i
      here = ap p.instr pc ∙ there

      out : ℕ → Type 0
      out t = t ≡ at + 1

      onward : (there : Spot) → After there → Goes 1 0 out there.pc → AllFollow c place_of p j (live there)
      onward there know (inl within) = absurd (omega (arith, within.0, within.1))
      onward there know (inr is) = behind j there (omega (arith, few)) is know

  -- the registers in between
  abbrev HasFirst : Spot → Type 0
  HasFirst m = m.regs 0 ≡ 0

  abbrev HasBoth : Spot → Type 0
  HasBoth m = (m.regs 0 ≡ 0) × (m.regs 15 ≡ 0)

  lui_sets : (w : ℕ) → w ≡ 0 → 16 * 65536 + w % 65536 ≡ 1048576
  lui_sets w is = rw is

  pub fix_flows : (at far n : ℕ) (more : List Line) → Lie p at (fix_code far ++ more) → Fixed c place_of p n (at + 1 + 1 + 1) → Behind c place_of p Any n at
  fix_flows at far n more lies behind =
      let third : Behind c place_of p HasBoth n (at + 1 + 1) = step_on HasBoth HasFixed n (at + 1 + 1) (Lui 15 16) lies.1.1.0.instr refl (λ m. refl) (λ m known. (known.0, lui_sets (m.regs 15) known.1)) behind in
      let second : Behind c place_of p HasFirst n (at + 1) = step_on HasFirst HasBoth n (at + 1) (Ldi 15 0) lies.1.0.instr refl (λ m. refl) (λ m known. (known, refl)) third in
      step_on Any HasFirst n at (Ldi 0 0) lies.0.instr refl (λ m. refl) (λ m known. refl) second

  -- the halt
  halted_off : (m : Spot) → p.instr m.pc ≡ Some Halt → is_on (step p (live m)) ≡ false
  halted_off m there = ap is_on (step_halt p m there)

  pub halt_flows : (n at : ℕ) → Stand p at Halt → Fixed c place_of p n at
  unfolding AllFollow
  halt_flows n at stands zero m few pc known = tt
  halt_flows n at stands (suc j) m few pc known =
      let here : p.instr m.pc ≡ Some Halt = ap p.instr pc ∙ stands.instr in
      (here_quiet c place_of p m Halt here (mark_quiet c place_of (p.mark m.pc) 0), ended_fine c place_of p j (step p (live m)) (halted_off m here))

  -- ---- the head

  tree_long : (tasks deep first count at n : ℕ) → 0 < count → count ≤ deep → n + 4 ≡ 5 * count → length (tree_code tasks deep first count at) ≡ n
  tree_long tasks zero first count at n some enough size = absurd (omega (arith, some, enough))
  tree_long tasks (suc deep) first count at n some enough size = by (nat_lt 1 count) refl
      (λ more. (
        tree_long tasks deep first (count / 2) (at + 4) (5 * (count / 2) - 4) (omega (arith, more)) (omega (arith, enough, more)) (omega (arith, more)),
        tree_long tasks deep (first + count / 2) (count - count / 2) (at + 5 * (count / 2)) (5 * (count - count / 2) - 4) (omega (arith, more)) (omega (arith, enough, more)) (omega (arith, more)),
      ))
    where
      one : List Line
      one = tree_code tasks deep first (count / 2) (at + 4)

      two : List Line
      two = tree_code tasks deep (first + count / 2) (count - count / 2) (at + 5 * (count / 2))

      node : List Line
      node = bares (Ldi 2 (first + count / 2 - 1) ∷ Ltu 2 1 ∷ Jz 2 1 ∷ Jmp (at + 5 * (count / 2)) ∷ [])

      by : (b : Bool) → nat_lt 1 count ≡ b → (1 < count → (length one ≡ 5 * (count / 2) - 4) × (length two ≡ 5 * (count - count / 2) - 4)) → length (cond b (node ++ (one ++ two)) (leaf_code tasks first)) ≡ n
      by true is both = let more : 1 < count = grind (arith, nat_tests) in let h = both more in omega (arith, length-append one two, h.0, h.1, size, more)
      by false is both = let less : count ≤ 1 = grind (arith, nat_tests) in omega (arith, less, some, size)

  pub tree_flows : (tasks deep first count at n : ℕ) (more : List Line) → 0 < count → count ≤ deep → Lie p at (tree_code tasks deep first count at ++ more) → ((t : ℕ) → first ≤ t → t < first + count → Fixed c place_of p n (boot_at tasks t))
      → Fixed c place_of p n at
  tree_flows tasks zero first count at n more some enough lies boots = absurd (omega (arith, some, enough))
  tree_flows tasks (suc deep) first count at n more some enough lies boots = by (nat_lt 1 count) refl lies
      (λ many rest here. tree_flows tasks deep first (count / 2) (at + 4) n rest (omega (arith, many)) (omega (arith, enough, many)) here (λ t low high. boots t low (omega (arith, high, many))))
      (λ many rest here. tree_flows tasks deep (first + count / 2) (count - count / 2) (at + 5 * (count / 2)) n rest (omega (arith, many)) (omega (arith, enough, many)) here (λ t low high. boots t (omega (arith, low)) (omega (arith, high, many))))
    where
      one : List Line
      one = tree_code tasks deep first (count / 2) (at + 4)

      two : List Line
      two = tree_code tasks deep (first + count / 2) (count - count / 2) (at + 5 * (count / 2))

      right : ℕ
      right = at + 5 * (count / 2)

      node : List Line
      node = bares (Ldi 2 (first + count / 2 - 1) ∷ Ltu 2 1 ∷ Jz 2 1 ∷ Jmp (at + 5 * (count / 2)) ∷ [])

      grouped : (x : ℕ) (xs ys zs : List Line) → Lie p x ((xs ++ ys) ++ zs) → Lie p x (xs ++ (ys ++ zs))
      grouped x [] ys zs lies = lies
      grouped x (l ∷ xs) ys zs lies = (lies.0, grouped (x + 1) xs ys zs lies.1)

      by : (b : Bool) → nat_lt 1 count ≡ b → Lie p at (cond b (node ++ (one ++ two)) (leaf_code tasks first) ++ more)
          → (1 < count → (rest : List Line) → Lie p (at + 4) (one ++ rest) → Fixed c place_of p n (at + 4)) → (1 < count → (rest : List Line) → Lie p right (two ++ rest) → Fixed c place_of p n right) → Fixed c place_of p n at
      by true is lies left_on right_on =
          let many : 1 < count = grind (arith, nat_tests) in
          let behind : Lie p (at + 4) ((one ++ two) ++ more) = lie_behind p at node ((one ++ two) ++ more) (at + 4) lies (omega arith) in
          let parts : Lie p (at + 4) (one ++ (two ++ more)) = grouped (at + 4) one two more behind in
          let long : length one ≡ 5 * (count / 2) - 4 = tree_long tasks deep first (count / 2) (at + 4) (5 * (count / 2) - 4) (omega (arith, many)) (omega (arith, enough, many)) (omega (arith, many)) in
          let later : Lie p right (two ++ more) = lie_behind p (at + 4) one (two ++ more) right parts (omega (arith, long, many)) in
          let calm : Calm at (at + 4) (λ t. t ≡ right) at 4 node = record { long = refl; calm = (refl, (refl, (inl (omega arith, omega arith), (inr refl, tt)))) } in
          calm_range c place_of p at (at + 4) 4 (λ t. t ≡ right) node calm refl (lie_front p at node ((one ++ two) ++ more) lies) n (left_on many (two ++ more) parts)
          (λ t same j m few pc fixed. right_on many more later j m few (pc ∙ same) fixed)
      by false is lies left_on right_on = jump_fixed c place_of p n at (boot_at tasks first) lies.0.instr (boots first (omega arith) (omega (arith, some)))

  -- from address 0 on
  pub head_flows : (far tasks n : ℕ) → Lie p 0 (head_code far tasks) → ((t : ℕ) → t ≤ tasks → Fixed c place_of p n (boot_at tasks t)) → Behind c place_of p Any n 0
  head_flows far tasks n lies boots =
      let tree : List Line = tree_code tasks (tasks + 1) 0 (tasks + 1) 19 in
      let lines : List Line =
      bares (Ld 13 0 0 ∷ Mov 12 13 ∷ Ldi 1 2 ∷ Rem 12 1 ∷ Mov 14 12 ∷ Eq 14 0 ∷ Ldi 1 far ∷ Mul 12 1 ∷ Mul 14 1 ∷ Ldi 1 8 ∷ Shr 13 1 ∷ Ld 1 0 0 ∷ Ldi 2 256 ∷ Rem 1 2 ∷ Ldi 2 1 ∷ Shr 1 2 ∷ []) in
      let rest : Lie p 3 (lines ++ tree) = lies.1.1.1 in
      let here : Lie p 19 (tree ++ []) = lie_more 19 tree (lie_behind p 3 lines tree 19 rest (omega arith)) in
      let tested : Fixed c place_of p n 19 = tree_flows tasks (tasks + 1) 0 (tasks + 1) 19 n [] (omega arith) (omega arith) here (λ t low high. boots t (omega (arith, high))) in
      let calm : Straight 16 lines = record { long = refl; steady = refl } in
      fix_flows 0 far n (bares (Ld 1 0 0 ∷ Ldi 2 256 ∷ Rem 1 2 ∷ Ldi 2 1 ∷ Shr 1 2 ∷ []) ++ tree) lies (calm_range c place_of p 3 19 16 nowhere lines (straight 3 19 nowhere 3 (omega arith) (omega arith) calm) refl (lie_front p 3 lines tree rest) n tested (none_out c place_of p n))
    where
      lie_more : (at : ℕ) (xs : List Line) → Lie p at xs → Lie p at (xs ++ [])
      lie_more at [] lies = tt
      lie_more at (x ∷ xs) lies = (lies.0, lie_more (at + 1) xs lies.1)

  -- ---- a commit

  pub commit_flows : (f : Frame) (t at n : ℕ) → Lie p at (ended f t) → Fixed c place_of p n (stub_at (length f.core.tasks) t) → Fixed c place_of p n at
  commit_flows f t at n lies behind =
      let stub : ℕ = stub_at (length f.core.tasks) t in
      let lines : List Line =
      bares (Mov 1 13 ∷ Adi 1 1 ∷ Ldi 2 8 ∷ Shl 1 2 ∷ Adi 1 (2 * t) ∷ Mov 2 14 ∷ Ldi 3 11 ∷ Shr 2 3 ∷ Add 1 2 ∷ []) ++ (marked (sign f mark.Commit t) (St 1 0 0) ∷ []) in
      let last : List Line =
      bares (Ld 13 0 0 ∷ Mov 12 13 ∷ Ldi 1 2 ∷ Rem 12 1 ∷ Mov 14 12 ∷ Eq 14 0 ∷ Ldi 1 (stride f.scheme) ∷ Mul 12 1 ∷ Mul 14 1 ∷ Ldi 1 8 ∷ Shr 13 1 ∷ []) in
      let x : ℕ = at + 10 in
      let fixes : Lie p x (fix_code (stride f.scheme) ++ jump stub) = lie_behind p at lines (fix_code (stride f.scheme) ++ jump stub) x lies (omega arith) in
      let ends : Fixed c place_of p n (x + 1 + 1 + 1) = straight_jump c place_of p (x + 1 + 1 + 1) 11 stub last (record { long = refl; steady = refl }) fixes.1.1.1 n behind in
      let fixed : Behind c place_of p Any n x = fix_flows x (stride f.scheme) n (jump stub) fixes ends in
      let calm : Straight 10 lines = record { long = refl; steady = refl } in
      calm_range c place_of p at x 10 nowhere lines (straight at x nowhere at (omega arith) (omega arith) calm) refl (lie_front p at lines (fix_code (stride f.scheme) ++ jump stub) lies) n (λ j m few pc known. fixed j m few pc tt) (none_out c place_of p n)

  -- ---- what a boot restores

  restored_flows : (f : Frame) (r at next n : ℕ) → Lie p at (restored f r next) → next ≡ at + restored_size f r → Fixed c place_of p n next → Fixed c place_of p n at
  restored_flows f r at next n lies is behind = by (nat_lt r (length f.firsts)) lies is
    where
      by : (b : Bool) → Lie p at (cond b (restore_code f r next) []) → next ≡ at + cond b (region_size f r + 6) 0 → Fixed c place_of p n at
      by true lies is = restore_flows c place_of p f r at next lies n behind
      by false lies is = let same : next ≡ at = omega (arith, is) in subst (λ x. Fixed c place_of p n x) same behind

  pub restores_flow : (f : Frame) (rs : List ℕ) (at next n : ℕ) → next ≡ at + acts_size f (map act.Restore rs) → ActsLie p f false (map act.Restore rs) at next → Fixed c place_of p n next → Fixed c place_of p n at
  restores_flow f [] at next n is lies behind = let same : next ≡ at = omega (arith, is) in subst (λ x. Fixed c place_of p n x) same behind
  restores_flow f (r ∷ rs) at next n is lies behind =
      let x : ℕ = at + restored_size f r in
      let rest : Fixed c place_of p n x = restores_flow f rs x next n (omega (arith, is)) lies.1 behind in
      let entry : acts_entry (map act.Restore rs) x next ≡ x = entered rs (omega (arith, is)) in
      restored_flows f r at (acts_entry (map act.Restore rs) x next) n lies.0 entry (subst (λ y. Fixed c place_of p n y) (sym entry) rest)
    where
      entered : (rs : List ℕ) → next ≡ at + restored_size f r + acts_size f (map act.Restore rs) → acts_entry (map act.Restore rs) (at + restored_size f r) next ≡ at + restored_size f r
      entered [] is = omega (arith, is)
      entered (r' ∷ rs) is = refl

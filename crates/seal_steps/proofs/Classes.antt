-- A copy that is valued notes its class by its ends; acts up to its transfer leave that alone, and it goes by it.
use Rattle.std.specs.Prelude.{◌%◌, ◌^◌, ◌==◌, nat_lt, bit_and, Option, Some, None}
use Rattle.std.proofs.Common.{◌≡◌, ◌∙◌, ℕ, zero, suc, ◌+◌, ◌≤◌, inl, inr, Bool, true, false, List, [], ◌∷◌, ◌++◌, refl, sym, ap, subst, arith, if◌then◌else◌}
use Rattle.std.proofs.lemmas.Bool.Decides.{nat_tests}
use Rattle.devices.specs.Journal.{Place}
use Rattle.fram_ram.specs.Memories.{put}
use Rattle.line_code.specs.declared.areas.Placed.{Placed}
use Rattle.line_code.specs.declared.line.Line.{Line}
use Rattle.line_code.specs.Areas.{area_at}
use Rattle.line_code.specs.Expressions.{expr_code}
use Rattle.line_code.specs.Lines.{bares}
use Rattle.line_code.specs.Sizes.{expr_size}
use Rattle.line_laws.specs.Standing.{Lie, lie_behind, lie_front}
use Rattle.task_ast.specs.declared.core_form.Core.{Core}
use Rattle.task_ast.specs.declared.core_form.CoreEnd.{CoreEnd}
use Rattle.task_ast.specs.declared.core_form.CoreExpr.{CoreExpr}
use Rattle.task_ast.specs.declared.core_form.Site.{Site}
use Rattle.task_ast.specs.declared.core_form.Site.TheVariants as site
use Rattle.task_ast.specs.declared.tree.Ann.{Ann}
use Rattle.task_ast.specs.declared.tree.Ann.TheVariants as ann
use Rattle.word_isa.specs.declared.instr.Instr.{Instr}
use Rattle.word_isa.specs.declared.instr.Instr.TheVariants.{Add, And, Eq, Jmp, Jz, Ld, Ldi, Ltu, Mov, Mul, St}
use Rattle.word_machine.specs.State.{Program}
use Rattle.word_code.specs.Acts.{jump, lock_code}
use Rattle.word_code.specs.Beginnings.{first_of, homes_code, homes_size, moved_code, save_code}
use Rattle.word_code.specs.Frames.{Frame, lock_at}
use Rattle.word_code.specs.Repeats.{each}
use Rattle.word_code.specs.Tables.{branch, class_test, keeps_code, keeps_size, own_lines}
use Rattle.word_code.specs.Values.{copy_code, end_code, end_size, fits_code, length_code}
use Rattle.code_places.proofs.LineGoods.{LiesLow}
use Rattle.seal_steps.proofs.Acts.{Fixed, calm_range, homes_straight, keeps_straight, none_out, nowhere}
use Rattle.seal_steps.proofs.Claims.{AllLow, Keeping, OfRam, On, SameRam, jump_claim, jz_claim, line_claim, low_both, mild_range}
use Rattle.seal_steps.proofs.Flow.{Behind, HasFixed}
use Rattle.seal_steps.proofs.Lines.{Calm, Straight, end_calm, expr_calm, join, straight}

-- ---- the class

-- by its ends: into FRAM, from nonvolatile words to RAM, or neither
abbrev pub class_by : (to from : ℕ) → ℕ
class_by to from = if nat_lt to 1048576 then 1 else (if nat_lt from 4097 then 2 else 0)

-- RAM notes the class of the ends that it notes
abbrev pub Classed : (store : ℕ → ℕ) → Type 0
Classed store = store 1048621 ≡ class_by (store 1048616) (store 1048618)

-- it is, and isn't, this class
abbrev pub IsClass : (class : ℕ) → Bool → (store : ℕ → ℕ) → Type 0
IsClass class b store = (store 1048621 == class) ≡ b

abbrev pub Both : (D E : (store : ℕ → ℕ) → Type 0) → (store : ℕ → ℕ) → Type 0
Both D E store = D store × E store

-- as the code works it out
abbrev bit : Bool → ℕ
bit b = if b then 1 else 0

abbrev summed : (one two : ℕ) → ℕ
summed one two = ((one + two) % 2 ^ 32 + two) % 2 ^ 32

abbrev code_class : (base zeroed : ℕ) → (store : ℕ → ℕ) → ℕ
code_class base zeroed store =
    let one = bit (nat_lt (store ((base + 40) % 2 ^ 32)) base) in
    let two = bit_and (bit (nat_lt (store ((base + 42) % 2 ^ 32)) 4097)) (bit (one == zeroed)) in
    summed one two

bits_class : (a b : Bool) → summed (bit a) (bit_and (bit b) (bit (bit a == 0))) ≡ (if a then 1 else (if b then 2 else 0))
bits_class true true = refl
bits_class true false = refl
bits_class false true = refl
bits_class false false = refl

classed_there : (store : ℕ → ℕ) → Classed (put store 1048621 (code_class 1048576 0 store))
classed_there store = bits_class (nat_lt (store 1048616) 1048576) (nat_lt (store 1048618) 4097)

classed_at : (base zeroed : ℕ) (store : ℕ → ℕ) → base ≡ 1048576 → zeroed ≡ 0 → Classed (put store ((base + 45) % 2 ^ 32) (code_class base zeroed store))
classed_at base zeroed store is none =
    subst (λ b. Classed (put store ((b + 45) % 2 ^ 32) (code_class b zeroed store))) (sym is)
    (subst (λ z. Classed (put store ((1048576 + 45) % 2 ^ 32) (code_class 1048576 z store))) (sym none) (classed_there store))

pub classed_moves : (store store' : ℕ → ℕ) → SameRam store store' → Classed store → Classed store'
classed_moves store store' same is = same 1048621 (omega arith) ∙ is ∙ sym (λ i. class_by (same 1048616 (omega arith) i) (same 1048618 (omega arith) i))

-- a copy of class 1 goes into FRAM, and one of neither class goes to RAM and not from a nonvolatile word
single_to : (to from class : ℕ) → class ≡ class_by to from → (class == 1) ≡ true → nat_lt to 1048576 ≡ true
single_to to from class is one = by (nat_lt to 1048576) (nat_lt from 4097) is
  where
    by : (a b : Bool) → class ≡ (if a then 1 else (if b then 2 else 0)) → a ≡ true
    by true b is = refl
    by false true is = absurd (grind (arith, nat_tests))
    by false false is = absurd (grind (arith, nat_tests))

rest_ends : (to from class : ℕ) → class ≡ class_by to from → (class == 1) ≡ false → (class == 2) ≡ false → (nat_lt to 1048576 ≡ false) × (nat_lt from 4097 ≡ false)
rest_ends to from class is one two = by (nat_lt to 1048576) (nat_lt from 4097) is
  where
    by : (a b : Bool) → class ≡ (if a then 1 else (if b then 2 else 0)) → (a ≡ false) × (b ≡ false)
    by true b is = absurd (grind (arith, nat_tests))
    by false true is = absurd (grind (arith, nat_tests))
    by false false is = (refl, refl)

-- ---- lines that write low in FRAM

own_low : (x : Ann) (k : ℕ) → AllLow (own_lines x k)
own_low ann.Single k = (tt, (tt, tt))
own_low (ann.Timely limit) k = (tt, (tt, (tt, (tt, (tt, (tt, (tt, (tt, tt))))))))
own_low ann.Always k = (tt, tt)

keeps_low : (o : Option Site) (k : ℕ) → AllLow (keeps_code o k)
keeps_low None k = (tt, (tt, tt))
keeps_low (Some (site.Io x)) k = (
  tt,
  (
    tt,
    low_both (own_lines x k ++ bares (Ld 3 15 39 ∷ Mov 4 3 ∷ Eq 4 0 ∷ Mul 1 4 ∷ Add 1 3 ∷ [])) (bares (Ldi 3 1 ∷ Eq 1 3 ∷ And 1 2 ∷ []))
        (low_both (own_lines x k) (bares (Ld 3 15 39 ∷ Mov 4 3 ∷ Eq 4 0 ∷ Mul 1 4 ∷ Add 1 3 ∷ [])) (own_low x k) (tt, (tt, (tt, (tt, (tt, tt)))))) (tt, (tt, (tt, tt))),
  ),
)
keeps_low (Some (site.Block x)) k = (tt, (tt, tt))
keeps_low (Some (site.Copy n)) k = (tt, (tt, tt))

moves_low : (from to m n : ℕ) → to + m + n ≤ 65536 → AllLow (bares (each (moved_code from to) m n))
moves_low from to m zero few = tt
moves_low from to m (suc n) few = (tt, ((refl, omega (arith, few)), moves_low from to (m + 1) n (omega (arith, few))))

homes_low : (areas : List Placed) → ((a : ℕ) → LiesLow (area_at areas a)) → (arrays : List ℕ) → AllLow (homes_code areas 0 2048 arrays)
homes_low areas low [] = tt
homes_low areas low (a ∷ rest) =
    low_both (bares (each (moved_code ((area_at areas a).offset + 0) ((area_at areas a).offset + 2048)) 0 (area_at areas a).room)) (homes_code areas 0 2048 rest)
    (moves_low ((area_at areas a).offset + 0) ((area_at areas a).offset + 2048) 0 (area_at areas a).room (omega (arith, low a))) (homes_low areas low rest)

module _ (c : Core) (place_of : ℕ → Place) (p : Program) where
  -- where the fixed registers are right and this is known of RAM
  abbrev pub Where : (D : (store : ℕ → ℕ) → Type 0) → (n at : ℕ) → Type 0
  Where D n at = Behind c place_of p (On (Keeping c place_of p D)) n at

  pub forget : (D : (store : ℕ → ℕ) → Type 0) (n at : ℕ) → Fixed c place_of p n at → Where D n at
  forget D n at behind j m few pc known = behind j m few pc known.0

  -- ---- a copy is valued

  class_noted : (n at next : ℕ) → Lie p at (bares (Ld 1 15 40 ∷ Ltu 1 15 ∷ Ld 2 15 42 ∷ Ldi 3 4097 ∷ Ltu 2 3 ∷ Mov 3 1 ∷ Eq 3 0 ∷ And 2 3 ∷ Add 1 2 ∷ Add 1 2 ∷ St 1 15 45 ∷ [])) → p.instr (at + 11) ≡ Some (Jmp next) → Where Classed n next → Fixed c place_of p n at
  class_noted n at next lies jumps behind =
      line_claim c place_of p HasFixed (On (Keeping c place_of p Classed)) n at (Ld 1 15 40 ∷ Ltu 1 15 ∷ Ld 2 15 42 ∷ Ldi 3 4097 ∷ Ltu 2 3 ∷ Mov 3 1 ∷ Eq 3 0 ∷ And 2 3 ∷ Add 1 2 ∷ Add 1 2 ∷ St 1 15 45 ∷ [])
      (refl, (refl, (refl, (refl, (refl, (refl, (refl, (refl, (refl, (refl, (refl, tt))))))))))) lies
      (λ m fixed. ((fixed.0, fixed.1), classed_at (m.regs 15) (m.regs 0) m.store fixed.1 fixed.0)) (jump_claim c place_of p (Keeping c place_of p Classed) n (at + 11) next jumps behind)

  pub valued_classed : (f : Frame) (to from : CoreEnd) (e : CoreExpr) (n at next : ℕ) → Lie p at (copy_code f.areas to from e at ++ jump next) → Where Classed n next → Fixed c place_of p n at
  valued_classed f to from e n at next lies behind =
      let a1 : ℕ = at + end_size to in
      let a2 : ℕ = at + end_size to + end_size from in
      let a3 : ℕ = a2 + expr_size e in
      let one : List Line = end_code f.areas to 40 at in
      let two : List Line = end_code f.areas from 42 a1 in
      let three : List Line = expr_code f.areas e 0 a2 in
      let nine : List Line = bares (St 1 15 44 ∷ []) ++ (fits_code 41 ++ fits_code 43) in
      let last : List Line = bares (Ld 1 15 40 ∷ Ltu 1 15 ∷ Ld 2 15 42 ∷ Ldi 3 4097 ∷ Ltu 2 3 ∷ Mov 3 1 ∷ Eq 3 0 ∷ And 2 3 ∷ Add 1 2 ∷ Add 1 2 ∷ St 1 15 45 ∷ []) in
      let c1 : Calm at a1 nowhere at (end_size to) one = end_calm at a1 nowhere f.areas to 40 at (omega arith) (omega arith) in
      let c2 : Calm a1 a2 nowhere a1 (end_size from) two = end_calm a1 a2 nowhere f.areas from 42 a1 (omega arith) (omega arith) in
      let c3 : Calm a2 a3 nowhere a2 (expr_size e) three = expr_calm a2 a3 nowhere f.areas e 0 a2 (omega arith) (omega arith) in
      let h : Straight 9 nine = record { long = refl; steady = refl } in
      let all : Lie p at (one ++ (two ++ (three ++ length_code))) = lie_front p at (copy_code f.areas to from e at) (jump next) lies in
      let l2 : Lie p a1 (two ++ (three ++ length_code)) = lie_behind p at one (two ++ (three ++ length_code)) a1 all (omega (arith, c1.long)) in
      let l3 : Lie p a2 (three ++ length_code) = lie_behind p a1 two (three ++ length_code) a2 l2 (omega (arith, c2.long)) in
      let l4 : Lie p a3 (nine ++ last) = lie_behind p a2 three length_code a3 l3 (omega (arith, c3.long)) in
      let l5 : Lie p (a3 + 9) last = lie_behind p a3 nine last (a3 + 9) l4 (omega arith) in
      let whole : Calm at (a3 + 20) nowhere at (end_size to + (end_size from + (expr_size e + 20))) (copy_code f.areas to from e at) =
      join at (a3 + 20) nowhere (end_calm at (a3 + 20) nowhere f.areas to 40 at (omega arith) (omega arith)) a1 refl
      (join at (a3 + 20) nowhere (end_calm at (a3 + 20) nowhere f.areas from 42 a1 (omega arith) (omega arith)) a2 refl
      (join at (a3 + 20) nowhere (expr_calm at (a3 + 20) nowhere f.areas e 0 a2 (omega arith) (omega arith)) a3 refl (straight at (a3 + 20) nowhere a3 (omega arith) (omega arith) (record { long = refl; steady = refl })))) in
      let jumps : Lie p (a3 + 9 + 11) (jump next) = lie_behind p at (copy_code f.areas to from e at) (jump next) (a3 + 9 + 11) lies (omega (arith, whole.long)) in
      let noted : Fixed c place_of p n (a3 + 9) = class_noted n (a3 + 9) next l5 jumps.0.instr behind in
      let tested : Fixed c place_of p n a3 = calm_range c place_of p a3 (a3 + 9) 9 nowhere nine (straight a3 (a3 + 9) nowhere a3 (omega arith) (omega arith) h) refl (lie_front p a3 nine last l4) n noted (none_out c place_of p n) in
      let counted : Fixed c place_of p n a2 = calm_range c place_of p a2 a3 (expr_size e) nowhere three c3 refl (lie_front p a2 three length_code l3) n tested (none_out c place_of p n) in
      let sourced : Fixed c place_of p n a1 = calm_range c place_of p a1 a2 (end_size from) nowhere two c2 (omega arith) (lie_front p a1 two (three ++ length_code) l2) n counted (none_out c place_of p n) in
      calm_range c place_of p at a1 (end_size to) nowhere one c1 refl (lie_front p at one (two ++ (three ++ length_code)) all) n sourced (none_out c place_of p n)

  -- ---- up to its transfer

  none_where : (D : (store : ℕ → ℕ) → Type 0) (n t : ℕ) → nowhere t → Where D n t
  none_where D n t out = absurd out

  module _ (D : (store : ℕ → ℕ) → Type 0) (moves : OfRam c place_of p D) where
    mild_jump : (at k next : ℕ) (lines : List Line) → Straight k lines → AllLow lines → Lie p at (lines ++ jump next) → (n : ℕ) → Where D n next → Where D n at
    mild_jump at k next lines h low lies n behind =
        let last : Lie p (at + k) (jump next) = lie_behind p at lines (jump next) (at + k) lies (omega (arith, h.long)) in
        mild_range c place_of p D moves at (at + k) k nowhere lines (straight at (at + k) nowhere at (omega arith) (omega arith) h) low refl (lie_front p at lines (jump next) lies) n
        (jump_claim c place_of p (Keeping c place_of p D) n (at + k) next last.0.instr behind) (none_where D n)

    pub lock_keeps : (r at next n : ℕ) → r ≤ 59390 → Lie p at (lock_code r ++ jump next) → Where D n next → Where D n at
    lock_keeps r at next n few lies behind = mild_jump at 1 next (lock_code r) (record { long = refl; steady = refl }) ((refl, omega (arith, few)), tt) lies n behind

    pub save_keeps : (f : Frame) → ((a : ℕ) → LiesLow (area_at f.areas a)) → (r at next n : ℕ) → Lie p at (save_code f r next) → Where D n next → Where D n at
    save_keeps f low r at next n lies behind =
        let test : List Line = bares (Ld 1 0 (lock_at r) ∷ Eq 1 13 ∷ Jz 1 1 ∷ Jmp next ∷ []) in
        let size : ℕ = homes_size f.areas (first_of f r) in
        let homes : List Line = homes_code f.areas 0 2048 (first_of f r) in
        let h : Straight size homes = homes_straight f.areas 0 2048 (first_of f r) in
        let rest : Lie p (at + 4) (homes ++ jump next) = lie_behind p at test (homes ++ jump next) (at + 4) lies (omega arith) in
        let last : Lie p (at + 4 + size) (jump next) = lie_behind p (at + 4) homes (jump next) (at + 4 + size) rest (omega (arith, h.long)) in
        let copied : Where D n (at + 4) =
        mild_range c place_of p D moves (at + 4) (at + 4 + size) size nowhere homes (straight (at + 4) (at + 4 + size) nowhere (at + 4) (omega arith) (omega arith) h) (homes_low f.areas low (first_of f r)) refl (lie_front p (at + 4) homes (jump next) rest) n
        (jump_claim c place_of p (Keeping c place_of p D) n (at + 4 + size) next last.0.instr behind) (none_where D n) in
        let calm : Calm at (at + 4) (λ t. t ≡ next) at 4 test = record { long = refl; calm = (refl, (refl, (inl (omega arith, omega arith), (inr refl, tt)))) } in
        mild_range c place_of p D moves at (at + 4) 4 (λ t. t ≡ next) test calm (tt, (tt, (tt, (tt, tt)))) refl (lie_front p at test (homes ++ jump next) lies) n copied (λ t is j m few pc known. behind j m few (pc ∙ is) known)

    pub choose_keeps : (o : Option Site) (k at to other : ℕ) (more : List Line) → Lie p at (keeps_code o k ++ (branch to other ++ more)) → (n : ℕ) → Where D n to → Where D n other → Where D n at
    choose_keeps o k at to other more lies n one two =
        let x : ℕ = at + keeps_size o in
        let h : Straight (keeps_size o) (keeps_code o k) = keeps_straight o k in
        let here : Lie p x (branch to other ++ more) = lie_behind p at (keeps_code o k) (branch to other ++ more) x lies (omega (arith, h.long)) in
        let next : x + 2 ≡ x + 1 + 1 = omega arith in
        let test : Calm x (x + 2) (λ t. t ≡ to) x 2 (bares (Jz 1 1 ∷ Jmp to ∷ [])) = record { long = refl; calm = (inl (omega arith, omega arith), (inr refl, tt)) } in
        let tested : Where D n x =
        mild_range c place_of p D moves x (x + 2) 2 (λ t. t ≡ to) (bares (Jz 1 1 ∷ Jmp to ∷ [])) test (tt, (tt, tt)) refl (here.0, (here.1.0, tt)) n
        (jump_claim c place_of p (Keeping c place_of p D) n (x + 2) other (ap p.instr next ∙ here.1.1.0.instr) two) (λ t is j m few pc known. one j m few (pc ∙ is) known) in
        mild_range c place_of p D moves at x (keeps_size o) nowhere (keeps_code o k) (straight at x nowhere at (omega arith) (omega arith) h) (keeps_low o k) refl (lie_front p at (keeps_code o k) (branch to other ++ more) lies) n tested (none_where D n)

  -- ---- by its class

  noted_word : (b : ℕ) → b ≡ 1048576 → (b + 45) % 2 ^ 32 ≡ 1048621
  noted_word b is = rw is

  abbrev Tested : (D : (store : ℕ → ℕ) → Type 0) → (class : ℕ) → (regs store : ℕ → ℕ) → Type 0
  Tested D class regs store = Keeping c place_of p D regs store × (regs 1 ≡ bit (store 1048621 == class))

  set_zero : (b : Bool) (r : ℕ) → r ≡ bit b → (r == 0) ≡ true → b ≡ false
  set_zero true r is none = absurd (grind (arith, nat_tests))
  set_zero false r is none = refl

  set_one : (b : Bool) (r : ℕ) → r ≡ bit b → (r == 0) ≡ false → b ≡ true
  set_one true r is some = refl
  set_one false r is some = absurd (grind (arith, nat_tests))

  pub class_goes : (D : (store : ℕ → ℕ) → Type 0) (k class at to other n : ℕ) (more : List Line) → Lie p at (class_test false k class to other ++ more) → Where (Both D (IsClass class true)) n to → Where (Both D (IsClass class false)) n other
      → Where D n at
  class_goes D k class at to other n more lies one two =
      let three : List Instr = Ld 1 15 45 ∷ Ldi 2 class ∷ Eq 1 2 ∷ [] in
      let x : ℕ = at + 3 in
      let here : Lie p x (branch to other ++ more) = lie_behind p at (bares three) (branch to other ++ more) x lies (omega arith) in
      let tested : Behind c place_of p (On (Tested D class)) n x =
      jz_claim c place_of p (Tested D class) (Keeping c place_of p (Both D (IsClass class false))) (Keeping c place_of p (Both D (IsClass class true))) n x 1 1 here.0.instr
      (λ regs store known none. (known.0.0, (known.0.1, set_zero (store 1048621 == class) (regs 1) known.1 none)))
      (λ regs store known some. (known.0.0, (known.0.1, set_one (store 1048621 == class) (regs 1) known.1 some)))
      (jump_claim c place_of p (Keeping c place_of p (Both D (IsClass class false))) n (x + 1 + 1) other here.1.1.0.instr two)
      (jump_claim c place_of p (Keeping c place_of p (Both D (IsClass class true))) n (x + 1) to here.1.0.instr one) in
      line_claim c place_of p (On (Keeping c place_of p D)) (On (Tested D class)) n at three (refl, (refl, (refl, tt))) (lie_front p at (bares three) (branch to other ++ more) lies)
      (λ m known. (known, ap (λ x. bit (m.store x == class)) (noted_word (m.regs 15) known.0.1))) tested

  -- what a transfer begins with, by the class
  pub single_noted : (store : ℕ → ℕ) → Both Classed (IsClass 1 true) store → nat_lt (store 1048616) 1048576 ≡ true
  single_noted store known = single_to (store 1048616) (store 1048618) (store 1048621) known.0 known.1

  pub rest_noted : (store : ℕ → ℕ) → Both (Both Classed (IsClass 1 false)) (IsClass 2 false) store → (nat_lt (store 1048616) 1048576 ≡ false) × (nat_lt (store 1048618) 4097 ≡ false)
  rest_noted store known = rest_ends (store 1048616) (store 1048618) (store 1048621) known.0.0 known.0.1 known.1

-- Where the acts of a copy lead, and that a seal comes soon behind each of its transfers behind which one must.
use Rattle.std.specs.Prelude.{◌⊎◌, ◌%◌, ◌^◌, ◌*◌, ◌&&◌, ◌||◌, nat_le, nat_lt, IfSome, slice_get, Option, Some, None}
use Rattle.std.proofs.Common.{◌≡◌, ◌∙◌, ℕ, ◌+◌, ◌<◌, ◌≤◌, inl, inr, Bool, true, false, List, [], ◌∷◌, ◌++◌, refl, sym, ap, subst, arith}
use Rattle.std.proofs.lemmas.Bool.Decides.{nat_tests}
use Rattle.devices.specs.Journal.{Place, address, cell, copies, keep}
use Rattle.fram_ram.specs.Memories.{has_word, put}
use Rattle.line_code.specs.declared.line.Line.{Line}
use Rattle.line_code.specs.Lines.{bares, marked}
use Rattle.line_laws.specs.Standing.{Lie, lie_behind, lie_front}
use Rattle.region_split.specs.Class.{class_into_ram, class_of}
use Rattle.region_split.specs.declared.class.DmaClass.{DmaClass}
use Rattle.region_split.specs.declared.class.DmaClass.TheVariants as class
use Rattle.region_split.specs.declared.class.Memory.{Memory}
use Rattle.region_split.specs.declared.class.Memory.TheVariants as memory
use Rattle.task_ast.specs.declared.core_form.Core.{Core}
use Rattle.task_attempts.specs.Copies.{memory_or_ram}
use Rattle.task_attempts.specs.Sound.{is_sealed, transfer_sealed, with_site}
use Rattle.word_isa.specs.declared.instr.Instr.{Instr}
use Rattle.word_isa.specs.declared.instr.Instr.TheVariants.{Dma, Ld, Ldi}
use Rattle.word_isa.specs.declared.mark.MarkKind.TheVariants as mark
use Rattle.word_machine.specs.State.{Program}
use Rattle.word_machine.specs.Straight.{Spot, line, live}
use Rattle.run_plan.specs.declared.act.Act.TheVariants as act
use Rattle.run_plan.specs.declared.act.Leg.TheVariants.{Across, FromKept, ToKept}
use Rattle.word_code.specs.Acts.{jump, transfer_code}
use Rattle.word_code.specs.Frames.{Frame, ends_at, kept_at, sign, site_at}
use Rattle.word_code.specs.Sizes.{act_size}
use Rattle.code_places.specs.Placed.{ActsLie}
use Rattle.seal_steps.specs.Places.{TellsMemory}
use Rattle.seal_steps.specs.Soon.{FollowsSoon, TellsSoon}
use Rattle.seal_steps.proofs.Acts.{Fixed, calm_range, jump_fixed, none_out, nowhere, seal_flows}
use Rattle.seal_steps.proofs.Claims.{Keeping, On, line_claim, not_here}
use Rattle.seal_steps.proofs.Classes.{Both, Classed, IsClass, Where, rest_noted, single_noted}
use Rattle.seal_steps.proofs.Flow.{Behind, HasFixed}
use Rattle.seal_steps.proofs.Lines.{Straight, straight}
use Rattle.seal_steps.proofs.Loops.{keep_flows, keep_soon}
use Rattle.seal_steps.proofs.Telling.{Soon, seal_soon, soon_jump, tells_within}
use Rattle.seal_steps.proofs.Transfers.{IsTransfer, transfer_claim}

-- an address with a word below RAM is one of FRAM
in_fram : (x : ℕ) → has_word x ≡ true → x < 1048576 → x < 65536
unfolding has_word
in_fram x has less = by (nat_lt x 65536) (nat_le 1048576 x) (nat_lt x 1052672) refl refl has
  where
    by : (a b d : Bool) → nat_lt x 65536 ≡ a → nat_le 1048576 x ≡ b → (a || (b && d)) ≡ true → x < 65536
    by true b d low high has = grind (arith, nat_tests)
    by false true d low high has = absurd (grind (arith, nat_tests))
    by false false d low high has = absurd (cc has)

word_of : (b q : ℕ) → b ≡ 1048576 → q < 65536 → (b + q) % 2 ^ 32 ≡ 1048576 + q
word_of b q is few = omega (arith, is, few)

less_than : (x : ℕ) → nat_lt x 1048576 ≡ true → x < 1048576
less_than x is = grind (arith, nat_tests)

no_less : (x n : ℕ) → nat_lt x n ≡ false → n ≤ x
no_less x n is = grind (arith, nat_tests)

abbrev FixedRegs : (ℕ → ℕ) → Type 0
FixedRegs regs = (regs 0 ≡ 0) × (regs 15 ≡ 1048576)

-- the fixed registers alone
abbrev JustFixed : (regs store : ℕ → ℕ) → Type 0
JustFixed regs store = FixedRegs regs

-- what the start of a transfer has
abbrev SingleStart : (regs store : ℕ → ℕ) → Type 0
SingleStart regs store = FixedRegs regs × (regs 1 < 1048576) × (store 1048620 ≡ regs 3)

abbrev RestStart : (regs store : ℕ → ℕ) → Type 0
RestStart regs store = FixedRegs regs × (nat_lt (regs 1) 1048576 ≡ false) × (nat_lt (regs 2) 4097 ≡ false)

abbrev FromStart : (from : ℕ) → (regs store : ℕ → ℕ) → Type 0
FromStart from regs store = FixedRegs regs × (regs 2 ≡ from)

module _ (c : Core) (place_of : ℕ → Place) (p : Program) where
  -- behind a copy something comes soon enough, or it needs no seal
  pub bound_told : (k : ℕ) (x y : Place) (w : ℕ) (m : Spot) → TellsSoon place_of p (32 + 16 * w) (live m) → FollowsSoon c place_of p (live m) (copies k x y w)
  bound_told k (cell a i) (cell b j) w m soon = by (class_of (memory_or_ram (slice_get c.arrays a)) (memory_or_ram (slice_get c.arrays b)))
    where
      by : (q : DmaClass) → IfSome (with_site k (is_sealed q (Some (32 + 16 * w)))) (λ s. TellsSoon place_of p s.1 (live m))
      by class.Single = soon
      by class.Private = soon
      by class.Exclude = tt
      by class.Always = tt
  bound_told k (cell a i) keep w m soon = soon
  bound_told k (cell a i) (address x) w m soon = tt
  bound_told k keep (cell b j) w m soon = tt
  bound_told k keep keep w m soon = tt
  bound_told k keep (address x) w m soon = tt
  bound_told k (address y) (cell b j) w m soon = tt
  bound_told k (address y) keep w m soon = tt
  bound_told k (address y) (address x) w m soon = tt

  open_told : (k : ℕ) (x y : Place) (w : ℕ) (m : Spot) → transfer_sealed c x y w ≡ None → FollowsSoon c place_of p (live m) (copies k x y w)
  open_told k x y w m none = by (transfer_sealed c x y w) none
    where
      by : (o : Option ℕ) → o ≡ None → IfSome (with_site k o) (λ s. TellsSoon place_of p s.1 (live m))
      by None is = tt
      by (Some b) is = absurd (cc is)

  module _ (tells : TellsMemory c place_of) (f : Frame) (kept_low : (k : ℕ) → kept_at f k < 1048576) (n : ℕ) where
    -- ---- across, of class Single

    abbrev SingleMoving : (to from words k : ℕ) → (regs store : ℕ → ℕ) → Type 0
    SingleMoving to from words k regs store = FixedRegs regs × (store 1048620 ≡ words) × (((k ≡ 0) × (to < 1048576)) ⊎ (to + k ≤ 65536))

    single_word : (to from words k : ℕ) (regs store : ℕ → ℕ) → SingleMoving to from words k regs store → has_word (to + k) ≡ true → SingleMoving to from words (k + 1) regs (put store (to + k) (store (from + k)))
    single_word to from words k regs store h has =
        let low : to + k < 65536 = in_fram (to + k) has (below h.2) in
        (h.0, not_here (to + k) 1048620 (store (from + k)) store (omega (arith, low)) ∙ h.1, inr (omega (arith, low)))
      where
        below : ((k ≡ 0) × (to < 1048576)) ⊎ (to + k ≤ 65536) → to + k < 1048576
        below (inl at_first) = omega (arith, at_first.0, at_first.1)
        below (inr later) = omega (arith, later)

    pub single_flows : (k b next : ℕ) → ActsLie p f false (act.Transfer k Across ∷ act.KeepWords k ∷ act.Seal k ∷ []) b next → Fixed c place_of p n next → Where c place_of p (Both Classed (IsClass 1 true)) n b
    single_flows k b next lies behind =
        let keep_at : ℕ = b + act_size f (act.Transfer k Across) in
        let seal_at : ℕ = keep_at + act_size f (act.KeepWords k) in
        let three : List Instr = Ld 1 15 40 ∷ Ld 2 15 42 ∷ Ld 3 15 44 ∷ [] in
        let rest : List Line = marked (sign f mark.Copy k) (Dma 1 2 3) ∷ jump keep_at in
        let x : ℕ = b + 3 in
        let here : Lie p x rest = lie_behind p b (bares three) rest x lies.0 (omega arith) in
        let soon : Soon place_of p 9 seal_at = seal_soon place_of p f k (site_at f k) seal_at (jump next) lies.1.1.0 in
        let sealed : Fixed c place_of p n seal_at = seal_flows c place_of p f k (site_at f k) seal_at next lies.1.1.0 n behind in
        let kept : Fixed c place_of p n keep_at = keep_flows c place_of p f k keep_at seal_at n lies.1.0 sealed in
        let moved : IsTransfer c place_of p x SingleMoving JustFixed = record {
          word = single_word;
          ends = λ to from words regs store h. h.0;
          told = λ to from words m pc h. bound_told _ (place_of from) (place_of to) words m (keep_soon place_of p f k (x + 1) keep_at seal_at words here.1.0.instr lies.1.0 soon m pc h.0.1 h.1);
        } in
        let transferred : Behind c place_of p (On SingleStart) n x =
        transfer_claim c place_of p x SingleMoving JustFixed moved SingleStart n here.0.instr (λ regs store h. (h.0, h.2, inl (refl, h.1))) (jump_fixed c place_of p n (x + 1) keep_at here.1.0.instr kept) in
        line_claim c place_of p (On (Keeping c place_of p (Both Classed (IsClass 1 true)))) (On SingleStart) n b three (refl, (refl, (refl, tt))) (lie_front p b (bares three) rest lies.0) starts transferred
      where
        starts : (m : Spot) → On (Keeping c place_of p (Both Classed (IsClass 1 true))) m → On SingleStart (line p (Ld 1 15 40 ∷ Ld 2 15 42 ∷ Ld 3 15 44 ∷ []) m)
        starts m known =
            let to_at : (m.regs 15 + 40) % 2 ^ 32 ≡ 1048616 = word_of (m.regs 15) 40 known.0.1 (omega arith) in
            let words_at : (m.regs 15 + 44) % 2 ^ 32 ≡ 1048620 = word_of (m.regs 15) 44 known.0.1 (omega arith) in
            let low : m.store 1048616 < 1048576 = less_than (m.store 1048616) (single_noted c place_of p m.store known.1) in
            let first : m.store ((m.regs 15 + 40) % 2 ^ 32) ≡ m.store 1048616 = ap m.store to_at in
            (known.0, omega (arith, first, low), sym (ap m.store words_at))

    -- ---- across, of another class

    abbrev RestMoving : (to from words k : ℕ) → (regs store : ℕ → ℕ) → Type 0
    RestMoving to from words k regs store = FixedRegs regs × (nat_lt to 1048576 ≡ false) × (nat_lt from 4097 ≡ false)

    into_ram : (m : Memory) (w : ℕ) → (m ≡ memory.Fram → ⊥) → is_sealed (class_into_ram m) (Some w) ≡ None
    into_ram memory.Fram w other = absurd (other refl)
    into_ram memory.ConstFram w other = refl
    into_ram memory.Ram w other = refl

    rest_open : (to from w : ℕ) → nat_lt to 1048576 ≡ false → nat_lt from 4097 ≡ false → (x : Place) → place_of from ≡ x → (y : Place) → place_of to ≡ y → transfer_sealed c x y w ≡ None
    rest_open to from w high above (cell a i) x_is (cell b j) y_is =
        let ram : memory_or_ram (slice_get c.arrays b) ≡ memory.Ram = tells.ram to b j y_is (no_less to 1048576 high) in
        ap (λ t. is_sealed (class_of (memory_or_ram (slice_get c.arrays a)) t) (Some (32 + 16 * w))) ram ∙ into_ram (memory_or_ram (slice_get c.arrays a)) (32 + 16 * w) (tells.homes from a i x_is (no_less from 4097 above))
    rest_open to from w high above (cell a i) x_is keep y_is = absurd (omega (arith, tells.kept to y_is, no_less to 1048576 high))
    rest_open to from w high above (cell a i) x_is (address y) y_is = refl
    rest_open to from w high above keep x_is (cell b j) y_is = refl
    rest_open to from w high above keep x_is keep y_is = refl
    rest_open to from w high above keep x_is (address y) y_is = refl
    rest_open to from w high above (address x) x_is (cell b j) y_is = refl
    rest_open to from w high above (address x) x_is keep y_is = refl
    rest_open to from w high above (address x) x_is (address y) y_is = refl

    pub rest_flows : (k b next : ℕ) → ActsLie p f false (act.Transfer k Across ∷ []) b next → Fixed c place_of p n next → Where c place_of p (Both (Both Classed (IsClass 1 false)) (IsClass 2 false)) n b
    rest_flows k b next lies behind =
        let three : List Instr = Ld 1 15 40 ∷ Ld 2 15 42 ∷ Ld 3 15 44 ∷ [] in
        let rest : List Line = marked (sign f mark.Copy k) (Dma 1 2 3) ∷ jump next in
        let x : ℕ = b + 3 in
        let here : Lie p x rest = lie_behind p b (bares three) rest x lies.0 (omega arith) in
        let moved : IsTransfer c place_of p x RestMoving JustFixed = record {
          word = λ to from words k regs store h has. h;
          ends = λ to from words regs store h. h.0;
          told = λ to from words m pc h. open_told _ (place_of from) (place_of to) words m (rest_open to from words h.1 h.2 (place_of from) refl (place_of to) refl);
        } in
        let transferred : Behind c place_of p (On RestStart) n x =
        transfer_claim c place_of p x RestMoving JustFixed moved RestStart n here.0.instr (λ regs store h. h) (jump_fixed c place_of p n (x + 1) next here.1.0.instr behind) in
        line_claim c place_of p (On (Keeping c place_of p (Both (Both Classed (IsClass 1 false)) (IsClass 2 false)))) (On RestStart) n b three (refl, (refl, (refl, tt))) (lie_front p b (bares three) rest lies.0) starts transferred
      where
        starts : (m : Spot) → On (Keeping c place_of p (Both (Both Classed (IsClass 1 false)) (IsClass 2 false))) m → On RestStart (line p (Ld 1 15 40 ∷ Ld 2 15 42 ∷ Ld 3 15 44 ∷ []) m)
        starts m known =
            let to_at : (m.regs 15 + 40) % 2 ^ 32 ≡ 1048616 = word_of (m.regs 15) 40 known.0.1 (omega arith) in
            let from_at : (m.regs 15 + 42) % 2 ^ 32 ≡ 1048618 = word_of (m.regs 15) 42 known.0.1 (omega arith) in
            let ends = rest_noted c place_of p m.store known.1 in
            (known.0, ap (λ q. nat_lt (m.store q) 1048576) to_at ∙ ends.0, ap (λ q. nat_lt (m.store q) 4097) from_at ∙ ends.1)

    -- ---- to the kept words, and from them

    abbrev AnyMoving : (to from words k : ℕ) → (regs store : ℕ → ℕ) → Type 0
    AnyMoving to from words k regs store = FixedRegs regs

    pub to_kept_flows : (k b seal_at : ℕ) → Lie p b (transfer_code f k ToKept ++ jump seal_at) → Soon place_of p 9 seal_at → Fixed c place_of p n seal_at → Fixed c place_of p n b
    to_kept_flows k b seal_at lies soon behind =
        let three : List Line = bares (Ldi 1 (kept_at f k) ∷ Ld 2 15 42 ∷ Ld 3 15 44 ∷ []) in
        let rest : List Line = marked (sign f mark.Copy k) (Dma 1 2 3) ∷ jump seal_at in
        let x : ℕ = b + 3 in
        let here : Lie p x rest = lie_behind p b three rest x lies (omega arith) in
        let h : Straight 3 three = record { long = refl; steady = refl } in
        let moved : IsTransfer c place_of p x AnyMoving JustFixed = record {
          word = λ to from words k regs store h has. h;
          ends = λ to from words regs store h. h;
          told = λ to from words m pc h. bound_told _ (place_of from) (place_of to) words m (within words m (soon_jump place_of p 9 (x + 1) seal_at here.1.0.instr soon m pc));
        } in
        let transferred : Fixed c place_of p n x = transfer_claim c place_of p x AnyMoving JustFixed moved JustFixed n here.0.instr (λ regs store h. h) (jump_fixed c place_of p n (x + 1) seal_at here.1.0.instr behind) in
        calm_range c place_of p b x 3 nowhere three (straight b x nowhere b (omega arith) (omega arith) h) refl (lie_front p b three rest lies) n transferred (none_out c place_of p n)
      where
        within : (words : ℕ) (m : Spot) → TellsSoon place_of p 10 (live m) → TellsSoon place_of p (32 + 16 * words) (live m)
        within words m soon = let sum : 10 + (22 + 16 * words) ≡ 32 + 16 * words = omega arith in subst (λ q. TellsSoon place_of p q (live m)) sum (tells_within place_of p 10 (22 + 16 * words) (live m) soon)

    abbrev FromMoving : (k to from words j : ℕ) → (regs store : ℕ → ℕ) → Type 0
    FromMoving k to from words j regs store = FixedRegs regs × (from ≡ kept_at f k)

    from_open : (k from w : ℕ) → from ≡ kept_at f k → (x : Place) → place_of from ≡ x → (y : Place) → transfer_sealed c x y w ≡ None
    from_open k from w is (cell a i) x_is y = absurd (omega (arith, is, kept_low k, tells.above from a i x_is (omega (arith, is))))
    from_open k from w is keep x_is (cell b j) = refl
    from_open k from w is keep x_is keep = refl
    from_open k from w is keep x_is (address y) = refl
    from_open k from w is (address x) x_is (cell b j) = refl
    from_open k from w is (address x) x_is keep = refl
    from_open k from w is (address x) x_is (address y) = refl

    pub from_kept_flows : (k b next : ℕ) → Lie p b (transfer_code f k FromKept ++ jump next) → Fixed c place_of p n next → Fixed c place_of p n b
    from_kept_flows k b next lies behind =
        let three : List Instr = Ld 1 0 (ends_at k) ∷ Ldi 2 (kept_at f k) ∷ Ld 3 0 (ends_at k + 2) ∷ [] in
        let rest : List Line = marked (sign f mark.Copy k) (Dma 1 2 3) ∷ jump next in
        let x : ℕ = b + 3 in
        let here : Lie p x rest = lie_behind p b (bares three) rest x lies (omega arith) in
        let moved : IsTransfer c place_of p x (FromMoving k) JustFixed = record {
          word = λ to from words j regs store h has. h;
          ends = λ to from words regs store h. h.0;
          told = λ to from words m pc h. open_told _ (place_of from) (place_of to) words m (from_open k from words h.1 (place_of from) refl (place_of to));
        } in
        let transferred : Behind c place_of p (On (FromStart (kept_at f k))) n x = transfer_claim c place_of p x (FromMoving k) JustFixed moved (FromStart (kept_at f k)) n here.0.instr (λ regs store h. h) (jump_fixed c place_of p n (x + 1) next here.1.0.instr behind) in
        line_claim c place_of p HasFixed (On (FromStart (kept_at f k))) n b three (refl, (refl, (refl, tt))) (lie_front p b (bares three) rest lies) (λ m fixed. ((fixed.0, fixed.1), refl)) transferred

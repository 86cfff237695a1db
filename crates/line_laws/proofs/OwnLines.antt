-- Lines that change registers 1 to 3 alone.
use Rattle.std.specs.Prelude.{◌&&◌}
use Rattle.std.proofs.Common.{◌≡◌, ℕ, ◌+◌, ◌^◌, ◌<◌, ◌≤◌, Bool, true, false, List, [], ◌∷◌, length, None, Ok, refl, arith}
use Rattle.std.proofs.lemmas.Bool.Decides.{nat_tests}
use Rattle.fram_ram.specs.Memories.{put}
use Rattle.word_isa.specs.declared.instr.Instr.{Instr}
use Rattle.word_isa.specs.declared.instr.Instr.TheVariants.{Ldi, Lui, Mov, Add, Sub, Mul, And, Or, Xor, Shl, Shr, Eq, Ltu, Adi}
use Rattle.word_machine.specs.State.{Program}
use Rattle.word_machine.specs.Instructions.{fault}
use Rattle.word_machine.specs.Traces.{writes}
use Rattle.word_machine.specs.Straight.{Stands, Spot, live, is_plain, after, line, Straight, line_writes}
use Rattle.line_laws.specs.Gives.{IsKept, Same, Goal, Gives, same_then, word_goal, is_scratch, is_own, all_own}
use Rattle.line_laws.specs.GiveLaws.{gives_line, line_gives}

-- what is known of a step and of a line of them
record OwnStep (p : Program) (i : Instr) (s : Spot) : Type 0 where
  plain : is_plain i ≡ true
  safe : fault i (live s) ≡ None
  quiet : writes i (live s) ≡ []
  fixed : (r : ℕ) → IsKept r → (after p i s).regs r ≡ s.regs r
  stays : (after p i s).store ≡ s.store

pub record OwnLine (p : Program) (d : ℕ) (is : List Instr) (s : Spot) : Type 0 where
  pub straight : Straight p is s
  pub quiet : line_writes p is s ≡ []
  pub same : Same d s (line p is s)

kept_put : (a r word : ℕ) (regs : ℕ → ℕ) → is_scratch a ≡ true → IsKept r → put regs a word r ≡ regs r
kept_put a r word regs own kept = grind (arith, nat_tests, kept.one, kept.two, kept.three)

-- a register's new word, as a step
own_set : (p : Program) (i : Instr) (a word : ℕ) (s : Spot) → is_scratch a ≡ true → is_plain i ≡ true → fault i (live s) ≡ None → writes i (live s) ≡ [] → (after p i s).regs ≡ put s.regs a word → (after p i s).store ≡ s.store → OwnStep p i s
own_set p i a word s own plain safe quiet sets stays = record { plain = plain; safe = safe; quiet = quiet; fixed = λ r h. rw sets (kept_put a r word s.regs own h); stays = stays }

own_step : (p : Program) (i : Instr) (s : Spot) → is_own i ≡ true → OwnStep p i s
own_step p (Ldi a m) s h = own_set p (Ldi a m) a _ s h refl refl refl refl refl
own_step p (Lui a m) s h = own_set p (Lui a m) a _ s h refl refl refl refl refl
own_step p (Mov a b) s h = own_set p (Mov a b) a _ s h refl refl refl refl refl
own_step p (Add a b) s h = own_set p (Add a b) a _ s h refl refl refl refl refl
own_step p (Sub a b) s h = own_set p (Sub a b) a _ s h refl refl refl refl refl
own_step p (Mul a b) s h = own_set p (Mul a b) a _ s h refl refl refl refl refl
own_step p (And a b) s h = own_set p (And a b) a _ s h refl refl refl refl refl
own_step p (Or a b) s h = own_set p (Or a b) a _ s h refl refl refl refl refl
own_step p (Xor a b) s h = own_set p (Xor a b) a _ s h refl refl refl refl refl
own_step p (Shl a b) s h = own_set p (Shl a b) a _ s h refl refl refl refl refl
own_step p (Shr a b) s h = own_set p (Shr a b) a _ s h refl refl refl refl refl
own_step p (Eq a b) s h = own_set p (Eq a b) a _ s h refl refl refl refl refl
own_step p (Ltu a b) s h = own_set p (Ltu a b) a _ s h refl refl refl refl refl
own_step p (Adi a m) s h = own_set p (Adi a m) a _ s h refl refl refl refl refl
own_step p _ s h = cc

both_true : (a b : Bool) → (a && b) ≡ true → (a ≡ true) × (b ≡ true)
both_true true b h = (refl, h)
both_true false b h = cc

pub own_line : (p : Program) (d : ℕ) (is : List Instr) (s : Spot) → all_own is ≡ true → OwnLine p d is s
own_line p d [] s h = record { straight = tt; quiet = refl; same = record { fixed = λ r k. refl; kept = λ a k. refl } }
own_line p d (i ∷ is) s h =
    let e = both_true (is_own i) (all_own is) h in
    let f : OwnStep p i s = own_step p i s e.0 in
    let g : OwnLine p d is (after p i s) = own_line p d is (after p i s) e.1 in
    record {
      straight = (f.plain, f.safe, g.straight);
      quiet = rw (f.quiet, g.quiet);
      same = same_then d s (after p i s) (line p is (after p i s)) (record { fixed = f.fixed; kept = λ a k. rw f.stays }) g.same;
    }

-- such a line before what comes to a goal, and one that leaves a word
pub own_before : (p : Program) (d m most : ℕ) (is : List Instr) (s : Spot) (q : Goal d) → Stands p s.pc is → all_own is ≡ true → Gives p d m (line p is s) q → length is + m ≤ most → Gives p d most s q
own_before p d m most is s q stands own g few =
    let h : OwnLine p d is s = own_line p d is s own in gives_line p d m most is s q stands h.straight h.quiet h.same g few

pub own_gives : (p : Program) (d most : ℕ) (is : List Instr) (s : Spot) (word : ℕ) → Stands p s.pc is → all_own is ≡ true → (line p is s).regs 1 ≡ word → word < 2 ^ 32 → length is ≤ most
    → Gives p d most s (word_goal d (s.pc + length is) (Ok word))
own_gives p d most is s word stands own has fits few =
    let h : OwnLine p d is s = own_line p d is s own in line_gives p d most is s word stands h.straight h.quiet h.same has fits few

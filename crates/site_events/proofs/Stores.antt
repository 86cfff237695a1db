-- An act that writes homes one by one, and what is volatile at its end, leaves the store of all its writes.
use Rattle.std.proofs.Common.{◌≡◌, ◌∙◌, ℕ, zero, suc, List, [], ◌∷◌, get_or, set, refl, ap}
use Rattle.std.specs.Prelude.{⊤, Option, Some, None, slice_get}
use Rattle.std.specs.List.{AllByRecursion}
use Rattle.task_ast.specs.declared.tree.Kind.{Kind}
use Rattle.task_ast.specs.declared.tree.Kind.TheVariants.{Nv, Const, Vol}
use Rattle.task_ast.specs.declared.core_form.Array.{Array}
use Rattle.task_ast.specs.declared.core_form.Core.{Core}
use Rattle.walk_run.specs.declared.place.Place.{Place}
use Rattle.walk_run.specs.Store.{Store, put_word, first_if_shown}
use Rattle.walk_run.specs.PlainWrites
use Rattle.walk_run.specs.PlainWrites.{Write, sets, points, after_writes}
use Rattle.run_plan.specs.Cells.{State, puts_home, of_home, joined, after_write}
use Rattle.run_plan.specs.Small.{with_volatile}
use Rattle.run_plan.specs.Words.{kind_or_volatile, kind_at, home_writes}
use Rattle.run_plan.specs.Safe.{all_written}
use Rattle.plan_restore.proofs.Puts.{NotConst}
use Rattle.plan_restore.proofs.Writing.{WriteMay}

-- arrays that aren't volatile have the same words in two stores
abbrev SameHomes : List Array → (a b : List (List ℕ)) → Type 0
SameHomes [] a b = ⊤
SameHomes (x ∷ arrays) [] b = ⊤
SameHomes (x ∷ arrays) (h ∷ a) [] = ⊤
SameHomes (x ∷ arrays) (h ∷ a) (o ∷ b) = (of_home x.kind h o ≡ o) × SameHomes arrays a b

same_word : (k : Kind) (h : List ℕ) → of_home k h h ≡ h
same_word Nv h = refl
same_word Const h = refl
same_word Vol h = refl

same_homes : (arrays : List Array) (a : List (List ℕ)) → SameHomes arrays a a
same_homes [] a = tt
same_homes (x ∷ arrays) [] = tt
same_homes (x ∷ arrays) (h ∷ a) = (same_word x.kind h, same_homes arrays a)

joined_same : (arrays : List Array) (a b : List (List ℕ)) → SameHomes arrays a b → joined arrays a b ≡ b
joined_same [] a b h = refl
joined_same (x ∷ arrays) [] b h = refl
joined_same (x ∷ arrays) (y ∷ a) [] h = refl
joined_same (x ∷ arrays) (y ∷ a) (z ∷ b) h = ap (λ (u : List ℕ). u ∷ joined arrays a b) h.0 ∙ ap (λ (r : List (List ℕ)). z ∷ r) (joined_same arrays a b h.1)

abbrev put_in : List (List ℕ) → (n i w : ℕ) → List (List ℕ)
put_in xs n i w = set xs n (set (get_or xs n []) i w)

set_both : (k : Kind) (h o : List ℕ) (i w : ℕ) → of_home k h o ≡ o → of_home k (set h i w) (set o i w) ≡ set o i w
set_both Nv h o i w e = ap (λ (r : List ℕ). set r i w) e
set_both Const h o i w e = ap (λ (r : List ℕ). set r i w) e
set_both Vol h o i w e = refl

-- a write to both
put_both : (arrays : List Array) (a b : List (List ℕ)) (n i w : ℕ) → SameHomes arrays a b → SameHomes arrays (put_in a n i w) (put_in b n i w)
put_both [] a b n i w h = tt
put_both (x ∷ arrays) [] b n i w h = tt
put_both (x ∷ arrays) (y ∷ a) [] zero i w h = tt
put_both (x ∷ arrays) (y ∷ a) [] (suc n) i w h = tt
put_both (x ∷ arrays) (y ∷ a) (z ∷ b) zero i w h = (set_both x.kind y z i w h.0, h.1)
put_both (x ∷ arrays) (y ∷ a) (z ∷ b) (suc n) i w h = (h.0, put_both arrays a b n i w h.1)

set_other : (k : Kind) (h r : List ℕ) → k ≡ Vol → of_home k h r ≡ r
set_other Nv h r is = absurd (cc is)
set_other Const h r is = absurd (cc is)
set_other Vol h r is = refl

-- a write to the second alone, where the array is volatile
put_other : (arrays : List Array) (a b : List (List ℕ)) (n i w : ℕ) → kind_or_volatile (slice_get arrays n) ≡ Vol → SameHomes arrays a b → SameHomes arrays a (put_in b n i w)
put_other [] a b n i w other h = tt
put_other (x ∷ arrays) [] b n i w other h = tt
put_other (x ∷ arrays) (y ∷ a) [] zero i w other h = tt
put_other (x ∷ arrays) (y ∷ a) [] (suc n) i w other h = tt
put_other (x ∷ arrays) (y ∷ a) (z ∷ b) zero i w other h = (set_other x.kind y (set z i w) other, h.1)
put_other (x ∷ arrays) (y ∷ a) (z ∷ b) (suc n) i w other h = (h.0, put_other arrays a b n i w other h.1)

abbrev Same : Core → State → Store → Type 0
Same c s store = SameHomes c.arrays s.store.words store.words

-- an array that may be written isn't constant
not_const : (o : Option Array) → ((x : Array) → o ≡ Some x → x.kind ≡ Const → ⊥) → kind_or_volatile o ≡ Const → ⊥
not_const None may is = cc is
not_const (Some x) may is = may x refl is

kind_follows : (c : Core) (writes : List Write) → ((s : State) (store : Store) → Same c s store → Same c (all_written c (home_writes c writes) s) (after_writes writes store))
    → (s : State) (store : Store) → Same c s store → (at : Place) (w : ℕ) (k : Kind) → kind_at c at ≡ k → (kind_at c at ≡ Const → ⊥)
    → Same c (all_written c (first_if_shown k (puts_home at w) (home_writes c writes)) s) (after_writes writes (put_word at w store))
kind_follows c writes follow s store h at w Nv is may = follow (after_write c.arrays (puts_home at w) s) (put_word at w store) (put_both c.arrays s.store.words store.words at.array at.index w h)
kind_follows c writes follow s store h at w Const is may = absurd (may is)
kind_follows c writes follow s store h at w Vol is may = follow s (put_word at w store) (put_other c.arrays s.store.words store.words at.array at.index w is h)

-- the homes after the writes of homes are those after all writes
homes_follow : (c : Core) (writes : List Write) → AllByRecursion (WriteMay (NotConst c)) writes → (s : State) (store : Store) → Same c s store → Same c (all_written c (home_writes c writes) s) (after_writes writes store)
homes_follow c [] may s store h = h
homes_follow c (points q at ∷ writes) may s store h = homes_follow c writes may.1 s (PlainWrites.after_write (points q at) store) h
homes_follow c (sets at w ∷ writes) may s store h =
    kind_follows c writes (homes_follow c writes may.1) s store h at w (kind_at c at) refl (not_const (slice_get c.arrays at.array) may.0)

-- home by home and then what is volatile: the store of all writes
pub writes_leave : (c : Core) (writes : List Write) → AllByRecursion (WriteMay (NotConst c)) writes → (s : State)
    → (with_volatile c (after_writes writes s.store) (all_written c (home_writes c writes) s)).store ≡ after_writes writes s.store
writes_leave c writes may s =
    let after = after_writes writes s.store in
    ap (λ (words : List (List ℕ)). record { words = words; pointers = after.pointers })
    (joined_same c.arrays (all_written c (home_writes c writes) s).store.words after.words (homes_follow c writes may s s.store (same_homes c.arrays s.store.words)))

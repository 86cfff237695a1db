-- Where a small step shows one thing, a front of what is seen is what a front of the small steps shows.
use Rattle.std.specs.Prelude.{⊤, length}
use Rattle.std.proofs.Common.{◌≡◌, ◌≢◌, ◌∙◌, List, [], ◌∷◌, ◌++◌, Option, Some, None, refl, sym, ap, arith}
use Rattle.devices.specs.Journal.{JournalEvent}
use Rattle.task_ast.specs.declared.core_form.Core.{Core}
use Rattle.word_isa.specs.declared.parts.Scheme.{Scheme}
use Rattle.run_plan.specs.Cells.{CellWrite, State}
use Rattle.run_plan.specs.Small.{Atom, after_atom, after_shown}
use Rattle.cell_laws.specs.Standing.{address_of, word_of}
use Rattle.act_refines.specs.Seen.{IsFront, Seen, event_seen, puts, steps_seen, tells, write_seen}

-- what is seen is what a front of small steps shows
pub record Split (c : Core) (scheme : Scheme) (s : State) (xs : List Seen) (atoms : List Atom) : Type 0 where
  pub front : List Atom
  pub left : List Atom
  pub whole : front ++ left ≡ atoms
  pub shown : xs ≡ steps_seen c scheme front s

-- ---- one thing

abbrev pub ShowsOne : Option CellWrite → Option JournalEvent → Type 0
ShowsOne None None = ⊥
ShowsOne None (Some e) = ⊤
ShowsOne (Some w) None = ⊤
ShowsOne (Some w) (Some e) = ⊥

abbrev pub AllShowOne : List Atom → Type 0
AllShowOne [] = ⊤
AllShowOne (a ∷ atoms) = ShowsOne a.write a.event × AllShowOne atoms

-- which it is
abbrev seen_of : Core → Scheme → State → (w : Option CellWrite) → (e : Option JournalEvent) → ShowsOne w e → Seen
seen_of c scheme s None None one = absurd one
seen_of c scheme s None (Some e) one = tells e
seen_of c scheme s (Some w) None one = puts (address_of c scheme s w) (word_of c scheme s w)
seen_of c scheme s (Some w) (Some e) one = absurd one

one_first : (c : Core) (scheme : Scheme) (s : State) (w : Option CellWrite) (e : Option JournalEvent) (one : ShowsOne w e) (rest : List Seen) → write_seen c scheme s w ++ event_seen e ++ rest ≡ seen_of c scheme s w e one ∷ rest
one_first c scheme s None None one rest = absurd one
one_first c scheme s None (Some e) one rest = refl
one_first c scheme s (Some w) None one rest = refl
one_first c scheme s (Some w) (Some e) one rest = absurd one

-- ---- fronts

same_first : (x y : Seen) (xs ys : List Seen) → x ∷ xs ≡ y ∷ ys → x ≡ y
same_first x y xs ys same = cc same

same_rest : (x y : Seen) (xs ys : List Seen) → x ∷ xs ≡ y ∷ ys → xs ≡ ys
same_rest x y xs ys same = cc same

none_seen : (x : Seen) (xs : List Seen) → x ∷ xs ≡ [] → ⊥
none_seen x xs same = cc same

no_split : (c : Core) (scheme : Scheme) (s : State) (atoms : List Atom) → Split c scheme s [] atoms
no_split c scheme s atoms = record { front = []; left = atoms; whole = refl; shown = refl }

one_split : (c : Core) (scheme : Scheme) (a : Atom) (atoms : List Atom) (s : State) (x : Seen) (xs : List Seen) (one : ShowsOne a.write a.event) → x ≡ seen_of c scheme (after_shown a.event s) a.write a.event one → Split c scheme (after_atom c a s) xs atoms
    → Split c scheme s (x ∷ xs) (a ∷ atoms)
one_split c scheme a atoms s x xs one is h = record {
  front = a ∷ h.front;
  left = h.left;
  whole = ap (λ (l : List Atom). a ∷ l) h.whole;
  shown = (λ i. is i ∷ h.shown i) ∙ sym (one_first c scheme (after_shown a.event s) a.write a.event one (steps_seen c scheme h.front (after_atom c a s)));
}

-- what is behind the first small step
first_joined : (c : Core) (scheme : Scheme) (a : Atom) (atoms : List Atom) (s : State) (all : List Seen) (one : ShowsOne a.write a.event) → all ≡ steps_seen c scheme (a ∷ atoms) s
    → all ≡ seen_of c scheme (after_shown a.event s) a.write a.event one ∷ steps_seen c scheme atoms (after_atom c a s)
first_joined c scheme a atoms s all one is = is ∙ one_first c scheme (after_shown a.event s) a.write a.event one (steps_seen c scheme atoms (after_atom c a s))

pub ones_split : (c : Core) (scheme : Scheme) (atoms : List Atom) (s : State) (xs : List Seen) → AllShowOne atoms → IsFront xs (steps_seen c scheme atoms s) → Split c scheme s xs atoms
ones_split c scheme atoms s [] ones h = no_split c scheme s atoms
ones_split c scheme [] s (x ∷ xs) ones h = absurd (none_seen x (xs ++ h.rest) h.joined)
ones_split c scheme (a ∷ atoms) s (x ∷ xs) ones h =
    let same : x ∷ (xs ++ h.rest) ≡ seen_of c scheme (after_shown a.event s) a.write a.event ones.0 ∷ steps_seen c scheme atoms (after_atom c a s) = first_joined c scheme a atoms s (x ∷ (xs ++ h.rest)) ones.0 h.joined in
    one_split c scheme a atoms s x xs ones.0 (same_first x _ (xs ++ h.rest) _ same)
    (ones_split c scheme atoms (after_atom c a s) xs ones.1 (record { rest = h.rest; joined = same_rest x _ (xs ++ h.rest) _ same }))

-- ---- the last shows both

abbrev ShowsBoth : Option CellWrite → Option JournalEvent → Type 0
ShowsBoth None e = ⊥
ShowsBoth (Some w) None = ⊥
ShowsBoth (Some w) (Some e) = ⊤

-- small steps of one thing each, and a last one of two
abbrev pub LastShowsBoth : List Atom → Type 0
LastShowsBoth [] = ⊥
LastShowsBoth (a ∷ []) = ShowsBoth a.write a.event
LastShowsBoth (a ∷ b ∷ atoms) = ShowsOne a.write a.event × LastShowsBoth (b ∷ atoms)

-- a front of two things is nothing, the first, or both
both_split : (c : Core) (scheme : Scheme) (s : State) (w : Option CellWrite) (e : Option JournalEvent) (xs : List Seen) → ShowsBoth w e → xs ≢ [] → length xs ≢ 1 → IsFront xs (write_seen c scheme s w ++ event_seen e ++ []) → xs ≡ write_seen c scheme s w ++ event_seen e ++ []
both_split c scheme s None e xs both some not_one h = absurd both
both_split c scheme s (Some w) None xs both some not_one h = absurd both
both_split c scheme s (Some w) (Some e) [] both some not_one h = absurd (some refl)
both_split c scheme s (Some w) (Some e) (x ∷ []) both some not_one h = absurd (not_one refl)
both_split c scheme s (Some w) (Some e) (x ∷ y ∷ []) both some not_one h = cc h.joined
both_split c scheme s (Some w) (Some e) (x ∷ y ∷ z ∷ xs) both some not_one h = absurd (cc h.joined)

-- a front that doesn't end between the last two things
pub last_split : (c : Core) (scheme : Scheme) (atoms : List Atom) (s : State) (xs : List Seen) → LastShowsBoth atoms → length xs ≢ length atoms → IsFront xs (steps_seen c scheme atoms s) → Split c scheme s xs atoms
last_split c scheme atoms s [] both apart h = no_split c scheme s atoms
last_split c scheme [] s (x ∷ xs) both apart h = absurd both
last_split c scheme (a ∷ []) s (x ∷ xs) both apart h =
    record { front = a ∷ []; left = []; whole = refl; shown = both_split c scheme (after_shown a.event s) a.write a.event (x ∷ xs) both (λ none. cc none) apart h }
last_split c scheme (a ∷ b ∷ atoms) s (x ∷ xs) both apart h =
    let same : x ∷ (xs ++ h.rest) ≡ seen_of c scheme (after_shown a.event s) a.write a.event both.0 ∷ steps_seen c scheme (b ∷ atoms) (after_atom c a s) = first_joined c scheme a (b ∷ atoms) s (x ∷ (xs ++ h.rest)) both.0 h.joined in
    one_split c scheme a (b ∷ atoms) s x xs both.0 (same_first x _ (xs ++ h.rest) _ same)
    (last_split c scheme (b ∷ atoms) (after_atom c a s) xs both.1 (λ e. apart (omega (arith, e))) (record { rest = h.rest; joined = same_rest x _ (xs ++ h.rest) _ same }))

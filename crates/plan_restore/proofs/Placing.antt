-- Words that are put to many places, one by one: what each place should have comes, and stays.
use Rattle.std.proofs.Common.{◌≡◌, ◌∙◌, ℕ, ◌<◌, List, [], ◌∷◌, length, map, refl, sym, ap, subst}
use Rattle.std.specs.List.{AllByRecursion}
use Rattle.walk_run.specs.declared.place.Place.{Place}
use Rattle.walk_run.specs.Store.{Store, IsInside, words_of, word_at, put_word}
use Rattle.walk_run.specs.StoreLaws.{rooms_stay, word_same}
use Rattle.run_plan.specs.Cells.{State, CellWrite, puts_home, puts_aside, after_write}
use Rattle.run_plan.specs.Small.{Doing, Atom, silent, core_of}
use Rattle.plan_restore.proofs.Puts.{put_stays, as_store}
use Rattle.plan_restore.proofs.Steps.{atoms_done}

-- writes that put words into one of a state's stores
pub record Puts (d : Doing) (make : Place → ℕ → CellWrite) (look : State → Store) : Type 0 where
  pub puts : (q : Place) (w : ℕ) (s : State) → (look (after_write (core_of d).arrays (make q w) s)).words ≡ (put_word q w (look s)).words

pub into_homes : (d : Doing) → Puts d puts_home (λ s. s.store)
into_homes d = record { puts = λ q w s. refl }

pub into_aside : (d : Doing) → Puts d puts_aside (λ s. as_store s.aside)
into_aside d = record { puts = λ q w s. refl }

-- a word for each place
abbrev pub put_all : (Place → ℕ → CellWrite) → (Place → ℕ) → List Place → List Atom
put_all make v places = map silent (map (λ q. make q (v q)) places)

same_word : (s u : Store) (q : Place) → s.words ≡ u.words → word_at s q ≡ word_at u q
same_word s u q same = ap (λ (ws : List (List ℕ)). word_at (as_store ws) q) same

module _ (d : Doing) (make : Place → ℕ → CellWrite) (look : State → Store) (are : Puts d make look) (v : Place → ℕ) where
  pub all_stay : (q : Place) (places : List Place) (s : State) → word_at (look s) q ≡ v q → word_at (look (atoms_done d (put_all make v places) s)) q ≡ v q
  all_stay q [] s h = h
  all_stay q (x ∷ places) s h =
      all_stay q places (after_write (core_of d).arrays (make x (v x)) s) (same_word (look (after_write (core_of d).arrays (make x (v x)) s)) (put_word x (v x) (look s)) q (are.puts x (v x) s) ∙ put_stays v x q (look s) h)

  inside_stay : (x : Place) (w : ℕ) (s : State) (places : List Place) → AllByRecursion (IsInside (look s)) places → AllByRecursion (IsInside (look (after_write (core_of d).arrays (make x w) s))) places
  inside_stay x w s [] all = tt
  inside_stay x w s (q ∷ places) all = (
    subst (λ (ws : List (List ℕ)). q.index < length (words_of (as_store ws) q.array)) (sym (are.puts x w s)) (subst (λ n. q.index < n) (sym (rooms_stay x w (look s) q.array)) all.0),
    inside_stay x w s places all.1,
  )

  -- behind all of them each place has its word
  pub all_come : (places : List Place) (s : State) → AllByRecursion (IsInside (look s)) places → AllByRecursion (λ q. word_at (look (atoms_done d (put_all make v places) s)) q ≡ v q) places
  all_come [] s all = tt
  all_come (x ∷ places) s all =
      let after = after_write (core_of d).arrays (make x (v x)) s in
      (all_stay x places after (same_word (look after) (put_word x (v x) (look s)) x (are.puts x (v x) s) ∙ word_same x (v x) (look s) all.0), all_come places after (inside_stay x (v x) s places all.1))

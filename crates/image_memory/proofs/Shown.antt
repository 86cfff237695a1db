-- The words that an image's symbols show are those of the committed homes.
use Rattle.std.specs.Prelude.{◌⊎◌, ◌==◌, ◌%◌, ◌*◌, cond, map, slice_index, slice_index_or, if◌then◌else◌}
use Rattle.std.proofs.Common.{◌≡◌, ◌∙◌, ℕ, zero, suc, ◌+◌, ◌<◌, ◌≤◌, Bool, true, false, List, [], ◌∷◌, ◌++◌, length, inl, inr, refl, sym, ap, subst, arith, eqb-true, eq-eqb}
use Rattle.task_ast.specs.declared.tree.Kind.{Kind}
use Rattle.task_ast.specs.declared.tree.Kind.TheVariants.{Nv, Const, Vol}
use Rattle.task_ast.specs.declared.core_form.Array.{Array}
use Rattle.task_ast.specs.declared.core_form.Core.{Core}
use Rattle.walk_run.specs.Store.{Store, first_if_shown, place, shown_words, word_at, words_of}
use Rattle.walk_run.specs.declared.place.Place.{Place}
use Rattle.word_isa.specs.declared.parts.Scheme.{Scheme}
use Rattle.word_isa.specs.declared.parts.Scheme.TheVariants.{Undo, Bank}
use Rattle.word_machine.specs.Places.{bank_offset, nonvolatile, nv_words, words_from}
use Rattle.line_code.specs.declared.areas.Placed.{Placed}
use Rattle.line_code.specs.Areas.{area_at, areas_from, free_at_first}
use Rattle.line_laws.specs.Relation.{base_at, base_word, room_at}
use Rattle.layout_laws.specs.Layouts.{layout_of}
use Rattle.layout_laws.proofs.Apart.{base_is, base_of, kind_of}
use Rattle.run_plan.specs.Cells.{State, with_words}
use Rattle.run_plan.specs.Runs.{committed_words}
use Rattle.word_code.specs.CodeOf as code
use Rattle.word_code.specs.CodeOf.{symbol, symbols_from}
use Rattle.word_code.specs.Frames.{stride}
use Rattle.act_laws.specs.Words.{state_word}
use Rattle.cell_laws.specs.Standing.{HasHomes, HasStore, HaveHomes, IsHome, address_in, beside, worked}
use Rattle.ram_laws.specs.Ram.{AreWhole}
use Rattle.act_refines.specs.Between.{IsBank, IsTidy}

-- ---- a symbol's words

words_are : (m : ℕ → ℕ) (w : List ℕ) (at : ℕ) → ((i : ℕ) → i < length w → m (at + i) ≡ slice_index w i) → words_from (length w) at m ≡ w
words_are m [] at holds = refl
words_are m (x ∷ w) at holds =
    let here : at + 0 ≡ at = omega arith in
    let first : m at ≡ x = ap m (sym here) ∙ holds 0 (omega arith) in
    let rest : words_from (length w) (at + 1) m ≡ w = words_are m w (at + 1) (λ i less. let next : at + 1 + i ≡ at + suc i = omega arith in ap m next ∙ holds (suc i) (omega (arith, less))) in
    (λ j. first j ∷ rest j)

module _ (areas : List Placed) (m : ℕ → ℕ) (off : ℕ) where
  -- an array has these words where it lies
  record IsShown (number : ℕ) (w : List ℕ) : Type 0 where
    base : (area_at areas number).base ≡ 14
    room : (area_at areas number).room ≡ length w
    holds : (i : ℕ) → i < length w → m ((area_at areas number).offset + off + i) ≡ slice_index w i

  -- so does each nonvolatile array of a list, from a number on
  abbrev FitFrom : (number : ℕ) → List Array → (words : List (List ℕ)) → Type 0
  FitFrom number [] words = Unit {0}
  FitFrom number (a ∷ arrays) [] = Unit {0}
  FitFrom number (a ∷ arrays) (w ∷ words) = (a.kind ≡ Nv → IsShown number w) × FitFrom (number + 1) arrays words

  symbol_shows : (number : ℕ) (w : List ℕ) → IsShown number w → words_from (area_at areas number).room (code.base_of (area_at areas number) + off) m ≡ w
  symbol_shows number w h =
      let at : code.base_of (area_at areas number) ≡ (area_at areas number).offset = ap (λ b. cond (b == 15) (1048576 + (area_at areas number).offset) (area_at areas number).offset) h.base in
      (λ j. words_from (h.room j) (at j + off) m) ∙ words_are m w ((area_at areas number).offset + off) h.holds

  one_shown : (k : Kind) (number : ℕ) (w : List ℕ) (more : List (List ℕ)) → (k ≡ Nv → IsShown number w)
      → nonvolatile k (area_at areas number).room (code.base_of (area_at areas number) + off) m ++ more ≡ first_if_shown k w more
  one_shown Nv number w more h = ap (λ (ws : List ℕ). ws ∷ more) (symbol_shows number w (h refl))
  one_shown Const number w more h = refl
  one_shown Vol number w more h = refl

  shown_are : (number : ℕ) (arrays : List Array) (words : List (List ℕ)) → length words ≡ length arrays → FitFrom number arrays words → nv_words (symbols_from areas number arrays) off m ≡ shown_words arrays words
  shown_are number [] words long fit = refl
  shown_are number (a ∷ arrays) [] long fit = absurd (omega (arith, long))
  shown_are number (a ∷ arrays) (w ∷ words) long fit =
      ap (λ (more : List (List ℕ)). nonvolatile a.kind (area_at areas number).room (code.base_of (area_at areas number) + off) m ++ more) (shown_are (number + 1) arrays words (omega (arith, long)) fit.1)
      ∙ one_shown a.kind number w (shown_words arrays words) fit.0

  fit_from : (number : ℕ) (arrays : List Array) (words : List (List ℕ)) → ((j : ℕ) → kind_of arrays j ≡ Nv → IsShown (number + j) (slice_index_or words j [])) → FitFrom number arrays words
  fit_from number [] words holds = tt
  fit_from number (a ∷ arrays) [] holds = tt
  fit_from number (a ∷ arrays) (w ∷ words) holds = (
    λ is. let here : number + 0 ≡ number = omega arith in subst (λ n. IsShown n w) here (holds 0 is),
    fit_from (number + 1) arrays words (λ j is. let next : number + suc j ≡ number + 1 + j = omega arith in subst (λ n. IsShown n (slice_index_or words j [])) next (holds (suc j) is)),
  )

-- ---- the words of a bank

home_base : (c : Core) (n : ℕ) → kind_of c.arrays n ≡ Nv → base_at (layout_of c 0) n ≡ 14
home_base c n is = base_is free_at_first c.arrays n ∙ ap base_of is

bank_shows : (c : Core) (bank : ℕ) (m : ℕ → ℕ) (store : Store) → length store.words ≡ length c.arrays → AreWhole c 14 store → HasHomes c bank m (word_at store)
    → nv_words (symbols_from (areas_from free_at_first c.arrays) 0 c.arrays) bank m ≡ shown_words c.arrays store.words
bank_shows c bank m store long whole homes =
    shown_are (areas_from free_at_first c.arrays) m bank 0 c.arrays store.words long (fit_from (areas_from free_at_first c.arrays) m bank 0 c.arrays store.words (λ j is.
    let none : j ≡ 0 + j = omega arith in subst (λ n. IsShown (areas_from free_at_first c.arrays) m bank n (slice_index_or store.words j [])) none (shown j is)))
  where
    shown : (n : ℕ) → kind_of c.arrays n ≡ Nv → IsShown (areas_from free_at_first c.arrays) m bank n (slice_index_or store.words n [])
    shown n is =
        let base : base_at (layout_of c 0) n ≡ 14 = home_base c n is in
        let rooms : length (words_of store n) ≡ room_at (layout_of c 0) n = whole.rooms n base in
        record {
          base = base;
          room = sym rooms;
          holds = λ i less.
              let inside : i < room_at (layout_of c 0) n = omega (arith, less, rooms) in
              let from : base_word bank (base_at (layout_of c 0) n) ≡ bank = ap (base_word bank) base in
              let address : (area_at (areas_from free_at_first c.arrays) n).offset + bank + i ≡ address_in c bank (place n i) = omega (arith, from) in
              ap m address ∙ homes (place n i) (record { nonvolatile = ap (λ b. b == 14) base; inside = inside });
        }

-- ---- the committed one

parity : (epoch task bank : ℕ) → bank ≤ 1 → state_word epoch task bank % 2 ≡ bank
parity epoch task bank few = omega (arith, few)

pub committed_shown : (c : Core) (scheme : Scheme) (m : ℕ → ℕ) (s : State) → HasStore c scheme m s → IsTidy c scheme s
    → nv_words (symbols_from (areas_from free_at_first c.arrays) 0 c.arrays) (bank_offset 0 (stride scheme) m) m ≡ committed_words scheme c s
committed_shown c Undo m s h tidy =
    let none : bank_offset 0 (stride Undo) m ≡ 0 = omega arith in
    ap (λ off. nv_words (symbols_from (areas_from free_at_first c.arrays) 0 c.arrays) off m) none ∙ bank_shows c 0 m s.store tidy.shape.homes tidy.homes h.homes
committed_shown c Bank m s h tidy = by tidy.bank
  where
    by : IsBank Bank s.bank → nv_words (symbols_from (areas_from free_at_first c.arrays) 0 c.arrays) (bank_offset 0 (stride Bank) m) m ≡ committed_words Bank c s
    by (inl is) =
        let word : m 0 ≡ state_word s.epoch s.task 0 = h.state ∙ ap (state_word s.epoch s.task) is in
        let even : m 0 % 2 ≡ 0 = ap (λ w. w % 2) word ∙ parity s.epoch s.task 0 (omega arith) in
        let off : bank_offset 0 (stride Bank) m ≡ 0 = ap (λ b. b * 2048) even in
        let homes : HasHomes c 0 m (word_at (with_words s.aside s.store)) = subst (λ b. HasHomes c (beside Bank b) m (word_at (with_words s.aside s.store))) is h.aside in
        ap (λ o. nv_words (symbols_from (areas_from free_at_first c.arrays) 0 c.arrays) o m) off ∙ bank_shows c 0 m (with_words s.aside s.store) tidy.shape.others tidy.aside homes
    by (inr is) =
        let word : m 0 ≡ state_word s.epoch s.task 1 = h.state ∙ ap (state_word s.epoch s.task) is in
        let odd : m 0 % 2 ≡ 1 = ap (λ w. w % 2) word ∙ parity s.epoch s.task 1 (omega arith) in
        let off : bank_offset 0 (stride Bank) m ≡ 2048 = ap (λ b. b * 2048) odd in
        let homes : HasHomes c 2048 m (word_at (with_words s.aside s.store)) = subst (λ b. HasHomes c (beside Bank b) m (word_at (with_words s.aside s.store))) is h.aside in
        ap (λ o. nv_words (symbols_from (areas_from free_at_first c.arrays) 0 c.arrays) o m) off ∙ bank_shows c 2048 m (with_words s.aside s.store) tidy.shape.others tidy.aside homes

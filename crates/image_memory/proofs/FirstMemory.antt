-- The memory with which an image begins stands for the first state of the plan.
use Rattle.std.specs.Prelude.{◌⊎◌, ◌==◌, ◌^◌, min, map, slice_index, slice_index_or, if◌then◌else◌}
use Rattle.std.proofs.Common.{◌≡◌, ◌∙◌, ℕ, zero, suc, ◌+◌, ◌<◌, ◌≤◌, true, false, List, [], length, inl, inr, refl, sym, ap, subst, arith, eqb-true}
use Rattle.devices.specs.Reading.{values_in}
use Rattle.devices.specs.declared.world.World.{World}
use Rattle.task_ast.specs.declared.tree.Kind.TheVariants.{Nv, Const}
use Rattle.task_ast.specs.declared.core_form.Core.{Core}
use Rattle.task_ast.specs.declared.core_form.CoreTask.{CoreTask}
use Rattle.task_ast.specs.WellFormed.{IsWellFormed}
use Rattle.task_attempts.specs.Boots.{rules_of}
use Rattle.walk_run.specs.declared.place.Place.{Place}
use Rattle.walk_run.specs.Store.{Store, declared_store, place, word_at}
use Rattle.word_isa.specs.declared.parts.Scheme.{Scheme}
use Rattle.word_isa.specs.declared.parts.Scheme.TheVariants.{Undo, Bank}
use Rattle.word_machine.specs.State.{Program, start}
use Rattle.line_code.specs.Areas.{free_at_first}
use Rattle.line_laws.specs.Relation.{base_at, room_at}
use Rattle.layout_laws.specs.Layouts.{layout_of}
use Rattle.layout_laws.proofs.Apart.{FitAreas, address_is, before, fit_areas, kind_of, room_is, room_of, total, within}
use Rattle.run_plan.specs.Cells.{State, first_areas, first_state, joined, of_home, zeros}
use Rattle.word_code.specs.CodeOf.{constants_of, fram_of, homes_of}
use Rattle.cell_laws.specs.Standing.{HasHomes, HasStore, IsHome, Stands, address_in, beside, worked}
use Rattle.ram_laws.specs.Ram.{AreWhole, HasConstants, IsPlaceOf}
use Rattle.act_refines.specs.Between.{IsBank, IsTidy, MemoryStands}
use Rattle.code_cuts.specs.Lasting.{Lasts, doing_of}
use Rattle.image_memory.proofs.FirstStores.{IsFirst, blank, blank_at, constant_kind, firsts_long, home_kind, joined_at, joined_long, whole_first, zeros_at, zeros_long}
use Rattle.image_memory.proofs.FirstWords.{constant_at, constant_there, constants_long, first_of, home_at, home_there, homes_long, none_behind, none_between, state_there}

module _ (c : Core) (well : IsWellFormed c) where
  abbrev first_fram : ℕ → ℕ
  first_fram = slice_index (fram_of c.arrays)

  fit : FitAreas c.arrays 0
  fit = fit_areas c 0 well (omega arith)

  few_homes : length (homes_of c.arrays) ≤ 2048
  few_homes = let nv : total c.arrays Nv ≤ 2048 = fit.nv in omega (arith, nv, homes_long c.arrays)

  few_constants : length (constants_of c.arrays) ≤ 2048
  few_constants = let const : total c.arrays Const ≤ 2048 = fit.const in omega (arith, const, constants_long c.arrays)

  -- where nothing of an image's begins lies
  far : (a : ℕ) → 6145 ≤ a → first_fram a ≡ 0
  far a many = by a many
    where
      by : (b : ℕ) → 6145 ≤ b → first_fram b ≡ 0
      by zero less = absurd (omega (arith, less))
      by (suc b) less = none_behind (homes_of c.arrays) (constants_of c.arrays) b (omega (arith, few_homes)) (omega (arith, few_constants, less))

  -- a place of an array, by its kind
  inside_room : (n i : ℕ) → i < room_at (layout_of c 0) n → i < room_of c.arrays n
  inside_room n i inside = omega (arith, inside, room_is free_at_first c.arrays n)

  home_index : (n i : ℕ) → kind_of c.arrays n ≡ Nv → i < room_of c.arrays n → before c.arrays Nv n + i < length (homes_of c.arrays)
  home_index n i is inside =
      let most : before c.arrays Nv n + room_of c.arrays n ≤ total c.arrays Nv = rw is at (within c.arrays n) in
      omega (arith, inside, most, homes_long c.arrays)

  constant_index : (n i : ℕ) → kind_of c.arrays n ≡ Const → i < room_of c.arrays n → before c.arrays Const n + i < length (constants_of c.arrays)
  constant_index n i is inside =
      let most : before c.arrays Const n + room_of c.arrays n ≤ total c.arrays Const = rw is at (within c.arrays n) in
      omega (arith, inside, most, constants_long c.arrays)

  home_address : (bank n i : ℕ) → kind_of c.arrays n ≡ Nv → i < room_of c.arrays n → address_in c bank (place n i) ≡ suc (bank + (before c.arrays Nv n + i))
  home_address bank n i is inside = let at = rw is at (address_is c bank n i inside) in omega (arith, at)

  constant_address : (n i : ℕ) → kind_of c.arrays n ≡ Const → i < room_of c.arrays n → address_in c 0 (place n i) ≡ suc (4096 + (before c.arrays Const n + i))
  constant_address n i is inside = let at = rw is at (address_is c 0 n i inside) in omega (arith, at)

  -- the first bank has the declared words, the second none, and the constants theirs
  home_first : (at : Place) → IsHome c at → first_fram (address_in c 0 at) ≡ slice_index (first_of c.arrays at.array) at.index
  home_first at h =
      let is : kind_of c.arrays at.array ≡ Nv = home_kind c at.array (eqb-true (base_at (layout_of c 0) at.array) 14 h.nonvolatile) in
      let inside : at.index < room_of c.arrays at.array = inside_room at.array at.index h.inside in
      let near : before c.arrays Nv at.array + at.index < length (homes_of c.arrays) = home_index at.array at.index is inside in
      let address : address_in c 0 at ≡ suc (before c.arrays Nv at.array + at.index) = omega (arith, home_address 0 at.array at.index is inside) in
      ap first_fram address ∙ home_there (homes_of c.arrays) (constants_of c.arrays) (before c.arrays Nv at.array + at.index) near ∙ home_at c.arrays at.array at.index is inside

  other_blank : (at : Place) → IsHome c at → first_fram (address_in c 2048 at) ≡ 0
  other_blank at h =
      let is : kind_of c.arrays at.array ≡ Nv = home_kind c at.array (eqb-true (base_at (layout_of c 0) at.array) 14 h.nonvolatile) in
      let inside : at.index < room_of c.arrays at.array = inside_room at.array at.index h.inside in
      let near : before c.arrays Nv at.array + at.index < length (homes_of c.arrays) = home_index at.array at.index is inside in
      ap first_fram (home_address 2048 at.array at.index is inside)
      ∙ none_between (homes_of c.arrays) (constants_of c.arrays) (2048 + (before c.arrays Nv at.array + at.index)) (omega (arith, few_homes)) (omega (arith, near, few_homes))

  constant_first : (at : Place) → IsPlaceOf c 0 at → first_fram (address_in c 0 at) ≡ slice_index (first_of c.arrays at.array) at.index
  constant_first at h =
      let is : kind_of c.arrays at.array ≡ Const = constant_kind c at.array h.counts in
      let inside : at.index < room_of c.arrays at.array = inside_room at.array at.index h.inside in
      let near : before c.arrays Const at.array + at.index < length (constants_of c.arrays) = constant_index at.array at.index is inside in
      ap first_fram (constant_address at.array at.index is inside)
      ∙ constant_there (homes_of c.arrays) (constants_of c.arrays) (before c.arrays Const at.array + at.index) (omega (arith, few_homes)) near ∙ constant_at c.arrays at.array at.index is inside

  -- ---- the two areas of a state

  abbrev firsts : List (List ℕ)
  firsts = map (λ a. a.first) c.arrays

  -- the words of homes by the scheme, and those beside them
  abbrev words_in : Scheme → List (List ℕ)
  words_in scheme = joined c.arrays (first_areas scheme firsts).0 firsts

  long_area : (scheme : Scheme) → length (first_areas scheme firsts).0 ≡ length c.arrays
  long_area Undo = firsts_long c.arrays
  long_area Bank = zeros_long firsts ∙ firsts_long c.arrays

  long_beside : (scheme : Scheme) → length (first_areas scheme firsts).1 ≡ length c.arrays
  long_beside Undo = zeros_long firsts ∙ firsts_long c.arrays
  long_beside Bank = firsts_long c.arrays

  area_at : (scheme : Scheme) (n : ℕ) → IsFirst c (first_areas scheme firsts).0 n
  area_at Undo n = inl refl
  area_at Bank n = inr (zeros_at c.arrays n)

  beside_at : (scheme : Scheme) (n : ℕ) → IsFirst c (first_areas scheme firsts).1 n
  beside_at Undo n = inr (zeros_at c.arrays n)
  beside_at Bank n = inl refl

  words_at : (scheme : Scheme) (n : ℕ) → slice_index_or (words_in scheme) n [] ≡ of_home (kind_of c.arrays n) (slice_index_or (first_areas scheme firsts).0 n []) (first_of c.arrays n)
  words_at scheme n = joined_at c.arrays (first_areas scheme firsts).0 firsts n (long_area scheme) (firsts_long c.arrays)

  home_words_at : (scheme : Scheme) (n : ℕ) → kind_of c.arrays n ≡ Nv → slice_index_or (words_in scheme) n [] ≡ slice_index_or (first_areas scheme firsts).0 n []
  home_words_at scheme n is = words_at scheme n ∙ ap (λ k. of_home k (slice_index_or (first_areas scheme firsts).0 n []) (first_of c.arrays n)) is

  constant_words_at : (scheme : Scheme) (n : ℕ) → kind_of c.arrays n ≡ Const → slice_index_or (words_in scheme) n [] ≡ first_of c.arrays n
  constant_words_at scheme n is = words_at scheme n ∙ ap (λ k. of_home k (slice_index_or (first_areas scheme firsts).0 n []) (first_of c.arrays n)) is

  homes_here : (scheme : Scheme) → HasHomes c (worked scheme 0) first_fram (λ at. slice_index (slice_index_or (words_in scheme) at.array []) at.index)
  homes_here Undo at h =
      let is : kind_of c.arrays at.array ≡ Nv = home_kind c at.array (eqb-true (base_at (layout_of c 0) at.array) 14 h.nonvolatile) in
      home_first at h ∙ ap (λ (ws : List ℕ). slice_index ws at.index) (sym (home_words_at Undo at.array is))
  homes_here Bank at h =
      let is : kind_of c.arrays at.array ≡ Nv = home_kind c at.array (eqb-true (base_at (layout_of c 0) at.array) 14 h.nonvolatile) in
      other_blank at h ∙ sym (blank_at (first_of c.arrays at.array) at.index) ∙ ap (λ (ws : List ℕ). slice_index ws at.index) (sym (home_words_at Bank at.array is ∙ zeros_at c.arrays at.array))

  homes_beside : (scheme : Scheme) → HasHomes c (beside scheme 0) first_fram (λ at. slice_index (slice_index_or (first_areas scheme firsts).1 at.array []) at.index)
  homes_beside Undo at h = other_blank at h ∙ sym (blank_at (first_of c.arrays at.array) at.index) ∙ ap (λ (ws : List ℕ). slice_index ws at.index) (sym (zeros_at c.arrays at.array))
  homes_beside Bank at h = home_first at h

  homes_first : (scheme : Scheme) (n : ℕ) → kind_of c.arrays n ≡ Nv → IsFirst c (words_in scheme) n
  homes_first scheme n is = by (area_at scheme n)
    where
      by : IsFirst c (first_areas scheme firsts).0 n → IsFirst c (words_in scheme) n
      by (inl r) = inl (home_words_at scheme n is ∙ r)
      by (inr r) = inr (home_words_at scheme n is ∙ r)

  bank_first : (scheme : Scheme) → IsBank scheme 0
  bank_first Undo = refl
  bank_first Bank = inl refl

  -- ---- all of it

  first_memory : (p : Program) (world : World) (scheme : Scheme) (times : List ℕ) → ((q : ℕ) → p.values q ≡ values_in world.feeds q) → (t : CoreTask)
      → MemoryStands p (doing_of (rules_of c world) scheme t) false first_fram (λ _. 0) (first_state c scheme times)
  first_memory p world scheme times values t = record {
    cells = record {
      store = record { state = state_there (homes_of c.arrays) (constants_of c.arrays); homes = homes_here scheme; aside = homes_beside scheme };
      cells = record {
        locks = λ r few. far (6145 + r) (omega arith);
        flags = λ k site. far (6273 + k) (omega arith);
        kept = λ n few. far (7042 + n) (omega arith);
        records = λ k site held. absurd (omega (arith, held));
      };
    };
    constants = record {
      whole = whole_first c 0 (first_state c scheme times).store well (λ n counts. inl (constant_words_at scheme n (constant_kind c n counts)));
      holds = λ at h. constant_first at h ∙ ap (λ (ws : List ℕ). slice_index ws at.index) (sym (constant_words_at scheme at.array (constant_kind c at.array h.counts)));
    };
    ram = tt;
    readings = record { values = values; counts = λ q. omega arith };
    tidy = record {
      shape = record { homes = joined_long c.arrays (first_areas scheme firsts).0 firsts (long_area scheme) (firsts_long c.arrays); others = long_beside scheme };
      homes = whole_first c 14 (first_state c scheme times).store well (λ n counts. homes_first scheme n (home_kind c n counts));
      aside = whole_first c 14 (record (first_state c scheme times).store { words = (first_areas scheme firsts).1 }) well (λ n counts. beside_at scheme n);
      words = record { value = λ k. omega arith; stamp = λ k. omega arith; kept = λ n. omega arith };
      flags = λ k site. omega arith;
      started = omega arith;
      bank = bank_first scheme;
    };
  }

pub first_stands : (p : Program) (c : Core) (world : World) (scheme : Scheme) (times : List ℕ) → IsWellFormed c → ((q : ℕ) → p.values q ≡ values_in world.feeds q) → (t : CoreTask)
    → MemoryStands p (doing_of (rules_of c world) scheme t) false (slice_index (fram_of c.arrays)) (λ _. 0) (first_state c scheme times)
first_stands p c world scheme times well values t = first_memory c well p world scheme times values t

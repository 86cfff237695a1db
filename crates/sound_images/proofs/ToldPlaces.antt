-- A place's address, in the bank that is worked in, is told as the place; and so are the kept words.
use Rattle.std.specs.Prelude.{◌⊎◌, ◌==◌, ◌&&◌, cond, nat_le, nat_lt, slice_get, if◌then◌else◌, Option, Some, None}
use Rattle.std.proofs.Common.{◌≡◌, ◌∙◌, ℕ, zero, suc, ◌+◌, ◌-◌, ◌<◌, ◌≤◌, inl, inr, Bool, true, false, List, [], ◌∷◌, length, refl, sym, ap, subst, arith}
use Rattle.std.proofs.lemmas.Bool.Decides.{nat_tests}
use Rattle.devices.specs.Journal.{cell, keep}
use Rattle.power_trace.specs.Report.{place_in}
use Rattle.task_ast.specs.WellFormed.{IsWellFormed}
use Rattle.task_ast.specs.declared.core_form.Array.{Array}
use Rattle.task_ast.specs.declared.core_form.Core.{Core}
use Rattle.task_ast.specs.declared.tree.Kind.{Kind}
use Rattle.task_ast.specs.declared.tree.Kind.TheVariants.{Nv, Const, Vol}
use Rattle.walk_run.specs.declared.place.Place.{Place}
use Rattle.word_isa.specs.Entries.{other_bank, own, shift, span}
use Rattle.word_isa.specs.FirstFailing.{first_failing}
use Rattle.word_isa.specs.Entries.{symbol_passes}
use Rattle.word_isa.specs.declared.image.Image.{Image}
use Rattle.word_isa.specs.declared.parts.Scheme.{Scheme}
use Rattle.word_isa.specs.declared.parts.Scheme.TheVariants.{Undo, Bank}
use Rattle.word_isa.specs.declared.span.Span.{Span}
use Rattle.word_isa.specs.declared.parts.Symbol.{Symbol}
use Rattle.word_machine.specs.Places.{lies_in, place_from, place_of}
use Rattle.line_code.specs.declared.areas.Placed.{Placed}
use Rattle.line_code.specs.Areas.{area_at, areas_from, free_at_first}
use Rattle.line_laws.specs.Relation.{base_word, room_at}
use Rattle.layout_laws.specs.Layouts.{layout_of}
use Rattle.layout_laws.proofs.Apart.{base_is, base_of, fit_areas, kind_of, room_is, room_of, total, within}
use Rattle.run_plan.specs.PlanOf.{plan_of}
use Rattle.word_code.specs.CodeOf as code
use Rattle.word_code.specs.CodeOf.{most_kept, symbol, symbols_from}
use Rattle.word_code.specs.Frames.{stride}
use Rattle.word_code.specs.ImageOf.{IsImageOf}
use Rattle.cell_laws.specs.Standing.{address_in, worked}
use Rattle.act_refines.specs.Between.{IsBank}
use Rattle.sound_images.proofs.Told.{IsIn, index_in, keep_is, place_is}

-- the array at a number, where a word of it is
record SomeArray (arrays : List Array) (n : ℕ) : Type 0 where
  array : Array
  there : slice_get arrays n ≡ Some array
  kind : array.kind ≡ kind_of arrays n

some_array : (arrays : List Array) (n i : ℕ) → i < room_of arrays n → SomeArray arrays n
some_array [] n i inside = absurd (omega (arith, inside))
some_array (a ∷ arrays) zero i inside = record { array = a; there = refl; kind = refl }
some_array (a ∷ arrays) (suc n) i inside = let h = some_array arrays n i inside in record { array = h.array; there = h.there; kind = h.kind }

symbol_at : (areas : List Placed) (number : ℕ) (arrays : List Array) (n : ℕ) (a : Array) → slice_get arrays n ≡ Some a → slice_get (symbols_from areas number arrays) n ≡ Some (symbol a (area_at areas (number + n)))
symbol_at areas number [] n a there = absurd (cc there)
symbol_at areas number (x ∷ arrays) zero a there =
    let same : x ≡ a = cc there in
    let sum_is : number ≡ number + 0 = omega arith in
    (λ j. Some (symbol (same j) (area_at areas (sum_is j))))
symbol_at areas number (x ∷ arrays) (suc n) a there =
    let sum_is : number + 1 + n ≡ number + suc n = omega arith in
    symbol_at areas (number + 1) arrays n a there ∙ ap (λ j. Some (symbol a (area_at areas j))) sum_is

-- an address within a range, and behind it
in_range : (base n at : ℕ) → base ≤ at → at < base + n → lies_in (span base n) at ≡ true
in_range base n at from few = grind (arith, nat_tests, from, few)

past_range : (base n at : ℕ) → base + n ≤ at → lies_in (span base n) at ≡ false
past_range base n at far = grind (arith, nat_tests, far)

module _ (c : Core) (well : IsWellFormed c) where
  abbrev areas : List Placed
  areas = areas_from free_at_first c.arrays

  -- the symbol of a place and where its address lies, over a bank: the first one, or the second as far off as the symbols'
  module _ (kept : Span) (far bank : ℕ) (banks : (bank ≡ 0) ⊎ ((bank ≡ 2048) × (far ≡ 2048))) (at : Place) (inside : at.index < room_of c.arrays at.array) where
    abbrev lies : Placed
    lies = area_at areas at.array

    room : lies.room ≡ room_of c.arrays at.array
    room = room_is free_at_first c.arrays at.array

    few : kind_of c.arrays at.array ≡ Nv → room_of c.arrays at.array ≤ 2048
    few is =
        let most : total c.arrays Nv ≤ 2048 = (fit_areas c 0 well (omega arith)).nv in
        let within_it : _ ≤ total c.arrays Nv = rw is at (within c.arrays at.array) in
        omega (arith, most, within_it)

    -- where its address lies, and its index there
    record Lies (s : Symbol) : Type 0 where
      second : Bool
      is_in : IsIn kept far second s (address_in c bank at)
      index : index_in kept far second s (address_in c bank at) ≡ at.index

    base_there : (k : Kind) → kind_of c.arrays at.array ≡ k → lies.base ≡ base_of k
    base_there k is = base_is free_at_first c.arrays at.array ∙ ap base_of is

    by_kind : (a : Array) (k : Kind) → a.kind ≡ k → kind_of c.arrays at.array ≡ k → Lies (symbol a lies)
    by_kind a Nv own_kind is = by banks
      where
        base : code.base_of lies ≡ lies.offset
        base = ap (λ b. cond (b == 15) (1048576 + lies.offset) lies.offset) (base_there Nv is)

        from : base_word bank lies.base ≡ bank
        from = ap (base_word bank) (base_there Nv is)

        by : (bank ≡ 0) ⊎ ((bank ≡ 2048) × (far ≡ 2048)) → Lies (symbol a lies)
        by (inl none) = record {
          second = false;
          is_in = in_range (code.base_of lies) lies.room (address_in c bank at) (omega (arith, base, from, none)) (omega (arith, base, from, none, room, inside));
          index = omega (arith, base, from, none);
        }
        by (inr both) =
            let shifted : shift a.kind far ≡ 2048 = ap (λ k. shift k far) own_kind ∙ both.1 in
            record {
              second = true;
              is_in = (
                past_range (code.base_of lies) lies.room (address_in c bank at) (omega (arith, base, from, both.0, room, few is)),
                in_range (code.base_of lies + shift a.kind far) lies.room (address_in c bank at) (omega (arith, base, from, both.0, shifted)) (omega (arith, base, from, both.0, shifted, room, inside)),
              );
              index = omega (arith, base, from, both.0, shifted);
            }
    by_kind a Const own_kind is =
        let base : code.base_of lies ≡ lies.offset = ap (λ b. cond (b == 15) (1048576 + lies.offset) lies.offset) (base_there Const is) in
        let from : base_word bank lies.base ≡ 0 = ap (base_word bank) (base_there Const is) in
        record {
          second = false;
          is_in = in_range (code.base_of lies) lies.room (address_in c bank at) (omega (arith, base, from)) (omega (arith, base, from, room, inside));
          index = omega (arith, base, from);
        }
    by_kind a Vol own_kind is =
        let base : code.base_of lies ≡ 1048576 + lies.offset = ap (λ b. cond (b == 15) (1048576 + lies.offset) lies.offset) (base_there Vol is) in
        let from : base_word bank lies.base ≡ 1048576 = ap (base_word bank) (base_there Vol is) in
        record {
          second = false;
          is_in = in_range (code.base_of lies) lies.room (address_in c bank at) (omega (arith, base, from)) (omega (arith, base, from, room, inside));
          index = omega (arith, base, from);
        }

    place_told : first_failing (symbol_passes kept far) [] (symbols_from areas 0 c.arrays) ≡ None → place_from 0 (symbols_from areas 0 c.arrays) far kept (address_in c bank at) ≡ cell at.array at.index
    place_told none =
        let h = some_array c.arrays at.array at.index inside in
        let first : 0 + at.array ≡ at.array = omega arith in
        let there : slice_get (symbols_from areas 0 c.arrays) at.array ≡ Some (symbol h.array lies) = symbol_at areas 0 c.arrays at.array h.array h.there ∙ ap (λ j. Some (symbol h.array (area_at areas j))) first in
        let lying : Lies (symbol h.array lies) = by_kind h.array (kind_of c.arrays at.array) h.kind refl in
        place_is kept far lying.second 0 [] (symbols_from areas 0 c.arrays) at.array (symbol h.array lies) (address_in c bank at) none there lying.is_in ∙ (λ j. cell (first j) (lying.index j))

-- ---- in an image

banks_of : (scheme : Scheme) (bank : ℕ) → IsBank scheme bank → (worked scheme bank ≡ 0) ⊎ ((worked scheme bank ≡ 2048) × (stride scheme ≡ 2048))
banks_of Undo bank is = inl refl
banks_of Bank bank (inl is) = inr (ap (worked Bank) is, refl)
banks_of Bank bank (inr is) = inl (ap (worked Bank) is)

pub told_place : (c : Core) (scheme : Scheme) (i : Image) → IsWellFormed c → IsImageOf (plan_of c scheme) c i → (bank : ℕ) → IsBank scheme bank → (at : Place) → at.index < room_at (layout_of c 0) at.array
    → place_in i (address_in c (worked scheme bank) at) ≡ cell at.array at.index
told_place c scheme i well image bank is at inside =
    let room : at.index < room_of c.arrays at.array = omega (arith, inside, room_is free_at_first c.arrays at.array) in
    let passes : first_failing (symbol_passes (span i.keep i.keep_words) (stride scheme)) [] (symbols_from (areas_from free_at_first c.arrays) 0 c.arrays) ≡ None =
    sym (λ j. first_failing (symbol_passes (span i.keep i.keep_words) (image.stride j)) [] (image.symbols j)) ∙ i.tested.symbols_pass in
    (λ j. place_of (image.symbols j) (image.stride j) i.keep i.keep_words (address_in c (worked scheme bank) at))
    ∙ place_told c well (span i.keep i.keep_words) (stride scheme) (worked scheme bank) (banks_of scheme bank is) at room passes

pub told_kept : (c : Core) (scheme : Scheme) (i : Image) → IsImageOf (plan_of c scheme) c i → (n : ℕ) → n < most_kept c.tasks → place_in i (7042 + n) ≡ keep
told_kept c scheme i image n few =
    let from : i.keep ≡ 7042 = image.keep in
    let many : i.keep_words ≡ most_kept c.tasks = image.keep_words in
    keep_is (span i.keep i.keep_words) i.stride 0 [] i.symbols (7042 + n) i.tested.symbols_pass (in_range i.keep i.keep_words (7042 + n) (omega (arith, from)) (omega (arith, from, many, few)))

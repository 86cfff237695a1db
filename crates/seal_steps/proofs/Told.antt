-- The places that an image tells are of the memory in which their addresses lie.
use Rattle.std.specs.Prelude.{◌≢◌, ◌⊎◌, ◌-◌, ◌==◌, ◌&&◌, cond, nat_le, nat_lt, slice_get, Some}
use Rattle.std.proofs.Common.{◌≡◌, ◌∙◌, ℕ, zero, suc, ◌+◌, ◌<◌, ◌≤◌, inl, inr, Bool, true, false, List, [], ◌∷◌, refl, sym, ap, subst, arith, if◌then◌else◌}
use Rattle.std.proofs.lemmas.Bool.Decides.{nat_tests}
use Rattle.devices.specs.Journal.{address, cell, keep}
use Rattle.region_split.specs.Class.{memory_of}
use Rattle.region_split.specs.declared.class.Memory.TheVariants as memory
use Rattle.task_ast.specs.WellFormed.{IsWellFormed}
use Rattle.task_ast.specs.declared.core_form.Array.{Array}
use Rattle.task_ast.specs.declared.core_form.Core.{Core}
use Rattle.task_ast.specs.declared.tree.Kind.{Kind}
use Rattle.task_ast.specs.declared.tree.Kind.TheVariants.{Nv, Const, Vol}
use Rattle.task_attempts.specs.Copies.{memory_or_ram}
use Rattle.word_isa.specs.Entries.{other_bank, own, shift, span}
use Rattle.word_isa.specs.declared.image.Image.{Image}
use Rattle.word_isa.specs.declared.parts.Scheme.{Scheme}
use Rattle.word_isa.specs.declared.parts.Scheme.TheVariants.{Undo, Bank}
use Rattle.word_isa.specs.declared.parts.Symbol.{Symbol}
use Rattle.word_isa.specs.declared.span.Span.{Span}
use Rattle.word_machine.specs.Places.{lies_in, place_from, place_of}
use Rattle.line_code.specs.declared.areas.Placed.{Placed}
use Rattle.line_code.specs.Areas.{area_at, areas_from, free_at_first}
use Rattle.layout_laws.proofs.Apart.{FitAreas, base_is, base_of, before, fit_areas, kind_of, offset_is, room_is, room_of, start, total, within}
use Rattle.run_plan.specs.PlanOf.{plan_of}
use Rattle.word_code.specs.CodeOf as code
use Rattle.word_code.specs.CodeOf.{most_kept, symbol, symbols_from}
use Rattle.word_code.specs.Frames.{stride}
use Rattle.word_code.specs.ImageOf.{IsImageOf}
use Rattle.word_code.proofs.WithinLaws.{kept_few}
use Rattle.seal_steps.specs.Places.{TellsMemory}

-- a number in a range
in_range : (base n at : ℕ) → lies_in (span base n) at ≡ true → (base ≤ at) × (at < base + n)
in_range base n at is = by (nat_le base at) (nat_lt at (base + n)) refl refl is
  where
    by : (a b : Bool) → nat_le base at ≡ a → nat_lt at (base + n) ≡ b → (a && b) ≡ true → (base ≤ at) × (at < base + n)
    by true true from till both = (grind (arith, nat_tests), grind (arith, nat_tests))
    by true false from till both = absurd (cc both)
    by false b from till both = absurd (cc both)

-- ---- the array of which an address is told

module _ (areas : List Placed) (far : ℕ) (kept : Span) (at : ℕ) where
  record IsOf (number a : ℕ) (arrays : List Array) : Type 0 where
    place : ℕ
    array : Array
    there : slice_get arrays place ≡ Some array
    is : a ≡ number + place
    lies : (lies_in (own (symbol array (area_at areas a))) at ≡ true) ⊎ (lies_in (other_bank far (symbol array (area_at areas a))) at ≡ true)

  bare_is : (b : Bool) (a i : ℕ) → (if b then keep else address at) ≡ cell a i → ⊥
  bare_is true a i is = cc is
  bare_is false a i is = cc is

  told_of : (number : ℕ) (arrays : List Array) (a i : ℕ) → place_from number (symbols_from areas number arrays) far kept at ≡ cell a i → IsOf number a arrays
  told_of number [] a i is = absurd (bare_is (lies_in kept at) a i is)
  told_of number (x ∷ arrays) a i is = by (lies_in (own s) at) refl (lies_in (other_bank far s) at) refl is (λ later. told_of (number + 1) arrays a i later)
    where
      s : Symbol
      s = symbol x (area_at areas number)

      by : (b : Bool) → lies_in (own s) at ≡ b → (d : Bool) → lies_in (other_bank far s) at ≡ d
          → (if b then cell number (at - s.base) else if d then cell number (at - (other_bank far s).from) else place_from (suc number) (symbols_from areas (number + 1) arrays) far kept at) ≡ cell a i
          → (place_from (number + 1) (symbols_from areas (number + 1) arrays) far kept at ≡ cell a i → IsOf (number + 1) a arrays) → IsOf number a (x ∷ arrays)
      by true own_is d other_is is later =
          let same : number ≡ a = cc is in
          record { place = 0; array = x; there = refl; is = omega (arith, same); lies = inl (subst (λ q. lies_in (own (symbol x (area_at areas q))) at ≡ true) same own_is) }
      by false own_is true other_is is later =
          let same : number ≡ a = cc is in
          record { place = 0; array = x; there = refl; is = omega (arith, same); lies = inr (subst (λ q. lies_in (other_bank far (symbol x (area_at areas q))) at ≡ true) same other_is) }
      by false own_is false other_is is later =
          let next : number + 1 ≡ suc number = omega arith in
          let h : IsOf (number + 1) a arrays = later (ap (λ q. place_from q (symbols_from areas (number + 1) arrays) far kept at) next ∙ is) in
          record { place = suc h.place; array = h.array; there = h.there; is = omega (arith, h.is); lies = h.lies }

  -- the kept words
  kept_is : (number : ℕ) (symbols : List Symbol) → place_from number symbols far kept at ≡ keep → lies_in kept at ≡ true
  kept_is number [] is = by (lies_in kept at) refl is
    where
      by : (b : Bool) → lies_in kept at ≡ b → (if b then keep else address at) ≡ keep → lies_in kept at ≡ true
      by true here is = here
      by false here is = absurd (cc is)
  kept_is number (s ∷ symbols) is = by (lies_in (own s) at) (lies_in (other_bank far s) at) is (λ later. kept_is (suc number) symbols later)
    where
      by : (b d : Bool) → (if b then cell number (at - s.base) else if d then cell number (at - (other_bank far s).from) else place_from (suc number) symbols far kept at) ≡ keep
          → (place_from (suc number) symbols far kept at ≡ keep → lies_in kept at ≡ true) → lies_in kept at ≡ true
      by true d is later = absurd (cc is)
      by false true is later = absurd (cc is)
      by false false is later = later is

-- ---- where arrays lie

kind_there : (arrays : List Array) (n : ℕ) (x : Array) → slice_get arrays n ≡ Some x → kind_of arrays n ≡ x.kind
kind_there [] n x there = absurd (cc there)
kind_there (y ∷ arrays) zero x there = let same : y ≡ x = cc there in ap (λ z. z.kind) same
kind_there (y ∷ arrays) (suc n) x there = kind_there arrays n x there

module _ (c : Core) (well : IsWellFormed c) (far : ℕ) (close : far ≤ 2048) where
  abbrev areas_in : List Placed
  areas_in = areas_from free_at_first c.arrays

  fit : FitAreas c.arrays 0
  fit = fit_areas c 0 well (omega arith)

  -- by an array's kind
  abbrev InKind : Kind → (at : ℕ) → Type 0
  InKind Nv at = at < 4097
  InKind Const at = at < 7042
  InKind Vol at = 1048576 ≤ at

  -- between an array's base and the end of its second range
  record IsNear (base room more at : ℕ) : Type 0 where
    from : base ≤ at
    till : at < base + more + room
    some : 0 < room

  near_of : (x : Array) (lying : Placed) (at : ℕ) → (lies_in (own (symbol x lying)) at ≡ true) ⊎ (lies_in (other_bank far (symbol x lying)) at ≡ true) → IsNear (code.base_of lying) lying.room (shift x.kind far) at
  near_of x lying at (inl here) = let h = in_range (code.base_of lying) lying.room at here in record { from = h.0; till = omega (arith, h.1); some = omega (arith, h.0, h.1) }
  near_of x lying at (inr here) = let h = in_range (code.base_of lying + shift x.kind far) lying.room at here in record { from = omega (arith, h.0); till = omega (arith, h.1); some = omega (arith, h.0, h.1) }

  in_kind : (n at : ℕ) (x : Array) (k : Kind) → x.kind ≡ k → kind_of c.arrays n ≡ k → IsNear (code.base_of (area_at areas_in n)) (area_at areas_in n).room (shift x.kind far) at → InKind k at
  in_kind n at x k own_kind is near = by k own_kind is
    where
      lying : Placed
      lying = area_at areas_in n

      room : lying.room ≡ room_of c.arrays n
      room = room_is free_at_first c.arrays n

      based : (k : Kind) → kind_of c.arrays n ≡ k → code.base_of lying ≡ cond (base_of k == 15) (1048576 + lying.offset) lying.offset
      based k is = ap (λ b. cond (b == 15) (1048576 + lying.offset) lying.offset) (base_is free_at_first c.arrays n ∙ ap base_of is)

      starts : (k : Kind) → kind_of c.arrays n ≡ k → lying.offset ≡ start free_at_first k + before c.arrays k n
      starts k is = subst (λ j. lying.offset ≡ start free_at_first j + before c.arrays j n) is (offset_is free_at_first c.arrays n (omega (arith, near.some, room)))

      most : (k : Kind) → kind_of c.arrays n ≡ k → before c.arrays k n + room_of c.arrays n ≤ total c.arrays k
      most k is = subst (λ j. before c.arrays j n + room_of c.arrays n ≤ total c.arrays j) is (within c.arrays n)

      by : (k : Kind) → x.kind ≡ k → kind_of c.arrays n ≡ k → InKind k at
      by Nv own_kind is =
          let shifted : shift x.kind far ≡ far = ap (λ k. shift k far) own_kind in
          let base : code.base_of lying ≡ lying.offset = based Nv is in
          let offset : lying.offset ≡ 1 + before c.arrays Nv n = starts Nv is in
          omega (arith, near.till, shifted, base, offset, most Nv is, room, fit.nv, close)
      by Const own_kind is =
          let shifted : shift x.kind far ≡ 0 = ap (λ k. shift k far) own_kind in
          let base : code.base_of lying ≡ lying.offset = based Const is in
          let offset : lying.offset ≡ 4097 + before c.arrays Const n = starts Const is in
          omega (arith, near.till, shifted, base, offset, most Const is, room, fit.const)
      by Vol own_kind is =
          let base : code.base_of lying ≡ 1048576 + lying.offset = based Vol is in
          omega (arith, near.from, base)

  -- an address that is told as a place of an array, by the array's kind
  record IsIn (a at : ℕ) : Type 0 where
    kind : Kind
    memory : memory_or_ram (slice_get c.arrays a) ≡ memory_of kind
    here : InKind kind at

  told_in : (kept : Span) (a i at : ℕ) → place_from 0 (symbols_from areas_in 0 c.arrays) far kept at ≡ cell a i → IsIn a at
  told_in kept a i at is =
      let h = told_of areas_in far kept at 0 c.arrays a i is in
      let same : a ≡ h.place = omega (arith, h.is) in
      let there : slice_get c.arrays a ≡ Some h.array = ap (slice_get c.arrays) same ∙ h.there in
      record { kind = h.array.kind; memory = ap memory_or_ram there; here = in_kind a at h.array h.array.kind refl (kind_there c.arrays a h.array there) (near_of h.array (area_at areas_in a) at h.lies) }

  into_ram : (k : Kind) (at : ℕ) → InKind k at → 1048576 ≤ at → memory_of k ≡ memory.Ram
  into_ram Nv at here high = absurd (omega (arith, here, high))
  into_ram Const at here high = absurd (omega (arith, here, high))
  into_ram Vol at here high = refl

  no_home : (k : Kind) (at : ℕ) → InKind k at → 4097 ≤ at → memory_of k ≢ memory.Fram
  no_home Nv at here high is = omega (arith, here, high)
  no_home Const at here high is = cc is
  no_home Vol at here high is = cc is

  past_kept : (k : Kind) (at : ℕ) → InKind k at → 7042 ≤ at → 1048576 ≤ at
  past_kept Nv at here high = absurd (omega (arith, here, high))
  past_kept Const at here high = absurd (omega (arith, here, high))
  past_kept Vol at here high = here

-- ---- in an image

stride_few : (scheme : Scheme) → stride scheme ≤ 2048
stride_few Undo = omega arith
stride_few Bank = omega arith

pub image_tells : (c : Core) (scheme : Scheme) (i : Image) → IsWellFormed c → IsImageOf (plan_of c scheme) c i → TellsMemory c (place_of i.symbols i.stride i.keep i.keep_words)
image_tells c scheme i well image =
    let symbols : i.symbols ≡ symbols_from (areas_from free_at_first c.arrays) 0 c.arrays = image.symbols in
    let far : i.stride ≡ stride scheme = image.stride in
    let near : stride scheme ≤ 2048 = stride_few scheme in
    let kept : Span = span i.keep i.keep_words in
    let moved : (at : ℕ) → place_from 0 (symbols_from (areas_from free_at_first c.arrays) 0 c.arrays) (stride scheme) kept at ≡ place_from 0 i.symbols i.stride kept at = λ at. sym (λ j. place_from 0 (symbols j) (far j) kept at) in
    record {
      ram = λ x a n is high. let h = told_in c well (stride scheme) near kept a n x (moved x ∙ is) in h.memory ∙ into_ram c well (stride scheme) near h.kind x h.here high;
      homes = λ x a n is high fram. let h = told_in c well (stride scheme) near kept a n x (moved x ∙ is) in no_home c well (stride scheme) near h.kind x h.here high (sym h.memory ∙ fram);
      above = λ x a n is high. let h = told_in c well (stride scheme) near kept a n x (moved x ∙ is) in past_kept c well (stride scheme) near h.kind x h.here high;
      kept = λ x is.
          let here : lies_in kept x ≡ true = kept_is [] i.stride kept x 0 i.symbols is in
          let range = in_range i.keep i.keep_words x here in
          let from : i.keep ≡ 7042 = image.keep in
          let many : i.keep_words ≡ most_kept c.tasks = image.keep_words in
          omega (arith, range.1, from, many, kept_few c c.tasks well.tasks);
    }

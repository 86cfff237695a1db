-- What a copy was valued at is noted: its ends with their rooms, its length and its class.
use Rattle.std.specs.Prelude.{nat_lt, slice_get, Some}
use Rattle.std.proofs.Common.{◌≡◌, ◌≢◌, ◌∙◌, ℕ, zero, suc, ◌+◌, ◌-◌, ◌^◌, ◌<◌, ◌≤◌, Bool, true, false, List, [], ◌∷◌, length, refl, sym, ap, subst, arith}
use Rattle.std.proofs.lemmas.Bool.Decides.{nat_tests}
use Rattle.fram_ram.specs.Memories.{put}
use Rattle.task_ast.specs.declared.tree.Kind.{Kind}
use Rattle.task_ast.specs.declared.tree.Kind.TheVariants.{Nv, Const, Vol}
use Rattle.task_ast.specs.declared.core_form.Array.{Array}
use Rattle.task_ast.specs.declared.core_form.Core.{Core}
use Rattle.task_ast.specs.declared.core_form.CoreTask.{CoreTask}
use Rattle.task_ast.specs.WellFormed.{IsWellFormed}
use Rattle.task_attempts.specs.Copies.{memory_at, memory_or_ram}
use Rattle.region_split.specs.declared.class.Memory.{Memory}
use Rattle.region_split.specs.declared.class.Memory.TheVariants.{Fram, ConstFram, Ram}
use Rattle.region_split.specs.Class.{class_of, memory_of}
use Rattle.walk_run.specs.declared.place.Place.{Place}
use Rattle.walk_run.specs.Store.{Store}
use Rattle.word_isa.specs.declared.parts.Scheme.{Scheme}
use Rattle.word_machine.specs.State.{Program}
use Rattle.line_code.specs.declared.areas.Free.{Free}
use Rattle.line_code.specs.declared.areas.Placed.{Placed}
use Rattle.line_code.specs.Areas.{area_at, area_of, areas_from, free_at_first, free_of}
use Rattle.run_plan.specs.Cells.{CopyValued, Frame, State}
use Rattle.run_plan.specs.Small.{Doing, core_of}
use Rattle.line_laws.specs.Relation.{room_at}
use Rattle.word_code.specs.Beginnings.{AreLow}
use Rattle.word_code.specs.Frames.{begun_at, outer_at}
use Rattle.act_laws.specs.Values.{with_copy}
use Rattle.act_laws.specs.Words as words
use Rattle.layout_laws.specs.Layouts.{IsInArea, LieInAreas, layout_of}
use Rattle.cell_laws.specs.Standing.{Stands, address_in, class_word, worked}
use Rattle.cell_laws.proofs.Puts.{miss}
use Rattle.cell_laws.proofs.Writes.{worked_low}
use Rattle.ram_laws.specs.Ram.{HasConstants, HasFrame, HasRam, HasValued}
use Rattle.ram_laws.proofs.Stays.{args_stay, arrays_stay, pointers_stay, target_stays, volatile_in, word_stays}
use Rattle.act_refines.specs.Between.{MemoryStands, with_rest}
use Rattle.act_refines.specs.Copied.{CopyFits, HasSpace}
use Rattle.act_refines.proofs.Keeping.{memory_noted}
use Rattle.act_refines.proofs.Places.{areas_low}

-- ---- tests of numbers

pub is_under : (a b : ℕ) → a < b → nat_lt a b ≡ true
is_under a b h = grind (arith, nat_tests, h)

pub is_over : (a b : ℕ) → b ≤ a → nat_lt a b ≡ false
is_over a b h = grind (arith, nat_tests, h)

-- ---- the class by addresses

abbrev register_of : Memory → ℕ
register_of Fram = 14
register_of ConstFram = 0
register_of Ram = 15

register_is : (f : Free) (kind : Kind) (n : ℕ) → (area_of f kind n).base ≡ register_of (memory_of kind)
register_is f Nv n = refl
register_is f Const n = refl
register_is f Vol n = refl

-- an array that has a place counts from the register of its memory
counts_from : (f : Free) (arrays : List Array) (a i : ℕ) → i < (area_at (areas_from f arrays) a).room → (area_at (areas_from f arrays) a).base ≡ register_of (memory_or_ram (slice_get arrays a))
counts_from f [] zero i low = absurd (omega (arith, low))
counts_from f [] (suc a) i low = absurd (omega (arith, low))
counts_from f (x ∷ arrays) zero i low = register_is f x.kind (length x.first)
counts_from f (x ∷ arrays) (suc a) i low = counts_from (free_of f x.kind (length x.first)) arrays a i low

abbrev in_fram : Memory → Bool
in_fram Fram = true
in_fram ConstFram = true
in_fram Ram = false

abbrev in_homes : Memory → Bool
in_homes Fram = true
in_homes ConstFram = false
in_homes Ram = false

fram_tells : (bank : ℕ) (mem : Memory) (a : ℕ) → bank ≤ 2048 → IsInArea bank (register_of mem) a → nat_lt a 1048576 ≡ in_fram mem
fram_tells bank Fram a few h = is_under a 1048576 (omega (arith, few, h.below))
fram_tells bank ConstFram a few h = is_under a 1048576 (omega (arith, h.below))
fram_tells bank Ram a few h = is_over a 1048576 (omega (arith, h.from))

homes_tell : (bank : ℕ) (mem : Memory) (a : ℕ) → bank ≤ 2048 → IsInArea bank (register_of mem) a → nat_lt a 4097 ≡ in_homes mem
homes_tell bank Fram a few h = is_under a 4097 (omega (arith, few, h.below))
homes_tell bank ConstFram a few h = is_over a 4097 (omega (arith, h.from))
homes_tell bank Ram a few h = is_over a 4097 (omega (arith, h.from))

class_told : (from to : Memory) → words.class_of (in_fram to) (in_homes from) ≡ class_word (class_of from to)
class_told Fram Fram = refl
class_told ConstFram Fram = refl
class_told Ram Fram = refl
class_told Fram ConstFram = refl
class_told ConstFram ConstFram = refl
class_told Ram ConstFram = refl
class_told Fram Ram = refl
class_told ConstFram Ram = refl
class_told Ram Ram = refl

abbrev pub AreasLie : Type 0
AreasLie = (c : Core) (bank : ℕ) → IsWellFormed c → bank ≤ 2048 → LieInAreas (layout_of c bank)

module _ (areas : AreasLie) (d : Doing) (well : IsWellFormed (core_of d)) (bank : ℕ) (few : bank ≤ 2048) where
  lies : (at : Place) (n : ℕ) → HasSpace (core_of d) at n → IsInArea bank (register_of (memory_at d.setting at)) (address_in (core_of d) bank at)
  lies at n here =
      subst (λ r. IsInArea bank r (address_in (core_of d) bank at)) (counts_from free_at_first (core_of d).arrays at.array at.index here.there) (areas (core_of d) bank well few at.array at.index here.there)

  class_is : (v : CopyValued) → CopyFits d v → words.class_of (nat_lt (address_in (core_of d) bank v.to) 1048576) (nat_lt (address_in (core_of d) bank v.from) 4097) ≡ class_word v.class
  class_is v fit =
      let one = fram_tells bank (memory_at d.setting v.to) (address_in (core_of d) bank v.to) few (lies v.to v.length fit.to) in
      let two = homes_tell bank (memory_at d.setting v.from) (address_in (core_of d) bank v.from) few (lies v.from v.length fit.from) in
      (λ i. words.class_of (one i) (two i)) ∙ class_told (memory_at d.setting v.from) (memory_at d.setting v.to) ∙ ap class_word (sym fit.class)

-- ---- rooms are small

room_low : (areas : List Placed) → AreLow areas → (a : ℕ) → (area_at areas a).room ≤ 9026
room_low [] low zero = omega arith
room_low [] low (suc a) = omega arith
room_low (x ∷ areas) low zero = let here : x.offset + x.room ≤ 9026 = low.0 in omega (arith, here)
room_low (x ∷ areas) low (suc a) = room_low areas low.1 a

-- ---- the copy in its cells

module _ (c : Core) (bank : ℕ) (v : CopyValued) (m : ℕ → ℕ) where
  abbrev copied : ℕ → ℕ
  copied = with_copy (layout_of c bank) v.to v.from v.length m

  abbrev one : ℕ → ℕ
  one = put m 1048616 (address_in c bank v.to)

  abbrev two : ℕ → ℕ
  two = put one 1048617 (room_at (layout_of c bank) v.to.array - v.to.index)

  abbrev three : ℕ → ℕ
  three = put two 1048618 (address_in c bank v.from)

  abbrev four : ℕ → ℕ
  four = put three 1048619 (room_at (layout_of c bank) v.from.array - v.from.index)

  abbrev five : ℕ → ℕ
  five = put four 1048620 v.length

  abbrev six : ℕ
  six = words.class_of (nat_lt (address_in c bank v.to) 1048576) (nat_lt (address_in c bank v.from) 4097)

  -- words apart from its cells
  off : (a : ℕ) → 1048616 ≢ a → 1048617 ≢ a → 1048618 ≢ a → 1048619 ≢ a → 1048620 ≢ a → 1048621 ≢ a → copied a ≡ m a
  off a p q r s t u =
      miss five 1048621 six a u ∙ miss four 1048620 v.length a t ∙ miss three 1048619 (room_at (layout_of c bank) v.from.array - v.from.index) a s ∙ miss two 1048618 (address_in c bank v.from) a r
      ∙ miss one 1048617 (room_at (layout_of c bank) v.to.array - v.to.index) a q ∙ miss m 1048616 (address_in c bank v.to) a p

  early : (a : ℕ) → a < 1048616 → copied a ≡ m a
  early a low =
      off a (λ e. absurd (omega (arith, low, e))) (λ e. absurd (omega (arith, low, e))) (λ e. absurd (omega (arith, low, e))) (λ e. absurd (omega (arith, low, e))) (λ e. absurd (omega (arith, low, e))) (λ e. absurd (omega (arith, low, e)))

  late : (a : ℕ) → 1048622 ≤ a → copied a ≡ m a
  late a far =
      off a (λ e. absurd (omega (arith, far, e))) (λ e. absurd (omega (arith, far, e))) (λ e. absurd (omega (arith, far, e))) (λ e. absurd (omega (arith, far, e))) (λ e. absurd (omega (arith, far, e))) (λ e. absurd (omega (arith, far, e)))

  valued_there : v.to.index + v.length ≤ room_at (layout_of c bank) v.to.array → v.from.index + v.length ≤ room_at (layout_of c bank) v.from.array → v.length < 2 ^ 32 → six ≡ class_word v.class → HasValued c bank copied v
  valued_there to from small class = record {
    to = record { address = refl; room = refl; inside = to };
    from = record { address = refl; room = refl; inside = from };
    length = record { holds = refl; fits = small };
    class = class;
  }

  frame_copied : (f : Frame) → HasValued c bank copied v → HasFrame c bank m f → HasFrame c bank copied (record f { copy = Some v })
  frame_copied f valued h = record {
    mode = λ o is. early 1048615 (omega arith) ∙ h.mode o is;
    target = λ at is. target_stays c bank m copied at (early 1048608 (omega arith)) (h.target at is);
    args = λ ws is. args_stay m copied ws (λ a from below. early a (omega (arith, below))) (h.args ws is);
    time = λ t is. word_stays m copied 1048613 t (early 1048613 (omega arith)) (h.time t is);
    word = λ w is. word_stays m copied 1048614 w (early 1048614 (omega arith)) (h.word w is);
    copy = λ x is. let same : v ≡ x = cc is in subst (λ y. HasValued c bank copied y) same valued;
    outer = λ k here o is. late (1048576 + outer_at k) (omega (arith, here.from)) ∙ h.outer k here o is;
    begun = λ k here t is. word_stays m copied (1048576 + begun_at k) t (late (1048576 + begun_at k) (omega (arith, here.from))) (h.begun k here t is);
  }

  ram_copied : AreasLie → (store : Store) (f : Frame) → IsWellFormed c → HasValued c bank copied v → HasRam c bank m store f → HasRam c bank copied store (record f { copy = Some v })
  ram_copied areas store f well valued h = record {
    volatile = arrays_stay c 15 m copied store store (λ array is. refl) (λ at here. refl) (λ at here. let lies = volatile_in areas c at well here in late (address_in c 0 at) (omega (arith, lies.from))) h.volatile;
    pointers = pointers_stay c bank m copied store store refl (λ a from below. late a (omega (arith, from))) h.pointers;
    frame = frame_copied f valued h.frame;
  }

-- ---- memory

abbrev CellsStay : Type 0
CellsStay = (c : Core) (scheme : Scheme) (t : CoreTask) (m n : ℕ → ℕ) (s : State) → IsWellFormed c → Stands c scheme t m s → ((a : ℕ) → a < 65536 → n a ≡ m a) → Stands c scheme t n s

abbrev SameConstants : Type 0
SameConstants = (c : Core) (m n : ℕ → ℕ) (store : Store) → IsWellFormed c → HasConstants c m store → ((a : ℕ) → a < 65536 → n a ≡ m a) → HasConstants c n store

pub copy_keeps : CellsStay → SameConstants → AreasLie → (p : Program) (d : Doing) (m counts : ℕ → ℕ) (s : State) (v : CopyValued) → IsWellFormed (core_of d) → MemoryStands p d true m counts s → CopyFits d v
    → MemoryStands p d true (with_copy (layout_of (core_of d) (worked d.scheme s.bank)) v.to v.from v.length m) counts (with_rest (record s.frame { copy = Some v }) s.looks s.issued s)
copy_keeps cells constants areas p d m counts s v well h fit =
    let c : Core = core_of d in
    let bank : ℕ = worked d.scheme s.bank in
    let n : ℕ → ℕ = with_copy (layout_of c bank) v.to v.from v.length m in
    let low : room_at (layout_of c 0) v.to.array ≤ 9026 = room_low (areas_from free_at_first c.arrays) (areas_low c well) v.to.array in
    let small : v.length < 2 ^ 32 = omega (arith, low, fit.to.inside) in
    let valued : HasValued c bank n v = valued_there c bank v m fit.to.inside fit.from.inside small (class_is areas d well bank (worked_low d.scheme s.bank) v fit) in
    memory_noted cells constants p d true m n counts counts s (record s.frame { copy = Some v }) s.looks s.issued well h (λ a below. early c bank v m a (omega (arith, below))) (ram_copied c bank v m areas s.store s.frame well valued h.ram) h.readings

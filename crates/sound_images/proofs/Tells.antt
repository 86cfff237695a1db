-- The image of a plan tells the program's names, and has room for its second bank.
use Rattle.std.specs.List.{AllByRecursion}
use Rattle.std.proofs.Common.{◌≡◌, ◌∙◌, ℕ, zero, suc, ◌+◌, ◌≤◌, List, [], ◌∷◌, length, refl, sym, ap, subst, arith}
use Rattle.task_ast.specs.WellFormed.{IsWellFormed}
use Rattle.task_ast.specs.declared.core_form.Array.{Array}
use Rattle.task_ast.specs.declared.core_form.Core.{Core}
use Rattle.task_ast.specs.declared.tree.Kind.{Kind}
use Rattle.task_ast.specs.declared.tree.Kind.TheVariants.{Nv, Const, Vol}
use Rattle.word_isa.specs.declared.image.Image.{Image}
use Rattle.word_isa.specs.declared.parts.Scheme.{Scheme}
use Rattle.word_isa.specs.declared.parts.Scheme.TheVariants.{Bank}
use Rattle.word_isa.specs.declared.parts.Symbol.{Symbol}
use Rattle.line_code.specs.declared.areas.Placed.{Placed}
use Rattle.line_code.specs.Areas.{area_at, areas_from, free_at_first}
use Rattle.layout_laws.proofs.Apart.{fit_areas, kind_of, room_is, room_of, total, within}
use Rattle.run_plan.specs.PlanOf.{plan_of}
use Rattle.word_code.specs.CodeOf.{symbols_from}
use Rattle.word_code.specs.Frames.{stride}
use Rattle.word_code.specs.ImageOf.{IsImageOf}
use Rattle.sound_images.specs.Sound.{IsBelow, TellArrays, TellsProgram}

module _ (areas : List Placed) where
  tells_from : (number : ℕ) (arrays : List Array) → ((j : ℕ) → (area_at areas (number + j)).room ≡ room_of arrays j) → TellArrays arrays (symbols_from areas number arrays)
  tells_from number [] rooms = tt
  tells_from number (a ∷ arrays) rooms = (
    record { name = refl; kind = refl; length = let none : number ≡ number + 0 = omega arith in ap (λ n. (area_at areas n).room) none ∙ rooms 0 },
    tells_from (number + 1) arrays (λ j. let next : number + 1 + j ≡ number + suc j = omega arith in ap (λ n. (area_at areas n).room) next ∙ rooms (suc j)),
  )

  one_below : (far : ℕ) (k : Kind) (n : ℕ) → (k ≡ Nv → n ≤ far) → IsBelow far k n
  one_below far Nv n h = h refl
  one_below far Const n h = tt
  one_below far Vol n h = tt

  all_below : (far number : ℕ) (arrays : List Array) → ((j : ℕ) → kind_of arrays j ≡ Nv → (area_at areas (number + j)).room ≤ far) → AllByRecursion (λ (s : Symbol). IsBelow far s.kind s.length) (symbols_from areas number arrays)
  all_below far number [] few = tt
  all_below far number (a ∷ arrays) few = (
    one_below far a.kind (area_at areas number).room (λ is. let none : number + 0 ≡ number = omega arith in subst (λ n. (area_at areas n).room ≤ far) none (few 0 is)),
    all_below far (number + 1) arrays (λ j is. let next : number + suc j ≡ number + 1 + j = omega arith in subst (λ n. (area_at areas n).room ≤ far) next (few (suc j) is)),
  )

room_at_place : (arrays : List Array) (j : ℕ) → (area_at (areas_from free_at_first arrays) (0 + j)).room ≡ room_of arrays j
room_at_place arrays j = let none : 0 + j ≡ j = omega arith in ap (λ n. (area_at (areas_from free_at_first arrays) n).room) none ∙ room_is free_at_first arrays j

nonvolatile_few : (c : Core) → IsWellFormed c → (j : ℕ) → kind_of c.arrays j ≡ Nv → (area_at (areas_from free_at_first c.arrays) (0 + j)).room ≤ 2048
nonvolatile_few c well j is =
    let most : total c.arrays Nv ≤ 2048 = (fit_areas c 0 well (omega arith)).nv in
    let inside : _ ≤ total c.arrays Nv = rw is at (within c.arrays j) in
    omega (arith, room_at_place c.arrays j, most, inside)

pub tells_program : (c : Core) (scheme : Scheme) (i : Image) → IsWellFormed c → IsImageOf (plan_of c scheme) c i → TellsProgram c scheme i
tells_program c scheme i well h = record {
  version = h.version;
  under = h.scheme;
  symbols = subst (TellArrays c.arrays) (sym h.symbols) (tells_from (areas_from free_at_first c.arrays) 0 c.arrays (room_at_place c.arrays));
  peripherals = h.peripherals;
  stride = λ bank.
      let far : i.stride ≡ 2048 = h.stride ∙ ap stride bank in
      subst (λ n. AllByRecursion (λ (s : Symbol). IsBelow n s.kind s.length) i.symbols) (sym far)
      (subst (λ (symbols : List Symbol). AllByRecursion (λ (s : Symbol). IsBelow 2048 s.kind s.length) symbols) (sym h.symbols)
      (all_below (areas_from free_at_first c.arrays) 2048 0 c.arrays (nonvolatile_few c well)));
}

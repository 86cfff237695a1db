-- The code of a place: of an array, through a pointer, and of a target.
use Rattle.std.proofs.Common.{◌≡◌, ℕ, ◌+◌, ◌<◌, List, ◌++◌, Ok, refl, arith}
use Rattle.task_ast.specs.declared.core_form.CoreExpr.{CoreExpr}
use Rattle.task_ast.specs.declared.core_form.CoreTarget.{CoreTarget}
use Rattle.task_ast.specs.declared.core_form.CoreTarget.TheVariants as target
use Rattle.task_ast.specs.WellFormed.{Scope, IsOver}
use Rattle.walk_run.specs.PlainSteps.{expr_steps, target_steps}
use Rattle.walk_run.specs.Store.{Store, place, pointed}
use Rattle.walk_run.specs.Value.{value_of, cell_place, through_place, target_place}
use Rattle.word_machine.specs.State.{Program}
use Rattle.word_machine.specs.Straight.{Spot}
use Rattle.line_code.specs.declared.line.Line.{Line}
use Rattle.line_code.specs.Areas.{area_at, pointer_at}
use Rattle.line_code.specs.Sizes.{expr_size, target_size}
use Rattle.line_code.specs.Expressions.{expr_code, place_code, pointer_code, target_code}
use Rattle.line_code.specs.Fitting.{IsShort}
use Rattle.line_laws.specs.Gives.{Gives}
use Rattle.line_laws.specs.Goals.{place_goal}
use Rattle.line_laws.specs.Relation.{Layout, Related}
use Rattle.line_laws.specs.Standing.{Lie, lie_front, lie_behind}
use Rattle.line_laws.specs.Suits.{IsOverTarget}
use Rattle.line_laws.specs.CodeSizes.{expr_long}
use Rattle.line_laws.specs.GiveLaws.{come, gives_most, gives_then}
use Rattle.line_laws.proofs.Places.{HasPlace, place_gives, related_same}
use Rattle.line_laws.proofs.Pointers.{pointer_gives}
use Rattle.line_laws.proofs.ExpressionWorks.{expr_works}

-- a place that is there
place_there : (p : Program) (d most : ℕ) (s u : Spot) (l : Layout) (array i pc : ℕ) → u.pc ≡ pc → HasPlace l d array i s u → Gives p d most u (place_goal l d pc (Ok (place array i)))
place_there p d most s u l array i pc at h =
    come p d most u (place_goal l d pc (Ok (place array i)))
    (record { there = u; goes_on = refl; arrives = at; address = h.address; room = h.room; inside = h.inside; same = record { fixed = λ r k. refl; kept = λ a k. refl }; quiet = refl })

-- of an array
pub cell_place_gives : (p : Program) (scope : Scope) (l : Layout) (store : Store) (array : ℕ) (i : CoreExpr) (d at : ℕ) (s : Spot)
    → s.pc ≡ at → Lie p at (expr_code l.areas i d at ++ place_code (area_at l.areas array)) → Related l scope.pointers s store → IsOver scope i → IsShort d i
    → Gives p d (expr_steps i + 8) s (place_goal l d (at + expr_size i + 9) (cell_place store array (value_of i store)))
cell_place_gives p scope l store array i d at s here stands related over short =
    let code : List Line = place_code (area_at l.areas array) in
    let index : List Line = expr_code l.areas i d at in
    let behind : Lie p (at + expr_size i) code = lie_behind p at index code (at + expr_size i) stands (omega (arith, expr_long l.areas i d at)) in
    gives_then p d (expr_steps i) 8 (expr_steps i + 8) s (at + expr_size i) (λ x. place_goal l d (at + expr_size i + 9) (cell_place store array x)) (value_of i store)
    (expr_works p scope l store i d at s here (lie_front p at index code stands) related over short)
    (λ x t at_t has fits same.
    place_gives p d 0 8 t l scope.pointers store array x (place_goal l d (at + expr_size i + 9)) (rw at_t behind) (related_same l scope.pointers d s t store related same) has
    (λ u at_u h. place_there p d 0 t u l array x (at + expr_size i + 9) (omega (arith, at_u, at_t)) h) (λ why s u atoms h. h) (omega arith))
    (λ why s u atoms h. h) (omega arith)

-- through a pointer
pub through_place_gives : (p : Program) (scope : Scope) (l : Layout) (store : Store) (pointer : ℕ) (i : CoreExpr) (d at : ℕ) (s : Spot)
    → s.pc ≡ at → Lie p at (expr_code l.areas i d at ++ pointer_code (pointer_at pointer)) → pointer < scope.pointers → Related l scope.pointers s store → IsOver scope i → IsShort d i
    → Gives p d (expr_steps i + 12) s (place_goal l d (at + expr_size i + 13) (through_place store pointer (value_of i store)))
through_place_gives p scope l store pointer i d at s here stands there related over short =
    let code : List Line = pointer_code (pointer_at pointer) in
    let index : List Line = expr_code l.areas i d at in
    let behind : Lie p (at + expr_size i) code = lie_behind p at index code (at + expr_size i) stands (omega (arith, expr_long l.areas i d at)) in
    gives_then p d (expr_steps i) 12 (expr_steps i + 12) s (at + expr_size i) (λ x. place_goal l d (at + expr_size i + 13) (through_place store pointer x)) (value_of i store)
    (expr_works p scope l store i d at s here (lie_front p at index code stands) related over short)
    (λ x t at_t has fits same.
    let related_t : Related l scope.pointers t store = related_same l scope.pointers d s t store related same in
    pointer_gives p d 0 12 t l scope.pointers store (pointer_at pointer) (pointed store pointer) x (place_goal l d (at + expr_size i + 13)) (rw at_t behind) related_t
    (omega (arith, there, related_t.few)) (related_t.pointers pointer there) has fits
    (λ u array j at_u h. place_there p d 0 t u l array j (at + expr_size i + 13) (omega (arith, at_u, at_t)) h) (λ why s u atoms h. h) (omega arith))
    (λ why s u atoms h. h) (omega arith)

pub target_gives : (p : Program) (scope : Scope) (l : Layout) (store : Store) (x : CoreTarget) (at : ℕ) (s : Spot)
    → s.pc ≡ at → Lie p at (target_code l.areas x at) → Related l scope.pointers s store → IsOverTarget scope x
    → Gives p 0 (target_steps x + 8) s (place_goal l 0 (at + target_size x) (target_place x store))
target_gives p scope l store (target.Cell array i) at s here stands related over =
    let end : at + (expr_size i + 9) ≡ at + expr_size i + 9 = omega arith in
    rw end (cell_place_gives p scope l store array i 0 at s here stands related over.0 over.1)
target_gives p scope l store (target.Through pointer i) at s here stands related over =
    let end : at + (expr_size i + 13) ≡ at + expr_size i + 13 = omega arith in
    rw end (gives_most p 0 (expr_steps i + 12) (12 + expr_steps i + 8) s (place_goal l 0 (at + expr_size i + 13) (through_place store pointer (value_of i store)))
    (through_place_gives p scope l store pointer i 0 at s here stands over.0 related over.1 over.2) (omega arith))

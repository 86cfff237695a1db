-- What the code that values a site is put together of.
use Rattle.std.specs.Prelude.{◌≡◌, ℕ, ◌+◌, ◌<◌, ◌≤◌, List, [], ◌∷◌, ◌++◌, length, drop, get_or, refl}
use Rattle.std.specs.List.{AllByRecursion}
use Rattle.std.proofs.Common.{ap, sym, ◌∙◌, arith, subst}
use Rattle.std.proofs.lemmas.List.{drop_more, at_drop_all}
use Rattle.task_ast.specs.declared.core_form.CoreExpr.{CoreExpr}
use Rattle.word_isa.specs.declared.instr.Instr.TheVariants.{St}
use Rattle.line_code.specs.declared.areas.Placed.{Placed}
use Rattle.line_code.specs.declared.line.Line.{Line}
use Rattle.line_code.specs.Areas.{area_at}
use Rattle.line_code.specs.Expressions.{expr_code, place_code}
use Rattle.line_code.specs.Fitting.{IsShort}
use Rattle.line_code.specs.Lines.{bares}
use Rattle.line_code.specs.Sizes.{expr_size}
use Rattle.line_code.specs.PartLaws.{three_parts}
use Rattle.word_code.specs.Values.{args_code, args_size}

-- what is there with what is left is all
pub record IsOnArgs (areas : List Placed) (start : List Line) (args : List CoreExpr) (now : List Line) (number : ℕ) (left : List CoreExpr) : Type 0 where
  pub lines : now ++ args_code areas left (33 + number) (length now) ≡ start ++ args_code areas args 33 (length start)
  pub count : length now + args_size left ≡ length start + args_size args
  pub short : AllByRecursion (IsShort 0) left
  pub few : number + length left ≤ 4

pub args_begin : (areas : List Placed) (start : List Line) (args : List CoreExpr) → AllByRecursion (IsShort 0) args → length args ≤ 4 → IsOnArgs areas start args start 0 args
args_begin areas start args short few = record { lines = refl; count = refl; short = short; few = omega (arith, few) }

-- at the next argument
pub arg_next : (areas : List Placed) (start : List Line) (args : List CoreExpr) (now : List Line) (k : ℕ) (e : CoreExpr) → k < length args → e ≡ get_or args k e
    → IsOnArgs areas start args now k (drop k args) → IsOnArgs areas start args now k (e ∷ drop (k + 1) args)
arg_next areas start args now k e within is way = subst (IsOnArgs areas start args now k) (drop_more args k e within ∙ ap (λ x. x ∷ drop (k + 1) args) (sym is)) way

-- an argument more
pub arg_more : (areas : List Placed) (start : List Line) (args : List CoreExpr) (now mid new : List Line) (number : ℕ) (e : CoreExpr) (left : List CoreExpr)
    → IsOnArgs areas start args now number (e ∷ left) → mid ≡ now ++ expr_code areas e 0 (length now) → length mid ≡ length now + expr_size e
    → new ≡ mid ++ bares (St 1 15 (33 + number) ∷ []) → length new ≡ length mid + 1 → IsOnArgs areas start args new (number + 1) left
arg_more areas start args now mid new number e left way one long two longer =
    let at : length new ≡ length now + expr_size e + 1 = omega (arith, long, longer) in
    let cell : 33 + (number + 1) ≡ 33 + number + 1 = omega arith in
    record {
      lines =
          (λ i. new ++ args_code areas left (cell i) (at i))
          ∙ three_parts now mid new (new ++ args_code areas left (33 + number + 1) (length now + expr_size e + 1)) _ _ _ one two refl
          ∙ way.lines;
      count = omega (arith, long, longer, way.count);
      short = way.short.1;
      few = omega (arith, way.few);
    }

-- none is left
pub args_end : (areas : List Placed) (start : List Line) (args : List CoreExpr) (now : List Line) (k : ℕ) → length args ≤ k → IsOnArgs areas start args now k (drop k args)
    → IsOnArgs areas start args now k []
args_end areas start args now k past way = record {
  lines = sym (at_drop_all (λ left. now ++ args_code areas left (33 + k) (length now)) args k past) ∙ way.lines;
  count = sym (at_drop_all (λ left. length now + args_size left) args k past) ∙ way.count;
  short = tt;
  few = omega (arith, way.few);
}

-- an end that is an array's place
pub end_lines : (areas : List Placed) (array : ℕ) (index : CoreExpr) (cell : ℕ) (area : Placed) (o m p n : List Line) → area ≡ area_at areas array
    → m ≡ o ++ expr_code areas index 0 (length o) → p ≡ m ++ place_code area → n ≡ p ++ bares (St 1 15 cell ∷ St 2 15 (cell + 1) ∷ [])
    → n ≡ o ++ (expr_code areas index 0 (length o) ++ (place_code (area_at areas array) ++ bares (St 1 15 cell ∷ St 2 15 (cell + 1) ∷ [])))
end_lines areas array index cell area o m p n there one two three =
    three_parts o m p n _ _ _ one two three ∙ (λ i. o ++ (expr_code areas index 0 (length o) ++ (place_code (there i) ++ bares (St 1 15 cell ∷ St 2 15 (cell + 1) ∷ []))))

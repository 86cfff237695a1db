-- The code that values a site is narrow, and as long as its size.
use Rattle.std.specs.Prelude.{ℕ, ◌+◌, ◌*◌, ◌<◌, ◌≤◌, nat_lt, List, [], ◌∷◌, length, Option, Some, None, IsTrue, refl}
use Rattle.std.specs.List.{AllByRecursion}
use Rattle.std.specs.Option.{ForSome}
use Rattle.std.proofs.Common.{arith, rules}
use Rattle.task_ast.specs.declared.core_form.CoreExpr.{CoreExpr}
use Rattle.task_ast.specs.declared.core_form.CoreTarget.{CoreTarget}
use Rattle.task_ast.specs.declared.core_form.CoreEnd.{CoreEnd}
use Rattle.task_ast.specs.declared.core_form.CoreEnd.TheVariants as end
use Rattle.task_ast.specs.declared.core_form.CoreStmt.{CoreStmt}
use Rattle.task_ast.specs.declared.core_form.CoreStmt.TheVariants as stmt
use Rattle.word_isa.specs.declared.instr.Instr.TheVariants.{Ld, St}
use Rattle.line_code.specs.declared.areas.Placed.{Placed}
use Rattle.line_code.specs.declared.line.Line.{Line}
use Rattle.line_code.specs.Areas.{area_at, pointer_at}
use Rattle.line_code.specs.Fitting.{IsShort, IsShortTarget}
use Rattle.line_code.specs.Lines.{bares}
use Rattle.line_code.specs.Sizes.{expr_size}
use Rattle.word_code.specs.Fitting.{IsShortEnd, IsShortSite}
use Rattle.word_code.specs.Values.{aim_code, aim_size, args_code, args_size, end_code, end_size, length_code, copy_code, value_code, value_size}
use Rattle.code_places.proofs.Good.{Good, small, join, good_as, nothing}
use Rattle.code_places.proofs.LineGoods.{LiesLow, place_good, room_good, expr_good, target_good}

module _ (way : List Line) where
  module _ (areas : List Placed) (low : (a : ℕ) → LiesLow (area_at areas a)) where
    cell_good : (cell : ℕ) → cell < 4096 → Good way 1 (bares (St 1 15 cell ∷ []))
    cell_good cell few =
        let here : IsTrue (nat_lt cell 65536) = small cell (omega (arith, few)) in
        record { long = refl; narrow = (here, tt); followed = search rules }

    aim_good : (x : Option CoreTarget) (at : ℕ) → ForSome x IsShortTarget → Good way (aim_size x) (aim_code areas x at)
    aim_good None at short = nothing
    aim_good (Some x) at short = join (target_good way areas low x at (short x refl)) (cell_good 32 (omega arith))

    args_good : (es : List CoreExpr) (cell at : ℕ) → cell + length es ≤ 40 → AllByRecursion (IsShort 0) es → Good way (args_size es) (args_code areas es cell at)
    args_good [] cell at few short = nothing
    args_good (e ∷ es) cell at few short =
        good_as (expr_size e + 1 + args_size es)
        (join (expr_good way areas low e 0 at short.0) (join (cell_good cell (omega (arith, few))) (args_good es (cell + 1) (at + expr_size e + 1) (omega (arith, few)) short.1))) (omega arith)

    end_good : (x : CoreEnd) (cell at : ℕ) → cell ≤ 42 → IsShortEnd x → Good way (end_size x) (end_code areas x cell at)
    end_good (end.Cell array i) cell at few short =
        let here : IsTrue (nat_lt cell 65536) = small cell (omega (arith, few)) in
        let next : IsTrue (nat_lt (cell + 1) 65536) = small (cell + 1) (omega (arith, few)) in
        let last : Good way 2 (bares (St 1 15 cell ∷ St 2 15 (cell + 1) ∷ [])) = record { long = refl; narrow = (here, (next, tt)); followed = search rules } in
        good_as (expr_size i + 11) (join (expr_good way areas low i 0 at short) (join (place_good way (area_at areas array) (low array)) last)) (omega arith)
    end_good (end.Pointer p) cell at few short =
        let there : IsTrue (nat_lt (320 + 2 * p) 65536) = small (320 + 2 * p) (omega (arith, short)) in
        let here : IsTrue (nat_lt cell 65536) = small cell (omega (arith, few)) in
        let next : IsTrue (nat_lt (cell + 1) 65536) = small (cell + 1) (omega (arith, few)) in
        let last : Good way 3 (bares (Ld 1 15 (pointer_at p) ∷ St 1 15 cell ∷ St 2 15 (cell + 1) ∷ [])) = record { long = refl; narrow = (there, (here, (next, tt))); followed = search rules } in
        join (room_good way (pointer_at p) (omega (arith, short))) last

    length_good : Good way 20 length_code
    length_good = record { long = refl; narrow = search rules; followed = search rules }

    copied_good : (to from : CoreEnd) (n : CoreExpr) (at : ℕ) → IsShortEnd to → IsShortEnd from → IsShort 0 n → Good way (end_size to + end_size from + expr_size n + 20) (copy_code areas to from n at)
    copied_good to from n at one two three =
        good_as (end_size to + end_size from + expr_size n + 20)
        (join (end_good to 40 at (omega arith) one) (join (end_good from 42 (at + end_size to) (omega arith) two) (join (expr_good way areas low n 0 (at + end_size to + end_size from) three) length_good))) (omega arith)

    pub value_good : (o : Option CoreStmt) (at : ℕ) → IsShortSite o → Good way (value_size o) (value_code areas o at)
    value_good None at short = nothing
    value_good (Some (stmt.Assign x e)) at short = nothing
    value_good (Some (stmt.Point p array i)) at short = nothing
    value_good (Some (stmt.If' c m yes_row n no_row)) at short = nothing
    value_good (Some (stmt.Loop' i turns m row)) at short = nothing
    value_good (Some (stmt.Io k x p args)) at short = join (aim_good x at short.0) (args_good args 33 (at + aim_size x) (omega (arith, short.1)) short.2)
    value_good (Some (stmt.Block' k m row)) at short = nothing
    value_good (Some (stmt.Copy k to from n)) at short = copied_good to from n at short.0 short.1 short.2

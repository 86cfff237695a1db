-- Within the limits of a world the steps of its rows are their sum.
use Rattle.std.proofs.Common.{◌≡◌, ℕ, zero, suc, ◌+◌, ◌≤◌, List, [], ◌∷◌, take, refl, sym, ap, ◌∙◌, arith}
use Rattle.std.proofs.lemmas.List.Sums.{sum_by-cons}
use Rattle.devices.specs.declared.world.PowerRow.{PowerRow}
use Rattle.devices.specs.World.{steps_of}
use Rattle.audit_check.specs.Fitting.{capped}
use Rattle.audit_check.proofs.FittingLaws.{capped_is}
use Rattle.audit_report.specs.Sums.{steps_behind}

more : (row : PowerRow) (rows : List PowerRow) → steps_of (row ∷ rows) ≡ row.on + steps_of rows
more row rows = sum_by-cons (λ (row : PowerRow). row.on) row rows

sums : (rows : List PowerRow) (n : ℕ) → n + steps_of rows ≤ 4194304 → steps_behind n rows ≡ n + steps_of rows
sums [] n few = omega arith
sums (row ∷ rows) n few =
    let all = more row rows in
    let here : capped (n + row.on) ≡ n + row.on = capped_is (n + row.on) (omega (arith, few, all)) in
    sums rows (capped (n + row.on)) (omega (arith, few, all, here)) ∙ omega (arith, all, here)

fewer : (n : ℕ) (rows : List PowerRow) → steps_of (take n rows) ≤ steps_of rows
fewer zero rows = omega arith
fewer (suc n) [] = omega arith
fewer (suc n) (row ∷ rows) = let all = more row rows in let some = more row (take n rows) in let less = fewer n rows in omega (arith, all, some, less)

pub all_steps : (rows : List PowerRow) → steps_of rows ≤ 4194304 → steps_behind 0 rows ≡ steps_of rows
all_steps rows few = sums rows 0 (omega (arith, few)) ∙ omega arith

pub first_steps : (n : ℕ) (rows : List PowerRow) → steps_of rows ≤ 4194304 → steps_behind 0 (take n rows) ≡ steps_of (take n rows)
first_steps n rows few = let less = fewer n rows in all_steps (take n rows) (omega (arith, few, less))

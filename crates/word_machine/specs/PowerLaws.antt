-- The clock on power rows: a machine that goes on has ticked once a step, and for the time without power of each failure.
use Rattle.std.specs.Prelude.{◌≤◌, nat_le, min, if◌then◌else◌}
use Rattle.std.proofs.Common.{◌≡◌, ◌∙◌, ℕ, ◌+◌, ◌-◌, Bool, true, false, List, [], ◌∷◌, refl, ap, arith}
use Rattle.std.proofs.lemmas.Bool.Decides.{nat_tests}
use Rattle.std.proofs.lemmas.List.Sums.{sum_by-cons}
use Rattle.devices.specs.Clock.{off_ticks}
use Rattle.devices.specs.World.{steps_of}
use Rattle.devices.specs.declared.world.PowerRow.{PowerRow}
use Rattle.word_machine.specs.RunLaws.{clock_rises, stays_halted, stays_trapped}
use Rattle.word_machine.specs.Runs.{fail_behind_at, fail_behind, powered}
use Rattle.word_machine.specs.State.{Program, State}
use Rattle.word_machine.specs.Step.{exec, fail}
use Rattle.word_machine.specs.declared.ending.Ending.{Ending}
use Rattle.word_machine.specs.declared.ending.Ending.TheVariants.{Running, Halted, Trapped}

-- a machine that halted stays as it is on all power rows
pub powered_halted : (p : Program) (rows : List PowerRow) (n : ℕ) (s : State) → s.ending ≡ Halted → powered p rows n s ≡ s
unfolding powered
powered_halted p [] n s is = refl
powered_halted p (row ∷ []) n s is = stays_halted p (min n row.on) s is
powered_halted p (row ∷ next ∷ rows) n s is =
    let behind : fail_behind row (exec p row.on s) ≡ s = ap (fail_behind row) (stays_halted p row.on s is) ∙ ap (λ e. fail_behind_at e row s) is in
    either (nat_le row.on n) (ap (powered p (next ∷ rows) (n - row.on)) behind ∙ powered_halted p (next ∷ rows) (n - row.on) s is) (stays_halted p n s is)
  where
    either : {a c : State} (b : Bool) → a ≡ s → c ≡ s → (if b then a else c) ≡ s
    either true e f = e
    either false e f = f

-- and so does one that trapped
pub powered_trapped : (p : Program) (rows : List PowerRow) (n code : ℕ) (s : State) → s.ending ≡ Trapped code → powered p rows n s ≡ s
unfolding powered
powered_trapped p [] n code s is = refl
powered_trapped p (row ∷ []) n code s is = stays_trapped p (min n row.on) code s is
powered_trapped p (row ∷ next ∷ rows) n code s is =
    let behind : fail_behind row (exec p row.on s) ≡ s = ap (fail_behind row) (stays_trapped p row.on code s is) ∙ ap (λ e. fail_behind_at e row s) is in
    either (nat_le row.on n) (ap (powered p (next ∷ rows) (n - row.on)) behind ∙ powered_trapped p (next ∷ rows) (n - row.on) code s is) (stays_trapped p n code s is)
  where
    either : {a c : State} (b : Bool) → a ≡ s → c ≡ s → (if b then a else c) ≡ s
    either true e f = e
    either false e f = f

-- the clock behind a failure, where what goes on behind it shows that the machine had not ended
failed_clock : (p : Program) (rows : List PowerRow) (n : ℕ) (row : PowerRow) (t : State) → (powered p rows n (fail_behind row t)).ending ≡ Running → (t.ending ≡ Running) × ((fail_behind row t).clock ≡ t.clock + row.off)
unfolding fail
failed_clock p rows n row t on = by t.ending refl
  where
    by : (e : Ending) → t.ending ≡ e → (t.ending ≡ Running) × ((fail_behind row t).clock ≡ t.clock + row.off)
    by Running is = (is, ap (λ k. (fail_behind_at k row t).clock) is)
    by Halted is =
        let behind : fail_behind row t ≡ t = ap (λ e. fail_behind_at e row t) is in
        let ended : (powered p rows n (fail_behind row t)).ending ≡ t.ending = ap (λ u. (powered p rows n u).ending) behind ∙ ap (λ u. u.ending) (powered_halted p rows n t is) in cc
    by (Trapped code) is =
        let behind : fail_behind row t ≡ t = ap (λ e. fail_behind_at e row t) is in
        let ended : (powered p rows n (fail_behind row t)).ending ≡ t.ending = ap (λ u. (powered p rows n u).ending) behind ∙ ap (λ u. u.ending) (powered_trapped p rows n code t is) in cc

least : (n m : ℕ) → n ≤ m → min n m ≡ n
least n m h = omega arith

reached : (m n : ℕ) → nat_le m n ≡ true → m ≤ n
reached m n h = grind (arith, nat_tests)

-- the clock after so many steps of the power rows
pub powered_clock : (p : Program) (rows : List PowerRow) (n : ℕ) (s : State) → n ≤ steps_of rows → (powered p rows n s).ending ≡ Running
    → (powered p rows n s).clock ≡ s.clock + n + off_ticks rows n
unfolding powered
powered_clock p [] n s within on = omega (arith, within)
powered_clock p (row ∷ []) n s within on =
    let all : min n row.on ≡ n = least n row.on (omega (arith, within)) in
    let clock : (exec p (min n row.on) s).clock ≡ s.clock + min n row.on = clock_rises p (min n row.on) s on in omega (arith, all, clock)
powered_clock p (row ∷ next ∷ rows) n s within on = by (nat_le row.on n) refl (λ h. powered_clock p (next ∷ rows) (n - row.on) (fail_behind row (exec p row.on s)) h) on
  where
    by : (b : Bool) → nat_le row.on n ≡ b
        → (n - row.on ≤ steps_of (next ∷ rows) → (powered p (next ∷ rows) (n - row.on) (fail_behind row (exec p row.on s))).ending ≡ Running
        → (powered p (next ∷ rows) (n - row.on) (fail_behind row (exec p row.on s))).clock ≡ (fail_behind row (exec p row.on s)).clock + (n - row.on) + off_ticks (next ∷ rows) (n - row.on))
        → (if b then powered p (next ∷ rows) (n - row.on) (fail_behind row (exec p row.on s)) else exec p n s).ending ≡ Running
        → (if b then powered p (next ∷ rows) (n - row.on) (fail_behind row (exec p row.on s)) else exec p n s).clock ≡ s.clock + n + (if b then row.off + off_ticks (next ∷ rows) (n - row.on) else 0)
    by true is rest runs =
        let behind = failed_clock p (next ∷ rows) (n - row.on) row (exec p row.on s) runs in
        let first : (exec p row.on s).clock ≡ s.clock + row.on = clock_rises p row.on s behind.0 in
        let total : steps_of (row ∷ next ∷ rows) ≡ row.on + steps_of (next ∷ rows) = sum_by-cons (λ (r : PowerRow). r.on) row (next ∷ rows) in
        let later = rest (omega (arith, within, total, reached row.on n is)) runs in
        omega (arith, behind.1, first, later, reached row.on n is)
    by false is rest runs = let plain : (exec p n s).clock ≡ s.clock + n = clock_rises p n s runs in omega (arith, plain)

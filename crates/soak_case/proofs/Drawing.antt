-- What is drawn one after another.
use Rattle.std.proofs.Common.{◌≡◌, ◌∙◌, ℕ, zero, suc, ◌+◌, ◌*◌, List, [], ◌∷◌, ◌++◌, refl, sym, ap, append_assoc, append-nil, arith}
use Rattle.devices.specs.declared.world.PowerRow.{PowerRow}
use Rattle.soak_case.specs.Draws.{drawn_below, next_state, state_behind}
use Rattle.soak_case.specs.Readings.{readings_drawn, row_drawn, rows_drawn}
use Rattle.soak_case.specs.Source.{task_drawn, task_text, tasks_text}

-- some draws, and some more
pub state_then : (a b s : ℕ) → state_behind (a + b) s ≡ state_behind b (state_behind a s)
unfolding state_behind
state_then zero b s = let same : zero + b ≡ b = omega arith in ap (λ n. state_behind n s) same
state_then (suc a) b s = let same : suc a + b ≡ suc (a + b) = omega arith in ap (λ n. state_behind n s) same ∙ state_then a b (next_state s)

-- so many draws a turn, after one turn more
pub turn_state : (each turns first s to : ℕ) → s ≡ state_behind (each * turns) first → to ≡ state_behind each s → to ≡ state_behind (each * (turns + 1)) first
turn_state each turns first s to now next =
    let sum : each * (turns + 1) ≡ each * turns + each = omega arith in
    next ∙ ap (state_behind each) now ∙ sym (state_then (each * turns) each first) ∙ ap (λ n. state_behind n first) (sym sum)

-- what is drawn so far, with what is left, is the whole
pub rows_on : (k left s to : ℕ) (rows more all : List PowerRow) → left ≡ suc k → rows ++ rows_drawn left s ≡ all → more ≡ rows ++ row_drawn s ∷ [] → to ≡ state_behind 3 s → more ++ rows_drawn k to ≡ all
unfolding rows_drawn
rows_on k left s to rows more all is whole one next =
    (λ i. one i ++ rows_drawn k (next i)) ∙ append_assoc rows (row_drawn s ∷ []) (rows_drawn k (state_behind 3 s)) ∙ ap (λ n. rows ++ rows_drawn n s) (sym is) ∙ whole

readings_more : (k s : ℕ) → readings_drawn (suc k) s ≡ drawn_below 1000 (next_state s) ∷ readings_drawn k (next_state s)
unfolding readings_drawn state_behind
readings_more k s = refl

pub readings_on : (k left s to value : ℕ) (values more all : List ℕ) → left ≡ suc k → values ++ readings_drawn left s ≡ all → more ≡ values ++ value ∷ [] → value ≡ drawn_below 1000 to → to ≡ next_state s → more ++ readings_drawn k to ≡ all
readings_on k left s to value values more all is whole one drawn next =
    one' ∙ append_assoc {A = ℕ} values (drawn_below 1000 (next_state s) ∷ []) (readings_drawn k (next_state s)) ∙ more_is ∙ ap (λ n. values ++ readings_drawn n s) (sym is) ∙ whole
  where
    more_is : values ++ ((drawn_below 1000 (next_state s) ∷ []) ++ readings_drawn k (next_state s)) ≡ values ++ readings_drawn (suc k) s
    more_is = ap (λ (xs : List ℕ). values ++ xs) (sym (readings_more k s))

    value_is : value ≡ drawn_below 1000 (next_state s)
    value_is = drawn ∙ ap (drawn_below 1000) next

    one' : more ++ readings_drawn k to ≡ (values ++ drawn_below 1000 (next_state s) ∷ []) ++ readings_drawn k (next_state s)
    one' = (λ i. one i ++ readings_drawn k (next i)) ∙ ap (λ v. (values ++ v ∷ []) ++ readings_drawn k (next_state s)) value_is

pub tasks_on : (j k left s to : ℕ) (out more all text : List ℕ) → left ≡ suc k → out ++ tasks_text (j + 1) left s ≡ all → more ≡ out ++ text → text ≡ task_text (j + 1) (task_drawn s) → to ≡ state_behind 8 s → more ++ tasks_text (j + 1 + 1) k to ≡ all
unfolding tasks_text
tasks_on j k left s to out more all text is whole one same next =
    let number : j + 1 + 1 ≡ suc (j + 1) = omega arith in
    (λ i. (one ∙ ap (λ t. out ++ t) same) i ++ tasks_text (number i) k (next i)) ∙ append_assoc out (task_text (j + 1) (task_drawn s)) (tasks_text (suc (j + 1)) k (state_behind 8 s))
    ∙ ap (λ n. out ++ tasks_text (j + 1) n s) (sym is) ∙ whole

-- a text behind another
pub more_text : (out x y e f : List ℕ) → e ≡ out ++ x → f ≡ e ++ y → f ≡ out ++ (x ++ y)
more_text out x y e f first then_is = then_is ∙ ap (λ t. t ++ y) first ∙ append_assoc out x y

-- none left
pub rows_end : (left s : ℕ) (rows all : List PowerRow) → left ≡ 0 → rows ++ rows_drawn left s ≡ all → rows ≡ all
unfolding rows_drawn
rows_end left s rows all is whole = sym (append-nil rows) ∙ ap (λ n. rows ++ rows_drawn n s) (sym is) ∙ whole

pub readings_end : (left s : ℕ) (values all : List ℕ) → left ≡ 0 → values ++ readings_drawn left s ≡ all → values ≡ all
unfolding readings_drawn
readings_end left s values all is whole = sym (append-nil values) ∙ ap (λ n. values ++ readings_drawn n s) (sym is) ∙ whole

pub tasks_end : (j left s : ℕ) (out all : List ℕ) → left ≡ 0 → out ++ tasks_text j left s ≡ all → out ≡ all
unfolding tasks_text
tasks_end j left s out all is whole = sym (append-nil out) ∙ ap (λ n. out ++ tasks_text j n s) (sym is) ∙ whole

-- one draw is a state behind
pub one_behind : (s to : ℕ) → to ≡ next_state s → to ≡ state_behind 1 s
unfolding state_behind
one_behind s to is = is

pub none_behind : (s : ℕ) → s ≡ state_behind 0 s
unfolding state_behind
none_behind s = refl

pub all_behind : (n turns s to : ℕ) → turns ≡ n → to ≡ state_behind (1 * turns) s → to ≡ state_behind n s
all_behind n turns s to is now = let same : 1 * turns ≡ n = omega (arith, is) in now ∙ ap (λ k. state_behind k s) same

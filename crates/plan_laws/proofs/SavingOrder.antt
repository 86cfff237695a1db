-- The acts of a plan in the order of the text, and the places in that order where regions are saved.
use Rattle.std.proofs.Common.{◌≡◌, ℕ, ◌+◌, Bool, true, ◌&&◌, ◌==◌, List, [], ◌∷◌, ◌++◌, refl, ap, ◌∙◌}
use Rattle.std.proofs.lemmas.Bool.{eq-eqb}
use Rattle.task_ast.specs.declared.core_form.CoreExpr.{CoreExpr}
use Rattle.task_ast.specs.declared.core_form.CoreTask.{CoreTask}
use Rattle.run_plan.specs.declared.act.Act.{Act, Row_of-Act, end_of-Act, more_of-Act, items-the_row-Act}
use Rattle.run_plan.specs.declared.act.Act.TheVariants as act
use Rattle.run_plan.specs.Rows.{act_row_of, act_row_shows}
use Rattle.run_plan.specs.Sound.{in_order, row_in_order, all_in_order, stands, more_saved, saved_in_place}

-- the acts of a list in order, before others
abbrev pub ordered : List Act → List Act → List Act
ordered [] rest = rest
ordered (a ∷ acts) rest = in_order a (ordered acts rest)

pub all_ordered_is : (acts : List Act) → all_in_order acts ≡ ordered acts []
all_ordered_is [] = refl
all_ordered_is (a ∷ acts) = ap (in_order a) (all_ordered_is acts)

pub ordered_joined : (xs ys rest : List Act) → ordered (xs ++ ys) rest ≡ ordered xs (ordered ys rest)
ordered_joined [] ys rest = refl
ordered_joined (x ∷ xs) ys rest = ap (in_order x) (ordered_joined xs ys rest)

row_ordered : (n : _) (row : Row_of-Act n) (rest : List Act) → row_in_order row rest ≡ ordered (items-the_row-Act n row) rest
row_ordered n end_of-Act rest = refl
row_ordered n (more_of-Act a acts) rest = ap (in_order a) (row_ordered _ acts rest)

pub list_ordered : (acts rest : List Act) → row_in_order (act_row_of acts).1 rest ≡ ordered acts rest
list_ordered acts rest = row_ordered (act_row_of acts).0 (act_row_of acts).1 rest ∙ ap (λ xs. ordered xs rest) (act_row_shows acts)

pub order_test : (e : CoreExpr) (ys ns rest : List Act) → in_order (act.Test e ys ns) rest ≡ act.Test e [] [] ∷ ordered ys (ordered ns rest)
order_test e ys ns rest = ap (λ xs. act.Test e [] [] ∷ row_in_order (act_row_of ys).1 xs) (list_ordered ns rest) ∙ ap (λ xs. act.Test e [] [] ∷ xs) (list_ordered ys (ordered ns rest))

pub order_choose : (k : ℕ) (ys ns rest : List Act) → in_order (act.Choose k ys ns) rest ≡ act.Choose k [] [] ∷ ordered ys (ordered ns rest)
order_choose k ys ns rest = ap (λ xs. act.Choose k [] [] ∷ row_in_order (act_row_of ys).1 xs) (list_ordered ns rest) ∙ ap (λ xs. act.Choose k [] [] ∷ xs) (list_ordered ys (ordered ns rest))

pub order_leave : (k : ℕ) (acts rest : List Act) → in_order (act.Leave k acts) rest ≡ act.Leave k [] ∷ ordered acts rest
order_leave k acts rest = ap (λ xs. act.Leave k [] ∷ xs) (list_ordered acts rest)

pub order_by_class : (k : ℕ) (xs ys zs rest : List Act) → in_order (act.ByClass k xs ys zs) rest ≡ act.ByClass k [] [] [] ∷ ordered xs (ordered ys (ordered zs rest))
order_by_class k xs ys zs rest =
    ap (λ more. act.ByClass k [] [] [] ∷ row_in_order (act_row_of xs).1 (row_in_order (act_row_of ys).1 more)) (list_ordered zs rest)
    ∙ ap (λ more. act.ByClass k [] [] [] ∷ row_in_order (act_row_of xs).1 more) (list_ordered ys (ordered zs rest))
    ∙ ap (λ more. act.ByClass k [] [] [] ∷ more) (list_ordered xs (ordered ys (ordered zs rest)))

-- ---- steps: acts that stand in their place from so many saved regions to so many

module _ (t : CoreTask) where
  -- what saves in place behind them, saves in place with them
  pub record Steps (acts : List Act) (m n : ℕ) : Type 0 where
    pub go : (rest : List Act) → saved_in_place t rest n ≡ true → saved_in_place t (ordered acts rest) m ≡ true

  pub no_step : (m : ℕ) → Steps [] m m
  no_step m = record { go = λ rest h. h }

  pub steps_joined : (xs ys : List Act) (m n o : ℕ) → Steps xs m n → Steps ys n o → Steps (xs ++ ys) m o
  steps_joined xs ys m n o one two = record { go = λ rest h. ap (λ acts. saved_in_place t acts m) (ordered_joined xs ys rest) ∙ one.go (ordered ys rest) (two.go rest h) }

  -- one act without lists, in front of acts
  both_true : (a b : Bool) → a ≡ true → b ≡ true → (a && b) ≡ true
  both_true a b x y = λ i. x i && y i

  -- an act with lists, which stands in its place and whose lists do, in front of acts
  pub with_lists : (a bare : Act) (inner acts : List Act) (m n o : ℕ) → ((rest : List Act) → in_order a rest ≡ bare ∷ ordered inner rest) → ((behind : List Act) → stands t bare behind m ≡ true)
      → more_saved bare m ≡ m → Steps inner m n → Steps acts n o → Steps (a ∷ acts) m o
  with_lists a bare inner acts m n o opens there same within more = record {
    go = λ rest h.
        let behind = ordered acts rest in
        let all = ordered inner behind in
        ap (λ xs. saved_in_place t xs m) (opens behind)
        ∙ both_true (stands t bare all m) (saved_in_place t all (more_saved bare m)) (there all) (ap (λ k. saved_in_place t all k) same ∙ within.go behind (more.go rest h));
  }

  -- an act without lists
  pub one_step : (a : Act) (acts : List Act) (m n : ℕ) → ((rest : List Act) → in_order a rest ≡ a ∷ rest) → ((behind : List Act) → stands t a behind m ≡ true) → more_saved a m ≡ m → Steps acts m n → Steps (a ∷ acts) m n
  one_step a acts m n alone there same more = with_lists a a [] acts m m n alone there same (no_step m) more

  -- a region is saved and locked
  pub save_step : (acts : List Act) (m n : ℕ) → Steps acts (m + 1) n → Steps (act.Save m ∷ act.Lock m ∷ acts) m n
  save_step acts m n more = record {
    go = λ rest h.
        let behind = ordered acts rest in
        both_true (stands t (act.Save m) (act.Lock m ∷ behind) m) (saved_in_place t (act.Lock m ∷ behind) (m + 1))
        (both_true (m == m) (m == m) (eq-eqb m m refl) (eq-eqb m m refl))
        (both_true (stands t (act.Lock m) behind (m + 1)) (saved_in_place t behind (m + 1)) (eq-eqb (m + 1) (m + 1) refl) (more.go rest h));
  }

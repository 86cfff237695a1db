-- A boot of more attempts begins with one of fewer, which is as long as its attempts are many or all of it.
use Rattle.std.specs.Prelude.{◌⊎◌, Option, Some, None, nat_lt, take}
use Rattle.std.proofs.Common.{◌≡◌, ◌∙◌, inl, inr, ℕ, zero, suc, ◌+◌, ◌≤◌, Bool, true, false, List, [], ◌∷◌, ◌++◌, length, refl, sym, ap, append-nil, append_assoc, arith}
use Rattle.std.proofs.lemmas.List.{take-append-le}
use Rattle.std.proofs.Math.Seq.{take-append_seam}
use Rattle.region_split.specs.Regions.{regions}
use Rattle.task_ast.specs.declared.core_form.CoreTask.{CoreTask}
use Rattle.task_ast.specs.declared.core_form.Core.{Core}
use Rattle.task_attempts.specs.Boots.{task_of}
use Rattle.run_plan.specs.declared.act.Act.{Act, Row_of-Act, end_of-Act, more_of-Act}
use Rattle.run_plan.specs.declared.act.Act.TheVariants as act
use Rattle.run_plan.specs.Cells.{State}
use Rattle.run_plan.specs.Deeds.{act_done}
use Rattle.run_plan.specs.Runs.{At, Onward, Planned, Small, Smalls, act_end, act_run, act_steps, acts_run, at_task, attempt_if_there, attempts, boot_run, booted, by_way, cut_run, deed, doing, if_there, nothing, restoring_if_there, row_run, small_steps, straight, with_state}
use Rattle.run_plan.specs.Small.{Atom, Doing, Done, Way, ahead, does, fails, first_way, second_way, stuck, third_way, after_atom, core_of}

-- one list begins another, and is all of it or has so many
pub record Longer (k : ℕ) (xs ys : Smalls) : Type 0 where
  pub more : Smalls
  pub whole : xs ++ more ≡ ys
  pub far : (more ≡ []) ⊎ (k ≤ length xs)

-- one list begins another
pub record IsFront (front xs : Smalls) : Type 0 where
  pub left : Smalls
  pub all : front ++ left ≡ xs

same_longer : (k : ℕ) (xs : Smalls) → Longer k xs xs
same_longer k xs = record { more = []; whole = append-nil xs; far = inl refl }

none_longer : (ys : Smalls) → Longer 0 [] ys
none_longer ys = record { more = ys; whole = refl; far = inr (omega arith) }

one_longer : (k : ℕ) (x : Small) (xs ys : Smalls) → Longer k xs ys → Longer (suc k) (x ∷ xs) (x ∷ ys)
one_longer k x xs ys h = record { more = h.more; whole = ap (λ (zs : Smalls). x ∷ zs) h.whole; far = by h.far }
  where
    by : (h.more ≡ []) ⊎ (k ≤ length xs) → (h.more ≡ []) ⊎ (suc k ≤ suc (length xs))
    by (inl none) = inl none
    by (inr long) = inr (omega (arith, long))

fewer_longer : (j k : ℕ) (xs ys : Smalls) → j ≤ k → Longer k xs ys → Longer j xs ys
fewer_longer j k xs ys few h = record { more = h.more; whole = h.whole; far = by h.far }
  where
    by : (h.more ≡ []) ⊎ (k ≤ length xs) → (h.more ≡ []) ⊎ (j ≤ length xs)
    by (inl none) = inl none
    by (inr long) = inr (omega (arith, few, long))

-- ---- what comes behind

-- from everywhere
abbrev Goes : (k : ℕ) → (fewer more : Onward) → Type 0
Goes k go to = (at : At) → Longer k (go at) (to at)

goes_less : (j k : ℕ) (go to : Onward) → j ≤ k → Goes k go to → Goes j go to
goes_less j k go to few h at = fewer_longer j k (go at) (to at) few (h at)

steps_longer : (k : ℕ) (c : Core) (a : Act) (atoms : List Atom) (go to : Onward) → Goes k go to → Goes k (small_steps c a atoms go) (small_steps c a atoms to)
steps_longer k c a [] go to h at = h at
steps_longer k c a (x ∷ atoms) go to h at =
    let later : At = with_state (after_atom c x at.state) at in
    fewer_longer k (suc k) (small_steps c a (x ∷ atoms) go at) (small_steps c a (x ∷ atoms) to at) (omega arith)
    (one_longer k (record { act = a; atom = x; after = after_atom c x at.state; weights = at.weights }) (small_steps c a atoms go later) (small_steps c a atoms to later) (steps_longer k c a atoms go to h later))

-- an act has one small step at least, its end
deed_longer : (k : ℕ) (c : Core) (a : Act) (done : Done) (go to : Way → Onward) → ((way : Way) → Goes k (go way) (to way)) → Goes (suc k) (deed c a done go) (deed c a done to)
deed_longer k c a (does atoms change way) go to h at =
    steps_longer (suc k) c a atoms (act_end c a change (go way)) (act_end c a change (to way)) (λ at. one_longer k _ (go way (with_state (change at.state) at)) (to way (with_state (change at.state) at)) (h way (with_state (change at.state) at))) at
deed_longer k c a (fails atoms why) go to h at = same_longer (suc k) (deed c a (fails atoms why) go at)
deed_longer k c a stuck go to h at = same_longer (suc k) []

act_longer : (k : ℕ) (d : Doing) (a : Act) (go to : Way → Onward) → ((way : Way) → Goes k (go way) (to way)) → Goes (suc k) (act_steps d a go) (act_steps d a to)
act_longer k d a go to h at = deed_longer k (core_of d) a (act_done d a at.state) go to h (record at { weights = _ })

ways_longer : (k : ℕ) (one two three behind one' two' three' behind' : Onward) → Goes k one one' → Goes k two two' → Goes k three three' → Goes k behind behind' → (way : Way) → Goes k (by_way one two three behind way) (by_way one' two' three' behind' way)
ways_longer k one two three behind one' two' three' behind' a b c d ahead = d
ways_longer k one two three behind one' two' three' behind' a b c d first_way = a
ways_longer k one two three behind one' two' three' behind' a b c d second_way = b
ways_longer k one two three behind one' two' three' behind' a b c d third_way = c

-- ---- acts

module _ (d : Doing) (k : ℕ) (again next : Onward) (on : Goes k again next) (j : ℕ) (few : j ≤ suc k) where
  -- with as many small steps behind them
  steps : (a : Act) (go to : Way → Onward) → ((way : Way) → Goes j (go way) (to way)) → Goes j (act_steps d a go) (act_steps d a to)
  steps a go to h at = fewer_longer j (suc j) (act_steps d a go at) (act_steps d a to at) (omega arith) (act_longer j d a go to h at)

  straight_on : (a : Act) (go to : Onward) → Goes j go to → Goes j (act_steps d a (straight go)) (act_steps d a (straight to))
  straight_on a go to h = steps a (straight go) (straight to) (λ way. h)

  if_longer : (b : Bool) (one one' two two' : Onward) → Goes j one one' → Goes j two two' → Goes j (if_there b one two) (if_there b one' two')
  if_longer true one one' two two' h g = h
  if_longer false one one' two two' h g = g

  mutual
    in_act : (a : Act) (go to : Onward) → Goes j go to → Goes j (act_run d again a go) (act_run d next a to)
    in_act (act.Restore r) go to h =
        if_longer (nat_lt r (regions d.setting.task)) (act_steps d (act.Restore r) (straight go)) (act_steps d (act.Restore r) (straight to)) go to (straight_on (act.Restore r) go to h) h
    in_act (act.Begin t) go to h = straight_on (act.Begin t) go to h
    in_act (act.Save r) go to h = straight_on (act.Save r) go to h
    in_act (act.Lock r) go to h = straight_on (act.Lock r) go to h
    in_act (act.Plain x) go to h = straight_on (act.Plain x) go to h
    in_act (act.Test' c m yes_row n no_row) go to h =
        steps (act.Test' c m yes_row n no_row) (by_way (row_run d again yes_row go) (row_run d again no_row go) go go) (by_way (row_run d next yes_row to) (row_run d next no_row to) to to)
        (ways_longer j _ _ _ _ _ _ _ _ (in_row yes_row go to h) (in_row no_row go to h) h h)
    in_act (act.Value k) go to h = straight_on (act.Value k) go to h
    in_act (act.Look k) go to h = straight_on (act.Look k) go to h
    in_act (act.Choose' k m issue_row n keep_row) go to h =
        steps (act.Choose' k m issue_row n keep_row) (by_way (row_run d again issue_row go) (row_run d again keep_row go) go go) (by_way (row_run d next issue_row to) (row_run d next keep_row to) to to)
        (ways_longer j _ _ _ _ _ _ _ _ (in_row issue_row go to h) (in_row keep_row go to h) h h)
    in_act (act.Drop k) go to h = straight_on (act.Drop k) go to h
    in_act (act.Issue k) go to h = straight_on (act.Issue k) go to h
    in_act (act.Seal k) go to h = straight_on (act.Seal k) go to h
    in_act (act.Take k) go to h = straight_on (act.Take k) go to h
    in_act (act.Write k) go to h = straight_on (act.Write k) go to h
    in_act (act.Enter k) go to h = straight_on (act.Enter k) go to h
    in_act (act.Leave' k m row) go to h =
        steps (act.Leave' k m row) (by_way (row_run d again row go) go go go) (by_way (row_run d next row to) to to to) (ways_longer j _ _ _ _ _ _ _ _ (in_row row go to h) h h h)
    in_act (act.ByClass' k l single_row m private_row n rest_row) go to h =
        steps (act.ByClass' k l single_row m private_row n rest_row) (by_way (row_run d again single_row go) (row_run d again private_row go) (row_run d again rest_row go) go)
        (by_way (row_run d next single_row to) (row_run d next private_row to) (row_run d next rest_row to) to)
        (ways_longer j _ _ _ _ _ _ _ _ (in_row single_row go to h) (in_row private_row go to h) (in_row rest_row go to h) h)
    in_act (act.Transfer k leg) go to h = straight_on (act.Transfer k leg) go to h
    in_act (act.KeepWords k) go to h = straight_on (act.KeepWords k) go to h
    in_act (act.PutWords k) go to h = straight_on (act.PutWords k) go to h
    in_act (act.Commit n) go to h = goes_less j (suc k) (act_steps d (act.Commit n) (straight again)) (act_steps d (act.Commit n) (straight next)) few (act_longer k d (act.Commit n) (straight again) (straight next) (λ way. on))

    in_row : {n : _} (row : Row_of-Act n) (go to : Onward) → Goes j go to → Goes j (row_run d again row go) (row_run d next row to)
    in_row end_of-Act go to h = h
    in_row (more_of-Act a rest) go to h = in_act a (row_run d again rest go) (row_run d next rest to) (in_row rest go to h)

  in_acts : (acts : List Act) (go to : Onward) → Goes j go to → Goes j (acts_run d again acts go) (acts_run d next acts to)
  in_acts [] go to h = h
  in_acts (a ∷ acts) go to h = in_act a (acts_run d again acts go) (acts_run d next acts to) (in_acts acts go to h)

-- ---- boots

module _ (x : Planned) where
  attempt_longer : (k : ℕ) (again next : Onward) → Goes k again next → (number : ℕ) (o : Option CoreTask) → Goes (suc k) (attempt_if_there x again number o) (attempt_if_there x next number o)
  attempt_longer k again next on number None at = same_longer (suc k) []
  attempt_longer k again next on number (Some t) at = in_acts (doing x number t) k again next on (suc k) (omega arith) (at_task x.plan.tasks number []) nothing nothing (λ at. same_longer (suc k) []) at

  attempts_longer : (n m : ℕ) → n ≤ m → Goes n (attempts x n) (attempts x m)
  attempts_longer zero m few at = none_longer (attempts x m at)
  attempts_longer (suc n) zero few at = absurd (omega (arith, few))
  attempts_longer (suc n) (suc m) few at = attempt_longer n (attempts x n) (attempts x m) (attempts_longer n m (omega (arith, few))) at.state.task (task_of x.rules.core at.state.task) at

  restoring_longer : (k : ℕ) (behind next : Onward) → Goes k behind next → (number : ℕ) (o : Option CoreTask) → Goes k (restoring_if_there x behind number o) (restoring_if_there x next number o)
  restoring_longer k behind next on number None at = same_longer k []
  restoring_longer k behind next on number (Some t) at = in_acts (doing x number t) k nothing nothing (λ at. same_longer k []) k (omega arith) x.plan.boot behind next on at

  boot_longer : (n m : ℕ) (s : State) → n ≤ m → Longer n (boot_run x n s) (boot_run x m s)
  unfolding boot_run
  boot_longer n m s few = restoring_longer n (attempts x n) (attempts x m) (attempts_longer n m few) s.task (task_of x.rules.core s.task) (booted s)

  taken : (k : ℕ) (xs ys : Smalls) (h : Longer k xs ys) → (h.more ≡ []) ⊎ (k ≤ length xs) → take k xs ≡ take k ys
  taken k xs ys h (inl none) = ap (take k) (sym (append-nil xs) ∙ ap (λ zs. xs ++ zs) (sym none) ∙ h.whole)
  taken k xs ys h (inr long) = sym (take-append-le k xs h.more long) ∙ ap (take k) h.whole

  -- so many small steps are the same with more attempts
  pub same_taken : (k m : ℕ) (s : State) → k ≤ m → take k (boot_run x k s) ≡ take k (boot_run x m s)
  same_taken k m s few = let h : Longer k (boot_run x k s) (boot_run x m s) = boot_longer k m s few in taken k (boot_run x k s) (boot_run x m s) h h.far

  -- a front of a boot's small steps is the boot cut behind as many
  pub front_cut : (n : ℕ) (s : State) (front rest : Smalls) → front ++ rest ≡ boot_run x n s → cut_run x (length front) s ≡ front
  front_cut n s front rest whole =
      let k : ℕ = length front in
      let more = boot_longer n (k + n) s (let few : n ≤ k + n = omega arith in few) in
      let all : front ++ (rest ++ more.more) ≡ boot_run x (k + n) s = sym (append_assoc front rest more.more) ∙ ap (λ ys. ys ++ more.more) whole ∙ more.whole in
      same_taken k (k + n) s (let few : k ≤ k + n = omega arith in few) ∙ ap (take k) (sym all) ∙ take-append_seam front (rest ++ more.more)

  -- a front of fewer attempts is one of more
  pub front_more : (n m : ℕ) (s : State) (front rest : Smalls) → n ≤ m → front ++ rest ≡ boot_run x n s → IsFront front (boot_run x m s)
  front_more n m s front rest few whole =
      let more = boot_longer n m s few in
      record { left = rest ++ more.more; all = sym (append_assoc front rest more.more) ∙ ap (λ ys. ys ++ more.more) whole ∙ more.whole }

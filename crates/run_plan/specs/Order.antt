-- That nothing stands between an issue and its seal, and nothing but the keeping of words between a copy's transfer and its
-- seal (docs/PLAN.md, "What every plan meets").
use Rattle.std.specs.Prelude.{◌≡◌, ◌⊎◌, ℕ, ⊤, List, [], ◌∷◌}
use Rattle.std.specs.List.{AllByRecursion}
use Rattle.run_plan.specs.declared.act.Act.{Act, Row_of-Act, end_of-Act, more_of-Act, items-the_row-Act}
use Rattle.run_plan.specs.declared.act.Act.TheVariants as act
use Rattle.run_plan.specs.declared.parts.Plan.{Plan}

abbrev mutual
  -- neither an act nor one in its lists is a seal of this site
  pub IsNoSeal : (site : ℕ) → Act → Type 0
  IsNoSeal k (act.Seal j) = j ≡ k → ⊥
  IsNoSeal k (act.Test' e m yes_row n no_row) = AreNoSeals k yes_row × AreNoSeals k no_row
  IsNoSeal k (act.Choose' j m issue_row n keep_row) = AreNoSeals k issue_row × AreNoSeals k keep_row
  IsNoSeal k (act.Leave' j m row) = AreNoSeals k row
  IsNoSeal k (act.ByClass' j l single_row m private_row n rest_row) = AreNoSeals k single_row × AreNoSeals k private_row × AreNoSeals k rest_row
  IsNoSeal k a = ⊤

  -- so it is of each act of a row
  pub AreNoSeals : (site : ℕ) → {n : _} → Row_of-Act n → Type 0
  AreNoSeals k end_of-Act = ⊤
  AreNoSeals k (more_of-Act a rest) = IsNoSeal k a × AreNoSeals k rest

-- what is known of a site's seal behind a list's act: the rest of the list has none, nor what comes behind the list
abbrev pub NoSealBehind : (rest : List Act) → (behind : ℕ → Type 0) → (site : ℕ) → Type 0
NoSealBehind rest behind k = AllByRecursion (IsNoSeal k) rest × behind k

-- the seal of a site comes next
abbrev pub SealsNext : (site : ℕ) → List Act → Type 0
SealsNext k [] = ⊥
SealsNext k (act.Seal j ∷ rest) = j ≡ k
SealsNext k (a ∷ rest) = ⊥

-- a copy's seal comes behind nothing but the keeping of its words
abbrev pub SealsSoon : (site : ℕ) → List Act → Type 0
SealsSoon k [] = ⊥
SealsSoon k (act.Seal j ∷ rest) = j ≡ k
SealsSoon k (act.KeepWords j ∷ rest) = (j ≡ k) × SealsSoon k rest
SealsSoon k (a ∷ rest) = ⊥

-- What must come behind an act: behind an issue its seal; behind a transfer the copy's seal, or no seal of it any more.
abbrev pub IsFollowed : (behind : ℕ → Type 0) → Act → List Act → Type 0
IsFollowed behind (act.Issue k) rest = SealsNext k rest
IsFollowed behind (act.Transfer k leg) rest = SealsSoon k rest ⊎ NoSealBehind rest behind k
IsFollowed behind a rest = ⊤

abbrev mutual
  -- in the lists of an act each act is followed by what must come behind it
  pub IsOrdered : (behind : ℕ → Type 0) → Act → Type 0
  IsOrdered behind (act.Test' e m yes_row n no_row) = AreOrdered behind yes_row × AreOrdered behind no_row
  IsOrdered behind (act.Choose' k m issue_row n keep_row) = AreOrdered behind issue_row × AreOrdered behind keep_row
  IsOrdered behind (act.Leave' k m row) = AreOrdered behind row
  IsOrdered behind (act.ByClass' k l single_row m private_row n rest_row) = AreOrdered behind single_row × AreOrdered behind private_row × AreOrdered behind rest_row
  IsOrdered behind a = ⊤

  -- so it is in a row; behind an act's own lists comes the rest of the row
  pub AreOrdered : (behind : ℕ → Type 0) → {n : _} → Row_of-Act n → Type 0
  AreOrdered behind end_of-Act = ⊤
  AreOrdered behind (more_of-Act a rest) =
      IsOrdered (NoSealBehind (items-the_row-Act _ rest) behind) a × IsFollowed behind a (items-the_row-Act _ rest) × AreOrdered behind rest

-- so it is in a list
abbrev pub AllOrdered : (behind : ℕ → Type 0) → List Act → Type 0
AllOrdered behind [] = ⊤
AllOrdered behind (a ∷ rest) = IsOrdered (NoSealBehind rest behind) a × IsFollowed behind a rest × AllOrdered behind rest

-- behind a whole list of a plan there is nothing
abbrev pub Nothing : (site : ℕ) → Type 0
Nothing k = ⊤

-- in all lists of a plan, within acts too, each act is followed by what must come behind it
pub record IsInOrder (p : Plan) : Type 0 where
  pub boot : AllOrdered Nothing p.boot
  pub tasks : AllByRecursion (AllOrdered Nothing) p.tasks

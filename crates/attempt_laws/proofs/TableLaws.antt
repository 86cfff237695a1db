-- The table of a well-formed task's sites has each call as one, and no copy.
use Rattle.std.proofs.Common.{◌≡◌, ℕ, zero, suc, ◌+◌, List, [], ◌∷◌, ◌++◌, length, map, drop, Option, Some, None, refl, sym, ap, subst, ◌∙◌, append_assoc, append-nil, arith}
use Rattle.std.specs.Prelude.{⊤, slice_get}
use Rattle.std.specs.List.{range_with_len}
use Rattle.task_ast.specs.declared.core_form.Array.{Array}
use Rattle.task_ast.specs.declared.core_form.Site.{Site}
use Rattle.task_ast.specs.declared.core_form.Site.TheVariants as site
use Rattle.task_ast.specs.declared.core_form.CoreStmt.{CoreStmt, Row_of-CoreStmt, end_of-CoreStmt, more_of-CoreStmt}
use Rattle.task_ast.specs.declared.core_form.CoreStmt.TheVariants as stmt
use Rattle.task_ast.specs.declared.core_form.CoreTask.{CoreTask}
use Rattle.task_ast.specs.CoreSites.{Standing, a_call, a_block, a_copy, standing_of, site_numbers, row_numbers, all_numbers, standings, row_standings, all_standings}
use Rattle.task_ast.specs.Pointing.{Pointing, pointing}
use Rattle.task_ast.specs.WellFormed.{HasItsSites}
use Rattle.task_attempts.specs.Calls.{site_at}
use Rattle.task_attempts.specs.Journals.{if_reading}
use Rattle.attempt_laws.specs.Runs.{IsCallAt, IsNoCallAt, Tells, RowTells, AllTell}

-- this stands at a site
abbrev StandsAt : Standing → Option Site → Type 0
StandsAt x (Some s) = standing_of s ≡ x
StandsAt x None = ⊥

-- at each of these numbers the table has what is said to stand there
abbrev Stand : List Site → List ℕ → List Standing → Type 0
Stand sites [] [] = ⊤
Stand sites (k ∷ ks) (x ∷ xs) = StandsAt x (site_at sites k) × Stand sites ks xs
Stand sites ks xs = ⊥

-- a call's value is a reading, a copy's isn't
call_reads : (o : Option Site) (v : ℕ) → StandsAt a_call o → if_reading o v ≡ v ∷ []
call_reads (Some (site.Io a)) v is = refl
call_reads (Some (site.Block a)) v is = absurd (cc is)
call_reads (Some (site.Copy n)) v is = absurd (cc is)
call_reads None v is = absurd is

copy_reads : (o : Option Site) (n v : ℕ) → StandsAt (a_copy n) o → if_reading o v ≡ []
copy_reads (Some (site.Io a)) n v is = absurd (cc is)
copy_reads (Some (site.Block a)) n v is = refl
copy_reads (Some (site.Copy m)) n v is = refl
copy_reads None n v is = absurd is

module _ (sites : List Site) (arrays : List Array) (points : Pointing) where
  -- what a part tells, and what stands behind it
  record Told (tells : Type 0) (ks : List ℕ) (xs : List Standing) : Type 0 where
    pub here : tells
    pub behind : Stand sites ks xs

  mutual
    told : (s : CoreStmt) (ks : List ℕ) (xs : List Standing) → Stand sites (site_numbers s ++ ks) (standings arrays points s ++ xs) → Told (Tells sites s) ks xs
    told (stmt.Assign target e) ks xs stand = record { here = tt; behind = stand }
    told (stmt.Point p a i) ks xs stand = record { here = tt; behind = stand }
    told (stmt.If' c m a n b) ks xs stand =
        let joined = subst (λ ns. Stand sites ns ((row_standings arrays points a ++ row_standings arrays points b) ++ xs)) (append_assoc (row_numbers a) (row_numbers b) ks) stand in
        let first = row_told a (row_numbers b ++ ks) (row_standings arrays points b ++ xs) (subst (Stand sites (row_numbers a ++ (row_numbers b ++ ks))) (append_assoc (row_standings arrays points a) (row_standings arrays points b) xs) joined) in
        let second = row_told b ks xs first.behind in
        record { here = (first.here, second.here); behind = second.behind }
    told (stmt.Loop' variable turns m row) ks xs stand = record { here = tt; behind = (row_told row ks xs stand).behind }
    told (stmt.Io k target p args) ks xs stand = record { here = λ v. call_reads (site_at sites k) v stand.0; behind = stand.1 }
    told (stmt.Block' k m row) ks xs stand = let inside = row_told row ks xs stand.1 in record { here = inside.here; behind = inside.behind }
    told (stmt.Copy k to from n) ks xs stand = record { here = λ v. copy_reads (site_at sites k) _ v stand.0; behind = stand.1 }

    row_told : {n : _} (row : Row_of-CoreStmt n) (ks : List ℕ) (xs : List Standing) → Stand sites (row_numbers row ++ ks) (row_standings arrays points row ++ xs) → Told (RowTells sites row) ks xs
    row_told end_of-CoreStmt ks xs stand = record { here = tt; behind = stand }
    row_told (more_of-CoreStmt s rest) ks xs stand =
        let joined = subst (λ ns. Stand sites ns ((standings arrays points s ++ row_standings arrays points rest) ++ xs)) (append_assoc (site_numbers s) (row_numbers rest) ks) stand in
        let first = told s (row_numbers rest ++ ks) (row_standings arrays points rest ++ xs) (subst (Stand sites (site_numbers s ++ (row_numbers rest ++ ks))) (append_assoc (standings arrays points s) (row_standings arrays points rest) xs) joined) in
        let second = row_told rest ks xs first.behind in
        record { here = (first.here, second.here); behind = second.behind }

  all_told : (b : List CoreStmt) → Stand sites (all_numbers b) (all_standings arrays points b) → AllTell sites b
  all_told [] stand = tt
  all_told (s ∷ rest) stand = let first = told s (all_numbers rest) (all_standings arrays points rest) stand in (first.here, all_told rest first.behind)

-- numbers from some place of the table on
stand_from : (sites : List Site) (i : ℕ) (rest : List Site) → ((n : ℕ) → slice_get sites (i + n) ≡ slice_get rest n) → Stand sites (range_with_len (suc i) (length rest)) (map standing_of rest)
stand_from sites i [] same = tt
stand_from sites i (s ∷ rest) same =
    let none : i + 0 ≡ i = omega arith in
    let next : suc i + 1 ≡ suc (suc i) = omega arith in (
      subst (StandsAt (standing_of s)) (sym (ap (slice_get sites) (sym none) ∙ same 0)) refl,
      subst (λ k. Stand sites (range_with_len k (length rest)) (map standing_of rest)) (sym next)
          (stand_from sites (suc i) rest (λ n. let e : suc i + n ≡ i + suc n = omega arith in ap (slice_get sites) e ∙ same (suc n))),
    )

pub sites_told : (arrays : List Array) (t : CoreTask) → HasItsSites arrays t → AllTell t.sites t.body
sites_told arrays t has =
    let all = stand_from t.sites 0 t.sites (λ n. let e : 0 + n ≡ n = omega arith in ap (slice_get t.sites) e) in
    all_told t.sites arrays (pointing t) t.body
    (subst (λ ks. Stand t.sites ks (all_standings arrays (pointing t) t.body)) (sym has.numbers)
    (subst (Stand t.sites (range_with_len 1 (length t.sites))) (sym has.standing) all))

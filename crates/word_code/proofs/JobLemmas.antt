-- Where arrays lie, and tasks one after another.
use Rattle.std.specs.Prelude.{◌≡◌, ℕ, ◌+◌, ◌<◌, ◌≤◌, false, min, List, [], ◌∷◌, ◌++◌, length, drop, get_or, slice_index_or, refl}
use Rattle.std.specs.List.{AllByRecursion}
use Rattle.std.proofs.Common.{ap, sym, ◌∙◌, arith, subst, append_assoc, append-nil}
use Rattle.std.proofs.lemmas.List.{drop_more, at_drop_all}
use Rattle.std.proofs.lemmas.List.Sums.{sum_by-cons}
use Rattle.task_ast.specs.declared.tree.Kind.{Kind}
use Rattle.task_ast.specs.declared.tree.Kind.TheVariants.{Nv, Const, Vol}
use Rattle.task_ast.specs.declared.core_form.Array.{Array}
use Rattle.task_ast.specs.declared.core_form.CoreTask.{CoreTask}
use Rattle.task_ast.specs.declared.core_form.Core.{Core}
use Rattle.line_code.specs.declared.areas.Free.{Free}
use Rattle.line_code.specs.declared.line.Line.{Line}
use Rattle.line_code.specs.Areas.{area_of, free_of, areas_from, free_at_first, total}
use Rattle.run_plan.specs.declared.parts.Plan.{Plan}
use Rattle.word_code.specs.Beginnings.{AreLow}
use Rattle.run_plan.specs.declared.act.Act.{Act}
use Rattle.word_code.specs.CodeOf.{Job, job, job_code, frame_at, boot_lines, boot_size, jobs_from, jobs_of, job_size, jobs_size}
use Rattle.line_code.specs.PartLaws.{two_parts}
use Rattle.word_code.specs.ActCode.{acts_code}
use Rattle.word_code.specs.Frames.{Frame}
use Rattle.word_code.specs.Sizes.{acts_size}
use Rattle.word_code.specs.FitPlan.{IsFitJob, KeepsFew, IsFitPlan}

-- the words that are in use, and those that are still to come
abbrev used : Free → ℕ
used free = free.nv + free.constant + free.volatile

place_low : (free : Free) (k : Kind) (n : ℕ) → used free + n ≤ 9026 → (area_of free k n).offset + (area_of free k n).room ≤ 9026
place_low free Nv n few = omega (arith, few)
place_low free Const n few = omega (arith, few)
place_low free Vol n few = omega (arith, few)

used_behind : (free : Free) (k : Kind) (n : ℕ) → used (free_of free k n) ≡ used free + n
used_behind free Nv n = omega arith
used_behind free Const n = omega arith
used_behind free Vol n = omega arith

low_from : (free : Free) (arrays : List Array) → used free + total arrays ≤ 9026 → AreLow (areas_from free arrays)
low_from free [] few = tt
low_from free (a ∷ rest) few =
    let cons = sum_by-cons (λ (x : Array). length x.first) a rest in
    let here : used free + length a.first ≤ 9026 = omega (arith, few, cons) in
    let behind : used (free_of free a.kind (length a.first)) + total rest ≤ 9026 = omega (arith, few, cons, used_behind free a.kind (length a.first)) in
    (place_low free a.kind (length a.first) here, low_from (free_of free a.kind (length a.first)) rest behind)

-- arrays within the limits lie low
pub arrays_low : (arrays : List Array) → total arrays ≤ 4096 → AreLow (areas_from free_at_first arrays)
arrays_low arrays few =
    let all : used free_at_first + total arrays ≤ 9026 = omega (arith, few) in
    low_from free_at_first arrays all

-- the tasks from a number on
abbrev pub jobs_left : Plan → Core → (number : ℕ) → List Job
jobs_left p c number = jobs_from p c number (drop number c.tasks)

-- what is there with what is left is all
pub record IsOnJobs (p : Plan) (c : Core) (code : List Job → ℕ → List Line) (start : List Line) (first : ℕ) (now : List Line) (at : ℕ) (number : ℕ) (left : List CoreTask) : Type 0 where
  pub lines : now ++ code (jobs_from p c number left) at ≡ start ++ code (jobs_of p c) first
  pub sum : at + jobs_size p (jobs_from p c number left) ≡ first + jobs_size p (jobs_of p c)
  pub fit : AllByRecursion (IsFitJob p) (jobs_from p c number left)
  pub kept : AllByRecursion KeepsFew left

pub jobs_begin : (p : Plan) (c : Core) (code : List Job → ℕ → List Line) (start : List Line) (first : ℕ) → IsFitPlan p c → IsOnJobs p c code start first start first 0 c.tasks
jobs_begin p c code start first fit = record { lines = refl; sum = refl; fit = fit.jobs; kept = fit.kept }

pub job_next : (p : Plan) (c : Core) (code : List Job → ℕ → List Line) (start : List Line) (first : ℕ) (now : List Line) (at k : ℕ) (t : CoreTask) → k < length c.tasks → t ≡ get_or c.tasks k t
    → IsOnJobs p c code start first now at k (drop k c.tasks) → IsOnJobs p c code start first now at k (t ∷ drop (k + 1) c.tasks)
job_next p c code start first now at k t within is way = subst (IsOnJobs p c code start first now at k) (drop_more c.tasks k t within ∙ ap (λ x. x ∷ drop (k + 1) c.tasks) (sym is)) way

pub job_more : (p : Plan) (c : Core) (code : List Job → ℕ → List Line) (own : Job → ℕ → List Line) (start : List Line) (first : ℕ) (now new : List Line) (at after k : ℕ) (t : CoreTask) (left : List CoreTask)
    → ((j : Job) (rest : List Job) (x : ℕ) → code (j ∷ rest) x ≡ own j x ++ code rest (x + job_size p j))
    → IsOnJobs p c code start first now at k (t ∷ left) → new ≡ now ++ own (job p c k t) at → after ≡ at + job_size p (job p c k t)
    → IsOnJobs p c code start first new after (k + 1) left
job_more p c code own start first now new at after k t left splits way lines size = record {
  lines =
      (λ i. lines i ++ code (jobs_from p c (k + 1) left) (size i))
      ∙ append_assoc now (own (job p c k t) at) (code (jobs_from p c (k + 1) left) (at + job_size p (job p c k t)))
      ∙ ap (λ (x : List Line). now ++ x) (sym (splits (job p c k t) (jobs_from p c (k + 1) left) at))
      ∙ way.lines;
  sum = omega (arith, size, way.sum);
  fit = way.fit.1;
  kept = way.kept.1;
}

pub jobs_end : (p : Plan) (c : Core) (code : List Job → ℕ → List Line) (start : List Line) (first : ℕ) (now : List Line) (at k : ℕ) → length c.tasks ≤ k → ((x : ℕ) → code [] x ≡ [])
    → IsOnJobs p c code start first now at k (drop k c.tasks) → now ≡ start ++ code (jobs_of p c) first
jobs_end p c code start first now at k past none way =
    sym (append-nil now) ∙ ap (λ (x : List Line). now ++ x) (sym (none at)) ∙ sym (at_drop_all (λ (ts : List CoreTask). now ++ code (jobs_from p c k ts) at) c.tasks k past) ∙ way.lines

-- the lines of a task as they are counted
pub record IsCountedJob (p : Plan) (j : Job) (boot acts : ℕ) : Type 0 where
  pub boot_is : boot ≡ boot_size p j
  pub acts_are : acts ≡ acts_size j.frame j.acts
  pub all : boot + acts ≡ job_size p j

pub job_counted : (p : Plan) (c : Core) (k : ℕ) (t : CoreTask) (f : Frame) (xs : List Act) (boot acts : ℕ) → f ≡ frame_at p c k t → xs ≡ slice_index_or p.tasks k []
    → boot ≡ min (boot_lines p f) 4294967295 → acts ≡ min (acts_size f xs) 4294967295 → job_size p (job p c k t) ≤ 4194304 → IsCountedJob p (job p c k t) boot acts
job_counted p c k t f xs boot acts is are first second few =
    let one : boot_lines p f ≡ boot_size p (job p c k t) = ap (boot_lines p) is in
    let two : acts_size f xs ≡ acts_size (frame_at p c k t) (slice_index_or p.tasks k []) = λ i. acts_size (is i) (are i) in
    record { boot_is = omega (arith, first, one, few); acts_are = omega (arith, second, two, few); all = omega (arith, first, second, one, two, few) }

-- a task's code, as it is put
pub job_put : (p : Plan) (c : Core) (k : ℕ) (t : CoreTask) (f : Frame) (boot xs : List Act) (o m n : List Line) (next : ℕ) → f ≡ frame_at p c k t → boot ≡ p.boot → xs ≡ slice_index_or p.tasks k []
    → next ≡ length o + boot_size p (job p c k t) → length m ≡ length o + boot_size p (job p c k t)
    → m ≡ o ++ acts_code f false boot (length o) next → n ≡ m ++ acts_code f false xs (length m) 0 → n ≡ o ++ job_code p (job p c k t) (length o)
job_put p c k t f boot xs o m n next is first are to at one two =
    two_parts o m n _ _ one two ∙ (λ i. o ++ (acts_code (is i) false (first i) (length o) (to i) ++ acts_code (is i) false (are i) (at i) 0))

-- all are counted
pub jobs_counted : (p : Plan) (c : Core) (code : List Job → ℕ → List Line) (start : List Line) (first : ℕ) (now : List Line) (at k : ℕ) → length c.tasks ≤ k
    → IsOnJobs p c code start first now at k (drop k c.tasks) → at ≡ first + jobs_size p (jobs_of p c)
jobs_counted p c code start first now at k past way = omega (arith, at_drop_all (λ (ts : List CoreTask). jobs_size p (jobs_from p c k ts)) c.tasks k past, way.sum)

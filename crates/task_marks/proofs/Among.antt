-- Where the machine may be in the code of a plan, by the task that began last, and that each line leads to where it may be.
use Rattle.std.specs.Prelude.{◌≡◌, ◌⊎◌, ℕ, ◌+◌, ◌*◌, ◌<◌, ◌≤◌, Bool, true, false, nat_le, nat_lt, List, [], ◌∷◌, length, Option, Some, None, ⊤, refl}
use Rattle.std.specs.List.{AllByRecursion}
use Rattle.std.proofs.Common.{ap, sym, inl, inr, arith, subst, length-append}
use Rattle.std.proofs.lemmas.Bool.Decides.{nat_tests}
use Rattle.task_ast.specs.declared.core_form.Core.{Core}
use Rattle.word_isa.specs.declared.instr.Instr.{Instr}
use Rattle.word_isa.specs.declared.instr.Instr.TheVariants.{Halt, Jmp, Jz, Trap}
use Rattle.word_isa.specs.declared.mark.MarkKind.{MarkKind}
use Rattle.word_isa.specs.declared.mark.MarkKind.TheVariants as mark
use Rattle.line_code.specs.declared.line.Line.{Line}
use Rattle.line_code.specs.declared.line.Sign.{Sign}
use Rattle.run_plan.specs.Kinds.{IsOfTask, IsOfSome}
use Rattle.run_plan.specs.declared.act.Act.{Act}
use Rattle.run_plan.specs.declared.act.Act.TheVariants as act
use Rattle.run_plan.specs.declared.parts.Plan.{Plan}
use Rattle.word_code.specs.ActCode.{acts_entry, act_code, acts_code}
use Rattle.word_code.specs.CodeOf.{Job, boot_size, job_size, job_code, jobs_code, boot_stubs, task_stubs}
use Rattle.word_code.specs.Fitting.{AreFit}
use Rattle.word_code.specs.Frames.{Frame}
use Rattle.word_code.specs.Sizes.{act_size, acts_size}
use Rattle.task_marks.proofs.ActFlows.{IsNamed, IsOwn, acts_flow, restored_flows}
use Rattle.task_marks.proofs.Flows.{Aims, Flow, Flows, join, nothing}
use Rattle.task_marks.proofs.LineFlows.{jump_flows}
use Rattle.task_marks.proofs.Reading.{AllFare, fare_joined, mark_here}
use Rattle.task_marks.proofs.Steps.{Fares, IfMarked, Leads, begins, goes}

-- ---- among the code of tasks

-- From the code of these tasks on: before the acts of the next task or at their top, among its acts where it began last, or behind.
abbrev pub IsAmong : Plan → List Job → (at : ℕ) → (begun : Option ℕ) → (place : ℕ) → Type 0
IsAmong p [] at begun place = ⊤
IsAmong p (j ∷ rest) at begun place =
    (place ≤ at + boot_size p j) ⊎ (((place < at + job_size p j) × (begun ≡ Some j.frame.number)) ⊎ ((at + job_size p j ≤ place) × IsAmong p rest (at + job_size p j) begun place))

pub among_low : (p : Plan) (jobs : List Job) (at : ℕ) (b : Option ℕ) (a : ℕ) → a ≤ at → IsAmong p jobs at b a
among_low p [] at b a low = tt
among_low p (j ∷ rest) at b a low = inl (omega (arith, low))

-- ---- lines that lead where they may

skipped : (m n : ℕ) → nat_le m n ≡ true → m ≤ n
skipped m n e = grind (arith, nat_tests)

leads_of : (Aim May : ℕ → Type 0) (at : ℕ) (i : Instr) (n : ℕ) → Aims Aim i n → ((t : ℕ) → Aim t → May t) → ((a : ℕ) → at + 1 ≤ a → a ≤ at + 1 + n → May a) → Leads May at i
leads_of Aim May at Halt n aims may near = tt
leads_of Aim May at (Trap code) n aims may near = tt
leads_of Aim May at (Jmp t) n aims may near = may t aims
leads_of Aim May at (Jz a m) n aims may near = (near (at + 1) (omega arith) (omega arith), near (at + 1 + m) (omega arith) (omega (arith, skipped m n aims)))
leads_of Aim May at i n aims may near = near (at + 1) (omega arith) (omega arith)

-- no mark
abbrev pub IsBare : Option Sign → Instr → Type 0
IsBare None i = ⊤
IsBare (Some s) i = ⊥

pub bare_plain : (i : Instr) → IsBare None i
bare_plain i = tt

module _ (May : Option ℕ → ℕ → Type 0) where
  -- whatever began last
  abbrev pub IsFree : ℕ → Type 0
  IsFree a = (b : Option ℕ) → May b a

  bare_named : (at : ℕ) (o : Option Sign) (i : Instr) (b : Option ℕ) → IsBare o i → IfMarked (mark_here at o) b
  bare_named at None i b h = tt
  bare_named at (Some s) i b h = absurd h

  pub free_fare : (at : ℕ) (lines : List Line) → Flow IsBare IsFree lines → ((a : ℕ) → at ≤ a → a ≤ at + length lines → IsFree a) → AllFare May at lines
  free_fare at [] flow near = tt
  free_fare at (l ∷ lines) flow near = (
    λ b may.
        goes (record {
          named = bare_named at l.sign l.instr b flow.0;
          leads = leads_of IsFree (May b) at l.instr (length lines) flow.1 (λ t free. free b) (λ a low high. near a (omega (arith, low)) (omega (arith, high)) b);
        }),
    free_fare (at + 1) lines flow.2 (λ a low high. near a (omega (arith, low)) (omega (arith, high))),
  )

  kind_fares : (k : MarkKind) (number site task at : ℕ) (i : Instr) → task ≡ number → IsOwn k site number i → May (Some number) (at + 1) → Leads (May (Some number)) at i
      → Fares May (Some number) at i (Some (record { at = at; kind = k; site = site; task = task }))
  kind_fares mark.Begin number site task at i is own next leads =
      begins (record { task = site; by = task; place = at; word = own.word; marked = refl; loads = own.loads; leads = subst (λ (x : ℕ). May (Some x) (at + 1)) (sym own.own) next })
  kind_fares mark.Look number site task at i is own next leads = goes (record { named = ap (λ (x : ℕ). Some x) (sym is); leads = leads })
  kind_fares mark.Kept number site task at i is own next leads = goes (record { named = ap (λ (x : ℕ). Some x) (sym is); leads = leads })
  kind_fares mark.Drop number site task at i is own next leads = goes (record { named = ap (λ (x : ℕ). Some x) (sym is); leads = leads })
  kind_fares mark.Issue number site task at i is own next leads = goes (record { named = ap (λ (x : ℕ). Some x) (sym is); leads = leads })
  kind_fares mark.Seal number site task at i is own next leads = goes (record { named = ap (λ (x : ℕ). Some x) (sym is); leads = leads })
  kind_fares mark.Copy number site task at i is own next leads = goes (record { named = ap (λ (x : ℕ). Some x) (sym is); leads = leads })
  kind_fares mark.Commit number site task at i is own next leads = goes (record { named = ap (λ (x : ℕ). Some x) (sym is); leads = leads })

  sign_fares : (o : Option Sign) (number at : ℕ) (i : Instr) → IsNamed number o i → May (Some number) (at + 1) → Leads (May (Some number)) at i → Fares May (Some number) at i (mark_here at o)
  sign_fares None number at i named next leads = goes (record { named = tt; leads = leads })
  sign_fares (Some s) number at i named next leads = kind_fares s.kind number s.site s.task at i named.0 named.1 next leads

  -- the acts of a task, behind its beginning
  pub own_fare : (number top end : ℕ) → ((b : Option ℕ) (a : ℕ) → top < a → a < end → May b a → b ≡ Some number) → ((a : ℕ) → top ≤ a → a ≤ end → May (Some number) a)
      → (at : ℕ) (lines : List Line) → top < at → at + length lines ≤ end → Flow (IsNamed number) (May (Some number)) lines → AllFare May at lines
  own_fare number top end own near at [] low high flow = tt
  own_fare number top end own near at (l ∷ lines) low high flow = (
    λ b may.
        let is : b ≡ Some number = own b at low (omega (arith, high)) may in
        subst (λ (x : Option ℕ). Fares May x at l.instr (mark_here at l.sign)) (sym is)
        (sign_fares l.sign number at l.instr flow.0 (near (at + 1) (omega (arith, low)) (omega (arith, high)))
        (leads_of (May (Some number)) (May (Some number)) at l.instr (length lines) flow.1 (λ t may_go. may_go) (λ a from to. near a (omega (arith, low, from)) (omega (arith, high, to))))),
    own_fare number top end own near (at + 1) lines (omega (arith, low)) (omega (arith, high)) flow.2,
  )

-- ---- what a boot restores

module _ (c : Core) (f : Frame) (May : ℕ → Type 0) where
  restore_alone : (a : Act) (at next : ℕ) → IsOfSome c a → May next → Flows IsBare May (act_code f false a at next)
  restore_alone (act.Restore r) at next h may = restored_flows IsBare May bare_plain f r next may
  restore_alone a at next h may = absurd h

  entry_may : (acts : List Act) (at next : ℕ) → May at → May next → May (acts_entry acts at next)
  entry_may [] at next may may_next = may_next
  entry_may (a ∷ rest) at next may may_next = may

  pub boot_flow : (lo hi : ℕ) → ((t : ℕ) → lo ≤ t → t ≤ hi → May t) → (acts : List Act) (at next : ℕ) → AllByRecursion (IsOfSome c) acts → lo ≤ at → at + acts_size f acts ≤ hi → May next → Flows IsBare May (acts_code f false acts at next)
  boot_flow lo hi within [] at next of low high may = nothing
  boot_flow lo hi within (a ∷ rest) at next of low high may =
      join (restore_alone a at (acts_entry rest (at + act_size f a) next) of.0 (entry_may rest (at + act_size f a) next (within (at + act_size f a) (omega (arith, low)) (omega (arith, high))) may))
      (boot_flow lo hi within rest (at + act_size f a) next of.1 (omega (arith, low)) (omega (arith, high)) may)

-- ---- the code of tasks

-- a task's acts begin with its beginning, are of it, and their code is as long as its size
pub record IsGoodJob (c : Core) (p : Plan) (j : Job) : Type 0 where
  pub rest : List Act
  pub acts : j.acts ≡ act.Begin j.frame.number ∷ rest
  pub fit : AreFit j.frame j.acts
  pub of : AllByRecursion (IsOfTask j.frame.core j.frame.task) j.acts
  pub boot : AllByRecursion (IsOfSome c) p.boot
  pub count : length j.frame.core.tasks ≡ length c.tasks
  pub boot_long : (at next : ℕ) → length (acts_code j.frame false p.boot at next) ≡ acts_size j.frame p.boot
  pub long : (at next : ℕ) → length (acts_code j.frame false j.acts at next) ≡ acts_size j.frame j.acts

abbrev behind_first : List Line → List Line
behind_first [] = []
behind_first (l ∷ lines) = lines

-- a begin's line in front
begun_fare : (May : Option ℕ → ℕ → Type 0) (f : Frame) (rest acts : List Act) (top end : ℕ) → acts ≡ act.Begin f.number ∷ rest
    → ((b : Option ℕ) (a : ℕ) → top < a → a < end → May b a → b ≡ Some f.number) → ((a : ℕ) → top ≤ a → a ≤ end → May (Some f.number) a)
    → top + length (acts_code f false acts top 0) ≤ end → Flow (IsNamed f.number) (May (Some f.number)) (acts_code f false acts top 0) → AllFare May top (acts_code f false acts top 0)
begun_fare May f rest acts top end is own near high flow =
    subst (λ (x : List Act). AllFare May top (acts_code f false x top 0)) (sym is)
    (first (subst (λ (x : List Act). top + length (acts_code f false x top 0) ≤ end) is high) (subst (λ (x : List Act). Flow (IsNamed f.number) (May (Some f.number)) (acts_code f false x top 0)) is flow))
  where
    first : top + length (acts_code f false (act.Begin f.number ∷ rest) top 0) ≤ end → Flow (IsNamed f.number) (May (Some f.number)) (acts_code f false (act.Begin f.number ∷ rest) top 0)
        → AllFare May top (acts_code f false (act.Begin f.number ∷ rest) top 0)
    first few flows = (
      λ b may. begins (record { task = f.number; by = f.number; place = top; word = f.number; marked = refl; loads = refl; leads = near (top + 1) (omega arith) (omega (arith, few)) }),
      own_fare May f.number top end own near (top + 1) (behind_first (acts_code f false (act.Begin f.number ∷ rest) top 0)) (omega arith) (omega (arith, few)) flows.2,
    )

-- one task's
module _ (c : Core) (p : Plan) (May : Option ℕ → ℕ → Type 0) (low_free : (a : ℕ) → a ≤ 21 + 7 * length c.tasks → IsFree May a) where
  job_long : (j : Job) (at : ℕ) → IsGoodJob c p j → length (job_code p j at) ≡ job_size p j
  job_long j at good =
      omega (arith, length-append (acts_code j.frame false p.boot at (at + boot_size p j)) (acts_code j.frame false j.acts (at + boot_size p j) 0), good.boot_long at (at + boot_size p j), good.long (at + boot_size p j) 0)

  job_fare : (j : Job) (at : ℕ) → IsGoodJob c p j → ((a : ℕ) → at ≤ a → a ≤ at + boot_size p j → IsFree May a)
      → ((b : Option ℕ) (a : ℕ) → at + boot_size p j < a → a < at + job_size p j → May b a → b ≡ Some j.frame.number)
      → ((a : ℕ) → at + boot_size p j ≤ a → a ≤ at + job_size p j → May (Some j.frame.number) a) → AllFare May at (job_code p j at)
  job_fare j at good free own near =
      let f : Frame = j.frame in
      let top : ℕ = at + boot_size p j in
      let end : ℕ = at + job_size p j in
      let boot_lines : List Line = acts_code f false p.boot at top in
      let act_lines : List Line = acts_code f false j.acts top 0 in
      let boots : Flows IsBare (IsFree May) boot_lines = boot_flow c f (IsFree May) at top free p.boot at top good.boot (omega arith) (omega arith) (free top (omega arith) (omega arith)) in
      let acts : Flows (IsNamed f.number) (May (Some f.number)) act_lines =
      acts_flow f (May (Some f.number)) top end near (λ t low. low_free t (omega (arith, low, good.count)) (Some f.number)) false j.acts top 0 good.fit good.of (omega arith) (omega arith) (low_free 0 (omega arith) (Some f.number)) in
      fare_joined May at top boot_lines act_lines (omega (arith, good.boot_long at top))
      (free_fare May at boot_lines boots.flow (λ a low high. free a low (omega (arith, high, good.boot_long at top))))
      (begun_fare May f good.rest j.acts top end good.acts own near (omega (arith, good.long top 0)) acts.flow)

  -- among the acts, within the task, and behind it
  own_of : (j : Job) (rest : List Job) (at : ℕ) (b : Option ℕ) (a : ℕ) → at + boot_size p j < a → a < at + job_size p j → IsAmong p (j ∷ rest) at b a → b ≡ Some j.frame.number
  own_of j rest at b a low high (inl h) = absurd (omega (arith, low, h))
  own_of j rest at b a low high (inr (inl h)) = h.1
  own_of j rest at b a low high (inr (inr h)) = absurd (omega (arith, high, h.0))

  near_of : (j : Job) (rest : List Job) (at : ℕ) (a : ℕ) → a ≤ at + job_size p j → IsAmong p (j ∷ rest) at (Some j.frame.number) a
  near_of j rest at a high = by (nat_lt a (at + job_size p j)) refl
    where
      by : (x : Bool) → nat_lt a (at + job_size p j) ≡ x → IsAmong p (j ∷ rest) at (Some j.frame.number) a
      by true is = let low : a < at + job_size p j = grind (arith, nat_tests) in inr (inl (low, refl))
      by false is = let far : at + job_size p j ≤ a = grind (arith, nat_tests) in inr (inr (far, among_low p rest (at + job_size p j) (Some j.frame.number) a high))

  behind_of : (j : Job) (rest : List Job) (at : ℕ) (b : Option ℕ) (a : ℕ) → at + job_size p j ≤ a → IsAmong p (j ∷ rest) at b a → IsAmong p rest (at + job_size p j) b a
  behind_of j rest at b a low (inl h) = among_low p rest (at + job_size p j) b a (omega (arith, h))
  behind_of j rest at b a low (inr (inl h)) = absurd (omega (arith, low, h.0))
  behind_of j rest at b a low (inr (inr h)) = h.1

  pub jobs_fare : (jobs : List Job) (at : ℕ) → AllByRecursion (IsGoodJob c p) jobs → ((b : Option ℕ) (a : ℕ) → at ≤ a → IsAmong p jobs at b a → May b a)
      → ((b : Option ℕ) (a : ℕ) → at ≤ a → May b a → IsAmong p jobs at b a) → AllFare May at (jobs_code p jobs at)
  jobs_fare [] at good into out = tt
  jobs_fare (j ∷ rest) at good into out =
      fare_joined May at (at + job_size p j) (job_code p j at) (jobs_code p rest (at + job_size p j)) (omega (arith, job_long j at good.0))
      (job_fare j at good.0 (λ a low high b. into b a low (inl high)) (λ b a low high may. own_of j rest at b a low high (out b a (omega (arith, low)) may))
      (λ a low high. into (Some j.frame.number) a (omega (arith, low)) (near_of j rest at a high)))
      (jobs_fare rest (at + job_size p j) good.1 (λ b a low h. into b a (omega (arith, low)) (inr (inr (low, h)))) (λ b a low may. behind_of j rest at b a low (out b a (omega (arith, low)) may)))

-- the stubs lead to the code for boots and to the tops of acts
module _ (p : Plan) (May : Option ℕ → ℕ → Type 0) where
  pub boot_stubs_flow : (jobs : List Job) (at : ℕ) → ((b : Option ℕ) (a : ℕ) → at ≤ a → IsAmong p jobs at b a → May b a) → Flows IsBare (IsFree May) (boot_stubs p jobs at)
  boot_stubs_flow [] at into = nothing
  boot_stubs_flow (j ∷ rest) at into =
      join (jump_flows IsBare (IsFree May) bare_plain at (λ b. into b at (omega arith) (inl (omega arith))))
      (boot_stubs_flow rest (at + job_size p j) (λ b a low h. into b a (omega (arith, low)) (inr (inr (low, h)))))

  pub task_stubs_flow : (jobs : List Job) (at : ℕ) → ((b : Option ℕ) (a : ℕ) → at ≤ a → IsAmong p jobs at b a → May b a) → Flows IsBare (IsFree May) (task_stubs p jobs at)
  task_stubs_flow [] at into = nothing
  task_stubs_flow (j ∷ rest) at into =
      join (jump_flows IsBare (IsFree May) bare_plain (at + boot_size p j) (λ b. into b (at + boot_size p j) (omega arith) (inl (omega arith))))
      (task_stubs_flow rest (at + job_size p j) (λ b a low h. into b a (omega (arith, low)) (inr (inr (low, h)))))

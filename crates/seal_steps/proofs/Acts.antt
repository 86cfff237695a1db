-- Where the code of acts leads: from an act's top to what comes next, or to one of its lists.
use Rattle.std.specs.Prelude.{◌*◌, Option, Some, None}
use Rattle.std.proofs.Common.{◌≡◌, ◌∙◌, ℕ, zero, suc, ◌+◌, ◌<◌, ◌≤◌, inl, inr, true, false, List, [], ◌∷◌, ◌++◌, length, refl, ap, subst, arith}
use Rattle.std.proofs.lemmas.Bool.Decides.{nat_tests}
use Rattle.devices.specs.Journal.{Place}
use Rattle.line_code.specs.declared.areas.Placed.{Placed}
use Rattle.line_code.specs.declared.line.Line.{Line}
use Rattle.line_code.specs.Areas.{area_at}
use Rattle.line_code.specs.Expressions.{expr_code}
use Rattle.line_code.specs.Lines.{bares, marked}
use Rattle.line_code.specs.Sizes.{expr_size, statement_size}
use Rattle.line_laws.specs.Standing.{Lie, lie_behind, lie_front}
use Rattle.task_ast.specs.declared.core_form.Array.{Array}
use Rattle.task_ast.specs.declared.core_form.Core.{Core}
use Rattle.task_ast.specs.declared.core_form.CoreExpr.{CoreExpr}
use Rattle.task_ast.specs.declared.core_form.CoreStmt.{CoreStmt}
use Rattle.task_ast.specs.declared.core_form.CoreStmt.TheVariants as stmt
use Rattle.task_ast.specs.declared.core_form.Site.{Site}
use Rattle.task_ast.specs.declared.core_form.Site.TheVariants as site
use Rattle.task_ast.specs.declared.tree.Ann.{Ann}
use Rattle.task_ast.specs.declared.tree.Ann.TheVariants as ann
use Rattle.word_isa.specs.declared.instr.Instr.TheVariants.{Add, Eq, Jmp, Jz, Ld, Ldi, Mov, Mul, St}
use Rattle.word_isa.specs.declared.mark.MarkKind.TheVariants as mark
use Rattle.word_machine.specs.State.{Program}
use Rattle.run_plan.specs.declared.act.Act.TheVariants as act
use Rattle.word_code.specs.ActCode.{act_code, test_code}
use Rattle.word_code.specs.Acts.{drop_code, jump, load_code, lock_code, look_code, seal_code, take_code, write_code}
use Rattle.word_code.specs.Beginnings.{begin_code, first_of, homes_code, homes_size, level_code, level_count, moved_code, restore_code, save_code, unset_code, volatile_code, volatile_words, words_code}
use Rattle.word_code.specs.Frames.{Frame, flag_at, lock_at, sign}
use Rattle.word_code.specs.Repeats.{each}
use Rattle.word_code.specs.Sizes.{seal_size, write_size}
use Rattle.word_code.specs.Tables.{branch, enter_code, inside_code, keeps_code, keeps_size, leave_code, own_lines, own_size}
use Rattle.word_code.specs.Values.{value_code, value_size}
use Rattle.seal_steps.proofs.Flow.{Behind, HasFixed, IsCalm, behind_jump, is_free, calm_leads, fewer, region}
use Rattle.seal_steps.proofs.Lines.{Calm, Straight, aim_calm, all_steady, both_true, also, args_calm, expr_calm, join, statement_calm, straight, straight_as}

-- ---- straight templates

pub empty : Straight 0 []
empty = record { long = refl; steady = refl }

own_straight : (x : Ann) (k : ℕ) → Straight (own_size x) (own_lines x k)
own_straight ann.Single k = record { long = refl; steady = refl }
own_straight (ann.Timely limit) k = record { long = refl; steady = refl }
own_straight ann.Always k = record { long = refl; steady = refl }

inside_straight : (x : Ann) (k : ℕ) → Straight (own_size x + 7) (inside_code x k)
inside_straight x k =
    let head : Straight 2 (bares (Ld 2 0 (flag_at k) ∷ Eq 2 13 ∷ [])) = record { long = refl; steady = refl } in
    let last : Straight 5 (bares (Ld 3 15 39 ∷ Mov 4 3 ∷ Eq 4 0 ∷ Mul 1 4 ∷ Add 1 3 ∷ [])) = record { long = refl; steady = refl } in
    straight_as (own_size x + 7) (also head (also (own_straight x k) last)) (omega arith)

enter_straight : (x : Ann) (k : ℕ) → Straight (own_size x + 12) (enter_code x k)
enter_straight x k = straight_as (own_size x + 12) (also (inside_straight x k) (record { long = refl; steady = refl })) (omega arith)

pub keeps_straight : (o : Option Site) (k : ℕ) → Straight (keeps_size o) (keeps_code o k)
keeps_straight None k = record { long = refl; steady = refl }
keeps_straight (Some (site.Io x)) k = straight_as (own_size x + 10) (also (inside_straight x k) (record { long = refl; steady = refl })) (omega arith)
keeps_straight (Some (site.Block x)) k = record { long = refl; steady = refl }
keeps_straight (Some (site.Copy n)) k = record { long = refl; steady = refl }

leave_straight : (k : ℕ) → Straight 5 (leave_code k)
leave_straight k = record { long = refl; steady = refl }

low_free : (m : ℕ) → m < 11 → is_free (4 + m) ≡ true
low_free m few = grind (arith, nat_tests)

loads_steady : (m n : ℕ) → m + n ≤ 4 → all_steady (bares (each load_code m n)) ≡ true
loads_steady m zero few = refl
loads_steady m (suc n) few = both_true (is_free (4 + m)) (all_steady (bares (each load_code (m + 1) n))) (low_free m (omega (arith, few))) (loads_steady (m + 1) n (omega (arith, few)))

loads_long : (m n : ℕ) → length (bares (each load_code m n)) ≡ n
loads_long m zero = refl
loads_long m (suc n) = omega (arith, loads_long (m + 1) n)

pub loads_straight : (n : ℕ) → n ≤ 4 → Straight n (bares (each load_code 0 n))
loads_straight n few = record { long = loads_long 0 n; steady = loads_steady 0 n (omega (arith, few)) }

seal_straight : (f : Frame) (k : ℕ) (o : Option Site) → Straight (seal_size o) (seal_code f k o)
seal_straight f k None = record { long = refl; steady = refl }
seal_straight f k (Some (site.Io x)) = record { long = refl; steady = refl }
seal_straight f k (Some (site.Block x)) = record { long = refl; steady = refl }
seal_straight f k (Some (site.Copy n)) = record { long = refl; steady = refl }

write_straight : (o : Option CoreStmt) → Straight (write_size o) (write_code o)
write_straight None = empty
write_straight (Some (stmt.Assign x e)) = empty
write_straight (Some (stmt.Point q array i)) = empty
write_straight (Some (stmt.If' c m yes_row n no_row)) = empty
write_straight (Some (stmt.Loop' i turns m row)) = empty
write_straight (Some (stmt.Io k None q args)) = empty
write_straight (Some (stmt.Io k (Some x) q args)) = record { long = refl; steady = refl }
write_straight (Some (stmt.Block' k m row)) = empty
write_straight (Some (stmt.Copy k to from n)) = empty

-- ---- lists of blocks

pub moves_straight : (from to m n : ℕ) → Straight (2 * n) (bares (each (moved_code from to) m n))
moves_straight from to m zero = empty
moves_straight from to m (suc n) = let rest = moves_straight from to (m + 1) n in record { long = omega (arith, rest.long); steady = rest.steady }

pub homes_straight : (areas : List Placed) (from to : ℕ) (arrays : List ℕ) → Straight (homes_size areas arrays) (homes_code areas from to arrays)
homes_straight areas from to [] = empty
homes_straight areas from to (a ∷ rest) = also (moves_straight ((area_at areas a).offset + from) ((area_at areas a).offset + to) 0 (area_at areas a).room) (homes_straight areas from to rest)

unsets_straight : (m n : ℕ) → Straight (2 * n) (bares (each unset_code m n))
unsets_straight m zero = empty
unsets_straight m (suc n) = let rest = unsets_straight (m + 1) n in record { long = omega (arith, rest.long); steady = rest.steady }

levels_straight : (m n : ℕ) → Straight (2 * n) (bares (each level_code m n))
levels_straight m zero = empty
levels_straight m (suc n) = let rest = levels_straight (m + 1) n in record { long = omega (arith, rest.long); steady = rest.steady }

words_straight : (at : ℕ) (words : List ℕ) → Straight (3 * length words) (bares (words_code at words))
words_straight at [] = empty
words_straight at (w ∷ words) = let rest = words_straight (at + 1) words in record { long = omega (arith, rest.long); steady = rest.steady }

volatile_straight : (at : ℕ) (arrays : List Array) → Straight (length (volatile_code at arrays)) (volatile_code at arrays)
volatile_straight at [] = empty
volatile_straight at (a ∷ arrays) =
    let both = also (words_straight at (volatile_words a.kind a.first)) (volatile_straight (at + length (volatile_words a.kind a.first)) arrays) in
    record { long = refl; steady = both.steady }

begin_straight : (f : Frame) (t : ℕ) → Straight (length (begin_code f t)) (begin_code f t)
begin_straight f t =
    let head : Straight 2 (marked (sign f mark.Begin t) (Ldi 1 t) ∷ bares (St 0 15 39 ∷ [])) = record { long = refl; steady = refl } in
    let all = also head (also (unsets_straight 0 (length f.core.pointers)) (also (volatile_straight 832 f.core.arrays) (levels_straight 0 (level_count f.scheme f.core.arrays)))) in
    record { long = refl; steady = all.steady }

-- ---- where they lead

abbrev pub nowhere : ℕ → Type 0
nowhere t = ⊥

module _ (c : Core) (place_of : ℕ → Place) (p : Program) where
  abbrev pub Fixed : (n at : ℕ) → Type 0
  Fixed n at = Behind c place_of p HasFixed n at

  -- a jump
  pub jump_fixed : (n at t : ℕ) → p.instr at ≡ Some (Jmp t) → Fixed n t → Fixed n at
  jump_fixed n at t there behind = fewer c place_of p HasFixed (suc n) n at (omega arith) (behind_jump c place_of p HasFixed n at t (λ m fixed. fixed) there behind)

  -- a range of calm lines
  pub calm_range : (lo hi k : ℕ) (out : ℕ → Type 0) (lines : List Line) → Calm lo hi out lo k lines → hi ≡ lo + k → Lie p lo lines → (n : ℕ) → Fixed n hi → ((t : ℕ) → out t → Fixed n t) → Fixed n lo
  calm_range lo hi k out lines calm long lies n behind outside j m few pc fixed =
      region c place_of p HasFixed (IsCalm lo hi out) lo hi out (λ x i there ok from till known. calm_leads c place_of p lo hi out x i there ok from till known) lines lies calm.calm (omega (arith, long, calm.long)) n behind outside j m few
      (omega (arith, pc)) (omega (arith, pc, long)) fixed

  pub none_out : (n t : ℕ) → nowhere t → Fixed n t
  none_out n t out = absurd out

  -- such lines before a jump
  pub calm_jump : (at k next : ℕ) (lines : List Line) → Calm at (at + k) nowhere at k lines → Lie p at (lines ++ jump next) → (n : ℕ) → Fixed n next → Fixed n at
  calm_jump at k next lines calm lies n behind =
      let last : Lie p (at + k) (jump next) = lie_behind p at lines (jump next) (at + k) lies (omega (arith, calm.long)) in
      calm_range at (at + k) k nowhere lines calm refl (lie_front p at lines (jump next) lies) n (jump_fixed n (at + k) next last.0.instr behind) (none_out n)

  pub straight_jump : (at k next : ℕ) (lines : List Line) → Straight k lines → Lie p at (lines ++ jump next) → (n : ℕ) → Fixed n next → Fixed n at
  straight_jump at k next lines h lies n behind = calm_jump at k next lines (straight at (at + k) nowhere at (omega arith) (omega arith) h) lies n behind

  -- lines before a branch
  pub branch_range : (at k to other : ℕ) (lines more : List Line) → Straight k lines → Lie p at (lines ++ (branch to other ++ more)) → (n : ℕ) → Fixed n to → Fixed n other → Fixed n at
  branch_range at k to other lines more h lies n one two =
      let x : ℕ = at + k in
      let here : Lie p x (branch to other ++ more) = lie_behind p at lines (branch to other ++ more) x lies (omega (arith, h.long)) in
      let out : ℕ → Type 0 = (λ t. t ≡ to) in
      let test : Calm x (x + 2) (λ t. t ≡ to) x 2 (bares (Jz 1 1 ∷ Jmp to ∷ [])) = record { long = refl; calm = (inl (omega arith, omega arith), (inr refl, tt)) } in
      let tested : Fixed n x =
      calm_range x (x + 2) 2 (λ t. t ≡ to) (bares (Jz 1 1 ∷ Jmp to ∷ [])) test refl (here.0, (here.1.0, tt)) n (jump_fixed n (x + 2) other (second_next x other here.1.1.0.instr) two) (λ t is j m few pc fixed. one j m few (pc ∙ is) fixed) in
      calm_range at x k nowhere lines (straight at x nowhere at (omega arith) (omega arith) h) refl (lie_front p at lines (branch to other ++ more) lies) n tested (none_out n)
    where
      second_next : (x t : ℕ) → p.instr (x + 1 + 1) ≡ Some (Jmp t) → p.instr (x + 2) ≡ Some (Jmp t)
      second_next x t there = let same : x + 2 ≡ x + 1 + 1 = omega arith in ap p.instr same ∙ there

  -- ---- what makes words safe

  pub lies_both : (x y : ℕ) (a b : List Line) → y ≡ x + length a → Lie p x a → Lie p y b → Lie p x (a ++ b)
  lies_both x y [] b is one two = let same : y ≡ x = omega (arith, is) in subst (λ (k : ℕ). Lie p k b) same two
  lies_both x y (l ∷ a) b is one two = (one.0, lies_both (x + 1) y a b (omega (arith, is)) one.1 two)

  -- words go to others, unless a lock says that they need not
  guarded : (at k next : ℕ) (test homes : List Line) → ((hi : ℕ) → at + k ≤ hi → Calm at hi (λ t. t ≡ next) at k test) → (size : ℕ) → Straight size homes → Lie p at (test ++ (homes ++ jump next)) → (n : ℕ) → Fixed n next → Fixed n at
  guarded at k next test homes calm size h lies n behind =
      let hi : ℕ = at + k + size in
      let long = calm hi (omega arith) in
      let rest : Lie p (at + k) (homes ++ jump next) = lie_behind p at test (homes ++ jump next) (at + k) lies (omega (arith, long.long)) in
      let last : Lie p hi (jump next) = lie_behind p (at + k) homes (jump next) hi rest (omega (arith, h.long)) in
      let both : Calm at hi (λ t. t ≡ next) at (k + size) (test ++ homes) = join at hi (λ t. t ≡ next) long (at + k) refl (straight at hi (λ t. t ≡ next) (at + k) (omega arith) (omega arith) h) in
      calm_range at hi (k + size) (λ t. t ≡ next) (test ++ homes) both (omega arith) (lies_both at (at + k) test homes (omega (arith, long.long)) (lie_front p at test (homes ++ jump next) lies) (lie_front p (at + k) homes (jump next) rest)) n
      (jump_fixed n hi next last.0.instr behind) (λ t is j m few pc fixed. behind j m few (pc ∙ is) fixed)

  pub save_flows : (f : Frame) (r at next : ℕ) → Lie p at (save_code f r next) → (n : ℕ) → Fixed n next → Fixed n at
  save_flows f r at next lies n behind =
      guarded at 4 next (bares (Ld 1 0 (lock_at r) ∷ Eq 1 13 ∷ Jz 1 1 ∷ Jmp next ∷ [])) (homes_code f.areas 0 2048 (first_of f r)) (λ hi room. record { long = refl; calm = (refl, (refl, (inl (omega arith, omega (arith, room)), (inr refl, tt)))) })
      (homes_size f.areas (first_of f r)) (homes_straight f.areas 0 2048 (first_of f r)) lies n behind

  pub restore_flows : (f : Frame) (r at next : ℕ) → Lie p at (restore_code f r next) → (n : ℕ) → Fixed n next → Fixed n at
  restore_flows f r at next lies n behind =
      guarded at 5 next (bares (Ld 1 0 (lock_at r) ∷ Eq 1 13 ∷ Eq 1 0 ∷ Jz 1 1 ∷ Jmp next ∷ [])) (homes_code f.areas 2048 0 (first_of f r))
      (λ hi room. record { long = refl; calm = (refl, (refl, (refl, (inl (omega arith, omega (arith, room)), (inr refl, tt))))) }) (homes_size f.areas (first_of f r)) (homes_straight f.areas 2048 0 (first_of f r)) lies n behind

  -- ---- simple acts

  module _ (f : Frame) where
    pub begin_flows : (t at next : ℕ) → Lie p at (begin_code f t ++ jump next) → (n : ℕ) → Fixed n next → Fixed n at
    begin_flows t at next lies n behind = straight_jump at (length (begin_code f t)) next (begin_code f t) (begin_straight f t) lies n behind

    pub lock_flows : (r at next : ℕ) → Lie p at (lock_code r ++ jump next) → (n : ℕ) → Fixed n next → Fixed n at
    lock_flows r at next lies n behind = straight_jump at 1 next (lock_code r) (record { long = refl; steady = refl }) lies n behind

    pub plain_flows : (s : CoreStmt) (at next : ℕ) → Lie p at (act_code f false (act.Plain s) at next) → (n : ℕ) → Fixed n next → Fixed n at
    plain_flows s at next lies n behind =
        calm_jump at (statement_size s) next _ (statement_calm at (at + statement_size s) nowhere f.areas s at (omega arith) (omega arith)) lies n behind

    pub look_flows : (k at next : ℕ) → Lie p at (look_code f k ++ jump next) → (n : ℕ) → Fixed n next → Fixed n at
    look_flows k at next lies n behind = straight_jump at 2 next (look_code f k) (record { long = refl; steady = refl }) lies n behind

    pub drop_flows : (k at next : ℕ) → Lie p at (drop_code f k ++ jump next) → (n : ℕ) → Fixed n next → Fixed n at
    drop_flows k at next lies n behind = straight_jump at 1 next (drop_code f k) (record { long = refl; steady = refl }) lies n behind

    pub take_flows : (k at next : ℕ) → Lie p at (take_code f k ++ jump next) → (n : ℕ) → Fixed n next → Fixed n at
    take_flows k at next lies n behind = straight_jump at 3 next (take_code f k) (record { long = refl; steady = refl }) lies n behind

    pub write_flows : (o : Option CoreStmt) (at next : ℕ) → Lie p at (write_code o ++ jump next) → (n : ℕ) → Fixed n next → Fixed n at
    write_flows o at next lies n behind = straight_jump at (write_size o) next (write_code o) (write_straight o) lies n behind

    pub seal_flows : (k : ℕ) (o : Option Site) (at next : ℕ) → Lie p at (seal_code f k o ++ jump next) → (n : ℕ) → Fixed n next → Fixed n at
    seal_flows k o at next lies n behind = straight_jump at (seal_size o) next (seal_code f k o) (seal_straight f k o) lies n behind

    pub enter_flows : (x : Ann) (k at next : ℕ) → Lie p at (enter_code x k ++ jump next) → (n : ℕ) → Fixed n next → Fixed n at
    enter_flows x k at next lies n behind = straight_jump at (own_size x + 12) next (enter_code x k) (enter_straight x k) lies n behind

    -- a call is valued
    pub call_valued_flows : (k : ℕ) (x : _) (q : ℕ) (args : List CoreExpr) (at next : ℕ) → Lie p at (value_code f.areas (Some (stmt.Io k x q args)) at ++ jump next) → (n : ℕ) → Fixed n next → Fixed n at
    call_valued_flows k x q args at next lies n behind =
        let size : ℕ = value_size (Some (stmt.Io k x q args)) in
        calm_jump at size next (value_code f.areas (Some (stmt.Io k x q args)) at)
        (join at (at + size) nowhere (aim_calm at (at + size) nowhere f.areas x at (omega arith) (omega arith)) _ refl (args_calm at (at + size) nowhere f.areas args 33 _ (omega arith) (omega arith))) lies n behind

    -- ---- tests, choices and the ends of blocks

    pub test_flows : (e : CoreExpr) (at one two : ℕ) (more : List Line) → Lie p at (expr_code f.areas e 0 at ++ (test_code one two ++ more)) → (n : ℕ) → Fixed n one → Fixed n two → Fixed n at
    test_flows e at one two more lies n a b =
        let x : ℕ = at + expr_size e in
        let calm : Calm at x nowhere at (expr_size e) (expr_code f.areas e 0 at) = expr_calm at x nowhere f.areas e 0 at (omega arith) (omega arith) in
        let here : Lie p x (test_code one two ++ more) = lie_behind p at (expr_code f.areas e 0 at) (test_code one two ++ more) x lies (omega (arith, calm.long)) in
        let tested : Fixed n x = branch_range x 1 two one (bares (Eq 1 0 ∷ [])) more (record { long = refl; steady = refl }) here n b a in
        calm_range at x (expr_size e) nowhere (expr_code f.areas e 0 at) calm refl (lie_front p at (expr_code f.areas e 0 at) (test_code one two ++ more) lies) n tested (none_out n)

    pub choose_flows : (o : Option Site) (k at to other : ℕ) (more : List Line) → Lie p at (keeps_code o k ++ (branch to other ++ more)) → (n : ℕ) → Fixed n to → Fixed n other → Fixed n at
    choose_flows o k at to other more lies n a b = branch_range at (keeps_size o) to other (keeps_code o k) more (keeps_straight o k) lies n a b

    pub leave_flows : (k at to other : ℕ) (more : List Line) → Lie p at (leave_code k ++ (branch to other ++ more)) → (n : ℕ) → Fixed n to → Fixed n other → Fixed n at
    leave_flows k at to other more lies n a b = branch_range at 5 to other (leave_code k) more (leave_straight k) lies n a b

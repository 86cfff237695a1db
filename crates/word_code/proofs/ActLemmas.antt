-- What the code of acts is put together of.
use Rattle.std.specs.Prelude.{◌≡◌, ℕ, ◌+◌, ◌-◌, ◌<◌, ◌≤◌, Bool, true, false, min, List, [], ◌∷◌, ◌++◌, length, take, drop, get_or, refl}
use Rattle.std.proofs.Common.{ap, sym, ◌∙◌, arith, append_assoc, append-nil, subst}
use Rattle.std.proofs.lemmas.List.{drop_more, at_drop_all, take_all, length-drop}
use Rattle.task_ast.specs.declared.core_form.CoreExpr.{CoreExpr}
use Rattle.line_code.specs.declared.line.Line.{Line}
use Rattle.word_isa.specs.declared.instr.Instr.TheVariants.{Eq}
use Rattle.line_code.specs.Expressions.{expr_code}
use Rattle.line_code.specs.Lines.{bares}
use Rattle.line_code.specs.PartLaws.{two_parts, five_parts}
use Rattle.line_code.specs.Fitting.{IsShort}
use Rattle.line_code.specs.Sizes.{expr_size}
use Rattle.run_plan.specs.Acts.{for_every}
use Rattle.run_plan.specs.declared.act.Act.{Act}
use Rattle.run_plan.specs.declared.act.Act.TheVariants as act
use Rattle.word_code.specs.ActCode.{simple_code, acts_entry, tested, chosen, left_code, classed, act_code, acts_code}
use Rattle.word_code.specs.ActLaws.{size_test, code_test, fit_test, size_choose, code_choose, fit_choose, size_leave, code_leave, fit_leave, size_class, code_class, fit_class}
use Rattle.word_code.specs.Fitting.{IsSiteNumber, IsFit, AreFit}
use Rattle.word_code.specs.Frames.{Frame, site_at}
use Rattle.word_code.specs.Sizes.{simple_size, act_size, acts_size}
use Rattle.word_code.specs.Acts.{jump}
use Rattle.word_code.specs.Tables.{keeps_code, keeps_size, branch, class_test}

-- along an equation of types
cast : {A B : Type 0} → A ≡ B → A → B
cast same x = subst (λ t. t) same x

-- a test by its lists
pub test_size : (f : Frame) (x : Act) (c : CoreExpr) (a b got other : List Act) → x ≡ act.Test c a b → got ≡ a → other ≡ b → act_size f x ≡ expr_size c + acts_size f got + acts_size f other + 4
test_size f x c a b got other is at follows = ap (act_size f) is ∙ size_test f c a b ∙ sym (λ i. expr_size c + acts_size f (at i) + acts_size f (follows i) + 4)

pub test_fit : (f : Frame) (x : Act) (c : CoreExpr) (a b got other : List Act) → x ≡ act.Test c a b → got ≡ a → other ≡ b → IsFit f x → IsShort 0 c × AreFit f got × AreFit f other
test_fit f x c a b got other is at follows fit = cast (ap (IsFit f) is ∙ fit_test f c a b ∙ sym (λ i. IsShort 0 c × AreFit f (at i) × AreFit f (follows i))) fit

pub test_lines : (f : Frame) (keeps : Bool) (next : ℕ) (x : Act) (c : CoreExpr) (a b got other : List Act) (o n : List Line) → x ≡ act.Test c a b → got ≡ a → other ≡ b
    → n ≡ o ++ tested (expr_code f.areas c 0 (length o)) (acts_entry got (length o + expr_size c + 4) next) (acts_entry other (length o + expr_size c + 4 + acts_size f got) next)
    (acts_code f keeps got (length o + expr_size c + 4) next) (acts_code f keeps other (length o + expr_size c + 4 + acts_size f got) next)
    → n ≡ o ++ act_code f keeps x (length o) next
test_lines f keeps next x c a b got other o n is at follows lines =
    lines
    ∙ (λ i. o ++ tested (expr_code f.areas c 0 (length o)) (acts_entry (at i) (length o + expr_size c + 4) next) (acts_entry (follows i) (length o + expr_size c + 4 + acts_size f (at i)) next)
    (acts_code f keeps (at i) (length o + expr_size c + 4) next) (acts_code f keeps (follows i) (length o + expr_size c + 4 + acts_size f (at i)) next))
    ∙ ap (λ (z : List Line). o ++ z) (sym (ap (λ y. act_code f keeps y (length o) next) is ∙ code_test f keeps (length o) next c a b))

-- a choice by its lists
pub choose_size : (f : Frame) (x : Act) (k : ℕ) (a b got other : List Act) → x ≡ act.Choose k a b → got ≡ a → other ≡ b → act_size f x ≡ keeps_size (site_at f k) + acts_size f got + acts_size f other + 3
choose_size f x k a b got other is at follows = ap (act_size f) is ∙ size_choose f k a b ∙ sym (λ i. keeps_size (site_at f k) + acts_size f (at i) + acts_size f (follows i) + 3)

pub choose_fit : (f : Frame) (x : Act) (k : ℕ) (a b got other : List Act) → x ≡ act.Choose k a b → got ≡ a → other ≡ b → IsFit f x → IsSiteNumber k × AreFit f got × AreFit f other
choose_fit f x k a b got other is at follows fit = cast (ap (IsFit f) is ∙ fit_choose f k a b ∙ sym (λ i. IsSiteNumber k × AreFit f (at i) × AreFit f (follows i))) fit

pub choose_lines : (f : Frame) (keeps : Bool) (next : ℕ) (x : Act) (k : ℕ) (a b got other : List Act) (o n : List Line) → x ≡ act.Choose k a b → got ≡ a → other ≡ b
    → n ≡ o ++ chosen (keeps_code (site_at f k) k) (acts_entry other (length o + keeps_size (site_at f k) + 3 + acts_size f got) next) (acts_entry got (length o + keeps_size (site_at f k) + 3) next)
    (acts_code f false got (length o + keeps_size (site_at f k) + 3) next) (acts_code f true other (length o + keeps_size (site_at f k) + 3 + acts_size f got) next)
    → n ≡ o ++ act_code f keeps x (length o) next
choose_lines f keeps next x k a b got other o n is at follows lines =
    lines
    ∙ (λ i. o ++ chosen (keeps_code (site_at f k) k) (acts_entry (follows i) (length o + keeps_size (site_at f k) + 3 + acts_size f (at i)) next) (acts_entry (at i) (length o + keeps_size (site_at f k) + 3) next)
    (acts_code f false (at i) (length o + keeps_size (site_at f k) + 3) next) (acts_code f true (follows i) (length o + keeps_size (site_at f k) + 3 + acts_size f (at i)) next))
    ∙ ap (λ (z : List Line). o ++ z) (sym (ap (λ y. act_code f keeps y (length o) next) is ∙ code_choose f keeps (length o) next k a b))

-- a block's end by its list
pub leave_size : (f : Frame) (x : Act) (k : ℕ) (a got : List Act) → x ≡ act.Leave k a → got ≡ a → act_size f x ≡ acts_size f got + 8
leave_size f x k a got is at = ap (act_size f) is ∙ size_leave f k a ∙ sym (λ i. acts_size f (at i) + 8)

pub leave_fit : (f : Frame) (x : Act) (k : ℕ) (a got : List Act) → x ≡ act.Leave k a → got ≡ a → IsFit f x → IsSiteNumber k × AreFit f got
leave_fit f x k a got is at fit = cast (ap (IsFit f) is ∙ fit_leave f k a ∙ sym (λ i. IsSiteNumber k × AreFit f (at i))) fit

pub leave_lines : (f : Frame) (keeps : Bool) (next : ℕ) (x : Act) (k : ℕ) (a got : List Act) (o n : List Line) → x ≡ act.Leave k a → got ≡ a
    → n ≡ o ++ left_code k next (acts_entry got (length o + 8) next) (acts_code f keeps got (length o + 8) next)
    → n ≡ o ++ act_code f keeps x (length o) next
leave_lines f keeps next x k a got o n is at lines =
    lines
    ∙ (λ i. o ++ left_code k next (acts_entry (at i) (length o + 8) next) (acts_code f keeps (at i) (length o + 8) next))
    ∙ ap (λ (z : List Line). o ++ z) (sym (ap (λ y. act_code f keeps y (length o) next) is ∙ code_leave f keeps (length o) next k a))

-- a copy's classes by their lists
pub class_size : (f : Frame) (x : Act) (k : ℕ) (a b c s p r : List Act) → x ≡ act.ByClass k a b c → s ≡ a → p ≡ b → r ≡ c → act_size f x ≡ acts_size f s + acts_size f p + acts_size f r + 12
class_size f x k a b c s p r is one two three = ap (act_size f) is ∙ size_class f k a b c ∙ sym (λ i. acts_size f (one i) + acts_size f (two i) + acts_size f (three i) + 12)

pub class_fit : (f : Frame) (x : Act) (k : ℕ) (a b c s p r : List Act) → x ≡ act.ByClass k a b c → s ≡ a → p ≡ b → r ≡ c → IsFit f x → IsSiteNumber k × AreFit f s × AreFit f p × AreFit f r
class_fit f x k a b c s p r is one two three fit = cast (ap (IsFit f) is ∙ fit_class f k a b c ∙ sym (λ i. IsSiteNumber k × AreFit f (one i) × AreFit f (two i) × AreFit f (three i))) fit

pub class_lines : (f : Frame) (keeps : Bool) (next : ℕ) (x : Act) (k : ℕ) (a b c s p r : List Act) (o n : List Line) → x ≡ act.ByClass k a b c → s ≡ a → p ≡ b → r ≡ c
    → n ≡ o ++ classed keeps k (length o) (acts_entry s (length o + 12) next) (acts_entry p (length o + 12 + acts_size f s) next) (acts_entry r (length o + 12 + acts_size f s + acts_size f p) next)
    (acts_code f keeps s (length o + 12) next) (acts_code f keeps p (length o + 12 + acts_size f s) next) (acts_code f keeps r (length o + 12 + acts_size f s + acts_size f p) next)
    → n ≡ o ++ act_code f keeps x (length o) next
class_lines f keeps next x k a b c s p r o n is one two three lines =
    lines
    ∙ (λ i. o ++ classed keeps k (length o) (acts_entry (one i) (length o + 12) next) (acts_entry (two i) (length o + 12 + acts_size f (one i)) next) (acts_entry (three i) (length o + 12 + acts_size f (one i) + acts_size f (two i)) next)
    (acts_code f keeps (one i) (length o + 12) next) (acts_code f keeps (two i) (length o + 12 + acts_size f (one i)) next) (acts_code f keeps (three i) (length o + 12 + acts_size f (one i) + acts_size f (two i)) next))
    ∙ ap (λ (z : List Line). o ++ z) (sym (ap (λ y. act_code f keeps y (length o) next) is ∙ code_class f keeps (length o) next k a b c))

-- what is there with what is left is all
pub record IsOnWay (f : Frame) (keeps : Bool) (next : ℕ) (start : List Line) (acts : List Act) (now : List Line) (left : List Act) : Type 0 where
  pub lines : now ++ acts_code f keeps left (length now) next ≡ start ++ acts_code f keeps acts (length start) next
  pub count : length now + acts_size f left ≡ length start + acts_size f acts
  pub fit : AreFit f left
  pub within : acts_size f left ≤ acts_size f acts

pub sets_out : (f : Frame) (keeps : Bool) (next : ℕ) (start : List Line) (acts : List Act) → AreFit f acts → IsOnWay f keeps next start acts start acts
sets_out f keeps next start acts fit = record { lines = refl; count = refl; fit = fit; within = omega arith }

pub at_next : (f : Frame) (keeps : Bool) (next : ℕ) (start : List Line) (acts : List Act) (now : List Line) (k : ℕ) (a : Act) → k < length acts → a ≡ get_or acts k a
    → IsOnWay f keeps next start acts now (drop k acts) → IsOnWay f keeps next start acts now (a ∷ drop (k + 1) acts)
at_next f keeps next start acts now k a within is way = subst (IsOnWay f keeps next start acts now) (drop_more acts k a within ∙ ap (λ x. x ∷ drop (k + 1) acts) (sym is)) way

pub one_more : (f : Frame) (keeps : Bool) (next : ℕ) (start : List Line) (acts : List Act) (now new : List Line) (a : Act) (left : List Act) (ahead : ℕ)
    → IsOnWay f keeps next start acts now (a ∷ left) → ahead ≡ acts_entry left (length now + act_size f a) next
    → new ≡ now ++ act_code f keeps a (length now) ahead → length new ≡ length now + act_size f a → IsOnWay f keeps next start acts new left
one_more f keeps next start acts now new a left ahead way to lines count = record {
  lines =
      (λ i. lines i ++ acts_code f keeps left (count i) next)
      ∙ append_assoc now (act_code f keeps a (length now) ahead) (acts_code f keeps left (length now + act_size f a) next)
      ∙ (λ i. now ++ (act_code f keeps a (length now) (to i) ++ acts_code f keeps left (length now + act_size f a) next))
      ∙ way.lines;
  count = omega (arith, count, way.count);
  fit = way.fit.1;
  within = omega (arith, way.within);
}

pub all_there : (f : Frame) (keeps : Bool) (next : ℕ) (start : List Line) (acts : List Act) (now : List Line) (k : ℕ) → length acts ≤ k
    → IsOnWay f keeps next start acts now (drop k acts) → (now ≡ start ++ acts_code f keeps acts (length start) next) × (length now ≡ length start + acts_size f acts)
all_there f keeps next start acts now k past way = (
  sym (append-nil now) ∙ sym (at_drop_all (λ left. now ++ acts_code f keeps left (length now) next) acts k past) ∙ way.lines,
  omega (arith, at_drop_all (λ left. acts_size f left) acts k past, way.count),
)

-- what is counted with what is left is all
pub record IsCounted (f : Frame) (acts : List Act) (size : ℕ) (left : List Act) : Type 0 where
  pub same : min (size + acts_size f left) 4294967295 ≡ min (acts_size f acts) 4294967295
  pub small : size ≤ 4294967295
  pub fit : AreFit f left
  pub within : acts_size f left ≤ acts_size f acts

pub none_counted : (f : Frame) (acts : List Act) → AreFit f acts → IsCounted f acts 0 acts
none_counted f acts fit = record { same = omega arith; small = omega arith; fit = fit; within = omega arith }

pub next_counted : (f : Frame) (acts : List Act) (size k : ℕ) (a : Act) → k < length acts → a ≡ get_or acts k a → IsCounted f acts size (drop k acts) → IsCounted f acts size (a ∷ drop (k + 1) acts)
next_counted f acts size k a within is way = subst (IsCounted f acts size) (drop_more acts k a within ∙ ap (λ x. x ∷ drop (k + 1) acts) (sym is)) way

pub one_counted : (f : Frame) (acts : List Act) (size more new : ℕ) (a : Act) (left : List Act) → IsCounted f acts size (a ∷ left) → more ≡ min (act_size f a) 4294967295 → new ≡ min (size + more) 4294967295
    → IsCounted f acts new left
one_counted f acts size more new a left way is sum = record { same = omega (arith, way.same, is, sum); small = omega (arith, sum); fit = way.fit.1; within = omega (arith, way.within) }

pub all_counted : (f : Frame) (acts : List Act) (size k : ℕ) → length acts ≤ k → IsCounted f acts size (drop k acts) → size ≡ min (acts_size f acts) 4294967295
all_counted f acts size k past way = omega (arith, at_drop_all (acts_size f) acts k past, way.same, way.small)

-- an entry is at one of two addresses
pub entry_small : (acts : List Act) (at next x : ℕ) → x ≡ acts_entry acts at next → at ≤ 4194304 → next ≤ 4194304 → x ≤ 4194304
entry_small [] at next x is low far = omega (arith, is, far)
entry_small (a ∷ rest) at next x is low far = omega (arith, is, low)

-- a condition and its two lists, as they are put
pub test_put : (f : Frame) (keeps : Bool) (next : ℕ) (c : CoreExpr) (a b : List Act) (o m p q r n : List Line) (first second : ℕ)
    → first ≡ acts_entry a (length o + expr_size c + 4) next → second ≡ acts_entry b (length o + expr_size c + 4 + acts_size f a) next
    → length q ≡ length o + expr_size c + 4 → length r ≡ length o + expr_size c + 4 + acts_size f a
    → m ≡ o ++ expr_code f.areas c 0 (length o) → p ≡ m ++ bares (Eq 1 0 ∷ []) → q ≡ p ++ branch second first
    → r ≡ q ++ acts_code f keeps a (length q) next → n ≡ r ++ acts_code f keeps b (length r) next
    → n ≡ o ++ tested (expr_code f.areas c 0 (length o)) (acts_entry a (length o + expr_size c + 4) next) (acts_entry b (length o + expr_size c + 4 + acts_size f a) next)
    (acts_code f keeps a (length o + expr_size c + 4) next) (acts_code f keeps b (length o + expr_size c + 4 + acts_size f a) next)
test_put f keeps next c a b o m p q r n first second to_first to_second at_first at_second one two three four five =
    five_parts o m p q r n _ _ _ _ _ one two three four five
    ∙ (λ i. o ++ tested (expr_code f.areas c 0 (length o)) (to_first i) (to_second i) (acts_code f keeps a (at_first i) next) (acts_code f keeps b (at_second i) next))

-- a copy's classes and their lists, as they are put
pub class_put : (f : Frame) (keeps : Bool) (next k : ℕ) (a b c : List Act) (o m p q r n : List Line) (single private rest second : ℕ)
    → single ≡ acts_entry a (length o + 12) next → private ≡ acts_entry b (length o + 12 + acts_size f a) next → rest ≡ acts_entry c (length o + 12 + acts_size f a + acts_size f b) next
    → second ≡ length o + 6 → length p ≡ length o + 12 → length q ≡ length o + 12 + acts_size f a → length r ≡ length o + 12 + acts_size f a + acts_size f b
    → m ≡ o ++ class_test keeps k 1 single second → p ≡ m ++ class_test keeps k 2 private rest
    → q ≡ p ++ acts_code f keeps a (length p) next → r ≡ q ++ acts_code f keeps b (length q) next → n ≡ r ++ acts_code f keeps c (length r) next
    → n ≡ o ++ classed keeps k (length o) (acts_entry a (length o + 12) next) (acts_entry b (length o + 12 + acts_size f a) next) (acts_entry c (length o + 12 + acts_size f a + acts_size f b) next)
    (acts_code f keeps a (length o + 12) next) (acts_code f keeps b (length o + 12 + acts_size f a) next) (acts_code f keeps c (length o + 12 + acts_size f a + acts_size f b) next)
class_put f keeps next k a b c o m p q r n single private rest second to_single to_private to_rest to_second at_single at_private at_rest one two three four five =
    five_parts o m p q r n _ _ _ _ _ one two three four five
    ∙ (λ i. o ++ (class_test keeps k 1 (to_single i) (to_second i) ++ (class_test keeps k 2 (to_private i) (to_rest i)
    ++ (acts_code f keeps a (at_single i) next ++ (acts_code f keeps b (at_private i) next ++ acts_code f keeps c (at_rest i) next)))))

-- an act without lists that jumps nowhere but to the next act
pub record IsSimple (a : Act) : Type 0 where
  pub not_restore : (r : ℕ) → a ≡ act.Restore r → ⊥
  pub not_save : (r : ℕ) → a ≡ act.Save r → ⊥
  pub not_test : (c : CoreExpr) (x y : List Act) → a ≡ act.Test c x y → ⊥
  pub not_choose : (k : ℕ) (x y : List Act) → a ≡ act.Choose k x y → ⊥
  pub not_leave : (k : ℕ) (x : List Act) → a ≡ act.Leave k x → ⊥
  pub not_class : (k : ℕ) (x y z : List Act) → a ≡ act.ByClass k x y z → ⊥
  pub not_keep : (k : ℕ) → a ≡ act.KeepWords k → ⊥
  pub not_put : (k : ℕ) → a ≡ act.PutWords k → ⊥
  pub not_commit : (t : ℕ) → a ≡ act.Commit t → ⊥

abbrev IsSimply : Frame → Bool → (at next : ℕ) → Act → Type 0
IsSimply f keeps at next a = IsSimple a → (act_code f keeps a at next ≡ simple_code f a at ++ jump next) × (act_size f a ≡ simple_size f a + 1)

pub simple_is : (f : Frame) (keeps : Bool) (at next : ℕ) (a : Act) → IsSimply f keeps at next a
simple_is f keeps at next = for_every (IsSimply f keeps at next) (record {
  restores = λ r s. absurd (s.not_restore r refl);
  begins = λ t s. (refl, refl);
  saves = λ r s. absurd (s.not_save r refl);
  locks = λ r s. (refl, refl);
  plain = λ x s. (refl, refl);
  test = λ c x y _ _ s. absurd (s.not_test c x y refl);
  values = λ k s. (refl, refl);
  looks = λ k s. (refl, refl);
  choose = λ k x y _ _ s. absurd (s.not_choose k x y refl);
  drops = λ k s. (refl, refl);
  issues = λ k s. (refl, refl);
  seals = λ k s. (refl, refl);
  takes = λ k s. (refl, refl);
  writes = λ k s. (refl, refl);
  enters = λ k s. (refl, refl);
  leaves = λ k x _ s. absurd (s.not_leave k x refl);
  by_class = λ k x y z _ _ _ s. absurd (s.not_class k x y z refl);
  transfers = λ k leg s. (refl, refl);
  keeps_words = λ k s. absurd (s.not_keep k refl);
  puts_words = λ k s. absurd (s.not_put k refl);
  commits = λ t s. absurd (s.not_commit t refl);
})

pub simple_lines : (f : Frame) (keeps : Bool) (next : ℕ) (a : Act) → IsSimple a → (o m n : List Line) → m ≡ o ++ simple_code f a (length o) → n ≡ m ++ jump next → n ≡ o ++ act_code f keeps a (length o) next
simple_lines f keeps next a simple o m n one two =
    two_parts o m n (simple_code f a (length o)) (jump next) one two ∙ ap (λ (x : List Line). o ++ x) (sym (simple_is f keeps (length o) next a simple).0)

pub simple_count : (f : Frame) (a : Act) → IsSimple a → (o m n : ℕ) → m ≡ o + simple_size f a → n ≡ m + 1 → n ≡ o + act_size f a
simple_count f a simple o m n one two =
    let size : act_size f a ≡ simple_size f a + 1 = (simple_is f false 0 0 a simple).1 in
    omega (arith, one, two, size)

-- what stands behind a place
pub behind_is : (acts : List Act) (k : ℕ) → take (length acts - k) (drop k acts) ≡ drop k acts
behind_is acts k = take_all (length acts - k) (drop k acts) (omega (arith, length-drop k acts))

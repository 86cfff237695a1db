-- The head leads to the running task's boot stub, and sets the fixed registers.
use Rattle.act_laws.specs.Templates.{HeadDoes}
use Rattle.std.specs.Prelude.{◌==◌, if◌then◌else◌, ◌-◌, nat_lt, not, cond}
use Rattle.std.proofs.Common.{◌≡◌, ℕ, zero, suc, ◌+◌, ◌*◌, ◌/◌, ◌%◌, ◌^◌, ◌<◌, ◌≤◌, Bool, true, false, List, [], ◌∷◌, ◌++◌, length, refl, ap, subst, length-append, arith}
use Rattle.std.proofs.lemmas.Bool.Decides.{nat_tests}
use Rattle.fram_ram.specs.Memories.{has_word}
use Rattle.word_isa.specs.declared.instr.Instr.TheVariants.{Ld, Ldi, Ltu, Jz, Jmp, Rem, Shr}
use Rattle.word_machine.specs.State.{Program}
use Rattle.word_machine.specs.Straight.{Spot}
use Rattle.line_code.specs.declared.line.Line.{Line}
use Rattle.line_code.specs.Lines.{bares}
use Rattle.word_code.specs.Heads.{fix_code, boot_at, leaf_code, tree_code, head_code}
use Rattle.line_laws.specs.Standing.{Lie, lie_front, lie_behind}
use Rattle.act_laws.specs.Codes.{Fixed, HasFixed, End, Acts, after_code}
use Rattle.act_laws.specs.CodeLaws.{acts_most, line_then, when_then, jump_then, arrived}
use Rattle.act_laws.specs.Words.{fixed_of}

-- the leaves that so many levels of a tree have
abbrev pub leaves : ℕ → ℕ
leaves zero = 1
leaves (suc deep) = leaves deep + leaves deep

less : (a b : ℕ) → nat_lt a b ≡ true → a < b
less a b h = grind (arith, nat_tests)

no_less : (a b : ℕ) → nat_lt a b ≡ false → b ≤ a
no_less a b h = grind (arith, nat_tests)

bit_is_zero : (b : Bool) → ((if b then 1 else 0) == 0) ≡ not b
bit_is_zero true = refl
bit_is_zero false = refl

-- the lines of a node, and of the two trees behind it
abbrev node_lines : (first count at : ℕ) → List Line
node_lines first count at = bares (Ldi 2 (first + count / 2 - 1) ∷ Ltu 2 1 ∷ Jz 2 1 ∷ Jmp (at + 5 * (count / 2)) ∷ [])

-- a tree has five lines a leaf, but for four
long_by : (b : Bool) (count : ℕ) (tasks first at : ℕ) (left right : List Line) → 0 < count → nat_lt 1 count ≡ b
    → (b ≡ true → length left + 4 ≡ 5 * (count / 2)) → (b ≡ true → length right + 4 ≡ 5 * (count - count / 2))
    → length (cond b (node_lines first count at ++ (left ++ right)) (leaf_code tasks first)) + 4 ≡ 5 * count
long_by true count tasks first at left right some is one two = omega (arith, length-append left right, one refl, two refl, less 1 count is)
long_by false count tasks first at left right some is one two = omega (arith, some, no_less 1 count is)

no_node : (count : ℕ) (code : List Line) (n : ℕ) → count ≤ 1 → 1 < count → length code + 4 ≡ 5 * n
no_node count code n few more = absurd (omega (arith, few, more))

pub tree_long : (deep k tasks first count at : ℕ) → 0 < count → count ≤ leaves k → k ≤ deep → length (tree_code tasks deep first count at) + 4 ≡ 5 * count
tree_long zero zero tasks first count at some few low = omega (arith, some, few)
tree_long zero (suc k) tasks first count at some few low = absurd (omega (arith, low))
tree_long (suc deep) zero tasks first count at some few low =
    let left : List Line = tree_code tasks deep first (count / 2) (at + 4) in
    let right : List Line = tree_code tasks deep (first + count / 2) (count - count / 2) (at + 5 * (count / 2)) in
    long_by (nat_lt 1 count) count tasks first at left right some refl (λ is. no_node count left (count / 2) few (less 1 count is)) (λ is. no_node count right (count - count / 2) few (less 1 count is))
tree_long (suc deep) (suc k) tasks first count at some few low =
    long_by (nat_lt 1 count) count tasks first at (tree_code tasks deep first (count / 2) (at + 4)) (tree_code tasks deep (first + count / 2) (count - count / 2) (at + 5 * (count / 2))) some refl
    (λ is. tree_long deep k tasks first (count / 2) (at + 4) (omega (arith, less 1 count is)) (omega (arith, few)) (omega (arith, low)))
    (λ is. tree_long deep k tasks (first + count / 2) (count - count / 2) (at + 5 * (count / 2)) (omega (arith, some)) (omega (arith, few)) (omega (arith, low)))

-- what a tree does for a number in register 1
abbrev TreeActs : (p : Program) (x : Fixed) (most tasks t at : ℕ) (code : List Line) → Type 0
TreeActs p x most tasks t at code = (s : Spot) → HasFixed x s → s.pc ≡ at → s.regs 1 ≡ t → Lie p at code → Acts p x most s (record { pc = boot_at tasks t; store = s.store; issued = s.issued; atoms = [] })

leaf_acts : (p : Program) (x : Fixed) (most tasks first t at : ℕ) → first ≡ t → 1 ≤ most → TreeActs p x most tasks t at (leaf_code tasks first)
leaf_acts p x most tasks first t at same few s h here is has =
    jump_then p x 0 most (boot_at tasks first) s _ (rw here has) (arrived p x 0 _ _ h (ap (boot_at tasks) same) refl refl refl) (omega (arith, few))

-- a node leads into the tree that has the number
node_acts : (p : Program) (x : Fixed) (most tasks first count t at : ℕ) (left right : List Line) → length left + 4 ≡ 5 * (count / 2) → 1 < count
    → (nat_lt (first + count / 2 - 1) t ≡ false → TreeActs p x most tasks t (at + 4) left)
    → (nat_lt (first + count / 2 - 1) t ≡ true → TreeActs p x most tasks t (at + 5 * (count / 2)) right)
    → TreeActs p x (most + 4) tasks t at (node_lines first count at ++ (left ++ right))
node_acts p x most tasks first count t at left right long more left_acts right_acts s h here is has =
    let last : ℕ = first + count / 2 - 1 in
    let test : List Line = bares (Ldi 2 last ∷ Ltu 2 1 ∷ []) in
    let u : Spot = after_code p test s in
    let right_at : ℕ = at + 5 * (count / 2) in
    let behind : Lie p (at + 4) (left ++ right) = lie_behind p at (node_lines first count at) (left ++ right) (at + 4) has refl in
    let at_right : Lie p right_at right = lie_behind p (at + 4) left right right_at behind (omega (arith, long, more)) in
    line_then p x (most + 2) (most + 4) test s _ [] (rw here (has.0, (has.1.0, tt))) refl
    (when_then p x most (most + 2) 2 right_at u _ (not (nat_lt last t)) (rw here (has.1.1.0, (has.1.1.1.0, tt))) (rw is (bit_is_zero (nat_lt last t)))
    (λ e. left_acts (not_true (nat_lt last t) e) (record u { pc = u.pc + 1 + 1; clock = u.clock + 1 }) h (omega (arith, here)) is (lie_front p (at + 4) left right behind))
    (λ e. right_acts (not_false (nat_lt last t) e) (record u { pc = right_at; clock = u.clock + 1 + 1 }) h refl is at_right)
    (omega arith))
    (omega arith) refl
  where
    not_true : (b : Bool) → not b ≡ true → b ≡ false
    not_true true h = cc
    not_true false h = refl

    not_false : (b : Bool) → not b ≡ false → b ≡ true
    not_false true h = refl
    not_false false h = cc

acts_by : (b : Bool) (p : Program) (x : Fixed) (most tasks t at : ℕ) (node leaf : List Line) → (b ≡ true → TreeActs p x most tasks t at node) → (b ≡ false → TreeActs p x most tasks t at leaf) → TreeActs p x most tasks t at (cond b node leaf)
acts_by true p x most tasks t at node leaf one two = one refl
acts_by false p x most tasks t at node leaf one two = two refl

-- a tree leads each of its numbers to its stub, in four steps a level and one more
pub tree_acts : (deep k : ℕ) (p : Program) (x : Fixed) (tasks first count t at : ℕ) → 0 < count → count ≤ leaves k → k ≤ deep → first ≤ t → t < first + count → TreeActs p x (4 * k + 1) tasks t at (tree_code tasks deep first count at)
tree_acts zero zero p x tasks first count t at some few low from to = leaf_acts p x 1 tasks first t at (omega (arith, some, few, from, to)) (omega arith)
tree_acts zero (suc k) p x tasks first count t at some few low from to = absurd (omega (arith, low))
tree_acts (suc deep) zero p x tasks first count t at some few low from to =
    acts_by (nat_lt 1 count) p x 1 tasks t at _ (leaf_code tasks first) (λ is. absurd (omega (arith, few, less 1 count is))) (λ is. leaf_acts p x 1 tasks first t at (omega (arith, some, few, from, to)) (omega arith))
tree_acts (suc deep) (suc k) p x tasks first count t at some few low from to =
    let left : List Line = tree_code tasks deep first (count / 2) (at + 4) in
    let right : List Line = tree_code tasks deep (first + count / 2) (count - count / 2) (at + 5 * (count / 2)) in
    acts_by (nat_lt 1 count) p x (4 * suc k + 1) tasks t at (node_lines first count at ++ (left ++ right)) (leaf_code tasks first)
    (λ is s h here number has. acts_most p x (4 * k + 1 + 4) (4 * suc k + 1) s _
    (node_acts p x (4 * k + 1) tasks first count t at left right (tree_long deep k tasks first (count / 2) (at + 4) (omega (arith, less 1 count is)) (omega (arith, few)) (omega (arith, low))) (less 1 count is)
    (λ under. tree_acts deep k p x tasks first (count / 2) t (at + 4) (omega (arith, less 1 count is)) (omega (arith, few)) (omega (arith, low)) from (omega (arith, no_less (first + count / 2 - 1) t under, less 1 count is)))
    (λ above. tree_acts deep k p x tasks (first + count / 2) (count - count / 2) t (at + 5 * (count / 2)) (omega (arith, some)) (omega (arith, few)) (omega (arith, low)) (omega (arith, less (first + count / 2 - 1) t above, less 1 count is)) (omega (arith, to)))
    s h here number has) (omega arith))
    (λ is. leaf_acts p x (4 * suc k + 1) tasks first t at (omega (arith, no_less 1 count is, some, from, to)) (omega arith))

-- the fixed registers and the task's number, in register 1
abbrev head_line : (stride : ℕ) → List Line
head_line stride = fix_code stride ++ bares (Ld 1 0 0 ∷ Ldi 2 256 ∷ Rem 1 2 ∷ Ldi 2 1 ∷ Shr 1 2 ∷ [])

-- so many leaves need no more levels than they are, and seven are enough for 65
some_leaf : (n : ℕ) → 1 ≤ leaves n
some_leaf zero = omega arith
some_leaf (suc n) = omega (arith, some_leaf n)

as_many : (n : ℕ) → n ≤ leaves n
as_many zero = omega arith
as_many (suc n) = omega (arith, as_many n, some_leaf n)

record Levels (n : ℕ) : Type 0 where
  levels : ℕ
  few : levels ≤ 7
  low : levels ≤ n
  enough : n ≤ leaves levels

levels_of : (b : Bool) (n : ℕ) → nat_lt n 7 ≡ b → n ≤ 65 → Levels n
levels_of true n is few = record { levels = n; few = omega (arith, less n 7 is); low = omega arith; enough = as_many n }
levels_of false n is few = record { levels = 7; few = omega arith; low = omega (arith, no_less n 7 is); enough = omega (arith, few) }

-- the head leads to the running task's boot stub, or to the halt's, and its registers are right
pub head_acts : (p : Program) (stride tasks task : ℕ) (s : Spot) → HeadDoes p stride tasks task s
unfolding has_word
head_acts p stride tasks task s here few is inside has =
    let tree : List Line = tree_code tasks (tasks + 1) 0 (tasks + 1) 19 in
    let x : Fixed = fixed_of stride (s.store 0) in
    let t : Spot = after_code p (head_line stride) s in
    let k : Levels (tasks + 1) = levels_of (nat_lt (tasks + 1) 7) (tasks + 1) refl (omega (arith, few)) in
    line_then p x 29 48 (head_line stride) s (record { pc = boot_at tasks task; store = s.store; issued = s.issued; atoms = [] }) [] (rw here (lie_front p 0 (head_line stride) tree has)) refl
    (acts_most p x (4 * k.levels + 1) 29 t _
    (tree_acts (tasks + 1) k.levels p x tasks 0 (tasks + 1) task 19 (omega arith) k.enough k.low (omega arith) (omega (arith, inside)) t (refl, refl, refl, refl, refl) (omega (arith, here)) is (lie_behind p 0 (head_line stride) tree 19 has refl))
    (omega (arith, k.few)))
    (omega arith) refl

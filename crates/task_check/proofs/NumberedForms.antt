-- Numbering the sites of checked statements changes nothing but their numbers, which are then those from one on.
use Rattle.std.proofs.Common.{◌≡◌, ◌∙◌, ℕ, zero, suc, ◌+◌, Bool, true, List, [], ◌∷◌, ◌++◌, length, refl, sym, ap, subst, arith, length-append}
use Rattle.std.specs.Prelude.{sum_by}
use Rattle.std.specs.List.{AllByRecursion, range_with_len}
use Rattle.std.proofs.lemmas.List.Sums.{sum_by-cons}
use Rattle.task_ast.specs.declared.core_form.Array.{Array}
use Rattle.task_ast.specs.declared.core_form.CoreStmt.{CoreStmt}
use Rattle.task_ast.specs.CoreStatements as statements
use Rattle.task_ast.specs.CoreNodes.{stmt_nodes, expr_nodes, nodes_if, nodes_loop, nodes_block}
use Rattle.task_ast.specs.CoreSites.{Standing, a_block, site_numbers, all_numbers, numbers_if, numbers_loop, numbers_block, standings, all_standings, standings_if, standings_loop, standings_block}
use Rattle.task_ast.specs.Pointing.{Pointing, addresses, all_addresses, addresses_if, addresses_loop, addresses_block}
use Rattle.task_ast.specs.WellFormed.{Scope, IsCoreStmt, core_if, core_loop, core_block}
use Rattle.task_check.specs.Numbering.{numbered, all_numbered, numbered_if, numbered_loop, numbered_block}

-- numbers from k on, in two parts
range_append : (k m n : ℕ) → range_with_len k (m + n) ≡ range_with_len k m ++ range_with_len (k + m) n
range_append k zero n = let e : k ≡ k + 0 = omega arith in let f : zero + n ≡ n = omega arith in λ i. range_with_len (e i) (f i)
range_append k (suc m) n =
    let e : k + 1 + m ≡ k + suc m = omega arith in
    let f : suc m + n ≡ suc (m + n) = omega arith in
    ap (range_with_len k) f ∙ ap (λ l. k ∷ l) (range_append (k + 1) m n ∙ ap (λ j. range_with_len (k + 1) m ++ range_with_len j n) e)

-- what is claimed of a statement at every number
abbrev IsNumbered : CoreStmt → Type 0
IsNumbered s = (k : ℕ) → site_numbers (numbered k s) ≡ range_with_len k (length (site_numbers s))

body_numbers_are : (body : List CoreStmt) → AllByRecursion IsNumbered body → (k : ℕ) → all_numbers (all_numbered k body) ≡ range_with_len k (length (all_numbers body))
body_numbers_are [] h k = refl
body_numbers_are (s ∷ body) h k =
    (λ i. h.0 k i ++ body_numbers_are body h.1 (k + length (site_numbers s)) i)
    ∙ sym (range_append k (length (site_numbers s)) (length (all_numbers body)))
    ∙ ap (range_with_len k) (sym (length-append (site_numbers s) (all_numbers body)))

stmt_numbers_are : (s : CoreStmt) → IsNumbered s
stmt_numbers_are = statements.for_every IsNumbered (record {
  assign = λ x e k. refl;
  point = λ p array i k. refl;
  choose = λ c ys ns p q k.
      ap site_numbers (numbered_if k c ys ns) ∙ numbers_if c (all_numbered k ys) (all_numbered (k + length (all_numbers ys)) ns)
      ∙ (λ i. body_numbers_are ys p k i ++ body_numbers_are ns q (k + length (all_numbers ys)) i)
      ∙ sym (range_append k (length (all_numbers ys)) (length (all_numbers ns)))
      ∙ ap (range_with_len k) (sym (ap length (numbers_if c ys ns) ∙ length-append (all_numbers ys) (all_numbers ns)));
  loop = λ i turns body p k.
      ap site_numbers (numbered_loop k i turns body) ∙ numbers_loop i turns (all_numbered k body) ∙ body_numbers_are body p k ∙ ap (λ l. range_with_len k (length l)) (sym (numbers_loop i turns body));
  io = λ site x p args k. refl;
  block = λ site body p k.
      ap site_numbers (numbered_block k site body) ∙ numbers_block k (all_numbered (k + 1) body) ∙ ap (λ l. k ∷ l) (body_numbers_are body p (k + 1))
      ∙ ap (λ l. range_with_len k (length l)) (sym (numbers_block site body));
  copy = λ site to from n k. refl;
})

every : (P : CoreStmt → Type 0) → ((s : CoreStmt) → P s) → (body : List CoreStmt) → AllByRecursion P body
every P f [] = tt
every P f (s ∷ body) = (f s, every P f body)

-- the numbers are those from k on
pub numbers_are : (k : ℕ) (body : List CoreStmt) → all_numbers (all_numbered k body) ≡ range_with_len k (length (all_numbers body))
numbers_are k body = body_numbers_are body (every IsNumbered stmt_numbers_are body) k

-- The addresses are the same.
abbrev KeepsAddresses : ℕ → CoreStmt → Type 0
KeepsAddresses p s = (k : ℕ) → addresses p (numbered k s) ≡ addresses p s

body_addresses : (p : ℕ) (body : List CoreStmt) → AllByRecursion (KeepsAddresses p) body → (k : ℕ) → all_addresses p (all_numbered k body) ≡ all_addresses p body
body_addresses p [] h k = refl
body_addresses p (s ∷ body) h k = λ i. h.0 k i ++ body_addresses p body h.1 (k + length (site_numbers s)) i

stmt_addresses : (p : ℕ) (s : CoreStmt) → KeepsAddresses p s
stmt_addresses p = statements.for_every (KeepsAddresses p) (record {
  assign = λ x e k. refl;
  point = λ q array i k. refl;
  choose = λ c ys ns g h k.
      ap (addresses p) (numbered_if k c ys ns) ∙ addresses_if p c (all_numbered k ys) (all_numbered (k + length (all_numbers ys)) ns)
      ∙ (λ i. body_addresses p ys g k i ++ body_addresses p ns h (k + length (all_numbers ys)) i) ∙ sym (addresses_if p c ys ns);
  loop = λ i turns body g k. ap (addresses p) (numbered_loop k i turns body) ∙ addresses_loop p i turns (all_numbered k body) ∙ body_addresses p body g k ∙ sym (addresses_loop p i turns body);
  io = λ site x q args k. refl;
  block = λ site body g k. ap (addresses p) (numbered_block k site body) ∙ addresses_block p k (all_numbered (k + 1) body) ∙ body_addresses p body g (k + 1) ∙ sym (addresses_block p site body);
  copy = λ site to from n k. refl;
})

pub addresses_kept : (p k : ℕ) (body : List CoreStmt) → all_addresses p (all_numbered k body) ≡ all_addresses p body
addresses_kept p k body = body_addresses p body (every (KeepsAddresses p) (stmt_addresses p) body) k

-- What stands at the sites is the same.
abbrev KeepsStandings : List Array → Pointing → CoreStmt → Type 0
KeepsStandings arrays points s = (k : ℕ) → standings arrays points (numbered k s) ≡ standings arrays points s

body_standings : (arrays : List Array) (points : Pointing) (body : List CoreStmt) → AllByRecursion (KeepsStandings arrays points) body → (k : ℕ) → all_standings arrays points (all_numbered k body) ≡ all_standings arrays points body
body_standings arrays points [] h k = refl
body_standings arrays points (s ∷ body) h k = λ i. h.0 k i ++ body_standings arrays points body h.1 (k + length (site_numbers s)) i

stmt_standings : (arrays : List Array) (points : Pointing) (s : CoreStmt) → KeepsStandings arrays points s
stmt_standings arrays points = statements.for_every (KeepsStandings arrays points) (record {
  assign = λ x e k. refl;
  point = λ q array i k. refl;
  choose = λ c ys ns g h k.
      ap (standings arrays points) (numbered_if k c ys ns) ∙ standings_if arrays points c (all_numbered k ys) (all_numbered (k + length (all_numbers ys)) ns)
      ∙ (λ i. body_standings arrays points ys g k i ++ body_standings arrays points ns h (k + length (all_numbers ys)) i) ∙ sym (standings_if arrays points c ys ns);
  loop = λ i turns body g k.
      ap (standings arrays points) (numbered_loop k i turns body) ∙ standings_loop arrays points i turns (all_numbered k body) ∙ body_standings arrays points body g k ∙ sym (standings_loop arrays points i turns body);
  io = λ site x q args k. refl;
  block = λ site body g k.
      ap (standings arrays points) (numbered_block k site body) ∙ standings_block arrays points k (all_numbered (k + 1) body)
      ∙ ap (λ (l : List Standing). a_block ∷ l) (body_standings arrays points body g (k + 1)) ∙ sym (standings_block arrays points site body);
  copy = λ site to from n k. refl;
})

pub standings_kept : (arrays : List Array) (points : Pointing) (k : ℕ) (body : List CoreStmt) → all_standings arrays points (all_numbered k body) ≡ all_standings arrays points body
standings_kept arrays points k body = body_standings arrays points body (every (KeepsStandings arrays points) (stmt_standings arrays points) body) k

-- The nodes are the same.
abbrev KeepsNodes : CoreStmt → Type 0
KeepsNodes s = (k : ℕ) → stmt_nodes (numbered k s) ≡ stmt_nodes s

body_nodes_kept : (body : List CoreStmt) → AllByRecursion KeepsNodes body → (k : ℕ) → sum_by stmt_nodes (all_numbered k body) ≡ sum_by stmt_nodes body
body_nodes_kept [] h k = refl
body_nodes_kept (s ∷ body) h k =
    sum_by-cons stmt_nodes (numbered k s) (all_numbered (k + length (site_numbers s)) body) ∙ (λ i. h.0 k i + body_nodes_kept body h.1 (k + length (site_numbers s)) i) ∙ sym (sum_by-cons stmt_nodes s body)

stmt_nodes_kept : (s : CoreStmt) → KeepsNodes s
stmt_nodes_kept = statements.for_every KeepsNodes (record {
  assign = λ x e k. refl;
  point = λ q array i k. refl;
  choose = λ c ys ns g h k.
      ap stmt_nodes (numbered_if k c ys ns) ∙ nodes_if c (all_numbered k ys) (all_numbered (k + length (all_numbers ys)) ns)
      ∙ (λ i. 1 + expr_nodes c + body_nodes_kept ys g k i + body_nodes_kept ns h (k + length (all_numbers ys)) i) ∙ sym (nodes_if c ys ns);
  loop = λ i turns body g k. ap stmt_nodes (numbered_loop k i turns body) ∙ nodes_loop i turns (all_numbered k body) ∙ ap (λ n. 1 + n) (body_nodes_kept body g k) ∙ sym (nodes_loop i turns body);
  io = λ site x q args k. refl;
  block = λ site body g k. ap stmt_nodes (numbered_block k site body) ∙ nodes_block k (all_numbered (k + 1) body) ∙ ap (λ n. 1 + n) (body_nodes_kept body g (k + 1)) ∙ sym (nodes_block site body);
  copy = λ site to from n k. refl;
})

pub nodes_kept : (k : ℕ) (body : List CoreStmt) → sum_by stmt_nodes (all_numbered k body) ≡ sum_by stmt_nodes body
nodes_kept k body = body_nodes_kept body (every KeepsNodes stmt_nodes_kept body) k

-- Well-formed statements stay so.
abbrev KeepsForm : Scope → CoreStmt → Type 0
KeepsForm s x = (k level : ℕ) (branched : Bool) (turning : List ℕ) → IsCoreStmt s level branched turning x → IsCoreStmt s level branched turning (numbered k x)

body_form_kept : (s : Scope) (body : List CoreStmt) → AllByRecursion (KeepsForm s) body → (k level : ℕ) (branched : Bool) (turning : List ℕ) → AllByRecursion (IsCoreStmt s level branched turning) body
    → AllByRecursion (IsCoreStmt s level branched turning) (all_numbered k body)
body_form_kept s [] h k level branched turning formed = tt
body_form_kept s (x ∷ body) h k level branched turning formed = (h.0 k level branched turning formed.0, body_form_kept s body h.1 (k + length (site_numbers x)) level branched turning formed.1)

none_numbered : (k : ℕ) (body : List CoreStmt) → all_numbers body ≡ [] → all_numbers (all_numbered k body) ≡ []
none_numbered k body none = numbers_are k body ∙ ap (λ l. range_with_len k (length l)) none

stmt_form_kept : (s : Scope) (x : CoreStmt) → KeepsForm s x
stmt_form_kept s = statements.for_every (KeepsForm s) (record {
  assign = λ x e k level branched turning h. h;
  point = λ q array i k level branched turning h. h;
  choose = λ c ys ns g h k level branched turning formed.
      let parts = subst (λ t. t) (core_if s level branched turning c ys ns) formed in
      subst (IsCoreStmt s level branched turning) (sym (numbered_if k c ys ns)) (subst (λ t. t) (sym (core_if s level branched turning c (all_numbered k ys) (all_numbered (k + length (all_numbers ys)) ns)))
      (parts.0, parts.1, body_form_kept s ys g k (1 + level) true turning parts.2, body_form_kept s ns h (k + length (all_numbers ys)) (1 + level) true turning parts.3));
  loop = λ i turns body g k level branched turning formed.
      let parts = subst (λ t. t) (core_loop s level branched turning i turns body) formed in
      subst (IsCoreStmt s level branched turning) (sym (numbered_loop k i turns body)) (subst (λ t. t) (sym (core_loop s level branched turning i turns (all_numbered k body)))
      (parts.0, parts.1, parts.2, parts.3, none_numbered k body parts.4, body_form_kept s body g k (1 + level) branched (i ∷ turning) parts.5));
  io = λ site x q args k level branched turning h. h;
  block = λ site body g k level branched turning formed.
      let parts = subst (λ t. t) (core_block s level branched turning site body) formed in
      subst (IsCoreStmt s level branched turning) (sym (numbered_block k site body)) (subst (λ t. t) (sym (core_block s level branched turning k (all_numbered (k + 1) body)))
      (parts.0, body_form_kept s body g (k + 1) (1 + level) branched turning parts.1));
  copy = λ site to from n k level branched turning h. h;
})

pub form_kept : (s : Scope) (k level : ℕ) (branched : Bool) (turning : List ℕ) (body : List CoreStmt) → AllByRecursion (IsCoreStmt s level branched turning) body → AllByRecursion (IsCoreStmt s level branched turning) (all_numbered k body)
form_kept s k level branched turning body = body_form_kept s body (every (KeepsForm s) (stmt_form_kept s) body) k level branched turning

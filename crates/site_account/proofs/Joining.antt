-- What is put behind one another, part by part.
use Rattle.std.proofs.Common.{◌≡◌, ◌∙◌, ℕ, zero, suc, ◌+◌, ◌-◌, ◌<◌, ◌==◌, length, Bool, true, false, cond, filter, map, arith, None, List, [], ◌∷◌, ◌++◌, Result, Ok, Err, refl, sym, ap, append_assoc}
use Rattle.std.specs.Prelude.{OnOk, slice_get, slice_index_or}
use Rattle.std.specs.List.{range_with_len}
use Rattle.std.proofs.lemmas.Bool.{ne_eqb}
use Rattle.std.proofs.lemmas.List.{append-nil}
use Rattle.ease_base.specs.declared.place.Pos.{Pos}
use Rattle.site_account.specs.Account.{Facts, stmt_lines, body_lines, block_line, lines_if, lines_loop, lines_block}
use Rattle.site_account.specs.Places.{standing, stmt_places, body_places, places_if, places_for, places_block}
use Rattle.site_account.specs.declared.places.SitePlace.{SitePlace}
use Rattle.site_account.specs.declared.places.SiteWord.TheVariants as word
use Rattle.task_ast.specs.CoreSites.{site_numbers, all_numbers, numbers_if, numbers_loop, numbers_block}
use Rattle.task_ast.specs.declared.core_form.CoreExpr.{CoreExpr}
use Rattle.task_ast.specs.declared.core_form.CoreStmt.{CoreStmt}
use Rattle.task_ast.specs.declared.core_form.CoreStmt.TheVariants as core
use Rattle.task_ast.specs.declared.tree.Ann.{Ann}
use Rattle.task_ast.specs.declared.tree.Expr.{Expr}
use Rattle.task_ast.specs.declared.tree.Name.{Name}
use Rattle.task_ast.specs.declared.tree.Stmt.{Stmt}
use Rattle.task_ast.specs.declared.tree.Stmt.TheVariants as stmt
use Rattle.task_check.specs.Sites.{repeated}

-- what follows from what holds where a result is Ok
pub on_ok : {T E P Q : Type 0} (r : Result T E) → (P → Q) → OnOk r P → OnOk r Q
on_ok (Ok v) f h = f h
on_ok (Err e) f h = h

-- one part, and two parts one after another, are the whole
pub one_part : {A : Type 0} (o x xs whole : List A) → whole ≡ xs → x ≡ o ++ xs → x ≡ o ++ whole
one_part o x xs whole is put = put ∙ ap (λ l. o ++ l) (sym is)

pub two_parts : {A : Type 0} (o o1 o2 xs ys whole : List A) → whole ≡ xs ++ ys → o1 ≡ o ++ xs → o2 ≡ o1 ++ ys → o2 ≡ o ++ whole
two_parts o o1 o2 xs ys whole is first second =
    second ∙ ap (λ l. l ++ ys) first ∙ append_assoc o xs ys ∙ ap (λ l. o ++ l) (sym is)

-- nothing, so many times
pub nothing_repeated : {A : Type 0} (n : ℕ) → repeated {A = A} n [] ≡ []
nothing_repeated zero = refl
nothing_repeated (suc n) = nothing_repeated n

no_items : {A : Type 0} (b : Bool) (xs : List A) → b ≡ (length xs == 0) → b ≡ true → xs ≡ []
no_items b [] tested empty = refl
no_items b (x ∷ xs) tested empty = let some : (length (x ∷ xs) == 0) ≡ false = ne_eqb (length (x ∷ xs)) 0 (λ e. omega (arith, e)) in cc

pub none_repeated : {A : Type 0} (n : ℕ) (o xs : List A) (b : Bool) → b ≡ (length xs == 0) → b ≡ true → o ≡ o ++ repeated n xs
none_repeated n o xs b tested empty = let is = no_items b xs tested empty in sym (append-nil o) ∙ ap (λ l. o ++ l) (sym (ap (repeated n) is ∙ nothing_repeated n))

-- one turn more
pub turn_more : {A : Type 0} (turns done : ℕ) (o after xs whole : List A) → done < turns → o ++ repeated (turns - done) xs ≡ whole → after ≡ o ++ xs → after ++ repeated (turns - (done + 1)) xs ≡ whole
turn_more turns done o after xs whole more is put =
    let m : ℕ = turns - (done + 1) in
    let left : turns - done ≡ suc m = omega (arith, more) in
    ap (λ l. l ++ repeated m xs) put ∙ append_assoc o xs (repeated m xs) ∙ ap (λ n. o ++ repeated n xs) (sym left) ∙ is

-- one number more of a range, where the test gives true
with_one : (b : Bool) (row rest : List ℕ) (k : ℕ) → (row ++ cond b (k ∷ []) []) ++ rest ≡ row ++ cond b (k ∷ rest) rest
with_one true row rest k = append_assoc row (k ∷ []) rest
with_one false row rest k = ap (λ l. l ++ rest) (append-nil row)

pub number_more : (f : ℕ → Bool) (count before : ℕ) (row after whole : List ℕ) (b : Bool) → before < count
    → row ++ filter f (range_with_len (before + 1) (count - before)) ≡ whole → b ≡ f (before + 1) → after ≡ row ++ cond b ((before + 1) ∷ []) []
    → after ++ filter f (range_with_len (before + 1 + 1) (count - (before + 1))) ≡ whole
number_more f count before row after whole b more is tested put =
    let m : ℕ = count - (before + 1) in
    let left : count - before ≡ suc m = omega (arith, more) in
    let rest : List ℕ = filter f (range_with_len (before + 1 + 1) m) in
    ap (λ l. l ++ rest) put ∙ with_one b row rest (before + 1) ∙ ap (λ t. row ++ cond t ((before + 1) ∷ rest) rest) tested
    ∙ ap (λ n. row ++ filter f (range_with_len (before + 1) n)) (sym left) ∙ is

-- past the end of a list there is nothing
pub none_there : {A B : Type 0} (f : A → List B) (xs : List A) (n : ℕ) → None ≡ slice_get xs n → slice_index_or (map f xs) n [] ≡ []
none_there f [] n none = refl
none_there f (x ∷ xs) zero none = cc
none_there f (x ∷ xs) (suc n) none = none_there f xs n none

-- ---- numbers of sites

pub numbers_in_if : (s : CoreStmt) (e : CoreExpr) (ys ns got other : List CoreStmt) → s ≡ core.If e ys ns → got ≡ ys → other ≡ ns → site_numbers s ≡ all_numbers got ++ all_numbers other
numbers_in_if s e ys ns got other is at_ys at_ns = ap site_numbers is ∙ numbers_if e ys ns ∙ (λ i. all_numbers (sym at_ys i) ++ all_numbers (sym at_ns i))

pub numbers_in_loop : (s : CoreStmt) (v turns : ℕ) (body got : List CoreStmt) → s ≡ core.Loop v turns body → got ≡ body → site_numbers s ≡ all_numbers got
numbers_in_loop s v turns body got is at = ap site_numbers is ∙ numbers_loop v turns body ∙ ap all_numbers (sym at)

pub numbers_in_block : (s : CoreStmt) (k : ℕ) (body got : List CoreStmt) → s ≡ core.Block k body → got ≡ body → site_numbers s ≡ (k ∷ []) ++ all_numbers got
numbers_in_block s k body got is at = ap site_numbers is ∙ numbers_block k body ∙ ap (λ (l : List CoreStmt). k ∷ all_numbers l) (sym at)

-- ---- lines of sites

pub lines_in_if : (f : Facts) (s : CoreStmt) (e : CoreExpr) (ys ns got other : List CoreStmt) → s ≡ core.If e ys ns → got ≡ ys → other ≡ ns → stmt_lines f s ≡ body_lines f got ++ body_lines f other
lines_in_if f s e ys ns got other is at_ys at_ns = ap (stmt_lines f) is ∙ lines_if f e ys ns ∙ (λ i. body_lines f (sym at_ys i) ++ body_lines f (sym at_ns i))

pub lines_in_loop : (f : Facts) (s : CoreStmt) (v turns : ℕ) (body got : List CoreStmt) → s ≡ core.Loop v turns body → got ≡ body → stmt_lines f s ≡ body_lines f got
lines_in_loop f s v turns body got is at = ap (stmt_lines f) is ∙ lines_loop f v turns body ∙ ap (body_lines f) (sym at)

pub lines_in_block : (f : Facts) (s : CoreStmt) (k : ℕ) (body got other : List CoreStmt) → s ≡ core.Block k body → got ≡ body → other ≡ body
    → stmt_lines f s ≡ block_line f k (all_numbers got) ++ body_lines f other
lines_in_block f s k body got other is at_own at_rest =
    ap (stmt_lines f) is ∙ lines_block f k body ∙ (λ i. block_line f k (all_numbers (sym at_own i)) ++ body_lines f (sym at_rest i))

-- ---- places of sites

pub places_in_if : (s : Stmt) (e : Expr) (ys ns got other : List Stmt) → s ≡ stmt.If e ys ns → got ≡ ys → other ≡ ns → stmt_places s ≡ body_places got ++ body_places other
places_in_if s e ys ns got other is at_ys at_ns = ap stmt_places is ∙ places_if e ys ns ∙ (λ i. body_places (sym at_ys i) ++ body_places (sym at_ns i))

pub places_in_for : (s : Stmt) (x : Name) (turns : ℕ) (at : Pos) (body got : List Stmt) (for_word : Pos) (fresh made turn : List SitePlace) → s ≡ stmt.For x turns at body for_word → got ≡ body
    → fresh ≡ [] → made ≡ fresh ++ body_places got → turn ≡ made → stmt_places s ≡ repeated turns turn
places_in_for s x turns at body got for_word fresh made turn is at_body no_fresh put same =
    ap stmt_places is ∙ places_for x turns at body for_word
    ∙ ap (repeated turns) (sym (same ∙ put ∙ (λ i. no_fresh i ++ body_places (at_body i))))

pub places_in_block : (s : Stmt) (a : Ann) (body got : List Stmt) (block_word : Pos) → s ≡ stmt.Block a body block_word → got ≡ body
    → stmt_places s ≡ (standing word.Block block_word ∷ []) ++ body_places got
places_in_block s a body got block_word is at =
    ap stmt_places is ∙ places_block a body block_word ∙ ap (λ (l : List Stmt). standing word.Block block_word ∷ body_places l) (sym at)

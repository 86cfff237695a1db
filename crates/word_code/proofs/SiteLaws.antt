-- The call or copy at each site of a body whose sites are numbered in order is the one that is found there.
use Rattle.std.specs.Prelude.{◌≡◌, ℕ, zero, suc, ◌+◌, ◌<◌, ◌≤◌, Bool, true, false, ◌==◌, cond, List, [], ◌∷◌, ◌++◌, length, Option, Some, None, ⊤, refl}
use Rattle.std.specs.List.{AllByRecursion, range_with_len}
use Rattle.std.proofs.Common.{ap, sym, ◌∙◌, arith, subst}
use Rattle.std.proofs.lemmas.Bool.{eqb-true, eq-eqb}
use Rattle.std.proofs.lemmas.List.FromFn.{length-range_with_len}
use Rattle.task_ast.specs.declared.core_form.CoreStmt.{CoreStmt, Row_of-CoreStmt, end_of-CoreStmt, more_of-CoreStmt}
use Rattle.task_ast.specs.declared.core_form.CoreStmt.TheVariants as stmt
use Rattle.task_ast.specs.CoreSites.{site_numbers, row_numbers, all_numbers}
use Rattle.word_code.specs.Finding.{or_else, found_in, found_in_row, found}

abbrev mutual
  -- each call and copy of a statement is what a search finds at its site
  pub IsFound : (search_at : ℕ → Option CoreStmt) → CoreStmt → Type 0
  IsFound search_at (stmt.Assign x e) = ⊤
  IsFound search_at (stmt.Point p array i) = ⊤
  IsFound search_at (stmt.If' c m yes_row n no_row) = AreFound search_at yes_row × AreFound search_at no_row
  IsFound search_at (stmt.Loop' i turns m row) = ⊤
  IsFound search_at (stmt.Io k x p args) = search_at k ≡ Some (stmt.Io k x p args)
  IsFound search_at (stmt.Block' k m row) = AreFound search_at row
  IsFound search_at (stmt.Copy k to from n) = search_at k ≡ Some (stmt.Copy k to from n)

  -- so is each of a row's statements
  pub AreFound : (search_at : ℕ → Option CoreStmt) → {n : _} → Row_of-CoreStmt n → Type 0
  AreFound search_at end_of-CoreStmt = ⊤
  AreFound search_at (more_of-CoreStmt s rest) = IsFound search_at s × AreFound search_at rest

-- the parts of numbers that stand in order stand in order
front_in_order : (xs ys : List ℕ) (m n : ℕ) → xs ++ ys ≡ range_with_len m n → xs ≡ range_with_len m (length xs)
front_in_order [] ys m n is = refl
front_in_order (x ∷ xs) ys m zero is = cc
front_in_order (x ∷ xs) ys m (suc n) is =
    let head : x ≡ m = cc in
    let tail : xs ++ ys ≡ range_with_len (m + 1) n = cc in
    (λ i. head i ∷ front_in_order xs ys (m + 1) n tail i)

back_in_order : (xs ys : List ℕ) (m n : ℕ) → xs ++ ys ≡ range_with_len m n → ys ≡ range_with_len (m + length xs) (length ys)
back_in_order [] ys m n is =
    let long : n ≡ length ys = sym (length-range_with_len m n) ∙ ap length (sym is) in
    let at : m ≡ m + 0 = omega arith in
    is ∙ (λ i. range_with_len (at i) (long i))
back_in_order (x ∷ xs) ys m zero is = cc
back_in_order (x ∷ xs) ys m (suc n) is =
    let tail : xs ++ ys ≡ range_with_len (m + 1) n = cc in
    let at : m + 1 + length xs ≡ m + suc (length xs) = omega arith in
    back_in_order xs ys (m + 1) n tail ∙ ap (λ k. range_with_len k (length ys)) at

-- no number of a range below or above it
abbrev IsNot : ℕ → ℕ → Type 0
IsNot j k = k ≡ j → ⊥

none_below : (j m n : ℕ) → j < m → AllByRecursion (IsNot j) (range_with_len m n)
none_below j m zero low = tt
none_below j m (suc n) low = ((λ e. omega (arith, e, low)), none_below j (m + 1) n (omega (arith, low)))

none_above : (j m n : ℕ) → m + n ≤ j → AllByRecursion (IsNot j) (range_with_len m n)
none_above j m zero high = tt
none_above j m (suc n) high = ((λ e. omega (arith, e, high)), none_above j (m + 1) n (omega (arith, high)))

-- all of two lists
all_front : {A : Type 0} (P : A → Type 0) (xs ys : List A) → AllByRecursion P (xs ++ ys) → AllByRecursion P xs
all_front P [] ys h = tt
all_front P (x ∷ xs) ys h = (h.0, all_front P xs ys h.1)

all_back : {A : Type 0} (P : A → Type 0) (xs ys : List A) → AllByRecursion P (xs ++ ys) → AllByRecursion P ys
all_back P [] ys h = h
all_back P (x ∷ xs) ys h = all_back P xs ys h.1

not_here : (b : Bool) (k j : ℕ) (s : CoreStmt) → (k == j) ≡ b → (k ≡ j → ⊥) → cond b (Some s) None ≡ None
not_here true k j s is other = absurd (other (eqb-true k j is))
not_here false k j s is other = refl

here : (b : Bool) (k : ℕ) (s : CoreStmt) → (k == k) ≡ b → cond b (Some s) None ≡ Some s
here true k s is = refl
here false k s is =
    let yes : (k == k) ≡ true = eq-eqb k k refl in
    absurd cc

neither : (a b : Option CoreStmt) → a ≡ None → b ≡ None → or_else a b ≡ None
neither a b one two = (λ i. or_else (one i) (two i))

mutual
  -- at a number that no site has, nothing is found
  absent : (j : ℕ) (s : CoreStmt) → AllByRecursion (IsNot j) (site_numbers s) → found_in j s ≡ None
  absent j (stmt.Assign x e) h = refl
  absent j (stmt.Point p array i) h = refl
  absent j (stmt.If' c m yes_row n no_row) h =
      neither (found_in_row j yes_row) (found_in_row j no_row) (row_absent j yes_row (all_front (IsNot j) (row_numbers yes_row) (row_numbers no_row) h)) (row_absent j no_row (all_back (IsNot j) (row_numbers yes_row) (row_numbers no_row) h))
  absent j (stmt.Loop' i turns m row) h = refl
  absent j (stmt.Io k x p args) h = not_here (k == j) k j (stmt.Io k x p args) refl h.0
  absent j (stmt.Block' k m row) h = row_absent j row h.1
  absent j (stmt.Copy k to from n) h = not_here (k == j) k j (stmt.Copy k to from n) refl h.0

  row_absent : (j : ℕ) {n : _} (row : Row_of-CoreStmt n) → AllByRecursion (IsNot j) (row_numbers row) → found_in_row j row ≡ None
  row_absent j end_of-CoreStmt h = refl
  row_absent j (more_of-CoreStmt s rest) h =
      neither (found_in j s) (found_in_row j rest) (absent j s (all_front (IsNot j) (site_numbers s) (row_numbers rest) h)) (row_absent j rest (all_back (IsNot j) (site_numbers s) (row_numbers rest) h))

body_absent : (j : ℕ) (body : List CoreStmt) → AllByRecursion (IsNot j) (all_numbers body) → found j body ≡ None
body_absent j [] h = refl
body_absent j (s ∷ rest) h =
    neither (found_in j s) (found j rest) (absent j s (all_front (IsNot j) (site_numbers s) (all_numbers rest) h)) (body_absent j rest (all_back (IsNot j) (site_numbers s) (all_numbers rest) h))

-- what is found in two parts, by the part that has the site
only_first : (a b : Option CoreStmt) → b ≡ None → or_else a b ≡ a
only_first (Some s) b none = refl
only_first None b none = none

only_second : (a b : Option CoreStmt) → a ≡ None → or_else a b ≡ b
only_second a b none = ap (λ (x : Option CoreStmt). or_else x b) none

module _ (search_at : ℕ → Option CoreStmt) where
  -- what is searched for in a range of sites
  abbrev Agrees : (ℕ → Option CoreStmt) → (m n : ℕ) → Type 0
  Agrees look m n = (j : ℕ) → m ≤ j → j < m + n → search_at j ≡ look j

  -- of two parts whose sites stand in order, one behind the other
  first_agrees : (xs ys : List ℕ) (m n : ℕ) (one two : ℕ → Option CoreStmt) → xs ++ ys ≡ range_with_len m n
      → ((j : ℕ) → AllByRecursion (IsNot j) ys → two j ≡ None) → Agrees (λ j. or_else (one j) (two j)) m n → n ≡ length xs + length ys → Agrees one m (length xs)
  first_agrees xs ys m n one two is none both long j low high =
      let past : AllByRecursion (IsNot j) ys = subst (AllByRecursion (IsNot j)) (sym (back_in_order xs ys m n is)) (none_below j (m + length xs) (length ys) high) in
      let within : j < m + n = omega (arith, high, long) in
      both j low within ∙ only_first (one j) (two j) (none j past)

  second_agrees : (xs ys : List ℕ) (m n : ℕ) (one two : ℕ → Option CoreStmt) → xs ++ ys ≡ range_with_len m n
      → ((j : ℕ) → AllByRecursion (IsNot j) xs → one j ≡ None) → Agrees (λ j. or_else (one j) (two j)) m n → n ≡ length xs + length ys → Agrees two (m + length xs) (length ys)
  second_agrees xs ys m n one two is none both long j low high =
      let before : AllByRecursion (IsNot j) xs = subst (AllByRecursion (IsNot j)) (sym (front_in_order xs ys m n is)) (none_above j m (length xs) low) in
      let from : m ≤ j = omega (arith, low) in
      let within : j < m + n = omega (arith, high, long) in
      both j from within ∙ only_second (one j) (two j) (none j before)

  joined_long : (xs ys : List ℕ) (m n : ℕ) → xs ++ ys ≡ range_with_len m n → n ≡ length xs + length ys
  joined_long [] ys m n is =
      let long : n ≡ length ys = sym (length-range_with_len m n) ∙ ap length (sym is) in
      omega (arith, long)
  joined_long (x ∷ xs) ys m zero is = cc
  joined_long (x ∷ xs) ys m (suc n) is =
      let tail : xs ++ ys ≡ range_with_len (m + 1) n = cc in
      omega (arith, joined_long xs ys (m + 1) n tail)

  -- one site
  only_site : (k m n : ℕ) (s : CoreStmt) → k ∷ [] ≡ range_with_len m n → Agrees (λ j. cond (k == j) (Some s) None) m n → search_at k ≡ Some s
  only_site k m zero s is agree = cc
  only_site k m (suc n) s is agree =
      let same : k ≡ m = cc in
      let low : m ≤ k = omega (arith, same) in
      let high : k < m + suc n = omega (arith, same) in
      agree k low high ∙ here (k == k) k s refl

  mutual
    found_there : (s : CoreStmt) (m n : ℕ) → site_numbers s ≡ range_with_len m n → Agrees (λ j. found_in j s) m n → IsFound search_at s
    found_there (stmt.Assign x e) m n is agree = tt
    found_there (stmt.Point p array i) m n is agree = tt
    found_there (stmt.If' c l yes_row u no_row) m n is agree =
        let xs : List ℕ = row_numbers yes_row in
        let ys : List ℕ = row_numbers no_row in
        let long : n ≡ length xs + length ys = joined_long xs ys m n is in (
          row_there yes_row m (length xs) (front_in_order xs ys m n is) (first_agrees xs ys m n (λ j. found_in_row j yes_row) (λ j. found_in_row j no_row) is (λ j h. row_absent j no_row h) agree long),
          row_there no_row (m + length xs) (length ys) (back_in_order xs ys m n is) (second_agrees xs ys m n (λ j. found_in_row j yes_row) (λ j. found_in_row j no_row) is (λ j h. row_absent j yes_row h) agree long),
        )
    found_there (stmt.Loop' i turns l row) m n is agree = tt
    found_there (stmt.Io k x p args) m n is agree = only_site k m n (stmt.Io k x p args) is agree
    found_there (stmt.Block' k l row) m n is agree =
        let one : List ℕ = k ∷ [] in
        let ys : List ℕ = row_numbers row in
        let long : n ≡ 1 + length ys = joined_long one ys m n is in
        row_there row (m + 1) (length ys) (back_in_order one ys m n is) (second_agrees one ys m n (λ j. None) (λ j. found_in_row j row) is (λ j h. refl) agree long)
    found_there (stmt.Copy k to from l) m n is agree = only_site k m n (stmt.Copy k to from l) is agree

    row_there : {u : _} (row : Row_of-CoreStmt u) (m n : ℕ) → row_numbers row ≡ range_with_len m n → Agrees (λ j. found_in_row j row) m n → AreFound search_at row
    row_there end_of-CoreStmt m n is agree = tt
    row_there (more_of-CoreStmt s rest) m n is agree =
        let xs : List ℕ = site_numbers s in
        let ys : List ℕ = row_numbers rest in
        let long : n ≡ length xs + length ys = joined_long xs ys m n is in (
          found_there s m (length xs) (front_in_order xs ys m n is) (first_agrees xs ys m n (λ j. found_in j s) (λ j. found_in_row j rest) is (λ j h. row_absent j rest h) agree long),
          row_there rest (m + length xs) (length ys) (back_in_order xs ys m n is) (second_agrees xs ys m n (λ j. found_in j s) (λ j. found_in_row j rest) is (λ j h. absent j s h) agree long),
        )

  -- a body whose sites are numbered in order
  body_there : (body : List CoreStmt) (m n : ℕ) → all_numbers body ≡ range_with_len m n → Agrees (λ j. found j body) m n → AllByRecursion (IsFound search_at) body
  body_there [] m n is agree = tt
  body_there (s ∷ rest) m n is agree =
      let xs : List ℕ = site_numbers s in
      let ys : List ℕ = all_numbers rest in
      let long : n ≡ length xs + length ys = joined_long xs ys m n is in (
        found_there s m (length xs) (front_in_order xs ys m n is) (first_agrees xs ys m n (λ j. found_in j s) (λ j. found j rest) is (λ j h. body_absent j rest h) agree long),
        body_there rest (m + length xs) (length ys) (back_in_order xs ys m n is) (second_agrees xs ys m n (λ j. found_in j s) (λ j. found j rest) is (λ j h. absent j s h) agree long),
      )

-- each call and copy of a body is what is found in the body
pub body_finds : (body : List CoreStmt) (m n : ℕ) → all_numbers body ≡ range_with_len m n → AllByRecursion (IsFound (λ k. found k body)) body
body_finds body m n is = body_there (λ k. found k body) body m n is (λ j low high. refl)

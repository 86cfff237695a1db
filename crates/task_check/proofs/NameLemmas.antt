-- Names that are declared one after another.
use Rattle.std.proofs.Common.{◌≡◌, ℕ, ◌+◌, Bool, true, false, cond, ◌||◌, List, [], ◌∷◌, ◌++◌, length, map, Option, Some, None, is_some, refl, sym, ap, ◌∙◌, arith, true≢false, bytes_eq, if◌then◌else◌}
use Rattle.std.specs.List.{list_any}
use Rattle.std.specs.Map.{update}
use Rattle.std.specs.Cmp.Lexicographic.{bytes_decides}
use Rattle.task_ast.specs.declared.tree.Decl.{Decl}
use Rattle.task_ast.specs.declared.tree.Task.{Task}
use Rattle.task_check.specs.declared.names.Meaning.{Meaning}
use Rattle.task_check.specs.declared.names.Numbers.{Numbers}
use Rattle.task_check.specs.declared.names.Meaning.TheVariants as meaning
use Rattle.task_check.specs.Names.{Declared, Meanings, or_else, look_up, extended, decl_name, decl_text, decl_meaning, with_decl, with_decls, declared_words, declared_tasks}

-- of two lists behind one another the first that has the name decides
pub look_up-append : (ds es : List Declared) (q : List ℕ) → look_up (ds ++ es) q ≡ or_else (look_up ds q) (look_up es q)
look_up-append [] es q = refl
look_up-append (d ∷ ds) es q = by (bytes_eq q d.0) (look_up-append ds es q)
  where
    by : (b : Bool) → look_up (ds ++ es) q ≡ or_else (look_up ds q) (look_up es q) → (if b then Some d.1 else look_up (ds ++ es) q) ≡ or_else (if b then Some d.1 else look_up ds q) (look_up es q)
    by true h = refl
    by false h = h

pub look_up-extended : (ds es : List Declared) → look_up (ds ++ es) ≡ extended (look_up ds) es
look_up-extended ds es = λ i q. look_up-append ds es q i

or_else_assoc : (a b c : Option Meaning) → or_else (or_else a b) c ≡ or_else a (or_else b c)
or_else_assoc None b c = refl
or_else_assoc (Some m) b c = refl

-- names that are extended twice are extended by both
pub extended-twice : (names : Meanings) (ds es : List Declared) → extended (extended names ds) es ≡ extended names (ds ++ es)
extended-twice names ds es = λ i q. (or_else_assoc (names q) (look_up ds q) (look_up es q) ∙ ap (or_else (names q)) (sym (look_up-append ds es q))) i

-- one more declaration
pub declared_words-push : (n : Numbers) (xs : List Decl) (d : Decl) → declared_words n (xs ++ d ∷ []) ≡ declared_words n xs ++ (decl_text d, decl_meaning (with_decls n xs) d) ∷ []
declared_words-push n [] d = refl
declared_words-push n (x ∷ xs) d = ap (λ (ds : List Declared). (decl_text x, decl_meaning n x) ∷ ds) (declared_words-push (with_decl n x) xs d)

pub with_decls-push : (n : Numbers) (xs : List Decl) (d : Decl) → with_decls n (xs ++ d ∷ []) ≡ with_decl (with_decls n xs) d
with_decls-push n [] d = refl
with_decls-push n (x ∷ xs) d = with_decls-push (with_decl n x) xs d

-- one more task
pub declared_tasks-push : (n k : ℕ) (xs : List Task) (t : Task) → n + length xs ≡ k → declared_tasks n (xs ++ t ∷ []) ≡ declared_tasks n xs ++ (t.name.text, meaning.Task k) ∷ []
declared_tasks-push n k [] t e = let same : n ≡ k = omega arith in ap (λ (j : ℕ). (t.name.text, meaning.Task j) ∷ []) same
declared_tasks-push n k (x ∷ xs) t e = ap (λ (ds : List Declared). (x.name.text, meaning.Task n) ∷ ds) (declared_tasks-push (n + 1) k xs t (omega arith))

-- a text is among the names of declarations exactly where it is found
pub among_declared : (n : Numbers) (xs : List Decl) (q : List ℕ) → list_any (bytes_eq q) (map decl_text xs) ≡ is_some (look_up (declared_words n xs) q)
among_declared n [] q = refl
among_declared n (x ∷ xs) q = by (bytes_eq q (decl_name x).text) (among_declared (with_decl n x) xs q)
  where
    by : (b : Bool) → list_any (bytes_eq q) (map decl_text xs) ≡ is_some (look_up (declared_words (with_decl n x) xs) q) → (b || list_any (bytes_eq q) (map decl_text xs)) ≡ is_some (if b then Some (decl_meaning n x) else look_up (declared_words (with_decl n x) xs) q)
    by true h = refl
    by false h = h

module _ (names : Meanings) (text : List ℕ) (m : Meaning) where
  same_text : (q : List ℕ) → bytes_eq q text ≡ true → names q ≡ names text
  same_text q e = ap names ((bytes_decides q text).0 e)

  absent : is_some (names text) ≡ false → names text ≡ None
  absent = by (names text)
    where
      by : (o : Option Meaning) → is_some o ≡ false → o ≡ None
      by None h = refl
      by (Some k) h = absurd (true≢false h)

  -- a new name stands behind the others
  pub new_behind : is_some (names text) ≡ false → (after : Meanings) → ((q : List ℕ) → after q ≡ update bytes_eq names text (Some m) q) → after ≡ extended names ((text, m) ∷ [])
  new_behind new after h = λ i q. (h q ∙ at q) i
    where
      by : (o : Option Meaning) (b c : Bool) → b ≡ c → (c ≡ true → o ≡ None) → cond b (Some m) o ≡ or_else o (if c then Some m else None)
      by o true true e k = ap (λ (p : Option Meaning). or_else p (Some m)) (sym (k refl))
      by o true false e k = absurd (true≢false e)
      by o false true e k = absurd (true≢false (sym e))
      by None false false e k = refl
      by (Some j) false false e k = refl

      turned : (q : List ℕ) → bytes_eq text q ≡ bytes_eq q text
      turned q = both (bytes_eq text q) (bytes_eq q text) (λ e. (bytes_decides q text).1 (sym ((bytes_decides text q).0 e))) (λ e. (bytes_decides text q).1 (sym ((bytes_decides q text).0 e)))
        where
          both : (b c : Bool) → (b ≡ true → c ≡ true) → (c ≡ true → b ≡ true) → b ≡ c
          both true c f g = sym (f refl)
          both false true f g = g refl
          both false false f g = refl

      at : (q : List ℕ) → update bytes_eq names text (Some m) q ≡ extended names ((text, m) ∷ []) q
      at q = by (names q) (bytes_eq text q) (bytes_eq q text) (turned q) (λ e. same_text q e ∙ absent new)

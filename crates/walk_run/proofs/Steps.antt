-- An `if` by its condition, a loop by its turns, and a copy by its words, as code does them.
use Rattle.std.proofs.Common.{◌≡◌, ◌≢◌, ◌∙◌, ℕ, zero, suc, ◌+◌, ◌-◌, ◌<◌, ◌≤◌, List, length, Result, Ok, refl, sym, ap, subst, arith}
use Rattle.task_ast.specs.declared.core_form.CoreExpr.{CoreExpr}
use Rattle.task_ast.specs.declared.core_form.CoreStmt.{CoreStmt}
use Rattle.task_ast.specs.declared.core_form.CoreStmt.TheVariants as stmt
use Rattle.walk_run.specs.declared.trap.Trap.{Trap}
use Rattle.walk_run.specs.Store.{Store, place, words_of, word_at, put_word}
use Rattle.walk_run.specs.StoreLaws.{rooms_stay}
use Rattle.walk_run.specs.declared.place.Place.{Place}
use Rattle.walk_run.specs.Value.{value_of}
use Rattle.walk_run.specs.Plain.{Ran, if_found, and_then, chosen, set_variable, turns_done, plain_done, all_done}
use Rattle.walk_run.specs.PlainRows.{done_if, done_loop}
use Rattle.walk_run.specs.Outcome.{ran_of}
use Rattle.walk_run.specs.Walk.{move_words}

pub chosen_first : {A : Type 0} (word : ℕ) → word ≢ 0 → (yes_part no_part : A) → chosen word yes_part no_part ≡ yes_part
chosen_first zero some yes_part no_part = absurd (some refl)
chosen_first (suc n) some yes_part no_part = refl

if_at : (s : CoreStmt) (store : Store) (c : CoreExpr) (yes_part no_part : List CoreStmt) (r : Result ℕ Trap) → s ≡ stmt.If c yes_part no_part → value_of c store ≡ r
    → plain_done s store ≡ if_found r store (λ word. chosen word (all_done yes_part) (all_done no_part) store)
if_at s store c yes_part no_part r is v =
    ap (λ x. plain_done x store) is ∙ done_if c yes_part no_part store ∙ ap (λ x. if_found x store (λ word. chosen word (all_done yes_part) (all_done no_part) store)) v

-- where the word of the condition isn't 0, the first body is done
pub if_holds : (s : CoreStmt) (store : Store) (c : CoreExpr) (yes_part no_part : List CoreStmt) (word : ℕ) (r : Ran)
    → s ≡ stmt.If c yes_part no_part → value_of c store ≡ Ok word → word ≢ 0 → all_done yes_part store ≡ r → plain_done s store ≡ r
if_holds s store c yes_part no_part word r is v some ends =
    if_at s store c yes_part no_part (Ok word) is v ∙ ap (λ f. f store) (chosen_first word some (all_done yes_part) (all_done no_part)) ∙ ends

-- and where it is 0, the second
pub if_fails : (s : CoreStmt) (store : Store) (c : CoreExpr) (yes_part no_part : List CoreStmt) (word : ℕ) (r : Ran)
    → s ≡ stmt.If c yes_part no_part → value_of c store ≡ Ok word → word ≡ 0 → all_done no_part store ≡ r → plain_done s store ≡ r
if_fails s store c yes_part no_part word r is v none ends =
    if_at s store c yes_part no_part (Ok word) is v ∙ ap (λ w. chosen w (all_done yes_part) (all_done no_part) store) none ∙ ends

-- a loop, by its variable, its turns and its body
pub loop_at : (s : CoreStmt) (store : Store) (variable turns : ℕ) (body : List CoreStmt) → s ≡ stmt.Loop variable turns body
    → plain_done s store ≡ turns_done (all_done body) variable 0 turns store
loop_at s store variable turns body is = ap (λ x. plain_done x store) is ∙ done_loop variable turns body store

-- a turn of a loop that goes on
pub turns_go_on : (body : Store → Ran) (variable number turns : ℕ) (store : Store) → number < turns
    → turns_done body variable number (turns - number) store ≡ and_then (body (set_variable variable number store)) (turns_done body variable (number + 1) (turns - (number + 1)))
turns_go_on body variable number turns store more =
    let left : turns - number ≡ suc (turns - (number + 1)) = omega arith in
    ap (λ n. turns_done body variable number n store) left

-- a turn that was done
pub turn_done : (body : Store → Ran) (variable number turns : ℕ) (store set after : Store) (r : Result (Unit {0}) Trap) (unit : Unit {0}) → number < turns
    → set ≡ set_variable variable number store → ran_of r after ≡ body set → r ≡ Ok unit
    → turns_done body variable number (turns - number) store ≡ turns_done body variable (number + 1) (turns - (number + 1)) after
turn_done body variable number turns store set after r unit more is ended was =
    let gave : body (set_variable variable number store) ≡ ran_of (Ok unit) after = sym (ap (λ x. ran_of x after) (sym was) ∙ ended ∙ ap body is) in
    turns_go_on body variable number turns store more ∙ ap (λ x. and_then x (turns_done body variable (number + 1) (turns - (number + 1)))) gave

-- a word of a copy that was moved
pub word_moved : (words moved ta ti fa fi word : ℕ) (store after : Store) → moved < words
    → word ≡ word_at store (place fa (fi + moved)) → after ≡ put_word (place ta (ti + moved)) word store
    → move_words (words - (moved + 1)) (place ta (ti + (moved + 1))) (place fa (fi + (moved + 1))) after
    ≡ move_words (words - moved) (place ta (ti + moved)) (place fa (fi + moved)) store
word_moved words moved ta ti fa fi word store after more read is =
    let left : words - moved ≡ suc (words - (moved + 1)) = omega arith in
    let to : ti + (moved + 1) ≡ ti + moved + 1 = omega arith in
    let from : fi + (moved + 1) ≡ fi + moved + 1 = omega arith in
    let written : after ≡ put_word (place ta (ti + moved)) (word_at store (place fa (fi + moved))) store = is ∙ ap (λ w. put_word (place ta (ti + moved)) w store) read in
    (λ i. move_words (words - (moved + 1)) (place ta (to i)) (place fa (from i)) (written i))
    ∙ ap (λ n. move_words n (place ta (ti + moved)) (place fa (fi + moved)) store) (sym left)

-- the beginning of a copy
pub moves_begin : (words ta ti fa fi : ℕ) (store : Store)
    → move_words (words - 0) (place ta (ti + 0)) (place fa (fi + 0)) store ≡ move_words words (place ta ti) (place fa fi) store
moves_begin words ta ti fa fi store =
    let all : words - 0 ≡ words = omega arith in
    let to : ti + 0 ≡ ti = omega arith in
    let from : fi + 0 ≡ fi = omega arith in
    λ i. move_words (all i) (place ta (to i)) (place fa (from i)) store

-- its end
pub moves_over : (words moved : ℕ) (to from : _) (store : Store) → words ≡ moved → move_words (words - moved) to from store ≡ store
moves_over words moved to from store over =
    let none : words - moved ≡ 0 = omega arith in
    ap (λ n. move_words n to from store) none

-- a room is as it was after a word is written
pub room_after : (at : Place) (word : ℕ) (store after : Store) (array n : ℕ) → after ≡ put_word at word store → n ≤ length (words_of store array) → n ≤ length (words_of after array)
room_after at word store after array n is there =
    subst (λ s. n ≤ length (words_of s array)) (sym is) (subst (λ m. n ≤ m) (sym (rooms_stay at word store array)) there)

-- What the tests of an image give its users.
use Rattle.std.specs.Prelude.{◌≡◌, ℕ, zero, suc, ◌+◌, Bool, true, false, List, [], ◌∷◌, ◌++◌, Option, Some, None, if◌then◌else◌, slice_get, refl}
use Rattle.std.proofs.Common.{sym, ◌∙◌, subst, take, append_assoc}
use Rattle.std.proofs.lemmas.Iterator.Adapters.{position_from-zero}
use Rattle.std.proofs.lemmas.List.{append-nil}
use Rattle.std.specs.Option.{option_map, is_none}
use Rattle.std.specs.List.{position_from}
use Rattle.word_isa.specs.Checks.{first_bad_word}
use Rattle.word_isa.specs.Decoding.{decoded}
use Rattle.word_isa.specs.FirstFailing.{first_failing}
use Rattle.word_isa.specs.Instructions.{HasRow}
use Rattle.word_isa.specs.RowLaws.{decoded_row}
use Rattle.word_isa.specs.declared.instr.Instr.{Instr}

none_left : (passes : Bool) (rest : Option ℕ) → (if passes then option_map suc rest else Some 0) ≡ None → (passes ≡ true) × (rest ≡ None)
none_left true None e = (refl, refl)
none_left true (Some k) e = cc
none_left false rest e = cc

-- where no item fails, each passes behind those before it
all_pass : {A : Type 0} (test : List A → A → Bool) (earlier xs : List A) (k : ℕ) (x : A) → first_failing test earlier xs ≡ None → slice_get xs k ≡ Some x → test (earlier ++ take k xs) x ≡ true
unfolding first_failing
all_pass test earlier [] k x e at = cc
all_pass test earlier (y ∷ ys) zero x e at =
    let first = none_left (test earlier y) (first_failing test (earlier ++ y ∷ []) ys) e in
    let same : y ≡ x = cc in
    rw append-nil (subst (λ z. test earlier z ≡ true) same first.0)
all_pass test earlier (y ∷ ys) (suc k) x e at =
    let first = none_left (test earlier y) (first_failing test (earlier ++ y ∷ []) ys) e in
    let rest = all_pass test (earlier ++ y ∷ []) ys k x first.1 at in
    subst (λ front. test front x ≡ true) (append_assoc earlier (y ∷ []) (take k ys)) rest

pub passes_at : {A : Type 0} (test : List A → A → Bool) (xs : List A) (k : ℕ) (x : A) → first_failing test [] xs ≡ None → slice_get xs k ≡ Some x → test (take k xs) x ≡ true
passes_at test xs k x e at = all_pass test [] xs k x e at

none_here : (found : Bool) (n : ℕ) (rest : Option ℕ) → (if found then Some n else rest) ≡ None → (found ≡ false) × (rest ≡ None)
none_here true n rest e = cc
none_here false n rest e = (refl, e)

never_found : {A : Type 0} (test : A → Bool) (n : ℕ) (xs : List A) (k : ℕ) (x : A) → position_from test n xs ≡ None → slice_get xs k ≡ Some x → test x ≡ false
never_found test n [] k x e at = cc
never_found test n (y ∷ ys) zero x e at =
    let here = none_here (test y) n (position_from test (n + 1) ys) e in
    let same : y ≡ x = cc in
    subst (λ z. test z ≡ false) same here.0
never_found test n (y ∷ ys) (suc k) x e at =
    never_found test (n + 1) ys k x (none_here (test y) n (position_from test (n + 1) ys) e).1 at

row_there : (w : ℕ) (o : Option Instr) → decoded w ≡ o → is_none o ≡ false → (i : Instr) × HasRow w i
row_there w None is some = cc
row_there w (Some i) is some = (i, decoded_row w i is)

-- where no word is bad, each has a row
pub row_at : (code : List ℕ) (k w : ℕ) → first_bad_word code ≡ None → slice_get code k ≡ Some w → (i : Instr) × HasRow w i
unfolding first_bad_word
row_at code k w e at =
    let none_from : position_from (λ word. is_none (decoded word)) 0 code ≡ None = sym (position_from-zero (λ word. is_none (decoded word)) code) ∙ e in
    row_there w (decoded w) refl (never_found (λ word. is_none (decoded word)) 0 code k w none_from at)

-- Laws on code that was put behind code in several parts.
use Rattle.std.specs.Prelude.{◌≡◌, ℕ, suc, ◌+◌, ◌≤◌, List, [], ◌∷◌, ◌++◌, length, Result, Ok, Err, OnOk, refl}
use Rattle.std.proofs.Common.{ap, sym, ◌∙◌, append_assoc, append-nil, length-append, drop}
use Rattle.std.proofs.lemmas.List.{at_drop_all}
use Rattle.word_isa.specs.declared.instr.Instr.{Instr}
use Rattle.line_code.specs.declared.line.Line.{Line}
use Rattle.line_code.specs.Lines.{bares}

-- what follows from what holds where a result is Ok
pub on_ok : {T E P Q : Type 0} (r : Result T E) → (P → Q) → OnOk r P → OnOk r Q
on_ok (Ok v) f h = f h
on_ok (Err e) f h = tt

-- instructions are as many lines
pub bares_length : (is : List Instr) → length (bares is) ≡ length is
bares_length [] = refl
bares_length (i ∷ is) = ap suc (bares_length is)

-- parts, one behind the other
pub two_parts : (o m n a b : List Line) → m ≡ o ++ a → n ≡ m ++ b → n ≡ o ++ (a ++ b)
two_parts o m n a b one two = two ∙ ap (λ z. z ++ b) one ∙ append_assoc o a b

pub three_parts : (o m n p a b c : List Line) → m ≡ o ++ a → n ≡ m ++ b → p ≡ n ++ c → p ≡ o ++ (a ++ (b ++ c))
three_parts o m n p a b c one two three = two_parts o m p a (b ++ c) one (two_parts m n p b c two three)

pub four_parts : (o m n p q a b c d : List Line) → m ≡ o ++ a → n ≡ m ++ b → p ≡ n ++ c → q ≡ p ++ d → q ≡ o ++ (a ++ (b ++ (c ++ d)))
four_parts o m n p q a b c d one two three four = two_parts o m q a (b ++ (c ++ d)) one (three_parts m n p q b c d two three four)

pub five_parts : (o m n p q r a b c d e : List Line) → m ≡ o ++ a → n ≡ m ++ b → p ≡ n ++ c → q ≡ p ++ d → r ≡ q ++ e → r ≡ o ++ (a ++ (b ++ (c ++ (d ++ e))))
five_parts o m n p q r a b c d e one two three four five = two_parts o m r a (b ++ (c ++ (d ++ e))) one (four_parts m n p q r b c d e two three four five)

-- the lines behind a part
pub count_behind : (o n : List Line) (is : List Instr) → n ≡ o ++ bares is → length n ≡ length o + length is
count_behind o n is lines = ap length lines ∙ length-append o (bares is) ∙ ap (λ (k : ℕ). length o + k) (bares_length is)

-- nothing is left
pub all_put : (o n : List Line) (is : List Instr) (k : ℕ) → n ++ bares (drop k is) ≡ o ++ bares is → length is ≤ k → n ≡ o ++ bares is
all_put o n is k all past = sym (append-nil n) ∙ sym (at_drop_all (λ (x : List Instr). n ++ bares x) is k past) ∙ all

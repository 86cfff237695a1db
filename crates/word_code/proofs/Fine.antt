-- Lines that pass, and how many of them are marked.
use Rattle.std.specs.Prelude.{◌≡◌, ℕ, ◌+◌, List, [], ◌∷◌, ◌++◌, length, Option, Some, None, refl}
use Rattle.std.proofs.Common.{◌∙◌, arith, length-append}
use Rattle.line_code.specs.declared.line.Line.{Line}
use Rattle.line_code.specs.declared.line.Sign.{Sign}
use Rattle.word_code.specs.CodeOf.{mark_of, marks_of}
use Rattle.word_code.specs.Passing.{AllPass}

abbrev pub one_sign : Option Sign → ℕ
one_sign None = 0
one_sign (Some s) = 1

abbrev pub signs_in : List Line → ℕ
signs_in [] = 0
signs_in (l ∷ lines) = one_sign l.sign + signs_in lines

-- all lines pass, and so many are marked
pub record Fine (n : ℕ) (lines : List Line) : Type 0 where
  pub pass : AllPass lines
  pub signs : signs_in lines ≡ n

pass_joined : (xs ys : List Line) → AllPass xs → AllPass ys → AllPass (xs ++ ys)
pass_joined [] ys h g = g
pass_joined (x ∷ xs) ys h g = (h.0, pass_joined xs ys h.1 g)

signs_joined : (xs ys : List Line) → signs_in (xs ++ ys) ≡ signs_in xs + signs_in ys
signs_joined [] ys = omega arith
signs_joined (x ∷ xs) ys = omega (arith, signs_joined xs ys)

pub fine_join : {m n : ℕ} {xs ys : List Line} → Fine m xs → Fine n ys → Fine (m + n) (xs ++ ys)
fine_join {m} {n} {xs} {ys} one two = record { pass = pass_joined xs ys one.pass two.pass; signs = omega (arith, signs_joined xs ys, one.signs, two.signs) }

-- beside lines without marks
pub fine_front : {n : ℕ} {xs ys : List Line} → Fine 0 xs → Fine n ys → Fine n (xs ++ ys)
fine_front {n} {xs} {ys} one two = record { pass = pass_joined xs ys one.pass two.pass; signs = omega (arith, signs_joined xs ys, one.signs, two.signs) }

pub fine_back : {n : ℕ} {xs ys : List Line} → Fine n xs → Fine 0 ys → Fine n (xs ++ ys)
fine_back {n} {xs} {ys} one two = record { pass = pass_joined xs ys one.pass two.pass; signs = omega (arith, signs_joined xs ys, one.signs, two.signs) }

pub fine_as : {m : ℕ} {xs : List Line} (n : ℕ) → Fine m xs → m ≡ n → Fine n xs
fine_as {m} {xs} n one same = record { pass = one.pass; signs = one.signs ∙ same }

-- a mark for each marked line
one_mark : (at : ℕ) (s : Option Sign) → length (mark_of at s) ≡ one_sign s
one_mark at None = refl
one_mark at (Some s) = refl

pub marks_counted : (at : ℕ) (lines : List Line) → length (marks_of at lines) ≡ signs_in lines
marks_counted at [] = refl
marks_counted at (l ∷ lines) = omega (arith, length-append (mark_of at l.sign) (marks_of (at + 1) lines), one_mark at l.sign, marks_counted (at + 1) lines)

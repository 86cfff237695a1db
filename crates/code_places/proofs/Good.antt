-- Lines whose operands are short, how many they are, and that the way to the halt stands behind each last commit among them.
use Rattle.std.specs.Prelude.{◌≡◌, ℕ, ◌+◌, ◌<◌, Bool, true, false, ◌==◌, nat_lt, List, [], ◌∷◌, ◌++◌, length, Option, Some, None, IsTrue, ⊤, refl}
use Rattle.std.specs.List.{AllByRecursion}
use Rattle.std.proofs.Common.{ap, ◌∙◌, arith, append_assoc, length-append}
use Rattle.std.proofs.lemmas.Bool.Decides.{nat_tests}
use Rattle.word_isa.specs.declared.instr.Instr.{Instr}
use Rattle.word_isa.specs.declared.instr.Instr.TheVariants.{Halt, Ldi, Lui, Mov, Add, Sub, Mul, Div, Rem, And, Or, Xor, Shl, Shr, Eq, Ltu, Adi, Ld, St, Jmp, Jz, Io, Time, Dma, Trap}
use Rattle.word_isa.specs.declared.mark.MarkKind.{MarkKind}
use Rattle.word_isa.specs.declared.mark.MarkKind.TheVariants.{Begin, Look, Kept, Drop, Issue, Seal, Copy, Commit}
use Rattle.line_code.specs.declared.line.Line.{Line}
use Rattle.line_code.specs.declared.line.Sign.{Sign}

-- an operand that isn't a register fits 16 bits
abbrev pub IsNarrow : Instr → Type 0
IsNarrow Halt = ⊤
IsNarrow (Ldi a m) = IsTrue (nat_lt m 65536)
IsNarrow (Lui a m) = IsTrue (nat_lt m 65536)
IsNarrow (Mov a b) = ⊤
IsNarrow (Add a b) = ⊤
IsNarrow (Sub a b) = ⊤
IsNarrow (Mul a b) = ⊤
IsNarrow (Div a b) = ⊤
IsNarrow (Rem a b) = ⊤
IsNarrow (And a b) = ⊤
IsNarrow (Or a b) = ⊤
IsNarrow (Xor a b) = ⊤
IsNarrow (Shl a b) = ⊤
IsNarrow (Shr a b) = ⊤
IsNarrow (Eq a b) = ⊤
IsNarrow (Ltu a b) = ⊤
IsNarrow (Adi a m) = IsTrue (nat_lt m 65536)
IsNarrow (Ld a b m) = IsTrue (nat_lt m 65536)
IsNarrow (St a b m) = IsTrue (nat_lt m 65536)
IsNarrow (Jmp t) = ⊤
IsNarrow (Jz a m) = IsTrue (nat_lt m 65536)
IsNarrow (Io a b m) = IsTrue (nat_lt m 65536)
IsNarrow (Time a) = ⊤
IsNarrow (Dma a b m) = ⊤
IsNarrow (Trap m) = IsTrue (nat_lt m 65536)

abbrev pub IsNarrowLine : Line → Type 0
IsNarrowLine l = IsNarrow l.instr

abbrev pub AllNarrow : List Line → Type 0
AllNarrow lines = AllByRecursion IsNarrowLine lines

pub small : (m : ℕ) → m < 65536 → nat_lt m 65536 ≡ true
small m low = grind (arith, nat_tests)

-- whether a sign says the commit behind which no task is next
abbrev pub is_final : MarkKind → (site : ℕ) → Bool
is_final Begin site = false
is_final Look site = false
is_final Kept site = false
is_final Drop site = false
is_final Issue site = false
is_final Seal site = false
is_final Copy site = false
is_final Commit site = site == 0

abbrev pub is_last : Option Sign → Bool
is_last None = false
is_last (Some s) = is_final s.kind s.site

-- an instruction that writes the state word, and the way to the halt behind it
pub record IsFollowed (way : List Line) (i : Instr) (rest : List Line) : Type 0 where
  pub write : i ≡ St 1 0 0
  pub others : List Line
  pub behind : rest ≡ way ++ others

abbrev pub Follows : Bool → (way : List Line) → Instr → (rest : List Line) → Type 0
Follows false way i rest = ⊤
Follows true way i rest = IsFollowed way i rest

-- each last commit among lines is followed so
abbrev pub AllFollowed : (way : List Line) → List Line → Type 0
AllFollowed way [] = ⊤
AllFollowed way (l ∷ ls) = Follows (is_last l.sign) way l.instr ls × AllFollowed way ls

-- so many lines, narrow and followed
pub record Good (way : List Line) (n : ℕ) (lines : List Line) : Type 0 where
  pub long : length lines ≡ n
  pub narrow : AllNarrow lines
  pub followed : AllFollowed way lines

narrow_joined : (xs ys : List Line) → AllNarrow xs → AllNarrow ys → AllNarrow (xs ++ ys)
narrow_joined [] ys h g = g
narrow_joined (x ∷ xs) ys h g = (h.0, narrow_joined xs ys h.1 g)

follows_still : (b : Bool) (way : List Line) (i : Instr) (rest ys : List Line) → Follows b way i rest → Follows b way i (rest ++ ys)
follows_still false way i rest ys h = tt
follows_still true way i rest ys h = record { write = h.write; others = h.others ++ ys; behind = ap (λ (z : List Line). z ++ ys) h.behind ∙ append_assoc way h.others ys }

followed_joined : (way xs ys : List Line) → AllFollowed way xs → AllFollowed way ys → AllFollowed way (xs ++ ys)
followed_joined way [] ys h g = g
followed_joined way (x ∷ xs) ys h g = (follows_still (is_last x.sign) way x.instr xs ys h.0, followed_joined way xs ys h.1 g)

pub join : {way : List Line} {m n : ℕ} {xs ys : List Line} → Good way m xs → Good way n ys → Good way (m + n) (xs ++ ys)
join {way} {m} {n} {xs} {ys} one two = record {
  long = omega (arith, length-append xs ys, one.long, two.long);
  narrow = narrow_joined xs ys one.narrow two.narrow;
  followed = followed_joined way xs ys one.followed two.followed;
}

pub good_as : {way : List Line} {m : ℕ} {xs : List Line} (n : ℕ) → Good way m xs → m ≡ n → Good way n xs
good_as {way} {m} {xs} n one same = record { long = one.long ∙ same; narrow = one.narrow; followed = one.followed }

pub nothing : {way : List Line} → Good way 0 []
nothing {way} = record { long = refl; narrow = tt; followed = tt }

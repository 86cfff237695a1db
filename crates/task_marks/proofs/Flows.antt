-- Lines whose jumps lead where they may, whose skips stay among them, and whose marks are as they should be.
use Rattle.std.specs.Prelude.{◌≡◌, ℕ, ◌≤◌, Bool, true, false, ◌&&◌, nat_le, List, [], ◌∷◌, ◌++◌, length, Option, Some, None, IsTrue, ⊤, refl}
use Rattle.std.proofs.Common.{arith, length-append}
use Rattle.std.proofs.lemmas.Bool.Decides.{nat_tests}
use Rattle.word_isa.specs.declared.instr.Instr.{Instr}
use Rattle.word_isa.specs.declared.instr.Instr.TheVariants.{Jmp, Jz}
use Rattle.line_code.specs.declared.line.Line.{Line}
use Rattle.line_code.specs.declared.line.Sign.{Sign}

-- an instruction in front of so many others: a jump leads where it may, and what is skipped is among them
abbrev pub Aims : (May : ℕ → Type 0) → Instr → (behind : ℕ) → Type 0
Aims May (Jmp t) n = May t
Aims May (Jz a m) n = IsTrue (nat_le m n)
Aims May _ n = ⊤

abbrev pub Flow : (Ok : Option Sign → Instr → Type 0) → (May : ℕ → Type 0) → List Line → Type 0
Flow Ok May [] = ⊤
Flow Ok May (l ∷ ls) = Ok l.sign l.instr × Aims May l.instr (length ls) × Flow Ok May ls

-- so do these lines
pub record Flows (Ok : Option Sign → Instr → Type 0) (May : ℕ → Type 0) (lines : List Line) : Type 0 where
  pub flow : Flow Ok May lines

longer : (m a b : ℕ) → a ≤ b → nat_le m a ≡ true → nat_le m b ≡ true
longer m a b few low = grind (arith, nat_tests)

aims_still : (May : ℕ → Type 0) (i : Instr) (a b : ℕ) → a ≤ b → Aims May i a → Aims May i b
aims_still May (Jmp t) a b few h = h
aims_still May (Jz r m) a b few h = longer m a b few h
aims_still May i a b few h = tt

flow_joined : (Ok : Option Sign → Instr → Type 0) (May : ℕ → Type 0) (xs ys : List Line) → Flow Ok May xs → Flow Ok May ys → Flow Ok May (xs ++ ys)
flow_joined Ok May [] ys h g = g
flow_joined Ok May (x ∷ xs) ys h g =
    (h.0, aims_still May x.instr (length xs) (length (xs ++ ys)) (omega (arith, length-append xs ys)) h.1, flow_joined Ok May xs ys h.2 g)

pub join : {Ok : Option Sign → Instr → Type 0} {May : ℕ → Type 0} {xs ys : List Line} → Flows Ok May xs → Flows Ok May ys → Flows Ok May (xs ++ ys)
join {Ok} {May} {xs} {ys} one two = record { flow = flow_joined Ok May xs ys one.flow two.flow }

pub nothing : {Ok : Option Sign → Instr → Type 0} {May : ℕ → Type 0} → Flows Ok May []
nothing {Ok} {May} = record { flow = tt }

-- ---- lines without marks that jump nowhere

abbrev pub is_straight : Instr → (behind : ℕ) → Bool
is_straight (Jmp t) n = false
is_straight (Jz a m) n = nat_le m n
is_straight _ n = true

abbrev pub is_bare : Option Sign → Bool
is_bare None = true
is_bare (Some s) = false

abbrev pub are_straight : List Line → Bool
are_straight [] = true
are_straight (l ∷ ls) = is_bare l.sign && (is_straight l.instr (length ls) && are_straight ls)

left_is : (a b : Bool) → (a && b) ≡ true → a ≡ true
left_is true b e = refl
left_is false b e = cc

right_is : (a b : Bool) → (a && b) ≡ true → b ≡ true
right_is true b e = e
right_is false b e = cc

straight_aims : (May : ℕ → Type 0) (i : Instr) (n : ℕ) → is_straight i n ≡ true → Aims May i n
straight_aims May (Jmp t) n e = absurd (cc e)
straight_aims May (Jz a m) n e = e
straight_aims May i n e = tt

module _ (Ok : Option Sign → Instr → Type 0) (May : ℕ → Type 0) (plain : (i : Instr) → Ok None i) where
  bare_ok : (o : Option Sign) (i : Instr) → is_bare o ≡ true → Ok o i
  bare_ok None i e = plain i
  bare_ok (Some s) i e = absurd (cc e)

  straight_flow : (lines : List Line) → are_straight lines ≡ true → Flow Ok May lines
  straight_flow [] e = tt
  straight_flow (l ∷ ls) e =
      let behind = right_is (is_bare l.sign) (is_straight l.instr (length ls) && are_straight ls) e in (
        bare_ok l.sign l.instr (left_is (is_bare l.sign) (is_straight l.instr (length ls) && are_straight ls) e),
        straight_aims May l.instr (length ls) (left_is (is_straight l.instr (length ls)) (are_straight ls) behind),
        straight_flow ls (right_is (is_straight l.instr (length ls)) (are_straight ls) behind),
      )

pub straight : {Ok : Option Sign → Instr → Type 0} {May : ℕ → Type 0} {lines : List Line} → ((i : Instr) → Ok None i) → are_straight lines ≡ true → Flows Ok May lines
straight {Ok} {May} {lines} plain e = record { flow = straight_flow Ok May plain lines e }

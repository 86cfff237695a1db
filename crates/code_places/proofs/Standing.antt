-- Lines that pass and are narrow stand in the program of their words and marks.
use Rattle.std.specs.Prelude.{◌≡◌, ℕ, zero, suc, ◌+◌, ◌<◌, Bool, true, false, ◌==◌, ◌&&◌, nat_lt, if◌then◌else◌, List, [], ◌∷◌, ◌++◌, slice_get, Option, Some, None, refl}
use Rattle.std.specs.Option.{option_map, option_and_then}
use Rattle.std.proofs.Common.{ap, sym, ◌∙◌, arith}
use Rattle.std.proofs.lemmas.Bool.Decides.{nat_tests}
use Rattle.word_isa.specs.Decoding.{decoded}
use Rattle.word_isa.specs.Instructions.{encoded, FitsFields}
use Rattle.word_isa.specs.Marks.{mark_at}
use Rattle.word_isa.specs.RowLaws.{row_decoded}
use Rattle.word_isa.specs.declared.instr.Instr.{Instr}
use Rattle.word_isa.specs.declared.instr.Instr.TheVariants.{Halt, Ldi, Lui, Mov, Add, Sub, Mul, Div, Rem, And, Or, Xor, Shl, Shr, Eq, Ltu, Adi, Ld, St, Jmp, Jz, Io, Time, Dma, Trap}
use Rattle.word_isa.specs.declared.mark.Mark.{Mark}
use Rattle.word_machine.specs.State.{Program, program_of, sign_of}
use Rattle.word_machine.specs.declared.cell.Sign as cell
use Rattle.line_code.specs.declared.line.Line.{Line}
use Rattle.line_code.specs.declared.line.Sign.{Sign}
use Rattle.line_laws.specs.Standing.{StandsWith, Lie}
use Rattle.word_code.specs.CodeOf.{words_of, mark_of, marks_of}
use Rattle.word_code.specs.Passing.{HasRegisters, AllPass, AllFit}
use Rattle.code_places.proofs.Good.{IsNarrow, AllNarrow}

-- ---- operands

register : (a : ℕ) → nat_lt a 16 ≡ true → a < 16
register a e = grind (arith, nat_tests)

narrow : (m : ℕ) → nat_lt m 65536 ≡ true → m < 65536
narrow m e = grind (arith, nat_tests)

left_is : (a b : Bool) → (a && b) ≡ true → a ≡ true
left_is true b e = refl
left_is false b e = cc

right_is : (a b : Bool) → (a && b) ≡ true → b ≡ true
right_is true b e = e
right_is false b e = cc

first : (a b : ℕ) → (nat_lt a 16 && nat_lt b 16) ≡ true → a < 16
first a b e = register a (left_is (nat_lt a 16) (nat_lt b 16) e)

second : (a b : ℕ) → (nat_lt a 16 && nat_lt b 16) ≡ true → b < 16
second a b e = register b (right_is (nat_lt a 16) (nat_lt b 16) e)

fits : (i : Instr) → HasRegisters i → IsNarrow i → FitsFields i
fits Halt h n = tt
fits (Ldi a m) h n = (register a h, narrow m n)
fits (Lui a m) h n = (register a h, narrow m n)
fits (Mov a b) h n = (first a b h, second a b h)
fits (Add a b) h n = (first a b h, second a b h)
fits (Sub a b) h n = (first a b h, second a b h)
fits (Mul a b) h n = (first a b h, second a b h)
fits (Div a b) h n = (first a b h, second a b h)
fits (Rem a b) h n = (first a b h, second a b h)
fits (And a b) h n = (first a b h, second a b h)
fits (Or a b) h n = (first a b h, second a b h)
fits (Xor a b) h n = (first a b h, second a b h)
fits (Shl a b) h n = (first a b h, second a b h)
fits (Shr a b) h n = (first a b h, second a b h)
fits (Eq a b) h n = (first a b h, second a b h)
fits (Ltu a b) h n = (first a b h, second a b h)
fits (Adi a m) h n = (register a h, narrow m n)
fits (Ld a b m) h n = (first a b h, second a b h, narrow m n)
fits (St a b m) h n = (first a b h, second a b h, narrow m n)
fits (Jmp t) h n = h
fits (Jz a m) h n = (register a h, narrow m n)
fits (Io a b m) h n = (first a b h.0, second a b h.0, narrow m n, h.1, h.2)
fits (Time a) h n = register a h
fits (Dma a b m) h n =
    let both = left_is (nat_lt a 16 && nat_lt b 16) (nat_lt m 16) h in
    (first a b both, second a b both, register m (right_is (nat_lt a 16 && nat_lt b 16) (nat_lt m 16) h))
fits (Trap m) h n = narrow m n

pub all_fit : (lines : List Line) → AllPass lines → AllNarrow lines → AllFit lines
all_fit [] pass narrows = tt
all_fit (l ∷ lines) pass narrows = (fits l.instr pass.0.0 narrows.0, all_fit lines pass.1 narrows.1)

-- ---- what is in the program

abbrev pub instr_in : List Line → ℕ → Option Instr
instr_in [] k = None
instr_in (l ∷ lines) zero = Some l.instr
instr_in (l ∷ lines) (suc k) = instr_in lines k

abbrev pub said : Option Sign → Option cell.Sign
said None = None
said (Some s) = Some (record { kind = s.kind; site = s.site })

abbrev pub sign_in : List Line → ℕ → Option cell.Sign
sign_in [] k = None
sign_in (l ∷ lines) zero = said l.sign
sign_in (l ∷ lines) (suc k) = sign_in lines k

words_read : (lines : List Line) → AllFit lines → (k : ℕ) → option_and_then decoded (slice_get (words_of lines) k) ≡ instr_in lines k
words_read [] fit zero = refl
words_read [] fit (suc k) = refl
words_read (l ∷ lines) fit zero = row_decoded (encoded l.instr) l.instr (fit.0, refl)
words_read (l ∷ lines) fit (suc k) = words_read lines fit.1 k

-- the first of marks, at its address and at another
mark_here : (m : Mark) (rest : List Mark) (at : ℕ) → m.at ≡ at → mark_at (m ∷ rest) at ≡ Some m
unfolding mark_at
mark_here m rest at is =
    let test : (m.at == at) ≡ true = grind (arith, nat_tests) in
    ap (λ (b : Bool). if b then Some m else mark_at rest at) test

mark_later : (m : Mark) (rest : List Mark) (at : ℕ) → m.at < at → mark_at (m ∷ rest) at ≡ mark_at rest at
unfolding mark_at
mark_later m rest at low =
    let test : (m.at == at) ≡ false = grind (arith, nat_tests) in
    ap (λ (b : Bool). if b then Some m else mark_at rest at) test

mark_before : (m : Mark) (rest : List Mark) (at : ℕ) → at < m.at → mark_at (m ∷ rest) at ≡ mark_at rest at
unfolding mark_at
mark_before m rest at low =
    let test : (m.at == at) ≡ false = grind (arith, nat_tests) in
    ap (λ (b : Bool). if b then Some m else mark_at rest at) test

no_marks : (at : ℕ) → mark_at [] at ≡ None
unfolding mark_at
no_marks at = refl

none_by : (o : Option Sign) (n at : ℕ) (rest : List Mark) → at < n → mark_at rest at ≡ None → mark_at (mark_of n o ++ rest) at ≡ None
none_by None n at rest low none = none
none_by (Some s) n at rest low none = mark_before (record { at = n; kind = s.kind; site = s.site; task = s.task }) rest at low ∙ none

none_below : (lines : List Line) (n at : ℕ) → at < n → mark_at (marks_of n lines) at ≡ None
none_below [] n at low = no_marks at
none_below (l ∷ lines) n at low = none_by l.sign n at (marks_of (n + 1) lines) low (none_below lines (n + 1) at (omega (arith, low)))

here_by : (o : Option Sign) (n at : ℕ) (rest : List Mark) → at ≡ n → mark_at rest at ≡ None → option_map sign_of (mark_at (mark_of n o ++ rest) at) ≡ said o
here_by None n at rest is none = ap (option_map sign_of) none
here_by (Some s) n at rest is none = ap (option_map sign_of) (mark_here (record { at = n; kind = s.kind; site = s.site; task = s.task }) rest at (sym is))

later_by : (o : Option Sign) (n at : ℕ) (rest : List Mark) → n < at → mark_at (mark_of n o ++ rest) at ≡ mark_at rest at
later_by None n at rest low = refl
later_by (Some s) n at rest low = mark_later (record { at = n; kind = s.kind; site = s.site; task = s.task }) rest at low

marks_read : (lines : List Line) (n k at : ℕ) → at ≡ n + k → option_map sign_of (mark_at (marks_of n lines) at) ≡ sign_in lines k
marks_read [] n k at is = ap (option_map sign_of) (no_marks at)
marks_read (l ∷ lines) n zero at is = here_by l.sign n at (marks_of (n + 1) lines) (omega (arith, is)) (none_below lines (n + 1) at (omega (arith, is)))
marks_read (l ∷ lines) n (suc k) at is =
    ap (option_map sign_of) (later_by l.sign n at (marks_of (n + 1) lines) (omega (arith, is))) ∙ marks_read lines (n + 1) k at (omega (arith, is))

-- ---- lines that stand

stands : (p : Program) (at : ℕ) (i : Instr) (o : Option Sign) → p.instr at ≡ Some i → p.mark at ≡ said o → StandsWith p at i o
stands p at i None instr mark = record { instr = instr; mark = mark }
stands p at i (Some s) instr mark = record { instr = instr; mark = mark }

lie_of : (p : Program) (lines : List Line) (n : ℕ) → ((k at : ℕ) → at ≡ n + k → p.instr at ≡ instr_in lines k) → ((k at : ℕ) → at ≡ n + k → p.mark at ≡ sign_in lines k) → Lie p n lines
lie_of p [] n instrs marks = tt
lie_of p (l ∷ lines) n instrs marks = (
  stands p n l.instr l.sign (instrs 0 n (omega arith)) (marks 0 n (omega arith)),
  lie_of p lines (n + 1) (λ k at is. instrs (suc k) at (omega (arith, is))) (λ k at is. marks (suc k) at (omega (arith, is))),
)

pub marks_in : (lines : List Line) (values : ℕ → List ℕ) (at : ℕ) → (program_of (words_of lines) (marks_of 0 lines) values).mark at ≡ sign_in lines at
marks_in lines values at = marks_read lines 0 at at (omega arith)

pub lines_lie : (lines : List Line) (values : ℕ → List ℕ) → AllFit lines → Lie (program_of (words_of lines) (marks_of 0 lines) values) 0 lines
lines_lie lines values fit = lie_of (program_of (words_of lines) (marks_of 0 lines) values) lines 0 instrs (λ k at is. marks_read lines 0 k at is)
  where
    instrs : (k at : ℕ) → at ≡ 0 + k → option_and_then decoded (slice_get (words_of lines) at) ≡ instr_in lines k
    instrs k at is =
        let same : at ≡ k = omega (arith, is) in
        ap (λ (x : ℕ). option_and_then decoded (slice_get (words_of lines) x)) same ∙ words_read lines fit k

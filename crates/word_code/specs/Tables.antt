-- The code of choices: by annotations and modes, and by the class of a copy (docs/CODE.md, "Choices").
use Rattle.std.specs.Prelude.{ℕ, ◌+◌, ◌/◌, ◌%◌, Bool, true, false, List, [], ◌∷◌, ◌++◌, Option, Some}
use Rattle.task_ast.specs.declared.tree.Ann.{Ann}
use Rattle.task_ast.specs.declared.tree.Ann.TheVariants.{Single, Timely, Always}
use Rattle.task_ast.specs.declared.core_form.Site.{Site}
use Rattle.task_ast.specs.declared.core_form.Site.TheVariants as site
use Rattle.word_isa.specs.declared.instr.Instr.{Instr}
use Rattle.word_isa.specs.declared.instr.Instr.TheVariants.{Ldi, Lui, Mov, Add, Sub, Mul, And, Eq, Ltu, Adi, Ld, St, Jmp, Jz}
use Rattle.line_code.specs.declared.line.Line.{Line}
use Rattle.line_code.specs.Lines.{bares}
use Rattle.word_code.specs.Frames.{flag_at, stamp_at, value_at, outer_at, begun_at}

-- the mode inside where the mode outside is Own: in register 1, from the record's bit in register 2
abbrev pub own_code : Ann → (site : ℕ) → List Instr
own_code Single k = Ldi 1 1 ∷ Mul 1 2 ∷ []
own_code (Timely limit) k = Ld 3 15 37 ∷ Ld 4 0 (stamp_at k) ∷ Sub 3 4 ∷ Ldi 1 (limit % 65536) ∷ Lui 1 (limit / 65536) ∷ Ltu 1 3 ∷ Adi 1 1 ∷ Mul 1 2 ∷ []
own_code Always k = Ldi 1 2 ∷ []

abbrev pub own_lines : Ann → (site : ℕ) → List Line
own_lines ann k = bares (own_code ann k)

abbrev pub own_size : Ann → ℕ
own_size Single = 2
own_size (Timely limit) = 8
own_size Always = 1

-- the mode inside, in register 1, and the record's bit, in register 2
abbrev pub inside_code : Ann → (site : ℕ) → List Line
inside_code ann k = bares (Ld 2 0 (flag_at k) ∷ Eq 2 13 ∷ []) ++ (own_lines ann k ++ bares (Ld 3 15 39 ∷ Mov 4 3 ∷ Eq 4 0 ∷ Mul 1 4 ∷ Add 1 3 ∷ []))

-- what is annotated at a site
abbrev pub ann_of : Option Site → Ann
ann_of (Some (site.Io ann)) = ann
ann_of (Some (site.Block ann)) = ann
ann_of _ = Always

-- a block is entered: all that it needs is read before it writes
abbrev pub enter_code : Ann → (site : ℕ) → List Line
enter_code ann k = inside_code ann k ++ bares (Ld 3 15 37 ∷ Ld 4 15 39 ∷ St 3 15 (begun_at k) ∷ St 4 15 (outer_at k) ∷ St 1 15 39 ∷ [])

-- a block is left: the mode outside is back; register 1 is not 0 where the block kept
abbrev pub leave_code : (site : ℕ) → List Line
leave_code k = bares (Ld 2 15 39 ∷ Ld 1 15 (outer_at k) ∷ St 1 15 39 ∷ Ldi 1 1 ∷ Eq 1 2 ∷ [])

-- register 1 is not 0 where a site keeps: a call with a record in mode Keep inside, a copy with a record
abbrev pub keeps_code : Option Site → (site : ℕ) → List Line
keeps_code (Some (site.Io ann)) k = inside_code ann k ++ bares (Ldi 3 1 ∷ Eq 1 3 ∷ And 1 2 ∷ [])
keeps_code _ k = bares (Ld 1 0 (flag_at k) ∷ Eq 1 13 ∷ [])

abbrev pub keeps_size : Option Site → ℕ
keeps_size (Some (site.Io ann)) = own_size ann + 10
keeps_size _ = 2

-- goes to one address where register 1 is not 0, else to the other
abbrev pub branch : (to other : ℕ) → List Line
branch to other = bares (Jz 1 1 ∷ Jmp to ∷ Jmp other ∷ [])

-- the class of a copy by its ends: 1 Single to FRAM, 2 Private from nonvolatile words to RAM, 0 else
abbrev pub class_code : List Line
class_code = bares (Ld 1 15 40 ∷ Ltu 1 15 ∷ Ld 2 15 42 ∷ Ldi 3 4097 ∷ Ltu 2 3 ∷ Mov 3 1 ∷ Eq 3 0 ∷ And 2 3 ∷ Add 1 2 ∷ Add 1 2 ∷ [])

-- the class that counts: the record's where a copy keeps, else its own
abbrev pub class_load : (keeps : Bool) → (site : ℕ) → Instr
class_load true k = Ld 1 0 (value_at k)
class_load false k = Ld 1 15 45

abbrev pub class_test : (keeps : Bool) → (site class to other : ℕ) → List Line
class_test keeps k class to other = bares (class_load keeps k ∷ Ldi 2 class ∷ Eq 1 2 ∷ []) ++ branch to other

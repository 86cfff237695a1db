-- The bytes that stand for schemes, kinds of symbols and kinds of marks in an image (docs/MACHINE.md, "The image's tests").
use Rattle.std.specs.Prelude.{ℕ, zero, suc, [], ◌∷◌, Option, None, slice_get}
use Rattle.task_ast.specs.declared.tree.Kind.{Kind}
use Rattle.task_ast.specs.declared.tree.Kind.TheVariants.{Nv, Const, Vol}
use Rattle.word_isa.specs.declared.mark.MarkKind.{MarkKind}
use Rattle.word_isa.specs.declared.mark.MarkKind.TheVariants.{Begin, Look, Kept, Drop, Issue, Seal, Copy, Commit}
use Rattle.word_isa.specs.declared.parts.Scheme.{Scheme}
use Rattle.word_isa.specs.declared.parts.Scheme.TheVariants.{Undo, Bank}

-- the scheme of a byte, from 0
abbrev pub scheme_of : ℕ → Option Scheme
scheme_of code = slice_get (Undo ∷ Bank ∷ []) code

-- and the byte of a scheme
abbrev pub scheme_code : Scheme → ℕ
scheme_code Undo = 0
scheme_code Bank = 1

-- the kind of a symbol of a byte, from 0
abbrev pub kind_of : ℕ → Option Kind
kind_of code = slice_get (Nv ∷ Const ∷ Vol ∷ []) code

-- and the byte of a kind
abbrev pub kind_code : Kind → ℕ
kind_code Nv = 0
kind_code Const = 1
kind_code Vol = 2

-- the kind of a mark of a byte, from 1
abbrev pub mark_kind_of : ℕ → Option MarkKind
mark_kind_of zero = None
mark_kind_of (suc n) = slice_get (Begin ∷ Look ∷ Kept ∷ Drop ∷ Issue ∷ Seal ∷ Copy ∷ Commit ∷ []) n

-- and the byte of a kind
abbrev pub mark_code : MarkKind → ℕ
mark_code Begin = 1
mark_code Look = 2
mark_code Kept = 3
mark_code Drop = 4
mark_code Issue = 5
mark_code Seal = 6
mark_code Copy = 7
mark_code Commit = 8

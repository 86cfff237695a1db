-- What the head and a commit are put together of.
use Rattle.std.specs.Prelude.{◌≡◌, ℕ, ◌*◌, List, [], ◌∷◌, ◌++◌}
use Rattle.std.proofs.Common.{◌∙◌}
use Rattle.word_isa.specs.declared.instr.Instr.TheVariants.{Ldi, Mov, Add, Shl, Shr, Adi, St}
use Rattle.word_isa.specs.declared.mark.MarkKind.TheVariants as mark
use Rattle.line_code.specs.declared.line.Line.{Line}
use Rattle.line_code.specs.declared.line.Sign.{Sign}
use Rattle.line_code.specs.Lines.{bares, marked}
use Rattle.line_code.specs.PartLaws.{three_parts}
use Rattle.word_code.specs.Frames.{Frame, sign, stride}
use Rattle.word_code.specs.Heads.{fix_code, commit_code}

pub commit_lines : (f : Frame) (t : ℕ) (o m p n : List Line) (s : Sign) (far : ℕ) → s ≡ sign f mark.Commit t → far ≡ stride f.scheme
    → m ≡ o ++ bares (Mov 1 13 ∷ Adi 1 1 ∷ Ldi 2 8 ∷ Shl 1 2 ∷ Adi 1 (2 * t) ∷ Mov 2 14 ∷ Ldi 3 11 ∷ Shr 2 3 ∷ Add 1 2 ∷ [])
    → p ≡ m ++ marked s (St 1 0 0) ∷ [] → n ≡ p ++ fix_code far → n ≡ o ++ commit_code f t
commit_lines f t o m p n s far is apart one two three =
    three_parts o m p n _ _ _ one two three
    ∙ (λ i. o ++ (bares (Mov 1 13 ∷ Adi 1 1 ∷ Ldi 2 8 ∷ Shl 1 2 ∷ Adi 1 (2 * t) ∷ Mov 2 14 ∷ Ldi 3 11 ∷ Shr 2 3 ∷ Add 1 2 ∷ []) ++ (marked (is i) (St 1 0 0) ∷ fix_code (apart i))))

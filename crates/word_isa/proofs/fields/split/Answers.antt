use Rattle.std.specs.Prelude.{ℕ, ◌≡◌, ◌/◌, refl}
use Rattle.std.proofs.Common.{bit_and}
use Rattle.std.proofs.lemmas.Nat.{and_mask}
use Rattle.word_isa.specs.declared.fields.Fields.{Fields}
use Rattle.word_isa.specs.Fields.{code_field, a_field, b_field, m_field, t_field}
use Rattle.word_isa.proofs.fields.split.Goals as goal

-- shifts and masks give the fields
abbrev fields : (code a b m t : ℕ) → Fields
fields code a b m t = record { code = code; a = a; b = b; m = m; t = t }

masks : (w : ℕ) → fields (w / 16777216) (bit_and (w / 1048576) 15) (bit_and (w / 65536) 15) (bit_and w 65535) (bit_and w 16777215) ≡ fields (code_field w) (a_field w) (b_field w) (m_field w) (t_field w)
masks w = rw (and_mask (w / 1048576) 4, and_mask (w / 65536) 4, and_mask w 16, and_mask w 24) refl

pub returns : goal.returns
returns c = masks c.args.word

-- The law on any layout, by the laws on this one.
use Rattle.std.proofs.Common.{refl}
use Rattle.task_ast.specs.WellFormed.{scope_of}
use Rattle.layout_laws.specs.Layouts.{layout_of}
use Rattle.layout_laws.proofs.laws.every_statement_of_a_program_does_what_the_source_says.Goals as goal

pub returns : goal.returns
returns c = λ p core bank t level branched turning s well banks checked m store stands related covers points.
    c.the_code_of_a_statement_does_what_the_source_says.ensures p (scope_of core t) (layout_of core bank) s m.pc m store refl stands
    (c.no_two_places_share_an_address.ensures core bank well banks) related
    (c.every_statement_suits_its_layout.ensures core bank t level branched turning s well checked) covers points

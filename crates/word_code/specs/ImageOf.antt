-- The image of a plan.
use Rattle.std.specs.Prelude.{◌≡◌, ◌+◌, ◌≤◌, length}
use Rattle.task_ast.specs.declared.core_form.Core.{Core}
use Rattle.word_isa.specs.declared.image.Image.{Image}
use Rattle.line_code.specs.Areas.{areas_from, free_at_first}
use Rattle.run_plan.specs.declared.parts.Plan.{Plan}
use Rattle.word_isa.specs.ImageTests.{PassesTests}
use Rattle.word_code.specs.CodeOf.{first_at, jobs_of, jobs_size, code_of, words_of, marks_of, fram_of, symbols_from, most_kept}
use Rattle.word_code.specs.Frames.{stride}
use Rattle.word_code.specs.Passing.{AllPass, AllFit}

-- the image has the code, the marks and the first words of a plan, the program's arrays and peripherals, and version 2
pub record IsImageOf (p : Plan) (c : Core) (i : Image) : Type 0 where
  pub version : i.version ≡ 2
  pub scheme : i.scheme ≡ p.scheme
  pub state : i.state ≡ 0
  pub stride : i.stride ≡ stride p.scheme
  pub keep : i.keep ≡ 7042
  pub keep_words : i.keep_words ≡ most_kept c.tasks
  pub code : i.code ≡ words_of (code_of p c)
  pub fram : i.fram ≡ fram_of c.arrays
  pub symbols : i.symbols ≡ symbols_from (areas_from free_at_first c.arrays) 0 c.arrays
  pub peripherals : i.peripherals ≡ c.peripherals
  pub marks : i.marks ≡ marks_of 0 (code_of p c)

-- What makes a plan an image: its code is no longer than an image's may be, its lines pass, and where their operands fit, the
-- whole passes the tests of an image.
pub record HasImage (p : Plan) (c : Core) : Type 0 where
  pub short : first_at c + jobs_size p (jobs_of p c) ≤ 4194304
  pub lines : AllPass (code_of p c)
  pub tests : AllFit (code_of p c) → length (code_of p c) ≤ 4194304
      → PassesTests 2 p.scheme (stride p.scheme) 7042 (most_kept c.tasks) (words_of (code_of p c)) (fram_of c.arrays) (symbols_from (areas_from free_at_first c.arrays) 0 c.arrays) c.peripherals (marks_of 0 (code_of p c))

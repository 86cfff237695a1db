-- The summary of a run: five counts, a word, and how it ended (docs/COMMANDS.md, "Soak").
use Rattle.std.specs.Prelude.{ℕ, List, ◌++◌, codes, decimal}
use Rattle.devices.specs.declared.event.RunEnd.{RunEnd}
use Rattle.devices.specs.declared.world.World.{World}
use Rattle.power_trace.specs.Report.{end_text}
use Rattle.power_trace.specs.Run.{journal_on}
use Rattle.soak_run.specs.Counts.{counts_of}
use Rattle.soak_run.specs.Ends.{end_on, word_named}
use Rattle.soak_run.specs.declared.counts.Counts.{Counts}
use Rattle.word_isa.specs.declared.image.Image.{Image}

-- a number on a line, behind what it counts
abbrev pub line : (front : List ℕ) (n : ℕ) → List ℕ
line front n = front ++ decimal n ++ codes "\n"

-- the text of counts
abbrev pub counts_text : Counts → List ℕ
counts_text c =
    line (codes "boots ") c.boots ++ line (codes "commits ") c.commits ++ line (codes "issued ") c.issued ++ line (codes "kept ") c.kept ++ line (codes "copies ") c.copies

-- with the word of `n` and the end, as a report's last line tells it
abbrev pub summary_text : Counts → (n : ℕ) → RunEnd → List ℕ
summary_text c n end = counts_text c ++ line (codes "n = ") n ++ (end_text end ++ codes "\n")

-- the summary of an image on a world: what its journal counts, the word of `n` in memory at its end, and how it ended
abbrev pub summary_on : Image → World → List ℕ
summary_on image world =
    summary_text (counts_of (journal_on image world)) (word_named (codes "n") image (end_on image world).store) (journal_on image world).ending

-- The end of a machine is written as in a report.
use Rattle.std.proofs.Common.{◌∙◌, ap, sym}
use Rattle.ease_debug.proofs.SendLemmas.{as_text, no_image}
use Rattle.ease_debug.specs.Shown.{last_line}
use Rattle.ease_debug.proofs.shown.send_end.Goals as goal

pub returns-in-Halted : goal.returns-in-Halted
returns-in-Halted g c = as_text _ _ _ _ _ _ _ (c.as_slice.ensures ∙ c.end_line.ensures no_image ∙ ap last_line (sym c.in-Halted.is)) c.send-in-Halted.ensures

pub returns-in-Trapped : goal.returns-in-Trapped
returns-in-Trapped g c = as_text _ _ _ _ _ _ _ (c.as_slice-in-Trapped.ensures ∙ c.end_line-in-Trapped.ensures no_image ∙ ap last_line (sym c.in-Trapped.is)) c.send-in-Trapped.ensures

pub returns-in-Power : goal.returns-in-Power
returns-in-Power g c = as_text _ _ _ _ _ _ _ (c.as_slice-in-Power.ensures ∙ c.end_line-in-Power.ensures no_image ∙ ap last_line (sym c.in-Power.is)) c.send-in-Power.ensures

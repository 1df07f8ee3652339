-- A line that has not come decides nothing, one that has by its refusal.
use Rattle.std.proofs.Common.{◌∙◌}
use Rattle.dualrun_text.proofs.LineDecides.{not_come, come, come_unreadable}
use Rattle.dualrun_text.proofs.decided.Goals as goal

pub returns-then-not-has_line : goal.returns-then-not-has_line
returns-then-not-has_line c = not_come _ c.if-not-has_line.ensures

pub returns-in_default : goal.returns-in_default
returns-in_default c = come_unreadable _ c.if-not-has_line.ensures c.in_default.ensures

pub returns : goal.returns
returns c = c.is_err.ensures.value ∙ come _ c.if-not-has_line.ensures _ _ c.in-Some.ensures c.line_refusal.ensures

-- The first entry has no space before it, a later one has.
use Rattle.std.proofs.Common.{rules}
use Rattle.dualrun_text.proofs.Lines.{first_entry, later_entry}
use Rattle.dualrun_text.proofs.write.entry.Goals as goal

pub returns-then-i-eq0 : goal.returns-then-i-eq0
returns-then-i-eq0 c = search (rules, first_entry)

pub returns : goal.returns
returns c = search (rules, later_entry)

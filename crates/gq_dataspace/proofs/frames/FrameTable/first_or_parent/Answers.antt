use Rattle.std.proofs.Common.{sym}
use Rattle.gq_dataspace.specs.internal.Frame_lists.{list_at}
use Rattle.gq_dataspace.proofs.Dataspace_link_tables.{parent_first}
use Rattle.gq_dataspace.proofs.frames.FrameTable.first_or_parent.Goals as goal

pub returns-then-index-lt-LINKS-clause-value : goal.returns-then-index-lt-LINKS-clause-value
returns-then-index-lt-LINKS-clause-value c = sym (parent_first (list_at c.args.self.now c.args.first) c.args.first c.args.index c.if-index-lt-LINKS.true)

use Rattle.std.proofs.Common.{sym}
use Rattle.gq_caps.proofs.Kind_list_comparison.{apart}
use Rattle.gq_caps.proofs.kinds.are_same.Goals as goal

pub returns-then-kinds-others : goal.returns-then-kinds-others
returns-then-kinds-others c =
    sym (apart c.args.kinds.now c.args.others.now (c.if-kinds-others.true))

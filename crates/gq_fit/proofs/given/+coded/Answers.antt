use Rattle.std.proofs.Common.{ap}
use Rattle.gq_scenario.specs.Given.{source_of}
use Rattle.gq_fit.specs.Fitted.{is_code}
use Rattle.gq_fit.proofs.Coded_leaves.{coded_first, coded_leaf}
use Rattle.gq_fit.proofs.given.+coded.Goals as goal

pub returns-in-Code : goal.returns-in-Code
returns-in-Code t c =
    coded_first c.copied.result c.args.components.now c.component-item.result c.in-len1-up.len_at_least c.component-item.is
    (coded_leaf c.component-item.result c.leaf.result.now c.leaf-in-Code.result.now (source_of c.source.result.now) c.copied.result c.name.result.now
    c.leaf.ensures c.leaf-in-Code.ensures c.source.ensures.source (ap (λ s. is_code (source_of s)) c.in-Code.is) c.copied.ensures c.name.ensures)

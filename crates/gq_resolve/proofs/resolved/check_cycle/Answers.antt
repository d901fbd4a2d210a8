use Rattle.gq_resolve.proofs.Service_server_lists.{reaches_itself, none_reaches}
use Rattle.gq_resolve.proofs.resolved.check_cycle.Goals as goal

pub returns-in-Some : goal.returns-in-Some
returns-in-Some c system of =
    rw (c.copied-name.ensures, c.name.ensures, c.leaf.ensures)
    (reaches_itself system c.args.components.now of c.args.routes.now c.requires _ c.in_ok-used.ensures c.in-Some.place c.index-components-place.result
    (cc c.in_ok-place.ensures.first) c.index-components-place.is)

pub returns : goal.returns
returns c system of =
    none_reaches system c.args.components.now of c.args.routes.now c.requires _ c.in_ok-used.ensures (cc c.in_ok-place.ensures.first)

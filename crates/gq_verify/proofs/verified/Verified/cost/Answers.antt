use Rattle.std.proofs.Common.{sym}
use Rattle.gq_verify.proofs.Section_step_costs.{cost_is, cost_none}
use Rattle.gq_verify.proofs.verified.Verified.cost.Goals as goal

pub returns-in-Some : goal.returns-in-Some
returns-in-Some c =
    rw (← c.self.view_is)
    (cost_is c.self.inside.subject c.args.section c.in-Some.body.now c.section_cost.result c.self.invariant.faultless (sym c.in-Some.ensures.body)
    c.section_cost.ensures)

pub returns-in-None : goal.returns-in-None
returns-in-None c = rw (← c.self.view_is) (sym (cost_none c.args.section c.self.inside.subject.program.sections (sym c.in-None.ensures.body)))

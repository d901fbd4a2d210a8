use Rattle.std.proofs.Common.{subst, sym}
use Rattle.gq_model.specs.rules.Kinds.{Subject}
use Rattle.gq_verify.specs.Visits.{Shows, section_sights}
use Rattle.gq_verify.proofs.Visitor_statement_walk.{section_shown}
use Rattle.gq_verify.proofs.verified.Verified.visit.Goals as goal

pub returns-in-Some : goal.returns-in-Some
returns-in-Some g c =
    let section = c.args.section in
    let all = section_shown g.V.Visitor.leads c.self.inside.subject section c.in-Some.body.now c.new.result c.start_of-state.result c.args.visitor.now
    c.point.new.self c.visit.new.visitor c.self.invariant.faultless (sym c.in-Some.ensures.body) c.new.ensures c.start_of-state.ensures c.point.ensures
    c.visit.ensures.shown in
    subst (λ (v : Subject). Shows g.V.Visitor.leads c.args.visitor.now (section_sights v section) c.visit.new.visitor) c.self.view_is all

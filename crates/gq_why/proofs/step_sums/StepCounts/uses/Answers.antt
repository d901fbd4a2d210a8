use Rattle.std.proofs.Common.{◌≡◌, ◌∙◌, ap, subst, rules}
use Rattle.gq_model.specs.machine.Scenario.{Scenario}
use Rattle.gq_model.specs.rules.Use.{is_there}
use Rattle.gq_resolve.specs.Served.{server_at}
use Rattle.gq_resolve.specs.Served.{AreServers}
use Rattle.gq_why.proofs.Known_steps.{server_reported}
use Rattle.gq_why.proofs.step_sums.StepCounts.uses.Goals as goal

pub returns : goal.returns
returns c =
    let routes = c.self.inside.found.now.routes in
    let x = c.args.leaf in
    let known = subst (λ (s : Scenario). AreServers s routes) c.self.view_is c.self.invariant.servers in
    let reported = server_reported c.args.self.now routes known c.args.user c.args.component.now c.requires c.args.service.now x in
    let asked = c.server.ensures ∙ ap (λ y. server_at y c.args.service.now routes) c.new.ensures in
    let found : c.eq.result ≡ is_there x c.server.result = search rules in
    found ∙ (ap (is_there x) asked ∙ reported)

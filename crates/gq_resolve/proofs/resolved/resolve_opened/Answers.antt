use Rattle.std.proofs.Common.{rules}
use Rattle.std.proofs.Common.{◌≡◌, ◌∙◌, List, None, map, ap, subst, sym}
use Rattle.gq_model.specs.machine.Scenario.{Component, components}
use Rattle.gq_model.specs.rules.Resolve.{routes_fault}
use Rattle.gq_resolve.specs.Served.{leaf_routes, routes_of, AreServers}
use Rattle.gq_resolve.proofs.Service_server_lists.{AreServers-routes_of}
use Rattle.gq_resolve.proofs.resolved.resolve_opened.Goals as goal

pub returns-clause-servers : goal.returns-clause-servers
returns-clause-servers c =
    let s = c.args.scenario.now in
    let same : c.args.components.now ≡ components s = c.requires.all in
    let is : c.in_ok-routes.routes ≡ routes_of s = c.in_ok-routes.ensures.routes ∙ ap (λ (cs : List Component). map (leaf_routes cs) cs) same in
    let none = subst (λ (cs : List Component). routes_fault cs ≡ None) same c.in_ok-routes.ensures.fault in
    subst (AreServers s) (sym is) (AreServers-routes_of s none)

pub returns-clause-fault : goal.returns-clause-fault
returns-clause-fault c = search rules

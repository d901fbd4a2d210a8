use Rattle.std.proofs.Common.{ap, ◌∙◌}
use Rattle.gq_program.specs.Interfaces.{all_unbounded}
use Rattle.gq_scenario.specs.Without_quantities.{without_quanta}
use Rattle.gq_scenario.proofs.Scenarios_without_quantities.{made_unsized, unsized_made}
use Rattle.gq_scenario.proofs.without_quantities.without_quantities.Goals as goal

-- it has as many of each, with the same names
pub new-requires : goal.new-requires
new-requires c =
    let made = made_unsized c.args.scenario.now c.version.result c.total.result c.in_ok-default_routes.default_routes c.in_ok-interfaces.interfaces
    c.in_ok-nodes.nodes c.version.ensures c.total.ensures (c.in_ok-default_routes.ensures ∙ c.default_routes.ensures)
    (c.in_ok-interfaces.ensures ∙ ap all_unbounded c.interfaces.ensures) (c.in_ok-nodes.ensures ∙ ap without_quanta c.nodes.ensures) in
    unsized_made c.args.scenario.now _ made c.laws.ensures

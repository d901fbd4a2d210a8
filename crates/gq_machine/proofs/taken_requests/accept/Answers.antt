-- The oldest request to a leaf that serves.
use Rattle.std.proofs.Common.{◌≡◌, None, sym, ap, subst, ◌∙◌}
use Rattle.std.specs.Prelude.{slice_get}
use Rattle.std.proofs.lemmas.Option.{slice_get_within}
use Rattle.gq_model.specs.declared.phase.Phase.TheVariants as phase
use Rattle.gq_model.specs.machine.Scenario.{Component, components}
use Rattle.gq_model.specs.machine.Step.{first_signal}
use Rattle.gq_model.specs.texts.Code.{IsProgram}
use Rattle.gq_trade.specs.Numbers.{IsTaken}
use Rattle.gq_trade.specs.Queues.{oldest_to}
use Rattle.gq_trade.specs.Trading.{server_of, session_at}
use Rattle.gq_trade.specs.Trades.{Trades}
use Rattle.gq_statements.proofs.Oldest_request_outcomes.{from_some}
use Rattle.gq_machine.proofs.Stepping_leaf_facts.{of_leaf}
use Rattle.gq_machine.proofs.Machine_request_taking.{beyond, none_waits}
use Rattle.gq_machine.proofs.taken_requests.accept.Goals as goal

pub returns-in_default-clause-step : goal.returns-in_default-clause-step
returns-in_default-clause-step c =
    let can = c.requires.serves.can in
    let f = c.args.fixed.now in
    let m = c.args.state.now in
    let x = c.args.number in
    let serves = of_leaf (λ y. y.state.phase ≡ phase.Serving) (slice_get m.leaves.items x) can.leaf can.leaf_is c.requires.serves.serves in
    let none = of_leaf (λ y. first_signal y.state.signals ≡ None) (slice_get m.leaves.items x) can.leaf can.leaf_is c.requires.no_signal in
    none_waits f m can.holds c.lawful.ensures x can.component can.leaf can.component_is can.leaf_is serves none
    (ap (λ (w : Trades). oldest_to x w.trading.requests) (sym c.trades.ensures) ∙ c.in_default.ensures.none)

pub scenario_laws-requires : goal.scenario_laws-requires
scenario_laws-requires c =
    let can = c.requires.serves.can in slice_get_within (components c.args.fixed.now.table) c.args.number can.component can.component_is

pub returns-then-is_beyond-clause-wrong : goal.returns-then-is_beyond-clause-wrong
returns-then-is_beyond-clause-wrong c =
    let can = c.requires.serves.can in
    let f = c.args.fixed.now in
    let m = c.args.state.now in
    let x = c.args.number in
    let r = c.in-Some.request in
    let serves = of_leaf (λ y. y.state.phase ≡ phase.Serving) (slice_get m.leaves.items x) can.leaf can.leaf_is c.requires.serves.serves in
    let none = of_leaf (λ y. first_signal y.state.signals ≡ None) (slice_get m.leaves.items x) can.leaf can.leaf_is c.requires.no_signal in
    let program = from_some (λ (d : Component). IsProgram d.node.program) (slice_get (components f.table) x) can.component can.component_is
    c.scenario_laws.ensures.program in
    let first = c.in-Some.ensures.some in
    let is = ap (λ (w : Trades). oldest_to x w.trading.requests) (sym c.trades.ensures) ∙ first.is in
    let its = subst (λ (w : Trades). IsTaken w.trading.sessions r.session × (server_of w.trading r.session ≡ x)) c.trades.ensures c.in-Some.ensures.its in
    let asked = c.is_beyond.ensures.beyond c.if-is_beyond.true in
    let level = ap (λ (w : Trades). (session_at w.trading r.session).level) (sym c.trades-2.ensures) ∙ sym c.level-level.ensures ∙ asked.1 in
    beyond f m can.holds c.lawful.ensures x can.component can.leaf can.component_is can.leaf_is serves none c.scenario_laws.ensures.interfaces program
    c.laws.ensures.sound r first.rest is its.0 its.1 asked.0 level

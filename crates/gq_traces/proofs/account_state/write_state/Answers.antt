-- The turns are taken, and all nodes are reported.
use Rattle.std.proofs.Common.{true, subst}
use Rattle.gq_model.specs.machine.Scenario.{Scenario, system}
use Rattle.gq_traces.specs.First_turns.{some_turns}
use Rattle.gq_traces.specs.Account_state.{text_in}
use Rattle.gq_traces.specs.Trace.{Traced, after_all, start_traced}
use Rattle.gq_traces.specs.internal.Line_acts.{acts_along}
use Rattle.gq_traces.specs.internal.Printed_steps.{Goes}
use Rattle.gq_traces.proofs.Printed_leaves.{all_went, cut_off}
use Rattle.gq_traces.proofs.account_state.write_state.Goals as goal

pub returns-then-write_nodes : goal.returns-then-write_nodes
returns-then-write_nodes g c =
    let s = c.args.world.now.scenario in
    let t : Traced = after_all (system s) (some_turns c.args.first (acts_along (system s) c.args.turns.now (start_traced (system s)))) (start_traced (system
    s)) in
    let n = c.write_nodes in
    all_went g.W.Write.contents c.args.out.now n.new.out n.result (text_in s t) _ c.if-write_nodes.true
    (subst (λ (r : Scenario). Goes g.W.Write.contents c.args.out.now n.new.out true n.result (text_in r t)) c.take_first.ensures.scenario
    (n.ensures t (c.take_first.ensures.at (start_traced (system s)) c.requires.at)))

pub returns-else-write_nodes : goal.returns-else-write_nodes
returns-else-write_nodes g c =
    let s = c.args.world.now.scenario in
    let t : Traced = after_all (system s) (some_turns c.args.first (acts_along (system s) c.args.turns.now (start_traced (system s)))) (start_traced (system
    s)) in
    let n = c.write_nodes in
    cut_off g.W.Write.contents c.args.out.now n.new.out n.result (text_in s t) _ c.if-write_nodes.false
    (subst (λ (r : Scenario). Goes g.W.Write.contents c.args.out.now n.new.out true n.result (text_in r t)) c.take_first.ensures.scenario
    (n.ensures t (c.take_first.ensures.at (start_traced (system s)) c.requires.at)))

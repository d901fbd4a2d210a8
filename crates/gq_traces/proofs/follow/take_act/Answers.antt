-- Another value of an input, or a signal.
use Rattle.std.proofs.Common.{◌≡◌, subst}
use Rattle.gq_model.specs.machine.Run.{set_input, submit}
use Rattle.gq_model.specs.machine.Scenario.{system}
use Rattle.gq_traces.proofs.Unprinted_turns.{one_set, one_submitted}
use Rattle.gq_traces.proofs.follow.take_act.Goals as goal

pub returns-in-Sets : goal.returns-in-Sets
returns-in-Sets c =
    let w = c.args.world.now in
    let new = c.set_input-set.new.self in
    rw (c.in-Sets.is)
    (one_set w.scenario c.args.leaf c.in-Sets.input c.in-Sets.number w new c.args.followed.now c.set_input-set.ensures.scenario c.set_input-set.ensures.stopped
    c.set_input-set.ensures.signals
    (subst (λ i. new.world ≡ set_input (system w.scenario) w.world c.args.leaf i c.in-Sets.number) c.from.ensures c.set_input-set.ensures.set)
    c.requires.followed)

pub returns-in-Submits : goal.returns-in-Submits
returns-in-Submits c =
    let w = c.args.world.now in
    let took = c.signal-submitted in
    let new = took.new.self in
    rw (c.in-Submits.is)
    (one_submitted w.scenario c.args.leaf c.in-Submits.signal w new c.args.followed.now took.ensures.scenario
    (took.ensures.running c.requires.followed.running c.requires.signals) took.ensures.signals
    (subst (λ i. new.world ≡ submit w.world c.args.leaf i) c.from-in-Submits.ensures took.ensures.submitted) c.requires.followed)

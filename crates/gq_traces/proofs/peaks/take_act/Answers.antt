-- Another value of an input, or a signal.
use Rattle.std.proofs.Common.{◌≡◌, ◌∙◌, subst}
use Rattle.gq_model.specs.machine.Run.{set_input, submit}
use Rattle.gq_model.specs.machine.Scenario.{system}
use Rattle.gq_traces.proofs.Peaks_kept.{set_peaked, submit_peaked}
use Rattle.gq_traces.proofs.peaks.take_act.Goals as goal

pub returns-in-Sets : goal.returns-in-Sets
returns-in-Sets c =
    let w = c.args.world.now in
    let new = c.set_input-set.new.self in
    rw (c.in-Sets.is)
    (set_peaked w new c.args.leaf c.in-Sets.input c.in-Sets.number c.args.turns c.args.peaks.now c.set_input-set.ensures.scenario
    (c.set_input-set.ensures.stopped ∙ c.requires.running) c.set_input-set.ensures.signals
    (subst (λ i. new.world ≡ set_input (system w.scenario) w.world c.args.leaf i c.in-Sets.number) c.from.ensures c.set_input-set.ensures.set))

pub returns-in-Submits : goal.returns-in-Submits
returns-in-Submits c =
    let w = c.args.world.now in
    let took = c.signal-submitted in
    let new = took.new.self in
    rw (c.in-Submits.is)
    (submit_peaked w new c.args.leaf c.in-Submits.signal c.args.turns c.args.peaks.now took.ensures.scenario
    (took.ensures.running c.requires.running c.requires.signals) took.ensures.signals
    (subst (λ i. new.world ≡ submit w.world c.args.leaf i) c.from-in-Submits.ensures took.ensures.submitted))

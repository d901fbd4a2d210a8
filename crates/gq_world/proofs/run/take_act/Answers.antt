-- A setting and a signal write nothing.
use Rattle.std.proofs.Common.{◌≡◌, ◌∙◌, subst}
use Rattle.gq_model.specs.machine.Run.{set_input, submit}
use Rattle.gq_model.specs.machine.Scenario.{system}
use Rattle.gq_model.specs.declared.act.Act.TheVariants.{Turns}
use Rattle.gq_model.specs.machine.Run.{act_on}
use Rattle.gq_world.proofs.Turn_sequence_runs.{runs_more, set_runs, submit_runs}
use Rattle.gq_world.proofs.run.take_act.Goals as goal

pub returns-in-Turns : goal.returns-in-Turns
returns-in-Turns g c =
    let w = c.args.world.now in
    rw (c.in-Turns.is)
    (runs_more g.W.Write.contents (act_on (system w.scenario) c.args.leaf (Turns c.in-Turns.count)) w c.take_turns.new.world c.args.out.now c.take_turns.new.out
    c.take_turns.result c.take_turns.ensures)

pub returns-in-Sets : goal.returns-in-Sets
returns-in-Sets g c =
    let w = c.args.world.now in
    let new = c.set_input-set.new.self in
    rw (c.in-Sets.is)
    (set_runs g.W.Write.contents w new c.args.out.now c.args.leaf c.in-Sets.input c.in-Sets.number c.set_input-set.ensures.scenario
    (subst (λ i. new.world ≡ set_input (system w.scenario) w.world c.args.leaf i c.in-Sets.number) c.from.ensures c.set_input-set.ensures.set)
    (c.set_input-set.ensures.stopped ∙ c.requires.running) c.set_input-set.ensures.signals)

pub returns-in-Submits : goal.returns-in-Submits
returns-in-Submits g c =
    let w = c.args.world.now in
    let new = c.signal-submitted.new.self in
    rw (c.in-Submits.is)
    (submit_runs g.W.Write.contents w new c.args.out.now c.args.leaf c.in-Submits.signal c.signal-submitted.ensures.scenario
    (subst (λ i. new.world ≡ submit w.world c.args.leaf i) c.from-in-Submits.ensures c.signal-submitted.ensures.submitted)
    (c.signal-submitted.ensures.running c.requires.running c.requires.few) c.signal-submitted.ensures.signals)

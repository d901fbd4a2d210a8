-- Another value of an input, and a signal.
use Rattle.std.proofs.Common.{◌≡◌, subst}
use Rattle.gq_model.specs.machine.Run.{set_input, submit}
use Rattle.gq_model.specs.machine.Scenario.{system}
use Rattle.gq_unverified.proofs.Tested_step_counts.{near_set, near_submit}
use Rattle.gq_unverified.proofs.Tested_turn_runs.{came_set, came_submit}
use Rattle.gq_unverified.proofs.tested_turns.take_act.Goals as goal

pub returns-in-Sets-clause-near : goal.returns-in-Sets-clause-near
returns-in-Sets-clause-near g c =
    let m = c.args.machine.now in
    rw (c.in-Sets.is)
    (near_set (system m.scenario) m.world c.set_input-set.new.self.world c.args.leaf c.from.result c.in-Sets.number c.set_input-set.ensures.set)

pub returns-in-Sets-clause-come : goal.returns-in-Sets-clause-come
returns-in-Sets-clause-come g c =
    let m = c.args.machine.now in
    let new = c.set_input-set.new.self in
    rw (c.in-Sets.is)
    (came_set (system m.scenario) c.args.leaf c.in-Sets.input c.in-Sets.number m.world new.world (g.W.Write.contents c.args.out.now.writer)
    (subst (λ i. new.world ≡ set_input (system m.scenario) m.world c.args.leaf i c.in-Sets.number) c.from.ensures c.set_input-set.ensures.set))

pub returns-in-Submits-clause-near : goal.returns-in-Submits-clause-near
returns-in-Submits-clause-near g c =
    let m = c.args.machine.now in
    rw (c.in-Submits.is)
    (near_submit m.world c.submit-submitted.new.self.world c.args.leaf c.from-in-Submits.result c.submit-submitted.ensures.submitted)

pub returns-in-Submits-clause-come : goal.returns-in-Submits-clause-come
returns-in-Submits-clause-come g c =
    let m = c.args.machine.now in
    let new = c.submit-submitted.new.self in
    rw (c.in-Submits.is)
    (came_submit (system m.scenario) c.args.leaf c.in-Submits.signal m.world new.world (g.W.Write.contents c.args.out.now.writer)
    (subst (λ i. new.world ≡ submit m.world c.args.leaf i) c.from-in-Submits.ensures c.submit-submitted.ensures.submitted))

use Rattle.std.proofs.Common.{Ok, subst}
use Rattle.gq_model.specs.machine.Scenario.{Scenario}
use Rattle.gq_unverified.specs.Tested_run_ends.{EndsTested}
use Rattle.gq_unverified.specs.Tested.{tested_turns}
use Rattle.gq_world.specs.internal.Act_transitions.{acts_of_lines}
use Rattle.gq_unverified.proofs.tested_run.run_table.Goals as goal

pub returns-in-Ok : goal.returns-in-Ok
returns-in-Ok g c =
    subst (λ (s : Scenario). EndsTested g.W.Write.contents (tested_turns s (Ok (acts_of_lines s c.args.turns.now))) c.args.out.now c.run_named.new.out
    c.run_named.result)
    c.in-Ok.ensures.scenario c.run_named.ensures

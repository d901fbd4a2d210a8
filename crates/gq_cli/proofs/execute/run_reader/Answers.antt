-- The scenario was loaded.
use Rattle.gq_cli.proofs.Read_turn_run.{promised_as}
use Rattle.gq_cli.proofs.execute.run_reader.Goals as goal

pub returns-in-Ok-clause-upheld : goal.returns-in-Ok-clause-upheld
returns-in-Ok-clause-upheld g c =
    promised_as c.args.scenario.now c.in-Ok.world.scenario c.in-Ok.ensures.loaded c.run_loaded-ran.result _ _ _ _ c.in-Ok.ensures.accepted
    c.in-Ok.ensures.upheld c.run_loaded-ran.ensures.ended

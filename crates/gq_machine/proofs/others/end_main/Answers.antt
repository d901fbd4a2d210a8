-- The end of `main`.
use Rattle.gq_machine.proofs.Machine_signals.{has_none, serves_some}
use Rattle.std.specs.Prelude.{slice_get}
use Rattle.gq_model.specs.machine.Scenario.{components}
use Rattle.gq_machine.proofs.others.end_main.Goals as goal

pub serve-requires-clause-provides : goal.serve-requires-clause-provides
serve-requires-clause-provides c =
    let can = c.requires.does.can in
    record {
      main = c.requires.main;
      provides = serves_some (slice_get (components c.args.fixed.now.table) c.args.number) can.component c.serves_on.result can.component_is c.serves_on.ensures
          c.if-serves_on.true;
    }

pub exit-requires-clause-ends : goal.exit-requires-clause-ends
exit-requires-clause-ends c =
    let can = c.requires.does.can in
    record {
      main = c.requires.main;
      provides = has_none (slice_get (components c.args.fixed.now.table) c.args.number) can.component c.serves_on.result can.component_is c.serves_on.ensures
          c.if-serves_on.false;
    }

use Rattle.std.proofs.Common.{◌≡◌, ◌≤◌, ◌+◌, drop}
use Rattle.gq_model.specs.machine.Scenario.{components}
use Rattle.gq_model.specs.machine.Rest.{greatest_turns}
use Rattle.gq_world.specs.World_between_turns.{AreOf}
use Rattle.std.proofs.Common.{length}
use Rattle.gq_traces.specs.Schedule.{listed_turns}
use Rattle.gq_traces.proofs.Lines_written.{HasWritten}
use Rattle.gq_traces.proofs.turn_schedule.write_lines.Given as goal

-- the lines before this one fit, and were written
abbrev pub invariant-loop-item : goal.invariant-loop-item
invariant-loop-item g l = record {
  below : AreOf (length (components l.table)) (drop l.item-index l.list);
  few : l.turns + listed_turns (drop l.item-index l.list) ≤ greatest_turns;
  written : HasWritten (components l.table) l.list (drop l.item-index l.list) l.room l.turns (g.W.Write.contents l.fn.out.writer)
      (g.W.Write.contents l.out.writer);
  counted : l.out.failures ≡ l.fn.out.failures;
}

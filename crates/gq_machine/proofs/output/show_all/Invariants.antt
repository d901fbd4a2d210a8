use Rattle.std.proofs.Common.{◌≡◌, ◌-◌, ◌≤◌, length}
use Rattle.gq_machine.specs.Machine_world.{world_of}
use Rattle.gq_machine.specs.internal.Machine_invariant.{Holds}
use Rattle.gq_machine.specs.Countable.{AreCountable}
use Rattle.gq_machine.specs.internal.Turn_transitions.{Says}
use Rattle.gq_machine.proofs.output.show_all.Given as goal

-- the turns so far gave the lines that stand there
abbrev pub invariant-loop-left : goal.invariant-loop-left
invariant-loop-left l = record {
  holds : Holds l.fixed l.state;
  few : l.left ≤ l.turns;
  said : Says l.fixed l.number (l.turns - l.left) l.fn.state l.state l.fn.lines.bytes l.lines.bytes;
  countable : AreCountable (world_of l.fixed.table l.state.leaves.items l.state.slots) l.number l.left;
  longer : length l.fn.lines.bytes ≤ length l.lines.bytes;
  label : l.lines.label ≡ l.fn.lines.label;
}

abbrev pub decreases-loop-left : goal.decreases-loop-left
decreases-loop-left l = l.left

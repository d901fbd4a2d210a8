use Rattle.std.proofs.Common.{◌≡◌, ◌-◌, ◌≤◌, Some}
use Rattle.gq_traces.specs.internal.Flat.{plain_ahead}
use Rattle.gq_traces.proofs.tracker.Ahead.straight.Given as goal

-- the statements so far have none in them, and lead on there
abbrev pub invariant-loop-count : goal.invariant-loop-count
invariant-loop-count l = record {
  few : l.count ≤ l.most;
  ahead : plain_ahead l.numbered.entries.items l.count l.fn.self.next ≡ Some l.next;
}

abbrev pub decreases-loop-count : goal.decreases-loop-count
decreases-loop-count l = l.most - l.count

use Rattle.std.proofs.Common.{length, get_or, ◌-◌, ◌<◌, ◌≤◌}
use Rattle.gq_toml_places.proofs.line_columns.line_index.Given as goal

-- a line that starts before the offset or at it, and one that starts after it, if there is one
abbrev pub invariant-loop-high : goal.invariant-loop-high
invariant-loop-high l = record {
  apart : l.low < l.high;
  inside : l.high ≤ length l.starts;
  before : get_or l.starts l.low 0 ≤ l.offset;
  after : l.high < length l.starts → l.offset < get_or l.starts l.high 0;
}

abbrev pub decreases-loop-high : goal.decreases-loop-high
decreases-loop-high l = l.high - l.low

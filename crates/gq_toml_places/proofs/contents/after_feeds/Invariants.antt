use Rattle.std.proofs.Common.{length, ◌-◌, ◌≤◌}
use Rattle.gq_toml_places.proofs.contents.after_feeds.Given as goal

abbrev pub invariant-loop-left : goal.invariant-loop-left
invariant-loop-left l = l.at ≤ length l.text

abbrev pub decreases-loop-left : goal.decreases-loop-left
decreases-loop-left l = length l.text - l.at

use Rattle.std.proofs.Common.{◌-◌, ◌≡◌, ◌<◌, ◌+◌, ◌++◌, length, take}
use Rattle.gq_output.proofs.gathered_lines.put_whole.Given as goal

-- the first bytes are there, so many vectors of them
abbrev pub invariant-loop-done : goal.invariant-loop-done
invariant-loop-done l = record {
  bytes : take (l.at + l.done) l.page ≡ take l.at l.initial.page ++ take l.done l.prefix;
  few : l.done < l.count + 32;
  length : length l.page ≡ length l.initial.page;
}

abbrev pub decreases-loop-done : goal.decreases-loop-done
decreases-loop-done l = l.count - l.done

use Rattle.std.proofs.Common.{◌≡◌, ◌-◌, ◌≤◌, length, take}
use Rattle.std.specs.Io.KnownBytes.{Appends}
use Rattle.gq_output.proofs.counted.put.Given as goal

-- so many bytes were written, without failure
abbrev pub invariant-loop-done : goal.invariant-loop-done
invariant-loop-done g l = record {
  fits : l.done ≤ length l.bytes;
  written : Appends (g.W.Write.contents l.fn.out.writer) (g.W.Write.contents l.out.writer) (take l.done l.bytes);
  counted : l.out.failures ≡ l.fn.out.failures;
}

abbrev pub decreases-loop-done : goal.decreases-loop-done
decreases-loop-done g l = length l.bytes - l.done

use Rattle.std.proofs.Common.{◌≡◌, ◌-◌, ◌++◌}
use Rattle.gq_pages.specs.Frame_bytes.{zeros}
use Rattle.gq_pages.proofs.memory.Cells.extend.Given as goal

abbrev pub invariant-loop-k : goal.invariant-loop-k
invariant-loop-k l = record {
  at : l.self.at ≡ l.at;
  bytes : l.self.bytes ≡ l.initial.self.bytes ++ zeros (l.k - l.len);
  room : l.self.room ≡ l.initial.self.room - (l.k - l.len);
}

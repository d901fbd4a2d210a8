use Rattle.std.proofs.Common.{◌≡◌, ◌-◌}
use Rattle.gq_pages.specs.Frame_bytes.{zeroed}
use Rattle.gq_pages.proofs.memory.Cells.zero.Given as goal

abbrev pub invariant-loop-k : goal.invariant-loop-k
invariant-loop-k l = record {
  at : l.self.at ≡ l.at;
  bytes : l.self.bytes ≡ zeroed l.initial.self.bytes l.start (l.k - l.start);
  room : l.self.room ≡ l.initial.self.room;
}

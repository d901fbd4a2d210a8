use Rattle.std.proofs.Common.{◌≡◌, ◌+◌, ◌*◌, Some, set}
use Rattle.gq_pages.specs.Frame_bytes.{zeros}
use Rattle.gq_dataspace.specs.Dataspaces.{IsVacant}
use Rattle.gq_dataspace.proofs.spaces.Spaces.create.Given as goal

abbrev pub invariant-loop-page : goal.invariant-loop-page
invariant-loop-page l = record {
  vacant : IsVacant l.fn.self.spaces l.ds.0;
  made : l.self.spaces ≡ set l.fn.self.spaces l.ds.0 (Some (zeros (4096 * l._page)));
  paid : l.fn.self.free ≡ l.self.free + l._page;
}

use Rattle.std.proofs.Common.{◌≡◌, ◌+◌, ◌-◌, set}
use Rattle.gq_dataspace.specs.Dataspaces.{content_of}
use Rattle.gq_dataspace.proofs.Repeated_dataspace_sets.{first_pages}
use Rattle.gq_dataspace.proofs.spaces.Spaces.destroy.Given as goal

abbrev pub invariant-loop-page : goal.invariant-loop-page
invariant-loop-page l = record {
  left : l.self.spaces ≡ set l.fn.self.spaces l.ds.0 (first_pages (content_of l.fn.self.spaces l.ds.0) (l.count - l._page));
  given : l.self.free ≡ l.fn.self.free + l._page;
}

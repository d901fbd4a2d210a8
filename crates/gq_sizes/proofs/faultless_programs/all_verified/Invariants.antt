use Rattle.std.proofs.Common.{◌≡◌, ◌++◌}
use Rattle.std.specs.Slice.Iter.{iter_rest}
use Rattle.std.specs.Iterator.Adapters.{zip_first, zip_second}
use Rattle.gq_sizes.specs.Needing.{BreakNothing, subjects_by}
use Rattle.gq_sizes.proofs.faultless_programs.all_verified.Given as goal

-- the leaves so far, with those that are left, are all; and those break nothing
abbrev pub invariant-loop-component : goal.invariant-loop-component
invariant-loop-component l = record {
  made : l.leaves.items ++ subjects_by l.interfaces (iter_rest (zip_first l.component-iterator)) (iter_rest (zip_second l.component-iterator))
      ≡ subjects_by l.interfaces l.components l.programs;
  right : BreakNothing l.interfaces (iter_rest (zip_first l.component-iterator)) (iter_rest (zip_second l.component-iterator));
}

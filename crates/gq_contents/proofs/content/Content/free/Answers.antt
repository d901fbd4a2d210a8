use Rattle.std.proofs.Common.{inl, inr}
use Rattle.gq_contents.proofs.Content_call_effects.{block_frees, slice_frees, space_frees, none_holds, empty_holds, link_holds, waiting_holds, unchanged}
use Rattle.gq_contents.proofs.PoolCalls.{pool_ends}
use Rattle.gq_contents.proofs.Content_call_prices.{block_frees_pays, slice_frees_pays, space_frees_pays, pool_ends_pays}
use Rattle.gq_contents.proofs.Content_caller_facts.{is_content, block_in_use, slice_there, slice_has_size, is_space, space_there, is_pool}
use Rattle.gq_contents.proofs.content.Content.free.Goals as goal

pub free-requires : goal.free-requires
free-requires g c = block_in_use _ _ _ _ (rw c.in-Block.is at c.requires.kept)

pub free-requires-in-Slice : goal.free-requires-in-Slice
free-requires-in-Slice g c = slice_there _ _ _ _ (rw c.in-Slice.is at c.requires.kept)

pub shrink-requires : goal.shrink-requires
shrink-requires g c = space_there _ _ _ _ (rw c.in-Space.is at c.requires.kept)

pub end-requires : goal.end-requires
end-requires g c = is_pool _ _ _ (rw c.in-Pool.is at c.requires.kept)

pub returns-in-Block-clause-changes : goal.returns-in-Block-clause-changes
returns-in-Block-clause-changes g c = rw c.in-Block.is (block_frees _ _ _ _ _ _ c.free.ensures.frees)

pub returns-in-Block-clause-pays : goal.returns-in-Block-clause-pays
returns-in-Block-clause-pays g c =
    let k = rw c.in-Block.is at c.requires.kept in
    rw c.in-Block.is (block_frees_pays _ _ _ _ _ _ (is_content _ _ _ k).0 c.free.ensures.frees)

pub returns-in-Slice-clause-changes : goal.returns-in-Slice-clause-changes
returns-in-Slice-clause-changes g c = rw c.in-Slice.is (slice_frees _ _ _ _ _ c.free-in-Slice.ensures.frees)

pub returns-in-Slice-clause-pays : goal.returns-in-Slice-clause-pays
returns-in-Slice-clause-pays g c =
    let k = rw c.in-Slice.is at c.requires.kept in
    rw c.in-Slice.is (slice_frees_pays _ _ _ _ _ (slice_has_size _ _ _ _ k) c.free-in-Slice.ensures.frees)

pub returns-in-Space-clause-changes : goal.returns-in-Space-clause-changes
returns-in-Space-clause-changes g c = rw c.in-Space.is (space_frees _ _ _ _ _ c.shrink.ensures.shrunk)

pub returns-in-Space-clause-pays : goal.returns-in-Space-clause-pays
returns-in-Space-clause-pays g c =
    let k = rw c.in-Space.is at c.requires.kept in
    rw c.in-Space.is (space_frees_pays _ _ _ _ _ (is_space _ _ _ _ k) c.shrink.ensures.shrunk)

pub returns-in-Pool-clause-changes : goal.returns-in-Pool-clause-changes
returns-in-Pool-clause-changes g c = rw c.in-Pool.is (pool_ends _ _ _ _ _ c.end.ensures.ends)

pub returns-in-Empty-clause-changes : goal.returns-in-Empty-clause-changes
returns-in-Empty-clause-changes g c = elim c.in-Empty.is [
  | inl e ↦ rw e (unchanged _ _ _)
  | inr other ↦ elim other [
    | inl l ↦ rw l.1 (none_holds _ _ _ _ (link_holds l.0) empty_holds)
    | inr w ↦ rw w.1 (none_holds _ _ _ _ (waiting_holds w.0) empty_holds)
  ]
]

pub returns-in-Pool-clause-pays : goal.returns-in-Pool-clause-pays
returns-in-Pool-clause-pays g c =
    rw c.in-Pool.is (pool_ends_pays _ _ _ _ _ c.end.ensures.ends)

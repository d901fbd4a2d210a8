use Rattle.gq_contents.proofs.Content_call_effects.{slice_frees}
use Rattle.gq_contents.proofs.Content_call_prices.{slice_frees_pays}
use Rattle.gq_contents.proofs.content.Content.free_slice.Goals as goal

pub returns-clause-changes : goal.returns-clause-changes
returns-clause-changes g c = rw c.in-Slice.is (λ heap. slice_frees heap _ _ _ _ c.free.ensures.frees)

pub returns-clause-pays : goal.returns-clause-pays
returns-clause-pays g c =
    let h = rw c.in-Slice.is at c.requires in
    rw c.in-Slice.is (λ heap. slice_frees_pays heap _ _ _ _ h c.free.ensures.frees)

use Rattle.gq_store.proofs.Refused_call_state.{err_states}
use Rattle.gq_heap.proofs.Heap_caller_facts.{heap_now, used_now}
use Rattle.gq_heap.proofs.heap.Heap.alloc.Goals as goal

pub returns-then-from-le-GREATEST_PLACE-clause-kept : goal.returns-then-from-le-GREATEST_PLACE-clause-kept
returns-then-from-le-GREATEST_PLACE-clause-kept g c =
    heap_now c.alloc_small.result _ _ _ _ c.args.size c.requires.kept c.alloc_small.ensures.ok
    (err_states (λ s. g.S.ByteStore.state s c.args.account.0) c.alloc_small.result _ _ _ _ c.alloc_small.ensures.err)

pub returns-then-from-le-GREATEST_PLACE-clause-in_use : goal.returns-then-from-le-GREATEST_PLACE-clause-in_use
returns-then-from-le-GREATEST_PLACE-clause-in_use g c =
    used_now c.alloc_small.result _ _ _ _ c.args.size c.requires.kept c.alloc_small.ensures.ok

pub returns-else-from-le-GREATEST_PLACE-clause-kept : goal.returns-else-from-le-GREATEST_PLACE-clause-kept
returns-else-from-le-GREATEST_PLACE-clause-kept g c =
    heap_now c.alloc_large.result _ _ _ _ c.args.size c.requires.kept c.alloc_large.ensures.ok
    (err_states (λ s. g.S.ByteStore.state s c.args.account.0) c.alloc_large.result _ _ _ _ c.alloc_large.ensures.err)

pub returns-else-from-le-GREATEST_PLACE-clause-in_use : goal.returns-else-from-le-GREATEST_PLACE-clause-in_use
returns-else-from-le-GREATEST_PLACE-clause-in_use g c =
    used_now c.alloc_large.result _ _ _ _ c.args.size c.requires.kept c.alloc_large.ensures.ok

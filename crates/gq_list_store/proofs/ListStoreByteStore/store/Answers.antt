use Rattle.gq_list_store.proofs.List_store_slots.{writes}
use Rattle.gq_list_store.proofs.ListStoreByteStore.store.Goals as goal

pub returns-clause-alone : goal.returns-clause-alone
returns-clause-alone c a h =
    let s = c.args.self.now in
    rw c.position-position.ensures.position
    (writes s.bytes.items s.sizes.items s.stride s.left s.caps s.slots c.args.chunk c.args.offset c.args.value h)

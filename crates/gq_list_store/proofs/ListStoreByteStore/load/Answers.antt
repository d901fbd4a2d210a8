use Rattle.std.proofs.Common.{get_or, refl, sym, ap, ◌∙◌}
use Rattle.std.proofs.lemmas.List.{get_or_read_under}
use Rattle.gq_list_store.proofs.List_store_slots.{byte_is}
use Rattle.gq_list_store.proofs.ListStoreByteStore.load.Goals as goal

pub returns : goal.returns
returns c a h =
    let s = c.args.self.now in
    get_or_read_under s.bytes.items c.position.result _ c.index.result.now 0 c.index.ensures c.position.ensures.inside refl
    ∙ ap (λ n. get_or s.bytes.items n 0) c.position.ensures.position ∙ sym (byte_is s.bytes.items s.sizes.items s.stride c.args.chunk c.args.offset h)

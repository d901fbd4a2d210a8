use Rattle.std.proofs.Common.{◌≡◌, length, ap, ◌∙◌, arith}
use Rattle.std.specs.Vec.{with_items}
use Rattle.std.proofs.lemmas.List.{with_items_is}
use Rattle.gq_list_store.proofs.List_store_slots.{slot_room, clears}
use Rattle.gq_list_store.proofs.ListStoreByteStore.clear.Goals as goal

pub clear-requires : goal.clear-requires
clear-requires c =
    let s = c.args.self.now in
    let room = slot_room s.bytes.items s.sizes.items s.stride s.left s.caps s.slots c.args.chunk c.args.offset c.args.size c.requires.some c.requires.inside.1
    in
    omega (arith, room, c.position-position.ensures.position, ap length c.deref_mut.ensures.value)

pub returns-clause-alone : goal.returns-clause-alone
returns-clause-alone c a h =
    let s = c.args.self.now in
    let m = c.deref_mut.ensures.value in
    let z = rw (c.position-position.ensures.position, m) at c.clear.ensures in
    let is : (with_items s.bytes c.clear.new.bytes).items ≡ c.clear.new.bytes = with_items_is s.bytes c.clear.new.bytes
    (c.clear.auto.bytes ∙ c.deref_mut.ensures.len) in
    rw is (clears s.bytes.items s.sizes.items s.stride s.left s.caps s.slots c.args.chunk c.args.offset c.args.size c.clear.new.bytes h
    z.zero z.others)

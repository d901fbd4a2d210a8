use Rattle.std.proofs.Common.{◌≡◌, ◌*◌, length, refl, ap, ◌∙◌, arith}
use Rattle.std.specs.Vec.{with_items}
use Rattle.std.proofs.lemmas.List.{with_items_is}
use Rattle.gq_list_store.proofs.List_store_slots.{grows, all_taken}
use Rattle.gq_list_store.proofs.ListStoreByteStore.grow.Goals as goal

pub returns-in_default-clause-exceeded : goal.returns-in_default-clause-exceeded
returns-in_default-clause-exceeded c =
    let s = c.args.self.now in
    let a = c.deref.ensures.value in
    let none : s.left ≡ 0 = all_taken s.bytes.items s.sizes.items s.stride s.left s.caps s.slots (rw a at c.in_default.ensures) in
    (λ e. omega (arith, none, c.requires), λ e. refl)

pub returns-clause-ok : goal.returns-clause-ok
returns-clause-ok c =
    let s = c.args.self.now in
    let h = rw c.deref.ensures.value at c.in-Some.ensures in
    let m = c.deref_mut.ensures.value in
    let z = c.clear.ensures in
    let long : length c.clear.new.bytes ≡ length s.bytes.items = c.clear.auto.bytes ∙ ap length m in
    let is : (with_items s.bytes c.clear.new.bytes).items ≡ c.clear.new.bytes = with_items_is s.bytes c.clear.new.bytes
    (c.clear.auto.bytes ∙ c.deref_mut.ensures.len) in
    rw (is, c.new.ensures) (grows s.bytes.items s.sizes.items s.stride s.left s.caps s.slots c.in-Some.k (c.args.pages * 4096) c.clear.new.bytes h.0 h.1
    (omega (arith, c.requires)) (omega arith) long z.zero (rw m at z.others) c.one_less-self.result c.one_less-self.ensures)

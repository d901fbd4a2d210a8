use Rattle.std.proofs.Common.{arith}
use Rattle.gq_list_store.specs.View.{store_of}
use Rattle.gq_list_store.proofs.List_store_slots.{writes_four, is_word, word_of}
use Rattle.gq_list_store.proofs.ListStoreByteStore.store4.Goals as goal

pub store-requires : goal.store-requires
store-requires c = (c.requires.0, omega (arith, c.requires.1))

pub store-requires-2 : goal.store-requires-2
store-requires-2 c =
    let k = c.args.chunk in
    let a = c.requires.0 in
    let h = c.requires.1 in
    let first = c.store.ensures.alone a (omega (arith, h)) in
    (a, omega (arith, h, first.size k))

pub store-requires-3 : goal.store-requires-3
store-requires-3 c =
    let k = c.args.chunk in
    let a = c.requires.0 in
    let h = c.requires.1 in
    let first = c.store.ensures.alone a (omega (arith, h)) in
    let second = c.store-2.ensures.alone a (omega (arith, h, first.size k)) in
    (a, omega (arith, h, first.size k, second.size k))

pub store-requires-4 : goal.store-requires-4
store-requires-4 c =
    let k = c.args.chunk in
    let a = c.requires.0 in
    let h = c.requires.1 in
    let first = c.store.ensures.alone a (omega (arith, h)) in
    let second = c.store-2.ensures.alone a (omega (arith, h, first.size k)) in
    let third = c.store-3.ensures.alone a (omega (arith, h, first.size k, second.size k)) in
    (a, omega (arith, h, first.size k, second.size k, third.size k))

pub returns-clause-alone : goal.returns-clause-alone
returns-clause-alone c a h =
    let k = c.args.chunk in
    let first = c.store.ensures.alone a (omega (arith, h)) in
    let second = c.store-2.ensures.alone a (omega (arith, h, first.size k)) in
    let third = c.store-3.ensures.alone a (omega (arith, h, first.size k, second.size k)) in
    let fourth = c.store-4.ensures.alone a (omega (arith, h, first.size k, second.size k, third.size k)) in
    writes_four (store_of c.args.self.now) (store_of c.store.new.self) (store_of c.store-2.new.self) (store_of c.store-3.new.self)
    (store_of c.store-4.new.self) k c.args.offset first second third fourth

pub returns-clause-bytes : goal.returns-clause-bytes
returns-clause-bytes c a h =
    let k = c.args.chunk in
    let first = c.store.ensures.alone a (omega (arith, h)) in
    let second = c.store-2.ensures.alone a (omega (arith, h, first.size k)) in
    let third = c.store-3.ensures.alone a (omega (arith, h, first.size k, second.size k)) in
    let fourth = c.store-4.ensures.alone a (omega (arith, h, first.size k, second.size k, third.size k)) in
    let at_0 = c.store.ensures.stored a (omega (arith, h)) in
    let at_1 = c.store-2.ensures.stored a (omega (arith, h, first.size k)) in
    let at_2 = c.store-3.ensures.stored a (omega (arith, h, first.size k, second.size k)) in
    let at_3 = c.store-4.ensures.stored a (omega (arith, h, first.size k, second.size k, third.size k)) in
    is_word (store_of c.store.new.self) (store_of c.store-2.new.self) (store_of c.store-3.new.self) (store_of c.store-4.new.self) k c.args.offset c.args.value
    at_0 at_1 at_2 at_3 second third fourth

pub returns-clause-stored : goal.returns-clause-stored
returns-clause-stored c a h =
    let k = c.args.chunk in
    let first = c.store.ensures.alone a (omega (arith, h)) in
    let second = c.store-2.ensures.alone a (omega (arith, h, first.size k)) in
    let third = c.store-3.ensures.alone a (omega (arith, h, first.size k, second.size k)) in
    let fourth = c.store-4.ensures.alone a (omega (arith, h, first.size k, second.size k, third.size k)) in
    let at_0 = c.store.ensures.stored a (omega (arith, h)) in
    let at_1 = c.store-2.ensures.stored a (omega (arith, h, first.size k)) in
    let at_2 = c.store-3.ensures.stored a (omega (arith, h, first.size k, second.size k)) in
    let at_3 = c.store-4.ensures.stored a (omega (arith, h, first.size k, second.size k, third.size k)) in
    word_of _ _ _ (
    is_word (store_of c.store.new.self) (store_of c.store-2.new.self) (store_of c.store-3.new.self) (store_of c.store-4.new.self) k c.args.offset c.args.value
    at_0 at_1 at_2 at_3 second third fourth)

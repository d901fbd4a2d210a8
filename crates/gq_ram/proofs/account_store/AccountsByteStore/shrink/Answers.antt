use Rattle.gq_ram.proofs.Account_byte_views.{is_own, owner_open}
use Rattle.gq_ram.proofs.Chunk_grow_shrink.{shrunk, shrunk_rest}
use Rattle.gq_ram.proofs.account_store.AccountsByteStore.shrink.Goals as goal

pub free-requires-clause-open : goal.free-requires-clause-open
free-requires-clause-open c = owner_open c.args.self.now c.args.account c.args.chunk c.laws.ensures c.requires

pub free-requires-clause-its_own : goal.free-requires-clause-its_own
free-requires-clause-its_own c = rw c.number.ensures (is_own c.args.self.now c.args.account c.args.chunk c.requires)

pub returns-clause-shrunk : goal.returns-clause-shrunk
returns-clause-shrunk c =
    let e = rw c.number.ensures at c.free.ensures in
    let l = c.args.self.now in
    let a = c.args.account in
    shrunk l c.free.new.self a c.args.chunk c.laws.ensures (owner_open l a c.args.chunk c.laws.ensures c.requires) e.same_whole c.requires e.gone
    e.of_none e.paid

pub returns-clause-rest : goal.returns-clause-rest
returns-clause-rest c =
    let e = rw c.number.ensures at c.free.ensures in
    let l = c.args.self.now in
    let a = c.args.account in
    shrunk_rest l c.free.new.self a c.args.chunk c.laws.ensures (owner_open l a c.args.chunk c.laws.ensures c.requires) e.same_whole c.requires e.gone
    e.of_none e.paid

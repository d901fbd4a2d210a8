use Rattle.std.proofs.Common.{◌≡◌, ◌*◌, subst, rules, arith}
use Rattle.gq_tariff.specs.Prices.{up}
use Rattle.gq_store.specs.Store.{Grows}
use Rattle.gq_ram.specs.Account_stores.{store_at}
use Rattle.gq_ram.specs.Account_table.{account_at, IsOpen}
use Rattle.gq_ram.proofs.Chunk_grow_shrink.{grown, grown_rest, allowed_pays}
use Rattle.gq_ram.proofs.account_store.AccountsByteStore.grow.Goals as goal

pub returns-in-Ok-clause-ok : goal.returns-in-Ok-clause-ok
returns-in-Ok-clause-ok c =
    let l = c.args.self.now in
    let a = c.args.account in
    let e = c.in-Ok.ensures in
    let opened : IsOpen l.accounts a.0 = search rules in
    let pays = allowed_pays (account_at l.accounts a.0) l.price (4096 * c.args.pages) (rw c.from.ensures at e.refusal.allowed) in
    let size : up (4096 * c.args.pages) ≡ c.args.pages * 4096 = omega arith in
    rw c.new.ensures (subst (λ n. Grows (store_at l a.0) (store_at c.alloc.new.self a.0) c.in-Ok.ds.0 n) size
    (grown l c.alloc.new.self a c.in-Ok.ds.0 (up (4096 * c.args.pages)) c.laws.ensures opened e.same_whole e.allocated.was_vacant
    (rw c.from.ensures at e.allocated.made) e.allocated.of_it (rw c.from.ensures at e.allocated.paid) pays.0 pays.1))

pub returns-in-Ok-clause-rest : goal.returns-in-Ok-clause-rest
returns-in-Ok-clause-rest c =
    let l = c.args.self.now in
    let a = c.args.account in
    let e = c.in-Ok.ensures in
    let opened : IsOpen l.accounts a.0 = search rules in
    grown_rest l c.alloc.new.self a c.in-Ok.ds.0 (up (4096 * c.args.pages)) c.laws.ensures opened e.same_whole e.allocated.was_vacant
    (rw c.from.ensures at e.allocated.made) e.allocated.of_it (rw c.from.ensures at e.allocated.paid)

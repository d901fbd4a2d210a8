use Rattle.std.proofs.Common.{◌≡◌, Bool, true, false, sym, subst}
use Rattle.std.specs.Prelude.{IfOk}
use Rattle.gq_contents.specs.declared.content.Content.{Content}
use Rattle.gq_pool.specs.Pools.{AddsEntry}
use Rattle.gq_contents.specs.declared.content.Content.TheVariants.{Pool}
use Rattle.gq_contents.specs.Paid.{TakesEntry}
use Rattle.gq_contents.proofs.Content_caller_facts.{is_pool}
use Rattle.gq_contents.proofs.Slot_pool_entries.{if_ok, absent_none, none_absent, takes_changes, takes_seen, takes_added, takes_pays, takes_raises}
use Rattle.gq_contents.proofs.content.Content.take.Goals as goal

pub take-requires-clause-kept : goal.take-requires-clause-kept
take-requires-clause-kept g c = is_pool _ _ _ (rw c.pool-pool.ensures at c.requires.kept)

pub take-requires-clause-inside : goal.take-requires-clause-inside
take-requires-clause-inside g c = rw c.pool-pool.ensures at c.requires.inside

is_true_false : (b : Bool) → b ≡ true → b ≡ false → ⊥
is_true_false b e f = cc

pub returns-clause-taken : goal.returns-clause-taken
returns-clause-taken g c =
    let p = c.pool-pool.result in
    let old = g.S.ByteStore.state c.args.store.now c.args.account.0 in
    let new = g.S.ByteStore.state c.take.new.store c.args.account.0 in
    let before = c.args.heap.now in
    let after = c.take.new.heap in
    let i = c.args.index in
    let l = rw c.pool-pool.ensures at c.requires.inside in
    let k = rw c.pool-pool.ensures at c.requires.kept in
    subst (λ (s : Content). IfOk c.take.result (λ b. TakesEntry before after old new s i b)) (sym c.pool-pool.ensures)
    (if_ok c.take.result (AddsEntry p before after old new i) (λ b. TakesEntry before after old new (Pool p) i b) (λ b t. record {
      changes = takes_changes p before after old new i b l t;
      reads = takes_seen p before after old new i b l t k;
      fresh = takes_added p before after old new i b l t;
      pays = takes_pays p before after old new i b l t k;
      raises = λ e. takes_raises p before after old new i b l t e;
      there = λ e. let same = t.there (λ a. is_true_false b (t.absent a).0 e) in (same.1, same.2);
    }) c.take.ensures.ok)

pub returns-clause-exceeded : goal.returns-clause-exceeded
returns-clause-exceeded g c =
    let p = c.pool-pool.result in
    let old = g.S.ByteStore.state c.args.store.now c.args.account.0 in
    let new = g.S.ByteStore.state c.take.new.store c.args.account.0 in
    let before = c.args.heap.now in
    let after = c.take.new.heap in
    let i = c.args.index in
    let l = rw c.pool-pool.ensures at c.requires.inside in
    let k = rw c.pool-pool.ensures at c.requires.kept in
    let e = c.take.ensures.exceeded in
    rw c.pool-pool.ensures (λ f. (absent_none p old i l (e.0 f).0, (e.0 f).1), λ h. e.1 (none_absent p old i l h.0, h.1))

pub returns-clause-none : goal.returns-clause-none
returns-clause-none g c =
    let p = c.pool-pool.result in
    let old = g.S.ByteStore.state c.args.store.now c.args.account.0 in
    let new = g.S.ByteStore.state c.take.new.store c.args.account.0 in
    let before = c.args.heap.now in
    let after = c.take.new.heap in
    let i = c.args.index in
    let l = rw c.pool-pool.ensures at c.requires.inside in
    let k = rw c.pool-pool.ensures at c.requires.kept in
    let e = c.take.ensures.caps in
    rw c.pool-pool.ensures (λ f. (absent_none p old i l (e.0 f).0, (e.0 f).1, (e.0 f).2, (e.0 f).3), λ h. e.1 (none_absent p old i l h.0, h.1, h.2, h.3))

use Rattle.std.proofs.Common.{◌≡◌, ◌+◌, ◌≤◌, ℕ, List, length, arith, sym, subst, ap, ◌∙◌, Some, set}
use Rattle.std.specs.Int.{w32, to_le_bytes}
use Rattle.gq_pages.specs.Frame_bytes.{with_bytes}
use Rattle.gq_store.proofs.Word_byte_spelling.{spelt}
use Rattle.gq_dataspace.specs.Dataspaces.{content_of}
use Rattle.gq_ram.specs.Ledgers.{IsBalanced, Ledger, with_content, with_spaces}
use Rattle.gq_ram.specs.internal.Accounts_fields.{ledger_view}
use Rattle.gq_store.specs.Store.{Writes}
use Rattle.gq_ram.specs.Account_stores.{store_at}
use Rattle.gq_ram.proofs.Account_byte_views.{own_content}
use Rattle.gq_ram.proofs.Balances_freed_spaces.{written_balanced, length-with_bytes}
use Rattle.gq_ram.proofs.Chunk_byte_writes.{word_alone, word_stored, writes_rest}
use Rattle.gq_ram.proofs.account_store.AccountsByteStore.store4.Goals as goal

pub store4-requires : goal.store4-requires
store4-requires c =
    let h = c.requires.1 in
    let k = c.number.result in
    subst (λ (m : Ledger). c.args.offset + 4 ≤ length (content_of m.spaces.spaces k)) (sym c.self.view_is)
    (rw c.number.ensures
    (omega (arith, h, ap length (own_content c.args.self.now (record { 0 = c.requires.0 }) c.args.chunk (omega (arith, h))))))

pub invariant_of-self : goal.invariant_of-self
invariant_of-self c =
    let l : Ledger = ledger_view c.self.inside in let k = c.number.result in let bs : List ℕ = content_of l.spaces.spaces k in
    let within : c.args.offset + 4 ≤ length bs =
    (let h = c.requires.1 in
    subst (λ (m : Ledger). c.args.offset + 4 ≤ length (content_of m.spaces.spaces k)) (sym c.self.view_is)
    (rw c.number.ensures
    (omega (arith, h, ap length (own_content c.args.self.now (record { 0 = c.requires.0 }) c.args.chunk (omega (arith, h))))))) in
    let written : c.store4.new.self ≡ record {
      spaces = set l.spaces.spaces k (Some (with_bytes (bs) c.args.offset (to_le_bytes w32 c.args.value)));
      free = l.spaces.free;
    } =
    (λ i. record { spaces = c.store4.ensures.written i; free = c.store4.ensures.as_many i }) in
    rw written (written_balanced l k (with_bytes (bs) c.args.offset (to_le_bytes w32 c.args.value)) c.self.invariant (omega (arith, within)) (length-with_bytes
    bs c.args.offset (to_le_bytes w32 c.args.value)))

pub returns-clause-bytes : goal.returns-clause-bytes
returns-clause-bytes c = λ a h.
    let l : Ledger = ledger_view c.self.inside in let k = c.number.result in
    let written : c.store4.new.self ≡ record {
      spaces = set l.spaces.spaces k (Some (with_bytes (content_of l.spaces.spaces k) c.args.offset (to_le_bytes w32
          c.args.value)));
      free = l.spaces.free;
    } =
    (λ i. record { spaces = c.store4.ensures.written i; free = c.store4.ensures.as_many i }) in
    let now : with_spaces l c.store4.new.self ≡ with_content c.args.self.now k (with_bytes (content_of c.args.self.now.spaces.spaces k) c.args.offset
    (to_le_bytes w32 c.args.value)) =
    ap (with_spaces l) written ∙ ap (λ (m : Ledger). with_content m k (with_bytes (content_of m.spaces.spaces k) c.args.offset (to_le_bytes w32 c.args.value)))
    c.self.view_is in
    rw (rw c.number.ensures at now)
    (word_stored c.args.self.now (record { 0 = a }) c.args.chunk c.args.offset c.args.value (subst IsBalanced c.self.view_is c.self.invariant) h
    c.ranges.value.fits)

pub returns-clause-stored : goal.returns-clause-stored
returns-clause-stored c = λ a h. spelt _ c.args.offset c.args.value (returns-clause-bytes c a h)

pub returns-clause-alone : goal.returns-clause-alone
returns-clause-alone c = λ a h.
    let l : Ledger = ledger_view c.self.inside in let k = c.number.result in
    let written : c.store4.new.self ≡ record {
      spaces = set l.spaces.spaces k (Some (with_bytes (content_of l.spaces.spaces k) c.args.offset (to_le_bytes w32
          c.args.value)));
      free = l.spaces.free;
    } =
    (λ i. record { spaces = c.store4.ensures.written i; free = c.store4.ensures.as_many i }) in
    let now : with_spaces l c.store4.new.self ≡ with_content c.args.self.now k (with_bytes (content_of c.args.self.now.spaces.spaces k) c.args.offset
    (to_le_bytes w32 c.args.value)) =
    ap (with_spaces l) written ∙ ap (λ (m : Ledger). with_content m k (with_bytes (content_of m.spaces.spaces k) c.args.offset (to_le_bytes w32 c.args.value)))
    c.self.view_is in
    subst (λ (m : Ledger). Writes (store_at c.args.self.now a) (store_at m a) c.args.chunk c.args.offset 4) (sym (rw c.number.ensures at now))
    (word_alone c.args.self.now (record { 0 = a }) c.args.chunk c.args.offset c.args.value (subst IsBalanced c.self.view_is c.self.invariant) h)

pub returns-clause-rest : goal.returns-clause-rest
returns-clause-rest c = λ a h.
    let l : Ledger = ledger_view c.self.inside in let k = c.number.result in
    let written : c.store4.new.self ≡ record {
      spaces = set l.spaces.spaces k (Some (with_bytes (content_of l.spaces.spaces k) c.args.offset (to_le_bytes w32
          c.args.value)));
      free = l.spaces.free;
    } =
    (λ i. record { spaces = c.store4.ensures.written i; free = c.store4.ensures.as_many i }) in
    let now : with_spaces l c.store4.new.self ≡ with_content c.args.self.now k (with_bytes (content_of c.args.self.now.spaces.spaces k) c.args.offset
    (to_le_bytes w32 c.args.value)) =
    ap (with_spaces l) written ∙ ap (λ (m : Ledger). with_content m k (with_bytes (content_of m.spaces.spaces k) c.args.offset (to_le_bytes w32 c.args.value)))
    c.self.view_is in
    rw (rw c.number.ensures at now)
    (writes_rest c.args.self.now (record { 0 = a }) c.args.chunk _ (subst IsBalanced c.self.view_is c.self.invariant) (omega (arith, h)))

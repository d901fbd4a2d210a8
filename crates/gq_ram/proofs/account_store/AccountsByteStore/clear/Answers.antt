use Rattle.std.proofs.Common.{◌≡◌, ◌+◌, ◌<◌, ◌≤◌, ℕ, List, length, arith, sym, subst, ap, ◌∙◌, Some, set}
use Rattle.gq_pages.specs.Frame_bytes.{zeroed}
use Rattle.gq_pages.proofs.Zeroed_byte_runs.{length-zeroed}
use Rattle.gq_dataspace.specs.Dataspaces.{content_of}
use Rattle.gq_ram.specs.Ledgers.{IsBalanced, Ledger, with_content, with_spaces}
use Rattle.gq_ram.specs.internal.Accounts_fields.{ledger_view}
use Rattle.gq_store.specs.Store.{Writes}
use Rattle.gq_ram.specs.Account_stores.{store_at}
use Rattle.gq_ram.proofs.Account_byte_views.{own_content}
use Rattle.gq_ram.proofs.Balances_freed_spaces.{written_balanced}
use Rattle.gq_ram.proofs.Chunk_byte_writes.{clear_alone, clear_zero, writes_rest}
use Rattle.gq_ram.proofs.account_store.AccountsByteStore.clear.Goals as goal

pub clear-requires-clause-inside : goal.clear-requires-clause-inside
clear-requires-clause-inside c =
    let h = c.requires.inside.1 in
    let k = c.number.result in
    subst (λ (m : Ledger). c.args.offset + c.args.size ≤ length (content_of m.spaces.spaces k)) (sym c.self.view_is)
    (rw c.number.ensures
    (omega (
      arith,
      h,
      c.requires.some,
      ap length (own_content c.args.self.now (record { 0 = c.requires.inside.0 }) c.args.chunk (omega (
        arith,
        h,
        c.requires.some,
      ))),
    )))

pub invariant_of-self : goal.invariant_of-self
invariant_of-self c =
    let l : Ledger = ledger_view c.self.inside in let k = c.number.result in let bs : List ℕ = content_of l.spaces.spaces k in
    let within : c.args.offset + c.args.size ≤ length bs =
    (let h = c.requires.inside.1 in
    subst (λ (m : Ledger). c.args.offset + c.args.size ≤ length (content_of m.spaces.spaces k)) (sym c.self.view_is)
    (rw c.number.ensures
    (omega (
      arith,
      h,
      c.requires.some,
      ap length (own_content c.args.self.now (record { 0 = c.requires.inside.0 }) c.args.chunk (omega (
        arith,
        h,
        c.requires.some,
      ))),
    )))) in
    let written : c.clear.new.self ≡ record { spaces = set l.spaces.spaces k (Some (zeroed (bs) c.args.offset c.args.size)); free = l.spaces.free } =
    (λ i. record { spaces = c.clear.ensures.written i; free = c.clear.ensures.as_many i }) in
    rw written (written_balanced l k (zeroed (bs) c.args.offset c.args.size) c.self.invariant (omega (arith, within, c.requires.some)) (length-zeroed bs
    c.args.offset c.args.size within))

pub returns-clause-zero : goal.returns-clause-zero
returns-clause-zero c = λ a h.
    let l : Ledger = ledger_view c.self.inside in let k = c.number.result in
    let written : c.clear.new.self ≡ record {
      spaces = set l.spaces.spaces k (Some (zeroed (content_of l.spaces.spaces k) c.args.offset c.args.size));
      free = l.spaces.free;
    } =
    (λ i. record { spaces = c.clear.ensures.written i; free = c.clear.ensures.as_many i }) in
    let now : with_spaces l c.clear.new.self ≡ with_content c.args.self.now k (zeroed (content_of c.args.self.now.spaces.spaces k) c.args.offset c.args.size) =
    ap (with_spaces l) written ∙ ap (λ (m : Ledger). with_content m k (zeroed (content_of m.spaces.spaces k) c.args.offset c.args.size)) c.self.view_is in
    subst (λ (m : Ledger). (i : ℕ) → c.args.offset ≤ i → i < c.args.offset + c.args.size → (store_at m a).byte c.args.chunk i ≡ 0) (sym (rw c.number.ensures at
    now))
    (clear_zero c.args.self.now (record { 0 = a }) c.args.chunk c.args.offset c.args.size (subst IsBalanced c.self.view_is c.self.invariant) c.requires.some h)

pub returns-clause-alone : goal.returns-clause-alone
returns-clause-alone c = λ a h.
    let l : Ledger = ledger_view c.self.inside in let k = c.number.result in
    let written : c.clear.new.self ≡ record {
      spaces = set l.spaces.spaces k (Some (zeroed (content_of l.spaces.spaces k) c.args.offset c.args.size));
      free = l.spaces.free;
    } =
    (λ i. record { spaces = c.clear.ensures.written i; free = c.clear.ensures.as_many i }) in
    let now : with_spaces l c.clear.new.self ≡ with_content c.args.self.now k (zeroed (content_of c.args.self.now.spaces.spaces k) c.args.offset c.args.size) =
    ap (with_spaces l) written ∙ ap (λ (m : Ledger). with_content m k (zeroed (content_of m.spaces.spaces k) c.args.offset c.args.size)) c.self.view_is in
    subst (λ (m : Ledger). Writes (store_at c.args.self.now a) (store_at m a) c.args.chunk c.args.offset c.args.size) (sym (rw c.number.ensures at now))
    (clear_alone c.args.self.now (record { 0 = a }) c.args.chunk c.args.offset c.args.size (subst IsBalanced c.self.view_is c.self.invariant) c.requires.some h)

pub returns-clause-rest : goal.returns-clause-rest
returns-clause-rest c = λ a h.
    let l : Ledger = ledger_view c.self.inside in let k = c.number.result in
    let written : c.clear.new.self ≡ record {
      spaces = set l.spaces.spaces k (Some (zeroed (content_of l.spaces.spaces k) c.args.offset c.args.size));
      free = l.spaces.free;
    } =
    (λ i. record { spaces = c.clear.ensures.written i; free = c.clear.ensures.as_many i }) in
    let now : with_spaces l c.clear.new.self ≡ with_content c.args.self.now k (zeroed (content_of c.args.self.now.spaces.spaces k) c.args.offset c.args.size) =
    ap (with_spaces l) written ∙ ap (λ (m : Ledger). with_content m k (zeroed (content_of m.spaces.spaces k) c.args.offset c.args.size)) c.self.view_is in
    rw (rw c.number.ensures at now)
    (writes_rest c.args.self.now (record { 0 = a }) c.args.chunk _ (subst IsBalanced c.self.view_is c.self.invariant) (omega (arith, h, c.requires.some)))

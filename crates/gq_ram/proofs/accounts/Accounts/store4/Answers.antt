use Rattle.std.proofs.Common.{◌≡◌, ◌+◌, ◌≤◌, ℕ, List, length, arith, sym, subst, ap, ◌∙◌, Some, set}
use Rattle.std.specs.Int.{w32, to_le_bytes}
use Rattle.gq_pages.specs.Frame_bytes.{with_bytes}
use Rattle.gq_dataspace.specs.Dataspaces.{content_of}
use Rattle.gq_ram.specs.Ledgers.{Ledger}
use Rattle.gq_ram.specs.internal.Accounts_fields.{ledger_view}
use Rattle.gq_ram.proofs.Balances_freed_spaces.{written_balanced, length-with_bytes}
use Rattle.gq_ram.proofs.accounts.Accounts.store4.Goals as goal

pub invariant_of-self : goal.invariant_of-self
invariant_of-self c =
    let l : Ledger = ledger_view c.self.inside in let k = c.args.ds.0 in let bs : List ℕ = content_of l.spaces.spaces k in
    let cs : List ℕ = with_bytes bs c.args.offset (to_le_bytes w32 c.args.word) in
    let within : c.args.offset + 4 ≤ length bs = subst (λ (m : Ledger). c.args.offset + 4 ≤ length (content_of m.spaces.spaces k))
    (sym c.self.view_is) c.requires in
    let written : c.store4.new.self ≡ record { spaces = set l.spaces.spaces k (Some cs); free = l.spaces.free } =
    (λ i. record { spaces = c.store4.ensures.written i; free = c.store4.ensures.as_many i }) in
    rw written (written_balanced l k cs c.self.invariant (omega (arith, within)) (length-with_bytes bs c.args.offset (to_le_bytes w32 c.args.word)))

pub returns-clause-same_size : goal.returns-clause-same_size
returns-clause-same_size c = c.store4.ensures.same_size ∙ ap (λ (m : Ledger). length (content_of m.spaces.spaces c.args.ds.0)) c.self.view_is

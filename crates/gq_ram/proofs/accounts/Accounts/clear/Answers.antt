use Rattle.std.proofs.Common.{◌≡◌, ◌+◌, ◌≤◌, ℕ, List, length, arith, sym, subst, ap, ◌∙◌, Some, set}
use Rattle.gq_pages.specs.Frame_bytes.{zeroed}
use Rattle.gq_pages.proofs.Zeroed_byte_runs.{length-zeroed}
use Rattle.gq_dataspace.specs.Dataspaces.{content_of}
use Rattle.gq_ram.specs.Ledgers.{Ledger}
use Rattle.gq_ram.specs.internal.Accounts_fields.{ledger_view}
use Rattle.gq_ram.proofs.Balances_freed_spaces.{written_balanced}
use Rattle.gq_ram.proofs.accounts.Accounts.clear.Goals as goal

pub invariant_of-self : goal.invariant_of-self
invariant_of-self c =
    let l : Ledger = ledger_view c.self.inside in let k = c.args.ds.0 in let bs : List ℕ = content_of l.spaces.spaces k in
    let cs : List ℕ = zeroed bs c.args.offset c.args.size in
    let within : c.args.offset + c.args.size ≤ length bs = subst (λ (m : Ledger). c.args.offset + c.args.size ≤ length (content_of m.spaces.spaces k))
    (sym c.self.view_is) c.requires.inside in
    let written : c.clear.new.self ≡ record { spaces = set l.spaces.spaces k (Some cs); free = l.spaces.free } =
    (λ i. record { spaces = c.clear.ensures.written i; free = c.clear.ensures.as_many i }) in
    rw written (written_balanced l k cs c.self.invariant (omega (arith, within, c.requires.some)) (length-zeroed bs c.args.offset c.args.size within))

pub returns-clause-same_size : goal.returns-clause-same_size
returns-clause-same_size c = c.clear.ensures.same_size ∙ ap (λ (m : Ledger). length (content_of m.spaces.spaces c.args.ds.0)) c.self.view_is

use Rattle.std.proofs.Common.{◌≡◌, ◌<◌, ℕ, List, length, arith, sym, subst, ap, ◌∙◌, Some, set, length-set}
use Rattle.gq_dataspace.specs.Dataspaces.{content_of}
use Rattle.gq_ram.specs.Ledgers.{Ledger}
use Rattle.gq_ram.specs.internal.Accounts_fields.{ledger_view}
use Rattle.gq_ram.proofs.Balances_freed_spaces.{written_balanced}
use Rattle.gq_ram.proofs.accounts.Accounts.store.Goals as goal

pub invariant_of-self : goal.invariant_of-self
invariant_of-self c =
    let l : Ledger = ledger_view c.self.inside in let k = c.args.ds.0 in let bs : List ℕ = content_of l.spaces.spaces k in
    let within : c.args.offset < length bs = subst (λ (m : Ledger). c.args.offset < length (content_of m.spaces.spaces k)) (sym c.self.view_is) c.requires in
    let written : c.store.new.self ≡ record { spaces = set l.spaces.spaces k (Some (set bs c.args.offset c.args.byte)); free = l.spaces.free } =
    (λ i. record { spaces = c.store.ensures.written i; free = c.store.ensures.as_many i }) in
    rw written (written_balanced l k (set bs c.args.offset c.args.byte) c.self.invariant (omega (arith, within)) (length-set bs c.args.offset c.args.byte))

pub returns-clause-same_size : goal.returns-clause-same_size
returns-clause-same_size c = c.store.ensures.same_size ∙ ap (λ (m : Ledger). length (content_of m.spaces.spaces c.args.ds.0)) c.self.view_is

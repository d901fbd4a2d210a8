use Rattle.std.proofs.Common.{◌<◌, length, sym, subst, ap, ◌∙◌, arith}
use Rattle.std.specs.Prelude.{slice_index}
use Rattle.gq_dataspace.specs.Dataspaces.{content_of}
use Rattle.gq_ram.specs.Ledgers.{Ledger}
use Rattle.gq_ram.proofs.Account_byte_views.{own_content}
use Rattle.gq_ram.proofs.account_store.AccountsByteStore.load.Goals as goal

pub load-requires : goal.load-requires
load-requires c =
    let h = c.requires.1 in
    let k = c.number.result in
    subst (λ (m : Ledger). c.args.offset < length (content_of m.spaces.spaces k)) (sym c.self.view_is)
    (rw c.number.ensures
    (omega (arith, h, ap length (own_content c.args.self.now (record { 0 = c.requires.0 }) c.args.chunk (omega (arith, h))))))

pub returns : goal.returns
returns c = λ a h.
    let k = c.number.result in
    let e = rw c.number.ensures at (c.load.ensures ∙ ap (λ (m : Ledger). slice_index (content_of m.spaces.spaces k) c.args.offset) c.self.view_is) in
    e ∙ ap (λ xs. slice_index xs c.args.offset) (sym (own_content c.args.self.now (record { 0 = a }) c.args.chunk (omega (arith, h))))

use Rattle.std.proofs.Common.{◌≡◌, subst, sym, ◌∙◌}
use Rattle.gq_ram.specs.Ledgers.{IsBalanced}
use Rattle.gq_slots.specs.Slots.{ArePaidFor, AreRead, AreRises, AreSmallEntries, Slots}
use Rattle.gq_slots.proofs.Leaf_use_paid.{paid_at}
use Rattle.gq_slots.proofs.Class_price_rises.{rises, small_entries}
use Rattle.gq_slots.proofs.Slot_change_worlds.{reads}
use Rattle.gq_slots.proofs.Slots_view_fields.{slots_of}
use Rattle.gq_slots.proofs.slots.Slots.laws.Goals as goal

pub returns-clause-held : goal.returns-clause-held
returns-clause-held c =
    let s : Slots = slots_of c.self.inside in
    let same : c.accounts.result.now ≡ s.trades.trading.ledger = c.accounts.ensures in
    subst ArePaidFor c.self.view_is (λ f x l e. paid_at f s x l c.self.invariant (subst IsBalanced same c.laws-2.ensures) e)

pub returns-clause-reads : goal.returns-clause-reads
returns-clause-reads c =
    let i = c.self.invariant in
    subst AreRead c.self.view_is (λ f p there. reads f (slots_of c.self.inside) p there i.long (i.heaps ∙ sym i.count))

pub returns-clause-rises : goal.returns-clause-rises
returns-clause-rises c = subst AreRises c.self.view_is (rises (slots_of c.self.inside) c.self.invariant)

pub returns-clause-entries : goal.returns-clause-entries
returns-clause-entries c = subst AreSmallEntries c.self.view_is (small_entries (slots_of c.self.inside) c.self.invariant c.laws.ensures.trading)

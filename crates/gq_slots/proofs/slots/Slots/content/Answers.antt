use Rattle.std.proofs.Common.{Some, ap, sym, subst, ◌∙◌}
use Rattle.gq_contents.specs.Contents.{seen}
use Rattle.gq_slots.specs.Slots.{holder, memory_of}
use Rattle.gq_slots.specs.internal.Slots_invariant.{IsSlots}
use Rattle.gq_slots.proofs.Slot_change_worlds.{reads}
use Rattle.gq_slots.proofs.slots.Slots.content.Goals as goal

pub returns-clause-reads : goal.returns-clause-reads
returns-clause-reads c f =
    let z = c.args.self.now in
    let i = subst IsSlots c.self.view_is c.self.invariant in
    reads f z c.args.slot_id c.requires i.long (i.heaps ∙ sym i.count) ∙ ap (λ u. Some (seen (memory_of z (holder z c.args.slot_id)) u)) (sym c.found.ensures)

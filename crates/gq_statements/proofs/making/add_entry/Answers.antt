use Rattle.gq_slots.specs.Slots.{Slots}
use Rattle.gq_statements.proofs.Refused_means_unpaid.{refused_entry}
use Rattle.gq_statements.proofs.making.add_entry.Goals as goal

pub returns-clause-unpaid : goal.returns-clause-unpaid
returns-clause-unpaid c =
    let s : Slots = c.args.slots.now in
    refused_entry s c.args.slot_id c.args.index c.take.result c.lawful.ensures c.requires.payable.there c.requires.payable.slot c.requires.inside
    c.requires.payable.below
    (λ h is e. (c.take.ensures.exceeded h is).0 e)
    (λ h is e. let why = (c.take.ensures.caps_exceeded h is).0 e in (why.0, why.3, why.1))

use Rattle.std.proofs.Common.{refl, sym, ◌∙◌, rules}
use Rattle.gq_slots.specs.Slots.{Slots, world_seen}
use Rattle.gq_statements.proofs.Byte_access_statements.{store_short, store_some}
use Rattle.gq_statements.proofs.byte_statements.write_inside.Goals as goal

pub returns-then-not-is_inside-clause-step : goal.returns-then-not-is_inside-clause-step
returns-then-not-is_inside-clause-step c f d place rest found we e =
    let s : Slots = c.args.slots.now in
    store_short d c.args.width place s (world_seen f s) c.args.value c.args.index rest we e c.args.extent found (sym c.if-not-is_inside.ensures)

pub returns-clause-step : goal.returns-clause-step
returns-clause-step c f d place rest found we e =
    let s : Slots = c.args.slots.now in
    store_some d c.args.width place s (world_seen f s) c.args.value c.args.index rest we e c.args.extent found
    f c.write.new.self refl (sym c.is_inside.ensures ∙ c.if-not-is_inside.false) c.write.ensures

pub returns-clause-leaves : goal.returns-clause-leaves
returns-clause-leaves c =
    let x = c.requires in
    record { beside = (c.write.ensures x.slot_id x.there x.is).rest; unchanged = search rules }

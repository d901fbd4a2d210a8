use Rattle.std.proofs.Common.{sym, ◌∙◌}
use Rattle.gq_slots.specs.Slots.{Slots, world_seen}
use Rattle.gq_statements.proofs.Byte_access_statements.{load_short, load_some}
use Rattle.gq_statements.proofs.byte_statements.read_inside.Goals as goal

pub returns-then-not-is_inside : goal.returns-then-not-is_inside
returns-then-not-is_inside c f d place rest found we e =
    let s : Slots = c.args.slots.now in
    load_short d c.args.width place s (world_seen f s) c.args.index rest we e c.args.extent found (sym c.if-not-is_inside.ensures)

pub returns : goal.returns
returns c f d place rest found we e =
    let s : Slots = c.args.slots.now in
    load_some d c.args.width place s (world_seen f s) c.args.index rest we e c.args.extent found c.read.result
    (sym c.is_inside.ensures ∙ c.if-not-is_inside.false) c.read.ensures

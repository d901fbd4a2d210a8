-- The line of what a slot holds.
use Rattle.std.proofs.Common.{◌∙◌, ap, sym}
use Rattle.gq_traces.specs.Account_state.{Held, depth_of, items_text}
use Rattle.gq_traces.specs.internal.Slot_items.{holding_items}
use Rattle.gq_model.specs.machine.Scenario.{system}
use Rattle.gq_traces.proofs.Sequential_text_writes.{goes_text}
use Rattle.gq_traces.proofs.Printed_items.{amount_is_printed}
use Rattle.gq_traces.proofs.items.write_holding.Goals as goal

pub returns-in-Bytes : goal.returns-in-Bytes
returns-in-Bytes g c =
    let m = c.args.machine.now in
    goes_text g.W.Write.contents c.args.out.now c.write_amount.new.out c.args.going c.write_amount.result _ _
    (amount_is_printed c.table-table.result.now m.scenario c.table-table.ensures (depth_of c.args.place) Held c.memory_price-price.result _
    c.memory_price-price.ensures c.indent_of-blanks.result.now c.as_slice.result.now _ c.indent_of-blanks.ensures.blanks
    (c.as_slice.ensures.value ∙ c.memory_rest-rest.ensures.bytes)
    ∙ ap (λ h. items_text m.scenario.version (holding_items (system m.scenario) m.world c.args.place h)) (sym c.in-Bytes.is))
    c.write_amount.ensures

pub returns-in-Pool : goal.returns-in-Pool
returns-in-Pool g c =
    let m = c.args.machine.now in
    goes_text g.W.Write.contents c.args.out.now c.write_amount-in-Pool.new.out c.args.going c.write_amount-in-Pool.result _ _
    (amount_is_printed c.table-table.result.now m.scenario c.table-table.ensures (depth_of c.args.place) Held c.pool_price-price.result _
    c.pool_price-price.ensures c.indent_of-blanks.result.now c.as_slice-in-Pool.result.now _ c.indent_of-blanks.ensures.blanks
    (c.as_slice-in-Pool.ensures.value ∙ c.pool_rest-rest.ensures.bytes)
    ∙ ap (λ h. items_text m.scenario.version (holding_items (system m.scenario) m.world c.args.place h)) (sym c.in-Pool.is))
    c.write_amount-in-Pool.ensures

-- The line of what is lent.
use Rattle.std.proofs.Common.{◌∙◌, [], ap, sym}
use Rattle.std.specs.Prelude.{option_map}
use Rattle.gq_traces.specs.Account_state.{items_text}
use Rattle.gq_traces.specs.internal.Noted.{seen_session}
use Rattle.gq_traces.proofs.Sequential_text_writes.{goes_nothing, goes_text}
use Rattle.gq_traces.proofs.Printed_items.{lent_printed, no_session}
use Rattle.gq_traces.proofs.items.write_lent.Goals as goal

pub returns-in-None : goal.returns-in-None
returns-in-None g c =
    let m = c.args.machine.now in
    let is = ap (option_map (seen_session m.scenario)) (sym c.in-None.is) ∙ c.printed_session.ensures.is in
    goes_text g.W.Write.contents c.args.out.now c.args.out.now c.args.going c.args.going [] _
    (sym (ap (items_text m.scenario.version) (no_session m.scenario m.world c.args.place c.args.session is)))
    (goes_nothing g.W.Write.contents c.args.out.now c.args.going)

pub returns-in-Some : goal.returns-in-Some
returns-in-Some g c =
    let m = c.args.machine.now in
    let t = c.in-Some.reported in
    let is = ap (option_map (seen_session m.scenario)) (sym c.in-Some.is) ∙ c.printed_session.ensures.is in
    goes_text g.W.Write.contents c.args.out.now c.write_amount.new.out c.args.going c.write_amount.result _ _
    (lent_printed c.table-table.result.now m.scenario c.table-table.ensures m.world c.args.place c.args.session t is c.indent_of-blanks.result.now
    c.as_slice.result.now c.lent_rest-rest.result.items c.indent_of-blanks.ensures.blanks c.as_slice.ensures.value c.lent_rest-rest.ensures.bytes)
    c.write_amount.ensures

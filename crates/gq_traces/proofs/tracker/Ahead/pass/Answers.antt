-- Past a statement.
use Rattle.std.proofs.Common.{[], Some, sym, ap, refl, arith, ◌∙◌}
use Rattle.std.proofs.lemmas.Option.{slice_get-get_or}
use Rattle.gq_traces.proofs.Position_after_step.{loop_room, pass_if, pass_loop, pass_plain, place_within}
use Rattle.gq_traces.proofs.tracker.Ahead.pass.Goals as goal

pub index-requires : goal.index-requires
index-requires c =
    let entries = c.args.numbered.now.entries in
    let within = place_within entries.items c.args.self.now.next c.args.place c.requires.stands.ahead.todo c.requires.next c.requires.stands.is.reads in
    let long = entries.ok.0 in
    omega (arith, within, long)

pub enter-requires : goal.enter-requires
enter-requires c =
    let es = c.args.numbered.now.entries.items in
    let s = c.requires.stands in
    let within = place_within es c.args.self.now.next c.args.place s.ahead.todo c.requires.next s.is.reads in
    let there = slice_get-get_or es c.args.place c.index.result.now within ∙ ap Some (sym c.index.ensures) in
    loop_room es c.args.self.now c.args.place c.requires.next c.index.result.now there c.args.self.now [] s.ahead s.is c.in-Loop.field-0 c.in-Loop.body
    c.in-Loop.field-2 c.in-Loop.is

pub returns-in-Plain : goal.returns-in-Plain
returns-in-Plain c operands top t h =
    let es = c.args.numbered.now.entries.items in
    let within = place_within es c.args.self.now.next c.args.place t.todo c.requires.next h.reads in
    let there = slice_get-get_or es c.args.place c.index.result.now within ∙ ap Some (sym c.index.ensures) in
    pass_plain es c.args.self.now c.args.place c.requires.next c.index.result.now there _ operands t h c.in-Plain.field-0 c.in-Plain.is refl

pub returns-in-If : goal.returns-in-If
returns-in-If c operands top t h =
    let es = c.args.numbered.now.entries.items in
    let within = place_within es c.args.self.now.next c.args.place t.todo c.requires.next h.reads in
    let there = slice_get-get_or es c.args.place c.index.result.now within ∙ ap Some (sym c.index.ensures) in
    pass_if es c.args.self.now c.args.place c.requires.next c.index.result.now there _ operands t h c.in-If.arm c.in-If.other c.in-If.is
    (c.chosen-self.ensures operands top) refl

pub returns-in-Loop : goal.returns-in-Loop
returns-in-Loop c operands top t h =
    let es = c.args.numbered.now.entries.items in
    let within = place_within es c.args.self.now.next c.args.place t.todo c.requires.next h.reads in
    let there = slice_get-get_or es c.args.place c.index.result.now within ∙ ap Some (sym c.index.ensures) in
    pass_loop es c.args.self.now c.args.place c.requires.next c.index.result.now there c.enter.new.self operands t h c.in-Loop.field-0 c.in-Loop.body
    c.in-Loop.field-2 c.in-Loop.is c.enter.ensures.next c.enter.ensures.loops

-- A setting, which is reported or not.
use Rattle.std.proofs.Common.{◌≡◌, ◌∙◌, ◌<◌, ap, subst, sym}
use Rattle.std.specs.Prelude.{slice_get}
use Rattle.gq_model.specs.machine.Run.{label_at, set_input}
use Rattle.gq_model.specs.machine.Scenario.{Scenario, components, system}
use Rattle.gq_machine.specs.Machines.{Machine}
use Rattle.gq_traces.specs.Trace.{input_line, value_at}
use Rattle.gq_traces.specs.internal.Printed_steps.{Goes}
use Rattle.gq_traces.specs.Traces_written.{prints_all}
use Rattle.gq_traces.proofs.Printed_setting.{setting_printed, setting_unprinted}
use Rattle.gq_traces.proofs.setting_lines.print_setting.Goals as goal

pub returns-then-is_reported : goal.returns-then-is_reported
returns-then-is_reported g c turns =
    let w = c.args.world.now in
    let new = c.set_input-set.new.self in
    let x = c.args.leaf in
    let i = c.args.input in
    let n = c.args.number in
    setting_printed g.W.Write.contents (prints_all c.args.reporting) x i n w new c.args.tracing.now c.set_input-set.ensures.scenario
    (c.set_input-set.ensures.stopped ∙ c.requires.can.running) c.set_input-set.ensures.signals
    (subst (λ k. new.world ≡ set_input (system w.scenario) w.world x k n) c.from.ensures c.set_input-set.ensures.set)
    (subst (λ k. x < k) (sym c.counted.ensures.leaves) c.requires.leaf) c.requires.can turns c.args.out.now c.write_setting.new.out c.args.going
    c.write_setting.result c.is_reported.result c.value-before.result c.value-after.result
    (c.value-before.ensures ∙ ap (λ (m : Machine). value_at m.world x i) c.machine.ensures.is)
    (c.value-after.ensures ∙ ap (λ (m : Machine). value_at m.world x i) c.machine-2.ensures.is) c.is_reported.ensures c.if-is_reported.true
    (subst (λ (s : Scenario). Goes g.W.Write.contents c.args.out.now c.write_setting.new.out c.args.going c.write_setting.result
    (input_line (label_at (slice_get (components s) x)) i n)) c.table.ensures c.write_setting.ensures)

pub returns-else-is_reported : goal.returns-else-is_reported
returns-else-is_reported g c turns =
    let w = c.args.world.now in
    let new = c.set_input-set.new.self in
    let x = c.args.leaf in
    let i = c.args.input in
    let n = c.args.number in
    setting_unprinted g.W.Write.contents (prints_all c.args.reporting) x i n w new c.args.tracing.now c.set_input-set.ensures.scenario
    (c.set_input-set.ensures.stopped ∙ c.requires.can.running) c.set_input-set.ensures.signals
    (subst (λ k. new.world ≡ set_input (system w.scenario) w.world x k n) c.from.ensures c.set_input-set.ensures.set)
    (subst (λ k. x < k) (sym c.counted.ensures.leaves) c.requires.leaf) c.requires.can turns c.args.out.now c.args.going
    c.is_reported.result c.value-before.result c.value-after.result
    (c.value-before.ensures ∙ ap (λ (m : Machine). value_at m.world x i) c.machine.ensures.is)
    (c.value-after.ensures ∙ ap (λ (m : Machine). value_at m.world x i) c.machine-2.ensures.is) c.is_reported.ensures c.if-is_reported.false

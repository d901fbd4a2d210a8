-- One line after the other.
use Rattle.std.proofs.Common.{◌∙◌, ◌≤◌, ap, arith, length, true}
use Rattle.gq_model.specs.machine.Scenario.{Scenario, components}
use Rattle.gq_traces.proofs.Printed_peaks.{lines_end, lines_first, lines_next}
use Rattle.gq_traces.proofs.peaks.write_lines.Goals as goal

pub loop-number-init : goal.loop-number-init
loop-number-init g c = lines_first g.W.Write.contents c.args.world.now.scenario c.args.peaks.now c.args.out.now true

pub returns : goal.returns
returns g c =
    let s = c.args.world.now.scenario in
    let l = c.loop-number in
    let count = c.leaf_count-number-end.ensures.count ∙ ap (λ (s : Scenario). length (components s)) c.table-table.ensures in
    let over = c.loop-number-test.false in
    let least : length (components s) ≤ l.number = omega (arith, over, count) in
    lines_end g.W.Write.contents s c.args.peaks.now c.args.out.now l.out true l.going l.number least l.invariant

pub loop-number-preserved : goal.loop-number-preserved
loop-number-preserved g c =
    let s = c.args.world.now.scenario in
    let l = c.loop-number in
    let count = c.leaf_count-number-end.ensures.count ∙ ap (λ (s : Scenario). length (components s)) c.table-table.ensures in
    let test = c.loop-number-test.true in
    let version = c.version-version.ensures ∙ ap (λ (s : Scenario). s.version) (c.scenario.ensures ∙ c.table-table.ensures) in
    lines_next g.W.Write.contents s c.args.peaks.now c.args.out.now l.out c.write_on-going.new.out true l.going c.write_on-going.result l.number c.new.result
    _ c.table-table.result.now c.label_of-label.result.now c.peak_line-line.result.items c.as_slice.result.now _ (omega (arith, test, count)) c.requires
    c.table-table.ensures c.new.ensures version c.label_of-label.ensures.label c.as_slice.ensures.value c.peak_line-line.ensures l.invariant
    c.write_on-going.ensures

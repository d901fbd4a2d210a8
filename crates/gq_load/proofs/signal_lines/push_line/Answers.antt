use Rattle.std.proofs.Common.{[], ◌++◌, ap, sym, ◌∙◌}
use Rattle.std.specs.Prelude.{slice_index, slice_index_or}
use Rattle.gq_model.specs.machine.Step_budgets.{StepBudget}
use Rattle.gq_model.specs.rules.Accept.{steps_of_signal}
use Rattle.gq_load.proofs.Signal_line_steps.{step_of, line_made}
use Rattle.gq_load.proofs.signal_lines.push_line.Goals as goal

pub returns : goal.returns
returns c = λ d same.
    let bs = c.args.budgets.now in
    let b = c.index-budgets-leaf.result in
    let y = c.args.leaf in
    let i = c.args.signal in
    let own = c.for_signal.ensures ∙ (ap (λ (s : StepBudget). slice_index (slice_index_or s.for_signals y []) i) c.steps.ensures
    ∙ sym (step_of y i y bs b c.requires.there c.index-budgets-leaf.is)) in
    let number = c.in_ok-extend_from_slice-4.ensures.items
    ∙ ap (λ l. c.extend_from_slice-3.new.self.items ++ l) (c.as_bytes.ensures.value ∙ c.format.ensures.text) in
    line_made y i d (steps_of_signal y i bs) c.args.label.now c.args.text.now.items c.extend_from_slice.new.self.items c.extend_from_slice-2.new.self.items
    c.extend_from_slice-3.new.self.items c.extend_from_slice-4.new.self.items c.push_entry.new.text.items c.push_entry-2.new.text.items
    c.extend_from_slice-5.new.self.items c.for_signal.result c.all_steps.result c.in_ok-extend_from_slice.ensures.items
    c.in_ok-extend_from_slice-2.ensures.items c.in_ok-extend_from_slice-3.ensures.items number c.in_ok-push_entry.ensures c.in_ok-push_entry-2.ensures
    c.in_ok-extend_from_slice-5.ensures.items same own c.all_steps.ensures

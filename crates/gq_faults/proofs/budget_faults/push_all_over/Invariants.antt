use Rattle.std.proofs.Common.{◌≡◌, ◌++◌, map, drop}
use Rattle.gq_model.specs.texts.Fault_texts.{refusal_text}
use Rattle.gq_faults.specs.Leaves_over_limit.{over_limit}
use Rattle.gq_faults.specs.Found_lines.{lines_found}
use Rattle.gq_faults.proofs.budget_faults.push_all_over.Given as goal

abbrev pub invariant-loop-place : goal.invariant-loop-place
invariant-loop-place l =
    lines_found l.found.items ++ map refusal_text (over_limit l.limit (drop l.place l.components) (drop l.place l.budgets))
    ≡ lines_found l.fn.found.items ++ map refusal_text (over_limit l.limit l.components l.budgets)

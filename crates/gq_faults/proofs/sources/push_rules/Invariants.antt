use Rattle.std.proofs.Common.{◌≡◌, ◌++◌, None, map, drop}
use Rattle.gq_load.specs.Load.{sources_fault}
use Rattle.gq_load.specs.internal.Judged_programs.{leaf_refusal}
use Rattle.gq_model.specs.texts.Fault_texts.{refusal_text}
use Rattle.gq_faults.specs.Found_lists.{all_found, listed_if}
use Rattle.gq_faults.specs.Found_lines.{lines_found}
use Rattle.gq_faults.proofs.sources.push_rules.Given as goal

abbrev pub invariant-loop-place : goal.invariant-loop-place
invariant-loop-place l = record {
  added :
      lines_found l.found.items ++ map refusal_text (all_found (λ c. listed_if (leaf_refusal l.interfaces c)) (drop l.place l.components))
      ≡ lines_found l.fn.found.items ++ map refusal_text (all_found (λ c. listed_if (leaf_refusal l.interfaces c)) l.components);
  programs : sources_fault (drop l.place l.components) ≡ None;
}

use Rattle.std.proofs.Common.{◌+◌, List, map, drop}
use Rattle.gq_load.specs.internal.Judged_programs.{leaf_refusal}
use Rattle.gq_model.specs.machine.Scenario.{Component}
use Rattle.gq_model.specs.texts.Fault_texts.{refusal_text}
use Rattle.gq_model.specs.rules.Accept.{Refusal}
use Rattle.gq_faults.specs.Found_lists.{all_found, listed_if}
use Rattle.gq_faults.specs.Found_lines.{lines_found}
use Rattle.gq_faults.proofs.Appended_faults.{mapped_next, mapped_end, all_there, sources_next}
use Rattle.gq_faults.proofs.Joined_fault_lists.{then_more}
use Rattle.gq_faults.proofs.sources.push_rules.Goals as goal

pub push_rule-requires : goal.push_rule-requires
push_rule-requires c =
    (sources_next c.args.components.now c.loop-place.place c.index-components-place.result c.loop-place-test.true c.index-components-place.is
    c.loop-place.invariant.programs).0

pub loop-place-preserved : goal.loop-place-preserved
loop-place-preserved c =
    let f : Component → List Refusal = λ d. listed_if (leaf_refusal c.args.interfaces.now d) in
    let xs = c.args.components.now in
    let i = c.loop-place.place in
    let x = c.index-components-place.result in
    record {
      added =
          then_more _ (lines_found c.loop-place.found.items) _ (map refusal_text (all_found f (drop i xs))) (map refusal_text (f x))
          (map refusal_text (all_found f (drop (i + 1) xs)))
          c.in_ok-push_rule.ensures (mapped_next refusal_text f xs i x c.loop-place-test.true c.index-components-place.is) c.loop-place.invariant.added;
      programs = (sources_next xs i x c.loop-place-test.true c.index-components-place.is c.loop-place.invariant.programs).1;
    }

pub returns : goal.returns
returns c =
    all_there _ _ _ c.loop-place.invariant.added
    (mapped_end refusal_text (λ (d : Component). listed_if
    (leaf_refusal c.args.interfaces.now d)) c.args.components.now c.loop-place.place c.loop-place-test.false)

use Rattle.std.proofs.Common.{◌≡◌, ◌∙◌, ◌++◌, ap}
use Rattle.std.proofs.lemmas.Result.{on_ok_weaker}
use Rattle.gq_outcomes.specs.internal.Key_parts.{leaf_at}
use Rattle.gq_outcomes.specs.internal.Keys.{number_key, text_key}
use Rattle.gq_outcomes.proofs.Kept_readers.{leaf_reads}
use Rattle.gq_outcomes.proofs.Key_lists.{behind}
use Rattle.gq_outcomes.proofs.key.push_counts.Goals as goal

pub returns : goal.returns
returns c =
    let m = c.args.machine.now in
    let leaf = leaf_at m.world c.args.leaf in
    let steps : c.steps.result ≡ leaf.steps =
    leaf_reads m c.requires.sound c.args.leaf c.requires.leaf (λ l. c.steps.result ≡ l.steps) c.steps.ensures in
    let inputs : c.inputs.result.now ≡ leaf.inputs =
    leaf_reads m c.requires.sound c.args.leaf c.requires.leaf (λ l. c.inputs.result.now ≡ l.inputs) c.inputs.ensures in
    on_ok_weaker c.push_numbers.result
    (λ put. behind _ _ _ (number_key leaf.steps) (text_key leaf.inputs) (c.in_ok-push_number.ensures ∙ ap (λ n. c.args.key.now.items ++ number_key n) steps)
    (put ∙ ap (λ t. c.push_number.new.key.items ++ text_key t) inputs)) c.push_numbers.ensures

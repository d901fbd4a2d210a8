use Rattle.std.proofs.Common.{◌≡◌, ◌∙◌, ◌++◌, ap}
use Rattle.std.proofs.lemmas.Result.{on_ok_weaker}
use Rattle.gq_outcomes.specs.internal.Key_parts.{leaf_at}
use Rattle.gq_outcomes.specs.internal.Keys.{list_key, number_key, option_key, signal_key}
use Rattle.gq_outcomes.proofs.Kept_readers.{leaf_reads}
use Rattle.gq_outcomes.proofs.Key_lists.{behind}
use Rattle.gq_outcomes.proofs.key.push_signals.Goals as goal

pub returns : goal.returns
returns c =
    let m = c.args.machine.now in
    let leaf = leaf_at m.world c.args.leaf in
    let reacting : c.reacting.result ≡ leaf.reacting =
    leaf_reads m c.requires.sound c.args.leaf c.requires.leaf (λ l. c.reacting.result ≡ l.reacting) c.reacting.ensures in
    let signals : c.signals.result.now ≡ leaf.signals =
    leaf_reads m c.requires.sound c.args.leaf c.requires.leaf (λ l. c.signals.result.now ≡ l.signals) c.signals.ensures in
    on_ok_weaker c.push_all_signals.result
    (λ put. behind _ _ _ (option_key number_key leaf.reacting) (list_key signal_key leaf.signals)
    (c.in_ok-push_reacting.ensures ∙ ap (λ o. c.args.key.now.items ++ option_key number_key o) reacting)
    (put ∙ ap (λ t. c.push_reacting.new.key.items ++ list_key signal_key t) signals)) c.push_all_signals.ensures

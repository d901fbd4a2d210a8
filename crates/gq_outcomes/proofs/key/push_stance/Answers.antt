use Rattle.std.proofs.Common.{◌≡◌, ◌∙◌, ◌++◌, ◌∷◌, [], ap}
use Rattle.std.proofs.lemmas.Result.{on_ok_weaker}
use Rattle.std.specs.Prelude.{option_map}
use Rattle.gq_laws.specs.Renamed.{renamed_current}
use Rattle.gq_statements.specs.Slot_statements.{current_seen}
use Rattle.gq_outcomes.specs.internal.Key_parts.{leaf_at, place_in}
use Rattle.gq_outcomes.specs.internal.Keys.{current_key, option_key, phase_tag}
use Rattle.gq_outcomes.proofs.Kept_readers.{leaf_reads}
use Rattle.gq_outcomes.proofs.Key_lists.{behind}
use Rattle.gq_outcomes.proofs.key.push_stance.Goals as goal

pub returns : goal.returns
returns c =
    let m = c.args.machine.now in
    let f = place_in c.args.order.now in
    let leaf = leaf_at m.world c.args.leaf in
    let phase : c.phase.result ≡ leaf.phase =
    leaf_reads m c.requires.sound c.args.leaf c.requires.leaf (λ l. c.phase.result ≡ l.phase) c.phase.ensures in
    let current : current_seen c.current.result ≡ leaf.current =
    leaf_reads m c.requires.sound c.args.leaf c.requires.leaf (λ l. current_seen c.current.result ≡ l.current) c.current.ensures in
    on_ok_weaker c.push_current.result
    (λ put. behind _ _ _ (phase_tag leaf.phase ∷ []) (option_key current_key (option_map (renamed_current f) leaf.current))
    (c.in_ok-push_byte.ensures ∙ ap (λ t. c.args.key.now.items ++ t ∷ []) (c.phase_tag.ensures ∙ ap phase_tag phase))
    (put ∙ ap (λ o. c.push_byte.new.key.items ++ option_key current_key (option_map (renamed_current f) o)) current)) c.push_current.ensures

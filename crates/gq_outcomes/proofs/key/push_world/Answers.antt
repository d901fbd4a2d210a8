use Rattle.std.proofs.Common.{◌∙◌, ◌++◌, ap, sym}
use Rattle.std.proofs.lemmas.Result.{on_ok_weaker}
use Rattle.gq_laws.specs.Renamed.{renamed_request}
use Rattle.gq_model.specs.machine.World.{Request}
use Rattle.gq_trade.specs.Seen_requests.{request_seen}
use Rattle.gq_outcomes.specs.internal.Key_parts.{kept_leaf_key, numbered_key, place_in}
use Rattle.gq_outcomes.specs.internal.Keys.{list_key, request_key}
use Rattle.gq_outcomes.proofs.Kept_parts.{world_parts}
use Rattle.gq_outcomes.proofs.Key_lists.{behind, list_map}
use Rattle.gq_outcomes.proofs.key.push_world.Goals as goal

pub returns : goal.returns
returns c =
    let order = c.args.order.now in
    let w = c.args.machine.now.world in
    let key = λ (r : Request). request_key (renamed_request (place_in order) r) in
    let requests = sym (list_map key request_seen c.requests.result.now) ∙ ap (list_key key) c.requests.ensures in
    on_ok_weaker c.push_all_requests.result
    (λ put. behind _ _ _ (list_key (kept_leaf_key order) w.leaves) (list_key (numbered_key w order) order ++ list_key key w.requests)
    c.in_ok-push_leaves.ensures
    (behind _ _ _ (list_key (numbered_key w order) order) (list_key key w.requests) c.in_ok-push_sessions.ensures
    (put ∙ ap (λ t. c.push_sessions.new.key.items ++ t) requests))
    ∙ ap (λ t. c.args.key.now.items ++ t) (sym (world_parts order w))) c.push_all_requests.ensures

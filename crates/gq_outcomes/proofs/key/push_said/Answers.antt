use Rattle.std.proofs.Common.{◌∙◌, ◌<◌, ◌++◌, ap, sym, subst, map}
use Rattle.gq_outcomes.specs.internal.Keys.{list_key, text_key}
use Rattle.gq_outcomes.proofs.Key_lists.{key_put, length_map, map_item}
use Rattle.gq_outcomes.proofs.key.push_said.Goals as goal

pub loop-lines-preserved : goal.loop-lines-preserved
loop-lines-preserved c =
    let l = c.loop-lines in
    let said = c.args.said.now in
    let item = c.lines-item.result in
    let lines = map (λ v. v.items) said in
    key_put text_key lines l.lines-index item.items item.items l.key.items c.push_text.new.key.items (c.args.key.now.items ++ list_key text_key lines)
    (subst (λ n. l.lines-index < n) (sym (length_map (λ v. v.items) said)) c.loop-lines-test.true)
    (map_item (λ v. v.items) said l.lines-index item c.loop-lines-test.true c.lines-item.is)
    (c.in_ok-push_text.ensures ∙ ap (λ t. l.key.items ++ text_key t) c.as_slice.ensures.value) l.invariant

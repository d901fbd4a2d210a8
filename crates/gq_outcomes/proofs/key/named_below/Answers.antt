use Rattle.std.proofs.Common.{◌∙◌, sym}
use Rattle.gq_outcomes.specs.internal.Keys.{each_key}
use Rattle.gq_outcomes.proofs.Key_lists.{key_whole, named_below_each, named_below_one}
use Rattle.gq_outcomes.proofs.key.named_below.Goals as goal

pub returns : goal.returns
returns c =
    let l = c.loop-session in
    let w = c.args.machine.now.world in
    key_whole (named_below_one w) c.args.sessions.now l.session-index l.order.items (each_key (named_below_one w) c.args.sessions.now) c.loop-session-test.false
    l.invariant
    ∙ sym (named_below_each w c.args.sessions.now)

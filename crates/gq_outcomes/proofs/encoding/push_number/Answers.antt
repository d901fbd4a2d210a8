use Rattle.std.proofs.Common.{◌+◌, ◌/◌, ◌%◌, ◌∷◌, [], ◌∙◌}
use Rattle.gq_outcomes.specs.internal.Keys.{number_key}
use Rattle.gq_outcomes.proofs.keys.Numbers.{grown, number_large}
use Rattle.gq_outcomes.proofs.encoding.push_number.Goals as goal

pub loop-left-preserved : goal.loop-left-preserved
loop-left-preserved c =
    let l = c.loop-left in
    grown l.key.items c.push.new.self.items ((l.left % 128 + 128) ∷ []) (number_key (l.left / 128)) (number_key l.left) c.in_ok-push.ensures.items
    (number_large l.left c.loop-left-test.true)
    ∙ l.invariant

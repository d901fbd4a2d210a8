use Rattle.std.proofs.Common.{◌∙◌, ap}
use Rattle.gq_races.specs.internal.Owners.{admits_at, all_kept}
use Rattle.gq_races.proofs.Leaf_owner_rounds.{round_more}
use Rattle.gq_races.proofs.owners.owners.Goals as goal

pub loop-round-preserved : goal.loop-round-preserved
loop-round-preserved c =
    let l = c.loop-round in
    round_more c.args.opened.now l.all.items _ l._round l.invariant
    (λ z x within. c.in_ok-all.ensures z x within ∙ ap (λ owners. all_kept (admits_at owners z) z x 0 c.args.opened.now) c.as_slice.ensures.value)

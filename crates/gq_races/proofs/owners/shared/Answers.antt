use Rattle.std.proofs.Common.{◌∙◌, ap, length}
use Rattle.std.specs.Prelude.{not}
use Rattle.gq_races.specs.Races.{any_below}
use Rattle.gq_races.specs.internal.Owners.{admits_at, owns_kept}
use Rattle.gq_races.proofs.Leaf_owner_rounds.{count_more, shared_here, shared_more}
use Rattle.gq_races.proofs.owners.shared.Goals as goal

pub loop-place-preserved : goal.loop-place-preserved
loop-place-preserved c =
    let l = c.loop-place in
    record {
      count = count_more l.all.items c.push.new.self.items c.is_shared.result l.place l.invariant.count c.in_ok-push.ensures.items;
      reported = shared_more l.all.items c.push.new.self.items c.is_shared.result l.place
          (λ x. not (any_below (λ z. owns_kept (length c.args.opened.now) c.args.opened.now z x) (length c.args.opened.now))) l.invariant.count
          l.invariant.reported
          (shared_here c.args.opened.now c.in_ok-owners.owners.items c.owner_at.result l.place c.is_shared.result c.in_ok-owners.ensures c.loop-place-test.true
          (λ z. c.owner_at.ensures z ∙ ap (λ owners. admits_at owners z l.place) c.as_slice.ensures.value) c.is_shared.ensures) c.in_ok-push.ensures.items;
    }

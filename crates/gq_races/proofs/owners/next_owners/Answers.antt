use Rattle.std.proofs.Common.{◌∙◌, ap}
use Rattle.gq_races.specs.internal.Owners.{admits_at, all_kept}
use Rattle.gq_races.proofs.Leaf_owner_rounds.{count_more, pushed}
use Rattle.gq_races.proofs.owners.next_owners.Goals as goal

pub loop-place-preserved : goal.loop-place-preserved
loop-place-preserved c =
    let l = c.loop-place in
    record {
      count = count_more l.all.items c.push.new.self.items c.owner_of.result l.place l.invariant.count c.in_ok-push.ensures.items;
      known = pushed l.all.items c.push.new.self.items c.owner_of.result l.place (λ z x. all_kept (admits_at c.args.owners.now z) z x 0 c.args.opened.now)
          l.invariant.count l.invariant.known
          (λ z. c.owner_of.ensures z ∙ ap (λ x. all_kept (admits_at c.args.owners.now z) z x 0 c.args.opened.now) c.new.ensures) c.in_ok-push.ensures.items;
    }

use Rattle.std.proofs.Common.{[], ◌∷◌, ◌++◌, ◌+◌, ◌∙◌, ap, drop}
use Rattle.gq_resolve.specs.Served.{servers}
use Rattle.gq_resolve.proofs.Mapped_list_growth.{next_is, onto}
use Rattle.gq_resolve.proofs.routes.LeafRoutes.numbers.Goals as goal

pub loop-service-preserved : goal.loop-service-preserved
loop-service-preserved c =
    let l = c.loop-service in
    let all = c.deref-service-items.result.now in
    let x = c.loop-service-item.result in
    onto l.numbers.items c.push.new.self.items (x.1 ∷ []) (servers (drop (l._service-index + 1) all)) (servers (drop l._service-index all)) (servers all)
    (c.in_ok-push.ensures.items ∙ ap (λ n. l.numbers.items ++ n ∷ []) c.number.ensures)
    (ap servers (next_is all l._service-index x c.loop-service-test.true c.loop-service-item.is)) l.invariant

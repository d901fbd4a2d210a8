use Rattle.gq_resolve.proofs.Opened_service_lists.{once_more}
use Rattle.gq_resolve.proofs.opened_services.once.Goals as goal

pub loop-service-preserved : goal.loop-service-preserved
loop-service-preserved c =
    let l = c.loop-service in
    record {
      kept =
          once_more c.args.services.now l.service-index c.service-item.result l.kept.items c.push_once.new.services.items c.loop-service-test.true
          c.service-item.is l.invariant.kept c.in_ok-push_once.ensures.services;
      reported = c.in_ok-push_once.ensures.places;
    }

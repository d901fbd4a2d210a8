use Rattle.std.proofs.Common.{◌+◌, ap, drop}
use Rattle.gq_model.specs.rules.Use.{services_of, services_in}
use Rattle.gq_resolve.proofs.Mapped_list_growth.{next_is, onto}
use Rattle.gq_resolve.proofs.opened_services.opened.Goals as goal

pub loop-section-preserved : goal.loop-section-preserved
loop-section-preserved c =
    let l = c.loop-section in
    let all = c.sections-section-items.result.now in
    let x = c.loop-section-item.result in
    let rest = services_in (drop (l._section-index + 1) all) in
    let left = ap services_in (next_is all l._section-index x c.loop-section-test.true c.loop-section-item.is) in
    onto l.services.items c.push_opened.new.services.items (services_of x.1) rest (services_in (drop l._section-index all)) (services_in all)
    c.in_ok-push_opened.ensures left l.invariant

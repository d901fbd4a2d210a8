use Rattle.std.proofs.Common.{◌<◌, ◌∙◌, ap, sym, subst, length, get_or}
use Rattle.std.proofs.lemmas.List.{length-map}
use Rattle.gq_model.specs.machine.Scenario.{Component}
use Rattle.gq_outcomes.proofs.Racy_lists.{get_or_same, race_more}
use Rattle.gq_outcomes.proofs.racy.with_race.Goals as goal

pub loop-place-preserved : goal.loop-place-preserved
loop-place-preserved c cs e =
    let k = c.loop-place.place in
    let p = c.index-programs-place.result in
    let less = subst (λ n. k < n) (ap length e ∙ length-map cs (λ (c : Component). c.node.program)) c.loop-place-test.true in
    let less_shared = subst (λ n. k < n) (sym c.requires) c.loop-place-test.true in
    race_more c.args.shared.now cs k p _ c.has_race.result c.loop-place.all.items c.push.new.self.items less less_shared
    (c.index-programs-place.is ∙ ap (λ l. get_or l k p) e) (get_or_same c.args.shared.now k _ less_shared) c.has_race.ensures c.in_ok-push.ensures.items
    ∙ c.loop-place.invariant cs e

use Rattle.std.proofs.Common.{◌+◌, ℕ, List, map, drop}
use Rattle.gq_model.specs.machine.Routes.{route}
use Rattle.gq_model.specs.rules.Resolve.{Unresolved, unrouted}
use Rattle.gq_model.specs.texts.Fault_texts.{unresolved_text}
use Rattle.gq_faults.specs.Scenario_faults.{services_lost}
use Rattle.gq_faults.specs.Found_lists.{listed_if}
use Rattle.gq_faults.specs.Found_lines.{lines_found}
use Rattle.gq_faults.proofs.Appended_faults.{mapped_next, mapped_end, all_there}
use Rattle.gq_faults.proofs.Joined_fault_lists.{then_more}
use Rattle.gq_faults.proofs.route_faults.push_services.Goals as goal

pub loop-service-preserved : goal.loop-service-preserved
loop-service-preserved c =
    let d = c.args.component.now in
    let f : List ℕ → List Unresolved = λ service. listed_if (unrouted d service (route d.levels service)) in
    let xs = c.args.services.now in
    let i = c.loop-service.service-index in
    let x = c.service-item.result in
    then_more _ (lines_found c.loop-service.found.items) _ (map unresolved_text (services_lost d (drop i xs))) (map unresolved_text (f x))
    (map unresolved_text (services_lost d (drop (i + 1) xs))) c.in_ok-push_lost.ensures
    (mapped_next unresolved_text f xs i x c.loop-service-test.true c.service-item.is) c.loop-service.invariant

pub returns : goal.returns
returns c =
    let d = c.args.component.now in
    let f : List ℕ → List Unresolved = λ service. listed_if (unrouted d service (route d.levels service)) in
    all_there _ _ _ c.loop-service.invariant (mapped_end unresolved_text f c.args.services.now c.loop-service.service-index c.loop-service-test.false)

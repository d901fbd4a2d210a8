use Rattle.std.proofs.Common.{◌+◌, ◌∙◌, ◌++◌, ℕ, List, ap, drop}
use Rattle.gq_resolve.specs.Served.{server_among}
use Rattle.gq_faults.specs.Found_lists.{all_found, listed_if}
use Rattle.gq_faults.proofs.Appended_faults.{found_next, found_end, all_there}
use Rattle.gq_faults.proofs.Joined_fault_lists.{then_more}
use Rattle.gq_faults.proofs.route_faults.used_by.Goals as goal

pub loop-service-preserved : goal.loop-service-preserved
loop-service-preserved c =
    let f : List ℕ → List ℕ = λ service. listed_if (server_among c.args.components.now c.args.component.now service) in
    let xs = c.args.services.now in
    let i = c.loop-service.service-index in
    let x = c.service-item.result in
    then_more _ c.loop-service.used.items _ (all_found f (drop i xs)) (f x) (all_found f (drop (i + 1) xs))
    (c.in_ok-push_server.ensures ∙ ap (λ o. c.loop-service.used.items ++ listed_if o) c.server_of.ensures)
    (found_next f xs i x c.loop-service-test.true c.service-item.is) c.loop-service.invariant

pub returns : goal.returns
returns c =
    let f : List ℕ → List ℕ = λ service. listed_if (server_among c.args.components.now c.args.component.now service) in
    all_there _ _ _ c.loop-service.invariant (found_end f c.args.services.now c.loop-service.service-index c.loop-service-test.false)

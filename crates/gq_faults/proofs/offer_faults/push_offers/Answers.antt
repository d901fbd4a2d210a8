use Rattle.std.proofs.Common.{◌+◌, ℕ, List, not, map, drop}
use Rattle.gq_model.specs.rules.Resolve.{Unresolved, Bad_offer, is_offer}
use Rattle.gq_model.specs.texts.Fault_texts.{unresolved_text}
use Rattle.gq_faults.specs.Scenario_faults.{offers_bad}
use Rattle.gq_faults.specs.Found_lists.{when}
use Rattle.gq_faults.specs.Found_lines.{lines_found}
use Rattle.gq_faults.proofs.Appended_faults.{mapped_next, mapped_end, all_there}
use Rattle.gq_faults.proofs.Joined_fault_lists.{then_more}
use Rattle.gq_faults.proofs.offer_faults.push_offers.Goals as goal

pub loop-offer-preserved : goal.loop-offer-preserved
loop-offer-preserved c =
    let all = c.args.interfaces.now in
    let name = c.args.init.now.name in
    let children = c.args.children.now in
    let f : List ℕ × List ℕ → List Unresolved = λ o. when (not (is_offer all children o.0 o.1)) (Bad_offer name) in
    let xs = c.offers-offer-items.result.now in
    let i = c.loop-offer.offer-index in
    let x = c.offer-item.result in
    then_more _ (lines_found c.loop-offer.found.items) _ (map unresolved_text (offers_bad all name children (drop i xs))) (map unresolved_text (f x))
    (map unresolved_text (offers_bad all name children (drop (i + 1) xs))) c.in_ok-push_offer.ensures
    (mapped_next unresolved_text f xs i x c.loop-offer-test.true c.offer-item.is) c.loop-offer.invariant

pub returns : goal.returns
returns c =
    let all = c.args.interfaces.now in
    let name = c.args.init.now.name in
    let children = c.args.children.now in
    let f : List ℕ × List ℕ → List Unresolved = λ o. when (not (is_offer all children o.0 o.1)) (Bad_offer name) in
    all_there _ _ _ c.loop-offer.invariant (mapped_end unresolved_text f c.offers-offer-items.result.now c.loop-offer.offer-index c.loop-offer-test.false)

use Rattle.std.proofs.Common.{◌≡◌, ◌++◌, map, drop}
use Rattle.gq_model.specs.texts.Fault_texts.{unresolved_text}
use Rattle.gq_faults.specs.Scenario_faults.{offers_bad}
use Rattle.gq_faults.specs.Found_lines.{lines_found}
use Rattle.gq_faults.proofs.offer_faults.push_offers.Given as goal

abbrev pub invariant-loop-offer : goal.invariant-loop-offer
invariant-loop-offer l =
    lines_found l.found.items ++ map unresolved_text (offers_bad l.interfaces l.init.name l.children (drop l.offer-index l.offer-items))
    ≡ lines_found l.fn.found.items ++ map unresolved_text (offers_bad l.interfaces l.init.name l.children l.init.offers)

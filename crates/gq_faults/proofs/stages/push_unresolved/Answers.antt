use Rattle.std.proofs.Common.{◌≡◌, ◌++◌, [], List, map, subst, sym}
use Rattle.std.specs.Prelude.{OnOk}
use Rattle.gq_model.specs.machine.Amounts.{Ram, Caps}
use Rattle.gq_model.specs.machine.Scenario.{Component, system}
use Rattle.gq_model.specs.texts.Fault_texts.{unresolved_text}
use Rattle.gq_faults.specs.Scenario_faults.{after_faults, all_bad_offers, cycles, quanta_faults, routes_lost}
use Rattle.gq_faults.specs.Found_lines.{lines_found}
use Rattle.gq_faults.proofs.Appended_faults.{two_more, then_two}
use Rattle.gq_faults.proofs.stages.push_unresolved.Goals as goal

pub returns : goal.returns
returns c =
    let t = unresolved_text in
    let s = c.args.scenario.now in
    let cs = c.args.components.now in
    let old = lines_found c.args.found.now.items in
    let new = lines_found c.push_cycles.new.found.items in
    let q = quanta_faults Ram s in
    let k = quanta_faults Caps s in
    let o = all_bad_offers s.interfaces s.nodes in
    let a = after_faults cs [] cs in
    let r = routes_lost cs in
    subst (λ (cs : List Component). OnOk c.push_cycles.result (new
    ≡ old ++ map t (q ++ k ++ o ++ after_faults cs [] cs ++ routes_lost cs ++ cycles (system s) 0 cs)))
    c.requires.components
    (then_two t old (lines_found c.push_routes.new.found.items) new (q ++ k ++ o ++ a ++ r) (cycles (system s) 0 cs) c.push_cycles.result
    (two_more t old (lines_found c.push_after.new.found.items) _ (q ++ k ++ o ++ a) r
    (two_more t old (lines_found c.push_bad_offers.new.found.items) _ (q ++ k ++ o) a
    (two_more t old (lines_found c.push_quanta-2.new.found.items) _ (q ++ k) o
    (two_more t old (lines_found c.push_quanta.new.found.items) _ q k c.in_ok-push_quanta.ensures c.in_ok-push_quanta-2.ensures)
    c.in_ok-push_bad_offers.ensures) c.in_ok-push_after.ensures) c.in_ok-push_routes.ensures) (c.push_cycles.ensures (system s) (sym c.requires.components)))

use Rattle.std.proofs.Common.{Bool, List, ◌∙◌, ap, map, subst, sym}
use Rattle.gq_model.specs.machine.Scenario.{Component, components, system}
use Rattle.gq_budget.specs.Leaf_routes.{leads_of}
use Rattle.gq_budget.specs.Leaf_section_counts.{AgreeWhereAsked}
use Rattle.gq_budget.specs.internal.Route_leads.{leads_rows}
use Rattle.gq_budget.proofs.Route_use_relation.{are_reported, as_many, rows_agree}
use Rattle.gq_budget.proofs.leaf_steps.times_of.Goals as goal

pub leads_rows-requires-clause-reported : goal.leads_rows-requires-clause-reported
leads_rows-requires-clause-reported c = are_reported c.args.scenario.now c.args.components.now c.args.routes.now c.requires.components c.requires.routes

pub returns : goal.returns
returns c =
    let s = c.args.scenario.now in
    let all = components s in
    let ns = c.args.counted.now in
    let counted = c.requires.counted in
    let reported =
    ap (map (λ v. v.items)) c.as_slice.ensures.value ∙ (c.in_ok-rows.ensures ∙ ap (λ (cs : List Component). leads_rows cs ns 0 cs) c.requires.components) in
    let agree = rows_agree (system s) ns ns 0 all (as_many (system s) ns all counted) counted in
    c.in_ok-often.ensures (system s) counted (subst (λ (rows : List (List Bool)). AgreeWhereAsked ns ns rows (leads_of (system s))) (sym reported) agree)

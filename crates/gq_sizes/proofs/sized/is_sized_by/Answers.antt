-- All parts are those of the scenario with the least quantities.
use Rattle.std.proofs.Common.{◌∙◌, ap, refl, subst, sym, arith}
use Rattle.gq_model.specs.machine.Accounts.{leaf_count}
use Rattle.gq_model.specs.machine.Amounts.{counts_caps}
use Rattle.gq_model.specs.machine.Scenario.{Scenario, components, system}
use Rattle.gq_scenario.specs.Without_quantities.{unsized}
use Rattle.gq_sizes.specs.Endless.{NodesEnd}
use Rattle.gq_sizes.specs.Least.{least_interfaces, least_nodes}
use Rattle.gq_sizes.specs.Size.{all_gifts}
use Rattle.gq_sizes.specs.Saturated_tables.{AreLeast}
use Rattle.gq_sizes.proofs.Sized_texts.{caps_are_printed, ram_printed}
use Rattle.gq_sizes.proofs.sized.is_sized_by.Goals as goal

pub nodes_sized-requires : goal.nodes_sized-requires
nodes_sized-requires c =
    let nodes = c.nodes-old.ensures ∙ c.nodes-2.ensures in omega (arith, ap leaf_count nodes, c.bounds.ensures.count)

pub returns-in-Some-clause-sized : goal.returns-in-Some-clause-sized
returns-in-Some-clause-sized c h =
    let s = c.args.scenario.now in
    let all = system (unsized s) in
    let given = all_gifts all all.components in
    let least : AreLeast all c.as_slice.result.now c.as_slice-2.result.now =
    record { least = c.as_slice.ensures.value ∙ c.requires.leaves.least; endless = c.as_slice-2.ensures.value ∙ c.requires.leaves.endless } in
    let top = c.if-not-is_top_sized.false in
    let version = c.version-version.ensures in
    let old = c.entries-old.ensures.entries ∙ c.interfaces-2.ensures in
    let rams =
    c.as_slice-ram.ensures.value
    ∙ ram_printed all s (unsized s) c.entries-old.result.now c.args.found.now.sums.ram.items refl old (components (unsized s)) refl c.requires.ram in
    let capss =
    c.as_slice-caps.ensures.value
    ∙ caps_are_printed all s (unsized s) c.entries-old.result.now c.args.found.now.sums.caps.items refl old c.requires.caps in
    let interfaces =
    sym (c.entries-new.ensures.entries ∙ c.interfaces.ensures)
    ∙ (c.interfaces_sized.ensures.least all given rams capss c.if-not-interfaces_sized.false ∙ (λ j. least_interfaces (version j) all given (old j))) in
    let parts = c.in-Some.ensures.least all least in
    let nodes =
    sym (c.nodes-new.ensures ∙ c.nodes.ensures)
    ∙ (parts.same ∙ (λ j. least_nodes (version j) all 0 ((c.nodes-old.ensures ∙ c.nodes-2.ensures) j))) in
    record {
      same = (λ j. record {
        version = c.is_top_sized.ensures.version top j;
        total = (c.is_top_sized.ensures.total all least top).same j;
        default_routes = c.is_top_sized.ensures.routes top j;
        interfaces = interfaces j;
        nodes = nodes j;
      });
      root = (c.is_top_sized.ensures.total all least top).ends;
      nodes = λ e. subst (NodesEnd all 0) (c.nodes-old.ensures ∙ c.nodes-2.ensures) (parts.ends (ap counts_caps version ∙ e));
    }

pub returns-then-not-interfaces_sized-clause-only : goal.returns-then-not-interfaces_sized-clause-only
returns-then-not-interfaces_sized-clause-only c h =
    let s = c.args.scenario.now in
    let all = system (unsized s) in
    let given = all_gifts all all.components in
    let version = c.version-version.ensures in
    let old = c.entries-old.ensures.entries ∙ c.interfaces-2.ensures in
    let rams =
    c.as_slice-ram.ensures.value
    ∙ ram_printed all s (unsized s) c.entries-old.result.now c.args.found.now.sums.ram.items refl old (components (unsized s)) refl c.requires.ram in
    let capss =
    c.as_slice-caps.ensures.value
    ∙ caps_are_printed all s (unsized s) c.entries-old.result.now c.args.found.now.sums.caps.items refl old c.requires.caps in
    let made =
    c.entries-new.ensures.entries
    ∙ (c.interfaces.ensures
    ∙ (ap (λ (z : Scenario). z.interfaces) h.same ∙ sym (λ j. least_interfaces (version j) all given (old j)))) in
    sym c.if-not-interfaces_sized.true ∙ c.interfaces_sized.ensures.only all given rams capss made

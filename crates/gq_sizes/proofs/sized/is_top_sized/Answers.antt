-- The root has what it needs at least.
use Rattle.std.proofs.Common.{◌∙◌, ap, sym}
use Rattle.gq_model.specs.machine.Amounts.{Ram, Caps, amount, counts_caps}
use Rattle.gq_scenario.specs.Component_trees.{version_number}
use Rattle.gq_sizes.specs.Endless.{children_endless}
use Rattle.gq_sizes.specs.Least.{caps_of}
use Rattle.gq_sizes.specs.Size.{children_least, root_least}
use Rattle.gq_sizes.proofs.Compared_text_equality.{one_version}
use Rattle.gq_sizes.proofs.sized.is_top_sized.Goals as goal

pub returns-clause-version : goal.returns-clause-version
returns-clause-version c h =
    sym c.version.ensures ∙ (ap version_number (c.same_version.ensures.same c.if-not-same_version.false) ∙ c.version-version.ensures)

pub returns-clause-total : goal.returns-clause-total
returns-clause-total c all is h =
    let nodes = c.args.scenario.now.nodes in
    let ram = root_least Ram (children_least Ram all 0 nodes) in
    let caps = root_least Caps (children_least Caps all 0 nodes) in
    let root = c.of_root.ensures all is in
    let least = c.is_least.ensures.least ram caps (children_endless all 0 nodes) root.0 root.1 c.if-not-is_least.false in
    record {
      same = sym c.total.ensures ∙ (least.same ∙ (λ j. amount ram (caps_of (c.version-version.ensures j) caps)));
      ends = λ e. least.ends (ap counts_caps c.version-version.ensures ∙ e);
    }

pub returns-clause-routes : goal.returns-clause-routes
returns-clause-routes c h = sym c.default_routes.ensures ∙ (c.same_routes.ensures.same h ∙ c.default_routes-2.ensures)

pub returns-clause-only : goal.returns-clause-only
returns-clause-only c all is version total routes =
    c.same_routes.ensures.only (c.default_routes.ensures ∙ (routes ∙ sym c.default_routes-2.ensures))

pub returns-then-not-same_version-clause-only : goal.returns-then-not-same_version-clause-only
returns-then-not-same_version-clause-only c all is version total routes =
    sym c.if-not-same_version.true
    ∙ c.same_version.ensures.only (one_version c.version.result c.version-version.result (c.version.ensures ∙ (version ∙ sym c.version-version.ensures)))

pub returns-then-not-is_least-clause-only : goal.returns-then-not-is_least-clause-only
returns-then-not-is_least-clause-only c all is version total routes =
    let nodes = c.args.scenario.now.nodes in
    let ram = root_least Ram (children_least Ram all 0 nodes) in
    let caps = root_least Caps (children_least Caps all 0 nodes) in
    let root = c.of_root.ensures all is in
    let same = c.version-version.ensures in
    sym c.if-not-is_least.true
    ∙ c.is_least.ensures.only ram caps (children_endless all 0 nodes) root.0 root.1 (record {
      same = c.total.ensures ∙ (total.same ∙ (λ j. amount ram (caps_of (sym same j) caps)));
      ends = λ e. total.ends (ap counts_caps (sym same) ∙ e);
    })

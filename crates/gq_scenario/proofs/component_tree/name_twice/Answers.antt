use Rattle.std.proofs.Common.{codes, Some, ap, sym, ◌∙◌, option_map}
use Rattle.gq_scenario.specs.Top_table.{document_text}
use Rattle.gq_scenario.proofs.Repeated_names.{twice_reported}
use Rattle.gq_scenario.proofs.Tree_counts.{first_twice, not_twice}
use Rattle.gq_scenario.proofs.component_tree.name_twice.Goals as goal

pub returns-then-is_taken : goal.returns-then-is_taken
returns-then-is_taken c =
    let name = c.index-names-place.result in
    let taken = rw c.as_bytes.ensures.bytes at c.is_taken.ensures in
    let first = first_twice (codes "init") c.args.names.now c.loop-place.place name c.loop-place-test.true c.index-names-place.is c.is_taken.result taken
    c.if-is_taken.true in
    ap Some (twice_reported name c.copied.result c.copied.ensures c.as_bytes.ensures.name)
    ∙ sym (ap (option_map document_text) (sym c.loop-place.invariant ∙ first))

pub loop-place-preserved : goal.loop-place-preserved
loop-place-preserved c =
    let name = c.index-names-place.result in
    let taken = rw c.as_bytes.ensures.bytes at c.is_taken.ensures in
    not_twice (codes "init") c.args.names.now c.loop-place.place name c.loop-place-test.true c.index-names-place.is c.is_taken.result taken c.if-is_taken.false
    ∙ c.loop-place.invariant

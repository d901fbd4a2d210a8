use Rattle.std.proofs.Common.{◌≡◌, ◌+◌, [], ◌∷◌, map, drop, Err, Ok, ap, sym}
use Rattle.std.specs.Prelude.{codes}
use Rattle.std.proofs.lemmas.Result.{err_from_is_err_and}
use Rattle.toml.specs.View.{table_view}
use Rattle.gq_scenario.specs.Top_table.{document_text}
use Rattle.gq_faults.specs.Found_lists.{all_found}
use Rattle.gq_faults.specs.Documents.{named, names_faults, names_twice}
use Rattle.gq_faults.specs.Document_nodes.{node_of}
use Rattle.gq_faults.specs.Seen_names.{seen_after}
use Rattle.gq_faults.proofs.Duplicate_names.{none_seen, twice_next, twice_end}
use Rattle.gq_faults.proofs.Reported_fault_prefixes.{memory_ends, reports_fewer, reported_as, next_reported, none_reported}
use Rattle.gq_faults.proofs.repeated_names.report_names.Goals as goal

pub returns-in_err-report_twice : goal.returns-in_err-report_twice
returns-in_err-report_twice g c =
    let p = err_from_is_err_and c.from_residual-in_err-report_twice.result c.from_residual-in_err-report_twice.ensures.1 in
    let e = c.in_err-report_twice.field-0.0 in
    let names = c.loop-node.invariant.0 in
    let xs = c.args.nodes.now in
    let i = c.loop-node.node-index in
    let x = c.node-item.result in
    let own = named (node_of x) in
    rw (p.1, p.2) (c.loop-node.invariant.2 _ _ (Err e)
    (reports_fewer c.args.reporter.now.path.now (names_twice names (all_found named (map node_of (drop i xs)))) (names_twice names own)
    (names_twice (seen_after names own) (all_found named (map node_of (drop (i + 1) xs)))) _ _ _ _ e
    (twice_next names xs i x c.loop-node-test.true c.node-item.is) (c.in_err-report_twice.ensures.reported names c.loop-node.invariant.1)))

pub returns-in_err-was_seen : goal.returns-in_err-was_seen
returns-in_err-was_seen g c =
    memory_ends c.args.reporter.now.path.now (map document_text (names_faults (table_view c.args.top.now))) _ _
    c.from_residual.result c.from_residual.ensures.1

pub loop-node-init : goal.loop-node-init
loop-node-init g c =
    let path = c.args.reporter.now.path.now in
    let first = codes "init" ∷ [] in
    let same : names_faults (table_view c.args.top.now) ≡ names_twice first (all_found named (map node_of c.args.nodes.now)) =
    ap (λ ns. names_twice first (all_found named ns)) (sym c.requires) in (
      first,
      c.in_ok-was_seen.ensures.seen [] (none_seen c.new-seen.result c.new-seen.ensures.empty),
      λ after n r h. reported_as path (map document_text (names_twice first (all_found named (map node_of c.args.nodes.now))))
          (map document_text (names_faults (table_view c.args.top.now))) _ after _ n r (ap (map document_text) (sym same)) h,
    )

pub loop-node-preserved : goal.loop-node-preserved
loop-node-preserved g c =
    let names = c.loop-node.invariant.0 in
    let xs = c.args.nodes.now in
    let i = c.loop-node.node-index in
    let x = c.node-item.result in
    let own = named (node_of x) in (
      seen_after names own,
      c.in_ok-report_twice.ensures.seen names c.loop-node.invariant.1,
      λ after n r h. c.loop-node.invariant.2 after n r
          (next_reported c.args.reporter.now.path.now (names_twice names (all_found named (map node_of (drop i xs)))) (names_twice names own)
          (names_twice (seen_after names own) (all_found named (map node_of (drop (i + 1) xs)))) _ _ after _ _ n tt r
          (twice_next names xs i x c.loop-node-test.true c.node-item.is) (c.in_ok-report_twice.ensures.reported names c.loop-node.invariant.1) h),
    )

pub returns : goal.returns
returns g c =
    let names = c.loop-node.invariant.0 in
    let xs = c.args.nodes.now in
    let i = c.loop-node.node-index in
    c.loop-node.invariant.2 _ _ (Ok tt)
    (none_reported c.args.reporter.now.path.now (names_twice names (all_found named (map node_of (drop i xs)))) _ _ tt
    (twice_end names xs i c.loop-node-test.false))

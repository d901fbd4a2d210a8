use Rattle.std.proofs.Common.{◌≡◌, [], ◌∷◌, map, true, false, ap, sym, ◌∙◌}
use Rattle.gq_model.specs.machine.Lists.{any_of}
use Rattle.gq_model.specs.machine.Program.{text_eq}
use Rattle.gq_scenario.specs.Table_keys.{NameTwice}
use Rattle.gq_scenario.specs.Top_table.{document_text}
use Rattle.gq_faults.specs.Documents.{named, names_twice}
use Rattle.gq_faults.specs.Document_nodes.{node_of}
use Rattle.gq_faults.specs.Seen_names.{AreSeen, seen_after}
use Rattle.gq_faults.proofs.Duplicate_names.{always, one_twice, one_new, one_after}
use Rattle.gq_faults.proofs.Reported_fault_prefixes.{reported_as, none_reported, memory_ends}
use Rattle.gq_faults.proofs.repeated_names.report_twice.Goals as goal

pub returns-then-branch-clause-reported : goal.returns-then-branch-clause-reported
returns-then-branch-clause-reported g c = λ names seen.
    let own = named (node_of c.args.node.now) in
    let name = c.in-Some.text.now in
    let known : any_of (text_eq name) names ≡ true = sym (c.in_ok-was_seen.ensures.known names seen) ∙ c.if-branch.true in
    reported_as c.args.reporter.now.path.now (document_text (NameTwice name) ∷ []) (map document_text (names_twice names own)) _ _ _ _ c.report_name.result
    (ap (map document_text) (sym (one_twice names own name c.in-Some.ensures known))) c.report_name.ensures

pub returns-then-branch-clause-seen : goal.returns-then-branch-clause-seen
returns-then-branch-clause-seen g c = λ names seen.
    let own = named (node_of c.args.node.now) in
    let name = c.in-Some.text.now in
    let more : AreSeen c.was_seen.new.seen (seen_after names own) =
    one_after names own c.was_seen.new.seen name c.in-Some.ensures (c.in_ok-was_seen.ensures.seen names seen) in
    always c.report_name.result (AreSeen c.was_seen.new.seen (seen_after names own)) more

pub returns-else-branch-clause-reported : goal.returns-else-branch-clause-reported
returns-else-branch-clause-reported g c = λ names seen.
    let own = named (node_of c.args.node.now) in
    let name = c.in-Some.text.now in
    let known : any_of (text_eq name) names ≡ false = sym (c.in_ok-was_seen.ensures.known names seen) ∙ c.if-branch.false in
    none_reported c.args.reporter.now.path.now (names_twice names own) _ _ tt (one_new names own name c.in-Some.ensures known)

pub returns-else-branch-clause-seen : goal.returns-else-branch-clause-seen
returns-else-branch-clause-seen g c = λ names seen.
    one_after names (named (node_of c.args.node.now)) c.was_seen.new.seen c.in-Some.text.now c.in-Some.ensures (c.in_ok-was_seen.ensures.seen names seen)

pub returns-in_err-was_seen-clause-reported : goal.returns-in_err-was_seen-clause-reported
returns-in_err-was_seen-clause-reported g c = λ names seen.
    memory_ends c.args.reporter.now.path.now (map document_text (names_twice names (named (node_of c.args.node.now)))) _ _ c.from_residual.result
    c.from_residual.ensures.1

use Rattle.std.proofs.Common.{◌∙◌, sym, subst, map}
use Rattle.gq_model.specs.machine.Lists.{any_of}
use Rattle.gq_model.specs.machine.Program.{text_eq}
use Rattle.gq_output.specs.Writer_failures.{failures_of}
use Rattle.gq_reader.specs.Key_rules.{rule_of}
use Rattle.gq_scenario.specs.Fault_words.{printed_key}
use Rattle.gq_faults.specs.Reported_faults.{Reporting}
use Rattle.gq_faults.proofs.Unknown_keys.{unknown_line}
use Rattle.gq_faults.proofs.table_faults.report_unknown.Goals as goal

pub returns : goal.returns
returns g c =
    let ruled = any_of (λ r. text_eq c.args.key.now r.key) (map rule_of c.args.rules.now) in
    let line = unknown_line ruled (sym c.is_ruled.ensures ∙ c.if-is_ruled.false) c.args.key.now (printed_key c.key_of.result) c.key_of.ensures in
    subst (λ l. Reporting c.args.reporter.now.path.now l (g.W.Write.contents c.args.out.now.writer) (g.W.Write.contents c.report_key.new.out.writer)
    (failures_of c.args.out.now) (failures_of c.report_key.new.out) c.report_key.result) (sym line) c.report_key.ensures

use Rattle.std.proofs.Common.{rules}
use Rattle.std.proofs.Common.{refl}
use Rattle.toml.specs.View.{table_view}
use Rattle.gq_reader.proofs.Text_scenario_result.{not_utf8, toml_read}
use Rattle.gq_reader.proofs.document.read_document.Goals as goal

pub returns-in_default : goal.returns-in_default
returns-in_default c = rw (not_utf8 c.args.text.now c.if-text-gt-GREATEST_SCENARIO.false (c.in_default.ensures.cases.0)) refl

pub returns-in-Ok-table_from_str : goal.returns-in-Ok-table_from_str
returns-in-Ok-table_from_str c =
    let (same, utf8) = c.in-Ok.ensures.cases in
    let parsed = rw same at c.in-Ok-table_from_str.ensures.ok in
    toml_read c.args.text.now (table_view c.in-Ok-table_from_str.table) c.if-text-gt-GREATEST_SCENARIO.false utf8 parsed

pub returns-in-Err-2 : goal.returns-in-Err-2
returns-in-Err-2 c = search rules

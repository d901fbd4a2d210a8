use Rattle.std.proofs.Common.{◌∙◌}
use Rattle.gq_verify.proofs.Main_section_rules.{main_ok_fault, main_err_fault}
use Rattle.gq_verify.proofs.section_rules.main_fault.Goals as goal

pub returns-in-Ok : goal.returns-in-Ok
returns-in-Ok c =
    c.cost_fault.ensures ∙ main_ok_fault c.args.subject.now c.args.body.now c.args.starts.now.main c.in-Ok.field-0 c.requires.starts.main c.in-Ok.is

pub returns-in-Err : goal.returns-in-Err
returns-in-Err c = main_err_fault c.args.subject.now c.args.body.now c.args.starts.now.main c.in-Err.broken c.requires.starts.main c.in-Err.is

-- The line that is put is that of the definition's fault.
use Rattle.std.proofs.Common.{refl, subst}
use Rattle.gq_load.specs.Load.{loaded}
use Rattle.gq_reports.specs.Command_outcomes.{GivesOf}
use Rattle.gq_library.proofs.Faulty_text_unloaded.{not_loaded, line_put}
use Rattle.gq_library.proofs.loading.trade_fault.Goals as goal

pub returns-then-put_fault-clause-refused : goal.returns-then-put_fault-clause-refused
returns-then-put_fault-clause-refused c = λ _.
    let gives = subst (λ f. GivesOf f c.args.text.now) c.in-Err-Load.field-0-is c.in-Err-Load.ensures.refused in
    not_loaded c.in-Err-Load.fault (loaded c.args.text.now) gives

pub returns-then-put_fault-clause-reported : goal.returns-then-put_fault-clause-reported
returns-then-put_fault-clause-reported c = λ _.
    let gives = subst (λ f. GivesOf f c.args.text.now) c.in-Err-Load.field-0-is c.in-Err-Load.ensures.refused in
    let put = c.if-put_fault.ensures.reported refl in
    line_put c.in-Err-Load.fault (loaded c.args.text.now) c.args.line.now c.put_fault.new.buffer c.put_fault.new.written gives put

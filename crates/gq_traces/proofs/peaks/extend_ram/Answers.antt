-- Three words, each with its number.
use Rattle.std.proofs.Common.{◌∙◌, ◌++◌, ap, codes}
use Rattle.gq_model.specs.machine.Accounts.{entry}
use Rattle.gq_traces.proofs.Printed_peaks.{entry_put}
use Rattle.gq_traces.proofs.peaks.extend_ram.Goals as goal

pub returns-clause-bytes : goal.returns-clause-bytes
returns-clause-bytes c =
    let p = c.args.peak in
    let old = c.args.line.now.items in
    let first = c.extend_entry.ensures.bytes ∙ entry_put old (codes "used") p.used in
    let second = c.extend_entry-2.ensures.bytes ∙ entry_put c.extend_entry.new.line.items (codes "quota") p.quota
    ∙ ap (λ l. l ++ entry (codes "quota") p.quota) first in
    c.extend_entry-3.ensures.bytes
    ∙ entry_put c.extend_entry-2.new.line.items (codes "turn") p.turn ∙ ap (λ l. l ++ entry (codes "turn") p.turn) second

-- Three words, each with its number.
use Rattle.std.proofs.Common.{◌∙◌, ◌++◌, [], ap, codes, cond, sym}
use Rattle.gq_model.specs.machine.Accounts.{entry}
use Rattle.gq_traces.proofs.Printed_peaks.{entry_put, three_put}
use Rattle.gq_traces.proofs.peaks.extend_caps.Goals as goal

pub returns-then-counts_caps-clause-bytes : goal.returns-then-counts_caps-clause-bytes
returns-then-counts_caps-clause-bytes c =
    let p = c.args.peak in
    let old = c.args.line.now.items in
    let first = c.extend_entry.ensures.bytes ∙ entry_put old (codes "caps") p.quota in
    let second = c.extend_entry-then-counts_caps.ensures.bytes ∙ entry_put c.extend_entry.new.line.items (codes "taken") p.used
    ∙ ap (λ l. l ++ entry (codes "taken") p.used) first in
    c.extend_entry-then-counts_caps-2.ensures.bytes
    ∙ entry_put c.extend_entry-then-counts_caps.new.line.items (codes "turn") p.turn ∙ ap (λ l. l ++ entry (codes "turn") p.turn) second
    ∙ three_put old (entry (codes "caps") p.quota) (entry (codes "taken") p.used) (entry (codes "turn") p.turn)
    ∙ ap (λ b. old ++ cond b (entry (codes "caps") p.quota ++ entry (codes "taken") p.used ++ entry (codes "turn") p.turn) [])
    (sym (sym c.counts_caps.ensures ∙ c.if-counts_caps.true))

use Rattle.std.proofs.Common.{List, ℕ, ap, sym, ◌∙◌}
use Rattle.gq_verify.specs.Requested.{Requested}
use Rattle.gq_verify.proofs.Summed_section_requests.{raised_on}
use Rattle.gq_verify.proofs.asked.RequestCounts.raise.Goals as goal

pub loop-entry-preserved : goal.loop-entry-preserved
loop-entry-preserved c = λ v r.
    let l = c.loop-entry in
    let named = ap (λ (s : List ℕ). let e : Requested = record { service = s; section = c.entry.inside.section; count = c.entry.inside.count } in e)
    (sym (c.new-service.ensures ∙ c.as_slice.ensures)) in
    raised_on c.args.self.now l.self c.add.new.self c.args.others.now c.deref-entry-items.result.now l.entry-index c.entry-item.result
    c.new-service.result c.entry.inside.section c.entry.inside.count c.count_for-wanted.result c.count_for.result c.saturating_sub-missing.result v r
    c.loop-entry-test.true c.entry-item.is (sym c.entry.view_is ∙ named) c.count_for-wanted.ensures c.count_for.ensures c.saturating_sub-missing.ensures
    c.in_ok-add.ensures (l.invariant v r)

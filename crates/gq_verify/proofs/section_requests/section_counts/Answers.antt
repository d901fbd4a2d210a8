use Rattle.std.proofs.Common.{sym}
use Rattle.gq_verify.proofs.Faultless_sections.{section_right}
use Rattle.gq_verify.proofs.section_requests.section_counts.Goals as goal

pub all_requests-requires-clause-right : goal.all_requests-requires-clause-right
all_requests-requires-clause-right c =
    section_right c.args.subject.now c.args.from c.in-Some.body.now c.new.result c.start_of-state.result c.requires.right (sym c.in-Some.ensures.body)
    c.new.ensures c.start_of-state.ensures

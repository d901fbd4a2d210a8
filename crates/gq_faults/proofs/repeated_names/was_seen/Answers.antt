use Rattle.gq_faults.proofs.Duplicate_names.{one_more_seen}
use Rattle.gq_faults.proofs.repeated_names.was_seen.Goals as goal

pub returns-clause-seen : goal.returns-clause-seen
returns-clause-seen c = λ names seen. one_more_seen c.args.seen.now c.insert.new.self c.args.name names c.in_ok-insert.ensures.updates seen

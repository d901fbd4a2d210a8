use Rattle.std.proofs.Common.{sym}
use Rattle.gq_verify.proofs.Main_section_rules.{most_is}
use Rattle.gq_verify.proofs.verified.verify.Goals as goal

pub own-own-requires-clause-most : goal.own-own-requires-clause-most
own-own-requires-clause-most c = most_is c.new-subject.result c.new-starts.result.peaks (sym c.in_default.ensures) c.new-starts.ensures.peaks

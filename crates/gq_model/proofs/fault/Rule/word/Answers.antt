use Rattle.std.proofs.Common.{rules}
use Rattle.gq_model.proofs.fault.Rule.word.Goals as goal

pub returns-in-ShortDonation : goal.returns-in-ShortDonation
returns-in-ShortDonation c = search rules

use Rattle.gq_laws.proofs.Group_run_alone.{runs_alone, alone_right, sound_alone, sound_unseen}
use Rattle.gq_laws.proofs.alone_groups.apart_laws.Goals as goal

pub returns-clause-alone : goal.returns-clause-alone
returns-clause-alone c s group turns sound apart = sound_alone s sound group apart turns

pub returns-clause-unseen : goal.returns-clause-unseen
returns-clause-unseen c s group turns others sound apart same = sound_unseen s sound group apart turns others same

pub returns-clause-unless_wrong : goal.returns-clause-unless_wrong
returns-clause-unless_wrong c s group turns differ apart right =
    (runs_alone s differ group apart turns right, alone_right s differ group apart turns right)

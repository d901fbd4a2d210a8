use Rattle.std.proofs.Common.{◌+◌}
use Rattle.std.proofs.lemmas.List.{take_rest}
use Rattle.gq_init.proofs.First_turn_line.{comment_ended, comment_open}
use Rattle.gq_init.proofs.turns.after_comment.Goals as goal

pub returns-in-Some-clause-line : goal.returns-in-Some-clause-line
returns-in-Some-clause-line c =
    let text = c.args.text.now in
    let found = c.in-Some.ensures in
    let place = c.in-Some.place in
    rw (take_rest text (place + 1)) (comment_ended text place c.requires.some c.requires.comment found.there.0 found.first found.there.1)

pub returns-in-None-clause-line : goal.returns-in-None-clause-line
returns-in-None-clause-line c = comment_open c.args.text.now c.requires.some c.requires.comment c.in-None.ensures.none

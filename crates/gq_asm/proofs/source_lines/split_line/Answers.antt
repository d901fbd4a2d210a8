use Rattle.std.proofs.Common.{◌+◌, add-one}
use Rattle.std.proofs.lemmas.List.{take_rest}
use Rattle.gq_asm.proofs.Pieces_at_start.{line_ends, line_only}
use Rattle.gq_asm.proofs.source_lines.split_line.Goals as goal

pub returns-in-Some-clause-line : goal.returns-in-Some-clause-line
returns-in-Some-clause-line c =
    (line_ends c.args.text.now c.in-Some.place c.in-Some.ensures.there.0 c.in-Some.ensures.there.1 c.in-Some.ensures.first).0

pub returns-in-Some-clause-rest : goal.returns-in-Some-clause-rest
returns-in-Some-clause-rest c =
    rw (take_rest c.args.text.now (c.in-Some.place + 1), add-one c.in-Some.place)
    (line_ends c.args.text.now c.in-Some.place c.in-Some.ensures.there.0 c.in-Some.ensures.there.1 c.in-Some.ensures.first).1

pub returns-in-None-clause-line : goal.returns-in-None-clause-line
returns-in-None-clause-line c = (line_only c.args.text.now c.in-None.ensures.none).0

pub returns-in-None-clause-rest : goal.returns-in-None-clause-rest
returns-in-None-clause-rest c = (line_only c.args.text.now c.in-None.ensures.none).1

-- One piece more.
use Rattle.std.proofs.Common.{rules}
use Rattle.std.proofs.lemmas.List.{places}
use Rattle.gq_cli.proofs.Read_turn_run.{at_most_both, come_all, come_at_most, come_both}
use Rattle.gq_cli.proofs.reader_turns.read_pieces.Goals as goal

pub returns-in_err-taken-clause-most : goal.returns-in_err-taken-clause-most
returns-in_err-taken-clause-most g c =
    at_most_both 18874369 _ c.args.table.now _ _ _ c.args.turns.now c.loop-buffer.turns c.loop-buffer.invariant.come c.requires.start
    (search (rules, places)) c.read_piece.ensures.most

pub returns-then-taken-eq0-clause-text : goal.returns-then-taken-eq0-clause-text
returns-then-taken-eq0-clause-text g c =
    let cs = c.args.table.now in
    let l = c.loop-buffer in
    let come = come_both cs _ _ _ c.args.turns.now l.turns c.read_piece.new.turns l.invariant.come c.in_ok-taken.ensures.come in
    come_all cs _ _ c.args.turns.now c.read_piece.new.turns come c.requires.start (c.in_ok-taken.ensures.end c.if-taken-eq0.true (search (rules, places)))
    (search (rules, places))

pub returns-then-taken-eq0-clause-most : goal.returns-then-taken-eq0-clause-most
returns-then-taken-eq0-clause-most g c =
    let cs = c.args.table.now in
    let l = c.loop-buffer in
    let come = come_both cs _ _ _ c.args.turns.now l.turns c.read_piece.new.turns l.invariant.come c.in_ok-taken.ensures.come in
    come_at_most cs 18874369 _ _ c.args.turns.now c.read_piece.new.turns come c.requires.start (search (rules, places))

pub loop-buffer-preserved : goal.loop-buffer-preserved
loop-buffer-preserved g c =
    let cs = c.args.table.now in
    let l = c.loop-buffer in
    record {
      within = search (rules, places);
      come = come_both cs _ _ _ c.args.turns.now l.turns c.read_piece.new.turns l.invariant.come c.in_ok-taken.ensures.come;
    }

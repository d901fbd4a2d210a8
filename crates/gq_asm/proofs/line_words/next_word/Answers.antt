use Rattle.std.proofs.Common.{sym, ◌∙◌}
use Rattle.gq_asm.proofs.Pieces_at_start.{next, no_length, some_length}
use Rattle.gq_asm.proofs.line_words.next_word.Goals as goal

pub returns-then-is_empty : goal.returns-then-is_empty
returns-then-is_empty c = (next c.args.text.now).0 (sym c.unindented-start.ensures ∙ no_length _ (sym c.is_empty.ensures ∙ c.if-is_empty.true))

pub returns : goal.returns
returns c =
    let some = some_length c.unindented-start.result.now (sym c.is_empty.ensures ∙ c.if-is_empty.false) in
    rw (c.split_word.ensures.word, c.split_word.ensures.rest, c.unindented-start.ensures) ((next c.args.text.now).1 (rw c.unindented-start.ensures at some))

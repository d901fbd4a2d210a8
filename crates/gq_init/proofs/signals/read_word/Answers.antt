use Rattle.std.proofs.Common.{sym, ◌∙◌}
use Rattle.gq_init.proofs.Signal_lines.{no_words, word_rests, word_signals}
use Rattle.gq_init.proofs.signals.read_word.Goals as goal

pub returns-then-not-has_signals-clause-line : goal.returns-then-not-has_signals-clause-line
returns-then-not-has_signals-clause-line c = sym (no_words c.args.table.now c.args.word.now (sym c.has_signals.ensures ∙ c.if-not-has_signals.true))

pub returns-then-same_text-clause-line : goal.returns-then-same_text-clause-line
returns-then-same_text-clause-line c =
    let on = sym c.has_signals.ensures ∙ c.if-not-has_signals.false in
    sym (word_rests c.args.table.now c.args.word.now on (sym c.same_text.ensures ∙ c.if-same_text.true))

pub returns-clause-line : goal.returns-clause-line
returns-clause-line c =
    let on = sym c.has_signals.ensures ∙ c.if-not-has_signals.false in
    c.read_signal.ensures.signal ∙ sym (word_signals c.args.table.now c.args.word.now on (sym c.same_text.ensures ∙ c.if-same_text.false))

use Rattle.gq_asm.proofs.Pieces_at_start.{feed_there, feed_first, feed_none}
use Rattle.gq_asm.proofs.source_lines.first_feed.Goals as goal

pub returns-clause-there : goal.returns-clause-there
returns-clause-there c = feed_there c.args.text.now c.memchr_iter.result c.next.new.self c.next.result c.memchr_iter.ensures.value c.next.ensures.steps

pub returns-clause-first : goal.returns-clause-first
returns-clause-first c = feed_first c.args.text.now c.memchr_iter.result c.next.new.self c.next.result c.memchr_iter.ensures.value c.next.ensures.steps

pub returns-clause-none : goal.returns-clause-none
returns-clause-none c = feed_none c.args.text.now c.memchr_iter.result c.next.new.self c.next.result c.memchr_iter.ensures.value c.next.ensures.steps

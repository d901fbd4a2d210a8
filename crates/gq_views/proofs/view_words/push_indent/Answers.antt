use Rattle.gq_views.proofs.Growing_view_texts.{indent_more}
use Rattle.gq_views.proofs.view_words.push_indent.Goals as goal

pub loop-left-preserved : goal.loop-left-preserved
loop-left-preserved c =
    let l = c.loop-left in
    indent_more c.extend_from_slice.new.self.items l.text.items _ l.left c.loop-left-test.true c.in_ok-extend_from_slice.ensures.items l.invariant

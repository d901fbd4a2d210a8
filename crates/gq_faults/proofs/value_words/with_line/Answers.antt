use Rattle.std.proofs.Common.{refl}
use Rattle.gq_faults.proofs.Single_detail_lines.{more_details}
use Rattle.gq_faults.proofs.value_words.with_line.Goals as goal

pub returns : goal.returns
returns c =
    more_details c.args.lines.now c.args.words.now c.push.new.self.items c.requires
    (rw (c.in_ok-push.ensures.items, c.in_ok-push_single.ensures, c.in_ok-extend_from_slice.ensures.items, c.in_ok-more.ensures.items) refl)

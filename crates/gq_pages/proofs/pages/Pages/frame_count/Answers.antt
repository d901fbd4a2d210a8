use Rattle.std.proofs.Common.{length, sym, ap, ◌∙◌}
use Rattle.gq_pages.specs.internal.Pages.{free_frames}
use Rattle.gq_pages.proofs.Frame_number_lists.{length-frames_of}
use Rattle.gq_pages.proofs.pages.Pages.frame_count.Goals as goal

pub returns : goal.returns
returns c =
    let p = c.self.inside in
    record { all = sym (length-frames_of p.frames p.region.bytes (free_frames p)) ∙ ap length c.self.view_is; few = c.self.invariant.few }

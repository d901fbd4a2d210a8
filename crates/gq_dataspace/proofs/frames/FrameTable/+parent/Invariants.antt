use Rattle.gq_dataspace.proofs.frames.FrameTable.+parent.Given as goal

abbrev pub decreases-parent : goal.decreases-parent
decreases-parent l = l.index

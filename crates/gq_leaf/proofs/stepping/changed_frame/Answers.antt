use Rattle.gq_leaf.proofs.Leaf_frame_changes as frames
use Rattle.gq_leaf.proofs.stepping.changed_frame.Goals as goal

pub returns : goal.returns
returns c = frames.changed_frame

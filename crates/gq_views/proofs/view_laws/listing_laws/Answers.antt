-- The text of a program is assembled as it, and so is what is written of a leaf.
use Rattle.gq_views.proofs.Listed_leaves.{lists_program}
use Rattle.gq_views.proofs.Listed_printed.{listed}
use Rattle.gq_views.proofs.view_laws.listing_laws.Goals as goal

pub returns-clause-programs : goal.returns-clause-programs
returns-clause-programs c = listed

pub returns-clause-written : goal.returns-clause-written
returns-clause-written c = lists_program

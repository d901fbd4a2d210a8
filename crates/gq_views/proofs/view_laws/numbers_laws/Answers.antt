-- The numbered text of a program, and what is written of a leaf with numbers.
use Rattle.gq_views.proofs.Listed_leaves.{lists_numbers}
use Rattle.gq_views.proofs.Numbered_rows.{numbers_listing}
use Rattle.gq_views.proofs.view_laws.numbers_laws.Goals as goal

pub returns-clause-programs : goal.returns-clause-programs
returns-clause-programs c = numbers_listing

pub returns-clause-written : goal.returns-clause-written
returns-clause-written c = lists_numbers

-- What was collected, where no memory was refused.
use Rattle.std.proofs.Common.{◌∙◌, ◌++◌, ap, false}
use Rattle.gq_verify.specs.Visits.{section_sights}
use Rattle.gq_sizes.specs.declared.donations.Donating.{Donating}
use Rattle.gq_sizes.specs.Donated.{donated_in}
use Rattle.gq_sizes.specs.Point_maxima.{given_in}
use Rattle.gq_sizes.proofs.Donated_lists.{shown_donated}
use Rattle.gq_sizes.proofs.donations.section_donations.Goals as goal

pub returns-clause-amounts : goal.returns-clause-amounts
returns-clause-amounts c =
    let f = given_in c.args.needs.now.interfaces.now c.args.needs.now.sums.now in
    let seen = section_sights c.args.verified.now c.args.section in
    let start : Donating = record { needs = c.args.needs; amounts = c.new.result; refused = false } in
    shown_donated start c.visit.new.visitor seen c.visit.ensures c.if-visitor.false
    ∙ ap (λ l. l ++ donated_in f seen) c.new.ensures.items

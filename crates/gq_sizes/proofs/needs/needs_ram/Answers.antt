use Rattle.std.proofs.Common.{◌∙◌, ℕ}
use Rattle.gq_model.specs.machine.Amounts.{Ram}
use Rattle.gq_sizes.specs.Size.{leaf_needed, needed}
use Rattle.gq_sizes.proofs.Provider_maximum_search.{needed_is}
use Rattle.gq_sizes.proofs.Number_table_rows.{row_of}
use Rattle.gq_sizes.proofs.needs.needs_ram.Goals as goal

pub returns : goal.returns
returns c all components leaves =
    let service = c.args.service.now in
    let i = c.args.interface.now in
    let each = λ (l : ℕ). needed_is (λ v. leaf_needed (λ _ _. 0) Ram v i l) service all c.args.components.now c.args.leaves.now components leaves in
    row_of (needed (λ _ _. 0) Ram all service i) c.needed_ram.result c.needed_ram-2.result c.needed_ram-3.result c.needed_ram-4.result
    (c.needed_ram.ensures ∙ each 0) (c.needed_ram-2.ensures ∙ each 1) (c.needed_ram-3.ensures ∙ each 2) (c.needed_ram-4.ensures ∙ each 3)

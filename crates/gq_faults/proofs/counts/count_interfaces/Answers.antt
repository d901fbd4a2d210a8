use Rattle.std.proofs.Common.{length, ap, sym, ◌∙◌}
use Rattle.gq_scenario.specs.Document.{keys_of}
use Rattle.gq_reader.proofs.Faultless_document_parts.{keys_length}
use Rattle.gq_faults.proofs.counts.count_interfaces.Goals as goal

pub returns-in-Some : goal.returns-in-Some
returns-in-Some c =
    let is = rw c.in-Some.is at c.table_at.ensures in c.len.ensures.len
    ∙ (sym (keys_length c.in-Some.table.now.entries) ∙ ap (λ entries. length (keys_of entries)) is)

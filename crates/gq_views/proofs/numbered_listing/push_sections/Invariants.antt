use Rattle.std.proofs.Common.{◌≡◌, ◌≤◌, ◌++◌, drop}
use Rattle.gq_model.specs.texts.Code.{greatest_statements}
use Rattle.gq_views.specs.internal.Section_statement_counts.{total}
use Rattle.gq_views.specs.Numbered.{section_rows, text_of}
use Rattle.gq_views.proofs.numbered_listing.push_sections.Given as goal

-- the lines so far, with those of the sections that are left, are all; and these are few
abbrev pub invariant-loop-section : goal.invariant-loop-section
invariant-loop-section l = record {
  written : l.text.items ++ text_of (section_rows (drop l.section-index l.sections)) ≡ l.fn.text.items ++ text_of (section_rows l.sections);
  few : total (drop l.section-index l.sections) ≤ greatest_statements;
}

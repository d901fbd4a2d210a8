use Rattle.std.proofs.Common.{◌≡◌, ◌++◌, drop}
use Rattle.gq_races.specs.internal.Openers.{first_servers, later_servers}
use Rattle.gq_views.specs.internal.Table_leaves.{served_by}
use Rattle.gq_races.proofs.openers.OpenedFrom.of.Given as goal

-- the servers so far, with those of the sections that are left, are all
abbrev pub invariant-loop-section : goal.invariant-loop-section
invariant-loop-section l = record {
  first :
      l.opened.0 ++ first_servers (served_by l.client) (drop l.section-index l.section-items) ≡ first_servers (served_by l.client) l.section-items;
  later :
      l.opened.1 ++ later_servers (served_by l.client) (drop l.section-index l.section-items) ≡ later_servers (served_by l.client) l.section-items;
}

use Rattle.std.proofs.Common.{◌≡◌, ◌+◌, ◌*◌, ◌^◌, ◌≤◌, drop}
use Rattle.gq_model.specs.machine.Amounts.{total}
use Rattle.gq_rules.proofs.session_rules.need_of.Given as goal

-- the sums so far, with the upgrades that are left, are those of all
abbrev pub invariant-loop-upgrade : goal.invariant-loop-upgrade
invariant-loop-upgrade l = record {
  ram : l.ram + (total (drop l.upgrade-index l.upgrade-items)).ram ≡ l.initial.ram + (total l.upgrade-items).ram;
  caps : l.caps + (total (drop l.upgrade-index l.upgrade-items)).caps ≡ l.initial.caps + (total l.upgrade-items).caps;
  small : l.ram ≤ (l.upgrade-index + 1) * 2 ^ 32;
  few : l.caps ≤ (l.upgrade-index + 1) * 65536;
}

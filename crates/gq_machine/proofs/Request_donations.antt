-- What is given with a request.
use Rattle.std.proofs.Common.{◌≡◌, ℕ, Bool, true, false, if◌then◌else◌, List, [], length, get_or, Option, Some, None, refl, sym, ap, ◌∙◌, arith}
use Rattle.gq_model.specs.machine.Scenario.{Interface, Scenario, interface_in, open_caps, upgrade_caps}
use Rattle.gq_model.specs.machine.World as world
use Rattle.gq_model.proofs.Small_facts.{some_same}
use Rattle.gq_trade.specs.Numbers.{IsTaken}
use Rattle.gq_trade.specs.Trading.{session_at}
use Rattle.gq_trade.proofs.Sessions_kept.{between_at}
use Rattle.gq_statements.specs.Systems.{AreLawful}
use Rattle.gq_statements.proofs.Asking_keeps_sessions.{session_found}
use Rattle.gq_laws.specs.Ready.{IsUncounted}
use Rattle.gq_prepared.specs.Prepared.{caps_at, names_of}
use Rattle.gq_machine.specs.Machine_world.{frame_of, world_of}
use Rattle.gq_machine.specs.declared.machine_state.Fixed.{Fixed}
use Rattle.gq_machine.specs.declared.machine_state.MachineState.{MachineState}
use Rattle.gq_machine.specs.internal.Machine_invariant.{Holds}
use Rattle.gq_machine.proofs.Stepping_leaf_facts.{service_count}
use Rattle.gq_model.specs.machine.Amounts.{counts_caps}

-- WHERE NO CAPABILITIES ARE COUNTED

version_one : (b : Bool) (price : ℕ) → price ≡ (if b then 1 else 0) → price ≡ 0 → b ≡ false
version_one true price e none = cc
version_one false price e none = refl

pub uncounted : (f : Fixed) (m : MachineState) → Holds f m → m.slots.trades.trading.ledger.price ≡ 0 → IsUncounted f.table
uncounted f m h none = h.ready.read.uncounted (version_one (counts_caps f.table.version) m.slots.trades.trading.ledger.price h.nodes.price none)

pub no_open_caps : (s : Scenario) → IsUncounted s → (name : List ℕ) → open_caps (interface_in name s.interfaces) ≡ 0
no_open_caps s u name = by (interface_in name s.interfaces) refl
  where
    by : (o : Option Interface) → interface_in name s.interfaces ≡ o → open_caps o ≡ 0
    by None e = refl
    by (Some i) e = (u.interfaces name i e).need

pub no_upgrade_caps : (s : Scenario) → IsUncounted s → (name : List ℕ) (level : ℕ) → upgrade_caps (interface_in name s.interfaces) level ≡ 0
no_upgrade_caps s u name level = by (interface_in name s.interfaces) refl
  where
    by : (o : Option Interface) → interface_in name s.interfaces ≡ o → upgrade_caps o level ≡ 0
    by None e = refl
    by (Some i) e = (u.interfaces name i e).upgrades level

-- UPGRADES

module _ (f : Fixed) (m : MachineState) (h : Holds f m) (l : AreLawful m.slots) (k : ℕ) (taken : IsTaken m.slots.trades.trading.sessions k) where
  abbrev service : ℕ
  service = (session_at m.slots.trades.trading k).service

  abbrev level : ℕ
  level = (session_at m.slots.trades.trading k).level

  pub next_caps : caps_at f.services service level ≡ upgrade_caps (interface_in (get_or (names_of f.table) service []) f.table.interfaces) level
  next_caps =
      let t = m.slots.trades.trading in
      let less = (between_at (length t.leaves) (length t.objects) t.sessions k l.trading.between taken).service in
      let n = service_count f m h l in
      h.services.upgrades service level (omega (arith, less, n))

  pub session_caps : (q : world.Session) → world.session_at (world_of f.table m.leaves.items m.slots) k ≡ Some q
      → caps_at f.services service level ≡ upgrade_caps (interface_in q.service f.table.interfaces) q.level
  session_caps q e =
      next_caps ∙ ap (λ (p : world.Session). upgrade_caps (interface_in p.service f.table.interfaces) p.level)
      (some_same (sym (session_found (frame_of f.table m.leaves.items) m.slots k taken) ∙ e))

  pub session_uncounted : m.slots.trades.trading.ledger.price ≡ 0 → caps_at f.services service level ≡ 0
  session_uncounted none = next_caps ∙ no_upgrade_caps f.table (uncounted f m h none) (get_or (names_of f.table) service []) level

-- A request for which more would be given than its client can pay leads to a world that is not paid for.
use Rattle.std.proofs.Common.{◌≡◌, ◌≢◌, ℕ, ◌<◌, length, Some, false, sym, ap, ◌∙◌, arith}
use Rattle.std.specs.Prelude.{slice_get}
use Rattle.gq_tariff.specs.declared.amount.Amount.{Amount}
use Rattle.gq_model.specs.machine.Amounts.{Resource, Ram, Caps, part}
use Rattle.gq_model.specs.machine.Scenario.{System}
use Rattle.gq_model.specs.machine.Sums.{donated, paid}
use Rattle.gq_model.specs.machine.World as world
use Rattle.gq_ram.specs.Account_table.{available, available_caps}
use Rattle.gq_trade.specs.Numbers.{IsTaken}
use Rattle.gq_trade.specs.declared.session.Session.{Session}
use Rattle.gq_trade.specs.Seen_sessions.{session_seen}
use Rattle.gq_trade.specs.Trading.{client_of, its_account, session_at}
use Rattle.gq_trade.proofs.Sessions_kept.{between_at}
use Rattle.gq_slots.specs.Slots.{Frame, Slots, memory_of, world_seen}
use Rattle.gq_slots.specs.Session_calls.{opening, upgrading}
use Rattle.gq_slots.proofs.Slot_change_worlds.{session_there}
use Rattle.gq_statements.specs.Systems.{AreLawful, IsOf}
use Rattle.gq_statements.proofs.Short_account_unpaid.{HasLeaf, IsPriced, client_leaf, has_leaf, left_in, short}
use Rattle.gq_statements.proofs.Session_change_sums.{held_opened, lent_opened, received_opened, held_upgraded, lent_upgraded, received_upgraded}
use Rattle.gq_statements.proofs.Session_change_sums.{leaves_upgraded, mine, others}

-- capabilities of which some are given have a price
pub caps_priced : (price n m : ℕ) → (price ≡ 0 → n ≡ 0) → m < n → price ≡ 0 → ⊥
caps_priced price n m counted lt e = let none = counted e in absurd (omega (arith, none, lt))

module _ (system : System) (f : Frame) (s : Slots) (l : AreLawful s) (o : IsOf system f s) where
  -- SESSIONS THAT ARE ASKED FOR

  module _ (q : world.Session) (below : q.client < length s.own) (apart : q.client ≢ q.server) where
    abbrev h : HasLeaf f s q.client
    h = has_leaf f s q.client l below

    opening_short : (r : Resource) → IsPriced r s.trades.trading.ledger.price → left_in r (its_account s.trades.trading q.client) < part r q.donation
        → paid system (opening (world_seen f s) q) ≡ false
    opening_short r p lacks =
        let w = world_seen f s in
        let x = q.client in
        let held = held_opened r w x q h.0 in
        let lent = lent_opened r w x q in
        let received = received_opened r w x q in
        let given = mine x (donated r q) in
        let none = others q.server x (donated r q) (λ e. apart (sym e)) in
        short system f s l o x h.0 h.1 r p (opening w q) h.1 (omega (arith, held, lent, received, given, none, lacks))

    pub unpaid_opening : available (its_account s.trades.trading q.client) < q.donation.ram → paid system (opening (world_seen f s) q) ≡ false
    unpaid_opening lacks = opening_short Ram tt lacks

    pub unpaid_opening_caps : (s.trades.trading.ledger.price ≡ 0 → q.donation.caps ≡ 0)
        → available_caps (its_account s.trades.trading q.client) < q.donation.caps → paid system (opening (world_seen f s) q) ≡ false
    unpaid_opening_caps counted lacks =
        let t = s.trades.trading in
        opening_short Caps (caps_priced t.ledger.price q.donation.caps (available_caps (its_account t q.client)) counted lacks) lacks

  -- SESSIONS FOR WHICH MORE IS ASKED

  module _ (k : ℕ) (n : Amount) (there : IsTaken s.trades.trading.sessions k) where
    abbrev giver : HasLeaf f s (client_of s.trades.trading k)
    giver = client_leaf f s k l there

    abbrev q : Session
    q = session_at s.trades.trading k

    abbrev seen_as : world.Session
    seen_as = session_seen f.names (memory_of s q.server) q

    found : world.session_at (world_seen f s) k ≡ Some seen_as
    found = ap world.joined (session_there (λ y. session_seen f.names (memory_of s y.server) y) s.trades.trading.sessions k there)

    upgrading_short : (r : Resource) → IsPriced r s.trades.trading.ledger.price → left_in r (its_account s.trades.trading q.client) < part r n
        → paid system (upgrading (world_seen f s) k n) ≡ false
    upgrading_short r p lacks =
        let w = world_seen f s in
        let t = s.trades.trading in
        let x = q.client in
        let held = held_upgraded r w x k seen_as found n giver.0 in
        let lent = lent_upgraded r w x k seen_as found n in
        let received = received_upgraded r w x k seen_as found n in
        let given = mine x (part r n) in
        let apart = (between_at _ _ t.sessions k l.trading.between there).apart in
        let none = others q.server x (part r n) (λ e. apart (sym e)) in
        short system f s l o x giver.0 giver.1 r p (upgrading w k n) (ap (λ z. slice_get z x) (leaves_upgraded w k n seen_as found) ∙ giver.1)
        (omega (arith, held, lent, received, given, none, lacks))

    pub unpaid_upgrading : available (its_account s.trades.trading (client_of s.trades.trading k)) < n.ram
        → paid system (upgrading (world_seen f s) k n) ≡ false
    unpaid_upgrading lacks = upgrading_short Ram tt lacks

    pub unpaid_upgrading_caps : (s.trades.trading.ledger.price ≡ 0 → n.caps ≡ 0)
        → available_caps (its_account s.trades.trading (client_of s.trades.trading k)) < n.caps → paid system (upgrading (world_seen f s) k n) ≡ false
    unpaid_upgrading_caps counted lacks =
        let t = s.trades.trading in
        upgrading_short Caps (caps_priced t.ledger.price n.caps (available_caps (its_account t q.client)) counted lacks) lacks

-- A request to open, whose object its server can't pay for, leads to a world that is not paid for.
use Rattle.std.proofs.Common.{◌≡◌, ℕ, ◌<◌, Bool, true, false, cond, eqb, List, Some, None, refl, ap, ◌∙◌, arith}
use Rattle.std.specs.Prelude.{slice_get}
use Rattle.std.proofs.lemmas.Bool.Decides.{nat_tests}
use Rattle.gq_model.specs.declared.program.Form.TheVariants as form
use Rattle.gq_model.specs.machine.Amounts.{Resource, Ram, Caps}
use Rattle.gq_model.specs.machine.Resource_prices.{price_memory}
use Rattle.gq_model.specs.machine.Scenario.{System}
use Rattle.gq_model.specs.machine.Sums.{paid}
use Rattle.gq_model.specs.machine.World as world
use Rattle.gq_ram.specs.Account_table.{available_caps}
use Rattle.gq_trade.specs.Numbers.{IsTaken}
use Rattle.gq_trade.specs.declared.requests.Ask.{Ask}
use Rattle.gq_trade.specs.declared.requests.Ask.TheVariants.{Open, Upgrade, Close, Call}
use Rattle.gq_trade.specs.declared.requests.Request.{Request}
use Rattle.gq_trade.specs.Queues.{oldest_to}
use Rattle.gq_contents.specs.declared.content.Content.TheVariants.{Empty}
use Rattle.gq_contents.specs.Contents.{seen}
use Rattle.gq_trade.specs.declared.session.Session.{Session}
use Rattle.gq_trade.specs.Seen_sessions.{session_seen}
use Rattle.gq_trade.specs.Trading.{LacksBytes, LacksCaps, its_account, object_size, server_of, session_at}
use Rattle.gq_trade.proofs.Sessions_kept.{taken_from}
use Rattle.gq_slots.specs.Slots.{Frame, Slots, memory_of, world_seen}
use Rattle.gq_slots.specs.Session_calls.{accepting}
use Rattle.gq_slots.proofs.Slot_change_worlds.{session_there}
use Rattle.gq_statements.specs.Systems.{AreLawful, IsOf}
use Rattle.gq_statements.proofs.Short_account_unpaid.{HasLeaf, IsPriced, left_in, server_leaf, short}
use Rattle.gq_statements.proofs.Session_change_sums.{held_begun, leaves_begun, lent_begun, mine, received_begun}

-- an account that has no capability left counts them
none_left : (price n : ℕ) (b : Bool) → eqb price 0 ≡ b → cond b None (Some n) ≡ Some 0 → (price ≡ 0 → ⊥) × (n ≡ 0)
none_left price n true e h = cc
none_left price n false e h = (λ f. grind (arith, nat_tests, e, f), cc)

module _ (system : System) (f : Frame) (s : Slots) (l : AreLawful s) (o : IsOf system f s) (rest : List world.Request) where
  module _ (k : ℕ) (there : IsTaken s.trades.trading.sessions k) where
    abbrev h : HasLeaf f s (server_of s.trades.trading k)
    h = server_leaf f s k l there

    abbrev q : Session
    q = session_at s.trades.trading k

    abbrev n : ℕ
    n = object_size s.trades.trading k

    abbrev seen_as : world.Session
    seen_as = session_seen f.names (memory_of s q.server) q

    found : world.session_at (world_seen f s) k ≡ Some seen_as
    found = ap world.joined (session_there (λ y. session_seen f.names (memory_of s y.server) y) s.trades.trading.sessions k there)

    begun_short : q.object ≡ Empty → (r : Resource) → IsPriced r s.trades.trading.ledger.price
        → left_in r (its_account s.trades.trading q.server) < price_memory r form.Slice n → paid system (accepting (world_seen f s) k Open n rest) ≡ false
    begun_short none r p lacks =
        let w = world_seen f s in
        let x = q.server in
        let held = held_begun r w x k seen_as found n rest (ap (seen (memory_of s x)) none) h.0 in
        let lent = lent_begun r w x k seen_as found n rest in
        let received = received_begun r w x k seen_as found n rest in
        let price = mine x (price_memory r form.Slice n) in
        short system f s l o x h.0 h.1 r p (accepting w k Open n rest) (ap (λ z. slice_get z x) (leaves_begun w k n rest seen_as found) ∙ h.1)
        (omega (arith, held, lent, received, price, lacks))

    begun_bytes : (a : Ask) → (a ≡ Open → q.object ≡ Empty) → LacksBytes a s.trades.trading k → paid system (accepting (world_seen f s) k a n rest) ≡ false
    begun_bytes Open none lacks = begun_short (none refl) Ram tt lacks
    begun_bytes Upgrade none lacks = absurd lacks
    begun_bytes Close none lacks = absurd lacks
    begun_bytes (Call a) none lacks = absurd lacks

    begun_caps : (a : Ask) → (a ≡ Open → q.object ≡ Empty) → LacksCaps a s.trades.trading k → paid system (accepting (world_seen f s) k a n rest) ≡ false
    begun_caps Open none lacks =
        let price = s.trades.trading.ledger.price in
        let left = none_left price (available_caps (its_account s.trades.trading q.server)) (eqb price 0) refl lacks.1 in
        begun_short (none refl) Caps left.0 (omega (arith, left.1))
    begun_caps Upgrade none lacks = absurd lacks
    begun_caps Close none lacks = absurd lacks
    begun_caps (Call a) none lacks = absurd lacks

  -- the oldest request to a leaf
  module _ (x : ℕ) (r : Request) (others : List Request) (oldest : oldest_to x s.trades.trading.requests ≡ Some (r, others))
      (unmade : r.ask ≡ Open → (session_at s.trades.trading r.session).object ≡ Empty) where
    pub unpaid_beginning : LacksBytes r.ask s.trades.trading r.session
        → paid system (accepting (world_seen f s) r.session r.ask (object_size s.trades.trading r.session) rest) ≡ false
    unpaid_beginning lacks =
        let t = s.trades.trading in
        let from = taken_from t.sessions x t.requests (r, others) l.trading.requests oldest in
        begun_bytes r.session from.there r.ask unmade lacks

    pub unpaid_beginning_caps : LacksCaps r.ask s.trades.trading r.session
        → paid system (accepting (world_seen f s) r.session r.ask (object_size s.trades.trading r.session) rest) ≡ false
    unpaid_beginning_caps lacks =
        let t = s.trades.trading in
        let from = taken_from t.sessions x t.requests (r, others) l.trading.requests oldest in
        begun_caps r.session from.there r.ask unmade lacks

-- A session whose server can't pay back what was given for it leads, once it ends, to a world that is not paid for.
use Rattle.std.proofs.Common.{◌≡◌, ℕ, zero, suc, ◌+◌, ◌<◌, ◌≤◌, Bool, true, false, cond, List, [], ◌∷◌, map, get_or, length, Some, refl, ap, arith}
use Rattle.std.specs.Prelude.{nat_lt, sum_by}
use Rattle.std.proofs.lemmas.List.Sums.{sum_by-cons}
use Rattle.gq_tariff.specs.Prices.{up}
use Rattle.gq_model.specs.machine.Amounts.{Resource, Ram, Caps, part}
use Rattle.gq_model.specs.machine.Scenario.{System}
use Rattle.gq_model.specs.machine.Sums.{bank_price, donated, paid, slot_price}
use Rattle.gq_model.specs.machine.World as world
use Rattle.gq_store.specs.Store.{Store}
use Rattle.gq_trade.specs.Numbers.{IsTaken}
use Rattle.gq_pool.specs.declared.pool.Pool.{Pool}
use Rattle.gq_contents.specs.declared.content.Content.{Content}
use Rattle.gq_contents.specs.declared.content.Content.TheVariants as content
use Rattle.gq_contents.specs.Contents.{seen, size_of}
use Rattle.gq_trade.specs.declared.session.Session.{Session}
use Rattle.gq_trade.specs.declared.session.SlotId.TheVariants.{InSession}
use Rattle.gq_trade.specs.Seen_sessions.{session_seen}
use Rattle.gq_trade.specs.Trading.{bytes_then, caps_then, its_account, server_of, session_at}
use Rattle.gq_trade.proofs.Sessions_kept.{between_at}
use Rattle.gq_slots.specs.Slots.{Frame, Slots, memory_of, content_at, world_seen}
use Rattle.gq_slots.specs.Session_calls.{ending}
use Rattle.gq_slots.proofs.Slot_change_worlds.{session_there}
use Rattle.gq_statements.specs.Systems.{AreLawful, IsOf}
use Rattle.gq_statements.proofs.Unpaid_session_request.{caps_priced}
use Rattle.gq_statements.proofs.Short_account_unpaid.{HasLeaf, IsPriced, left_in, server_leaf, short}
use Rattle.gq_statements.proofs.Session_change_sums.{held_ended, lent_ended, mine, others, received_ended}

-- WHAT A SESSION COSTS

-- empty slots cost nothing
empty_sum : (r : Resource) (st : Store) (ts : List Content) → ((i : ℕ) → i < length ts → get_or ts i content.Empty ≡ content.Empty)
    → sum_by (slot_price r) (map (seen st) ts) ≡ 0
empty_sum r st [] empty = refl
empty_sum r st (t ∷ ts) empty =
    let first = ap (λ u. slot_price r (seen st u)) (empty zero (omega arith)) in
    let rest = empty_sum r st ts (λ i lt. empty (suc i) (omega (arith, lt))) in
    omega (arith, first, rest, sum_by-cons (slot_price r) (seen st t) (map (seen st) ts))

up_least : (n : ℕ) → n ≤ up n
up_least n = omega arith

up_more : (n : ℕ) → up n ≤ up (n + 32)
up_more n = omega arith

block_bytes_most : (n m : ℕ) (b : Bool) → m ≤ n → cond b m 0 ≤ n
block_bytes_most n m true le = le
block_bytes_most n m false le = omega arith

-- no object but a pool costs more than a slice of as many bytes
object_bytes : (st : Store) (t : Content) → ((p : Pool) → t ≡ content.Pool p → ⊥) → slot_price Ram (seen st t) ≤ up (size_of t + 32)
object_bytes st content.Empty none = omega arith
object_bytes st (content.Block p n) none = block_bytes_most (up (n + 32)) (up n) (nat_lt 2048 n) (up_more n)
object_bytes st (content.Slice k n) none = omega arith
object_bytes st (content.Space k n) none = let a = up_least (up n + 32) in omega (arith, a)
object_bytes st (content.Pool p) none = absurd (none p refl)
object_bytes st (content.Link k) none = omega arith
object_bytes st (content.Waiting k) none = omega arith

object_caps : (st : Store) (t : Content) → slot_price Caps (seen st t) ≤ 1
object_caps st content.Empty = omega arith
object_caps st (content.Block p n) = block_bytes_most 1 1 (nat_lt 2048 n) (omega arith)
object_caps st (content.Slice k n) = omega arith
object_caps st (content.Space k n) = omega arith
object_caps st (content.Pool p) = omega arith
object_caps st (content.Link k) = omega arith
object_caps st (content.Waiting k) = omega arith

-- SESSIONS THAT END

module _ (system : System) (f : Frame) (s : Slots) (l : AreLawful s) (o : IsOf system f s) (k : ℕ) (there : IsTaken s.trades.trading.sessions k)
    (empty : (i : ℕ) → i < length (session_at s.trades.trading k).slots → content_at s (InSession k i) ≡ content.Empty) where
  abbrev h : HasLeaf f s (server_of s.trades.trading k)
  h = server_leaf f s k l there

  abbrev q : Session
  q = session_at s.trades.trading k

  abbrev seen_as : world.Session
  seen_as = session_seen f.names (memory_of s q.server) q

  found : world.session_at (world_seen f s) k ≡ Some seen_as
  found = ap world.joined (session_there (λ y. session_seen f.names (memory_of s y.server) y) s.trades.trading.sessions k there)

  ending_short : (r : Resource) → IsPriced r s.trades.trading.ledger.price
      → left_in r (its_account s.trades.trading q.server) + slot_price r (seen (memory_of s q.server) q.object) < part r q.donation
      → paid system (ending (world_seen f s) k) ≡ false
  ending_short r p lacks =
      let w = world_seen f s in
      let t = s.trades.trading in
      let x = q.server in
      let held = held_ended r w x k seen_as found h.0 in
      let lent = lent_ended r w x k seen_as found in
      let received = received_ended r w x k seen_as found in
      let price = mine x (bank_price r seen_as) in
      let slots = empty_sum r (memory_of s x) q.slots empty in
      let given = mine x (donated r seen_as) in
      let none = others q.client x (donated r seen_as) (between_at _ _ t.sessions k l.trading.between there).apart in
      short system f s l o x h.0 h.1 r p (ending w k) h.1 (omega (arith, held, lent, received, price, slots, given, none, lacks))

  pub unpaid_ending : ((p : Pool) → (session_at s.trades.trading k).object ≡ content.Pool p → ⊥)
      → bytes_then s.trades.trading k < (session_at s.trades.trading k).donation.ram → paid system (ending (world_seen f s) k) ≡ false
  unpaid_ending none lacks = let most = object_bytes (memory_of s q.server) q.object none in ending_short Ram tt (omega (arith, most, lacks))

  pub unpaid_ending_caps : caps_then s.trades.trading k < (session_at s.trades.trading k).donation.caps → paid system (ending (world_seen f s) k) ≡ false
  unpaid_ending_caps lacks =
      let most = object_caps (memory_of s q.server) q.object in
      let t = s.trades.trading in
      ending_short Caps (caps_priced t.ledger.price q.donation.caps (caps_then t k) (l.trades.sessions k there).counted lacks)
      (omega (arith, most, lacks))

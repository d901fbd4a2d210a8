-- How many sessions there can be at a time: each that is not accepted has a request of another leaf, and the server of each other pays for its object.
use Rattle.std.proofs.Common.{◌≡◌, ℕ, zero, suc, ◌+◌, ◌*◌, ◌<◌, ◌≤◌, ◌==◌, Bool, true, false, cond, not, List, [], ◌∷◌, length, map, Option, Some, None}
use Rattle.std.proofs.Common.{refl, ap, arith}
use Rattle.std.specs.Prelude.{sum_by}
use Rattle.std.proofs.lemmas.List.Sums.{sum_by-cons}
use Rattle.gq_model.specs.machine.Amounts.{Ram}
use Rattle.gq_model.specs.machine.Scenario.{System}
use Rattle.gq_model.specs.machine.Sums.{bank_price, slot_price, to_leaf}
use Rattle.gq_laws.specs.Session_links.{IsBytes, IsLinkedWorld, one_if, outline, requests_of, shape}
use Rattle.gq_laws.specs.Shapes.{Each}
use Rattle.gq_store.specs.Store.{Store}
use Rattle.gq_trade.specs.Numbers.{IsTaken, free_number}
use Rattle.gq_trade.specs.declared.requests.Request.{Request}
use Rattle.gq_trade.specs.Seen_requests.{request_seen}
use Rattle.gq_contents.specs.declared.content.Content.{Content}
use Rattle.gq_contents.specs.declared.content.Content.TheVariants as content
use Rattle.gq_contents.specs.Contents.{seen}
use Rattle.gq_trade.specs.declared.session.Session.{Session}
use Rattle.gq_trade.specs.Seen_sessions.{seen_in}
use Rattle.gq_trade.specs.Trading.{AreBetween, AreOf, account_of, its_account, server_of, session_at, session_in}
use Rattle.gq_trade.proofs.Sessions_kept.{between_at}
use Rattle.gq_trade.specs.Waiting.{clients_in}
use Rattle.gq_slots.specs.Slots.{AreObjects, AreSound, Frame, IsObject, Slots, memory_of, world_seen}
use Rattle.gq_statements.specs.Systems.{AreLawful}
use Rattle.gq_statements.proofs.Unpaid_made_memory.{leaf_found}
use Rattle.gq_statements.proofs.linked.Stored_world_links.{seen_at, session_has, stored_as}
use Rattle.gq_statements.proofs.linked.Standing_sessions.{fresh_asks}
use Rattle.gq_statements.proofs.linked.Sums_below.{apart_few, apart_within, below_first, below_le, below_none, below_once, below_once_most, below_plus}
use Rattle.gq_statements.proofs.linked.Sums_below.{below_times}
use Rattle.gq_statements.proofs.linked.Sums_below.{sum_below}

-- COUNTING

-- 1 for a session that is not accepted, for one that is, and for one that is and whose server is x
abbrev fresh : Option Session → ℕ
fresh None = 0
fresh (Some q) = one_if (not q.accepted)

abbrev accepted : Option Session → ℕ
accepted None = 0
accepted (Some q) = one_if q.accepted

abbrev accepted_to : ℕ → Option Session → ℕ
accepted_to x None = 0
accepted_to x (Some q) = cond (q.server == x) (one_if q.accepted) 0

abbrev count : (Option Session → ℕ) → List (Option Session) → ℕ
count g [] = 0
count g (o ∷ ss) = g o + count g ss

one_of : (b : Bool) → one_if (not b) + one_if b ≡ 1
one_of true = refl
one_of false = refl

-- all numbers below the lowest free one are of sessions
free_counted : (ss : List (Option Session)) → free_number ss ≤ count fresh ss + count accepted ss
free_counted [] = omega arith
free_counted (None ∷ ss) = omega arith
free_counted (Some q ∷ ss) = let a = free_counted ss in let b = one_of q.accepted in omega (arith, a, b)

-- SESSIONS THAT ARE NOT ACCEPTED

fresh_asked : (g : ℕ → ℕ) (ss : List (Option Session)) → ((k : ℕ) → IsTaken ss k → (session_in ss k).accepted ≡ false → 1 ≤ g k)
    → count fresh ss ≤ sum_below g (length ss)
fresh_asked g [] h = omega arith
fresh_asked g (None ∷ ss) h =
    let a = fresh_asked (λ k. g (suc k)) ss (λ k t e. h (suc k) t e) in
    let b = below_first g (length ss) in
    omega (arith, a, b)
fresh_asked g (Some q ∷ ss) h =
    let a = fresh_asked (λ k. g (suc k)) ss (λ k t e. h (suc k) t e) in
    let b = below_first g (length ss) in
    let c = its q.accepted refl in
    omega (arith, a, b, c)
  where
    its : (b : Bool) → q.accepted ≡ b → one_if (not b) ≤ g 0
    its true e = omega arith
    its false e = h 0 refl e

requests_total : (rs : List Request) (n : ℕ) → sum_below (λ k. requests_of k (map request_seen rs)) n ≤ length rs
requests_total [] n = let a : sum_below (λ k. requests_of k (map request_seen [])) n ≡ 0 = below_none n in omega (arith, a)
requests_total (r ∷ rs) n =
    let p = below_plus (λ k. one_if (r.session == k)) (λ k. requests_of k (map request_seen rs)) n in
    let a = below_once_most one_if refl r.session n in
    let b = requests_total rs n in
    omega (arith, p, a, b)

clients_below : (n m : ℕ) (ss : List (Option Session)) (rs : List Request) → AreBetween n m ss → AreOf ss rs → Each (λ y. y < n) (clients_in ss rs)
clients_below n m ss [] b h = tt
clients_below n m ss (r ∷ rs) b h = ((between_at n m ss r.session b h.0).client, clients_below n m ss rs b h.2)

clients_count : (ss : List (Option Session)) (rs : List Request) → length (clients_in ss rs) ≡ length rs
clients_count ss [] = refl
clients_count ss (r ∷ rs) = ap suc (clients_count ss rs)

-- ACCEPTED SESSIONS

accepted_split : (n m : ℕ) (ss : List (Option Session)) → AreBetween n m ss → count accepted ss ≤ sum_below (λ x. count (accepted_to x) ss) n
accepted_split n m [] b = omega arith
accepted_split n m (None ∷ ss) b =
    let p = below_plus (λ x. 0) (λ x. count (accepted_to x) ss) n in
    let z = below_none n in
    let a = accepted_split n m ss b in
    omega (arith, p, z, a)
accepted_split n m (Some q ∷ ss) b =
    let p = below_plus (λ x. cond (q.server == x) (one_if q.accepted) 0) (λ x. count (accepted_to x) ss) n in
    let e = below_once (λ c. cond c (one_if q.accepted) 0) refl q.server n b.0.server in
    let a = accepted_split n m ss b.1 in
    omega (arith, p, e, a)

objects_at : (ss : List (Option Session)) (k : ℕ) → AreObjects ss → IsTaken ss k → IsObject (session_in ss k).object
objects_at [] k o t = cc
objects_at (None ∷ ss) zero o t = cc
objects_at (None ∷ ss) (suc k) o t = objects_at ss k o t
objects_at (Some q ∷ ss) zero o t = o.0
objects_at (Some q ∷ ss) (suc k) o t = objects_at ss k o.1 t

-- an object is a slice, which costs a page at least
object_price : (st : Store) (t : Content) → IsObject t → IsBytes (shape (seen st t)) → 4096 ≤ slot_price Ram (seen st t)
object_price st content.Empty o b = absurd b
object_price st (content.Block p n) o b = absurd o
object_price st (content.Slice k n) o b = omega arith
object_price st (content.Space k n) o b = absurd o
object_price st (content.Pool p) o b = absurd o
object_price st (content.Link k) o b = absurd o
object_price st (content.Waiting k) o b = absurd o

module _ (f : Frame) (s : Slots) (x : ℕ) where
  -- a leaf holds a page at least for each accepted session to it
  banks_most : (ss : List (Option Session))
      → ((k : ℕ) → IsTaken ss k → (session_in ss k).accepted ≡ true → 4096 ≤ slot_price Ram (stored_as f s (session_in ss k)).object)
      → 4096 * count (accepted_to x) ss ≤ sum_by (to_leaf x (bank_price Ram)) (map (seen_in (stored_as f s)) ss)
  banks_most [] h = omega arith
  banks_most (None ∷ ss) h =
      let e = sum_by-cons (to_leaf x (bank_price Ram)) None (map (seen_in (stored_as f s)) ss) in
      let a = banks_most ss (λ k t u. h (suc k) t u) in
      omega (arith, e, a)
  banks_most (Some q ∷ ss) h =
      let e = sum_by-cons (to_leaf x (bank_price Ram)) (Some (stored_as f s q)) (map (seen_in (stored_as f s)) ss) in
      let a = banks_most ss (λ k t u. h (suc k) t u) in
      let b = its (q.server == x) q.accepted refl in
      omega (arith, e, a, b)
    where
      its : (b c : Bool) → q.accepted ≡ c → 4096 * cond b (one_if c) 0 ≤ cond b (bank_price Ram (stored_as f s q)) 0
      its true true u = let p = h 0 refl u in omega (arith, p)
      its true false u = omega arith
      its false c u = omega arith

module _ (system : System) (f : Frame) (s : Slots) (l : AreLawful s) (h : IsLinkedWorld system (world_seen f s)) (sound : AreSound s.trades.trading) where
  page_each : (k : ℕ) → IsTaken s.trades.trading.sessions k → (session_at s.trades.trading k).accepted ≡ true
      → 4096 ≤ slot_price Ram (stored_as f s (session_at s.trades.trading k)).object
  page_each k there u =
      object_price (memory_of s (server_of s.trades.trading k)) (session_at s.trades.trading k).object
      (objects_at s.trades.trading.sessions k sound.objects there) (h.objects k (outline (seen_at f s k)) (session_has f s k there) u)

  used_most : (x : ℕ) → x < length s.trades.trading.leaves
      → 4096 * count (accepted_to x) s.trades.trading.sessions ≤ (its_account s.trades.trading x).used.ram
  used_most x lt =
      let leaf = leaf_found f s l x (omega (arith, lt, l.count)) in
      let held = (l.held f x leaf.0 leaf.1).ram in
      let banks = banks_most f s x s.trades.trading.sessions page_each in
      omega (arith, held, banks)

  accounts_apart : (x y : ℕ) → x < length s.trades.trading.leaves → y < length s.trades.trading.leaves
      → account_of s.trades.trading x ≡ account_of s.trades.trading y → x ≡ y
  accounts_apart x y p q e =
      l.trading.apart x y p q (l.trading.nodes.apart _ _ (l.trading.leaves x p) (l.trading.leaves y q) e)

  few_accepted : count accepted s.trades.trading.sessions ≤ 16384
  few_accepted =
      let t = s.trades.trading in
      let n = length t.leaves in
      let a = accepted_split n (length t.objects) t.sessions l.trading.between in
      let b = below_times (λ x. count (accepted_to x) t.sessions) n in
      let c = below_le (λ x. 4096 * count (accepted_to x) t.sessions) (λ x. (its_account t x).used.ram) n used_most in
      let d = apart_within (λ z. z.used.ram) refl t.ledger.accounts (account_of t) n accounts_apart in
      omega (arith, a, b, c, d, l.balanced.pages, l.balanced.small)

  few_fresh : count fresh s.trades.trading.sessions ≤ 64
  few_fresh =
      let t = s.trades.trading in
      let a = fresh_asked (λ k. requests_of k (map request_seen t.requests)) t.sessions (λ k there e. fresh_asks system f s l h k there e) in
      let b = requests_total t.requests (length t.sessions) in
      let c = apart_few (length t.leaves) (clients_in t.sessions t.requests) l.trades.asks
      (clients_below (length t.leaves) (length t.objects) t.sessions t.requests l.trading.between l.trading.requests) in
      let d = clients_count t.sessions t.requests in
      omega (arith, a, b, c, d, l.trades.few)

  pub few : free_number s.trades.trading.sessions ≤ 16448
  few = let a = free_counted s.trades.trading.sessions in omega (arith, a, few_fresh, few_accepted)

-- Requests that wait, and what is current at a leaf: whose they are, and who waits for the reply.
use Rattle.std.proofs.Common.{◌≡◌, ℕ, ◌+◌, ◌<◌, ◌≤◌, inl, inr, true, not, List, [], ◌∷◌, length, map, Option, Some, None, refl, sym, ap, subst, ◌∙◌, arith}
use Rattle.std.proofs.lemmas.Bool.Decides.{eqb_tells}
use Rattle.gq_model.specs.declared.phase.Phase.TheVariants.{Blocked}
use Rattle.gq_model.specs.machine.Scenario.{System}
use Rattle.gq_model.specs.machine.World as world
use Rattle.gq_model.proofs.Small_facts.{equal_self, some_same, none_some}
use Rattle.gq_laws.specs.Session_links.{IsBytes, IsLinkedWorld, Links, by_current, is_open, links, one_if, outline, requests_of, shape, stance}
use Rattle.gq_laws.specs.Session_links as linked
use Rattle.gq_laws.specs.Shapes.{Each}
use Rattle.gq_store.specs.Store.{Store}
use Rattle.gq_trade.specs.Numbers.{IsTaken}
use Rattle.gq_pool.specs.declared.pool.Pool.{Pool}
use Rattle.gq_trade.specs.declared.requests.Ask.{Ask}
use Rattle.gq_trade.specs.declared.requests.Ask.TheVariants.{Open, Upgrade, Close, Call}
use Rattle.gq_trade.specs.declared.requests.Request.{Request}
use Rattle.gq_trade.specs.Queues.{kept_before, oldest_to}
use Rattle.gq_trade.specs.Seen_requests.{ask_seen, request_seen}
use Rattle.gq_contents.specs.declared.content.Content.{Content}
use Rattle.gq_contents.specs.declared.content.Content.TheVariants as content
use Rattle.gq_contents.specs.Contents.{seen}
use Rattle.gq_trade.specs.declared.session.Session.{Session}
use Rattle.gq_trade.specs.Trading.{AreOf, server_of, session_at}
use Rattle.gq_trade.proofs.Sessions_kept.{taken_from}
use Rattle.gq_trade.specs.Waiting.{AreOther, IsIdle, clients_in}
use Rattle.gq_slots.specs.Slots.{AreSound, Frame, Slots, memory_of, world_seen}
use Rattle.gq_statements.specs.Systems.{AreLawful}
use Rattle.gq_statements.proofs.Seen_slot_content.{unmade_oldest}
use Rattle.gq_statements.specs.Linked.{IsAsked, IsAwaited, IsFor, IsHandled}
use Rattle.gq_statements.proofs.linked.Stored_world_links.{none_of, session_is, stance_is}
use Rattle.gq_statements.proofs.linked.Standing_sessions.{awaited}

-- LISTS

-- each request is one of its session at least
counted : (rs : List Request) (whole : List world.Request) → ((k : ℕ) → requests_of k (map request_seen rs) ≤ requests_of k whole)
    → Each (λ (r : Request). 1 ≤ requests_of r.session whole) rs
counted [] whole le = tt
counted (r ∷ rs) whole le = (first, counted rs whole (λ k. let a = le k in omega (arith, a)))
  where
    first : 1 ≤ requests_of r.session whole
    first =
        let a : one_if true + requests_of r.session (map request_seen rs) ≤ requests_of r.session whole = rw (equal_self r.session) at (le r.session) in
        omega (arith, a)

-- what holds of each holds of the oldest
oldest_each : (P : Request → Type 0) (x : ℕ) (rs : List Request) (p : Request × List Request) → Each P rs → oldest_to x rs ≡ Some p → P p.0
oldest_each P x [] p h e = absurd (none_some e)
oldest_each P x (r ∷ rs) p h e = elim (eqb_tells r.server x) [
  | inl t ↦ first (r, rs) h.0 (rw t.0 at e)
  | inr n ↦ later (oldest_to x rs) (λ q g. oldest_each P x rs q h.1 g) (rw n.0 at e)
]
  where
    first : (q : Request × List Request) → P q.0 → Some q ≡ Some p → P p.0
    first q v g = subst (λ (y : Request × List Request). P y.0) (some_same g) v

    later : (o : Option (Request × List Request)) → ((q : Request × List Request) → o ≡ Some q → P q.0) → kept_before r o ≡ Some p → P p.0
    later None every g = absurd (none_some g)
    later (Some q) every g = first (q.0, r ∷ q.1) (every q refl) g

each_seen : (P : world.Request → Type 0) (rs : List Request) → Each P (map request_seen rs) → Each (λ r. P (request_seen r)) rs
each_seen P [] h = tt
each_seen P (r ∷ rs) h = (h.0, each_seen P rs h.1)

session_for : (a : Ask) (q : Session) → q.accepted ≡ not (is_open (ask_seen a)) → (a ≡ Open → q.object ≡ content.Empty) → IsFor a q
session_for Open q e empty = (e, empty refl)
session_for Upgrade q e empty = e
session_for Close q e empty = e
session_for (Call n) q e empty = e

-- what is bytes is there, and no pool
not_empty : (st : Store) (t : Content) → IsBytes (shape (seen st t)) → t ≡ content.Empty → ⊥
not_empty st t b e = subst (λ u. IsBytes (shape (seen st u))) e b

not_pool : (st : Store) (t : Content) → IsBytes (shape (seen st t)) → (p : Pool) → t ≡ content.Pool p → ⊥
not_pool st t b p e = subst (λ u. IsBytes (shape (seen st u))) e b

module _ (system : System) (f : Frame) (s : Slots) (l : AreLawful s) (h : IsLinkedWorld system (world_seen f s)) where
  -- REQUESTS

  awaited_with : (k : ℕ) → IsTaken s.trades.trading.sessions k → 1 ≤ requests_of k (map request_seen s.trades.trading.requests) → IsAwaited f s k
  awaited_with k there some =
      (awaited system f s l h k there (omega (arith, some))).0

  each_awaited : (rs : List Request) → AreOf s.trades.trading.sessions rs
      → Each (λ (r : Request). 1 ≤ requests_of r.session (map request_seen s.trades.trading.requests)) rs → Each (λ (r : Request). IsAwaited f s r.session) rs
  each_awaited [] of some = tt
  each_awaited (r ∷ rs) of some = (awaited_with r.session of.0 some.0, each_awaited rs of.2 some.1)

  all_counted : Each (λ (r : Request). 1 ≤ requests_of r.session (map request_seen s.trades.trading.requests)) s.trades.trading.requests
  all_counted = counted s.trades.trading.requests (map request_seen s.trades.trading.requests) (λ k. omega arith)

  -- the client of each request is blocked, so a leaf that is not has none
  pub all_awaited : Each (λ (r : Request). IsAwaited f s r.session) s.trades.trading.requests
  all_awaited = each_awaited s.trades.trading.requests l.trading.requests all_counted

  not_asking : (x : ℕ) → ((f.leaf x).phase ≡ Blocked → ⊥) → (rs : List Request) → Each (λ (r : Request). IsAwaited f s r.session) rs
      → AreOther x (clients_in s.trades.trading.sessions rs)
  not_asking x ne [] a = tt
  not_asking x ne (r ∷ rs) a = (λ e. ne (subst (λ y. (f.leaf y).phase ≡ Blocked) e a.0.blocked), not_asking x ne rs a.1)

  pub idle : (x : ℕ) → ((f.leaf x).phase ≡ Blocked → ⊥) → IsIdle s.trades.trading x
  idle x ne = not_asking x ne s.trades.trading.requests all_awaited

  pub asked : AreSound s.trades.trading → (x : ℕ) (r : Request) (rest : List Request) → oldest_to x s.trades.trading.requests ≡ Some (r, rest)
      → IsAsked f s x r
  asked sound x r rest e =
      let t = s.trades.trading in
      let from = taken_from t.sessions x t.requests (r, rest) l.trading.requests e in
      let waits = oldest_each (λ (q : Request). IsAwaited f s q.session) x t.requests (r, rest) all_awaited e in
      let all = each_seen (linked.IsAsked (links (world_seen f s))) t.requests h.asked in
      let is = oldest_each (λ q. linked.IsAsked (links (world_seen f s)) (request_seen q)) x t.requests (r, rest) all e in
      let same = session_is f s r.session is.0 is.1 in
      record {
        awaited = waits;
        server = from.server;
        session = session_for r.ask (session_at t r.session) (sym (ap (λ (z : world.Session). z.accepted) same.1) ∙ is.2)
            (unmade_oldest t.sessions x t.requests r rest sound.unmade e);
      }

  -- HANDS

  pub handled : (x : ℕ) (current : world.Current) → x < length s.own → (f.leaf x).current ≡ Some current → IsHandled f s x current
  handled x current lt e =
      let k = current.session in
      let t = s.trades.trading in
      let its = h.handles x (f.leaf x).phase current (stance_is f s x l lt ∙ ap (λ o. Some (stance (f.leaf x).phase o)) e) in
      let is = session_is f s k its.0 its.1 in
      let server : server_of t k ≡ x = sym (ap (λ (z : world.Session). z.server) is.1) ∙ its.2 in
      let at : by_current k (f.leaf (server_of t k)).current ≡ 1 =
      ap (λ y. by_current k (f.leaf y).current) server ∙ ap (by_current k) e ∙ ap one_if (equal_self k) in
      let waits = awaited system f s l h k is.0 (omega (arith, at)) in
      let object = subst IsBytes (ap (λ (z : world.Session). z.object) is.1) (h.objects k its.0 its.1 its.3) in
      let one : requests_of k (map request_seen t.requests) + by_current k (f.leaf (server_of t k)).current ≡ 1 = waits.1 in
      record {
        awaited = waits.0;
        server = server;
        accepted = sym (ap (λ (z : world.Session). z.accepted) is.1) ∙ its.3;
        object = not_empty (memory_of s (server_of t k)) (session_at t k).object object;
        no_pool = not_pool (memory_of s (server_of t k)) (session_at t k).object object;
        none_waits = none_of k t.requests (omega (arith, one, at));
      }

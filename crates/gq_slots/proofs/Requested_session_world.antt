-- Requests: what holds of all slots behind one, and which world they are.
use Rattle.std.proofs.Common.{◌≡◌, ℕ, zero, suc, Bool, true, false, cond, eqb, List, [], ◌∷◌, ◌++◌, length, map, set, get_or, replicate, Option, Some}
use Rattle.std.proofs.Common.{None, Result, Ok, Err, OnOk, OnErr, refl, sym, ap, subst, ◌∙◌}
use Rattle.gq_tariff.specs.declared.amount.Amount.{Amount}
use Rattle.gq_model.specs.machine.Amounts.{plus}
use Rattle.gq_model.specs.machine.Requests.{add_session, free_place, new_session}
use Rattle.gq_model.specs.machine.World as world
use Rattle.gq_store.specs.Store.{Store}
use Rattle.gq_heap.specs.declared.heap.Heap.{Heap}
use Rattle.gq_heap.specs.Heap.{peaks}
use Rattle.gq_ram.specs.Account_table.{Entries, IsOpen}
use Rattle.gq_ram.specs.Ledgers.{IsBalanced, Ledger, with_accounts}
use Rattle.gq_ram.proofs.Quota_move_sequences.{used_kept}
use Rattle.gq_ram.specs.Account_stores.{store_at}
use Rattle.gq_trade.specs.Numbers.{IsTaken, added, free_number}
use Rattle.gq_trade.specs.declared.requests.Ask.{Ask}
use Rattle.gq_trade.specs.declared.requests.Ask.TheVariants.{Open, Upgrade}
use Rattle.gq_trade.specs.declared.requests.Request.{Request}
use Rattle.gq_trade.specs.Seen_requests.{ask_seen, request_seen}
use Rattle.gq_contents.specs.declared.content.Content.{Content}
use Rattle.gq_contents.specs.declared.content.Content.TheVariants.{Empty, Block, Slice, Space, Pool, Link, Waiting}
use Rattle.gq_contents.specs.Contents.{seen}
use Rattle.gq_trade.specs.declared.session.Session.{Session}
use Rattle.gq_trade.specs.declared.session.SlotId.{SlotId}
use Rattle.gq_trade.specs.Seen_sessions.{seen_in, session_seen, sessions_seen, slot_id_seen}
use Rattle.gq_trade.specs.Trading.{Trading, AreOf, IsTrading, account_of, asked, client_of, fresh, node_of, server_of, session_at, session_in, store_of}
use Rattle.gq_trade.specs.Trading.{upgraded}
use Rattle.gq_trade.specs.Trading.{with_ask, with_more}
use Rattle.gq_trade.proofs.Session_table_definition.{asked_is, given_is, number_is}
use Rattle.gq_trade.specs.declared.trade_node.Stage.TheVariants.{Live, Ended}
use Rattle.gq_trade.specs.Trades.{Trades, IsLive, IsTrades, with_trading}
use Rattle.gq_slots.specs.Slots.{Slots, Frame, leaves_seen, memory_of, world_seen}
use Rattle.gq_slots.specs.Session_calls.{asking, more_for, opening, upgrading, with_trades}
use Rattle.gq_slots.specs.internal.Slots_invariant.{AreObjects, AreUnmade, IsSlots, IsUnmade, session_contents, contents_of}
use Rattle.gq_slots.proofs.Slot_content_positions.{session_same, slots_long}
use Rattle.gq_slots.proofs.Slot_change_worlds.{session_there}
use Rattle.gq_slots.proofs.Slot_call_effects.{of_parts, sound_set}
use Rattle.gq_slots.proofs.Equal_leaf_contents.{Alike, alike, alike_behind, alike_is, alike_more, holder_alike, within}

-- THE WORLD

requests_then : (rs : List Request) (r : Request) → map request_seen (rs ++ r ∷ []) ≡ map request_seen rs ++ request_seen r ∷ []
requests_then [] r = refl
requests_then (q ∷ rs) r = ap (λ ys. request_seen q ∷ ys) (requests_then rs r)

pub asked_world : (f : Frame) (z s : Slots) (v : Trades) (k : ℕ) (a : Ask) → s ≡ z → v ≡ with_trading s.trades (with_ask s.trades.trading k a)
    → world_seen f (of_parts v s.own s.heaps) ≡ asking (world_seen f z) k (ask_seen a)
asked_world f z s v k a e is =
    let w = world_seen f s in
    let r : Request = record { session = k; server = server_of s.trades.trading k; ask = a } in
    ap (λ y. world_seen f (of_parts y s.own s.heaps)) is
    ∙ ap (λ rs. record { leaves = w.leaves; sessions = w.sessions; requests = rs }) (requests_then s.trades.trading.requests r)
    ∙ ap (λ y. asking (world_seen f y) k (ask_seen a)) e

-- what is left to pay changes no slot
donated_seen : (l : Ledger) (es : Entries) (a : ℕ) (t : Content) → seen (store_at (with_accounts l es) a) t ≡ seen (store_at l a) t
donated_seen l es a Empty = refl
donated_seen l es a (Block p n) = refl
donated_seen l es a (Slice k n) = refl
donated_seen l es a (Space k n) = refl
donated_seen l es a (Pool p) = refl
donated_seen l es a (Link k) = refl
donated_seen l es a (Waiting k) = refl

leaves_same : (leaf : ℕ → world.Leaf) (old new : ℕ → Store) (own : List (List Content)) (hs : List Heap)
    → ((y : ℕ) (t : Content) → seen (new y) t ≡ seen (old y) t)
    → leaves_seen leaf new own hs ≡ leaves_seen leaf old own hs
leaves_same leaf old new [] hs e = refl
leaves_same leaf old new (ts ∷ own) [] e = refl
leaves_same leaf old new (ts ∷ own) (h ∷ hs) e =
    let f = leaves_same (λ y. leaf (suc y)) (λ y. old (suc y)) (λ y. new (suc y)) own hs (λ y t. e (suc y) t) in
    λ k. record (leaf 0) { slots = map (λ t. e 0 t k) ts; peaks = peaks h } ∷ f k

pub leaves_donated : (f : Frame) (s : Slots) (es : Entries)
    → leaves_seen f.leaf (λ y. store_at (with_accounts s.trades.trading.ledger es) (account_of s.trades.trading y)) s.own s.heaps
    ≡ (world_seen f s).leaves
leaves_donated f s es =
    leaves_same f.leaf (memory_of s) (λ y. store_at (with_accounts s.trades.trading.ledger es) (account_of s.trades.trading y)) s.own s.heaps
    (λ y t. donated_seen s.trades.trading.ledger es (account_of s.trades.trading y) t)

pub opened_world : (f : Frame) (s : Slots) (c : ℕ) (p : SlotId) (v e : ℕ) (n : Amount)
    → world_seen f (with_trades s (asked s.trades.trading (fresh c p v e n)))
    ≡ opening (world_seen f s) (new_session c (slot_id_seen p) v (get_or f.names e []) n)
opened_world f s c p v e n =
    let t = s.trades.trading in
    let q = fresh c p v e n in
    let a = asked t q in
    let w = world_seen f s in
    let leaves = leaves_donated f s a.ledger.accounts in
    let sessions = asked_is f.names t q in
    let place : free_place w.sessions ≡ free_number t.sessions = number_is (λ y. session_seen f.names (store_of t y.server) y) t.sessions in
    let requests = requests_then t.requests (record { session = free_number t.sessions; server = v; ask = Open }) in
    (λ k. record { leaves = leaves k; sessions = sessions k; requests = requests k })
    ∙ (λ k. record {
      leaves = w.leaves;
      sessions = add_session (new_session c (slot_id_seen p) v (get_or f.names e []) n) w.sessions;
      requests = w.requests ++ record { session = sym place k; ask = world.Ask_open } ∷ [];
    })

-- a session for which more is given
pub map_set : (g : Session → world.Session) (ss : List (Option Session)) (k : ℕ) (v : Session)
    → map (seen_in g) (set ss k (Some v)) ≡ set (map (seen_in g) ss) k (Some (g v))
map_set g [] k v = refl
map_set g (o ∷ ss) zero v = refl
map_set g (o ∷ ss) (suc k) v = ap (λ ys. seen_in g o ∷ ys) (map_set g ss k v)

pub upgraded_world : (f : Frame) (s : Slots) (k : ℕ) (n : Amount) → IsTaken s.trades.trading.sessions k
    → world_seen f (with_trades s (upgraded s.trades.trading k n)) ≡ upgrading (world_seen f s) k n
upgraded_world f s k n there =
    let t = s.trades.trading in
    let q = session_at t k in
    let a = upgraded t k n in
    let l = t.ledger in
    let es = a.ledger.accounts in
    let w = world_seen f s in
    let old : Session → world.Session = λ y. session_seen f.names (store_of t y.server) y in
    let new : Session → world.Session = λ y. session_seen f.names (store_of a y.server) y in
    let leaves = leaves_donated f s es in
    let given_so = given_is f.names t q.client q.server n in
    let sessions : sessions_seen f.names a ≡ set w.sessions k (Some (record (old q) { donation = plus (old q).donation n })) =
    map_set new t.sessions k (with_more q n) ∙ (λ z. set (given_so z) k (Some (record (new (with_more q n)) {
      object = donated_seen l es (account_of t q.server) q.object z;
      slots = map (λ y. donated_seen l es (account_of t q.server) y z) q.slots;
    }))) in
    let requests = requests_then t.requests (record { session = k; server = server_of a k; ask = Upgrade }) in
    (λ z. record { leaves = leaves z; sessions = sessions z; requests = requests z })
    ∙ ap (λ o. asking (more_for w k n o) k world.Ask_upgrade) (sym (ap world.joined (session_there old t.sessions k there)))

-- WHAT HOLDS

ended : Live ≡ Ended → ⊥
ended e = cc

none_taken : (k : ℕ) → IsTaken {A = Session} [] k → ⊥
none_taken zero t = cc
none_taken (suc k) t = cc

-- the account of a live leaf is open
pub live_open : (t : Trades) (x : ℕ) → IsTrades t → IsTrading t.trading → IsLive t x → IsOpen t.trading.ledger.accounts (account_of t.trading x)
live_open t x i w live = i.settled.opened (node_of t.trading x) (w.leaves x live.there) (λ e. ended (sym live.live ∙ e))

-- a session more, whose slots are empty
contents_fresh : (x c : ℕ) (p : SlotId) (v e : ℕ) (n : Amount) (b : Bool) (ts : List Content) → Alike ts (cond b (Empty ∷ replicate 8 Empty) [] ++ ts)
contents_fresh x c p v e n true ts = alike_more 9 ts
contents_fresh x c p v e n false ts = alike ts

alike_added : (x c : ℕ) (p : SlotId) (v e : ℕ) (n : Amount) (ss : List (Option Session))
    → Alike (session_contents x ss) (session_contents x (added (fresh c p v e n) ss))
alike_added x c p v e n [] = contents_fresh x c p v e n (eqb v x) []
alike_added x c p v e n (None ∷ ss) = contents_fresh x c p v e n (eqb v x) (session_contents x ss)
alike_added x c p v e n (Some q ∷ ss) =
    alike_behind (contents_of x q) (session_contents x ss) (session_contents x (added (fresh c p v e n) ss)) (alike_added x c p v e n ss)

added_long : (c : ℕ) (p : SlotId) (v e : ℕ) (n : Amount) (ss : List (Option Session)) (j : ℕ) → IsTaken (added (fresh c p v e n) ss) j
    → ((i : ℕ) → IsTaken ss i → length (session_in ss i).slots ≡ 8) → length (session_in (added (fresh c p v e n) ss) j).slots ≡ 8
added_long c p v e n [] zero t all = refl
added_long c p v e n [] (suc j) t all = absurd (none_taken j t)
added_long c p v e n (None ∷ ss) zero t all = refl
added_long c p v e n (None ∷ ss) (suc j) t all = all (suc j) t
added_long c p v e n (Some q ∷ ss) zero t all = all zero t
added_long c p v e n (Some q ∷ ss) (suc j) t all = added_long c p v e n ss j t (λ i u. all (suc i) u)

added_objects : (c : ℕ) (p : SlotId) (v e : ℕ) (n : Amount) (ss : List (Option Session)) → AreObjects ss → AreObjects (added (fresh c p v e n) ss)
added_objects c p v e n [] a = (tt, tt)
added_objects c p v e n (None ∷ ss) a = (tt, a)
added_objects c p v e n (Some q ∷ ss) a = (a.0, added_objects c p v e n ss a.1)

-- the sessions that were there are found as before
added_at : (q : Session) (ss : List (Option Session)) (j : ℕ) → IsTaken ss j → session_in (added q ss) j ≡ session_in ss j
added_at q [] j t = absurd (none_taken j t)
added_at q (None ∷ ss) zero t = cc
added_at q (None ∷ ss) (suc j) t = refl
added_at q (Some y ∷ ss) zero t = refl
added_at q (Some y ∷ ss) (suc j) t = added_at q ss j t

added_here : (q : Session) (ss : List (Option Session)) → session_in (added q ss) (free_number ss) ≡ q
added_here q [] = refl
added_here q (None ∷ ss) = refl
added_here q (Some y ∷ ss) = added_here q ss

-- a request more
unmade_more : (ss : List (Option Session)) (rs : List Request) (r : Request) → AreUnmade ss rs → IsUnmade r.ask (session_in ss r.session).object
    → AreUnmade ss (rs ++ r ∷ [])
unmade_more ss [] r a b = (b, tt)
unmade_more ss (q ∷ rs) r a b = (a.0, unmade_more ss rs r a.1 b)

unmade_added : (q : Session) (ss : List (Option Session)) (rs : List Request) → AreOf ss rs → AreUnmade ss rs → AreUnmade (added q ss) rs
unmade_added q ss [] o a = tt
unmade_added q ss (r ∷ rs) o a =
    (subst (λ y. IsUnmade r.ask y.object) (sym (added_at q ss r.session o.0)) a.0, unmade_added q ss rs o.2 a.1)

-- a request of a session that is there, and no request to open
pub asked_kept : (s : Slots) (k : ℕ) (a : Ask) → ((t : Content) → IsUnmade a t) → IsSlots s
    → IsSlots (with_trades s (with_ask s.trades.trading k a))
asked_kept s k a none i =
    let t = s.trades.trading in
    record {
      count = i.count;
      heaps = i.heaps;
      long = record { own = i.long.own; slots = i.long.slots };
      sound = record {
        objects = i.sound.objects;
        unmade = unmade_more t.sessions t.requests (record { session = k; server = server_of t k; ask = a }) i.sound.unmade (none (session_at t k).object);
      };
      holders = λ x h lt.
          let o = i.holders x h lt in
          record { keeps = o.keeps; ram = o.ram; caps = o.caps; peaked = o.peaked; eight = o.eight };
    }

pub opened_kept : (s : Slots) (c : ℕ) (p : SlotId) (v e : ℕ) (n : Amount) → AreOf s.trades.trading.sessions s.trades.trading.requests
    → IsSlots s → IsOpen s.trades.trading.ledger.accounts (account_of s.trades.trading c)
    → IsOpen s.trades.trading.ledger.accounts (account_of s.trades.trading v) → IsBalanced s.trades.trading.ledger
    → IsBalanced (asked s.trades.trading (fresh c p v e n)).ledger → IsSlots (with_trades s (asked s.trades.trading (fresh c p v e n)))
opened_kept s c p v e n of i co vo b d =
    let t = s.trades.trading in
    let q = fresh c p v e n in
    let m = with_trades s (asked t q) in
    record {
      count = i.count;
      heaps = i.heaps;
      long = record { own = i.long.own; slots = λ j u. added_long c p v e n t.sessions j u i.long.slots };
      sound = record {
        objects = added_objects c p v e n t.sessions i.sound.objects;
        unmade = unmade_more (added q t.sessions) t.requests (record { session = free_number t.sessions; server = v; ask = Open })
            (unmade_added q t.sessions t.requests of i.sound.unmade) (ap (λ (y : Session). y.object) (added_here q t.sessions));
      };
      holders = λ x h lt. holder_alike s m x (get_or s.heaps x h) (λ k. record { size = refl; bytes = λ j. refl })
          (alike_behind (get_or s.own x []) (session_contents x t.sessions) (session_contents x (added q t.sessions)) (alike_added x c p v e n t.sessions))
          (used_kept t.ledger.accounts (account_of t c) (account_of t v) n (account_of t x) co vo) refl
          (within t.ledger (account_of t x) b) (within m.trades.trading.ledger (account_of t x) d) (i.holders x h lt);
    }

pub upgraded_kept : (s : Slots) (k : ℕ) (n : Amount) → IsTaken s.trades.trading.sessions k → IsSlots s
    → IsOpen s.trades.trading.ledger.accounts (account_of s.trades.trading (client_of s.trades.trading k))
    → IsOpen s.trades.trading.ledger.accounts (account_of s.trades.trading (server_of s.trades.trading k)) → IsBalanced s.trades.trading.ledger
    → IsBalanced (upgraded s.trades.trading k n).ledger → IsSlots (with_trades s (upgraded s.trades.trading k n))
upgraded_kept s k n there i co vo b d =
    let t = s.trades.trading in
    let q = session_at t k in
    let m = with_trades s (upgraded t k n) in
    let changed = sound_set t k (with_more q n) refl i.sound in
    record {
      count = i.count;
      heaps = i.heaps;
      long = record { own = i.long.own; slots = λ j u. slots_long t.sessions k (with_more q n) j u (i.long.slots k there) i.long.slots };
      sound = record {
        objects = changed.objects;
        unmade = unmade_more (set t.sessions k (Some (with_more q n))) t.requests (record { session = k; server = server_of (upgraded t k n) k; ask = Upgrade })
            changed.unmade tt;
      };
      holders = λ x h lt. holder_alike s m x (get_or s.heaps x h) (λ j. record { size = refl; bytes = λ o. refl })
          (alike_behind (get_or s.own x []) (session_contents x t.sessions) (session_contents x (set t.sessions k (Some (with_more q n))))
          (alike_is (session_contents x t.sessions) (session_contents x (set t.sessions k (Some (with_more q n))))
          (session_same x k t.sessions (with_more q n) there refl)))
          (used_kept t.ledger.accounts (account_of t q.client) (account_of t q.server) n (account_of t x) co vo) refl
          (within t.ledger (account_of t x) b) (within m.trades.trading.ledger (account_of t x) d) (i.holders x h lt);
    }

-- AS THE CONTRACTS SAY IT

-- a request is made, or nothing is done
pub kept_or_not : {A E : Type 0} (r : Result A E) (s : Slots) (v : Trades) (t : Trading) → OnOk r (v ≡ with_trading s.trades t) → OnErr r (v ≡ s.trades)
    → IsSlots s → (v ≡ with_trading s.trades t → IsSlots (with_trades s t)) → IsSlots (of_parts v s.own s.heaps)
kept_or_not (Ok a) s v t ok err i f = subst (λ y. IsSlots (of_parts y s.own s.heaps)) (sym ok) (f ok)
kept_or_not (Err e) s v t ok err i f = subst (λ y. IsSlots (of_parts y s.own s.heaps)) (sym err) i

pub on_err : {A E : Type 0} {P : Type 0} (r : Result A E) → P → OnErr r P
on_err (Ok a) p = tt
on_err (Err e) p = p

pub on_ok : {A E P Q : Type 0} (r : Result A E) → (P → Q) → OnOk r P → OnOk r Q
on_ok (Ok a) f p = f p
on_ok (Err e) f p = p

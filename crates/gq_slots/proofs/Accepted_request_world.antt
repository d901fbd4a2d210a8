-- Requests that are taken: what holds of all slots then, and which world they are.
use Rattle.std.proofs.Common.{◌≡◌, ℕ, zero, suc, ◌+◌, ◌<◌, Bool, true, eqb, inl, inr, List, [], ◌∷◌, ◌++◌, length, map, set, get_or}
use Rattle.std.proofs.Common.{replicate}
use Rattle.std.proofs.Common.{get_or-set_other, Option, Some, None, Result, Ok, Err, OnErr, refl, sym, ap, subst, ◌∙◌, arith}
use Rattle.std.specs.Prelude.{slice_get, IfNone, IfOk, IfSome}
use Rattle.std.proofs.lemmas.Bool.Decides.{eqb_tells}
use Rattle.gq_model.specs.declared.program.Form.TheVariants as form
use Rattle.gq_model.specs.machine.World as world
use Rattle.gq_model.specs.machine.Sums.{slot_places}
use Rattle.gq_model.specs.machine.Step as step
use Rattle.gq_store.specs.Store.{Store}
use Rattle.gq_heap.specs.declared.heap.Heap.{Heap}
use Rattle.gq_ram.specs.Account_stores.{store_at}
use Rattle.gq_trade.specs.Numbers.{IsTaken}
use Rattle.gq_trade.specs.declared.requests.Ask.{Ask}
use Rattle.gq_trade.specs.declared.requests.Ask.TheVariants.{Open, Upgrade, Close, Call}
use Rattle.gq_trade.specs.declared.requests.Request.{Request}
use Rattle.gq_trade.specs.Queues.{kept_before, oldest_to}
use Rattle.gq_trade.specs.Seen_requests.{request_seen, taken_seen, AreServed}
use Rattle.gq_trade.proofs.Oldest_request_definition.{oldest_is}
use Rattle.gq_trade.specs.Trades.{Trades, IsTrades}
use Rattle.gq_contents.specs.declared.content.Content.{Content}
use Rattle.gq_contents.specs.declared.content.Content.TheVariants.{Empty, Block, Slice, Space, Pool, Link, Waiting}
use Rattle.gq_contents.specs.Contents.{seen}
use Rattle.gq_trade.specs.declared.session.Session.{Session}
use Rattle.gq_trade.specs.declared.session.SlotId.{SlotId}
use Rattle.gq_trade.specs.declared.session.SlotId.TheVariants.{InLeaf, InSession, InObject}
use Rattle.gq_trade.specs.Seen_sessions.{session_seen}
use Rattle.gq_trade.specs.Trading.{Trading, AreOf, IsTrading, found, raised, session_at, session_in, Accepts, Begins, Opens, account_of}
use Rattle.gq_trade.specs.Trading.{object_size, opened, server_of, with_requests, with_session}
use Rattle.gq_trade.specs.Waiting.{AreApart, AreOther, clients_in}
use Rattle.gq_slots.specs.Slots.{Slots, Frame, IsSlotId, holder, memory_of, world_seen}
use Rattle.gq_slots.specs.Calls.{PutsSlot}
use Rattle.gq_slots.specs.Session_calls.{TakesOldest, accepting, begun, begun_at, with_trades}
use Rattle.gq_slots.specs.internal.Slots_invariant.{AreUnmade, IsObject, IsSlots, IsUnmade}
use Rattle.gq_slots.specs.internal.Put.{put, with_object, with_store}
use Rattle.gq_slots.proofs.Slot_content_positions.{server_set, session_same, slots_long, taken_set}
use Rattle.gq_slots.proofs.Content_change_world.{IsCall, holder_same, kept_then, others_stay, puts_then, same_quotas, stays_raised}
use Rattle.gq_slots.proofs.Leaf_use_paid.{HasHeap, heap_in}
use Rattle.gq_slots.proofs.Emptied_slot_refills.{session_put, set_again}
use Rattle.gq_trade.proofs.Sessions_kept.{between_at}
use Rattle.gq_slots.proofs.Slot_change_worlds.{session_there, set_there, some_same}
use Rattle.gq_slots.proofs.Slot_call_effects.{objects_set, of_parts, same_heap, sound_set}
use Rattle.gq_slots.proofs.Requested_session_world.{map_set}

-- ONE REQUEST FEWER

-- of these requests, r is taken, and the rest is left
record TakesOne (ss : List (Option Session)) (rs rest : List Request) (r : Request) : Type 0 where
  unmade : AreUnmade ss rs → IsUnmade r.ask (session_in ss r.session).object × AreUnmade ss rest
  others : (x : ℕ) → AreOther x (clients_in ss rs) → ((session_in ss r.session).client ≡ x → ⊥) × AreOther x (clients_in ss rest)
  alone : AreApart (clients_in ss rs) → AreOther (session_in ss r.session).client (clients_in ss rest)
  are_of : AreOf ss rs → IsTaken ss r.session × AreOf ss rest

some_in : (a b : Request × List Request) → Some a ≡ Some b → a ≡ b
some_in a b e = cc

abbrev pair : Request → List Request → Request × List Request
pair r rs = (r, rs)

later : (ss : List (Option Session)) (r : Request) (rs : List Request) (p : Request × List Request) (o : Option (Request × List Request))
    → kept_before r o ≡ Some p → ((q : Request × List Request) → o ≡ Some q → TakesOne ss rs q.1 q.0) → TakesOne ss (r ∷ rs) p.1 p.0
later ss r rs p None e further = cc
later ss r rs p (Some q) e further =
    let k = further q refl in
    subst (λ (t : Request × List Request). TakesOne ss (r ∷ rs) t.1 t.0) (some_in (pair q.0 (r ∷ q.1)) p e) (record {
      unmade = λ a. let b = k.unmade a.1 in (b.0, (a.0, b.1));
      others = λ x o. let b = k.others x o.1 in (b.0, (o.0, b.1));
      alone = λ a. ((λ f. (k.others (session_in ss r.session).client a.0).0 (sym f)), k.alone a.1);
      are_of = λ a. let b = k.are_of a.2 in (b.0, (a.0, a.1, b.1));
    })

first : (ss : List (Option Session)) (r : Request) (rs : List Request) (p : Request × List Request) → Some (pair r rs) ≡ Some p
    → TakesOne ss (r ∷ rs) p.1 p.0
first ss r rs p e =
    subst (λ (t : Request × List Request). TakesOne ss (r ∷ rs) t.1 t.0) (some_in (pair r rs) p e)
    (record { unmade = λ a. a; others = λ x o. o; alone = λ a. a.0; are_of = λ a. (a.0, a.2) })

takes_one : (ss : List (Option Session)) (x : ℕ) (rs : List Request) (p : Request × List Request) → oldest_to x rs ≡ Some p → TakesOne ss rs p.1 p.0
takes_one ss x [] p e = cc
takes_one ss x (r ∷ rs) p e = elim (eqb_tells r.server x) [
  | inl t ↦ first ss r rs p (rw t.0 at e)
  | inr n ↦ later ss r rs p (oldest_to x rs) (rw n.0 at e) (λ q f. takes_one ss x rs q f)
]

-- OTHER REQUESTS, ANOTHER LEVEL

pub fewer_kept : (s : Slots) (rs : List Request) → AreUnmade s.trades.trading.sessions rs → IsSlots s
    → IsSlots (with_trades s (with_requests s.trades.trading rs))
fewer_kept s rs u i = record {
  count = i.count;
  heaps = i.heaps;
  long = record { own = i.long.own; slots = i.long.slots };
  sound = record { objects = i.sound.objects; unmade = u };
  holders = λ x h lt.
      let o = i.holders x h lt in
      record { keeps = o.keeps; ram = o.ram; caps = o.caps; peaked = o.peaked; eight = o.eight };
}

-- a session at another level, and accepted or not
abbrev pub labelled : Session → ℕ → Bool → Session
labelled q l b = record {
  client = q.client;
  slot_id = q.slot_id;
  server = q.server;
  service = q.service;
  level = l;
  donation = q.donation;
  accepted = b;
  object = q.object;
  slots = q.slots;
}

pub labelled_kept : (s : Slots) (k l : ℕ) (b : Bool) → IsTaken s.trades.trading.sessions k → IsSlots s
    → IsSlots (with_trades s (with_session s.trades.trading k (labelled (session_at s.trades.trading k) l b)))
labelled_kept s k l b there i =
    let t = s.trades.trading in
    let v = labelled (session_at t k) l b in
    record {
      count = i.count;
      heaps = i.heaps;
      long = record { own = i.long.own; slots = λ j u. slots_long t.sessions k v j u (i.long.slots k there) i.long.slots };
      sound = sound_set t k v refl i.sound;
      holders = λ x h lt. holder_same s (with_trades s (with_session t k v)) x (get_or s.heaps x h) refl
          (ap (λ ts. get_or s.own x [] ++ ts) (session_same x k t.sessions v there refl)) refl refl (i.holders x h lt);
    }

pub labelled_world : (f : Frame) (s : Slots) (k l : ℕ) (b : Bool) → IsTaken s.trades.trading.sessions k
    → world_seen f (with_trades s (with_session s.trades.trading k (labelled (session_at s.trades.trading k) l b)))
    ≡ world.with_session (world_seen f s) k
    (record (session_seen f.names (memory_of s (session_at s.trades.trading k).server) (session_at s.trades.trading k)) { level = l; accepted = b })
labelled_world f s k l b there =
    let t = s.trades.trading in
    let w = world_seen f s in
    let e = map_set (λ y. session_seen f.names (memory_of s y.server) y) t.sessions k (labelled (session_at t k) l b) in
    λ z. record { leaves = w.leaves; sessions = e z; requests = w.requests }

-- WHAT A REQUEST BEGINS

-- slots as they are once a request is taken that asks for a
record Began (s n : Slots) (k : ℕ) (a : Ask) (m : ℕ) (rest : List Request) : Type 0 where
  kept : IsSlots n
  seen_so : (f : Frame) → world_seen f n ≡ accepting (world_seen f s) k a m (map request_seen rest)
  leaves : n.trades.trading.leaves ≡ s.trades.trading.leaves
  slot_ids : (q : SlotId) → IsSlotId s q → IsSlotId n q
  holders : (q : SlotId) → holder n q ≡ holder s q

slot_ids_so : (s : Slots) (v : Trading) → ((j : ℕ) → IsTaken s.trades.trading.sessions j → IsTaken v.sessions j) → (q : SlotId) → IsSlotId s q
    → IsSlotId (with_trades s v) q
slot_ids_so s v f (InLeaf x i) there = there
slot_ids_so s v f (InSession k i) there = (f k there.0, there.1)
slot_ids_so s v f (InObject k) there = f k there

holders_so : (s : Slots) (v : Trading) → ((j : ℕ) → (session_in v.sessions j).server ≡ (session_in s.trades.trading.sessions j).server) → (q : SlotId)
    → holder (with_trades s v) q ≡ holder s q
holders_so s v f (InLeaf x i) = refl
holders_so s v f (InSession k i) = f k
holders_so s v f (InObject k) = f k

-- the session in the world
abbrev pub its_session : Frame → Slots → ℕ → world.Session
its_session f s k = session_seen f.names (memory_of s (session_at s.trades.trading k).server) (session_at s.trades.trading k)

begun_is : (f : Frame) (s : Slots) (k : ℕ) (a : Ask) (m : ℕ) (rest : List Request) → IsTaken s.trades.trading.sessions k
    → accepting (world_seen f s) k a m (map request_seen rest)
    ≡ world.with_session (record (world_seen f s) { requests = map request_seen rest }) k (begun a m (its_session f s k))
begun_is f s k a m rest there =
    ap (begun_at (record (world_seen f s) { requests = map request_seen rest }) k a m)
    (ap world.joined (session_there (λ y. session_seen f.names (memory_of s y.server) y) s.trades.trading.sessions k there))

module _ (s : Slots) (k m : ℕ) (rest : List Request) (i : IsSlots s) (there : IsTaken s.trades.trading.sessions k)
    (u : AreUnmade s.trades.trading.sessions rest) where
  abbrev s0 : Slots
  s0 = with_trades s (with_requests s.trades.trading rest)

  i0 : IsSlots s0
  i0 = fewer_kept s rest u i

  -- nothing but the request goes
  plain : (a : Ask) → ((f : Frame) → begun a m (its_session f s k) ≡ its_session f s k) → Began s s0 k a m rest
  plain a same = record {
    kept = i0;
    seen_so = λ f.
        let w = world_seen f s in
        sym (begun_is f s k a m rest there
        ∙ (λ z. record {
          leaves = w.leaves;
          sessions = set w.sessions k (Some (same f z));
          requests = map request_seen rest;
        })
        ∙ (λ z. record {
          leaves = w.leaves;
          sessions = set_there w.sessions k (Some (its_session f s k))
              (session_there (λ y. session_seen f.names (memory_of s y.server) y) s.trades.trading.sessions k there) z;
          requests = map request_seen rest;
        }));
    leaves = refl;
    slot_ids = slot_ids_so s (with_requests s.trades.trading rest) (λ j t. t);
    holders = holders_so s (with_requests s.trades.trading rest) (λ j. refl);
  }

  level_more : (n : ℕ) → n + 1 ≡ suc n
  level_more n = omega arith

  upgraded_level : Began s (with_trades s (with_session (with_requests s.trades.trading rest) k (raised (session_at s.trades.trading k)))) k Upgrade m rest
  upgraded_level =
      let q = session_at s.trades.trading k in
      let v = with_session (with_requests s.trades.trading rest) k (raised q) in
      record {
        kept = labelled_kept s0 k (q.level + 1) q.accepted there i0;
        seen_so = λ f.
            labelled_world f s0 k (q.level + 1) q.accepted there
            ∙ (λ z. world.with_session (record (world_seen f s) { requests = map request_seen rest }) k
            (record (its_session f s k) { level = level_more q.level z }))
            ∙ sym (begun_is f s k Upgrade m rest there);
        leaves = refl;
        slot_ids = slot_ids_so s v (λ j t. taken_set s.trades.trading.sessions k (raised q) j t);
        holders = holders_so s v (λ j. server_set s.trades.trading.sessions k (raised q) j refl);
      }

-- AN OBJECT IS MADE

slice_object : (st : Store) (t : Content) (n : ℕ) (bs : List ℕ) → seen st t ≡ world.Bytes form.Slice n bs → IsObject t
slice_object st Empty n bs e = tt
slice_object st (Block p k) n bs e = cc
slice_object st (Slice k m) n bs e = tt
slice_object st (Space k m) n bs e = cc
slice_object st (Pool p) n bs e = cc
slice_object st (Link k) n bs e = cc
slice_object st (Waiting k) n bs e = cc

-- no request to open of the session k waits
unmade_other : (ss : List (Option Session)) (k : ℕ) (v : Session) (rs : List Request) → AreOther (session_in ss k).client (clients_in ss rs)
    → AreUnmade ss rs → AreUnmade (set ss k (Some v)) rs
unmade_other ss k v [] o a = tt
unmade_other ss k v (r ∷ rs) o a =
    let same = ap found (get_or-set_other ss k r.session (Some v) None (λ e. o.0 (ap (λ j. (session_in ss j).client) e))) in
    (subst (λ (y : Session). IsUnmade r.ask y.object) (sym same) a.0, unmade_other ss k v rs o.1 a.1)

set_get : {A : Type 0} (xs : List A) (k : ℕ) (a b : A) → slice_get xs k ≡ Some a → slice_get (set xs k b) k ≡ Some b
set_get [] k a b e = cc
set_get (x ∷ xs) zero a b e = refl
set_get (x ∷ xs) (suc k) a b e = set_get xs k a b e

module _ (s : Slots) (v : Trading) (k : ℕ) (rest : List Request) (i : IsSlots s) (w : IsTrading s.trades.trading)
    (there : IsTaken s.trades.trading.sessions k) (u : AreUnmade s.trades.trading.sessions rest) (of : AreOf s.trades.trading.sessions rest)
    (alone : AreOther (session_at s.trades.trading k).client (clients_in s.trades.trading.sessions rest))
    (empty : (session_at s.trades.trading k).object ≡ Empty) (o : Opens s.trades.trading v k) where
  abbrev t0 : Trading
  t0 = with_requests s.trades.trading rest

  abbrev fewer : Slots
  fewer = with_trades s t0

  abbrev x : ℕ
  x = server_of s.trades.trading k

  abbrev m : ℕ
  m = object_size s.trades.trading k

  fewer_slots : IsSlots fewer
  fewer_slots = fewer_kept s rest u i

  fewer_trading : IsTrading t0
  fewer_trading = record {
    tree = w.tree;
    nodes = w.nodes;
    leaves = w.leaves;
    apart = w.apart;
    objects = w.objects;
    between = w.between;
    requests = of;
  }

  below : x < length s.own
  below =
      let b = between_at (length s.trades.trading.leaves) (length s.trades.trading.objects) s.trades.trading.sessions k w.between there in
      omega (arith, b.server, i.count)

  abbrev heap_here : HasHeap s.heaps x
  heap_here = heap_in s.heaps x (omega (arith, below, i.count, i.heaps))

  abbrev h : Heap
  h = heap_here.heap

  call_here : IsCall fewer v.ledger (InObject k) h h Empty o.object
  call_here = record {
    slot_id = there;
    content = empty;
    heap = heap_here.is;
    others = others_stay fewer v.ledger (InObject k) fewer_slots fewer_trading below (λ b ne. o.makes.others.stores b ne);
    quotas = record {
      price = o.makes.others.whole.0;
      quota = (same_quotas s.trades.trading.ledger v.ledger (account_of s.trades.trading x) o.makes.others).quota;
    };
    changes = o.makes.changes h;
    pays = o.makes.pays h;
  }

  -- with the object
  abbrev made : Slots
  made = put (with_store fewer v.ledger x h) (InObject k) o.object

  no_places : (c : ℕ) → slot_places c (seen (store_at v.ledger (account_of s.trades.trading x)) o.object) ≡ 0
  no_places c = ap (slot_places c) o.makes.seen

  made_slots : IsSlots made
  made_slots =
      kept_then fewer v.ledger (InObject k) h h Empty o.object fewer_slots fewer_trading below call_here (record {
        objects = objects_set k s.trades.trading.sessions (with_object (session_at s.trades.trading k) o.object) i.sound.objects
            (slice_object (store_at v.ledger (account_of s.trades.trading x)) o.object m (replicate m 0) o.makes.seen);
        unmade = unmade_other s.trades.trading.sessions k (with_object (session_at s.trades.trading k) o.object) rest alone u;
      }) (stays_raised fewer v.ledger (InObject k) h h Empty o.object fewer_slots fewer_trading below call_here (λ c. omega (arith, no_places c)))
      (λ e. e)

  made_puts : PutsSlot fewer made (InObject k) (world.Bytes form.Slice m (replicate m 0))
  made_puts =
      subst (PutsSlot fewer made (InObject k)) o.makes.seen
      (puts_then fewer v.ledger (InObject k) h h Empty o.object fewer_slots fewer_trading below call_here refl)

  made_there : IsTaken made.trades.trading.sessions k
  made_there = made_puts.rest.slot_ids (InObject k) there

  abbrev q : Session
  q = session_at s.trades.trading k

  made_session : session_at made.trades.trading k ≡ with_object q o.object
  made_session = session_put s.trades.trading.sessions k (with_object q o.object) there

  -- and accepted
  abbrev finished : Slots
  finished = with_trades made (with_session made.trades.trading k (labelled (session_at made.trades.trading k) q.level true))

  sessions_done : set (set s.trades.trading.sessions k (Some (with_object q o.object))) k (Some (labelled (session_at made.trades.trading k) q.level true))
      ≡ set s.trades.trading.sessions k (Some (opened q o.object))
  sessions_done =
      set_again s.trades.trading.sessions k (Some (with_object q o.object)) (Some (labelled (session_at made.trades.trading k) q.level true))
      ∙ ap (λ z. set s.trades.trading.sessions k (Some (labelled z q.level true))) made_session

  done_is : finished ≡ with_trades s (with_requests v rest)
  done_is =
      (λ z. record made {
        trades = record made.trades { trading = record made.trades.trading { sessions = sessions_done z } };
        heaps = same_heap s x h
            heap_here.is z;
      })
      ∙ ap (λ y. with_trades s (with_requests y rest)) (sym o.is)

  -- the session in the world, with its object
  abbrev with_it : world.Session → world.Session
  with_it y = record y { object = world.Bytes form.Slice m (replicate m 0) }

  world_made : (f : Frame) → world_seen f made ≡ world.with_session (world_seen f fewer) k (with_it (its_session f s k))
  world_made f =
      made_puts.seen_so f
      ∙ ap (λ y. world.put_object (world_seen f fewer) y k (world.Bytes form.Slice m (replicate m 0)))
      (ap world.joined (session_there (λ y. session_seen f.names (memory_of fewer y.server) y) s.trades.trading.sessions k there))

  session_made : (f : Frame) → its_session f made k ≡ with_it (its_session f s k)
  session_made f =
      let a = session_there (λ y. session_seen f.names (memory_of made y.server) y) made.trades.trading.sessions k made_there in
      let b = ap (λ (y : world.World). slice_get y.sessions k) (world_made f) in
      let c = set_get (world_seen f fewer).sessions k (Some (its_session f s k)) (Some (with_it (its_session f s k)))
      (session_there (λ y. session_seen f.names (memory_of fewer y.server) y) s.trades.trading.sessions k there) in
      some_same (its_session f made k) (with_it (its_session f s k))
      (some_same (Some (its_session f made k)) (Some (with_it (its_session f s k))) (sym a ∙ b ∙ c))

  open_now : Began s finished k Open m rest
  open_now = record {
    kept = labelled_kept made k q.level true made_there made_slots;
    seen_so = λ f.
        let w0 = world_seen f fewer in
        let y = its_session f s k in
        labelled_world f made k q.level true made_there
        ∙ (λ z. world.with_session (world_made f z) k (record (session_made f z) { level = q.level; accepted = true }))
        ∙ (λ z. record {
          leaves = w0.leaves;
          sessions = set_again w0.sessions k (Some (with_it y)) (Some (record (with_it y) { level = q.level; accepted = true })) z;
          requests = w0.requests;
        })
        ∙ sym (begun_is f s k Open m rest there);
    leaves = refl;
    slot_ids = λ y l. slot_ids_so made (with_session made.trades.trading k (labelled (session_at made.trades.trading k) q.level true))
        (λ j t. taken_set made.trades.trading.sessions k (labelled (session_at made.trades.trading k) q.level true) j t) y
        (made_puts.rest.slot_ids y (slot_ids_so s t0 (λ j t. t) y l));
    holders = λ y.
        holders_so made (with_session made.trades.trading k (labelled (session_at made.trades.trading k) q.level true))
        (λ j. server_set made.trades.trading.sessions k (labelled (session_at made.trades.trading k) q.level true) j refl) y
        ∙ made_puts.rest.holders y ∙ holders_so s t0 (λ j. refl) y;
  }

  opened_now : Began s (with_trades s (with_requests v rest)) k Open m rest
  opened_now = subst (λ n. Began s n k Open m rest) done_is open_now

-- ANY REQUEST

begins : (a : Ask) (s : Slots) (v : Trading) (k : ℕ) → IsSlots s → IsTrading s.trades.trading → IsTaken s.trades.trading.sessions k
    → AreUnmade s.trades.trading.sessions v.requests → AreOf s.trades.trading.sessions v.requests
    → AreOther (session_at s.trades.trading k).client (clients_in s.trades.trading.sessions v.requests)
    → IsUnmade a (session_at s.trades.trading k).object → Begins a s.trades.trading (with_requests v s.trades.trading.requests) k
    → Began s (with_trades s v) k a (object_size s.trades.trading k) v.requests
begins Open s v k i w there u of alone empty o =
    opened_now s (with_requests v s.trades.trading.requests) k v.requests i w there u of alone empty o
begins Upgrade s v k i w there u of alone empty e =
    subst (λ y. Began s (with_trades s y) k Upgrade (object_size s.trades.trading k) v.requests) (sym (ap (λ y. with_requests y v.requests) e))
    (upgraded_level s k (object_size s.trades.trading k) v.requests i there u)
begins Close s v k i w there u of alone empty e =
    subst (λ y. Began s (with_trades s y) k Close (object_size s.trades.trading k) v.requests) (sym (ap (λ y. with_requests y v.requests) e))
    (plain s k (object_size s.trades.trading k) v.requests i there u Close (λ f. refl))
begins (Call n) s v k i w there u of alone empty e =
    subst (λ y. Began s (with_trades s y) k (Call n) (object_size s.trades.trading k) v.requests) (sym (ap (λ y. with_requests y v.requests) e))
    (plain s k (object_size s.trades.trading k) v.requests i there u (Call n) (λ f. refl))

served : (f : Frame) (s : Slots) (rs : List Request) → AreOf s.trades.trading.sessions rs → AreServed (world_seen f s) rs
served f s [] o = tt
served f s (r ∷ rs) o = (
  λ y.
      ap (λ z. step.is_to y (world.joined z)) (session_there (λ z. session_seen f.names (memory_of s z.server) z) s.trades.trading.sessions r.session o.0)
      ∙ ap (λ n. eqb n y) o.1,
  served f s rs o.2,
)

-- the oldest request is taken
taken_now : (s : Slots) (v : Trading) (x : ℕ) (r : Request) → IsTrades s.trades → IsTrading s.trades.trading → IsSlots s
    → Accepts s.trades.trading v x r → Began s (with_trades s v) r.session r.ask (object_size s.trades.trading r.session) v.requests
taken_now s v x r t w i a =
    let one = takes_one s.trades.trading.sessions x s.trades.trading.requests (pair r v.requests) a.oldest in
    let of = one.are_of w.requests in
    let u = one.unmade i.sound.unmade in
    begins r.ask s v r.session i w of.0 u.1 of.1 (one.alone t.asks) u.0 a.begins

same_nodes : (s : Slots) (v : Trades) → v.nodes ≡ s.trades.nodes → of_parts v s.own s.heaps ≡ with_trades s v.trading
same_nodes s v e = λ z. of_parts (record { trading = v.trading; nodes = e z }) s.own s.heaps

takes_oldest : (s : Slots) (v : Trades) (x : ℕ) (r : Request) → IsTrades s.trades → IsTrading s.trades.trading → IsSlots s
    → v.nodes ≡ s.trades.nodes → Accepts s.trades.trading v.trading x r → TakesOldest s (of_parts v s.own s.heaps) x r
takes_oldest s v x r t w i e a =
    let d = taken_now s v.trading x r t w i a in
    subst (λ n. TakesOldest s n x r) (sym (same_nodes s v e)) (record {
      accepts = a;
      oldest = λ f. oldest_is (world_seen f s) x s.trades.trading.requests (served f s s.trades.trading.requests w.requests) ∙ ap taken_seen a.oldest;
      seen_so = d.seen_so;
      nodes = refl;
      leaves = d.leaves;
      slot_ids = d.slot_ids;
      holders = d.holders;
    })

-- AS THE CONTRACT SAYS IT

pub accept_kept : {E : Type 0} (res : Result (Option Request) E) (s : Slots) (v : Trades) (x : ℕ) → IsTrades s.trades → IsTrading s.trades.trading
    → IsSlots s → v.nodes ≡ s.trades.nodes → IfOk res (λ o. IfNone o ((oldest_to x s.trades.trading.requests ≡ None) × (v ≡ s.trades)))
    → IfOk res (λ o. IfSome o (λ r. Accepts s.trades.trading v.trading x r)) → OnErr res (v ≡ s.trades) → IsSlots (of_parts v s.own s.heaps)
accept_kept (Err e) s v x t w i n none some err = subst (λ y. IsSlots (of_parts y s.own s.heaps)) (sym err) i
accept_kept (Ok None) s v x t w i n none some err = subst (λ y. IsSlots (of_parts y s.own s.heaps)) (sym none.1) i
accept_kept (Ok (Some r)) s v x t w i n none some err = subst IsSlots (sym (same_nodes s v n)) (taken_now s v.trading x r t w i some).kept

pub accept_takes : {E : Type 0} (res : Result (Option Request) E) (z s : Slots) (v : Trades) (x : ℕ) → s ≡ z → IsTrades s.trades
    → IsTrading s.trades.trading → IsSlots s → v.nodes ≡ s.trades.nodes → IfOk res (λ o. IfSome o (λ r. Accepts s.trades.trading v.trading x r))
    → IfOk res (λ o. IfSome o (λ r. TakesOldest z (of_parts v s.own s.heaps) x r))
accept_takes (Err e) z s v x q t w i n some = some
accept_takes (Ok None) z s v x q t w i n some = some
accept_takes (Ok (Some r)) z s v x q t w i n some = subst (λ y. TakesOldest y (of_parts v s.own s.heaps) x r) q (takes_oldest s v x r t w i n some)

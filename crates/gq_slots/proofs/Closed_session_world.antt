-- Sessions that end: what holds of all slots then, and which world they are.
use Rattle.std.proofs.Common.{◌≡◌, ℕ, zero, suc, ◌+◌, ◌-◌, ◌<◌, ◌≤◌, inl, inr, Bool, true, false, cond, eqb, List, [], ◌∷◌, ◌++◌, length, map, set, take}
use Rattle.std.proofs.Common.{drop, get_or, get_or-set_other, replicate, append_assoc, Option, Some, None, Result, Ok, Err, OnOk, OnErr, refl}
use Rattle.std.proofs.Common.{sym, ap, subst, ◌∙◌, arith}
use Rattle.std.specs.Prelude.{IsTrue, is_some}
use Rattle.std.proofs.lemmas.Bool.{cases_eq}
use Rattle.std.proofs.lemmas.Bool.Decides.{nat_tests}
use Rattle.gq_tariff.specs.declared.amount.Amount.{Amount}
use Rattle.gq_tariff.specs.Prices.{up}
use Rattle.gq_model.specs.machine.World as world
use Rattle.gq_store.specs.Store.{Store, one_more}
use Rattle.gq_heap.specs.declared.heap.Heap.{Heap}
use Rattle.gq_heap.proofs.Heap_cell_lists.{up_pos}
use Rattle.gq_ram.specs.declared.account.Account.{Account}
use Rattle.gq_ram.specs.Account_table.{IsOpen, account_at, its_account as the_account}
use Rattle.gq_ram.specs.Ledgers.{Ledger, IsBalanced}
use Rattle.gq_ram.proofs.Quota_move_sequences.{used_kept}
use Rattle.gq_trade.specs.Numbers.{IsTaken}
use Rattle.gq_trade.specs.declared.requests.Request.{Request}
use Rattle.gq_contents.specs.declared.content.Content.{Content}
use Rattle.gq_contents.specs.declared.content.Content.TheVariants.{Empty, Block, Slice, Space, Pool, Link, Waiting}
use Rattle.gq_contents.specs.Contents_invariant.{KeepsContents}
use Rattle.gq_contents.specs.Contents.{IsSlice, IsContent, size_of}
use Rattle.gq_contents.proofs.Content_lists.{each_prefix}
use Rattle.gq_trade.specs.declared.session.Session.{Session}
use Rattle.gq_trade.specs.declared.session.SlotId.{SlotId}
use Rattle.gq_trade.specs.declared.session.SlotId.TheVariants.{InLeaf, InSession, InObject}
use Rattle.gq_trade.specs.Seen_sessions.{seen_in, session_seen, sessions_seen}
use Rattle.gq_trade.specs.Trading.{AreOfOthers, Closes, Frees, IsTrading, Trading, account_of, found, given, server_of, session_at}
use Rattle.gq_trade.specs.Trading.{session_in, store_of, with_ledger, with_session, with_sessions}
use Rattle.gq_trade.proofs.Session_table_definition.{given_is}
use Rattle.gq_trade.proofs.Sessions_kept.{between_at}
use Rattle.gq_trade.specs.Trades.{IsTrades, Trades}
use Rattle.gq_slots.specs.Slots.{Frame, IsSlotId, Slots, holder, memory_of, content_at, world_seen}
use Rattle.gq_slots.specs.Calls.{PutsSlot}
use Rattle.gq_slots.specs.Session_calls.{EndsSession, IsBeside, ending, with_trades}
use Rattle.gq_slots.specs.internal.Slots_invariant.{AreObjects, AreUnmade, IsObject, IsSlots, IsUnmade, session_contents, contents, contents_of}
use Rattle.gq_slots.specs.internal.Put.{put, with_object, with_store}
use Rattle.gq_slots.proofs.Slot_content_positions.{back, prefix, session_split, split_now, taken_below}
use Rattle.gq_slots.proofs.Slot_change_worlds.{session_there}
use Rattle.gq_slots.proofs.Content_change_world.{IsCall, kept_then, others_stay, puts_then, same_quotas, stays_raised}
use Rattle.gq_slots.proofs.Emptied_slot_refills.{set_again}
use Rattle.gq_slots.proofs.Equal_leaf_contents.{Alike, IsWithin, alike, alike_behind, alike_fewer, alike_is, alike_then, holder_alike, within}
use Rattle.gq_slots.proofs.Slot_call_effects.{objects_set, object_at, of_parts, same_heap}
use Rattle.gq_slots.proofs.Requested_session_world.{leaves_donated, live_open}
use Rattle.gq_slots.proofs.Leaf_use_paid.{HasHeap, heap_in}

-- A SESSION FEWER

not_taken : false ≡ true → ⊥
not_taken e = cc

-- what is left of the sessions, each as it was
left_at : (ss : List (Option Session)) (k j : ℕ) → (j ≡ k → ⊥) → session_in (set ss k None) j ≡ session_in ss j
left_at ss k j ne = ap found (get_or-set_other ss k j None None ne)

taken_left : (ss : List (Option Session)) (k j : ℕ) → (j ≡ k → ⊥) → IsTaken ss j → IsTaken (set ss k None) j
taken_left ss k j ne t = subst (λ o. IsTrue (is_some o)) (sym (get_or-set_other ss k j None None ne)) t

left_long : (ss : List (Option Session)) (k j : ℕ) → IsTaken (set ss k None) j → ((i : ℕ) → IsTaken ss i → length (session_in ss i).slots ≡ 8)
    → length (session_in (set ss k None) j).slots ≡ 8
left_long [] k j t all = all j t
left_long (o ∷ ss) zero zero t all = absurd (not_taken t)
left_long (o ∷ ss) zero (suc j) t all = all (suc j) t
left_long (o ∷ ss) (suc k) zero t all = all zero t
left_long (o ∷ ss) (suc k) (suc j) t all = left_long ss k j t (λ i u. all (suc i) u)

left_objects : (ss : List (Option Session)) (k : ℕ) → AreObjects ss → AreObjects (set ss k None)
left_objects [] k a = a
left_objects (None ∷ ss) zero a = a
left_objects (Some q ∷ ss) zero a = a.1
left_objects (None ∷ ss) (suc k) a = left_objects ss k a
left_objects (Some q ∷ ss) (suc k) a = (a.0, left_objects ss k a.1)

-- no request of the session k waits
left_unmade : (ss : List (Option Session)) (k : ℕ) (rs : List Request) → AreOfOthers k rs → AreUnmade ss rs → AreUnmade (set ss k None) rs
left_unmade ss k [] o a = tt
left_unmade ss k (r ∷ rs) o a =
    (subst (λ (y : Session). IsUnmade r.ask y.object) (sym (left_at ss k r.session o.0)) a.0, left_unmade ss k rs o.1 a.1)

other_unmade : (ss : List (Option Session)) (k : ℕ) (v : Session) (rs : List Request) → AreOfOthers k rs → AreUnmade ss rs
    → AreUnmade (set ss k (Some v)) rs
other_unmade ss k v [] o a = tt
other_unmade ss k v (r ∷ rs) o a =
    let same = ap found (get_or-set_other ss k r.session (Some v) None o.0) in
    (subst (λ (y : Session). IsUnmade r.ask y.object) (sym same) a.0, other_unmade ss k v rs o.1 a.1)

-- what is left to pay for
contents_left : (x k : ℕ) (ss : List (Option Session)) → k < length ss
    → session_contents x (set ss k None) ≡ session_contents x (take k ss) ++ session_contents x (drop (suc k) ss)
contents_left x k [] lt = absurd (omega (arith, lt))
contents_left x zero (o ∷ ss) lt = refl
contents_left x (suc k) (None ∷ ss) lt = contents_left x k ss (omega (arith, lt))
contents_left x (suc k) (Some t ∷ ss) lt =
    ap (λ ts. contents_of x t ++ ts) (contents_left x k ss (omega (arith, lt)))
    ∙ sym (append_assoc (contents_of x t) (session_contents x (take k ss)) (session_contents x (drop (suc k) ss)))

bank_gone : (b : Bool) (ts us : List Content) → ts ≡ replicate 8 Empty → Alike (cond b (Empty ∷ ts) [] ++ us) us
bank_gone true ts us e = subst (λ ys. Alike (Empty ∷ (ys ++ us)) us) (sym e) (alike_fewer 9 us)
bank_gone false ts us e = alike us

gone : (x k : ℕ) (ss : List (Option Session)) (v : Session) → k < length ss → v.object ≡ Empty → v.slots ≡ replicate 8 Empty
    → Alike (session_contents x (set ss k (Some v))) (session_contents x (set ss k None))
gone x k ss v lt e f =
    let prefix = session_contents x (take k ss) in
    let back = session_contents x (drop (suc k) ss) in
    let mid : Alike (contents_of x v ++ back) back =
    subst (λ o. Alike (cond (eqb v.server x) (o ∷ v.slots) [] ++ back) back) (sym e) (bank_gone (eqb v.server x) v.slots back f) in
    alike_then (session_contents x (set ss k (Some v))) (prefix ++ (contents_of x v ++ back)) (session_contents x (set ss k None))
    (alike_is (session_contents x (set ss k (Some v))) (prefix ++ (contents_of x v ++ back)) (sym (session_split x k ss v lt)))
    (alike_then (prefix ++ (contents_of x v ++ back)) (prefix ++ back) (session_contents x (set ss k None))
    (alike_behind prefix (contents_of x v ++ back) back mid) (alike_is (prefix ++ back) (session_contents x (set ss k None)) (contents_left x k ss lt)))

-- eight empty slots
all_empty : (n : ℕ) (ts : List Content) → length ts ≡ n → ((i : ℕ) → i < n → get_or ts i Empty ≡ Empty) → ts ≡ replicate n Empty
all_empty zero [] e all = refl
all_empty zero (t ∷ ts) e all = absurd (omega (arith, e))
all_empty (suc n) [] e all = absurd (omega (arith, e))
all_empty (suc n) (t ∷ ts) e all =
    let a = all zero (omega arith) in
    let b = all_empty n ts (omega (arith, e)) (λ i lt. all (suc i) (omega (arith, lt))) in
    λ k. a k ∷ b k

-- WHAT THE SERVER USES ONCE THE OBJECT IS FREE

bytes_within : (used quota now then_ price : ℕ) → used ≤ quota → then_ ≡ quota → then_ - now ≡ quota - used + price → 0 < price → now ≤ then_
bytes_within used quota now then_ price a b c d = omega (arith, a, b, c, d)

some_is : {A : Type 0} (a b : A) → Some a ≡ Some b → a ≡ b
some_is a b e = cc

caps_within : (p : ℕ) (b : Bool) (used quota now then_ : ℕ) → eqb p 0 ≡ b
    → cond b None (Some (then_ - now)) ≡ one_more (cond b None (Some (quota - used))) → (p ≡ 0 → ⊥) → now ≤ then_
caps_within p true used quota now then_ e c ne = absurd (ne (grind (arith, nat_tests, e)))
caps_within p false used quota now then_ e c ne =
    let f : then_ - now ≡ quota - used + 1 = some_is (then_ - now) (quota - used + 1) c in
    omega (arith, f)

module _ (w : Trading) (m : Ledger) (x : ℕ) (t : Content) (b : IsBalanced w.ledger) (f : Frees w (with_ledger w m) x t) where
  abbrev no : ℕ
  no = account_of w x

  -- its own
  its_own : IsWithin m no
  its_own =
      let q = ap (λ (y : Amount). y.ram) f.others.quota in
      record {
        ram = bytes_within (account_at w.ledger.accounts no).used.ram (account_at w.ledger.accounts no).quota.ram
            (account_at m.accounts no).used.ram (account_at m.accounts no).quota.ram (up (size_of t + 32)) (b.within no) q f.back
            (up_pos (size_of t + 32) (omega arith));
        caps = λ ne.
            let p = f.others.whole.0 in
            let c : cond (eqb m.price 0) None (Some ((account_at m.accounts no).quota.caps - (account_at m.accounts no).used.caps))
            ≡ one_more (cond (eqb m.price 0) None (Some ((account_at w.ledger.accounts no).quota.caps
            - (account_at w.ledger.accounts no).used.caps))) =
            f.caps ∙ (λ z. one_more (cond (eqb (sym p z) 0) None (Some ((account_at w.ledger.accounts no).quota.caps
            - (account_at w.ledger.accounts no).used.caps)))) in
            caps_within m.price (eqb m.price 0) (account_at w.ledger.accounts no).used.caps
            (account_at w.ledger.accounts no).quota.caps (account_at m.accounts no).used.caps (account_at m.accounts no).quota.caps refl
            c ne;
      }

  -- all others'
  others_own : (a : ℕ) → (a ≡ no → ⊥) → IsWithin m a
  others_own a ne =
      let e : account_at m.accounts a ≡ account_at w.ledger.accounts a = ap the_account (f.others.accounts a ne) in
      record {
        ram = subst (λ (y : Account). y.used.ram ≤ y.quota.ram) (sym e) (b.within a);
        caps = λ z. subst (λ (y : Account). y.used.caps ≤ y.quota.caps) (sym e) (b.caps_within a);
      }

  freed_within : (a : ℕ) → IsWithin m a
  freed_within a = elim (cases_eq a no) [
    | inl e ↦ subst (IsWithin m) (sym e) its_own
    | inr ne ↦ others_own a ne
  ]

-- THE WORLD

map_unset : (g : Session → world.Session) (ss : List (Option Session)) (k : ℕ) → map (seen_in g) (set ss k None) ≡ set (map (seen_in g) ss) k None
map_unset g [] k = refl
map_unset g (o ∷ ss) zero = refl
map_unset g (o ∷ ss) (suc k) = ap (λ ys. seen_in g o ∷ ys) (map_unset g ss k)

slot_ids_left : (s : Slots) (k : ℕ) (v : Trading) → v.sessions ≡ set s.trades.trading.sessions k None → (p : SlotId) → IsBeside k p → IsSlotId s p
    → IsSlotId (with_trades s v) p
slot_ids_left s k v e (InLeaf x i) ne there = there
slot_ids_left s k v e (InSession j i) ne there = (subst (λ ss. IsTaken ss j) (sym e) (taken_left s.trades.trading.sessions k j ne there.0), there.1)
slot_ids_left s k v e (InObject j) ne there = subst (λ ss. IsTaken ss j) (sym e) (taken_left s.trades.trading.sessions k j ne there)

holders_left : (s : Slots) (k : ℕ) (v : Trading) → v.sessions ≡ set s.trades.trading.sessions k None → (p : SlotId) → IsBeside k p
    → holder (with_trades s v) p ≡ holder s p
holders_left s k v e (InLeaf x i) ne = refl
holders_left s k v e (InSession j i) ne =
    ap (λ ss. (session_in ss j).server) e ∙ ap (λ (y : Session). y.server) (left_at s.trades.trading.sessions k j ne)
holders_left s k v e (InObject j) ne =
    ap (λ ss. (session_in ss j).server) e ∙ ap (λ (y : Session). y.server) (left_at s.trades.trading.sessions k j ne)

-- THE OBJECT IS FREE

-- an object that is there is a slice
object_slice : (st : Store) (t : Content) → IsContent st t → IsObject t → (t ≡ Empty → ⊥) → IsSlice st t
object_slice st Empty a o ne = absurd (ne refl)
object_slice st (Block p n) a o ne = absurd o
object_slice st (Slice k n) a o ne = a
object_slice st (Space k n) a o ne = absurd o
object_slice st (Pool p) a o ne = absurd o
object_slice st (Link k) a o ne = absurd o
object_slice st (Waiting k) a o ne = absurd o

-- the server of a session is a leaf
pub server_below : (s : Slots) (k : ℕ) → IsSlots s → IsTrading s.trades.trading → IsTaken s.trades.trading.sessions k
    → server_of s.trades.trading k < length s.own
server_below s k i w there =
    let b = between_at (length s.trades.trading.leaves) (length s.trades.trading.objects) s.trades.trading.sessions k w.between there in
    omega (arith, b.server, i.count)

pub slice_there : (s : Slots) (k : ℕ) → IsSlots s → IsTrading s.trades.trading → IsTaken s.trades.trading.sessions k
    → (content_at s (InObject k) ≡ Empty → ⊥) → IsSlice (store_of s.trades.trading (server_of s.trades.trading k)) (session_at s.trades.trading k).object
slice_there s k i w there ne =
    let x = server_of s.trades.trading k in
    let below = server_below s k i w there in
    let g = heap_in s.heaps x (omega (arith, below, i.count, i.heaps)) in
    let keeps = subst (λ ts. KeepsContents (get_or s.heaps x g.heap) (memory_of s x) ts) (split_now s (InObject k) there i.long)
    (i.holders x g.heap below).keeps in
    object_slice (memory_of s x) (content_at s (InObject k))
    (each_prefix (memory_of s x) (prefix s (InObject k)) (content_at s (InObject k)) (back s (InObject k)) keeps.each).1
    (object_at k s.trades.trading.sessions i.sound.objects) ne

module _ (s : Slots) (v : Trading) (k : ℕ) (i : IsSlots s) (w : IsTrading s.trades.trading) (there : IsTaken s.trades.trading.sessions k)
    (empty : (j : ℕ) → j < 8 → content_at s (InSession k j) ≡ Empty) (none : AreOfOthers k s.trades.trading.requests)
    (c : Closes s.trades.trading v k) where
  abbrev q : Session
  q = session_at s.trades.trading k

  abbrev x : ℕ
  x = q.server

  abbrev m : Ledger
  m = c.between

  below : x < length s.own
  below = server_below s k i w there

  abbrev heap_here : HasHeap s.heaps x
  heap_here = heap_in s.heaps x (omega (arith, below, i.count, i.heaps))

  abbrev h : Heap
  h = heap_here.heap

  free_call : IsCall s m (InObject k) h h q.object Empty
  free_call = record {
    slot_id = there;
    content = refl;
    heap = heap_here.is;
    others = others_stay s m (InObject k) i w below (λ b ne. c.frees.others.stores b ne);
    quotas = record {
      price = c.frees.others.whole.0;
      quota = (same_quotas s.trades.trading.ledger m (account_of s.trades.trading x) c.frees.others).quota;
    };
    changes = c.frees.changes h;
    pays = c.frees.pays h;
  }

  abbrev freed : Slots
  freed = with_trades s (with_session (with_ledger s.trades.trading m) k (with_object q Empty))

  freed_is : put (with_store s m x h) (InObject k) Empty ≡ freed
  freed_is = λ z. record freed { heaps = same_heap s x h heap_here.is z }

  freed_slots : IsSlots freed
  freed_slots =
      subst IsSlots freed_is (kept_then s m (InObject k) h h q.object Empty i w below free_call (record {
        objects = objects_set k s.trades.trading.sessions (with_object q Empty) i.sound.objects tt;
        unmade = other_unmade s.trades.trading.sessions k (with_object q Empty) s.trades.trading.requests none i.sound.unmade;
      }) (stays_raised s m (InObject k) h h q.object Empty i w below free_call (λ a. omega arith)) (λ e. e))

  freed_puts : PutsSlot s freed (InObject k) world.Empty
  freed_puts =
      subst (λ n. PutsSlot s n (InObject k) world.Empty) freed_is (puts_then s m (InObject k) h h q.object Empty i w below free_call refl)

  -- and the session is gone
  abbrev ended : Slots
  ended =
      with_trades s (with_sessions (given (with_ledger s.trades.trading m) x q.client q.donation) (set s.trades.trading.sessions k None))

  contents_alike : (y : ℕ) → Alike (contents freed y) (contents ended y)
  contents_alike y =
      let ss = s.trades.trading.sessions in
      alike_behind (get_or s.own y []) (session_contents y (set ss k (Some (with_object q Empty)))) (session_contents y (set ss k None))
      (gone y k ss (with_object q Empty) (taken_below ss k there) refl (all_empty 8 q.slots (i.long.slots k there) empty))

  module _ (b : IsBalanced s.trades.trading.ledger) (d : IsBalanced ended.trades.trading.ledger)
      (co : IsOpen m.accounts (account_of s.trades.trading q.client)) (vo : IsOpen m.accounts (account_of s.trades.trading x)) where
    ended_slots : IsSlots ended
    ended_slots =
        let t = s.trades.trading in
        record {
          count = i.count;
          heaps = i.heaps;
          long = record { own = i.long.own; slots = λ j u. left_long t.sessions k j u i.long.slots };
          sound = record {
            objects = left_objects t.sessions k i.sound.objects;
            unmade = left_unmade t.sessions k t.requests none i.sound.unmade;
          };
          holders = λ y g lt. holder_alike freed ended y (get_or s.heaps y g) (λ z. record { size = refl; bytes = λ o. refl }) (contents_alike y)
              (used_kept m.accounts (account_of t x) (account_of t q.client) q.donation (account_of t y) vo co) refl
              (freed_within t m x q.object b c.frees (account_of t y)) (within ended.trades.trading.ledger (account_of t y) d)
              (freed_slots.holders y g lt);
        }

  world_then : (f : Frame) → world_seen f ended ≡ ending (world_seen f s) k
  world_then f =
      let ss = s.trades.trading.sessions in
      let e : Session = with_object q Empty in
      let old : Session → world.Session = λ y. session_seen f.names (memory_of s y.server) y in
      let new : Session → world.Session = λ y. session_seen f.names (memory_of ended y.server) y in
      let was = world_seen f s in
      let leaves = leaves_donated f freed ended.trades.trading.ledger.accounts in
      let sessions : sessions_seen f.names ended.trades.trading ≡ set (sessions_seen f.names freed.trades.trading) k None =
      ap (map (seen_in new)) (sym (set_again ss k (Some e) None)) ∙ map_unset new (set ss k (Some e)) k
      ∙ ap (λ ys. set ys k None) (given_is f.names freed.trades.trading x q.client q.donation) in
      let emptied : world.Session = record (old q) { object = world.Empty } in
      let puts : world_seen f freed ≡ world.with_session was k emptied =
      freed_puts.seen_so f ∙ ap (λ o. world.put_object was o k world.Empty) (ap world.joined (session_there old ss k there)) in
      (λ z. record { leaves = leaves z; sessions = sessions z; requests = was.requests })
      ∙ ap (λ y. ending y k) puts
      ∙ (λ z. record { leaves = was.leaves; sessions = set_again was.sessions k (Some emptied) None z; requests = was.requests })

  ends : EndsSession s ended k
  ends = record {
    closes = record { between = m; frees = c.frees; is = refl };
    seen_so = world_then;
    nodes = refl;
    leaves = refl;
    slot_ids = slot_ids_left s k ended.trades.trading refl;
    holders = holders_left s k ended.trades.trading refl;
  }

-- as the contract says it
same_slots : (s : Slots) (v : Trades) (t : Trading) → v.trading ≡ t → v.nodes ≡ s.trades.nodes → of_parts v s.own s.heaps ≡ with_trades s t
same_slots s v t e n = λ z. of_parts (record { trading = e z; nodes = n z }) s.own s.heaps

pub closed_kept : {A E : Type 0} (res : Result A E) (s : Slots) (v : Trades) (k : ℕ) → IsSlots s → IsTrading s.trades.trading → IsTrades s.trades
    → IsTaken s.trades.trading.sessions k → ((j : ℕ) → j < 8 → content_at s (InSession k j) ≡ Empty) → AreOfOthers k s.trades.trading.requests
    → IsBalanced s.trades.trading.ledger → IsBalanced v.trading.ledger → v.nodes ≡ s.trades.nodes
    → OnOk res (Closes s.trades.trading v.trading k) → OnErr res (v ≡ s.trades) → IsSlots (of_parts v s.own s.heaps)
closed_kept (Ok a) s v k i w t there empty none b d n c err =
    let l = s.trades.trading in
    let q = session_at l k in
    let between = between_at (length l.leaves) (length l.objects) l.sessions k w.between there in
    let live = t.sessions k there in
    let co = live_open s.trades q.client t w (record { there = between.client; live = live.client }) in
    let vo = live_open s.trades q.server t w (record { there = between.server; live = live.server }) in
    let e = ended s v.trading k i w there empty none c in
    subst IsSlots (sym (same_slots s v e.trades.trading c.is n))
    (ended_slots s v.trading k i w there empty none c b (subst (λ (y : Trading). IsBalanced y.ledger) c.is d)
    (c.frees.others.still_open (account_of l q.client) co) (c.frees.others.still_open (account_of l q.server) vo))
closed_kept (Err e) s v k i w t there empty none b d n c err = subst (λ y. IsSlots (of_parts y s.own s.heaps)) (sym err) i

pub closed_ends : {A E : Type 0} (res : Result A E) (z s : Slots) (v : Trades) (k : ℕ) → s ≡ z → IsSlots s → IsTrading s.trades.trading
    → IsTaken s.trades.trading.sessions k → ((j : ℕ) → j < 8 → content_at s (InSession k j) ≡ Empty) → AreOfOthers k s.trades.trading.requests
    → v.nodes ≡ s.trades.nodes → OnOk res (Closes s.trades.trading v.trading k) → OnOk res (EndsSession z (of_parts v s.own s.heaps) k)
closed_ends (Ok a) z s v k same i w there empty none n c =
    let e = ended s v.trading k i w there empty none c in
    subst (λ y. EndsSession y (of_parts v s.own s.heaps) k) same
    (subst (λ y. EndsSession s y k) (sym (same_slots s v e.trades.trading c.is n)) (ends s v.trading k i w there empty none c))
closed_ends (Err e) z s v k same i w there empty none n c = tt

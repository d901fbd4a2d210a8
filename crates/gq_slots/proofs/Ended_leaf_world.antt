-- Leaves that end: what holds of all slots then, and which world they are.
use Rattle.std.proofs.Common.{◌≡◌, ℕ, zero, suc, ◌<◌, inl, inr, List, [], ◌∷◌, ◌++◌, length, length-set, map}
use Rattle.std.proofs.Common.{set, get_or, get_or-set_same, get_or-set_other, replicate, Option, Some, None, IfSome, refl, sym, ap, subst, ◌∙◌, arith}
use Rattle.std.specs.Prelude.{slice_index}
use Rattle.std.proofs.lemmas.Bool.{cases_eq}
use Rattle.gq_model.specs.machine.World as world
use Rattle.gq_store.specs.Store.{Store}
use Rattle.gq_heap.specs.declared.heap.Heap.{Heap}
use Rattle.gq_heap.specs.Heap.{peaks}
use Rattle.gq_ram.specs.declared.account.Account.{Account}
use Rattle.gq_ram.specs.Account_table.{Entries, IsOpen, account_at, its_account as the_account, left_to, no_amount}
use Rattle.gq_ram.specs.Ledgers.{Ledger, IsBalanced}
use Rattle.gq_ram.specs.Account_tree.{number, parent}
use Rattle.gq_ram.proofs.Quota_move_sequences.{used_kept}
use Rattle.gq_ram.specs.Account_stores.{content_for}
use Rattle.gq_trade.specs.Rest.{IsClosed}
use Rattle.gq_trade.specs.Numbers.{IsTaken}
use Rattle.gq_contents.specs.declared.content.Content.{Content}
use Rattle.gq_contents.specs.declared.content.Content.TheVariants.{Empty, Block, Slice, Space, Pool, Link, Waiting}
use Rattle.gq_contents.specs.Contents.{seen}
use Rattle.gq_trade.specs.declared.session.Session.{Session}
use Rattle.gq_trade.specs.declared.session.SlotId.{SlotId}
use Rattle.gq_trade.specs.declared.session.SlotId.TheVariants.{InLeaf, InSession, InObject}
use Rattle.gq_trade.specs.Seen_sessions.{seen_in, session_seen}
use Rattle.gq_trade.specs.Trading.{AreBetween, IsTrading, Leaves, Trading, account_no, account_of, init_no, node_of, session_in, with_ledger}
use Rattle.gq_trade.proofs.Leaf_account_closing.{closed_kept, gone, heir_now, other_entry}
use Rattle.gq_trade.specs.declared.trade_node.Stage.TheVariants.{Ended}
use Rattle.gq_trade.specs.Balances.{node_at}
use Rattle.gq_trade.specs.Leaf_ends.{CanStart, Ends, HasNoSessions, follower, staged, started}
use Rattle.gq_trade.specs.Trades.{IsLive, IsTrades, Trades}
use Rattle.gq_trade.proofs.Trades_invariant_kept.{live_open}
use Rattle.gq_trade.proofs.Leaf_end_start.{can_start, i_open, if_follower, left_kept, p_open}
use Rattle.gq_slots.specs.Slots.{Frame, IsNew, IsSlotId, Slots, holder, leaf_seen, leaves_seen, memory_of, world_seen}
use Rattle.gq_slots.specs.Session_calls.{EndsLeaf, bare_in, emptied}
use Rattle.gq_slots.specs.internal.Slots_invariant.{IsHolder, IsSlots, session_contents, contents}
use Rattle.gq_slots.proofs.Slot_content_positions.{contents_none}
use Rattle.gq_slots.proofs.Slot_change_worlds.{leaf_at}
use Rattle.gq_slots.proofs.Equal_leaf_contents.{alike_is, holder_alike, within}
use Rattle.gq_slots.proofs.Slot_call_effects.{of_parts}
use Rattle.gq_slots.proofs.First_empty_slots.{holder_first}

-- ACCOUNTS

-- What is left of t once the leaf x has ended: each other leaf has the bytes that it had and uses what it used, and x uses nothing.
record IsLeft (t u : Trading) (x : ℕ) : Type 0 where
  is : u ≡ with_ledger t u.ledger
  contents : (y : ℕ) → y < length t.leaves → (y ≡ x → ⊥) → (k : ℕ)
      → content_for u.ledger (account_of t y) k ≡ content_for t.ledger (account_of t y) k
  used : (y : ℕ) → y < length t.leaves → (y ≡ x → ⊥)
      → (account_at u.ledger.accounts (account_of t y)).used ≡ (account_at t.ledger.accounts (account_of t y)).used
  unused : (account_at u.ledger.accounts (account_of t x)).used ≡ no_amount
  price : u.ledger.price ≡ t.ledger.price

-- the account a is closed, and its quota goes to the account r
use_left : (es : Entries) (a r : ℕ) → IsOpen es a → IsOpen es r → (r ≡ a → ⊥) → (k : ℕ) → (k ≡ a → ⊥)
    → (account_at (left_to es a r) k).used ≡ (account_at es k).used
use_left es a r ao ro ne k na = elim (cases_eq k r) [
  | inl e ↦
      ap (λ j. (account_at (left_to es a r) j).used) e ∙ ap (λ (y : Account). y.used) (heir_now es a r ao ro ne)
      ∙ ap (λ j. (account_at es j).used) (sym e)
  | inr nr ↦ ap (λ o. (the_account o).used) (other_entry es a r ao ro ne k na nr)
]

-- the same account is that of one leaf alone
apart : (t : Trading) → IsTrading t → (x y : ℕ) → x < length t.leaves → y < length t.leaves → (y ≡ x → ⊥) → account_of t y ≡ account_of t x → ⊥
apart t w x y xl yl ne e = ne (w.apart y x yl xl (w.nodes.apart (node_of t y) (node_of t x) (w.leaves y yl) (w.leaves x xl) e))

module _ (s : Trades) (h : IsTrades s) (w : IsTrading s.trading) (b : IsBalanced s.trading.ledger) (x : ℕ) (live : IsLive s x)
    (alone : HasNoSessions s.trading x) (u : Trading) (l : Leaves s.trading u x) where
  abbrev t : Trading
  t = s.trading

  abbrev no : ℕ
  no = account_of t x

  no_open : IsOpen t.ledger.accounts no
  no_open = live_open s h w x live

  init_there : IsOpen t.ledger.accounts (init_no t x).0 × ((init_no t x).0 ≡ no → ⊥)
  init_there = b.references no (init_no t x) (w.nodes.references (node_of t x) (h.settled.below x live.there) (w.leaves x live.there) no_open)

  closed_left : IsLeft t u x
  closed_left = record {
    is = l.is;
    contents = λ y yl ne k. l.closed.contents (account_of t y) (apart t w x y live.there yl ne) k;
    used = λ y yl ne.
        ap (λ (es : Entries). (account_at es (account_of t y)).used) l.closed.accounts
        ∙ use_left t.ledger.accounts no (init_no t x).0 no_open init_there.0 init_there.1 (account_of t y) (apart t w x y live.there yl ne);
    unused =
        ap (λ (es : Entries). (account_at es no).used) l.closed.accounts
        ∙ ap (λ o. (the_account o).used) (gone t.ledger.accounts no (init_no t x).0 no_open init_there.0 init_there.1);
    price = l.closed.whole.0;
  }

  -- the node that starts then
  abbrev between : Trades
  between = record { trading = u; nodes = staged s.nodes (node_of t x) Ended }

  between_kept : IsTrades between
  between_kept = left_kept s h w b x live alone u l

  between_trading : IsTrading u
  between_trading =
      let refers = w.nodes.references (node_of t x) (h.settled.below x live.there) (w.leaves x live.there) no_open in
      subst IsTrading (sym l.is) (closed_kept t x u.ledger (account_no t x) w b live.there (h.settled.below x live.there) no_open refl
      (subst (λ o. IfSome o (λ init. IsClosed t.ledger u.ledger (account_no t x) init)) (sym refers) l.closed))

  started_left : (o : Option ℕ) → IfSome o (CanStart between) → IsLeft t (started between o).trading x
  started_left None c = closed_left
  started_left (Some i) c =
      let q = (node_at between.nodes i).quantum in
      let io = i_open between between_kept between_trading i c.below c.there c.pending c.ram c.caps in
      let po = p_open between between_kept between_trading i c.below c.there c.pending c.ram c.caps in
      let same = λ (a : ℕ). used_kept u.ledger.accounts (number u.tree (parent u.tree i)) (number u.tree i) q a po io in
      record {
        is = ap (λ y. with_ledger y (started between (Some i)).trading.ledger) l.is;
        contents = closed_left.contents;
        used = λ y yl ne. same (account_of t y) ∙ closed_left.used y yl ne;
        unused = same no ∙ closed_left.unused;
        price = closed_left.price;
      }

  its_left : IsLeft t (started between (follower (node_of t x) between.nodes)).trading x
  its_left =
      started_left (follower (node_of t x) between.nodes)
      (if_follower (node_of t x) between.nodes (CanStart between) (can_start s h w b x live alone u l) (follower (node_of t x) between.nodes) refl)

-- THINGS

nothing_to : (x : ℕ) (ss : List (Option Session)) → ((k : ℕ) → IsTaken ss k → (session_in ss k).server ≡ x → ⊥) → session_contents x ss ≡ []
nothing_to x [] none = refl
nothing_to x (None ∷ ss) none = nothing_to x ss (λ k t. none (suc k) t)
nothing_to x (Some q ∷ ss) none = ap (λ ts. ts ++ session_contents x ss) (contents_none x q (none zero refl)) ∙ nothing_to x ss (λ k t. none (suc k) t)

-- the same bytes, whatever is left to pay
left_seen : (old new : Store) (t : Content) → ((k : ℕ) → new.size k ≡ old.size k) → ((k i : ℕ) → new.byte k i ≡ old.byte k i) → seen new t ≡ seen old t
left_seen old new Empty size byte = refl
left_seen old new (Block p n) size byte = λ z. seen (record old { size = λ k. size k z; byte = λ k i. byte k i z }) (Block p n)
left_seen old new (Slice k n) size byte = λ z. seen (record old { size = λ j. size j z; byte = λ j i. byte j i z }) (Slice k n)
left_seen old new (Space k n) size byte = λ z. seen (record old { size = λ j. size j z; byte = λ j i. byte j i z }) (Space k n)
left_seen old new (Pool p) size byte = λ z. seen (record old { size = λ k. size k z; byte = λ k i. byte k i z }) (Pool p)
left_seen old new (Link k) size byte = refl
left_seen old new (Waiting k) size byte = refl

-- THE WORLD

abbrev AreSame : (ℕ → Store) → (ℕ → Store) → ℕ → ℕ → Type 0
AreSame old new n x = (y : ℕ) → y < n → (y ≡ x → ⊥) → (t : Content) → seen (new y) t ≡ seen (old y) t

leaves_alike : (leaf : ℕ → world.Leaf) (old new : ℕ → Store) (own : List (List Content)) (hs : List Heap)
    → ((y : ℕ) → y < length own → (t : Content) → seen (new y) t ≡ seen (old y) t) → leaves_seen leaf new own hs ≡ leaves_seen leaf old own hs
leaves_alike leaf old new [] hs same = refl
leaves_alike leaf old new (ts ∷ own) [] same = refl
leaves_alike leaf old new (ts ∷ own) (h ∷ hs) same =
    let f = leaves_alike (λ y. leaf (suc y)) (λ y. old (suc y)) (λ y. new (suc y)) own hs (λ y lt t. same (suc y) (omega (arith, lt)) t) in
    λ k. record (leaf 0) { slots = map (λ t. same zero (omega arith) t k) ts; peaks = peaks h } ∷ f k

leaves_bare : (leaf : ℕ → world.Leaf) (old new : ℕ → Store) (own : List (List Content)) (hs : List Heap) (x : ℕ) (ts : List Content) (h : Heap) → x < length own
    → length hs ≡ length own → AreSame old new (length own) x
    → leaves_seen leaf new (set own x ts) (set hs x h) ≡ set (leaves_seen leaf old own hs) x (leaf_seen (leaf x) (new x) ts h)
leaves_bare leaf old new [] hs x ts h lt e same = absurd (omega (arith, lt))
leaves_bare leaf old new (us ∷ own) [] x ts h lt e same = absurd (omega (arith, e))
leaves_bare leaf old new (us ∷ own) (g ∷ hs) zero ts h lt e same =
    let f = leaves_alike (λ y. leaf (suc y)) (λ y. old (suc y)) (λ y. new (suc y)) own hs
    (λ y below. same (suc y) (omega (arith, below)) (λ z. absurd (omega (arith, z)))) in
    λ k. leaf_seen (leaf 0) (new 0) ts h ∷ f k
leaves_bare leaf old new (us ∷ own) (g ∷ hs) (suc x) ts h lt e same =
    let a = same zero (omega arith) (λ z. absurd (omega (arith, z))) in
    let f = leaves_bare (λ y. leaf (suc y)) (λ y. old (suc y)) (λ y. new (suc y)) own hs x ts h (omega (arith, lt)) (omega (arith, e))
    (λ y below ne. same (suc y) (omega (arith, below)) (λ z. ne (omega (arith, z)))) in
    λ k. record (leaf 0) { slots = map (λ t. a t k) us; peaks = peaks g } ∷ f k

sessions_alike : (names : List (List ℕ)) (old new : ℕ → Store) (n m x : ℕ) (ss : List (Option Session)) → AreBetween n m ss → AreSame old new n x
    → ((k : ℕ) → IsTaken ss k → (session_in ss k).server ≡ x → ⊥)
    → map (seen_in (λ q. session_seen names (new q.server) q)) ss ≡ map (seen_in (λ q. session_seen names (old q.server) q)) ss
sessions_alike names old new n m x [] b same none = refl
sessions_alike names old new n m x (None ∷ ss) b same none = ap (λ ys. None ∷ ys) (sessions_alike names old new n m x ss b same (λ k t. none (suc k) t))
sessions_alike names old new n m x (Some q ∷ ss) b same none =
    let a = same q.server b.0.server (none zero refl) in
    let f = sessions_alike names old new n m x ss b.1 same (λ k t. none (suc k) t) in
    λ z. Some (record (session_seen names (old q.server) q) { object = a q.object z; slots = map (λ t. a t z) q.slots }) ∷ f z

-- ALL SLOTS

module _ (s : Slots) (x : ℕ) (h : Heap) (v : Trades) (i : IsSlots s) (w : IsTrading s.trades.trading) (there : x < length s.trades.trading.leaves)
    (alone : HasNoSessions s.trades.trading x) (new : IsNew h) (l : IsLeft s.trades.trading v.trading x) where
  abbrev m : Ledger
  m = v.trading.ledger

  abbrev then_ : Slots
  then_ = record {
    trades = record { trading = with_ledger s.trades.trading m; nodes = v.nodes };
    own = set s.own x (replicate 64 Empty);
    heaps = set s.heaps x h;
  }

  below : x < length s.own
  below = omega (arith, there, i.count)

  at_leaf : (y : ℕ) → y < length s.own → y < length s.trades.trading.leaves
  at_leaf y lt = omega (arith, lt, i.count)

  none_to : (k : ℕ) → IsTaken s.trades.trading.sessions k → (session_in s.trades.trading.sessions k).server ≡ x → ⊥
  none_to k t = (alone k t).1

  own_here : get_or (set s.own x (replicate 64 Empty)) x [] ≡ replicate 64 Empty
  own_here = get_or-set_same s.own x (replicate 64 Empty) [] below

  same_size : (y : ℕ) → y < length s.own → (y ≡ x → ⊥) → (k : ℕ) → (memory_of then_ y).size k ≡ (memory_of s y).size k
  same_size y lt ne k = ap length (l.contents y (at_leaf y lt) ne k)

  same_byte : (y : ℕ) → y < length s.own → (y ≡ x → ⊥) → (k j : ℕ) → (memory_of then_ y).byte k j ≡ (memory_of s y).byte k j
  same_byte y lt ne k j = ap (λ bs. slice_index bs j) (l.contents y (at_leaf y lt) ne k)

  same_seen : AreSame (memory_of s) (memory_of then_) (length s.own) x
  same_seen y lt ne t = left_seen (memory_of s y) (memory_of then_ y) t (same_size y lt ne) (same_byte y lt ne)

  module _ (b : IsBalanced s.trades.trading.ledger) (d : IsBalanced m) where
    its_holder : IsHolder then_ x h
    its_holder = holder_first then_ x h own_here (nothing_to x s.trades.trading.sessions none_to) new l.unused

    other_holder : (y : ℕ) (g : Heap) → y < length s.own → (y ≡ x → ⊥) → IsHolder then_ y (get_or s.heaps y g)
    other_holder y g lt ne =
        holder_alike s then_ y (get_or s.heaps y g) (λ k. record { size = same_size y lt ne k; bytes = same_byte y lt ne k })
        (alike_is (contents s y) (contents then_ y) (ap (λ ts. ts ++ session_contents y s.trades.trading.sessions)
        (get_or-set_other s.own x y (replicate 64 Empty) [] ne))) (l.used y (at_leaf y lt) ne) l.price
        (within s.trades.trading.ledger (account_of s.trades.trading y) b) (within m (account_of s.trades.trading y) d) (i.holders y g lt)

    holder_now : (y : ℕ) (g : Heap) → y < length s.own → IsHolder then_ y (get_or (set s.heaps x h) y g)
    holder_now y g lt = elim (cases_eq y x) [
      | inl e ↦
          subst (λ z. IsHolder then_ z (get_or (set s.heaps x h) z g)) (sym e)
          (subst (IsHolder then_ x) (sym (get_or-set_same s.heaps x h g (omega (arith, there, i.heaps)))) its_holder)
      | inr ne ↦ subst (IsHolder then_ y) (sym (get_or-set_other s.heaps x y h g ne)) (other_holder y g lt ne)
    ]

    own_long : (y : ℕ) → y < length s.own → length (get_or (set s.own x (replicate 64 Empty)) y []) ≡ 64
    own_long y lt = elim (cases_eq y x) [
      | inl e ↦ ap (λ z. length (get_or (set s.own x (replicate 64 Empty)) z [])) e ∙ ap length own_here
      | inr ne ↦ ap length (get_or-set_other s.own x y (replicate 64 Empty) [] ne) ∙ i.long.own y lt
    ]

    then_kept : IsSlots then_
    then_kept = record {
      count = length-set s.own x (replicate 64 Empty) ∙ i.count;
      heaps = length-set s.heaps x h ∙ i.heaps;
      long = record { own = λ y lt. own_long y (omega (arith, lt, length-set s.own x (replicate 64 Empty))); slots = i.long.slots };
      sound = record { objects = i.sound.objects; unmade = i.sound.unmade };
      holders = λ y g lt. holder_now y g (omega (arith, lt, length-set s.own x (replicate 64 Empty)));
    }

  world_bare : (f : Frame) → world_seen f then_ ≡ emptied (world_seen f s) x
  world_bare f =
      let t = s.trades.trading in
      let was = world_seen f s in
      let old = leaf_seen (f.leaf x) (memory_of s x) (get_or s.own x []) (get_or s.heaps x h) in
      let heaps : length s.heaps ≡ length s.own = i.heaps ∙ sym i.count in
      let leaves = leaves_bare f.leaf (memory_of s) (memory_of then_) s.own s.heaps x (replicate 64 Empty) h below heaps same_seen in
      let between = subst (λ n. AreBetween n (length t.objects) t.sessions) (sym i.count) w.between in
      let sessions = sessions_alike f.names (memory_of s) (memory_of then_) (length s.own) (length t.objects) x t.sessions between same_seen none_to in
      (λ z. record { leaves = leaves z; sessions = sessions z; requests = was.requests })
      ∙ (λ z. world.with_leaf was x (record (f.leaf x) { slots = replicate 64 world.Empty; peaks = new.peaks z }))
      ∙ ap (bare_in was x) (sym (leaf_at f.leaf (memory_of s) s.own s.heaps x h below (omega (arith, below, heaps))))

  slot_ids_stay : (p : SlotId) → IsSlotId s p → IsSlotId then_ p
  slot_ids_stay (InLeaf y j) lt = (omega (arith, lt.0, length-set s.own x (replicate 64 Empty)), lt.1)
  slot_ids_stay (InSession k j) lt = lt
  slot_ids_stay (InObject k) lt = lt

  holders_stay : (p : SlotId) → holder then_ p ≡ holder s p
  holders_stay (InLeaf y j) = refl
  holders_stay (InSession k j) = refl
  holders_stay (InObject k) = refl

-- AS THE CONTRACT SAYS IT

ended_left : (s v : Trades) (x : ℕ) → IsTrades s → IsTrading s.trading → IsBalanced s.trading.ledger → IsLive s x → HasNoSessions s.trading x
    → Ends s v x → IsLeft s.trading v.trading x
ended_left s v x h w b live alone e =
    subst (λ (y : Trades). IsLeft s.trading y.trading x) (sym e.is) (its_left s h w b x live alone e.between e.leaves)

same_slots : (s : Slots) (v : Trades) (own : List (List Content)) (hs : List Heap) (x : ℕ) (h : Heap)
    → v.trading ≡ with_ledger s.trades.trading v.trading.ledger
    → own ≡ set s.own x (replicate 64 Empty) → hs ≡ set s.heaps x h → of_parts v own hs ≡ record {
      trades = record { trading = with_ledger s.trades.trading v.trading.ledger; nodes = v.nodes };
      own = set s.own x (replicate 64 Empty);
      heaps = set s.heaps x h;
    }
same_slots s v own hs x h e f g = λ z. record { trades = record { trading = e z; nodes = v.nodes }; own = f z; heaps = g z }

pub ended_kept : (s : Slots) (v : Trades) (own : List (List Content)) (hs : List Heap) (x : ℕ) (h : Heap) → IsSlots s → IsTrades s.trades
    → IsTrading s.trades.trading → IsBalanced s.trades.trading.ledger → IsBalanced v.trading.ledger → IsLive s.trades x
    → HasNoSessions s.trades.trading x → Ends s.trades v x → IsNew h → own ≡ set s.own x (replicate 64 Empty) → hs ≡ set s.heaps x h
    → IsSlots (of_parts v own hs)
ended_kept s v own hs x h i t w b d live alone e new f g =
    let l = ended_left s.trades v x t w b live alone e in
    subst IsSlots (sym (same_slots s v own hs x h l.is f g)) (then_kept s x h v i w live.there alone new l b d)

pub leaf_ends : (z s : Slots) (v : Trades) (own : List (List Content)) (hs : List Heap) (x : ℕ) (h : Heap) → s ≡ z → IsSlots s → IsTrades s.trades
    → IsTrading s.trades.trading → IsBalanced s.trades.trading.ledger → IsLive s.trades x → HasNoSessions s.trades.trading x
    → Ends s.trades v x → IsNew h → own ≡ set s.own x (replicate 64 Empty) → hs ≡ set s.heaps x h → EndsLeaf z (of_parts v own hs) x
leaf_ends z s v own hs x h q i t w b live alone e new f g =
    let l = ended_left s.trades v x t w b live alone e in
    let same = same_slots s v own hs x h l.is f g in
    subst (λ y. EndsLeaf y (of_parts v own hs) x) q (record {
      ends = e;
      leaves = ap (λ (y : Slots). y.trades.trading.leaves) same;
      seen_so = λ k. ap (world_seen k) same ∙ world_bare s x h v i w live.there alone new l k;
      slot_ids = λ p lt. subst (λ y. IsSlotId y p) (sym same) (slot_ids_stay s x h v i w live.there alone new l p lt);
      holders = λ p. ap (λ y. holder y p) same ∙ holders_stay s x h v i w live.there alone new l p;
    })

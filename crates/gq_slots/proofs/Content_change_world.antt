-- A call on one content: what holds of all slots then, and which world they are.
use Rattle.std.proofs.Common.{◌≡◌, ℕ, ◌+◌, ◌<◌, ◌≤◌, true, false, Bool, eqb, [], ◌∷◌, ◌++◌, length, set, length-set, get_or, get_or-set_same}
use Rattle.std.proofs.Common.{get_or-set_other, Option, Some, None, refl, sym, ap, subst, ◌∙◌, arith}
use Rattle.std.specs.Prelude.{slice_get}
use Rattle.std.proofs.lemmas.Bool.Decides.{nat_tests}
use Rattle.gq_tariff.specs.Prices.{classes}
use Rattle.gq_model.specs.machine.Amounts.{Resource, Ram, Caps}
use Rattle.gq_model.specs.machine.Resource_prices.{heap as class_prices}
use Rattle.gq_model.specs.machine.Sums.{slot_places, raised}
use Rattle.gq_model.specs.machine.World as world
use Rattle.gq_store.specs.Store.{Store, plus_caps}
use Rattle.gq_ram.specs.Account_table.{account_at, its_account as the_account}
use Rattle.gq_ram.specs.Ledgers.{Ledger}
use Rattle.gq_heap.specs.declared.heap.Heap.{Heap}
use Rattle.gq_heap.specs.Heap.{peaks}
use Rattle.gq_ram.specs.Account_stores.{store_at}
use Rattle.gq_ram.specs.Account_stores.{SameRest}
use Rattle.gq_contents.specs.declared.content.Content.{Content}
use Rattle.gq_contents.specs.Contents.{seen}
use Rattle.gq_contents.specs.Contents_invariant.{KeepsContents, KeepsBeside, Changes}
use Rattle.gq_contents.specs.Paid.{cost, cost_with, Pays, places_used, raised_by}
use Rattle.gq_trade.specs.declared.session.SlotId.{SlotId}
use Rattle.gq_trade.specs.declared.session.SlotId.TheVariants.{InLeaf, InSession, InObject}
use Rattle.gq_trade.specs.Seen_sessions.{slot_id_seen}
use Rattle.gq_trade.specs.Trading.{Trading, AreBetween, IsTrading, account_of, its_account}
use Rattle.gq_slots.specs.Slots.{Slots, Frame, IsSlotId, IsHeapOf, memory_of, holder, content_at, world_seen, leaf_seen, settled_in}
use Rattle.gq_slots.specs.Slots.{raised_in}
use Rattle.gq_slots.specs.Calls.{PutsSlot, SameAccounts, SameBeside, Settles}
use Rattle.gq_slots.specs.internal.Slots_invariant.{AreLong, AreObjects, AreSound, IsHolder, IsSlots, counted, held_by, contents}
use Rattle.gq_slots.specs.internal.Put.{peaks_in, put, with_peaks_at, with_store}
use Rattle.gq_slots.proofs.Slot_content_positions.{back, prefix, holder_put, long_put, others, split, split_now, slot_id_put}
use Rattle.gq_slots.proofs.Slot_change_worlds.{leaf_at, same_peaks, world_after}
use Rattle.gq_slots.proofs.Leaf_holding_sums.{cost_change, places_change, raised_below, raised_is}

-- capabilities that are paid stay what they are together
caps_change : (a b c d : ℕ) (x y : Option ℕ) → a + d ≡ b + c → plus_caps c x ≡ plus_caps d y → plus_caps a x ≡ plus_caps b y
caps_change a b c d None None e f = refl
caps_change a b c d None (Some n) e f = cc
caps_change a b c d (Some m) None e f = cc
caps_change a b c d (Some m) (Some n) e f = let g : m + c ≡ n + d = cc in ap Some (omega (arith, e, g))

-- all quotas are as before
pub record SameQuotas (m n : Ledger) : Type 0 where
  pub price : n.price ≡ m.price
  pub quota : (a : ℕ) → (account_at n.accounts a).quota ≡ (account_at m.accounts a).quota

same_quota : (l k : Ledger) (a b : ℕ) (c : Bool) → eqb b a ≡ c → ((d : ℕ) → (d ≡ a → ⊥) → get_or k.accounts d None ≡ get_or l.accounts d None)
    → (account_at k.accounts a).quota ≡ (account_at l.accounts a).quota → (account_at k.accounts b).quota ≡ (account_at l.accounts b).quota
same_quota l k a b true e others its =
    let f : b ≡ a = grind (arith, nat_tests, e) in
    subst (λ d. (account_at k.accounts d).quota ≡ (account_at l.accounts d).quota) (sym f) its
same_quota l k a b false e others its =
    let f : b ≡ a → ⊥ = λ g. grind (arith, nat_tests, e, g) in
    ap (λ d. (the_account d).quota) (others b f)

-- where one account alone changed
pub same_quotas : (l k : Ledger) (a : ℕ) → SameRest a l k → SameQuotas l k
same_quotas l k a r = record { price = r.whole.0; quota = λ b. same_quota l k a b (eqb b a) refl r.accounts r.quota }

-- what one call leaves: a content u in the place of t, in the memory that the leaf of the slot pays for
pub record IsCall (s : Slots) (m : Ledger) (p : SlotId) (before after : Heap) (t u : Content) : Type 0 where
  pub slot_id : IsSlotId s p
  pub content : content_at s p ≡ t
  pub heap : IsHeapOf s (holder s p) before
  -- all other leaves have what they had
  pub others : (y : ℕ) → y < length s.own → (y ≡ holder s p → ⊥) → store_at m (account_of s.trades.trading y) ≡ memory_of s y
  pub quotas : SameQuotas s.trades.trading.ledger m
  pub changes : Changes before after (memory_of s (holder s p)) (store_at m (account_of s.trades.trading (holder s p))) t u
  pub pays : Pays before after (memory_of s (holder s p)) (store_at m (account_of s.trades.trading (holder s p))) t u

-- where the account of the slot's leaf alone changed, all other leaves have what they had
pub others_stay : (s : Slots) (m : Ledger) (p : SlotId) → IsSlots s → IsTrading s.trades.trading → holder s p < length s.own
    → ((b : ℕ) → (b ≡ account_of s.trades.trading (holder s p) → ⊥) → store_at m b ≡ store_at s.trades.trading.ledger b)
    → (y : ℕ) → y < length s.own → (y ≡ holder s p → ⊥) → store_at m (account_of s.trades.trading y) ≡ memory_of s y
others_stay s m p i w there rest y lt ne =
    let x = holder s p in
    let yl : y < length s.trades.trading.leaves = omega (arith, lt, i.count) in
    let xl : x < length s.trades.trading.leaves = omega (arith, there, i.count) in
    rest (account_of s.trades.trading y) (λ e.
    ne (w.apart y x yl xl (w.nodes.apart (get_or s.trades.trading.leaves y 0) (get_or s.trades.trading.leaves x 0) (w.leaves y yl) (w.leaves x xl) e)))

-- a leaf that keeps what it had
pub holder_same : (s v : Slots) (x : ℕ) (h : Heap) → memory_of v x ≡ memory_of s x → contents v x ≡ contents s x
    → (its_account v.trades.trading x).quota ≡ (its_account s.trades.trading x).quota
    → v.trades.trading.ledger.price ≡ s.trades.trading.ledger.price
    → IsHolder s x h → IsHolder v x h
holder_same s v x h st ts q p i = record {
  keeps = subst (λ a. KeepsContents h a (contents v x)) (sym st) (subst (λ a. KeepsContents h (memory_of s x) a) (sym ts) i.keeps);
  ram = ap (λ a. a.left + (cost Ram a (contents v x) + class_prices Ram (peaks h))) st
      ∙ ap (λ a. (memory_of s x).left + (cost Ram (memory_of s x) a + class_prices Ram (peaks h))) ts
      ∙ i.ram ∙ ap (λ a. a.ram) (sym q);
  caps = ap (λ a. plus_caps (cost Caps a (contents v x) + class_prices Caps (peaks h)) a.caps) st
      ∙ ap (λ a. plus_caps (cost Caps (memory_of s x) a + class_prices Caps (peaks h)) (memory_of s x).caps) ts
      ∙ i.caps ∙ ap (λ a. counted a (its_account s.trades.trading x).quota.caps) (sym p)
      ∙ ap (λ a. counted v.trades.trading.ledger.price a.caps) (sym q);
  peaked = ap (λ a. raised_by (places_used a (contents v x)) classes (peaks h)) st ∙ ap (λ a. raised_by (places_used (memory_of s x) a) classes (peaks h)) ts
      ∙ i.peaked;
  eight = i.eight;
}

-- what stands in a slot bears on no account
put_memory : (s : Slots) (p : SlotId) (u : Content) (y : ℕ) → memory_of (put s p u) y ≡ memory_of s y
put_memory s (InLeaf a i) u y = refl
put_memory s (InSession k i) u y = refl
put_memory s (InObject k) u y = refl

put_account : (s : Slots) (p : SlotId) (u : Content) (y : ℕ) → its_account (put s p u).trades.trading y ≡ its_account s.trades.trading y
put_account s (InLeaf a i) u y = refl
put_account s (InSession k i) u y = refl
put_account s (InObject k) u y = refl

put_price : (s : Slots) (p : SlotId) (u : Content) → (put s p u).trades.trading.ledger.price ≡ s.trades.trading.ledger.price
put_price s (InLeaf a i) u = refl
put_price s (InSession k i) u = refl
put_price s (InObject k) u = refl

put_count : (s : Slots) (p : SlotId) (u : Content) → length (put s p u).own ≡ length s.own
put_count s (InLeaf a i) u = length-set s.own a (set (get_or s.own a []) i u)
put_count s (InSession k i) u = refl
put_count s (InObject k) u = refl

put_leaves : (s : Slots) (p : SlotId) (u : Content) → length (put s p u).trades.trading.leaves ≡ length s.trades.trading.leaves
put_leaves s (InLeaf a i) u = refl
put_leaves s (InSession k i) u = refl
put_leaves s (InObject k) u = refl

accounts_put : (s : Slots) (p : SlotId) (u : Content) (w : Trading) → SameAccounts w s.trades.trading → SameAccounts w (put s p u).trades.trading
accounts_put s (InLeaf a i) u w e = e
accounts_put s (InSession k i) u w e =
    record { tree = e.tree; leaves = e.leaves; objects = e.objects; room = e.room; requests = e.requests; price = e.price; quota = e.quota }
accounts_put s (InObject k) u w e =
    record { tree = e.tree; leaves = e.leaves; objects = e.objects; room = e.room; requests = e.requests; price = e.price; quota = e.quota }

pub long_with : (s : Slots) (m : Ledger) (x : ℕ) (h : Heap) → AreLong s → AreLong (with_store s m x h)
long_with s m x h l = record { own = l.own; slots = l.slots }

pub slot_id_with : (s : Slots) (m : Ledger) (x : ℕ) (h : Heap) (p : SlotId) → IsSlotId s p → IsSlotId (with_store s m x h) p
slot_id_with s m x h (InLeaf a i) l = l
slot_id_with s m x h (InSession k i) l = l
slot_id_with s m x h (InObject k) l = l

holder_with : (s : Slots) (m : Ledger) (x : ℕ) (h : Heap) (p : SlotId) → holder (with_store s m x h) p ≡ holder s p
holder_with s m x h (InLeaf a i) = refl
holder_with s m x h (InSession k i) = refl
holder_with s m x h (InObject k) = refl

prefix_with : (s : Slots) (m : Ledger) (x : ℕ) (h : Heap) (p : SlotId) → prefix (with_store s m x h) p ≡ prefix s p
prefix_with s m x h (InLeaf a i) = refl
prefix_with s m x h (InSession k i) = refl
prefix_with s m x h (InObject k) = refl

back_with : (s : Slots) (m : Ledger) (x : ℕ) (h : Heap) (p : SlotId) → back (with_store s m x h) p ≡ back s p
back_with s m x h (InLeaf a i) = refl
back_with s m x h (InSession k i) = refl
back_with s m x h (InObject k) = refl

module _ (s : Slots) (m : Ledger) (p : SlotId) (before after : Heap) (t u : Content) (i : IsSlots s) (w : IsTrading s.trades.trading)
    (there : holder s p < length s.own) (c : IsCall s m p before after t u) where
  abbrev x : ℕ
  x = holder s p

  abbrev old : Store
  old = memory_of s x

  abbrev new : Store
  new = store_at m (account_of s.trades.trading x)

  abbrev then_ : Slots
  then_ = put (with_store s m x after) p u

  -- the leaf that pays
  now : IsHolder s x before
  now = subst (λ h. IsHolder s x h) c.heap (i.holders x before there)

  pub around : KeepsContents before old (prefix s p ++ t ∷ back s p)
  around = subst (λ a. KeepsContents before old (prefix s p ++ a ∷ back s p)) c.content
      (subst (λ a. KeepsContents before old a) (split_now s p c.slot_id i.long) now.keeps)

  beside : KeepsBeside after old new (prefix s p) u (back s p)
  beside = c.changes (prefix s p) (back s p) around

  contents_then : contents then_ x ≡ prefix s p ++ u ∷ back s p
  contents_then =
      ap (λ y. contents then_ y) (sym (holder_with s m x after p))
      ∙ split (with_store s m x after) p u (slot_id_with s m x after p c.slot_id) (long_with s m x after i.long)
      ∙ (λ k. prefix_with s m x after p k ++ u ∷ back_with s m x after p k)

  contents_old : contents s x ≡ prefix s p ++ t ∷ back s p
  contents_old = split_now s p c.slot_id i.long ∙ ap (λ a. prefix s p ++ a ∷ back s p) c.content

  quota_same : (a : ℕ) → (account_at m.accounts a).quota ≡ (account_at s.trades.trading.ledger.accounts a).quota
  quota_same a = c.quotas.quota a

  price_same : m.price ≡ s.trades.trading.ledger.price
  price_same = c.quotas.price

  memory_then : memory_of then_ x ≡ new
  memory_then = put_memory (with_store s m x after) p u x

  account_then : (its_account then_.trades.trading x).quota ≡ (its_account s.trades.trading x).quota
  account_then = ap (λ a. a.quota) (put_account (with_store s m x after) p u x) ∙ quota_same (account_of s.trades.trading x)

  price_then : then_.trades.trading.ledger.price ≡ s.trades.trading.ledger.price
  price_then = put_price (with_store s m x after) p u ∙ price_same

  cost_then : (r : Resource) → cost r (memory_of then_ x) (contents then_ x) ≡ cost r new (prefix s p ++ u ∷ back s p)
  cost_then r = ap (λ a. cost r a (contents then_ x)) memory_then ∙ ap (cost r new) contents_then

  cost_old : (r : Resource) → cost r old (contents s x) ≡ cost r old (prefix s p ++ t ∷ back s p)
  cost_old r = ap (cost r old) contents_old

  ram_then : (memory_of then_ x).left + held_by Ram then_ x after ≡ (its_account then_.trades.trading x).quota.ram
  ram_then =
      let e = cost_change Ram old new (prefix s p) t u (back s p) beside.prefix_seen beside.back_seen in
      omega (arith, e, c.pays.ram, now.ram, cost_then Ram, cost_old Ram, ap (λ a. a.left) memory_then, ap (λ q. q.ram) account_then)

  caps_then : plus_caps (held_by Caps then_ x after) (memory_of then_ x).caps
      ≡ counted then_.trades.trading.ledger.price (its_account then_.trades.trading x).quota.caps
  caps_then =
      let e = cost_change Caps old new (prefix s p) t u (back s p) beside.prefix_seen beside.back_seen in
      let d : held_by Caps then_ x after + cost_with Caps before old t ≡ held_by Caps s x before + cost_with Caps after new u =
      omega (arith, e, cost_then Caps, cost_old Caps) in
      caps_change (held_by Caps then_ x after) (held_by Caps s x before) (cost_with Caps after new u) (cost_with Caps before old t) (memory_of then_ x).caps
      old.caps d (ap (λ a. plus_caps (cost_with Caps after new u) a.caps) memory_then ∙ c.pays.caps)
      ∙ now.caps ∙ ap (λ a. counted a (its_account s.trades.trading x).quota.caps) (sym price_then)
      ∙ ap (λ q. counted then_.trades.trading.ledger.price q.caps) (sym account_then)

  count_then : length then_.own ≡ length s.own
  count_then = put_count (with_store s m x after) p u

  other_contents : (y : ℕ) → (y ≡ x → ⊥) → contents then_ y ≡ contents s y
  other_contents y ne = others (with_store s m x after) p u y (slot_id_with s m x after p c.slot_id) (λ e. ne (e ∙ holder_with s m x after p))

  other_holder : (y : ℕ) (h : Heap) → y < length s.own → (y ≡ x → ⊥) → IsHolder then_ y (get_or s.heaps y h)
  other_holder y h lt ne =
      holder_same s then_ y (get_or s.heaps y h) (put_memory (with_store s m x after) p u y ∙ c.others y lt ne) (other_contents y ne)
      (ap (λ a. a.quota) (put_account (with_store s m x after) p u y) ∙ quota_same (account_of s.trades.trading y)) price_then (i.holders y h lt)

  module _ (sound : AreSound then_.trades.trading)
      (peaked : raised_by (places_used new (prefix s p ++ u ∷ back s p)) classes (peaks after) ≡ peaks after)
      (eight : length (peaks before) ≡ 8 → length (peaks after) ≡ 8) where
    its_holder : IsHolder then_ x after
    its_holder = record {
      keeps = subst (λ a. KeepsContents after a (contents then_ x)) (sym memory_then) (subst (KeepsContents after new) (sym contents_then) beside.keeps);
      ram = ram_then;
      caps = caps_then;
      peaked = ap (λ a. raised_by (places_used a (contents then_ x)) classes (peaks after)) memory_then
          ∙ ap (λ a. raised_by (places_used new a) classes (peaks after)) contents_then ∙ peaked;
      eight = eight now.eight;
    }

    holder_at : (y : ℕ) (h : Heap) (b : Bool) → eqb y x ≡ b → y < length s.own → IsHolder then_ y (get_or then_.heaps y h)
    holder_at y h true e lt =
        let f : y ≡ x = grind (arith, nat_tests, e) in
        let g : get_or (set s.heaps x after) x h ≡ after = get_or-set_same s.heaps x after h (omega (arith, there, i.count, i.heaps)) in
        subst (λ z. IsHolder then_ z (get_or (set s.heaps x after) z h)) (sym f) (subst (IsHolder then_ x) (sym g) its_holder)
    holder_at y h false e lt =
        let f : y ≡ x → ⊥ = λ g. grind (arith, nat_tests, e, g) in
        let g : get_or (set s.heaps x after) y h ≡ get_or s.heaps y h = get_or-set_other s.heaps x y after h f in
        subst (IsHolder then_ y) (sym g) (other_holder y h lt f)

    pub kept_then : IsSlots then_
    kept_then = record {
      count = count_then ∙ i.count ∙ sym (put_leaves (with_store s m x after) p u);
      heaps = length-set s.heaps x after ∙ i.heaps ∙ sym (put_leaves (with_store s m x after) p u);
      long = long_put (with_store s m x after) p u (slot_id_with s m x after p c.slot_id) (long_with s m x after i.long);
      sound = sound;
      holders = λ y h lt. holder_at y h (eqb y x) refl (omega (arith, lt, count_then));
    }

  own_heaps : length s.heaps ≡ length s.own
  own_heaps = i.heaps ∙ sym i.count

  -- with any heap, the world has the slot, and the peaks of this heap
  world_with : (h : Heap) (f : Frame) → world_seen f (put (with_store s m x h) p u)
      ≡ with_peaks_at x (peaks h) (world.with_slot (world_seen f s) (slot_id_seen p) (seen new u))
  world_with h f =
      world_after f s m p h u (length s.trades.trading.objects) c.slot_id i.long own_heaps there
      (subst (λ n. AreBetween n (length s.trades.trading.objects) s.trades.trading.sessions) (sym i.count) w.between)
      c.others beside.prefix_seen beside.back_seen

  same_accounts : SameAccounts s.trades.trading then_.trades.trading
  same_accounts = accounts_put (with_store s m x after) p u s.trades.trading (record {
    tree = refl;
    leaves = refl;
    objects = refl;
    room = refl;
    requests = refl;
    price = price_same;
    quota = quota_same;
  })

  same_beside : SameBeside s then_
  same_beside = record {
    nodes = refl;
    accounts = same_accounts;
    slot_ids = λ q l. slot_id_put (with_store s m x after) p u q (slot_id_with s m x after q l);
    holders = λ q. holder_put (with_store s m x after) p u q ∙ holder_with s m x after q;
  }

  pub puts_then : peaks after ≡ peaks before → PutsSlot s then_ p (seen new u)
  puts_then e = record {
    seen_so = λ f. world_with after f ∙ ap (λ ps. with_peaks_at x ps (world.with_slot (world_seen f s) (slot_id_seen p) (seen new u))) e
        ∙ same_peaks f s p (seen new u) x before there own_heaps c.heap;
    rest = same_beside;
  }

  -- the same slots with the heap that was there
  abbrev before_ : Slots
  before_ = put (with_store s m x before) p u

  contents_before : contents before_ x ≡ prefix s p ++ u ∷ back s p
  contents_before =
      ap (λ y. contents before_ y) (sym (holder_with s m x before p))
      ∙ split (with_store s m x before) p u (slot_id_with s m x before p c.slot_id) (long_with s m x before i.long)
      ∙ (λ k. prefix_with s m x before p k ++ u ∷ back_with s m x before p k)

  module _ (objects : AreObjects before_.trades.trading.sessions)
      (raises : raised_by (places_used new (prefix s p ++ u ∷ back s p)) classes (peaks before) ≡ peaks after) (f : Frame) where
    abbrev leaf_before : world.Leaf
    leaf_before = leaf_seen (f.leaf x) (memory_of before_ x) (get_or before_.own x []) before

    leaf_is : slice_get (world_seen f before_).leaves x ≡ Some leaf_before
    leaf_is =
        let e : get_or (set s.heaps x before) x before ≡ before = get_or-set_same s.heaps x before before (omega (arith, there, own_heaps)) in
        leaf_at f.leaf (memory_of before_) before_.own (set s.heaps x before) x before (omega (arith, there, put_count (with_store s m x before) p u))
        (omega (arith, there, own_heaps, length-set s.heaps x before))
        ∙ ap (λ h. Some (leaf_seen (f.leaf x) (memory_of before_ x) (get_or before_.own x []) h)) e

    raised_now : raised (world_seen f before_) x leaf_before classes (peaks before) ≡ peaks after
    raised_now =
        raised_is f before_ x before (f.leaf x) classes (peaks before) objects
        ∙ ap (λ a. raised_by (places_used a (contents before_ x)) classes (peaks before)) (put_memory (with_store s m x before) p u x)
        ∙ ap (λ a. raised_by (places_used new a) classes (peaks before)) contents_before ∙ raises

    settled_now : settled_in x (world_seen f before_) ≡ with_peaks_at x (peaks after) (world_seen f before_)
    settled_now =
        ap (raised_in (world_seen f before_) x) leaf_is
        ∙ ap (λ ps. world.with_leaf (world_seen f before_) x (record leaf_before { peaks = ps })) raised_now
        ∙ ap (peaks_in (world_seen f before_) x (peaks after)) (sym leaf_is)

    settled_then : world_seen f then_ ≡ settled_in x (world.with_slot (world_seen f s) (slot_id_seen p) (seen new u))
    settled_then =
        let e : world_seen f before_ ≡ world.with_slot (world_seen f s) (slot_id_seen p) (seen new u) =
        world_with before f ∙ same_peaks f s p (seen new u) x before there own_heaps c.heap in
        world_with after f ∙ ap (with_peaks_at x (peaks after)) (sym e) ∙ sym settled_now ∙ ap (settled_in x) e

  pub settles_then : AreObjects before_.trades.trading.sessions
      → raised_by (places_used new (prefix s p ++ u ∷ back s p)) classes (peaks before) ≡ peaks after → Settles s then_ p (seen new u)
  settles_then objects raises = record { seen_so = λ f. settled_then objects raises f; rest = same_beside }

  -- where no more of the heap is in use than before, its peaks are what they were
  pub stays_raised : ((k : ℕ) → slot_places k (seen new u) ≤ slot_places k (seen old t))
      → raised_by (places_used new (prefix s p ++ u ∷ back s p)) classes (peaks before) ≡ peaks before
  stays_raised le =
      raised_below (places_used new (prefix s p ++ u ∷ back s p)) (places_used old (contents s x)) classes (peaks before) (λ k.
      let e = places_change k old new (prefix s p) t u (back s p) beside.prefix_seen beside.back_seen in
      omega (arith, e, le k, ap (λ ts. places_used old ts k) contents_old)) now.peaked

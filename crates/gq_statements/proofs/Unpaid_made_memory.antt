-- Where what is made can't be paid for, the world with it is not paid for.
use Rattle.std.proofs.Common.{◌≡◌, ℕ, zero, suc, ◌+◌, ◌-◌, ◌<◌, ◌≤◌, Bool, true, false, cond, eqb, List, [], ◌∷◌, length, inl, inr, Some, None, refl}
use Rattle.std.proofs.Common.{sym, ap, ◌∙◌, subst, arith}
use Rattle.std.specs.Prelude.{slice_get}
use Rattle.std.proofs.lemmas.Bool.Decides.{nat_tests}
use Rattle.gq_tariff.specs.Prices.{classes}
use Rattle.gq_model.specs.machine.Amounts.{Resource, Ram, Caps, part}
use Rattle.gq_model.specs.machine.Scenario.{System, Component}
use Rattle.gq_model.specs.machine.World as world
use Rattle.gq_model.specs.machine.Sums.{handed, held, lent, paid, received, slot_price, with_peaks}
use Rattle.gq_contents.specs.declared.content.Content.TheVariants as content
use Rattle.gq_contents.specs.Contents.{seen}
use Rattle.gq_trade.specs.declared.session.SlotId.{SlotId}
use Rattle.gq_trade.specs.declared.session.SlotId.TheVariants.{InLeaf, InSession, InObject}
use Rattle.gq_trade.specs.Seen_sessions.{session_seen, slot_id_seen}
use Rattle.gq_trade.specs.Trading.{account_of, its_account, session_in}
use Rattle.gq_slots.specs.Slots.{Frame, IsSlot, IsSlotId, Slots, holder, memory_of, raised_in, settled_in, slot_of, content_at, world_seen}
use Rattle.gq_slots.proofs.Slot_change_worlds.{session_there}
use Rattle.gq_laws.proofs.session_links.Written_world_links.{leaf_there, set_here}
use Rattle.gq_statements.specs.Among.{IsAmong}
use Rattle.gq_statements.specs.Systems.{AreLawful, IsOf, Lacks, counted_at}
use Rattle.gq_statements.proofs.Leaf_quota_balance.{balances}
use Rattle.gq_statements.proofs.Unpaid_leaf_world.{not_paid}
use Rattle.gq_statements.proofs.Lawful_worlds_paid.{phase_seen}
use Rattle.gq_statements.proofs.Written_slot_holdings.{Writes, leaf_written, raised_more, session_written}

-- WHAT IS LACKED

-- something is found at each place of a list
pub found_at : {A : Type 0} (items : List A) (i : ℕ) → i < length items → (a : A) × (slice_get items i ≡ Some a)
found_at [] i lt = absurd (omega (arith, lt))
found_at (a ∷ items) zero lt = (a, refl)
found_at (a ∷ items) (suc i) lt = found_at items i (omega (arith, lt))

-- a leaf that lacks capabilities is in a system that counts them, and uses its quota
counted_caps : (price quota used : ℕ) (b : Bool) → eqb price 0 ≡ b → cond b None (Some (quota - used)) ≡ Some 0 → ((price ≡ 0 → ⊥) × (quota ≤ used))
counted_caps price quota used true e h = absurd (cc)
counted_caps price quota used false e h =
    let f : quota - used ≡ 0 = cc in
    ((λ z. grind (arith, nat_tests, e, z)), omega (arith, f))

ram_among : (b : Bool) → IsAmong Ram (cond b (Ram ∷ []) (Ram ∷ Caps ∷ []))
ram_among true = inl refl
ram_among false = inl refl

caps_among : (price : ℕ) → (price ≡ 0 → ⊥) → IsAmong Caps (counted_at price)
caps_among price ne =
    let e : eqb price 0 ≡ false = grind (arith, nat_tests, ne) in subst (λ b. IsAmong Caps (cond b (Ram ∷ []) (Ram ∷ Caps ∷ []))) (sym e) (inr (inl refl))

-- What a leaf that can't pay n more holds, has lent and must pay is more than what it was handed and has received.
pub record IsShort (system : System) (f : Frame) (s : Slots) (r : Resource) (x : ℕ) (c : Component) (leaf : world.Leaf) (n : ℕ) : Type 0 where
  pub among : IsAmong r system.counted
  pub more : handed leaf.phase (part r c.node.quantum) + received r (world_seen f s) x < held r (world_seen f s) x leaf + n + lent r (world_seen f s) x

module _ (system : System) (f : Frame) (s : Slots) (l : AreLawful s) (o : IsOf system f s) (x : ℕ) (lt : x < length s.own) where
  short : (r : Resource) (c : Component) (leaf : world.Leaf) (n : ℕ) → slice_get system.components x ≡ Some c
      → slice_get (world_seen f s).leaves x ≡ Some leaf → Lacks r s x n → IsShort system f s r x c leaf n
  short Ram c leaf n there stands lacks =
      let t = s.trades.trading in
      let p = l.held f x leaf stands in
      let b = balances system f s x c l lt there o in
      let e = ap (λ q. handed q c.node.quantum.ram) (phase_seen f.leaf (memory_of s) s.own s.heaps x leaf stands) in
      record {
        among = subst (IsAmong Ram) (sym o.counted) (ram_among (eqb t.ledger.price 0));
        more = omega (arith, b.0, e, p.ram, l.balanced.within (account_of t x), lacks);
      }
  short Caps c leaf n there stands lacks =
      let t = s.trades.trading in
      let p = l.held f x leaf stands in
      let b = balances system f s x c l lt there o in
      let e = ap (λ q. handed q c.node.quantum.caps) (phase_seen f.leaf (memory_of s) s.own s.heaps x leaf stands) in
      let none = counted_caps t.ledger.price (its_account t x).quota.caps (its_account t x).used.caps (eqb t.ledger.price 0) refl lacks.0 in
      let h = p.caps none.0 in
      record {
        among = subst (IsAmong Caps) (sym o.counted) (caps_among t.ledger.price none.0);
        more = omega (arith, b.1, e, h, none.1, lacks.1);
      }

  -- where a slot of the leaf is written, and the price rises by n with the peaks that are raised
  pub unpaid_written : (r : Resource) (n : ℕ) (v : world.World) (leaf : world.Leaf) (old slot : world.Slot) → Lacks r s x n
      → slice_get (world_seen f s).leaves x ≡ Some leaf → (h : Writes (world_seen f s) v x leaf old slot)
      → held r (world_seen f s) x leaf + n ≤ held r v x (with_peaks v x h.then_) → paid system (settled_in x v) ≡ false
  unpaid_written r n v leaf old slot lacks stands h more =
      let found = found_at system.components x (omega (arith, lt, o.count)) in
      let c = found.0 in
      let m = with_peaks v x h.then_ in
      let sh = short r c leaf n found.1 stands lacks in
      let a = h.receives r in
      let b = h.lends r in
      let e = ap (λ q. handed q (part r c.node.quantum)) h.phase in
      ap (λ y. paid system (raised_in v x y)) h.there
      ∙ not_paid system (world.with_leaf v x m) x c m r found.1 (set_here v.leaves x m h.then_ h.there) sh.among (omega (arith, sh.more, more, a, b, e))

  -- peaks that are raised cost no less
  pub unpaid_held : (r : Resource) (n : ℕ) (v : world.World) (leaf : world.Leaf) (old slot : world.Slot) → Lacks r s x n
      → slice_get (world_seen f s).leaves x ≡ Some leaf → (h : Writes (world_seen f s) v x leaf old slot)
      → slot_price r old + n ≤ slot_price r slot → paid system (settled_in x v) ≡ false
  unpaid_held r n v leaf old slot lacks stands h more =
      let a = h.holds r in
      let b = raised_more r v x h.then_ classes h.then_.peaks in
      unpaid_written r n v leaf old slot lacks stands h (omega (arith, a, b, more))

-- A SLOT THAT IS WRITTEN

-- the x-th leaf of the world
pub leaf_found : (f : Frame) (s : Slots) → AreLawful s → (x : ℕ) → x < length s.own → (leaf : world.Leaf) × (slice_get (world_seen f s).leaves x ≡ Some leaf)
leaf_found f s l x lt =
    let e = leaf_there (world_seen f s) x 0 (slot_of s (InLeaf x 0)) (l.read f (InLeaf x 0) (lt, omega arith)) in
    (e.0, e.1)

some_is : {A : Type 0} (a b : A) → Some a ≡ Some b → a ≡ b
some_is a b e = cc

pub written_at : (f : Frame) (s : Slots) (p : SlotId) (leaf : world.Leaf) (slot : world.Slot) → AreLawful s → IsSlotId s p → IsSlot p
    → slice_get (world_seen f s).leaves (holder s p) ≡ Some leaf
    → Writes (world_seen f s) (world.with_slot (world_seen f s) (slot_id_seen p) slot) (holder s p) leaf (slot_of s p) slot
written_at f s (InLeaf x i) leaf slot l there is stands =
    let w = world_seen f s in
    let old = slot_of s (InLeaf x i) in
    let has = sym (ap (λ o. world.leaf_slot o i) stands) ∙ l.read f (InLeaf x i) there in
    subst (λ o. Writes w (world.put_leaf_slot w o x i slot) x leaf old slot) (sym stands) (leaf_written w x i leaf old slot stands has)
written_at f s (InSession k i) leaf slot l there is stands =
    let w = world_seen f s in
    let old = slot_of s (InSession k i) in
    let ss = s.trades.trading.sessions in
    let q = session_seen f.names (memory_of s (session_in ss k).server) (session_in ss k) in
    let found : world.session_at w k ≡ Some q =
    ap world.joined (session_there (λ z. session_seen f.names (memory_of s z.server) z) ss k there.0) in
    let has = sym (ap (λ o. world.session_slot o i) found) ∙ l.read f (InSession k i) there in
    subst (λ o. Writes w (world.put_session_slot w o k i slot) (session_in ss k).server leaf old slot) (sym found)
    (session_written w k i (session_in ss k).server q leaf old slot found refl has stands)
written_at f s (InObject k) leaf slot l there is stands = absurd is

-- Where the leaf that pays for an empty slot can't pay the price of what is to stand there, the world with it is not paid for.
pub unpaid_made : (system : System) (f : Frame) (s : Slots) (p : SlotId) (slot : world.Slot) → AreLawful s → IsOf system f s → IsSlotId s p → IsSlot p
    → content_at s p ≡ content.Empty → holder s p < length s.own → (r : Resource) → Lacks r s (holder s p) (slot_price r slot)
    → paid system (settled_in (holder s p) (world.with_slot (world_seen f s) (slot_id_seen p) slot)) ≡ false
unpaid_made system f s p slot l o there is empty lt r lacks =
    let x = holder s p in
    let found = leaf_found f s l x lt in
    let e = ap (λ t. slot_price r (seen (memory_of s x) t)) empty in
    unpaid_held system f s l o x lt r (slot_price r slot) (world.with_slot (world_seen f s) (slot_id_seen p) slot) found.0 (slot_of s p) slot lacks found.1
    (written_at f s p found.0 slot l there is found.1) (omega (arith, e))

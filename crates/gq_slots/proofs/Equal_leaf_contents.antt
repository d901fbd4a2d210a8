-- What a leaf keeps, where its slots are others that hold the same, and another memory has the same bytes.
use Rattle.std.proofs.Common.{◌≡◌, ℕ, zero, suc, ◌+◌, ◌-◌, ◌≤◌, Bool, true, false, cond, eqb, List, [], ◌∷◌, ◌++◌, replicate, Some, None, refl, sym, ap}
use Rattle.std.proofs.Common.{subst, ◌∙◌, arith}
use Rattle.std.proofs.lemmas.Bool.Decides.{nat_tests}
use Rattle.gq_tariff.specs.Prices.{classes}
use Rattle.gq_model.specs.machine.Amounts.{Resource, Ram, Caps}
use Rattle.gq_store.specs.Store.{Store, SameChunk, plus_caps}
use Rattle.gq_heap.specs.declared.heap.Heap.{Heap}
use Rattle.gq_heap.specs.List_occurrences.{times}
use Rattle.gq_heap.specs.Heap.{peaks}
use Rattle.gq_heap.proofs.Heap_caller_facts.{heap_stays}
use Rattle.gq_ram.specs.Account_table.{account_at}
use Rattle.gq_ram.specs.Ledgers.{IsBalanced, Ledger}
use Rattle.gq_contents.specs.declared.content.Content.{Content}
use Rattle.gq_contents.specs.declared.content.Content.TheVariants.{Empty}
use Rattle.gq_contents.specs.Contents.{chunks, places}
use Rattle.gq_contents.specs.Contents_invariant.{AreContents, Blocks, KeepsContents, SameSeen, all_chunks, all_places}
use Rattle.gq_contents.specs.Paid.{cost, places_used, raised_by}
use Rattle.gq_contents.proofs.Unchanged_content_meaning.{by_bytes, same_contents}
use Rattle.gq_contents.proofs.Content_heap_peaks.{counts_same}
use Rattle.gq_trade.specs.Trading.{account_of, its_account}
use Rattle.gq_slots.specs.Slots.{Slots, memory_of}
use Rattle.gq_slots.specs.internal.Slots_invariant.{IsHolder, counted, held_by, contents}
use Rattle.gq_slots.proofs.Leaf_holding_sums.{cost_same}

-- LISTS THAT HOLD THE SAME

pub record Alike (ts us : List Content) : Type 0 where
  pub chunks_same : all_chunks us ≡ all_chunks ts
  pub places_same : (st : Store) → all_places st us ≡ all_places st ts
  pub are : (st : Store) → AreContents st ts → AreContents st us
  pub cost_is : (r : Resource) (st : Store) → cost r st us ≡ cost r st ts
  pub used_is : (st : Store) (c : ℕ) → places_used st us c ≡ places_used st ts c

pub alike : (ts : List Content) → Alike ts ts
alike ts = record {
  chunks_same = refl;
  places_same = λ st. refl;
  are = λ st a. a;
  cost_is = λ r st. refl;
  used_is = λ st c. refl;
}

pub alike_is : (ts us : List Content) → us ≡ ts → Alike ts us
alike_is ts us e = subst (λ ys. Alike ts ys) (sym e) (alike ts)

pub alike_then : (ts us vs : List Content) → Alike ts us → Alike us vs → Alike ts vs
alike_then ts us vs a b = record {
  chunks_same = b.chunks_same ∙ a.chunks_same;
  places_same = λ st. b.places_same st ∙ a.places_same st;
  are = λ st x. b.are st (a.are st x);
  cost_is = λ r st. b.cost_is r st ∙ a.cost_is r st;
  used_is = λ st c. b.used_is st c ∙ a.used_is st c;
}

pub alike_behind : (fs ts us : List Content) → Alike ts us → Alike (fs ++ ts) (fs ++ us)
alike_behind [] ts us a = a
alike_behind (f ∷ fs) ts us a =
    let b = alike_behind fs ts us a in
    record {
      chunks_same = ap (λ cs. chunks f ++ cs) b.chunks_same;
      places_same = λ st. ap (λ ps. places st f ++ ps) (b.places_same st);
      are = λ st x. (x.0, b.are st x.1);
      cost_is = λ r st. omega (arith, b.cost_is r st);
      used_is = λ st c. omega (arith, b.used_is st c);
    }

alike_one : (ts : List Content) → Alike ts (Empty ∷ ts)
alike_one ts = record {
  chunks_same = refl;
  places_same = λ st. refl;
  are = λ st a. (tt, a);
  cost_is = λ r st. omega arith;
  used_is = λ st c. omega arith;
}

alike_less : (ts : List Content) → Alike (Empty ∷ ts) ts
alike_less ts = record {
  chunks_same = refl;
  places_same = λ st. refl;
  are = λ st a. a.1;
  cost_is = λ r st. omega arith;
  used_is = λ st c. omega arith;
}

-- more slots, which are empty
pub alike_more : (n : ℕ) (ts : List Content) → Alike ts (replicate n Empty ++ ts)
alike_more zero ts = alike ts
alike_more (suc n) ts =
    alike_then ts (replicate n Empty ++ ts) (Empty ∷ (replicate n Empty ++ ts)) (alike_more n ts) (alike_one (replicate n Empty ++ ts))

-- fewer of them
pub alike_fewer : (n : ℕ) (ts : List Content) → Alike (replicate n Empty ++ ts) ts
alike_fewer zero ts = alike ts
alike_fewer (suc n) ts =
    alike_then (Empty ∷ (replicate n Empty ++ ts)) (replicate n Empty ++ ts) ts (alike_less (replicate n Empty ++ ts)) (alike_fewer n ts)

-- WHAT IS KEPT

-- what is kept where the bytes are the same
record KeepsOn (h : Heap) (old new : Store) (ts : List Content) : Type 0 where
  keeps : KeepsContents h new ts
  seen : SameSeen old new ts

keeps_on : (h : Heap) (old new : Store) (ts : List Content) → ((k : ℕ) → SameChunk old new k) → KeepsContents h old ts → KeepsOn h old new ts
keeps_on h old new ts same k =
    let still = heap_stays h old new (all_places old ts) k.blocks.keeps (λ x o. same x) in
    let all = same_contents old new ts k.each (by_bytes old new (all_places old ts) still.bytes) (λ x lt. same x) in
    record {
      keeps = record {
        each = all.are;
        blocks = subst (λ ps. Blocks h new ps (all_chunks ts)) (sym all.places_same)
            (record { keeps = still.keeps; apart = λ x lt o. k.blocks.apart x lt (still.owns x o) });
        once = k.once;
      };
      seen = all.seen_same;
    }

keeps_alike : (h : Heap) (st : Store) (ts us : List Content) → Alike ts us → KeepsContents h st ts → KeepsContents h st us
keeps_alike h st ts us a k = record {
  each = a.are st k.each;
  blocks = subst (λ ps. Blocks h st ps (all_chunks us)) (sym (a.places_same st)) (subst (Blocks h st (all_places st ts)) (sym a.chunks_same) k.blocks);
  once = λ x. subst (λ cs. times x cs ≤ 1) (sym a.chunks_same) (k.once x);
}

-- what an account uses is within its quota, of capabilities where they are counted
pub record IsWithin (l : Ledger) (a : ℕ) : Type 0 where
  pub ram : (account_at l.accounts a).used.ram ≤ (account_at l.accounts a).quota.ram
  pub caps : (l.price ≡ 0 → ⊥) → (account_at l.accounts a).used.caps ≤ (account_at l.accounts a).quota.caps

pub within : (l : Ledger) (a : ℕ) → IsBalanced l → IsWithin l a
within l a b = record { ram = b.within a; caps = λ ne. b.caps_within a }

counts : (price : ℕ) → eqb price 0 ≡ false → price ≡ 0 → ⊥
counts price e f = grind (arith, nat_tests, e, f)

-- quota that changes, of capabilities
caps_then : (b : Bool) (used old new held : ℕ) → (b ≡ false → used ≤ old) → (b ≡ false → used ≤ new)
    → plus_caps held (cond b None (Some (old - used))) ≡ cond b None (Some old)
    → plus_caps held (cond b None (Some (new - used))) ≡ cond b None (Some new)
caps_then true used old new held a c e = refl
caps_then false used old new held a c e =
    let f : old - used + held ≡ old = cc in
    let g : new - used + held ≡ new = omega (arith, f, a refl, c refl) in
    ap Some g

module _ (s n : Slots) (x : ℕ) (h : Heap) (same : (k : ℕ) → SameChunk (memory_of s x) (memory_of n x) k) (a : Alike (contents s x) (contents n x))
    (used : (its_account n.trades.trading x).used ≡ (its_account s.trades.trading x).used)
    (price : n.trades.trading.ledger.price ≡ s.trades.trading.ledger.price)
    (b : IsWithin s.trades.trading.ledger (account_of s.trades.trading x))
    (d : IsWithin n.trades.trading.ledger (account_of n.trades.trading x)) (i : IsHolder s x h) where
  on : KeepsOn h (memory_of s x) (memory_of n x) (contents s x)
  on = keeps_on h (memory_of s x) (memory_of n x) (contents s x) same i.keeps

  held_same : (r : Resource) → held_by r n x h ≡ held_by r s x h
  held_same r =
      let e = a.cost_is r (memory_of n x) in
      let f = cost_same r (memory_of s x) (memory_of n x) (contents s x) on.seen in
      omega (arith, e, f)

  used_same : (c : ℕ) → places_used (memory_of n x) (contents n x) c ≡ places_used (memory_of s x) (contents s x) c
  used_same c = a.used_is (memory_of n x) c ∙ counts_same c (memory_of s x) (memory_of n x) (contents s x) on.seen

  caps_same : plus_caps (held_by Caps n x h) (memory_of n x).caps ≡ counted n.trades.trading.ledger.price (its_account n.trades.trading x).quota.caps
  caps_same =
      let p = s.trades.trading.ledger.price in
      let u = (its_account s.trades.trading x).used.caps in
      let q = (its_account s.trades.trading x).quota.caps in
      let m = (its_account n.trades.trading x).quota.caps in
      let v = ap (λ y. y.caps) used in
      let le : eqb p 0 ≡ false → u ≤ m = λ e. subst (λ y. y ≤ m) v (d.caps (λ z. counts p e (sym price ∙ z))) in
      let now = caps_then (eqb p 0) u q m (held_by Caps s x h) (λ e. b.caps (counts p e)) le i.caps in
      (λ k. plus_caps (held_same Caps k) (cond (eqb (price k) 0) None (Some (m - v k)))) ∙ now ∙ (λ k. cond (eqb (sym price k) 0) None (Some m))

  pub holder_alike : IsHolder n x h
  holder_alike = record {
    keeps = keeps_alike h (memory_of n x) (contents s x) (contents n x) a on.keeps;
    ram =
        let v = ap (λ y. y.ram) used in
        omega (arith, v, held_same Ram, i.ram, b.ram, d.ram);
    caps = caps_same;
    peaked = (λ k. raised_by (λ c. used_same c k) classes (peaks h)) ∙ i.peaked;
    eight = i.eight;
  }

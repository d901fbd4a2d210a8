-- What a leaf holds and has in use in the world, as sums over the contents that it pays for.
use Rattle.std.proofs.Common.{◌≡◌, ℕ, ◌+◌, ◌≤◌, max, Bool, true, false, cond, eqb, List, [], ◌∷◌, ◌++◌, map, get_or, length, Option, Some, None, refl, ap}
use Rattle.std.proofs.Common.{arith}
use Rattle.std.specs.Prelude.{sum_by}
use Rattle.std.proofs.lemmas.Bool.Decides.{nat_tests}
use Rattle.std.proofs.lemmas.List.Sums.{sum_by-cons}
use Rattle.gq_model.specs.machine.Amounts.{Resource}
use Rattle.gq_model.specs.machine.Sums.{bank_price, held, places, raised, slot_price, slot_places, to_leaf}
use Rattle.gq_model.specs.machine.World as world
use Rattle.gq_store.specs.Store.{Store}
use Rattle.gq_heap.specs.declared.heap.Heap.{Heap}
use Rattle.gq_contents.specs.declared.content.Content.{Content}
use Rattle.gq_contents.specs.declared.content.Content.TheVariants.{Empty, Block, Slice, Space, Pool, Link, Waiting}
use Rattle.gq_contents.specs.Contents.{seen}
use Rattle.gq_contents.specs.Contents_invariant.{SameSeen}
use Rattle.gq_contents.specs.Paid.{cost, places_used, raised_by}
use Rattle.gq_contents.proofs.Content_heap_peaks.{counts_append, counts_same}
use Rattle.gq_trade.specs.declared.session.Session.{Session}
use Rattle.gq_trade.specs.Seen_sessions.{seen_in, session_seen}
use Rattle.gq_slots.specs.Slots.{Slots, Frame, leaf_seen, memory_of, world_seen}
use Rattle.gq_slots.specs.internal.Slots_invariant.{AreObjects, IsObject, held_by, session_contents, contents, contents_of}

-- what contents cost together, and with one of them changed
pub cost_append : (r : Resource) (st : Store) (ts us : List Content) → cost r st (ts ++ us) ≡ cost r st ts + cost r st us
cost_append r st [] us = omega arith
cost_append r st (t ∷ ts) us = omega (arith, cost_append r st ts us)

pub cost_same : (r : Resource) (old new : Store) (ts : List Content) → SameSeen old new ts → cost r new ts ≡ cost r old ts
cost_same r old new [] h = refl
cost_same r old new (t ∷ ts) h = omega (arith, ap (slot_price r) h.0, cost_same r old new ts h.1)

pub cost_change : (r : Resource) (old new : Store) (prefix : List Content) (t u : Content) (back : List Content) → SameSeen old new prefix → SameSeen old new
    back
    → cost r new (prefix ++ u ∷ back) + slot_price r (seen old t) ≡ cost r old (prefix ++ t ∷ back) + slot_price r (seen new u)
cost_change r old new f t u b g h =
    omega (arith, cost_append r new f (u ∷ b), cost_append r old f (t ∷ b), cost_same r old new f g, cost_same r old new b h)

pub places_change : (c : ℕ) (old new : Store) (prefix : List Content) (t u : Content) (back : List Content) → SameSeen old new prefix → SameSeen old new back
    → places_used new (prefix ++ u ∷ back) c + slot_places c (seen old t) ≡ places_used old (prefix ++ t ∷ back) c + slot_places c (seen new u)
places_change c old new f t u b g h =
    omega (arith, counts_append c new f (u ∷ b), counts_append c old f (t ∷ b), counts_same c old new f g, counts_same c old new b h)

-- peaks that are raised
pub raised_same : (f g : ℕ → ℕ) (cs ps : List ℕ) → ((c : ℕ) → f c ≡ g c) → raised_by f cs ps ≡ raised_by g cs ps
raised_same f g cs ps h = (λ k. raised_by (λ c. h c k) cs ps)

head_is : (a b : ℕ) (xs bs : List ℕ) → a ∷ xs ≡ b ∷ bs → a ≡ b
head_is a b xs bs e = cc

tail_is : (a b : ℕ) (xs bs : List ℕ) → a ∷ xs ≡ b ∷ bs → xs ≡ bs
tail_is a b xs bs e = cc

max_below : (p m n : ℕ) → m ≤ n → max p n ≡ p → max p m ≡ p
max_below p m n le e = grind (arith, nat_tests)

max_again : (p n : ℕ) → max (max p n) n ≡ max p n
max_again p n = grind (arith, nat_tests)

pub raised_below : (f g : ℕ → ℕ) (cs ps : List ℕ) → ((c : ℕ) → f c ≤ g c) → raised_by g cs ps ≡ ps → raised_by f cs ps ≡ ps
raised_below f g [] ps h e = e
raised_below f g (c ∷ cs) [] h e = e
raised_below f g (c ∷ cs) (p ∷ ps) h e =
    let a = max_below p (f c) (g c) (h c) (head_is (max p (g c)) p (raised_by g cs ps) ps e) in
    let b = raised_below f g cs ps h (tail_is (max p (g c)) p (raised_by g cs ps) ps e) in
    λ k. a k ∷ b k

pub raised_again : (f : ℕ → ℕ) (cs ps : List ℕ) → raised_by f cs (raised_by f cs ps) ≡ raised_by f cs ps
raised_again f [] ps = refl
raised_again f (c ∷ cs) [] = refl
raised_again f (c ∷ cs) (p ∷ ps) = let a = max_again p (f c) in let b = raised_again f cs ps in λ k. a k ∷ b k

pub raised_long : (f : ℕ → ℕ) (cs ps : List ℕ) → length ps ≡ length cs → length (raised_by f cs ps) ≡ length cs
raised_long f [] ps e = refl
raised_long f (c ∷ cs) [] e = e
raised_long f (c ∷ cs) (p ∷ ps) e = let rest = raised_long f cs ps (omega (arith, e)) in omega (arith, rest)

-- THE WORLD

same_number : (a b : ℕ) → eqb a b ≡ true → a ≡ b
same_number a b e = grind (arith, nat_tests)

-- a sum over slots
abbrev sum_of : (Content → ℕ) → List Content → ℕ
sum_of f [] = 0
sum_of f (t ∷ ts) = f t + sum_of f ts

slots_sum : (g : world.Slot → ℕ) (st : Store) (ts : List Content) → sum_by g (map (seen st) ts) ≡ sum_of (λ t. g (seen st t)) ts
slots_sum g st [] = refl
slots_sum g st (t ∷ ts) = let e = sum_by-cons g (seen st t) (map (seen st) ts) in omega (arith, e, slots_sum g st ts)

cost_sum : (r : Resource) (st : Store) (ts : List Content) → sum_of (λ t. slot_price r (seen st t)) ts ≡ cost r st ts
cost_sum r st [] = refl
cost_sum r st (t ∷ ts) = ap (λ n. slot_price r (seen st t) + n) (cost_sum r st ts)

used_sum : (c : ℕ) (st : Store) (ts : List Content) → sum_of (λ t. slot_places c (seen st t)) ts ≡ places_used st ts c
used_sum c st [] = refl
used_sum c st (t ∷ ts) = ap (λ n. slot_places c (seen st t) + n) (used_sum c st ts)

module _ (names : List (List ℕ)) (st : ℕ → Store) (x : ℕ) where
  abbrev seen_all : List (Option Session) → List (Option world.Session)
  seen_all ss = map (seen_in (λ s. session_seen names (st s.server) s)) ss

  price_here : (r : Resource) (s : Session) (b : Bool) → eqb s.server x ≡ b
      → cond b (bank_price r (session_seen names (st s.server) s)) 0 ≡ cost r (st x) (cond b (s.object ∷ s.slots) [])
  price_here r s true e =
      let y = same_number s.server x e in
      omega (
        arith,
        slots_sum (slot_price r) (st s.server) s.slots,
        cost_sum r (st s.server) s.slots,
        ap (λ z. cost r (st z) s.slots) y,
        ap (λ z. slot_price r (seen (st z) s.object)) y,
      )
  price_here r s false e = refl

  sessions_price : (r : Resource) (ss : List (Option Session)) → sum_by (to_leaf x (bank_price r)) (seen_all ss) ≡ cost r (st x) (session_contents x ss)
  sessions_price r [] = refl
  sessions_price r (None ∷ ss) = let e = sum_by-cons (to_leaf x (bank_price r)) None (seen_all ss) in omega (arith, e, sessions_price r ss)
  sessions_price r (Some s ∷ ss) =
      let e = sum_by-cons (to_leaf x (bank_price r)) (Some (session_seen names (st s.server) s)) (seen_all ss) in
      omega (arith, e, sessions_price r ss, price_here r s (eqb s.server x) refl, cost_append r (st x) (contents_of x s) (session_contents x ss))

  no_places : (c : ℕ) (a : Store) (t : Content) → IsObject t → slot_places c (seen a t) ≡ 0
  no_places c a Empty o = refl
  no_places c a (Block p n) o = absurd o
  no_places c a (Slice k n) o = refl
  no_places c a (Space k n) o = absurd o
  no_places c a (Pool p) o = absurd o
  no_places c a (Link k) o = absurd o
  no_places c a (Waiting k) o = absurd o

  abbrev bank_places : ℕ → world.Session → ℕ
  bank_places c session = sum_by (slot_places c) session.slots

  places_here : (c : ℕ) (s : Session) (b : Bool) → eqb s.server x ≡ b → IsObject s.object
      → cond b (bank_places c (session_seen names (st s.server) s)) 0 ≡ places_used (st x) (cond b (s.object ∷ s.slots) []) c
  places_here c s true e o =
      let y = same_number s.server x e in
      omega (
        arith,
        slots_sum (slot_places c) (st s.server) s.slots,
        used_sum c (st s.server) s.slots,
        ap (λ z. places_used (st z) s.slots c) y,
        no_places c (st x) s.object o,
      )
  places_here c s false e o = refl

  sessions_places : (c : ℕ) (ss : List (Option Session)) → AreObjects ss
      → sum_by (to_leaf x (bank_places c)) (seen_all ss) ≡ places_used (st x) (session_contents x ss) c
  sessions_places c [] o = refl
  sessions_places c (None ∷ ss) o = let e = sum_by-cons (to_leaf x (bank_places c)) None (seen_all ss) in omega (arith, e, sessions_places c ss o)
  sessions_places c (Some s ∷ ss) o =
      let e = sum_by-cons (to_leaf x (bank_places c)) (Some (session_seen names (st s.server) s)) (seen_all ss) in
      omega (arith, e, sessions_places c ss o.1, places_here c s (eqb s.server x) refl o.0, counts_append c (st x) (contents_of x s) (session_contents x ss))

module _ (f : Frame) (s : Slots) (x : ℕ) (h : Heap) (l : world.Leaf) where
  abbrev here : world.Leaf
  here = leaf_seen l (memory_of s x) (get_or s.own x []) h

  pub held_is : (r : Resource) → held r (world_seen f s) x here ≡ held_by r s x h
  held_is r =
      omega (
        arith,
        slots_sum (slot_price r) (memory_of s x) (get_or s.own x []),
        cost_sum r (memory_of s x) (get_or s.own x []),
        sessions_price f.names (memory_of s) x r s.trades.trading.sessions,
        cost_append r (memory_of s x) (get_or s.own x []) (session_contents x s.trades.trading.sessions),
      )

  pub places_is : (c : ℕ) → AreObjects s.trades.trading.sessions → places (world_seen f s) x here c ≡ places_used (memory_of s x) (contents s x) c
  places_is c o =
      omega (
        arith,
        slots_sum (slot_places c) (memory_of s x) (get_or s.own x []),
        used_sum c (memory_of s x) (get_or s.own x []),
        sessions_places f.names (memory_of s) x c s.trades.trading.sessions o,
        counts_append c (memory_of s x) (get_or s.own x []) (session_contents x s.trades.trading.sessions),
      )

  pub raised_is : (cs ps : List ℕ) → AreObjects s.trades.trading.sessions
      → raised (world_seen f s) x here cs ps ≡ raised_by (places_used (memory_of s x) (contents s x)) cs ps
  raised_is [] ps o = refl
  raised_is (c ∷ cs) [] o = refl
  raised_is (c ∷ cs) (p ∷ ps) o = let a = places_is c o in let b = raised_is cs ps o in λ k. max p (a k) ∷ b k

-- A slot of a leaf or of a session to it that is written: what the leaf then holds, has in use, has lent and has received.
use Rattle.std.proofs.Common.{◌≡◌, ℕ, zero, suc, ◌+◌, ◌*◌, ◌≤◌, max, true, cond, eqb, List, [], ◌∷◌, Option, Some, refl, ap, arith}
use Rattle.std.specs.Prelude.{slice_get, slice_set, sum_by}
use Rattle.std.proofs.lemmas.Bool.Decides.{nat_tests}
use Rattle.gq_tariff.specs.Prices.{up}
use Rattle.gq_model.specs.machine.Amounts.{Resource, Ram, Caps}
use Rattle.gq_model.specs.machine.Resource_prices.{chunks, heap_of}
use Rattle.gq_model.specs.machine.World.{Slot, Session, Leaf, World, session_at, with_leaf, with_session}
use Rattle.gq_model.specs.machine.Sums.{bank_price, donated, from_leaf, held, lent, places, raised, received, slot_places, slot_price, to_leaf}
use Rattle.gq_laws.proofs.session_links.Written_world_links.{set_here}
use Rattle.gq_laws.proofs.quota_payment.Written_world_prices.{session_stands, sum_set}

-- HIGHER PEAKS

times_more : (c a b : ℕ) → a ≤ b → c * a ≤ c * b
times_more zero a b e = omega arith
times_more (suc c) a b e = let rest = times_more c a b e in omega (arith, e, rest)

up_more : (a b : ℕ) → a ≤ b → up a ≤ up b
up_more a b e = omega (arith, e)

chunks_more : (r : Resource) (a b : ℕ) → a ≤ b → chunks r a ≤ chunks r b
chunks_more Ram a b e = up_more a b e
chunks_more Caps a b e = let h = up_more a b e in omega (arith, h)

below_max : (m n : ℕ) → m ≤ max m n
below_max m n = grind (arith, nat_tests)

-- peaks that are raised cost no less
pub raised_more : (r : Resource) (w : World) (x : ℕ) (leaf : Leaf) (cs ps : List ℕ) → heap_of r cs ps ≤ heap_of r cs (raised w x leaf cs ps)
raised_more r w x leaf [] ps = omega arith
raised_more r w x leaf (c ∷ cs) [] = omega arith
raised_more r w x leaf (c ∷ cs) (p ∷ ps) =
    let m = max p (places w x leaf c) in
    let here = chunks_more r (c * p) (c * m) (times_more c p m (below_max p (places w x leaf c))) in
    let rest = raised_more r w x leaf cs ps in
    omega (arith, here, rest)

-- A SLOT THAT IS WRITTEN

-- The x-th leaf, which stood as `leaf` in w, holds and has in use in v what it did, but for the slot in the place of the old one.
pub record Writes (w v : World) (x : ℕ) (leaf : Leaf) (old slot : Slot) : Type 0 where
  pub then_ : Leaf
  pub there : slice_get v.leaves x ≡ Some then_
  pub phase : then_.phase ≡ leaf.phase
  pub peaks : then_.peaks ≡ leaf.peaks
  pub receives : (r : Resource) → received r v x ≡ received r w x
  pub lends : (r : Resource) → lent r v x ≡ lent r w x
  pub holds : (r : Resource) → held r v x then_ + slot_price r old ≡ held r w x leaf + slot_price r slot
  pub uses : (c : ℕ) → places v x then_ c + slot_places c old ≡ places w x leaf c + slot_places c slot

pub leaf_written : (w : World) (x i : ℕ) (leaf : Leaf) (old slot : Slot) → slice_get w.leaves x ≡ Some leaf → slice_get leaf.slots i ≡ Some old
    → Writes w (with_leaf w x (record leaf { slots = slice_set leaf.slots i slot })) x leaf old slot
leaf_written w x i leaf old slot there has = record {
  then_ = record leaf { slots = slice_set leaf.slots i slot };
  there = set_here w.leaves x (record leaf { slots = slice_set leaf.slots i slot }) leaf there;
  phase = refl;
  peaks = refl;
  receives = λ r. refl;
  lends = λ r. refl;
  holds = λ r. (let n = sum_set (slot_price r) leaf.slots i old slot has in omega (arith, n));
  uses = λ c. (let n = sum_set (slot_places c) leaf.slots i old slot has in omega (arith, n));
}

-- a number of a session to the leaf x, by another in its place
module _ (x : ℕ) (ss : List (Option Session)) (k : ℕ) (q t : Session) (stands : slice_get ss k ≡ Some (Some q)) where
  same_sum : (f : Option Session → ℕ) → f (Some t) ≡ f (Some q) → sum_by f (slice_set ss k (Some t)) ≡ sum_by f ss
  same_sum f e = let n = sum_set f ss k (Some q) (Some t) stands in omega (arith, n, e)

  its_sum : (f : Session → ℕ) (a b : ℕ) → q.server ≡ x → t.server ≡ x → f t + a ≡ f q + b
      → sum_by (to_leaf x f) (slice_set ss k (Some t)) + a ≡ sum_by (to_leaf x f) ss + b
  its_sum f a b e g h =
      let n = sum_set (to_leaf x f) ss k (Some q) (Some t) stands in
      let one : eqb q.server x ≡ true = grind (arith, nat_tests, e) in
      let two : eqb t.server x ≡ true = grind (arith, nat_tests, g) in
      let first : cond (eqb q.server x) (f q) 0 ≡ f q = ap (λ y. cond y (f q) 0) one in
      let then_ : cond (eqb t.server x) (f t) 0 ≡ f t = ap (λ y. cond y (f t) 0) two in
      omega (arith, n, first, then_, h)

pub session_written : (w : World) (k i x : ℕ) (q : Session) (leaf : Leaf) (old slot : Slot) → session_at w k ≡ Some q → q.server ≡ x
    → slice_get q.slots i ≡ Some old → slice_get w.leaves x ≡ Some leaf
    → Writes w (with_session w k (record q { slots = slice_set q.slots i slot })) x leaf old slot
session_written w k i x q leaf old slot found server has there =
    let t : Session = record q { slots = slice_set q.slots i slot } in
    let stands = session_stands w k q found in
    record {
      then_ = leaf;
      there = there;
      phase = refl;
      peaks = refl;
      receives = λ r. same_sum x w.sessions k q t stands (to_leaf x (donated r)) refl;
      lends = λ r. same_sum x w.sessions k q t stands (from_leaf x (donated r)) refl;
      holds = λ r. (
          let n = sum_set (slot_price r) q.slots i old slot has in
          let m = its_sum x w.sessions k q t stands (bank_price r) (slot_price r old) (slot_price r slot) server server (omega (arith, n)) in
          omega (arith, m));
      uses = λ c. (
          let n = sum_set (slot_places c) q.slots i old slot has in
          let m = its_sum x w.sessions k q t stands (λ session. sum_by (slot_places c) session.slots) (slot_places c old) (slot_places c slot) server
          server n in
          omega (arith, m));
    }

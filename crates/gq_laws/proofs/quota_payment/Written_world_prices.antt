-- What a written leaf or slot changes of what is held, lent and received.
use Rattle.std.proofs.Common.{◌≡◌, ℕ, zero, suc, ◌+◌, ◌≤◌, ◌==◌, ◌&&◌, if◌then◌else◌, inl, inr, Bool, true, false, List, [], ◌∷◌, Option, Some, None, refl, ap}
use Rattle.std.proofs.Common.{sym, ◌∙◌, subst, arith}
use Rattle.std.specs.Prelude.{slice_get, slice_set, sum_by}
use Rattle.std.proofs.lemmas.Bool.{leb-true, le-leb}
use Rattle.std.proofs.lemmas.Bool.Decides.{eqb_tells}
use Rattle.std.proofs.lemmas.List.Sums.{sum_by-cons}
use Rattle.gq_model.specs.machine.Amounts.{Resource, part}
use Rattle.gq_model.specs.machine.Scenario.{System, Component}
use Rattle.gq_model.specs.machine.World.{Slot, SlotId, In_leaf, In_session, In_object, Session, Leaf, World, joined, session_at, slot_at, with_leaf}
use Rattle.gq_model.specs.machine.World.{with_session}
use Rattle.gq_model.specs.machine.World.{with_slot, put_leaf_slot, put_session_slot, put_object}
use Rattle.gq_model.specs.machine.Resource_prices.{heap}
use Rattle.gq_model.specs.machine.Sums.{slot_price, bank_price, donated, to_leaf, from_leaf, lent, received, handed, is_paid, are_paid, all_paid, paid}
use Rattle.gq_model.proofs.Small_facts.{some_same, none_some}
use Rattle.gq_laws.proofs.session_links.Written_world_links.{set_here, set_else, leaf_there, session_there, object_there}
use Rattle.std.proofs.lemmas.Bool.{and_parts}

-- SUMS

-- a term that is replaced
pub sum_set : {A : Type 0} (f : A → ℕ) (items : List A) (k : ℕ) (a b : A) → slice_get items k ≡ Some a
    → sum_by f (slice_set items k b) + f a ≡ sum_by f items + f b
sum_set f [] k a b e = absurd (none_some e)
sum_set f (c ∷ rest) zero a b e = let same = ap f (some_same e) in omega (arith, same, sum_by-cons f b rest, sum_by-cons f c rest)
sum_set f (c ∷ rest) (suc k) a b e = let h = sum_set f rest k a b e in omega (arith, h, sum_by-cons f c rest, sum_by-cons f c (slice_set rest k b))

-- a session that is found stands in the list
pub session_stands : (w : World) (k : ℕ) (s : Session) → session_at w k ≡ Some s → slice_get w.sessions k ≡ Some (Some s)
session_stands w k s e = go (slice_get w.sessions k) refl e
  where
    go : (o : Option (Option Session)) → slice_get w.sessions k ≡ o → joined o ≡ Some s → slice_get w.sessions k ≡ Some (Some s)
    go None f e = absurd (none_some e)
    go (Some a) f e = f ∙ ap Some e

-- PRICES THAT ARE NO HIGHER

pub record IsNoDearerLeaf (old leaf : Leaf) : Type 0 where
  pub own : (r : Resource) → sum_by (slot_price r) leaf.slots + heap r leaf.peaks ≤ sum_by (slot_price r) old.slots + heap r old.peaks
  pub phase : (quantum : ℕ) → handed old.phase quantum ≤ handed leaf.phase quantum

-- no leaf holds or has lent more, or was handed or has received less
pub record IsNoDearer (w v : World) : Type 0 where
  pub banks : (r : Resource) (x : ℕ) → sum_by (to_leaf x (bank_price r)) v.sessions ≤ sum_by (to_leaf x (bank_price r)) w.sessions
  pub lends : (r : Resource) (x : ℕ) → lent r v x ≤ lent r w x
  pub receives : (r : Resource) (x : ℕ) → received r w x ≤ received r v x
  pub leaves : (x : ℕ) (leaf : Leaf) → slice_get v.leaves x ≡ Some leaf → (old : Leaf) × (slice_get w.leaves x ≡ Some old) × IsNoDearerLeaf old leaf

pub same_price : (w : World) → IsNoDearer w w
same_price w = record {
  banks = λ r x. omega arith;
  lends = λ r x. omega arith;
  receives = λ r x. omega arith;
  leaves = λ x leaf e. (leaf, e, record { own = λ r. omega arith; phase = λ q. omega arith });
}

module _ (w : World) where
  pub leaf_no_dearer : (v : World) (x : ℕ) (old leaf : Leaf) → slice_get v.leaves x ≡ Some old → IsNoDearerLeaf old leaf → IsNoDearer w v
      → IsNoDearer w (with_leaf v x leaf)
  leaf_no_dearer v x old leaf there cheap h = record { banks = h.banks; lends = h.lends; receives = h.receives; leaves = each }
    where
      each : (y : ℕ) (new : Leaf) → slice_get (slice_set v.leaves x leaf) y ≡ Some new
          → (was : Leaf) × (slice_get w.leaves y ≡ Some was) × IsNoDearerLeaf was new
      each y new e = elim (eqb_tells y x) [ inl f ↦ here f.1 | inr f ↦ h.leaves y new (sym (set_else v.leaves x y leaf f.1) ∙ e) ]
        where
          here : y ≡ x → (was : Leaf) × (slice_get w.leaves y ≡ Some was) × IsNoDearerLeaf was new
          here f =
              let before = h.leaves x old there in
              let same : leaf ≡ new = some_same (sym (set_here v.leaves x leaf old there) ∙ ap (slice_get (slice_set v.leaves x leaf)) (sym f) ∙ e) in
              let first = before.2 in (
                before.0,
                ap (slice_get w.leaves) f ∙ before.1,
                subst (IsNoDearerLeaf before.0) same (record {
                  own = λ r. (let a = first.own r in let b = cheap.own r in omega (arith, a, b));
                  phase = λ q. (let a = first.phase q in let b = cheap.phase q in omega (arith, a, b));
                }),
              )

  -- a session with a bank that is no dearer, and all else as it was
  session_no_dearer : (v : World) (k : ℕ) (t s : Session) → session_at v k ≡ Some t → s.client ≡ t.client → s.server ≡ t.server → s.donation ≡ t.donation
      → ((r : Resource) → bank_price r s ≤ bank_price r t) → IsNoDearer w v → IsNoDearer w (with_session v k s)
  session_no_dearer v k t s there client server given cheap h =
      record {
        banks = λ r x. (let n = sum_set (to_leaf x (bank_price r)) v.sessions k (Some t) (Some s) (session_stands v k t there) in let c = by_server r x in
            let b = h.banks r x in omega (arith, n, c, b));
        lends = λ r x. (let n = sum_set (from_leaf x (donated r)) v.sessions k (Some t) (Some s) (session_stands v k t there) in
            let c : from_leaf x (donated r) (Some s) ≡ from_leaf x (donated r) (Some t) = (λ i. gives_from x (client i) (donation_of r i)) in let b =
            h.lends r x in omega (arith, n, c, b));
        receives = λ r x. (let n = sum_set (to_leaf x (donated r)) v.sessions k (Some t) (Some s) (session_stands v k t there) in
            let c : to_leaf x (donated r) (Some s) ≡ to_leaf x (donated r) (Some t) = (λ i. gives_from x (server i) (donation_of r i)) in let b =
            h.receives r x in omega (arith, n, c, b));
        leaves = h.leaves;
      }
    where
      gives_from : ℕ → ℕ → ℕ → ℕ
      gives_from x y n = if y == x then n else 0

      donation_of : (r : Resource) → donated r s ≡ donated r t
      donation_of r = ap (λ a. donated r (record s { donation = a })) given

      by_server : (r : Resource) (x : ℕ) → to_leaf x (bank_price r) (Some s) ≤ to_leaf x (bank_price r) (Some t)
      by_server r x = subst (λ y. to_leaf x (bank_price r) (Some s) ≤ (if y == x then bank_price r t else 0)) server (by (s.server == x))
        where
          by : (b : Bool) → (if b then bank_price r s else 0) ≤ (if b then bank_price r t else 0)
          by true = cheap r
          by false = omega arith

  pub slot_no_dearer : (v : World) (q : SlotId) (old slot : Slot) → slot_at v q ≡ Some old → ((r : Resource) → slot_price r slot ≤ slot_price r old)
      → IsNoDearer w v → IsNoDearer w (with_slot v q slot)
  slot_no_dearer v (In_leaf x i) old slot e cheap h =
      let f = leaf_there v x i old e in
      subst (λ o. IsNoDearer w (put_leaf_slot v o x i slot)) (sym f.1)
      (leaf_no_dearer v x f.0 (record f.0 { slots = slice_set f.0.slots i slot }) f.1
      (record { own = λ r. (let n = sum_set (slot_price r) f.0.slots i old slot f.2 in let c = cheap r in omega (arith, n, c)); phase = λ q. omega arith })
      h)
  slot_no_dearer v (In_session k i) old slot e cheap h =
      let f = session_there v k i old e in
      subst (λ o. IsNoDearer w (put_session_slot v o k i slot)) (sym f.1)
      (session_no_dearer v k f.0 (record f.0 { slots = slice_set f.0.slots i slot }) f.1 refl refl refl
      (λ r. (let n = sum_set (slot_price r) f.0.slots i old slot f.2 in let c = cheap r in omega (arith, n, c))) h)
  slot_no_dearer v (In_object k) old slot e cheap h =
      let f = object_there v k old e in
      subst (λ o. IsNoDearer w (put_object v o k slot)) (sym f.1)
      (session_no_dearer v k f.0 (record f.0 { object = slot }) f.1 refl refl refl
      (λ r. (let same = ap (slot_price r) f.2 in let c = cheap r in omega (arith, same, c))) h)

-- WHO IS PAID

-- each leaf is paid, one by one
pub paid_one : (resources : List Resource) (w : World) (n : ℕ) (cs : List Component) (leaves : List Leaf) → all_paid resources w n cs leaves ≡ true
    → (i : ℕ) (c : Component) (leaf : Leaf) → slice_get cs i ≡ Some c → slice_get leaves i ≡ Some leaf → (x : ℕ) → x ≡ n + i
    → are_paid w x c leaf resources ≡ true
paid_one resources w n [] leaves h i c leaf e f x at = absurd (none_some e)
paid_one resources w n (b ∷ cs) [] h i c leaf e f x at = absurd (none_some f)
paid_one resources w n (b ∷ cs) (l ∷ leaves) h zero c leaf e f x at =
    let both = and_parts (are_paid w n b l resources) (all_paid resources w (suc n) cs leaves) h in
    let here : x ≡ n = omega (arith, at) in
    (λ j. are_paid w (here j) (some_same (sym e) j) (some_same (sym f) j) resources) ∙ both.0
paid_one resources w n (b ∷ cs) (l ∷ leaves) h (suc i) c leaf e f x at =
    let both = and_parts (are_paid w n b l resources) (all_paid resources w (suc n) cs leaves) h in
    paid_one resources w (suc n) cs leaves both.1 i c leaf e f x (omega (arith, at))

pub paid_all : (resources : List Resource) (w : World) (n : ℕ) (cs : List Component) (leaves : List Leaf)
    → ((i : ℕ) (c : Component) (leaf : Leaf) → slice_get cs i ≡ Some c → slice_get leaves i ≡ Some leaf → (x : ℕ) → x ≡ n + i
    → are_paid w x c leaf resources ≡ true) → all_paid resources w n cs leaves ≡ true
paid_all resources w n [] leaves h = refl
paid_all resources w n (c ∷ cs) [] h = refl
paid_all resources w n (c ∷ cs) (leaf ∷ leaves) h =
    (λ j. h zero c leaf refl refl n (omega arith) j && paid_all resources w (suc n) cs leaves (λ i b l e f x at. h (suc i) b l e f x (omega (arith, at))) j)

-- for each resource
pub paid_each : (w v : World) (x : ℕ) (c : Component) (leaf new : Leaf) (resources : List Resource)
    → ((r : Resource) → is_paid w x c leaf r ≡ true → is_paid v x c new r ≡ true) → are_paid w x c leaf resources ≡ true → are_paid v x c new resources ≡ true
paid_each w v x c leaf new [] f h = refl
paid_each w v x c leaf new (r ∷ rest) f h =
    let both = and_parts (is_paid w x c leaf r) (are_paid w x c leaf rest) h in (λ j. f r both.0 j && paid_each w v x c leaf new rest f both.1 j)

-- a world that is no dearer is paid where the first is
pub still_paid : (system : System) (w v : World) → IsNoDearer w v → paid system w ≡ true → paid system v ≡ true
still_paid system w v h p = paid_all system.counted v 0 system.components v.leaves one
  where
    one : (i : ℕ) (c : Component) (leaf : Leaf) → slice_get system.components i ≡ Some c → slice_get v.leaves i ≡ Some leaf → (x : ℕ) → x ≡ 0 + i
        → are_paid v x c leaf system.counted ≡ true
    one i c leaf e f x at =
        let same : i ≡ x = omega (arith, at) in
        let there = ap (slice_get v.leaves) (sym same) ∙ f in
        let was = h.leaves x leaf there in
        paid_each w v x c was.0 leaf system.counted (each was.0 was.2)
        (paid_one system.counted w 0 system.components w.leaves p i c was.0 e (ap (slice_get w.leaves) same ∙ was.1) x at)
      where
        each : (old : Leaf) → IsNoDearerLeaf old leaf → (r : Resource) → is_paid w x c old r ≡ true → is_paid v x c leaf r ≡ true
        each old cheap r q =
            let before = leb-true _ _ q in
            let own = cheap.own r in
            let banks = h.banks r x in
            let lends = h.lends r x in
            let receives = h.receives r x in
            let phase = cheap.phase (part r c.node.quantum) in
            le-leb _ _ (omega (arith, before, own, banks, lends, receives, phase))

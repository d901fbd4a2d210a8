-- Slots that are written at the same price, and requests, change nothing of what is paid for.
use Rattle.std.proofs.Common.{◌≡◌, ◌≢◌, ℕ, zero, suc, inl, inr, Bool, true, false, List, [], ◌∷◌, Option, Some, None, refl, ap, sym, ◌∙◌, subst}
use Rattle.std.proofs.Common.{arith}
use Rattle.std.specs.Prelude.{slice_get, slice_set}
use Rattle.std.proofs.lemmas.Bool.Decides.{eqb_tells}
use Rattle.gq_tariff.specs.declared.amount.Amount.{Amount}
use Rattle.gq_model.specs.machine.Amounts.{Resource, plus}
use Rattle.gq_model.specs.machine.Requests.{add_session, free_place}
use Rattle.gq_model.specs.machine.Scenario.{System}
use Rattle.gq_model.specs.machine.Sums.{paid, slot_price}
use Rattle.gq_model.specs.machine.World.{Slot, SlotId, In_leaf, In_session, In_object, Session, Ask, Ask_open, Ask_upgrade, Request, Leaf, World}
use Rattle.gq_model.specs.machine.World.{joined, session_at, slot_at, with_leaf, with_session, with_slot, put_leaf_slot, put_session_slot, put_object}
use Rattle.gq_model.proofs.Small_facts.{some_same, none_some, set_there}
use Rattle.gq_laws.proofs.session_links.Linked_after_open.{free_at, add_else}
use Rattle.gq_laws.proofs.session_links.Written_world_links.{set_here, set_else, leaf_there, session_there, object_there, session_here, session_else, slot_here}
use Rattle.gq_laws.proofs.quota_payment.Written_world_prices.{IsNoDearer, same_price, session_stands, slot_no_dearer, still_paid}
use Rattle.gq_slots.specs.Session_calls.{asking, ending, more_for, opening, upgrading}

-- TESTS

same_test : (a b : Bool) → (a ≡ true → b ≡ true) → (b ≡ true → a ≡ true) → b ≡ a
same_test true b f g = f refl
same_test false true f g = sym (g refl)
same_test false false f g = refl

-- LISTS

set_again : {A : Type 0} (items : List A) (i : ℕ) (a b : A) → slice_set (slice_set items i a) i b ≡ slice_set items i b
set_again [] i a b = refl
set_again (c ∷ rest) zero a b = refl
set_again (c ∷ rest) (suc i) a b = ap (λ l. c ∷ l) (set_again rest i a b)

set_swap : {A : Type 0} (items : List A) (i j : ℕ) (a b : A) → i ≢ j → slice_set (slice_set items i a) j b ≡ slice_set (slice_set items j b) i a
set_swap [] i j a b ne = refl
set_swap (c ∷ rest) zero zero a b ne = absurd (ne refl)
set_swap (c ∷ rest) zero (suc j) a b ne = refl
set_swap (c ∷ rest) (suc i) zero a b ne = refl
set_swap (c ∷ rest) (suc i) (suc j) a b ne = ap (λ l. c ∷ l) (set_swap rest i j a b (λ e. ne (ap suc e)))

-- a session that was there, where one stands at the free place
added_set : (q : Session) (ss : List (Option Session)) (k : ℕ) (t s : Session) → slice_get ss k ≡ Some (Some t)
    → slice_set (add_session q ss) k (Some s) ≡ add_session q (slice_set ss k (Some s))
added_set q [] k t s e = absurd (none_some e)
added_set q (None ∷ ss) zero t s e = absurd (none_some (some_same e))
added_set q (None ∷ ss) (suc k) t s e = refl
added_set q (Some u ∷ ss) zero t s e = refl
added_set q (Some u ∷ ss) (suc k) t s e = ap (λ l. Some u ∷ l) (added_set q ss k t s e)

free_set : (ss : List (Option Session)) (k : ℕ) (t s : Session) → slice_get ss k ≡ Some (Some t) → free_place (slice_set ss k (Some s)) ≡ free_place ss
free_set [] k t s e = absurd (none_some e)
free_set (None ∷ ss) zero t s e = absurd (none_some (some_same e))
free_set (None ∷ ss) (suc k) t s e = refl
free_set (Some u ∷ ss) zero t s e = refl
free_set (Some u ∷ ss) (suc k) t s e = ap suc (free_set ss k t s e)

-- a session that is there does not stand at the free place
taken_free : (w : World) (k : ℕ) (t : Session) → session_at w k ≡ Some t → k ≢ free_place w.sessions
taken_free w k t e same = absurd (none_some (sym (free_at w.sessions) ∙ (ap (session_at w) (sym same) ∙ e)))

-- WHO IS PAID

-- with other requests
module _ (system : System) (w : World) (rs : List Request) where
  abbrev u : World
  u = record w { requests = rs }

  forth : IsNoDearer w u
  forth = record { banks = λ r x. omega arith; lends = λ r x. omega arith; receives = λ r x. omega arith; leaves = (same_price w).leaves }

  back : IsNoDearer u w
  back = record { banks = λ r x. omega arith; lends = λ r x. omega arith; receives = λ r x. omega arith; leaves = (same_price w).leaves }

  pub requests_paid : paid system u ≡ paid system w
  requests_paid = same_test (paid system w) (paid system u) (still_paid system w u forth) (still_paid system u w back)

pub asking_paid : (system : System) (w : World) (k : ℕ) (a : Ask) → paid system (asking w k a) ≡ paid system w
asking_paid system w k a = requests_paid system w (asking w k a).requests

-- a slot that is written again
pub slot_again : (w : World) (p : SlotId) (old new : Slot) → slot_at w p ≡ Some old → with_slot (with_slot w p new) p old ≡ w
slot_again w (In_leaf x i) old new e =
    let f = leaf_there w x i old e in
    let leaf : Leaf = record f.0 { slots = slice_set f.0.slots i new } in
    let first : with_slot w (In_leaf x i) new ≡ with_leaf w x leaf = ap (λ o. put_leaf_slot w o x i new) f.1 in
    let here = set_here w.leaves x leaf f.0 f.1 in
    let slots : slice_set (slice_set f.0.slots i new) i old ≡ f.0.slots = set_again f.0.slots i new old ∙ set_there f.0.slots i old f.2 in
    let leaves : slice_set (slice_set w.leaves x leaf) x (record leaf { slots = slice_set leaf.slots i old }) ≡ w.leaves =
    set_again w.leaves x leaf (record leaf { slots = slice_set leaf.slots i old })
    ∙ (ap (λ s. slice_set w.leaves x (record f.0 { slots = s })) slots ∙ set_there w.leaves x f.0 f.1) in
    ap (λ v. with_slot v (In_leaf x i) old) first
    ∙ (ap (λ o. put_leaf_slot (with_leaf w x leaf) o x i old) here ∙ ap (λ l. record w { leaves = l }) leaves)
slot_again w (In_session k i) old new e =
    let f = session_there w k i old e in
    let s : Session = record f.0 { slots = slice_set f.0.slots i new } in
    let first : with_slot w (In_session k i) new ≡ with_session w k s = ap (λ o. put_session_slot w o k i new) f.1 in
    let here = session_here w k f.0 s f.1 in
    let slots : slice_set (slice_set f.0.slots i new) i old ≡ f.0.slots = set_again f.0.slots i new old ∙ set_there f.0.slots i old f.2 in
    let sessions : slice_set (slice_set w.sessions k (Some s)) k (Some (record s { slots = slice_set s.slots i old })) ≡ w.sessions =
    set_again w.sessions k (Some s) (Some (record s { slots = slice_set s.slots i old }))
    ∙ (ap (λ l. slice_set w.sessions k (Some (record f.0 { slots = l }))) slots ∙ set_there w.sessions k (Some f.0) (session_stands w k f.0 f.1)) in
    ap (λ v. with_slot v (In_session k i) old) first
    ∙ (ap (λ o. put_session_slot (with_session w k s) o k i old) here ∙ ap (λ l. record w { sessions = l }) sessions)
slot_again w (In_object k) old new e =
    let f = object_there w k old e in
    let s : Session = record f.0 { object = new } in
    let first : with_slot w (In_object k) new ≡ with_session w k s = ap (λ o. put_object w o k new) f.1 in
    let here = session_here w k f.0 s f.1 in
    let sessions : slice_set (slice_set w.sessions k (Some s)) k (Some (record s { object = old })) ≡ w.sessions =
    set_again w.sessions k (Some s) (Some (record s { object = old }))
    ∙ (ap (λ o. slice_set w.sessions k (Some (record f.0 { object = o }))) (sym f.2) ∙ set_there w.sessions k (Some f.0) (session_stands w k f.0 f.1)) in
    ap (λ v. with_slot v (In_object k) old) first
    ∙ (ap (λ o. put_object (with_session w k s) o k old) here ∙ ap (λ l. record w { sessions = l }) sessions)

-- a slot of the same price in the place of one
pub marked_paid : (system : System) (w : World) (p : SlotId) (old new : Slot) → slot_at w p ≡ Some old → ((r : Resource) → slot_price r new ≡ slot_price r old)
    → paid system (with_slot w p new) ≡ paid system w
marked_paid system w p old new e same =
    same_test (paid system w) (paid system (with_slot w p new)) (still_paid system w (with_slot w p new) forth) (still_paid system (with_slot w p new) w back)
  where
    forth : IsNoDearer w (with_slot w p new)
    forth = slot_no_dearer w w p old new e (λ r. (let f = same r in omega (arith, f))) (same_price w)

    back : IsNoDearer (with_slot w p new) w
    back =
        subst (IsNoDearer (with_slot w p new)) (slot_again w p old new e)
        (slot_no_dearer (with_slot w p new) (with_slot w p new) p new old (slot_here w p new old e) (λ r. (let f = same r in omega (arith, f)))
        (same_price (with_slot w p new)))

-- SLOTS AND REQUESTS

-- a slot is written before a request or behind it
pub slot_asking : (w : World) (p : SlotId) (slot : Slot) (k : ℕ) (a : Ask) → with_slot (asking w k a) p slot ≡ asking (with_slot w p slot) k a
slot_asking w (In_leaf x i) slot k a = go (slice_get w.leaves x)
  where
    go : (o : Option Leaf) → put_leaf_slot (asking w k a) o x i slot ≡ asking (put_leaf_slot w o x i slot) k a
    go None = refl
    go (Some leaf) = refl
slot_asking w (In_session j i) slot k a = go (session_at w j)
  where
    go : (o : Option Session) → put_session_slot (asking w k a) o j i slot ≡ asking (put_session_slot w o j i slot) k a
    go None = refl
    go (Some s) = refl
slot_asking w (In_object j) slot k a = go (session_at w j)
  where
    go : (o : Option Session) → put_object (asking w k a) o j slot ≡ asking (put_object w o j slot) k a
    go None = refl
    go (Some s) = refl

-- a session that is written by c, where one ends
written_ending : (w : World) (k j : ℕ) (t : Session) → session_at w j ≡ Some t → (c : Session → Session) (put : World → Option Session → World)
    → ((v : World) → put v None ≡ v) → ((v : World) (s : Session) → put v (Some s) ≡ with_session v j (c s))
    → put (ending w k) (session_at (ending w k) j) ≡ ending (put w (session_at w j)) k
written_ending w k j t there c put none is = elim (eqb_tells j k) [ inl f ↦ here f.1 | inr f ↦ else_ f.1 ] ∙ ap (λ v. ending v k) (sym written)
  where
    written : put w (session_at w j) ≡ with_session w j (c t)
    written = ap (put w) there ∙ is w t

    here : j ≡ k → put (ending w k) (session_at (ending w k) j) ≡ ending (with_session w j (c t)) k
    here same =
        let gone : session_at (ending w k) j ≡ None = ap (session_at (ending w k)) same ∙ ap joined (set_here w.sessions k None (Some t)
        (session_stands w k t (ap (session_at w) (sym same) ∙ there))) in
        ap (put (ending w k)) gone
        ∙ (none (ending w k)
        ∙ (ap (λ l. record w { sessions = l }) (sym (set_again w.sessions k (Some (c t)) None)) ∙ ap (λ y. ending (with_session w y (c t)) k) (sym same)))

    else_ : j ≢ k → put (ending w k) (session_at (ending w k) j) ≡ ending (with_session w j (c t)) k
    else_ ne =
        let left : session_at (ending w k) j ≡ Some t = ap joined (set_else w.sessions k j None ne) ∙ there in
        ap (put (ending w k)) left
        ∙ (is (ending w k) t ∙ ap (λ l. record w { sessions = l }) (set_swap w.sessions k j None (Some (c t)) (λ e. ne (sym e))))

-- so is a session that is there
session_opening : (w : World) (q : Session) (k : ℕ) (t s : Session) → session_at w k ≡ Some t → with_session (opening w q) k s ≡ opening (with_session w k s) q
session_opening w q k t s e =
    let stands = session_stands w k t e in
    let sessions = added_set q w.sessions k t s stands in
    let place = free_set w.sessions k t s stands in
    λ i. asking (record w { sessions = sessions i }) (sym place i) Ask_open

-- a slot that is there, before a session ends or behind it, one of its own too
pub slot_ending : (w : World) (k : ℕ) (p : SlotId) (old slot : Slot) → slot_at w p ≡ Some old
    → with_slot (ending w k) p slot ≡ ending (with_slot w p slot) k
slot_ending w k (In_leaf x i) old slot e = go (slice_get w.leaves x)
  where
    go : (o : Option Leaf) → put_leaf_slot (ending w k) o x i slot ≡ ending (put_leaf_slot w o x i slot) k
    go None = refl
    go (Some leaf) = refl
slot_ending w k (In_session j i) old slot e =
    let f = session_there w j i old e in
    written_ending w k j f.0 f.1 (λ s. record s { slots = slice_set s.slots i slot }) (λ v o. put_session_slot v o j i slot) (λ v. refl) (λ v s. refl)
slot_ending w k (In_object j) old slot e =
    let f = object_there w j old e in
    written_ending w k j f.0 f.1 (λ s. record s { object = slot }) (λ v o. put_object v o j slot) (λ v. refl) (λ v s. refl)

-- a slot that is there, before a session is added or behind it
pub slot_opening : (w : World) (q : Session) (p : SlotId) (old slot : Slot) → slot_at w p ≡ Some old
    → with_slot (opening w q) p slot ≡ opening (with_slot w p slot) q
slot_opening w q (In_leaf x i) old slot e = go (slice_get w.leaves x)
  where
    go : (o : Option Leaf) → put_leaf_slot (opening w q) o x i slot ≡ opening (put_leaf_slot w o x i slot) q
    go None = refl
    go (Some leaf) = refl
slot_opening w q (In_session k i) old slot e =
    let f = session_there w k i old e in
    ap (λ o. put_session_slot (opening w q) o k i slot) (add_else q w.sessions k (taken_free w k f.0 f.1) ∙ f.1)
    ∙ (session_opening w q k f.0 (record f.0 { slots = slice_set f.0.slots i slot }) f.1
    ∙ ap (λ o. opening (put_session_slot w o k i slot) q) (sym f.1))
slot_opening w q (In_object k) old slot e =
    let f = object_there w k old e in
    ap (λ o. put_object (opening w q) o k slot) (add_else q w.sessions k (taken_free w k f.0 f.1) ∙ f.1)
    ∙ (session_opening w q k f.0 (record f.0 { object = slot }) f.1 ∙ ap (λ o. opening (put_object w o k slot) q) (sym f.1))

-- the session k where more was given for it, which was there or not
more_here : (w : World) (k : ℕ) (n : Amount) (t s : Session) → session_at w k ≡ Some t
    → more_for (with_session w k s) k n (session_at (with_session w k s) k) ≡ with_session w k (record s { donation = plus s.donation n })
more_here w k n t s e =
    ap (more_for (with_session w k s) k n) (session_here w k t s e)
    ∙ ap (λ l. record w { sessions = l }) (set_again w.sessions k (Some s) (Some (record s { donation = plus s.donation n })))

-- another session is written before it or behind it
more_else : (w : World) (k j : ℕ) (n : Amount) (s : Session) → j ≢ k
    → with_session (more_for w k n (session_at w k)) j s ≡ more_for (with_session w j s) k n (session_at (with_session w j s) k)
more_else w k j n s ne =
    by (session_at w k) ∙ ap (more_for (with_session w j s) k n) (sym (session_else w j k s (λ e. ne (sym e))))
  where
    by : (o : Option Session) → with_session (more_for w k n o) j s ≡ more_for (with_session w j s) k n o
    by None = refl
    by (Some t) = ap (λ l. record w { sessions = l }) (set_swap w.sessions k j (Some (record t { donation = plus t.donation n })) (Some s) (λ e. ne (sym e)))

module _ (w : World) (k : ℕ) (n : Amount) where
  abbrev richer : World
  richer = more_for w k n (session_at w k)

  -- a session that is written by c, which looks at no donation
  module _ (j : ℕ) (t : Session) (there : session_at w j ≡ Some t) (c : Session → Session)
      (keeps : (s : Session) → c (record s { donation = plus s.donation n }) ≡ record (c s) { donation = plus (c s).donation n })
      (put : World → Option Session → World) (is : (v : World) (s : Session) → put v (Some s) ≡ with_session v j (c s)) where
    abbrev more : Session
    more = record t { donation = plus t.donation n }

    here : j ≡ k → put richer (session_at richer j) ≡ more_for (put w (session_at w j)) k n (session_at (put w (session_at w j)) k)
    here same =
        let e : session_at w k ≡ Some t = ap (session_at w) (sym same) ∙ there in
        let rich : richer ≡ with_session w k more = ap (more_for w k n) e in
        let at : session_at richer j ≡ Some more = (λ z. session_at (rich z) (same z)) ∙ session_here w k t more e in
        let written : put w (session_at w j) ≡ with_session w k (c t) = ap (put w) there ∙ (is w t ∙ ap (λ y. with_session w y (c t)) same) in
        ap (put richer) at
        ∙ (is richer more
        ∙ ((λ z. with_session (rich z) (same z) (c more))
        ∙ (ap (λ l. record w { sessions = l }) (set_again w.sessions k (Some more) (Some (c more)))
        ∙ (ap (with_session w k) (keeps t) ∙ (sym (more_here w k n t (c t) e) ∙ ap (λ v. more_for v k n (session_at v k)) (sym written))))))

    else_at : j ≢ k → (o : Option Session) → session_at (more_for w k n o) j ≡ session_at w j
    else_at ne None = refl
    else_at ne (Some s) = session_else w k j (record s { donation = plus s.donation n }) ne

    else_ : j ≢ k → put richer (session_at richer j) ≡ more_for (put w (session_at w j)) k n (session_at (put w (session_at w j)) k)
    else_ ne =
        let written : put w (session_at w j) ≡ with_session w j (c t) = ap (put w) there ∙ is w t in
        ap (put richer) (else_at ne (session_at w k) ∙ there)
        ∙ (is richer t ∙ (more_else w k j n (c t) ne ∙ ap (λ v. more_for v k n (session_at v k)) (sym written)))

    written_more : put richer (session_at richer j) ≡ more_for (put w (session_at w j)) k n (session_at (put w (session_at w j)) k)
    written_more = elim (eqb_tells j k) [ inl f ↦ here f.1 | inr f ↦ else_ f.1 ]

  leaf_more : (x i : ℕ) (leaf : Leaf) (slot : Slot) → slice_get w.leaves x ≡ Some leaf
      → with_slot richer (In_leaf x i) slot ≡ more_for (with_slot w (In_leaf x i) slot) k n (session_at (with_slot w (In_leaf x i) slot) k)
  leaf_more x i leaf slot e =
      by (session_at w k) ∙ ap (λ v. more_for v k n (session_at v k)) (sym (ap (λ o. put_leaf_slot w o x i slot) e))
    where
      by : (o : Option Session) → with_slot (more_for w k n o) (In_leaf x i) slot
          ≡ more_for (with_leaf w x (record leaf { slots = slice_set leaf.slots i slot })) k n o
      by None = ap (λ o. put_leaf_slot w o x i slot) e
      by (Some s) = ap (λ o. put_leaf_slot (with_session w k (record s { donation = plus s.donation n })) o x i slot) e

  slot_more : (p : SlotId) (old slot : Slot) → slot_at w p ≡ Some old
      → with_slot richer p slot ≡ more_for (with_slot w p slot) k n (session_at (with_slot w p slot) k)
  slot_more (In_leaf x i) old slot e = let f = leaf_there w x i old e in leaf_more x i f.0 slot f.1
  slot_more (In_session j i) old slot e =
      let f = session_there w j i old e in
      written_more j f.0 f.1 (λ s. record s { slots = slice_set s.slots i slot }) (λ s. refl) (λ v o. put_session_slot v o j i slot) (λ v s. refl)
  slot_more (In_object j) old slot e =
      let f = object_there w j old e in
      written_more j f.0 f.1 (λ s. record s { object = slot }) (λ s. refl) (λ v o. put_object v o j slot) (λ v s. refl)

  pub slot_upgrading : (p : SlotId) (old slot : Slot) → slot_at w p ≡ Some old → with_slot (upgrading w k n) p slot ≡ upgrading (with_slot w p slot) k n
  slot_upgrading p old slot e = slot_asking richer p slot k Ask_upgrade ∙ ap (λ v. asking v k Ask_upgrade) (slot_more p old slot e)

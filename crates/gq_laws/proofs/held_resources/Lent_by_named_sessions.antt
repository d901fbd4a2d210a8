-- What leaves have lent is what was given for the sessions that their slots, and those of the sessions to them, name.
use Rattle.std.proofs.Common.{◌≡◌, ◌≢◌, ℕ, zero, suc, ◌+◌, ◌≤◌, ◌<◌, ◌==◌, ◌⊎◌, inl, inr, Bool, true, false, cond, nat_le, List, [], ◌∷◌, length, Option, Some}
use Rattle.std.proofs.Common.{None, refl, ap, sym, ◌∙◌, subst, arith}
use Rattle.std.specs.Prelude.{slice_get, sum_by}
use Rattle.std.proofs.Math.Dec.{leb-zero}
use Rattle.std.proofs.lemmas.Bool.Decides.{eqb_tells, leb_tells}
use Rattle.std.proofs.lemmas.Option.{slice_get_within}
use Rattle.std.proofs.lemmas.List.Sums.{sum_by-cons}
use Rattle.gq_model.specs.machine.Amounts.{Resource}
use Rattle.gq_model.specs.machine.Scenario.{System}
use Rattle.gq_model.specs.machine.World.{Slot, Empty, Waiting, Bytes, Pool, Link, SlotId, In_leaf, In_session, In_object, Session, Leaf, World, joined}
use Rattle.gq_model.specs.machine.World.{session_at, leaf_slot, session_slot, slot_at}
use Rattle.gq_model.specs.machine.Sums.{donated, to_leaf, from_leaf, lent}
use Rattle.gq_laws.specs.Session_links.{Naming, Leads, Waits, named, naming, naming_in, outline, outline_in, links, Stands, Belongs, IsLinkedWorld}
use Rattle.gq_laws.specs.internal.Lending.{given_by, slot_given, in_leaf, in_session, given_where, given_in_leaf, given_in_session, sum_numbered, given_in_bank}
use Rattle.gq_model.proofs.Small_facts.{some_same, none_some, add_none, add_next, none_add, equal_self}
use Rattle.gq_laws.proofs.step_shapes.Number_sums.{sum_same, sum_add, sum_zero, sum_one, numbered_zero, numbered_one, numbered_same, numbered_plain}
use Rattle.gq_laws.proofs.step_shapes.Number_sums.{sums_swap}
use Rattle.gq_laws.proofs.quota_payment.Written_world_prices.{session_stands}
use Rattle.gq_model.proofs.Small_facts.{equal_self}
use Rattle.gq_laws.proofs.session_links.Linked_after_reply.{session_of_outline}
use Rattle.std.proofs.lemmas.Bool.{true≢false}

-- SESSIONS AND THE SLOTS THAT NAME THEM

-- what a slot that names a session was given for
naming_given : (r : Resource) (w : World) (slot : Slot) (n : Naming) → naming slot ≡ Some n → slot_given r w slot ≡ given_by r (session_at w (named n))
naming_given r w Empty n e = absurd (none_some e)
naming_given r w (Bytes form m bytes) n e = absurd (none_some e)
naming_given r w (Pool m entries) n e = absurd (none_some e)
naming_given r w (Link k) n e = ap (λ n. given_by r (session_at w (named n))) (some_same e)
naming_given r w (Waiting k) n e = ap (λ n. given_by r (session_at w (named n))) (some_same e)

naming_none : (r : Resource) (w : World) (slot : Slot) → naming slot ≡ None → slot_given r w slot ≡ 0
naming_none r w Empty e = refl
naming_none r w (Bytes form m bytes) e = refl
naming_none r w (Pool m entries) e = refl
naming_none r w (Link k) e = absurd (none_some (sym e))
naming_none r w (Waiting k) e = absurd (none_some (sym e))

-- a slot that is found by what it names
slot_of : (o : Option Slot) (n : Naming) → naming_in o ≡ Some n → (slot : Slot) × (o ≡ Some slot) × (naming slot ≡ Some n)
slot_of None n e = absurd (none_some e)
slot_of (Some slot) n e = (slot, refl, e)

-- a place of the list with a session in it
at_place : (w : World) (k : ℕ) (s : Session) → slice_get w.sessions k ≡ Some (Some s) → session_at w k ≡ Some s
at_place w k s e = ap joined e

module _ (system : System) (w : World) (h : IsLinkedWorld system w) where
  -- the slot of the k-th session names it
  names : (k : ℕ) (s : Session) → session_at w k ≡ Some s → (n : Naming) × (naming_in (slot_at w s.slot_id) ≡ Some n) × (named n ≡ k)
  names k s there = go (h.stands k (outline s) (ap outline_in there))
    where
      go : Stands (links w) k (outline s) → (n : Naming) × (naming_in (slot_at w s.slot_id) ≡ Some n) × (named n ≡ k)
      go (inl t) = (Leads k, t.0, refl)
      go (inr t) = (Waits k, t.0, refl)

  -- two sessions in one slot are one
  one_slot_id : (j k : ℕ) (s t : Session) → session_at w j ≡ Some s → session_at w k ≡ Some t → s.slot_id ≡ t.slot_id → j ≡ k
  one_slot_id j k s t a b same =
      let m = names j s a in
      let n = names k t b in
      sym m.2 ∙ (ap named (some_same (sym m.1 ∙ (ap (λ q. naming_in (slot_at w q)) same ∙ n.1))) ∙ n.2)

  -- the session that a slot names
  of_slot : (q : SlotId) (n : Naming) → naming_in (slot_at w q) ≡ Some n → (s : Session) × (session_at w (named n) ≡ Some s) × (s.slot_id ≡ q)
  of_slot q n e = let u = h.named q n e in let s = session_of_outline (session_at w (named n)) u.0 u.1 in (s.0, s.1, ap (λ (s : Session). s.slot_id) s.2 ∙ u.2)

  -- ONE LIST OF SLOTS

  -- the slots at these slots, by their places
  module _ (r : Resource) (index : SlotId → Option ℕ) (at : ℕ → SlotId) (index_of : (q : SlotId) (i : ℕ) → index q ≡ Some i → q ≡ at i) (index_at : (i : ℕ)
      → index (at i) ≡ Some i) where
    abbrev is_at : ℕ → Option ℕ → Bool
    is_at b None = false
    is_at b (Some i) = i == b

    abbrev is_from : ℕ → Option ℕ → Bool
    is_from b None = false
    is_from b (Some i) = nat_le b i

    abbrev given_at : ℕ → Option Session → ℕ
    given_at b o = given_where (λ q. is_at b (index q)) r o

    abbrev given_from : ℕ → Option Session → ℕ
    given_from b o = given_where (λ q. is_from b (index q)) r o

    is_at_slot_id : (b : ℕ) (q : SlotId) → is_at b (index q) ≡ true → q ≡ at b
    is_at_slot_id b q e = go (index q) refl e
      where
        go : (o : Option ℕ) → index q ≡ o → is_at b o ≡ true → q ≡ at b
        go None f e = absurd cc
        go (Some i) f e = elim (eqb_tells i b) [ inl t ↦ index_of q i f ∙ ap at t.1 | inr t ↦ absurd (true≢false (sym e ∙ t.0)) ]

    -- what was given for a session that stands there
    given_there : (b : ℕ) (o : Option Session) → given_at b o ≡ 0 ⊎ ((s : Session) × (o ≡ Some s) × (s.slot_id ≡ at b))
    given_there b None = inl refl
    given_there b (Some s) = by (is_at b (index s.slot_id)) refl
      where
        by : (t : Bool) → is_at b (index s.slot_id) ≡ t → (cond t (donated r s) 0 ≡ 0) ⊎ ((u : Session) × (Some s ≡ Some u) × (u.slot_id ≡ at b))
        by true e = inr (s, refl, is_at_slot_id b s.slot_id e)
        by false e = inl refl

    given_here : (b : ℕ) (s : Session) → s.slot_id ≡ at b → given_at b (Some s) ≡ donated r s
    given_here b s e = ap (λ t. cond t (donated r s) 0) (ap (λ q. is_at b (index q)) e ∙ (ap (is_at b) (index_at b) ∙ equal_self b))

    -- for one slot
    one_slot : (b : ℕ) (slot : Slot) → slot_at w (at b) ≡ Some slot → sum_by (given_at b) w.sessions ≡ slot_given r w slot
    one_slot b slot there = by (naming slot) refl
      where
        by : (o : Option Naming) → naming slot ≡ o → sum_by (given_at b) w.sessions ≡ slot_given r w slot
        by None e = sum_zero (given_at b) w.sessions none ∙ sym (naming_none r w slot e)
          where
            none : (k : ℕ) (o : Option Session) → slice_get w.sessions k ≡ Some o → given_at b o ≡ 0
            none k o f = elim (given_there b o) [
              | inl t ↦ t
              | inr t ↦
                  (let n = names k t.0 (ap joined f ∙ t.1) in absurd
                  (none_some (sym e ∙ (ap naming_in (sym there) ∙ (ap (λ q. naming_in (slot_at w q)) (sym t.2) ∙ n.1)))))
            ]
        by (Some n) e =
            let u = of_slot (at b) n (ap naming_in there ∙ e) in
            sum_one (given_at b) w.sessions (named n) (Some u.0) (session_stands w (named n) u.0 u.1) (others u.0 u.1 u.2)
            ∙ (given_here b u.0 u.2 ∙ (ap (given_by r) (sym u.1) ∙ sym (naming_given r w slot n e)))
          where
            others : (s : Session) → session_at w (named n) ≡ Some s → s.slot_id ≡ at b → (j : ℕ) (o : Option Session) → slice_get w.sessions j ≡ Some o
                → j ≢ named n → given_at b o ≡ 0
            others s is slot_id j o f ne = elim (given_there b o) [
              | inl t ↦ t
              | inr t ↦ absurd (ne (one_slot_id j (named n) t.0 s (ap joined f ∙ t.1) is (t.2 ∙ sym slot_id)))
            ]

    first_apart : (b : ℕ) (o : Option Session) → given_from b o ≡ given_at b o + given_from (suc b) o
    first_apart b None = refl
    first_apart b (Some s) = by (index s.slot_id)
      where
        by_tests : (i n : ℕ) (x y z : Bool) → ((x ≡ true) × (b ≤ i)) ⊎ ((x ≡ false) × (i < b)) → ((y ≡ true) × (i ≡ b)) ⊎ ((y ≡ false) × (i ≢ b))
            → ((z ≡ true) × (suc b ≤ i)) ⊎ ((z ≡ false) × (i < suc b)) → cond x n 0 ≡ cond y n 0 + cond z n 0
        by_tests i n x y z (inl p) (inl q) (inl t) = (let a = q.1 in let c = t.1 in absurd (omega (arith, a, c)))
        by_tests i n x y z (inl p) (inl q) (inr t) = (λ k. cond (p.0 k) n 0) ∙ (add_none n ∙ (λ k. cond (sym q.0 k) n 0 + cond (sym t.0 k) n 0))
          where
            add_none : (n : ℕ) → n ≡ n + 0
            add_none n = omega arith
        by_tests i n x y z (inl p) (inr q) (inl t) = (λ k. cond (p.0 k) n 0) ∙ (add_none n ∙ (λ k. cond (sym q.0 k) n 0 + cond (sym t.0 k) n 0))
          where
            add_none : (n : ℕ) → n ≡ 0 + n
            add_none n = omega arith
        by_tests i n x y z (inl p) (inr q) (inr t) = (let a = p.1 in let c = t.1 in absurd (q.1 (omega (arith, a, c))))
        by_tests i n x y z (inr p) (inl q) t = (let a = p.1 in let c = q.1 in absurd (omega (arith, a, c)))
        by_tests i n x y z (inr p) (inr q) (inl t) = (let a = p.1 in let c = t.1 in absurd (omega (arith, a, c)))
        by_tests i n x y z (inr p) (inr q) (inr t) = (λ k. cond (p.0 k) n 0) ∙ (λ k. cond (sym q.0 k) n 0 + cond (sym t.0 k) n 0)

        by : (o : Option ℕ) → cond (is_from b o) (donated r s) 0 ≡ cond (is_at b o) (donated r s) 0 + cond (is_from (suc b) o) (donated r s) 0
        by None = refl
        by (Some i) = by_tests i (donated r s) (nat_le b i) (i == b) (nat_le (suc b) i) (leb_tells b i) (eqb_tells i b) (leb_tells (suc b) i)

    -- for the slots from the b-th on
    slots_from : (slots : List Slot) (b : ℕ) → ((i : ℕ) (slot : Slot) → slice_get slots i ≡ Some slot → slot_at w (at (b + i)) ≡ Some slot)
        → ((k : ℕ) (s : Session) → session_at w k ≡ Some s → (i : ℕ) → index s.slot_id ≡ Some i → i < b + length slots)
        → sum_by (given_from b) w.sessions ≡ sum_by (slot_given r w) slots
    slots_from [] b there below = sum_zero (given_from b) w.sessions none
      where
        none : (k : ℕ) (o : Option Session) → slice_get w.sessions k ≡ Some o → given_from b o ≡ 0
        none k None f = refl
        none k (Some s) f = by (index s.slot_id) refl
          where
            by : (o : Option ℕ) → index s.slot_id ≡ o → cond (is_from b o) (donated r s) 0 ≡ 0
            by None e = refl
            by (Some i) e = let less = below k s (ap joined f) i e in
                elim (leb_tells b i) [ inl t ↦ (let le = t.1 in absurd (omega (arith, less, le))) | inr t ↦ ap (λ t. cond t (donated r s) 0) t.0 ]
    slots_from (slot ∷ rest) b there below =
        let apart = sum_same (given_from b) (λ o. given_at b o + given_from (suc b) o) w.sessions (λ k o e. first_apart b o) in
        let both = sum_add (given_at b) (given_from (suc b)) w.sessions in
        let one = one_slot b slot (ap (λ i. slot_at w (at i)) (add_none b) ∙ there zero slot refl) in
        let further = slots_from rest (suc b) (λ i a e. ap (λ i. slot_at w (at i)) (add_next b i) ∙ there (suc i) a e)
        (λ k s e i f. (let less = below k s e i f in omega (arith, less))) in
        omega (arith, apart, both, one, further, sum_by-cons (slot_given r w) slot rest)

    -- for all of them
    all_slots : (slots : List Slot) → ((i : ℕ) → slot_at w (at i) ≡ slice_get slots i) → sum_by (given_from 0) w.sessions ≡ sum_by (slot_given r w) slots
    all_slots slots found = slots_from slots 0 (λ i slot e. ap (λ i. slot_at w (at i)) (none_add i) ∙ (found i ∙ e)) below
      where
        below : (k : ℕ) (s : Session) → session_at w k ≡ Some s → (i : ℕ) → index s.slot_id ≡ Some i → i < 0 + length slots
        below k s e i f =
            let n = names k s e in
            let slot = slot_of (slice_get slots i) n.0 (ap naming_in (sym (found i)) ∙
            (ap (λ q. naming_in (slot_at w q)) (sym (index_of s.slot_id i f)) ∙ n.1)) in
            let less = slice_get_within slots i slot.0 slot.1 in
            omega (arith, less)

-- LEAVES AND SESSIONS

-- the number of a slot of the x-th leaf's own
abbrev leaf_index : ℕ → SlotId → Option ℕ
leaf_index x (In_leaf y i) = cond (y == x) (Some i) None
leaf_index x (In_session m i) = None
leaf_index x (In_object m) = None

-- the number of a slot of the k-th session's
abbrev session_index : ℕ → SlotId → Option ℕ
session_index k (In_leaf y i) = None
session_index k (In_session m i) = cond (m == k) (Some i) None
session_index k (In_object m) = None

leaf_index_of : (x : ℕ) (q : SlotId) (i : ℕ) → leaf_index x q ≡ Some i → q ≡ In_leaf x i
leaf_index_of x (In_leaf y j) i e = elim (eqb_tells y x) [
  | inl t ↦
      (let same = some_same (ap (λ b. cond b (Some j) None) (sym t.0) ∙ e) in (λ k. In_leaf (t.1 k) (same k)))
  | inr t ↦ absurd (none_some (ap (λ b. cond b (Some j) None) (sym t.0) ∙ e))
]
leaf_index_of x (In_session m j) i e = absurd (none_some e)
leaf_index_of x (In_object m) i e = absurd (none_some e)

session_index_of : (k : ℕ) (q : SlotId) (i : ℕ) → session_index k q ≡ Some i → q ≡ In_session k i
session_index_of k (In_leaf y j) i e = absurd (none_some e)
session_index_of k (In_session m j) i e = elim (eqb_tells m k) [
  | inl t ↦
      (let same = some_same (ap (λ b. cond b (Some j) None) (sym t.0) ∙ e) in (λ l. In_session (t.1 l) (same l)))
  | inr t ↦ absurd (none_some (ap (λ b. cond b (Some j) None) (sym t.0) ∙ e))
]
session_index_of k (In_object m) i e = absurd (none_some e)

-- a number that is there counts from 0 on
from_zero : (b : Bool) (i n : ℕ) → cond b n 0 ≡ cond (elim (cond b (Some i) None) as (λ o. Bool) [ None ↦ false | Some j ↦ nat_le 0 j ]) n 0
from_zero true i n = ap (λ t. cond t n 0) (sym (leb-zero i))
from_zero false i n = refl

module _ (system : System) (w : World) (h : IsLinkedWorld system w) (r : Resource) where
  -- what was given for the sessions in a leaf's own slots
  pub own_given : (x : ℕ) (leaf : Leaf) → slice_get w.leaves x ≡ Some leaf → given_in_leaf r w x ≡ sum_by (slot_given r w) leaf.slots
  own_given x leaf there =
      sum_same (given_where (in_leaf x) r) (given_from system w h r (leaf_index x) (In_leaf x) (leaf_index_of x) index_at 0) w.sessions (λ k o e. each o)
      ∙ all_slots system w h r (leaf_index x) (In_leaf x) (leaf_index_of x) index_at leaf.slots (λ i. ap (λ o. leaf_slot o i) there)
    where
      index_at : (i : ℕ) → leaf_index x (In_leaf x i) ≡ Some i
      index_at i = ap (λ b. cond b (Some i) None) (equal_self x)

      each : (o : Option Session) → given_where (in_leaf x) r o ≡ given_from system w h r (leaf_index x) (In_leaf x) (leaf_index_of x) index_at 0 o
      each None = refl
      each (Some s) = by s.slot_id
        where
          by : (q : SlotId) → cond (in_leaf x q) (donated r s) 0
              ≡ cond (is_from system w h r (leaf_index x) (In_leaf x) (leaf_index_of x) index_at 0 (leaf_index x q)) (donated r s) 0
          by (In_leaf y i) = from_zero (y == x) i (donated r s)
          by (In_session m i) = refl
          by (In_object m) = refl

  -- and in a session's
  pub bank_given : (k : ℕ) (s : Session) → session_at w k ≡ Some s → given_in_session r w k ≡ sum_by (slot_given r w) s.slots
  bank_given k s there =
      sum_same (given_where (in_session k) r) (given_from system w h r (session_index k) (In_session k) (session_index_of k) index_at 0) w.sessions
      (λ k o e. each o)
      ∙ all_slots system w h r (session_index k) (In_session k) (session_index_of k) index_at s.slots (λ i. ap (λ o. session_slot o i) there)
    where
      index_at : (i : ℕ) → session_index k (In_session k i) ≡ Some i
      index_at i = ap (λ b. cond b (Some i) None) (equal_self k)

      each : (o : Option Session) → given_where (in_session k) r o ≡ given_from system w h r (session_index k) (In_session k) (session_index_of k) index_at 0 o
      each None = refl
      each (Some s) = by s.slot_id
        where
          by : (q : SlotId) → cond (in_session k q) (donated r s) 0
              ≡ cond (is_from system w h r (session_index k) (In_session k) (session_index_of k) index_at 0 (session_index k q)) (donated r s) 0
          by (In_leaf y i) = refl
          by (In_session m i) = from_zero (m == k) i (donated r s)
          by (In_object m) = refl

  -- WHAT A LEAF HAS LENT

  module _ (x : ℕ) where
    -- what was given for session o, where it stands in a slot of session k, which is to the leaf
    abbrev in_bank : ℕ → Option Session → Option Session → ℕ
    in_bank k bank o = to_leaf x (λ s. given_where (in_session k) r o) bank

    to_none : (bank : Option Session) → to_leaf x (λ s. 0) bank ≡ 0
    to_none None = refl
    to_none (Some s) = by (s.server == x)
      where
        by : (b : Bool) → ◌≡◌ {A = ℕ} (cond b 0 0) 0
        by true = refl
        by false = refl

    -- a session from the leaf stands in a slot of its own, or of one session to it
    one_lent : (k : ℕ) (o : Option Session) → slice_get w.sessions k ≡ Some o
        → from_leaf x (donated r) o ≡ given_where (in_leaf x) r o + sum_numbered (λ m bank. in_bank m bank o) 0 w.sessions
    one_lent k None e = let none = numbered_zero (λ m bank. in_bank m bank None) 0 w.sessions (λ m bank f. to_none bank) in omega (arith, none)
    one_lent k (Some s) e = by s.slot_id refl (h.belongs k (outline s) (ap outline_in (ap joined e)))
      where
        by : (q : SlotId) → s.slot_id ≡ q → Belongs (links w) s.slot_id s.client
            → from_leaf x (donated r) (Some s) ≡ given_where (in_leaf x) r (Some s) + sum_numbered (λ m bank. in_bank m bank (Some s)) 0 w.sessions
        by (In_leaf y i) at b =
            let client = subst (λ q. Belongs (links w) q s.client) at b in
            let own : given_where (in_leaf x) r (Some s) ≡ from_leaf x (donated r) (Some s) =
            ap (λ q. cond (in_leaf x q) (donated r s) 0) at ∙ ap (λ z. cond (z == x) (donated r s) 0) client in
            let none = numbered_zero (λ m bank. in_bank m bank (Some s)) 0 w.sessions
            (λ m bank f. ap (λ q. to_leaf x (λ t. cond (in_session (0 + m) q) (donated r s) 0) bank) at ∙ to_none bank) in
            omega (arith, own, none)
        by (In_session m i) at b =
            let t = subst (λ q. Belongs (links w) q s.client) at b in
            let u = session_of_outline (session_at w m) t.0 t.1 in
            let own : given_where (in_leaf x) r (Some s) ≡ 0 = ap (λ q. cond (in_leaf x q) (donated r s) 0) at in
            let one = numbered_one (λ m bank. in_bank m bank (Some s)) 0 w.sessions m (Some u.0) (session_stands w m u.0 u.1)
            (λ j bank f ne. ap (λ q. to_leaf x (λ t. cond (in_session (0 + j) q) (donated r s) 0) bank) at ∙ other j ne bank) in
            let server : u.0.server ≡ s.client = ap (λ (s : Session). s.server) u.2 ∙ t.3 in
            let here : in_bank (0 + m) (Some u.0) (Some s) ≡ from_leaf x (donated r) (Some s) =
            ap (λ q. cond (u.0.server == x) (cond (in_session (0 + m) q) (donated r s) 0) 0) at
            ∙ ((λ l. cond (server l == x) (cond (m == first m l) (donated r s) 0) 0)
            ∙ ap (λ b. cond (s.client == x) (cond b (donated r s) 0) 0) (equal_self m)) in
            omega (arith, own, one, here)
          where
            first : (m : ℕ) → 0 + m ≡ m
            first m = omega arith

            other : (j : ℕ) → j ≢ m → (bank : Option Session) → to_leaf x (λ t. cond (m == 0 + j) (donated r s) 0) bank ≡ 0
            other j ne bank = elim (eqb_tells m (0 + j)) [
              | inl e ↦ (let same = e.1 in absurd (ne (omega (arith, same))))
              | inr e ↦ ap (λ b. to_leaf x (λ t. cond b (donated r s) 0) bank) e.0 ∙ to_none bank
            ]
        by (In_object m) at b = absurd (subst (λ q. Belongs (links w) q s.client) at b)

    bank_sum : (k : ℕ) (bank : Option Session) (sessions : List (Option Session))
        → sum_by (in_bank k bank) sessions ≡ to_leaf x (λ s. sum_by (given_where (in_session k) r) sessions) bank
    bank_sum k None sessions = sum_zero (in_bank k None) sessions (λ j o e. refl)
    bank_sum k (Some s) sessions = by (s.server == x)
      where
        by : (b : Bool) → sum_by (λ o. cond b (given_where (in_session k) r o) 0) sessions ≡ cond b (sum_by (given_where (in_session k) r) sessions) 0
        by true = refl
        by false = sum_zero (λ o. 0) sessions (λ j o e. refl)

    -- what a leaf has lent was given from its own slots, and from those of the sessions to it
    pub lent_parts : lent r w x ≡ given_in_leaf r w x + sum_numbered (given_in_bank r w x) 0 w.sessions
    lent_parts =
        let each = sum_same (from_leaf x (donated r)) (λ o. given_where (in_leaf x) r o + sum_numbered (λ m bank. in_bank m bank o) 0 w.sessions) w.sessions
        one_lent in
        let both = sum_add (given_where (in_leaf x) r) (λ o. sum_numbered (λ m bank. in_bank m bank o) 0 w.sessions) w.sessions in
        let swapped = sums_swap in_bank 0 w.sessions w.sessions in
        let banks = numbered_same (λ k bank. sum_by (in_bank k bank) w.sessions) (given_in_bank r w x) 0 w.sessions
        (λ k bank e. bank_sum (0 + k) bank w.sessions) in
        omega (arith, each, both, swapped, banks)

    -- the same by the slots
    pub lent_slots : (leaf : Leaf) → slice_get w.leaves x ≡ Some leaf
        → lent r w x ≡ sum_by (slot_given r w) leaf.slots + sum_by (to_leaf x (λ s. sum_by (slot_given r w) s.slots)) w.sessions
    lent_slots leaf there =
        let parts = lent_parts in
        let own = own_given x leaf there in
        let banks = numbered_same (given_in_bank r w x) (λ k bank. to_leaf x (λ s. sum_by (slot_given r w) s.slots) bank) 0 w.sessions
        (λ k bank e. each (0 + k) bank (ap (λ k. joined (slice_get w.sessions k)) (none_add k) ∙ ap joined e)) in
        let all = numbered_plain (to_leaf x (λ s. sum_by (slot_given r w) s.slots)) 0 w.sessions in
        omega (arith, parts, own, banks, all)
      where
        each : (k : ℕ) (bank : Option Session) → session_at w k ≡ bank
            → to_leaf x (λ s. given_in_session r w k) bank ≡ to_leaf x (λ s. sum_by (slot_given r w) s.slots) bank
        each k None e = refl
        each k (Some s) e = ap (λ n. cond (s.server == x) n 0) (bank_given k s e)

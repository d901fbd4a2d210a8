-- The items of an account, added.
use Rattle.std.proofs.Common.{◌≡◌, ◌∙◌, ◌==◌, ℕ, zero, suc, ◌+◌, ◌*◌, Bool, true, false, cond, List, [], ◌∷◌, ◌++◌, Option, Some, None, refl, ap, sym}
use Rattle.std.proofs.Common.{subst, arith, true≢false}
use Rattle.std.specs.Prelude.{slice_get, sum_by}
use Rattle.std.proofs.lemmas.Bool.{and_parts, leb-true}
use Rattle.std.proofs.lemmas.List.Sums.{sum_by-cons}
use Rattle.gq_tariff.specs.Prices.{classes}
use Rattle.gq_model.specs.declared.phase.Phase.{Phase}
use Rattle.gq_model.specs.declared.phase.Phase.TheVariants.{Pending, Running, Blocked, Serving, Handling, Exited}
use Rattle.gq_model.specs.declared.program.OperandSlot.{OperandSlot}
use Rattle.gq_model.specs.declared.program.OperandSlot.TheVariants.{Own, Shared, Object}
use Rattle.gq_model.specs.machine.Amounts.{Resource, Ram, Caps, part}
use Rattle.gq_model.specs.machine.Resource_prices.{chunks, heap_of}
use Rattle.gq_model.specs.machine.Scenario.{Component, Scenario, System, components, system}
use Rattle.gq_model.specs.machine.Sums.{are_paid, bank_price, donated, handed, held, is_paid, lent, paid, quota, received, slot_price, to_leaf}
use Rattle.gq_model.specs.machine.World.{Slot, Empty, Bytes, Pool, Link, Waiting, In_object, Leaf, Session, World, joined, session_at, session_object, slot_at}
use Rattle.gq_model.specs.Promises.{EachOf}
use Rattle.gq_laws.specs.Session_links.{Belongs, IsLinkedWorld, Leads, Naming, Waits, links, named, naming, naming_in}
use Rattle.gq_laws.specs.internal.Lending.{given_by, slot_given}
use Rattle.gq_laws.proofs.held_resources.Lent_by_named_sessions.{lent_slots}
use Rattle.gq_laws.proofs.quota_payment.Written_world_prices.{paid_one}
use Rattle.gq_traces.specs.Account_state.{Item, Role, Given, Held, Lent, Received, amount_by, is_live, item, leaf_items, live_items, lent_items, place_items}
use Rattle.gq_traces.specs.Account_state.{places_items}
use Rattle.gq_traces.specs.Account_state.{received_items, session_items, sessions_items, slot_items, slots_items}
use Rattle.gq_traces.specs.Made_of.{sum_of}
use Rattle.gq_traces.specs.internal.Item_sums.{LeafAdds, LeavesAdd}

pub sum_both : (role : Role) (r : Resource) (xs ys : List Item) → sum_of role r (xs ++ ys) ≡ sum_of role r xs + sum_of role r ys
sum_both role r [] ys = omega arith
sum_both role r (x ∷ xs) ys = let rest = sum_both role r xs ys in omega (arith, rest)

part_by : (f : Resource → ℕ) (r : Resource) → part r (amount_by f) + 0 ≡ f r
part_by f Ram = omega arith
part_by f Caps = omega arith

-- SLOTS

none_added : (r : Resource) (o : Option Session) (system : System) (w : World) (place : OperandSlot) (k : ℕ)
    → (sum_of Held r (lent_items system w place k o) ≡ 0) × (sum_of Lent r (lent_items system w place k o) ≡ given_by r o)
    × (sum_of Given r (lent_items system w place k o) ≡ 0) × (sum_of Received r (lent_items system w place k o) ≡ 0)
none_added r None system w place k = (refl, refl, refl, refl)
none_added r (Some s) system w place k = (omega arith, omega arith, omega arith, omega arith)

-- what the items of one slot, or of some, add up to
record Adds (r : Resource) (items : List Item) (held_sum lent_sum : ℕ) : Type 0 where
  holds : sum_of Held r items ≡ held_sum
  lends : sum_of Lent r items ≡ lent_sum
  gives : sum_of Given r items ≡ 0
  takes : sum_of Received r items ≡ 0

slot_adds : (r : Resource) (system : System) (w : World) (place : OperandSlot) (slot : Slot)
    → Adds r (slot_items system w place slot) (slot_price r slot) (slot_given r w slot)
slot_adds r system w place Empty = record { holds = refl; lends = refl; gives = refl; takes = refl }
slot_adds r system w place (Bytes form n bytes) = record {
  holds = part_by (λ q. slot_price q (Bytes form n bytes)) r;
  lends = refl;
  gives = refl;
  takes =
      refl;
}
slot_adds r system w place (Pool n entries) = record { holds = part_by (λ q. slot_price q (Pool n entries)) r; lends = refl; gives = refl; takes = refl }
slot_adds r system w place (Link k) =
    let h = none_added r (session_at w k) system w place k in record { holds = h.0; lends = h.1; gives = h.2; takes = h.3 }
slot_adds r system w place (Waiting k) =
    let h = none_added r (session_at w k) system w place k in record { holds = h.0; lends = h.1; gives = h.2; takes = h.3 }

adds_both : (r : Resource) (xs ys : List Item) (a b c d : ℕ) → Adds r xs a b → Adds r ys c d → Adds r (xs ++ ys) (a + c) (b + d)
adds_both r xs ys a b c d g h = record {
  holds = sum_both Held r xs ys ∙ (λ i. g.holds i + h.holds i);
  lends = sum_both Lent r xs ys ∙ (λ i. g.lends i + h.lends i);
  gives = sum_both Given r xs ys ∙ (λ i. g.gives i + h.gives i);
  takes = sum_both Received r xs ys ∙ (λ i. g.takes i + h.takes i);
}

adds_as : (r : Resource) (xs : List Item) (a b c d : ℕ) → a ≡ c → b ≡ d → Adds r xs a b → Adds r xs c d
adds_as r xs a b c d e f h = record { holds = h.holds ∙ e; lends = h.lends ∙ f; gives = h.gives; takes = h.takes }

slots_add : (r : Resource) (system : System) (w : World) (place : ℕ → OperandSlot) (i : ℕ) (slots : List Slot)
    → Adds r (slots_items system w place i slots) (sum_by (slot_price r) slots) (sum_by (slot_given r w) slots)
slots_add r system w place i [] = record { holds = refl; lends = refl; gives = refl; takes = refl }
slots_add r system w place i (slot ∷ rest) =
    adds_as r (slot_items system w (place i) slot ++ slots_items system w place (suc i) rest) _ _ _ _ (sym (sum_by-cons (slot_price r) slot rest))
    (sym (sum_by-cons (slot_given r w) slot rest))
    (adds_both r (slot_items system w (place i) slot) (slots_items system w place (suc i) rest) _ _ _ _ (slot_adds r system w (place i) slot)
    (slots_add r system w place (suc i) rest))

-- PLACES

place_adds : (r : Resource) (c n : ℕ) → Adds r (place_items c n) (chunks r (c * n)) 0
place_adds r c zero = record { holds = none r; lends = refl; gives = refl; takes = refl }
  where
    nothing : c * 0 ≡ 0
    nothing = omega arith

    none : (r : Resource) → 0 ≡ chunks r (c * 0)
    none Ram = ap (chunks Ram) (sym nothing)
    none Caps = ap (chunks Caps) (sym nothing)
place_adds r c (suc n) = record { holds = part_by (λ q. chunks q (c * suc n)) r; lends = refl; gives = refl; takes = refl }

places_add : (r : Resource) (cs peaks : List ℕ) → Adds r (places_items cs peaks) (heap_of r cs peaks) 0
places_add r [] peaks = record { holds = refl; lends = refl; gives = refl; takes = refl }
places_add r (c ∷ cs) [] = record { holds = refl; lends = refl; gives = refl; takes = refl }
places_add r (c ∷ cs) (peak ∷ peaks) =
    adds_both r (place_items c peak) (places_items cs peaks) (chunks r (c * peak)) 0 (heap_of r cs peaks) 0 (place_adds r c peak) (places_add r cs peaks)

-- SESSIONS

record AddsSessions (r : Resource) (items : List Item) (held_sum lent_sum received_sum : ℕ) : Type 0 where
  holds : sum_of Held r items ≡ held_sum
  lends : sum_of Lent r items ≡ lent_sum
  takes : sum_of Received r items ≡ received_sum
  gives : sum_of Given r items ≡ 0

module _ (r : Resource) (system : System) (w : World) (x : ℕ) where
  abbrev bank_lent : Session → ℕ
  bank_lent s = sum_by (slot_given r w) s.slots

  session_adds : (s : Session) → slot_given r w s.object ≡ 0
      → AddsSessions r (session_items system w s) (bank_price r s) (bank_lent s) (donated r s)
  session_adds s object =
      let h = adds_both r (slot_items system w Object s.object) (slots_items system w Shared 0 s.slots) _ _ _ _ (slot_adds r system w Object s.object)
      (slots_add r system w Shared 0 s.slots) in
      let a = h.holds in
      let b = h.lends in
      let d = h.takes in
      let e = h.gives in
      record { holds = omega (arith, a); lends = omega (arith, b, object); takes = omega (arith, d); gives = omega (arith, e) }

  to_both : (s : Session) (b : Bool) → slot_given r w s.object ≡ 0
      → AddsSessions r (cond b (session_items system w s) []) (cond b (bank_price r s) 0) (cond b (bank_lent s) 0) (cond b (donated r s) 0)
  to_both s true object = session_adds s object
  to_both s false object = record { holds = refl; lends = refl; takes = refl; gives = refl }

  received_adds : (o : Option Session) → ((s : Session) → o ≡ Some s → slot_given r w s.object ≡ 0)
      → AddsSessions r (received_items system w x o) (to_leaf x (bank_price r) o) (to_leaf x bank_lent o) (to_leaf x (donated r) o)
  received_adds None object = record { holds = refl; lends = refl; takes = refl; gives = refl }
  received_adds (Some s) object = to_both s (s.server == x) (object s refl)

  sessions_add : (sessions : List (Option Session)) → ((k : ℕ) (s : Session) → slice_get sessions k ≡ Some (Some s) → slot_given r w s.object ≡ 0)
      → AddsSessions r (sessions_items system w x sessions) (sum_by (to_leaf x (bank_price r)) sessions) (sum_by (to_leaf x bank_lent) sessions)
      (sum_by (to_leaf x (donated r)) sessions)
  sessions_add [] object = record { holds = refl; lends = refl; takes = refl; gives = refl }
  sessions_add (o ∷ rest) object =
      let g = received_adds o (λ s e. object 0 s (ap Some e)) in
      let h = sessions_add rest (λ k s e. object (suc k) s e) in
      let here = received_items system w x o in
      let later = sessions_items system w x rest in
      record {
        holds = sum_both Held r here later ∙ (λ i. g.holds i + h.holds i) ∙ sym (sum_by-cons (to_leaf x (bank_price r)) o rest);
        lends = sum_both Lent r here later ∙ (λ i. g.lends i + h.lends i) ∙ sym (sum_by-cons (to_leaf x bank_lent) o rest);
        takes = sum_both Received r here later ∙ (λ i. g.takes i + h.takes i) ∙ sym (sum_by-cons (to_leaf x (donated r)) o rest);
        gives = sum_both Given r here later ∙ (λ i. g.gives i + h.gives i);
      }

-- no object leads to a session
object_none : (system : System) (w : World) → IsLinkedWorld system w → (r : Resource) (k : ℕ) (s : Session) → slice_get w.sessions k ≡ Some (Some s)
    → slot_given r w s.object ≡ 0
object_none system w linked r k s there = by s.object refl
  where
    at_object : (slot : Slot) → s.object ≡ slot → naming_in (slot_at w (In_object k)) ≡ naming slot
    at_object slot e = ap (λ o. naming_in (session_object (joined o))) there ∙ ap naming e

    never : (n : Naming) → naming_in (slot_at w (In_object k)) ≡ Some n → ⊥
    never n e =
        let t = linked.named (In_object k) n e in
        let b = linked.belongs (named n) t.0 t.1 in
        subst (λ q. Belongs (links w) q t.0.client) t.2 b

    by : (slot : Slot) → s.object ≡ slot → slot_given r w slot ≡ 0
    by Empty e = refl
    by (Bytes form n bytes) e = refl
    by (Pool n entries) e = refl
    by (Link j) e = absurd (never (Leads j) (at_object (Link j) e))
    by (Waiting j) e = absurd (never (Waits j) (at_object (Waiting j) e))

-- LEAVES

live_phase : (s : Scenario) (w : World) (x : ℕ) (c : Component) (leaf : Leaf) (phase : Phase) → is_live phase ≡ true
    → leaf_items (system s) w x c leaf phase ≡ live_items (system s) w x c leaf
live_phase s w x c leaf Pending e = absurd (true≢false (sym e))
live_phase s w x c leaf Running e = refl
live_phase s w x c leaf Blocked e = refl
live_phase s w x c leaf Serving e = refl
live_phase s w x c leaf Handling e = refl
live_phase s w x c leaf Exited e = absurd (true≢false (sym e))

live_handed : (phase : Phase) (n : ℕ) → is_live phase ≡ true → handed phase n ≡ n
live_handed Pending n e = absurd (true≢false (sym e))
live_handed Running n e = refl
live_handed Blocked n e = refl
live_handed Serving n e = refl
live_handed Handling n e = refl
live_handed Exited n e = absurd (true≢false (sym e))

module _ (s : Scenario) (w : World) (linked : IsLinkedWorld (system s) w) (x : ℕ) (c : Component) (leaf : Leaf) (there : slice_get w.leaves x ≡ Some leaf)
    (live : is_live leaf.phase ≡ true) where
  live_adds : (r : Resource) → is_paid w x c leaf r ≡ true → LeafAdds s w x c leaf r
  live_adds r pays =
      let all = system s in
      let own = slots_items all w Own 0 leaf.slots in
      let places = places_items classes leaf.peaks in
      let sessions = sessions_items all w x w.sessions in
      let first = item 1 Given c.node.quantum [] ∷ [] in
      let a = slots_add r all w Own 0 leaf.slots in
      let b = places_add r classes leaf.peaks in
      let d = sessions_add r all w x w.sessions (λ k t e. object_none all w linked r k t e) in
      let total : (role : Role) → sum_of role r (leaf_items all w x c leaf leaf.phase)
      ≡ sum_of role r first + sum_of role r own + sum_of role r places + sum_of role r sessions =
      λ role. ap (sum_of role r) (live_phase s w x c leaf leaf.phase live)
      ∙ (sum_both role r (first ++ own ++ places) sessions ∙ ap (λ n. n + sum_of role r sessions) (sum_both role r (first ++ own) places
      ∙ ap (λ n. n + sum_of role r places) (sum_both role r first own))) in
      let holds = total Held in
      let lends = total Lent in
      let takes = total Received in
      let gives = total Given in
      let a_holds = a.holds in
      let a_lends = a.lends in
      let a_takes = a.takes in
      let a_gives = a.gives in
      let b_holds = b.holds in
      let b_lends = b.lends in
      let b_takes = b.takes in
      let b_gives = b.gives in
      let d_holds = d.holds in
      let d_lends = d.lends in
      let d_takes = d.takes in
      let d_gives = d.gives in
      let lent_is = lent_slots all w linked r x leaf there in
      let given = live_handed leaf.phase (part r c.node.quantum) live in
      let enough = leb-true (held r w x leaf + lent r w x) (handed leaf.phase (part r c.node.quantum) + received r w x) pays in
      let quotas : quota r w x c leaf + lent r w x ≡ part r c.node.quantum + received r w x = omega (arith, enough, given) in
      record {
        used = omega (arith, holds, a_holds, b_holds, d_holds);
        quota_is = omega (arith, gives, takes, lends, a_gives, a_takes, a_lends, b_gives, b_takes, b_lends, d_gives, d_takes, d_lends, lent_is, quotas);
      }

  each_adds : (resources : List Resource) → are_paid w x c leaf resources ≡ true → EachOf resources (LeafAdds s w x c leaf)
  each_adds [] pays = tt
  each_adds (r ∷ resources) pays =
      let p = and_parts (is_paid w x c leaf r) (are_paid w x c leaf resources) pays in (live_adds r p.0, each_adds resources p.1)

pub leaves_add_up : (s : Scenario) (w : World) → IsLinkedWorld (system s) w → paid (system s) w ≡ true → LeavesAdd s w
leaves_add_up s w linked pays x c leaf named there live =
    each_adds s w linked x c leaf there live (system s).counted
    (paid_one (system s).counted w 0 (components s) w.leaves pays x c leaf named there x (omega arith))

-- Slots cost what their kinds say, and have no more of the heap's places in use than their kinds.
use Rattle.std.proofs.Common.{◌≡◌, ℕ, zero, suc, ◌+◌, ◌≤◌, ◌==◌, cond, Bool, true, false, List, [], ◌∷◌, length, Option, Some, None, refl, ap, sym, ◌∙◌, subst}
use Rattle.std.proofs.Common.{arith}
use Rattle.std.specs.Prelude.{slice_get, sum_by, count_by, is_some}
use Rattle.std.proofs.lemmas.List.Sums.{sum_by-cons, count_by-le-length}
use Rattle.gq_tariff.specs.Prices.{size_for}
use Rattle.gq_model.specs.machine.Amounts.{Resource, part}
use Rattle.gq_model.specs.declared.program.Form.{Form}
use Rattle.gq_model.specs.declared.program.Form.TheVariants.{Block, Slice, Space}
use Rattle.gq_model.specs.declared.section.Section.{Section}
use Rattle.gq_model.specs.declared.section.Section.TheVariants.{Main, Opening, Upgrading, Calling, Closing, Reacting}
use Rattle.gq_model.specs.machine.Scenario.{System}
use Rattle.gq_model.specs.machine.World.{Slot, Empty, Waiting, Bytes, Pool, Link, SlotId, Session, World, session_at, slot_at}
use Rattle.gq_model.specs.machine.Sums.{slot_price, slot_places}
use Rattle.gq_model.specs.rules.Kinds.{Kind, Empty_kind, Memory, Pool_kind, Link_kind, kind_price, kind_lent, kinds_cost, kind_places}
use Rattle.gq_model.specs.rules.Rules.{is_heap_kind}
use Rattle.gq_laws.specs.Current_section_facts.{section_asked}
use Rattle.gq_laws.specs.Shapes.{Each}
use Rattle.gq_laws.specs.Session_links.{Leads, Waits, naming_in, IsLinkedWorld}
use Rattle.gq_laws.specs.internal.Lending.{given_by, slot_given}
use Rattle.gq_laws.specs.Typed.{IsKind, AreKinds}
use Rattle.gq_laws.specs.Typing.{kind_then, PromisesSessions}
use Rattle.gq_model.proofs.Small_facts.{some_same}
use Rattle.gq_laws.proofs.typed_worlds.Promised_stance_transfer.{none_asked}
use Rattle.gq_laws.proofs.typed_worlds.Typed_world_promises.{is_led}
use Rattle.gq_laws.proofs.session_links.Linked_after_reply.{session_of_outline}

-- WHAT IS SUPPOSED OF SLOTS

-- the session that a slot names is there
abbrev pub IsNamed : World → Slot → Type 0
IsNamed w Empty = Unit {0}
IsNamed w (Bytes form n bytes) = Unit {0}
IsNamed w (Pool n entries) = Unit {0}
IsNamed w (Link k) = (s : Session) × (session_at w k ≡ Some s)
IsNamed w (Waiting k) = (s : Session) × (session_at w k ≡ Some s)

-- what is asked of a session leaves it open
abbrev pub StaysOpen : Option Section → Type 0
StaysOpen None = Unit {0}
StaysOpen (Some Main) = ⊥
StaysOpen (Some Opening) = Unit {0}
StaysOpen (Some (Upgrading l)) = Unit {0}
StaysOpen (Some (Calling l)) = Unit {0}
StaysOpen (Some (Closing l)) = ⊥
StaysOpen (Some (Reacting i)) = ⊥

-- the session that a slot names is there, and stays open with what is asked of it
abbrev pub NoClose : World → Slot → Type 0
NoClose w Empty = Unit {0}
NoClose w (Bytes form n bytes) = Unit {0}
NoClose w (Pool n entries) = Unit {0}
NoClose w (Link k) = (s : Session) × (session_at w k ≡ Some s) × StaysOpen (section_asked w k s)
NoClose w (Waiting k) = (s : Session) × (session_at w k ≡ Some s) × StaysOpen (section_asked w k s)

pub no_close_named : (w : World) (slot : Slot) → NoClose w slot → IsNamed w slot
no_close_named w Empty h = tt
no_close_named w (Bytes form n bytes) h = tt
no_close_named w (Pool n entries) h = tt
no_close_named w (Link k) h = (h.0, h.1)
no_close_named w (Waiting k) h = (h.0, h.1)

-- what holds of each slot that is found holds of all
pub each_found : {A : Type 0} (P : A → Type 0) (items : List A) → ((i : ℕ) (a : A) → slice_get items i ≡ Some a → P a) → Each P items
each_found P [] h = tt
each_found P (a ∷ rest) h = (h zero a refl, each_found P rest (λ i b e. h (suc i) b e))

-- in a linked world a slot names a session that is there
pub linked_named : (system : System) (w : World) → IsLinkedWorld system w → (q : SlotId) (slot : Slot) → slot_at w q ≡ Some slot → IsNamed w slot
linked_named system w h q Empty there = tt
linked_named system w h q (Bytes form n bytes) there = tt
linked_named system w h q (Pool n entries) there = tt
linked_named system w h q (Link k) there =
    let n = h.named q (Leads k) (ap naming_in there) in let u = session_of_outline (session_at w k) n.0 n.1 in (u.0, u.1)
linked_named system w h q (Waiting k) there =
    let n = h.named q (Waits k) (ap naming_in there) in let u = session_of_outline (session_at w k) n.0 n.1 in (u.0, u.1)

-- and nothing is asked of the session of a link
pub linked_no_close : (promised : ℕ → Option Kind) (system : System) (w : World) → IsLinkedWorld system w → PromisesSessions promised w → (q : SlotId) (k : ℕ)
    → slot_at w q ≡ Some (Link k) → NoClose w (Link k)
linked_no_close promised system w h reports q k there =
    let l = is_led promised system w h reports q k there in (l.s, l.there, subst StaysOpen (sym (none_asked w k l.s l.pending)) tt)

-- SUMS OVER SLOTS AND THEIR KINDS

sum_kinds : (promised : ℕ → Option Kind) (P : Slot → Type 0) (f : Slot → ℕ) (g : Kind → ℕ)
    → ((slot : Slot) (kind : Kind) → IsKind promised slot kind → P slot → f slot ≡ g kind)
    → (slots : List Slot) (kinds : List Kind) → AreKinds promised slots kinds → Each P slots → sum_by f slots ≡ sum_by g kinds
sum_kinds promised P f g h [] [] are each = refl
sum_kinds promised P f g h [] (kind ∷ kinds) are each = absurd are
sum_kinds promised P f g h (slot ∷ slots) [] are each = absurd are
sum_kinds promised P f g h (slot ∷ slots) (kind ∷ kinds) are each =
    let here = h slot kind are.0 each.0 in
    let further = sum_kinds promised P f g h slots kinds are.1 each.1 in
    omega (arith, here, further, sum_by-cons f slot slots, sum_by-cons g kind kinds)

sum_under : (promised : ℕ → Option Kind) (P : Slot → Type 0) (f : Slot → ℕ) (g : Kind → ℕ)
    → ((slot : Slot) (kind : Kind) → IsKind promised slot kind → P slot → f slot ≤ g kind)
    → (slots : List Slot) (kinds : List Kind) → AreKinds promised slots kinds → Each P slots → sum_by f slots ≤ sum_by g kinds
sum_under promised P f g h [] [] are each = omega arith
sum_under promised P f g h [] (kind ∷ kinds) are each = absurd are
sum_under promised P f g h (slot ∷ slots) [] are each = absurd are
sum_under promised P f g h (slot ∷ slots) (kind ∷ kinds) are each =
    let here = h slot kind are.0 each.0 in
    let further = sum_under promised P f g h slots kinds are.1 each.1 in
    omega (arith, here, further, sum_by-cons f slot slots, sum_by-cons g kind kinds)

-- PRICES

module _ (r : Resource) where
  -- what is promised of a session costs nothing, and has lent what was given for it
  price_then : (s : Session) (o : Option Section) → kind_price r (kind_then s o) ≡ 0
  price_then s None = refl
  price_then s (Some Main) = refl
  price_then s (Some Opening) = refl
  price_then s (Some (Upgrading l)) = refl
  price_then s (Some (Calling l)) = refl
  price_then s (Some (Closing l)) = refl
  price_then s (Some (Reacting i)) = refl

  lent_then : (s : Session) (o : Option Section) → StaysOpen o → kind_lent r (kind_then s o) ≡ part r s.donation
  lent_then s None h = refl
  lent_then s (Some Main) h = absurd h
  lent_then s (Some Opening) h = refl
  lent_then s (Some (Upgrading l)) h = refl
  lent_then s (Some (Calling l)) h = refl
  lent_then s (Some (Closing l)) h = absurd h
  lent_then s (Some (Reacting i)) h = absurd h

  module _ (promised : ℕ → Option Kind) (w : World) (reports : PromisesSessions promised w) where
    -- the kind of a slot that names this session
    kind_is : (k : ℕ) (s : Session) (kind : Kind) → session_at w k ≡ Some s → promised k ≡ Some kind → kind ≡ kind_then s (section_asked w k s)
    kind_is k s kind there is = some_same (sym is ∙ reports k s there)

    price_is : (slot : Slot) (kind : Kind) → IsKind promised slot kind → IsNamed w slot → slot_price r slot ≡ kind_price r kind
    price_is Empty kind is h = ap (kind_price r) (sym is)
    price_is (Bytes form n bytes) kind is h = ap (kind_price r) (sym is.0)
    price_is (Pool n entries) kind is h = ap (kind_price r) (sym is.0)
    price_is (Link k) kind is h = sym (ap (kind_price r) (kind_is k h.0 kind h.1 is) ∙ price_then h.0 (section_asked w k h.0))
    price_is (Waiting k) kind is h = sym (ap (kind_price r) (kind_is k h.0 kind h.1 is) ∙ price_then h.0 (section_asked w k h.0))

    lent_is : (slot : Slot) (kind : Kind) → IsKind promised slot kind → NoClose w slot → slot_given r w slot ≡ kind_lent r kind
    lent_is Empty kind is h = ap (kind_lent r) (sym is)
    lent_is (Bytes form n bytes) kind is h = ap (kind_lent r) (sym is.0)
    lent_is (Pool n entries) kind is h = ap (kind_lent r) (sym is.0)
    lent_is (Link k) kind is h =
        ap (given_by r) h.1 ∙ sym (ap (kind_lent r) (kind_is k h.0 kind h.1 is) ∙ lent_then h.0 (section_asked w k h.0) h.2)
    lent_is (Waiting k) kind is h =
        ap (given_by r) h.1 ∙ sym (ap (kind_lent r) (kind_is k h.0 kind h.1 is) ∙ lent_then h.0 (section_asked w k h.0) h.2)

    -- slots hold what their kinds hold
    pub slots_price : (slots : List Slot) (kinds : List Kind) → AreKinds promised slots kinds → Each (IsNamed w) slots
        → sum_by (slot_price r) slots ≡ sum_by (kind_price r) kinds
    slots_price = sum_kinds promised (IsNamed w) (slot_price r) (kind_price r) price_is

    -- where no session is being closed, they have lent what their kinds have lent
    pub slots_lent : (slots : List Slot) (kinds : List Kind) → AreKinds promised slots kinds → Each (NoClose w) slots
        → sum_by (slot_given r w) slots ≡ sum_by (kind_lent r) kinds
    slots_lent = sum_kinds promised (NoClose w) (slot_given r w) (kind_lent r) lent_is

    named_each : (slots : List Slot) → Each (NoClose w) slots → Each (IsNamed w) slots
    named_each [] each = tt
    named_each (slot ∷ slots) each = (no_close_named w slot each.0, named_each slots each.1)

    -- so they cost what their kinds cost
    pub slots_cost : (slots : List Slot) (kinds : List Kind) → AreKinds promised slots kinds → Each (NoClose w) slots
        → sum_by (slot_price r) slots + sum_by (slot_given r w) slots ≡ kinds_cost r kinds
    slots_cost slots kinds are each =
        let price = slots_price slots kinds are (named_each slots each) in let lent = slots_lent slots kinds are each in omega (arith, price, lent)

-- PLACES OF THE HEAP

-- the heap has no places for any of these
abbrev pub NoHeap : List Kind → Type 0
NoHeap = Each (λ kind. is_heap_kind kind ≡ false)

module _ (promised : ℕ → Option Kind) (c : ℕ) where
  pool_under : (b : Bool) (n m : ℕ) → n ≤ m → cond b n 0 ≤ cond b m 0
  pool_under true n m h = h
  pool_under false n m h = omega arith

  bytes_places : (form : Form) (n : ℕ) (bytes : List ℕ) → slot_places c (Bytes form n bytes) ≡ kind_places c (Memory form n)
  bytes_places Block n bytes = refl
  bytes_places Slice n bytes = refl
  bytes_places Space n bytes = refl

  places_under : (slot : Slot) (kind : Kind) → IsKind promised slot kind → Unit {0} → slot_places c slot ≤ kind_places c kind
  places_under Empty kind is h = omega arith
  places_under (Bytes form n bytes) kind is h =
      let e = ap (kind_places c) is.0 in let f = bytes_places form n bytes in omega (arith, e, f)
  places_under (Pool n entries) kind is h =
      subst (λ k. slot_places c (Pool n entries) ≤ kind_places c k) (sym is.0)
      (pool_under (size_for n == c) (count_by is_some entries) (length entries) (count_by-le-length is_some entries))
  places_under (Link k) kind is h = omega arith
  places_under (Waiting k) kind is h = omega arith

  none_supposed : (slots : List Slot) → Each (λ slot. Unit {0}) slots
  none_supposed [] = tt
  none_supposed (slot ∷ slots) = (tt, none_supposed slots)

  -- a pool's entries in use are at most its entries
  pub places_fit : (slots : List Slot) (kinds : List Kind) → AreKinds promised slots kinds → sum_by (slot_places c) slots ≤ sum_by (kind_places c) kinds
  places_fit slots kinds are = sum_under promised (λ slot. Unit {0}) (slot_places c) (kind_places c) places_under slots kinds are (none_supposed slots)

  heap_none : (kind : Kind) → is_heap_kind kind ≡ false → kind_places c kind ≡ 0
  heap_none Empty_kind h = refl
  heap_none (Memory Block n) h = absurd cc
  heap_none (Memory Slice n) h = refl
  heap_none (Memory Space n) h = refl
  heap_none (Pool_kind n m) h = absurd cc
  heap_none (Link_kind service level given) h = refl

  pub kinds_none : (kinds : List Kind) → NoHeap kinds → sum_by (kind_places c) kinds ≡ 0
  kinds_none [] h = refl
  kinds_none (kind ∷ kinds) h =
      let here = heap_none kind h.0 in let further = kinds_none kinds h.1 in omega (arith, here, further, sum_by-cons (kind_places c) kind kinds)

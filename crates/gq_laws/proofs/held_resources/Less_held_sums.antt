-- What a leaf holds and has lent is no more in another world, where no slot costs more there and for no session more was given.
use Rattle.std.proofs.Common.{◌≡◌, ℕ, zero, suc, ◌+◌, ◌≤◌, ◌==◌, inl, inr, cond, Bool, true, false, List, [], ◌∷◌, Option, Some, None, refl, ap, sym, ◌∙◌}
use Rattle.std.proofs.Common.{subst, arith}
use Rattle.std.specs.Prelude.{replicate, slice_get, slice_set, sum_by}
use Rattle.std.proofs.lemmas.List.Sums.{sum_by-cons}
use Rattle.gq_tariff.specs.Prices.{classes}
use Rattle.gq_model.specs.machine.Amounts.{Resource}
use Rattle.gq_model.specs.machine.Lists.{greatest}
use Rattle.gq_model.specs.declared.phase.Phase.{Phase}
use Rattle.gq_model.specs.declared.phase.Phase.TheVariants.{Blocked, Exited}
use Rattle.gq_model.specs.machine.Scenario.{System, Component}
use Rattle.gq_model.specs.machine.World.{Slot, Empty, Waiting, Bytes, Pool, Link, SlotId, In_leaf, In_session, In_object, Session, Leaf, World, session_at}
use Rattle.gq_model.specs.machine.Sums.{slot_price, places, raised}
use Rattle.gq_model.specs.rules.Kinds.{AbstractState, kind_places}
use Rattle.gq_model.specs.rules.Use.{subject}
use Rattle.gq_laws.specs.Session_links.{Naming, Leads, Waits, named, naming, naming_in}
use Rattle.gq_laws.specs.internal.Lending.{given_by, slot_given}
use Rattle.gq_laws.specs.Reply_stances.{own_then, bank_then, session_then}
use Rattle.gq_laws.specs.internal.Verified_holdings.{main_points, own_part, PeaksWithin, HoldsNone, HoldsWithin}
use Rattle.gq_model.proofs.Small_facts.{some_same, none_some}
use Rattle.gq_laws.proofs.typed_worlds.Inside_step_typed.{IsActive}

-- SUMS OVER SLOTS

module _ (f g : Slot → ℕ) where
  sum_less : (slots : List Slot) → ((i : ℕ) (s : Slot) → slice_get slots i ≡ Some s → f s ≤ g s) → sum_by f slots ≤ sum_by g slots
  sum_less [] each = omega arith
  sum_less (s ∷ slots) each =
      let here = each zero s refl in
      let further = sum_less slots (λ i u e. each (suc i) u e) in
      omega (arith, here, further, sum_by-cons f s slots, sum_by-cons g s slots)

  -- with another slot in a place, which costs no more
  sum_set : (slots : List Slot) (i : ℕ) (old new : Slot) → slice_get slots i ≡ Some old → f new ≤ g old
      → ((j : ℕ) (s : Slot) → slice_get slots j ≡ Some s → f s ≤ g s) → sum_by f (slice_set slots i new) ≤ sum_by g slots
  sum_set [] i old new there less each = absurd (none_some there)
  sum_set (s ∷ slots) zero old new there less each =
      let first = ap g (some_same there) in
      let further = sum_less slots (λ j u e. each (suc j) u e) in
      omega (arith, first, less, further, sum_by-cons f new slots, sum_by-cons g s slots)
  sum_set (s ∷ slots) (suc i) old new there less each =
      let here = each zero s refl in
      let further = sum_set slots i old new there less (λ j u e. each (suc j) u e) in
      omega (arith, here, further, sum_by-cons f s (slice_set slots i new), sum_by-cons g s slots)

none_sum : (f : Slot → ℕ) → f Empty ≡ 0 → (n : ℕ) → sum_by f (replicate n Empty) ≡ 0
none_sum f e zero = refl
none_sum f e (suc n) = let further = none_sum f e n in omega (arith, e, further, sum_by-cons f Empty (replicate n Empty))

-- WHAT WAS GIVEN

module _ (r : Resource) (v w : World) where
  -- for this session no more was given
  abbrev pub Less : ℕ → Type 0
  Less k = given_by r (session_at w k) ≤ given_by r (session_at v k)

  -- so it is for those that these slots name
  abbrev pub LessIn : List Slot → Type 0
  LessIn slots = (i : ℕ) (n : Naming) → naming_in (slice_get slots i) ≡ Some n → Less (named n)

  slot_less : (slot : Slot) → ((n : Naming) → naming slot ≡ Some n → Less (named n)) → slot_given r w slot ≤ slot_given r v slot
  slot_less Empty h = omega arith
  slot_less (Bytes form n bytes) h = omega arith
  slot_less (Pool n entries) h = omega arith
  slot_less (Link k) h = h (Leads k) refl
  slot_less (Waiting k) h = h (Waits k) refl

  each_less : (slots : List Slot) → LessIn slots → (i : ℕ) (s : Slot) → slice_get slots i ≡ Some s → slot_given r w s ≤ slot_given r v s
  each_less slots less i s e = slot_less s (λ n is. less i n (ap naming_in e ∙ is))

  -- what slots hold and have lent
  abbrev pub part_in : World → List Slot → ℕ
  part_in u slots = sum_by (slot_price r) slots + sum_by (slot_given r u) slots

  pub slots_less : (slots : List Slot) → LessIn slots → part_in w slots ≤ part_in v slots
  slots_less slots less = let given = sum_less (slot_given r w) (slot_given r v) slots (each_less slots less) in omega (arith, given)

  -- with another slot at a slot, which holds and has lent no more
  pub then_less : (q : SlotId) (old new : Slot) (slots : List Slot) → ((y i : ℕ) → q ≡ In_leaf y i → slice_get slots i ≡ Some old)
      → slot_price r new ≤ slot_price r old → slot_given r w new ≤ slot_given r v old → LessIn slots
      → part_in w (own_then q new slots) ≤ part_in v slots
  then_less (In_leaf y i) old new slots there price given less =
      let prices = sum_set (slot_price r) (slot_price r) slots i old new (there y i refl) price (λ j s e. omega arith) in
      let lent = sum_set (slot_given r w) (slot_given r v) slots i old new (there y i refl) given (each_less slots less) in
      omega (arith, prices, lent)
  then_less (In_session k i) old new slots there price given less = slots_less slots less
  then_less (In_object k) old new slots there price given less = slots_less slots less

-- for a session with another slot the same was given
pub then_gives : (r : Resource) (q : SlotId) (slot : Slot) (j : ℕ) (o : Option Session) → given_by r (session_then q slot j o) ≡ given_by r o
then_gives r (In_leaf x i) slot j o = refl
then_gives r (In_object k) slot j o = refl
then_gives r (In_session k i) slot j o = by (j == k) o
  where
    by : (b : Bool) (o : Option Session) → given_by r (cond b (bank_then i slot o) o) ≡ given_by r o
    by true None = refl
    by true (Some s) = refl
    by false o = refl

-- PEAKS

-- peaks that are raised to what is in use stay within, where that is
pub raised_within : (states : List AbstractState) (w : World) (x : ℕ) (leaf : Leaf)
    → ((k : ℕ) → places w x leaf k ≤ greatest (λ (s : AbstractState). sum_by (kind_places k) s.own) states)
    → (cs peaks : List ℕ) → PeaksWithin states cs peaks → PeaksWithin states cs (raised w x leaf cs peaks)
raised_within states w x leaf within [] peaks h = tt
raised_within states w x leaf within (c ∷ cs) [] h = tt
raised_within states w x leaf within (c ∷ cs) (peak ∷ peaks) h =
    let here = within c in let before = h.0 in (omega (arith, here, before), raised_within states w x leaf within cs peaks h.1)

pub zeros_within : (states : List AbstractState) (cs : List ℕ) (n : ℕ) → PeaksWithin states cs (replicate n 0)
zeros_within states [] n = tt
zeros_within states (c ∷ cs) zero = tt
zeros_within states (c ∷ cs) (suc n) = (omega arith, zeros_within states cs n)

-- LEAVES

pub active_none : (leaf : Leaf) (phase : Phase) → IsActive phase → HoldsNone leaf phase
active_none leaf phase (inl e) = subst (HoldsNone leaf) (sym e) tt
active_none leaf phase (inr e) = subst (HoldsNone leaf) (sym e) tt

pub blocked_none : (leaf : Leaf) (phase : Phase) → phase ≡ Blocked → HoldsNone leaf phase
blocked_none leaf phase e = subst (HoldsNone leaf) (sym e) tt

-- a leaf that holds and has lent no more than another did, with its peaks
pub holds_less : (system : System) (v w : World) (c : Component) (old new : Leaf) → HoldsWithin system v c old
    → ((r : Resource) → own_part r w new ≤ own_part r v old) → new.peaks ≡ old.peaks → HoldsNone new new.phase → HoldsWithin system w c new
holds_less system v w c old new h less peaks none =
    record {
      own = λ r. (let most = h.own r in let fewer = less r in omega (arith, most, fewer));
      peaks = subst (PeaksWithin (main_points (subject system c)) classes) (sym peaks) h.peaks;
      none = none;
    }

-- a leaf that has ended
pub holds_none : (system : System) (w : World) (c : Component) (leaf : Leaf) → leaf.slots ≡ replicate 64 Empty → leaf.peaks ≡ replicate 8 0
    → leaf.phase ≡ Exited → HoldsWithin system w c leaf
holds_none system w c leaf slots peaks phase =
    record {
      own = λ r. (
          let same = ap (λ l. sum_by (slot_price r) l + sum_by (slot_given r w) l) slots in
          let price = none_sum (slot_price r) refl 64 in
          let given = none_sum (slot_given r w) refl 64 in
          omega (arith, same, price, given)
          );
      peaks = subst (PeaksWithin (main_points (subject system c)) classes) (sym peaks) (zeros_within (main_points (subject system c)) classes 8);
      none = subst (HoldsNone leaf) (sym phase) (slots, peaks);
    }

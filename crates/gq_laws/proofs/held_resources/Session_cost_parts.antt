-- What sessions cost from one world to another: a session keeps its parts, its slots hold no more, and no more is given for those that they name.
use Rattle.std.proofs.Common.{◌≡◌, ◌≢◌, ℕ, suc, ◌≤◌, ◌⊎◌, inl, inr, cond, List, [], ◌∷◌, Option, Some, None, refl, ap, sym, ◌∙◌}
use Rattle.std.proofs.Common.{subst, arith}
use Rattle.std.specs.Prelude.{slice_get, slice_set, sum_by}
use Rattle.std.proofs.lemmas.List.Sums.{sum_by-cons}
use Rattle.std.proofs.lemmas.Bool.Decides.{eqb_tells}
use Rattle.gq_model.specs.machine.Amounts.{Resource, part}
use Rattle.gq_model.specs.machine.Scenario.{Interface, System, interface_in}
use Rattle.gq_model.specs.machine.World.{Slot, Empty, Bytes, Pool, Link, Waiting, SlotId, In_leaf, In_session, In_object, Session, Ask, Ask_open, Ask_upgrade}
use Rattle.gq_model.specs.machine.World.{Ask_close, Ask_call, Request, World, session_at}
use Rattle.gq_model.specs.machine.Sums.{slot_price}
use Rattle.gq_model.specs.rules.Kinds.{need_of}
use Rattle.gq_model.specs.Promises.{EachOf}
use Rattle.gq_laws.specs.Shapes.{Each}
use Rattle.gq_laws.specs.Session_links.{Naming, Leads, Waits, named, naming}
use Rattle.gq_laws.specs.internal.Lending.{given_by, slot_given}
use Rattle.gq_laws.specs.Typed.{StaysOfKind, StayOfKind}
use Rattle.gq_laws.specs.Inside_steps.{bare}
use Rattle.gq_laws.specs.Reply_stances.{bank_then, session_then}
use Rattle.gq_laws.specs.internal.Verified_holdings.{bank_part, CostsWithin, AllCost, GivesFor, AllGive}
use Rattle.gq_model.proofs.Small_facts.{some_same, none_some}
use Rattle.gq_laws.proofs.session_links.Asked_request_changes.{each_map}
use Rattle.gq_laws.proofs.quota_payment.Written_world_prices.{sum_set}
use Rattle.gq_laws.proofs.held_resources.Session_bank_cost.{each_of}
use Rattle.gq_model.proofs.Small_facts.{sum_less}

-- WHAT SLOTS HOLD AND HAVE LENT

-- no more is given for any session
abbrev pub NoMoreGiven : World → World → Type 0
NoMoreGiven v w = (r : Resource) (k : ℕ) → given_by r (session_at w k) ≤ given_by r (session_at v k)

module _ (v w : World) (r : Resource) where
  -- a slot has lent no more, where no more is given for the session that it names
  pub slot_less : (slot : Slot) → ((n : Naming) → naming slot ≡ Some n → given_by r (session_at w (named n)) ≤ given_by r (session_at v (named n)))
      → slot_given r w slot ≤ slot_given r v slot
  slot_less Empty h = omega arith
  slot_less (Bytes form n bytes) h = omega arith
  slot_less (Pool n entries) h = omega arith
  slot_less (Link k) h = h (Leads k) refl
  slot_less (Waiting k) h = h (Waits k) refl

  pub slots_less : (slots : List Slot) → ((i : ℕ) (slot : Slot) → slice_get slots i ≡ Some slot → (n : Naming) → naming slot ≡ Some n
      → given_by r (session_at w (named n)) ≤ given_by r (session_at v (named n))) → sum_by (slot_given r w) slots ≤ sum_by (slot_given r v) slots
  slots_less slots h = sum_less (slot_given r w) (slot_given r v) slots (λ i slot e. slot_less slot (h i slot e))

  module _ (less : NoMoreGiven v w) where
    stays_price : (old new : Slot) → StaysOfKind old new → slot_price r new ≤ slot_price r old
    stays_price Empty new h = let e = ap (slot_price r) h in omega (arith, e)
    stays_price (Bytes form n bytes) new h = let e = ap (slot_price r) h.1 in omega (arith, e)
    stays_price (Pool n entries) new h = let e = ap (slot_price r) h in omega (arith, e)
    stays_price (Link k) new h = let e = ap (slot_price r) h in omega (arith, e)
    stays_price (Waiting k) new h = let e = ap (slot_price r) h in omega (arith, e)

    stays_given : (old new : Slot) → StaysOfKind old new → slot_given r w new ≤ slot_given r v old
    stays_given Empty new h = let e = ap (slot_given r w) h in omega (arith, e)
    stays_given (Bytes form n bytes) new h = let e = ap (slot_given r w) h.1 in omega (arith, e)
    stays_given (Pool n entries) new h = let e = ap (slot_given r w) h in omega (arith, e)
    stays_given (Link k) new h = let e = ap (slot_given r w) h in let l = less r k in omega (arith, e, l)
    stays_given (Waiting k) new h = let e = ap (slot_given r w) h in let l = less r k in omega (arith, e, l)

    stay_less : (f g : Slot → ℕ) → ((old new : Slot) → StaysOfKind old new → f new ≤ g old) → (olds news : List Slot) → StayOfKind olds news
        → sum_by f news ≤ sum_by g olds
    stay_less f g each [] [] h = omega arith
    stay_less f g each (old ∷ olds) (new ∷ news) h =
        let here = each old new h.0 in
        let further = stay_less f g each olds news h.1 in
        omega (arith, here, further, sum_by-cons f new news, sum_by-cons g old olds)
    stay_less f g each [] (new ∷ news) h = absurd h
    stay_less f g each (old ∷ olds) [] h = absurd h

    -- a session whose slots are of the same kinds costs no more
    pub stay_part : (old new : Session) → StaysOfKind old.object new.object → StayOfKind old.slots new.slots → bank_part r w new ≤ bank_part r v old
    stay_part old new object slots =
        let a = stays_price old.object new.object object in
        let b = stay_less (slot_price r) (slot_price r) stays_price old.slots new.slots slots in
        let c = stay_less (slot_given r w) (slot_given r v) stays_given old.slots new.slots slots in
        omega (arith, a, b, c)

    -- and one with the same slots
    pub same_part : (s : Session) → bank_part r w s ≤ bank_part r v s
    same_part s = let a = slots_less s.slots (λ i slot e n is. less r (named n)) in omega (arith, a)

    -- or one of whose slots is another, no dearer
    pub set_part : (s : Session) (i : ℕ) (was slot : Slot) → slice_get s.slots i ≡ Some was → slot_price r slot ≤ slot_price r was
        → slot_given r w slot ≤ slot_given r w was → bank_part r w (record s { slots = slice_set s.slots i slot }) ≤ bank_part r v s
    set_part s i was slot e price given =
        let a = sum_set (slot_price r) s.slots i was slot e in
        let b = sum_set (slot_given r w) s.slots i was slot e in
        let c = same_part s in
        omega (arith, a, b, c, price, given)

-- a session after a slot was written: as it was, and the slot is none of its; or with that slot
pub record Then (q : SlotId) (slot : Slot) (j : ℕ) (o : Option Session) (s : Session) : Type 0 where
  pub old : Session
  pub was : o ≡ Some old
  pub rest : bare s ≡ bare old
  pub change : ((s ≡ old) × ((n : ℕ) → In_session j n ≢ q)) ⊎ ((i : ℕ) × (q ≡ In_session j i) × (s ≡ record old { slots = slice_set old.slots i slot }))

session_number : {a b i n : ℕ} → In_session a i ≡ In_session b n → a ≡ b
session_number e = cc

pub then_parts : (q : SlotId) (slot : Slot) (j : ℕ) (o : Option Session) (s : Session) → session_then q slot j o ≡ Some s → Then q slot j o s
then_parts (In_leaf x i) slot j o s e = record { old = s; was = e; rest = refl; change = inl (refl, λ n f. other f) }
  where
    other : {n : ℕ} → In_session j n ≡ In_leaf x i → ⊥
    other f = cc
then_parts (In_object k) slot j o s e = record { old = s; was = e; rest = refl; change = inl (refl, λ n f. other f) }
  where
    other : {n : ℕ} → In_session j n ≡ In_object k → ⊥
    other f = cc
then_parts (In_session k i) slot j o s e =
    elim (eqb_tells j k) [
      | inl f ↦ here f.1 o (sym (ap (λ b. cond b (bank_then i slot o) o) f.0) ∙ e)
      | inr f ↦ record { old = s; was = sym (ap (λ b. cond b (bank_then i slot o) o) f.0) ∙ e; rest = refl; change = inl (refl, λ n g. f.1 (session_number g)) }
    ]
  where
    here : j ≡ k → (o : Option Session) → bank_then i slot o ≡ Some s → Then (In_session k i) slot j o s
    here f None e = absurd (none_some e)
    here f (Some old) e = record {
      old = old;
      was = refl;
      rest = ap bare (sym (some_same e));
      change = inr (i, ap (λ k. In_session k i) (sym f), sym (some_same e));
    }

-- SESSIONS THAT KEEP THEIR PARTS

-- enough was given for the session
abbrev pub IsGiven : System → Session → Type 0
IsGiven system s = (i : Interface) → interface_in s.service system.interfaces ≡ Some i → (r : Resource) → part r (need_of i s.level) ≤ part r s.donation

-- this costs at most what the session needs
abbrev pub IsCovered : System → Session → (Resource → ℕ) → Type 0
IsCovered system s cost = (i : Interface) → interface_in s.service system.interfaces ≡ Some i → EachOf i.counted (λ r. cost r ≤ part r (need_of i s.level))

-- for this request enough was given
abbrev pub Gives : System → World → Request → Type 0
Gives system w q = (s : Session) (i : Interface) → session_at w q.session ≡ Some s → interface_in s.service system.interfaces ≡ Some i → GivesFor q.ask i s

module _ (system : System) (old new : Session) (rest : bare new ≡ bare old) where
  pub given_bare : IsGiven system old → IsGiven system new
  given_bare h = subst (λ (u : Session). IsGiven system u) (sym rest) h

  pub covered_bare : (cost less : Resource → ℕ) → ((r : Resource) → less r ≤ cost r) → IsCovered system old cost → IsCovered system new less
  covered_bare cost less under h =
      subst (λ (u : Session). IsCovered system u less) (sym rest) (λ i known. each_of i.counted _ _ (λ r a. let b = under r in omega (arith, a, b)) (h i known))

  pub costs_bare : (v w : World) → ((r : Resource) → bank_part r w new ≤ bank_part r v old) → CostsWithin system v old → CostsWithin system w new
  costs_bare v w less c = record { costs = covered_bare (λ r. bank_part r v old) (λ r. bank_part r w new) less c.costs; given = given_bare c.given }

  pub gives_bare : (ask : Ask) (i : Interface) → GivesFor ask i old → GivesFor ask i new
  gives_bare Ask_open i h = tt
  gives_bare Ask_upgrade i h = subst (λ (u : Session). (r : Resource) → part r (need_of i (suc u.level)) ≤ part r u.donation) (sym rest) h
  gives_bare Ask_close i h = tt
  gives_bare (Ask_call value) i h = tt

-- a session was there with the same parts
abbrev pub WasSo : World → ℕ → Session → Type 0
WasSo v k s = (old : Session) × (session_at v k ≡ Some old) × (bare s ≡ bare old)

pub request_kept : (system : System) (v w : World) (q : Request) → ((s : Session) → session_at w q.session ≡ Some s → WasSo v q.session s) → Gives system v q
    → Gives system w q
request_kept system v w q back h s i there known =
    let b = back s there in gives_bare system b.0 s b.2 q.ask i
    (h b.0 i b.1 (subst (λ (u : Session). interface_in u.service system.interfaces ≡ Some i) b.2 known))

pub requests_kept : (system : System) (v w : World) → w.requests ≡ v.requests → ((k : ℕ) (s : Session) → session_at w k ≡ Some s → WasSo v k s)
    → AllGive system v → AllGive system w
requests_kept system v w same back h =
    subst (λ rs. Each (Gives system w) rs) (sym same) (each_map (Gives system v) (Gives system w)
    (λ q g. request_kept system v w q (back q.session) g) v.requests h)

-- both are kept
abbrev pub AreHeld : System → World → Type 0
AreHeld system w = AllCost system w × AllGive system w

-- where sessions and requests are the same
pub same_held : (system : System) (v w : World) → ((k : ℕ) → session_at w k ≡ session_at v k) → w.requests ≡ v.requests → AreHeld system v → AreHeld system w
same_held system v w same requests h = (
  λ k s there. costs_bare system s s refl v w (λ r. same_part v w r less s) (h.0 k s (sym (same k) ∙ there)),
  requests_kept system v w requests (λ k s there. (s, sym (same k) ∙ there, refl)) h.1,
)
  where
    less : NoMoreGiven v w
    less r k = let e = ap (given_by r) (same k) in omega (arith, e)

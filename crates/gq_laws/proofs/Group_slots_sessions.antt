-- What stays the group's where a slot is written or a session comes, and which numbers no request names.
use Rattle.std.proofs.Common.{◌≡◌, ◌≢◌, ℕ, zero, suc, ◌+◌, ◌==◌, inl, inr, Bool, true, List, [], ◌∷◌, Option, Some, None, refl, ap, sym, ◌∙◌}
use Rattle.std.proofs.Common.{arith}
use Rattle.std.specs.Prelude.{slice_get, slice_set}
use Rattle.std.proofs.lemmas.Bool.Decides.{eqb_tells}
use Rattle.gq_model.specs.machine.World.{Slot, SlotId, In_leaf, In_session, In_object, Session, Request, Current, Leaf, World, joined, session_at, with_slot}
use Rattle.gq_model.specs.machine.World.{put_leaf_slot, put_session_slot, put_object}
use Rattle.gq_model.specs.machine.Scenario.{System}
use Rattle.gq_model.specs.machine.Requests.{add_session, free_place}
use Rattle.gq_model.proofs.Small_facts.{none_some, equal_self}
use Rattle.gq_laws.specs.Shapes.{Each}
use Rattle.gq_laws.specs.Session_links.{outline_in, stance, stance_in, one_if, requests_of, at_current, Stands, IsAsked, AreLinked, links}
use Rattle.gq_laws.proofs.session_links.Written_world_links.{set_else}
use Rattle.gq_laws.specs.Separation.{own_session}
use Rattle.gq_laws.proofs.Outside_step_untouched.{free_none}
use Rattle.gq_laws.specs.internal.Corresponding.{own_at}
use Rattle.gq_laws.proofs.Session_renaming.{own_there}
use Rattle.gq_laws.proofs.Renamed_world_equality.{place_here, added_else, own_like, IsNear, each_else}

-- FREE PLACES

set_free : (items : List (Option Session)) (k : ℕ) (s t : Session) → joined (slice_get items k) ≡ Some s
    → free_place (slice_set items k (Some t)) ≡ free_place items
set_free [] k s t e = refl
set_free (None ∷ items) zero s t e = absurd (none_some e)
set_free (None ∷ items) (suc k) s t e = refl
set_free (Some a ∷ items) zero s t e = refl
set_free (Some a ∷ items) (suc k) s t e = ap suc (set_free items k s t e)

pub slot_free : (w : World) (q : SlotId) (slot : Slot) → free_place (with_slot w q slot).sessions ≡ free_place w.sessions
slot_free w (In_leaf x i) slot = by (slice_get w.leaves x)
  where
    by : (o : Option Leaf) → free_place (put_leaf_slot w o x i slot).sessions ≡ free_place w.sessions
    by None = refl
    by (Some leaf) = refl
slot_free w (In_session k i) slot = by (session_at w k) refl
  where
    by : (o : Option Session) → session_at w k ≡ o → free_place (put_session_slot w o k i slot).sessions ≡ free_place w.sessions
    by None e = refl
    by (Some s) e = set_free w.sessions k s (record s { slots = slice_set s.slots i slot }) e
slot_free w (In_object k) slot = by (session_at w k) refl
  where
    by : (o : Option Session) → session_at w k ≡ o → free_place (put_object w o k slot).sessions ≡ free_place w.sessions
    by None e = refl
    by (Some s) e = set_free w.sessions k s (record s { object = slot }) e

-- THE GROUP'S SESSIONS

module _ (group : ℕ → Bool) where
  -- the j-th is the group's
  abbrev pub Owns : List (Option Session) → ℕ → Type 0
  Owns sessions j = (s : Session) × (own_at group sessions j ≡ Some s)

  pub set_owns : (w : World) (k : ℕ) (s t : Session) → session_at w k ≡ Some s → t.client ≡ s.client → t.server ≡ s.server → (j : ℕ)
      → Owns w.sessions j → Owns (slice_set w.sessions k (Some t)) j
  set_owns w k s t there client server j o = elim (eqb_tells j k) [
    | inl e ↦ (
      t,
      ap (λ j. own_at group (slice_set w.sessions k (Some t)) j) e.1
          ∙ (ap (own_session group) (place_here w.sessions k (Some t) s there) ∙ own_like group s t client server (here j e.1 o.0 o.1)),
    )
    | inr e ↦ (o.0, ap (λ o. own_session group (joined o)) (set_else w.sessions k j (Some t) e.1) ∙ o.1)
  ]
    where
      here : (j : ℕ) → j ≡ k → (u : Session) → own_at group w.sessions j ≡ Some u → own_session group (Some s) ≡ Some s
      here j e u own =
          let there_j : session_at w j ≡ Some s = ap (session_at w) e ∙ there in
          let same : own_session group (Some s) ≡ Some u = ap (own_session group) (sym there_j) ∙ own in
          same ∙ (sym (own_there group (session_at w j) u own) ∙ there_j)

  pub slot_owns : (w : World) (q : SlotId) (slot : Slot) (j : ℕ) → Owns w.sessions j → Owns (with_slot w q slot).sessions j
  slot_owns w (In_leaf x i) slot j o = by (slice_get w.leaves x)
    where
      by : (p : Option Leaf) → Owns (put_leaf_slot w p x i slot).sessions j
      by None = o
      by (Some leaf) = o
  slot_owns w (In_session k i) slot j o = by (session_at w k) refl
    where
      by : (p : Option Session) → session_at w k ≡ p → Owns (put_session_slot w p k i slot).sessions j
      by None e = o
      by (Some s) e = set_owns w k s (record s { slots = slice_set s.slots i slot }) e refl refl j o
  slot_owns w (In_object k) slot j o = by (session_at w k) refl
    where
      by : (p : Option Session) → session_at w k ≡ p → Owns (put_object w p k slot).sessions j
      by None e = o
      by (Some s) e = set_owns w k s (record s { object = slot }) e refl refl j o

  pub added_owns : (w : World) (t : Session) (j : ℕ) → Owns w.sessions j → Owns (add_session t w.sessions) j
  added_owns w t j o = (o.0, ap (own_session group) (added_else w.sessions t j taken) ∙ o.1)
    where
      taken : j ≢ free_place w.sessions
      taken e = none_some (sym (ap (λ j. own_at group w.sessions j) e ∙ ap (own_session group) (free_none w.sessions)) ∙ o.1)

  -- a slot is near where the group's sessions are the group's still
  pub near_by : (items others : List (Option Session)) → ((j : ℕ) → Owns items j → Owns others j) → (q : SlotId) → IsNear group items q → IsNear group others q
  near_by items others h (In_leaf x i) near = near
  near_by items others h (In_session k i) near = h k near
  near_by items others h (In_object k) near = h k near

-- NUMBERS THAT NO REQUEST NAMES

module _ (system : System) (w : World) (h : AreLinked system (links w)) where
  pub none_free : Each (λ r. r.session ≢ free_place w.sessions) w.requests
  none_free = each_else (IsAsked (links w)) (λ r. r.session ≢ free_place w.sessions) w.requests
      (λ r s e. none_some (sym (ap outline_in (ap (session_at w) e ∙ free_none w.sessions)) ∙ s.1)) h.asked

  one_zero : (n k : ℕ) → n + 1 ≡ 1 → n ≡ 0
  one_zero n k e = omega (arith, e)

  no_requests : (k : ℕ) (rs : List Request) → requests_of k rs ≡ 0 → Each (λ r. r.session ≢ k) rs
  no_requests k [] e = tt
  no_requests k (r ∷ rs) e = (other, no_requests k rs (omega (arith, e)))
    where
      other : r.session ≢ k
      other q =
          let one : one_if (r.session == k) ≡ 1 = ap one_if (ap (λ n. n == k) q ∙ equal_self k) in
          absurd (omega (arith, e, one))

  -- a current session has no request that waits
  pub none_current : (x : ℕ) (leaf : Leaf) (g : Current) → slice_get w.leaves x ≡ Some leaf → leaf.current ≡ Some g
      → Each (λ r. r.session ≢ g.session) w.requests
  none_current x leaf g there current = no_requests g.session w.requests (waiting (h.stands g.session m.0 m.1))
    where
      stands_so : (links w).stances x ≡ Some (stance leaf.phase (Some g))
      stands_so = ap stance_in there ∙ ap (λ o. Some (stance leaf.phase o)) current

      m : (s : Session) × ((links w).sessions g.session ≡ Some s) × (s.server ≡ x) × (s.accepted ≡ true)
      m = let m = h.handles x leaf.phase g stands_so in (m.0, m.1, m.2, m.3)

      current_now : at_current g.session ((links w).stances m.0.server) ≡ 1
      current_now =
          ap (λ y. at_current g.session ((links w).stances y)) m.2 ∙ (ap (at_current g.session) stands_so ∙ ap one_if (equal_self g.session))

      waiting : Stands (links w) g.session m.0 → requests_of g.session w.requests ≡ 0
      waiting (inl a) = let n = a.2 in let one = current_now in absurd (omega (arith, n, one))
      waiting (inr a) = let n = a.1 in let one = current_now in omega (arith, n, one)

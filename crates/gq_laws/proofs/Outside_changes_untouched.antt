-- Changes of leaves and sessions outside a group leave it untouched.
use Rattle.std.proofs.Common.{◌≡◌, ◌≢◌, ℕ, zero, suc, ◌||◌, Bool, true, false, cond, List, [], ◌∷◌, ◌++◌, Option, Some, None, refl, ap, sym, ◌∙◌}
use Rattle.std.specs.Prelude.{is_some, slice_get, slice_set}
use Rattle.gq_model.specs.machine.World.{Slot, SlotId, In_leaf, In_session, In_object, Session, Request, Leaf, World, joined, session_at, with_leaf}
use Rattle.gq_model.specs.machine.World.{with_slot, put_leaf_slot, put_session_slot, put_object}
use Rattle.gq_model.specs.machine.Step.{active_again, unblocked}
use Rattle.gq_model.specs.machine.Requests.{add_session}
use Rattle.gq_laws.proofs.session_links.Written_world_links.{set_else}
use Rattle.gq_laws.specs.Separation.{own_session, own_requests, SameRequests, IsUntouched}

module _ (group : ℕ → Bool) where
  abbrev own : Option Session → Option Session
  own = own_session group

  pub outside_ne : (x y : ℕ) → group x ≡ false → group y ≡ true → y ≢ x
  outside_ne x y out inside e = false_true (sym out ∙ (ap group (sym e) ∙ inside))
    where
      false_true : false ≡ true → ⊥
      false_true e = cc

  -- a session is foreign where its client and its server are outside
  pub foreign : (s : Session) → group s.client ≡ false → group s.server ≡ false → own (Some s) ≡ None
  foreign s client server = ap (λ b. cond (b || group s.server) (Some s) None) client ∙ ap (λ b. cond b (Some s) None) server

  set_own : (items : List (Option Session)) (k j : ℕ) (o : Option Session) → own (joined (slice_get items k)) ≡ None → own o ≡ None
      → own (joined (slice_get (slice_set items k o) j)) ≡ own (joined (slice_get items j))
  set_own [] k j o was is = refl
  set_own (a ∷ items) zero zero o was is = is ∙ sym was
  set_own (a ∷ items) zero (suc j) o was is = refl
  set_own (a ∷ items) (suc k) zero o was is = refl
  set_own (a ∷ items) (suc k) (suc j) o was is = set_own items k j o was is

  add_own : (items : List (Option Session)) (s : Session) (j : ℕ) → own (Some s) ≡ None
      → own (joined (slice_get (add_session s items) j)) ≡ own (joined (slice_get items j))
  add_own [] s zero is = is
  add_own [] s (suc j) is = refl
  add_own (None ∷ items) s zero is = is
  add_own (None ∷ items) s (suc j) is = refl
  add_own (Some t ∷ items) s zero is = refl
  add_own (Some t ∷ items) s (suc j) is = add_own items s j is

  module _ (old : World) where
    -- the group is untouched, and of these requests the same are for its sessions
    pub record IsKept (w : World) : Type 0 where
      pub untouched : IsUntouched group old w
      pub requests : own_requests group old w.requests ≡ own_requests group old old.requests

    pub kept_self : IsKept old
    kept_self = record { untouched = record { leaves = λ y e. refl; sessions = λ k. refl }; requests = refl }

    pub kept_leaf : (w : World) (x : ℕ) (leaf : Leaf) → group x ≡ false → IsKept w → IsKept (with_leaf w x leaf)
    kept_leaf w x leaf out h =
        record {
          untouched = record {
            leaves = λ y e. set_else w.leaves x y leaf (outside_ne x y out e) ∙ h.untouched.leaves y e;
            sessions = h.untouched.sessions;
          };
          requests = h.requests;
        }

    -- a place of the sessions where no session of the group is
    pub kept_place : (w : World) (k : ℕ) (o : Option Session) → own (session_at old k) ≡ None → own o ≡ None → IsKept w
        → IsKept (record w { sessions = slice_set w.sessions k o })
    kept_place w k o was is h =
        record {
          untouched = record {
            leaves = h.untouched.leaves;
            sessions = λ j. set_own w.sessions k j o (h.untouched.sessions k ∙ was) is ∙ h.untouched.sessions j;
          };
          requests = h.requests;
        }

    pub kept_added : (w : World) (s : Session) → own (Some s) ≡ None → IsKept w → IsKept (record w { sessions = add_session s w.sessions })
    kept_added w s is h =
        record {
          untouched = record { leaves = h.untouched.leaves; sessions = λ j. add_own w.sessions s j is ∙ h.untouched.sessions j };
          requests = h.requests;
        }

    -- REQUESTS

    one_more : (rs : List Request) (r : Request) → own (session_at old r.session) ≡ None → own_requests group old (rs ++ r ∷ []) ≡ own_requests group old rs
    one_more [] r is = ap (λ o. cond (is_some o) (r ∷ []) []) is
    one_more (q ∷ rs) r is =
        ap (λ l. cond (is_some (own (session_at old q.session))) (q ∷ l) l) (one_more rs r is)

    -- a request for a session that is not the group's comes last
    pub kept_request : (w : World) (r : Request) → own (session_at old r.session) ≡ None → IsKept w → IsKept (record w { requests = w.requests ++ r ∷ [] })
    kept_request w r is h =
        record {
          untouched = record { leaves = h.untouched.leaves; sessions = h.untouched.sessions };
          requests = one_more w.requests r is ∙ h.requests;
        }

    -- or is taken
    pub kept_requests : (w : World) (rest : List Request) → own_requests group old rest ≡ own_requests group old old.requests → IsKept w
        → IsKept (record w { requests = rest })
    kept_requests w rest same h =
        record { untouched = record { leaves = h.untouched.leaves; sessions = h.untouched.sessions }; requests = same }

    -- SLOTS

    -- a slot of a leaf outside, or of a session that is not the group's
    abbrev pub IsFar : SlotId → Type 0
    IsFar (In_leaf x i) = group x ≡ false
    IsFar (In_session k i) = own (session_at old k) ≡ None
    IsFar (In_object k) = own (session_at old k) ≡ None

    -- a session with other slots and another object is as foreign as it was
    pub kept_slot : (w : World) (q : SlotId) (slot : Slot) → IsFar q → IsKept w → IsKept (with_slot w q slot)
    kept_slot w (In_leaf x i) slot far h = by (slice_get w.leaves x)
      where
        by : (o : Option Leaf) → IsKept (put_leaf_slot w o x i slot)
        by None = h
        by (Some leaf) = kept_leaf w x _ far h
    kept_slot w (In_session k i) slot far h = by (session_at w k) (h.untouched.sessions k ∙ far)
      where
        still : (s : Session) (b : Bool) → cond b (Some s) None ≡ None → cond b (Some (record s { slots = slice_set s.slots i slot })) None ≡ None
        still s true e = absurd cc
        still s false e = refl

        by : (o : Option Session) → own o ≡ None → IsKept (put_session_slot w o k i slot)
        by None e = h
        by (Some s) e = kept_place w k _ far (still s (group s.client || group s.server) e) h
    kept_slot w (In_object k) slot far h = by (session_at w k) (h.untouched.sessions k ∙ far)
      where
        still : (s : Session) (b : Bool) → cond b (Some s) None ≡ None → cond b (Some (record s { object = slot })) None ≡ None
        still s true e = absurd cc
        still s false e = refl

        by : (o : Option Session) → own o ≡ None → IsKept (put_object w o k slot)
        by None e = h
        by (Some s) e = kept_place w k _ far (still s (group s.client || group s.server) e) h

    pub kept_active : (w : World) (x : ℕ) (f : List ℕ → List ℕ) → group x ≡ false → IsKept w → IsKept (unblocked w x f)
    kept_active w x f out h = by (slice_get w.leaves x)
      where
        by : (o : Option Leaf) → IsKept (active_again w x f o)
        by None = h
        by (Some leaf) = kept_leaf w x _ out h

    -- by the sessions of the new world, too
    own_same : (w : World) → IsUntouched group old w → (rs : List Request) → own_requests group w rs ≡ own_requests group old rs
    own_same w h [] = refl
    own_same w h (r ∷ rs) = λ t. cond (is_some (h.sessions r.session t)) (r ∷ own_same w h rs t) (own_same w h rs t)

    pub same_requests : (w : World) → IsKept w → SameRequests group old w
    same_requests w h = own_same w h.untouched w.requests ∙ h.requests

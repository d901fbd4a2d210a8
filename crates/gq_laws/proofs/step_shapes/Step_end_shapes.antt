-- What holds of the world after a step, by the shape of the step's definition.
use Rattle.std.proofs.Common.{◌≡◌, ℕ, Bool, true, false, List, [], ◌∷◌, Option, Some, None, refl, ap, subst}
use Rattle.std.specs.Prelude.{Ok, Err}
use Rattle.gq_model.specs.machine.World.{Slot, Empty, Bytes, Pool, Link, SlotId, Session, World, with_slot, session_at}
use Rattle.gq_model.specs.machine.Doing.{Event, Stepped, need, when, pop, push, fill}
use Rattle.gq_model.specs.declared.fault.Wrong.{Wrong}
use Rattle.gq_model.specs.machine.Memory.{bytes_in, pool_in, if_absent}
use Rattle.gq_model.specs.machine.Requests.{link_in}

-- P of the world after a step, where there is one
pub record Ends (P : World → Type 0) (r : Stepped) : Type 0 where
  pub holds : (w : World) (e : Event) → r ≡ Ok (w, e) → P w

pub fails : {P : World → Type 0} (wrong : Wrong) → Ends P (Err wrong)
fails wrong = record { holds = λ w e q. absurd (err_ok wrong (w, e) q) }
  where
    err_ok : (wrong : Wrong) (p : World × Event) → ◌≡◌ {A = Stepped} (Err wrong) (Ok p) → ⊥
    err_ok wrong p q = cc

abbrev world_or : World → Stepped → World
world_or w (Ok p) = p.0
world_or w (Err wrong) = w

pub gives : {P : World → Type 0} (w : World) (e : Event) → P w → Ends P (Ok (w, e))
gives {P} w e h = record { holds = λ w' e' q. subst P (ap (world_or w) q) h }

module _ (P : World → Type 0) where
  pub need_ends : {A : Type 0} (o : Option A) (wrong : Wrong) (go : A → Stepped) → ((a : A) → Ends P (go a)) → Ends P (need o wrong go)
  need_ends None wrong go h = fails wrong
  need_ends (Some a) wrong go h = h a

  -- the same, where what is there is known to be there
  pub need_found : {A : Type 0} (o : Option A) (wrong : Wrong) (go : A → Stepped) → ((a : A) → o ≡ Some a → Ends P (go a)) → Ends P (need o wrong go)
  need_found None wrong go h = fails wrong
  need_found (Some a) wrong go h = h a refl

  pub when_ends : (b : Bool) (wrong : Wrong) (next : Stepped) → Ends P next → Ends P (when b wrong next)
  when_ends true wrong next h = h
  when_ends false wrong next h = fails wrong

  pub pop_ends : (operands : List ℕ) (go : ℕ → List ℕ → Stepped) → ((a : ℕ) (rest : List ℕ) → Ends P (go a rest)) → Ends P (pop operands go)
  pop_ends [] go h = fails _
  pop_ends (a ∷ rest) go h = h a rest

  pub push_ends : (a : ℕ) (operands : List ℕ) (go : List ℕ → Stepped) → ((rest : List ℕ) → Ends P (go rest)) → Ends P (push a operands go)
  push_ends a operands go h = when_ends _ _ _ (h _)

  pub link_in_ends : (w : World) (o : Option Slot) (go : ℕ → Session → Stepped) → ((k : ℕ) (s : Session) → Ends P (go k s)) → Ends P (link_in w o go)
  link_in_ends w (Some (Link k)) go h = need_ends _ _ _ (h k)
  link_in_ends w _ go h = fails _

  -- the same, where the session is known to be there
  pub link_in_found : (w : World) (o : Option Slot) (go : ℕ → Session → Stepped) → ((k : ℕ) (s : Session) → session_at w k ≡ Some s → Ends P (go k s))
      → Ends P (link_in w o go)
  link_in_found w (Some (Link k)) go h = need_found _ _ _ (h k)
  link_in_found w _ go h = fails _

  pub absent_ends : (entry : Option (List ℕ)) (a b : Stepped) → Ends P a → Ends P b → Ends P (if_absent entry a b)
  absent_ends None a b h k = h
  absent_ends (Some bytes) a b h k = k

  -- Q holds of a world, and whatever slot is written then
  module _ (Q : World → Type 0) (kept : (w : World) (slot_id : SlotId) (slot : Slot) → Q w → Q (with_slot w slot_id slot)) where
    pub fill_ends : (w : World) (slot_id : SlotId) (o : Option Slot) (slot : Slot) (go : World → Stepped) → Q w → ((v : World) → Q v → Ends P (go v))
        → Ends P (fill w slot_id o slot go)
    fill_ends w slot_id (Some Empty) slot go h k = k _ (kept w slot_id slot h)
    fill_ends w slot_id _ slot go h k = fails _

    pub bytes_in_ends : (w : World) (slot_id : SlotId) (o : Option Slot) (go : List ℕ → (List ℕ → World) → Stepped) → Q w
        → ((bytes : List ℕ) (put : List ℕ → World) → ((new : List ℕ) → Q (put new)) → Ends P (go bytes put)) → Ends P (bytes_in w slot_id o go)
    bytes_in_ends w slot_id (Some (Bytes form m bytes)) go h k = k bytes _ (λ new. kept w slot_id _ h)
    bytes_in_ends w slot_id _ go h k = fails _

    pub pool_in_ends : (w : World) (slot_id : SlotId) (o : Option Slot) (go : ℕ → List (Option (List ℕ)) → (List (Option (List ℕ)) → World) → Stepped) → Q w
        → ((m : ℕ) (entries : List (Option (List ℕ))) (put : List (Option (List ℕ)) → World) → ((new : List (Option (List ℕ))) → Q (put new))
        → Ends P (go m entries put)) → Ends P (pool_in w slot_id o go)
    pool_in_ends w slot_id (Some (Pool m entries)) go h k = k m entries _ (λ new. kept w slot_id _ h)
    pool_in_ends w slot_id _ go h k = fails _

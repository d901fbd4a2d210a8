-- What holds of the worlds after two steps, where the first is not wrong, by the shape of the step's definition.
use Rattle.std.proofs.Common.{◌≡◌, ℕ, Bool, true, false, List, [], ◌∷◌, Option, Some, None, refl, ap, sym, subst}
use Rattle.std.specs.Prelude.{Ok, Err, option_map}
use Rattle.gq_model.specs.machine.World.{Slot, Empty, Bytes, Pool, Link, Waiting, SlotId, Session, World, with_slot, session_at}
use Rattle.gq_model.specs.machine.Doing.{Event, Stepped, need, when, pop, push, fill}
use Rattle.gq_model.specs.declared.fault.Wrong.{Wrong}
use Rattle.gq_model.specs.declared.fault.Wrong.TheVariants.{WrongKind}
use Rattle.gq_model.specs.machine.Memory.{bytes_in, pool_in, if_absent}
use Rattle.gq_model.specs.machine.Requests.{link_in}
use Rattle.gq_laws.specs.Renamed.{renamed_slot, renamed_slot_id}

-- where the one step is not wrong, the other is not; both show the same, and P holds of the worlds after them
pub record Both (P : World → World → Type 0) (r q : Stepped) : Type 0 where
  pub holds : (w : World) (e : Event) → r ≡ Ok (w, e) → (v : World) × (q ≡ Ok (v, e)) × P w v

abbrev world_or : World → Stepped → World
world_or w (Ok p) = p.0
world_or w (Err wrong) = w

abbrev event_or : Event → Stepped → Event
event_or e (Ok p) = p.1
event_or e (Err wrong) = e

err_ok : (wrong : Wrong) (p : World × Event) → ◌≡◌ {A = Stepped} (Err wrong) (Ok p) → ⊥
err_ok wrong p q = cc

module _ (P : World → World → Type 0) where
  pub one_fails : (wrong : Wrong) (q : Stepped) → Both P (Err wrong) q
  one_fails wrong q = record { holds = λ w e a. absurd (err_ok wrong (w, e) a) }

  pub both_give : (w v : World) (e : Event) → P w v → Both P (Ok (w, e)) (Ok (v, e))
  both_give w v e h = record { holds = λ x g a. (v, ap (λ event. Ok (v, event)) (ap (event_or e) a), subst (λ x. P x v) (ap (world_or w) a) h) }

  -- both with the same
  pub same_need : {A : Type 0} (o : Option A) (wrong : Wrong) (go on : A → Stepped) → ((a : A) → Both P (go a) (on a))
      → Both P (need o wrong go) (need o wrong on)
  same_need None wrong go on h = one_fails wrong _
  same_need (Some a) wrong go on h = h a

  pub both_when : (b c : Bool) (wrong wrongly : Wrong) (r q : Stepped) → (b ≡ true → c ≡ true) → Both P r q → Both P (when b wrong r) (when c wrongly q)
  both_when false c wrong wrongly r q i h = one_fails wrong _
  both_when true c wrong wrongly r q i h = subst (λ c. Both P r (when c wrongly q)) (sym (i refl)) h

  pub both_pop : (operands : List ℕ) (go on : ℕ → List ℕ → Stepped) → ((a : ℕ) (rest : List ℕ) → Both P (go a rest) (on a rest))
      → Both P (pop operands go) (pop operands on)
  both_pop [] go on h = one_fails _ _
  both_pop (a ∷ rest) go on h = h a rest

  pub both_push : (a : ℕ) (operands : List ℕ) (go on : List ℕ → Stepped) → ((rest : List ℕ) → Both P (go rest) (on rest))
      → Both P (push a operands go) (push a operands on)
  both_push a operands go on h = both_when _ _ _ _ _ _ (λ i. i) (h _)

  pub both_absent : (entry : Option (List ℕ)) (a b c d : Stepped) → Both P a c → Both P b d → Both P (if_absent entry a b) (if_absent entry c d)
  both_absent None a b c d h k = h
  both_absent (Some bytes) a b c d h k = k

  -- SLOTS

  module _ (f : ℕ → ℕ) (w v : World) (q : SlotId) where
    abbrev p : SlotId
    p = renamed_slot_id f q

    pub both_fill : (o : Option Slot) (slot other : Slot) (go on : World → Stepped) → Both P (go (with_slot w q slot)) (on (with_slot v p other))
        → Both P (fill w q o slot go) (fill v p (option_map (renamed_slot f) o) other on)
    both_fill (Some Empty) slot other go on h = h
    both_fill None slot other go on h = one_fails _ _
    both_fill (Some (Bytes form n bytes)) slot other go on h = one_fails _ _
    both_fill (Some (Pool n entries)) slot other go on h = one_fails _ _
    both_fill (Some (Link k)) slot other go on h = one_fails _ _
    both_fill (Some (Waiting k)) slot other go on h = one_fails _ _

    pub both_bytes_in : (o : Option Slot) (go on : List ℕ → (List ℕ → World) → Stepped)
        → ((slot : Slot) → P (with_slot w q slot) (with_slot v p (renamed_slot f slot)))
        → ((bytes : List ℕ) (put put_other : List ℕ → World) → ((new : List ℕ) → P (put new) (put_other new)) → Both P (go bytes put) (on bytes put_other))
        → Both P (bytes_in w q o go) (bytes_in v p (option_map (renamed_slot f) o) on)
    both_bytes_in (Some (Bytes form m bytes)) go on k h = h bytes _ _ (λ new. k (Bytes form m new))
    both_bytes_in None go on k h = one_fails _ _
    both_bytes_in (Some Empty) go on k h = one_fails _ _
    both_bytes_in (Some (Pool n entries)) go on k h = one_fails _ _
    both_bytes_in (Some (Link j)) go on k h = one_fails _ _
    both_bytes_in (Some (Waiting j)) go on k h = one_fails _ _

    pub both_pool_in : (o : Option Slot) (go on : ℕ → List (Option (List ℕ)) → (List (Option (List ℕ)) → World) → Stepped)
        → ((slot : Slot) → P (with_slot w q slot) (with_slot v p (renamed_slot f slot)))
        → ((m : ℕ) (entries : List (Option (List ℕ))) (put put_other : List (Option (List ℕ)) → World)
        → ((new : List (Option (List ℕ))) → P (put new) (put_other new)) → Both P (go m entries put) (on m entries put_other))
        → Both P (pool_in w q o go) (pool_in v p (option_map (renamed_slot f) o) on)
    both_pool_in (Some (Pool m entries)) go on k h = h m entries _ _ (λ new. k (Pool m new))
    both_pool_in None go on k h = one_fails _ _
    both_pool_in (Some Empty) go on k h = one_fails _ _
    both_pool_in (Some (Bytes form n bytes)) go on k h = one_fails _ _
    both_pool_in (Some (Link j)) go on k h = one_fails _ _
    both_pool_in (Some (Waiting j)) go on k h = one_fails _ _

  pub both_link_in : (f : ℕ → ℕ) (w v : World) (o : Option Slot) (go on : ℕ → Session → Stepped)
      → ((k : ℕ) → o ≡ Some (Link k)
      → (s t : Session) × (session_at w k ≡ Some s) × (session_at v (f k) ≡ Some t) × Both P (go k s) (on (f k) t))
      → Both P (link_in w o go) (link_in v (option_map (renamed_slot f) o) on)
  both_link_in f w v (Some (Link k)) go on h =
      let p = h k refl in
      subst (λ o. Both P (need o WrongKind (go k)) (need (session_at v (f k)) WrongKind (on (f k)))) (sym p.2)
      (subst (λ o. Both P (go k p.0) (need o WrongKind (on (f k)))) (sym p.3) p.4)
  both_link_in f w v None go on h = one_fails _ _
  both_link_in f w v (Some Empty) go on h = one_fails _ _
  both_link_in f w v (Some (Bytes form n bytes)) go on h = one_fails _ _
  both_link_in f w v (Some (Pool n entries)) go on h = one_fails _ _
  both_link_in f w v (Some (Waiting k)) go on h = one_fails _ _

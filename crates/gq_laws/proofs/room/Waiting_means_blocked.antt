-- Who waits for a reply is blocked.
use Rattle.std.proofs.Common.{◌≡◌, ◌≢◌, ℕ, ◌≤◌, inl, inr, List, [], ◌∷◌, Option, Some, refl, ap, sym, ◌∙◌, arith}
use Rattle.gq_model.specs.declared.phase.Phase.{Phase}
use Rattle.gq_model.specs.declared.phase.Phase.TheVariants.{Blocked}
use Rattle.gq_model.specs.machine.Scenario.{System}
use Rattle.gq_model.specs.machine.World.{Session, Request, Current, World, session_at}
use Rattle.gq_laws.specs.Shapes.{Each}
use Rattle.gq_laws.specs.Session_links.{Waits, outline, outline_in, stance, links, requests_of, Stands, IsAsked, IsLinkedWorld}
use Rattle.gq_laws.proofs.session_links.Asked_request_changes.{one_one, same_phase, each_map}
use Rattle.gq_laws.proofs.session_links.Linked_after_reply.{handled_waits, session_of_outline}

-- the client of session k waits for a reply from it
pub record WaitsFor (v : World) (k : ℕ) : Type 0 where
  pub session : Session
  pub there : session_at v k ≡ Some session
  pub slot : (links v).slots session.slot_id ≡ Some (Waits k)
  pub current : Option Current
  pub blocked : (links v).stances session.client ≡ Some (stance Blocked current)

pub each_both : {A : Type 0} (P Q : A → Type 0) (items : List A) → Each P items → Each Q items → Each (λ a. P a × Q a) items
each_both P Q [] p q = tt
each_both P Q (a ∷ rest) p q = ((p.0, q.0), each_both P Q rest p.1 q.1)

-- each request is counted
each_counted : (all rs : List Request) → ((k : ℕ) → requests_of k rs ≤ requests_of k all) → Each (λ r. 1 ≤ requests_of r.session all) rs
each_counted all [] less = tt
each_counted all (r ∷ rest) less =
    let one = one_one r.session r.session refl in
    let first = less r.session in
    (omega (arith, one, first), each_counted all rest (λ k. (let more = less k in omega (arith, more))))

module _ (system : System) (v : World) (h : IsLinkedWorld system v) where
  waits_slot : (k : ℕ) (s : Session) → session_at v k ≡ Some s → (links v).slots s.slot_id ≡ Some (Waits k) → WaitsFor v k
  waits_slot k s there slot =
      let w = h.waits k (outline s) (ap outline_in there) slot in
      record { session = s; there = there; slot = slot; current = w.0; blocked = w.1 }

  waits_request : (r : Request) → IsAsked (links v) r × (1 ≤ requests_of r.session v.requests) → WaitsFor v r.session
  waits_request r p = go (session_of_outline (session_at v r.session) p.0.0 p.0.1)
    where
      go : (s : Session) × (session_at v r.session ≡ Some s) × (outline s ≡ p.0.0) → WaitsFor v r.session
      go s = by (h.stands r.session (outline s.0) (ap outline_in s.1))
        where
          by : Stands (links v) r.session (outline s.0) → WaitsFor v r.session
          by (inl u) = let none = u.2 in let some = p.1 in absurd (omega (arith, none, some))
          by (inr u) = waits_slot r.session s.0 s.1 u.0

  pub waits_asked : Each (λ r. WaitsFor v r.session) v.requests
  waits_asked =
      each_map (λ r. IsAsked (links v) r × (1 ≤ requests_of r.session v.requests)) (λ r. WaitsFor v r.session) waits_request v.requests
      (each_both (IsAsked (links v)) (λ r. 1 ≤ requests_of r.session v.requests) v.requests h.asked
      (each_counted v.requests v.requests (λ k. omega arith)))

  pub waits_handled : (y : ℕ) (p : Phase) (g : Current) → (links v).stances y ≡ Some (stance p (Some g)) → WaitsFor v g.session
  waits_handled y p g at =
      let t = h.handles y p g at in
      let s = session_of_outline (session_at v g.session) t.0 t.1 in
      waits_slot g.session s.0 s.1 (handled_waits system (links v) h y p g (outline s.0) at (ap outline_in s.1))

  -- a leaf that is not blocked waits for nothing
  pub not_waiting : (k : ℕ) (u : WaitsFor v k) (x : ℕ) (phase : Phase) (current : Option Current) → (links v).stances x ≡ Some (stance phase current)
      → phase ≢ Blocked → u.session.client ≢ x
  not_waiting k u x phase current at ne same = ne (same_phase (sym at ∙ ap (links v).stances (sym same) ∙ u.blocked))

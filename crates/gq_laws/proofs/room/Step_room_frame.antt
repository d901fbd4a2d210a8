-- What a step of a leaf keeps: what others hold, and the clients of sessions.
use Rattle.std.proofs.Common.{◌≡◌, ◌≢◌, ℕ, ◌≤◌, List, [], ◌∷◌, ◌++◌, length, Option, Some, refl, ap, sym, ◌∙◌, subst}
use Rattle.std.specs.Prelude.{slice_get}
use Rattle.gq_model.specs.declared.fault.Wrong.TheVariants.{ExceededQuota}
use Rattle.gq_model.specs.declared.phase.Phase.TheVariants.{Blocked}
use Rattle.gq_model.specs.machine.Scenario.{System}
use Rattle.gq_model.specs.machine.World.{Slot, Waiting, SlotId, Session, Ask, Request, Current, Leaf, World, session_at, with_leaf, with_session, with_slot}
use Rattle.gq_model.specs.machine.Sums.{paid}
use Rattle.gq_model.specs.machine.Doing.{Doing, Quiet, settled}
use Rattle.gq_model.specs.machine.Requests.{asked}
use Rattle.gq_laws.proofs.session_links.Written_world_links.{slot_requests}
use Rattle.gq_laws.proofs.step_shapes.Step_end_shapes.{Ends, gives, need_found, when_ends}
use Rattle.gq_laws.proofs.step_shapes.Step_end_worlds.{asked_world}
use Rattle.gq_laws.proofs.room.Operand_holders_write.{Held, held, held_in, client_in, leaf_held, leaf_held_else, leaf_keeps_held, session_clients, slot_held}
use Rattle.gq_laws.proofs.room.Operand_holders_write.{slot_clients}

-- the x-th leaf has at most so many operands and this current at it, and these requests wait; else all hold what they held
pub record Goes (v : World) (x most : ℕ) (current : Option Current) (waiting : List Request) (w : World) : Type 0 where
  pub own : (h : Held) → held_in (slice_get w.leaves x) ≡ Some h → (length h.operands ≤ most) × (h.current ≡ current)
  pub others : (y : ℕ) → y ≢ x → held_in (slice_get w.leaves y) ≡ held_in (slice_get v.leaves y)
  pub clients : (k : ℕ) (s : Session) → session_at v k ≡ Some s → client_in (session_at w k) ≡ Some s.client
  pub requests : w.requests ≡ waiting

module _ (v : World) (x most : ℕ) (current : Option Current) (requests : List Request) where
  pub goes_slot : (w : World) (q : SlotId) (slot : Slot) → Goes v x most current requests w → Goes v x most current requests (with_slot w q slot)
  goes_slot w q slot g =
      record {
        own = λ h e. g.own h (sym (slot_held w q slot x) ∙ e);
        others = λ y ne. slot_held w q slot y ∙ g.others y ne;
        clients = λ k s e. slot_clients w q slot k ∙ g.clients k s e;
        requests = slot_requests w q slot ∙ g.requests;
      }

  -- the leaf stands with other operands, and another current request
  pub goes_leaf : (w : World) (leaf : Leaf) (few : ℕ) (other : Option Current) → length leaf.operands ≤ few → leaf.current ≡ other
      → Goes v x most current requests w
      → Goes v x few other requests (with_leaf w x leaf)
  goes_leaf w leaf few other less same g =
      record {
        own = λ h e. subst (λ (h : Held). (length h.operands ≤ few) × (h.current ≡ other)) (leaf_held w x leaf h e) (less, same);
        others = λ y ne. leaf_held_else w x y leaf ne ∙ g.others y ne;
        clients = g.clients;
        requests = g.requests;
      }

  goes_same : (w : World) (old leaf : Leaf) → slice_get w.leaves x ≡ Some old → held leaf ≡ held old → Goes v x most current requests w
      → Goes v x most current requests (with_leaf w x leaf)
  goes_same w old leaf there same g =
      record {
        own = λ h e. g.own h (sym (leaf_keeps_held w x old leaf there same x) ∙ e);
        others = λ y ne. leaf_held_else w x y leaf ne ∙ g.others y ne;
        clients = g.clients;
        requests = g.requests;
      }

  pub goes_session : (w : World) (k : ℕ) (t s : Session) → session_at w k ≡ Some t → s.client ≡ t.client → Goes v x most current requests w
      → Goes v x most current requests (with_session w k s)
  goes_session w k t s there same g =
      record {
        own = g.own;
        others = g.others;
        clients = λ j u e. session_clients w k t s there same j ∙ g.clients j u e;
        requests = g.requests;
      }

  pub goes_settled : (system : System) (w : World) → Goes v x most current requests w → Ends (Goes v x most current requests) (settled system x w)
  goes_settled system w g = need_found (Goes v x most current requests) _ _ _
      (λ leaf there. when_ends (Goes v x most current requests) _ _ _ (gives _ _ (goes_same w leaf _ there refl g)))

  pub goes_requests : (w : World) (others : List Request) → Goes v x most current requests w → Goes v x most current others (record w { requests = others })
  goes_requests w others g = record { own = g.own; others = g.others; clients = g.clients; requests = refl }

-- a request of the leaf comes last
pub goes_asked : (d : Doing) (v : World) (most few : ℕ) (before : Option Current) (requests : List Request) (w : World) (q : SlotId) (k : ℕ) (ask : Ask)
    → length d.leaf.operands ≤ few → Goes v d.x most before requests w
    → Goes v d.x few d.leaf.current (requests ++ record { session = k; ask = ask } ∷ []) (asked_world d w q k ask)
goes_asked d v most few before requests w q k ask less g =
    let blocked = record d.leaf { phase = Blocked } in
    let waiting = goes_slot v d.x few d.leaf.current requests (with_leaf w d.x blocked) q (Waiting k)
    (goes_leaf v d.x most before requests w blocked few d.leaf.current less refl g) in
    record {
      own = waiting.own;
      others = waiting.others;
      clients = waiting.clients;
      requests = ap (λ rs. rs ++ record { session = k; ask = ask } ∷ []) waiting.requests;
    }

pub ends_asked : (P : World → Type 0) (d : Doing) (w : World) (q : SlotId) (k : ℕ) (ask : Ask) → P (asked_world d w q k ask) → Ends P (asked d w q k ask)
ends_asked P d w q k ask p = when_ends P (paid d.system (asked_world d w q k ask)) ExceededQuota _ (gives (asked_world d w q k ask) Quiet p)

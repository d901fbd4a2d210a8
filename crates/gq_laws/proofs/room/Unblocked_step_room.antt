-- A step of a leaf that is not blocked keeps the room of those who wait.
use Rattle.std.proofs.Common.{◌≡◌, ◌≢◌, ℕ, ◌≤◌, inl, inr, List, length, Option, Some, ap, sym, ◌∙◌, subst, arith}
use Rattle.std.specs.Prelude.{slice_get}
use Rattle.std.proofs.lemmas.Bool.Decides.{eqb_tells}
use Rattle.gq_model.specs.declared.phase.Phase.{Phase}
use Rattle.gq_model.specs.declared.phase.Phase.TheVariants.{Blocked}
use Rattle.gq_model.specs.machine.Scenario.{System}
use Rattle.gq_model.specs.machine.World.{Session, Ask, Ask_open, Ask_upgrade, Ask_close, Ask_call, Request, Current, Leaf, World, session_at}
use Rattle.gq_model.proofs.Small_facts.{some_same}
use Rattle.gq_laws.specs.Shapes.{Each}
use Rattle.gq_laws.specs.Session_links.{stance, stance_in, links, IsLinkedWorld}
use Rattle.gq_laws.proofs.session_links.Asked_request_changes.{each_map}
use Rattle.gq_laws.specs.Room.{HasRoomFor, HasRoomIfCalled, HasRoomAsked, calling, IsRoomy}
use Rattle.gq_laws.proofs.room.Operand_holders_write.{Held, held, held_in, client_in, leaf_of_held, room_as}
use Rattle.gq_laws.proofs.room.Step_room_frame.{Goes}
use Rattle.gq_laws.proofs.room.Waiting_means_blocked.{WaitsFor, waits_asked, waits_handled, not_waiting, each_both}

-- what is asked keeps its room where a session keeps it
pub asked_as : (v w : World) (k : ℕ) → (HasRoomFor v k → HasRoomFor w k) → (ask : Ask) → HasRoomIfCalled v k ask → HasRoomIfCalled w k ask
asked_as v w k f Ask_open room = tt
asked_as v w k f Ask_upgrade room = tt
asked_as v w k f Ask_close room = tt
asked_as v w k f (Ask_call value) room = f room

-- the leaf before it, which held the same
pub leaf_before : (v w : World) (y : ℕ) (leaf : Leaf) → slice_get w.leaves y ≡ Some leaf → held_in (slice_get w.leaves y) ≡ held_in (slice_get v.leaves y)
    → (old : Leaf) × (slice_get v.leaves y ≡ Some old) × (held old ≡ held leaf)
leaf_before v w y leaf there same = leaf_of_held (slice_get v.leaves y) (held leaf) (sym same ∙ ap held_in there)

-- a leaf with this current at it has this stance
pub current_stance : (v : World) (y : ℕ) (leaf : Leaf) (g : Current) → slice_get v.leaves y ≡ Some leaf → leaf.current ≡ Some g
    → (links v).stances y ≡ Some (stance leaf.phase (Some g))
current_stance v y leaf g there same = ap stance_in there ∙ ap (λ o. Some (stance leaf.phase o)) same

module _ (system : System) (v : World) (h : IsLinkedWorld system v) (roomy : IsRoomy v) (x : ℕ) (phase : Phase) (was : Option Current)
    (stands : (links v).stances x ≡ Some (stance phase was)) (active : phase ≢ Blocked)
    (most : ℕ) (current : Option Current) (waiting : List Request) (w : World) (g : Goes v x most current waiting w) where
  pub kept_room : (k : ℕ) → WaitsFor v k → HasRoomFor v k → HasRoomFor w k
  kept_room k u room = room_as v w k clients same room
    where
      clients : (q : Session) → session_at w k ≡ Some q → client_in (session_at v k) ≡ Some q.client
      clients q at = ap client_in u.there ∙ (sym (g.clients k u.session u.there) ∙ ap client_in at)

      same : (c : ℕ) → client_in (session_at v k) ≡ Some c → held_in (slice_get w.leaves c) ≡ held_in (slice_get v.leaves c)
      same c e = g.others c (λ at. not_waiting system v h k u x phase was stands active (some_same (sym (ap client_in u.there) ∙ e) ∙ at))

  pub kept_asked : Each (HasRoomAsked w) v.requests
  kept_asked =
      each_map (λ r. WaitsFor v r.session × HasRoomAsked v r) (HasRoomAsked w)
      (λ r p. asked_as v w r.session (kept_room r.session p.0) r.ask p.1) v.requests
      (each_both (λ r. WaitsFor v r.session) (HasRoomAsked v) v.requests (waits_asked system v h) roomy.asked)

  -- the current request of a leaf in either world
  pub kept_handled : (y : ℕ) (leaf : Leaf) (k level : ℕ) → slice_get v.leaves y ≡ Some leaf → leaf.current ≡ Some (calling k level) → HasRoomFor w k
  kept_handled y leaf k level there at = kept_room k
      (waits_handled system v h y leaf.phase (calling k level) (current_stance v y leaf (calling k level) there at)) (roomy.handled y leaf k level there at)

  pub goes_roomy : most ≤ 16 → Each (HasRoomAsked w) waiting → ((k level : ℕ) → current ≡ Some (calling k level) → HasRoomFor w k) → IsRoomy w
  goes_roomy few asked at_current =
      record {
        small = λ y leaf there. elim (eqb_tells y x) [
          | inl e ↦ (let less = (g.own (held leaf) (ap (λ y. held_in (slice_get w.leaves y)) (sym e.1) ∙ ap held_in there)).0 in omega (arith, less, few))
          | inr e ↦ (let old = leaf_before v w y leaf there (g.others y e.1) in
              subst (λ (h : Held). length h.operands ≤ 16) old.2 (roomy.small y old.0 old.1))
        ];
        asked = subst (Each (HasRoomAsked w)) (sym g.requests) asked;
        handled = λ y leaf k level there at. elim (eqb_tells y x) [
          | inl e ↦ at_current k level
              (sym (g.own (held leaf) (ap (λ y. held_in (slice_get w.leaves y)) (sym e.1) ∙ ap held_in there)).1 ∙ at)
          | inr e ↦ (let old = leaf_before v w y leaf there (g.others y e.1) in
              kept_handled y old.0 k level old.1 (ap (λ (h : Held). h.current) old.2 ∙ at))
        ];
      }

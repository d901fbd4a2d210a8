-- A reply to a client that has room for it keeps the room of those who wait.
use Rattle.std.proofs.Common.{◌≡◌, ◌≢◌, ℕ, ◌≤◌, inl, inr, List, ◌∷◌, length, Option, Some, None, refl, ap, sym, ◌∙◌, subst, arith}
use Rattle.std.specs.Prelude.{slice_get, slice_set}
use Rattle.std.proofs.lemmas.Bool.Decides.{eqb_tells}
use Rattle.gq_model.specs.declared.section.Section.{Section}
use Rattle.gq_model.specs.declared.section.Section.TheVariants.{Main, Opening, Upgrading, Calling, Closing, Reacting}
use Rattle.gq_model.specs.declared.fault.Wrong.TheVariants.{WrongKind, ExceededQuota}
use Rattle.gq_model.specs.declared.phase.Phase.TheVariants.{Handling}
use Rattle.gq_model.specs.machine.World.{Slot, Empty, Link, Session, Current, Leaf, World, joined, session_at, with_slot}
use Rattle.gq_model.specs.machine.Sums.{paid}
use Rattle.gq_model.specs.machine.Doing.{Doing, Quiet, standing}
use Rattle.gq_model.specs.machine.Step.{all_empty, serving, resumed, active_again, unblocked, replied, reply_close, reply}
use Rattle.gq_model.proofs.Small_facts.{some_same, none_some}
use Rattle.gq_laws.specs.Shapes.{Each}
use Rattle.gq_laws.specs.Session_links.{outline, outline_in, links, requests_of, at_current, Stands, IsLinkedWorld}
use Rattle.gq_laws.specs.Inside_steps.{TakesLeaf}
use Rattle.gq_laws.proofs.session_links.Asked_request_changes.{at_server, each_map, none_of, one_one}
use Rattle.gq_laws.proofs.session_links.Linked_after_reply.{handling, was, slot_waits, not_server}
use Rattle.gq_laws.proofs.session_links.Written_world_links.{set_else}
use Rattle.gq_laws.proofs.step_shapes.Step_end_shapes.{Ends, gives, fails, when_ends, pop_ends}
use Rattle.gq_laws.proofs.step_shapes.Step_end_worlds.{handling_blocked}
use Rattle.gq_laws.specs.Room.{HasRoomFor, HasRoomAsked, calling, IsRoomy}
use Rattle.gq_laws.proofs.room.Operand_holders_write.{Held, held, held_in, client_in, leaf_held, leaf_held_else, leaf_of_held, room_as}
use Rattle.gq_laws.proofs.room.Step_room_frame.{Goes, goes_slot, goes_leaf}
use Rattle.gq_laws.proofs.room.Waiting_means_blocked.{WaitsFor, waits_asked, waits_handled, not_waiting, each_both}
use Rattle.gq_laws.proofs.room.Unblocked_step_room.{asked_as, leaf_before, current_stance}

-- the x-th leaf has no current request any more, client c goes on with these operands, and session k may be gone; else all hold what they held
pub record Answered (v : World) (x c k : ℕ) (f : List ℕ → List ℕ) (w : World) : Type 0 where
  pub own : (h : Held) → held_in (slice_get w.leaves x) ≡ Some h → (length h.operands ≤ 16) × (h.current ≡ None)
  pub client : (h : Held) → held_in (slice_get w.leaves c) ≡ Some h
      → (old : Leaf) × (slice_get v.leaves c ≡ Some old) × (f old.operands ≡ h.operands) × (old.current ≡ h.current)
  pub others : (y : ℕ) → y ≢ x → y ≢ c → held_in (slice_get w.leaves y) ≡ held_in (slice_get v.leaves y)
  pub clients : (j : ℕ) (s : Session) → j ≢ k → session_at v j ≡ Some s → client_in (session_at w j) ≡ Some s.client
  pub requests : w.requests ≡ v.requests

-- the client goes on in a world like this one but for session k
pub answered : (v : World) (x c k : ℕ) (f : List ℕ → List ℕ) (u w : World) → c ≢ x → Goes v x 16 None v.requests u → w.leaves ≡ u.leaves
    → w.requests ≡ u.requests → ((j : ℕ) → j ≢ k → session_at w j ≡ session_at u j) → Answered v x c k f (unblocked w c f)
answered v x c k f u w ne g leaves requests sessions = go (slice_get w.leaves c) refl
  where
    same : (y : ℕ) → held_in (slice_get w.leaves y) ≡ held_in (slice_get u.leaves y)
    same y = ap (λ ls. held_in (slice_get ls y)) leaves

    go : (o : Option Leaf) → slice_get w.leaves c ≡ o → Answered v x c k f (active_again w c f o)
    go None e =
        record {
          own = λ h at. g.own h (sym (same x) ∙ at);
          client = λ h at. absurd (none_some (sym (ap held_in e) ∙ at));
          others = λ y other apart. same y ∙ g.others y other;
          clients = λ j s other there. ap client_in (sessions j other) ∙ g.clients j s there;
          requests = requests ∙ g.requests;
        }
    go (Some leaf) e =
        let new = record leaf { phase = resumed leaf.current leaf.reacting; operands = f leaf.operands } in
        record {
          own = λ h at. g.own h (sym (same x) ∙ (sym (leaf_held_else w c x new (λ e. ne (sym e))) ∙ at));
          client = λ h at.
              (let old = leaf_of_held (slice_get v.leaves c) (held leaf) (sym (same c ∙ g.others c ne) ∙ ap held_in e) in
              let is = leaf_held w c new h at in (
                old.0,
                old.1,
                ap (λ (h : Held). f h.operands) old.2 ∙ ap (λ (h : Held). h.operands) is,
                ap (λ (h : Held). h.current) old.2 ∙ ap (λ (h : Held). h.current) is,
              ));
          others = λ y other apart. leaf_held_else w c y new apart ∙ (same y ∙ g.others y other);
          clients = λ j s other there. ap client_in (sessions j other) ∙ g.clients j s there;
          requests = requests ∙ g.requests;
        }

module _ (d : Doing) (t : TakesLeaf d) (h : IsLinkedWorld d.system d.world) (roomy : IsRoomy d.world)
    (start : Goes d.world d.x 16 d.leaf.current d.world.requests d.world)
    (handles : d.leaf.phase ≡ Handling) (g : Current) (current : d.leaf.current ≡ Some g) (s : Session) (there : session_at d.world g.session ≡ Some s) where
  abbrev k : ℕ
  k = g.session

  server : s.server ≡ d.x
  server = at_server d.system (links d.world) h k (outline s) (was d t h handles g current s there) d.x Handling g
      (handling d t h handles g current s there) refl

  -- the session has no further request
  none_left : requests_of k d.world.requests ≡ 0
  none_left = go (h.stands k (outline s) (was d t h handles g current s there))
    where
      one : at_current k ((links d.world).stances s.server) ≡ 1
      one = ap (λ y. at_current k ((links d.world).stances y)) server ∙ (ap (at_current k) (handling d t h handles g current s there) ∙ one_one k k refl)

      go : Stands (links d.world) k (outline s) → requests_of k d.world.requests ≡ 0
      go (inl u) = let none = u.2 in absurd (omega (arith, none, one))
      go (inr u) = let all = u.1 in omega (arith, all, one)

  module _ (f : List ℕ → List ℕ) (w : World) (a : Answered d.world d.x s.client k f w)
      (few : (old : Leaf) → slice_get d.world.leaves s.client ≡ Some old → length (f old.operands) ≤ 16) where
    -- another session whose client waits keeps its room
    other_room : (j : ℕ) → j ≢ k → WaitsFor d.world j → HasRoomFor d.world j → HasRoomFor w j
    other_room j ne u room = room_as d.world w j clients same room
      where
        clients : (q : Session) → session_at w j ≡ Some q → client_in (session_at d.world j) ≡ Some q.client
        clients q at = ap client_in u.there ∙ (sym (a.clients j u.session ne u.there) ∙ ap client_in at)

        apart : u.session.client ≢ s.client
        apart e = ne (h.alone j k (outline u.session) (outline s) (ap outline_in u.there) (was d t h handles g current s there) u.slot
            (slot_waits d t h handles g current s there) e)

        same : (c : ℕ) → client_in (session_at d.world j) ≡ Some c → held_in (slice_get w.leaves c) ≡ held_in (slice_get d.world.leaves c)
        same c e =
            let is = some_same (sym (ap client_in u.there) ∙ e) in
            a.others c (λ at. not_waiting d.system d.world h j u d.x Handling (Some g) (handling d t h handles g current s there)
            handling_blocked (is ∙ at)) (λ at. apart (is ∙ at))

    -- the current request of another leaf
    other_handled : (y : ℕ) (leaf : Leaf) (j level : ℕ) → y ≢ d.x → slice_get d.world.leaves y ≡ Some leaf → leaf.current ≡ Some (calling j level)
        → HasRoomFor w j
    other_handled y leaf j level ne at same =
        let stands = current_stance d.world y leaf (calling j level) at same in
        let else : j ≢ k = λ e. ne (sym (at_server d.system (links d.world) h k (outline s) (was d t h handles g current s there) y leaf.phase (calling j level)
        stands e) ∙ server) in
        other_room j else (waits_handled d.system d.world h y leaf.phase (calling j level) stands) (roomy.handled y leaf j level at same)

    small : (y : ℕ) (leaf : Leaf) → slice_get w.leaves y ≡ Some leaf → length leaf.operands ≤ 16
    small y leaf at = elim (eqb_tells y d.x) [
      | inl e ↦ (a.own (held leaf) (ap (λ y. held_in (slice_get w.leaves y)) (sym e.1) ∙ ap held_in at)).0
      | inr e ↦ elim (eqb_tells y s.client) [
        | inl c ↦ (let old = a.client (held leaf) (ap (λ y. held_in (slice_get w.leaves y)) (sym c.1) ∙ ap held_in at) in
            subst (λ o. length o ≤ 16) old.2 (few old.0 old.1))
        | inr c ↦ (let old = leaf_before d.world w y leaf at (a.others y e.1 c.1) in
            subst (λ (h : Held). length h.operands ≤ 16) old.2 (roomy.small y old.0 old.1))
      ]
    ]

    handled : (y : ℕ) (leaf : Leaf) (j level : ℕ) → slice_get w.leaves y ≡ Some leaf → leaf.current ≡ Some (calling j level) → HasRoomFor w j
    handled y leaf j level at same = elim (eqb_tells y d.x) [
      | inl e ↦ absurd (none_some
          (sym (a.own (held leaf) (ap (λ y. held_in (slice_get w.leaves y)) (sym e.1) ∙ ap held_in at)).1 ∙ same))
      | inr e ↦ elim (eqb_tells y s.client) [
        | inl c ↦ (let old = a.client (held leaf) (ap (λ y. held_in (slice_get w.leaves y)) (sym c.1) ∙ ap held_in at) in
            other_handled y old.0 j level e.1 (ap (slice_get d.world.leaves) c.1 ∙ old.1) (old.3 ∙ same))
        | inr c ↦ (let old = leaf_before d.world w y leaf at (a.others y e.1 c.1) in
            other_handled y old.0 j level e.1 old.1 (ap (λ (h : Held). h.current) old.2 ∙ same))
      ]
    ]

    asked : Each (HasRoomAsked w) d.world.requests
    asked =
        each_map (λ r. (WaitsFor d.world r.session × HasRoomAsked d.world r) × (r.session ≢ k)) (HasRoomAsked w)
        (λ r p. asked_as d.world w r.session (other_room r.session p.1 p.0.0) r.ask p.0.1) d.world.requests
        (none_of (λ r. WaitsFor d.world r.session × HasRoomAsked d.world r) k d.world.requests none_left
        (each_both (λ r. WaitsFor d.world r.session) (HasRoomAsked d.world) d.world.requests (waits_asked d.system d.world h) roomy.asked))

    answered_roomy : IsRoomy w
    answered_roomy = record { small = small; asked = subst (Each (HasRoomAsked w)) (sym a.requests) asked; handled = handled }

  -- REPLIES

  module _ (slot : Slot) where
    abbrev put : World
    put = with_slot (standing d (serving d.leaf)) s.slot_id slot

    goes_put : Goes d.world d.x 16 None d.world.requests put
    goes_put = goes_slot d.world d.x 16 None d.world.requests (standing d (serving d.leaf)) s.slot_id slot
        (goes_leaf d.world d.x 16 d.leaf.current d.world.requests d.world (serving d.leaf) 16 None (omega arith) refl start)

  other_client : s.client ≢ d.x
  other_client = not_server d t h handles g current s there

  replied_ends : (f : List ℕ → List ℕ) → ((old : Leaf) → slice_get d.world.leaves s.client ≡ Some old → length (f old.operands) ≤ 16)
      → Ends IsRoomy (replied d k s f)
  replied_ends f few = gives _ Quiet (answered_roomy f (unblocked (put (Link k)) s.client f)
      (answered d.world d.x s.client k f (put (Link k)) (put (Link k)) other_client (goes_put (Link k)) refl refl (λ j ne. refl)) few)

  same_few : (old : Leaf) → slice_get d.world.leaves s.client ≡ Some old → length old.operands ≤ 16
  same_few old at = roomy.small s.client old at

  close_ends : Ends IsRoomy (reply_close d k s)
  close_ends =
      let w = record (put Empty) { sessions = slice_set (put Empty).sessions k None } in
      when_ends IsRoomy (all_empty s.slots) WrongKind _ (when_ends IsRoomy (paid d.system (unblocked w s.client (λ operands. operands))) ExceededQuota _
      (gives (unblocked w s.client (λ operands. operands)) Quiet (answered_roomy (λ operands. operands) (unblocked w s.client (λ operands. operands))
      (answered d.world d.x s.client k (λ operands. operands) (put Empty) w other_client (goes_put Empty) refl refl
      (λ j ne. ap joined (set_else (put Empty).sessions k j None ne))) same_few)))

  pub reply_ends : (section : Section) → g.section ≡ section → Ends IsRoomy (reply d k section s)
  reply_ends Main e = fails WrongKind
  reply_ends Opening e = when_ends IsRoomy _ _ _ (replied_ends (λ operands. operands) same_few)
  reply_ends (Upgrading l) e = replied_ends (λ operands. operands) same_few
  reply_ends (Calling l) e = pop_ends IsRoomy _ _ (λ a rest. replied_ends (λ operands. a ∷ operands) (one_more a))
    where
      called : t.old.current ≡ Some (calling k l)
      called = sym t.current ∙ (current ∙ ap (λ section. Some (record { session = k; section = section })) e)

      one_more : (a : ℕ) (old : Leaf) → slice_get d.world.leaves s.client ≡ Some old → length (a ∷ old.operands) ≤ 16
      one_more a old at = let room = roomy.handled d.x t.old k l t.there called s old there at in omega (arith, room)
  reply_ends (Closing l) e = close_ends
  reply_ends (Reacting i) e = fails WrongKind

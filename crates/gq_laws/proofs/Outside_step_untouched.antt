-- A step of a leaf outside leaves a group that is apart untouched.
use Rattle.std.proofs.Common.{◌≡◌, ℕ, zero, suc, ◌&&◌, ◌||◌, ◌==◌, inl, inr, Bool, true, false, cond, not, List, [], ◌∷◌, Option}
use Rattle.std.proofs.Common.{Some, None, Ok, refl, ap, sym, ◌∙◌, subst}
use Rattle.std.specs.Prelude.{is_some, slice_get, slice_set}
use Rattle.std.proofs.lemmas.Bool.Decides.{eqb_tells}
use Rattle.std.proofs.lemmas.Bool.{true≢false}
use Rattle.gq_model.specs.machine.Program.{Statements, Done, Do, If, Loop, section_in}
use Rattle.gq_model.specs.declared.program.OperandSlot.{OperandSlot}
use Rattle.gq_model.specs.declared.program.OperandSlot.TheVariants.{Own, Shared, Object}
use Rattle.gq_model.specs.declared.program.Instruction.{Instruction}
use Rattle.gq_model.specs.declared.program.Instruction.TheVariants.{Say, Make, MakePool, Load}
use Rattle.gq_model.specs.declared.program.Instruction.TheVariants.{Store, Free, Take, Give, Peek, Poke, Open, Upgrade, Call, Close}
use Rattle.gq_model.specs.declared.section.Section.{Section}
use Rattle.gq_model.specs.declared.section.Section.TheVariants.{Main, Opening, Upgrading, Calling, Closing, Reacting}
use Rattle.gq_model.specs.declared.phase.Phase.{Phase}
use Rattle.gq_model.specs.declared.phase.Phase.TheVariants.{Pending, Running, Blocked, Serving, Handling, Exited}
use Rattle.gq_model.specs.declared.fault.Wrong.TheVariants.{WrongKind, ExceededQuota, MissingSection}
use Rattle.gq_model.specs.machine.Scenario.{System, Component}
use Rattle.gq_model.specs.machine.World.{Slot, Empty, Bytes, Pool, Link, Waiting, SlotId, In_leaf, In_session, In_object, Session, Ask, Ask_open, Ask_upgrade}
use Rattle.gq_model.specs.machine.World.{Signal}
use Rattle.gq_model.specs.machine.World.{Ask_close, Ask_call, Request, Current, Round, Leaf, World, joined, session_at, slot_at, with_leaf, with_slot}
use Rattle.gq_model.specs.machine.World.{slot_id_of}
use Rattle.gq_model.specs.machine.Sums.{paid}
use Rattle.gq_model.specs.machine.Doing.{Doing, Event, Quiet, Stepped, fill, standing, with_operands, settled, if_paid}
use Rattle.gq_model.specs.machine.Memory.{behind, bytes_slot_id, bytes_in, bytes_at, pool_in, pool_at, make, free, is_memory, is_kept}
use Rattle.gq_model.specs.machine.Requests.{free_place, new_session, asked, link_in, link_at, open_session, upgrade, call, close}
use Rattle.gq_model.specs.machine.Step.{instruct, is_to, kept_before, oldest, accepted_as, accept, all_empty, serving, replied, reply_close, reply, is_named}
use Rattle.gq_model.specs.machine.Step.{serve, first_signal}
use Rattle.gq_model.specs.machine.Step.{released}
use Rattle.gq_model.specs.machine.Step.{all_released, exited, exit_of, main_ended, section_ended, body_ended, perform, accept_oldest, step_in, step_of, next}
use Rattle.gq_model.proofs.Small_facts.{some_same, none_some}
use Rattle.gq_laws.specs.Session_links.{Leads, naming_in, outline, outline_in, stance, Links, links, Belongs, AreLinked, IsLinkedWorld}
use Rattle.gq_laws.specs.Inside_steps.{TakesLeaf}
use Rattle.gq_laws.proofs.step_shapes.Step_end_shapes.{Ends, gives, fails, need_ends, need_found, when_ends, pop_ends, push_ends, absent_ends}
use Rattle.gq_laws.proofs.step_shapes.Step_change_shapes.{accept_by}
use Rattle.gq_laws.proofs.step_shapes.Step_end_worlds.{closed}
use Rattle.gq_laws.proofs.session_links.Link_free_statements.{stood}
use Rattle.gq_laws.proofs.session_links.Linked_after_accept.{oldest_found, stand_slots}
use Rattle.gq_laws.specs.Separation.{own_session, own_requests, IsApart, IsUntouched, SameRequests}
use Rattle.gq_laws.proofs.Outside_changes_untouched.{foreign, IsKept, same_requests, kept_request, kept_requests, kept_self, kept_leaf, kept_place, kept_added}
use Rattle.gq_laws.proofs.Outside_changes_untouched.{IsFar}
use Rattle.gq_laws.proofs.Outside_changes_untouched.{kept_slot, kept_active}

-- a session whose outline is this
pub outlined : (o : Option Session) (s : Session) → outline_in o ≡ Some s → (u : Session) × (o ≡ Some u) × (outline u ≡ s)
outlined None s e = absurd (none_some e)
outlined (Some u) s e = (u, refl, some_same e)

-- release changes no leaf that starts after another
released_phase : (name : List ℕ) (after : Option (List ℕ)) (phase : Phase) → is_named name after ≡ false → released name after phase ≡ phase
released_phase name after Pending e = ap (λ b. cond b Running Pending) e
released_phase name after Running e = refl
released_phase name after Blocked e = refl
released_phase name after Serving e = refl
released_phase name after Handling e = refl
released_phase name after Exited e = refl

released_same : (name : List ℕ) (cs : List Component) (leaves : List Leaf) (y : ℕ)
    → ((c : Component) → slice_get cs y ≡ Some c → is_named name c.node.after ≡ false)
    → slice_get (all_released name cs leaves) y ≡ slice_get leaves y
released_same name [] leaves y h = refl
released_same name (c ∷ cs) [] y h = refl
released_same name (c ∷ cs) (leaf ∷ leaves) zero h = ap (λ p. Some (record leaf { phase = p })) (released_phase name c.node.after leaf.phase (h c refl))
released_same name (c ∷ cs) (leaf ∷ leaves) (suc y) h = released_same name cs leaves y h

-- no session stands at the first free place
pub free_none : (items : List (Option Session)) → joined (slice_get items (free_place items)) ≡ None
free_none [] = refl
free_none (None ∷ items) = refl
free_none (Some s ∷ items) = free_none items

module _ (group : ℕ → Bool) where
  client_out : (s : Session) → own_session group (Some s) ≡ None → group s.client ≡ false
  client_out s = by (group s.client) (group s.server)
    where
      by : (a b : Bool) → cond (a || b) (Some s) None ≡ None → a ≡ false
      by true b e = absurd cc
      by false b e = refl

  server_out : (s : Session) → own_session group (Some s) ≡ None → group s.server ≡ false
  server_out s = by (group s.client) (group s.server)
    where
      by : (a b : Bool) → cond (a || b) (Some s) None ≡ None → b ≡ false
      by true b e = absurd cc
      by false true e = absurd cc
      by false false e = refl

  like : (s u : Session) → u.client ≡ s.client → u.server ≡ s.server → own_session group (Some s) ≡ None → own_session group (Some u) ≡ None
  like s u client server e = foreign group u (ap group client ∙ client_out s e) (ap group server ∙ server_out s e)

  accepted_like : (system : System) (ask : Ask) (s : Session) → own_session group (Some s) ≡ None → own_session group (Some (accepted_as system ask s)) ≡ None
  accepted_like system Ask_open s e = like s _ refl refl e
  accepted_like system Ask_upgrade s e = like s _ refl refl e
  accepted_like system Ask_close s e = e
  accepted_like system (Ask_call value) s e = e

  module _ (d : Doing) (t : TakesLeaf d) (h : AreLinked d.system (links d.world)) (apart : IsApart d.system group) (out : group d.x ≡ false)
      (component : slice_get d.system.components d.x ≡ Some d.component) where
    abbrev L : Links
    L = links d.world

    abbrev K : World → Type 0
    K w = IsKept group d.world w

    abbrev Far : SlotId → Type 0
    Far q = IsFar group d.world q

    abbrev Foreign : ℕ → Type 0
    Foreign k = own_session group (session_at d.world k) ≡ None

    same : K d.world
    same = kept_self group d.world

    stands : (leaf : Leaf) → K (standing d leaf)
    stands leaf = kept_leaf group d.world d.world d.x leaf out same

    -- WHAT IS FAR

    sides : (k : ℕ) (s : Session) → session_at d.world k ≡ Some s → group s.client ≡ group s.server
    sides k s there = let r = h.routed k (outline s) (ap outline_in there) in apart.routes s.client s.server r.0 s.service r.1 r.2

    far_client : (k : ℕ) (s : Session) → session_at d.world k ≡ Some s → group s.client ≡ false → Foreign k
    far_client k s there e = ap (own_session group) there ∙ foreign group s e (sym (sides k s there) ∙ e)

    far_server : (k : ℕ) (s : Session) → session_at d.world k ≡ Some s → group s.server ≡ false → Foreign k
    far_server k s there e = ap (own_session group) there ∙ foreign group s (sides k s there ∙ e) e

    current_far : (g : Current) → d.leaf.current ≡ Some g → Foreign g.session
    current_far g e =
        let m = h.handles d.x d.leaf.phase g (stood d t ∙ ap (λ o. Some (stance d.leaf.phase o)) e) in
        let f = outlined (session_at d.world g.session) m.0 m.1 in
        far_server g.session f.0 f.1 (ap group (ap (λ (s : Session). s.server) f.2 ∙ m.2) ∙ out)

    named_far : (place : OperandSlot) (current : Option Current) (q : SlotId) → d.leaf.current ≡ current → slot_id_of d.x current place ≡ Some q → Far q
    named_far (Own i) current q at e = subst Far (some_same e) out
    named_far (Shared i) None q at e = absurd (none_some e)
    named_far Object None q at e = absurd (none_some e)
    named_far (Shared i) (Some g) q at e = subst Far (some_same e) (current_far g at)
    named_far Object (Some g) q at e = subst Far (some_same e) (current_far g at)

    far_owner : (q : SlotId) (client : ℕ) → Far q → Belongs L q client → group client ≡ false
    far_owner (In_leaf x i) client far b = ap group (sym b) ∙ far
    far_owner (In_session j i) client far b =
        let f = outlined (session_at d.world j) b.0 b.1 in
        ap group (sym b.3) ∙ (ap group (ap (λ (s : Session). s.server) (sym f.2)) ∙ server_out f.0 (ap (own_session group) (sym f.1) ∙ far))
    far_owner (In_object j) client far b = absurd b

    owner_far : (q : SlotId) (client : ℕ) → group client ≡ false → Belongs L q client → Far q
    owner_far (In_leaf x i) client far b = ap group b ∙ far
    owner_far (In_session j i) client far b =
        let f = outlined (session_at d.world j) b.0 b.1 in
        far_server j f.0 f.1 (ap group (ap (λ (s : Session). s.server) f.2) ∙ (ap group b.3 ∙ far))
    owner_far (In_object j) client far b = absurd b

    link_far : (q : SlotId) (k : ℕ) → Far q → slot_at d.world q ≡ Some (Link k) → Foreign k
    link_far q k far e =
        let n = h.named q (Leads k) (ap naming_in e) in
        let f = outlined (session_at d.world k) n.0 n.1 in
        let b = subst (λ q. Belongs L q n.0.client) n.2 (h.belongs k n.0 n.1) in
        far_client k f.0 f.1 (ap group (ap (λ (s : Session). s.client) f.2) ∙ far_owner q n.0.client far b)

    bytes_far : (w : World) (o : Option Slot) (named q : SlotId) → Far named → ((k : ℕ) → o ≡ Some (Link k) → Foreign k)
        → bytes_slot_id d.system w o named ≡ Some q → Far q
    bytes_far w None named q far links e = subst Far (some_same e) far
    bytes_far w (Some Empty) named q far links e = subst Far (some_same e) far
    bytes_far w (Some (Bytes form n bytes)) named q far links e = subst Far (some_same e) far
    bytes_far w (Some (Pool n entries)) named q far links e = subst Far (some_same e) far
    bytes_far w (Some (Waiting k)) named q far links e = subst Far (some_same e) far
    bytes_far w (Some (Link k)) named q far links e = by (session_at w k) e
      where
        chosen : (b : Bool) → cond b None (Some (In_session k 0)) ≡ Some q → Far q
        chosen true e = absurd (none_some e)
        chosen false e = subst Far (some_same e) (links k refl)

        by : (o : Option Session) → behind d.system o k ≡ Some q → Far q
        by None e = absurd (none_some e)
        by (Some s) e = chosen _ e

    writes : (w : World) (q : SlotId) (slot : Slot) → Far q → K w → K (with_slot w q slot)
    writes w q slot far k = kept_slot group d.world w q slot far k

    -- MEMORY

    settles : (w : World) → K w → Ends K (settled d.system d.x w)
    settles w k = need_ends K (slice_get w.leaves d.x) _ _ (λ leaf. when_ends K _ _ _ (gives _ _ (kept_leaf group d.world w d.x _ out k)))

    fill_ends : (w : World) (q : SlotId) (o : Option Slot) (slot : Slot) (go : World → Stepped) → K (with_slot w q slot) → ((v : World) → K v → Ends K (go v))
        → Ends K (fill w q o slot go)
    fill_ends w q (Some Empty) slot go k f = f _ k
    fill_ends w q _ slot go k f = fails _

    bytes_in_ends : (w : World) (q : SlotId) (o : Option Slot) (go : List ℕ → (List ℕ → World) → Stepped) → ((slot : Slot) → K (with_slot w q slot))
        → ((bytes : List ℕ) (put : List ℕ → World) → ((new : List ℕ) → K (put new)) → Ends K (go bytes put)) → Ends K (bytes_in w q o go)
    bytes_in_ends w q (Some (Bytes form m bytes)) go k f = f bytes _ (λ new. k _)
    bytes_in_ends w q _ go k f = fails _

    pool_in_ends : (w : World) (q : SlotId) (o : Option Slot) (go : ℕ → List (Option (List ℕ)) → (List (Option (List ℕ)) → World) → Stepped)
        → ((slot : Slot) → K (with_slot w q slot))
        → ((m : ℕ) (entries : List (Option (List ℕ))) (put : List (Option (List ℕ)) → World) → ((new : List (Option (List ℕ))) → K (put new))
        → Ends K (go m entries put)) → Ends K (pool_in w q o go)
    pool_in_ends w q (Some (Pool m entries)) go k f = f m entries _ (λ new. k _)
    pool_in_ends w q _ go k f = fails _

    bytes_at_ends : (w : World) (place : OperandSlot) (go : List ℕ → (List ℕ → World) → Stepped) → ((q : SlotId) → slot_at w q ≡ slot_at d.world q) → K w
        → ((bytes : List ℕ) (put : List ℕ → World) → ((new : List ℕ) → K (put new)) → Ends K (go bytes put)) → Ends K (bytes_at d w place go)
    bytes_at_ends w place go slots k f =
        need_found K (slot_id_of d.x d.leaf.current place) _ _ (λ named e.
        need_found K (bytes_slot_id d.system w (slot_at w named) named) _ _ (λ q g.
        let far = named_far place d.leaf.current named refl e in
        bytes_in_ends w q (slot_at w q) go
        (λ slot. writes w q slot (bytes_far w (slot_at w named) named q far (λ j i. link_far named j far (sym (slots named) ∙ i)) g) k) f))

    pool_at_ends : (w : World) (place : OperandSlot) (go : ℕ → List (Option (List ℕ)) → (List (Option (List ℕ)) → World) → Stepped) → K w
        → ((m : ℕ) (entries : List (Option (List ℕ))) (put : List (Option (List ℕ)) → World) → ((new : List (Option (List ℕ))) → K (put new))
        → Ends K (go m entries put)) → Ends K (pool_at d w place go)
    pool_at_ends w place go k f = need_found K (slot_id_of d.x d.leaf.current place) _ _
        (λ q e. pool_in_ends w q (slot_at w q) go (λ slot. writes w q slot (named_far place d.leaf.current q refl e) k) f)

    make_ends : (place : OperandSlot) (slot : Slot) → Ends K (make d place slot)
    make_ends place slot = need_found K (slot_id_of d.x d.leaf.current place) _ _ (λ q e.
        fill_ends (standing d d.leaf) q (slot_at (standing d d.leaf) q) slot (settled d.system d.x)
        (writes _ q slot (named_far place d.leaf.current q refl e) (stands d.leaf)) settles)

    free_ends : (place : OperandSlot) → Ends K (free d place)
    free_ends place = need_found K (slot_id_of d.x d.leaf.current place) _ _ (λ q e.
        let w = with_slot (standing d d.leaf) q Empty in
        when_ends K (is_memory (slot_at (standing d d.leaf) q) && not (is_kept d d.leaf.current place)) WrongKind (if_paid d.system w Quiet)
        (when_ends K (paid d.system w) ExceededQuota (Ok (w, Quiet))
        (gives w Quiet (writes (standing d d.leaf) q Empty (named_far place d.leaf.current q refl e) (stands d.leaf)))))

    -- REQUESTS

    asked_ends : (leaf : Leaf) (w : World) (q : SlotId) (k : ℕ) (ask : Ask) → Far q → Foreign k → K w → Ends K (asked (record d { leaf = leaf }) w q k ask)
    asked_ends leaf w q k ask far foreign i =
        let blocked = record leaf { phase = Blocked } in
        let j = writes (with_leaf w d.x blocked) q (Waiting k) far (kept_leaf group d.world w d.x blocked out i) in
        when_ends K _ _ _ (gives _ _ (kept_request group d.world _ _ foreign j))

    link_ends : (q : SlotId) (o : Option Slot) (go : ℕ → Session → Stepped) → slot_at d.world q ≡ o → Far q
        → ((k : ℕ) (s : Session) → session_at d.world k ≡ Some s → Foreign k → Ends K (go k s)) → Ends K (link_in d.world o go)
    link_ends q (Some (Link k)) go e far f = need_found K (session_at d.world k) _ _ (λ s there. f k s there (link_far q k far e))
    link_ends q None go e far f = fails _
    link_ends q (Some Empty) go e far f = fails _
    link_ends q (Some (Bytes form n bytes)) go e far f = fails _
    link_ends q (Some (Pool n entries)) go e far f = fails _
    link_ends q (Some (Waiting k)) go e far f = fails _

    link_at_ends : (place : OperandSlot) (go : SlotId → ℕ → Session → Stepped)
        → ((q : SlotId) (k : ℕ) (s : Session) → Far q → session_at d.world k ≡ Some s → Foreign k → Ends K (go q k s)) → Ends K (link_at d place go)
    link_at_ends place go f = need_found K (slot_id_of d.x d.leaf.current place) _ _ (λ q e.
        let far = named_far place d.leaf.current q refl e in link_ends q (slot_at d.world q) (go q) refl far (λ k s there foreign. f q k s far there foreign))

    upgrade_ends : (place : OperandSlot) (n : ℕ) → Ends K (upgrade d place n)
    upgrade_ends place n = link_at_ends place _ (λ q k s far there foreign.
        asked_ends d.leaf _ q k Ask_upgrade far foreign
        (kept_place group d.world d.world k _ foreign (like s _ refl refl (ap (own_session group) (sym there) ∙ foreign)) same))

    call_ends : (place : OperandSlot) → Ends K (call d place)
    call_ends place = pop_ends K _ _ (λ a rest. link_at_ends place (λ q k s. asked (record d { leaf = with_operands d rest }) d.world q k (Ask_call a))
        (λ q k s far there foreign. asked_ends (with_operands d rest) d.world q k (Ask_call a) far foreign same))

    close_ends : (place : OperandSlot) → Ends K (close d place)
    close_ends place = link_at_ends place _ (λ q k s far there foreign. asked_ends d.leaf d.world q k Ask_close far foreign same)

    open_ends : (place : OperandSlot) (service : List ℕ) (n : ℕ) → Ends K (open_session d place service n)
    open_ends place service n = need_found K (slot_id_of d.x d.leaf.current place) _ _ (λ q e.
        let far = named_far place d.leaf.current q refl e in
        fill_ends d.world q (slot_at d.world q) _ _ (writes d.world q _ far same) (λ w k.
        need_found K _ _ _ (λ server routed.
        asked_ends d.leaf _ q _ Ask_open far (ap (own_session group) (free_none d.world.sessions))
        (kept_added group d.world w _
        (foreign group (new_session d.x q server service _) out (sym (apart.routes d.x server d.component service component routed) ∙ out)) k))))

    -- INSTRUCTIONS

    with_slots : (rest : List ℕ) (q : SlotId) → slot_at (standing d (with_operands d rest)) q ≡ slot_at d.world q
    with_slots rest q = stand_slots d t h (with_operands d rest) refl q

    instruct_ends : (i : Instruction) → Ends K (instruct d i)
    instruct_ends (Open place service n) = open_ends place service n
    instruct_ends (Upgrade place n) = upgrade_ends place n
    instruct_ends (Call place) = call_ends place
    instruct_ends (Close place) = close_ends place
    instruct_ends (Say text) = gives _ _ (stands d.leaf)
    instruct_ends (Make form place n) = make_ends place _
    instruct_ends (MakePool place n m) = make_ends place _
    instruct_ends (Free place) = free_ends place
    instruct_ends (Load width place) = pop_ends K _ _ (λ i rest. bytes_at_ends d.world place _ (λ q. refl) same
        (λ bytes put f. when_ends K _ _ _ (gives _ _ (stands _))))
    instruct_ends (Store width place) = search (pop_ends, when_ends, bytes_at_ends, gives, stands, with_slots) depth 14
    instruct_ends (Take place) = search (pop_ends, need_ends, absent_ends, pool_at_ends, settles, gives, stands, same) depth 14
    instruct_ends (Give place) = search (pop_ends, need_ends, absent_ends, pool_at_ends, gives, stands, same) depth 14
    instruct_ends (Peek place) = search (pop_ends, need_ends, when_ends, pool_at_ends, gives, stands, same) depth 14
    instruct_ends (Poke place) = search (pop_ends, need_ends, when_ends, pool_at_ends, gives, stands, same) depth 14
    instruct_ends i = search (need_ends, when_ends, pop_ends, push_ends, gives, stands) depth 14

    -- SECTIONS

    -- the oldest request for a leaf outside is none of the group's
    oldest_later : (r : Request) (rs : List Request) (o : Option (Request × List Request))
        → ((p : Request × List Request) → o ≡ Some p → own_requests group d.world p.1 ≡ own_requests group d.world rs)
        → (p : Request × List Request) → kept_before r o ≡ Some p → own_requests group d.world p.1 ≡ own_requests group d.world (r ∷ rs)
    oldest_later r rs None f p e = absurd (none_some e)
    oldest_later r rs (Some q) f p e =
        ap (λ (p : Request × List Request). own_requests group d.world p.1) (sym (some_same e))
        ∙ ap (λ l. cond (is_some (own_session group (session_at d.world r.session))) (r ∷ l) l) (f q refl)

    to_out : (o : Option Session) (k : ℕ) → session_at d.world k ≡ o → is_to d.x o ≡ true → own_session group o ≡ None
    to_out None k there e = refl
    to_out (Some s) k there e = elim (eqb_tells s.server d.x) [
      | inl t ↦ ap (own_session group) (sym there) ∙ far_server k s there (ap group t.1 ∙ out)
      | inr t ↦ absurd (true≢false (sym e ∙ t.0))
    ]

    oldest_by : (r : Request) (rs : List Request) (b : Bool) → is_to d.x (session_at d.world r.session) ≡ b → (o : Option (Request × List Request))
        → ((p : Request × List Request) → o ≡ Some p → own_requests group d.world p.1 ≡ own_requests group d.world rs)
        → (p : Request × List Request) → cond b (Some (r, rs)) (kept_before r o) ≡ Some p
        → own_requests group d.world p.1 ≡ own_requests group d.world (r ∷ rs)
    oldest_by r rs true to o f p e =
        ap (λ (p : Request × List Request). own_requests group d.world p.1) (sym (some_same e))
        ∙ sym (ap (λ o. cond (is_some o) (r ∷ own_requests group d.world rs) (own_requests group d.world rs))
        (to_out (session_at d.world r.session) r.session refl to))
    oldest_by r rs false to o f p e = oldest_later r rs o f p e

    oldest_out : (rs : List Request) (p : Request × List Request) → oldest d.world d.x rs ≡ Some p
        → own_requests group d.world p.1 ≡ own_requests group d.world rs
    oldest_out [] p e = absurd (none_some e)
    oldest_out (r ∷ rs) p e =
        oldest_by r rs (is_to d.x (session_at d.world r.session)) refl (oldest d.world d.x rs) (λ q f. oldest_out rs q f) p e

    accept_ends : (p : Request × List Request) → oldest d.world d.x d.world.requests ≡ Some p → Ends K (accept d p.0 p.1)
    accept_ends p e = accept_by K d p.0 p.1 (λ old there.
        let foreign = far_server p.0.session old there (ap group (server old there) ∙ out) in
        kept_place group d.world _ p.0.session _ foreign (accepted_like d.system p.0.ask old (ap (own_session group) (sym there) ∙ foreign))
        (kept_requests group d.world _ p.1 (oldest_out d.world.requests p e) (stands _)))
      where
        reported : (s : Session) → (s.server == d.x) ≡ true → s.server ≡ d.x
        reported s e = elim (eqb_tells s.server d.x) [ inl t ↦ t.1 | inr t ↦ absurd (true≢false (sym e ∙ t.0)) ]

        server : (old : Session) → session_at d.world p.0.session ≡ Some old → old.server ≡ d.x
        server old there = reported old (ap (is_to d.x) (sym there) ∙ (oldest_found (λ r. Unit {0}) d.world d.x d.world.requests p e).to)

    module _ (g : Current) (at : d.leaf.current ≡ Some g) (s : Session) (there : session_at d.world g.session ≡ Some s) where
      away : own_session group (Some s) ≡ None
      away = ap (own_session group) (sym there) ∙ current_far g at

      slot_id_far : Far s.slot_id
      slot_id_far = owner_far s.slot_id s.client (client_out s away) (h.belongs g.session (outline s) (ap outline_in there))

      replied_ends : (f : List ℕ → List ℕ) → Ends K (replied d g.session s f)
      replied_ends f =
          gives _ _ (kept_active group d.world _ s.client f (client_out s away) (writes _ s.slot_id (Link g.session) slot_id_far (stands (serving d.leaf))))

      reply_close_ends : Ends K (reply_close d g.session s)
      reply_close_ends =
          let w = with_slot (standing d (serving d.leaf)) s.slot_id Empty in
          let v : World = record w { sessions = slice_set w.sessions g.session None } in
          when_ends K (all_empty s.slots) WrongKind _ (when_ends K (paid d.system (closed d g.session s)) ExceededQuota _
          (gives (closed d g.session s) Quiet (kept_active group d.world v s.client (λ operands. operands) (client_out s away)
          (kept_place group d.world w g.session None (current_far g at) refl
          (writes (standing d (serving d.leaf)) s.slot_id Empty slot_id_far (stands (serving d.leaf)))))))

      reply_ends : (section : Section) → Ends K (reply d g.session section s)
      reply_ends Main = fails _
      reply_ends Opening = when_ends K _ _ _ (replied_ends _)
      reply_ends (Upgrading l) = replied_ends _
      reply_ends (Calling l) = pop_ends K _ _ (λ a rest. replied_ends _)
      reply_ends (Closing l) = reply_close_ends
      reply_ends (Reacting i) = fails _

    exit_kept : K (exit_of d)
    exit_kept =
        record {
          untouched = record {
            leaves = λ y inside. released_same d.component.node.name d.system.components _ y (unnamed y inside) ∙ j.untouched.leaves y inside;
            sessions = j.untouched.sessions;
          };
          requests = j.requests;
        }
      where
        j : K (standing d (exited d.leaf))
        j = stands (exited d.leaf)

        unnamed : (y : ℕ) → group y ≡ true → (c : Component) → slice_get d.system.components y ≡ Some c → is_named d.component.node.name c.node.after ≡ false
        unnamed y inside c placed = by (is_named d.component.node.name c.node.after) refl
          where
            by : (b : Bool) → is_named d.component.node.name c.node.after ≡ b → b ≡ false
            by true e = absurd (true≢false (sym inside ∙ (apart.afters y d.x c d.component placed component e ∙ out)))
            by false e = refl

    main_ends : (provides : Option (List ℕ)) (signals : ℕ) → Ends K (main_ended d provides signals)
    main_ends (Some service) signals = gives _ _ (stands _)
    main_ends None (suc n) = gives _ _ (stands _)
    main_ends None zero = when_ends K _ _ _ (gives _ _ exit_kept)

    section_ends : (current : Option Current) (reacting : Option ℕ) → d.leaf.current ≡ current → Ends K (section_ended d current reacting)
    section_ends None None e = main_ends d.component.node.provides d.component.node.signals
    section_ends None (Some i) e = gives _ _ (stands _)
    section_ends (Some g) reacting e = need_found K (session_at d.world g.session) _ _ (λ s there. reply_ends g e s there g.section)

    body_ends : (loops : List Round) → Ends K (body_ended d loops)
    body_ends [] = section_ends d.leaf.current d.leaf.reacting refl
    body_ends (r ∷ loops) = gives _ _ (stands _)

  module _ (d : Doing) (t : TakesLeaf d) (h : AreLinked d.system (links d.world)) (apart : IsApart d.system group) (out : group d.x ≡ false)
      (component : slice_get d.system.components d.x ≡ Some d.component) where
    abbrev Kept : World → Type 0
    Kept w = IsKept group d.world w

    perform_ends : (todo : Statements) → Ends Kept (perform d todo)
    perform_ends Done = body_ends d t h apart out component d.leaf.loops
    perform_ends (Do i rest) = instruct_ends (record d { leaf = record d.leaf { todo = rest } })
        (record { old = t.old; there = t.there; slots = t.slots; phase = t.phase; current = t.current; reacting = t.reacting }) h apart out component i
    perform_ends (If arm other rest) = pop_ends Kept _ _ (λ a below. gives _ _ (stands d t h apart out component _))
    perform_ends (Loop count body rest) = gives _ _ (stands d t h apart out component _)

    oldest_ends : (found : Option (Request × List Request)) → oldest d.world d.x d.world.requests ≡ found → Ends Kept (accept_oldest d found)
    oldest_ends None e = gives _ _ (kept_self group d.world)
    oldest_ends (Some p) e = accept_ends d t h apart out component p e

    serve_ends : (found : Option (ℕ × List Signal)) → Ends Kept (serve d found)
    serve_ends None = oldest_ends (oldest d.world d.x d.world.requests) refl
    serve_ends (Some p) = need_ends Kept (section_in (Reacting p.0) d.component.node.program.sections) MissingSection _
        (λ body. gives _ _ (stands d t h apart out component _))

    step_ends : (phase : Phase) → Ends Kept (step_in d phase)
    step_ends Pending = gives _ _ (kept_self group d.world)
    step_ends Running = perform_ends d.leaf.todo
    step_ends Blocked = gives _ _ (kept_self group d.world)
    step_ends Serving = serve_ends (first_signal d.leaf.signals)
    step_ends Handling = perform_ends d.leaf.todo
    step_ends Exited = gives _ _ (kept_self group d.world)

  next_by : (system : System) (w : World) (x : ℕ) (c : Option Component) (leaf : Option Leaf) → IsLinkedWorld system w → IsApart system group
      → group x ≡ false → slice_get system.components x ≡ c → slice_get w.leaves x ≡ leaf → Ends (IsKept group w) (step_of system w x c leaf)
  next_by system w x (Some c) (Some leaf) h apart out component there =
      step_ends (record { system = system; world = w; x = x; component = c; leaf = record leaf { steps = suc leaf.steps } })
      (record { old = leaf; there = there; slots = refl; phase = refl; current = refl; reacting = refl }) h apart out component leaf.phase
  next_by system w x (Some c) None h apart out component there = gives _ _ (kept_self group w)
  next_by system w x None leaf h apart out component there = gives _ _ (kept_self group w)

  module _ (system : System) (w : World) (x : ℕ) (new : World) (event : Event) (h : IsLinkedWorld system w) (apart : IsApart system group)
      (out : group x ≡ false) (e : next system w x ≡ Ok (new, event)) where
    kept : IsKept group w new
    kept = (next_by system w x (slice_get system.components x) (slice_get w.leaves x) h apart out refl refl).holds new event e

    pub step_untouched : IsUntouched group w new
    step_untouched = kept.untouched

    pub step_requests : SameRequests group w new
    step_requests = same_requests group w new kept

-- A statement of a leaf inside, in two worlds that are the same but for the numbers of sessions: it shows the same and leads to such worlds again.
-- No leaf is looked at whether it is paid for: so it is in a system in which nothing is counted.
use Rattle.std.proofs.Common.{◌≡◌, ◌≢◌, ℕ, ◌==◌, ◌&&◌, ◌||◌, not, Bool, true, false, cond, List, ◌∷◌, Option, Some, None, Ok, refl, ap, sym, ◌∙◌}
use Rattle.std.proofs.Common.{subst}
use Rattle.std.specs.Prelude.{◌+◌, ◌++◌, nat_le, nat_lt, length, take, drop, replicate, slice_range, decimal, option_map, slice_get}
use Rattle.std.specs.Prelude.{slice_set}
use Rattle.gq_model.specs.machine.Amounts.{Amount, amount, plus}
use Rattle.gq_model.specs.declared.program.Width.{Width}
use Rattle.gq_model.specs.declared.program.OperandSlot.{OperandSlot}
use Rattle.gq_model.specs.declared.program.OperandSlot.TheVariants.{Own, Shared, Object}
use Rattle.gq_model.specs.declared.program.Instruction.{Instruction}
use Rattle.gq_model.specs.declared.program.Instruction.TheVariants.{Say, Out, Operands, Make, MakePool, Load}
use Rattle.gq_model.specs.declared.program.Instruction.TheVariants.{Store, Free, Take, Give, Peek, Poke, Open, Upgrade, Call, Close}
use Rattle.gq_model.specs.declared.phase.Phase.TheVariants.{Blocked}
use Rattle.gq_model.specs.declared.fault.Wrong.{Wrong}
use Rattle.gq_model.specs.declared.fault.Wrong.TheVariants.{MissingOperand, WrongKind, UnmappedByte, ExceededQuota}
use Rattle.gq_model.specs.machine.Program.{bytes_of, little, spelled}
use Rattle.gq_model.specs.machine.Scenario.{System, open_caps, upgrade_caps, interface_in}
use Rattle.gq_model.specs.machine.World.{Slot, Empty, Bytes, Pool, Link, Waiting, SlotId, In_leaf, In_session, In_object, Session, Ask, Ask_open, Ask_upgrade}
use Rattle.gq_model.specs.machine.World.{Ask_close, Ask_call, Current, Leaf, World, session_at, slot_at, with_leaf, with_session, with_slot, slot_id_of}
use Rattle.gq_model.specs.machine.Sums.{paid, with_peaks}
use Rattle.gq_model.specs.machine.Doing.{Doing, Quiet, Line, Stepped, when, pop, push, on_stack, need, fill, standing, with_operands, settled, if_paid}
use Rattle.gq_model.specs.machine.Memory.{behind, bytes_slot_id, bytes_in, bytes_at, pool_in, pool_at, make, free, is_memory, is_later}
use Rattle.gq_model.specs.machine.Memory.{is_kept, shares_buffer, buffer_of}
use Rattle.gq_model.specs.machine.Memory.{load, store, if_absent, entry_byte, entry_with, take_entry, give_entry, peek, poke}
use Rattle.gq_model.specs.machine.Requests.{new_session, add_session, free_place, asked, link_in, link_at, open_session, upgrade, call, close}
use Rattle.gq_model.specs.machine.Routes.{server_of}
use Rattle.gq_model.specs.machine.Step.{bench, operated, instruct}
use Rattle.gq_model.specs.machine.Operate.{operate}
use Rattle.gq_model.proofs.Small_facts.{some_same, none_some}
use Rattle.gq_laws.specs.Shapes.{Each}
use Rattle.gq_laws.specs.Session_links.{Leads, naming_in, outline, outline_in, stance, links, Belongs, AreLinked}
use Rattle.gq_laws.specs.Inside_steps.{TakesLeaf}
use Rattle.gq_laws.proofs.session_links.Link_free_statements.{stood}
use Rattle.gq_laws.proofs.session_links.Written_world_links.{slot_requests}
use Rattle.gq_laws.proofs.session_links.Linked_after_accept.{stand_slots}
use Rattle.gq_laws.specs.Separation.{own_session, IsApart}
use Rattle.gq_laws.proofs.Outside_step_untouched.{outlined}
use Rattle.gq_laws.specs.Renamed.{renamed_slot, renamed_slot_id, renamed_current, renamed_leaf, renamed_session}
use Rattle.gq_laws.specs.internal.Corresponding.{own_at, IsSame}
use Rattle.gq_laws.proofs.Session_renaming.{own_there}
use Rattle.gq_laws.proofs.Paired_step_outcomes.{Both, one_fails, both_give, same_need, both_when, both_pop, both_push, both_absent, both_fill}
use Rattle.gq_laws.proofs.Paired_step_outcomes.{both_bytes_in, both_pool_in, both_link_in}
use Rattle.gq_laws.proofs.Renamed_world_equality.{own_inside, own_like, is_own, added_here, IsNear, same_leaf, same_session, same_added, same_request}
use Rattle.gq_laws.proofs.Renamed_world_equality.{same_slot, same_slot_at}
use Rattle.gq_laws.proofs.Renamed_session_sums.{peaks_same}
use Rattle.gq_laws.proofs.Group_slots_sessions.{Owns, set_owns, slot_owns, slot_free, added_owns, near_by, none_free}

-- the same step in the other world
abbrev pub renamed_doing : (ℕ → ℕ) → World → Doing → Doing
renamed_doing f v d = record { system = d.system; world = v; x = d.x; component = d.component; leaf = renamed_leaf f d.leaf }

-- a request to open, where the new session's number is given
abbrev open_at : Doing → ℕ → OperandSlot → List ℕ → ℕ → Stepped
open_at d k place service n =
    let donation = amount n (open_caps (interface_in service d.system.interfaces)) in
    need (slot_id_of d.x d.leaf.current place) WrongKind (λ slot_id. fill d.world slot_id (slot_at d.world slot_id) (Waiting k) (λ w.
    need (server_of d.system d.component service) WrongKind (λ server.
    asked d (record w { sessions = add_session (new_session d.x slot_id server service donation) w.sessions }) slot_id k Ask_open)))

-- what is done with bytes and with a pool's entries that were found
abbrev loading : Width → ℕ → (ℕ → Stepped) → List ℕ → (List ℕ → World) → Stepped
loading width i go bytes put = when (nat_le (i + bytes_of width) (length bytes)) UnmappedByte (go (little (slice_range bytes i (i + bytes_of width))))

abbrev storing : Width → ℕ → ℕ → List ℕ → (List ℕ → World) → Stepped
storing width a i bytes put =
    when (nat_le (i + bytes_of width) (length bytes)) UnmappedByte
    (Ok (put (take i bytes ++ spelled (bytes_of width) a ++ drop (i + bytes_of width) bytes), Quiet))

abbrev Entries : Type 0
Entries = List (Option (List ℕ))

abbrev taking : System → ℕ → Stepped → ℕ → ℕ → Entries → (Entries → World) → Stepped
taking system x present i n entries put = need (slice_get entries i) UnmappedByte (λ entry.
    if_absent entry (settled system x (put (slice_set entries i (Some (replicate n 0))))) present)

abbrev giving : Stepped → ℕ → ℕ → Entries → (Entries → World) → Stepped
giving absent i n entries put = need (slice_get entries i) UnmappedByte (λ entry. if_absent entry absent (Ok (put (slice_set entries i None), Quiet)))

abbrev peeking : (ℕ → Stepped) → ℕ → ℕ → ℕ → Entries → (Entries → World) → Stepped
peeking go k i n entries put = need (slice_get entries i) UnmappedByte (λ entry. when (nat_lt k n) UnmappedByte (go (entry_byte entry k)))

abbrev poking : ℕ → ℕ → ℕ → ℕ → Entries → (Entries → World) → Stepped
poking b k i n entries put = need (slice_get entries i) UnmappedByte (λ entry. when (nat_lt k n) UnmappedByte
    (Ok (put (slice_set entries i (entry_with k b entry)), Quiet)))

module _ (group : ℕ → Bool) (f : ℕ → ℕ) (d : Doing) (v : World) (t : TakesLeaf d) (linked : AreLinked d.system (links d.world))
    (linked_v : AreLinked d.system (links v)) (apart : IsApart d.system group) (inside : group d.x ≡ true)
    (pays : (z : World) → paid d.system z ≡ true) (h : IsSame group f d.world v) where
  abbrev e : Doing
  e = renamed_doing f v d

  abbrev K : World → World → Type 0
  K w z = IsSame group f w z

  abbrev Near : SlotId → Type 0
  Near q = IsNear group d.world.sessions q

  pub stands : (leaf : Leaf) → K (with_leaf d.world d.x leaf) (with_leaf v d.x (renamed_leaf f leaf))
  stands leaf = same_leaf group f d.world v d.x leaf h

  -- WHAT IS NEAR

  sides : (k : ℕ) (s : Session) → session_at d.world k ≡ Some s → group s.client ≡ group s.server
  sides k s there = let r = linked.routed k (outline s) (ap outline_in there) in apart.routes s.client s.server r.0 s.service r.1 r.2

  own_client : (k : ℕ) (s : Session) → session_at d.world k ≡ Some s → group s.client ≡ true → own_at group d.world.sessions k ≡ Some s
  own_client k s there e = ap (own_session group) there ∙ own_inside group s e

  own_server : (k : ℕ) (s : Session) → session_at d.world k ≡ Some s → group s.server ≡ true → own_at group d.world.sessions k ≡ Some s
  own_server k s there e = own_client k s there (sides k s there ∙ e)

  -- the client of one of the group's sessions is inside
  pub client_in : (k : ℕ) (s : Session) → own_at group d.world.sessions k ≡ Some s → group s.client ≡ true
  client_in k s own = by (group s.client) (group s.server) (sides k s (own_there group (session_at d.world k) s own)) (is_own group d.world k s own)
    where
      by : (a b : Bool) → a ≡ b → cond (a || b) (Some s) None ≡ Some s → a ≡ true
      by true b e g = refl
      by false true e g = e
      by false false e g = absurd (none_some g)

  pub current_own : (g : Current) → d.leaf.current ≡ Some g → Owns group d.world.sessions g.session
  current_own g at =
      let m = linked.handles d.x d.leaf.phase g (stood d t ∙ ap (λ o. Some (stance d.leaf.phase o)) at) in
      let s = outlined (session_at d.world g.session) m.0 m.1 in
      (s.0, own_server g.session s.0 s.1 (ap group (ap (λ (s : Session). s.server) s.2 ∙ m.2) ∙ inside))

  pub owner_near : (q : SlotId) (client : ℕ) → group client ≡ true → Belongs (links d.world) q client → Near q
  owner_near (In_leaf x i) client near b = ap group b ∙ near
  owner_near (In_session j i) client near b =
      let s = outlined (session_at d.world j) b.0 b.1 in
      (s.0, own_server j s.0 s.1 (ap group (ap (λ (s : Session). s.server) s.2 ∙ b.3) ∙ near))
  owner_near (In_object j) client near b = absurd b

  near_owner : (q : SlotId) (client : ℕ) → Near q → Belongs (links d.world) q client → group client ≡ true
  near_owner (In_leaf x i) client near b = ap group (sym b) ∙ near
  near_owner (In_session j i) client near b =
      let there = own_there group (session_at d.world j) near.0 near.1 in
      let same : outline near.0 ≡ b.0 = some_same (sym (ap outline_in there) ∙ b.1) in
      ap group (sym (ap (λ (s : Session). s.server) same ∙ b.3)) ∙ (sym (sides j near.0 there) ∙ client_in j near.0 near.1)
  near_owner (In_object j) client near b = absurd b

  -- a link in a near slot leads to one of the group's sessions
  link_near : (q : SlotId) (k : ℕ) → Near q → slot_at d.world q ≡ Some (Link k) → Owns group d.world.sessions k
  link_near q k near there =
      let n = linked.named q (Leads k) (ap naming_in there) in
      let s = outlined (session_at d.world k) n.0 n.1 in
      let b = subst (λ q. Belongs (links d.world) q n.0.client) n.2 (linked.belongs k n.0 n.1) in
      (s.0, own_client k s.0 s.1 (ap group (ap (λ (s : Session). s.client) s.2) ∙ near_owner q n.0.client near b))

  -- THE SAME SPOT

  slot_id_need : (o : Option SlotId) (wrong : Wrong) (go on : SlotId → Stepped) → ((q : SlotId) → o ≡ Some q → Both K (go q) (on (renamed_slot_id f q)))
      → Both K (need o wrong go) (need (option_map (renamed_slot_id f) o) wrong on)
  slot_id_need None wrong go on g = one_fails K wrong _
  slot_id_need (Some q) wrong go on g = g q refl

  place_by : (current : Option Current) (place : OperandSlot) (wrong : Wrong) (go on : SlotId → Stepped) → d.leaf.current ≡ current
      → ((q : SlotId) → Near q → Both K (go q) (on (renamed_slot_id f q)))
      → Both K (need (slot_id_of d.x current place) wrong go) (need (slot_id_of d.x (option_map (renamed_current f) current) place) wrong on)
  place_by current (Own i) wrong go on at g = g (In_leaf d.x i) inside
  place_by None (Shared i) wrong go on at g = one_fails K wrong _
  place_by (Some current) (Shared i) wrong go on at g = g (In_session current.session i) (current_own current at)
  place_by None Object wrong go on at g = one_fails K wrong _
  place_by (Some current) Object wrong go on at g = g (In_object current.session) (current_own current at)

  both_place : (place : OperandSlot) (wrong : Wrong) (go on : SlotId → Stepped) → ((q : SlotId) → Near q → Both K (go q) (on (renamed_slot_id f q)))
      → Both K (need (slot_id_of d.x d.leaf.current place) wrong go) (need (slot_id_of d.x (option_map (renamed_current f) d.leaf.current) place) wrong on)
  both_place place wrong go on g = place_by d.leaf.current place wrong go on refl g

  -- all is paid for
  both_paid : (w z : World) → K w z → Both K (if_paid d.system w Quiet) (if_paid d.system z Quiet)
  both_paid w z k =
      both_when K (paid d.system w) (paid d.system z) ExceededQuota ExceededQuota (Ok (w, Quiet)) (Ok (z, Quiet)) (λ i. pays z)
      (both_give K w z Quiet k)

  -- MEMORY

  settles : (w z : World) → K w z → Both K (settled d.system d.x w) (settled d.system d.x z)
  settles w z k =
      subst (λ o. Both K (settled d.system d.x w) (need o WrongKind (λ leaf. if_paid d.system (with_leaf z d.x (with_peaks z d.x leaf)) Quiet)))
      (sym (k.leaves d.x inside)) (by (slice_get w.leaves d.x))
    where
      by : (o : Option Leaf)
          → Both K (need o WrongKind (λ leaf. if_paid d.system (with_leaf w d.x (with_peaks w d.x leaf)) Quiet))
          (need (option_map (renamed_leaf f) o) WrongKind (λ leaf. if_paid d.system (with_leaf z d.x (with_peaks z d.x leaf)) Quiet))
      by None = one_fails K WrongKind _
      by (Some leaf) = both_paid (with_leaf w d.x (with_peaks w d.x leaf)) (with_leaf z d.x (with_peaks z d.x (renamed_leaf f leaf)))
          (subst (λ (l : Leaf). K (with_leaf w d.x (with_peaks w d.x leaf)) (with_leaf z d.x l)) (sym (peaks_same f group w z k d.x inside leaf))
          (same_leaf group f w z d.x (with_peaks w d.x leaf) k))

  module _ (w z : World) (k : K w z) (nears : (q : SlotId) → Near q → IsNear group w.sessions q)
      (links_near : (q : SlotId) (j : ℕ) → Near q → slot_at w q ≡ Some (Link j) → Owns group w.sessions j) where
    writes : (q : SlotId) → IsNear group w.sessions q → (slot : Slot) → K (with_slot w q slot) (with_slot z (renamed_slot_id f q) (renamed_slot f slot))
    writes q near slot = same_slot group f w z q slot near k

    -- the bytes of a slot stand at the same slot, which is near
    bytes_need : (o : Option Slot) (q : SlotId) (go on : SlotId → Stepped) → IsNear group w.sessions q → ((j : ℕ) → o ≡ Some (Link j) → Owns group w.sessions j)
        → ((p : SlotId) → IsNear group w.sessions p → Both K (go p) (on (renamed_slot_id f p)))
        → Both K (need (bytes_slot_id d.system w o q) WrongKind go)
        (need (bytes_slot_id d.system z (option_map (renamed_slot f) o) (renamed_slot_id f q)) WrongKind on)
    bytes_need None q go on near owns g = g q near
    bytes_need (Some Empty) q go on near owns g = g q near
    bytes_need (Some (Bytes form n bytes)) q go on near owns g = g q near
    bytes_need (Some (Pool n entries)) q go on near owns g = g q near
    bytes_need (Some (Waiting j)) q go on near owns g = g q near
    bytes_need (Some (Link j)) q go on near owns g =
        let s = owns j refl in
        subst (λ o. Both K (need (behind d.system o j) WrongKind go) (need (behind d.system (session_at z (f j)) (f j)) WrongKind on))
        (sym (own_there group (session_at w j) s.0 s.1))
        (subst (λ o. Both K (need (behind d.system (Some s.0) j) WrongKind go) (need (behind d.system o (f j)) WrongKind on))
        (sym (own_there group (session_at z (f j)) (renamed_session f s.0) (k.sessions.there j s.0 s.1)))
        (by (buffer_of d.system s.0.service == 0) s))
      where
        by : (b : Bool) → Owns group w.sessions j
            → Both K (need (cond b None (Some (In_session j 0))) WrongKind go) (need (cond b None (Some (In_session (f j) 0))) WrongKind on)
        by true s = one_fails K WrongKind _
        by false s = g (In_session j 0) s

    both_bytes : (place : OperandSlot) (go on : List ℕ → (List ℕ → World) → Stepped)
        → ((bytes : List ℕ) (put put_other : List ℕ → World) → ((new : List ℕ) → K (put new) (put_other new)) → Both K (go bytes put) (on bytes put_other))
        → Both K (bytes_at d w place go) (bytes_at e z place on)
    both_bytes place go on g = both_place place WrongKind _ _ (λ q near.
        subst (λ o. Both K (need (bytes_slot_id d.system w (slot_at w q) q) WrongKind (λ p. bytes_in w p (slot_at w p) go))
        (need (bytes_slot_id d.system z o (renamed_slot_id f q)) WrongKind (λ p. bytes_in z p (slot_at z p) on)))
        (sym (same_slot_at group f w z q (nears q near) k))
        (bytes_need (slot_at w q) q _ _ (nears q near) (λ j there. links_near q j near there) (λ p near_p.
        subst (λ o. Both K (bytes_in w p (slot_at w p) go) (bytes_in z (renamed_slot_id f p) o on)) (sym (same_slot_at group f w z p near_p k))
        (both_bytes_in K f w z p (slot_at w p) go on (writes p near_p) g))))

    both_pool : (place : OperandSlot) (go on : ℕ → List (Option (List ℕ)) → (List (Option (List ℕ)) → World) → Stepped)
        → ((m : ℕ) (entries : List (Option (List ℕ))) (put put_other : List (Option (List ℕ)) → World)
        → ((new : List (Option (List ℕ))) → K (put new) (put_other new)) → Both K (go m entries put) (on m entries put_other))
        → Both K (pool_at d w place go) (pool_at e z place on)
    both_pool place go on g = both_place place WrongKind _ _ (λ q near.
        subst (λ o. Both K (pool_in w q (slot_at w q) go) (pool_in z (renamed_slot_id f q) o on)) (sym (same_slot_at group f w z q (nears q near) k))
        (both_pool_in K f w z q (slot_at w q) go on (writes q (nears q near)) g))

    -- an Empty slot is filled
    fills : (q : SlotId) (slot other : Slot) (go on : World → Stepped) → Near q
        → Both K (go (with_slot w q slot)) (on (with_slot z (renamed_slot_id f q) other))
        → Both K (fill w q (slot_at w q) slot go) (fill z (renamed_slot_id f q) (slot_at z (renamed_slot_id f q)) other on)
    fills q slot other go on near g =
        subst (λ o. Both K (fill w q (slot_at w q) slot go) (fill z (renamed_slot_id f q) o other on)) (sym (same_slot_at group f w z q (nears q near) k))
        (both_fill K f w z q (slot_at w q) slot other go on g)

  -- the leaf stands so in both worlds
  module _ (leaf : Leaf) (slots : leaf.slots ≡ d.leaf.slots) where
    stand_near : (q : SlotId) (j : ℕ) → Near q → slot_at (standing d leaf) q ≡ Some (Link j) → Owns group d.world.sessions j
    stand_near q j near there = link_near q j near (sym (stand_slots d t linked leaf slots q) ∙ there)

    stand_bytes : (place : OperandSlot) (go on : List ℕ → (List ℕ → World) → Stepped)
        → ((bytes : List ℕ) (put put_other : List ℕ → World) → ((new : List ℕ) → K (put new) (put_other new)) → Both K (go bytes put) (on bytes put_other))
        → Both K (bytes_at d (standing d leaf) place go) (bytes_at e (standing e (renamed_leaf f leaf)) place on)
    stand_bytes place go on g = both_bytes (standing d leaf) (standing e (renamed_leaf f leaf)) (stands leaf) (λ q near. near) stand_near place go on g

    stand_pool : (place : OperandSlot) (go on : ℕ → List (Option (List ℕ)) → (List (Option (List ℕ)) → World) → Stepped)
        → ((m : ℕ) (entries : List (Option (List ℕ))) (put put_other : List (Option (List ℕ)) → World)
        → ((new : List (Option (List ℕ))) → K (put new) (put_other new)) → Both K (go m entries put) (on m entries put_other))
        → Both K (pool_at d (standing d leaf) place go) (pool_at e (standing e (renamed_leaf f leaf)) place on)
    stand_pool place go on g = both_pool (standing d leaf) (standing e (renamed_leaf f leaf)) (stands leaf) (λ q near. near) stand_near place go on g

  here_bytes : (place : OperandSlot) (go on : List ℕ → (List ℕ → World) → Stepped)
      → ((bytes : List ℕ) (put put_other : List ℕ → World) → ((new : List ℕ) → K (put new) (put_other new)) → Both K (go bytes put) (on bytes put_other))
      → Both K (bytes_at d d.world place go) (bytes_at e v place on)
  here_bytes place go on g = both_bytes d.world v h (λ q near. near) link_near place go on g

  here_pool : (place : OperandSlot) (go on : ℕ → List (Option (List ℕ)) → (List (Option (List ℕ)) → World) → Stepped)
      → ((m : ℕ) (entries : List (Option (List ℕ))) (put put_other : List (Option (List ℕ)) → World)
      → ((new : List (Option (List ℕ))) → K (put new) (put_other new)) → Both K (go m entries put) (on m entries put_other))
      → Both K (pool_at d d.world place go) (pool_at e v place on)
  here_pool place go on g = both_pool d.world v h (λ q near. near) link_near place go on g

  both_make : (place : OperandSlot) (slot : Slot) → renamed_slot f slot ≡ slot → Both K (make d place slot) (make e place slot)
  both_make place slot same = both_place place WrongKind _ _ (λ q near.
      fills (standing d d.leaf) (standing e e.leaf) (stands d.leaf) (λ q near. near) (stand_near d.leaf refl) q slot slot _ _ near
      (settles _ _ (subst (λ (slot' : Slot). K (with_slot (standing d d.leaf) q slot) (with_slot (standing e e.leaf) (renamed_slot_id f q) slot')) same
      (same_slot group f (standing d d.leaf) (standing e e.leaf) q slot near (stands d.leaf)))))

  -- what can be freed in the one world can be freed in the other
  memory_same : (o : Option Slot) → is_memory (option_map (renamed_slot f) o) ≡ is_memory o
  memory_same None = refl
  memory_same (Some Empty) = refl
  memory_same (Some (Bytes form n bytes)) = refl
  memory_same (Some (Pool n entries)) = refl
  memory_same (Some (Link k)) = refl
  memory_same (Some (Waiting k)) = refl

  kept_same : (current : Option Current) → d.leaf.current ≡ current → (place : OperandSlot)
      → is_kept e (option_map (renamed_current f) current) place ≡ is_kept d current place
  kept_same None at place = refl
  kept_same (Some g) at (Own i) = refl
  kept_same (Some g) at Object = refl
  kept_same (Some g) at (Shared i) =
      let o = current_own g at in
      ap (λ b. i == 0 && is_later g.section && b)
      (ap (shares_buffer d.system) (own_there group (session_at v (f g.session)) (renamed_session f o.0) (h.sessions.there g.session o.0 o.1))
      ∙ ap (shares_buffer d.system) (sym (own_there group (session_at d.world g.session) o.0 o.1)))

  both_free : (place : OperandSlot) → Both K (free d place) (free e place)
  both_free place = both_place place WrongKind _ _ (λ q near.
      let w = with_slot (standing d d.leaf) q Empty in
      let z = with_slot (standing e e.leaf) (renamed_slot_id f q) Empty in
      let memory : is_memory (slot_at (standing e e.leaf) (renamed_slot_id f q)) ≡ is_memory (slot_at (standing d d.leaf) q)
      = ap is_memory (same_slot_at group f (standing d d.leaf) (standing e e.leaf) q near (stands d.leaf)) ∙ memory_same (slot_at (standing d d.leaf) q) in
      both_when K (is_memory (slot_at (standing d d.leaf) q) && not (is_kept d d.leaf.current place))
      (is_memory (slot_at (standing e e.leaf) (renamed_slot_id f q)) && not (is_kept e e.leaf.current place)) WrongKind WrongKind (if_paid d.system w Quiet)
      (if_paid d.system z Quiet) (λ i. (λ t. memory t && not (kept_same d.leaf.current refl place t)) ∙ i)
      (both_paid w z (same_slot group f (standing d d.leaf) (standing e e.leaf) q Empty near (stands d.leaf))))

  -- REQUESTS

  both_asked : (leaf : Leaf) (w z : World) (q : SlotId) (j : ℕ) (ask : Ask) → IsNear group w.sessions q → Owns group w.sessions j → K w z
      → Both K (asked (record d { leaf = leaf }) w q j ask) (asked (record e { leaf = renamed_leaf f leaf }) z (renamed_slot_id f q) (f j) ask)
  both_asked leaf w z q j ask near owns k =
      let blocked = record leaf { phase = Blocked } in
      let s = slot_owns group (with_leaf w d.x blocked) q (Waiting j) j owns in
      both_paid _ _ (same_request group f (with_slot (with_leaf w d.x blocked) q (Waiting j))
      (with_slot (with_leaf z d.x (renamed_leaf f blocked)) (renamed_slot_id f q) (Waiting (f j))) (record { session = j; ask = ask }) s.0 s.1
      (same_slot group f (with_leaf w d.x blocked) (with_leaf z d.x (renamed_leaf f blocked)) q (Waiting j) near (same_leaf group f w z d.x blocked k)))

  both_link : (place : OperandSlot) (go on : SlotId → ℕ → Session → Stepped)
      → ((q : SlotId) (k : ℕ) (s : Session) → Near q → own_at group d.world.sessions k ≡ Some s
      → Both K (go q k s) (on (renamed_slot_id f q) (f k) (renamed_session f s))) → Both K (link_at d place go) (link_at e place on)
  both_link place go on g = both_place place WrongKind _ _ (λ q near.
      subst (λ o. Both K (link_in d.world (slot_at d.world q) (go q)) (link_in v o (on (renamed_slot_id f q)))) (sym (same_slot_at group f d.world v q near h))
      (both_link_in K f d.world v (slot_at d.world q) (go q) (on (renamed_slot_id f q)) (λ k there.
      let o = link_near q k near there in (
        o.0,
        renamed_session f o.0,
        own_there group (session_at d.world k) o.0 o.1,
        own_there group (session_at v (f k)) (renamed_session f o.0) (h.sessions.there k o.0 o.1),
        g q k o.0 near o.1,
      ))))

  both_upgrade : (place : OperandSlot) (n : ℕ) → Both K (upgrade d place n) (upgrade e place n)
  both_upgrade place n = both_link place _ _ (λ q k s near own.
      let more = amount n (upgrade_caps (interface_in s.service d.system.interfaces) s.level) in
      let u = record s { donation = plus s.donation more } in
      let there = own_there group (session_at d.world k) s own in
      let keeps : (j : ℕ) → Owns group d.world.sessions j → Owns group (with_session d.world k u).sessions j
      = set_owns group d.world k s u there refl refl in
      both_asked d.leaf (with_session d.world k u) (with_session v (f k) (renamed_session f u)) q k Ask_upgrade
      (near_by group d.world.sessions (with_session d.world k u).sessions keeps q near) (keeps k (s, own))
      (same_session group f d.world v h k s own u (own_like group s u refl refl (is_own group d.world k s own))))

  both_call : (place : OperandSlot) → Both K (call d place) (call e place)
  both_call place = both_pop K _ _ _ (λ a rest.
      both_link place (λ q k s. asked (record d { leaf = with_operands d rest }) d.world q k (Ask_call a))
      (λ q k s. asked (record e { leaf = with_operands e rest }) v q k (Ask_call a))
      (λ q k s near own. both_asked (with_operands d rest) d.world v q k (Ask_call a) near (s, own) h))

  both_close : (place : OperandSlot) → Both K (close d place) (close e place)
  both_close place = both_link place _ _ (λ q k s near own. both_asked d.leaf d.world v q k Ask_close near (s, own) h)

  -- the new session has corresponding numbers in both worlds
  module _ (fresh : f (free_place d.world.sessions) ≡ free_place v.sessions) where
    abbrev number : ℕ
    number = free_place d.world.sessions

    module _ (q : SlotId) (near : Near q) (service : List ℕ) (server : ℕ) (donation : Amount) where
      abbrev waits : World
      waits = with_slot d.world q (Waiting number)

      abbrev waits_v : World
      waits_v = with_slot v (renamed_slot_id f q) (Waiting (f number))

      abbrev s : Session
      s = new_session d.x q server service donation

      free_w : free_place waits.sessions ≡ number
      free_w = slot_free d.world q (Waiting number)

      free_v : free_place waits_v.sessions ≡ free_place v.sessions
      free_v = slot_free v (renamed_slot_id f q) (Waiting (f number))

      none_w : Each (λ r. r.session ≢ free_place waits.sessions) waits.requests
      none_w = subst (λ n. Each (λ r. r.session ≢ n) waits.requests) (sym free_w)
          (subst (λ rs. Each (λ r. r.session ≢ number) rs) (sym (slot_requests d.world q (Waiting number))) (none_free d.system d.world linked))

      none_v : Each (λ r. r.session ≢ free_place waits_v.sessions) waits_v.requests
      none_v = subst (λ n. Each (λ r. r.session ≢ n) waits_v.requests) (sym free_v)
          (subst (λ rs. Each (λ r. r.session ≢ free_place v.sessions) rs) (sym (slot_requests v (renamed_slot_id f q) (Waiting (f number))))
          (none_free d.system v linked_v))

      opened : K (record waits { sessions = add_session s waits.sessions }) (record waits_v { sessions = add_session (renamed_session f s) waits_v.sessions })
      opened =
          same_added group f waits waits_v s (same_slot group f d.world v q (Waiting number) near h) (ap f free_w ∙ (fresh ∙ sym free_v))
          (own_inside group s inside) none_w none_v

      keeps : (j : ℕ) → Owns group d.world.sessions j → Owns group (add_session s waits.sessions) j
      keeps j o = added_owns group waits s j (slot_owns group d.world q (Waiting number) j o)

      owns_new : Owns group (add_session s waits.sessions) number
      owns_new = (
        s,
        ap (λ n. own_at group (add_session s waits.sessions) n) (sym free_w)
            ∙ (ap (own_session group) (added_here waits.sessions s) ∙ own_inside group s inside),
      )

      both_opened : Both K (asked d (record waits { sessions = add_session s waits.sessions }) q number Ask_open)
          (asked e (record waits_v { sessions = add_session (renamed_session f s) waits_v.sessions }) (renamed_slot_id f q) (f number) Ask_open)
      both_opened =
          both_asked d.leaf _ _ q number Ask_open (near_by group d.world.sessions (add_session s waits.sessions) keeps q near) owns_new opened

    both_open : (place : OperandSlot) (service : List ℕ) (n : ℕ) → Both K (open_session d place service n) (open_session e place service n)
    both_open place service n =
        subst (λ k. Both K (open_at d number place service n) (open_at e k place service n)) fresh
        (both_place place WrongKind _ _ (λ q near.
        fills d.world v h (λ q near. near) link_near q (Waiting number) (Waiting (f number)) _ _ near
        (same_need K (server_of d.system d.component service) _ _ _ (λ server. both_opened q near service server _))))

    -- INSTRUCTIONS

    stacked : (operands : List ℕ) → Both K (on_stack d operands) (on_stack e operands)
    stacked operands = both_give K _ _ Quiet (stands (with_operands d operands))

    pushed : (a : ℕ) (operands : List ℕ) → Both K (push a operands (on_stack d)) (push a operands (on_stack e))
    pushed a operands = both_push K a operands (on_stack d) (on_stack e) stacked

    both_load : (width : Width) (place : OperandSlot) → Both K (load d width place) (load e width place)
    both_load width place = both_pop K d.leaf.operands (λ i rest. bytes_at d d.world place (loading width i (λ a. on_stack d (a ∷ rest))))
        (λ i rest. bytes_at e v place (loading width i (λ a. on_stack e (a ∷ rest)))) (λ i rest.
        here_bytes place (loading width i (λ a. on_stack d (a ∷ rest))) (loading width i (λ a. on_stack e (a ∷ rest))) (λ bytes put put_other g.
        both_when K (nat_le (i + bytes_of width) (length bytes)) (nat_le (i + bytes_of width) (length bytes)) UnmappedByte UnmappedByte _ _ (λ i. i)
        (stacked _)))

    both_store : (width : Width) (place : OperandSlot) → Both K (store d width place) (store e width place)
    both_store width place =
        both_pop K d.leaf.operands (λ a below. pop below (λ i rest. bytes_at d (standing d (with_operands d rest)) place (storing width a i)))
        (λ a below. pop below (λ i rest. bytes_at e (standing e (with_operands e rest)) place (storing width a i))) (λ a below.
        both_pop K below (λ i rest. bytes_at d (standing d (with_operands d rest)) place (storing width a i))
        (λ i rest. bytes_at e (standing e (with_operands e rest)) place (storing width a i)) (λ i rest.
        stand_bytes (with_operands d rest) refl place (storing width a i) (storing width a i) (λ bytes put put_other g.
        both_when K (nat_le (i + bytes_of width) (length bytes)) (nat_le (i + bytes_of width) (length bytes)) UnmappedByte UnmappedByte _ _ (λ i. i)
        (both_give K _ _ Quiet (g (take i bytes ++ spelled (bytes_of width) a ++ drop (i + bytes_of width) bytes))))))

    both_take : (place : OperandSlot) → Both K (instruct d (Take place)) (instruct e (Take place))
    both_take place = both_pop K d.leaf.operands (λ i rest. take_entry d rest place i) (λ i rest. take_entry e rest place i) (λ i rest.
        stand_pool (with_operands d (1 ∷ rest)) refl place (taking d.system d.x (on_stack d (0 ∷ rest)) i) (taking d.system d.x (on_stack e (0 ∷ rest)) i)
        (λ m entries put put_other g. same_need K (slice_get entries i) UnmappedByte
        (λ entry. if_absent entry (settled d.system d.x (put (slice_set entries i (Some (replicate m 0))))) (on_stack d (0 ∷ rest)))
        (λ entry. if_absent entry (settled d.system d.x (put_other (slice_set entries i (Some (replicate m 0))))) (on_stack e (0 ∷ rest)))
        (λ entry. both_absent K entry _ _ _ _ (settles _ _ (g (slice_set entries i (Some (replicate m 0))))) (stacked (0 ∷ rest)))))

    both_give_entry : (place : OperandSlot) → Both K (instruct d (Give place)) (instruct e (Give place))
    both_give_entry place = both_pop K d.leaf.operands (λ i rest. give_entry d rest place i) (λ i rest. give_entry e rest place i) (λ i rest.
        stand_pool (with_operands d (1 ∷ rest)) refl place (giving (on_stack d (0 ∷ rest)) i) (giving (on_stack e (0 ∷ rest)) i)
        (λ m entries put put_other g. same_need K (slice_get entries i) UnmappedByte
        (λ entry. if_absent entry (on_stack d (0 ∷ rest)) (Ok (put (slice_set entries i None), Quiet)))
        (λ entry. if_absent entry (on_stack e (0 ∷ rest)) (Ok (put_other (slice_set entries i None), Quiet)))
        (λ entry. both_absent K entry _ _ _ _ (stacked (0 ∷ rest)) (both_give K _ _ Quiet (g (slice_set entries i None))))))

    both_peek : (place : OperandSlot) → Both K (peek d place) (peek e place)
    both_peek place =
        both_pop K d.leaf.operands (λ k below. pop below (λ i rest. pool_at d d.world place (peeking (λ a. on_stack d (a ∷ rest)) k i)))
        (λ k below. pop below (λ i rest. pool_at e v place (peeking (λ a. on_stack e (a ∷ rest)) k i))) (λ k below.
        both_pop K below (λ i rest. pool_at d d.world place (peeking (λ a. on_stack d (a ∷ rest)) k i))
        (λ i rest. pool_at e v place (peeking (λ a. on_stack e (a ∷ rest)) k i)) (λ i rest.
        here_pool place (peeking (λ a. on_stack d (a ∷ rest)) k i) (peeking (λ a. on_stack e (a ∷ rest)) k i) (λ m entries put put_other g.
        same_need K (slice_get entries i) UnmappedByte (λ entry. when (nat_lt k m) UnmappedByte (on_stack d (entry_byte entry k ∷ rest)))
        (λ entry. when (nat_lt k m) UnmappedByte (on_stack e (entry_byte entry k ∷ rest)))
        (λ entry. both_when K (nat_lt k m) (nat_lt k m) UnmappedByte UnmappedByte _ _ (λ i. i) (stacked (entry_byte entry k ∷ rest))))))

    both_poke : (place : OperandSlot) → Both K (poke d place) (poke e place)
    both_poke place =
        both_pop K d.leaf.operands
        (λ b under. pop under (λ k below. pop below (λ i rest. pool_at d (standing d (with_operands d rest)) place (poking b k i))))
        (λ b under. pop under (λ k below. pop below (λ i rest. pool_at e (standing e (with_operands e rest)) place (poking b k i)))) (λ b under.
        both_pop K under (λ k below. pop below (λ i rest. pool_at d (standing d (with_operands d rest)) place (poking b k i)))
        (λ k below. pop below (λ i rest. pool_at e (standing e (with_operands e rest)) place (poking b k i))) (λ k below.
        both_pop K below (λ i rest. pool_at d (standing d (with_operands d rest)) place (poking b k i))
        (λ i rest. pool_at e (standing e (with_operands e rest)) place (poking b k i)) (λ i rest.
        stand_pool (with_operands d rest) refl place (poking b k i) (poking b k i) (λ m entries put put_other g.
        same_need K (slice_get entries i) UnmappedByte
        (λ entry. when (nat_lt k m) UnmappedByte (Ok (put (slice_set entries i (entry_with k b entry)), Quiet)))
        (λ entry. when (nat_lt k m) UnmappedByte (Ok (put_other (slice_set entries i (entry_with k b entry)), Quiet)))
        (λ entry. both_when K (nat_lt k m) (nat_lt k m) UnmappedByte UnmappedByte _ _ (λ i. i)
        (both_give K _ _ Quiet (g (slice_set entries i (entry_with k b entry)))))))))

    pub both_instruct : (i : Instruction) → Both K (instruct d i) (instruct e i)
    both_instruct (Open place service n) = both_open place service n
    both_instruct (Upgrade place n) = both_upgrade place n
    both_instruct (Call place) = both_call place
    both_instruct (Close place) = both_close place
    both_instruct (Say text) = both_give K _ _ _ (stands d.leaf)
    both_instruct (Operands s) = same_need K (operate (bench d) s) MissingOperand (operated d) (operated e)
        (λ o. both_give K _ _ Quiet (stands (record d.leaf { operands = o.operands; locals = o.locals })))
    both_instruct (Make form place n) = both_make place _ refl
    both_instruct (MakePool place n m) = both_make place _ refl
    both_instruct (Free place) = both_free place
    both_instruct (Load width place) = both_load width place
    both_instruct (Store width place) = both_store width place
    both_instruct (Take place) = both_take place
    both_instruct (Give place) = both_give_entry place
    both_instruct (Peek place) = both_peek place
    both_instruct (Poke place) = both_poke place
    both_instruct Out = both_pop K d.leaf.operands _ _ (λ a rest. both_give K _ _ (Line (decimal a)) (stands (with_operands d rest)))

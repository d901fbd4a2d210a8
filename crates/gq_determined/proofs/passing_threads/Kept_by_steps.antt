-- A step of a leaf in two worlds: a relation of worlds that is kept where the same changes in both is kept by the step, which shows the same in both.
-- No leaf is looked at whether it is paid for: so it is in a system in which nothing is counted.
use Rattle.std.proofs.Common.{◌≡◌, ◌⊎◌, inl, inr, ℕ, ◌==◌, ◌&&◌, not, Bool, true, false, cond, List, ◌∷◌, [], Option, Some, None, Ok, refl, ap, sym, ◌∙◌}
use Rattle.std.proofs.Common.{subst}
use Rattle.std.specs.Prelude.{◌+◌, ◌++◌, nat_le, nat_lt, length, take, drop, replicate, slice_range, decimal, option_map, slice_get}
use Rattle.std.specs.Prelude.{slice_set}
use Rattle.gq_model.specs.machine.Amounts.{Amount, amount, plus}
use Rattle.gq_model.specs.declared.program.Width.{Width}
use Rattle.gq_model.specs.declared.program.OperandSlot.{OperandSlot}
use Rattle.gq_model.specs.declared.program.OperandSlot.TheVariants.{Own, Shared, Object}
use Rattle.gq_model.specs.declared.program.Instruction.{Instruction}
use Rattle.gq_model.specs.declared.program.Instruction.TheVariants.{Say, Out, Operands, Make, MakePool, Load}
use Rattle.gq_model.specs.declared.program.Instruction.TheVariants.{Store, Free, Take, Give, Peek, Poke, Open, Upgrade, Call, Close}
use Rattle.gq_model.specs.declared.phase.Phase.TheVariants.{Blocked}
use Rattle.gq_model.specs.declared.fault.Wrong.{Wrong}
use Rattle.gq_model.specs.declared.fault.Wrong.TheVariants.{MissingOperand, WrongKind, UnmappedByte, ExceededQuota}
use Rattle.gq_model.specs.machine.Program.{bytes_of, little, spelled}
use Rattle.gq_model.specs.machine.Scenario.{System, open_caps, upgrade_caps, interface_in}
use Rattle.gq_model.specs.machine.World.{Slot, Empty, Bytes, Pool, Link, Waiting, SlotId, In_leaf, In_session, In_object, Session, Ask, Ask_open, Ask_upgrade}
use Rattle.gq_model.specs.machine.World.{Ask_close, Ask_call, Request, Current, Leaf, World, session_at, slot_at, with_leaf, with_session, with_slot}
use Rattle.gq_model.specs.machine.World.{slot_id_of}
use Rattle.gq_model.specs.machine.Sums.{paid}
use Rattle.gq_model.specs.machine.Doing.{Doing, Quiet, Line, Stepped, when, pop, push, on_stack, need, fill, standing, with_operands, settled, if_paid}
use Rattle.gq_model.specs.machine.Memory.{behind, bytes_slot_id, bytes_in, bytes_at, pool_in, pool_at, make, free, is_memory, is_later}
use Rattle.gq_model.specs.machine.Memory.{is_kept, shares_buffer, buffer_of}
use Rattle.gq_model.specs.machine.Memory.{load, store, if_absent, entry_byte, entry_with, take_entry, give_entry, peek, poke}
use Rattle.gq_model.specs.machine.Requests.{new_session, add_session, free_place, asked, link_in, link_at, open_session, upgrade, call, close}
use Rattle.gq_model.specs.machine.Routes.{server_of}
use Rattle.gq_model.specs.machine.Operate.{operate}
use Rattle.gq_model.specs.machine.Step.{bench, operated, instruct}
use Rattle.gq_laws.specs.Inside_steps.{TakesLeaf}
use Rattle.gq_laws.specs.Session_links.{naming, AreLinked, links}
use Rattle.gq_laws.proofs.session_links.Linked_after_accept.{stand_slots}
use Rattle.gq_laws.specs.Renamed.{renamed_slot, renamed_slot_id, renamed_current, renamed_leaf, renamed_session, renamed_request}
use Rattle.gq_laws.proofs.Paired_step_outcomes.{Both, one_fails, both_give, same_need, both_when, both_pop, both_push, both_absent, both_fill}
use Rattle.gq_laws.proofs.Paired_step_outcomes.{both_link_in}
use Rattle.gq_laws.proofs.Group_slots_sessions.{slot_free}

-- a request to open, where the new session's number is given
abbrev open_at : Doing → ℕ → OperandSlot → List ℕ → ℕ → Stepped
open_at d k place service n =
    let donation = amount n (open_caps (interface_in service d.system.interfaces)) in
    need (slot_id_of d.x d.leaf.current place) WrongKind (λ slot_id. fill d.world slot_id (slot_at d.world slot_id) (Waiting k) (λ w.
    need (server_of d.system d.component service) WrongKind (λ server.
    asked d (record w { sessions = add_session (new_session d.x slot_id server service donation) w.sessions }) slot_id k Ask_open)))

-- what is done with bytes and with a pool's entries that were found
abbrev loading : Width → ℕ → (ℕ → Stepped) → List ℕ → (List ℕ → World) → Stepped
loading width i go bytes put = when (nat_le (i + bytes_of width) (length bytes)) UnmappedByte (go (little (slice_range bytes i (i + bytes_of width))))

abbrev storing : Width → ℕ → ℕ → List ℕ → (List ℕ → World) → Stepped
storing width a i bytes put =
    when (nat_le (i + bytes_of width) (length bytes)) UnmappedByte
    (Ok (put (take i bytes ++ spelled (bytes_of width) a ++ drop (i + bytes_of width) bytes), Quiet))

abbrev Entries : Type 0
Entries = List (Option (List ℕ))

abbrev taking : System → ℕ → Stepped → ℕ → ℕ → Entries → (Entries → World) → Stepped
taking system x present i n entries put = need (slice_get entries i) UnmappedByte (λ entry.
    if_absent entry (settled system x (put (slice_set entries i (Some (replicate n 0))))) present)

abbrev giving : Stepped → ℕ → ℕ → Entries → (Entries → World) → Stepped
giving absent i n entries put = need (slice_get entries i) UnmappedByte (λ entry. if_absent entry absent (Ok (put (slice_set entries i None), Quiet)))

abbrev peeking : (ℕ → Stepped) → ℕ → ℕ → ℕ → Entries → (Entries → World) → Stepped
peeking go k i n entries put = need (slice_get entries i) UnmappedByte (λ entry. when (nat_lt k n) UnmappedByte (go (entry_byte entry k)))

abbrev poking : ℕ → ℕ → ℕ → ℕ → Entries → (Entries → World) → Stepped
poking b k i n entries put = need (slice_get entries i) UnmappedByte (λ entry. when (nat_lt k n) UnmappedByte
    (Ok (put (slice_set entries i (entry_with k b entry)), Quiet)))

-- what is left to the world once a leaf has asked
abbrev pub asked_world : Doing → World → SlotId → ℕ → Ask → World
asked_world d w slot_id k ask =
    let waiting = with_slot (with_leaf w d.x (record d.leaf { phase = Blocked })) slot_id (Waiting k) in
    record waiting { requests = waiting.requests ++ record { session = k; ask = ask } ∷ [] }

-- a slot that an operand of the leaf names
abbrev pub IsNamed : Doing → SlotId → Type 0
IsNamed d q = (place : OperandSlot) × (slot_id_of d.x d.leaf.current place ≡ Some q)

-- what the leaf's steps, peaks and inputs are in the other world, by what they are in this one
pub record Aside : Type 0 where
  pub steps : ℕ → ℕ
  pub peaks : List ℕ → List ℕ
  pub inputs : List ℕ → List ℕ

module _ (f : ℕ → ℕ) (aside : Aside) (d : Doing) (v : World) where
  -- the leaf in the other world, with other numbers of sessions, steps, peaks and inputs
  abbrev pub other_leaf : Leaf → Leaf
  other_leaf leaf =
      record (renamed_leaf f leaf) { steps = aside.steps leaf.steps; peaks = aside.peaks leaf.peaks; inputs = aside.inputs leaf.inputs }

  -- the same step in the other world
  abbrev pub other_doing : Doing
  other_doing = record { system = d.system; world = v; x = d.x; component = d.component; leaf = other_leaf d.leaf }

  -- the leaf stands with its slots as they were, and with the same current session
  pub record KeepsOwn (leaf : Leaf) : Type 0 where
    pub slots : leaf.slots ≡ d.leaf.slots
    pub current : leaf.current ≡ d.leaf.current

  -- a relation of the worlds that come of this step; the sessions that it may look at; and the slots that it may change
  module _ (K : World → World → Type 0) (Mine : ℕ → Type 0) (Ours : SlotId → Type 0) where
    -- a slot that the step may look at
    abbrev pub Near : SlotId → Type 0
    Near (In_leaf y i) = y ≡ d.x
    Near (In_session k i) = Mine k
    Near (In_object k) = Mine k

    -- the sessions of the world of the step are there
    abbrev pub Stay : World → Type 0
    Stay w = (j : ℕ) (s : Session) → session_at d.world j ≡ Some s → session_at w j ≡ Some s

    -- a session that may be changed, or that a step opens
    abbrev pub Asked : ℕ → Type 0
    Asked k = (Mine k × Ours (In_session k 0)) ⊎ (k ≡ free_place d.world.sessions)

    pub record IsKept : Type 0 where
      pub first : K d.world v
      pub pays : (z : World) → paid d.system z ≡ true
      -- the current session, and those to which links lead
      pub current : (g : Current) → d.leaf.current ≡ Some g → Mine g.session × ((i : ℕ) → Ours (In_session g.session i)) × Ours (In_object g.session)
          × ((s : Session) × (session_at d.world g.session ≡ Some s))
      pub link : (q : SlotId) (k : ℕ) → Near q → slot_at d.world q ≡ Some (Link k) → Mine k × ((s : Session) × (session_at d.world k ≡ Some s))
          × (Ours q → Ours (In_session k 0))
      -- the number of a new session
      pub fresh : f (free_place d.world.sessions) ≡ free_place v.sessions
      -- what is looked at is the same
      pub slot : (w z : World) (q : SlotId) → K w z → Near q → Stay w → slot_at z (renamed_slot_id f q) ≡ option_map (renamed_slot f) (slot_at w q)
      pub session : (w z : World) (k : ℕ) (s : Session) → K w z → Mine k → session_at w k ≡ Some s → session_at z (f k) ≡ Some (renamed_session f s)
      -- the leaf, a slot, a session and the requests change
      pub leaf : (w z : World) (leaf : Leaf) → K w z → KeepsOwn leaf → K (with_leaf w d.x leaf) (with_leaf z d.x (other_leaf leaf))
      pub put : (w z : World) (q : SlotId) (slot : Slot) → naming slot ≡ None → K w z → Near q → Ours q
          → K (with_slot w q slot) (with_slot z (renamed_slot_id f q) (renamed_slot f slot))
      pub wait : (w z : World) (q : SlotId) (k : ℕ) → IsNamed d q → Asked k → K w z → Near q → Ours q
          → K (with_slot w q (Waiting k)) (with_slot z (renamed_slot_id f q) (Waiting (f k)))
      pub settles : (w z : World) → K w z → Both K (settled d.system d.x w) (settled d.system d.x z)
      pub donate : (w z : World) (k : ℕ) (s : Session) (a : Amount) → K w z → Mine k → Ours (In_session k 0) → session_at w k ≡ Some s
          → K (with_session w k (record s { donation = a })) (with_session z (f k) (renamed_session f (record s { donation = a })))
      pub add : (w z : World) (s : Session) → K w z → free_place w.sessions ≡ free_place d.world.sessions → free_place z.sessions ≡ free_place v.sessions
          → s.client ≡ d.x → s.slots ≡ replicate 8 Empty → s.object ≡ Empty → IsNamed d s.slot_id → Ours s.slot_id
          → K (record w { sessions = add_session s w.sessions }) (record z { sessions = add_session (renamed_session f s) z.sessions })
      pub ask : (w z : World) (r : Request) → K w z → Asked r.session
          → K (record w { requests = w.requests ++ r ∷ [] }) (record z { requests = z.requests ++ renamed_request f r ∷ [] })

    -- WHAT A STATEMENT MAY CHANGE

    -- an own slot, where the step may change it
    abbrev pub MayChange : OperandSlot → Type 0
    MayChange (Own i) = Ours (In_leaf d.x i)
    MayChange (Shared i) = Unit {0}
    MayChange Object = Unit {0}

    -- and a statement on operands alone leaves the same in both worlds
    abbrev pub IsAllowed : Instruction → Type 0
    IsAllowed (Operands s) = operate (bench d) s ≡ operate (bench other_doing) s
    IsAllowed (Make form place n) = MayChange place
    IsAllowed (MakePool place n m) = MayChange place
    IsAllowed (Store width place) = MayChange place
    IsAllowed (Free place) = MayChange place
    IsAllowed (Take place) = MayChange place
    IsAllowed (Give place) = MayChange place
    IsAllowed (Poke place) = MayChange place
    IsAllowed (Open place service n) = MayChange place
    IsAllowed (Upgrade place n) = MayChange place
    IsAllowed (Call place) = MayChange place
    IsAllowed (Close place) = MayChange place
    IsAllowed _ = Unit {0}

    -- bytes and pools that are found, and changed where that is allowed
    module _ (A : Type 0) (w z : World) (q p : SlotId) where
      may_bytes : (o : Option Slot) (go on : List ℕ → (List ℕ → World) → Stepped)
          → (A → (slot : Slot) → naming slot ≡ None → K (with_slot w q slot) (with_slot z p (renamed_slot f slot)))
          → ((bytes : List ℕ) (put put_other : List ℕ → World) → (A → (new : List ℕ) → K (put new) (put_other new))
          → Both K (go bytes put) (on bytes put_other))
          → Both K (bytes_in w q o go) (bytes_in z p (option_map (renamed_slot f) o) on)
      may_bytes (Some (Bytes form m bytes)) go on k h = h bytes _ _ (λ a new. k a (Bytes form m new) refl)
      may_bytes None go on k h = one_fails K _ _
      may_bytes (Some Empty) go on k h = one_fails K _ _
      may_bytes (Some (Pool m entries)) go on k h = one_fails K _ _
      may_bytes (Some (Link j)) go on k h = one_fails K _ _
      may_bytes (Some (Waiting j)) go on k h = one_fails K _ _

      may_pool : (o : Option Slot) (go on : ℕ → Entries → (Entries → World) → Stepped)
          → (A → (slot : Slot) → naming slot ≡ None → K (with_slot w q slot) (with_slot z p (renamed_slot f slot)))
          → ((m : ℕ) (entries : Entries) (put put_other : Entries → World) → (A → (new : Entries) → K (put new) (put_other new))
          → Both K (go m entries put) (on m entries put_other))
          → Both K (pool_in w q o go) (pool_in z p (option_map (renamed_slot f) o) on)
      may_pool (Some (Pool m entries)) go on k h = h m entries _ _ (λ a new. k a (Pool m new) refl)
      may_pool None go on k h = one_fails K _ _
      may_pool (Some Empty) go on k h = one_fails K _ _
      may_pool (Some (Bytes form m bytes)) go on k h = one_fails K _ _
      may_pool (Some (Link j)) go on k h = one_fails K _ _
      may_pool (Some (Waiting j)) go on k h = one_fails K _ _

    module _ (t : TakesLeaf d) (linked : AreLinked d.system (links d.world)) (h : IsKept) where
      abbrev e : Doing
      e = other_doing

      keeps : (leaf : Leaf) → leaf.slots ≡ d.leaf.slots → leaf.current ≡ d.leaf.current → KeepsOwn leaf
      keeps leaf slots current = record { slots = slots; current = current }

      pub stands : (leaf : Leaf) → KeepsOwn leaf → K (standing d leaf) (standing e (other_leaf leaf))
      stands leaf own = h.leaf d.world v leaf h.first own

      -- THE SAME SPOT

      place_by : (current : Option Current) (place : OperandSlot) (wrong : Wrong) (go on : SlotId → Stepped) → d.leaf.current ≡ current
          → ((q : SlotId) → Near q → (MayChange place → Ours q) → IsNamed d q → Both K (go q) (on (renamed_slot_id f q)))
          → Both K (need (slot_id_of d.x current place) wrong go) (need (slot_id_of d.x (option_map (renamed_current f) current) place) wrong on)
      place_by current (Own i) wrong go on at g = g (In_leaf d.x i) refl (λ a. a) (Own i, refl)
      place_by None (Shared i) wrong go on at g = one_fails K wrong _
      place_by (Some current) (Shared i) wrong go on at g = let m = h.current current at in g (In_session current.session i) m.0 (λ a. m.1 i)
          (Shared i, ap (λ o. slot_id_of d.x o (Shared i)) at)
      place_by None Object wrong go on at g = one_fails K wrong _
      place_by (Some current) Object wrong go on at g = let m = h.current current at in g (In_object current.session) m.0 (λ a. m.2)
          (Object, ap (λ o. slot_id_of d.x o Object) at)

      both_place : (place : OperandSlot) (wrong : Wrong) (go on : SlotId → Stepped)
          → ((q : SlotId) → Near q → (MayChange place → Ours q) → IsNamed d q → Both K (go q) (on (renamed_slot_id f q)))
          → Both K (need (slot_id_of d.x d.leaf.current place) wrong go) (need (slot_id_of d.x (option_map (renamed_current f) d.leaf.current) place) wrong on)
      both_place place wrong go on g = place_by d.leaf.current place wrong go on refl g

      -- all is paid for
      both_paid : (w z : World) → K w z → Both K (if_paid d.system w Quiet) (if_paid d.system z Quiet)
      both_paid w z k =
          both_when K (paid d.system w) (paid d.system z) ExceededQuota ExceededQuota (Ok (w, Quiet)) (Ok (z, Quiet)) (λ i. h.pays z)
          (both_give K w z Quiet k)

      -- MEMORY

      -- links in near slots are those of the world of the step
      module _ (w z : World) (k : K w z) (same : (q : SlotId) → Near q → slot_at w q ≡ slot_at d.world q)
          (here : (j : ℕ) (s : Session) → session_at d.world j ≡ Some s → session_at w j ≡ Some s) where
        links_near : (q : SlotId) (j : ℕ) → Near q → slot_at w q ≡ Some (Link j)
            → Mine j × ((s : Session) × (session_at w j ≡ Some s)) × (Ours q → Ours (In_session j 0))
        links_near q j near there =
            let l = h.link q j near (sym (same q near) ∙ there) in (l.0, (l.1.0, here j l.1.0 l.1.1), l.2)

        -- the bytes of a slot stand at the same slot, which is near
        bytes_need : (o : Option Slot) (q : SlotId) (go on : SlotId → Stepped) → Near q
            → ((j : ℕ) → o ≡ Some (Link j) → Mine j × ((s : Session) × (session_at w j ≡ Some s)) × (Ours q → Ours (In_session j 0)))
            → ((p : SlotId) → Near p → (Ours q → Ours p) → Both K (go p) (on (renamed_slot_id f p)))
            → Both K (need (bytes_slot_id d.system w o q) WrongKind go)
            (need (bytes_slot_id d.system z (option_map (renamed_slot f) o) (renamed_slot_id f q)) WrongKind on)
        bytes_need None q go on near owns g = g q near (λ a. a)
        bytes_need (Some Empty) q go on near owns g = g q near (λ a. a)
        bytes_need (Some (Bytes form n bytes)) q go on near owns g = g q near (λ a. a)
        bytes_need (Some (Pool n entries)) q go on near owns g = g q near (λ a. a)
        bytes_need (Some (Waiting j)) q go on near owns g = g q near (λ a. a)
        bytes_need (Some (Link j)) q go on near owns g =
            let o = owns j refl in
            let s = o.1.0 in
            subst (λ p. Both K (need (behind d.system p j) WrongKind go) (need (behind d.system (session_at z (f j)) (f j)) WrongKind on))
            (sym o.1.1)
            (subst (λ p. Both K (need (behind d.system (Some s) j) WrongKind go) (need (behind d.system p (f j)) WrongKind on))
            (sym (h.session w z j s k o.0 o.1.1))
            (by (buffer_of d.system s.service == 0) o.0 o.2))
          where
            by : (b : Bool) → Mine j → (Ours q → Ours (In_session j 0))
                → Both K (need (cond b None (Some (In_session j 0))) WrongKind go) (need (cond b None (Some (In_session (f j) 0))) WrongKind on)
            by true mine opens = one_fails K WrongKind _
            by false mine opens = g (In_session j 0) mine opens

        both_bytes : (place : OperandSlot) (go on : List ℕ → (List ℕ → World) → Stepped)
            → ((bytes : List ℕ) (put put_other : List ℕ → World) → (MayChange place → (new : List ℕ) → K (put new) (put_other new))
            → Both K (go bytes put) (on bytes put_other))
            → Both K (bytes_at d w place go) (bytes_at e z place on)
        both_bytes place go on g = both_place place WrongKind _ _ (λ q near may named.
            subst (λ o. Both K (need (bytes_slot_id d.system w (slot_at w q) q) WrongKind (λ p. bytes_in w p (slot_at w p) go))
            (need (bytes_slot_id d.system z o (renamed_slot_id f q)) WrongKind (λ p. bytes_in z p (slot_at z p) on)))
            (sym (h.slot w z q k near here))
            (bytes_need (slot_at w q) q _ _ near (λ j there. links_near q j near there) (λ p near_p opens.
            subst (λ o. Both K (bytes_in w p (slot_at w p) go) (bytes_in z (renamed_slot_id f p) o on)) (sym (h.slot w z p k near_p here))
            (may_bytes (MayChange place) w z p (renamed_slot_id f p) (slot_at w p) go on (λ a slot none. h.put w z p slot none k near_p (opens (may a))) g))))

        both_pool : (place : OperandSlot) (go on : ℕ → Entries → (Entries → World) → Stepped)
            → ((m : ℕ) (entries : Entries) (put put_other : Entries → World) → (MayChange place → (new : Entries) → K (put new) (put_other new))
            → Both K (go m entries put) (on m entries put_other))
            → Both K (pool_at d w place go) (pool_at e z place on)
        both_pool place go on g = both_place place WrongKind _ _ (λ q near may named.
            subst (λ o. Both K (pool_in w q (slot_at w q) go) (pool_in z (renamed_slot_id f q) o on)) (sym (h.slot w z q k near here))
            (may_pool (MayChange place) w z q (renamed_slot_id f q) (slot_at w q) go on (λ a slot none. h.put w z q slot none k near (may a)) g))

        -- an Empty slot is filled
        fills : (q : SlotId) (slot other : Slot) (go on : World → Stepped) → Near q
            → Both K (go (with_slot w q slot)) (on (with_slot z (renamed_slot_id f q) other))
            → Both K (fill w q (slot_at w q) slot go) (fill z (renamed_slot_id f q) (slot_at z (renamed_slot_id f q)) other on)
        fills q slot other go on near g =
            subst (λ o. Both K (fill w q (slot_at w q) slot go) (fill z (renamed_slot_id f q) o other on)) (sym (h.slot w z q k near here))
            (both_fill K f w z q (slot_at w q) slot other go on g)

      -- the leaf stands so in both worlds
      module _ (leaf : Leaf) (own : KeepsOwn leaf) where
        stand_same : (q : SlotId) → Near q → slot_at (standing d leaf) q ≡ slot_at d.world q
        stand_same q near = stand_slots d t linked leaf own.slots q

        stand_bytes : (place : OperandSlot) (go on : List ℕ → (List ℕ → World) → Stepped)
            → ((bytes : List ℕ) (put put_other : List ℕ → World) → (MayChange place → (new : List ℕ) → K (put new) (put_other new))
            → Both K (go bytes put) (on bytes put_other))
            → Both K (bytes_at d (standing d leaf) place go) (bytes_at e (standing e (other_leaf leaf)) place on)
        stand_bytes place go on g =
            both_bytes (standing d leaf) (standing e (other_leaf leaf)) (stands leaf own) stand_same (λ j s there. there) place go on g

        stand_pool : (place : OperandSlot) (go on : ℕ → Entries → (Entries → World) → Stepped)
            → ((m : ℕ) (entries : Entries) (put put_other : Entries → World) → (MayChange place → (new : Entries) → K (put new) (put_other new))
            → Both K (go m entries put) (on m entries put_other))
            → Both K (pool_at d (standing d leaf) place go) (pool_at e (standing e (other_leaf leaf)) place on)
        stand_pool place go on g =
            both_pool (standing d leaf) (standing e (other_leaf leaf)) (stands leaf own) stand_same (λ j s there. there) place go on g

      here_bytes : (place : OperandSlot) (go on : List ℕ → (List ℕ → World) → Stepped)
          → ((bytes : List ℕ) (put put_other : List ℕ → World) → (MayChange place → (new : List ℕ) → K (put new) (put_other new))
          → Both K (go bytes put) (on bytes put_other))
          → Both K (bytes_at d d.world place go) (bytes_at e v place on)
      here_bytes place go on g = both_bytes d.world v h.first (λ q near. refl) (λ j s there. there) place go on g

      here_pool : (place : OperandSlot) (go on : ℕ → Entries → (Entries → World) → Stepped)
          → ((m : ℕ) (entries : Entries) (put put_other : Entries → World) → (MayChange place → (new : Entries) → K (put new) (put_other new))
          → Both K (go m entries put) (on m entries put_other))
          → Both K (pool_at d d.world place go) (pool_at e v place on)
      here_pool place go on g = both_pool d.world v h.first (λ q near. refl) (λ j s there. there) place go on g

      both_make : (place : OperandSlot) → MayChange place → (slot : Slot) → naming slot ≡ None → renamed_slot f slot ≡ slot
          → Both K (make d place slot) (make e place slot)
      both_make place may slot none same = both_place place WrongKind _ _ (λ q near opens named.
          let own = keeps d.leaf refl refl in
          fills (standing d d.leaf) (standing e e.leaf) (stands d.leaf own) (stand_same d.leaf own) (λ j s there. there) q slot slot _ _ near
          (h.settles _ _ (subst (λ (slot' : Slot). K (with_slot (standing d d.leaf) q slot) (with_slot (standing e e.leaf) (renamed_slot_id f q) slot')) same
          (h.put (standing d d.leaf) (standing e e.leaf) q slot none (stands d.leaf own) near (opens may)))))

      -- what can be freed in the one world can be freed in the other
      memory_same : (o : Option Slot) → is_memory (option_map (renamed_slot f) o) ≡ is_memory o
      memory_same None = refl
      memory_same (Some Empty) = refl
      memory_same (Some (Bytes form n bytes)) = refl
      memory_same (Some (Pool n entries)) = refl
      memory_same (Some (Link k)) = refl
      memory_same (Some (Waiting k)) = refl

      kept_same : (current : Option Current) → d.leaf.current ≡ current → (place : OperandSlot)
          → is_kept e (option_map (renamed_current f) current) place ≡ is_kept d current place
      kept_same None at place = refl
      kept_same (Some g) at (Own i) = refl
      kept_same (Some g) at Object = refl
      kept_same (Some g) at (Shared i) =
          let o = h.current g at in
          ap (λ b. i == 0 && is_later g.section && b)
          (ap (shares_buffer d.system) (h.session d.world v g.session o.3.0 h.first o.0 o.3.1) ∙ ap (shares_buffer d.system) (sym o.3.1))

      both_free : (place : OperandSlot) → MayChange place → Both K (free d place) (free e place)
      both_free place may = both_place place WrongKind _ _ (λ q near opens named.
          let own = keeps d.leaf refl refl in
          let w = with_slot (standing d d.leaf) q Empty in
          let z = with_slot (standing e e.leaf) (renamed_slot_id f q) Empty in
          let memory : is_memory (slot_at (standing e e.leaf) (renamed_slot_id f q)) ≡ is_memory (slot_at (standing d d.leaf) q)
          = ap is_memory (h.slot (standing d d.leaf) (standing e e.leaf) q (stands d.leaf own) near (λ j s there. there))
          ∙ memory_same (slot_at (standing d d.leaf) q) in
          both_when K (is_memory (slot_at (standing d d.leaf) q) && not (is_kept d d.leaf.current place))
          (is_memory (slot_at (standing e e.leaf) (renamed_slot_id f q)) && not (is_kept e e.leaf.current place)) WrongKind WrongKind (if_paid d.system w Quiet)
          (if_paid d.system z Quiet) (λ i. (λ t. memory t && not (kept_same d.leaf.current refl place t)) ∙ i)
          (both_paid w z (h.put (standing d d.leaf) (standing e e.leaf) q Empty refl (stands d.leaf own) near (opens may))))

      -- REQUESTS

      both_asked : (leaf : Leaf) → KeepsOwn leaf → (w z : World) (q : SlotId) (j : ℕ) (ask : Ask) → IsNamed d q → Near q → Ours q → Asked j → K w z
          → Both K (asked (record d { leaf = leaf }) w q j ask) (asked (record e { leaf = other_leaf leaf }) z (renamed_slot_id f q) (f j) ask)
      both_asked leaf own w z q j ask named near ours mine k =
          let blocked = record leaf { phase = Blocked } in
          both_paid _ _ (h.ask (with_slot (with_leaf w d.x blocked) q (Waiting j))
          (with_slot (with_leaf z d.x (other_leaf blocked)) (renamed_slot_id f q) (Waiting (f j))) (record { session = j; ask = ask })
          (h.wait (with_leaf w d.x blocked) (with_leaf z d.x (other_leaf blocked)) q j named mine
          (h.leaf w z blocked k (keeps blocked own.slots own.current)) near ours) mine)

      both_link : (place : OperandSlot) → MayChange place → (go on : SlotId → ℕ → Session → Stepped)
          → ((q : SlotId) (k : ℕ) (s : Session) → IsNamed d q → Near q → Ours q → Mine k → Ours (In_session k 0) → session_at d.world k ≡ Some s
          → Both K (go q k s) (on (renamed_slot_id f q) (f k) (renamed_session f s))) → Both K (link_at d place go) (link_at e place on)
      both_link place may go on g = both_place place WrongKind _ _ (λ q near opens named.
          subst (λ o. Both K (link_in d.world (slot_at d.world q) (go q)) (link_in v o (on (renamed_slot_id f q))))
          (sym (h.slot d.world v q h.first near (λ j s there. there)))
          (both_link_in K f d.world v (slot_at d.world q) (go q) (on (renamed_slot_id f q)) (λ k there.
          let o = h.link q k near there in (
            o.1.0,
            renamed_session f o.1.0,
            o.1.1,
            h.session d.world v k o.1.0 h.first o.0 o.1.1,
            g q k o.1.0 named near (opens may) o.0 (o.2 (opens may)) o.1.1,
          ))))

      both_upgrade : (place : OperandSlot) (n : ℕ) → MayChange place → Both K (upgrade d place n) (upgrade e place n)
      both_upgrade place n may = both_link place may _ _ (λ q k s named near ours mine behind there.
          let more = amount n (upgrade_caps (interface_in s.service d.system.interfaces) s.level) in
          both_asked d.leaf (keeps d.leaf refl refl) (with_session d.world k (record s { donation = plus s.donation more }))
          (with_session v (f k) (renamed_session f (record s { donation = plus s.donation more }))) q k Ask_upgrade named near ours (inl (mine, behind))
          (h.donate d.world v k s (plus s.donation more) h.first mine behind there))

      both_call : (place : OperandSlot) → MayChange place → Both K (call d place) (call e place)
      both_call place may = both_pop K _ _ _ (λ a rest.
          both_link place may (λ q k s. asked (record d { leaf = with_operands d rest }) d.world q k (Ask_call a))
          (λ q k s. asked (record e { leaf = with_operands e rest }) v q k (Ask_call a))
          (λ q k s named near ours mine behind there.
          both_asked (with_operands d rest) (keeps (with_operands d rest) refl refl) d.world v q k (Ask_call a) named near ours (inl (mine, behind)) h.first))

      both_close : (place : OperandSlot) → MayChange place → Both K (close d place) (close e place)
      both_close place may = both_link place may _ _ (λ q k s named near ours mine behind there.
          both_asked d.leaf (keeps d.leaf refl refl) d.world v q k Ask_close named near ours (inl (mine, behind)) h.first)

      -- the new session has corresponding numbers in both worlds
      abbrev number : ℕ
      number = free_place d.world.sessions

      module _ (q : SlotId) (named : IsNamed d q) (near : Near q) (ours : Ours q) (service : List ℕ) (server : ℕ) (donation : Amount) where
        abbrev waits : World
        waits = with_slot d.world q (Waiting number)

        abbrev waits_v : World
        waits_v = with_slot v (renamed_slot_id f q) (Waiting (f number))

        abbrev s : Session
        s = new_session d.x q server service donation

        opened : K (record waits { sessions = add_session s waits.sessions }) (record waits_v { sessions = add_session (renamed_session f s) waits_v.sessions })
        opened =
            h.add waits waits_v s (h.wait d.world v q number named (inr refl) h.first near ours) (slot_free d.world q (Waiting number))
            (slot_free v (renamed_slot_id f q) (Waiting (f number))) refl refl refl named ours

        both_opened : Both K (asked d (record waits { sessions = add_session s waits.sessions }) q number Ask_open)
            (asked e (record waits_v { sessions = add_session (renamed_session f s) waits_v.sessions }) (renamed_slot_id f q) (f number) Ask_open)
        both_opened = both_asked d.leaf (keeps d.leaf refl refl) _ _ q number Ask_open named near ours (inr refl) opened

      both_open : (place : OperandSlot) (service : List ℕ) (n : ℕ) → MayChange place → Both K (open_session d place service n) (open_session e place service n)
      both_open place service n may =
          subst (λ k. Both K (open_at d number place service n) (open_at e k place service n)) h.fresh
          (both_place place WrongKind _ _ (λ q near opens named.
          fills d.world v h.first (λ q near. refl) (λ j s there. there) q (Waiting number) (Waiting (f number)) _ _ near
          (same_need K (server_of d.system d.component service) _ _ _ (λ server. both_opened q named near (opens may) service server _))))

      -- INSTRUCTIONS

      stacked : (operands : List ℕ) → Both K (on_stack d operands) (on_stack e operands)
      stacked operands = both_give K _ _ Quiet (stands (with_operands d operands) (keeps (with_operands d operands) refl refl))

      pushed : (a : ℕ) (operands : List ℕ) → Both K (push a operands (on_stack d)) (push a operands (on_stack e))
      pushed a operands = both_push K a operands (on_stack d) (on_stack e) stacked

      both_load : (width : Width) (place : OperandSlot) → Both K (load d width place) (load e width place)
      both_load width place = both_pop K d.leaf.operands (λ i rest. bytes_at d d.world place (loading width i (λ a. on_stack d (a ∷ rest))))
          (λ i rest. bytes_at e v place (loading width i (λ a. on_stack e (a ∷ rest)))) (λ i rest.
          here_bytes place (loading width i (λ a. on_stack d (a ∷ rest))) (loading width i (λ a. on_stack e (a ∷ rest))) (λ bytes put put_other g.
          both_when K (nat_le (i + bytes_of width) (length bytes)) (nat_le (i + bytes_of width) (length bytes)) UnmappedByte UnmappedByte _ _ (λ i. i)
          (stacked _)))

      both_store : (width : Width) (place : OperandSlot) → MayChange place → Both K (store d width place) (store e width place)
      both_store width place may =
          both_pop K d.leaf.operands (λ a below. pop below (λ i rest. bytes_at d (standing d (with_operands d rest)) place (storing width a i)))
          (λ a below. pop below (λ i rest. bytes_at e (standing e (with_operands e rest)) place (storing width a i))) (λ a below.
          both_pop K below (λ i rest. bytes_at d (standing d (with_operands d rest)) place (storing width a i))
          (λ i rest. bytes_at e (standing e (with_operands e rest)) place (storing width a i)) (λ i rest.
          stand_bytes (with_operands d rest) (keeps (with_operands d rest) refl refl) place (storing width a i) (storing width a i) (λ bytes put put_other g.
          both_when K (nat_le (i + bytes_of width) (length bytes)) (nat_le (i + bytes_of width) (length bytes)) UnmappedByte UnmappedByte _ _ (λ i. i)
          (both_give K _ _ Quiet (g may (take i bytes ++ spelled (bytes_of width) a ++ drop (i + bytes_of width) bytes))))))

      both_take : (place : OperandSlot) → MayChange place → Both K (instruct d (Take place)) (instruct e (Take place))
      both_take place may = both_pop K d.leaf.operands (λ i rest. take_entry d rest place i) (λ i rest. take_entry e rest place i) (λ i rest.
          stand_pool (with_operands d (1 ∷ rest)) (keeps (with_operands d (1 ∷ rest)) refl refl) place (taking d.system d.x (on_stack d (0 ∷ rest)) i)
          (taking d.system d.x (on_stack e (0 ∷ rest)) i)
          (λ m entries put put_other g. same_need K (slice_get entries i) UnmappedByte
          (λ entry. if_absent entry (settled d.system d.x (put (slice_set entries i (Some (replicate m 0))))) (on_stack d (0 ∷ rest)))
          (λ entry. if_absent entry (settled d.system d.x (put_other (slice_set entries i (Some (replicate m 0))))) (on_stack e (0 ∷ rest)))
          (λ entry. both_absent K entry _ _ _ _ (h.settles _ _ (g may (slice_set entries i (Some (replicate m 0))))) (stacked (0 ∷ rest)))))

      both_give_entry : (place : OperandSlot) → MayChange place → Both K (instruct d (Give place)) (instruct e (Give place))
      both_give_entry place may = both_pop K d.leaf.operands (λ i rest. give_entry d rest place i) (λ i rest. give_entry e rest place i) (λ i rest.
          stand_pool (with_operands d (1 ∷ rest)) (keeps (with_operands d (1 ∷ rest)) refl refl) place (giving (on_stack d (0 ∷ rest)) i)
          (giving (on_stack e (0 ∷ rest)) i)
          (λ m entries put put_other g. same_need K (slice_get entries i) UnmappedByte
          (λ entry. if_absent entry (on_stack d (0 ∷ rest)) (Ok (put (slice_set entries i None), Quiet)))
          (λ entry. if_absent entry (on_stack e (0 ∷ rest)) (Ok (put_other (slice_set entries i None), Quiet)))
          (λ entry. both_absent K entry _ _ _ _ (stacked (0 ∷ rest)) (both_give K _ _ Quiet (g may (slice_set entries i None))))))

      both_peek : (place : OperandSlot) → Both K (peek d place) (peek e place)
      both_peek place =
          both_pop K d.leaf.operands (λ k below. pop below (λ i rest. pool_at d d.world place (peeking (λ a. on_stack d (a ∷ rest)) k i)))
          (λ k below. pop below (λ i rest. pool_at e v place (peeking (λ a. on_stack e (a ∷ rest)) k i))) (λ k below.
          both_pop K below (λ i rest. pool_at d d.world place (peeking (λ a. on_stack d (a ∷ rest)) k i))
          (λ i rest. pool_at e v place (peeking (λ a. on_stack e (a ∷ rest)) k i)) (λ i rest.
          here_pool place (peeking (λ a. on_stack d (a ∷ rest)) k i) (peeking (λ a. on_stack e (a ∷ rest)) k i) (λ m entries put put_other g.
          same_need K (slice_get entries i) UnmappedByte (λ entry. when (nat_lt k m) UnmappedByte (on_stack d (entry_byte entry k ∷ rest)))
          (λ entry. when (nat_lt k m) UnmappedByte (on_stack e (entry_byte entry k ∷ rest)))
          (λ entry. both_when K (nat_lt k m) (nat_lt k m) UnmappedByte UnmappedByte _ _ (λ i. i) (stacked (entry_byte entry k ∷ rest))))))

      both_poke : (place : OperandSlot) → MayChange place → Both K (poke d place) (poke e place)
      both_poke place may =
          both_pop K d.leaf.operands
          (λ b under. pop under (λ k below. pop below (λ i rest. pool_at d (standing d (with_operands d rest)) place (poking b k i))))
          (λ b under. pop under (λ k below. pop below (λ i rest. pool_at e (standing e (with_operands e rest)) place (poking b k i)))) (λ b under.
          both_pop K under (λ k below. pop below (λ i rest. pool_at d (standing d (with_operands d rest)) place (poking b k i)))
          (λ k below. pop below (λ i rest. pool_at e (standing e (with_operands e rest)) place (poking b k i))) (λ k below.
          both_pop K below (λ i rest. pool_at d (standing d (with_operands d rest)) place (poking b k i))
          (λ i rest. pool_at e (standing e (with_operands e rest)) place (poking b k i)) (λ i rest.
          stand_pool (with_operands d rest) (keeps (with_operands d rest) refl refl) place (poking b k i) (poking b k i) (λ m entries put put_other g.
          same_need K (slice_get entries i) UnmappedByte
          (λ entry. when (nat_lt k m) UnmappedByte (Ok (put (slice_set entries i (entry_with k b entry)), Quiet)))
          (λ entry. when (nat_lt k m) UnmappedByte (Ok (put_other (slice_set entries i (entry_with k b entry)), Quiet)))
          (λ entry. both_when K (nat_lt k m) (nat_lt k m) UnmappedByte UnmappedByte _ _ (λ i. i)
          (both_give K _ _ Quiet (g may (slice_set entries i (entry_with k b entry)))))))))

      -- a statement that changes nothing but what it may
      pub both_instruct : (i : Instruction) → IsAllowed i → Both K (instruct d i) (instruct e i)
      both_instruct (Open place service n) may = both_open place service n may
      both_instruct (Upgrade place n) may = both_upgrade place n may
      both_instruct (Call place) may = both_call place may
      both_instruct (Close place) may = both_close place may
      both_instruct (Say text) may = both_give K _ _ _ (stands d.leaf (keeps d.leaf refl refl))
      both_instruct (Operands s) may =
          subst (λ o. Both K (need (operate (bench d) s) MissingOperand (operated d)) (need o MissingOperand (operated e))) may
          (same_need K (operate (bench d) s) MissingOperand (operated d) (operated e) (λ o.
          let leaf = record d.leaf { operands = o.operands; locals = o.locals } in both_give K _ _ Quiet (stands leaf (keeps leaf refl refl))))
      both_instruct (Make form place n) may = both_make place may _ refl refl
      both_instruct (MakePool place n m) may = both_make place may _ refl refl
      both_instruct (Free place) may = both_free place may
      both_instruct (Load width place) may = both_load width place
      both_instruct (Store width place) may = both_store width place may
      both_instruct (Take place) may = both_take place may
      both_instruct (Give place) may = both_give_entry place may
      both_instruct (Peek place) may = both_peek place
      both_instruct (Poke place) may = both_poke place may
      both_instruct Out may = both_pop K d.leaf.operands _ _ (λ a rest.
          both_give K _ _ (Line (decimal a)) (stands (with_operands d rest) (keeps (with_operands d rest) refl refl)))

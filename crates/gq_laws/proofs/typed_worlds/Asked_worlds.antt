-- The world once a leaf has asked something of a session.
use Rattle.std.proofs.Common.{◌≡◌, ◌≢◌, ℕ, inl, inr, cond, List, [], ◌∷◌, ◌++◌, Option, Some, None, Ok, refl, ap, sym, ◌∙◌, subst}
use Rattle.std.specs.Prelude.{slice_get}
use Rattle.std.proofs.lemmas.List.{set-set}
use Rattle.std.proofs.lemmas.Bool.Decides.{eqb_tells}
use Rattle.gq_model.specs.machine.Amounts.{Amount, amount, plus}
use Rattle.gq_model.specs.declared.program.OperandSlot.{OperandSlot}
use Rattle.gq_model.specs.declared.program.OperandSlot.TheVariants.{Own, Shared, Object}
use Rattle.gq_model.specs.declared.program.Instruction.{Instruction}
use Rattle.gq_model.specs.declared.program.Instruction.TheVariants.{Open, Upgrade, Call, Close}
use Rattle.gq_model.specs.declared.phase.Phase.{Phase}
use Rattle.gq_model.specs.declared.phase.Phase.TheVariants.{Blocked}
use Rattle.gq_model.specs.declared.fault.Wrong.TheVariants.{ExceededQuota}
use Rattle.gq_model.specs.machine.Scenario.{interface_in, open_caps, upgrade_caps}
use Rattle.gq_model.specs.machine.Routes.{server_of}
use Rattle.gq_model.specs.machine.World.{Slot, Empty, Link, Waiting, SlotId, In_leaf, In_session, In_object, Session, Ask, Ask_open, Ask_upgrade, Ask_close}
use Rattle.gq_model.specs.machine.World.{Ask_call, Request, Current, Leaf, World, session_at, with_leaf, with_session, leaf_slot, session_slot, slot_at}
use Rattle.gq_model.specs.machine.World.{with_slot}
use Rattle.gq_model.specs.machine.World.{slot_id_of}
use Rattle.gq_model.specs.machine.Doing.{Doing, Event, Quiet, with_operands}
use Rattle.gq_model.specs.machine.Sums.{paid}
use Rattle.gq_model.specs.machine.Requests.{asked, new_session, free_place, open_session, upgrade, call, close}
use Rattle.gq_model.specs.machine.Step.{instruct}
use Rattle.gq_model.specs.rules.Kinds.{Kind, AbstractState, Context}
use Rattle.gq_laws.specs.Session_links.{Naming, named, outline, stance, Links, links, requests_of, IsLinkedWorld}
use Rattle.gq_laws.specs.Inside_steps.{TakesLeaf}
use Rattle.gq_laws.specs.Asking.{IsAsk, Awaits}
use Rattle.gq_laws.specs.Reply_stances.{own_then, bank_then, session_then}
use Rattle.gq_laws.proofs.step_shapes.Step_end_shapes.{Ends, gives, need_found, when_ends, pop_ends}
use Rattle.gq_model.proofs.Small_facts.{some_same, none_some}
use Rattle.gq_laws.proofs.session_links.Link_free_statements.{stood}
use Rattle.gq_laws.proofs.session_links.Written_world_links.{set_here, set_else, session_here, session_else, session_there}
use Rattle.gq_laws.proofs.session_links.Linked_after_request.{Ready, link_found, link_ready, slot_id_is, is_object}
use Rattle.gq_laws.proofs.session_links.Linked_after_open.{free_at, fill_found, not_object, ready, added, added_else, added_here}
use Rattle.gq_laws.proofs.reply_rules.World_after_reply.{Goes, IsOf, written}

-- this slot is among the slots of the x-th leaf, or of the session current at it
abbrev pub IsMine : ℕ → Option Current → SlotId → Type 0
IsMine x current (In_leaf y i) = y ≡ x
IsMine x None (In_session j i) = ⊥
IsMine x (Some current) (In_session j i) = j ≡ current.session
IsMine x current (In_object j) = ⊥

-- this is the slot that the statement names
abbrev pub IsNamed : Doing → Instruction → SlotId → Type 0
IsNamed d (Open place service n) q = slot_id_of d.x d.leaf.current place ≡ Some q
IsNamed d (Upgrade place n) q = slot_id_of d.x d.leaf.current place ≡ Some q
IsNamed d (Call place) q = slot_id_of d.x d.leaf.current place ≡ Some q
IsNamed d (Close place) q = slot_id_of d.x d.leaf.current place ≡ Some q
IsNamed d i q = ⊥

-- the session that is asked: a new one, or one to which the slot led
abbrev pub WasSession : Doing → Instruction → SlotId → ℕ → Session → Type 0
WasSession d (Open place service n) q k s =
    (server : ℕ) × (given : Amount) × (session_at d.world k ≡ None) × (slot_at d.world q ≡ Some Empty)
    × (server_of d.system d.component service ≡ Some server) × (s ≡ new_session d.x q server service given)
WasSession d (Upgrade place n) q k s =
    (old : Session) × (more : Amount) × (session_at d.world k ≡ Some old) × (slot_at d.world q ≡ Some (Link k)) × (s ≡ record old { donation = more })
WasSession d (Call place) q k s = (session_at d.world k ≡ Some s) × (slot_at d.world q ≡ Some (Link k))
WasSession d (Close place) q k s = (session_at d.world k ≡ Some s) × (slot_at d.world q ≡ Some (Link k))
WasSession d i q k s = ⊥

-- the session has no request, neither one that waits nor one current, and no slot but this names it
pub record IsFree (l : Links) (q : SlotId) (k : ℕ) : Type 0 where
  pub no_current : (y : ℕ) (p : Phase) (g : Current) → l.stances y ≡ Some (stance p (Some g)) → g.session ≢ k
  pub no_request : requests_of k l.requests ≡ 0
  pub names : (r : SlotId) (n : Naming) → r ≢ q → l.slots r ≡ Some n → named n ≢ k

-- what was asked of session k: it stands as s, the slot waits for its reply, and the request is the last
pub record Asked (d : Doing) (i : Instruction) (k : ℕ) (s : Session) (w : World) : Type 0 where
  pub q : SlotId
  pub mine : IsMine d.x d.leaf.current q
  pub slot_id : IsNamed d i q
  pub now : slot_at w q ≡ Some (Waiting k)
  pub was : WasSession d i q k s
  pub free : IsFree (links d.world) q k
  pub found : session_at w k ≡ Some s
  pub client : s.client ≡ d.x
  -- the leaf's own slots
  pub leaf : Leaf
  pub there : slice_get w.leaves d.x ≡ Some leaf
  pub slots : leaf.slots ≡ own_then q (Waiting k) d.leaf.slots
  pub current : leaf.current ≡ d.leaf.current
  -- all else
  pub leaves : (y : ℕ) → y ≢ d.x → slice_get w.leaves y ≡ slice_get d.world.leaves y
  pub sessions : (j : ℕ) → j ≢ k → session_at w j ≡ session_then q (Waiting k) j (session_at d.world j)
  pub ask : Ask
  pub is : IsAsk i ask
  pub requests : w.requests ≡ d.world.requests ++ record { session = k; ask = ask } ∷ []

-- something was asked of a session
abbrev pub HasAsked : Doing → Instruction → World → Type 0
HasAsked d i w = (k : ℕ) × (s : Session) × Asked d i k s w

-- A WORLD THAT IS READY

-- the session stands as it will, and all but the slot as before
pub record IsReady (d : Doing) (i : Instruction) (q : SlotId) (k : ℕ) (s : Session) (v : World) : Type 0 where
  pub mine : IsMine d.x d.leaf.current q
  pub slot_id : IsNamed d i q
  pub slot : Slot
  pub was_there : slot_at d.world q ≡ Some slot
  pub was : WasSession d i q k s
  pub free : IsFree (links d.world) q k
  pub client : s.client ≡ d.x
  pub old : Leaf
  pub leaf : slice_get v.leaves d.x ≡ Some old
  pub leaves : (y : ℕ) → y ≢ d.x → slice_get v.leaves y ≡ slice_get d.world.leaves y
  pub found : session_at v k ≡ Some s
  pub sessions : (j : ℕ) → j ≢ k → session_then q (Waiting k) j (session_at v j) ≡ session_then q (Waiting k) j (session_at d.world j)
  pub requests : v.requests ≡ d.world.requests

mine_is : (x : ℕ) (current : Option Current) (q : SlotId) → IsMine x current q → IsOf x q
mine_is x current (In_leaf y i) m = m
mine_is x None (In_session j i) m = tt
mine_is x (Some g) (In_session j i) m = tt
mine_is x current (In_object j) m = absurd m

-- a session that is not current stays as it is
pub then_else : (x : ℕ) (current : Option Current) (q : SlotId) (slot : Slot) (k : ℕ) (o : Option Session) → IsMine x current q
    → ((g : Current) → current ≡ Some g → g.session ≢ k) → session_then q slot k o ≡ o
then_else x current (In_leaf y i) slot k o m else = refl
then_else x None (In_session j i) slot k o m else = absurd m
then_else x (Some g) (In_session j i) slot k o m else =
    elim (eqb_tells k j) [ inl e ↦ absurd (else g refl (sym (e.1 ∙ m))) | inr e ↦ ap (λ b. cond b (bank_then i slot o) o) e.0 ]
then_else x current (In_object j) slot k o m else = absurd m

then_twice : (q : SlotId) (slot : Slot) (j : ℕ) (o : Option Session) → session_then q slot j (session_then q slot j o) ≡ session_then q slot j o
then_twice (In_leaf y i) slot j o = refl
then_twice (In_object m) slot j o = refl
then_twice (In_session m i) slot j o =
    elim (eqb_tells j m) [
      | inl e ↦ ap (λ b. cond b (bank_then i slot (cond b (bank_then i slot o) o)) (cond b (bank_then i slot o) o)) e.0
          ∙ (twice o ∙ sym (ap (λ b. cond b (bank_then i slot o) o) e.0))
      | inr e ↦ ap (λ b. cond b (bank_then i slot (cond b (bank_then i slot o) o)) (cond b (bank_then i slot o) o)) e.0
          ∙ sym (ap (λ b. cond b (bank_then i slot o) o) e.0)
    ]
  where
    twice : (o : Option Session) → bank_then i slot (bank_then i slot o) ≡ bank_then i slot o
    twice None = refl
    twice (Some s) = ap (λ l. Some (record s { slots = l })) (set-set s.slots i slot slot)

-- the slot that was there waits
slot_waits : (d : Doing) → TakesLeaf d → (current : Option Current) (q : SlotId) (k : ℕ) (slot : Slot) → IsMine d.x current q
    → ((g : Current) → current ≡ Some g → g.session ≢ k)
    → slot_at d.world q ≡ Some slot
    → (w : World) (leaf : Leaf) → slice_get w.leaves d.x ≡ Some leaf → leaf.slots ≡ own_then q (Waiting k) d.leaf.slots
    → ((j : ℕ) → j ≢ k → session_at w j ≡ session_then q (Waiting k) j (session_at d.world j)) → slot_at w q ≡ Some (Waiting k)
slot_waits d t current (In_leaf y i) k slot m else was w leaf there slots sessions =
    let own : slice_get d.leaf.slots i ≡ Some slot = ap (λ l. slice_get l i) t.slots
    ∙ (sym (ap (λ o. leaf_slot o i) t.there) ∙ (ap (λ y. leaf_slot (slice_get d.world.leaves y) i) (sym m) ∙ was)) in
    ap (λ y. leaf_slot (slice_get w.leaves y) i) m ∙ (ap (λ o. leaf_slot o i) there
    ∙ (ap (λ l. slice_get l i) slots ∙ set_here d.leaf.slots i (Waiting k) slot own))
slot_waits d t None (In_session j i) k slot m else was w leaf there slots sessions = absurd m
slot_waits d t (Some g) (In_session j i) k slot m else was w leaf there slots sessions =
    let f = session_there d.world j i slot was in
    let o = session_at d.world j in
    let now : session_at w j ≡ bank_then i (Waiting k) o =
    sessions j (λ e. else g refl (sym m ∙ e)) ∙ elim (eqb_tells j j) [
      | inl e ↦ ap (λ b. cond b (bank_then i (Waiting k) o) o) e.0
      | inr e ↦ absurd (e.1 refl)
    ] in
    ap (λ o. session_slot o i) (now ∙ ap (bank_then i (Waiting k)) f.1) ∙ set_here f.0.slots i (Waiting k) slot f.2
slot_waits d t current (In_object j) k slot m else was w leaf there slots sessions = absurd m

module _ (d : Doing) (t : TakesLeaf d) (i : Instruction) (q : SlotId) (k : ℕ) (s : Session) (v : World) (r : IsReady d i q k s v) (ask : Ask) (is : IsAsk i ask)
    (ops : List ℕ) where
  abbrev blocked : Leaf
  blocked = record d.leaf { operands = ops; phase = Blocked }

  abbrev blocking : World
  blocking = with_leaf v d.x blocked

  abbrev waiting : World
  waiting = with_slot blocking q (Waiting k)

  abbrev after : World
  after = record waiting { requests = waiting.requests ++ record { session = k; ask = ask } ∷ [] }

  abbrev waits : Leaf
  waits = record blocked { slots = own_then q (Waiting k) d.leaf.slots }

  goes : Goes blocking waiting d.x q (Waiting k) waits
  goes = written blocking q (Waiting k) d.x blocked (set_here v.leaves d.x blocked r.old r.leaf) (mine_is d.x d.leaf.current q r.mine)

  not_current : (g : Current) → d.leaf.current ≡ Some g → g.session ≢ k
  not_current g e = r.free.no_current d.x d.leaf.phase g (stood d t ∙ ap (λ o. Some (stance d.leaf.phase o)) e)

  sessions_then : (j : ℕ) → j ≢ k → session_at after j ≡ session_then q (Waiting k) j (session_at d.world j)
  sessions_then j ne = goes.sessions j ∙ r.sessions j ne

  is_asked : Asked d i k s after
  is_asked =
      record {
        q = q;
        mine = r.mine;
        slot_id = r.slot_id;
        now = slot_waits d t d.leaf.current q k r.slot r.mine not_current r.was_there after waits goes.there refl sessions_then;
        was = r.was;
        free = r.free;
        found = goes.sessions k ∙ (then_else d.x d.leaf.current q (Waiting k) k (session_at v k) r.mine not_current ∙ r.found);
        client = r.client;
        leaf = waits;
        there = goes.there;
        slots = refl;
        current = refl;
        leaves = λ y ne. goes.leaves y ne ∙ (set_else v.leaves d.x y blocked ne ∙ r.leaves y ne);
        sessions = sessions_then;
        ask = ask;
        is = is;
        requests = ap (λ rs. rs ++ record { session = k; ask = ask } ∷ []) (goes.requests ∙ r.requests);
      }

  ready_ends : Ends (HasAsked d i) (asked (record d { leaf = with_operands d ops }) v q k ask)
  ready_ends = when_ends (HasAsked d i) (paid d.system after) ExceededQuota _ (gives after Quiet (k, s, is_asked))

-- REQUESTS

mine_by : (x : ℕ) (current : Option Current) (place : OperandSlot) (q : SlotId) → slot_id_of x current place ≡ Some q → ((j : ℕ) → q ≢ In_object j) → IsMine x
    current q
mine_by x current (Own i) q e other = subst (IsMine x current) (some_same e) refl
mine_by x None (Shared i) q e other = absurd (none_some e)
mine_by x (Some g) (Shared i) q e other = subst (IsMine x (Some g)) (some_same e) refl
mine_by x None Object q e other = absurd (none_some e)
mine_by x (Some g) Object q e other = absurd (other g.session (some_same (sym e)))

module _ (d : Doing) (t : TakesLeaf d) (active : d.leaf.phase ≢ Blocked) (h : IsLinkedWorld d.system d.world) where
  abbrev u : TakesLeaf d
  u = t

  -- of a session behind a link
  module _ (place : OperandSlot) (q : SlotId) (at : slot_id_of d.x d.leaf.current place ≡ Some q) (k : ℕ) (s : Session)
      (link : slot_at d.world q ≡ Some (Link k))
      (there : session_at d.world k ≡ Some s) where
    link_mine : IsMine d.x d.leaf.current q
    link_mine = mine_by d.x d.leaf.current place q at (is_object d u active h place q at k s link there)

    slot_id_at : s.slot_id ≡ q
    slot_id_at = slot_id_is d u active h place q at k s link there

    is_ready : Ready d.system (links d.world) d.x k (outline s) Ask_close
    is_ready = link_ready d u active h place q at k s link there s.donation Ask_close refl

    link_free : IsFree (links d.world) q k
    link_free = record { no_current = is_ready.no_current; no_request = is_ready.no_request; names = λ r n ne. is_ready.names r n (λ e. ne (e ∙ slot_id_at)) }

    given_ready : (i : Instruction) → IsNamed d i q → (given : Amount) → WasSession d i q k (record s { donation = given })
        → IsReady d i q k (record s { donation = given }) (with_session d.world k (record s { donation = given }))
    given_ready i slot_id given was =
        record {
          mine = link_mine;
          slot_id = slot_id;
          slot = Link k;
          was_there = link;
          was = was;
          free = link_free;
          client = is_ready.client;
          old = t.old;
          leaf = t.there;
          leaves = λ y ne. refl;
          found = session_here d.world k s (record s { donation = given }) there;
          sessions = λ j ne. ap (session_then q (Waiting k) j) (session_else d.world k j (record s { donation = given }) ne);
          requests = refl;
        }

    same_ready : (i : Instruction) → IsNamed d i q → WasSession d i q k s → IsReady d i q k s d.world
    same_ready i slot_id was =
        record {
          mine = link_mine;
          slot_id = slot_id;
          slot = Link k;
          was_there = link;
          was = was;
          free = link_free;
          client = is_ready.client;
          old = t.old;
          leaf = t.there;
          leaves = λ y ne. refl;
          found = there;
          sessions = λ j ne. refl;
          requests = refl;
        }

  upgrade_asked : (place : OperandSlot) (n : ℕ) → Ends (HasAsked d (Upgrade place n)) (upgrade d place n)
  upgrade_asked place n =
      need_found (HasAsked d (Upgrade place n)) _ _ _ (λ q at. link_found (HasAsked d (Upgrade place n)) d.world q _ (λ k s link there.
      let more : Amount = plus s.donation (amount n (upgrade_caps (interface_in s.service d.system.interfaces) s.level)) in
      ready_ends d t (Upgrade place n) q k (record s { donation = more }) (with_session d.world k (record s { donation = more }))
      (given_ready place q at k s link there (Upgrade place n) at more (s, more, there, link, refl)) Ask_upgrade refl d.leaf.operands))

  call_asked : (place : OperandSlot) → Ends (HasAsked d (Call place)) (call d place)
  call_asked place =
      pop_ends (HasAsked d (Call place)) _ _ (λ a rest. need_found (HasAsked d (Call place)) _ _ _
      (λ q at. link_found (HasAsked d (Call place)) d.world q _ (λ k s link there.
      ready_ends d t (Call place) q k s d.world (same_ready place q at k s link there (Call place) at (there, link)) (Ask_call a) (a, refl) rest)))

  close_asked : (place : OperandSlot) → Ends (HasAsked d (Close place)) (close d place)
  close_asked place =
      need_found (HasAsked d (Close place)) _ _ _ (λ q at. link_found (HasAsked d (Close place)) d.world q _ (λ k s link there.
      ready_ends d t (Close place) q k s d.world (same_ready place q at k s link there (Close place) at (there, link)) Ask_close refl d.leaf.operands))

  module _ (component : slice_get d.system.components d.x ≡ Some d.component) where
    -- of a new session
    new_ready : (place : OperandSlot) (service : List ℕ) (n : ℕ) (q : SlotId) (at : slot_id_of d.x d.leaf.current place ≡ Some q)
        (empty : slot_at d.world q ≡ Some Empty)
        (given : Amount) (server : ℕ) (found : server_of d.system d.component service ≡ Some server)
        → IsReady d (Open place service n) q (free_place d.world.sessions) (new_session d.x q server service given)
        (added d u active h component place q at empty service given server found)
    new_ready place service n q at empty given server found =
        let k = free_place d.world.sessions in
        let r = ready d u active h component place q at empty service given server found in
        let mine = mine_by d.x d.leaf.current place q at (not_object d u active h component place q at empty service given server found) in
        let put = written d.world q (Waiting k) d.x t.old t.there (mine_is d.x d.leaf.current q mine) in
        record {
          mine = mine;
          slot_id = at;
          slot = Empty;
          was_there = empty;
          was = (server, given, free_at d.world.sessions, empty, found, refl);
          free = record { no_current = r.no_current; no_request = r.no_request; names = r.names };
          client = refl;
          old = _;
          leaf = put.there;
          leaves = put.leaves;
          found = added_here d u active h component place q at empty service given server found;
          sessions = λ j ne. ap (session_then q (Waiting k) j) (added_else d u active h component place q at empty service given server found j ne
              ∙ put.sessions j) ∙ then_twice q (Waiting k) j (session_at d.world j);
          requests = put.requests;
        }

    open_asked : (place : OperandSlot) (service : List ℕ) (n : ℕ) → Ends (HasAsked d (Open place service n)) (open_session d place service n)
    open_asked place service n =
        need_found (HasAsked d (Open place service n)) _ _ _
        (λ q at. fill_found (HasAsked d (Open place service n)) d.world q _ _
        (λ empty. need_found (HasAsked d (Open place service n)) _ _ _ (λ server found.
        let k = free_place d.world.sessions in
        let given : Amount = amount n (open_caps (interface_in service d.system.interfaces)) in
        ready_ends d t (Open place service n) q k (new_session d.x q server service given)
        (added d u active h component place q at empty service given server found)
        (new_ready place service n q at empty given server found) Ask_open refl d.leaf.operands)))

    asked_ends : (i : Instruction) (ask : Ask) → IsAsk i ask → Ends (HasAsked d i) (instruct d i)
    asked_ends (Open place service n) ask is = open_asked place service n
    asked_ends (Upgrade place n) ask is = upgrade_asked place n
    asked_ends (Call place) ask is = call_asked place
    asked_ends (Close place) ask is = close_asked place
    asked_ends _ ask is = absurd is

last_same : (items : List Request) (a b : Request) → items ++ a ∷ [] ≡ items ++ b ∷ [] → a ≡ b
last_same [] a b e = first e
  where
    first : {a b : Request} → a ∷ [] ≡ b ∷ [] → a ≡ b
    first e = cc
last_same (r ∷ rest) a b e = last_same rest a b (tail e)
  where
    tail : {r : Request} {l m : List Request} → r ∷ l ≡ r ∷ m → l ≡ m
    tail e = cc

-- the session for whose reply the leaf waits is the one that was asked, and so is what it waits for
pub asks_asked : (promised : ℕ → Option Kind) (c : Context) (d : Doing) (i : Instruction) (new : AbstractState) → TakesLeaf d → IsLinkedWorld d.system d.world
    → d.leaf.phase ≢ Blocked → slice_get d.system.components d.x ≡ Some d.component
    → (w : World) (event : Event) → instruct d i ≡ Ok (w, event) → (a : Awaits promised c new i d w) → (r : Asked d i a.k a.session w) × (r.ask ≡ a.ask)
asks_asked promised c d i new t h active component w event e a =
    let r = (asked_ends d t active h component i a.ask a.is).holds w event e in
    let last = last_same d.world.requests (record { session = r.0; ask = r.2.ask }) (record { session = a.k; ask = a.ask }) (sym r.2.requests ∙ a.requests) in
    let same : r.0 ≡ a.k = ap (λ (r : Request). r.session) last in
    let stands : r.1 ≡ a.session = some_same (sym r.2.found ∙ (ap (session_at w) same ∙ a.found)) in
    subst (λ s. (r : Asked d i a.k s w) × (r.ask ≡ a.ask)) stands
    (subst (λ k. (r : Asked d i k r.1 w) × (r.ask ≡ a.ask)) same (r.2, ap (λ (r : Request). r.ask) last))

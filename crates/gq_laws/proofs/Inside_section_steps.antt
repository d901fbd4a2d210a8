-- A step of a leaf inside in both worlds: requests that are accepted, replies, the end of `main`, and the step as a whole.
use Rattle.std.proofs.Common.{◌≡◌, ◌≢◌, ℕ, suc, ◌==◌, ◌||◌, ◌&&◌, Bool, true, false, cond, List, [], ◌∷◌, map, Option, Some, None, Ok, refl, ap, sym, ◌∙◌, zero}
use Rattle.std.proofs.Common.{subst}
use Rattle.std.proofs.lemmas.Option.{slice_get-map}
use Rattle.std.specs.Prelude.{option_map, nat_lt, slice_get}
use Rattle.gq_model.specs.declared.program.Form.TheVariants.{Block, Slice, Space}
use Rattle.gq_model.specs.declared.section.Section.{Section}
use Rattle.gq_model.specs.declared.section.Section.TheVariants.{Main, Opening, Upgrading, Calling, Closing, Reacting}
use Rattle.gq_model.specs.declared.phase.Phase.{Phase}
use Rattle.gq_model.specs.declared.phase.Phase.TheVariants.{Pending, Running, Blocked, Serving, Handling, Exited}
use Rattle.gq_model.specs.declared.fault.Wrong.TheVariants.{WrongKind, ExceededQuota, MissingSection}
use Rattle.gq_model.specs.machine.Program.{Statements, Done, Do, If, Loop, section_in, body_of, ◌then◌}
use Rattle.gq_model.specs.machine.Scenario.{System, Component}
use Rattle.gq_model.specs.machine.World.{Slot, Empty, Bytes, Pool, Waiting, Link, Session, Ask, Ask_open, Ask_upgrade, Ask_close, Ask_call, Request, Signal}
use Rattle.gq_model.specs.machine.World.{Current, Round, Leaf, World}
use Rattle.gq_model.specs.machine.World.{session_at, with_session, with_slot}
use Rattle.gq_model.specs.machine.Sums.{paid}
use Rattle.gq_model.specs.machine.Doing.{Doing, Quiet, Finished, Idle, Stepped, need, when, standing}
use Rattle.gq_model.specs.machine.Memory.{buffer_of}
use Rattle.gq_model.specs.machine.Requests.{free_place}
use Rattle.gq_model.specs.machine.Step.{oldest, section_for, first_operands, accepted_as, beginning, accept, is_empty, all_empty, is_space_of, serving, serve}
use Rattle.gq_model.specs.machine.Step.{first_signal, reacting_to}
use Rattle.gq_model.specs.machine.Step.{replied, reply, no_link, exited, exit_of, main_ended, section_ended, body_ended, chosen, perform}
use Rattle.gq_model.specs.machine.Step.{accept_oldest, step_in, step_of, next}
use Rattle.gq_laws.specs.Session_links.{outline, outline_in, AreLinked, IsLinkedWorld, links}
use Rattle.gq_laws.specs.Shapes.{Each}
use Rattle.gq_laws.specs.Inside_steps.{TakesLeaf}
use Rattle.gq_laws.proofs.step_shapes.Step_end_worlds.{closed}
use Rattle.gq_laws.proofs.session_links.Written_world_links.{slot_requests}
use Rattle.gq_laws.proofs.session_links.Linked_after_accept.{oldest_found}
use Rattle.gq_laws.specs.Separation.{own_session, own_requests, IsApart}
use Rattle.gq_laws.specs.Renamed.{renamed_slot, renamed_slot_id, renamed_current, renamed_leaf, renamed_session, renamed_request}
use Rattle.gq_laws.specs.internal.Corresponding.{own_at, IsSame}
use Rattle.gq_laws.proofs.Session_renaming.{own_there}
use Rattle.gq_laws.proofs.Paired_step_outcomes.{Both, one_fails, both_give, same_need, both_when, both_pop}
use Rattle.gq_laws.proofs.Renamed_world_equality.{own_like, is_own, IsNear, same_active, same_released, same_session, same_closed, same_requests, same_slot}
use Rattle.gq_laws.proofs.Group_slots_sessions.{Owns, slot_owns, none_current}
use Rattle.gq_laws.proofs.Group_oldest_requests.{Found, to_own, Match, matched}
use Rattle.gq_laws.proofs.Inside_statement_both.{renamed_doing, stands, client_in, current_own, owner_near, both_instruct}

-- a request is taken up, and its session is this from then on
abbrev taken_up : Doing → Request → List Request → Session → Stepped
taken_up d r rest s =
    let section = section_for r.ask s.level in
    let body = section_in section d.component.node.program.sections in
    let leaf = beginning d.leaf (record { session = r.session; section = section }) (first_operands r.ask) (body_of body) in
    let w = with_session (record (standing d leaf) { requests = rest }) r.session s in
    when (paid d.system w) ExceededQuota (need body MissingSection (λ b. Ok (w, Quiet)))

-- acceptance does not look at the numbers of sessions, and leaves client and server
accepted_same : (system : System) (f : ℕ → ℕ) (ask : Ask) (s : Session)
    → renamed_session f (accepted_as system ask s) ≡ accepted_as system ask (renamed_session f s)
accepted_same system f Ask_open s = refl
accepted_same system f Ask_upgrade s = refl
accepted_same system f Ask_close s = refl
accepted_same system f (Ask_call value) s = refl

accepted_client : (system : System) (ask : Ask) (s : Session) → (accepted_as system ask s).client ≡ s.client
accepted_client system Ask_open s = refl
accepted_client system Ask_upgrade s = refl
accepted_client system Ask_close s = refl
accepted_client system (Ask_call value) s = refl

accepted_server : (system : System) (ask : Ask) (s : Session) → (accepted_as system ask s).server ≡ s.server
accepted_server system Ask_open s = refl
accepted_server system Ask_upgrade s = refl
accepted_server system Ask_close s = refl
accepted_server system (Ask_call value) s = refl

module _ (group : ℕ → Bool) (f : ℕ → ℕ) (d : Doing) (v : World) (t : TakesLeaf d) (linked : AreLinked d.system (links d.world))
    (linked_v : AreLinked d.system (links v)) (apart : IsApart d.system group) (inside : group d.x ≡ true)
    (pays : (z : World) → paid d.system z ≡ true) (h : IsSame group f d.world v) where
  abbrev e : Doing
  e = renamed_doing f v d

  abbrev K : World → World → Type 0
  K w z = IsSame group f w z

  stand : (leaf : Leaf) → K (standing d leaf) (standing e (renamed_leaf f leaf))
  stand leaf = stands group f d v t linked linked_v apart inside pays h leaf

  -- SLOTS

  space_same : (n : ℕ) (o : Option Slot) → is_space_of n (option_map (renamed_slot f) o) ≡ is_space_of n o
  space_same n None = refl
  space_same n (Some Empty) = refl
  space_same n (Some (Bytes Space m bytes)) = refl
  space_same n (Some (Bytes Slice m bytes)) = refl
  space_same n (Some (Bytes Block m bytes)) = refl
  space_same n (Some (Pool m entries)) = refl
  space_same n (Some (Link k)) = refl
  space_same n (Some (Waiting k)) = refl

  first_space : (n : ℕ) (slots : List Slot) → is_space_of n (slice_get (map (renamed_slot f) slots) 0) ≡ is_space_of n (slice_get slots 0)
  first_space n slots = ap (is_space_of n) (slice_get-map (renamed_slot f) slots 0) ∙ space_same n (slice_get slots 0)

  empty_slot : (slot : Slot) → is_empty (renamed_slot f slot) ≡ is_empty slot
  empty_slot Empty = refl
  empty_slot (Bytes form n bytes) = refl
  empty_slot (Pool n entries) = refl
  empty_slot (Link k) = refl
  empty_slot (Waiting k) = refl

  empty_same : (slots : List Slot) → all_empty (map (renamed_slot f) slots) ≡ all_empty slots
  empty_same [] = refl
  empty_same (slot ∷ slots) = λ t. empty_slot slot t && empty_same slots t

  links_same : (slots : List Slot) → no_link (map (renamed_slot f) slots) ≡ no_link slots
  links_same [] = refl
  links_same (Empty ∷ slots) = links_same slots
  links_same (Bytes form n bytes ∷ slots) = links_same slots
  links_same (Pool n entries ∷ slots) = links_same slots
  links_same (Link k ∷ slots) = refl
  links_same (Waiting k ∷ slots) = links_same slots

  -- ACCEPTANCE

  both_taken : (r : Request) (rest left : List Request) (old s : Session) → own_at group d.world.sessions r.session ≡ Some old
      → own_session group (Some s) ≡ Some s → own_requests group v left ≡ map (renamed_request f) (own_requests group d.world rest)
      → Both K (taken_up d r rest s) (taken_up e (renamed_request f r) left (renamed_session f s))
  both_taken r rest left old s was own same =
      let section = section_for r.ask s.level in
      let body = section_in section d.component.node.program.sections in
      let leaf = beginning d.leaf (record { session = r.session; section = section }) (first_operands r.ask) (body_of body) in
      let w : World = record (standing d leaf) { requests = rest } in
      let z : World = record (standing e (renamed_leaf f leaf)) { requests = left } in
      let new = with_session w r.session s in
      let new_v = with_session z (f r.session) (renamed_session f s) in
      both_when K (paid d.system new) (paid d.system new_v) ExceededQuota ExceededQuota (need body MissingSection (λ b. Ok (new, Quiet)))
      (need body MissingSection (λ b. Ok (new_v, Quiet))) (λ i. pays new_v)
      (same_need K body MissingSection (λ b. Ok (new, Quiet)) (λ b. Ok (new_v, Quiet)) (λ b. both_give K new new_v Quiet
      (same_session group f w z (same_requests group f (standing d leaf) (standing e (renamed_leaf f leaf)) rest left same (stand leaf))
      r.session old was s own)))

  both_accept : (r : Request) (rest left : List Request) → Owns group d.world.sessions r.session
      → own_requests group v left ≡ map (renamed_request f) (own_requests group d.world rest)
      → Both K (accept d r rest) (accept e (renamed_request f r) left)
  both_accept r rest left o same =
      let old = o.0 in
      let s = accepted_as d.system r.ask old in
      let own = own_like group old s (accepted_client d.system r.ask old) (accepted_server d.system r.ask old) (is_own group d.world r.session old o.1) in
      subst (λ p. Both K (need p WrongKind (λ old. taken_up d r rest (accepted_as d.system r.ask old))) (accept e (renamed_request f r) left))
      (sym (own_there group (session_at d.world r.session) old o.1))
      (subst (λ p. Both K (taken_up d r rest s)
      (need p WrongKind (λ old. taken_up e (renamed_request f r) left (accepted_as d.system r.ask old))))
      (sym (own_there group (session_at v (f r.session)) (renamed_session f old) (h.sessions.there r.session old o.1)))
      (subst (λ u. Both K (taken_up d r rest s) (taken_up e (renamed_request f r) left u)) (accepted_same d.system f r.ask old)
      (both_taken r rest left old s o.1 own same)))

  oldest_by : (o q : Found) → oldest d.world d.x d.world.requests ≡ o → Match group d.x inside f d.world v h o q
      → Both K (accept_oldest d o) (accept_oldest e q)
  oldest_by None None found m = both_give K d.world v Idle h
  oldest_by None (Some q) found m = absurd m
  oldest_by (Some p) None found m = absurd m
  oldest_by (Some p) (Some q) found m =
      let to = (oldest_found (λ r. Unit {0}) d.world d.x d.world.requests p found).to in
      let o = to_own group d.x inside (session_at d.world p.0.session) to in
      subst (λ r. Both K (accept d p.0 p.1) (accept e r q.1)) (sym m.request) (both_accept p.0 p.1 q.1 o m.left)

  -- REPLIES

  module _ (g : Current) (at : d.leaf.current ≡ Some g) (s : Session) (own : own_at group d.world.sessions g.session ≡ Some s) where
    there : session_at d.world g.session ≡ Some s
    there = own_there group (session_at d.world g.session) s own

    client : group s.client ≡ true
    client = client_in group f d v t linked linked_v apart inside pays h g.session s own

    near : IsNear group d.world.sessions s.slot_id
    near = owner_near group f d v t linked linked_v apart inside pays h s.slot_id s.client client (linked.belongs g.session (outline s) (ap outline_in there))

    written : (slot : Slot) → K (with_slot (standing d (serving d.leaf)) s.slot_id slot)
        (with_slot (standing e (serving e.leaf)) (renamed_slot_id f s.slot_id) (renamed_slot f slot))
    written slot = same_slot group f (standing d (serving d.leaf)) (standing e (serving e.leaf)) s.slot_id slot near (stand (serving d.leaf))

    both_replied : (go : List ℕ → List ℕ) → Both K (replied d g.session s go) (replied e (f g.session) (renamed_session f s) go)
    both_replied go = both_give K _ _ Quiet (same_active group f _ _ s.client go client (written (Link g.session)))

    ended : K (closed d g.session s) (closed e (f g.session) (renamed_session f s))
    ended =
        let o = slot_owns group (standing d (serving d.leaf)) s.slot_id Empty g.session (s, own) in
        same_active group f _ _ s.client (λ operands. operands) client
        (same_closed group f (with_slot (standing d (serving d.leaf)) s.slot_id Empty)
        (with_slot (standing e (serving e.leaf)) (renamed_slot_id f s.slot_id) Empty)
        (written Empty) g.session o.0 o.1 none none_v)
      where
        none : Each (λ r. r.session ≢ g.session) (with_slot (standing d (serving d.leaf)) s.slot_id Empty).requests
        none = subst (λ rs. Each (λ r. r.session ≢ g.session) rs) (sym (slot_requests (standing d (serving d.leaf)) s.slot_id Empty))
            (none_current d.system d.world linked d.x t.old g t.there (sym t.current ∙ at))

        none_v : Each (λ r. r.session ≢ f g.session) (with_slot (standing e (serving e.leaf)) (renamed_slot_id f s.slot_id) Empty).requests
        none_v = subst (λ rs. Each (λ r. r.session ≢ f g.session) rs) (sym (slot_requests (standing e (serving e.leaf)) (renamed_slot_id f s.slot_id) Empty))
            (none_current d.system v linked_v d.x (renamed_leaf f t.old) (renamed_current f g)
            (h.leaves d.x inside ∙ ap (option_map (renamed_leaf f)) t.there) (ap (option_map (renamed_current f)) (sym t.current ∙ at)))

    both_reply : (section : Section) → Both K (reply d g.session section s) (reply e (f g.session) section (renamed_session f s))
    both_reply Main = one_fails K WrongKind _
    both_reply Opening =
        let n = buffer_of d.system s.service in
        both_when K (n == 0 || is_space_of n (slice_get s.slots 0)) (n == 0 || is_space_of n (slice_get (map (renamed_slot f) s.slots) 0)) WrongKind WrongKind
        _ _ (λ i. ap (λ b. n == 0 || b) (first_space n s.slots) ∙ i) (both_replied (λ operands. operands))
    both_reply (Upgrading l) = both_replied (λ operands. operands)
    both_reply (Calling l) = both_pop K d.leaf.operands (λ a rest. replied d g.session s (λ operands. a ∷ operands))
        (λ a rest. replied e (f g.session) (renamed_session f s) (λ operands. a ∷ operands)) (λ a rest. both_replied (λ operands. a ∷ operands))
    both_reply (Closing l) = both_when K (all_empty s.slots) (all_empty (map (renamed_slot f) s.slots)) WrongKind WrongKind _ _
        (λ i. empty_same s.slots ∙ i)
        (both_when K (paid d.system (closed d g.session s)) (paid d.system (closed e (f g.session) (renamed_session f s))) ExceededQuota ExceededQuota _ _
        (λ i. pays (closed e (f g.session) (renamed_session f s)))
        (both_give K (closed d g.session s) (closed e (f g.session) (renamed_session f s)) Quiet ended))
    both_reply (Reacting i) = one_fails K WrongKind _

  -- THE END OF A SECTION

  both_main : (provides : Option (List ℕ)) (signals : ℕ) → Both K (main_ended d provides signals) (main_ended e provides signals)
  both_main (Some service) signals = both_give K _ _ Quiet (stand (serving d.leaf))
  both_main None (suc n) = both_give K _ _ Quiet (stand (serving d.leaf))
  both_main None zero = both_when K (no_link d.leaf.slots) (no_link e.leaf.slots) WrongKind WrongKind (Ok (exit_of d, Finished)) (Ok (exit_of e, Finished))
      (λ i. links_same d.leaf.slots ∙ i) (both_give K (exit_of d) (exit_of e) Finished
      (same_released group f (standing d (exited d.leaf)) (standing e (exited e.leaf)) d.component.node.name d.system.components (stand (exited d.leaf))))

  both_section : (current : Option Current) (reacting : Option ℕ) → d.leaf.current ≡ current
      → Both K (section_ended d current reacting) (section_ended e (option_map (renamed_current f) current) reacting)
  both_section None None at = both_main d.component.node.provides d.component.node.signals
  both_section None (Some i) at = both_give K _ _ Quiet (stand (serving d.leaf))
  both_section (Some g) reacting at =
      let o = current_own group f d v t linked linked_v apart inside pays h g at in
      subst (λ p. Both K (need p WrongKind (reply d g.session g.section)) (section_ended e (Some (renamed_current f g)) reacting))
      (sym (own_there group (session_at d.world g.session) o.0 o.1))
      (subst (λ p. Both K (reply d g.session g.section o.0) (need p WrongKind (reply e (f g.session) g.section)))
      (sym (own_there group (session_at v (f g.session)) (renamed_session f o.0) (h.sessions.there g.session o.0 o.1)))
      (both_reply g at o.0 o.1 g.section))

  both_body : (loops : List Round) → Both K (body_ended d loops) (body_ended e loops)
  both_body [] = both_section d.leaf.current d.leaf.reacting refl
  both_body (r ∷ loops) = by (nat_lt (suc r.round) r.count)
    where
      by : (b : Bool)
          → Both K (Ok (
            standing d (cond b (record d.leaf { todo = r.body; loops = record r { round = suc r.round } ∷ loops })
                (record d.leaf { todo = r.rest; loops = loops })),
            Quiet,
          ))
          (Ok (
            standing e (cond b (record e.leaf { todo = r.body; loops = record r { round = suc r.round } ∷ loops })
                (record e.leaf { todo = r.rest; loops = loops })),
            Quiet,
          ))
      by true = both_give K _ _ Quiet (stand (record d.leaf { todo = r.body; loops = record r { round = suc r.round } ∷ loops }))
      by false = both_give K _ _ Quiet (stand (record d.leaf { todo = r.rest; loops = loops }))

  -- STEPS

  module _ (fresh : f (free_place d.world.sessions) ≡ free_place v.sessions) where
    both_perform : (todo : Statements) → Both K (perform d todo) (perform e todo)
    both_perform Done = both_body d.leaf.loops
    both_perform (Do i rest) = both_instruct group f (record d { leaf = record d.leaf { todo = rest } }) v
        (record { old = t.old; there = t.there; slots = t.slots; phase = t.phase; current = t.current; reacting = t.reacting }) linked linked_v apart inside
        pays h fresh i
    both_perform (If arm other rest) =
        both_pop K d.leaf.operands (λ a below. Ok (standing d (record d.leaf { operands = below; todo = chosen a arm other then rest }), Quiet))
        (λ a below. Ok (standing e (record e.leaf { operands = below; todo = chosen a arm other then rest }), Quiet))
        (λ a below. both_give K _ _ Quiet (stand (record d.leaf { operands = below; todo = chosen a arm other then rest })))
    both_perform (Loop count body rest) =
        let entered : Round = record { round = 0; count = count; body = body; rest = rest } in
        both_give K _ _ Quiet (stand (record d.leaf { todo = body; loops = entered ∷ d.leaf.loops }))

    both_serve : (found : Option (ℕ × List Signal)) → Both K (serve d found) (serve e found)
    both_serve None = oldest_by (oldest d.world d.x d.world.requests) (oldest v d.x v.requests) refl (matched group d.x inside f d.world v h)
    both_serve (Some p) = by (section_in (Reacting p.0) d.component.node.program.sections)
      where
        by : (o : Option Statements)
            → Both K (need o MissingSection (λ body. Ok (standing d (reacting_to d.leaf p.0 p.1 body), Quiet)))
            (need o MissingSection (λ body. Ok (standing e (reacting_to e.leaf p.0 p.1 body), Quiet)))
        by None = one_fails K MissingSection _
        by (Some body) = both_give K _ _ Quiet (stand (reacting_to d.leaf p.0 p.1 body))

    both_step : (phase : Phase) → Both K (step_in d phase) (step_in e phase)
    both_step Pending = both_give K d.world v Idle h
    both_step Running = both_perform d.leaf.todo
    both_step Blocked = both_give K d.world v Idle h
    both_step Serving = both_serve (first_signal d.leaf.signals)
    both_step Handling = both_perform d.leaf.todo
    both_step Exited = both_give K d.world v Idle h

module _ (system : System) (group : ℕ → Bool) (f : ℕ → ℕ) (w v : World) (x : ℕ) (linked : IsLinkedWorld system w) (linked_v : IsLinkedWorld system v)
    (apart : IsApart system group) (inside : group x ≡ true) (pays : (z : World) → paid system z ≡ true) (h : IsSame group f w v)
    (fresh : f (free_place w.sessions) ≡ free_place v.sessions) where
  next_by : (c : Option Component) (leaf : Option Leaf) → slice_get w.leaves x ≡ leaf
      → Both (IsSame group f) (step_of system w x c leaf) (step_of system v x c (option_map (renamed_leaf f) leaf))
  next_by (Some c) (Some leaf) at =
      both_step group f (record { system = system; world = w; x = x; component = c; leaf = record leaf { steps = suc leaf.steps } }) v
      (record { old = leaf; there = at; slots = refl; phase = refl; current = refl; reacting = refl }) linked linked_v apart inside pays h fresh leaf.phase
  next_by (Some c) None at = both_give (IsSame group f) w v Idle h
  next_by None leaf at = both_give (IsSame group f) w v Idle h

  -- the step shows the same in both worlds, and leads to such worlds again
  pub both_next : Both (IsSame group f) (next system w x) (next system v x)
  both_next =
      subst (λ o. Both (IsSame group f) (next system w x) (step_of system v x (slice_get system.components x) o)) (sym (h.leaves x inside))
      (next_by (slice_get system.components x) (slice_get w.leaves x) refl)

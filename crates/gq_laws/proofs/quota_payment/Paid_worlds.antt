-- In each world that is reached every leaf is paid for.
use Rattle.std.proofs.Common.{◌≡◌, ◌≢◌, ℕ, zero, suc, ◌+◌, ◌≤◌, ◌&&◌, inl, inr, Bool, true, false, cond, nat_lt, List, [], ◌∷◌, length, length-set, replicate}
use Rattle.std.proofs.Common.{Option, Some, None, Ok, refl, ap, sym, ◌∙◌, subst, arith}
use Rattle.std.specs.Prelude.{slice_get, slice_set, sum_by}
use Rattle.std.proofs.lemmas.Bool.{leb-true, le-leb, false≢true}
use Rattle.std.proofs.lemmas.Bool.Decides.{eqb_tells}
use Rattle.std.proofs.lemmas.List.Sums.{sum_by-cons}
use Rattle.gq_model.specs.machine.Program.{Statements, Done, Do, If, Loop, section_in}
use Rattle.gq_model.specs.declared.program.Instruction.{Instruction}
use Rattle.gq_model.specs.declared.program.Instruction.TheVariants.{Say}
use Rattle.gq_model.specs.declared.section.Section.{Section}
use Rattle.gq_model.specs.declared.section.Section.TheVariants.{Main, Opening, Upgrading, Calling, Closing, Reacting}
use Rattle.gq_model.specs.declared.phase.Phase.{Phase}
use Rattle.gq_model.specs.declared.phase.Phase.TheVariants.{Pending, Running, Blocked, Serving, Handling, Exited}
use Rattle.gq_model.specs.declared.fault.Wrong.TheVariants.{WrongKind, ExceededQuota, MissingSection}
use Rattle.gq_model.specs.machine.Amounts.{Resource, Ram, Caps, part}
use Rattle.gq_model.specs.machine.Resource_prices.{heap, price_pool}
use Rattle.gq_model.specs.machine.Scenario.{System, Component, Scenario, components, system}
use Rattle.gq_model.specs.machine.Routes.{is_service, server_of}
use Rattle.gq_model.specs.machine.World.{Slot, Empty, Bytes, Pool, Link, SlotId, In_leaf, In_session, In_object, Session, Request, Current, Round, Leaf}
use Rattle.gq_model.specs.machine.World.{World, Signal}
use Rattle.gq_model.specs.machine.World.{joined, session_at, slot_at, with_leaf, start_leaf, start_leaves, start}
use Rattle.gq_model.specs.machine.Doing.{Doing, Event, Idle, Quiet, Finished, Stepped, need, when, standing, settled, fill}
use Rattle.gq_model.specs.machine.Sums.{slot_price, bank_price, donated, to_leaf, from_leaf, held, lent, received, handed, is_paid, are_paid, paid, with_peaks}
use Rattle.gq_model.specs.machine.Memory.{bytes_in, pool_in}
use Rattle.gq_model.specs.machine.Step.{oldest, no_link, released, all_released, exited, exit_of, serving, resumed, active_again, unblocked, all_empty, serve}
use Rattle.gq_model.specs.machine.Step.{first_signal, reacting_to}
use Rattle.gq_model.specs.machine.Step.{accept, replied, reply_close, reply, instruct, main_ended}
use Rattle.gq_model.specs.machine.Step.{section_ended, body_ended, perform, accept_oldest, step_in, step_of, next}
use Rattle.gq_laws.specs.Session_links.{Naming, Links, named, links, outline, outline_in, Belongs, AreLinked, IsLinkedWorld}
use Rattle.gq_laws.specs.Names.{NamesDiffer}
use Rattle.gq_laws.proofs.step_shapes.Step_end_shapes.{Ends, gives, fails, need_ends, need_found, when_ends, pop_ends, push_ends, link_in_ends, absent_ends}
use Rattle.gq_model.proofs.Small_facts.{some_same, none_some}
use Rattle.gq_laws.proofs.session_links.Asked_request_changes.{its_slot}
use Rattle.gq_laws.proofs.session_links.Written_world_links.{set_here, set_else, leaf_keeps_slots}
use Rattle.gq_laws.proofs.session_links.Link_free_statements.{when_found}
use Rattle.gq_laws.specs.Inside_steps.{TakesLeaf}
use Rattle.gq_laws.proofs.session_links.Linked_after_reply.{slot_of_naming}
use Rattle.gq_laws.proofs.session_links.Linked_worlds.{unnamed}
use Rattle.gq_laws.proofs.quota_payment.Written_world_prices.{IsNoDearer, same_price, leaf_no_dearer, slot_no_dearer, paid_one, paid_all, paid_each, still_paid}
use Rattle.gq_laws.proofs.quota_payment.Routed_server_provides.{server_provides}
use Rattle.gq_laws.proofs.step_shapes.Step_end_worlds.{section_taken, taken, closed, running_blocked, handling_blocked}

-- a leaf that lives is handed its whole quantum
pub handed_most : (phase : Phase) (quantum : ℕ) → handed phase quantum ≤ quantum
handed_most Pending q = omega arith
handed_most Running q = omega arith
handed_most Blocked q = omega arith
handed_most Serving q = omega arith
handed_most Handling q = omega arith
handed_most Exited q = omega arith

pub handed_resumed : (current : Option Current) (reacting : Option ℕ) (quantum : ℕ) → handed (resumed current reacting) quantum ≡ quantum
handed_resumed None None q = refl
handed_resumed None (Some i) q = refl
handed_resumed (Some g) reacting q = refl

-- UNTESTED STEPS

module _ (d : Doing) (t : TakesLeaf d) (peaks : d.leaf.peaks ≡ t.old.peaks) (h : paid d.system d.world ≡ true) where
  abbrev P : World → Type 0
  P w = paid d.system w ≡ true

  abbrev Q : World → Type 0
  Q = IsNoDearer d.world

  cheap : (v : World) → Q v → P v
  cheap v q = still_paid d.system d.world v q h

  unchanged : Q d.world
  unchanged = same_price d.world

  -- the leaf with the same memory, in a phase in which as much is handed to it
  stands_as : (leaf : Leaf) → leaf.slots ≡ d.leaf.slots → leaf.peaks ≡ d.leaf.peaks → ((q : ℕ) → handed d.leaf.phase q ≤ handed leaf.phase q)
      → Q (standing d leaf)
  stands_as leaf slots tops phase =
      leaf_no_dearer d.world d.world d.x t.old leaf t.there
      (record {
        own = λ r. (let same : sum_by (slot_price r) leaf.slots + heap r leaf.peaks ≡ sum_by (slot_price r) t.old.slots + heap r t.old.peaks =
            (λ i. sum_by (slot_price r) ((slots ∙ t.slots) i) + heap r ((tops ∙ peaks) i)) in omega (arith, same));
        phase = λ q. (let same : handed d.leaf.phase q ≡ handed t.old.phase q = ap (λ p. handed p q) t.phase in let le = phase q in omega (arith, same, le));
      }) unchanged

  stands : (leaf : Leaf) → leaf.slots ≡ d.leaf.slots → leaf.peaks ≡ d.leaf.peaks → leaf.phase ≡ d.leaf.phase → Q (standing d leaf)
  stands leaf slots tops phase = stands_as leaf slots tops
      (λ q. (let same : handed leaf.phase q ≡ handed d.leaf.phase q = ap (λ p. handed p q) phase in omega (arith, same)))

  tested : (w : World) (e : Event) → Ends P (when (paid d.system w) ExceededQuota (Ok (w, e)))
  tested w e = when_found P (paid d.system w) ExceededQuota _ (λ p. gives w e p)

  settled_ends : (x : ℕ) (w : World) → Ends P (settled d.system x w)
  settled_ends x w = need_ends P _ _ _ (λ leaf. tested (with_leaf w x (with_peaks w x leaf)) Quiet)

  fill_ends : (w : World) (q : SlotId) (o : Option Slot) (slot : Slot) (go : World → Stepped) → ((v : World) → Ends P (go v)) → Ends P (fill w q o slot go)
  fill_ends w q (Some Empty) slot go k = k _
  fill_ends w q _ slot go k = fails _

  bytes_ends : (w : World) (q : SlotId) (go : List ℕ → (List ℕ → World) → Stepped) → Q w
      → ((bytes : List ℕ) (put : List ℕ → World) → ((new : List ℕ) → Q (put new)) → Ends P (go bytes put)) → Ends P (bytes_in w q (slot_at w q) go)
  bytes_ends w q go n k = by (slot_at w q) refl
    where
      by : (o : Option Slot) → slot_at w q ≡ o → Ends P (bytes_in w q o go)
      by (Some (Bytes form m bytes)) e = k bytes _ (λ new. slot_no_dearer d.world w q (Bytes form m bytes) (Bytes form m new) e (λ r. omega arith) n)
      by _ e = fails _

  pool_ends : (w : World) (q : SlotId) (go : ℕ → List (Option (List ℕ)) → (List (Option (List ℕ)) → World) → Stepped) → Q w
      → ((m : ℕ) (entries : List (Option (List ℕ))) (put : List (Option (List ℕ)) → World)
      → ((new : List (Option (List ℕ))) → length new ≡ length entries → Q (put new)) → Ends P (go m entries put)) → Ends P (pool_in w q (slot_at w q) go)
  pool_ends w q go n k = by (slot_at w q) refl
    where
      by : (o : Option Slot) → slot_at w q ≡ o → Ends P (pool_in w q o go)
      by (Some (Pool m entries)) e = k m entries _ (λ new same.
          slot_no_dearer d.world w q (Pool m entries) (Pool m new) e
          (λ r. (let price : slot_price r (Pool m new) ≡ slot_price r (Pool m entries) = ap (price_pool r) same in omega (arith, price))) n)
      by _ e = fails _

  instruct_ends : (i : Instruction) → Ends P (instruct d i)
  instruct_ends (Say text) = gives _ _ (cheap _ (stands d.leaf refl refl refl))
  instruct_ends i = search (
    need_ends,
    when_ends,
    pop_ends,
    push_ends,
    link_in_ends,
    absent_ends,
    fill_ends,
    bytes_ends,
    pool_ends,
    gives,
    cheap,
    stands,
    tested,
    settled_ends,
    unchanged,
    length-set,
  ) depth 14

  -- SECTIONS

  body_next_ends : (r : Round) (loops : List Round) → Ends P (body_ended d (r ∷ loops))
  body_next_ends r loops = by_round (nat_lt (suc r.round) r.count)
    where
      by_round : (b : Bool) → Ends P (Ok (
        standing d (cond b (record d.leaf { todo = r.body; loops = record r { round = suc r.round } ∷ loops })
            (record d.leaf { todo = r.rest; loops = loops })),
        Quiet,
      ))
      by_round true = gives _ Quiet (cheap _ (stands _ refl refl refl))
      by_round false = gives _ Quiet (cheap _ (stands _ refl refl refl))

  serves : Q (standing d (serving d.leaf))
  serves = stands_as (serving d.leaf) refl refl (handed_most d.leaf.phase)

  resumes : (w : World) (x : ℕ) (f : List ℕ → List ℕ) → Q w → Q (unblocked w x f)
  resumes w x f q = go (slice_get w.leaves x) refl
    where
      go : (o : Option Leaf) → slice_get w.leaves x ≡ o → Q (active_again w x f o)
      go None e = q
      go (Some leaf) e =
          leaf_no_dearer d.world w x leaf (record leaf { phase = resumed leaf.current leaf.reacting; operands = f leaf.operands }) e
          (record {
            own = λ r. omega arith;
            phase = λ n. (let most = handed_most leaf.phase n in let all = handed_resumed leaf.current leaf.reacting n in
                omega (arith, most, all));
          }) q

  accept_ends : (r : Request) (rest : List Request) → Ends P (accept d r rest)
  accept_ends r rest = need_ends P (session_at d.world r.session) WrongKind _ (λ old. taken_ends old)
    where
      taken_ends : (old : Session) → Ends P (when (paid d.system (taken d r rest old)) ExceededQuota
          (need (section_in (section_taken d r old) d.component.node.program.sections) MissingSection (λ b. Ok (taken d r rest old, Quiet))))
      taken_ends old =
          when_found P (paid d.system (taken d r rest old)) ExceededQuota
          (need (section_in (section_taken d r old) d.component.node.program.sections) MissingSection (λ b. Ok (taken d r rest old, Quiet)))
          (λ p. need_ends P (section_in (section_taken d r old) d.component.node.program.sections) MissingSection (λ b. Ok (taken d r rest old, Quiet))
          (λ b. gives (taken d r rest old) Quiet p))

  module _ (linked : AreLinked d.system (links d.world)) where
    replied_ends : (k : ℕ) (s : Session) (f : List ℕ → List ℕ) → session_at d.world k ≡ Some s → Ends P (replied d k s f)
    replied_ends k s f there = gives _ Quiet (cheap _ (resumes _ s.client f
        (slot_no_dearer d.world (standing d (serving d.leaf)) s.slot_id old.0 (Link k) old.1 (λ r. omega arith) serves)))
      where
        old : (slot : Slot) × (slot_at (standing d (serving d.leaf)) s.slot_id ≡ Some slot)
        old =
            let n = its_slot d.system (links d.world) linked k (outline s) (ap outline_in there) in
            let o = slot_of_naming (slot_at d.world s.slot_id) n.0 n.1 in
            (o.0, leaf_keeps_slots d.world d.x t.old (serving d.leaf) t.there t.slots s.slot_id ∙ o.1)

    close_ends : (k : ℕ) (s : Session) → Ends P (reply_close d k s)
    close_ends k s = when_ends P (all_empty s.slots) WrongKind (when (paid d.system (closed d k s)) ExceededQuota (Ok (closed d k s, Quiet)))
        (tested (closed d k s) Quiet)

    reply_ends : (k : ℕ) (section : Section) (s : Session) → session_at d.world k ≡ Some s → Ends P (reply d k section s)
    reply_ends k Main s there = fails WrongKind
    reply_ends k Opening s there = when_ends P _ _ _ (replied_ends k s _ there)
    reply_ends k (Upgrading l) s there = replied_ends k s _ there
    reply_ends k (Calling l) s there = pop_ends P _ _ (λ a rest. replied_ends k s _ there)
    reply_ends k (Closing l) s there = close_ends k s
    reply_ends k (Reacting i) s there = fails WrongKind

-- EXIT

-- sums over the sessions to a leaf, or from it, where there is none
none_to : (f : Session → ℕ) (x : ℕ) (sessions : List (Option Session)) → ((k : ℕ) (s : Session) → joined (slice_get sessions k) ≡ Some s → s.server ≢ x)
    → sum_by (to_leaf x f) sessions ≡ 0
none_to f x [] h = refl
none_to f x (o ∷ rest) h = let further = none_to f x rest (λ k s e. h (suc k) s e) in let first = by o (λ s e. h 0 s e) in
    omega (arith, sum_by-cons (to_leaf x f) o rest, further, first)
  where
    by : (o : Option Session) → ((s : Session) → o ≡ Some s → s.server ≢ x) → to_leaf x f o ≡ 0
    by None g = refl
    by (Some s) g = elim (eqb_tells s.server x) [ inl e ↦ absurd (g s refl e.1) | inr e ↦ ap (λ b. cond b (f s) 0) e.0 ]

none_from : (f : Session → ℕ) (x : ℕ) (sessions : List (Option Session)) → ((k : ℕ) (s : Session) → joined (slice_get sessions k) ≡ Some s → s.client ≢ x)
    → sum_by (from_leaf x f) sessions ≡ 0
none_from f x [] h = refl
none_from f x (o ∷ rest) h = let further = none_from f x rest (λ k s e. h (suc k) s e) in let first = by o (λ s e. h 0 s e) in
    omega (arith, sum_by-cons (from_leaf x f) o rest, further, first)
  where
    by : (o : Option Session) → ((s : Session) → o ≡ Some s → s.client ≢ x) → from_leaf x f o ≡ 0
    by None g = refl
    by (Some s) g = elim (eqb_tells s.client x) [ inl e ↦ absurd (g s refl e.1) | inr e ↦ ap (λ b. cond b (f s) 0) e.0 ]

-- nothing is held by empty slots and peaks of 0
free_slots : (r : Resource) → sum_by (slot_price r) (replicate 64 Empty) ≡ 0
free_slots Ram = refl
free_slots Caps = refl

free_heap : (r : Resource) → heap r (replicate 8 0) ≡ 0
free_heap Ram = refl
free_heap Caps = refl

-- a leaf that was released holds what it held, and as much is handed to it
record Was (leaves : List Leaf) (y : ℕ) (new : Leaf) : Type 0 where
  old : Leaf
  there : slice_get leaves y ≡ Some old
  slots : new.slots ≡ old.slots
  peaks : new.peaks ≡ old.peaks
  phase : (q : ℕ) → handed old.phase q ≤ handed new.phase q
  gone : old.phase ≡ Exited → new.phase ≡ Exited

released_phase : (name : List ℕ) (after : Option (List ℕ)) (phase : Phase)
    → ((q : ℕ) → handed phase q ≤ handed (released name after phase) q) × (phase ≡ Exited → released name after phase ≡ Exited)
released_phase name after Pending = ((λ q. omega arith), λ e. absurd (pending_exited e))
  where
    pending_exited : Pending ≡ Exited → ⊥
    pending_exited e = cc
released_phase name after Running = ((λ q. omega arith), λ e. e)
released_phase name after Blocked = ((λ q. omega arith), λ e. e)
released_phase name after Serving = ((λ q. omega arith), λ e. e)
released_phase name after Handling = ((λ q. omega arith), λ e. e)
released_phase name after Exited = ((λ q. omega arith), λ e. e)

was_released : (name : List ℕ) (cs : List Component) (leaves : List Leaf) (y : ℕ) (new : Leaf) → slice_get (all_released name cs leaves) y ≡ Some new
    → Was leaves y new
was_released name [] leaves y new e = record { old = new; there = e; slots = refl; peaks = refl; phase = λ q. omega arith; gone = λ e. e }
was_released name (c ∷ cs) [] y new e = absurd (none_some e)
was_released name (c ∷ cs) (leaf ∷ leaves) zero new e =
    subst (Was (leaf ∷ leaves) 0) (some_same e) (record { old = leaf; there = refl; slots = refl; peaks = refl; phase = phases.0; gone = phases.1 })
  where
    phases : ((q : ℕ) → handed leaf.phase q ≤ handed (released name c.node.after leaf.phase) q)
        × (leaf.phase ≡ Exited → released name c.node.after leaf.phase ≡ Exited)
    phases = released_phase name c.node.after leaf.phase
was_released name (c ∷ cs) (leaf ∷ leaves) (suc y) new e = let u = was_released name cs leaves y new e in
    record { old = u.old; there = u.there; slots = u.slots; peaks = u.peaks; phase = u.phase; gone = u.gone }

module _ (s : Scenario) (differ : NamesDiffer s) (d : Doing) (of : d.system ≡ system s) (t : TakesLeaf d) (peaks : d.leaf.peaks ≡ t.old.peaks)
    (h : paid d.system d.world ≡ true) (linked : AreLinked d.system (links d.world)) (component : slice_get d.system.components d.x ≡ Some d.component) where
  abbrev L : Links
  L = links d.world

  module _ (alone : d.component.node.provides ≡ None) (active : d.leaf.phase ≢ Blocked) (current : d.leaf.current ≡ None)
      (bare : no_link d.leaf.slots ≡ true) where
    -- no session is to this leaf
    no_session_to : (k : ℕ) (u : Session) → session_at d.world k ≡ Some u → u.server ≢ d.x
    no_session_to k u e same =
        let r = linked.routed k (outline u) (ap outline_in e) in
        let provides = server_provides s differ u.client d.x r.0 d.component u.service (ap (λ (a : System). slice_get a.components u.client) (sym of) ∙ r.1)
        (ap (λ a. server_of a r.0 u.service) (sym of) ∙ r.2 ∙ ap Some same) (ap (λ (a : System). slice_get a.components d.x) (sym of) ∙ component) in
        false≢true (ap (λ o. is_service o u.service) (sym alone) ∙ provides)

    -- and none is from it
    no_session_from : (k : ℕ) (u : Session) → session_at d.world k ≡ Some u → u.client ≢ d.x
    no_session_from k u e same = by u.slot_id refl (linked.belongs k (outline u) (ap outline_in e))
      where
        n : (n : Naming) × (L.slots u.slot_id ≡ Some n) × (named n ≡ k)
        n = its_slot d.system L linked k (outline u) (ap outline_in e)

        by : (q : SlotId) → u.slot_id ≡ q → Belongs L q u.client → ⊥
        by (In_leaf y i) at b = none_some (sym (unnamed d t active linked current bare i) ∙ ap (λ y. L.slots (In_leaf y i)) (sym same ∙ sym b)
            ∙ ap L.slots (sym at) ∙ n.1)
        by (In_session j i) at b = found (session_at d.world j) refl b.1
          where
            found : (o : Option Session) → session_at d.world j ≡ o → outline_in o ≡ Some b.0 → ⊥
            found None f g = none_some g
            found (Some v) f g = no_session_to j v f (ap (λ (s : Session). s.server) (some_same g) ∙ b.3 ∙ same)
        by (In_object j) at b = b

    exit_paid : paid d.system (exit_of d) ≡ true
    exit_paid = paid_all d.system.counted (exit_of d) 0 d.system.components (exit_of d).leaves one
      where
        one : (i : ℕ) (c : Component) (leaf : Leaf) → slice_get d.system.components i ≡ Some c → slice_get (exit_of d).leaves i ≡ Some leaf → (x : ℕ)
            → x ≡ 0 + i → are_paid (exit_of d) x c leaf d.system.counted ≡ true
        one i c leaf e f x at = elim (eqb_tells i d.x) [ inl same ↦ here same.1 | inr other ↦ there other.1 ]
          where
            place : i ≡ x
            place = omega (arith, at)

            before : Was (standing d (exited d.leaf)).leaves i leaf
            before = was_released d.component.node.name d.system.components (standing d (exited d.leaf)).leaves i leaf f

            here : i ≡ d.x → are_paid (exit_of d) x c leaf d.system.counted ≡ true
            here same = each d.system.counted
              where
                mine : before.old ≡ exited d.leaf
                mine = some_same (sym before.there ∙ ap (slice_get (slice_set d.world.leaves d.x (exited d.leaf))) same
                    ∙ set_here d.world.leaves d.x (exited d.leaf) t.old t.there)

                free : (r : Resource) → held r (exit_of d) x leaf + lent r (exit_of d) x ≡ 0
                free r =
                    let slots : sum_by (slot_price r) leaf.slots ≡ 0 =
                    ap (sum_by (slot_price r)) (before.slots ∙ ap (λ (l : Leaf). l.slots) mine) ∙ free_slots r in
                    let tops : heap r leaf.peaks ≡ 0 = ap (heap r) (before.peaks ∙ ap (λ (l : Leaf). l.peaks) mine) ∙ free_heap r in
                    let to : sum_by (to_leaf x (bank_price r)) d.world.sessions ≡ 0 =
                    none_to (bank_price r) x d.world.sessions (λ k u g y. no_session_to k u g (y ∙ sym place ∙ same)) in
                    let from : sum_by (from_leaf x (donated r)) d.world.sessions ≡ 0 =
                    none_from (donated r) x d.world.sessions (λ k u g y. no_session_from k u g (y ∙ sym place ∙ same)) in
                    omega (arith, slots, tops, to, from)

                each : (resources : List Resource) → are_paid (exit_of d) x c leaf resources ≡ true
                each [] = refl
                each (r ∷ rest) = (λ j. le-leb (held r (exit_of d) x leaf + lent r (exit_of d) x)
                    (handed leaf.phase (part r c.node.quantum) + received r (exit_of d) x) (let zero_all = free r in omega (arith, zero_all)) j && each rest j)

            there : i ≢ d.x → are_paid (exit_of d) x c leaf d.system.counted ≡ true
            there ne = paid_each d.world (exit_of d) x c before.old leaf d.system.counted kept
                (paid_one d.system.counted d.world 0 d.system.components d.world.leaves h i c before.old e
                (sym (set_else d.world.leaves d.x i (exited d.leaf) ne) ∙ before.there) x at)
              where
                kept : (r : Resource) → is_paid d.world x c before.old r ≡ true → is_paid (exit_of d) x c leaf r ≡ true
                kept r p =
                    let was = leb-true (held r d.world x before.old + lent r d.world x)
                    (handed before.old.phase (part r c.node.quantum) + received r d.world x) p in
                    let slots : sum_by (slot_price r) leaf.slots ≡ sum_by (slot_price r) before.old.slots = ap (sum_by (slot_price r)) before.slots in
                    let tops : heap r leaf.peaks ≡ heap r before.old.peaks = ap (heap r) before.peaks in
                    let phase = before.phase (part r c.node.quantum) in
                    le-leb (held r (exit_of d) x leaf + lent r (exit_of d) x) (handed leaf.phase (part r c.node.quantum) + received r (exit_of d) x)
                    (omega (arith, was, slots, tops, phase))

  main_ends : d.leaf.phase ≢ Blocked → d.leaf.current ≡ None → (provides : Option (List ℕ)) (signals : ℕ) → d.component.node.provides ≡ provides
      → Ends (λ w. paid d.system w ≡ true) (main_ended d provides signals)
  main_ends active current (Some service) signals e = gives (standing d (serving d.leaf)) Quiet (cheap d t peaks h _ (serves d t peaks h))
  main_ends active current None (suc n) e = gives (standing d (serving d.leaf)) Quiet (cheap d t peaks h _ (serves d t peaks h))
  main_ends active current None zero e = when_found (λ w. paid d.system w ≡ true) (no_link d.leaf.slots) WrongKind _
      (λ bare. gives (exit_of d) Finished (exit_paid e active current bare))

  section_ends : d.leaf.phase ≢ Blocked → (current : Option Current) (reacting : Option ℕ) → d.leaf.current ≡ current
      → Ends (λ w. paid d.system w ≡ true) (section_ended d current reacting)
  section_ends active None None e = main_ends active e d.component.node.provides d.component.node.signals refl
  section_ends active None (Some i) e = gives (standing d (serving d.leaf)) Quiet (cheap d t peaks h _ (serves d t peaks h))
  section_ends active (Some g) reacting e = need_found (λ w. paid d.system w ≡ true) (session_at d.world g.session) WrongKind _
      (λ u there. reply_ends d t peaks h linked g.session g.section u there)

  body_ends : d.leaf.phase ≢ Blocked → (loops : List Round) → Ends (λ w. paid d.system w ≡ true) (body_ended d loops)
  body_ends active [] = section_ends active d.leaf.current d.leaf.reacting refl
  body_ends active (r ∷ loops) = body_next_ends d t peaks h r loops

  perform_ends : d.leaf.phase ≢ Blocked → (todo : Statements) → Ends (λ w. paid d.system w ≡ true) (perform d todo)
  perform_ends active Done = body_ends active d.leaf.loops
  perform_ends active (Do i rest) = instruct_ends (record d { leaf = record d.leaf { todo = rest } })
      (record { old = t.old; there = t.there; slots = t.slots; phase = t.phase; current = t.current; reacting = t.reacting }) peaks h i
  perform_ends active (If arm other rest) = pop_ends (λ w. paid d.system w ≡ true) _ _
      (λ a below. gives _ Quiet (cheap d t peaks h _ (stands d t peaks h _ refl refl refl)))
  perform_ends active (Loop count body rest) = gives _ Quiet (cheap d t peaks h _ (stands d t peaks h _ refl refl refl))

  oldest_ends : (found : Option (Request × List Request)) → Ends (λ w. paid d.system w ≡ true) (accept_oldest d found)
  oldest_ends None = gives d.world Idle h
  oldest_ends (Some p) = accept_ends d t peaks h p.0 p.1

  serve_ends : d.leaf.phase ≡ Serving → (found : Option (ℕ × List Signal)) → Ends (λ w. paid d.system w ≡ true) (serve d found)
  serve_ends serves None = oldest_ends (oldest d.world d.x d.world.requests)
  serve_ends serves (Some p) = need_ends (λ w. paid d.system w ≡ true) (section_in (Reacting p.0) d.component.node.program.sections) MissingSection _
      (λ body. gives _ Quiet (cheap d t peaks h _
      (stands_as d t peaks h (reacting_to d.leaf p.0 p.1 body) refl refl (λ q. let most = handed_most d.leaf.phase q in omega (arith, most)))))

  step_ends : (phase : Phase) → d.leaf.phase ≡ phase → Ends (λ w. paid d.system w ≡ true) (step_in d phase)
  step_ends Pending e = gives d.world Idle h
  step_ends Running e = perform_ends (λ b. running_blocked (sym e ∙ b)) d.leaf.todo
  step_ends Blocked e = gives d.world Idle h
  step_ends Serving e = serve_ends e (first_signal d.leaf.signals)
  step_ends Handling e = perform_ends (λ b. handling_blocked (sym e ∙ b)) d.leaf.todo
  step_ends Exited e = gives d.world Idle h

-- STEPS

module _ (s : Scenario) (differ : NamesDiffer s) where
  next_by : (w : World) (x : ℕ) (c : Option Component) (leaf : Option Leaf) → IsLinkedWorld (system s) w → paid (system s) w ≡ true
      → slice_get (components s) x ≡ c → slice_get w.leaves x ≡ leaf → Ends (λ v. paid (system s) v ≡ true) (step_of (system s) w x c leaf)
  next_by w x (Some c) (Some leaf) linked h component there =
      step_ends s differ (record { system = system s; world = w; x = x; component = c; leaf = record leaf { steps = suc leaf.steps } }) refl
      (record { old = leaf; there = there; slots = refl; phase = refl; current = refl; reacting = refl }) refl h linked component leaf.phase refl
  next_by w x (Some c) None linked h component there = gives w Idle h
  next_by w x None leaf linked h component there = gives w Idle h

  -- each step keeps each leaf paid
  pub kept_paid : (w : World) (x : ℕ) (new : World) (event : Event) → IsLinkedWorld (system s) w → paid (system s) w ≡ true
      → next (system s) w x ≡ Ok (new, event) → paid (system s) new ≡ true
  kept_paid w x new event linked h stepped = (next_by w x (slice_get (components s) x) (slice_get w.leaves x) linked h refl refl).holds new event stepped

-- THE START

-- a leaf holds nothing at the start
start_free : (r : Resource) (system : System) (x : ℕ) (c : Component) → held r (start system) x (start_leaf c) ≡ 0
start_free r system x c = let slots = free_slots r in let tops = free_heap r in omega (arith, slots, tops)

start_one : (system : System) (cs : List Component) (x : ℕ) (c : Component) (leaf : Leaf) (resources : List Resource)
    → slice_get (start_leaves cs) x ≡ Some leaf → (y : ℕ) → are_paid (start system) y c leaf resources ≡ true
start_one system [] x c leaf resources e y = absurd (none_some e)
start_one system (b ∷ cs) zero c leaf resources e y = subst (λ leaf. are_paid (start system) y c leaf resources ≡ true) (some_same e) (each resources)
  where
    each : (resources : List Resource) → are_paid (start system) y c (start_leaf b) resources ≡ true
    each [] = refl
    each (r ∷ rest) = (λ j. le-leb (held r (start system) y (start_leaf b) + lent r (start system) y)
        (handed (start_leaf b).phase (part r c.node.quantum) + received r (start system) y) (let free = start_free r system y b in omega (arith, free)) j
        && each rest j)
start_one system (b ∷ cs) (suc x) c leaf resources e y = start_one system cs x c leaf resources e y

pub start_paid : (system : System) → paid system (start system) ≡ true
start_paid system = paid_all system.counted (start system) 0 system.components (start system).leaves
    (λ i c leaf e f x at. start_one system system.components i c leaf system.counted f x)

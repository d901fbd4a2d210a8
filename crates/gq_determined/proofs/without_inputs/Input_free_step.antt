-- A step whose statement reads no input, in two worlds that are the same but for inputs: it shows the same, and leaves worlds that are the same but for inputs.
-- All is paid for there: so it is in a system in which nothing is counted.
use Rattle.std.proofs.Common.{inl, ◌≡◌, ℕ, suc, ◌++◌, true, false, List, [], ◌∷◌, Option, Some, None, Ok, refl, ap, sym, ◌∙◌, subst}
use Rattle.std.specs.Prelude.{option_map, slice_get, slice_set}
use Rattle.gq_model.specs.declared.fault.Wrong.TheVariants.{ExceededQuota, WrongKind}
use Rattle.gq_model.specs.declared.program.Instruction.{Instruction}
use Rattle.gq_model.specs.declared.program.OperandSlot.{OperandSlot}
use Rattle.gq_model.specs.declared.program.OperandSlot.TheVariants.{Own, Shared, Object}
use Rattle.gq_model.specs.machine.Doing.{Doing, Event, Quiet, if_paid, need, settled, standing}
use Rattle.gq_model.specs.machine.Program.{Statements, Do}
use Rattle.gq_model.specs.machine.Requests.{add_session, free_place}
use Rattle.gq_model.specs.machine.Scenario.{Component, System}
use Rattle.gq_model.specs.machine.Step.{all_released, exit_of, exited, is_to, next, oldest, serving, step_in, step_of, unblocked}
use Rattle.gq_model.specs.machine.Sums.{paid, with_peaks}
use Rattle.gq_model.specs.machine.World.{Slot, Empty, Waiting, Link, SlotId, Session, Request, Current, Leaf, World, session_at, slot_at, with_leaf}
use Rattle.gq_model.specs.machine.World.{with_session}
use Rattle.gq_model.specs.machine.World.{with_slot}
use Rattle.gq_laws.specs.Session_links.{Leads, stance, stance_in, naming_in, IsLinkedWorld}
use Rattle.gq_laws.specs.Inside_steps.{TakesLeaf}
use Rattle.gq_laws.specs.Renamed.{renamed_session, renamed_slot, renamed_slot_id}
use Rattle.gq_laws.proofs.Paired_step_outcomes.{Both, both_give, both_when, one_fails}
use Rattle.gq_laws.proofs.Outside_step_untouched.{outlined}
use Rattle.gq_laws.proofs.session_links.Linked_after_accept.{oldest_found}
use Rattle.gq_races.specs.Races.{reads_input}
use Rattle.gq_determined.specs.internal.Threads.{Accepts}
use Rattle.gq_determined.specs.internal.Unset.{unset_leaf, unset}
use Rattle.gq_determined.proofs.passing_threads.Kept_around.{AreTaken, IsKeptAround, Match, both_step}
use Rattle.gq_determined.proofs.passing_threads.Kept_by_steps.{Aside, IsKept, MayChange, other_doing, other_leaf}
use Rattle.gq_determined.proofs.thread_steps.Stateless_thread_agreement.{all_allowed, first_allowed}
use Rattle.gq_determined.proofs.thread_steps.Thread_reflexivity.{same, current_itself, leaf_itself, session_itself, slot_itself, slots_itself, slot_id_itself}
use Rattle.gq_determined.proofs.without_inputs.Worlds_without_inputs.{unset_oldest, unset_peaks, unset_released, unset_slot, unset_slot_at, unset_unblocked}
use Rattle.gq_determined.proofs.without_inputs.Worlds_without_inputs.{unset_with, other_there}

-- the same worlds but for inputs
abbrev pub SameUnset : World → World → Type 0
SameUnset w z = unset w ≡ unset z

-- CHANGES

-- a leaf that is the same but for its inputs
with_too : (w z : World) (x : ℕ) (a b : Leaf) → unset_leaf a ≡ unset_leaf b → SameUnset w z → SameUnset (with_leaf w x a) (with_leaf z x b)
with_too w z x a b alike k = unset_with w x a ∙ ((λ j. with_leaf (k j) x (alike j)) ∙ sym (unset_with z x b))

slot_too : (w z : World) (q p : SlotId) (slot other : Slot) → p ≡ q → other ≡ slot → SameUnset w z → SameUnset (with_slot w q slot) (with_slot z p other)
slot_too w z q p slot other slot_id is k = unset_slot w q slot ∙ ((λ j. with_slot (k j) (sym slot_id j) (sym is j)) ∙ sym (unset_slot z p other))

unblocked_too : (w z : World) (x : ℕ) (go : List ℕ → List ℕ) → SameUnset w z → SameUnset (unblocked w x go) (unblocked z x go)
unblocked_too w z x go k = unset_unblocked w x go ∙ (ap (λ w. unblocked w x go) k ∙ sym (unset_unblocked z x go))

session_too : (w z : World) (k : ℕ) (s t : Session) → t ≡ s → SameUnset w z → SameUnset (with_session w k s) (with_session z k t)
session_too w z k s t is same = λ j. with_session (same j) k (sym is j)

sessions_same : (w z : World) → SameUnset w z → z.sessions ≡ w.sessions
sessions_same w z k = ap (λ (v : World). v.sessions) (sym k)

requests_same : (w z : World) → SameUnset w z → z.requests ≡ w.requests
requests_same w z k = ap (λ (v : World). v.requests) (sym k)

oldest_too : (w z : World) (x : ℕ) → SameUnset w z → oldest z x z.requests ≡ oldest w x w.requests
oldest_too w z x k =
    sym (unset_oldest z x z.requests) ∙ (ap (λ (v : World). oldest v x v.requests) (sym k) ∙ unset_oldest w x w.requests)

settled_too : (u : System) → ((z : World) → paid u z ≡ true) → (x : ℕ) (w z : World) → SameUnset w z → Both SameUnset (settled u x w) (settled u x z)
settled_too u pays x w z k = by (slice_get w.leaves x) refl
  where
    by : (o : Option Leaf) → slice_get w.leaves x ≡ o
        → Both SameUnset (need o WrongKind (λ leaf. if_paid u (with_leaf w x (with_peaks w x leaf)) Quiet)) (settled u x z)
    by None e = one_fails SameUnset WrongKind _
    by (Some a) e =
        let other = other_there w z k x a e in
        let b : Leaf = record a { inputs = other.0 } in
        let new = with_leaf w x (with_peaks w x a) in
        let new_z = with_leaf z x (with_peaks z x b) in
        subst (λ o. Both SameUnset (if_paid u new Quiet) (need o WrongKind (λ leaf. if_paid u (with_leaf z x (with_peaks z x leaf)) Quiet))) (sym other.1)
        (both_when SameUnset (paid u new) (paid u new_z) ExceededQuota ExceededQuota (Ok (new, Quiet)) (Ok (new_z, Quiet)) (λ q. pays new_z)
        (both_give SameUnset new new_z Quiet (with_too w z x (with_peaks w x a) (with_peaks z x b) (peaks a b refl) k)))
      where
        peaks : (a b : Leaf) → unset_leaf a ≡ unset_leaf b → unset_leaf (with_peaks w x a) ≡ unset_leaf (with_peaks z x b)
        peaks a b alike = unset_peaks w x a ∙ ((λ j. with_peaks (k j) x (alike j)) ∙ sym (unset_peaks z x b))

-- A STEP

module _ (u : System) (pays : (z : World) → paid u z ≡ true) (w z : World) (k : SameUnset w z) (linked : IsLinkedWorld u w) (x : ℕ) (c : Component) (a : Leaf)
    (there : slice_get w.leaves x ≡ Some a) (inputs : List ℕ) (there_z : slice_get z.leaves x ≡ Some (record a { inputs = inputs })) where
  abbrev d : Doing
  d = record { system = u; world = w; x = x; component = c; leaf = record a { steps = suc a.steps } }

  -- the leaf has these inputs in the other world
  abbrev aside : Aside
  aside = record { steps = λ n. n; peaks = λ most. most; inputs = λ given. inputs }

  abbrev e : Doing
  e = other_doing same aside d z

  -- all sessions and slots may be looked at and changed
  abbrev Any : {A : Type 0} → A → Type 0
  Any a = Unit {0}

  abbrev other : Leaf → Leaf
  other = other_leaf same aside d z

  other_unset : (leaf : Leaf) → unset_leaf leaf ≡ unset_leaf (other leaf)
  other_unset leaf = ap unset_leaf (sym (leaf_itself leaf))

  takes : TakesLeaf d
  takes = record { old = a; there = there; slots = refl; phase = refl; current = refl; reacting = refl }

  -- the current session, and those to which links lead, are there
  current_there : (g : Current) → a.current ≡ Some g → (s : Session) × (session_at w g.session ≡ Some s)
  current_there g at =
      let m = linked.handles x a.phase g (ap stance_in there ∙ ap (λ o. Some (stance a.phase o)) at) in
      let s = outlined (session_at w g.session) m.0 m.1 in
      (s.0, s.1)

  link_there : (q : SlotId) (j : ℕ) → slot_at w q ≡ Some (Link j) → (s : Session) × (session_at w j ≡ Some s)
  link_there q j there =
      let m = linked.named q (Leads j) (ap naming_in there) in
      let s = outlined (session_at w j) m.0 m.1 in
      (s.0, s.1)

  slot_read : (v y : World) (q : SlotId) → SameUnset v y → slot_at y (renamed_slot_id same q) ≡ option_map (renamed_slot same) (slot_at v q)
  slot_read v y q alike =
      ap (slot_at y) (slot_id_itself q)
      ∙ (sym (unset_slot_at y q) ∙ (ap (λ v. slot_at v q) (sym alike) ∙ (unset_slot_at v q ∙ by (slot_at v q))))
    where
      by : (o : Option Slot) → o ≡ option_map (renamed_slot same) o
      by None = refl
      by (Some slot) = ap Some (sym (slot_itself slot))

  session_read : (v y : World) (j : ℕ) (s : Session) → SameUnset v y → session_at v j ≡ Some s → session_at y j ≡ Some (renamed_session same s)
  session_read v y j s alike at = ap (λ (v : World). session_at v j) (sym alike) ∙ (at ∙ ap Some (sym (session_itself s)))

  kept : IsKept same aside d z SameUnset Any Any
  kept = record {
    first = k;
    pays = pays;
    current = λ g at. (tt, λ i. tt, tt, current_there g at);
    link = λ q j near at. (tt, link_there q j at, λ ours. tt);
    fresh = ap (λ (v : World). free_place v.sessions) k;
    slot = λ v y q alike near stay. slot_read v y q alike;
    session = λ v y j s alike mine at. session_read v y j s alike at;
    leaf = λ v y leaf alike own. with_too v y x leaf (other leaf) (other_unset leaf) alike;
    put = λ v y q slot none alike near ours. slot_too v y q (renamed_slot_id same q) slot (renamed_slot same slot) (slot_id_itself q) (slot_itself slot) alike;
    wait = λ v y q j named asked alike near ours. slot_too v y q (renamed_slot_id same q) (Waiting j) (Waiting j) (slot_id_itself q) refl alike;
    settles = λ v y alike. settled_too u pays x v y alike;
    donate = λ v y j s amount alike mine ours at. let new = record s { donation = amount } in
        session_too v y j new (renamed_session same new) (session_itself new) alike;
    add = λ v y s alike free other_free client slots object named ours j.
        record (alike j) { sessions = add_session (sym (session_itself s) j) (alike j).sessions };
    ask = λ v y r alike asked j. record (alike j) { requests = (alike j).requests ++ r ∷ [] };
  }

  -- the same request is taken up
  matches : Accepts a → Match same aside d z SameUnset SameUnset Any Any (oldest w x w.requests) (oldest z x z.requests)
  matches serves =
      subst (λ o. Match same aside d z SameUnset SameUnset Any Any (oldest w x w.requests) o) (sym (oldest_too w z x k)) (by (oldest w x w.requests) refl)
    where
      to_there : (o : Option Session) → is_to x o ≡ true → (s : Session) × (o ≡ Some s)
      to_there None e = absurd cc
      to_there (Some s) e = (s, refl)

      by : (o : Option (Request × List Request)) → oldest w x w.requests ≡ o → Match same aside d z SameUnset SameUnset Any Any o o
      by None found = tt
      by (Some p) found =
          let s = to_there (session_at w p.0.session) (oldest_found (λ r. Unit {0}) w x w.requests p found).to in
          record {
            serves = serves;
            first = found;
            other = oldest_too w z x k ∙ found;
            same = refl;
            mine = tt;
            session = s.0;
            there = s.1;
          }

  exit_too : SameUnset (exit_of d) (exit_of e)
  exit_too =
      let old = standing d (exited d.leaf) in
      let new = standing e (exited e.leaf) in
      let name = c.node.name in
      let cs = u.components in
      (λ j. record (unset old) { leaves = unset_released name cs old.leaves j })
      ∙ ((λ j. record (stood j) { leaves = all_released name cs (stood j).leaves })
      ∙ (λ j. record (unset new) { leaves = sym (unset_released name cs new.leaves) j }))
    where
      stood : SameUnset (standing d (exited d.leaf)) (standing e (exited e.leaf))
      stood = with_too w z x (exited d.leaf) (exited e.leaf) (λ j. unset_leaf (exited (record d.leaf { current = sym (current_itself a.current) j }))) k

  around : IsKeptAround same aside d z SameUnset SameUnset Any Any
  around = record {
    within = kept;
    over = λ v y alike. alike;
    matches = matches;
    take = λ p q leaf s t slots phase current taken.
        session_too (record (standing d leaf) { requests = p.1 }) (record (standing e (other leaf)) { requests = q.1 }) p.0.session s (renamed_session same s)
        (session_itself s)
        (λ j. record (with_too w z x leaf (other leaf) (other_unset leaf) k j) { requests = left p q t j });
    answer = λ g s go at there.
        unblocked_too _ _ s.client go
        (slot_too (standing d (serving d.leaf)) (standing e (serving e.leaf)) s.slot_id (renamed_slot_id same s.slot_id) (Link g.session) (Link g.session)
        (slot_id_itself s.slot_id) refl stood_serving);
    close = λ g s at there.
        unblocked_too _ _ s.client (λ operands. operands)
        (λ j. let v = slot_too (standing d (serving d.leaf)) (standing e (serving e.leaf)) s.slot_id (renamed_slot_id same s.slot_id) Empty Empty
        (slot_id_itself s.slot_id)
        refl stood_serving j in
        record v { sessions = slice_set v.sessions g.session None });
    exit = λ none busy. exit_too;
  }
    where
      stood_serving : SameUnset (standing d (serving d.leaf)) (standing e (serving e.leaf))
      stood_serving = with_too w z x (serving d.leaf) (serving e.leaf) (λ j. unset_leaf (serving (record d.leaf { slots = sym (slots_itself a.slots) j }))) k

      left : (p q : Request × List Request) → AreTaken same aside d z SameUnset SameUnset Any Any p q → p.1 ≡ q.1
      left p q t = ap rest (sym t.first ∙ (sym (oldest_too w z x k) ∙ t.other))
        where
          rest : Option (Request × List Request) → List Request
          rest None = []
          rest (Some p) = p.1

  -- the statement that comes first is no `in`
  abbrev pub IsUnread : Type 0
  IsUnread = (i : Instruction) (rest : Statements) → a.todo ≡ Do i rest → reads_input i ≡ false

  leaf_same : record a { steps = suc a.steps; inputs = inputs } ≡ e.leaf
  leaf_same = λ j. record a {
    current = sym (current_itself a.current) j;
    slots = sym (slots_itself a.slots) j;
    steps = suc a.steps;
    inputs = inputs;
  }

  pub step_too : slice_get u.components x ≡ Some c → IsUnread → (new : World) (event : Event) → next u w x ≡ Ok (new, event)
      → (other_new : World) × (next u z x ≡ Ok (other_new, event)) × SameUnset new other_new
  step_too placed unread new event stepped =
      let may = first_allowed same aside d z SameUnset Any Any SameUnset a.todo (λ i rest is.
      all_allowed same aside d z SameUnset Any Any anywhere i (inl (unread i rest is))) in
      let both = both_step same aside d z SameUnset SameUnset Any Any takes linked around a.phase refl (λ busy. may) in
      let r = both.holds new event (sym next_here ∙ stepped) in
      (r.0, next_there ∙ r.1, r.2)
    where
      anywhere : (place : OperandSlot) → MayChange same aside d z SameUnset Any Any place
      anywhere (Own i) = tt
      anywhere (Shared i) = tt
      anywhere Object = tt

      next_here : next u w x ≡ step_in d a.phase
      next_here = λ j. step_of u w x (placed j) (there j)

      next_there : next u z x ≡ step_in e a.phase
      next_there = (λ j. step_of u z x (placed j) (there_z j)) ∙ (λ j. step_in (record e { leaf = leaf_same j }) a.phase)

-- A leaf with other inputs and signals: what holds of the world with it.
use Rattle.std.proofs.Common.{◌≡◌, ℕ, ◌+◌, ◌≤◌, inl, inr, true, List, [], ◌∷◌, length, Option, Some, refl, ap, sym, ◌∙◌, subst, arith}
use Rattle.std.specs.Prelude.{slice_get}
use Rattle.std.proofs.lemmas.Bool.Decides.{eqb_tells}
use Rattle.gq_model.specs.declared.program.Instruction.{Instruction}
use Rattle.gq_model.specs.declared.section.Section.{Section}
use Rattle.gq_model.specs.declared.phase.Phase.{Phase}
use Rattle.gq_model.specs.declared.phase.Phase.TheVariants.{Pending, Running, Blocked, Serving, Handling, Exited}
use Rattle.gq_model.specs.machine.Amounts.{Resource}
use Rattle.gq_model.specs.machine.Accounts.{handed_to}
use Rattle.gq_model.specs.machine.Scenario.{Scenario, System, Component, system}
use Rattle.gq_model.specs.machine.Sums.{paid}
use Rattle.gq_model.specs.machine.World.{Ask, Ask_open, Ask_upgrade, Ask_close, Ask_call, Request, Signal, Leaf, World, session_at, with_leaf, section_of}
use Rattle.gq_model.specs.rules.Kinds.{Kind}
use Rattle.gq_model.specs.rules.Use.{subject, from_sections, steps_of}
use Rattle.gq_laws.specs.Current_section_facts.{current_section}
use Rattle.gq_laws.specs.Session_links.{links, IsLinkedWorld}
use Rattle.gq_laws.specs.Leaf_phases.{Suits, NotExited, AreReady}
use Rattle.gq_laws.specs.Room.{HasRoomFor, HasRoomAsked, HasRoomIfCalled, IsRoomy}
use Rattle.gq_laws.specs.Typing.{Extra, IsInSection, StandsBy, IsTypedBy}
use Rattle.gq_laws.specs.internal.Section_counts.{Often, Requests, ahead, served_at, asks_at, waiting_in, waiting, Since, steps_taken, times_taken, taken_of}
use Rattle.gq_laws.specs.internal.Section_counts.{Counts}
use Rattle.gq_laws.specs.internal.Init_quanta.{Fit}
use Rattle.gq_laws.specs.internal.Verified_holdings.{HoldsWithin, IsHeld}
use Rattle.gq_laws.specs.internal.Remaining_instructions.{IsLeft, AreLeft}
use Rattle.gq_laws.proofs.session_links.Linked_after_accept.{same_linked}
use Rattle.gq_laws.proofs.session_links.Asked_request_changes.{each_map}
use Rattle.gq_laws.proofs.session_links.Link_free_statements.{its_links, same_leaf}
use Rattle.gq_laws.proofs.session_links.Written_world_links.{set_here, set_else}
use Rattle.gq_laws.proofs.quota_payment.Written_world_prices.{same_price, leaf_no_dearer, still_paid}
use Rattle.gq_laws.proofs.quota_payment.Init_quanta_bounded.{fit_less, spent_same}
use Rattle.gq_laws.proofs.progress.Opened_services_invariant.{AllOpened}
use Rattle.gq_laws.proofs.remaining_work.Remaining_program_statements.{set_get}
use Rattle.gq_laws.proofs.typed_worlds.Main_end_typed.{SameCurrent, stands_same, same_typed}

-- WHERE A LEAF STANDS

-- a leaf with other inputs and signals stands where it stood
module _ (promised : ℕ → Option Kind) (extra : Extra) (system : System) (w : World) (x : ℕ) (c : Component) (leaf : Leaf) (inputs : List ℕ)
    (signals : List Signal) where
  in_section_with : (phase : Phase) → IsInSection promised extra system w x c leaf phase (section_of leaf.current leaf.reacting)
      → IsInSection promised extra system w x c (record leaf { inputs = inputs; signals = signals }) phase (section_of leaf.current leaf.reacting)
  in_section_with phase s =
      record {
        state = s.state;
        next = s.next;
        end = s.end;
        meets = record {
          own = s.meets.own;
          current = s.meets.current;
          bank = s.meets.bank;
          operands = s.meets.operands;
          locals = s.meets.locals;
          loops = s.meets.loops;
        };
        from = s.from;
        goes_on = s.goes_on;
        whole = s.whole;
        listed = s.listed;
        also = s.also;
      }

  stands_with : (phase : Phase) → StandsBy promised extra system w x c leaf phase
      → StandsBy promised extra system w x c (record leaf { inputs = inputs; signals = signals }) phase
  stands_with Pending s = in_section_with Pending s
  stands_with Running s = in_section_with Running s
  stands_with Blocked s = in_section_with Blocked s
  stands_with Serving s = s
  stands_with Handling s = in_section_with Handling s
  stands_with Exited s = s

-- WORLDS

module _ (w : World) (x : ℕ) (leaf : Leaf) (there : slice_get w.leaves x ≡ Some leaf) (inputs : List ℕ)
    (signals : List Signal) where
  abbrev new : Leaf
  new = record leaf { inputs = inputs; signals = signals }

  abbrev v : World
  v = with_leaf w x new

  -- what looks at neither reports the same
  pub at_leaf : {A : Type 0} (F : Option Leaf → A) → F (Some new) ≡ F (Some leaf) → (y : ℕ) → F (slice_get v.leaves y) ≡ F (slice_get w.leaves y)
  at_leaf F e y = elim (eqb_tells y x) [
    | inl f ↦ ap (λ y. F (slice_get v.leaves y)) f.1
        ∙ (ap F (set_here w.leaves x new leaf there) ∙ (e ∙ (sym (ap F there) ∙ ap (λ y. F (slice_get w.leaves y)) (sym f.1))))
    | inr f ↦ ap F (set_else w.leaves x y new f.1)
  ]

  -- a leaf that is there was there, perhaps with others
  pub was : (y : ℕ) (l : Leaf) → slice_get v.leaves y ≡ Some l
      → (old : Leaf) × (slice_get w.leaves y ≡ Some old) × (l ≡ record old { inputs = l.inputs; signals = l.signals })
  was y l e = elim (set_get w.leaves x y new l e) [
    | inl f ↦ (
      leaf,
      ap (slice_get w.leaves) f.0 ∙ there,
      subst (λ (m : Leaf). m ≡ record leaf { inputs = m.inputs; signals = m.signals }) f.1 refl,
    )
    | inr f ↦ (l, f, refl)
  ]

  pub linked_with : (system : System) → IsLinkedWorld system w → IsLinkedWorld system v
  linked_with system h = same_linked system (links w) v h (same_leaf (links w) w x leaf new there refl refl refl (its_links w))

  pub left_with : (P : Component → Instruction → Type 0) (system : System) → AreLeft P system w → AreLeft P system v
  left_with P system h y c l placed e =
      let b = was y l e in
      let left = h y c b.0 placed b.1 in
      subst (IsLeft (P c)) (sym b.2) (record { todo = left.todo; loops = left.loops })

  pub paid_with : (system : System) → paid system w ≡ true → paid system v ≡ true
  paid_with system h =
      still_paid system w v (leaf_no_dearer w w x leaf new there (record { own = λ r. omega arith; phase = λ q. omega arith }) (same_price w)) h

  pub fit_with : (r : Resource) (s : Scenario) → Fit r s w → Fit r s v
  fit_with r s h =
      fit_less r s w v (λ y nodes p.
      (let same = spent_same r w v (λ z q. at_leaf (λ o. handed_to o q) refl z) y nodes in omega (arith, same))) h

  pub opened_with : (system : System) → AllOpened system w → AllOpened system v
  opened_with system h = record { at = h.at }

  not_exited_with : (system : System) (name : List ℕ) → NotExited system w name → NotExited system v name
  not_exited_with system name h y d other placed is e exited =
      let b = was y other e in h y d b.0 placed is b.1 (ap (λ (l : Leaf). l.phase) (sym b.2) ∙ exited)

  pub ready_with : (system : System) → AreReady system w → AreReady system v
  ready_with system h =
      record {
        suits =
            λ y c l placed e. let b = was y l e in subst (λ (l : Leaf). Suits c.node.provides c.node.signals l.phase) (sym b.2) (h.suits y c b.0 placed b.1);
        reacts = λ y c l i placed e r.
            let b = was y l e in h.reacts y c b.0 i placed b.1 (ap (λ (l : Leaf). l.reacting) (sym b.2) ∙ r);
        waits = λ y c l placed e pending.
            let b = was y l e in
            let k = h.waits y c b.0 placed b.1 (ap (λ (l : Leaf). l.phase) (sym b.2) ∙ pending) in
            (k.0, k.1, not_exited_with system k.0 k.2);
      }

  -- ROOM FOR REPLIES

  room_with : (k : ℕ) → HasRoomFor w k → HasRoomFor v k
  room_with k h q l at e =
      let b = was q.client l e in
      let few = h q b.0 at b.1 in
      let same : length l.operands ≡ length b.0.operands = ap (λ (l : Leaf). length l.operands) b.2 in
      omega (arith, few, same)

  asked_with : (k : ℕ) (ask : Ask) → HasRoomIfCalled w k ask → HasRoomIfCalled v k ask
  asked_with k Ask_open h = tt
  asked_with k Ask_upgrade h = tt
  asked_with k Ask_close h = tt
  asked_with k (Ask_call value) h = room_with k h

  pub roomy_with : IsRoomy w → IsRoomy v
  roomy_with h =
      record {
        small = λ y l e.
            let b = was y l e in
            let few = h.small y b.0 b.1 in
            let same : length l.operands ≡ length b.0.operands = ap (λ (l : Leaf). length l.operands) b.2 in
            omega (arith, few, same);
        asked = each_map (HasRoomAsked w) (HasRoomAsked v) (λ r k. asked_with r.session r.ask k) w.requests h.asked;
        handled = λ y l k level e current.
            let b = was y l e in room_with k (h.handled y b.0 k level b.1 (ap (λ (l : Leaf). l.current) (sym b.2) ∙ current));
      }

  -- WHERE LEAVES STAND

  same_current : SameCurrent w v
  same_current = record { sessions = λ k. refl; requests = refl; all_current = λ k y. at_leaf (current_section k) refl y }

  pub typed_with : (promised : ℕ → Option Kind) (extra : Extra) (system : System) → IsTypedBy promised extra system w → IsTypedBy promised extra system v
  typed_with promised extra system t = same_typed promised system w v same_current extra extra t (λ y c l placed e.
      let b = was y l e in
      let stands = stands_same promised system w v same_current y c b.0 b.0.phase extra extra (λ section state todo loops k. k)
      (t.leaves y c b.0 placed b.1) in
      subst (λ (l : Leaf). StandsBy promised extra system v y c l l.phase) (sym b.2)
      (stands_with promised extra system v y c b.0 l.inputs l.signals b.0.phase stands))

  -- WHAT IS HELD

  pub held_with : (system : System) → IsHeld system w → IsHeld system v
  held_with system h =
      record {
        leaves = λ y c l placed e.
            let b = was y l e in
            let k = h.leaves y c b.0 placed b.1 in
            subst (HoldsWithin system v c) (sym b.2) (record { own = k.own; peaks = k.peaks; none = k.none });
        sessions = λ k s at. let c = h.sessions k s at in record { costs = c.costs; given = c.given };
        requests = h.requests;
      }

  -- WHAT IS COUNTED

  waiting_with : (y : ℕ) (section : Section) (rs : List Request) → waiting_in v y section rs ≡ waiting_in w y section rs
  waiting_with y section [] = refl
  waiting_with y section (r ∷ rs) = ap (λ n. asks_at r.ask (served_at (session_at w r.session)) y section + n) (waiting_with y section rs)

  pub counts_with : ((i : ℕ) → times_taken signals i ≡ times_taken leaf.signals i) → (since : Since) (done : Often) (made left : Requests) (system : System)
      → Counts since done made left system w
      → Counts since done made left system v
  counts_with taken since done made left system h =
      let same : (y : ℕ) → waiting w y ≡ waiting v y = λ y. sym (λ i section. waiting_with y section w.requests i) in
      record {
        once = h.once;
        reacted = λ y i. (let most = h.reacted y i in let same = at_leaf (λ o. taken_of o i) (taken i) y in omega (arith, most, same));
        taken = λ y c l placed e.
            let b = was y l e in
            subst (λ (l : Leaf). l.steps + ahead l l.phase + steps_of (waiting v y) c.node.program.sections
            ≤ steps_taken since.world y + steps_of (done y) c.node.program.sections)
            (sym b.2)
            (subst (λ (q : Section → ℕ). b.0.steps + ahead b.0 b.0.phase + steps_of q c.node.program.sections
            ≤ steps_taken since.world y + steps_of (done y) c.node.program.sections) (same y) (h.taken y c b.0 placed b.1));
        asked = h.asked;
        requests = λ y c placed service section.
            subst (λ (q : Section → ℕ). made y service section + left y service section
            + from_sections q (subject system c) service section c.node.program.sections
            ≤ from_sections (done y) (subject system c) service section c.node.program.sections) (same y) (h.requests y c placed service section);
      }

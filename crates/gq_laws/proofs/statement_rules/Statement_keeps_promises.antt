-- A statement on operands, locals and memory keeps what is promised of links and of the buffers behind them.
use Rattle.std.proofs.Common.{suc, Ok, Bool, true, false, nat_lt, cond, List, [], ◌∷◌, ◌≡◌, ℕ, ◌==◌, inl, inr, Option, Some, None, refl, ap, sym, ◌∙◌, subst}
use Rattle.std.proofs.Common.{arith}
use Rattle.std.proofs.lemmas.Bool.Decides.{eqb_tells}
use Rattle.gq_model.specs.declared.program.Instruction.{Instruction}
use Rattle.gq_model.specs.declared.program.Instruction.TheVariants.{Open, Upgrade, Call, Close}
use Rattle.gq_model.specs.machine.World.{Round, Slot, Empty, Bytes, Pool, Link, Waiting, SlotId, Session, Current, World, session_at, slot_at}
use Rattle.gq_model.specs.machine.Memory.{buffer_of}
use Rattle.gq_model.specs.machine.Doing.{Doing, Quiet, standing}
use Rattle.gq_model.specs.machine.Program.{Statements, Done, Do, If, Loop}
use Rattle.gq_model.specs.machine.Step.{body_ended, perform}
use Rattle.gq_model.specs.rules.Kinds.{Kind}
use Rattle.gq_laws.specs.Typed.{PromisesLinks, SharesBuffers}
use Rattle.gq_laws.specs.Inside_steps.{TakesLeaf, IsOfOwn, IsElse, IsInside, KeepsSessionIn, LeavesOthers, KeepsPromises}
use Rattle.gq_laws.specs.Session_links.{Naming, Leads, Waits, naming_in, one_if, at_current, stance, stance_in, Stands, Links, links, IsLinkedWorld}
use Rattle.gq_model.proofs.Small_facts.{none_some, some_same}
use Rattle.gq_laws.proofs.step_shapes.Step_end_shapes.{Ends, gives, pop_ends}
use Rattle.gq_laws.proofs.session_links.Link_free_statements.{Same, IsQuiet, stands, quiet_ends}
use Rattle.gq_laws.proofs.statement_rules.Statement_leaves_others.{keeps_to_itself, stay_buffer}

quiet : (i : Instruction) → IsOfOwn i → IsQuiet i
quiet (Open place service n) own = own
quiet (Upgrade place n) own = own
quiet (Call place) own = own
quiet (Close place) own = own
quiet i own = tt

-- a slot that leads to a session is a link
is_link : (o : Option Slot) (k : ℕ) → naming_in o ≡ Some (Leads k) → o ≡ Some (Link k)
is_link None k e = absurd (none_some e)
is_link (Some Empty) k e = absurd (none_some e)
is_link (Some (Bytes form n bytes)) k e = absurd (none_some e)
is_link (Some (Pool n entries)) k e = absurd (none_some e)
is_link (Some (Link j)) k e = ap (λ j. Some (Link j)) (number j k e)
  where
    number : (j k : ℕ) → ◌≡◌ {A = Option Naming} (Some (Leads j)) (Some (Leads k)) → j ≡ k
    number j k e = cc
is_link (Some (Waiting j)) k e = absurd (waits_leads j k e)
  where
    waits_leads : (j k : ℕ) → ◌≡◌ {A = Option Naming} (Some (Waits j)) (Some (Leads k)) → ⊥
    waits_leads j k e = cc

module _ (d : Doing) (t : TakesLeaf d) (h : IsLinkedWorld d.system d.world) where
  abbrev L : Links
  L = links d.world

  stood : L.stances d.x ≡ Some (stance d.leaf.phase d.leaf.current)
  stood = ap stance_in t.there ∙ (λ i. Some (stance (sym t.phase i) (sym t.current i)))

  -- a session to which a link leads is not current
  at_ease : (q : SlotId) (k : ℕ) → L.slots q ≡ Some (Leads k) → (current : Option Current) → d.leaf.current ≡ current → IsElse k current
  at_ease q k n None at = tt
  at_ease q k n (Some g) at = λ same.
      let s = h.named q (Leads k) n in
      let u = h.handles d.x d.leaf.phase g (stood ∙ ap (λ o. Some (stance d.leaf.phase o)) at) in
      let server : s.0.server ≡ d.x = ap (λ (s : Session). s.server) (some_same (sym s.1 ∙ (ap L.sessions (sym same) ∙ u.1))) ∙ u.2 in
      let held : at_current k (L.stances s.0.server) ≡ one_if (g.session == k) =
      ap (λ x. at_current k (L.stances x)) server ∙ ap (at_current k) (stood ∙ ap (λ o. Some (stance d.leaf.phase o)) at) in
      let one : one_if (g.session == k) ≡ 1 = here g.session k same in
      by s.0 s.2 (held ∙ one) (h.stands k s.0 s.1)
    where
      here : (j k : ℕ) → j ≡ k → one_if (j == k) ≡ 1
      here j k e = elim (eqb_tells j k) [ inl f ↦ ap one_if f.0 | inr f ↦ absurd (f.1 e) ]

      leads_waits : (j k : ℕ) → ◌≡◌ {A = Option Naming} (Some (Leads j)) (Some (Waits k)) → ⊥
      leads_waits j k e = cc

      by : (s : Session) → s.slot_id ≡ q → at_current k (L.stances s.server) ≡ 1 → Stands L k s → ⊥
      by s slot_id one (inl a) = let none = a.2 in omega (arith, one, none)
      by s slot_id one (inr a) = leads_waits k k (sym n ∙ (ap L.slots (sym slot_id) ∙ a.0))

  module _ (promised : ℕ → Option Kind) (w : World) (same : Same L w) (others : LeavesOthers d w) where
    was_link : (q : SlotId) (k : ℕ) → slot_at w q ≡ Some (Link k) → L.slots q ≡ Some (Leads k)
    was_link q k e = sym (same.slots q) ∙ ap naming_in e

    promises : PromisesLinks promised d.world → PromisesLinks promised w
    promises before q k kind e is = before q k kind (is_link (slot_at d.world q) k (was_link q k e)) is

    shares : SharesBuffers d.system promised d.world → SharesBuffers d.system promised w
    shares before q k service level given e is more =
        let b = before q k service level given (is_link (slot_at d.world q) k (was_link q k e)) is more in
        let s = subst (λ o. KeepsSessionIn d.leaf.current k o (session_at w k)) b.1 (others.sessions k) in (
          s.0,
          s.1,
          ap (λ (s : Session). s.service) s.2.rest
              ∙ b.2,
          stay_buffer (buffer_of d.system service) b.0 s.0 (s.2.slots (at_ease q k (was_link q k e) d.leaf.current refl)) b.3,
        )

same_ends : (d : Doing) → TakesLeaf d → IsLinkedWorld d.system d.world → (todo : Statements) → IsInside todo d.leaf.loops
    → Ends (Same (links d.world)) (perform d todo)
same_ends d t h todo inside = by todo inside
  where
    u : TakesLeaf d
    u = record { old = t.old; there = t.there; slots = t.slots; phase = t.phase; current = t.current; reacting = t.reacting }

    by_loops : (loops : List Round) → IsInside Done loops → Ends (Same (links d.world)) (body_ended d loops)
    by_loops [] inside = absurd inside
    by_loops (r ∷ loops) inside = chosen (nat_lt (suc r.round) r.count)
      where
        chosen : (b : Bool) → Ends (Same (links d.world)) (Ok (
          standing d (cond b (record d.leaf { todo = r.body; loops = record r { round = suc r.round } ∷ loops })
              (record d.leaf { todo = r.rest; loops = loops })),
          Quiet,
        ))
        chosen true = gives _ Quiet (stands d u _ refl refl refl)
        chosen false = gives _ Quiet (stands d u _ refl refl refl)

    by : (todo : Statements) → IsInside todo d.leaf.loops → Ends (Same (links d.world)) (perform d todo)
    by Done inside = by_loops d.leaf.loops inside
    by (Do i rest) inside =
        let e : Doing = record d { leaf = record d.leaf { todo = rest } } in
        quiet_ends e (record { old = t.old; there = t.there; slots = t.slots; phase = t.phase; current = t.current; reacting = t.reacting }) h i
        (quiet i inside.0)
    by (If arm other rest) inside = pop_ends (Same (links d.world)) d.leaf.operands _ (λ a below. gives _ Quiet (stands d u _ refl refl refl))
    by (Loop count body rest) inside = gives _ Quiet (stands d u _ refl refl refl)

pub keeps_promises : (promised : ℕ → Option Kind) (d : Doing) → TakesLeaf d → IsLinkedWorld d.system d.world → KeepsPromises promised d
keeps_promises promised d t h w event inside e links buffers =
    let same = (same_ends d t h d.leaf.todo inside).holds w event e in
    let others = keeps_to_itself d w event inside e in
    (promises d t h promised w same others links, shares d t h promised w same others buffers)

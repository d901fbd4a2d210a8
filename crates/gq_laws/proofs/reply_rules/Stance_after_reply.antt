-- Where leaves stand once a section has ended and its client has the reply.
use Rattle.std.proofs.Common.{◌≡◌, ◌≢◌, ℕ, inl, inr, cond, List, ◌∷◌, Option, Some, None, refl, ap, sym, ◌∙◌, subst}
use Rattle.std.specs.Prelude.{slice_get, slice_set}
use Rattle.std.proofs.lemmas.Bool.Decides.{eqb_tells}
use Rattle.gq_model.specs.declared.program.Form.TheVariants.{Slice}
use Rattle.gq_model.specs.declared.section.Section.{Section}
use Rattle.gq_model.specs.declared.section.Section.TheVariants.{Main, Opening, Upgrading, Calling, Closing, Reacting}
use Rattle.gq_model.specs.declared.phase.Phase.TheVariants.{Handling}
use Rattle.gq_model.specs.machine.Scenario.{number_of}
use Rattle.gq_model.specs.machine.World.{Slot, Waiting, SlotId, In_leaf, In_session, In_object, Session, Current, Leaf, World, session_at, leaf_slot}
use Rattle.gq_model.specs.machine.World.{session_slot}
use Rattle.gq_model.specs.machine.World.{slot_at}
use Rattle.gq_model.specs.machine.Doing.{Doing}
use Rattle.gq_model.specs.rules.Kinds.{Kind, Memory, AbstractState, Context}
use Rattle.gq_laws.specs.Current_section_facts.{Under, kind_replied}
use Rattle.gq_laws.specs.Session_links.{stance_in, IsLinkedWorld}
use Rattle.gq_laws.specs.Typed.{IsKind, AreKinds, CurrentMeets, Meets}
use Rattle.gq_laws.specs.Inside_steps.{bare, TakesLeaf, IsElse, StandElse}
use Rattle.gq_laws.specs.Reply_stances.{HasEnded, slot_replied, AreReplied, own_then, bank_then, session_then, resuming, Replies, once_replied, KeepsBank}
use Rattle.gq_laws.specs.Reply_stances.{Resumes}
use Rattle.gq_laws.specs.Reply_stances.{ResumesAsRuled}
use Rattle.gq_model.proofs.Small_facts.{some_same}
use Rattle.gq_laws.proofs.statement_rules.Ruled_slot_kinds.{Alike, kinds_keep}
use Rattle.gq_laws.proofs.reply_rules.World_after_reply.{IsOf, client_slot_id, served_else, replies_by}

-- the slot that waited is of the kind that was promised
alike : (promised : ℕ → Option Kind) (k : ℕ) (section : Section) (s : Session) → promised k ≡ Some (kind_replied section s)
    → Alike promised (Waiting k) (slot_replied section k)
alike promised k Main s p kind is = some_same (sym is ∙ p)
alike promised k Opening s p kind is = is
alike promised k (Upgrading l) s p kind is = is
alike promised k (Calling l) s p kind is = is
alike promised k (Closing l) s p kind is = some_same (sym is ∙ p)
alike promised k (Reacting i) s p kind is = some_same (sym is ∙ p)

-- a leaf that stood, with its slots of the same kinds and the reply
meets_by : (promised : ℕ → Option Kind) (e : Context) (state : AbstractState) (v w : World) (old : Leaf) (most : ℕ) (section : Section) (operands : List ℕ)
    (slots : List Slot) → AreReplied most section old.operands operands → AreKinds promised slots state.own → CurrentMeets promised e state.bank w old.current
    → Meets promised e state v old
    → Meets promised e (once_replied most section state) w (resuming old operands slots)
meets_by promised e state v w old most Main operands slots r own bank m = absurd r
meets_by promised e state v w old most Opening operands slots r own bank m =
    record { own = own; current = m.current; bank = bank; operands = subst (λ o. Under o state.bounds) (sym r) m.operands; locals = m.locals; loops = m.loops }
meets_by promised e state v w old most (Upgrading l) operands slots r own bank m =
    record { own = own; current = m.current; bank = bank; operands = subst (λ o. Under o state.bounds) (sym r) m.operands; locals = m.locals; loops = m.loops }
meets_by promised e state v w old most (Calling l) operands slots r own bank m =
    record {
      own = own;
      current = m.current;
      bank = bank;
      operands = subst (λ o. Under o (most ∷ state.bounds)) (sym r.2) (r.1, m.operands);
      locals = m.locals;
      loops = m.loops;
    }
meets_by promised e state v w old most (Closing l) operands slots r own bank m =
    record { own = own; current = m.current; bank = bank; operands = subst (λ o. Under o state.bounds) (sym r) m.operands; locals = m.locals; loops = m.loops }
meets_by promised e state v w old most (Reacting i) operands slots r own bank m = absurd r

module _ (promised : ℕ → Option Kind) (c : Context) (d : Doing) (t : TakesLeaf d) (h : IsLinkedWorld d.system d.world) (handles : d.leaf.phase ≡ Handling)
    (state : AbstractState) (g : Current) (s : Session) (w : World) (e : HasEnded promised c state d g s w)
    (promise : promised g.session ≡ Some (kind_replied g.section s)) where
  r : Replies promised c state d g s w
  r = replies_by promised c d t h handles state g s e.at_current e.there w e

  abbrev k : ℕ
  k = g.session

  abbrev slot : Slot
  slot = slot_replied g.section k

  is_alike : Alike promised (Waiting k) slot
  is_alike = alike promised k g.section s promise

  -- the client's own slots
  own_stands : (q : SlotId) → s.slot_id ≡ q → IsOf s.client q → (kinds : List Kind) → AreKinds promised r.client.slots kinds
      → AreKinds promised (own_then q slot r.client.slots) kinds
  own_stands (In_leaf y i) at of kinds are =
      let there : slice_get r.client.slots i ≡ Some (Waiting k) =
      sym (ap (λ o. leaf_slot o i) r.was) ∙ (ap (λ y. leaf_slot (slice_get d.world.leaves y) i) (sym of) ∙ (ap (slot_at d.world) (sym at) ∙ r.waited)) in
      kinds_keep promised r.client.slots kinds i (Waiting k) slot are there is_alike
  own_stands (In_session j i) at of kinds are = are
  own_stands (In_object j) at of kinds are = are

  -- the slots of another session
  bank_stands : (q : SlotId) → s.slot_id ≡ q → (j : ℕ) (u : Session) (kinds : List Kind) → session_at d.world j ≡ Some u → AreKinds promised u.slots kinds
      → session_at w j ≡ session_then q slot j (Some u)
      → (v : Session) × (session_at w j ≡ Some v) × (bare v ≡ bare u) × (v.object ≡ u.object) × AreKinds promised v.slots kinds
  bank_stands (In_leaf y i) at j u kinds there are now = (u, now, refl, refl, are)
  bank_stands (In_session m i) at j u kinds there are now =
      elim (eqb_tells j m) [
        | inl f ↦ (let waits : slice_get u.slots i ≡ Some (Waiting k) = sym (ap (λ o. session_slot o i) there)
            ∙ (ap (λ j. session_slot (session_at d.world j) i) f.1 ∙ (ap (slot_at d.world) (sym at) ∙ r.waited)) in (
              record u { slots = slice_set u.slots i slot },
              now
                  ∙ ap (λ b. cond b (bank_then i slot (Some u)) (Some u)) f.0,
              refl,
              refl,
              kinds_keep promised u.slots kinds i (Waiting k) slot are waits is_alike,
            ))
        | inr f ↦ (u, now ∙ ap (λ b. cond b (bank_then i slot (Some u)) (Some u)) f.0, refl, refl, are)
      ]
  bank_stands (In_object m) at j u kinds there are now = (u, now, refl, refl, are)

  banks_stand : KeepsBank promised k d.world w
  banks_stand j u kinds ne there are = bank_stands s.slot_id refl j u kinds there are (r.sessions j ne ∙ ap (session_then s.slot_id slot j) there)

  -- what is current, if it is another session
  current_stands : (f : Context) (kinds : List Kind) (current : Option Current) → ((b : Current) → current ≡ Some b → b.session ≢ k)
      → CurrentMeets promised f kinds d.world current
      → CurrentMeets promised f kinds w current
  current_stands f kinds None else m = tt
  current_stands f kinds (Some b) else m =
      let n = banks_stand b.session m.0 kinds (else b refl) m.1 m.2.slots in (
        n.0,
        n.1,
        record {
          slots = n.4;
          object = subst (λ o. IsKind promised o (Memory Slice (number_of f.subject.provided (λ i. i.object))))
              (sym n.3) m.2.object;
        },
      )

  others_stand : StandElse promised d w
  others_stand f st leaf else m =
      record {
        own = m.own;
        current = m.current;
        bank = current_stands f st.bank leaf.current (λ b at same. subst (IsElse b.session) e.at_current (else b at) (sym same)) m.bank;
        operands = m.operands;
        locals = m.locals;
        loops = m.loops;
      }

  -- the client has another current session, or none
  client_current : (b : Current) → r.client.current ≡ Some b → b.session ≢ k
  client_current b at =
      let u = h.handles s.client r.client.phase b (ap stance_in r.was ∙ ap (λ o. Some (record { phase = r.client.phase; current = o })) at) in
      served_else promised c d t h handles state g s e.at_current e.there b.session u.0 u.1 u.2

  abbrev most : ℕ
  most = number_of c.subject.provided (λ i. i.reply)

  client_stands : (f : Context) (st : AbstractState) → Meets promised f st d.world r.client
      → (leaf : Leaf) × (slice_get w.leaves s.client ≡ Some leaf) × Meets promised f (once_replied most g.section st) w leaf
  client_stands f st m =
      let slots : List Slot = own_then s.slot_id slot r.client.slots in
      let own = own_stands s.slot_id refl (client_slot_id promised c d t h handles state g s e.at_current e.there) st.own m.own in (
        resuming r.client r.operands slots,
        r.goes_on,
        meets_by promised f st d.world w r.client most g.section r.operands slots r.replied own
            (current_stands f st.bank r.client.current client_current m.bank) m,
      )

  pub resumes_by : Resumes promised c d g s w
  resumes_by =
      record {
        client = λ f st old there m. client_stands f st (subst (Meets promised f st d.world) (some_same (sym there ∙ r.was)) m);
        others = others_stand;
        sessions = banks_stand;
      }

pub resumes_ruled : (promised : ℕ → Option Kind) (c : Context) (d : Doing) → TakesLeaf d → IsLinkedWorld d.system d.world → d.leaf.phase ≡ Handling
    → ResumesAsRuled promised c d
resumes_ruled promised c d t h handles state g s w e promise = resumes_by promised c d t h handles state g s w e promise

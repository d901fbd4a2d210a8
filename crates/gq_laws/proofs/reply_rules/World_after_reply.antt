-- The world once a section has ended: its server waits for a request, and its client has the reply.
use Rattle.std.proofs.Common.{◌≡◌, ◌≢◌, ℕ, inl, inr, cond, true, false, ◌==◌, List, ◌∷◌, Option, Some, None, Ok, refl, ap, sym, ◌∙◌, subst, arith}
use Rattle.std.specs.Prelude.{nat_le, slice_get, slice_set}
use Rattle.std.proofs.lemmas.Bool.{leb-true}
use Rattle.std.proofs.lemmas.Bool.Decides.{eqb_tells}
use Rattle.gq_model.specs.declared.section.Section.{Section}
use Rattle.gq_model.specs.declared.section.Section.TheVariants.{Main, Opening, Upgrading, Calling, Closing, Reacting}
use Rattle.gq_model.specs.declared.phase.Phase.TheVariants.{Blocked, Handling}
use Rattle.gq_model.specs.declared.fault.Rule.TheVariants.{LeftoverOperand, ValueTooLarge, SessionBankChanged}
use Rattle.gq_model.specs.declared.fault.Wrong.TheVariants.{WrongKind, ExceededQuota}
use Rattle.gq_model.specs.machine.Scenario.{number_of}
use Rattle.gq_model.specs.machine.World.{Slot, Empty, Bytes, Pool, Link, Waiting, SlotId, In_leaf, In_session, In_object, Session, Current, Leaf, World, joined}
use Rattle.gq_model.specs.machine.World.{session_at, slot_at, with_session, with_slot, put_leaf_slot, put_session_slot}
use Rattle.gq_model.specs.machine.Doing.{Doing, Quiet, need, pop, standing}
use Rattle.gq_model.specs.machine.Sums.{paid}
use Rattle.gq_model.specs.machine.Step.{all_empty, serving, resumed, active_again, unblocked, replied, reply, section_ended}
use Rattle.gq_model.specs.rules.Kinds.{Kind, AbstractState, Context, same_kinds}
use Rattle.gq_laws.specs.Current_section_facts.{Under}
use Rattle.gq_model.specs.rules.Rules.{must}
use Rattle.gq_model.specs.rules.Flow.{is_nil, section_end, bank_at}
use Rattle.gq_laws.specs.Session_links.{Leads, Waits, naming_in, outline, outline_in, Stance, stance, Links, links, Belongs, IsLinkedWorld}
use Rattle.gq_laws.specs.Typed.{IsCurrent, BankMeets, CurrentMeets}
use Rattle.gq_laws.specs.Inside_steps.{TakesLeaf}
use Rattle.gq_laws.specs.Reply_stances.{HasEnded, slot_replied, session_replied, AreReplied, own_then, bank_then, session_then, resuming, Replies}
use Rattle.gq_laws.specs.Reply_stances.{RepliesAsRuled}
use Rattle.gq_laws.proofs.step_shapes.Step_end_shapes.{Ends, gives, fails, when_ends}
use Rattle.gq_model.proofs.Small_facts.{some_same, none_some}
use Rattle.gq_laws.proofs.session_links.Asked_request_changes.{at_server}
use Rattle.gq_laws.proofs.session_links.Linked_after_reply.{leaf_of_stance, gone_here, handling, slot_waits, not_server}
use Rattle.gq_laws.proofs.session_links.Written_world_links.{set_here, set_else, session_here, session_else}
use Rattle.gq_laws.proofs.statement_rules.Ruled_step_shapes.{popped_there}
use Rattle.gq_laws.proofs.statement_rules.Statement_number_bounds.{under_top}
use Rattle.gq_model.proofs.Rules_laws.{must_holds}

-- A SLOT IS WRITTEN, A LEAF GOES ON

-- a world with another leaf in the place of the x-th, and this slot
pub record Goes (v w : World) (x : ℕ) (q : SlotId) (slot : Slot) (new : Leaf) : Type 0 where
  pub there : slice_get w.leaves x ≡ Some new
  pub leaves : (y : ℕ) → y ≢ x → slice_get w.leaves y ≡ slice_get v.leaves y
  pub sessions : (j : ℕ) → session_at w j ≡ session_then q slot j (session_at v j)
  pub requests : w.requests ≡ v.requests

-- a slot of the x-th leaf, or of a session
abbrev pub IsOf : ℕ → SlotId → Type 0
IsOf x (In_leaf y i) = y ≡ x
IsOf x (In_session j i) = Unit {0}
IsOf x (In_object j) = ⊥

pub written : (v : World) (q : SlotId) (slot : Slot) (x : ℕ) (old : Leaf) → slice_get v.leaves x ≡ Some old → IsOf x q
    → Goes v (with_slot v q slot) x q slot (record old { slots = own_then q slot old.slots })
written v (In_leaf y i) slot x old there of =
    let new : Leaf = record old { slots = slice_set old.slots i slot } in
    subst (λ y. Goes v (with_slot v (In_leaf y i) slot) x (In_leaf y i) slot new) (sym of)
    (subst (λ o. Goes v (put_leaf_slot v o x i slot) x (In_leaf x i) slot new) (sym there)
    (record { there = set_here v.leaves x new old there; leaves = λ y ne. set_else v.leaves x y new ne; sessions = λ j. refl; requests = refl }))
written v (In_session k i) slot x old there of = by (session_at v k) refl
  where
    then_here : (j : ℕ) (o : Option Session) → j ≡ k → (j == k) ≡ true → session_at v k ≡ o
        → bank_then i slot o ≡ session_then (In_session k i) slot j (session_at v j)
    then_here j o e holds at = sym (ap (λ b. cond b (bank_then i slot (session_at v j)) (session_at v j)) holds
        ∙ ap (bank_then i slot) (ap (session_at v) e ∙ at))

    then_else : (j : ℕ) → (j == k) ≡ false → session_at v j ≡ session_then (In_session k i) slot j (session_at v j)
    then_else j n = sym (ap (λ b. cond b (bank_then i slot (session_at v j)) (session_at v j)) n)

    by : (o : Option Session) → session_at v k ≡ o → Goes v (put_session_slot v o k i slot) x (In_session k i) slot old
    by None at =
        record {
          there = there;
          leaves = λ y ne. refl;
          sessions = λ j. elim (eqb_tells j k) [ inl e ↦ ap (session_at v) e.1 ∙ (at ∙ then_here j None e.1 e.0 at) | inr e ↦ then_else j e.0 ];
          requests = refl;
        }
    by (Some s) at =
        let t : Session = record s { slots = slice_set s.slots i slot } in
        record {
          there = there;
          leaves = λ y ne. refl;
          sessions = λ j. elim (eqb_tells j k) [
            | inl e ↦ ap (session_at (with_session v k t)) e.1 ∙ (session_here v k s t at ∙ then_here j (Some s) e.1 e.0 at)
            | inr e ↦ session_else v k j t e.1 ∙ then_else j e.0
          ];
          requests = refl;
        }
written v (In_object k) slot x old there of = absurd of

-- a leaf goes on
pub record Wakes (v w : World) (x : ℕ) (new : Leaf) : Type 0 where
  pub there : slice_get w.leaves x ≡ Some new
  pub leaves : (y : ℕ) → y ≢ x → slice_get w.leaves y ≡ slice_get v.leaves y
  pub sessions : (j : ℕ) → session_at w j ≡ session_at v j
  pub requests : w.requests ≡ v.requests

wakes : (v : World) (x : ℕ) (f : List ℕ → List ℕ) (old : Leaf) → slice_get v.leaves x ≡ Some old
    → Wakes v (unblocked v x f) x (record old { phase = resumed old.current old.reacting; operands = f old.operands })
wakes v x f old there =
    let new : Leaf = record old { phase = resumed old.current old.reacting; operands = f old.operands } in
    subst (λ o. Wakes v (active_again v x f o) x new) (sym there)
    (record { there = set_here v.leaves x new old there; leaves = λ y ne. set_else v.leaves x y new ne; sessions = λ j. refl; requests = refl })

-- a slot that waits
pub waiting_slot : (o : Option Slot) (k : ℕ) → naming_in o ≡ Some (Waits k) → o ≡ Some (Waiting k)
waiting_slot None k e = absurd (none_some e)
waiting_slot (Some Empty) k e = absurd (none_some e)
waiting_slot (Some (Bytes form n bytes)) k e = absurd (none_some e)
waiting_slot (Some (Pool n entries)) k e = absurd (none_some e)
waiting_slot (Some (Link j)) k e = absurd (leads_waits e)
  where
    leads_waits : {j k : ℕ} → Some (Leads j) ≡ Some (Waits k) → ⊥
    leads_waits e = cc
waiting_slot (Some (Waiting j)) k e = ap (λ n. Some (Waiting n)) (number e)
  where
    number : {j k : ℕ} → Some (Waits j) ≡ Some (Waits k) → j ≡ k
    number e = cc

-- THE REPLY

module _ (promised : ℕ → Option Kind) (c : Context) (d : Doing) (t : TakesLeaf d) (h : IsLinkedWorld d.system d.world) (handles : d.leaf.phase ≡ Handling)
    (state : AbstractState) (g : Current) (s : Session) (at_current : d.leaf.current ≡ Some g) (found : session_at d.world g.session ≡ Some s) where
  abbrev L : Links
  L = links d.world

  abbrev k : ℕ
  k = g.session

  outlined : L.sessions k ≡ Some (outline s)
  outlined = ap outline_in found

  waits : L.slots s.slot_id ≡ Some (Waits k)
  waits = slot_waits d t h handles g at_current s found

  pub client_else : s.client ≢ d.x
  client_else = not_server d t h handles g at_current s found

  stood : L.stances d.x ≡ Some (stance Handling (Some g))
  stood = handling d t h handles g at_current s found

  pub blocks : (o : Option Current) × (L.stances s.client ≡ Some (stance Blocked o))
  blocks = h.waits k (outline s) outlined waits

  pub client_leaf : (leaf : Leaf) × (slice_get d.world.leaves s.client ≡ Some leaf) × (stance leaf.phase leaf.current ≡ stance Blocked blocks.0)
  client_leaf = leaf_of_stance (slice_get d.world.leaves s.client) (stance Blocked blocks.0) blocks.1

  abbrev old : Leaf
  old = client_leaf.0

  is_of : (q : SlotId) (x : ℕ) → Belongs L q x → IsOf x q
  is_of (In_leaf y i) x b = b
  is_of (In_session j i) x b = tt
  is_of (In_object j) x b = absurd b

  pub client_slot_id : IsOf s.client s.slot_id
  client_slot_id = is_of s.slot_id s.client (h.belongs k (outline s) outlined)

  -- a session to the client is another
  pub served_else : (j : ℕ) (u : Session) → L.sessions j ≡ Some u → u.server ≡ s.client → j ≢ k
  served_else j u there to same =
      client_else (sym to ∙ (ap (λ (s : Session). s.server) (some_same (sym there ∙ (ap L.sessions same ∙ outlined)))
      ∙ at_server d.system L h k (outline s) outlined d.x Handling g stood refl))

  stays_there : (slot : Slot) (q : SlotId) → Belongs L q s.client → session_then q slot k (Some s) ≡ Some s
  stays_there slot (In_leaf y i) b = refl
  stays_there slot (In_session j i) b =
      elim (eqb_tells k j) [
        | inl e ↦ absurd (served_else j b.0 b.1 b.3 (sym e.1))
        | inr e ↦ ap (λ b. cond b (bank_then i slot (Some s)) (Some s)) e.0
      ]
  stays_there slot (In_object j) b = absurd b

  -- the world with the reply, by what the slot holds and what becomes of the session
  pub record Made (slot : Slot) (left : Option Session) (operands : List ℕ) (w : World) : Type 0 where
    pub server : slice_get w.leaves d.x ≡ Some (serving d.leaf)
    pub session : session_at w k ≡ left
    pub goes_on : slice_get w.leaves s.client ≡ Some (resuming old operands (own_then s.slot_id slot old.slots))
    pub leaves : (y : ℕ) → y ≢ d.x → y ≢ s.client → slice_get w.leaves y ≡ slice_get d.world.leaves y
    pub sessions : (j : ℕ) → j ≢ k → session_at w j ≡ session_then s.slot_id slot j (session_at d.world j)
    pub requests : w.requests ≡ d.world.requests

  abbrev served : World
  served = standing d (serving d.leaf)

  abbrev put : Slot → World
  put slot = with_slot served s.slot_id slot

  puts : (slot : Slot) → Goes served (put slot) s.client s.slot_id slot (record old { slots = own_then s.slot_id slot old.slots })
  puts slot = written served s.slot_id slot s.client old (set_else d.world.leaves d.x s.client (serving d.leaf) client_else ∙ client_leaf.1) client_slot_id

  -- a world of the same leaves and requests, in which the client goes on
  made : (slot : Slot) (left : Option Session) (f : List ℕ → List ℕ) (v : World) → v.leaves ≡ (put slot).leaves → v.requests ≡ (put slot).requests
      → session_at v k ≡ left → ((j : ℕ) → j ≢ k → session_at v j ≡ session_at (put slot) j) → Made slot left (f old.operands) (unblocked v s.client f)
  made slot left f v leaves requests here else =
      let p = puts slot in
      let w = wakes v s.client f (record old { slots = own_then s.slot_id slot old.slots }) (ap (λ l. slice_get l s.client) leaves ∙ p.there) in
      let rest : (y : ℕ) → y ≢ s.client → slice_get (unblocked v s.client f).leaves y ≡ slice_get served.leaves y =
      λ y ne. w.leaves y ne ∙ (ap (λ l. slice_get l y) leaves ∙ p.leaves y ne) in
      record {
        server = rest d.x (λ e. client_else (sym e)) ∙ set_here d.world.leaves d.x (serving d.leaf) t.old t.there;
        session = w.sessions k ∙ here;
        goes_on = w.there;
        leaves = λ y ne other. rest y other ∙ set_else d.world.leaves d.x y (serving d.leaf) ne;
        sessions = λ j ne. w.sessions j ∙ (else j ne ∙ p.sessions j);
        requests = w.requests ∙ (requests ∙ p.requests);
      }

  made_link : (f : List ℕ → List ℕ) → Made (Link k) (Some s) (f old.operands) (unblocked (put (Link k)) s.client f)
  made_link f =
      made (Link k) (Some s) f (put (Link k)) refl refl
      ((puts (Link k)).sessions k ∙ (ap (session_then s.slot_id (Link k) k) found ∙ stays_there (Link k) s.slot_id (h.belongs k (outline s) outlined)))
      (λ j ne. refl)

  abbrev without : World
  without = record (put Empty) { sessions = slice_set (put Empty).sessions k None }

  made_close : Made Empty None old.operands (unblocked without s.client (λ operands. operands))
  made_close = made Empty None (λ operands. operands) without refl refl (gone_here (put Empty).sessions k)
      (λ j ne. ap joined (set_else (put Empty).sessions k j None ne))

  abbrev most : ℕ
  most = number_of c.subject.provided (λ i. i.reply)

  abbrev Made_by : Section → World → Type 0
  Made_by section w = (operands : List ℕ) × AreReplied most section old.operands operands × Made (slot_replied section k) (session_replied section s) operands w

  reply_made : (section : Section) (last : AbstractState) → Under d.leaf.operands state.bounds → section_end c.subject section state ≡ Ok last
      → Ends (Made_by section) (reply d k section s)
  reply_made Main last under e = fails WrongKind
  reply_made Opening last under e = when_ends (Made_by Opening) _ _ _ (gives _ Quiet (old.operands, refl, made_link (λ operands. operands)))
  reply_made (Upgrading l) last under e = gives _ Quiet (old.operands, refl, made_link (λ operands. operands))
  reply_made (Calling l) last under e =
      let p = popped_there state (λ a t. must (is_nil t.bounds) LeftoverOperand
      (must (nat_le a most) ValueTooLarge (must (same_kinds state.bank (bank_at c.subject l)) SessionBankChanged (Ok t)))) last e in
      let one = must_holds (is_nil p.1) _ _ last p.3 in
      let fits = must_holds (nat_le p.0 most) _ _ last one.1 in
      let bound = leb-true p.0 most fits.0 in
      let u = under_top d.leaf.operands p.0 p.1 (subst (Under d.leaf.operands) p.2 under) in
      let least = u.3 in
      subst (λ (o : List ℕ). Ends (Made_by (Calling l)) (pop o (λ a rest. replied d k s (λ operands. a ∷ operands)))) (sym u.2)
      (gives _ Quiet (u.0 ∷ old.operands, (u.0, omega (arith, least, bound), refl), made_link (λ operands. u.0 ∷ operands)))
  reply_made (Closing l) last under e = when_ends (Made_by (Closing l)) (all_empty s.slots) WrongKind _
      (when_ends (Made_by (Closing l)) (paid d.system (unblocked without s.client (λ operands. operands))) ExceededQuota _
      (gives _ Quiet (old.operands, refl, made_close)))
  reply_made (Reacting i) last under e = fails WrongKind

  bank_is : (o : Option Current) → o ≡ Some g → CurrentMeets promised c state.bank d.world o → BankMeets promised c state.bank s
  bank_is None e b = absurd (none_some e)
  bank_is (Some f) e b = subst (BankMeets promised c state.bank)
      (some_same (sym b.1 ∙ (ap (λ (f : Current). session_at d.world f.session) (some_same e) ∙ found))) b.2

  pub replies_by : (w : World) → HasEnded promised c state d g s w → Replies promised c state d g s w
  replies_by w e =
      let at : IsCurrent c.section (Some g) d.leaf.reacting = subst (λ o. IsCurrent c.section o d.leaf.reacting) at_current e.meets.current in
      let ends = ap (λ section. section_end c.subject section state) at.0 ∙ e.ends in
      let is : reply d k g.section s ≡ Ok (w, e.event) = sym (ap (λ o. section_ended d o d.leaf.reacting) at_current
      ∙ ap (λ o. need o WrongKind (reply d k g.section)) found)
      ∙ e.ended in
      let m = (reply_made g.section e.last e.meets.operands ends).holds w e.event is in
      record {
        server = m.2.server;
        session = m.2.session;
        bank = bank_is d.leaf.current at_current e.meets.bank;
        other = client_else;
        client = old;
        was = client_leaf.1;
        blocked = ap (λ (u : Stance). u.phase) client_leaf.2;
        operands = m.0;
        replied = m.1;
        goes_on = m.2.goes_on;
        waited = waiting_slot (slot_at d.world s.slot_id) k waits;
        leaves = m.2.leaves;
        sessions = m.2.sessions;
        requests = m.2.requests;
      }

pub replies_ruled : (promised : ℕ → Option Kind) (c : Context) (d : Doing) → TakesLeaf d → IsLinkedWorld d.system d.world → d.leaf.phase ≡ Handling
    → RepliesAsRuled promised c d
replies_ruled promised c d t h handles state g s w e = replies_by promised c d t h handles state g s e.at_current e.there w e

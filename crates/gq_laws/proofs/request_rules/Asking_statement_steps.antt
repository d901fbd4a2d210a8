-- Statements that ask something of a session leave the leaf waiting, for what the rules state.
use Rattle.std.proofs.Common.{◌≡◌, ◌≢◌, ℕ, suc, ◌≤◌, nat_lt, length, inl, inr, Bool, true, false, cond, List, ◌∷◌, Option, Some, None, Ok, refl, ap, sym, ◌∙◌}
use Rattle.std.proofs.Common.{subst, arith}
use Rattle.std.specs.Prelude.{nat_le, slice_get, slice_set, slice_index_or}
use Rattle.std.proofs.lemmas.Bool.{leb-true}
use Rattle.std.proofs.lemmas.List.{set-set}
use Rattle.std.proofs.lemmas.Bool.Decides.{eqb_tells}
use Rattle.gq_model.specs.machine.Amounts.{Amount, amount, plus}
use Rattle.gq_model.specs.declared.program.OperandSlot.{OperandSlot}
use Rattle.gq_model.specs.declared.program.OperandSlot.TheVariants.{Own, Shared, Object}
use Rattle.gq_model.specs.declared.program.Form.{Form}
use Rattle.gq_model.specs.declared.program.Form.TheVariants.{Slice}
use Rattle.gq_model.specs.declared.program.Instruction.{Instruction}
use Rattle.gq_model.specs.declared.program.Instruction.TheVariants.{Open, Upgrade, Call, Close}
use Rattle.gq_model.specs.machine.Scenario.{Interface, interface_in, number_of, open_caps, upgrade_caps}
use Rattle.gq_model.specs.machine.Routes.{server_of}
use Rattle.gq_model.specs.declared.fault.Wrong.TheVariants.{WrongKind}
use Rattle.gq_model.specs.machine.World.{joined, Slot, Empty, Bytes, Pool, Link, Waiting, SlotId, In_leaf, In_session, Session, Ask, Ask_open, Ask_upgrade}
use Rattle.gq_model.specs.machine.World.{Ask_close, Ask_call, Current, Leaf, World, session_at, with_session, slot_at, with_slot, put_leaf_slot}
use Rattle.gq_model.specs.machine.World.{put_session_slot}
use Rattle.gq_model.specs.machine.World.{slot_id_of}
use Rattle.gq_model.specs.machine.Doing.{Doing, need, fill, with_operands}
use Rattle.gq_model.specs.machine.Requests.{add_session, free_place, new_session, asked, link_in}
use Rattle.gq_model.specs.rules.Rules.{is_empty_kind, link_kind, may_change, called, judge}
use Rattle.gq_model.specs.machine.Step.{instruct}
use Rattle.gq_model.specs.rules.Kinds.{Kind, Empty_kind, Memory, Pool_kind, Link_kind, AbstractState, Context, kind_at, with_kind}
use Rattle.gq_model.specs.machine.Sections.{is_own_section}
use Rattle.gq_laws.specs.Current_section_facts.{Under}
use Rattle.gq_laws.specs.Session_links.{Naming, Leads, named, naming_in, outline_in, links, IsLinkedWorld}
use Rattle.gq_laws.specs.Typed.{IsKind, Meets}
use Rattle.gq_laws.specs.Inside_steps.{IsSafe, TakesLeaf, Grants}
use Rattle.gq_laws.specs.Asking.{ReportsLinks, IsAsk, IsServed, Awaits, AsksAsRuled}
use Rattle.gq_model.proofs.Small_facts.{some_same, none_some, set_there}
use Rattle.gq_laws.proofs.session_links.Written_world_links.{session_here, session_else, slot_requests, leaf_in_slot}
use Rattle.gq_laws.proofs.session_links.Linked_after_open.{free_at, add_here, add_else, free_slot}
use Rattle.gq_laws.proofs.statement_rules.Ruled_step_shapes.{safe_need, safe_pop, given_there, popped_there, pushed_there, judged_alone}
use Rattle.gq_laws.proofs.statement_rules.Ruled_memory_there.{finds, empty_by}
use Rattle.gq_laws.proofs.statement_rules.Statement_number_bounds.{under_top}
use Rattle.gq_laws.proofs.request_rules.Waiting_request_stance.{Made, IsSlotPlace, same_slots, AllCurrent, asked_safe}
use Rattle.gq_model.proofs.Rules_laws.{ok_same, must_holds}

-- THE LINK THAT A STATEMENT NAMES

pub link_is : (o : Option Kind) (l : List ℕ × ℕ × Amount) → link_kind o ≡ Some l → o ≡ Some (Link_kind l.0 l.1 l.2)
link_is None l e = absurd (none_some e)
link_is (Some Empty_kind) l e = absurd (none_some e)
link_is (Some (Memory form n)) l e = absurd (none_some e)
link_is (Some (Pool_kind n m)) l e = absurd (none_some e)
link_is (Some (Link_kind service level given)) l e = ap (λ (l : List ℕ × ℕ × Amount). Some (Link_kind l.0 l.1 l.2)) (some_same e)

empty_link : {service : List ℕ} {level : ℕ} {given : Amount} → Link_kind service level given ≢ Empty_kind
empty_link e = cc

memory_link : {service : List ℕ} {level : ℕ} {given : Amount} {form : Form} {n : ℕ} → Link_kind service level given ≢ Memory form n
memory_link e = cc

pool_link : {service : List ℕ} {level : ℕ} {given : Amount} {n m : ℕ} → Link_kind service level given ≢ Pool_kind n m
pool_link e = cc

pub same_service : {service other : List ℕ} {level l : ℕ} {given a : Amount} → Link_kind service level given ≡ Link_kind other l a → service ≡ other
same_service e = cc

pub same_level : {service other : List ℕ} {level l : ℕ} {given a : Amount} → Link_kind service level given ≡ Link_kind other l a → level ≡ l
same_level e = cc

same_given : {service other : List ℕ} {level l : ℕ} {given a : Amount} → Link_kind service level given ≡ Link_kind other l a → given ≡ a
same_given e = cc

-- the session behind a link, which stands as promised; no other slot names it
pub record Linked (d : Doing) (place : OperandSlot) (service : List ℕ) (level : ℕ) (given : Amount) : Type 0 where
  pub q : SlotId
  pub slot_id : slot_id_of d.x d.leaf.current place ≡ Some q
  pub k : ℕ
  pub there : slot_at d.world q ≡ Some (Link k)
  pub s : Session
  pub found : session_at d.world k ≡ Some s
  pub service_is : service ≡ s.service
  pub level_is : level ≡ s.level
  pub given_is : given ≡ s.donation
  pub alone : (r : SlotId) → r ≢ q → (n : Naming) → naming_in (slot_at d.world r) ≡ Some n → named n ≢ k

module _ (promised : ℕ → Option Kind) (c : Context) (d : Doing) (t : TakesLeaf d) (h : IsLinkedWorld d.system d.world) (reports : ReportsLinks promised d.world)
    (g : Grants promised c d) (state : AbstractState) (m : Meets promised c state d.world d.leaf) where
  linked_by : (place : OperandSlot) (service : List ℕ) (level : ℕ) (given : Amount) (q : SlotId) → slot_id_of d.x d.leaf.current place ≡ Some q → (slot : Slot)
      → slot_at d.world q ≡ Some slot → IsKind promised slot (Link_kind service level given) → Linked d place service level given
  linked_by place service level given q slot_id Empty there is = absurd (empty_link is)
  linked_by place service level given q slot_id (Bytes form n bytes) there is = absurd (memory_link is.0)
  linked_by place service level given q slot_id (Pool n entries) there is = absurd (pool_link is.0)
  linked_by place service level given q slot_id (Waiting k) there is = absurd (g.awake place q k slot_id there)
  linked_by place service level given q slot_id (Link k) there is =
      let s = reports q k (Link_kind service level given) there is in
      let u = h.named q (Leads k) (ap naming_in there) in
      record {
        q = q;
        slot_id = slot_id;
        k = k;
        there = there;
        s = s.0;
        found = s.1;
        service_is = same_service s.2;
        level_is = same_level s.2;
        given_is = same_given s.2;
        alone = λ r ne n names same. (let v = h.named r n names in
            ne (sym v.2 ∙ (ap (λ (s : Session). s.slot_id) (some_same (sym v.1 ∙ (ap (links d.world).sessions same ∙ u.1))) ∙ u.2)));
      }

  linked_there : (place : OperandSlot) (l : List ℕ × ℕ × Amount) → link_kind (kind_at c state place) ≡ Some l → Linked d place l.0 l.1 l.2
  linked_there place l e =
      let f = finds promised c d t g state m place (Link_kind l.0 l.1 l.2) (link_is (kind_at c state place) l e) in
      linked_by place l.0 l.1 l.2 f.q f.named f.slot f.there f.is

  -- a place of a link is no object
  slot_place : (place : OperandSlot) (l : List ℕ × ℕ × Amount) → link_kind (kind_at c state place) ≡ Some l → IsSlotPlace place
  slot_place (Own i) l e = tt
  slot_place (Shared i) l e = tt
  slot_place Object l e = by (is_own_section c.section) e
    where
      by : (b : Bool) → link_kind (cond b None (Some (Memory Slice (number_of c.subject.provided (λ i. i.object))))) ≡ Some l → ⊥
      by true e = none_some e
      by false e = none_some e

  keeps_bounds : (place : OperandSlot) (kind : Kind) → with_kind state place kind ≡ record (with_kind state place kind) { bounds = state.bounds }
  keeps_bounds (Own i) kind = refl
  keeps_bounds (Shared i) kind = refl
  keeps_bounds Object kind = refl

  -- no session has changed
  all_current_same : (k : ℕ) (kind : Kind) (ask : Ask) (i : Instruction) (is : IsAsk i ask) (place : OperandSlot) → IsSlotPlace place
      → AllCurrent promised c d t state m k kind ask i is place d.world
  all_current_same k kind ask i is place slot g s handed there = (s, there, refl, same_slots k place slot s.slots s.slots refl)

  close_waits : (place : OperandSlot) (new : AbstractState) → judge c state (Close place) ≡ Ok new → IsSafe (Awaits promised c new (Close place) d)
      (instruct d (Close place))
  close_waits place new e =
      let l = given_there (link_kind (kind_at c state place)) _ _ new e in
      let i = given_there (interface_in l.0.0 c.subject.interfaces) _ _ new l.2 in
      let may = must_holds (may_change c place) _ _ new i.2 in
      let k = linked_there place l.0 l.1 in
      let slot = slot_place place l.0 l.1 in
      let made : Made d k.k Empty_kind Ask_close d.world =
      record { old = t.old; there = t.there; requests = refl; session = k.s; found = k.found; fits = (refl, tt) } in
      subst (λ new. IsSafe (Awaits promised c new (Close place) d) (instruct d (Close place))) (ok_same may.1)
      (safe_need (slot_id_of d.x d.leaf.current place) _ _ k.q k.slot_id
      (subst (λ o. IsSafe (Awaits promised c (with_kind state place Empty_kind) (Close place) d) (link_in d.world o (λ j s. asked d d.world k.q j Ask_close)))
      (sym k.there)
      (safe_need (session_at d.world k.k) _ _ k.s k.found
      (asked_safe promised c d t state m k.k Empty_kind Ask_close (Close place) refl place k.q d.world d.leaf.operands state.bounds
      (with_kind state place Empty_kind) slot d.leaf.current refl k.slot_id k.alone made
      (all_current_same k.k Empty_kind Ask_close (Close place) refl place slot)
      (keeps_bounds place Empty_kind) m.operands))))

  -- a call: the operand is taken, and the reply is not there yet
  same_kind_at : (place : OperandSlot) (bounds : List ℕ) → kind_at c (record state { bounds = bounds }) place ≡ kind_at c state place
  same_kind_at (Own i) bounds = refl
  same_kind_at (Shared i) bounds = refl
  same_kind_at Object bounds = refl

  kind_stays : (place : OperandSlot) (kind : Kind) → kind_at c state place ≡ Some kind → with_kind state place kind ≡ state
  kind_stays (Own i) kind e = ap (λ o. record state { own = o }) (set_there state.own i kind e)
  kind_stays (Shared i) kind e = by (is_own_section c.section) e
    where
      by : (b : Bool) → cond b None (slice_get state.bank i) ≡ Some kind → with_kind state (Shared i) kind ≡ state
      by true e = absurd (none_some e)
      by false e = ap (λ o. record state { bank = o }) (set_there state.bank i kind e)
  kind_stays Object kind e = refl

  interface_there : (service : List ℕ) (s : Session) (i : Interface) → service ≡ s.service → interface_in service c.subject.interfaces ≡ Some i
      → interface_in s.service d.system.interfaces ≡ Some i
  interface_there service s i same e = (λ j. interface_in (sym same j) (sym g.interfaces j)) ∙ e

  call_waits : (place : OperandSlot) (new : AbstractState) → judge c state (Call place) ≡ Ok new → IsSafe (Awaits promised c new (Call place) d)
      (instruct d (Call place))
  call_waits place new e =
      let p = popped_there state (λ a t. called c t a place) new e in
      let taken : AbstractState = record state { bounds = p.1 } in
      let l = given_there (link_kind (kind_at c taken place)) _ _ new p.3 in
      let i = given_there (interface_in l.0.0 c.subject.interfaces) _ _ new l.2 in
      let fits = must_holds (nat_le p.0 i.0.arg) _ _ new i.2 in
      let leads = ap link_kind (sym (same_kind_at place p.1)) ∙ l.1 in
      let u = under_top d.leaf.operands p.0 p.1 (subst (Under d.leaf.operands) p.2 m.operands) in
      let k = linked_there place l.0 leads in
      let slot = slot_place place l.0 leads in
      let kind : Kind = Link_kind l.0.0 l.0.1 l.0.2 in
      let most = leb-true p.0 i.0.arg fits.0 in
      let least = u.3 in
      let within : u.0 ≤ number_of (interface_in k.s.service d.system.interfaces) (λ i. i.arg) =
      subst (λ o. u.0 ≤ number_of o (λ i. i.arg)) (sym (interface_there l.0.0 k.s i.0 k.service_is i.1)) (omega (arith, most, least)) in
      let made : Made d k.k kind (Ask_call u.0) d.world =
      record {
        old = t.old;
        there = t.there;
        requests = refl;
        session = k.s;
        found = k.found;
        fits = (λ j. Link_kind (k.service_is j) (k.level_is j) (k.given_is j), within);
      } in
      let stays = ap (λ (s : AbstractState). record s { bounds = p.1 }) (sym (kind_stays place kind (link_is (kind_at c state place) l.0 leads))) in
      let after : AbstractState = record state { bounds = i.0.reply ∷ p.1 } in
      subst (λ new. IsSafe (Awaits promised c new (Call place) d) (instruct d (Call place))) (sym (pushed_there i.0.reply taken new fits.1).1)
      (safe_pop d.leaf.operands _ u.0 u.1 u.2
      (safe_need (slot_id_of d.x d.leaf.current place) _ _ k.q k.slot_id
      (subst (λ o. IsSafe (Awaits promised c after (Call place) d)
      (link_in d.world o (λ j s. asked (record d { leaf = with_operands d u.1 }) d.world k.q j (Ask_call u.0)))) (sym k.there)
      (safe_need (session_at d.world k.k) _ _ k.s k.found
      (asked_safe promised c d t state m k.k kind (Ask_call u.0) (Call place)
      (u.0, refl) place k.q d.world u.1 p.1 after slot d.leaf.current refl k.slot_id k.alone made
      (all_current_same k.k kind (Ask_call u.0) (Call place) (u.0, refl) place slot) stays u.4)))))

  -- an upgrade: the session has a greater donation
  current_given : (k : ℕ) (kind : Kind) (ask : Ask) (i : Instruction) (is : IsAsk i ask) (place : OperandSlot) → IsSlotPlace place → (s : Session)
      → session_at d.world k ≡ Some s → (more : Amount) → AllCurrent promised c d t state m k kind ask i is place
      (with_session d.world k (record s { donation = more }))
  current_given k kind ask i is place slot s found more g u handed there =
      elim (eqb_tells g.session k) [
        | inl a ↦ (let same : s ≡ u = some_same (sym found ∙ (ap (session_at d.world) (sym a.1) ∙ there)) in (
          record s { donation = more },
          ap (session_at (with_session d.world k (record s { donation = more }))) a.1
              ∙ session_here d.world k s (record s { donation = more }) found,
          ap (λ (s : Session). s.object) same,
          same_slots k place slot s.slots u.slots (ap (λ (s : Session). s.slots) same),
        ))
        | inr a ↦ (u, session_else d.world k g.session (record s { donation = more }) a.1 ∙ there, refl, same_slots k place slot u.slots u.slots refl)
      ]

  upgrade_waits : (place : OperandSlot) (n : ℕ) (new : AbstractState) → judge c state (Upgrade place n) ≡ Ok new
      → IsSafe (Awaits promised c new (Upgrade place n) d) (instruct d (Upgrade place n))
  upgrade_waits place n new e =
      let l = given_there (link_kind (kind_at c state place)) _ _ new e in
      let i = given_there (interface_in l.0.0 c.subject.interfaces) _ _ new l.2 in
      let level = must_holds (nat_lt l.0.1 (length i.0.upgrades)) _ _ new i.2 in
      let may = must_holds (may_change c place) _ _ new level.1 in
      let next : Amount = slice_index_or i.0.upgrades l.0.1 (amount 0 0) in
      let enough = must_holds (nat_le next.ram n) _ _ new may.1 in
      let k = linked_there place l.0 l.1 in
      let slot = slot_place place l.0 l.1 in
      let kind : Kind = Link_kind l.0.0 (suc l.0.1) (plus l.0.2 (amount n next.caps)) in
      let is_there = interface_there l.0.0 k.s i.0 k.service_is i.1 in
      let more : Amount = plus k.s.donation (amount n (upgrade_caps (interface_in k.s.service d.system.interfaces) k.s.level)) in
      let caps : next.caps ≡ upgrade_caps (interface_in k.s.service d.system.interfaces) k.s.level =
      ap (λ l. (slice_index_or i.0.upgrades l (amount 0 0)).caps) k.level_is ∙ ap (λ o. upgrade_caps o k.s.level) (sym is_there) in
      let given : Session = record k.s { donation = more } in
      let w : World = with_session d.world k.k given in
      let made : Made d k.k kind Ask_upgrade w = record {
        old = t.old;
        there = t.there;
        requests = refl;
        session = given;
        found = session_here d.world k.k k.s given k.found;
        fits =
            (λ j. Link_kind (k.service_is j) (suc (k.level_is j)) (plus (k.given_is j) (amount n (caps j))), tt);
      } in
      subst (λ new. IsSafe (Awaits promised c new (Upgrade place n) d) (instruct d (Upgrade place n))) (ok_same enough.1)
      (safe_need (slot_id_of d.x d.leaf.current place) _ _ k.q k.slot_id
      (subst (λ o. IsSafe (Awaits promised c (with_kind state place kind) (Upgrade place n) d)
      (link_in d.world o (λ j s. asked d (with_session d.world j
      (record s { donation = plus s.donation (amount n (upgrade_caps (interface_in s.service d.system.interfaces) s.level)) })) k.q j Ask_upgrade)))
      (sym k.there)
      (safe_need (session_at d.world k.k) _ _ k.s k.found
      (asked_safe promised c d t state m k.k kind Ask_upgrade (Upgrade place n) refl place k.q w d.leaf.operands state.bounds
      (with_kind state place kind) slot d.leaf.current refl k.slot_id k.alone made
      (current_given k.k kind Ask_upgrade (Upgrade place n) refl place slot k.s k.found more) (keeps_bounds place kind) m.operands))))

  -- an open: a session at the first free place
  empty_place : (place : OperandSlot) (kind : Kind) → kind_at c state place ≡ Some kind → is_empty_kind kind ≡ true → IsSlotPlace place
  empty_place (Own i) kind e empty = tt
  empty_place (Shared i) kind e empty = tt
  empty_place Object kind e empty = by (is_own_section c.section) e
    where
      no : false ≡ true → ⊥
      no e = cc

      by : (b : Bool) → cond b None (Some (Memory Slice (number_of c.subject.provided (λ i. i.object)))) ≡ Some kind → ⊥
      by true e = none_some e
      by false e = no (ap is_empty_kind (some_same e) ∙ empty)

  abbrev place_free : ℕ
  place_free = free_place d.world.sessions

  abbrev filled : SlotId → World
  filled q = with_slot d.world q (Waiting place_free)

  abbrev opened_world : Session → SlotId → World
  opened_world s q = record (filled q) { sessions = add_session s (filled q).sessions }

  opened_else : (s : Session) (q : SlotId) (j : ℕ) → j ≢ place_free → session_at (opened_world s q) j ≡ session_at (filled q) j
  opened_else s q j ne = add_else s (filled q).sessions j (λ e. ne (e ∙ free_slot d.world q (Waiting place_free)))

  is_else : (j : ℕ) (u : Session) → session_at d.world j ≡ Some u → j ≢ place_free
  is_else j u there same = none_some (sym (free_at d.world.sessions) ∙ (ap (session_at d.world) (sym same) ∙ there))

  own_sessions : (i j : ℕ) → session_at (filled (In_leaf d.x i)) j ≡ session_at d.world j
  own_sessions i j = by (slice_get d.world.leaves d.x)
    where
      by : (o : Option Leaf) → session_at (put_leaf_slot d.world o d.x i (Waiting place_free)) j ≡ session_at d.world j
      by None = refl
      by (Some leaf) = refl

  shared_session : (j at : ℕ) (u : Session) → session_at d.world j ≡ Some u
      → session_at (filled (In_session j at)) j ≡ Some (record u { slots = slice_set u.slots at (Waiting place_free) })
  shared_session j at u there =
      subst (λ o. session_at (put_session_slot d.world o j at (Waiting place_free)) j ≡ Some (record u { slots = slice_set u.slots at (Waiting place_free) }))
      (sym there)
      (session_here d.world j u (record u { slots = slice_set u.slots at (Waiting place_free) }) there)

  current_opened : (kind : Kind) (i : Instruction) (is : IsAsk i Ask_open) (s : Session) (place : OperandSlot) (current : Option Current) (q : SlotId)
      → IsSlotPlace place
      → d.leaf.current ≡ current → slot_id_of d.x current place ≡ Some q → AllCurrent promised c d t state m place_free kind Ask_open i is place
      (opened_world s q)
  current_opened kind i is s (Own at) current q slot handed slot_id g u here there = (
    u,
    opened_else s q g.session (is_else g.session u there)
        ∙ (ap (λ q. session_at (filled q) g.session) (sym (some_same slot_id)) ∙ (own_sessions at g.session ∙ there)),
    refl,
    refl,
  )
  current_opened kind i is s (Shared at) None q slot handed slot_id g u here there = absurd (none_some slot_id)
  current_opened kind i is s (Shared at) (Some f) q slot handed slot_id g u here there =
      let same : f ≡ g = some_same (sym handed ∙ here) in
      let at_current : In_session g.session at ≡ q = ap (λ (f : Current). In_session f.session at) (sym same) ∙ some_same slot_id in (
        record u { slots = slice_set u.slots at (Waiting place_free) },
        opened_else s q g.session (is_else g.session u there)
            ∙ (ap (λ q. session_at (filled q) g.session) (sym at_current) ∙ shared_session g.session at u there),
        refl,
        set-set u.slots at (Waiting place_free) (Waiting place_free),
      )
  current_opened kind i is s Object current q slot handed slot_id g u here there = absurd slot

  open_waits : (place : OperandSlot) (service : List ℕ) (n : ℕ) (new : AbstractState) (server : ℕ) → server_of d.system d.component service ≡ Some server
      → judge c state (Open place service n) ≡ Ok new → IsSafe (Awaits promised c new (Open place service n) d) (instruct d (Open place service n))
  open_waits place service n new server served e =
      let old = given_there (kind_at c state place) _ _ new e in
      let empty = must_holds (is_empty_kind old.0) _ _ new old.2 in
      let may = must_holds (may_change c place) _ _ new empty.1 in
      let i = given_there (interface_in service c.subject.interfaces) _ _ new may.1 in
      let enough = must_holds (nat_le i.0.need.ram n) _ _ new i.2 in
      let f = finds promised c d t g state m place old.0 old.1 in
      let none = empty_by promised c d t g state m place old.0 f.q f.named f.slot f.there f.is empty.0 in
      let slot = empty_place place old.0 old.1 empty.0 in
      let kind : Kind = Link_kind service 0 (amount n i.0.need.caps) in
      let is_there : interface_in service d.system.interfaces ≡ Some i.0 = (λ j. interface_in service (sym g.interfaces j)) ∙ i.1 in
      let s : Session = new_session d.x f.q server service (amount n (open_caps (interface_in service d.system.interfaces))) in
      let w : World = opened_world s f.q in
      let leaf = leaf_in_slot d.world f.q (Waiting place_free) d.x t.old t.there in
      let found : session_at w place_free ≡ Some s = ap (λ j. joined (slice_get (add_session s (filled f.q).sessions) j))
      (sym (free_slot d.world f.q (Waiting place_free))) ∙ add_here s (filled f.q).sessions in
      let made : Made d place_free kind Ask_open w = record {
        old = leaf.0;
        there = leaf.1;
        requests = slot_requests d.world f.q (Waiting place_free);
        session = s;
        found = found;
        fits = (ap (λ o. Link_kind service 0 (amount n (open_caps o))) (sym is_there), tt);
      } in
      let alone : (r : SlotId) → r ≢ f.q → (n : Naming) → naming_in (slot_at d.world r) ≡ Some n → named n ≢ place_free =
      λ r ne n names same. (let v = h.named r n names in
      none_some (sym (ap outline_in (free_at d.world.sessions)) ∙ (ap (links d.world).sessions (sym same) ∙ v.1))) in
      let P = Awaits promised c (with_kind state place kind) (Open place service n) d in
      subst (λ new. IsSafe (Awaits promised c new (Open place service n) d) (instruct d (Open place service n))) (ok_same enough.1)
      (safe_need (slot_id_of d.x d.leaf.current place) _ _ f.q f.named
      (subst (λ o. IsSafe P (fill d.world f.q o (Waiting place_free)
      (λ u. need (server_of d.system d.component service) WrongKind
      (λ server. asked d (record u {
        sessions = add_session
            (new_session d.x f.q server service (amount n (open_caps (interface_in service d.system.interfaces)))) u.sessions;
      }) f.q place_free Ask_open))))
      (sym (f.there ∙ ap Some none))
      (safe_need (server_of d.system d.component service) _ _ server served
      (asked_safe promised c d t state m place_free kind Ask_open (Open place service n) refl place f.q w d.leaf.operands state.bounds
      (with_kind state place kind) slot d.leaf.current refl f.named alone made
      (current_opened kind (Open place service n) refl s place d.leaf.current f.q slot refl f.named) (keeps_bounds place kind) m.operands))))

  asks_by : (new : AbstractState) (i : Instruction) → IsServed d i → judge c state i ≡ Ok new → IsSafe (Awaits promised c new i d) (instruct d i)
  asks_by new (Open place service n) served e = open_waits place service n new served.0 served.1 e
  asks_by new (Upgrade place n) served e = upgrade_waits place n new e
  asks_by new (Call place) served e = call_waits place new e
  asks_by new (Close place) served e = close_waits place new e
  asks_by new _ served e = absurd served

pub asks_ruled : (promised : ℕ → Option Kind) (c : Context) (d : Doing) → TakesLeaf d → IsLinkedWorld d.system d.world → ReportsLinks promised d.world
    → Grants promised c d → AsksAsRuled promised c d
asks_ruled promised c d t h reports g state new i served m e = asks_by promised c d t h reports g state m new i served (judged_alone c state i new e)

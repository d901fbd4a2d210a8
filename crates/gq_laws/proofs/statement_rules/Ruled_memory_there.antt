-- Memory that the rules state of is there, and may be made and freed.
use Rattle.std.proofs.Common.{◌≡◌, ◌≢◌, ℕ, inl, inr, zero, suc, ◌==◌, ◌<◌, ◌&&◌, nat_lt, true, cond, not, List, length, replicate, Option, Some}
use Rattle.std.proofs.Common.{None, Ok, refl, ap, sym, ◌∙◌, subst, arith}
use Rattle.std.proofs.lemmas.Bool.Decides.{eqb_tells}
use Rattle.std.proofs.lemmas.List.{length-replicate}
use Rattle.gq_tariff.specs.Prices.{up}
use Rattle.gq_model.specs.declared.program.OperandSlot.{OperandSlot}
use Rattle.gq_model.specs.declared.program.OperandSlot.TheVariants.{Own, Shared, Object}
use Rattle.gq_model.specs.declared.program.Form.{Form}
use Rattle.gq_model.specs.declared.program.Form.TheVariants.{Block, Slice, Space}
use Rattle.gq_model.specs.declared.fault.Rule.TheVariants.{OwnBankChanged, HeapInSession}
use Rattle.gq_model.specs.texts.Operands.{is_slot}
use Rattle.gq_model.specs.machine.Scenario.{System, Interface, interface_in, number_of}
use Rattle.gq_model.specs.machine.World.{Slot, Empty, Bytes, Pool, Link, Waiting, SlotId, In_session, Current, Leaf, World, session_at, session_slot, slot_at}
use Rattle.gq_model.specs.machine.World.{with_slot, slot_id_of}
use Rattle.gq_model.specs.machine.Doing.{Doing, Stepped, Quiet, standing, settled, fill}
use Rattle.gq_model.specs.machine.Memory.{room, buffer_of, behind, bytes_slot_id, bytes_in, bytes_at, pool_in, pool_at, is_memory, shares_buffer, make, free}
use Rattle.gq_model.specs.machine.Memory.{is_kept as is_kept_slot}
use Rattle.gq_model.specs.rules.Kinds.{Kind, Empty_kind, Memory, Pool_kind, Link_kind, AbstractState, Context, kind_at, with_kind}
use Rattle.gq_model.specs.rules.Rules.{is_empty_kind, is_memory_kind, is_later, is_kept, reach, shared_bytes, pool_kind, may_change, is_heap_kind, is_shared}
use Rattle.gq_model.specs.rules.Rules.{freed}
use Rattle.gq_model.specs.rules.Rules.{fill as filled}
use Rattle.gq_laws.specs.Shapes.{Each}
use Rattle.gq_laws.specs.Typed.{AreBytes, IsEntry, IsKind, IsCurrent, CurrentMeets, IsLinkKind, Meets}
use Rattle.gq_laws.specs.Inside_steps.{IsSafe, TakesLeaf, Grants, StandsAt}
use Rattle.gq_model.proofs.Small_facts.{none_some, some_same}
use Rattle.gq_laws.proofs.session_links.Written_world_links.{leaf_keeps_slots}
use Rattle.gq_laws.proofs.statement_rules.Ruled_step_shapes.{safe_gives, safe_tested, safe_need, safe_when, given_there}
use Rattle.gq_laws.proofs.statement_rules.Statement_number_bounds.{zeros_bytes, each_replicate}
use Rattle.gq_laws.proofs.statement_rules.Ruled_slot_kinds.{Finds, found, stands_with, safe_settled, put_own, put_shared}
use Rattle.std.proofs.lemmas.Bool.{false≢true}
use Rattle.gq_model.proofs.Rules_laws.{ok_same, must_holds}

link_not_empty : (kind : Kind) → IsLinkKind kind → is_empty_kind kind ≡ true → ⊥
link_not_empty Empty_kind link e = link
link_not_empty (Memory form n) link e = link
link_not_empty (Pool_kind n m) link e = link
link_not_empty (Link_kind service level given) link e = false≢true e

link_not_memory : (kind : Kind) → IsLinkKind kind → is_memory_kind kind ≡ true → ⊥
link_not_memory Empty_kind link e = link
link_not_memory (Memory form n) link e = link
link_not_memory (Pool_kind n m) link e = link
link_not_memory (Link_kind service level given) link e = false≢true e

link_not_pool : (kind : Kind) (p : ℕ × ℕ) → IsLinkKind kind → pool_kind (Some kind) ≡ Some p → ⊥
link_not_pool Empty_kind p link e = link
link_not_pool (Memory form n) p link e = link
link_not_pool (Pool_kind n m) p link e = link
link_not_pool (Link_kind service level given) p link e = none_some e

reach_room : (c : Context) (form : Form) (n : ℕ) → reach c (Some (Memory form n)) ≡ Some (room form n)
reach_room c Block n = refl
reach_room c Slice n = refl
reach_room c Space n = refl

slot_id_same : (system : System) (v w : World) → ((k : ℕ) → session_at v k ≡ session_at w k) → (o : Option Slot) (q : SlotId)
    → bytes_slot_id system v o q ≡ bytes_slot_id system w o q
slot_id_same system v w same None q = refl
slot_id_same system v w same (Some Empty) q = refl
slot_id_same system v w same (Some (Bytes form n bytes)) q = refl
slot_id_same system v w same (Some (Pool n entries)) q = refl
slot_id_same system v w same (Some (Waiting k)) q = refl
slot_id_same system v w same (Some (Link k)) q = ap (λ o. behind system o k) (same k)

-- BYTES

-- the n bytes that a statement names
pub record Reaches (d : Doing) (w : World) (place : OperandSlot) (n : ℕ) : Type 0 where
  pub by : SlotId
  pub named : slot_id_of d.x d.leaf.current place ≡ Some by
  pub q : SlotId
  pub leads : bytes_slot_id d.system w (slot_at w by) by ≡ Some q
  pub form : Form
  pub size : ℕ
  pub bytes : List ℕ
  pub there : slot_at w q ≡ Some (Bytes form size bytes)
  pub count : length bytes ≡ n
  pub each : AreBytes bytes

-- the pool that a statement names
pub record HasPool (d : Doing) (w : World) (place : OperandSlot) (n m : ℕ) : Type 0 where
  pub q : SlotId
  pub named : slot_id_of d.x d.leaf.current place ≡ Some q
  pub entries : List (Option (List ℕ))
  pub there : slot_at w q ≡ Some (Pool n entries)
  pub count : length entries ≡ m
  pub each : Each (IsEntry n) entries

module _ {P : World → Type 0} (d : Doing) (w : World) (place : OperandSlot) where
  pub safe_bytes : (n : ℕ) (r : Reaches d w place n) (go : List ℕ → (List ℕ → World) → Stepped)
      → IsSafe P (go r.bytes (λ new. with_slot w r.q (Bytes r.form r.size new))) → IsSafe P (bytes_at d w place go)
  safe_bytes n r go h =
      safe_need (slot_id_of d.x d.leaf.current place) _ _ r.by r.named (safe_need (bytes_slot_id d.system w (slot_at w r.by) r.by) _ _ r.q r.leads
      (subst (λ o. IsSafe P (bytes_in w r.q o go)) (sym r.there) h))

  pub safe_pool : (n m : ℕ) (r : HasPool d w place n m) (go : ℕ → List (Option (List ℕ)) → (List (Option (List ℕ)) → World) → Stepped)
      → IsSafe P (go n r.entries (λ new. with_slot w r.q (Pool n new))) → IsSafe P (pool_at d w place go)
  safe_pool n m r go h = safe_need (slot_id_of d.x d.leaf.current place) _ _ r.q r.named (subst (λ o. IsSafe P (pool_in w r.q o go)) (sym r.there) h)

-- AT A STATE

module _ (promised : ℕ → Option Kind) (c : Context) (d : Doing) (t : TakesLeaf d) (g : Grants promised c d) (state : AbstractState)
    (h : Meets promised c state d.world d.leaf) where
  pub finds : (place : OperandSlot) (kind : Kind) → kind_at c state place ≡ Some kind → Finds promised d.world d.x d.leaf.current place kind
  finds = found promised c state d.world d.x d.leaf t.old t.there t.slots h

  reaches_by : (place : OperandSlot) (kind : Kind) (n : ℕ) (q : SlotId) → slot_id_of d.x d.leaf.current place ≡ Some q → (slot : Slot) → slot_at d.world q ≡
      Some slot
      → IsKind promised slot kind → reach c (Some kind) ≡ Some n → Reaches d d.world place n
  reaches_by place kind n q named Empty there is e = absurd (none_some (ap (λ k. reach c (Some k)) (sym is) ∙ e))
  reaches_by place kind n q named (Bytes form m bytes) there is e =
      record {
        by = q;
        named = named;
        q = q;
        leads = ap (λ o. bytes_slot_id d.system d.world o q) there;
        form = form;
        size = m;
        bytes = bytes;
        there = there;
        count = is.1 ∙ some_same (sym (reach_room c form m) ∙ (ap (λ k. reach c (Some k)) (sym is.0) ∙ e));
        each = is.2;
      }
  reaches_by place kind n q named (Pool m entries) there is e = absurd (none_some (ap (λ k. reach c (Some k)) (sym is.0) ∙ e))
  reaches_by place kind n q named (Waiting k) there is e = absurd (g.awake place q k named there)
  reaches_by place kind n q named (Link k) there is e = by_link kind (g.links q k kind there is) is e
    where
      by_link : (kind : Kind) → IsLinkKind kind → promised k ≡ Some kind → reach c (Some kind) ≡ Some n → Reaches d d.world place n
      by_link Empty_kind link is e = absurd link
      by_link (Memory form m) link is e = absurd link
      by_link (Pool_kind m m') link is e = absurd link
      by_link (Link_kind service level given) link is e =
          let there_is = ap (λ interfaces. shared_bytes (number_of (interface_in service interfaces) (λ (i : Interface). i.buffer))) (sym g.interfaces) ∙ e in
          let size = shares (buffer_of d.system service) there_is in
          let b = g.buffers q k service level given there is size.0 in
          record {
            by = q;
            named = named;
            q = In_session k 0;
            leads = ap (λ o. bytes_slot_id d.system d.world o q) there
                ∙ (ap (λ o. behind d.system o k) b.1 ∙ goes (buffer_of d.system b.0.service)
                (subst (λ service. 0 < buffer_of d.system service) (sym b.2) size.0));
            form = Space;
            size = buffer_of d.system service;
            bytes = b.3.bytes;
            there = ap (λ o. session_slot o 0) b.1 ∙ b.3.there;
            count = b.3.count ∙ sym size.1;
            each = b.3.each;
          }
        where
          shares : (m : ℕ) → shared_bytes m ≡ Some n → (0 < m) × (n ≡ up m)
          shares m e =
              elim (eqb_tells m 0) [
                | inl none ↦ absurd (none_some (ap (λ b. cond b None (Some (up m))) (sym none.0) ∙ e))
                | inr more ↦ (positive m more.1, some_same (sym e ∙ ap (λ b. cond b None (Some (up m))) more.0))
              ]
            where
              positive : (m : ℕ) → m ≢ 0 → 0 < m
              positive zero ne = absurd (ne refl)
              positive (suc m) ne = omega arith

          goes : (m : ℕ) → 0 < m → cond (m == 0) None (Some (In_session k 0)) ≡ Some (In_session k 0)
          goes m less = elim (eqb_tells m 0) [
            | inl none ↦ absurd (let z = none.1 in omega (arith, less, z))
            | inr more ↦ ap (λ b. cond b None (Some (In_session k 0))) more.0
          ]

  reaches_in : (place : OperandSlot) (n : ℕ) (o : Option Kind) → kind_at c state place ≡ o → reach c o ≡ Some n → Reaches d d.world place n
  reaches_in place n None at e = absurd (none_some e)
  reaches_in place n (Some kind) at e = let f = finds place kind at in reaches_by place kind n f.q f.named f.slot f.there f.is e

  pub reaches : (place : OperandSlot) (n : ℕ) → reach c (kind_at c state place) ≡ Some n → Reaches d d.world place n
  reaches place n e = reaches_in place n (kind_at c state place) refl e

  pool_by : (place : OperandSlot) (kind : Kind) (p : ℕ × ℕ) (q : SlotId) → slot_id_of d.x d.leaf.current place ≡ Some q → (slot : Slot) → slot_at d.world q ≡
      Some slot
      → IsKind promised slot kind → pool_kind (Some kind) ≡ Some p → HasPool d d.world place p.0 p.1
  pool_by place kind p q named Empty there is e = absurd (none_some (ap (λ k. pool_kind (Some k)) (sym is) ∙ e))
  pool_by place kind p q named (Bytes form m bytes) there is e = absurd (none_some (ap (λ k. pool_kind (Some k)) (sym is.0) ∙ e))
  pool_by place kind p q named (Waiting k) there is e = absurd (g.awake place q k named there)
  pool_by place kind p q named (Link k) there is e = absurd (link_not_pool kind p (g.links q k kind there is) e)
  pool_by place kind p q named (Pool n entries) there is e =
      let same : (n, length entries) ≡ p = some_same (ap (λ k. pool_kind (Some k)) (sym is.0) ∙ e) in
      subst (λ (p : ℕ × ℕ). HasPool d d.world place p.0 p.1) same (record { q = q; named = named; entries = entries; there = there; count = refl; each = is.1 })

  pool_found_in : (place : OperandSlot) (p : ℕ × ℕ) (o : Option Kind) → kind_at c state place ≡ o → pool_kind o ≡ Some p → HasPool d d.world place p.0 p.1
  pool_found_in place p None at e = absurd (none_some e)
  pool_found_in place p (Some kind) at e = let f = finds place kind at in pool_by place kind p f.q f.named f.slot f.there f.is e

  pub pool_found : (place : OperandSlot) (p : ℕ × ℕ) → pool_kind (kind_at c state place) ≡ Some p → HasPool d d.world place p.0 p.1
  pool_found place p e = pool_found_in place p (kind_at c state place) refl e

  -- the leaf of the step, put into the world
  pub stood : StandsAt promised c state d (standing d d.leaf)
  stood = stands_with promised c d state d.world t.old d.leaf t.there h refl refl refl refl refl

  -- the same slots as before
  pub slots_kept : (leaf : Leaf) → leaf.slots ≡ d.leaf.slots → (q : SlotId) → slot_at (standing d leaf) q ≡ slot_at d.world q
  slots_kept leaf same q = leaf_keeps_slots d.world d.x t.old leaf t.there (same ∙ t.slots) q

  put_named : (w : World) → StandsAt promised c state d w → (place : OperandSlot) (q : SlotId) → is_slot place ≡ true → slot_id_of d.x d.leaf.current place ≡
      Some q
      → (slot : Slot) (kind : Kind) → IsKind promised slot kind → StandsAt promised c (with_kind state place kind) d (with_slot w q slot)
  put_named w s (Own i) q ranged named slot kind is = subst (λ q. StandsAt promised c (with_kind state (Own i) kind) d (with_slot w q slot)) (some_same named)
      (put_own promised c d state w s i slot kind is)
  put_named w s (Shared i) q ranged named slot kind is = by d.leaf.current refl named
    where
      by : (current : Option Current) → d.leaf.current ≡ current → slot_id_of d.x current (Shared i) ≡ Some q
          → StandsAt promised c (with_kind state (Shared i) kind) d (with_slot w q slot)
      by None at named = absurd (none_some named)
      by (Some current) at named = subst (λ q. StandsAt promised c (with_kind state (Shared i) kind) d (with_slot w q slot)) (some_same named)
          (put_shared promised c d state w s current i slot kind (s.current ∙ at) is)
  put_named w s Object q ranged named slot kind is = absurd (false≢true ranged)

  -- MADE

  pub empty_by : (place : OperandSlot) (kind : Kind) (q : SlotId) → slot_id_of d.x d.leaf.current place ≡ Some q → (slot : Slot) → slot_at d.world q ≡ Some slot
      → IsKind promised slot kind → is_empty_kind kind ≡ true → slot ≡ Empty
  empty_by place kind q named Empty there is e = refl
  empty_by place kind q named (Bytes form m bytes) there is e = absurd (false≢true (ap is_empty_kind (sym is.0) ∙ e))
  empty_by place kind q named (Pool n entries) there is e = absurd (false≢true (ap is_empty_kind (sym is.0) ∙ e))
  empty_by place kind q named (Link k) there is e = absurd (link_not_empty kind (g.links q k kind there is) e)
  empty_by place kind q named (Waiting k) there is e = absurd (g.awake place q k named there)

  pub makes : (place : OperandSlot) (slot : Slot) (kind : Kind) (new : AbstractState) → is_slot place ≡ true → IsKind promised slot kind → filled c state place
      kind ≡ Ok new
      → IsSafe (StandsAt promised c new d) (make d place slot)
  makes place slot kind new ranged is e =
      let old = given_there (kind_at c state place) _ _ new e in
      let empty = must_holds (is_empty_kind old.0) _ _ new old.2 in
      let may = must_holds (may_change c place) OwnBankChanged _ new empty.1 in
      let fits = must_holds (not (is_heap_kind kind && is_shared place)) HeapInSession _ new may.1 in
      let f = finds place old.0 old.1 in
      let none = empty_by place old.0 f.q f.named f.slot f.there f.is empty.0 in
      let there : slot_at (standing d d.leaf) f.q ≡ Some Empty = slots_kept d.leaf refl f.q ∙ (f.there ∙ ap Some none) in
      subst (λ new. IsSafe (StandsAt promised c new d) (make d place slot)) (ok_same fits.1)
      (safe_need (slot_id_of d.x d.leaf.current place) _ _ f.q f.named
      (subst (λ o. IsSafe (StandsAt promised c (with_kind state place kind) d) (fill (standing d d.leaf) f.q o slot (settled d.system d.x))) (sym there)
      (safe_settled promised c d (with_kind state place kind) (with_slot (standing d d.leaf) f.q slot)
      (put_named (standing d d.leaf) stood place f.q ranged f.named slot kind is))))

  pub fresh_bytes : (form : Form) (n : ℕ) → IsKind promised (Bytes form n (replicate (room form n) 0)) (Memory form n)
  fresh_bytes form n = (refl, length-replicate (room form n) 0, zeros_bytes (room form n))

  pub fresh_pool : (n m : ℕ) → IsKind promised (Pool n (replicate m None)) (Pool_kind n m)
  fresh_pool n m = (ap (Pool_kind n) (sym (length-replicate m None)), each_replicate (IsEntry n) m None tt)

  -- FREED

  memory_by : (place : OperandSlot) (kind : Kind) (q : SlotId) → slot_id_of d.x d.leaf.current place ≡ Some q → (slot : Slot) → slot_at d.world q ≡ Some slot
      → IsKind promised slot kind → is_memory_kind kind ≡ true → is_memory (Some slot) ≡ true
  memory_by place kind q named Empty there is e = absurd (false≢true (ap is_memory_kind (sym is) ∙ e))
  memory_by place kind q named (Bytes form m bytes) there is e = refl
  memory_by place kind q named (Pool n entries) there is e = refl
  memory_by place kind q named (Link k) there is e = absurd (link_not_memory kind (g.links q k kind there is) e)
  memory_by place kind q named (Waiting k) there is e = absurd (g.awake place q k named there)

  kept_same : (place : OperandSlot) (current : Option Current) (q : SlotId) → is_slot place ≡ true → d.leaf.current ≡ current → slot_id_of d.x current place ≡
      Some q
      → is_kept_slot d current place ≡ is_kept c place
  kept_same (Own i) None q ranged at named = refl
  kept_same (Own i) (Some current) q ranged at named = refl
  kept_same Object current q ranged at named = absurd (false≢true ranged)
  kept_same (Shared i) None q ranged at named = absurd (none_some named)
  kept_same (Shared i) (Some current) q ranged at named =
      let section = subst (λ o. IsCurrent c.section o d.leaf.reacting) at h.current in
      let bank = subst (CurrentMeets promised c state.bank d.world) at h.bank in
      let later : is_later current.section ≡ is_later c.section = ap is_later section.0 in
      let shares : shares_buffer d.system (session_at d.world current.session) ≡ nat_lt 0 (number_of c.subject.provided (λ i. i.buffer)) =
      ap (shares_buffer d.system) bank.1 ∙ ap (λ (o : Option Interface). nat_lt 0 (number_of o (λ i. i.buffer))) (g.provided current bank.0 at bank.1)
      in
      (λ j. i == 0 && later j && shares j)

  pub frees : (place : OperandSlot) (new : AbstractState) → is_slot place ≡ true → freed c state place ≡ Ok new → IsSafe (StandsAt promised c new d)
      (free d place)
  frees place new ranged e =
      let old = given_there (kind_at c state place) _ _ new e in
      let memory = must_holds (is_memory_kind old.0) _ _ new old.2 in
      let stays = must_holds (not (is_kept c place)) _ _ new memory.1 in
      let may = must_holds (may_change c place) OwnBankChanged _ new stays.1 in
      let f = finds place old.0 old.1 in
      let w = standing d d.leaf in
      let there : is_memory (slot_at w f.q) ≡ true = ap is_memory (slots_kept d.leaf refl f.q ∙ f.there)
      ∙ memory_by place old.0 f.q f.named f.slot f.there f.is memory.0 in
      let kept : not (is_kept_slot d d.leaf.current place) ≡ true = ap not (kept_same place d.leaf.current f.q ranged refl f.named) ∙ stays.0 in
      subst (λ new. IsSafe (StandsAt promised c new d) (free d place)) (ok_same may.1)
      (safe_need (slot_id_of d.x d.leaf.current place) _ _ f.q f.named
      (safe_when (is_memory (slot_at w f.q) && not (is_kept_slot d d.leaf.current place)) _ _ (λ j. there j && kept j)
      (safe_tested _ _ (safe_gives (with_slot w f.q Empty) Quiet (put_named w stood place f.q ranged f.named Empty Empty_kind refl)))))

-- the same in a world of the same slots and sessions
pub reaches_there : (d : Doing) (v w : World) (place : OperandSlot) (n : ℕ) → ((q : SlotId) → slot_at w q ≡ slot_at v q) →
    ((k : ℕ) → session_at w k ≡ session_at v k)
    → Reaches d v place n → Reaches d w place n
reaches_there d v w place n slots sessions r =
    record {
      by = r.by;
      named = r.named;
      q = r.q;
      leads = slot_id_same d.system w v sessions (slot_at w r.by) r.by ∙ (ap (λ o. bytes_slot_id d.system v o r.by) (slots r.by) ∙ r.leads);
      form = r.form;
      size = r.size;
      bytes = r.bytes;
      there = slots r.q ∙ r.there;
      count = r.count;
      each = r.each;
    }

pub pool_there : (d : Doing) (v w : World) (place : OperandSlot) (n m : ℕ) → ((q : SlotId) → slot_at w q ≡ slot_at v q) → HasPool d v place n m → HasPool d w
    place n m
pool_there d v w place n m slots r = record { q = r.q; named = r.named; entries = r.entries; there = slots r.q ∙ r.there; count = r.count; each = r.each }

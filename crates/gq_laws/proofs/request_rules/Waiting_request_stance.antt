-- A request of a leaf: its slot waits, and it stands where it stood with what is promised anew.
use Rattle.std.proofs.Common.{◌≡◌, ◌≢◌, ℕ, inl, inr, List, [], ◌∷◌, ◌++◌, Option, Some, None, refl, ap, sym, ◌∙◌, subst}
use Rattle.std.specs.Prelude.{slice_get, slice_set}
use Rattle.std.proofs.lemmas.Bool.Decides.{eqb_tells}
use Rattle.gq_model.specs.declared.program.OperandSlot.{OperandSlot}
use Rattle.gq_model.specs.declared.program.OperandSlot.TheVariants.{Own, Shared, Object}
use Rattle.gq_model.specs.declared.program.Form.TheVariants.{Slice}
use Rattle.gq_model.specs.declared.phase.Phase.TheVariants.{Blocked}
use Rattle.gq_model.specs.declared.program.Instruction.{Instruction}
use Rattle.gq_model.specs.machine.Scenario.{number_of}
use Rattle.gq_model.specs.machine.World.{Slot, Waiting, SlotId, In_leaf, In_session, In_object, Session, Ask, Ask_open, Ask_upgrade, Ask_close, Ask_call}
use Rattle.gq_model.specs.machine.World.{Current}
use Rattle.gq_model.specs.machine.World.{Leaf, World, session_at, with_leaf, with_session, leaf_slot, session_slot, session_object, with_slot, put_leaf_slot}
use Rattle.gq_model.specs.machine.World.{put_session_slot, slot_id_of}
use Rattle.gq_model.specs.machine.Doing.{Doing, Quiet, with_operands}
use Rattle.gq_model.specs.machine.Requests.{asked}
use Rattle.gq_model.specs.machine.Step.{section_for, level_then}
use Rattle.gq_model.specs.rules.Kinds.{Kind, Memory, AbstractState, Context, with_kind}
use Rattle.gq_laws.specs.Current_section_facts.{Under, kind_replied}
use Rattle.gq_laws.specs.Session_links.{Naming, named, naming_in, Links, links}
use Rattle.gq_laws.specs.Typed.{IsKind, AreKinds, IsCurrent, BankMeets, CurrentMeets, AreCounts, Meets}
use Rattle.gq_laws.specs.Inside_steps.{IsSafe, TakesLeaf}
use Rattle.gq_laws.specs.Asking.{promised_anew, while_waiting, IsAsk, IsWithin, Awaits}
use Rattle.gq_model.proofs.Small_facts.{some_same, none_some}
use Rattle.gq_laws.proofs.session_links.Written_world_links.{set_here, session_here, session_else}
use Rattle.gq_laws.proofs.statement_rules.Ruled_step_shapes.{safe_gives, safe_tested}
use Rattle.gq_laws.proofs.request_rules.Promised_slot_kinds.{Free, kind_anew, kinds_anew, kinds_waiting, current_anew}

-- what is asked is of a session that stands so
abbrev pub Fits : Doing → Ask → Kind → Session → Type 0
Fits d ask kind s = (kind ≡ kind_replied (section_for ask (level_then ask s.level)) s) × IsWithin d.system s.service ask

-- a world that is made ready for the request: the leaf is there, and the session
pub record Made (d : Doing) (k : ℕ) (kind : Kind) (ask : Ask) (w : World) : Type 0 where
  pub old : Leaf
  pub there : slice_get w.leaves d.x ≡ Some old
  pub requests : w.requests ≡ d.world.requests
  pub session : Session
  pub found : session_at w k ≡ Some session
  pub fits : Fits d ask kind session

module _ (promised : ℕ → Option Kind) (c : Context) (d : Doing) (k : ℕ) (kind : Kind) (ask : Ask) (i : Instruction) (is : IsAsk i ask) (state : AbstractState)
    (ops : List ℕ) (w : World) where
  abbrev m : ℕ → Option Kind
  m = promised_anew promised k kind

  abbrev blocked : Leaf
  blocked = record d.leaf { operands = ops; phase = Blocked }

  abbrev v : World
  v = with_leaf w d.x blocked

  -- the request is the last
  abbrev requested : World → World
  requested u = record u { requests = u.requests ++ record { session = k; ask = ask } ∷ [] }

  -- its own slot waits
  own_awaits : (at : ℕ) → Made d k kind ask w → IsCurrent c.section d.leaf.current d.leaf.reacting
      → AreKinds m (slice_set d.leaf.slots at (Waiting k)) (while_waiting i state).own
      → CurrentMeets m c (while_waiting i state).bank w d.leaf.current → Under ops (while_waiting i state).bounds → Under d.leaf.locals c.subject.program.locals
      → AreCounts d.leaf.loops c.counts
      → Awaits promised c state i d (requested (with_slot v (In_leaf d.x at) (Waiting k)))
  own_awaits at made current own bank operands locals loops =
      let leaf : Leaf = record blocked { slots = slice_set d.leaf.slots at (Waiting k) } in
      let here : slice_get v.leaves d.x ≡ Some blocked = set_here w.leaves d.x blocked made.old made.there in
      subst (λ o. Awaits promised c state i d (requested (put_leaf_slot v o d.x at (Waiting k)))) (sym here)
      (record {
        k = k;
        kind = kind;
        leaf = leaf;
        there = set_here v.leaves d.x leaf blocked here;
        meets = record { own = own; current = current; bank = at_current d.leaf.current bank; operands = operands; locals = locals; loops = loops };
        todo = refl;
        loops = refl;
        current = refl;
        reacting = refl;
        phase = refl;
        ask = ask;
        is = is;
        requests = ap (λ r. r ++ record { session = k; ask = ask } ∷ []) made.requests;
        session = made.session;
        found = made.found;
        promise = made.fits.0;
        argument = made.fits.1;
      })
    where
      at_current : (current : Option Current) → CurrentMeets m c (while_waiting i state).bank w current
          → CurrentMeets m c (while_waiting i state).bank
          (requested (with_leaf v d.x (record blocked { slots = slice_set d.leaf.slots at (Waiting k) }))) current
      at_current None h = tt
      at_current (Some g) h = h

  fits_slots : (ask : Ask) (s : Session) (slots : List Slot) → Fits d ask kind s → Fits d ask kind (record s { slots = slots })
  fits_slots Ask_open s slots f = f
  fits_slots Ask_upgrade s slots f = f
  fits_slots Ask_close s slots f = f
  fits_slots (Ask_call value) s slots f = f

  -- a slot of the current session waits
  shared_awaits : (g : Current) (at : ℕ) → d.leaf.current ≡ Some g → Made d k kind ask w → IsCurrent c.section d.leaf.current d.leaf.reacting
      → AreKinds m d.leaf.slots (while_waiting i state).own
      → (s : Session) → session_at w g.session ≡ Some s → BankMeets m c (while_waiting i state).bank (record s { slots = slice_set s.slots at (Waiting k) })
      → Under ops (while_waiting i state).bounds → Under d.leaf.locals c.subject.program.locals → AreCounts d.leaf.loops c.counts
      → Awaits promised c state i d (requested (with_slot v (In_session g.session at) (Waiting k)))
  shared_awaits g at handed made current own s found bank operands locals loops =
      let t : Session = record s { slots = slice_set s.slots at (Waiting k) } in
      let here : slice_get v.leaves d.x ≡ Some blocked = set_here w.leaves d.x blocked made.old made.there in
      let mine : (u : Session) × (session_at (with_session v g.session t) k ≡ Some u) × Fits d ask kind u = elim (eqb_tells k g.session) [
        | inl a ↦ (
          t,
          ap (session_at (with_session v g.session t)) a.1
              ∙ session_here v g.session s t found,
          fits_slots ask s (slice_set s.slots at (Waiting k))
              (subst (Fits d ask kind) (some_same (sym made.found ∙ (ap (session_at w) a.1 ∙ found))) made.fits),
        )
        | inr a ↦ (made.session, session_else v g.session k t a.1 ∙ made.found, made.fits)
      ] in
      subst (λ o. Awaits promised c state i d (requested (put_session_slot v o g.session at (Waiting k)))) (sym found)
      (record {
        k = k;
        kind = kind;
        leaf = blocked;
        there = here;
        meets = record {
          own = own;
          current = current;
          bank = subst (CurrentMeets m c (while_waiting i state).bank (requested (with_session v g.session t))) (sym handed)
              (t, session_here v g.session s t found, bank);
          operands = operands;
          locals = locals;
          loops = loops;
        };
        todo = refl;
        loops = refl;
        current = refl;
        reacting = refl;
        phase = refl;
        ask = ask;
        is = is;
        requests = ap (λ r. r ++ record { session = k; ask = ask } ∷ []) made.requests;
        session = mine.0;
        found = mine.1;
        promise = mine.2.0;
        argument = mine.2.1;
      })

session_leaf : (j a x b : ℕ) → In_session j a ≢ In_leaf x b
session_leaf j a x b e = cc

object_leaf : (j x b : ℕ) → In_object j ≢ In_leaf x b
object_leaf j x b e = cc

leaf_session : (x b j a : ℕ) → In_leaf x b ≢ In_session j a
leaf_session x b j a e = cc

object_session : (i j a : ℕ) → In_object i ≢ In_session j a
object_session i j a e = cc

leaf_place : (x a b : ℕ) → a ≢ b → In_leaf x a ≢ In_leaf x b
leaf_place x a b ne e = ne (number e)
  where
    number : {x a b : ℕ} → In_leaf x a ≡ In_leaf x b → a ≡ b
    number e = cc

session_place : (j a b : ℕ) → a ≢ b → In_session j a ≢ In_session j b
session_place j a b ne e = ne (number e)
  where
    number : {j a b : ℕ} → In_session j a ≡ In_session j b → a ≡ b
    number e = cc

-- the slots of the current session are as they were, but for the one that will wait
abbrev pub SameSlots : ℕ → OperandSlot → List Slot → List Slot → Type 0
SameSlots k (Own i) a b = a ≡ b
SameSlots k (Shared i) a b = slice_set a i (Waiting k) ≡ slice_set b i (Waiting k)
SameSlots k Object a b = ⊥

abbrev pub IsSlotPlace : OperandSlot → Type 0
IsSlotPlace (Own i) = Unit {0}
IsSlotPlace (Shared i) = Unit {0}
IsSlotPlace Object = ⊥

pub same_slots : (k : ℕ) (place : OperandSlot) → IsSlotPlace place → (a b : List Slot) → a ≡ b → SameSlots k place a b
same_slots k (Own i) is_slot a b e = e
same_slots k (Shared i) is_slot a b e = ap (λ l. slice_set l i (Waiting k)) e
same_slots k Object is_slot a b e = absurd is_slot

module _ (promised : ℕ → Option Kind) (c : Context) (d : Doing) (t : TakesLeaf d) (state : AbstractState) (m : Meets promised c state d.world d.leaf) (k : ℕ)
    (kind : Kind)
    (ask : Ask) (i : Instruction) (is : IsAsk i ask) where
  abbrev L : Links
  L = links d.world

  -- no other slot names the session
  abbrev pub Alone : SlotId → Type 0
  Alone q = (r : SlotId) → r ≢ q → (n : Naming) → L.slots r ≡ Some n → named n ≢ k

  own_free : (q : SlotId) → Alone q → (j : ℕ) (s : Slot) → In_leaf d.x j ≢ q → slice_get d.leaf.slots j ≡ Some s → Free promised k kind s
  own_free q alone j s ne e n names = alone (In_leaf d.x j) ne n (ap (λ o. naming_in (leaf_slot o j)) t.there
      ∙ (ap (λ l. naming_in (slice_get l j)) (sym t.slots) ∙ (ap naming_in e ∙ names)))

  bank_free : (q : SlotId) → Alone q → (g : Current) (u : Session) → session_at d.world g.session ≡ Some u → (j : ℕ) (s : Slot) → In_session g.session j ≢ q
      → slice_get u.slots j ≡ Some s → Free promised k kind s
  bank_free q alone g u there j s ne e n names = alone (In_session g.session j) ne n (ap (λ o. naming_in (session_slot o j)) there ∙ (ap naming_in e ∙ names))

  object_free : (q : SlotId) → Alone q → (g : Current) (u : Session) → session_at d.world g.session ≡ Some u → In_object g.session ≢ q
      → Free promised k kind u.object
  object_free q alone g u there ne n names = alone (In_object g.session) ne n (ap (λ o. naming_in (session_object o)) there ∙ names)

  -- the current session, in the world that is made ready
  abbrev pub AllCurrent : OperandSlot → World → Type 0
  AllCurrent place w = (g : Current) (s : Session) → d.leaf.current ≡ Some g → session_at d.world g.session ≡ Some s
      → (u : Session) × (session_at w g.session ≡ Some u) × (u.object ≡ s.object) × SameSlots k place u.slots s.slots

  abbrev Safe : AbstractState → List ℕ → World → SlotId → Type 0
  Safe new ops w q = IsSafe (Awaits promised c new i d) (asked (record d { leaf = with_operands d ops }) w q k ask)

  asked_own : (at : ℕ) (w : World) (ops bounds : List ℕ) (new : AbstractState) → Alone (In_leaf d.x at) → Made d k kind ask w → AllCurrent (Own at) w
      → while_waiting i new ≡ record (with_kind state (Own at) kind) { bounds = bounds } → Under ops bounds → Safe new ops w (In_leaf d.x at)
  asked_own at w ops bounds new alone made all_current stays under =
      let own = kinds_waiting promised k kind d.leaf.slots state.own at (λ j s ne e. own_free (In_leaf d.x at) alone j s (leaf_place d.x j at ne) e) m.own in
      let bank = current_anew promised k kind c state.bank d.world w d.leaf.current
      (λ g s e there. (let u = all_current g s e there in (
        u.0,
        u.1,
        u.3,
        u.2,
        λ j x f. bank_free (In_leaf d.x at) alone g s there j x (session_leaf g.session j d.x at) f,
        object_free (In_leaf d.x at) alone g s there (object_leaf g.session d.x at),
      ))) m.bank in
      safe_tested _ _ (safe_gives _ Quiet (own_awaits promised c d k kind ask i is new ops w at made m.current
      (subst (λ (u : AbstractState). AreKinds (promised_anew promised k kind) (slice_set d.leaf.slots at (Waiting k)) u.own) (sym stays) own)
      (subst (λ (u : AbstractState). CurrentMeets (promised_anew promised k kind) c u.bank w d.leaf.current) (sym stays) bank)
      (subst (λ (u : AbstractState). Under ops u.bounds) (sym stays) under) m.locals m.loops))

  asked_shared : (g : Current) (at : ℕ) (w : World) (ops bounds : List ℕ) (new : AbstractState) → d.leaf.current ≡ Some g → Alone (In_session g.session at)
      → Made d k kind ask w → AllCurrent (Shared at) w → while_waiting i new ≡ record (with_kind state (Shared at) kind) { bounds = bounds } → Under ops bounds
      → Safe new ops w (In_session g.session at)
  asked_shared g at w ops bounds new handed alone made all_current stays under =
      let q : SlotId = In_session g.session at in
      let b = subst (CurrentMeets promised c state.bank d.world) handed m.bank in
      let u = all_current g b.0 handed b.1 in
      let own = kinds_anew promised k kind d.leaf.slots state.own (λ j s e. own_free q alone j s (leaf_session d.x j g.session at) e) m.own in
      let slots = kinds_waiting promised k kind b.0.slots state.bank at
      (λ j s ne e. bank_free q alone g b.0 b.1 j s (session_place g.session j at ne) e) b.2.slots in
      let object = kind_anew promised k kind b.0.object _ (object_free q alone g b.0 b.1 (object_session g.session g.session at)) b.2.object in
      let meets : BankMeets (promised_anew promised k kind) c (slice_set state.bank at kind) (record u.0 { slots = slice_set u.0.slots at (Waiting k) }) =
      record {
        slots = subst (λ l. AreKinds (promised_anew promised k kind) l (slice_set state.bank at kind)) (sym u.3) slots;
        object = subst (λ o. IsKind (promised_anew promised k kind) o (Memory Slice (number_of c.subject.provided (λ i. i.object)))) (sym u.2) object;
      }
      in
      safe_tested _ _ (safe_gives _ Quiet (shared_awaits promised c d k kind ask i is new ops w g at handed made m.current
      (subst (λ (u : AbstractState). AreKinds (promised_anew promised k kind) d.leaf.slots u.own) (sym stays) own) u.0 u.1
      (subst (λ (v : AbstractState). BankMeets (promised_anew promised k kind) c v.bank (record u.0 { slots = slice_set u.0.slots at (Waiting k) }))
      (sym stays) meets)
      (subst (λ (u : AbstractState). Under ops u.bounds) (sym stays) under) m.locals m.loops))

  pub asked_safe : (place : OperandSlot) (q : SlotId) (w : World) (ops bounds : List ℕ) (new : AbstractState) → IsSlotPlace place → (current : Option Current)
      → d.leaf.current ≡ current
      → slot_id_of d.x current place ≡ Some q → Alone q → Made d k kind ask w → AllCurrent place w
      → while_waiting i new ≡ record (with_kind state place kind) { bounds = bounds } → Under ops bounds → Safe new ops w q
  asked_safe (Own at) q w ops bounds new is_slot current handed slot_id alone made all_current stays under =
      subst (λ q. Safe new ops w q) (some_same slot_id) (asked_own at w ops bounds new (subst Alone (sym (some_same slot_id)) alone) made all_current stays
      under)
  asked_safe (Shared at) q w ops bounds new is_slot None handed slot_id alone made all_current stays under = absurd (none_some slot_id)
  asked_safe (Shared at) q w ops bounds new is_slot (Some g) handed slot_id alone made all_current stays under =
      subst (λ q. Safe new ops w q) (some_same slot_id) (asked_shared g at w ops bounds new handed
      (subst Alone (sym (some_same slot_id)) alone) made all_current stays under)
  asked_safe Object q w ops bounds new is_slot current handed slot_id alone made all_current stays under = absurd is_slot

-- Slots by their kinds: what is found where a statement names one, and where the leaf stands once one is written.
use Rattle.std.proofs.Common.{◌≡◌, ◌≢◌, ℕ, zero, suc, inl, inr, cond, List, [], ◌∷◌, Option, Some, None, refl, ap, sym, ◌∙◌, subst, true}
use Rattle.std.specs.Prelude.{slice_get, slice_set}
use Rattle.std.proofs.lemmas.Bool.Decides.{eqb_tells}
use Rattle.gq_model.specs.declared.program.OperandSlot.{OperandSlot}
use Rattle.gq_model.specs.declared.program.OperandSlot.TheVariants.{Own, Shared, Object}
use Rattle.gq_model.specs.declared.program.Form.TheVariants.{Slice}
use Rattle.gq_model.specs.machine.Scenario.{number_of}
use Rattle.gq_model.specs.machine.World.{Slot, SlotId, In_leaf, In_session, In_object, Session, Current, Leaf, World, session_at, leaf_slot, session_slot}
use Rattle.gq_model.specs.machine.World.{own_section}
use Rattle.gq_model.specs.machine.World.{session_object, slot_at, with_leaf, with_session, with_slot, put_leaf_slot, put_session_slot, put_object, slot_id_of}
use Rattle.gq_model.specs.machine.Sums.{with_peaks}
use Rattle.gq_model.specs.machine.Doing.{Doing, Quiet, settled}
use Rattle.gq_model.specs.rules.Kinds.{Kind, Memory, AbstractState, Context, kind_at, with_kind}
use Rattle.gq_laws.specs.Current_section_facts.{Under}
use Rattle.gq_laws.specs.Typed.{IsKind, AreKinds, IsCurrent, BankMeets, CurrentMeets, Meets}
use Rattle.gq_laws.specs.Inside_steps.{IsSafe, StandsAt}
use Rattle.gq_model.proofs.Small_facts.{none_some, some_same}
use Rattle.gq_laws.proofs.session_links.Written_world_links.{set_here, set_else, session_here, session_else, leaf_there, session_there, object_there}
use Rattle.gq_laws.proofs.statement_rules.Ruled_step_shapes.{safe_gives, safe_tested, safe_need}
use Rattle.gq_model.specs.machine.Sections.{is_own_section}

-- LISTS OF SLOTS

module _ (promised : ℕ → Option Kind) where
  pub kinds_get : (slots : List Slot) (kinds : List Kind) (i : ℕ) (kind : Kind) → AreKinds promised slots kinds → slice_get kinds i ≡ Some kind
      → (slot : Slot) × (slice_get slots i ≡ Some slot) × IsKind promised slot kind
  kinds_get [] [] i kind h e = absurd (none_some e)
  kinds_get (slot ∷ slots) (k ∷ kinds) zero kind h e = (slot, refl, subst (IsKind promised slot) (some_same e) h.0)
  kinds_get (slot ∷ slots) (k ∷ kinds) (suc i) kind h e = kinds_get slots kinds i kind h.1 e
  kinds_get [] (k ∷ kinds) i kind h e = absurd h
  kinds_get (slot ∷ slots) [] i kind h e = absurd h

  kinds_set : (slots : List Slot) (kinds : List Kind) (i : ℕ) (slot : Slot) (kind : Kind) → AreKinds promised slots kinds → IsKind promised slot kind
      → AreKinds promised (slice_set slots i slot) (slice_set kinds i kind)
  kinds_set [] [] i slot kind h k = tt
  kinds_set (s ∷ slots) (l ∷ kinds) zero slot kind h k = (k, h.1)
  kinds_set (s ∷ slots) (l ∷ kinds) (suc i) slot kind h k = (h.0, kinds_set slots kinds i slot kind h.1 k)
  kinds_set [] (l ∷ kinds) i slot kind h k = absurd h
  kinds_set (s ∷ slots) [] i slot kind h k = absurd h

  -- a slot that is of each kind that the old one is of
  abbrev pub Alike : Slot → Slot → Type 0
  Alike old slot = (kind : Kind) → IsKind promised old kind → IsKind promised slot kind

  pub kinds_keep : (slots : List Slot) (kinds : List Kind) (i : ℕ) (old slot : Slot) → AreKinds promised slots kinds → slice_get slots i ≡ Some old
      → Alike old slot → AreKinds promised (slice_set slots i slot) kinds
  kinds_keep [] [] i old slot h e k = tt
  kinds_keep (s ∷ slots) (l ∷ kinds) zero old slot h e k = (k l (subst (λ s. IsKind promised s l) (some_same e) h.0), h.1)
  kinds_keep (s ∷ slots) (l ∷ kinds) (suc i) old slot h e k = (h.0, kinds_keep slots kinds i old slot h.1 e k)
  kinds_keep [] (l ∷ kinds) i old slot h e k = absurd h
  kinds_keep (s ∷ slots) [] i old slot h e k = absurd h

-- WHAT IS FOUND

-- the slot that a statement names
pub record Finds (promised : ℕ → Option Kind) (w : World) (x : ℕ) (current : Option Current) (place : OperandSlot) (kind : Kind) : Type 0 where
  pub q : SlotId
  pub named : slot_id_of x current place ≡ Some q
  pub slot : Slot
  pub there : slot_at w q ≡ Some slot
  pub is : IsKind promised slot kind

-- a section without a session is one of the leaf's own
own_is_own : (reacting : Option ℕ) → is_own_section (own_section reacting) ≡ true
own_is_own None = refl
own_is_own (Some i) = refl

module _ (promised : ℕ → Option Kind) (c : Context) (state : AbstractState) (w : World) (x : ℕ) where
  shared_found : (i : ℕ) (kind : Kind) (current : Option Current) (reacting : Option ℕ) → IsCurrent c.section current reacting
      → CurrentMeets promised c state.bank w current
      → kind_at c state (Shared i) ≡ Some kind → Finds promised w x current (Shared i) kind
  shared_found i kind None reacting at bank e =
      absurd (none_some (ap (λ b. cond b None (slice_get state.bank i)) (sym (ap is_own_section at ∙ own_is_own reacting)) ∙ e))
  shared_found i kind (Some g) reacting at bank e =
      let f = kinds_get promised bank.0.slots state.bank i kind bank.2.slots (ap (λ b. cond b None (slice_get state.bank i)) (sym at.1) ∙ e) in
      record { q = In_session g.session i; named = refl; slot = f.0; there = ap (λ o. session_slot o i) bank.1 ∙ f.1; is = f.2 }

  object_found : (kind : Kind) (current : Option Current) (reacting : Option ℕ) → IsCurrent c.section current reacting
      → CurrentMeets promised c state.bank w current
      → kind_at c state Object ≡ Some kind
      → Finds promised w x current Object kind
  object_found kind None reacting at bank e =
      absurd (none_some (ap (λ b. cond b None (Some (Memory Slice (number_of c.subject.provided (λ i. i.object)))))
      (sym (ap is_own_section at ∙ own_is_own reacting))
      ∙ e))
  object_found kind (Some g) reacting at bank e =
      let same = some_same (ap (λ b. cond b None (Some (Memory Slice (number_of c.subject.provided (λ i. i.object))))) (sym at.1) ∙ e) in
      record {
        q = In_object g.session;
        named = refl;
        slot = bank.0.object;
        there = ap session_object bank.1;
        is = subst (IsKind promised bank.0.object) same bank.2.object;
      }

  pub found : (leaf old : Leaf) → slice_get w.leaves x ≡ Some old → leaf.slots ≡ old.slots → Meets promised c state w leaf → (place : OperandSlot) (kind : Kind)
      → kind_at c state place ≡ Some kind → Finds promised w x leaf.current place kind
  found leaf old there slots h (Own i) kind e =
      let f = kinds_get promised leaf.slots state.own i kind h.own e in
      record { q = In_leaf x i; named = refl; slot = f.0; there = ap (λ o. leaf_slot o i) there ∙ (ap (λ l. slice_get l i) (sym slots) ∙ f.1); is = f.2 }
  found leaf old there slots h (Shared i) kind e = shared_found i kind leaf.current leaf.reacting h.current h.bank e
  found leaf old there slots h Object kind e = object_found kind leaf.current leaf.reacting h.current h.bank e

-- WHERE THE LEAF STANDS

module _ (promised : ℕ → Option Kind) (c : Context) where
  current_kept : (kinds : List Kind) (v w : World) (current : Option Current) → ((k : ℕ) → session_at v k ≡ session_at w k)
      → CurrentMeets promised c kinds w current
      → CurrentMeets promised c kinds v current
  current_kept kinds v w None same h = tt
  current_kept kinds v w (Some g) same h = (h.0, same g.session ∙ h.1, h.2)

  pub meets_kept : (state : AbstractState) (v w : World) (leaf : Leaf) → ((k : ℕ) → session_at v k ≡ session_at w k) → Meets promised c state w leaf
      → Meets promised c state v leaf
  meets_kept state v w leaf same h = record {
    own = h.own;
    current = h.current;
    bank = current_kept state.bank v w leaf.current same h.bank;
    operands = h.operands;
    locals = h.locals;
    loops = h.loops;
  }

  -- another session in the place of one: what is current is as it was, if this is
  bank_keeps : (state : AbstractState) (w : World) (k : ℕ) (t u : Session) → session_at w k ≡ Some t → (current : Option Current)
      → (BankMeets promised c state.bank t → BankMeets promised c state.bank u) → CurrentMeets promised c state.bank w current
      → CurrentMeets promised c state.bank (with_session w k u) current
  bank_keeps state w k t u there None keeps h = tt
  bank_keeps state w k t u there (Some g) keeps h = elim (eqb_tells g.session k) [
    | inl e ↦ here e.1
    | inr e ↦ (h.0, session_else w k g.session u e.1 ∙ h.1, h.2)
  ]
    where
      here : g.session ≡ k → CurrentMeets promised c state.bank (with_session w k u) (Some g)
      here e =
          let same : h.0 ≡ t = some_same (sym h.1 ∙ (ap (session_at w) e ∙ there)) in
          (u, ap (session_at (with_session w k u)) e ∙ session_here w k t u there, keeps (subst (BankMeets promised c state.bank) same h.2))

  module _ (d : Doing) where
    -- a leaf put into a world of the same sessions
    pub stands_with : (state : AbstractState) (w : World) (old leaf : Leaf) → slice_get w.leaves d.x ≡ Some old → Meets promised c state w leaf
        → leaf.todo ≡ d.leaf.todo → leaf.loops ≡ d.leaf.loops → leaf.current ≡ d.leaf.current → leaf.reacting ≡ d.leaf.reacting
        → leaf.phase ≡ d.leaf.phase → StandsAt promised c state d (with_leaf w d.x leaf)
    stands_with state w old leaf there h todo loops current reacting phase =
        record {
          leaf = leaf;
          there = set_here w.leaves d.x leaf old there;
          meets = meets_kept state (with_leaf w d.x leaf) w leaf (λ k. refl) h;
          todo = todo;
          loops = loops;
          current = current;
          reacting = reacting;
          phase = phase;
        }

    pub safe_settled : (state : AbstractState) (w : World) → StandsAt promised c state d w → IsSafe (StandsAt promised c state d) (settled d.system d.x w)
    safe_settled state w s =
        let new = with_peaks w d.x s.leaf in
        let m : Meets promised c state w new = record {
          own = s.meets.own;
          current = s.meets.current;
          bank = s.meets.bank;
          operands = s.meets.operands;
          locals = s.meets.locals;
          loops = s.meets.loops;
        } in
        safe_need (slice_get w.leaves d.x) _ _ s.leaf s.there
        (safe_tested _ _ (safe_gives (with_leaf w d.x new) Quiet (stands_with state w s.leaf new s.there m s.todo s.loops s.current s.reacting s.phase)))

    -- own slots written
    own_written : (state new : AbstractState) (w : World) (s : StandsAt promised c state d w) (i : ℕ) (slot : Slot)
        → AreKinds promised (slice_set s.leaf.slots i slot) new.own → new.bank ≡ state.bank → new.bounds ≡ state.bounds
        → StandsAt promised c new d (with_slot w (In_leaf d.x i) slot)
    own_written state new w s i slot own bank bounds =
        let leaf : Leaf = record s.leaf { slots = slice_set s.leaf.slots i slot } in
        let m : Meets promised c new w leaf =
        record {
          own = own;
          current = s.meets.current;
          bank = subst (λ b. CurrentMeets promised c b w s.leaf.current) (sym bank) s.meets.bank;
          operands = subst (Under s.leaf.operands) (sym bounds) s.meets.operands;
          locals = s.meets.locals;
          loops = s.meets.loops;
        }
        in
        subst (λ o. StandsAt promised c new d (put_leaf_slot w o d.x i slot)) (sym s.there)
        (stands_with new w s.leaf leaf s.there m s.todo s.loops s.current s.reacting s.phase)

    -- a session written: the leaf stays, and what is current is given
    session_written : (state new : AbstractState) (w v : World) (s : StandsAt promised c state d w) → v.leaves ≡ w.leaves → new.own ≡ state.own
        → new.bounds ≡ state.bounds → CurrentMeets promised c new.bank v s.leaf.current → StandsAt promised c new d v
    session_written state new w v s leaves own bounds bank =
        record {
          leaf = s.leaf;
          there = ap (λ l. slice_get l d.x) leaves ∙ s.there;
          meets =
              record {
                own = subst (AreKinds promised s.leaf.slots) (sym own) s.meets.own;
                current = s.meets.current;
                bank = bank;
                operands = subst (Under s.leaf.operands) (sym bounds) s.meets.operands;
                locals = s.meets.locals;
                loops = s.meets.loops;
              };
          todo = s.todo;
          loops = s.loops;
          current = s.current;
          reacting = s.reacting;
          phase = s.phase;
        }

    -- a named slot is given another kind
    pub put_own : (state : AbstractState) (w : World) (s : StandsAt promised c state d w) (i : ℕ) (slot : Slot) (kind : Kind) → IsKind promised slot kind
        → StandsAt promised c (with_kind state (Own i) kind) d (with_slot w (In_leaf d.x i) slot)
    put_own state w s i slot kind is = own_written state (with_kind state (Own i) kind) w s i slot
        (kinds_set promised s.leaf.slots state.own i slot kind s.meets.own is) refl refl

    pub put_shared : (state : AbstractState) (w : World) (s : StandsAt promised c state d w) (g : Current) (i : ℕ) (slot : Slot) (kind : Kind) →
        s.leaf.current ≡ Some g
        → IsKind promised slot kind → StandsAt promised c (with_kind state (Shared i) kind) d (with_slot w (In_session g.session i) slot)
    put_shared state w s g i slot kind at is =
        let bank = subst (CurrentMeets promised c state.bank w) at s.meets.bank in
        let t : Session = record bank.0 { slots = slice_set bank.0.slots i slot } in
        let v = with_session w g.session t in
        let h : CurrentMeets promised c (slice_set state.bank i kind) v (Some g) = (
          t,
          session_here w g.session bank.0 t bank.1,
          record {
            slots = kinds_set promised bank.0.slots state.bank i slot kind bank.2.slots is;
            object = bank.2.object;
          },
        ) in
        subst (λ o. StandsAt promised c (with_kind state (Shared i) kind) d (put_session_slot w o g.session i slot)) (sym bank.1)
        (session_written state (with_kind state (Shared i) kind) w v s refl refl refl
        (subst (CurrentMeets promised c (slice_set state.bank i kind) v) (sym at) h))

    -- a slot is written that is of the kinds of the old one
    pub put_alike : (state : AbstractState) (w : World) (s : StandsAt promised c state d w) (q : SlotId) (old slot : Slot) → slot_at w q ≡ Some old
        → Alike promised old slot → StandsAt promised c state d (with_slot w q slot)
    put_alike state w s (In_leaf y i) old slot there alike = elim (eqb_tells y d.x) [ inl e ↦ here e.1 | inr e ↦ else e.1 ]
      where
        here : y ≡ d.x → StandsAt promised c state d (with_slot w (In_leaf y i) slot)
        here e =
            let at : slice_get s.leaf.slots i ≡ Some old = sym (ap (λ o. leaf_slot o i) s.there) ∙ (ap (λ y. slot_at w (In_leaf y i)) (sym e) ∙ there) in
            subst (λ y. StandsAt promised c state d (with_slot w (In_leaf y i) slot)) (sym e)
            (own_written state state w s i slot (kinds_keep promised s.leaf.slots state.own i old slot s.meets.own at alike) refl refl)

        else : y ≢ d.x → StandsAt promised c state d (with_slot w (In_leaf y i) slot)
        else ne =
            let f = leaf_there w y i old there in
            let leaf : Leaf = record f.0 { slots = slice_set f.0.slots i slot } in
            subst (λ o. StandsAt promised c state d (put_leaf_slot w o y i slot)) (sym f.1)
            (record {
              leaf = s.leaf;
              there = set_else w.leaves y d.x leaf (λ e. ne (sym e)) ∙ s.there;
              meets = meets_kept state (with_leaf w y leaf) w s.leaf (λ k. refl) s.meets;
              todo = s.todo;
              loops = s.loops;
              current = s.current;
              reacting = s.reacting;
              phase = s.phase;
            })
    put_alike state w s (In_session k i) old slot there alike =
        let f = session_there w k i old there in
        let t : Session = record f.0 { slots = slice_set f.0.slots i slot } in
        subst (λ o. StandsAt promised c state d (put_session_slot w o k i slot)) (sym f.1)
        (session_written state state w (with_session w k t) s refl refl refl
        (bank_keeps state w k f.0 t f.1 s.leaf.current (λ b.
        record { slots = kinds_keep promised f.0.slots state.bank i old slot b.slots f.2 alike; object = b.object }) s.meets.bank))
    put_alike state w s (In_object k) old slot there alike =
        let f = object_there w k old there in
        let t : Session = record f.0 { object = slot } in
        subst (λ o. StandsAt promised c state d (put_object w o k slot)) (sym f.1)
        (session_written state state w (with_session w k t) s refl refl refl
        (bank_keeps state w k f.0 t f.1 s.leaf.current (λ b.
        record {
          slots = b.slots;
          object = alike _ (subst
              (λ o. IsKind promised o (Memory Slice (number_of c.subject.provided (λ i. i.object)))) f.2 b.object);
        }) s.meets.bank))

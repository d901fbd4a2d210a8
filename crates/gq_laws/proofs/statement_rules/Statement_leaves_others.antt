-- Statements on operands, locals and memory leave the other leaves, the requests and the sessions that are not current as they are.
use Rattle.std.proofs.Common.{◌≡◌, ◌≢◌, ℕ, ◌+◌, ◌&&◌, inl, inr, Bool, true, false, cond, not, zero, suc, List, [], ◌∷◌, length, Option, Some, None, Ok, refl}
use Rattle.std.proofs.Common.{ap, sym, ◌∙◌, subst}
use Rattle.std.specs.Prelude.{nat_le, slice_get, slice_range, slice_set}
use Rattle.std.proofs.lemmas.Bool.{leb-true, false≢true}
use Rattle.std.proofs.lemmas.Bool.Decides.{eqb_tells}
use Rattle.gq_model.specs.machine.Lists.{all_of}
use Rattle.gq_model.specs.machine.Program.{bytes_of, little, Statements, Done, Do, If, Loop}
use Rattle.gq_model.specs.declared.program.Form.{Form}
use Rattle.gq_model.specs.declared.program.Form.TheVariants.{Space}
use Rattle.gq_model.specs.declared.program.OperandSlot.{OperandSlot}
use Rattle.gq_model.specs.declared.program.OperandSlot.TheVariants.{Own, Shared, Object}
use Rattle.gq_model.specs.declared.program.Width.{Width}
use Rattle.gq_model.specs.declared.program.Instruction.{Instruction}
use Rattle.gq_model.specs.declared.program.Instruction.TheVariants.{Say, Make, MakePool, Load, Store, Free, Take, Give, Peek, Poke, Open, Upgrade, Call, Close}
use Rattle.gq_model.specs.declared.fault.Wrong.TheVariants.{WrongKind, UnmappedByte, ExceededQuota}
use Rattle.gq_model.specs.texts.Operands.{operands, in_range, is_slot}
use Rattle.gq_model.specs.machine.World.{Slot, Empty, Bytes, Pool, Link, Waiting, SlotId, In_leaf, In_session, In_object, Session, Current, Round, Leaf, World}
use Rattle.gq_model.specs.machine.World.{session_at, slot_at, with_leaf, with_session, with_slot, put_leaf_slot, put_session_slot, put_object, slot_id_of}
use Rattle.gq_model.specs.machine.Doing.{Doing, Stepped, Quiet, when, if_paid, standing, with_operands, on_stack, settled, fill}
use Rattle.gq_model.specs.machine.Sums.{paid}
use Rattle.gq_model.specs.machine.Memory.{behind, bytes_slot_id, bytes_in, pool_in, pool_at, load, store, is_memory, is_kept, make, free}
use Rattle.gq_model.specs.machine.Step.{instruct, body_ended, perform}
use Rattle.gq_model.specs.rules.Kinds.{Kind}
use Rattle.gq_laws.specs.Typed.{AreBytes, IsKind, AreKinds, HasBuffer, StaysOfKind, StayOfKind}
use Rattle.gq_laws.specs.Inside_steps.{IsOfOwn, IsElse, KeepsSession, KeepsSessionIn, IsInside, LeavesOthers, KeepsToItself}
use Rattle.gq_model.proofs.Small_facts.{none_some, some_same}
use Rattle.gq_laws.proofs.step_shapes.Step_end_shapes.{Ends, gives, fails, need_ends, need_found, when_ends, pop_ends, push_ends, absent_ends}
use Rattle.gq_laws.proofs.session_links.Link_free_statements.{when_found}
use Rattle.gq_laws.proofs.session_links.Written_world_links.{set_else, session_here, session_else, session_there, object_there}
use Rattle.gq_laws.proofs.statement_rules.Statement_number_bounds.{stored, stored_count, stored_bytes}

-- KINDS STAY

stays : (slot : Slot) → StaysOfKind slot slot
stays Empty = refl
stays (Bytes form n bytes) = (bytes, refl, refl, λ h. h)
stays (Pool n entries) = refl
stays (Link k) = refl
stays (Waiting k) = refl

stay : (slots : List Slot) → StayOfKind slots slots
stay [] = tt
stay (slot ∷ slots) = (stays slot, stay slots)

stay_set : (slots : List Slot) (i : ℕ) (old new : Slot) → slice_get slots i ≡ Some old → StaysOfKind old new → StayOfKind slots (slice_set slots i new)
stay_set [] i old new e h = tt
stay_set (slot ∷ slots) zero old new e h = (subst (λ s. StaysOfKind s new) (sym (some_same e)) h, stay slots)
stay_set (slot ∷ slots) (suc i) old new e h = (stays slot, stay_set slots i old new e h)

-- what stays of its kind is of each kind that it was of
pub stays_kind : (promised : ℕ → Option Kind) (old new : Slot) (kind : Kind) → StaysOfKind old new → IsKind promised old kind → IsKind promised new kind
stays_kind promised Empty new kind h is = subst (λ s. IsKind promised s kind) (sym h) is
stays_kind promised (Bytes form n bytes) new kind h is = subst (λ s. IsKind promised s kind) (sym h.1) (is.0, h.2 ∙ is.1, h.3 is.2)
stays_kind promised (Pool n entries) new kind h is = subst (λ s. IsKind promised s kind) (sym h) is
stays_kind promised (Link k) new kind h is = subst (λ s. IsKind promised s kind) (sym h) is
stays_kind promised (Waiting k) new kind h is = subst (λ s. IsKind promised s kind) (sym h) is

pub stay_kinds : (promised : ℕ → Option Kind) (old new : List Slot) (kinds : List Kind) → StayOfKind old new → AreKinds promised old kinds
    → AreKinds promised new kinds
stay_kinds promised [] [] kinds h are = are
stay_kinds promised (s ∷ old) (t ∷ new) [] h are = absurd are
stay_kinds promised (s ∷ old) (t ∷ new) (kind ∷ kinds) h are = (stays_kind promised s t kind h.0 are.0, stay_kinds promised old new kinds h.1 are.1)
stay_kinds promised [] (t ∷ new) kinds h are = absurd h
stay_kinds promised (s ∷ old) [] kinds h are = absurd h

-- a buffer stays one
pub stay_buffer : (n : ℕ) (old new : Session) → StayOfKind old.slots new.slots → HasBuffer n old → HasBuffer n new
stay_buffer n old new h b = by old.slots new.slots h b.there refl
  where
    by : (olds news : List Slot) → StayOfKind olds news → slice_get olds 0 ≡ Some (Bytes Space n b.bytes) → new.slots ≡ news → HasBuffer n new
    by [] news h e same = absurd (none_some e)
    by (s ∷ olds) [] h e same = absurd h
    by (s ∷ olds) (t ∷ news) h e same =
        let f = subst (λ s. StaysOfKind s t) (some_same e) h.0 in
        record { bytes = f.0; there = ap (λ l. slice_get l 0) same ∙ ap Some f.1; count = f.2 ∙ b.count; each = f.3 b.each }

keeps_all : (current : Option Current) (k : ℕ) (s : Session) → KeepsSession current k s s
keeps_all current k s = record { rest = refl; object = stays s.object; slots = λ e. stay s.slots }

kept_in : (current : Option Current) (k : ℕ) (o : Option Session) → KeepsSessionIn current k o o
kept_in current k None = refl
kept_in current k (Some s) = (s, refl, keeps_all current k s)

module _ (d : Doing) where
  -- no other leaf, no request and no session is changed
  record Still (w : World) : Type 0 where
    pub leaves : (y : ℕ) → y ≢ d.x → slice_get w.leaves y ≡ slice_get d.world.leaves y
    pub requests : w.requests ≡ d.world.requests
    pub sessions : w.sessions ≡ d.world.sessions

  at_first : Still d.world
  at_first = record { leaves = λ y ne. refl; requests = refl; sessions = refl }

  still_leaf : (w : World) (leaf : Leaf) → Still w → Still (with_leaf w d.x leaf)
  still_leaf w leaf h = record { leaves = λ y ne. set_else w.leaves d.x y leaf ne ∙ h.leaves y ne; requests = h.requests; sessions = h.sessions }

  stands : (leaf : Leaf) → Still (standing d leaf)
  stands leaf = still_leaf d.world leaf at_first

  still_leaves : (w : World) → Still w → LeavesOthers d w
  still_leaves w h =
      record {
        leaves = h.leaves;
        requests = h.requests;
        sessions = λ k. subst (λ (l : List (Option Session)). KeepsSessionIn d.leaf.current k (session_at d.world k) (session_at (record w { sessions = l }) k))
            (sym h.sessions) (kept_in d.leaf.current k (session_at d.world k));
      }

  stood : (leaf : Leaf) → LeavesOthers d (standing d leaf)
  stood leaf = still_leaves (standing d leaf) (stands leaf)

  leaf_leaves : (w : World) (leaf : Leaf) → LeavesOthers d w → LeavesOthers d (with_leaf w d.x leaf)
  leaf_leaves w leaf h = record { leaves = λ y ne. set_else w.leaves d.x y leaf ne ∙ h.leaves y ne; requests = h.requests; sessions = h.sessions }

  -- a session is written
  session_leaves : (w : World) (k : ℕ) (old new : Session) → Still w → session_at w k ≡ Some old → KeepsSession d.leaf.current k old new
      → LeavesOthers d (with_session w k new)
  session_leaves w k old new h there keeps =
      record {
        leaves = h.leaves;
        requests = h.requests;
        sessions = λ j. elim (eqb_tells j k) [
          | inl e ↦ subst (λ j. KeepsSessionIn d.leaf.current j (session_at d.world j) (session_at (with_session w k new) j))
              (sym e.1) here
          | inr e ↦ subst (KeepsSessionIn d.leaf.current j (session_at d.world j)) (sym (session_else w k j new e.1))
              ((still_leaves w h).sessions j)
        ];
      }
    where
      was : session_at d.world k ≡ Some old
      was = ap (λ (l : List (Option Session)). session_at (record d.world { sessions = l }) k) (sym h.sessions) ∙ there

      here : KeepsSessionIn d.leaf.current k (session_at d.world k) (session_at (with_session w k new) k)
      here = subst (λ o. KeepsSessionIn d.leaf.current k o (session_at (with_session w k new) k)) (sym was) (new, session_here w k old new there, keeps)

  -- a slot of the leaf's own
  own_leaves : (w : World) (i : ℕ) (slot : Slot) → Still w → LeavesOthers d (with_slot w (In_leaf d.x i) slot)
  own_leaves w i slot h = by (slice_get w.leaves d.x)
    where
      by : (o : Option Leaf) → LeavesOthers d (put_leaf_slot w o d.x i slot)
      by None = still_leaves w h
      by (Some leaf) = leaf_leaves w _ (still_leaves w h)

  -- a slot that the leaf names, whatever is written there
  named_leaves : (w : World) (place : OperandSlot) (current : Option Current) (q : SlotId) (slot : Slot) → Still w → is_slot place ≡ true → d.leaf.current ≡
      current
      → slot_id_of d.x current place ≡ Some q → LeavesOthers d (with_slot w q slot)
  named_leaves w (Own i) current q slot h ranged at e = subst (λ q. LeavesOthers d (with_slot w q slot)) (some_same e) (own_leaves w i slot h)
  named_leaves w (Shared i) None q slot h ranged at e = absurd (none_some e)
  named_leaves w (Shared i) (Some g) q slot h ranged at e = subst (λ q. LeavesOthers d (with_slot w q slot)) (some_same e) (by (session_at w g.session) refl)
    where
      by : (o : Option Session) → session_at w g.session ≡ o → LeavesOthers d (put_session_slot w o g.session i slot)
      by None there = still_leaves w h
      by (Some s) there =
          session_leaves w g.session s (record s { slots = slice_set s.slots i slot }) h there
          (record { rest = refl; object = stays s.object; slots = λ other. absurd (subst (IsElse g.session) at other refl) })
  named_leaves w Object current q slot h ranged at e = absurd (false≢true ranged)

  -- no slot of another leaf
  IsMine : SlotId → Type 0
  IsMine (In_leaf y i) = y ≡ d.x
  IsMine (In_session k i) = Unit {0}
  IsMine (In_object k) = Unit {0}

  named_mine : (place : OperandSlot) (current : Option Current) (q : SlotId) → slot_id_of d.x current place ≡ Some q → IsMine q
  unfolding IsMine
  named_mine (Own i) current q e = subst IsMine (some_same e) refl
  named_mine (Shared i) None q e = absurd (none_some e)
  named_mine (Shared i) (Some g) q e = subst IsMine (some_same e) tt
  named_mine Object None q e = absurd (none_some e)
  named_mine Object (Some g) q e = subst IsMine (some_same e) tt

  bytes_mine : (w : World) (o : Option Slot) (named q : SlotId) → IsMine named → bytes_slot_id d.system w o named ≡ Some q → IsMine q
  unfolding IsMine
  bytes_mine w None named q mine e = subst IsMine (some_same e) mine
  bytes_mine w (Some Empty) named q mine e = subst IsMine (some_same e) mine
  bytes_mine w (Some (Bytes form n bytes)) named q mine e = subst IsMine (some_same e) mine
  bytes_mine w (Some (Pool n entries)) named q mine e = subst IsMine (some_same e) mine
  bytes_mine w (Some (Waiting k)) named q mine e = subst IsMine (some_same e) mine
  bytes_mine w (Some (Link k)) named q mine e = by (session_at w k) e
    where
      chosen : (b : Bool) → cond b None (Some (In_session k 0)) ≡ Some q → IsMine q
      chosen true e = absurd (none_some e)
      chosen false e = subst IsMine (some_same e) tt

      by : (o : Option Session) → behind d.system o k ≡ Some q → IsMine q
      by None e = absurd (none_some e)
      by (Some s) e = chosen _ e

  -- bytes are written, as many as there were
  bytes_leave : (w : World) (q : SlotId) (form : Form) (n : ℕ) (bytes new : List ℕ) → Still w → IsMine q → slot_at w q ≡ Some (Bytes form n bytes)
      → length new ≡ length bytes → (AreBytes bytes → AreBytes new) → LeavesOthers d (with_slot w q (Bytes form n new))
  unfolding IsMine
  bytes_leave w (In_leaf y i) form n bytes new h mine there count are =
      subst (λ y. LeavesOthers d (with_slot w (In_leaf y i) (Bytes form n new))) (sym mine) (own_leaves w i (Bytes form n new) h)
  bytes_leave w (In_session k i) form n bytes new h mine there count are =
      let f = session_there w k i (Bytes form n bytes) there in
      subst (λ o. LeavesOthers d (put_session_slot w o k i (Bytes form n new))) (sym f.1)
      (session_leaves w k f.0 (record f.0 { slots = slice_set f.0.slots i (Bytes form n new) }) h f.1
      (record {
        rest = refl;
        object = stays f.0.object;
        slots =
            λ other. stay_set f.0.slots i (Bytes form n bytes) (Bytes form n new) f.2 (new, refl, count, are);
      }))
  bytes_leave w (In_object k) form n bytes new h mine there count are =
      let f = object_there w k (Bytes form n bytes) there in
      subst (λ o. LeavesOthers d (put_object w o k (Bytes form n new))) (sym f.1)
      (session_leaves w k f.0 (record f.0 { object = Bytes form n new }) h f.1
      (record { rest = refl; object = subst (λ o. StaysOfKind o (Bytes form n new)) (sym f.2) (new, refl, count, are); slots = λ other. stay f.0.slots }))

  -- STEPS

  abbrev Left : World → Type 0
  Left = LeavesOthers d

  settled_ends : (w : World) → Left w → Ends Left (settled d.system d.x w)
  settled_ends w h = need_ends Left (slice_get w.leaves d.x) _ _ (λ leaf. when_ends Left _ _ _ (gives _ _ (leaf_leaves w _ h)))

  fill_ends : (place : OperandSlot) (slot : Slot) (w : World) (q : SlotId) (o : Option Slot) → Still w → is_slot place ≡ true
      → slot_id_of d.x d.leaf.current place ≡ Some q
      → Ends Left (fill w q o slot (settled d.system d.x))
  fill_ends place slot w q (Some Empty) h ranged e = settled_ends _ (named_leaves w place d.leaf.current q slot h ranged refl e)
  fill_ends place slot w q None h ranged e = fails WrongKind
  fill_ends place slot w q (Some (Bytes form n bytes)) h ranged e = fails WrongKind
  fill_ends place slot w q (Some (Pool n entries)) h ranged e = fails WrongKind
  fill_ends place slot w q (Some (Link k)) h ranged e = fails WrongKind
  fill_ends place slot w q (Some (Waiting k)) h ranged e = fails WrongKind

  make_ends : (place : OperandSlot) (slot : Slot) → is_slot place ≡ true → Ends Left (make d place slot)
  make_ends place slot ranged = need_found Left (slot_id_of d.x d.leaf.current place) _ _
      (λ q e. fill_ends place slot (standing d d.leaf) q (slot_at (standing d d.leaf) q) (stands d.leaf) ranged e)

  free_ends : (place : OperandSlot) → is_slot place ≡ true → Ends Left (free d place)
  free_ends place ranged = need_found Left (slot_id_of d.x d.leaf.current place) _ _ (λ q e.
      let w = with_slot (standing d d.leaf) q Empty in
      when_ends Left (is_memory (slot_at (standing d d.leaf) q) && not (is_kept d d.leaf.current place)) WrongKind (if_paid d.system w Quiet)
      (when_ends Left (paid d.system w) ExceededQuota (Ok (w, Quiet))
      (gives w Quiet (named_leaves (standing d d.leaf) place d.leaf.current q Empty (stands d.leaf) ranged refl e))))

  bytes_ends : (w : World) (q : SlotId) (o : Option Slot) (i v : ℕ) (width : Width) → Still w → IsMine q → slot_at w q ≡ o
      → Ends Left (bytes_in w q o (λ bytes put. when (nat_le (i + bytes_of width) (length bytes)) UnmappedByte
      (Ok (put (stored bytes i (bytes_of width) v), Quiet))))
  bytes_ends w q (Some (Bytes form n bytes)) i v width h mine there =
      when_found Left (nat_le (i + bytes_of width) (length bytes)) UnmappedByte _ (λ fits.
      gives _ Quiet (bytes_leave w q form n bytes (stored bytes i (bytes_of width) v) h mine there
      (stored_count bytes i (bytes_of width) v (leb-true (i + bytes_of width) (length bytes) fits)) (stored_bytes bytes i (bytes_of width) v)))
  bytes_ends w q None i v width h mine there = fails WrongKind
  bytes_ends w q (Some Empty) i v width h mine there = fails WrongKind
  bytes_ends w q (Some (Pool n entries)) i v width h mine there = fails WrongKind
  bytes_ends w q (Some (Link k)) i v width h mine there = fails WrongKind
  bytes_ends w q (Some (Waiting k)) i v width h mine there = fails WrongKind

  store_ends : (width : Width) (place : OperandSlot) → Ends Left (store d width place)
  store_ends width place =
      pop_ends Left d.leaf.operands _ (λ v below. pop_ends Left below _ (λ i rest.
      need_found Left (slot_id_of d.x d.leaf.current place) _ _ (λ named e.
      let w = standing d (with_operands d rest) in
      need_found Left (bytes_slot_id d.system w (slot_at w named) named) _ _ (λ q f.
      bytes_ends w q (slot_at w q) i v width (stands (with_operands d rest))
      (bytes_mine w (slot_at w named) named q (named_mine place d.leaf.current named e) f) refl))))

  load_ends : (width : Width) (place : OperandSlot) → Ends Left (load d width place)
  load_ends width place =
      pop_ends Left d.leaf.operands _ (λ i rest. need_ends Left (slot_id_of d.x d.leaf.current place) _ _ (λ named.
      need_ends Left (bytes_slot_id d.system d.world (slot_at d.world named) named) _ _ (λ q. by q (slot_at d.world q) i rest)))
    where
      by : (q : SlotId) (o : Option Slot) (i : ℕ) (rest : List ℕ)
          → Ends Left (bytes_in d.world q o (λ bytes put. when (nat_le (i + bytes_of width) (length bytes)) UnmappedByte
          (on_stack d (little (slice_range bytes i (i + bytes_of width)) ∷ rest))))
      by q (Some (Bytes form n bytes)) i rest = when_ends Left _ _ _ (gives _ Quiet (stood _))
      by q None i rest = fails WrongKind
      by q (Some Empty) i rest = fails WrongKind
      by q (Some (Pool n entries)) i rest = fails WrongKind
      by q (Some (Link k)) i rest = fails WrongKind
      by q (Some (Waiting k)) i rest = fails WrongKind

  pool_ends : (place : OperandSlot) (w : World) (go : ℕ → List (Option (List ℕ)) → (List (Option (List ℕ)) → World) → Stepped) → Still w → is_slot place ≡ true
      → ((n : ℕ) (entries : List (Option (List ℕ))) (put : List (Option (List ℕ)) → World) → ((new : List (Option (List ℕ))) → Left (put new))
      → Ends Left (go n entries put)) → Ends Left (pool_at d w place go)
  pool_ends place w go h ranged k = need_found Left (slot_id_of d.x d.leaf.current place) _ _ (λ q e. by q e (slot_at w q))
    where
      by : (q : SlotId) → slot_id_of d.x d.leaf.current place ≡ Some q → (o : Option Slot) → Ends Left (pool_in w q o go)
      by q e (Some (Pool n entries)) = k n entries _ (λ new. named_leaves w place d.leaf.current q (Pool n new) h ranged refl e)
      by q e None = fails WrongKind
      by q e (Some Empty) = fails WrongKind
      by q e (Some (Bytes form n bytes)) = fails WrongKind
      by q e (Some (Link j)) = fails WrongKind
      by q e (Some (Waiting j)) = fails WrongKind

  and_left : (a b : Bool) → (a && b) ≡ true → a ≡ true
  and_left true b e = refl
  and_left false b e = e

  pub own_ends : (i : Instruction) → IsOfOwn i → all_of in_range (operands i) ≡ true → Ends Left (instruct d i)
  own_ends (Say text) own ranged = gives _ _ (stood d.leaf)
  own_ends (Make form place n) own ranged = make_ends place _ (and_left (is_slot place) _ ranged)
  own_ends (MakePool place n m) own ranged = make_ends place _ (and_left (is_slot place) _ ranged)
  own_ends (Free place) own ranged = free_ends place (and_left (is_slot place) _ ranged)
  own_ends (Store width place) own ranged = store_ends width place
  own_ends (Take place) own ranged = let slot = and_left (is_slot place) _ ranged in
      search (pop_ends, need_ends, absent_ends, pool_ends, settled_ends, gives, stood, stands, slot) depth 14
  own_ends (Give place) own ranged = let slot = and_left (is_slot place) _ ranged in
      search (pop_ends, need_ends, absent_ends, pool_ends, gives, stood, stands, slot) depth 14
  own_ends (Poke place) own ranged = let slot = and_left (is_slot place) _ ranged in
      search (pop_ends, need_ends, when_ends, pool_ends, gives, stands, slot) depth 14
  own_ends (Peek place) own ranged = let slot = and_left (is_slot place) _ ranged in
      search (pop_ends, need_ends, when_ends, pool_ends, gives, stood, at_first, slot) depth 14
  own_ends (Load width place) own ranged = load_ends width place
  own_ends (Open place service n) own ranged = absurd own
  own_ends (Upgrade place n) own ranged = absurd own
  own_ends (Call place) own ranged = absurd own
  own_ends (Close place) own ranged = absurd own
  own_ends i own ranged = search (need_ends, when_ends, pop_ends, push_ends, gives, stood) depth 14

-- STEPS INSIDE A SECTION

same_current : (d e : Doing) (r : Stepped) → d.x ≡ e.x → d.world ≡ e.world → d.leaf.current ≡ e.leaf.current → Ends (LeavesOthers d) r → Ends (LeavesOthers e) r
same_current d e r x world current h =
    record {
      holds = λ w event q.
          let o = h.holds w event q in
          record {
            leaves = λ y ne. o.leaves y (λ f. ne (f ∙ x)) ∙ ap (λ (v : World). slice_get v.leaves y) world;
            requests = o.requests ∙ ap (λ (v : World). v.requests) world;
            sessions = λ k. subst (λ (v : World). KeepsSessionIn e.leaf.current k (session_at v k) (session_at w k)) world
                (subst (λ current. KeepsSessionIn current k (session_at d.world k) (session_at w k)) current (o.sessions k));
          };
    }

perform_ends : (d : Doing) (todo : Statements) → IsInside todo d.leaf.loops → Ends (LeavesOthers d) (perform d todo)
perform_ends d Done inside = by d.leaf.loops inside
  where
    by : (loops : List Round) → IsInside Done loops → Ends (LeavesOthers d) (body_ended d loops)
    by [] inside = absurd inside
    by (r ∷ loops) inside = gives _ Quiet (stood d _)
perform_ends d (Do i rest) inside =
    let e : Doing = record d { leaf = record d.leaf { todo = rest } } in same_current e d (instruct e i) refl refl refl (own_ends e i inside.0 inside.1)
perform_ends d (If arm other rest) inside = pop_ends (LeavesOthers d) d.leaf.operands _ (λ a below. gives _ Quiet (stood d _))
perform_ends d (Loop count body rest) inside = gives _ Quiet (stood d _)

pub keeps_to_itself : (d : Doing) → KeepsToItself d
keeps_to_itself d w event inside e = (perform_ends d d.leaf.todo inside).holds w event e

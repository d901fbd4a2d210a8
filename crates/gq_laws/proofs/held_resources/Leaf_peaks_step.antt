-- A step inside a section keeps the leaf's peaks or raises them to what is in use then, and a statement that asks something of a session keeps them.
use Rattle.std.proofs.Common.{◌≡◌, ◌⊎◌, ℕ, ◌+◌, zero, suc, inl, inr, max, Bool, true, false, cond, not, ◌&&◌, nat_lt, List, [], ◌∷◌, Option, Some, None, Ok}
use Rattle.std.proofs.Common.{refl, ap, sym, ◌∙◌, subst}
use Rattle.std.specs.Prelude.{length, nat_le, replicate, slice_get, slice_range, slice_set}
use Rattle.std.proofs.lemmas.Bool.Decides.{eqb_tells}
use Rattle.gq_tariff.specs.Prices.{classes}
use Rattle.gq_model.specs.machine.Program.{bytes_of, little, Statements, Done, Do, If, Loop}
use Rattle.gq_model.specs.declared.program.Instruction.{Instruction}
use Rattle.gq_model.specs.declared.program.OperandSlot.{OperandSlot}
use Rattle.gq_model.specs.declared.program.Width.{Width}
use Rattle.gq_model.specs.declared.phase.Phase.TheVariants.{Blocked}
use Rattle.gq_model.specs.declared.fault.Wrong.TheVariants.{WrongKind, UnmappedByte, ExceededQuota}
use Rattle.gq_model.specs.machine.Scenario.{System}
use Rattle.gq_model.specs.declared.program.Instruction.TheVariants.{Say, Make, MakePool, Load, Store, Free, Take, Give, Peek, Poke, Open, Upgrade, Call, Close}
use Rattle.gq_model.specs.machine.World.{Slot, Waiting, SlotId, Empty, Session, Ask, Ask_upgrade, Ask_close, Ask_call, Round}
use Rattle.gq_model.specs.machine.World.{Leaf, World, slot_at, slot_id_of, with_leaf, with_slot}
use Rattle.gq_model.specs.machine.Doing.{Doing, Event, Quiet, Stepped, if_paid, standing, with_operands, on_stack, settled}
use Rattle.gq_model.specs.machine.Sums.{paid, places, raised, with_peaks}
use Rattle.gq_model.specs.machine.Requests.{asked, call, link_at}
use Rattle.gq_model.specs.machine.Memory.{load, store, take_entry, give_entry, peek, poke, entry_byte, entry_with, make, free, is_memory, is_kept}
use Rattle.gq_model.specs.machine.Memory.{bytes_slot_id}
use Rattle.gq_model.specs.machine.Memory.{bytes_at, pool_at}
use Rattle.gq_model.specs.machine.Step.{instruct, body_ended, perform}
use Rattle.gq_laws.specs.Inside_steps.{IsOfOwn, IsInside, TakesLeaf}
use Rattle.gq_laws.specs.Asking.{IsServed}
use Rattle.gq_laws.proofs.step_shapes.Step_end_shapes.{Ends, gives, need_ends, need_found, when_ends, pop_ends, push_ends, link_in_ends, absent_ends, fill_ends}
use Rattle.gq_laws.proofs.step_shapes.Step_end_shapes.{bytes_in_ends}
use Rattle.gq_laws.proofs.step_shapes.Step_end_shapes.{pool_in_ends}
use Rattle.gq_laws.proofs.statement_rules.Statement_number_bounds.{stored}
use Rattle.gq_model.proofs.Small_facts.{some_same, none_some}
use Rattle.gq_laws.proofs.session_links.Written_world_links.{set_else}
use Rattle.gq_laws.proofs.step_shapes.Step_change_shapes.{slot_by}

-- what is in use depends on the leaf's slots and the sessions alone
raised_same : (v w : World) (x : ℕ) (old new : Leaf) → new.slots ≡ old.slots → w.sessions ≡ v.sessions → (cs peaks : List ℕ)
    → raised w x new cs peaks ≡ raised v x old cs peaks
raised_same v w x old new slots sessions [] peaks = refl
raised_same v w x old new slots sessions (c ∷ cs) [] = refl
raised_same v w x old new slots sessions (c ∷ cs) (peak ∷ peaks) =
    let first : places w x new c ≡ places v x old c = (λ i. places (record v { sessions = sessions i }) x (record old { slots = slots i }) c) in
    ap (λ n. max peak n ∷ raised w x new cs peaks) first ∙ ap (λ l. max peak (places v x old c) ∷ l) (raised_same v w x old new slots sessions cs peaks)

-- the x-th leaf, where it is there, has these peaks
pub record HasPeaks (x : ℕ) (peaks : List ℕ) (w : World) : Type 0 where
  pub keeps : (leaf : Leaf) → slice_get w.leaves x ≡ Some leaf → leaf.peaks ≡ peaks

-- it has these, or has them raised to what is in use
pub record RaisesPeaks (x : ℕ) (peaks : List ℕ) (w : World) : Type 0 where
  pub raises : (leaf : Leaf) → slice_get w.leaves x ≡ Some leaf → (leaf.peaks ≡ peaks) ⊎ (leaf.peaks ≡ raised w x leaf classes peaks)

written : (leaves : List Leaf) (y : ℕ) (leaf new : Leaf) → slice_get (slice_set leaves y leaf) y ≡ Some new → new ≡ leaf
written [] y leaf new e = absurd (none_some e)
written (l ∷ leaves) zero leaf new e = sym (some_same e)
written (l ∷ leaves) (suc y) leaf new e = written leaves y leaf new e

module _ (x : ℕ) (peaks : List ℕ) where
  abbrev Q : World → Type 0
  Q = HasPeaks x peaks

  abbrev P : World → Type 0
  P = RaisesPeaks x peaks

  kept : (w : World) → Q w → P w
  kept w h = record { raises = λ leaf there. inl (h.keeps leaf there) }

  here : (w : World) (leaf : Leaf) → leaf.peaks ≡ peaks → Q (with_leaf w x leaf)
  here w leaf same = record { keeps = λ new there. ap (λ (l : Leaf). l.peaks) (written w.leaves x leaf new there) ∙ same }

  else_leaf : (w : World) (y : ℕ) (leaf : Leaf) (slots : List Slot) → slice_get w.leaves y ≡ Some leaf → Q w → Q (with_leaf w y (record leaf { slots = slots }))
  else_leaf w y leaf slots e h =
      record {
        keeps = λ new there. elim (eqb_tells x y) [
          | inl f ↦ ap (λ (l : Leaf). l.peaks) (written w.leaves y _ new
              (subst (λ z. slice_get (with_leaf w y (record leaf { slots = slots })).leaves z ≡ Some new) f.1 there))
              ∙ h.keeps leaf (ap (slice_get w.leaves) f.1 ∙ e)
          | inr f ↦ h.keeps new (sym (set_else w.leaves y x _ f.1) ∙ there)
        ];
      }

  slot_kept : (w : World) (q : SlotId) (slot : Slot) → Q w → Q (with_slot w q slot)
  slot_kept = slot_by Q else_leaf (λ w sessions h. record { keeps = h.keeps })

  sessions_kept : (w : World) (sessions : List (Option Session)) → Q w → Q (record w { sessions = sessions })
  sessions_kept w sessions h = record { keeps = h.keeps }

  settled_raises : (system : System) (w : World) → Q w → Ends P (settled system x w)
  settled_raises system w h =
      need_found P (slice_get w.leaves x) _ _ (λ leaf there.
      when_ends P _ _ _ (gives _ _ (record { raises = λ new found. inr (by leaf there new (written w.leaves x (with_peaks w x leaf) new found)) })))
    where
      by : (leaf : Leaf) → slice_get w.leaves x ≡ Some leaf → (new : Leaf) → new ≡ with_peaks w x leaf
          → new.peaks ≡ raised (with_leaf w x (with_peaks w x leaf)) x new classes peaks
      by leaf there new is =
          ap (λ (l : Leaf). l.peaks) is
          ∙ (ap (raised w x leaf classes) (h.keeps leaf there)
          ∙ sym (raised_same w (with_leaf w x (with_peaks w x leaf)) x leaf new (ap (λ (l : Leaf). l.slots) is) refl classes peaks))

-- a step of the leaf
module _ (d : Doing) (h : HasPeaks d.x d.leaf.peaks d.world) where
  abbrev Same : World → Type 0
  Same w = HasPeaks d.x d.leaf.peaks w

  abbrev Raised : World → Type 0
  Raised w = RaisesPeaks d.x d.leaf.peaks w

  stands : (leaf : Leaf) → leaf.peaks ≡ d.leaf.peaks → Same (standing d leaf)
  stands leaf same = here d.x d.leaf.peaks d.world leaf same

  keeps_with : (operands : List ℕ) → Same (standing d (with_operands d operands))
  keeps_with operands = stands (with_operands d operands) refl

  keeps_leaf : Same (standing d d.leaf)
  keeps_leaf = stands d.leaf refl

  with_stays : (operands : List ℕ) → Raised (standing d (with_operands d operands))
  with_stays operands = kept d.x d.leaf.peaks _ (keeps_with operands)

  set_stays : (operands locals : List ℕ) → Raised (standing d (record d.leaf { operands = operands; locals = locals }))
  set_stays operands locals = kept d.x d.leaf.peaks _ (stands (record d.leaf { operands = operands; locals = locals }) refl)

  stays : (w : World) → Same w → Raised w
  stays = kept d.x d.leaf.peaks

  same_slot : (w : World) (q : SlotId) (slot : Slot) → Same w → Same (with_slot w q slot)
  same_slot = slot_kept d.x d.leaf.peaks

  raises_settled : (w : World) → Same w → Ends Raised (settled d.system d.x w)
  raises_settled = settled_raises d.x d.leaf.peaks d.system

  make_raises : (place : OperandSlot) (slot : Slot) → Ends Raised (make d place slot)
  make_raises place slot = need_ends Raised (slot_id_of d.x d.leaf.current place) _ _
      (λ q. fill_ends Raised Same same_slot (standing d d.leaf) q (slot_at (standing d d.leaf) q) slot _ keeps_leaf (λ v hv. raises_settled v hv))

  free_stays : (place : OperandSlot) → Ends Raised (free d place)
  free_stays place = need_ends Raised (slot_id_of d.x d.leaf.current place) _ _ (λ q.
      let w = with_slot (standing d d.leaf) q Empty in
      when_ends Raised (is_memory (slot_at (standing d d.leaf) q) && not (is_kept d d.leaf.current place)) WrongKind (if_paid d.system w Quiet)
      (when_ends Raised (paid d.system w) ExceededQuota (Ok (w, Quiet)) (gives w Quiet (stays w (same_slot (standing d d.leaf) q Empty keeps_leaf)))))

  bytes_stay : (w : World) (place : OperandSlot) (go : List ℕ → (List ℕ → World) → Stepped) → Same w
      → ((bytes : List ℕ) (put : List ℕ → World) → ((new : List ℕ) → Same (put new)) → Ends Raised (go bytes put)) → Ends Raised (bytes_at d w place go)
  bytes_stay w place go hw each =
      need_ends Raised (slot_id_of d.x d.leaf.current place) _ _
      (λ named. need_ends Raised (bytes_slot_id d.system w (slot_at w named) named) _ _
      (λ q. bytes_in_ends Raised Same same_slot w q (slot_at w q) go hw each))

  pool_stays : (w : World) (place : OperandSlot) (go : ℕ → List (Option (List ℕ)) → (List (Option (List ℕ)) → World) → Stepped) → Same w
      → ((n : ℕ) (entries : List (Option (List ℕ))) (put : List (Option (List ℕ)) → World) → ((new : List (Option (List ℕ))) → Same (put new))
      → Ends Raised (go n entries put)) → Ends Raised (pool_at d w place go)
  pool_stays w place go hw each = need_ends Raised (slot_id_of d.x d.leaf.current place) _ _
      (λ q. pool_in_ends Raised Same same_slot w q (slot_at w q) go hw each)

  load_stays : (width : Width) (place : OperandSlot) → Ends Raised (load d width place)
  load_stays width place =
      pop_ends Raised d.leaf.operands _ (λ i rest. bytes_stay d.world place _ h (λ bytes put hp.
      when_ends Raised (nat_le (i + bytes_of width) (length bytes)) UnmappedByte (on_stack d (little (slice_range bytes i (i + bytes_of width)) ∷ rest))
      (gives _ Quiet (with_stays _))))

  store_stays : (width : Width) (place : OperandSlot) → Ends Raised (store d width place)
  store_stays width place =
      pop_ends Raised d.leaf.operands _ (λ v below. pop_ends Raised below _
      (λ i rest. bytes_stay (standing d (with_operands d rest)) place _ (keeps_with rest) (λ bytes put hp.
      when_ends Raised (nat_le (i + bytes_of width) (length bytes)) UnmappedByte _ (gives _ Quiet (stays _ (hp (stored bytes i (bytes_of width) v)))))))

  take_raises : (rest : List ℕ) (place : OperandSlot) (i : ℕ) → Ends Raised (take_entry d rest place i)
  take_raises rest place i =
      pool_stays (standing d (with_operands d (1 ∷ rest))) place _ (keeps_with (1 ∷ rest)) (λ n entries put hp.
      need_ends Raised (slice_get entries i) UnmappedByte _
      (λ entry. absent_ends Raised entry _ _ (raises_settled _ (hp (slice_set entries i (Some (replicate n 0))))) (gives _ Quiet (with_stays (0 ∷ rest)))))

  give_stays : (rest : List ℕ) (place : OperandSlot) (i : ℕ) → Ends Raised (give_entry d rest place i)
  give_stays rest place i =
      pool_stays (standing d (with_operands d (1 ∷ rest))) place _ (keeps_with (1 ∷ rest)) (λ n entries put hp.
      need_ends Raised (slice_get entries i) UnmappedByte _
      (λ entry. absent_ends Raised entry _ _ (gives _ Quiet (with_stays (0 ∷ rest))) (gives _ Quiet (stays _ (hp (slice_set entries i None))))))

  peek_stays : (place : OperandSlot) → Ends Raised (peek d place)
  peek_stays place =
      pop_ends Raised d.leaf.operands _ (λ k below. pop_ends Raised below _ (λ i rest. pool_stays d.world place _ h (λ n entries put hp.
      need_ends Raised (slice_get entries i) UnmappedByte _
      (λ entry. when_ends Raised (nat_lt k n) UnmappedByte (on_stack d (entry_byte entry k ∷ rest))
      (gives _ Quiet (with_stays (entry_byte entry k ∷ rest)))))))

  poke_stays : (place : OperandSlot) → Ends Raised (poke d place)
  poke_stays place =
      pop_ends Raised d.leaf.operands _ (λ b under. pop_ends Raised under _
      (λ k below. pop_ends Raised below _ (λ i rest. pool_stays (standing d (with_operands d rest)) place _ (keeps_with rest) (λ n entries put hp.
      need_ends Raised (slice_get entries i) UnmappedByte _
      (λ entry. when_ends Raised (nat_lt k n) UnmappedByte _ (gives _ Quiet (stays _ (hp (slice_set entries i (entry_with k b entry))))))))))

  own_raises : (i : Instruction) → IsOfOwn i → Ends Raised (instruct d i)
  own_raises (Open place service n) own = absurd own
  own_raises (Upgrade place n) own = absurd own
  own_raises (Call place) own = absurd own
  own_raises (Close place) own = absurd own
  own_raises (Say text) own = gives _ _ (stays _ (stands d.leaf refl))
  own_raises (Make form place n) own = make_raises place _
  own_raises (MakePool place n m) own = make_raises place _
  own_raises (Free place) own = free_stays place
  own_raises (Load width place) own = load_stays width place
  own_raises (Store width place) own = store_stays width place
  own_raises (Take place) own = pop_ends Raised d.leaf.operands _ (λ i rest. take_raises rest place i)
  own_raises (Give place) own = pop_ends Raised d.leaf.operands _ (λ i rest. give_stays rest place i)
  own_raises (Peek place) own = peek_stays place
  own_raises (Poke place) own = poke_stays place
  own_raises i own = search (need_ends, when_ends, pop_ends, push_ends, gives, with_stays, set_stays) depth 14

  -- a request of the leaf with these operands
  asked_keeps : (operands : List ℕ) (w : World) (q : SlotId) (k : ℕ) (ask : Ask) → Same w
      → Ends Same (asked (record d { leaf = with_operands d operands }) w q k ask)
  asked_keeps operands w q k ask hw =
      let leaf : Leaf = record d.leaf { operands = operands; phase = Blocked } in
      let v = same_slot (with_leaf w d.x leaf) q (Waiting k) (here d.x d.leaf.peaks w leaf refl) in
      when_ends Same _ _ _ (gives _ _ (record { keeps = v.keeps }))

  asked_same : (w : World) (q : SlotId) (k : ℕ) (ask : Ask) → Same w → Ends Same (asked d w q k ask)
  asked_same w q k ask hw = asked_keeps d.leaf.operands w q k ask hw

  more_sessions : (w : World) (sessions : List (Option Session)) → Same w → Same (record w { sessions = sessions })
  more_sessions = sessions_kept d.x d.leaf.peaks

  call_keeps : (place : OperandSlot) → Ends Same (call d place)
  call_keeps place = pop_ends Same _ _ (λ a rest. need_ends Same (slot_id_of d.x d.leaf.current place) WrongKind _
      (λ q. link_in_ends Same d.world (slot_at d.world q) _ (λ k s. asked_keeps rest d.world q k (Ask_call a) h)))

  link_keeps : (place : OperandSlot) (go : SlotId → ℕ → Session → Stepped) → ((q : SlotId) (k : ℕ) (s : Session) → Ends Same (go q k s)) → Ends Same
      (link_at d place go)
  link_keeps place go each = need_ends Same (slot_id_of d.x d.leaf.current place) _ _ (λ q. link_in_ends Same d.world (slot_at d.world q) (go q) (each q))

  asks_keep : (i : Instruction) → IsServed d i → Ends Same (instruct d i)
  asks_keep (Open place service n) served = search (
    need_ends,
    when_ends,
    pop_ends,
    push_ends,
    link_in_ends,
    absent_ends,
    fill_ends Same Same same_slot,
    gives,
    same_slot,
    asked_same,
    more_sessions,
  ) depth 14
  asks_keep (Upgrade place n) served = link_keeps place _ (λ q k s. asked_same _ q k Ask_upgrade (more_sessions d.world _ h))
  asks_keep (Call place) served = call_keeps place
  asks_keep (Close place) served = link_keeps place _ (λ q k s. asked_same d.world q k Ask_close h)
  asks_keep i served = absurd served

-- STEPS

has_peaks : (d : Doing) (takes : TakesLeaf d) → d.leaf.peaks ≡ takes.old.peaks → HasPeaks d.x d.leaf.peaks d.world
has_peaks d takes same = record { keeps = λ leaf there. ap (λ (l : Leaf). l.peaks) (some_same (sym there ∙ takes.there)) ∙ sym same }

perform_raises : (d : Doing) → HasPeaks d.x d.leaf.peaks d.world → (todo : Statements) → IsInside todo d.leaf.loops
    → Ends (RaisesPeaks d.x d.leaf.peaks) (perform d todo)
perform_raises d h Done inside = by d.leaf.loops inside
  where
    next : (b : Bool) (one other : Leaf) → one.peaks ≡ d.leaf.peaks → other.peaks ≡ d.leaf.peaks → (cond b one other).peaks ≡ d.leaf.peaks
    next true one other e f = e
    next false one other e f = f

    by : (loops : List Round) → IsInside Done loops → Ends (RaisesPeaks d.x d.leaf.peaks) (body_ended d loops)
    by [] inside = absurd inside
    by (r ∷ loops) inside = gives _ Quiet (stays d h _ (stands d h _ (next (nat_lt (suc r.round) r.count) _ _ refl refl)))
perform_raises d h (Do i rest) inside = own_raises (record d { leaf = record d.leaf { todo = rest } }) h i inside.0
perform_raises d h (If arm other rest) inside = pop_ends (RaisesPeaks d.x d.leaf.peaks) d.leaf.operands _
    (λ a below. gives _ Quiet (stays d h _ (stands d h _ refl)))
perform_raises d h (Loop count body rest) inside = gives _ Quiet (stays d h _ (stands d h _ refl))

-- a step inside a section keeps the leaf's peaks, or raises them to what is in use then
pub peaks_inside : (d : Doing) (takes : TakesLeaf d) → d.leaf.peaks ≡ takes.old.peaks → (w : World) (event : Event) → IsInside d.leaf.todo d.leaf.loops
    → perform d d.leaf.todo ≡ Ok (w, event)
    → (leaf : Leaf) → slice_get w.leaves d.x ≡ Some leaf → (leaf.peaks ≡ d.leaf.peaks) ⊎ (leaf.peaks ≡ raised w d.x leaf classes d.leaf.peaks)
peaks_inside d takes same w event inside e = ((perform_raises d (has_peaks d takes same) d.leaf.todo inside).holds w event e).raises

-- a statement that asks something of a session keeps them
pub peaks_asked : (d : Doing) (takes : TakesLeaf d) → d.leaf.peaks ≡ takes.old.peaks → (i : Instruction) → IsServed d i → (w : World) (event : Event)
    → instruct d i ≡ Ok (w, event)
    → (leaf : Leaf) → slice_get w.leaves d.x ≡ Some leaf → leaf.peaks ≡ d.leaf.peaks
peaks_asked d takes same i served w event e = ((asks_keep d (has_peaks d takes same) i served).holds w event e).keeps

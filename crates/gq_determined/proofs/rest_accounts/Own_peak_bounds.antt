-- No peak of a leaf is below what its own slots have in use: statements.
use Rattle.std.proofs.Common.{◌≡◌, ◌≢◌, ◌≤◌, ◌⊎◌, inl, inr, ℕ, ◌+◌, zero, suc, ◌==◌, Bool, true, false, cond, not, ◌&&◌, nat_lt, List, [], ◌∷◌, Option, Some}
use Rattle.std.proofs.Common.{None}
use Rattle.std.proofs.Common.{refl, ap, sym, ◌∙◌, subst, arith}
use Rattle.std.specs.Prelude.{count_by, is_some, length, nat_le, option_map, replicate, slice_get, slice_range, slice_set, sum_by}
use Rattle.std.proofs.lemmas.Bool.Decides.{eqb_tells}
use Rattle.std.proofs.lemmas.List.Sums.{sum_by-cons}
use Rattle.gq_tariff.specs.Prices.{classes, size_for}
use Rattle.gq_model.specs.declared.fault.Wrong.TheVariants.{WrongKind, UnmappedByte, ExceededQuota}
use Rattle.gq_model.specs.declared.program.Form.{Form}
use Rattle.gq_model.specs.declared.program.Form.TheVariants.{Block, Slice, Space}
use Rattle.gq_model.specs.declared.program.Instruction.{Instruction}
use Rattle.gq_model.specs.declared.program.Instruction.TheVariants.{Say, Make, MakePool, Load, Store, Free, Take, Give, Peek, Poke, Open, Upgrade, Call, Close}
use Rattle.gq_model.specs.declared.program.OperandSlot.{OperandSlot}
use Rattle.gq_model.specs.declared.program.OperandSlot.TheVariants.{Own, Shared, Object}
use Rattle.gq_model.specs.declared.program.Width.{Width}
use Rattle.gq_model.specs.machine.Program.{bytes_of, little}
use Rattle.gq_model.specs.machine.Scenario.{System}
use Rattle.gq_model.specs.declared.phase.Phase.TheVariants.{Blocked}
use Rattle.gq_model.specs.machine.World.{Slot, Empty, Bytes, Pool, Link, Waiting, SlotId, In_leaf, In_session, In_object, Session, Current, Leaf, World}
use Rattle.gq_model.specs.machine.World.{Ask, Ask_open, Ask_upgrade, Ask_close, Ask_call}
use Rattle.gq_model.specs.machine.Routes.{server_of}
use Rattle.gq_model.specs.machine.Requests.{asked, open_session, call, link_at}
use Rattle.gq_model.specs.machine.World.{leaf_slot, session_at, slot_at, slot_id_of, with_leaf, with_slot, put_leaf_slot, put_session_slot, put_object}
use Rattle.gq_model.specs.machine.Doing.{Doing, Quiet, Stepped, fill, if_paid, on_stack, settled, standing, with_operands}
use Rattle.gq_model.specs.machine.Memory.{load, store, take_entry, give_entry, peek, poke, entry_byte, entry_with, make, free, is_memory, is_kept}
use Rattle.gq_model.specs.machine.Memory.{bytes_slot_id}
use Rattle.gq_model.specs.machine.Memory.{bytes_in, pool_in}
use Rattle.gq_model.specs.machine.Step.{instruct}
use Rattle.gq_model.specs.machine.Sums.{paid, raised, slot_places, with_peaks}
use Rattle.gq_model.proofs.Small_facts.{none_some, some_same}
use Rattle.gq_laws.proofs.session_links.Written_world_links.{set_else}
use Rattle.gq_laws.proofs.statement_rules.Statement_number_bounds.{stored}
use Rattle.gq_laws.proofs.step_shapes.Step_end_shapes.{Ends, fails, gives, need_ends, need_found, when_ends, pop_ends, push_ends, absent_ends, link_in_ends}
use Rattle.gq_laws.proofs.step_shapes.Step_end_shapes.{bytes_in_ends, pool_in_ends}
use Rattle.gq_determined.proofs.regions.Region_changes.{set_at}

-- SUMS

-- one item of a list is no greater than what stood there
set_less : {A : Type 0} (f : A → ℕ) (items : List A) (i : ℕ) (new : A) → ((old : A) → slice_get items i ≡ Some old → f new ≤ f old)
    → sum_by f (slice_set items i new) ≤ sum_by f items
set_less f [] i new h = omega arith
set_less f (a ∷ items) zero new h =
    let less = h a refl in omega (arith, less, sum_by-cons f a items, sum_by-cons f new items)
set_less f (a ∷ items) (suc i) new h =
    let less = set_less f items i new h in omega (arith, less, sum_by-cons f a items, sum_by-cons f a (slice_set items i new))

-- each peak is no less than the places of its class
abbrev pub Within : List ℕ → List Slot → List ℕ → Type 0
Within [] slots peaks = Unit {0}
Within (c ∷ cs) slots [] = Unit {0}
Within (c ∷ cs) slots (peak ∷ peaks) = (sum_by (slot_places c) slots ≤ peak) × Within cs slots peaks

pub fewer : (slots more : List Slot) → ((c : ℕ) → sum_by (slot_places c) slots ≤ sum_by (slot_places c) more) → (cs peaks : List ℕ) → Within cs more peaks
    → Within cs slots peaks
fewer slots more less [] peaks h = tt
fewer slots more less (c ∷ cs) [] h = tt
fewer slots more less (c ∷ cs) (peak ∷ peaks) h =
    let here = less c in let most = h.0 in (omega (arith, here, most), fewer slots more less cs peaks h.1)

raised_within : (w : World) (x : ℕ) (leaf : Leaf) (cs peaks : List ℕ) → Within cs leaf.slots (raised w x leaf cs peaks)
raised_within w x leaf [] peaks = tt
raised_within w x leaf (c ∷ cs) [] = tt
raised_within w x leaf (c ∷ cs) (peak ∷ peaks) = (omega arith, raised_within w x leaf cs peaks)

-- WORLDS

pub record AreWithin (w : World) : Type 0 where
  pub each : (y : ℕ) (leaf : Leaf) → slice_get w.leaves y ≡ Some leaf → Within classes leaf.slots leaf.peaks

-- so it is of all leaves but one
pub record AreElse (x : ℕ) (w : World) : Type 0 where
  pub each : (y : ℕ) (leaf : Leaf) → slice_get w.leaves y ≡ Some leaf → y ≢ x → Within classes leaf.slots leaf.peaks

pub put_cases : (leaves : List Leaf) (x y : ℕ) (a new : Leaf) → slice_get (slice_set leaves x a) y ≡ Some new
    → ((y ≡ x) × (new ≡ a)) ⊎ ((y ≢ x) × (slice_get leaves y ≡ Some new))
put_cases leaves x y a new e = elim (eqb_tells y x) [
  | inl q ↦ inl (q.1, same (slice_get leaves x) (sym (set_at leaves x a) ∙ (ap (slice_get (slice_set leaves x a)) (sym q.1) ∙ e)))
  | inr q ↦ inr (q.1, sym (set_else leaves x y a q.1) ∙ e)
]
  where
    same : (o : Option Leaf) → option_map (λ b. a) o ≡ Some new → new ≡ a
    same None e = absurd (none_some e)
    same (Some b) e = sym (some_same e)

-- the leaf that was left out
pub with_own : (w : World) (x : ℕ) (leaf : Leaf) → Within classes leaf.slots leaf.peaks → AreElse x w → AreWithin (with_leaf w x leaf)
with_own w x leaf own h = record { each = λ y new e. by y new (put_cases w.leaves x y leaf new e) }
  where
    by : (y : ℕ) (new : Leaf) → ((y ≡ x) × (new ≡ leaf)) ⊎ ((y ≢ x) × (slice_get w.leaves y ≡ Some new)) → Within classes new.slots new.peaks
    by y new (inl q) = subst (λ (l : Leaf). Within classes l.slots l.peaks) (sym q.1) own
    by y new (inr q) = h.each y new q.1 q.0

pub all_else : (w : World) (x : ℕ) → AreWithin w → AreElse x w
all_else w x h = record { each = λ y leaf e ne. h.each y leaf e }

with_else : (w : World) (x : ℕ) (leaf : Leaf) → AreElse x w → AreElse x (with_leaf w x leaf)
with_else w x leaf h = record { each = λ y new e ne. by y new ne (put_cases w.leaves x y leaf new e) }
  where
    by : (y : ℕ) (new : Leaf) → y ≢ x → ((y ≡ x) × (new ≡ leaf)) ⊎ ((y ≢ x) × (slice_get w.leaves y ≡ Some new)) → Within classes new.slots new.peaks
    by y new ne (inl q) = absurd (ne q.0)
    by y new ne (inr q) = h.each y new q.1 ne

places_in : ℕ → Option Slot → ℕ
places_in c None = 0
places_in c (Some slot) = slot_places c slot

-- a slot that has no more places than what stood there
pub put_small : (w : World) (q : SlotId) (slot : Slot) → ((c : ℕ) (old : Slot) → slot_at w q ≡ Some old → slot_places c slot ≤ slot_places c old) → AreWithin w
    → AreWithin (with_slot w q slot)
put_small w (In_leaf y i) slot less h = by (slice_get w.leaves y) refl
  where
    by : (o : Option Leaf) → slice_get w.leaves y ≡ o → AreWithin (put_leaf_slot w o y i slot)
    by None e = h
    by (Some leaf) e =
        with_own w y (record leaf { slots = slice_set leaf.slots i slot })
        (fewer (slice_set leaf.slots i slot) leaf.slots
        (λ c. set_less (slot_places c) leaf.slots i slot (λ old there. less c old (ap (λ o. leaf_slot o i) e ∙ there)))
        classes leaf.peaks (h.each y leaf e)) (all_else w y h)
put_small w (In_session k i) slot less h = by (session_at w k)
  where
    by : (o : Option Session) → AreWithin (put_session_slot w o k i slot)
    by None = h
    by (Some s) = record { each = h.each }
put_small w (In_object k) slot less h = by (session_at w k)
  where
    by : (o : Option Session) → AreWithin (put_object w o k slot)
    by None = h
    by (Some s) = record { each = h.each }

-- a slot for which the heap has no places
pub put_light : (w : World) (q : SlotId) (slot : Slot) → ((c : ℕ) → slot_places c slot ≡ 0) → AreWithin w → AreWithin (with_slot w q slot)
put_light w q slot none = put_small w q slot (λ c old e. (let n = none c in omega (arith, n)))

-- a slot of the x-th leaf, or of a session
abbrev Mine : ℕ → SlotId → Type 0
Mine x (In_leaf y i) = y ≡ x
Mine x (In_session k i) = Unit {0}
Mine x (In_object k) = Unit {0}

mine : (x : ℕ) (current : Option Current) (place : OperandSlot) (q : SlotId) → slot_id_of x current place ≡ Some q → Mine x q
mine x current (Own i) q e = subst (Mine x) (some_same e) refl
mine x None (Shared i) q e = absurd (none_some e)
mine x None Object q e = absurd (none_some e)
mine x (Some g) (Shared i) q e = subst (Mine x) (some_same e) tt
mine x (Some g) Object q e = subst (Mine x) (some_same e) tt

put_mine : (x : ℕ) (w : World) (q : SlotId) (slot : Slot) → Mine x q → AreElse x w → AreElse x (with_slot w q slot)
put_mine x w (In_leaf y i) slot m h = by (slice_get w.leaves y)
  where
    by : (o : Option Leaf) → AreElse x (put_leaf_slot w o y i slot)
    by None = h
    by (Some leaf) = subst (λ z. AreElse x (with_leaf w z (record leaf { slots = slice_set leaf.slots i slot }))) (sym m)
        (with_else w x (record leaf { slots = slice_set leaf.slots i slot }) h)
put_mine x w (In_session k i) slot m h = by (session_at w k)
  where
    by : (o : Option Session) → AreElse x (put_session_slot w o k i slot)
    by None = h
    by (Some s) = record { each = h.each }
put_mine x w (In_object k) slot m h = by (session_at w k)
  where
    by : (o : Option Session) → AreElse x (put_object w o k slot)
    by None = h
    by (Some s) = record { each = h.each }

-- once the peaks are raised, all are
settled_within : (system : System) (x : ℕ) (w : World) → AreElse x w → Ends AreWithin (settled system x w)
settled_within system x w h =
    need_ends AreWithin (slice_get w.leaves x) _ _ (λ leaf. when_ends AreWithin _ _ _
    (gives _ _ (with_own w x (with_peaks w x leaf) (raised_within w x leaf classes leaf.peaks) h)))

fill_mine : (x : ℕ) (w : World) (q : SlotId) (o : Option Slot) (slot : Slot) (go : World → Stepped) → Mine x q → AreElse x w
    → ((v : World) → AreElse x v → Ends AreWithin (go v)) → Ends AreWithin (fill w q o slot go)
fill_mine x w q (Some Empty) slot go m h k = k _ (put_mine x w q slot m h)
fill_mine x w q None slot go m h k = fails _
fill_mine x w q (Some (Bytes form n bytes)) slot go m h k = fails _
fill_mine x w q (Some (Pool n entries)) slot go m h k = fails _
fill_mine x w q (Some (Link j)) slot go m h k = fails _
fill_mine x w q (Some (Waiting j)) slot go m h k = fails _

pub fill_light : (w : World) (q : SlotId) (o : Option Slot) (slot : Slot) (go : World → Stepped) → ((c : ℕ) → slot_places c slot ≡ 0) → AreWithin w
    → ((v : World) → AreWithin v → Ends AreWithin (go v)) → Ends AreWithin (fill w q o slot go)
fill_light w q (Some Empty) slot go none h k = k _ (put_light w q slot none h)
fill_light w q None slot go none h k = fails _
fill_light w q (Some (Bytes form n bytes)) slot go none h k = fails _
fill_light w q (Some (Pool n entries)) slot go none h k = fails _
fill_light w q (Some (Link j)) slot go none h k = fails _
fill_light w q (Some (Waiting j)) slot go none h k = fails _

bytes_places : (c : ℕ) (form : Form) (n : ℕ) (new old : List ℕ) → slot_places c (Bytes form n new) ≤ slot_places c (Bytes form n old)
bytes_places c Block n new old = omega arith
bytes_places c Slice n new old = omega arith
bytes_places c Space n new old = omega arith

bytes_small : (w : World) (q : SlotId) (o : Option Slot) (go : List ℕ → (List ℕ → World) → Stepped) → slot_at w q ≡ o → AreWithin w
    → ((bytes : List ℕ) (put : List ℕ → World) → ((new : List ℕ) → AreWithin (put new)) → Ends AreWithin (go bytes put)) → Ends AreWithin (bytes_in w q o go)
bytes_small w q (Some (Bytes form m bytes)) go e h k = k bytes _ (λ new. put_small w q (Bytes form m new)
    (λ c old there. subst (λ s. slot_places c (Bytes form m new) ≤ slot_places c s) (some_same (sym e ∙ there)) (bytes_places c form m new bytes)) h)
bytes_small w q None go e h k = fails _
bytes_small w q (Some Empty) go e h k = fails _
bytes_small w q (Some (Pool m entries)) go e h k = fails _
bytes_small w q (Some (Link j)) go e h k = fails _
bytes_small w q (Some (Waiting j)) go e h k = fails _

abbrev Entries : Type 0
Entries = List (Option (List ℕ))

pool_places : (c m : ℕ) (new old : Entries) → count_by is_some new ≤ count_by is_some old → slot_places c (Pool m new) ≤ slot_places c (Pool m old)
pool_places c m new old less = by (size_for m == c)
  where
    by : (b : Bool) → cond b (count_by is_some new) 0 ≤ cond b (count_by is_some old) 0
    by true = less
    by false = omega arith

pool_small : (w : World) (q : SlotId) (o : Option Slot) (go : ℕ → Entries → (Entries → World) → Stepped) → slot_at w q ≡ o → AreWithin w
    → ((m : ℕ) (entries : Entries) (put : Entries → World) → ((new : Entries) → count_by is_some new ≤ count_by is_some entries → AreWithin (put new))
    → Ends AreWithin (go m entries put)) → Ends AreWithin (pool_in w q o go)
pool_small w q (Some (Pool m entries)) go e h k = k m entries _ (λ new less. put_small w q (Pool m new)
    (λ c old there. subst (λ s. slot_places c (Pool m new) ≤ slot_places c s) (some_same (sym e ∙ there)) (pool_places c m new entries less)) h)
pool_small w q None go e h k = fails _
pool_small w q (Some Empty) go e h k = fails _
pool_small w q (Some (Bytes form m bytes)) go e h k = fails _
pool_small w q (Some (Link j)) go e h k = fails _
pool_small w q (Some (Waiting j)) go e h k = fails _

pool_mine : (x : ℕ) (w : World) (q : SlotId) (o : Option Slot) (go : ℕ → Entries → (Entries → World) → Stepped) → Mine x q → AreElse x w
    → ((m : ℕ) (entries : Entries) (put : Entries → World) → ((new : Entries) → AreElse x (put new)) → Ends AreWithin (go m entries put))
    → Ends AreWithin (pool_in w q o go)
pool_mine x w q (Some (Pool m entries)) go i h k = k m entries _ (λ new. put_mine x w q (Pool m new) i h)
pool_mine x w q None go i h k = fails _
pool_mine x w q (Some Empty) go i h k = fails _
pool_mine x w q (Some (Bytes form m bytes)) go i h k = fails _
pool_mine x w q (Some (Link j)) go i h k = fails _
pool_mine x w q (Some (Waiting j)) go i h k = fails _

abbrev taken : Option (List ℕ) → ℕ
taken e = cond (is_some e) 1 0

none_less : (entries : Entries) (i : ℕ) → count_by is_some (slice_set entries i None) ≤ count_by is_some entries
none_less entries i = set_less taken entries i None (λ old there. omega arith)

with_less : (entries : Entries) (i k b : ℕ) (entry : Option (List ℕ)) → slice_get entries i ≡ Some entry
    → count_by is_some (slice_set entries i (entry_with k b entry)) ≤ count_by is_some entries
with_less entries i k b entry e =
    set_less taken entries i (entry_with k b entry) (λ old there. subst (λ o. taken (entry_with k b entry) ≤ taken o) (some_same (sym e ∙ there)) (by entry))
  where
    by : (o : Option (List ℕ)) → taken (entry_with k b o) ≤ taken o
    by None = omega arith
    by (Some bytes) = omega arith

-- STATEMENTS

module _ (d : Doing) (h : AreWithin d.world) (own : Within classes d.leaf.slots d.leaf.peaks) where
  pub stands : (leaf : Leaf) → leaf.slots ≡ d.leaf.slots → leaf.peaks ≡ d.leaf.peaks → AreWithin (standing d leaf)
  stands leaf slots peaks =
      with_own d.world d.x leaf (subst (λ s. Within classes s leaf.peaks) (sym slots) (subst (Within classes d.leaf.slots) (sym peaks) own))
      (all_else d.world d.x h)

  with_stays : (operands : List ℕ) → AreWithin (standing d (with_operands d operands))
  with_stays operands = stands (with_operands d operands) refl refl

  set_stays : (operands locals : List ℕ) → AreWithin (standing d (record d.leaf { operands = operands; locals = locals }))
  set_stays operands locals = stands (record d.leaf { operands = operands; locals = locals }) refl refl

  make_within : (place : OperandSlot) (slot : Slot) → Ends AreWithin (make d place slot)
  make_within place slot =
      let w = standing d d.leaf in
      need_found AreWithin (slot_id_of d.x d.leaf.current place) _ _ (λ q e. fill_mine d.x w q (slot_at w q) slot _ (mine d.x d.leaf.current place q e)
      (all_else w d.x (stands d.leaf refl refl)) (λ v hv. settled_within d.system d.x v hv))

  free_within : (place : OperandSlot) → Ends AreWithin (free d place)
  free_within place = need_ends AreWithin (slot_id_of d.x d.leaf.current place) _ _ (λ q.
      let w = with_slot (standing d d.leaf) q Empty in
      when_ends AreWithin (is_memory (slot_at (standing d d.leaf) q) && not (is_kept d d.leaf.current place)) WrongKind (if_paid d.system w Quiet)
      (when_ends AreWithin (paid d.system w) ExceededQuota _ (gives w Quiet (put_light (standing d d.leaf) q Empty (λ c. refl) (stands d.leaf refl refl)))))

  load_within : (width : Width) (place : OperandSlot) → Ends AreWithin (load d width place)
  load_within width place =
      pop_ends AreWithin d.leaf.operands _ (λ i rest. need_ends AreWithin (slot_id_of d.x d.leaf.current place) _ _
      (λ named. need_ends AreWithin (bytes_slot_id d.system d.world (slot_at d.world named) named) _ _
      (λ q. bytes_in_ends AreWithin (λ w. Unit {0}) (λ w slot_id slot u. tt) d.world q (slot_at d.world q) _ tt (λ bytes put hp.
      when_ends AreWithin (nat_le (i + bytes_of width) (length bytes)) UnmappedByte (on_stack d (little (slice_range bytes i (i + bytes_of width)) ∷ rest))
      (gives _ Quiet (with_stays _))))))

  store_within : (width : Width) (place : OperandSlot) → Ends AreWithin (store d width place)
  store_within width place =
      pop_ends AreWithin d.leaf.operands _ (λ v below. pop_ends AreWithin below _ (λ i rest.
      (let w = standing d (with_operands d rest) in
      need_ends AreWithin (slot_id_of d.x d.leaf.current place) _ _ (λ named. need_ends AreWithin (bytes_slot_id d.system w (slot_at w named) named) _ _
      (λ q. bytes_small w q (slot_at w q) _ refl (with_stays rest) (λ bytes put hp.
      when_ends AreWithin (nat_le (i + bytes_of width) (length bytes)) UnmappedByte _ (gives _ Quiet (hp (stored bytes i (bytes_of width) v)))))))))

  take_within : (rest : List ℕ) (place : OperandSlot) (i : ℕ) → Ends AreWithin (take_entry d rest place i)
  take_within rest place i =
      let w = standing d (with_operands d (1 ∷ rest)) in
      need_found AreWithin (slot_id_of d.x d.leaf.current place) _ _ (λ q e. pool_mine d.x w q (slot_at w q) _ (mine d.x d.leaf.current place q e)
      (all_else w d.x (with_stays (1 ∷ rest))) (λ n entries put hp. need_ends AreWithin (slice_get entries i) UnmappedByte _
      (λ entry. absent_ends AreWithin entry _ _ (settled_within d.system d.x _ (hp (slice_set entries i (Some (replicate n 0)))))
      (gives _ Quiet (with_stays (0 ∷ rest))))))

  give_within : (rest : List ℕ) (place : OperandSlot) (i : ℕ) → Ends AreWithin (give_entry d rest place i)
  give_within rest place i =
      let w = standing d (with_operands d (1 ∷ rest)) in
      need_ends AreWithin (slot_id_of d.x d.leaf.current place) _ _ (λ q. pool_small w q (slot_at w q) _ refl (with_stays (1 ∷ rest)) (λ n entries put hp.
      need_ends AreWithin (slice_get entries i) UnmappedByte _
      (λ entry. absent_ends AreWithin entry _ _ (gives _ Quiet (with_stays (0 ∷ rest))) (gives _ Quiet (hp (slice_set entries i None) (none_less entries i))))))

  peek_within : (place : OperandSlot) → Ends AreWithin (peek d place)
  peek_within place =
      pop_ends AreWithin d.leaf.operands _ (λ k below. pop_ends AreWithin below _ (λ i rest. need_ends AreWithin (slot_id_of d.x d.leaf.current place) _ _
      (λ q. pool_in_ends AreWithin (λ w. Unit {0}) (λ w slot_id slot u. tt) d.world q (slot_at d.world q) _ tt (λ n entries put hp.
      need_ends AreWithin (slice_get entries i) UnmappedByte _
      (λ entry. when_ends AreWithin (nat_lt k n) UnmappedByte (on_stack d (entry_byte entry k ∷ rest))
      (gives _ Quiet (with_stays (entry_byte entry k ∷ rest))))))))

  poke_within : (place : OperandSlot) → Ends AreWithin (poke d place)
  poke_within place =
      pop_ends AreWithin d.leaf.operands _ (λ b under. pop_ends AreWithin under _ (λ k below. pop_ends AreWithin below _ (λ i rest.
      (let w = standing d (with_operands d rest) in
      need_ends AreWithin (slot_id_of d.x d.leaf.current place) _ _ (λ q. pool_small w q (slot_at w q) _ refl (with_stays rest) (λ n entries put hp.
      need_found AreWithin (slice_get entries i) UnmappedByte _
      (λ entry e. when_ends AreWithin (nat_lt k n) UnmappedByte _
      (gives _ Quiet (hp (slice_set entries i (entry_with k b entry)) (with_less entries i k b entry e))))))))))

  -- a request of the leaf with these operands
  asked_within : (operands : List ℕ) (w : World) (q : SlotId) (k : ℕ) (ask : Ask) → AreWithin w
      → Ends AreWithin (asked (record d { leaf = with_operands d operands }) w q k ask)
  asked_within operands w q k ask hw =
      let leaf : Leaf = record d.leaf { operands = operands; phase = Blocked } in
      let v = put_light (with_leaf w d.x leaf) q (Waiting k) (λ c. refl) (with_own w d.x leaf own (all_else w d.x hw)) in
      when_ends AreWithin _ _ _ (gives _ _ (record { each = v.each }))

  open_within : (place : OperandSlot) (service : List ℕ) (n : ℕ) → Ends AreWithin (open_session d place service n)
  open_within place service n =
      need_ends AreWithin (slot_id_of d.x d.leaf.current place) _ _ (λ q. fill_light d.world q (slot_at d.world q) _ _ (λ c. refl) h (λ w hw.
      need_ends AreWithin (server_of d.system d.component service) _ _ (λ server. asked_within d.leaf.operands _ q _ Ask_open (record { each = hw.each }))))

  link_within : (place : OperandSlot) (go : SlotId → ℕ → Session → Stepped) → ((q : SlotId) (k : ℕ) (s : Session) → Ends AreWithin (go q k s))
      → Ends AreWithin (link_at d place go)
  link_within place go each =
      need_ends AreWithin (slot_id_of d.x d.leaf.current place) _ _ (λ q. link_in_ends AreWithin d.world (slot_at d.world q) (go q) (each q))

  call_within : (place : OperandSlot) → Ends AreWithin (call d place)
  call_within place = pop_ends AreWithin d.leaf.operands _ (λ a rest. need_ends AreWithin (slot_id_of d.x d.leaf.current place) WrongKind _
      (λ q. link_in_ends AreWithin d.world (slot_at d.world q) _ (λ k s. asked_within rest d.world q k (Ask_call a) h)))

  pub instruct_within : (i : Instruction) → Ends AreWithin (instruct d i)
  instruct_within (Open place service n) = open_within place service n
  instruct_within (Upgrade place n) = link_within place _ (λ q k s. asked_within d.leaf.operands _ q k Ask_upgrade (record { each = h.each }))
  instruct_within (Call place) = call_within place
  instruct_within (Close place) = link_within place _ (λ q k s. asked_within d.leaf.operands d.world q k Ask_close h)
  instruct_within (Say text) = gives _ _ (stands d.leaf refl refl)
  instruct_within (Make form place n) = make_within place _
  instruct_within (MakePool place n m) = make_within place _
  instruct_within (Free place) = free_within place
  instruct_within (Load width place) = load_within width place
  instruct_within (Store width place) = store_within width place
  instruct_within (Take place) = pop_ends AreWithin d.leaf.operands _ (λ i rest. take_within rest place i)
  instruct_within (Give place) = pop_ends AreWithin d.leaf.operands _ (λ i rest. give_within rest place i)
  instruct_within (Peek place) = peek_within place
  instruct_within (Poke place) = poke_within place
  instruct_within i = search (need_ends, when_ends, pop_ends, push_ends, gives, with_stays, set_stays) depth 14

-- Slots, leaves and sessions of a world, as parts of its key.
use Rattle.std.proofs.Common.{◌≡◌, ℕ, zero, suc, ◌<◌, List, [], ◌∷◌, ◌++◌, length, get_or, map, Option, Some, None}
use Rattle.std.proofs.Common.{refl, ap, sym, ◌∙◌, append_assoc, arith}
use Rattle.std.specs.Prelude.{IfSome, option_map, slice_get}
use Rattle.gq_model.specs.machine.World.{Slot, Empty, Session, Leaf, World, leaf_slot, session_at, session_slot}
use Rattle.gq_tariff.specs.declared.class.Class.{Class}
use Rattle.gq_tariff.specs.declared.class.Class.TheVariants.{Bytes16, Bytes32, Bytes64, Bytes128, Bytes256, Bytes512, Bytes1024, Bytes2048}
use Rattle.gq_laws.specs.Renamed.{renamed_leaf, renamed_request, renamed_session, renamed_slot}
use Rattle.gq_machine.specs.Machine_world.{no_leaf}
use Rattle.gq_outcomes.specs.Same.{ordered_by, session_slots}
use Rattle.gq_outcomes.specs.internal.Keys.{current_key, each_key, flag, leaf_key, left_key, list_key, number_key, option_key, phase_tag, request_key}
use Rattle.gq_outcomes.specs.internal.Keys.{session_key, signals_key, slot_id_key, slot_key, slots_key, text_key, world_key}
use Rattle.gq_outcomes.specs.internal.Key_parts.{kept_head_key, kept_leaf_key, kept_slot_key, numbered_key, peak_key, place_in}
use Rattle.gq_outcomes.specs.internal.Key_parts.{session_head_key, slot_or_empty}
use Rattle.gq_outcomes.proofs.Key_lists.{list_map}

-- SLOTS

or_empty : (slots : List Slot) (i : ℕ) → slot_or_empty (slice_get slots i) ≡ get_or slots i Empty
or_empty [] i = refl
or_empty (s ∷ slots) zero = refl
or_empty (s ∷ slots) (suc i) = or_empty slots i

pub own_slot : (leaves : List Leaf) (x i : ℕ) → slot_or_empty (leaf_slot (slice_get leaves x) i) ≡ get_or (get_or leaves x no_leaf).slots i Empty
own_slot [] x i = refl
own_slot (leaf ∷ leaves) zero i = or_empty leaf.slots i
own_slot (leaf ∷ leaves) (suc x) i = own_slot leaves x i

pub bank_slot : (o : Option Session) (i : ℕ) → slot_or_empty (session_slot o i) ≡ get_or (session_slots o) i Empty
bank_slot None i = refl
bank_slot (Some s) i = or_empty s.slots i

-- LEAVES

-- what holds of a leaf that is there
pub leaf_has : (leaves : List Leaf) (x : ℕ) (P : Leaf → Type 0) → x < length leaves → IfSome (slice_get leaves x) P → P (get_or leaves x no_leaf)
leaf_has [] x P l h = absurd (omega (arith, l))
leaf_has (leaf ∷ leaves) zero P l h = h
leaf_has (leaf ∷ leaves) (suc x) P l h = leaf_has leaves x P (omega (arith, l)) h

pub leaf_is : (leaves : List Leaf) (x : ℕ) → x < length leaves → slice_get leaves x ≡ Some (get_or leaves x no_leaf)
leaf_is [] x l = absurd (omega (arith, l))
leaf_is (leaf ∷ leaves) zero l = refl
leaf_is (leaf ∷ leaves) (suc x) l = leaf_is leaves x (omega (arith, l))

-- the key of all slots
pub slots_are : (order : List ℕ) (slots : List Slot) → slots_key (map (renamed_slot (place_in order)) slots) ≡ list_key (kept_slot_key order) slots
slots_are order slots = list_map slot_key (renamed_slot (place_in order)) slots

seven : (a b c d e f g h : List ℕ)
    → (a ++ (b ++ (c ++ (d ++ (e ++ (f ++ g)))))) ++ h ≡ a ++ (b ++ (c ++ (d ++ (e ++ (f ++ (g ++ h))))))
seven a b c d e f g h =
    append_assoc a (b ++ (c ++ (d ++ (e ++ (f ++ g))))) h ∙ ap (λ l. a ++ l) (append_assoc b (c ++ (d ++ (e ++ (f ++ g)))) h
    ∙ ap (λ l. b ++ l) (append_assoc c (d ++ (e ++ (f ++ g))) h ∙ ap (λ l. c ++ l) (append_assoc d (e ++ (f ++ g)) h
    ∙ ap (λ l. d ++ l) (append_assoc e (f ++ g) h ∙ ap (λ l. e ++ l) (append_assoc f g h)))))

eight : (a b c d e f g h i : List ℕ)
    → (a ++ (b ++ (c ++ (d ++ (e ++ (f ++ (g ++ h))))))) ++ i ≡ a ++ (b ++ (c ++ (d ++ (e ++ (f ++ (g ++ (h ++ i)))))))
eight a b c d e f g h i = append_assoc a (b ++ (c ++ (d ++ (e ++ (f ++ (g ++ h)))))) i ∙ ap (λ l. a ++ l) (seven b c d e f g h i)

nine : (t : ℕ) (a b c d e f g h i : List ℕ)
    → (t ∷ (a ++ (b ++ (c ++ (d ++ (e ++ (f ++ (g ++ h)))))))) ++ i ≡ t ∷ (a ++ (b ++ (c ++ (d ++ (e ++ (f ++ (g ++ (h ++ i))))))))
nine t a b c d e f g h i = ap (λ l. t ∷ l) (eight a b c d e f g h i)

-- a leaf is its slots behind the rest of it
pub leaf_parts : (order : List ℕ) (leaf : Leaf) → kept_leaf_key order leaf ≡ kept_head_key order leaf ++ list_key (kept_slot_key order) leaf.slots
leaf_parts order leaf =
    let l = renamed_leaf (place_in order) leaf in
    sym (nine (phase_tag l.phase) (option_key current_key l.current) (left_key l.todo l.loops) (text_key l.operands) (text_key l.locals) (text_key l.peaks)
    (number_key l.steps) (text_key l.inputs) (signals_key l.reacting l.signals) (slots_key l.slots))
    ∙ ap (λ t. kept_head_key order leaf ++ t) (slots_are order leaf.slots)

-- PEAKS

abbrev pub all_classes : List Class
all_classes = Bytes16 ∷ Bytes32 ∷ Bytes64 ∷ Bytes128 ∷ Bytes256 ∷ Bytes512 ∷ Bytes1024 ∷ Bytes2048 ∷ []

pub peaks_text : (peaks : List ℕ) → length peaks ≡ 8 → number_key 8 ++ each_key (peak_key peaks) all_classes ≡ text_key peaks
peaks_text (a ∷ b ∷ c ∷ d ∷ e ∷ f ∷ g ∷ h ∷ []) n = refl
peaks_text [] n = absurd (omega (arith, n))
peaks_text (a ∷ []) n = absurd (omega (arith, n))
peaks_text (a ∷ b ∷ []) n = absurd (omega (arith, n))
peaks_text (a ∷ b ∷ c ∷ []) n = absurd (omega (arith, n))
peaks_text (a ∷ b ∷ c ∷ d ∷ []) n = absurd (omega (arith, n))
peaks_text (a ∷ b ∷ c ∷ d ∷ e ∷ []) n = absurd (omega (arith, n))
peaks_text (a ∷ b ∷ c ∷ d ∷ e ∷ f ∷ []) n = absurd (omega (arith, n))
peaks_text (a ∷ b ∷ c ∷ d ∷ e ∷ f ∷ g ∷ []) n = absurd (omega (arith, n))
peaks_text (a ∷ b ∷ c ∷ d ∷ e ∷ f ∷ g ∷ h ∷ i ∷ rest) n = absurd (omega (arith, n))

-- SESSIONS

-- a session is its object and its slots behind the rest of it
pub session_parts : (order : List ℕ) (s : Session) → session_key (renamed_session (place_in order) s)
    ≡ session_head_key (renamed_session (place_in order) s) ++ (kept_slot_key order s.object ++ list_key (kept_slot_key order) s.slots)
session_parts order s =
    let t = renamed_session (place_in order) s in
    sym (eight (number_key t.client) (slot_id_key t.slot_id) (number_key t.server) (text_key t.service) (number_key t.level) (number_key t.donation.ram)
    (number_key t.donation.caps) (flag t.accepted ∷ []) (slot_key t.object ++ slots_key t.slots))
    ∙ ap (λ u. session_head_key t ++ (kept_slot_key order s.object ++ u)) (slots_are order s.slots)

pub numbered_none : (w : World) (order : List ℕ) (k : ℕ) → session_at w k ≡ None → numbered_key w order k ≡ 0 ∷ []
numbered_none w order k e = ap (λ o. option_key session_key (option_map (renamed_session (place_in order)) o)) e

pub numbered_some : (w : World) (order : List ℕ) (k : ℕ) (s : Session) → session_at w k ≡ Some s → numbered_key w order k
    ≡ 1 ∷ (session_head_key (renamed_session (place_in order) s) ++ (kept_slot_key order s.object ++ list_key (kept_slot_key order) s.slots))
numbered_some w order k s e =
    ap (λ o. option_key session_key (option_map (renamed_session (place_in order)) o)) e ∙ ap (λ t. 1 ∷ t) (session_parts order s)

-- WORLDS

pub world_parts : (order : List ℕ) (w : World) → world_key (ordered_by order w)
    ≡ list_key (kept_leaf_key order) w.leaves
    ++ (list_key (numbered_key w order) order ++ list_key (λ r. request_key (renamed_request (place_in order) r)) w.requests)
world_parts order w =
    λ i. list_map leaf_key (renamed_leaf (place_in order)) w.leaves i
    ++ (list_map (option_key session_key) (λ k. option_map (renamed_session (place_in order)) (session_at w k)) order i
    ++ list_map request_key (renamed_request (place_in order)) w.requests i)

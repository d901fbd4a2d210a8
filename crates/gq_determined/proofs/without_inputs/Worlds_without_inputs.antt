-- Worlds without their inputs: a change of a world is the same change of the world without inputs, and what is read of a world is read of that one.
use Rattle.std.proofs.Common.{◌≡◌, ℕ, zero, suc, cond, max, not, ◌||◌, is_some, List, [], ◌∷◌, map, Option, Some, None, refl, ap, sym, ◌∙◌}
use Rattle.std.specs.Prelude.{option_map, slice_get, slice_set}
use Rattle.std.proofs.lemmas.Option.{slice_get-map}
use Rattle.gq_tariff.specs.Prices.{classes}
use Rattle.gq_model.specs.declared.phase.Phase.{Phase}
use Rattle.gq_model.specs.declared.phase.Phase.TheVariants.{Pending, Running, Blocked, Serving, Handling, Exited}
use Rattle.gq_model.specs.machine.Accounts.{accounts, account_at, handed_to}
use Rattle.gq_model.specs.machine.Run.{set_input}
use Rattle.gq_model.specs.machine.Scenario.{Scenario, System, Component, system}
use Rattle.gq_model.specs.machine.Step.{is_to, kept_before, oldest, first_signal, active_again, unblocked, released, all_released}
use Rattle.gq_model.specs.machine.Sums.{raised, with_peaks, places}
use Rattle.gq_model.specs.machine.World.{Slot, SlotId, In_leaf, In_session, In_object, Session, Request, Leaf, World, session_at, with_leaf}
use Rattle.gq_model.specs.machine.World.{leaf_slot, slot_at, put_leaf_slot, put_session_slot, put_object, with_slot}
use Rattle.gq_model.proofs.Small_facts.{none_some, some_same}
use Rattle.gq_laws.specs.Progress.{rests, AllRest}
use Rattle.gq_laws.proofs.input_settings.Setting_keeps_invariants.{of_setting}
use Rattle.gq_determined.specs.internal.Unset.{unset_leaf, unset}
use Rattle.gq_determined.proofs.rest_accounts.Node_accounts_equal.{accounts_same}

-- LEAVES

unset_set : (leaves : List Leaf) (x : ℕ) (leaf : Leaf) → map unset_leaf (slice_set leaves x leaf) ≡ slice_set (map unset_leaf leaves) x (unset_leaf leaf)
unset_set [] x leaf = refl
unset_set (l ∷ leaves) zero leaf = refl
unset_set (l ∷ leaves) (suc x) leaf = ap (λ t. unset_leaf l ∷ t) (unset_set leaves x leaf)

pub unset_with : (w : World) (x : ℕ) (leaf : Leaf) → unset (with_leaf w x leaf) ≡ with_leaf (unset w) x (unset_leaf leaf)
unset_with w x leaf = ap (λ (l : List Leaf). record w { leaves = l }) (unset_set w.leaves x leaf)

pub unset_there : (w : World) (x : ℕ) → slice_get (unset w).leaves x ≡ option_map unset_leaf (slice_get w.leaves x)
unset_there w x = slice_get-map unset_leaf w.leaves x

-- a leaf of the one world is in the other with other inputs
pub other_there : (w v : World) → unset w ≡ unset v → (x : ℕ) (leaf : Leaf) → slice_get w.leaves x ≡ Some leaf
    → (inputs : List ℕ) × (slice_get v.leaves x ≡ Some (record leaf { inputs = inputs }))
other_there w v same x leaf e = by (slice_get v.leaves x) refl
  where
    is : option_map unset_leaf (slice_get v.leaves x) ≡ Some (unset_leaf leaf)
    is = sym (unset_there v x) ∙ (ap (λ (w : World). slice_get w.leaves x) (sym same) ∙ (unset_there w x ∙ ap (option_map unset_leaf) e))

    by : (o : Option Leaf) → slice_get v.leaves x ≡ o → (inputs : List ℕ) × (slice_get v.leaves x ≡ Some (record leaf { inputs = inputs }))
    by None f = absurd (none_some (sym (ap (option_map unset_leaf) f) ∙ is))
    by (Some other) f = (
      other.inputs,
      f ∙ ap Some (ap (λ (l : Leaf). record l { inputs = other.inputs }) (some_same (sym (ap (option_map unset_leaf) f) ∙ is))),
    )

-- SLOTS

slot_same : (o : Option Leaf) (i : ℕ) → leaf_slot (option_map unset_leaf o) i ≡ leaf_slot o i
slot_same None i = refl
slot_same (Some leaf) i = refl

pub unset_slot_at : (w : World) (q : SlotId) → slot_at (unset w) q ≡ slot_at w q
unset_slot_at w (In_leaf x i) = ap (λ o. leaf_slot o i) (unset_there w x) ∙ slot_same (slice_get w.leaves x) i
unset_slot_at w (In_session k i) = refl
unset_slot_at w (In_object k) = refl

pub unset_slot : (w : World) (q : SlotId) (slot : Slot) → unset (with_slot w q slot) ≡ with_slot (unset w) q slot
unset_slot w (In_leaf x i) slot = by (slice_get w.leaves x) ∙ ap (λ o. put_leaf_slot (unset w) o x i slot) (sym (unset_there w x))
  where
    by : (o : Option Leaf) → unset (put_leaf_slot w o x i slot) ≡ put_leaf_slot (unset w) (option_map unset_leaf o) x i slot
    by None = refl
    by (Some leaf) = unset_with w x (record leaf { slots = slice_set leaf.slots i slot })
unset_slot w (In_session k i) slot = by (session_at w k)
  where
    by : (o : Option Session) → unset (put_session_slot w o k i slot) ≡ put_session_slot (unset w) o k i slot
    by None = refl
    by (Some s) = refl
unset_slot w (In_object k) slot = by (session_at w k)
  where
    by : (o : Option Session) → unset (put_object w o k slot) ≡ put_object (unset w) o k slot
    by None = refl
    by (Some s) = refl

-- REQUESTS AND REPLIES

pub unset_oldest : (w : World) (x : ℕ) (rs : List Request) → oldest (unset w) x rs ≡ oldest w x rs
unset_oldest w x [] = refl
unset_oldest w x (r ∷ rs) = ap (λ o. cond (is_to x (session_at w r.session)) (Some (r, rs)) (kept_before r o)) (unset_oldest w x rs)

pub unset_unblocked : (w : World) (x : ℕ) (go : List ℕ → List ℕ) → unset (unblocked w x go) ≡ unblocked (unset w) x go
unset_unblocked w x go = by (slice_get w.leaves x) ∙ ap (active_again (unset w) x go) (sym (unset_there w x))
  where
    by : (o : Option Leaf) → unset (active_again w x go o) ≡ active_again (unset w) x go (option_map unset_leaf o)
    by None = refl
    by (Some leaf) = unset_with w x _

-- PEAKS

unset_raised : (w : World) (x : ℕ) (leaf : Leaf) (cs peaks : List ℕ) → raised (unset w) x (unset_leaf leaf) cs peaks ≡ raised w x leaf cs peaks
unset_raised w x leaf [] peaks = refl
unset_raised w x leaf (c ∷ cs) [] = refl
unset_raised w x leaf (c ∷ cs) (peak ∷ peaks) = ap (λ t. max peak (places w x leaf c) ∷ t) (unset_raised w x leaf cs peaks)

pub unset_peaks : (w : World) (x : ℕ) (leaf : Leaf) → unset_leaf (with_peaks w x leaf) ≡ with_peaks (unset w) x (unset_leaf leaf)
unset_peaks w x leaf = ap (λ l. record leaf { peaks = l; inputs = [] }) (sym (unset_raised w x leaf classes leaf.peaks))

-- THE END OF `main`

pub unset_released : (name : List ℕ) (cs : List Component) (leaves : List Leaf)
    → map unset_leaf (all_released name cs leaves) ≡ all_released name cs (map unset_leaf leaves)
unset_released name [] leaves = refl
unset_released name (c ∷ cs) [] = refl
unset_released name (c ∷ cs) (leaf ∷ leaves) =
    ap (λ t. record leaf { phase = released name c.node.after leaf.phase; inputs = [] } ∷ t) (unset_released name cs leaves)

-- SETTINGS

set_same : (leaves : List Leaf) (x : ℕ) (leaf : Leaf) (inputs : List ℕ) → slice_get leaves x ≡ Some leaf
    → map unset_leaf (slice_set leaves x (record leaf { inputs = inputs })) ≡ map unset_leaf leaves
set_same [] x leaf inputs e = refl
set_same (l ∷ leaves) zero leaf inputs e = ap (λ (m : Leaf). unset_leaf m ∷ map unset_leaf leaves) (sym (some_same e))
set_same (l ∷ leaves) (suc x) leaf inputs e = ap (λ t. unset_leaf l ∷ t) (set_same leaves x leaf inputs e)

pub unset_setting : (system : System) (w : World) (x i n : ℕ) → unset (set_input system w x i n) ≡ unset w
unset_setting system w x i n =
    of_setting system (λ v. unset v ≡ unset w) w x i n
    (λ leaf inputs there. ap (λ (l : List Leaf). record w { leaves = l }) (set_same w.leaves x leaf inputs there)) refl

-- REST AND ACCOUNTS

rests_same : (w : World) (x : ℕ) (leaf : Leaf) (phase : Phase) → rests (unset w) x leaf phase ≡ rests w x leaf phase
rests_same w x leaf Pending = refl
rests_same w x leaf Running = refl
rests_same w x leaf Blocked = refl
rests_same w x leaf Serving = ap (λ o. not (is_some (first_signal leaf.signals) || is_some o)) (unset_oldest w x w.requests)
rests_same w x leaf Handling = refl
rests_same w x leaf Exited = refl

-- inputs do not matter
rests_with : (w : World) (x : ℕ) (leaf : Leaf) (inputs : List ℕ) (phase : Phase) → rests w x (record leaf { inputs = inputs }) phase ≡ rests w x leaf phase
rests_with w x leaf inputs Pending = refl
rests_with w x leaf inputs Running = refl
rests_with w x leaf inputs Blocked = refl
rests_with w x leaf inputs Serving = refl
rests_with w x leaf inputs Handling = refl
rests_with w x leaf inputs Exited = refl

pub rest_too : (w v : World) → unset w ≡ unset v → AllRest w → AllRest v
rest_too w v same rest x leaf there =
    let old = other_there v w (sym same) x leaf there in
    sym (rests_same v x leaf leaf.phase)
    ∙ (ap (λ (w : World). rests w x leaf leaf.phase) (sym same)
    ∙ (rests_same w x leaf leaf.phase ∙ (sym (rests_with w x leaf old.0 leaf.phase) ∙ rest x (record leaf { inputs = old.0 }) old.1)))

unset_account : (w : World) (version budget y : ℕ) (c : Option Component) (o : Option Leaf)
    → account_at version (unset w) y c (option_map unset_leaf o) budget ≡ account_at version w y c o budget
unset_account w version budget y None o = refl
unset_account w version budget y (Some c) None = refl
unset_account w version budget y (Some c) (Some leaf) = refl

unset_accounts : (s : Scenario) (w : World) (budgets : List ℕ) → accounts s (unset w) budgets ≡ accounts s w budgets
unset_accounts s w budgets =
    accounts_same s budgets w (unset w)
    (λ version y budget. ap (λ o. account_at version (unset w) y (slice_get (system s).components y) o budget) (unset_there w y)
    ∙ unset_account w version budget y (slice_get (system s).components y) (slice_get w.leaves y))
    (λ y quantum. ap (λ o. handed_to o quantum) (unset_there w y) ∙ handed (slice_get w.leaves y) quantum)
  where
    handed : (o : Option Leaf) (quantum : ℕ) → handed_to (option_map unset_leaf o) quantum ≡ handed_to o quantum
    handed None quantum = refl
    handed (Some leaf) quantum = refl

pub accounts_too : (s : Scenario) (w v : World) → unset w ≡ unset v → (budgets : List ℕ) → accounts s w budgets ≡ accounts s v budgets
accounts_too s w v same budgets = sym (unset_accounts s w budgets) ∙ (ap (λ w. accounts s w budgets) same ∙ unset_accounts s v budgets)

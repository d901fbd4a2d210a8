-- The upgrades of an interface, one after the other.
use Rattle.std.proofs.Common.{◌≡◌, ℕ, suc, ◌+◌, ◌-◌, ◌<◌, ◌≤◌, Bool, true, false, ◌&&◌, List, [], ◌∷◌, ◌++◌, length, get_or, take, drop, refl, ap, ◌∙◌}
use Rattle.std.proofs.Common.{append_assoc, length-append, arith}
use Rattle.std.proofs.lemmas.List.{take_all}
use Rattle.toml.specs.Data.{Data}
use Rattle.toml.specs.View.{view, items_view}
use Rattle.toml.specs.declared.value.Value.{Value}
use Rattle.gq_model.specs.machine.Amounts.{Amount, amount}
use Rattle.gq_model.specs.machine.Lists.{all_of}
use Rattle.gq_model.specs.machine.Scenario.{Interface}
use Rattle.gq_scenario.specs.Table_keys.{listed, number_of, quantity}
use Rattle.gq_scenario.specs.Document.{or_zero, upgrades_of}

rest_is : (vs : List Value) → take (suc (length vs) - 1) vs ≡ vs
rest_is vs = take_all (suc (length vs) - 1) vs (omega arith)

pub rest_length : (vs : List Value) → 1 ≤ length vs → length (take (length vs - 1) (drop 1 vs)) + 1 ≡ length vs
rest_length [] some = absurd (omega arith)
rest_length (v ∷ vs) some = omega (arith, ap length (rest_is vs))

-- TESTS

both_true : (a b : Bool) → (a && b) ≡ true → (a ≡ true) × (b ≡ true)
both_true true b h = (refl, h)
both_true false b h = cc

pub first_passes : (test : Data → Bool) (vs : List Value) (v : Value) → 1 ≤ length vs → v ≡ get_or vs 0 v → all_of test (listed (items_view vs)) ≡ true →
    test (view v) ≡ true
first_passes test [] v some e h = absurd (omega arith)
first_passes test (w ∷ vs) v some e h = ap (λ x. test (view x)) e ∙ (both_true (test (view w)) (all_of test (listed (items_view vs))) h).0

pub rest_passes : (test : Data → Bool) (vs : List Value) → all_of test (listed (items_view vs)) ≡ true →
    all_of test (listed (items_view (take (length vs - 1) (drop 1 vs)))) ≡ true
rest_passes test [] h = h
rest_passes test (v ∷ vs) h =
    ap (λ ws. all_of test (listed (items_view ws))) (rest_is vs) ∙ (both_true (test (view v)) (all_of test (listed (items_view vs))) h).1

-- UPGRADES

pub one_more : (i j : Interface) (u : Amount) → j ≡ record i { upgrades = i.upgrades ++ u ∷ [] } → length j.upgrades ≡ length i.upgrades + 1
one_more i j u e = ap (λ (x : Interface). length x.upgrades) e ∙ length-append i.upgrades (u ∷ [])

joined : (i j k : Interface) (u a : Amount) (r s : List Amount) → u ≡ a → r ≡ s → j ≡ record i { upgrades = i.upgrades ++ u ∷ [] } →
    k ≡ record j { upgrades = j.upgrades ++ r } → k ≡ record i { upgrades = i.upgrades ++ a ∷ s }
joined i j k u a r s eu er ej ek =
    let with : List Amount → Interface = λ us. record i { upgrades = us } in
    let onto : Interface → Interface = λ x. record x { upgrades = x.upgrades ++ r } in
    ek ∙ (ap onto ej ∙ ap with (append_assoc i.upgrades (u ∷ []) r ∙ (ap (λ y. i.upgrades ++ y ∷ r) eu ∙ ap (λ y. i.upgrades ++ a ∷ y) er)))

-- the first upgrade, whose capabilities are not reported, and then the others
pub upgraded_alone : (i j k : Interface) (u : Amount) (vs cs : List Value) (v : Value) → 1 ≤ length vs → length cs < 1 → v ≡ get_or vs 0 v →
    u ≡ amount (or_zero (quantity (view v))) 0 → j ≡ record i { upgrades = i.upgrades ++ u ∷ [] } →
    k ≡ record j { upgrades = j.upgrades ++ upgrades_of (listed (items_view (take (length vs - 1) (drop 1 vs)))) [] } →
    k ≡ record i { upgrades = i.upgrades ++ upgrades_of (listed (items_view vs)) (listed (items_view cs)) }
upgraded_alone i j k u [] cs v some none ev eu ej ek = absurd (omega arith)
upgraded_alone i j k u (w ∷ ws) (c ∷ cs) v some none ev eu ej ek = absurd (omega arith)
upgraded_alone i j k u (w ∷ ws) [] v some none ev eu ej ek =
    joined i j k u (amount (or_zero (quantity (view w))) 0) (upgrades_of (listed (items_view (take (suc (length ws) - 1) ws))) [])
    (upgrades_of (listed (items_view ws)) []) (eu ∙ ap (λ x. amount (or_zero (quantity (view x))) 0) ev)
    (ap (λ xs. upgrades_of (listed (items_view xs)) []) (rest_is ws)) ej ek

-- the first upgrade with its capabilities, and then the others
pub upgraded : (i j k : Interface) (u : Amount) (n : ℕ) (vs cs : List Value) (v c : Value) → 1 ≤ length vs → 1 ≤ length cs → v ≡ get_or vs 0 v →
    c ≡ get_or cs 0 c → n ≡ or_zero (number_of (view c)) → u ≡ amount (or_zero (quantity (view v))) n →
    j ≡ record i { upgrades = i.upgrades ++ u ∷ [] } →
    k ≡ record j {
      upgrades = j.upgrades ++ upgrades_of (listed (items_view (take (length vs - 1) (drop 1 vs)))) (listed (items_view (take (length cs - 1) (drop 1 cs))));
    } →
    k ≡ record i { upgrades = i.upgrades ++ upgrades_of (listed (items_view vs)) (listed (items_view cs)) }
upgraded i j k u n [] cs v c some caps ev ec en eu ej ek = absurd (omega arith)
upgraded i j k u n (w ∷ ws) [] v c some caps ev ec en eu ej ek = absurd (omega arith)
upgraded i j k u n (w ∷ ws) (d ∷ ds) v c some caps ev ec en eu ej ek =
    joined i j k u (amount (or_zero (quantity (view w))) (or_zero (number_of (view d))))
    (upgrades_of (listed (items_view (take (suc (length ws) - 1) ws))) (listed (items_view (take (suc (length ds) - 1) ds))))
    (upgrades_of (listed (items_view ws)) (listed (items_view ds)))
    (eu ∙ (ap (λ x. amount (or_zero (quantity (view x))) n) ev
    ∙ ap (amount (or_zero (quantity (view w)))) (en ∙ ap (λ x. or_zero (number_of (view x))) ec)))
    (ap (λ xs. upgrades_of (listed (items_view xs)) (listed (items_view (take (suc (length ds) - 1) ds)))) (rest_is ws)
    ∙ ap (λ xs. upgrades_of (listed (items_view ws)) (listed (items_view xs))) (rest_is ds)) ej ek

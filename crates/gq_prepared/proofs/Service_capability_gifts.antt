-- What the services of a scenario give.
use Rattle.std.proofs.Common.{◌≡◌, ℕ, ◌+◌, ◌<◌, true, List, [], ◌∷◌, ◌++◌, length, map, get_or, Some, ap, sym, subst, ◌∙◌, arith, option_map}
use Rattle.std.specs.Prelude.{slice_get}
use Rattle.std.proofs.Common.{below_more}
use Rattle.std.proofs.lemmas.List.{get_or_append_left}
use Rattle.std.proofs.Math.Seq.{get_or-append_seam}
use Rattle.std.proofs.lemmas.Option.{slice_get-map, get_or_from_slice_get}
use Rattle.gq_model.specs.machine.Scenario.{Interface, Interfaces, Scenario, number_of, upgrade_caps}
use Rattle.gq_model.proofs.Small_facts.{some_same}
use Rattle.gq_program.specs.Interfaces.{are_interfaces}
use Rattle.gq_prepared.specs.Prepared.{AreServices, Given}
use Rattle.gq_prepared.specs.internal.Upgraded.{AreUpgrades, IsUpgrades}
use Rattle.gq_prepared.proofs.Interfaces_by_name.{entry_at, own_entry}

-- the capabilities of the first services are these
abbrev pub SoFar : Interfaces → List (List ℕ) → ℕ → Type 0
SoFar interfaces caps i =
    (k : ℕ) (e : List ℕ × Interface) → k < i → slice_get interfaces k ≡ Some e → IsUpgrades e.1.upgrades (get_or caps k [])

-- one service more
pub one_more : (interfaces : Interfaces) (old new : List (List ℕ)) (u : List ℕ) (i : ℕ) (e : List ℕ × Interface) → new ≡ old ++ u ∷ [] → length old ≡ i
    → slice_get interfaces i ≡ Some e → IsUpgrades e.1.upgrades u → SoFar interfaces old i → SoFar interfaces new (i + 1)
one_more interfaces old new u i e grown long here is sofar k d less there = below_more P i before last k less d there
  where
    P : ℕ → Type 0
    P k = (d : List ℕ × Interface) → slice_get interfaces k ≡ Some d → IsUpgrades d.1.upgrades (get_or new k [])

    before : (k : ℕ) → k < i → P k
    before k less d there =
        let same : get_or new k [] ≡ get_or old k [] = ap (λ l. get_or l k []) grown ∙ get_or_append_left old (u ∷ []) [] k (omega (arith, less, long)) in
        subst (λ (l : List ℕ). IsUpgrades d.1.upgrades l) (sym same) (sofar k d less there)

    last : P i
    last d there =
        let same : get_or new i [] ≡ u =
        ap (λ l. get_or l i []) grown ∙ (ap (λ m. get_or (old ++ u ∷ []) m []) (sym long) ∙ get_or-append_seam old u [] []) in
        let it : d ≡ e = some_same (sym there ∙ here) in
        subst (λ (l : List ℕ). IsUpgrades d.1.upgrades l) (sym same) (subst (λ (f : List ℕ × Interface). IsUpgrades f.1.upgrades u) (sym it) is)

pub services_are : (s : Scenario) (v : Given) → are_interfaces s.interfaces ≡ true → v.objects ≡ map (λ e. e.1.object) s.interfaces
    → AreUpgrades s.interfaces v.upgrades → v.buffers ≡ map (λ e. e.1.buffer) s.interfaces → AreServices s v
services_are s v order objects upgrades buffers = record {
  objects = objects;
  upgrades = λ i level less.
      let d = entry_at s.interfaces i less in
      upgrades i d.0 d.1 level ∙ ap (λ o. upgrade_caps o level) (sym (own_entry s.interfaces order i d.0 d.1));
  buffers = λ i less.
      let d = entry_at s.interfaces i less in
      ap (λ l. get_or l i 0) buffers
      ∙ (get_or_from_slice_get (map (λ (e : List ℕ × Interface). e.1.buffer) s.interfaces) i d.0.1.buffer 0
      (slice_get-map (λ (e : List ℕ × Interface). e.1.buffer) s.interfaces i ∙ ap (option_map (λ (e : List ℕ × Interface). e.1.buffer)) d.1)
      ∙ ap (λ o. number_of o (λ i. i.buffer)) (sym (own_entry s.interfaces order i d.0 d.1)));
}

-- Interfaces by the names of their services.
use Rattle.std.proofs.Common.{◌≡◌, ℕ, zero, suc, ◌<◌, true, List, [], ◌∷◌, length, map, get_or, Some, refl, ap}
use Rattle.std.proofs.Common.{◌∙◌, arith, option_map, nat_le, ◌≤◌}
use Rattle.std.proofs.lemmas.Bool.{and_parts}
use Rattle.std.proofs.lemmas.Bool.Decides.{nat_tests}
use Rattle.std.specs.Prelude.{slice_get}
use Rattle.std.proofs.lemmas.Option.{slice_get-map, get_or_from_slice_get}
use Rattle.gq_model.specs.machine.Scenario.{Interface, Interfaces, interface_in}
use Rattle.gq_program.specs.Interfaces.{is_rising, are_interfaces}
use Rattle.gq_program.proofs.Sorted_interfaces.{rising_entry}

-- the name of a service that stands there
pub name_at : (interfaces : Interfaces) (i : ℕ) (e : List ℕ × Interface) → slice_get interfaces i ≡ Some e
    → get_or (map (λ (d : List ℕ × Interface). d.0) interfaces) i [] ≡ e.0
name_at interfaces i e there =
    get_or_from_slice_get (map (λ (d : List ℕ × Interface). d.0) interfaces) i e.0 []
    (slice_get-map (λ (d : List ℕ × Interface). d.0) interfaces i ∙ ap (option_map (λ (d : List ℕ × Interface). d.0)) there)

pub entry_at : (interfaces : Interfaces) (i : ℕ) → i < length interfaces → (e : List ℕ × Interface) × (slice_get interfaces i ≡ Some e)
entry_at [] i less = absurd (omega (arith, less))
entry_at (e ∷ rest) zero less = (e, refl)
entry_at (e ∷ rest) (suc i) less = entry_at rest i (omega (arith, less))

-- the interface that stands there is that of its name
pub own_entry : (interfaces : Interfaces) → are_interfaces interfaces ≡ true → (i : ℕ) (d : List ℕ × Interface) → slice_get interfaces i ≡ Some d
    → interface_in (get_or (map (λ (e : List ℕ × Interface). e.0) interfaces) i []) interfaces ≡ Some d.1
own_entry interfaces order i d there =
    let p = and_parts (nat_le (length interfaces) 64) (is_rising interfaces) order in
    ap (λ n. interface_in n interfaces) (name_at interfaces i d there) ∙ rising_entry interfaces p.1 i d there

pub few : (interfaces : Interfaces) → are_interfaces interfaces ≡ true → length interfaces ≤ 64
few interfaces order =
    let p = and_parts (nat_le (length interfaces) 64) (is_rising interfaces) order in
    let first = p.0 in grind (arith, nat_tests, first)

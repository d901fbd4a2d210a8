-- Interfaces without their quantities.
use Rattle.std.proofs.Common.{◌≡◌, ℕ, ◌≤◌, true, List, [], ◌∷◌, length, take, nat_le, refl, ap, ◌∙◌, ◌&&◌}
use Rattle.std.proofs.lemmas.List.{length-map, take_all}
use Rattle.gq_model.specs.machine.Scenario.{Interface, Interfaces}
use Rattle.gq_program.specs.Interfaces.{all_unbounded, unbounded_entry, is_before, is_rising, are_interfaces}

before_same : (name : List ℕ) (entries : Interfaces) → is_before name (all_unbounded entries) ≡ is_before name entries
before_same name [] = refl
before_same name (e ∷ rest) = refl

rising_same : (entries : Interfaces) → is_rising (all_unbounded entries) ≡ is_rising entries
rising_same [] = refl
rising_same (e ∷ rest) = ap (λ b. b && is_rising (all_unbounded rest)) (before_same e.0 rest) ∙ ap (λ b. is_before e.0 rest && b) (rising_same rest)

-- they have the names that they had
pub still_interfaces : (entries : Interfaces) → are_interfaces (all_unbounded entries) ≡ are_interfaces entries
still_interfaces entries =
    ap (λ n. nat_le n 64 && is_rising (all_unbounded entries)) (length-map entries unbounded_entry)
    ∙ ap (λ b. nat_le (length entries) 64 && b) (rising_same entries)

-- and so do all that were gone over
pub all_gone : (given kept : Interfaces) (i : ℕ) → kept ≡ all_unbounded (take i given) → length given ≤ i → are_interfaces given ≡ true
    → are_interfaces kept ≡ true
all_gone given kept i e all ok =
    ap are_interfaces (e ∙ ap all_unbounded (take_all i given all)) ∙ (still_interfaces given ∙ ok)

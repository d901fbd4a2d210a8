-- Services by the numbers that are made of their names.
use Rattle.std.specs.Prelude.{◌≡◌, ◌<◌, ◌≤◌, ◌⊎◌, false, ℕ, List, [], ◌∷◌, length, get_or}
use Rattle.gq_model.specs.machine.Program.{text_eq}
use Rattle.gq_program.specs.Name_keys.{key_of}
use Rattle.gq_verify.specs.Requested.{Requested}

-- those of the services of requests
abbrev pub keys_of : List Requested → List ℕ
keys_of [] = []
keys_of (a ∷ rest) = key_of a.service ∷ keys_of rest

-- none of those before the first of these places, or from the second on, is for a service
abbrev pub IsOutside : List ℕ → List Requested → ℕ → ℕ → Type 0
IsOutside service all first end = (i : ℕ) → i < length all → (i < first) ⊎ (end ≤ i) → (e : Requested) → text_eq service (get_or all i e).service ≡ false

-- Which sections of leaves ask for the sections of a service.
use Rattle.std.specs.Prelude.{ℕ, if◌then◌else◌, List, [], ◌∷◌, ◌++◌}
use Rattle.gq_model.specs.machine.Program.{text_eq}
use Rattle.gq_verify.specs.declared.asked.Asker.{Asker}
use Rattle.gq_verify.specs.Requested.{Requested}

-- the requests for the sections of a service, made by the section at this place among those of this leaf
abbrev pub askers_of : List ℕ → ℕ → ℕ → List Requested → List Asker
askers_of service leaf part [] = []
askers_of service leaf part (a ∷ rest) =
    (if text_eq service a.service then record { leaf = leaf; part = part; section = a.section; count = a.count } ∷ [] else [])
    ++ askers_of service leaf part rest

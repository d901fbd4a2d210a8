-- An order of use: a level for each leaf, above those of all leaves that ask for its sections.
use Rattle.std.specs.Prelude.{◌≡◌, ◌<◌, ◌≤◌, ℕ, List, [], get_or, length}
use Rattle.gq_model.specs.declared.section.Section.TheVariants.{Main}
use Rattle.gq_verify.specs.declared.asked.Asker.{Asker}
use Rattle.gq_budget.specs.internal.Run_rounds.{Asks}

abbrev pub no_asker : Asker
no_asker = record { leaf = 0; part = 0; section = Main; count = 0 }

abbrev pub no_asks : Asks
no_asks = record { number = 0; sections = []; askers = [] }

-- a leaf that these ask may stand at this level: no leaf of them stands as high, and it is no greater than there are uses
abbrev pub IsPlaced : List Asker → List ℕ → ℕ → ℕ → Type 0
IsPlaced askers levels uses level = (level ≤ uses) × ((i : ℕ) → i < length askers → get_or levels (get_or askers i no_asker).leaf 0 < level)

-- each leaf has a level above those of the leaves that ask for its sections, and none has a greater one than there are uses
pub record IsOrder (asks : List Asks) (levels : List ℕ) (uses : ℕ) : Type 0 where
  pub as_many : length levels ≡ length asks
  pub placed : (x : ℕ) → x < length asks → IsPlaced (get_or asks x no_asks).askers levels uses (get_or levels x 0)

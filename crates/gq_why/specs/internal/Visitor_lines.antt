-- Lines by what visitors keep.
use Rattle.std.specs.Prelude.{ℕ, zero, suc, List, [], ◌∷◌, ◌++◌, Option, Some, None, codes, decimal, get_or}
use Rattle.gq_model.specs.declared.program.Form.TheVariants.{Slice}
use Rattle.gq_model.specs.declared.section.Section.TheVariants.{Main}
use Rattle.gq_model.specs.machine.Amounts.{Resource}
use Rattle.gq_model.specs.machine.Scenario.{Interface}
use Rattle.gq_model.specs.rules.Kinds.{Memory, kind_price, session_cost}
use Rattle.gq_why.specs.First_maxima.{Top}
use Rattle.gq_why.specs.Why.{item_line, item_lines, place_words, places_cost}

-- own slots at a point, where they hold something
abbrev pub own_items : Resource → Top → ℕ → List ℕ
own_items r top zero = []
own_items r top (suc n) = place_words Main top.1 ++ decimal (suc n) ++ 10 ∷ item_lines r (codes "o") 0 top.3

abbrev pub own_lines : Resource → Option Top → List ℕ
own_lines r None = []
own_lines r (Some top) = own_items r top top.2

-- so many places of a class, where one is counted, at the point of this number
abbrev pub counted_line : Resource → ℕ → ℕ → ℕ → List ℕ
counted_line r c k zero = []
counted_line r c k (suc m) =
    place_words Main k ++ decimal (places_cost r c (suc m)) ++ codes " for " ++ decimal (suc m) ++ codes " places of " ++ decimal c ++ 10 ∷ []

-- the places of these classes, of which the first is the i-th
abbrev pub counted_lines : Resource → List (ℕ × ℕ) → ℕ → List ℕ → List ℕ
counted_lines r places i [] = []
counted_lines r places i (c ∷ cs) = counted_line r c (get_or places i (0, 0)).1 (get_or places i (0, 0)).0 ++ counted_lines r places (suc i) cs

-- what a session costs at a point, of what is given for it
abbrev pub session_lines : Resource → Interface → ℕ → Option Top → List ℕ
session_lines r i given None = decimal 0 ++ codes " of " ++ decimal given ++ 10 ∷ []
session_lines r i given (Some top) =
    decimal (session_cost r i top.3) ++ codes " of " ++ decimal given ++ 10 ∷ []
    ++ place_words top.0 top.1 ++ decimal (session_cost r i top.3) ++ 10 ∷ []
    ++ item_line (codes "obj") (codes "slice " ++ decimal i.object) (kind_price r (Memory Slice i.object)) ++ item_lines r (codes "s") 0 top.3

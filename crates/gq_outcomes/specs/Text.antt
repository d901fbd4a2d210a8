-- The outcomes of a scenario as text, and the turns that lead to one of them.
use Rattle.std.specs.Prelude.{ℕ, suc, ◌-◌, ◌==◌, nat_le, nat_lt, if◌then◌else◌, Bool, true, false, ◌&&◌, List, [], ◌∷◌, ◌++◌, length, map, reverse}
use Rattle.std.specs.Prelude.{Option, Some, None, slice_get, decimal, codes}
use Rattle.gq_model.specs.machine.Scenario.{Component}
use Rattle.gq_model.specs.machine.Rest.{greatest_turns}
use Rattle.gq_views.specs.Listing.{joined}
use Rattle.gq_outcomes.specs.Outcomes.{Outcome, Search, most_turns}

-- OUTCOMES

abbrev pub outcome_text : ℕ → Outcome → List ℕ
outcome_text n o = codes "outcome " ++ decimal n ++ codes " after " ++ decimal (length o.past) ++ codes " turns\n" ++ o.text

-- of these outcomes, of which the first is the n-th
abbrev pub outcomes_text_from : ℕ → List Outcome → List ℕ
outcomes_text_from n [] = []
outcomes_text_from n (o ∷ rest) = outcome_text n o ++ outcomes_text_from (suc n) rest

-- the word behind a number of outcomes
abbrev pub counted_word : ℕ → List ℕ
counted_word n = if n == 1 then codes " outcome\n" else codes " outcomes\n"

-- how many there are, or how many were found before more turns were wanted
abbrev pub count_text : Bool → ℕ → List ℕ
count_text true n = codes "# cut after " ++ decimal most_turns ++ codes " turns, " ++ decimal n ++ codes " outcomes so far\n"
count_text false n = decimal n ++ counted_word n

abbrev pub search_text : Search → List ℕ
search_text s = outcomes_text_from 1 s.found ++ count_text s.cut (length s.found)

-- TURNS

-- a line of a list of turns has a number of at most seven digits
abbrev pub greatest_row : ℕ
greatest_row = 9999999

-- one turn of a leaf behind these rows, of which the last comes first: it goes into the last row, unless that is of another leaf or full
abbrev pub onto_row : ℕ → List (ℕ × ℕ) → List (ℕ × ℕ)
onto_row x [] = (x, 1) ∷ []
onto_row x (r ∷ rows) = if r.0 == x && nat_lt r.1 greatest_row then (x, suc r.1) ∷ rows else (x, 1) ∷ r ∷ rows

-- turns as rows, of both the last comes first
abbrev pub rows_back : List ℕ → List (ℕ × ℕ)
rows_back [] = []
rows_back (x ∷ past) = onto_row x (rows_back past)

-- turns, of which the last comes first, as rows in their order
abbrev pub rows_of : List ℕ → List (ℕ × ℕ)
rows_of past = reverse (rows_back past)

abbrev pub name_at : Option Component → List ℕ
name_at None = []
name_at (Some c) = c.node.name

abbrev pub row_line : List Component → ℕ × ℕ → List ℕ
row_line components r = name_at (slice_get components r.0) ++ 32 ∷ decimal r.1

-- more turns than a list may have stand behind a comment that says so
abbrev pub many_lines : ℕ → List (List ℕ)
many_lines n = if nat_le n greatest_turns then [] else (codes "# " ++ decimal n ++ codes " turns, more than a list may have") ∷ []

-- the turns with which an outcome was found
abbrev pub turns_text : List Component → Outcome → List ℕ
turns_text components o = joined (many_lines (length o.past) ++ map (row_line components) (rows_of o.past))

-- the n-th outcome, of which the first has the number 1
abbrev pub nth_outcome : ℕ → List Outcome → Option Outcome
nth_outcome n found = if n == 0 then None else slice_get found (n - 1)

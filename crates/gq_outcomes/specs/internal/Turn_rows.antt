-- Turns in their order, and their rows.
use Rattle.std.specs.Prelude.{ℕ, List, [], ◌∷◌}
use Rattle.gq_outcomes.specs.Text.{onto_row}

-- turns, of which the first comes first, before these, of which the last comes first
abbrev pub past_before : List ℕ → List ℕ → List ℕ
past_before [] past = past
past_before (x ∷ turns) past = past_before turns (x ∷ past)

-- turns in the order of the definition, the last one first
abbrev pub past_of : List ℕ → List ℕ
past_of turns = past_before turns []

-- further turns behind these rows, of which the last comes first
abbrev pub rows_onto : List ℕ → List (ℕ × ℕ) → List (ℕ × ℕ)
rows_onto [] rows = rows
rows_onto (x ∷ turns) rows = rows_onto turns (onto_row x rows)

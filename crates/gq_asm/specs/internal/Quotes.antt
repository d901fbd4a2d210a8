-- A text, byte by byte.
use Rattle.std.specs.Prelude.{ℕ, List, [], ◌∷◌, Option}
use Rattle.gq_model.specs.texts.Spelling.{before}

-- bytes before a text that may not be there
abbrev pub onto : List ℕ → Option (List ℕ) → Option (List ℕ)
onto [] text = text
onto (c ∷ rest) text = before c (onto rest text)

-- The line of a leaf that says something.
use Rattle.std.specs.Prelude.{ℕ, ◌++◌, ◌∷◌, [], List, codes}

-- what stands before what a leaf with this label says
abbrev pub prefix_of : List ℕ → List ℕ
prefix_of label = codes "[" ++ label ++ codes "] "

-- the line of what such a leaf says
abbrev pub line_with : List ℕ → List ℕ → List ℕ
line_with label text = prefix_of label ++ text ++ 10 ∷ []

-- the label of the leaf, and the bytes of its lines, one after the other
pub record Lines : Type 0 where
  pub label : List ℕ
  pub bytes : List ℕ

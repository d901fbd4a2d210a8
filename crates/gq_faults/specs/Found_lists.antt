-- Lists of what is found.
use Rattle.std.specs.Prelude.{if◌then◌else◌, Bool, List, [], ◌∷◌, ◌++◌, Option, Some, None}

-- what is there, as a list
abbrev pub listed_if : {A : Type 0} → Option A → List A
listed_if None = []
listed_if (Some a) = a ∷ []

-- what a test asks for, as a list
abbrev pub when : {A : Type 0} → Bool → A → List A
when test a = if test then a ∷ [] else []

-- all that is found of each
abbrev pub all_found : {A B : Type 0} → (A → List B) → List A → List B
all_found f [] = []
all_found f (a ∷ rest) = f a ++ all_found f rest

-- these, or where there are none those
abbrev pub or_else : {A : Type 0} → List A → List A → List A
or_else [] others = others
or_else (a ∷ rest) others = a ∷ rest

-- the first of a list, if there is one
abbrev pub first : {A : Type 0} → List A → Option A
first [] = None
first (a ∷ rest) = Some a

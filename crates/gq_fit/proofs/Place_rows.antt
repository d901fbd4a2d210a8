-- Places of texts, by computation.
use Rattle.std.proofs.Common.{◌≡◌, ◌∷◌, ◌++◌, [], ℕ, Bool, true, false, List, refl}
use Rattle.std.specs.Prelude.{codes}
use Rattle.gq_fit.specs.Places.{after_bytes, at_start, is_place}
use Rattle.gq_fit.specs.Value_edits.{is_list}

-- whether a quantity may change behind a prefix of a text, and whether it or what a statement gives
abbrev quantity_behind : List ℕ → Bool
quantity_behind prefix = is_place false (after_bytes at_start prefix)

abbrev value_behind : List ℕ → Bool
value_behind prefix = is_place true (after_bytes at_start prefix)

abbrev line : List ℕ → List ℕ
line text = text ++ 10 ∷ []

a_key : quantity_behind (line (codes "[interface.a]") ++ codes "need = ") ≡ true
a_key = refl

without_blanks : quantity_behind (codes "quantum=") ≡ true
without_blanks = refl

in_a_table : quantity_behind (codes "interface.a = { arg = 0, upgrades = ") ≡ true
in_a_table = refl

in_quotes : quantity_behind (codes "'need' = ") ≡ true
in_quotes = refl

another_key : quantity_behind (codes "object = ") ≡ false
another_key = refl

in_a_comment : quantity_behind (codes "need = 5 # need = ") ≡ false
in_a_comment = refl

behind_a_comment : quantity_behind (line (codes "# a comment") ++ codes "need = ") ≡ true
behind_a_comment = refl

in_a_text : quantity_behind (codes "name = 'need = ") ≡ false
in_a_text = refl

abbrev list_of : List ℕ → Bool
list_of text = is_list (91 ∷ text)

a_list : list_of (codes "4096, '4K']") ≡ true
a_list = refl

with_a_comment : list_of (line (codes "4096, # of two ]") ++ codes "0]") ≡ true
with_a_comment = refl

with_a_text : list_of (codes "']']") ≡ true
with_a_text = refl

up_to_a_later_bracket : list_of (line (codes "4096]") ++ codes "upgrade-caps = [0]") ≡ false
up_to_a_later_bracket = refl

abbrev program : List ℕ
program = line (codes "program = " ++ 34 ∷ 34 ∷ 34 ∷ []) ++ line (codes "main")

an_open : value_behind (program ++ codes "  open o0  echo ") ≡ true
an_open = refl

an_upgrade : value_behind (program ++ codes "upgrade o0 ") ≡ true
an_upgrade = refl

a_quantity_alone : quantity_behind (program ++ codes "upgrade o0 ") ≡ false
a_quantity_alone = refl

a_push : value_behind (program ++ codes "push ") ≡ false
a_push = refl

in_a_comment_of_a_program : value_behind (program ++ codes "# open o0 echo ") ≡ false
in_a_comment_of_a_program = refl

behind_an_escape : value_behind (codes "program = " ++ 34 ∷ codes "main" ++ 92 ∷ 110 ∷ codes "open o0 echo ") ≡ true
behind_an_escape = refl

behind_a_program : quantity_behind (program ++ line (codes "end" ++ 34 ∷ 34 ∷ 34 ∷ []) ++ codes "quantum = ") ≡ true
behind_a_program = refl

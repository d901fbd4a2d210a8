-- What is reported of the rules of a table, which has them in families.
use Rattle.std.specs.Prelude.{ℕ, ◌+◌, ◌*◌, ◌-◌, ◌==◌, ◌&&◌, nat_lt, List, [], ◌∷◌, Bool, true, false, Option, map, find, codes}
use Rattle.std.specs.List.{flat_map}
use Rattle.std.specs.Str.{bytes_eq}
use Rattle.std.specs.Char.{to_ascii_lowercase}
use Rattle.std.specs.Borrow.{Bor}
use Rattle.gq_rule_texts.specs.declared.rule_table.RuleText.{RuleText}

-- the families of a table, each some rules
abbrev pub Table : Type 0
Table = List (Bor (List RuleText))

-- a word is the code of a rule, its letter large or small
abbrev pub is_code : List ℕ → RuleText → Bool
is_code word rule = bytes_eq (map to_ascii_lowercase rule.code.now) (map to_ascii_lowercase word)

-- the rule of a code: the first that has it
abbrev pub rule_of : Table → List ℕ → Option RuleText
rule_of table code = find (is_code code) (flat_map (λ family. family.now) table)

-- the lines of these rules, one after the other
abbrev pub lines_of : List RuleText → List ℕ
lines_of rules = flat_map (λ rule. rule.line.now) rules

-- the lines of all rules of a table
abbrev pub lines_of_all : Table → List ℕ
lines_of_all table = flat_map (λ family. lines_of family.now) table

-- THE TABLE OF THE PROGRAM

-- the number that these digits continue
abbrev pub number_from : ℕ → List ℕ → ℕ
number_from n [] = n
number_from n (digit ∷ rest) = number_from (10 * n + (digit - 48)) rest

-- a code is a letter and a number
abbrev pub is_of : ℕ → List ℕ → Bool
is_of letter [] = false
is_of letter (first ∷ digits) = first == letter

abbrev pub number_of : List ℕ → ℕ
number_of [] = 0
number_of (first ∷ digits) = number_from 0 digits

-- the codes of some rules have one letter, and numbers above this one that rise
abbrev pub are_rising : ℕ → ℕ → List RuleText → Bool
are_rising letter n [] = true
are_rising letter n (rule ∷ rest) = is_of letter rule.code.now && nat_lt n (number_of rule.code.now) && are_rising letter (number_of rule.code.now) rest

-- at least one rule, with codes of one letter whose numbers rise
abbrev pub is_family : ℕ → List RuleText → Bool
is_family letter [] = false
is_family letter (rule ∷ rest) = are_rising letter 0 (rule ∷ rest)

-- a family for each of these letters
abbrev pub are_families : List ℕ → Table → Bool
are_families [] [] = true
are_families [] (family ∷ rest) = false
are_families (letter ∷ letters) [] = false
are_families (letter ∷ letters) (family ∷ rest) = is_family letter family.now && are_families letters rest

-- a table of all kinds of codes: scenarios, texts, code, the verifier, budgets, turns and wrong steps
abbrev pub is_table : Table → Bool
is_table table = are_families (codes "SMCVBUX") table

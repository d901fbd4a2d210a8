-- What is known of a table whose rules are kept.
use Rattle.std.proofs.Common.{◌≡◌, ℕ, ◌≤◌, Bool, true, false, ◌||◌, ◌&&◌, not, List, [], ◌∷◌, ◌++◌, length, Option, Some, None, is_some, refl, arith}
use Rattle.std.proofs.lemmas.Bool.Decides.{nat_tests}
use Rattle.toml.specs.Data.{Data, Items, Members, get_member}
use Rattle.gq_model.specs.machine.Lists.{any_of, all_of, between, or_first}
use Rattle.gq_model.specs.texts.Letters.{is_name}
use Rattle.gq_model.specs.machine.Program.{text_eq}
use Rattle.gq_scenario.specs.Table_keys.{KeyRule, has, passes, number_of, quantity, text_of, unhex_of, is_number, is_quantity, is_text, is_hex, is_name_text}
use Rattle.gq_scenario.specs.Table_keys.{listed, list_length, items_of, is_list, unknown_key, missing_key, bad_value, is_bad, table_fault}
use Rattle.gq_scenario.specs.Document_tables.{is_declared}
use Rattle.gq_scenario.specs.Document.{or_zero, value_of, list_of, list_at}
use Rattle.gq_reader.specs.internal.Faultless_tables.{is_name_or_none}
use Rattle.gq_reader.proofs.Faultless_table_facts.{none_at_false}
use Rattle.gq_model.proofs.Small_facts.{text_is, or_first_none}
use Rattle.std.proofs.lemmas.Bool.{not-false, or_parts, and_parts}

abbrev pub fits_or_none : (Data → Bool) → Option Data → Bool
fits_or_none fits None = true
fits_or_none fits (Some d) = fits d

pub record IsKept (r : KeyRule) (entries : Members) : Type 0 where
  pub there : (r.required && not (any_of (has entries) (r.key ∷ r.instead))) ≡ false
  pub fits : fits_or_none r.fits (get_member r.key entries) ≡ true

abbrev pub AreKept : List KeyRule → Members → Type 0
AreKept [] entries = Unit {0}
AreKept (r ∷ rules) entries = IsKept r entries × AreKept rules entries

fits_by : (r : KeyRule) (entries : Members) (o : Option Data) → is_bad r entries o ≡ false → fits_or_none r.fits o ≡ true
fits_by r entries None e = refl
fits_by r entries (Some d) e = not-false (r.fits d) (or_parts (not (r.fits d)) (any_of (has entries) r.beside) e).0

kept_by : (rules : List KeyRule) (entries : Members) → missing_key rules entries ≡ None → bad_value rules entries ≡ None → AreKept rules entries
kept_by [] entries e f = tt
kept_by (r ∷ rules) entries e f =
    let (here, missing) = none_at_false (r.required && not (any_of (has entries) (r.key ∷ r.instead))) _ (missing_key rules entries) e in
    let (good, bad) = none_at_false (is_bad r entries (get_member r.key entries)) _ (bad_value rules entries) f in
    (record { there = here; fits = fits_by r entries (get_member r.key entries) good }, kept_by rules entries missing bad)

-- a table without faults keeps each rule
pub kept : (rules : List KeyRule) (entries : Members) → table_fault rules entries ≡ None → (unknown_key rules entries ≡ None) × AreKept rules entries
kept rules entries e =
    let (known, more) = or_first_none (unknown_key rules entries) (or_first (missing_key rules entries) (bad_value rules entries)) e in
    let (there, bad) = or_first_none (missing_key rules entries) (bad_value rules entries) more in (known, kept_by rules entries there bad)

-- some rules, and others after them
pub kept_parts : (rules others : List KeyRule) (entries : Members) → AreKept (rules ++ others) entries → AreKept rules entries × AreKept others entries
kept_parts [] others entries k = (tt, k)
kept_parts (r ∷ rules) others entries k = let (more, last) = kept_parts rules others entries k.1 in ((k.0, more), last)

-- VALUES

pub one_there : (b : Bool) → (true && not (b || false)) ≡ false → b ≡ true
one_there true e = refl
one_there false e = cc

pub some_there : (a b : Bool) → (true && not (a || (b || false))) ≡ false → (a || b) ≡ true
some_there true b e = refl
some_there false true e = refl
some_there false false e = cc

pub last_there : (a b c : Bool) → (true && not (a || (b || (c || false)))) ≡ false → b ≡ false → c ≡ false → a ≡ true
last_there true b c e f g = refl
last_there false true c e f g = absurd cc
last_there false false true e f g = absurd cc
last_there false false false e f g = cc

below_high : (low high n : ℕ) → between low high n ≡ true → n ≤ high
below_high low high n e = grind (arith, nat_tests)

passed_below : (low high : ℕ) (o : Option ℕ) → passes (between low high) o ≡ true → or_zero o ≤ high
passed_below low high None e = absurd cc
passed_below low high (Some n) e = below_high low high n e

pub number_small : (low high : ℕ) (o : Option Data) → fits_or_none (is_number low high) o ≡ true → or_zero (value_of number_of o) ≤ high
number_small low high None e = omega arith
number_small low high (Some d) e = passed_below low high (number_of d) e

pub quantity_small : (low high : ℕ) (o : Option Data) → fits_or_none (is_quantity low high) o ≡ true → or_zero (value_of quantity o) ≤ high
quantity_small low high None e = omega arith
quantity_small low high (Some d) e = passed_below low high (quantity d) e

all_listed : (test : Data → Bool) (o : Option Items) → passes (λ items. all_of test (listed items)) o ≡ true → all_of test (list_of o) ≡ true
all_listed test None e = cc
all_listed test (Some items) e = e

few_listed : (high : ℕ) (o : Option Items) → between 0 high (list_length o) ≡ true → length (list_of o) ≤ high
few_listed high None e = omega arith
few_listed high (Some items) e = grind (arith, nat_tests)

-- each value of a list fits
pub all_at : (test more : Data → Bool) (key : List ℕ) (entries : Members) (o : Option Data) → get_member key entries ≡ o
    → fits_or_none (λ d. is_list test d && more d) o ≡ true
    → all_of test (list_at key entries) ≡ true
all_at test more key entries None e f = rw e refl
all_at test more key entries (Some d) e f = rw e (all_listed test (items_of d) (and_parts (is_list test d) (more d) f).0)

-- there are not too many
pub few_at : (test : Data → Bool) (high : ℕ) (key : List ℕ) (entries : Members) (o : Option Data) → get_member key entries ≡ o
    → fits_or_none (λ d. is_list test d && between 0 high (list_length (items_of d))) o ≡ true
    → length (list_at key entries) ≤ high
few_at test high key entries None e f = rw e (omega arith)
few_at test high key entries (Some d) e f =
    rw e (few_listed high (items_of d) (and_parts (is_list test d) (between 0 high (list_length (items_of d))) f).1)

passed_name : (o : Option (List ℕ)) → passes is_name o ≡ true → is_name_or_none o ≡ true
passed_name None e = refl
passed_name (Some text) e = e

pub name_or_none : (o : Option Data) → fits_or_none is_name_text o ≡ true → is_name_or_none (value_of text_of o) ≡ true
name_or_none None e = refl
name_or_none (Some d) e = passed_name (text_of d) e

passed_some : (o : Option (List ℕ)) → passes is_name o ≡ true → o ≡ None → ⊥
passed_some None e f = cc
passed_some (Some text) e f = cc

pub name_there : (o : Option Data) → is_some o ≡ true → fits_or_none is_name_text o ≡ true → value_of text_of o ≡ None → ⊥
name_there None h e f = cc
name_there (Some d) h e f = passed_some (text_of d) e f

by_head : (here : Bool) (service name : List ℕ) (rest : List (List ℕ)) → text_eq service name ≡ here → is_name name ≡ true
    → (any_of (text_eq service) rest ≡ true → is_name service ≡ true) → (here || any_of (text_eq service) rest) ≡ true → is_name service ≡ true
by_head true service name rest same named later e = rw (text_is service name same) named
by_head false service name rest same named later e = later e

declared_by : (service : List ℕ) (services : List (List ℕ)) → all_of is_name services ≡ true → any_of (text_eq service) services ≡ true → is_name service ≡ true
declared_by service [] h e = cc
declared_by service (name ∷ rest) h e =
    let (named, more) = and_parts (is_name name) (all_of is_name rest) h in
    by_head (text_eq service name) service name rest refl named (λ f. declared_by service rest more f) e

passed_declared : (services : List (List ℕ)) (o : Option (List ℕ)) → all_of is_name services ≡ true → passes (λ name. any_of (text_eq name) services) o ≡ true
    → is_name_or_none o ≡ true
passed_declared services None h e = refl
passed_declared services (Some text) h e = declared_by text services h e

pub declared_name : (services : List (List ℕ)) (o : Option Data) → all_of is_name services ≡ true → fits_or_none (is_declared services) o ≡ true
    → is_name_or_none (value_of text_of o) ≡ true
declared_name services None h e = refl
declared_name services (Some d) h e = passed_declared services (text_of d) h e

-- a program is given as text or as code
pub source_there : (program code : Option Data) → (is_some program || is_some code) ≡ true → fits_or_none is_text program ≡ true
    → fits_or_none is_hex code ≡ true
    → (is_some (value_of text_of program) || is_some (unhex_of (value_of text_of code))) ≡ true
source_there None None h e f = absurd cc
source_there None (Some d) h e f = f
source_there (Some d) code h e f = rw e refl

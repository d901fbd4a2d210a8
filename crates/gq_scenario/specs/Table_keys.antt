-- Values of a scenario's document, and the keys of a table.
use Rattle.std.specs.Prelude.{ℕ, ◌+◌, ◌*◌, ◌-◌, nat_le, if◌then◌else◌, Bool, true, false, ◌&&◌, ◌||◌, not, List, [], ◌∷◌, length, pos, Option, Some, None}
use Rattle.std.specs.Prelude.{is_some, Result, Ok, Err}
use Rattle.toml.specs.Data.{Data, string, integer, boolean, array, table, Items, no_items, item, Members, no_members, member, get_member}
use Rattle.gq_model.specs.machine.Program.{text_eq}
use Rattle.gq_model.specs.machine.Lists.{any_of, all_of, or_first, between}
use Rattle.gq_model.specs.texts.Letters.{is_digit, is_name}
use Rattle.gq_tariff.specs.Quantities.{quantity_of}
use Rattle.gq_tariff.specs.declared.quantity.QuantityFault.{QuantityFault}

-- what is wrong with a document's table: a required key is missing, a key's value is bad, a key is unknown, a name stands twice, there is too much of
-- something, a node is too deep
pub data DocumentFault : Type 0 where
  MissingKey BadValue UnknownKey : (key : List ℕ) → DocumentFault
  NameTwice TooDeep : (name : List ℕ) → DocumentFault
  TooMany : DocumentFault

-- VALUES

-- a number is a whole one
abbrev pub number_of : Data → Option ℕ
number_of (integer (pos n)) = Some n
number_of _ = None

abbrev pub ok_of : Result ℕ QuantityFault → Option ℕ
ok_of (Ok n) = Some n
ok_of (Err fault) = None

abbrev pub small : ℕ → Option ℕ
small n = if nat_le n 1099511627776 then Some n else None

-- a quantity is a number up to 2 to the 40, or a text that spells one
abbrev pub quantity : Data → Option ℕ
quantity (integer (pos n)) = small n
quantity (string text) = ok_of (quantity_of text)
quantity _ = None

abbrev pub text_of : Data → Option (List ℕ)
text_of (string text) = Some text
text_of _ = None

abbrev pub items_of : Data → Option Items
items_of (array items) = Some items
items_of _ = None

abbrev pub members_of : Data → Members
members_of (table entries) = entries
members_of _ = no_members

-- the values of a list
abbrev pub listed : Items → List Data
listed no_items = []
listed (item d rest) = d ∷ listed rest

-- what is there passes the test
abbrev pub passes : {A : Type 0} → (A → Bool) → Option A → Bool
passes test None = false
passes test (Some a) = test a

abbrev pub is_number : ℕ → ℕ → Data → Bool
is_number low high d = passes (between low high) (number_of d)

abbrev pub is_quantity : ℕ → ℕ → Data → Bool
is_quantity low high d = passes (between low high) (quantity d)

abbrev pub is_text : Data → Bool
is_text d = is_some (text_of d)

abbrev pub is_name_text : Data → Bool
is_name_text d = passes is_name (text_of d)

abbrev pub is_true : Data → Bool
is_true (boolean b) = b
is_true _ = false

abbrev pub is_table : Data → Bool
is_table (table entries) = true
is_table _ = false

-- a list of which each value passes the test
abbrev pub is_list : (Data → Bool) → Data → Bool
is_list test d = passes (λ items. all_of test (listed items)) (items_of d)

abbrev pub list_length : Option Items → ℕ
list_length None = 0
list_length (Some items) = length (listed items)

-- HEXADECIMAL

-- a digit of either case
abbrev pub hex_value : ℕ → Option ℕ
hex_value c =
    if is_digit c then Some (c - 48) else (if between 97 102 c then Some (c - 87) else (if between 65 70 c then Some (c - 55) else None))

abbrev pub byte_before : Option ℕ → Option ℕ → Option (List ℕ) → Option (List ℕ)
byte_before (Some a) (Some b) (Some rest) = Some ((16 * a + b) ∷ rest)
byte_before _ _ _ = None

-- two digits for each byte
abbrev pub unhex : List ℕ → Option (List ℕ)
unhex [] = Some []
unhex (c ∷ []) = None
unhex (c ∷ d ∷ rest) = byte_before (hex_value c) (hex_value d) (unhex rest)

abbrev pub unhex_of : Option (List ℕ) → Option (List ℕ)
unhex_of None = None
unhex_of (Some text) = unhex text

abbrev pub is_hex : Data → Bool
is_hex d = is_some (unhex_of (text_of d))

-- KEYS

-- a key of a table: whether it has to be there, the keys of which one can stand in its place, those beside which it can not stand, and its values
pub record KeyRule : Type 0 where
  pub key : List ℕ
  pub required : Bool
  pub instead : List (List ℕ)
  pub beside : List (List ℕ)
  pub fits : Data → Bool

abbrev pub required : List ℕ → (Data → Bool) → KeyRule
required key fits = record { key = key; required = true; instead = []; beside = []; fits = fits }

abbrev pub optional : List ℕ → (Data → Bool) → KeyRule
optional key fits = record { key = key; required = false; instead = []; beside = []; fits = fits }

-- the first of several keys of which just one is there
abbrev pub either : List ℕ → List (List ℕ) → (Data → Bool) → KeyRule
either key instead fits = record (required key fits) { instead = instead }

-- a later one of them
abbrev pub other : List ℕ → List (List ℕ) → (Data → Bool) → KeyRule
other key beside fits = record (optional key fits) { beside = beside }

abbrev pub has : Members → List ℕ → Bool
has entries key = is_some (get_member key entries)

-- keys stand in byte order
abbrev pub unknown_key : List KeyRule → Members → Option DocumentFault
unknown_key rules no_members = None
unknown_key rules (member key d rest) =
    if any_of (λ r. text_eq key r.key) rules then unknown_key rules rest else Some (UnknownKey key)

abbrev pub missing_key : List KeyRule → Members → Option DocumentFault
missing_key [] entries = None
missing_key (r ∷ rules) entries =
    if r.required && not (any_of (has entries) (r.key ∷ r.instead)) then Some (MissingKey r.key) else missing_key rules entries

-- the value at a key is bad, or another key stands beside it
abbrev pub is_bad : KeyRule → Members → Option Data → Bool
is_bad r entries None = false
is_bad r entries (Some d) = not (r.fits d) || any_of (has entries) r.beside

abbrev pub bad_value : List KeyRule → Members → Option DocumentFault
bad_value [] entries = None
bad_value (r ∷ rules) entries = if is_bad r entries (get_member r.key entries) then Some (BadValue r.key) else bad_value rules entries

-- the least unknown key, then the first that is missing, then the first with a bad value
abbrev pub table_fault : List KeyRule → Members → Option DocumentFault
table_fault rules entries = or_first (unknown_key rules entries) (or_first (missing_key rules entries) (bad_value rules entries))

-- The top table of a scenario's text, and why a text is no scenario.
use Rattle.std.specs.Prelude.{ℕ, ◌^◌, nat_le, length, if◌then◌else◌, List, [], ◌∷◌, ◌++◌, Option, Some, None, Result, Ok, Err, codes}
use Rattle.std.specs.Str.{is_utf8}
use Rattle.toml.specs.Data.{Members}
use Rattle.toml.specs.Parse.{parse_document}
use Rattle.gq_model.specs.machine.Program.{text_eq}
use Rattle.gq_model.specs.machine.Lists.{any_of}
use Rattle.gq_model.specs.texts.Letters.{is_name}
use Rattle.gq_model.specs.machine.Scenario.{Scenario}
use Rattle.gq_scenario.specs.Table_keys.{DocumentFault, MissingKey, BadValue, UnknownKey, NameTwice, TooDeep, TooMany}
use Rattle.gq_scenario.specs.Document.{described, document_fault}

-- the text is no document, or its document has a fault
pub data ReadFault : Type 0 where
  Not_toml : ReadFault
  Bad_document : (fault : DocumentFault) → ReadFault

-- the longest text of a scenario has 1 MiB
abbrev pub greatest_scenario : ℕ
greatest_scenario = 2 ^ 20

abbrev pub parsed : Option Members → Result Members ReadFault
parsed None = Err Not_toml
parsed (Some top) = Ok top

-- the top table of a text, which has to be UTF-8 of at most 1 MiB
abbrev pub document_in : List ℕ → Result Members ReadFault
document_in text =
    if nat_le (length text) greatest_scenario then parsed (if is_utf8 text then parse_document text else None) else Err (Bad_document TooMany)

-- the scenario that a top table describes, where there is no such fault
abbrev pub described_or : Members → Option DocumentFault → Result Scenario ReadFault
described_or top None = Ok (described top)
described_or top (Some fault) = Err (Bad_document fault)

abbrev pub read_from : (Members → Option DocumentFault) → Result Members ReadFault → Result Scenario ReadFault
read_from fault (Ok top) = described_or top (fault top)
read_from fault (Err why) = Err why

-- the scenario of a text, or the first fault
abbrev pub scenario_in : List ℕ → Result Scenario ReadFault
scenario_in text = read_from document_fault (document_in text)

-- TEXTS

-- the keys of all tables
abbrev pub known_keys : List (List ℕ)
known_keys =
    codes "version" ∷ codes "ram" ∷ codes "caps" ∷ codes "default-route" ∷ codes "interface" ∷ codes "start" ∷ codes "arg" ∷ codes "reply" ∷ codes "need"
    ∷ codes "need-caps" ∷ codes "object" ∷ codes "upgrades" ∷ codes "upgrade-caps" ∷ codes "buffer" ∷ codes "name" ∷ codes "quantum" ∷ codes "route"
    ∷ codes "provides" ∷ codes "after" ∷ codes "inputs" ∷ codes "signals" ∷ codes "offers" ∷ codes "program" ∷ codes "code" ∷ codes "service"
    ∷ codes "any-service" ∷ codes "child" ∷ codes "any-child" ∷ codes "parent" ∷ []

-- another key is not printed, and neither is what is no name
abbrev pub key_word : List ℕ → List ℕ
key_word key = if any_of (text_eq key) known_keys then key else codes "?"

abbrev pub name_word : List ℕ → List ℕ
name_word name = if is_name name then name else codes "?"

abbrev pub document_text : DocumentFault → List ℕ
document_text (MissingKey key) = codes "S2 MissingKey " ++ key_word key
document_text (BadValue key) = codes "S3 BadValue " ++ key_word key
document_text (UnknownKey key) = codes "S4 UnknownKey " ++ key_word key
document_text (NameTwice name) = codes "S5 NameTwice " ++ name_word name
document_text TooMany = codes "S6 TooMany"
document_text (TooDeep name) = codes "S7 TooDeep " ++ name_word name

abbrev pub read_text : ReadFault → List ℕ
read_text Not_toml = codes "S1 NotToml"
read_text (Bad_document fault) = document_text fault

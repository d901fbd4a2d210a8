-- What is known of the tables of interfaces without faults.
use Rattle.std.proofs.Common.{◌≡◌, ℕ, suc, ◌≤◌, ◌==◌, Bool, true, false, ◌&&◌, cond, List, [], ◌∷◌, ◌++◌, length, Some, None, append_assoc, Global}
use Rattle.std.proofs.Common.{◌⊎◌, inl, inr, Less, refl, ap, ◌∙◌, arith}
use Rattle.std.specs.Prelude.{codes, String, string_bytes}
use Rattle.std.proofs.lemmas.Bool.{le-leb, and_parts}
use Rattle.toml.specs.Data.{Data, Members, no_members, member, get_member, as_table}
use Rattle.gq_model.specs.machine.Amounts.{counts_caps}
use Rattle.gq_model.specs.machine.Lists.{all_of, between}
use Rattle.gq_model.specs.texts.Letters.{is_name}
use Rattle.gq_model.specs.texts.Operands.{greatest_number}
use Rattle.gq_model.specs.machine.Scenario.{Interface, Interfaces}
use Rattle.gq_program.specs.Interfaces as code
use Rattle.gq_scenario.specs.Table_keys.{KeyRule, required, optional, list_length, items_of, is_number, is_quantity, is_table, table_fault}
use Rattle.gq_scenario.specs.Document_tables.{greatest_caps, items_at, is_upgrades, is_upgrade_caps, are_named_tables, interface_keys}
use Rattle.gq_scenario.specs.Component_trees.{version_number}
use Rattle.gq_scenario.specs.declared.scenario.Version.{Version}
use Rattle.gq_scenario.specs.declared.scenario.Version.TheVariants.{Two, Three, Four}
use Rattle.gq_scenario.specs.Document.{number_at, quantity_at, list_at, interface_of, interfaces_of, interfaces_fault, keys_of}
use Rattle.std.specs.List.{AllByRecursion}
use Rattle.std.specs.List.Sorted.{IsStrictlySortedBy}
use Rattle.std.specs.Map.{keys_of as keys}
use Rattle.std.specs.String.{string_cmp}
use Rattle.toml.specs.View.{members_view}
use Rattle.toml.proofs.Views.{Entry}
use Rattle.gq_reader.proofs.Reported_table_faults.{members_at_table}
use Rattle.gq_reader.proofs.Faultless_table_facts.{absent}
use Rattle.gq_reader.proofs.Table_rules_kept.{kept, number_small, quantity_small, all_at, few_at}
use Rattle.gq_model.proofs.Small_facts.{or_first_none}

abbrev keys_by : Bool → Members → List KeyRule
keys_by two entries =
    required (codes "arg") (is_number 0 greatest_number) ∷ required (codes "reply") (is_number 0 greatest_number)
    ∷ required (codes "need") (is_quantity 0 greatest_number)
    ∷ cond two (required (codes "need-caps") (is_number 0 greatest_caps) ∷ []) []
    ++ optional (codes "object") (is_quantity 0 65536) ∷ optional (codes "upgrades") is_upgrades
    ∷ cond two (optional (codes "upgrade-caps") (is_upgrade_caps entries) ∷ []) []
    ++ optional (codes "buffer") (is_quantity 0 1048576) ∷ []

pub record IsSoundInterface (entries : Members) : Type 0 where
  pub arg : number_at (codes "arg") entries ≤ greatest_number
  pub reply : number_at (codes "reply") entries ≤ greatest_number
  pub need : quantity_at (codes "need") entries ≤ greatest_number
  pub need_caps : number_at (codes "need-caps") entries ≤ 65536
  pub object : quantity_at (codes "object") entries ≤ 65536
  pub buffer : quantity_at (codes "buffer") entries ≤ 1048576
  pub few : length (list_at (codes "upgrades") entries) ≤ 3
  pub bytes : all_of (is_quantity 0 greatest_number) (list_at (codes "upgrades") entries) ≡ true
  pub counts : all_of (is_number 0 greatest_caps) (list_at (codes "upgrade-caps") entries) ≡ true

-- LISTS

none_at : (key : List ℕ) (entries : Members) → get_member key entries ≡ None → number_at key entries ≡ 0
none_at key entries e = rw e refl

small_none : (key : List ℕ) (entries : Members) → get_member key entries ≡ None → number_at key entries ≤ 65536
small_none key entries e = rw e (omega arith)

no_list_at : (test : Data → Bool) (key : List ℕ) (entries : Members) → get_member key entries ≡ None → all_of test (list_at key entries) ≡ true
no_list_at test key entries e = rw e refl

sound_by : (two : Bool) (entries : Members) → table_fault (keys_by two entries) entries ≡ None → IsSoundInterface entries
sound_by true entries e =
    let (known, k) = kept (keys_by true entries) entries e in
    record {
      arg = number_small 0 greatest_number (get_member (codes "arg") entries) k.0.fits;
      reply = number_small 0 greatest_number (get_member (codes "reply") entries) k.1.0.fits;
      need = quantity_small 0 greatest_number (get_member (codes "need") entries) k.1.1.0.fits;
      need_caps = number_small 0 greatest_caps (get_member (codes "need-caps") entries) k.1.1.1.0.fits;
      object = quantity_small 0 65536 (get_member (codes "object") entries) k.1.1.1.1.0.fits;
      few = few_at (is_quantity 0 greatest_number) 3 (codes "upgrades") entries (get_member (codes "upgrades") entries) refl k.1.1.1.1.1.0.fits;
      bytes = all_at (is_quantity 0 greatest_number) (λ d. between 0 3 (list_length (items_of d))) (codes "upgrades") entries
          (get_member (codes "upgrades") entries) refl k.1.1.1.1.1.0.fits;
      counts = all_at (is_number 0 greatest_caps) (λ d. list_length (items_of d) == list_length (items_at (codes "upgrades") entries))
          (codes "upgrade-caps") entries (get_member (codes "upgrade-caps") entries) refl k.1.1.1.1.1.1.0.fits;
      buffer = quantity_small 0 1048576 (get_member (codes "buffer") entries) k.1.1.1.1.1.1.1.0.fits;
    }
sound_by false entries e =
    let (known, k) = kept (keys_by false entries) entries e in
    record {
      arg = number_small 0 greatest_number (get_member (codes "arg") entries) k.0.fits;
      reply = number_small 0 greatest_number (get_member (codes "reply") entries) k.1.0.fits;
      need = quantity_small 0 greatest_number (get_member (codes "need") entries) k.1.1.0.fits;
      need_caps = small_none (codes "need-caps") entries (absent (keys_by false entries) entries (codes "need-caps") known refl);
      object = quantity_small 0 65536 (get_member (codes "object") entries) k.1.1.1.0.fits;
      few = few_at (is_quantity 0 greatest_number) 3 (codes "upgrades") entries (get_member (codes "upgrades") entries) refl k.1.1.1.1.0.fits;
      bytes = all_at (is_quantity 0 greatest_number) (λ d. between 0 3 (list_length (items_of d))) (codes "upgrades") entries
          (get_member (codes "upgrades") entries) refl k.1.1.1.1.0.fits;
      counts = no_list_at (is_number 0 greatest_caps) (codes "upgrade-caps") entries (absent (keys_by false entries) entries (codes "upgrade-caps") known refl);
      buffer = quantity_small 0 1048576 (get_member (codes "buffer") entries) k.1.1.1.1.1.0.fits;
    }

pub sound_interface : (version : ℕ) (entries : Members) → table_fault (interface_keys version entries) entries ≡ None → IsSoundInterface entries
sound_interface version entries e = sound_by (counts_caps version) entries e

-- interfaces have the same keys in versions 2, 3 and 4
pub counted_keys : (v : Version) (entries : Members) → (v ≡ Two) ⊎ (v ≡ Three) ⊎ (v ≡ Four)
    → interface_keys (version_number v) entries ≡ interface_keys 2 entries
counted_keys v entries (inl e) = rw e refl
counted_keys v entries (inr (inl e)) = rw e refl
counted_keys v entries (inr (inr e)) = rw e refl

-- version 1 reports no capabilities
pub none_in_one : (entries : Members) → table_fault (interface_keys 1 entries) entries ≡ None → number_at (codes "need-caps") entries ≡ 0
none_in_one entries e =
    let (known, k) = kept (keys_by false entries) entries e in
    none_at (codes "need-caps") entries (absent (keys_by false entries) entries (codes "need-caps") known refl)

-- LISTS OF INTERFACES

module _ (version : ℕ) (key : List ℕ) (d : Data) (rest t : Members) (is : as_table d ≡ Some t) where
  parts : interfaces_fault version (member key d rest) ≡ None → (table_fault (interface_keys version t) t ≡ None) × (interfaces_fault version rest ≡ None)
  parts e = or_first_none (table_fault (interface_keys version t) t) (interfaces_fault version rest) (rw (members_at_table d t is) at e)

  pub table_sound : interfaces_fault version (member key d rest) ≡ None → table_fault (interface_keys version t) t ≡ None
  table_sound e = (parts e).0

  pub rest_sound : interfaces_fault version (member key d rest) ≡ None → interfaces_fault version rest ≡ None
  rest_sound e = (parts e).1

  pub interface_read : (done : Interfaces) (name : List ℕ) (i : Interface) → name ≡ key → i ≡ interface_of version t → (done ++ (name, i) ∷ [])
      ++ interfaces_of version rest ≡ done ++ interfaces_of version (member key d rest)
  interface_read done name i e f =
      let one : (name, i) ∷ interfaces_of version rest ≡ interfaces_of version (member key d rest) = rw (members_at_table d t is, e, f) refl in
      append_assoc done ((name, i) ∷ []) (interfaces_of version rest) ∙ ap (λ l. done ++ l) one

pub rest_named : (key : List ℕ) (d : Data) (rest : Members) → are_named_tables (member key d rest) ≡ true → (is_name key ≡ true) × (is_table d ≡ true)
    × (are_named_tables rest ≡ true)
rest_named key d rest e =
    let (here, others) = and_parts (is_name key && is_table d) (are_named_tables rest) e in
    let (named, table) = and_parts (is_name key) (is_table d) here in (named, table, others)

pub interfaces_length : (version : ℕ) (entries : Members) → length (interfaces_of version entries) ≡ length (keys_of entries)
interfaces_length version no_members = refl
interfaces_length version (member key d rest) = ap suc (interfaces_length version rest)

-- names of a map's keys rise
before_all : (key : String Global) (version : ℕ) (es : List Entry) → AllByRecursion (λ k. string_cmp key k ≡ Less) (keys es)
    → code.is_before (string_bytes key) (interfaces_of version (members_view es)) ≡ true
before_all key version [] h = refl
before_all key version (e ∷ es) h = rw h.0

pub keys_rise : (version : ℕ) (es : List Entry) → IsStrictlySortedBy string_cmp (keys es) → code.is_rising (interfaces_of version (members_view es)) ≡ true
unfolding IsStrictlySortedBy
keys_rise version [] h = refl
keys_rise version (e ∷ es) h = rw (before_all e.0 version es h.0, keys_rise version es h.1) refl

-- so few interfaces whose names rise can be kept
pub are_kept : (version : ℕ) (entries : Members) (interfaces : Interfaces) → interfaces ≡ interfaces_of version entries → length (keys_of entries) ≤ 64
    → code.is_rising (interfaces_of version entries) ≡ true
    → code.are_interfaces interfaces ≡ true
are_kept version entries interfaces e few rise = rw (e, interfaces_length version entries, le-leb (length (keys_of entries)) 64 few, rise) refl

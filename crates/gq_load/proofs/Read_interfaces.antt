-- The interfaces of a document without fault: outside version 2 no service needs capabilities.
use Rattle.std.proofs.Common.{◌≡◌, ℕ, zero, suc, ◌==◌, ◌||◌, cond, Bool, true, false, List, [], ◌∷◌, Some, None, refl, ap, ◌∙◌, subst}
use Rattle.std.specs.Prelude.{codes, slice_index_or}
use Rattle.toml.specs.Data.{Data, Members, no_members, member, get_member}
use Rattle.gq_model.specs.machine.Amounts.{amount, counts_caps}
use Rattle.gq_model.specs.machine.Lists.{any_of}
use Rattle.gq_model.specs.machine.Program.{text_eq}
use Rattle.gq_model.specs.machine.Scenario.{Interface, interface_in}
use Rattle.gq_scenario.specs.Table_keys.{members_of, table_fault}
use Rattle.gq_scenario.specs.Document_tables.{interface_keys}
use Rattle.gq_scenario.specs.Document.{number_at, list_at, upgrades_of, interface_of, interfaces_of, interfaces_fault, keys_of}
use Rattle.gq_reader.proofs.Faultless_table_facts.{absent}
use Rattle.gq_reader.proofs.Table_rules_kept.{kept}
use Rattle.gq_laws.specs.Ready.{IsWithoutCaps}
use Rattle.gq_model.proofs.Small_facts.{none_some, some_same, or_first_none}

-- a key that is not there reports nothing
pub no_number : (key : List ℕ) (entries : Members) → get_member key entries ≡ None → number_at key entries ≡ 0
no_number key entries e = rw e refl

no_list : (key : List ℕ) (entries : Members) → get_member key entries ≡ None → list_at key entries ≡ []
no_list key entries e = rw e refl

-- upgrades of which no capabilities are reported have none
plain_upgrades : (bytes : List Data) (level : ℕ) → (slice_index_or (upgrades_of bytes []) level (amount 0 0)).caps ≡ 0
plain_upgrades [] level = refl
plain_upgrades (d ∷ rest) zero = refl
plain_upgrades (d ∷ rest) (suc level) = plain_upgrades rest level

module _ (version : ℕ) (one : counts_caps version ≡ false) where
  plain : (entries : Members) → table_fault (interface_keys version entries) entries ≡ None → IsWithoutCaps (interface_of version entries)
  plain entries e =
      let known = (kept (interface_keys version entries) entries e).0 in
      let need = absent (interface_keys version entries) entries (codes "need-caps") known (rw one refl) in
      let more = absent (interface_keys version entries) entries (codes "upgrade-caps") known (rw one refl) in
      record {
        need = no_number (codes "need-caps") entries need;
        upgrades = λ level. ap (λ caps. (slice_index_or (upgrades_of (list_at (codes "upgrades") entries) caps) level (amount 0 0)).caps)
            (no_list (codes "upgrade-caps") entries more) ∙ plain_upgrades (list_at (codes "upgrades") entries) level;
      }

  -- each service of such a document needs none
  pub services_plain : (entries : Members) → interfaces_fault version entries ≡ None → (service : List ℕ) (i : Interface)
      → interface_in service (interfaces_of version entries) ≡ Some i → IsWithoutCaps i
  services_plain no_members e service i found = absurd (none_some found)
  services_plain (member key d rest) e service i found =
      let p = or_first_none (table_fault (interface_keys version (members_of d)) (members_of d)) (interfaces_fault version rest) e in
      by (text_eq service key) found (plain (members_of d) p.0) (λ f. services_plain rest p.1 service i f)
    where
      by : (b : Bool) → cond b (Some (interface_of version (members_of d))) (interface_in service (interfaces_of version rest)) ≡ Some i
          → IsWithoutCaps (interface_of version (members_of d)) → (interface_in service (interfaces_of version rest) ≡ Some i → IsWithoutCaps i)
          → IsWithoutCaps i
      by true f here further = subst IsWithoutCaps (some_same f) here
      by false f here further = further f

-- a service of a name that is a key of the interfaces has one
pub declared_in : (version : ℕ) (entries : Members) (service : List ℕ) → any_of (text_eq service) (keys_of entries) ≡ true
    → (i : Interface) × (interface_in service (interfaces_of version entries) ≡ Some i)
declared_in version no_members service e = absurd (no e)
  where
    no : false ≡ true → ⊥
    no e = cc
declared_in version (member key d rest) service e = by (text_eq service key) e (λ f. declared_in version rest service f)
  where
    by : (b : Bool) → (b || any_of (text_eq service) (keys_of rest)) ≡ true
        → (any_of (text_eq service) (keys_of rest) ≡ true → (i : Interface) × (interface_in service (interfaces_of version rest) ≡ Some i))
        → (i : Interface) × (cond b (Some (interface_of version (members_of d))) (interface_in service (interfaces_of version rest)) ≡ Some i)
    by true f further = (interface_of version (members_of d), refl)
    by false f further = further f

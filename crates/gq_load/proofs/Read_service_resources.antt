-- Each service of a scenario that was read counts the resources that the scenario counts, and has at most 3 upgrades.
use Rattle.std.proofs.Common.{◌≡◌, ◌≤◌, ℕ, suc, cond, Bool, true, false, List, [], ◌∷◌, length, Some, None, refl, ap, subst, arith}
use Rattle.std.specs.Prelude.{codes}
use Rattle.toml.specs.Data.{Data, Members, no_members, member}
use Rattle.gq_model.specs.machine.Amounts.{counted_in}
use Rattle.gq_model.specs.machine.Program.{text_eq}
use Rattle.gq_model.specs.machine.Scenario.{Interface, interface_in}
use Rattle.gq_scenario.specs.Table_keys.{members_of, table_fault}
use Rattle.gq_scenario.specs.Document_tables.{interface_keys}
use Rattle.gq_scenario.specs.Document.{list_at, upgrades_of, interface_of, interfaces_of, interfaces_fault}
use Rattle.gq_reader.proofs.Interface_tables.{sound_interface}
use Rattle.gq_model.proofs.Small_facts.{none_some, some_same, or_first_none}

upgrades_count : (bytes caps : List Data) → length (upgrades_of bytes caps) ≡ length bytes
upgrades_count [] caps = refl
upgrades_count (d ∷ rest) [] = ap suc (upgrades_count rest [])
upgrades_count (d ∷ rest) (c ∷ caps) = ap suc (upgrades_count rest caps)

-- an interface that was read counts what is counted in this version, and has few upgrades
abbrev pub IsFair : ℕ → Interface → Type 0
IsFair version i = (i.counted ≡ counted_in version) × (length i.upgrades ≤ 3)

fair : (version : ℕ) (entries : Members) → table_fault (interface_keys version entries) entries ≡ None → IsFair version (interface_of version entries)
fair version entries e =
    let few = (sound_interface version entries e).few in
    let same = upgrades_count (list_at (codes "upgrades") entries) (list_at (codes "upgrade-caps") entries) in
    (refl, omega (arith, few, same))

pub services_fair : (version : ℕ) (entries : Members) → interfaces_fault version entries ≡ None → (service : List ℕ) (i : Interface)
    → interface_in service (interfaces_of version entries) ≡ Some i → IsFair version i
services_fair version no_members e service i found = absurd (none_some found)
services_fair version (member key d rest) e service i found =
    let p = or_first_none (table_fault (interface_keys version (members_of d)) (members_of d)) (interfaces_fault version rest) e in
    by (text_eq service key) found (fair version (members_of d) p.0) (λ f. services_fair version rest p.1 service i f)
  where
    by : (b : Bool) → cond b (Some (interface_of version (members_of d))) (interface_in service (interfaces_of version rest)) ≡ Some i
        → IsFair version (interface_of version (members_of d)) → (interface_in service (interfaces_of version rest) ≡ Some i → IsFair version i)
        → IsFair version i
    by true f here further = subst (IsFair version) (some_same f) here
    by false f here further = further f

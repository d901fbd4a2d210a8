-- What the table of a scenario has of a leaf.
use Rattle.std.proofs.Common.{◌≡◌, ℕ, suc, ◌+◌, ◌<◌, Bool, true, false, cond, List, [], ◌∷◌, length, get_or, map, Option, Some, None, IfSome}
use Rattle.std.proofs.Common.{refl, ap, sym, subst, ◌∙◌, arith, option_map, nat_le, ◌≤◌}
use Rattle.std.specs.Prelude.{slice_get}
use Rattle.std.proofs.lemmas.Bool.{and_parts}
use Rattle.std.proofs.lemmas.Bool.Decides.{nat_tests}
use Rattle.std.proofs.lemmas.Option.{get_or_from_slice_get, slice_get-get_or, slice_get-map, slice_get_within}
use Rattle.gq_model.specs.machine.Lists.{any_of}
use Rattle.gq_model.specs.machine.Program.{Program, text_eq}
use Rattle.gq_model.specs.machine.Routes.{numbered, server_of}
use Rattle.gq_model.specs.machine.Scenario.{Component, Interface, Interfaces, Scenario, components, interface_in, system}
use Rattle.gq_model.specs.rules.Use.{services}
use Rattle.gq_model.proofs.Small_facts.{get_within, none_some, some_same, text_is}
use Rattle.gq_program.specs.Interfaces.{are_interfaces, is_rising, place_from, place_in}
use Rattle.gq_resolve.specs.NodeTables.{IsNodeOf, interface_number, leaf_row, leaf_rows, node_rows, number_named, opened_server}
use Rattle.gq_resolve.proofs.Node_table_rows.{label_of_node, row_at}
use Rattle.gq_laws.specs.Ready.{IsReady}
use Rattle.gq_views.specs.internal.Table_leaves.{IsThere, leaf_of, no_component, served_by}

some_if : {A : Type 0} (o : Option A) (P : A → Type 0) (a : A) → o ≡ Some a → IfSome o P → P a
some_if o P a e h = subst (λ (p : Option _). IfSome p P) e h

-- SERVICES BY NUMBERS

place_is : (k : ℕ) (service : List ℕ) (interfaces : Interfaces) → place_from k service interfaces ≡ interface_number k service interfaces
place_is k service [] = refl
place_is k service (e ∷ rest) = ap (λ r. cond (text_eq service e.0) (Some k) r) (place_is (suc k) service rest)

-- where a service stands among interfaces, the first of which has the number k
record IsFound (k : ℕ) (service : List ℕ) (interfaces : Interfaces) (n : ℕ) : Type 0 where
  at : ℕ
  is : n ≡ k + at
  entry : List ℕ × Interface
  there : slice_get interfaces at ≡ Some entry
  name : service ≡ entry.0

number_found : (k : ℕ) (service : List ℕ) (interfaces : Interfaces) (n : ℕ) → interface_number k service interfaces ≡ Some n → IsFound k service interfaces n
number_found k service [] n e = absurd (none_some e)
number_found k service (d ∷ rest) n e = by (number_found (suc k) service rest n) (text_eq service d.0) refl e
  where
    by : (interface_number (suc k) service rest ≡ Some n → IsFound (suc k) service rest n) → (b : Bool) → text_eq service d.0 ≡ b
        → cond b (Some k) (interface_number (suc k) service rest) ≡ Some n → IsFound k service (d ∷ rest) n
    by later true t f = record { at = 0; is = sym (some_same f) ∙ omega arith; entry = d; there = refl; name = text_is service d.0 t }
    by later false t f =
        let r = later f in
        let is = r.is in
        record { at = suc r.at; is = omega (arith, is); entry = r.entry; there = r.there; name = r.name }

number_missing : (k : ℕ) (service : List ℕ) (interfaces : Interfaces) → interface_number k service interfaces ≡ None
    → interface_in service interfaces ≡ None
number_missing k service [] e = refl
number_missing k service (d ∷ rest) e = by (number_missing (suc k) service rest) (text_eq service d.0) e
  where
    by : (interface_number (suc k) service rest ≡ None → interface_in service rest ≡ None) → (b : Bool)
        → cond b (Some k) (interface_number (suc k) service rest) ≡ None → cond b (Some d.1) (interface_in service rest) ≡ None
    by later true f = absurd (none_some (sym f))
    by later false f = later f

-- it is the one of this number
named : (service : List ℕ) (interfaces : Interfaces) (n : ℕ) (e : List ℕ × Interface) → interface_number 0 service interfaces ≡ Some n
    → slice_get interfaces n ≡ Some e → service ≡ e.0
named service interfaces n e found there =
    let f = number_found 0 service interfaces n found in
    let at : f.at ≡ n = sym (f.is ∙ omega arith) in
    f.name ∙ ap (λ (d : List ℕ × Interface). d.0) (some_same (sym f.there ∙ (ap (slice_get interfaces) at ∙ there)))

within_number : (service : List ℕ) (interfaces : Interfaces) (n : ℕ) → interface_number 0 service interfaces ≡ Some n → n < length interfaces
within_number service interfaces n found =
    let f = number_found 0 service interfaces n found in
    let is = f.is in
    let less = slice_get_within interfaces f.at f.entry f.there in omega (arith, is, less)

pub within_place : (service : List ℕ) (interfaces : Interfaces) (n : ℕ) → place_in service interfaces ≡ Some n → n < length interfaces
within_place service interfaces n e = within_number service interfaces n (sym (place_is 0 service interfaces) ∙ e)

pub few_interfaces : (interfaces : Interfaces) → are_interfaces interfaces ≡ true → length interfaces ≤ 64
few_interfaces interfaces order =
    let p = and_parts (nat_le (length interfaces) 64) (is_rising interfaces) order in
    let first = p.0 in grind (arith, nat_tests, first)

-- A LEAF

-- that a service which is routed has an interface
abbrev pub IsDeclaredLaw : Type 0
IsDeclaredLaw =
    (s : Scenario) (x y : ℕ) (c : Component) (service : List ℕ) → IsReady s → slice_get (components s) x ≡ Some c
    → server_of (system s) c service ≡ Some y → (i : Interface) × (interface_in service s.interfaces ≡ Some i)

module _ (s : Scenario) (x : ℕ) (h : IsThere s x) where
  abbrev it : Component
  it = get_or (components s) x no_component

  there : slice_get (components s) x ≡ Some it
  there = slice_get-get_or (components s) x no_component h.within

  row : slice_get (leaf_rows s) x ≡ Some (leaf_row s (row_at s x h.within).place it)
  row = let r = row_at s x h.within in r.row ∙ ap (λ c. Some (leaf_row s r.place c)) (some_same (sym r.there ∙ there))

  pub label_is : (n : ℕ) (label : List ℕ) → IfSome (slice_get (components s) x) (λ c. IsNodeOf (node_rows s) n c)
      → IfSome (slice_get (node_rows s) n) (λ r. label ≡ r.label) → label ≡ it.label
  label_is n label node is =
      label_of_node (node_rows s) n it label (some_if (slice_get (components s) x) (λ c. IsNodeOf (node_rows s) n c) it there node) is

  pub program_is : (programs : List Program) (p : Program) → programs ≡ map (λ c. c.node.program) (components s) → p ≡ get_or programs x p
      → p ≡ it.node.program
  program_is programs p all is =
      is ∙ ap (λ l. get_or l x p) all
      ∙ get_or_from_slice_get (map (λ (c : Component). c.node.program) (components s)) x it.node.program p
      (slice_get-map (λ (c : Component). c.node.program) (components s) x ∙ ap (option_map (λ (c : Component). c.node.program)) there)

  -- the leaf that it starts after
  pub after_is : (o : Option ℕ) → IfSome (slice_get (leaf_rows s) x) (λ r. o ≡ r.after)
      → o ≡ number_named it.node.after (λ name. numbered 0 name (components s))
  after_is o is = some_if (slice_get (leaf_rows s) x) (λ r. o ≡ r.after) (leaf_row s (row_at s x h.within).place it) row is

  -- the service that it provides

  abbrev number_of : Option (List ℕ) → Option ℕ
  number_of o = number_named o (λ name. interface_number 0 name s.interfaces)

  service_is : (o : Option ℕ) → IfSome (slice_get (leaf_rows s) x) (λ r. o ≡ r.service) → o ≡ number_of it.node.provides
  service_is o is = some_if (slice_get (leaf_rows s) x) (λ r. o ≡ r.service) (leaf_row s (row_at s x h.within).place it) row is

  pub provides_nothing : IfSome (slice_get (leaf_rows s) x) (λ r. None ≡ r.service) → None ≡ it.node.provides
  provides_nothing is = by it.node.provides refl (service_is None is)
    where
      by : (o : Option (List ℕ)) → it.node.provides ≡ o → None ≡ number_of o → None ≡ it.node.provides
      by None e f = sym e
      by (Some service) e f =
          let i = h.ready.read.declared x it service there e in
          absurd (none_some (sym (number_missing 0 service s.interfaces (sym f)) ∙ i.1))

  pub provides_named : (n : ℕ) (e : List ℕ × Interface) → IfSome (slice_get (leaf_rows s) x) (λ r. Some n ≡ r.service) → slice_get s.interfaces n ≡ Some e
      → Some e.0 ≡ it.node.provides
  provides_named n e is at = by it.node.provides refl (service_is (Some n) is)
    where
      by : (o : Option (List ℕ)) → it.node.provides ≡ o → Some n ≡ number_of o → Some e.0 ≡ it.node.provides
      by None f g = absurd (none_some (sym g))
      by (Some service) f g = ap Some (sym (named service s.interfaces n e (sym g) at)) ∙ sym f

  pub within_service : (n : ℕ) → IfSome (slice_get (leaf_rows s) x) (λ r. Some n ≡ r.service) → n < length s.interfaces
  within_service n is = by it.node.provides (service_is (Some n) is)
    where
      by : (o : Option (List ℕ)) → Some n ≡ number_of o → n < length s.interfaces
      by None g = absurd (none_some (sym g))
      by (Some service) g = within_number service s.interfaces n (sym g)

  -- the leaves that serve its sessions

  served_row : (n : ℕ) (server : Option ℕ) (e : List ℕ × Interface) → slice_get s.interfaces n ≡ Some e
      → IfSome (slice_get (leaf_rows s) x) (λ r. IfSome (slice_get r.servers n) (λ found. server ≡ found)) → server ≡ opened_server (system s) it e.0
  served_row n server e at is =
      let r = leaf_row s (row_at s x h.within).place it in
      some_if (slice_get r.servers n) (λ found. server ≡ found) (opened_server (system s) it e.0)
      (slice_get-map (λ (d : List ℕ × Interface). opened_server (system s) it d.0) s.interfaces n
      ∙ ap (option_map (λ (d : List ℕ × Interface). opened_server (system s) it d.0)) at)
      (some_if (slice_get (leaf_rows s) x) (λ r. IfSome (slice_get r.servers n) (λ found. server ≡ found)) r row is)

  pub served_there : (n : ℕ) (service : List ℕ) (server : Option ℕ) → place_in service s.interfaces ≡ Some n
      → IfSome (slice_get (leaf_rows s) x) (λ r. IfSome (slice_get r.servers n) (λ found. server ≡ found)) → server ≡ served_by (leaf_of s x) service
  served_there n service server place is =
      let number = sym (place_is 0 service s.interfaces) ∙ place in
      let e = get_within s.interfaces n (within_number service s.interfaces n number) in
      served_row n server e.0 e.1 is ∙ ap (opened_server (system s) it) (sym (named service s.interfaces n e.0 number e.1))

  pub served_nowhere : IsDeclaredLaw → (service : List ℕ) → place_in service s.interfaces ≡ None → None ≡ served_by (leaf_of s x) service
  served_nowhere law service place =
      let missing = number_missing 0 service s.interfaces (sym (place_is 0 service s.interfaces) ∙ place) in
      not_opened (any_of (text_eq service) (services it)) (server_of (system s) it service) (unserved (server_of (system s) it service) refl missing)
    where
      unserved : (o : Option ℕ) → server_of (system s) it service ≡ o → interface_in service s.interfaces ≡ None → None ≡ o
      unserved None e none = refl
      unserved (Some y) e none = let i = law s x y it service h.ready there e in absurd (none_some (sym none ∙ i.1))

      not_opened : (b : Bool) (o : Option ℕ) → None ≡ o → None ≡ cond b o None
      not_opened true o e = e
      not_opened false o e = refl

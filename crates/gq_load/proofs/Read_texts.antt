-- What holds of a scenario that a text is read as, and of one that is loaded.
use Rattle.std.proofs.Common.{◌≡◌, ℕ, List, [], ◌∷◌, Option, Some, None, Ok, Err, refl, ap, subst}
use Rattle.std.specs.Prelude.{Result, codes}
use Rattle.toml.specs.Data.{Members, get_member}
use Rattle.gq_model.specs.machine.Scenario.{Scenario, components}
use Rattle.gq_model.specs.rules.Accept.{Refusal, not_resolved}
use Rattle.gq_model.specs.rules.Resolve.{Unresolved, unresolved}
use Rattle.gq_scenario.specs.Table_keys.{DocumentFault, table_fault}
use Rattle.gq_scenario.specs.Document_tables.{version_of, top_keys}
use Rattle.gq_scenario.specs.Document.{table_of, list_at, described, keys_of, interfaces_fault, routes_fault, walk_fault, names_of, name_twice, counts_fault}
use Rattle.gq_scenario.specs.Document.{document_fault}
use Rattle.gq_scenario.specs.Top_table.{ReadFault, Bad_document, described_or, read_from, document_in, scenario_in}
use Rattle.gq_load.specs.Load.{LoadRefusal, Unread, sources_fault, refused, scenario_fault, loaded_or, loaded_from, loaded}
use Rattle.gq_load.specs.Unverified.{unverified_fault, unverified_from, unverified}
use Rattle.gq_laws.specs.Names.{NamesDiffer}
use Rattle.gq_laws.proofs.verified_programs.Sound_systems.{is_resolved}
use Rattle.gq_laws.specs.Ready.{IsRead, IsReady}
use Rattle.gq_model.proofs.Small_facts.{or_first_none}
use Rattle.gq_scenario.proofs.Distinct_leaf_names.{names_differ}
use Rattle.gq_load.proofs.Read_interfaces.{services_plain, declared_in}
use Rattle.gq_load.proofs.Read_nodes.{IsDeclared, nodes_read, each_component}
use Rattle.gq_load.proofs.Sound_texts.{same_scenario, not_ok, loaded_sound}

-- DOCUMENTS

-- what a top table without fault describes
described_read : (top : Members) → document_fault top ≡ None → IsRead (described top)
described_read top e =
    let version = version_of top in
    let interfaces = table_of (get_member (codes "interface") top) in
    let a = or_first_none (walk_fault top) _ e in
    let w = or_first_none (table_fault (top_keys version) top) _ a.0 in
    let i = or_first_none (interfaces_fault version interfaces) _ w.1 in
    let r = or_first_none (routes_fault (codes "default-route") top) _ i.1 in
    let nodes = nodes_read version (keys_of interfaces) 4 (list_at (codes "start") top) r.1 in
    record {
      uncounted = λ one. record { nodes = nodes.plain one; interfaces = services_plain version one interfaces i.0 };
      declared = λ x c service there provides. declared_in version interfaces service
          (each_component (IsDeclared (keys_of interfaces)) (described top) nodes.declared x c there service provides);
    }

described_differ : (top : Members) → document_fault top ≡ None → NamesDiffer (described top)
described_differ top e =
    let s = described top in
    let a = or_first_none (walk_fault top) _ e in
    let b = or_first_none (counts_fault s) (name_twice (codes "init" ∷ []) (names_of s.nodes)) a.1 in
    names_differ s (codes "init" ∷ []) b.1

-- TEXTS

-- what holds of each scenario that a top table without fault describes holds of each that is read
read_by : (P : Scenario → Type 0) → ((top : Members) → document_fault top ≡ None → P (described top)) → (text : List ℕ) (s : Scenario)
    → scenario_in text ≡ Ok s → P s
read_by P h text s e = from (document_in text) e
  where
    found : (top : Members) (o : Option DocumentFault) → document_fault top ≡ o → described_or top o ≡ Ok s → P s
    found top None whole f = subst P (same_scenario (described top) s f) (h top whole)
    found top (Some fault) whole f = absurd (not_ok (Bad_document fault) s f)

    from : (r : Result Members ReadFault) → read_from document_fault r ≡ Ok s → P s
    from (Ok top) f = found top (document_fault top) refl f
    from (Err why) f = absurd (not_ok why s f)

pub text_read : (text : List ℕ) (s : Scenario) → scenario_in text ≡ Ok s → IsRead s
text_read = read_by IsRead described_read

pub text_differ : (text : List ℕ) (s : Scenario) → scenario_in text ≡ Ok s → NamesDiffer s
text_differ = read_by NamesDiffer described_differ

-- a scenario that is loaded was read
was_read : (text : List ℕ) (s : Scenario) → loaded text ≡ Ok s → scenario_in text ≡ Ok s
was_read text s e = from (scenario_in text) e
  where
    last : (t : Scenario) (o : Option LoadRefusal) → loaded_or t o ≡ Ok s → t ≡ s
    last t None f = same_scenario t s f
    last t (Some fault) f = absurd (not_ok fault s f)

    from : (r : Result Scenario ReadFault) → loaded_from r ≡ Ok s → r ≡ Ok s
    from (Ok t) f = ap Ok (last t (scenario_fault t) f)
    from (Err why) f = absurd (not_ok (Unread why) s f)

pub loaded_read : (text : List ℕ) (s : Scenario) → loaded text ≡ Ok s → IsRead s
loaded_read text s e = text_read text s (was_read text s e)

pub loaded_ready : (text : List ℕ) (s : Scenario) → loaded text ≡ Ok s → IsReady s
loaded_ready text s e =
    let sound = loaded_sound text s e in
    record { read = loaded_read text s e; resolved = record { differ = sound.formed.differ; fits = is_resolved s sound.accepted } }

-- WITHOUT A VERDICT

no_refusal : (o : Option Refusal) → refused o ≡ None → o ≡ None
no_refusal None e = refl
no_refusal (Some why) e = cc

resolves : (o : Option Unresolved) → not_resolved o ≡ None → o ≡ None
resolves None e = refl
resolves (Some why) e = cc

fits_of : (s : Scenario) → unverified_fault s ≡ None → unresolved s ≡ None
fits_of s e =
    resolves (unresolved s)
    (no_refusal (not_resolved (unresolved s)) (or_first_none (sources_fault (components s)) (refused (not_resolved (unresolved s))) e).1)

-- a scenario that is read and resolved can be run
pub unverified_ready : (text : List ℕ) (s : Scenario) → unverified text ≡ Ok s → IsReady s
unverified_ready text s e = from (scenario_in text) refl e
  where
    last : (t : Scenario) (o : Option LoadRefusal) → scenario_in text ≡ Ok t → unverified_fault t ≡ o → loaded_or t o ≡ Ok s → IsReady s
    last t None r whole f =
        subst IsReady (same_scenario t s f)
        (record { read = text_read text t r; resolved = record { differ = text_differ text t r; fits = fits_of t whole } })
    last t (Some fault) r whole f = absurd (not_ok fault s f)

    from : (r : Result Scenario ReadFault) → scenario_in text ≡ r → unverified_from r ≡ Ok s → IsReady s
    from (Ok t) r f = last t (unverified_fault t) r refl f
    from (Err why) r f = absurd (not_ok (Unread why) s f)

-- A scenario that a text is loaded as is sound.
use Rattle.std.proofs.Common.{◌≡◌, ℕ, List, [], ◌∷◌, Option, Some, None, Ok, Err, refl, sym, subst}
use Rattle.std.specs.Prelude.{Result, codes}
use Rattle.toml.specs.Data.{Members, get_member}
use Rattle.gq_model.specs.machine.Scenario.{Scenario, components}
use Rattle.gq_model.specs.rules.Accept.{Refusal, refusal}
use Rattle.gq_scenario.specs.Table_keys.{DocumentFault, table_fault}
use Rattle.gq_scenario.specs.Document_tables.{top_keys}
use Rattle.gq_scenario.specs.Document.{table_of, list_at, described, interfaces_fault, walk_fault, names_of, name_twice, counts_fault, document_fault}
use Rattle.gq_scenario.specs.Document_tables.{version_of}
use Rattle.gq_scenario.specs.Top_table.{ReadFault, Bad_document, described_or, read_from, document_in}
use Rattle.gq_load.specs.Load.{LoadRefusal, Unread, sources_fault, refused, scenario_fault, loaded_or, loaded_from, loaded}
use Rattle.gq_laws.specs.Sound_scenarios.{IsSound}
use Rattle.gq_model.proofs.Small_facts.{none_some, or_first_none}
use Rattle.gq_scenario.proofs.Distinct_leaf_names.{names_differ}
use Rattle.gq_scenario.proofs.Preorder_leaves.{component_signals}
use Rattle.gq_reader.proofs.Faultless_document_parts.{described_signals}
use Rattle.gq_load.proofs.Sound_programs.{nodes_given, programs_are}
use Rattle.gq_load.proofs.Read_service_resources.{services_fair}

pub same_scenario : {F : Type 0} (s t : Scenario) → ◌≡◌ {A = Result Scenario F} (Ok s) (Ok t) → s ≡ t
same_scenario s t e = cc

pub not_ok : {F : Type 0} (f : F) (s : Scenario) → ◌≡◌ {A = Result Scenario F} (Err f) (Ok s) → ⊥
not_ok f s e = cc

no_refusal : (r : Option Refusal) → refused r ≡ None → r ≡ None
no_refusal None e = refl
no_refusal (Some why) e = absurd (none_some (sym e))

-- a top table without fault describes a sound scenario, if that is accepted and its texts and codes are programs
described_sound : (top : Members) → document_fault top ≡ None → sources_fault (components (described top)) ≡ None → refusal (described top) ≡ None
    → IsSound (described top)
described_sound top e sources accepted =
    let s = described top in
    let version = version_of top in
    let interfaces = table_of (get_member (codes "interface") top) in
    let a = or_first_none (walk_fault top) _ e in
    let b = or_first_none (counts_fault s) (name_twice (codes "init" ∷ []) (names_of s.nodes)) a.1 in
    let w = or_first_none (table_fault (top_keys version) top) _ a.0 in
    let i = or_first_none (interfaces_fault version interfaces) _ w.1 in
    record {
      formed = record {
        differ = names_differ s (codes "init" ∷ []) b.1;
        programs = programs_are s (nodes_given 4 (list_at (codes "start") top)) sources;
        counted = λ service j found. (services_fair version interfaces i.0 service j found).0;
        upgrades = λ service j found. (services_fair version interfaces i.0 service j found).1;
        signals = component_signals s (described_signals top a.0);
      };
      accepted = accepted;
    }

pub loaded_sound : (text : List ℕ) (s : Scenario) → loaded text ≡ Ok s → IsSound s
loaded_sound text s e = from (document_in text) e
  where
    last : (top : Members) → document_fault top ≡ None → (o : Option LoadRefusal) → scenario_fault (described top) ≡ o → loaded_or (described top) o ≡ Ok s
        → IsSound s
    last top whole None none f =
        let p = or_first_none (sources_fault (components (described top))) (refused (refusal (described top))) none in
        subst IsSound (same_scenario (described top) s f) (described_sound top whole p.0 (no_refusal (refusal (described top)) p.1))
    last top whole (Some fault) none f = absurd (not_ok fault s f)

    found : (top : Members) (o : Option DocumentFault) → document_fault top ≡ o → loaded_from (described_or top o) ≡ Ok s → IsSound s
    found top None whole f = last top whole (scenario_fault (described top)) refl f
    found top (Some fault) whole f = absurd (not_ok (Unread (Bad_document fault)) s f)

    from : (r : Result Members ReadFault) → loaded_from (read_from document_fault r) ≡ Ok s → IsSound s
    from (Ok top) f = found top (document_fault top) refl f
    from (Err why) f = absurd (not_ok (Unread why) s f)

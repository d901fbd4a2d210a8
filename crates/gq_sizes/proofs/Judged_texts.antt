-- Of a text: the scenario that is read is as the laws of least quantities ask it to be.
use Rattle.std.proofs.Common.{◌≡◌, ℕ, List, [], ◌∷◌, Option, Some, None, Ok, Err, refl, ap, ap₂, sym, ◌∙◌, subst}
use Rattle.std.specs.Prelude.{Result, codes}
use Rattle.gq_model.specs.machine.Lists.{or_first}
use Rattle.gq_model.specs.machine.Scenario.{Component, LeafNode, Scenario, components}
use Rattle.gq_model.proofs.Small_facts.{or_first_none}
use Rattle.gq_scenario.specs.Table_keys.{DocumentFault}
use Rattle.gq_scenario.specs.Document_tables.{version_of}
use Rattle.gq_scenario.specs.Document.{list_at, described, walk_fault, names_of, name_twice, counts_fault, document_fault}
use Rattle.gq_scenario.specs.Top_table.{ReadFault, Bad_document, described_or, read_from, document_in, scenario_in}
use Rattle.gq_scenario.specs.Without_quantities.{unsized}
use Rattle.gq_scenario.proofs.Distinct_leaf_names.{names_differ}
use Rattle.gq_scenario.proofs.Preorder_leaves.{component_signals}
use Rattle.gq_reader.proofs.Faultless_document_parts.{described_signals, walked}
use Rattle.gq_load.specs.Load.{LoadRefusal, Unread, source_fault, sources_fault, refused, scenario_fault, loaded_or, loaded_from, loaded}
use Rattle.gq_load.specs.Unsized_judgement.{unsized_refusal}
use Rattle.gq_load.proofs.Read_service_resources.{services_fair}
use Rattle.gq_load.proofs.Sound_programs.{nodes_given, programs_are}
use Rattle.gq_load.proofs.Sound_texts.{loaded_sound, not_ok, same_scenario}
use Rattle.gq_laws.specs.Sound_scenarios.{IsWellFormed}
use Rattle.gq_sizes.specs.Unsized_equality.{AllComponents}
use Rattle.gq_sizes.specs.Endless.{HaveEnds}
use Rattle.gq_sizes.specs.Judged_scenario.{fault_without, judged_without, judged_without_from}
use Rattle.gq_sizes.specs.Least.{HasLeast, HasWholePages, IsAcceptedSized, NoneShort}
use Rattle.gq_sizes.specs.Size.{refusal_without}
use Rattle.gq_sizes.proofs.Sized_scenario_accepted.{is_accepted_sized}
use Rattle.gq_sizes.proofs.Settled_capability_needs.{settled}
use Rattle.gq_sizes.proofs.Freed_scenarios.{components_both, nodes_free}
use Rattle.gq_sizes.proofs.Accepted_sizes_suffice.{has_least, nodes_self, self}
use Rattle.gq_sizes.proofs.Judged_scenarios.{is_judged}
use Rattle.gq_sizes.proofs.Sized_texts.{refused_none}

-- WHAT A TOP TABLE DESCRIBES

described_formed : (top : _) → document_fault top ≡ None → sources_fault (components (described top)) ≡ None → IsWellFormed (described top)
described_formed top e sources =
    let s = described top in
    let a = or_first_none (walk_fault top) _ e in
    let b = or_first_none (counts_fault s) (name_twice (codes "init" ∷ []) (names_of s.nodes)) a.1 in
    let known = (walked top a.0).interfaces in
    record {
      differ = names_differ s (codes "init" ∷ []) b.1;
      programs = programs_are s (nodes_given 4 (list_at (codes "start") top)) sources;
      counted = λ service j found. (services_fair (version_of top) _ known service j found).0;
      upgrades = λ service j found. (services_fair (version_of top) _ known service j found).1;
      signals = component_signals s (described_signals top a.0);
    }

described_pages : (top : _) → document_fault top ≡ None → HasWholePages (described top)
described_pages top e =
    let known = (walked top (or_first_none (walk_fault top) _ e).0).sound in
    record {
      least = known.memory.least;
      whole = known.memory.whole;
      caps = known.caps;
    }

-- what holds of each scenario that a top table without fault describes holds of each that is read
read_by : (P : Scenario → Type 0) → ((top : _) → document_fault top ≡ None → P (described top)) → (text : List ℕ) (s : Scenario)
    → scenario_in text ≡ Ok s → P s
read_by P h text s e = from (document_in text) e
  where
    found : (top : _) (o : Option DocumentFault) → document_fault top ≡ o → described_or top o ≡ Ok s → P s
    found top None whole f = subst P (same_scenario (described top) s f) (h top whole)
    found top (Some fault) whole f = absurd (not_ok (Bad_document fault) s f)

    from : (r : _) → read_from document_fault r ≡ Ok s → P s
    from (Ok top) f = found top (document_fault top) refl f
    from (Err why) f = absurd (not_ok why s f)

-- SOURCES DO NOT DEPEND ON QUANTITIES

sources_so : (cs ds : List Component) → AllComponents cs ds → sources_fault cs ≡ sources_fault ds
sources_so [] [] h = refl
sources_so [] (d ∷ ds) h = absurd h
sources_so (c ∷ cs) [] h = absurd h
sources_so (c ∷ cs) (d ∷ ds) h =
    let here : source_fault c.node.name c.node.source ≡ source_fault d.node.name d.node.source =
    ap (λ (n : LeafNode). source_fault n.name n.source) (sym h.0.node) in
    ap₂ or_first here (sources_so cs ds h.1)

sources_free : (s : Scenario) → sources_fault (components s) ≡ sources_fault (components (unsized s))
sources_free s = sources_so (components s) (components (unsized s)) (components_both s (unsized s) refl (nodes_free s.nodes s.nodes (nodes_self s.nodes)))

-- TEXTS THAT ARE JUDGED WITHOUT QUANTITIES

ok_or : (s t : Scenario) (o : Option LoadRefusal) → loaded_or t o ≡ Ok s → (t ≡ s) × (o ≡ None)
ok_or s t None e = (same_scenario t s e, refl)
ok_or s t (Some fault) e = absurd (not_ok fault s e)

module _ (text : List ℕ) (s : Scenario) (judged : judged_without text ≡ Ok s) where
  was_read : (scenario_in text ≡ Ok s) × (fault_without s ≡ None)
  was_read = from (scenario_in text) judged
    where
      from : (r : Result Scenario ReadFault) → judged_without_from r ≡ Ok s → (r ≡ Ok s) × (fault_without s ≡ None)
      from (Ok t) f =
          let p = ok_or s t (fault_without t) f in (ap Ok p.0, subst (λ u. fault_without u ≡ None) p.0 p.1)
      from (Err why) f = absurd (not_ok (Unread why) s f)

  parts : (sources_fault (components (unsized s)) ≡ None) × (refused (unsized_refusal (unsized s)) ≡ None)
  parts = or_first_none (sources_fault (components (unsized s))) (refused (unsized_refusal (unsized s))) was_read.1

  pub judged_formed : IsWellFormed s
  judged_formed =
      read_by (λ t. sources_fault (components t) ≡ None → IsWellFormed t) described_formed text s was_read.0 (sources_free s ∙ parts.0)

  pub judged_passes : refusal_without s ≡ None
  judged_passes = refused_none (refusal_without s) parts.1

  pub judged_sized : NoneShort s → HaveEnds s → IsAcceptedSized s
  judged_sized quiet ends = is_accepted_sized s judged_formed (settled s ends) judged_passes quiet

-- TEXTS THAT ARE ACCEPTED

module _ (text : List ℕ) (s : Scenario) (accepted : loaded text ≡ Ok s) where
  read_so : (scenario_in text ≡ Ok s) × (scenario_fault s ≡ None)
  read_so = from (scenario_in text) accepted
    where
      from : (r : Result Scenario ReadFault) → loaded_from r ≡ Ok s → (r ≡ Ok s) × (scenario_fault s ≡ None)
      from (Ok t) f =
          let p = ok_or s t (scenario_fault t) f in (ap Ok p.0, subst (λ u. scenario_fault u ≡ None) p.0 p.1)
      from (Err why) f = absurd (not_ok (Unread why) s f)

  pub accepted_least : HasLeast s
  accepted_least = has_least s (loaded_sound text s accepted) (read_by HasWholePages described_pages text s read_so.0)

  pub accepted_judged : judged_without text ≡ Ok s
  accepted_judged =
      let sound = loaded_sound text s accepted in
      let sources = sym (sources_free s) ∙ (or_first_none (sources_fault (components s)) _ read_so.1).0 in
      let refusal : refusal_without s ≡ None = is_judged s s sound (self s) in
      ap judged_without_from read_so.0 ∙ (λ j. loaded_or s (or_first (sources j) (refused (refusal j))))

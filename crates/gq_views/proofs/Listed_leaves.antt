-- What is written of a leaf is assembled as its program.
use Rattle.std.proofs.Common.{◌≡◌, ◌∙◌, ℕ, Bool, true, false, cond, List, [], ◌∷◌, map, Option, Some, None, Ok, Err, ap, refl, sym, subst}
use Rattle.std.specs.Prelude.{Result, codes}
use Rattle.toml.specs.Data.{Members}
use Rattle.gq_model.proofs.Small_facts.{none_some, some_none, some_same}
use Rattle.gq_model.specs.declared.fault.CodeFault.{CodeFault}
use Rattle.gq_model.specs.declared.fault.TextFault.{TextFault}
use Rattle.gq_model.specs.machine.Lists.{or_first}
use Rattle.gq_model.specs.machine.Program.{Program, text_eq}
use Rattle.gq_model.specs.machine.Scenario.{Component, End, LeafNode, Leaf_node, Scenario, Source, As_text, As_code, components}
use Rattle.gq_model.specs.texts.Code.{IsProgram}
use Rattle.gq_model.specs.texts.Decode.{decoded}
use Rattle.gq_model.specs.texts.Sources.{program_from, program_or_none}
use Rattle.gq_model.specs.texts.Text.{assembled}
use Rattle.gq_scenario.specs.Document.{described, document_fault, list_at}
use Rattle.gq_scenario.specs.Table_keys.{DocumentFault}
use Rattle.gq_scenario.specs.Top_table.{ReadFault, described_or, document_in, read_from, scenario_in}
use Rattle.gq_scenario.specs.Sizes.{leaves_in}
use Rattle.gq_scenario.proofs.Preorder_leaves.{components-leaves_in}
use Rattle.gq_laws.specs.Shapes.{Each}
use Rattle.gq_load.specs.Load.{LoadRefusal, code_fault, source_fault, text_fault}
use Rattle.gq_load.specs.Named.{leaf_named}
use Rattle.gq_load.proofs.Sound_programs.{IsGiven, nodes_given, programs_are}
use Rattle.gq_load.proofs.Sound_texts.{not_ok, same_scenario}
use Rattle.gq_reports.specs.Whole.{Written}
use Rattle.gq_views.specs.Assembled_listing.{IsGivenBy, ListsNumbers, ListsProgram}
use Rattle.gq_views.specs.declared.margin.Margin.TheVariants.{Plain, Numbered}
use Rattle.gq_views.specs.Listing.{listing}
use Rattle.gq_views.specs.Views_written.{list_from, list_written, program_text, text_of_leaf}
use Rattle.gq_views.proofs.Listed_printed.{listed}
use Rattle.gq_views.proofs.Numbered_rows.{numbers_listing}
use Rattle.gq_views.specs.Numbered.{numbered_listing}

not_written : {A : Type 0} (why text : List ℕ) → ◌≡◌ {A = Written} (Err why) (Ok text) → A
not_written why text e = absurd cc

same_text : (a b : List ℕ) → ◌≡◌ {A = Written} (Ok a) (Ok b) → a ≡ b
same_text a b e = cc

-- LEAVES

-- all leaves of a scenario that was read have the programs that they are given
all_given : (text : List ℕ) (s : Scenario) → scenario_in text ≡ Ok s → Each IsGiven (leaves_in s.nodes)
all_given text s e = from (document_in text) e
  where
    found : (top : Members) (o : Option DocumentFault) → described_or top o ≡ Ok s → Each IsGiven (leaves_in s.nodes)
    found top None f =
        subst (λ (s : Scenario). Each IsGiven (leaves_in s.nodes)) (same_scenario (described top) s f) (nodes_given 4 (list_at (codes "start") top))
    found top (Some fault) f = absurd (not_ok _ s f)

    from : (r : Result Members ReadFault) → read_from document_fault r ≡ Ok s → Each IsGiven (leaves_in s.nodes)
    from (Ok top) f = found top (document_fault top) f
    from (Err why) f = absurd (not_ok why s f)

-- so has the one of a name
named_given : (name : List ℕ) (cs : List Component) (node : LeafNode) → Each IsGiven (map (λ (c : Component). c.node) cs) → leaf_named name cs ≡ Some node
    → IsGiven node
named_given name [] node h e = absurd (none_some e)
named_given name (c ∷ rest) node h e = by (text_eq name c.node.name) e (named_given name rest node h.1)
  where
    by : (b : Bool) → cond b (Some c.node) (leaf_named name rest) ≡ Some node → (leaf_named name rest ≡ Some node → IsGiven node) → IsGiven node
    by true f later = subst IsGiven (some_same f) h.0
    by false f later = later f

-- PROGRAMS

-- the program of a leaf whose text or code has no fault is a program: it is one of the scenario that has this leaf alone
is_program : (s : Scenario) (node : LeafNode) → IsGiven node → source_fault node.name node.source ≡ None → IsProgram node.program
is_program s node given e =
    let alone : Scenario = record s { nodes = Leaf_node node End } in
    programs_are alone (given, tt) (ap (λ o. or_first o None) e) 0 _ refl

given_by : (node : LeafNode) → node.program ≡ program_from node.source → source_fault node.name node.source ≡ None → IsGivenBy node.source node.program
given_by node same e = by node.source same e
  where
    of_text : (text : List ℕ) (r : Result Program (TextFault × ℕ)) → assembled text ≡ r → text_fault node.name r ≡ None → node.program ≡ program_or_none r
        → assembled text ≡ Ok node.program
    of_text text (Ok p) is f g = is ∙ ap Ok (sym g)
    of_text text (Err fault) is f g = absurd (some_none f)

    of_code : (code : List ℕ) (r : Result Program CodeFault) → decoded code ≡ r → code_fault node.name r ≡ None → node.program ≡ program_or_none r
        → decoded code ≡ Ok node.program
    of_code code (Ok p) is f g = is ∙ ap Ok (sym g)
    of_code code (Err fault) is f g = absurd (some_none f)

    by : (source : Source) → node.program ≡ program_from source → source_fault node.name source ≡ None → IsGivenBy source node.program
    by (As_text text) g f = of_text text (assembled text) refl f g
    by (As_code code) g f = of_code code (decoded code) refl f g

-- TEXTS

pub lists_program : (scenario name text : List ℕ) → list_written Plain scenario name ≡ Ok text → ListsProgram scenario name text
lists_program scenario name text e = from (scenario_in scenario) refl e
  where
    of_leaf : (s : Scenario) → scenario_in scenario ≡ Ok s → (node : LeafNode) → leaf_named name (components s) ≡ Some node → (o : Option LoadRefusal)
        → source_fault node.name node.source ≡ o → program_text Plain node.program o ≡ Ok text → ListsProgram scenario name text
    of_leaf s reads node named (Some fault) sound f = not_written _ text f
    of_leaf s reads node named None sound f =
        let given = named_given name (components s) node
        (subst (Each IsGiven) (sym (components-leaves_in s)) (all_given scenario s reads)) named in
        record {
          read = s;
          reads = reads;
          leaf = node;
          named = named;
          given = given_by node given.0 sound;
          back = ap assembled (sym (same_text (listing node.program) text f)) ∙ listed node.program (is_program s node given sound);
        }

    of : (s : Scenario) → scenario_in scenario ≡ Ok s → (o : Option LeafNode) → leaf_named name (components s) ≡ o → text_of_leaf Plain name o ≡ Ok text
        → ListsProgram scenario name text
    of s reads None named f = not_written _ text f
    of s reads (Some node) named f = of_leaf s reads node named (source_fault node.name node.source) refl f

    from : (r : Result Scenario ReadFault) → scenario_in scenario ≡ r → list_from Plain r name ≡ Ok text → ListsProgram scenario name text
    from (Err fault) reads f = not_written _ text f
    from (Ok s) reads f = of s reads (leaf_named name (components s)) refl f

pub lists_numbers : (scenario name text : List ℕ) → list_written Numbered scenario name ≡ Ok text → ListsNumbers scenario name text
lists_numbers scenario name text e = from (scenario_in scenario) refl e
  where
    of_leaf : (node : LeafNode) → (o : Option LoadRefusal) → program_text Numbered node.program o ≡ Ok text
        → list_written Plain scenario name ≡ program_text Plain node.program o → ListsNumbers scenario name text
    of_leaf node (Some fault) f plain = not_written _ text f
    of_leaf node None f plain = record {
      program = node.program;
      plain = plain;
      numbered = sym (same_text (numbered_listing node.program) text f);
      lines = numbers_listing node.program;
    }

    of : (o : Option LeafNode) → text_of_leaf Numbered name o ≡ Ok text → list_written Plain scenario name ≡ text_of_leaf Plain name o
        → ListsNumbers scenario name text
    of None f plain = not_written _ text f
    of (Some node) f plain = of_leaf node (source_fault node.name node.source) f plain

    from : (r : Result Scenario ReadFault) → scenario_in scenario ≡ r → list_from Numbered r name ≡ Ok text → ListsNumbers scenario name text
    from (Err fault) reads f = not_written _ text f
    from (Ok s) reads f = of (leaf_named name (components s)) f (ap (λ q. list_from Plain q name) reads)

-- The programs of a scenario that was read are what their texts and codes give, so where none of these is at fault they are programs.
use Rattle.std.proofs.Common.{◌≡◌, ◌≤◌, ℕ, zero, suc, ◌++◌, ◌+◌, ◌*◌, ◌-◌, cond, Bool, true, false, nat_le, List, [], ◌∷◌, map, Option, Some, None, Ok, Err}
use Rattle.std.proofs.Common.{refl, ap, sym, ◌∙◌, subst, arith}
use Rattle.std.specs.Prelude.{slice_get, Result, codes}
use Rattle.std.proofs.lemmas.Bool.{le-leb, and_from}
use Rattle.std.proofs.lemmas.Bool.Decides.{nat_tests}
use Rattle.toml.specs.Data.{Data, Members}
use Rattle.gq_model.specs.machine.Lists.{all_of, between}
use Rattle.gq_model.specs.declared.fault.TextFault.{TextFault}
use Rattle.gq_model.specs.declared.fault.CodeFault.{CodeFault}
use Rattle.gq_model.specs.texts.Letters.{is_digit}
use Rattle.gq_model.specs.machine.Program.{Program}
use Rattle.gq_model.specs.texts.Code.{IsProgram}
use Rattle.gq_model.specs.texts.Text.{assembled}
use Rattle.gq_model.specs.texts.Decode.{decoded}
use Rattle.gq_model.specs.texts.Sources.{program_or_none, program_from}
use Rattle.gq_model.specs.machine.Scenario.{Source, As_text, As_code, LeafNode, Nodes, Leaf_node, Init_node, Scenario, Component, components}
use Rattle.gq_model.proofs.Assembled_programs.{assembled_is}
use Rattle.gq_model.proofs.Decoded_programs.{decoded_is}
use Rattle.gq_scenario.specs.Table_keys.{hex_value, byte_before, unhex, unhex_of, members_of}
use Rattle.gq_scenario.specs.Document.{list_at, text_at, source_from, code_in, source_in, leaf_of, is_init, init_of, nodes_by, node_onto}
use Rattle.gq_scenario.specs.Sizes.{leaves_in}
use Rattle.gq_scenario.proofs.Preorder_leaves.{components-leaves_in}
use Rattle.gq_load.specs.Load.{text_fault, code_fault, source_fault, sources_fault}
use Rattle.gq_laws.specs.Shapes.{Each}
use Rattle.gq_model.proofs.Small_facts.{none_some, some_same, or_first_none}

-- BYTES

-- a digit has four bits
hex_small : (c a : ℕ) → hex_value c ≡ Some a → a ≤ 15
hex_small c a e = by (is_digit c) refl e
  where
    last : (b : Bool) → between 65 70 c ≡ b → cond b (Some (c - 55)) None ≡ Some a → a ≤ 15
    last true t f = let value = some_same f in grind (arith, nat_tests, t, value)
    last false t f = absurd (none_some f)

    small : (b : Bool) → between 97 102 c ≡ b → cond b (Some (c - 87)) (cond (between 65 70 c) (Some (c - 55)) None) ≡ Some a → a ≤ 15
    small true t f = let value = some_same f in grind (arith, nat_tests, t, value)
    small false t f = last (between 65 70 c) refl f

    by : (b : Bool) → is_digit c ≡ b → cond b (Some (c - 48)) (cond (between 97 102 c) (Some (c - 87)) (cond (between 65 70 c) (Some (c - 55)) None)) ≡ Some a
        → a ≤ 15
    by true t f = let value = some_same f in grind (arith, nat_tests, t, value)
    by false t f = small (between 97 102 c) refl f

abbrev AreBytes : List ℕ → Type 0
AreBytes bytes = all_of (between 0 255) bytes ≡ true

unhexed : (text bytes : List ℕ) → unhex text ≡ Some bytes → AreBytes bytes
unhexed [] bytes e = ap (all_of (between 0 255)) (sym (some_same e))
unhexed (c ∷ []) bytes e = absurd (none_some e)
unhexed (c ∷ d ∷ rest) bytes e = by (hex_value c) (hex_value d) (unhex rest) refl refl refl e (λ more f. unhexed rest more f)
  where
    by : (high low : Option ℕ) (o : Option (List ℕ)) → hex_value c ≡ high → hex_value d ≡ low → unhex rest ≡ o → byte_before high low o ≡ Some bytes
        → ((more : List ℕ) → unhex rest ≡ Some more → AreBytes more) → AreBytes bytes
    by (Some a) (Some b) (Some more) h l m f further =
        let high = hex_small c a h in
        let low = hex_small d b l in
        ap (all_of (between 0 255)) (sym (some_same f)) ∙ and_from (between 0 255 (16 * a + b)) (all_of (between 0 255) more)
        (and_from (nat_le 0 (16 * a + b)) (nat_le (16 * a + b) 255) (le-leb 0 (16 * a + b) (omega arith))
        (le-leb (16 * a + b) 255 (omega (arith, high, low)))) (further more m)
    by (Some a) (Some b) None h l m f further = absurd (none_some f)
    by (Some a) None o h l m f further = absurd (none_some f)
    by None low o h l m f further = absurd (none_some f)

-- LEAVES

abbrev AreGiven : Source → Type 0
AreGiven (As_text text) = Unit {0}
AreGiven (As_code bytes) = AreBytes bytes

-- a leaf's program is what its text or code gives
abbrev pub IsGiven : LeafNode → Type 0
IsGiven node = (node.program ≡ program_from node.source) × AreGiven node.source

source_given : (entries : Members) → AreGiven (source_in entries)
source_given entries = by (text_at (codes "program") entries) (code_in entries) refl
  where
    code_bytes : (o : Option (List ℕ)) (bytes : List ℕ) → unhex_of o ≡ Some bytes → AreBytes bytes
    code_bytes None bytes e = absurd (none_some e)
    code_bytes (Some text) bytes e = unhexed text bytes e

    by : (text code : Option (List ℕ)) → code_in entries ≡ code → AreGiven (source_from text code)
    by (Some text) code e = tt
    by None (Some code) e = code_bytes (text_at (codes "code") entries) code e
    by None None e = tt

pub each_append : (P : LeafNode → Type 0) (xs ys : List LeafNode) → Each P xs → Each P ys → Each P (xs ++ ys)
each_append P [] ys h k = k
each_append P (x ∷ xs) ys h k = (h.0, each_append P xs ys h.1 k)

leaf_given : (entries : Members) → IsGiven (leaf_of entries)
leaf_given entries = (refl, source_given entries)

each_by : (f : Members → Nodes → Nodes) → ((entries : Members) (rest : Nodes) → Each IsGiven (leaves_in rest) → Each IsGiven (leaves_in (f entries rest)))
    → (items : List Data) → Each IsGiven (leaves_in (nodes_by f items))
each_by f h [] = tt
each_by f h (d ∷ rest) = h (members_of d) (nodes_by f rest) (each_by f h rest)

node_given : (n : ℕ) (entries : Members) (rest : Nodes) → Each IsGiven (leaves_in rest) → Each IsGiven (leaves_in (node_onto n entries rest))
node_given zero entries rest h = h
node_given (suc n) entries rest h = by (is_init entries) (each_by (node_onto n) (λ e r g. node_given n e r g) (list_at (codes "start") entries))
  where
    by : (b : Bool) → Each IsGiven (leaves_in (nodes_by (node_onto n) (list_at (codes "start") entries)))
        → Each IsGiven (leaves_in (cond b (Init_node (init_of entries) (nodes_by (node_onto n) (list_at (codes "start") entries)) rest)
        (Leaf_node (leaf_of entries) rest)))
    by true below = each_append IsGiven (leaves_in (nodes_by (node_onto n) (list_at (codes "start") entries))) (leaves_in rest) below h
    by false below = (leaf_given entries, h)

-- the leaves of these nodes
pub nodes_given : (n : ℕ) (items : List Data) → Each IsGiven (leaves_in (nodes_by (node_onto n) items))
nodes_given n items = each_by (node_onto n) (λ e r g. node_given n e r g) items

-- PROGRAMS

given_program : (node : LeafNode) → IsGiven node → source_fault node.name node.source ≡ None → IsProgram node.program
given_program node h e = by node.source h.0 h.1 e
  where
    of_text : (text : List ℕ) (r : Result Program (TextFault × ℕ)) → assembled text ≡ r → text_fault node.name r ≡ None → node.program ≡ program_or_none r
        → IsProgram node.program
    of_text text (Ok p) is f same = subst IsProgram (sym same) (assembled_is text p is)
    of_text text (Err fault) is f same = absurd (none_some (sym f))

    of_code : (code : List ℕ) (r : Result Program CodeFault) → decoded code ≡ r → AreBytes code → code_fault node.name r ≡ None
        → node.program ≡ program_or_none r → IsProgram node.program
    of_code code (Ok p) is bytes f same = subst IsProgram (sym same) (decoded_is code p bytes is).program
    of_code code (Err fault) is bytes f same = absurd (none_some (sym f))

    by : (source : Source) → node.program ≡ program_from source → AreGiven source → source_fault node.name source ≡ None → IsProgram node.program
    by (As_text text) same bytes f = of_text text (assembled text) refl f same
    by (As_code code) same bytes f = of_code code (decoded code) refl bytes f same

no_source_fault : (cs : List Component) → sources_fault cs ≡ None → (x : ℕ) (c : Component) → slice_get cs x ≡ Some c
    → source_fault c.node.name c.node.source ≡ None
no_source_fault [] e x c there = absurd (none_some there)
no_source_fault (d ∷ cs) e zero c there =
    let p = or_first_none (source_fault d.node.name d.node.source) (sources_fault cs) e in
    subst (λ (c : Component). source_fault c.node.name c.node.source ≡ None) (some_same there) p.0
no_source_fault (d ∷ cs) e (suc x) c there =
    let p = or_first_none (source_fault d.node.name d.node.source) (sources_fault cs) e in no_source_fault cs p.1 x c there

node_at : (cs : List Component) (nodes : List LeafNode) → map (λ (c : Component). c.node) cs ≡ nodes → Each IsGiven nodes → (x : ℕ) (c : Component)
    → slice_get cs x ≡ Some c → IsGiven c.node
node_at cs nodes same h x c there = find cs (subst (Each IsGiven) (sym same) h) x c there
  where
    find : (cs : List Component) → Each IsGiven (map (λ (c : Component). c.node) cs) → (x : ℕ) (c : Component) → slice_get cs x ≡ Some c → IsGiven c.node
    find [] g x c e = absurd (none_some e)
    find (d ∷ cs) g zero c e = subst (λ (c : Component). IsGiven c.node) (some_same e) g.0
    find (d ∷ cs) g (suc x) c e = find cs g.1 x c e

-- where no text and no code is at fault, each leaf's program is a program
pub programs_are : (s : Scenario) → Each IsGiven (leaves_in s.nodes) → sources_fault (components s) ≡ None → (x : ℕ) (c : Component)
    → slice_get (components s) x ≡ Some c → IsProgram c.node.program
programs_are s given e x c there = given_program c.node (node_at (components s) (leaves_in s.nodes) (components-leaves_in s) given x c there)
    (no_source_fault (components s) e x c there)

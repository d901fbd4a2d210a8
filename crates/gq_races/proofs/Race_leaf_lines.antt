-- The lines of all leaves.
use Rattle.std.proofs.Common.{◌≡◌, ◌∙◌, ℕ, suc, ◌+◌, ◌<◌, Bool, cond, List, [], ◌++◌}
use Rattle.std.proofs.Common.{map, length, get_or, drop, ap, sym, add-one, refl, append_assoc, append-nil, ◌∷◌}
use Rattle.gq_model.specs.machine.Scenario.{Component, Scenario, System, components, system}
use Rattle.std.proofs.Common.{Result, Ok, Err}
use Rattle.std.specs.Prelude.{OnOk, is_ok}
use Rattle.std.proofs.lemmas.List.{map-append}
use Rattle.gq_resolve.specs.Served.{server_among}
use Rattle.gq_resolve.proofs.Mapped_list_growth.{next_is, onto}
use Rattle.gq_model.specs.declared.program.Instruction.{Instruction}
use Rattle.gq_model.specs.declared.program.Instruction.TheVariants.{Open}
use Rattle.gq_model.specs.declared.section.Section.{Section}
use Rattle.gq_model.specs.machine.Program.{Statements, Done, Do, If, Loop, size}
use Rattle.gq_races.specs.Races.{is_shared, found_in, each_stated, stated_in, stated_of, opens_with, opened_by_from, openers}
use Rattle.gq_races.specs.Races.{for_several}
use Rattle.gq_races.specs.Race_text.{effect_text, has_effect, is_conflict, leaf_lines, lines_from, opened_text, prefix_of, reaction_lines, section_lines}
use Rattle.gq_races.specs.Race_text.{sections_lines, sharing_lines}
use Rattle.gq_races.specs.internal.Conflicts.{sharing}
use Rattle.gq_races.specs.internal.Kind_lines.{effect_line}
use Rattle.gq_races.specs.internal.Openers.{opened_among, opens_among}
use Rattle.gq_races.proofs.Conflicts_left.{sharing_is}
use Rattle.gq_races.proofs.Race_line_text.{each_text, effect_same, joined_append}
use Rattle.gq_views.specs.Listing.{joined}

-- the lines of these leaves, of which the first is the x-th
abbrev pub reported : System → ℕ → List Component → List ℕ
reported system x leaves = joined (lines_from system x leaves)

-- LEAVES

module _ (system : System) (all : List Component) (x : ℕ) (c : Component) (within : x < length all) (is : c ≡ get_or all x c) where
  -- the lines of what is left are those of the leaf that stands there and those of what follows
  here : reported system x (drop x all) ≡ joined (leaf_lines system x c) ++ reported system (x + 1) (drop (x + 1) all)
  here =
      ap (reported system x) (next_is all x c within is)
      ∙ (joined_append (leaf_lines system x c) (lines_from system (suc x) (drop (x + 1) all))
      ∙ ap (λ n. joined (leaf_lines system x c) ++ reported system n (drop (x + 1) all)) (sym (add-one x)))

  pub leaf_put : (old more whole : List ℕ) → more ≡ old ++ joined (leaf_lines system x c) → old ++ reported system x (drop x all) ≡ whole
      → more ++ reported system (x + 1) (drop (x + 1) all) ≡ whole
  leaf_put old more whole put inv = onto old more (joined (leaf_lines system x c)) _ _ whole put here inv

-- where sessions are opened, among the leaves of a scenario
opens_same : (s : Scenario) (c : Component) (x n : ℕ) (b : Statements)
    → found_in (opens_among (server_among (components s) c) x) n b ≡ found_in (opens_with (system s) x c) n b
opens_same s c x n Done = refl
opens_same s c x n (Do i rest) = ap (λ l. l) (λ e. cond (one i e) ((n, i) ∷ []) [] ++ opens_same s c x (suc n) rest e)
  where
    one : (i : Instruction) → opens_among (server_among (components s) c) x i ≡ opens_with (system s) x c i
    one (Open place service n) = refl
    one _ = refl
opens_same s c x n (If arm other rest) =
    λ e. opens_same s c x (suc n) arm e ++ opens_same s c x (suc n + size arm) other e ++ opens_same s c x (suc n + size arm + size other) rest e
opens_same s c x n (Loop count body rest) = λ e. opens_same s c x (suc n) body e ++ opens_same s c x (suc n + size body) rest e

stated_same : (s : Scenario) (c : Component) (x : ℕ) (leaf : List ℕ) (sections : List (Section × Statements))
    → stated_in (λ section. opens_among (server_among (components s) c) x) leaf sections ≡ stated_in (λ section. opens_with (system s) x c) leaf sections
stated_same s c x leaf [] = refl
stated_same s c x leaf (p ∷ rest) = λ e. each_stated leaf p.0 (opens_same s c x 1 p.1 e) ++ stated_same s c x leaf rest e

openers_from : (s : Scenario) (x : ℕ) (cs : List Component) → opened_among (components s) x cs ≡ opened_by_from (system s) x cs
openers_from s x [] = refl
openers_from s x (c ∷ cs) = λ e. stated_same s c x c.label c.node.program.sections e ++ openers_from s x cs e

-- the lines of a leaf, as the code makes them
pub lines_are : (s : Scenario) (x : ℕ) (c : Component) (shared : Bool) → is_shared (system s) x ≡ shared
    → sharing shared c (opened_among (components s) x (components s)) ++ sections_lines shared c.label c.node.program.sections ≡ leaf_lines (system s) x c
lines_are s x c shared is =
    ap (λ l. sharing shared c l ++ sections_lines shared c.label c.node.program.sections) (openers_from s x (components s))
    ∙ (ap (λ l. l ++ sections_lines shared c.label c.node.program.sections) (sharing_is shared c (openers (system s) x))
    ∙ ap (λ b. sharing_lines c (openers (system s) x) (stated_of is_conflict b c) ++ sections_lines b c.label c.node.program.sections) (sym is))

-- lines were put behind those that were
pub both_put : (a b : List (List ℕ)) (t u w : List ℕ) → u ≡ t ++ joined a → w ≡ u ++ joined b → w ≡ t ++ joined (a ++ b)
both_put a b t u w e f = f ∙ (ap (λ u. u ++ joined b) e ∙ (append_assoc t (joined a) (joined b) ∙ ap (λ l. t ++ l) (sym (joined_append a b))))

-- SECTIONS

-- the line of a section, and those of its statements
pub section_put_at : (shared : Bool) (leaf : List ℕ) (section : Section) (body : Statements) (prefix t u w : List ℕ) → prefix ≡ prefix_of leaf section
    → u ≡ t ++ joined (reaction_lines leaf section)
    → w ≡ u ++ joined (map (effect_line prefix) (found_in (has_effect (for_several shared section)) 1 body))
    → w ≡ t ++ joined (section_lines shared leaf section body)
section_put_at shared leaf section body prefix t u w is first rest =
    let found = found_in (has_effect (for_several shared section)) 1 body in
    both_put (reaction_lines leaf section) (map effect_text (each_stated leaf section found)) t u w first
    (rest ∙ (ap (λ f. u ++ joined (map (effect_line f) found)) is ∙ ap (λ l. u ++ joined l) (each_text effect_line effect_text effect_same leaf section found)))

module _ (shared : Bool) (leaf : List ℕ) (all : List (Section × Statements)) (i : ℕ) (p : Section × Statements) (within : i < length all)
    (is : p ≡ get_or all i p) where
  sections_here : joined (sections_lines shared leaf (drop i all))
      ≡ joined (section_lines shared leaf p.0 p.1) ++ joined (sections_lines shared leaf (drop (i + 1) all))
  sections_here =
      ap (λ l. joined (sections_lines shared leaf l)) (next_is all i p within is)
      ∙ joined_append (section_lines shared leaf p.0 p.1) (sections_lines shared leaf (drop (i + 1) all))

  -- one section more
  pub sections_put : (old more whole : List ℕ) → more ≡ old ++ joined (section_lines shared leaf p.0 p.1)
      → old ++ joined (sections_lines shared leaf (drop i all)) ≡ whole → more ++ joined (sections_lines shared leaf (drop (i + 1) all)) ≡ whole
  sections_put old more whole put inv =
      onto old more (joined (section_lines shared leaf p.0 p.1)) (joined (sections_lines shared leaf (drop (i + 1) all)))
      (joined (sections_lines shared leaf (drop i all))) whole put sections_here inv

-- a line was put at the end
pub line_put : (t a f d u v w x : List ℕ) → u ≡ t ++ a → v ≡ u ++ f → w ≡ v ++ d → x ≡ w ++ 10 ∷ [] → x ≡ t ++ (a ++ ((f ++ d) ++ 10 ∷ []))
line_put t a f d u v w x one two three four =
    four
    ∙ (ap (λ w. w ++ 10 ∷ []) (three ∙ ap (λ v. v ++ d) (two ∙ ap (λ u. u ++ f) one))
    ∙ (ap (λ l. l ++ 10 ∷ []) (append_assoc (t ++ a) f d)
    ∙ (append_assoc (t ++ a) (f ++ d) (10 ∷ []) ∙ append_assoc t a ((f ++ d) ++ 10 ∷ []))))

-- where one leaf more opens sessions
module _ (all : List Component) (x i : ℕ) (c : Component) (within : i < length all) (is : c ≡ get_or all i c) where
  abbrev lines : List Component → List ℕ
  lines cs = joined (map opened_text (opened_among all x cs))

  opened_here : opened_among all x (drop i all) ≡ opened_among all x (c ∷ []) ++ opened_among all x (drop (i + 1) all)
  opened_here =
      ap (opened_among all x) (next_is all i c within is)
      ∙ ap (λ l. l ++ opened_among all x (drop (i + 1) all))
      (sym (append-nil (stated_in (λ section. opens_among (server_among all c) x) c.label c.node.program.sections)))

  lines_here : lines (drop i all) ≡ lines (c ∷ []) ++ lines (drop (i + 1) all)
  lines_here =
      ap (λ l. joined (map opened_text l)) opened_here
      ∙ (ap joined (map-append opened_text (opened_among all x (c ∷ [])) (opened_among all x (drop (i + 1) all)))
      ∙ joined_append (map opened_text (opened_among all x (c ∷ []))) (map opened_text (opened_among all x (drop (i + 1) all))))

  pub opener_put : (old more whole : List ℕ) → more ≡ old ++ lines (c ∷ []) → old ++ lines (drop i all) ≡ whole → more ++ lines (drop (i + 1) all) ≡ whole
  opener_put old more whole put inv = onto old more (lines (c ∷ [])) (lines (drop (i + 1) all)) (lines (drop i all)) whole put lines_here inv

-- what was put at the end, if it was
pub on_ok_put : {A E : Type 0} (r : Result A E) (new done old : List ℕ) (P : Type 0) → new ≡ cond (is_ok r) done old → (new ≡ done → P) → OnOk r P
on_ok_put (Ok a) new done old P e go = go e
on_ok_put (Err f) new done old P e go = tt

-- The lines of statements that open sessions for less than they need as a text that grows at its end.
use Rattle.std.proofs.Common.{◌≡◌, ◌∙◌, ℕ, suc, ◌+◌, ◌<◌, ◌≤◌, Bool, true, false, List, [], ◌∷◌, ◌++◌, length, get_or, drop, map, ap, ap₂, sym, refl, arith}
use Rattle.std.proofs.Common.{append_assoc, append-nil}
use Rattle.std.specs.Prelude.{if◌then◌else◌, Option, Some, option_map, slice_get, sum_by}
use Rattle.std.proofs.lemmas.Option.{slice_get-get_or, slice_get-map}
use Rattle.std.proofs.lemmas.List.Sums.{sum_by-cons}
use Rattle.gq_model.specs.declared.section.Section.{Section}
use Rattle.gq_model.specs.machine.Program.{Program, Statements, size, text_eq}
use Rattle.gq_model.specs.machine.Scenario.{Component, Interfaces, System, interface_in}
use Rattle.gq_model.proofs.Small_facts.{text_is}
use Rattle.gq_program.specs.Interfaces.{place_from}
use Rattle.gq_program.specs.Statement_trees.{tree_of}
use Rattle.gq_program.specs.declared.program_tree.Statement.{Statement}
use Rattle.gq_program.specs.declared.program_tree.Statement.TheVariants.{Plain, If, Loop}
use Rattle.gq_program.proofs.Statement_list_sizes.{here_is, size_first}
use Rattle.gq_resolve.proofs.Mapped_list_growth.{next_is, onto}
use Rattle.gq_sizes.specs.Size.{Gift, Given, all_short, least_need, open_at, opens_from, ram_sum, short_in, short_lines, sum_in}
use Rattle.gq_sizes.specs.Point_maxima.{given_in, sum_at}
use Rattle.gq_sizes.specs.Saturated_tables.{ram_rows, row}
use Rattle.gq_sizes.specs.internal.Short_lines.{leaves_by, line_by, lines_by, program_by, sections_by}

-- STATEMENTS

opens_at : (m n : ℕ) (s : Statements) → m ≡ n → opens_from m s ≡ opens_from n s
opens_at m n s e = ap (λ k. opens_from k s) e

opens_first : (n : ℕ) (st : Statement) (rest : List Statement) →
    opens_from n (tree_of (st ∷ rest)) ≡ opens_from n (tree_of (st ∷ [])) ++ opens_from (n + size (tree_of (st ∷ []))) (tree_of rest)
opens_first n (Plain i) rest =
    ap (λ l. open_at n i ++ l) (opens_at (suc n) (n + 1) (tree_of rest) (omega arith))
    ∙ ap (λ l. l ++ opens_from (n + 1) (tree_of rest)) (sym (append-nil (open_at n i)))
opens_first n (If arm other) rest =
    let a = opens_from (suc n) arm in
    let o = opens_from (suc n + size arm) other in
    ap (λ l. (a ++ o) ++ l) (opens_at (suc n + size arm + size other) (n + size (tree_of (If arm other ∷ []))) (tree_of rest) (omega arith))
    ∙ ap (λ l. l ++ opens_from (n + size (tree_of (If arm other ∷ []))) (tree_of rest)) (sym (append-nil (a ++ o)))
opens_first n (Loop count body) rest =
    let b = opens_from (suc n) body in
    ap (λ l. b ++ l) (opens_at (suc n + size body) (n + size (tree_of (Loop count body ∷ []))) (tree_of rest) (omega arith))
    ∙ ap (λ l. l ++ opens_from (n + size (tree_of (Loop count body ∷ []))) (tree_of rest)) (sym (append-nil b))

module _ (least : Given) (label : List ℕ) (section : Section) where
  abbrev lines : List (ℕ × List ℕ × ℕ) → List ℕ
  lines = lines_by least label section

  lines-append : (a b : List (ℕ × List ℕ × ℕ)) → lines (a ++ b) ≡ lines a ++ lines b
  lines-append [] b = refl
  lines-append (o ∷ a) b =
      ap (λ t. line_by least label section o ++ t) (lines-append a b) ∙ sym (append_assoc (line_by least label section o) (lines a) (lines b))

  -- the arms of an `if`
  pub arms_text : (n m k : ℕ) (arm other : Statements) (t u v : List ℕ) → m ≡ n + 1 → k ≡ m + size arm → u ≡ t ++ lines (opens_from m arm) →
      v ≡ u ++ lines (opens_from k other) → v ≡ t ++ lines (opens_from n (tree_of (If arm other ∷ [])))
  arms_text n m k arm other t u v next after p q =
      let first = opens_from (suc n) arm in
      let second = opens_from (suc n + size arm) other in
      let at : m ≡ suc n = omega (arith, next) in
      let there : k ≡ suc n + size arm = omega (arith, next, after) in
      rw (q, p, there, at) (append_assoc t (lines first) (lines second)
      ∙ ap (λ l. t ++ l) (sym (lines-append first second) ∙ ap lines (sym (append-nil (first ++ second)))))

  module _ (items : List Statement) (i : ℕ) (st : Statement) (within : i < length items) (is : st ≡ get_or items i st) where
    -- the lines of what is left are those of the statement that stands there and those of what follows
    lines_here : (n : ℕ) → lines (opens_from n (tree_of (drop i items)))
        ≡ lines (opens_from n (tree_of (st ∷ []))) ++ lines (opens_from (n + size (tree_of (st ∷ []))) (tree_of (drop (i + 1) items)))
    lines_here n =
        ap (λ l. lines (opens_from n (tree_of l))) (here_is items i st within is)
        ∙ (ap lines (opens_first n st (drop (i + 1) items))
        ∙ lines-append (opens_from n (tree_of (st ∷ []))) (opens_from (n + size (tree_of (st ∷ []))) (tree_of (drop (i + 1) items))))

    -- and so are their numbers
    pub sizes_here : size (tree_of (drop i items)) ≡ size (tree_of (st ∷ [])) + size (tree_of (drop (i + 1) items))
    sizes_here = ap (λ l. size (tree_of l)) (here_is items i st within is) ∙ size_first st (drop (i + 1) items)

    -- a statement's lines were put at the end
    pub statement_put : (n m : ℕ) (old more whole : List ℕ) → m ≡ n + size (tree_of (st ∷ [])) →
        more ≡ old ++ lines (opens_from n (tree_of (st ∷ []))) →
        old ++ lines (opens_from n (tree_of (drop i items))) ≡ whole →
        more ++ lines (opens_from m (tree_of (drop (i + 1) items))) ≡ whole
    statement_put n m old more whole next put inv =
        onto old more (lines (opens_from n (tree_of (st ∷ [])))) (lines (opens_from m (tree_of (drop (i + 1) items))))
        (lines (opens_from n (tree_of (drop i items)))) whole put
        (lines_here n ∙ ap (λ k. lines (opens_from n (tree_of (st ∷ []))) ++ lines (opens_from k (tree_of (drop (i + 1) items)))) (sym next)) inv

-- SECTIONS

module _ (least : Given) (label : List ℕ) (all : List (Section × Statements)) (i : ℕ) (p : Section × Statements) (within : i < length all)
    (is : p ≡ get_or all i p) where
  pub section_put : (old more whole : List ℕ) → more ≡ old ++ lines_by least label p.0 (opens_from 1 p.1) →
      old ++ sections_by least label (drop i all) ≡ whole → more ++ sections_by least label (drop (i + 1) all) ≡ whole
  section_put old more whole put inv =
      onto old more (lines_by least label p.0 (opens_from 1 p.1)) (sections_by least label (drop (i + 1) all)) (sections_by least label (drop i all)) whole put
      (ap (sections_by least label) (next_is all i p within is)) inv

  counted : sum_by (λ q. size q.1) (drop i all) ≡ size p.1 + sum_by (λ q. size q.1) (drop (i + 1) all)
  counted = ap (sum_by (λ q. size q.1)) (next_is all i p within is) ∙ sum_by-cons (λ q. size q.1) p (drop (i + 1) all)

  -- each section is as few as all that are left, and so is what follows
  pub few_here : (n : ℕ) → sum_by (λ q. size q.1) (drop i all) ≤ n → size p.1 ≤ n
  few_here n h = omega (arith, h, counted)

  pub few_after : (n : ℕ) → sum_by (λ q. size q.1) (drop i all) ≤ n → sum_by (λ q. size q.1) (drop (i + 1) all) ≤ n
  few_after n h = omega (arith, h, counted)

-- LEAVES

module _ (least : Given) (all : List Component) (i : ℕ) (c : Component) (within : i < length all) (is : c ≡ get_or all i c) where
  pub leaf_put : (label : List ℕ) (program : Option Program) (old more whole : List ℕ) → label ≡ c.label → program ≡ Some c.node.program →
      more ≡ old ++ program_by least label program →
      old ++ leaves_by least (drop i all) ≡ whole → more ++ leaves_by least (drop (i + 1) all) ≡ whole
  leaf_put label program old more whole named same put inv =
      onto old more (program_by least label program) (leaves_by least (drop (i + 1) all)) (leaves_by least (drop i all)) whole put
      (ap (leaves_by least) (next_is all i c within is)
      ∙ sym (ap₂ (λ l q. program_by least l q ++ leaves_by least (drop (i + 1) all)) named same)) inv

  -- the program that stands there
  pub program_at : (programs : List Program) → programs ≡ map (λ d. d.node.program) all → slice_get programs i ≡ Some c.node.program
  program_at programs h =
      ap (λ l. slice_get l i) h
      ∙ (slice_get-map (λ (d : Component). d.node.program) all i
      ∙ (ap (option_map (λ (d : Component). d.node.program)) (slice_get-get_or all i c within) ∙ ap (λ (d : Component). Some d.node.program) (sym is)))

-- WHAT IS LEAST

-- the sum that stands at the place of a service, among those from the k-th on
sum_from : (all : System) (given : List Gift) (service : List ℕ) (rows : List (List ℕ)) (k : ℕ) (entries : Interfaces) →
    ((j : ℕ) → get_or rows (k + j) [] ≡ get_or (ram_rows all given entries) j []) →
    sum_at (place_from k service entries) rows 0 ≡ sum_in (λ i. ram_sum all given service i 0) (interface_in service entries)
sum_from all given service rows k [] h = refl
sum_from all given service rows k (e ∷ rest) h =
    by (text_eq service e.0) refl (sum_from all given service rows (suc k) rest (λ j. ap (λ n. get_or rows n []) (omega arith) ∙ h (suc j)))
  where
    at : get_or rows k [] ≡ row (ram_sum all given e.0 e.1)
    at = ap (λ n. get_or rows n []) (omega arith) ∙ h 0

    by : (b : Bool) → text_eq service e.0 ≡ b →
        sum_at (place_from (suc k) service rest) rows 0 ≡ sum_in (λ i. ram_sum all given service i 0) (interface_in service rest) →
        sum_at (if b then Some k else place_from (suc k) service rest) rows 0
        ≡ sum_in (λ i. ram_sum all given service i 0) (if b then Some e.1 else interface_in service rest)
    by true t more = ap (λ l. get_or l 0 0) at ∙ ap (λ s. ram_sum all given s e.1 0) (sym (text_is service e.0 t))
    by false t more = more

pub least_is : (all : System) (given : List Gift) (interfaces : Interfaces) (rows : List (List ℕ)) → interfaces ≡ all.interfaces →
    rows ≡ ram_rows all given interfaces → (service : List ℕ) → given_in interfaces rows service 0 ≡ least_need all given service
least_is all given interfaces rows same h service =
    sum_from all given service rows 0 interfaces (λ j. ap (λ l. get_or l (0 + j) []) h ∙ ap (λ n. get_or (ram_rows all given interfaces) n []) (omega arith))
    ∙ ap (λ e. sum_in (λ i. ram_sum all given service i 0) (interface_in service e)) same

-- by what is least for each service these are the lines
module _ (all : System) (given : List Gift) (least : Given) (is : (service : List ℕ) → least service 0 ≡ least_need all given service) where
  lines_are : (c : Component) (section : Section) (opens : List (ℕ × List ℕ × ℕ)) → lines_by least c.label section opens ≡ short_lines all given c section opens
  lines_are c section [] = refl
  lines_are c section (o ∷ rest) =
      ap (λ n. line_by (λ _ _. n) c.label section o ++ lines_by least c.label section rest) (is o.1)
      ∙ ap (λ l. line_by (λ _ _. least_need all given o.1) c.label section o ++ l) (lines_are c section rest)

  sections_are : (c : Component) (sections : List (Section × Statements)) → sections_by least c.label sections ≡ short_in all given c sections
  sections_are c [] = refl
  sections_are c (p ∷ rest) = λ j. lines_are c p.0 (opens_from 1 p.1) j ++ sections_are c rest j

  pub leaves_are : (cs : List Component) → leaves_by least cs ≡ all_short all given cs
  leaves_are [] = refl
  leaves_are (c ∷ rest) = λ j. sections_are c c.node.program.sections j ++ leaves_are rest j

-- Scenarios without races: what outside `main` of a shared leaf stands first changes no own slot, and what opens sessions does so as its program is judged.
-- Without inputs what stands first anywhere reads none.
use Rattle.std.proofs.Common.{◌≡◌, inl, inr, ℕ, zero, suc, ◌+◌, Bool, true, false, cond, ◌&&◌, not, List, [], ◌∷◌, ◌++◌}
use Rattle.std.proofs.Common.{Some, refl, ap, sym, ◌∙◌, subst, arith}
use Rattle.std.specs.Prelude.{slice_get}
use Rattle.std.proofs.lemmas.Bool.{true≢false, or_left, or_right, or_cases}
use Rattle.gq_model.specs.declared.program.Instruction.{Instruction}
use Rattle.gq_model.specs.declared.program.Instruction.TheVariants.{Open}
use Rattle.gq_model.specs.declared.section.Section.{Section}
use Rattle.gq_model.specs.declared.section.Section.TheVariants.{Main, Opening, Upgrading, Calling, Closing, Reacting}
use Rattle.gq_model.specs.machine.Lists.{any_of}
use Rattle.gq_model.specs.machine.Program.{Statements, Done, Do, If, Loop, size}
use Rattle.gq_model.specs.machine.Routes.{server_of}
use Rattle.gq_model.specs.machine.Scenario.{Scenario, System, Component, system}
use Rattle.gq_model.specs.machine.Sections.{is_own_section, is_start_section}
use Rattle.gq_model.specs.rules.Use.{opened_by, services_of, is_there}
use Rattle.gq_model.proofs.Small_facts.{none_some, some_same, equal_self}
use Rattle.gq_laws.specs.Shapes.{Each}
use Rattle.gq_laws.specs.Sound_scenarios.{IsSound}
use Rattle.gq_laws.specs.internal.Remaining_instructions.{AllAre, IsGood}
use Rattle.gq_laws.specs.internal.Uncounted.{uncounted}
use Rattle.gq_laws.proofs.verified_programs.Sound_systems.{good_of}
use Rattle.gq_races.specs.Races.{opens, opens_first, opens_later, is_shared, changes_own, reads_input, found_in, each_stated, stated_in, stated_of}
use Rattle.gq_races.specs.Races.{stated_from, for_several, is_race, is_input, IsInputFree, IsRaceFree}
use Rattle.gq_determined.specs.internal.Threads.{is_unshared}
use Rattle.gq_determined.proofs.thread_runs.Remaining_section_statements.{AreSections}
use Rattle.gq_determined.proofs.thread_runs.Uncounted_uses.{shared_same}

-- WHAT STATEMENTS OPEN

abbrev pub opens_at : System → ℕ → Component → Bool → Bool
opens_at u x c false = opens_first u x c
opens_at u x c true = opens_later u x c

-- an `open` in `main` or outside it makes its program open sessions with the server there
abbrev pub OpensThere : System → Component → Bool → Instruction → Type 0
OpensThere u c later (Open place service n) = (server : ℕ) → server_of u c service ≡ Some server → opens_at u server c later ≡ true
OpensThere u c later _ = Unit {0}

-- outside `main` of a shared leaf it is no statement of this kind
abbrev pub KeepsAway : (Instruction → Bool) → System → ℕ → Bool → Instruction → Type 0
KeepsAway test u x later i = later ≡ true → is_unshared u x ≡ false → test i ≡ false

-- what each statement is, by its leaf and by whether it stands outside `main`
abbrev pub IsFree : System → ℕ → Component → Bool → Instruction → Type 0
IsFree u x c later i = KeepsAway changes_own u x later i × OpensThere u c later i

all_two : (P Q : Instruction → Type 0) (s : Statements) → AllAre P s → AllAre Q s → AllAre (λ i. P i × Q i) s
all_two P Q Done h k = tt
all_two P Q (Do i rest) h k = ((h.0, k.0), all_two P Q rest h.1 k.1)
all_two P Q (If arm other rest) h k = (all_two P Q arm h.0 k.0, all_two P Q other h.1 k.1, all_two P Q rest h.2 k.2)
all_two P Q (Loop n body rest) h k = (h.0, all_two P Q body h.1 k.1, all_two P Q rest h.2 k.2)

pub all_other : (P Q : Instruction → Type 0) → ((i : Instruction) → P i → Q i) → (s : Statements) → AllAre P s → AllAre Q s
all_other P Q f Done h = tt
all_other P Q f (Do i rest) h = (f i h.0, all_other P Q f rest h.1)
all_other P Q f (If arm other rest) h = (all_other P Q f arm h.0, all_other P Q f other h.1, all_other P Q f rest h.2)
all_other P Q f (Loop n body rest) h = (h.0, all_other P Q f body h.1, all_other P Q f rest h.2)

pub any_right : {A : Type 0} (test : A → Bool) (xs ys : List A) → any_of test ys ≡ true → any_of test (xs ++ ys) ≡ true
any_right test [] ys e = e
any_right test (x ∷ xs) ys e = or_right (test x) (any_of test (xs ++ ys)) (any_right test xs ys e)

pub any_left : {A : Type 0} (test : A → Bool) (xs ys : List A) → any_of test xs ≡ true → any_of test (xs ++ ys) ≡ true
any_left test [] ys e = absurd cc
any_left test (x ∷ xs) ys e = elim (or_cases (test x) (any_of test xs) e) [
  | inl f ↦ or_left (test x) (any_of test (xs ++ ys)) f
  | inr f ↦ or_right (test x) (any_of test (xs ++ ys)) (any_left test xs ys f)
]

-- WHAT CHANGES NOTHING

none_left : {A : Type 0} (a b : List A) → a ++ b ≡ [] → a ≡ []
none_left [] b e = refl
none_left (x ∷ a) b e = absurd cc

none_right : {A : Type 0} (a b : List A) → a ++ b ≡ [] → b ≡ []
none_right [] b e = e
none_right (x ∷ a) b e = absurd cc

none_found : {A : Type 0} (b : Bool) (a : A) → cond b (a ∷ []) [] ≡ [] → b ≡ false
none_found false a e = refl
none_found true a e = absurd cc

pub all_none : (test : Instruction → Bool) (G : Instruction → Type 0) (n : ℕ) (todo : Statements) → found_in test n todo ≡ [] → AllAre G todo
    → AllAre (λ i. test i ≡ false) todo
all_none test G n Done e h = tt
all_none test G n (Do i rest) e h =
    (none_found (test i) (n, i) (none_left _ _ e), all_none test G (suc n) rest (none_right (cond (test i) ((n, i) ∷ []) []) _ e) h.1)
all_none test G n (If arm other rest) e h =
    let one = none_left (found_in test (suc n) arm ++ found_in test (suc n + size arm) other) (found_in test (suc n + size arm + size other) rest) e in (
      all_none test G (suc n) arm (none_left _ _ one) h.0,
      all_none test G (suc n + size arm) other (none_right (found_in test (suc n) arm) _ one) h.1,
      all_none test G (suc n + size arm + size other) rest
          (none_right (found_in test (suc n) arm ++ found_in test (suc n + size arm) other) _ e) h.2,
    )
all_none test G n (Loop count body rest) e h =
    (h.0, all_none test G (suc n) body (none_left _ _ e) h.1, all_none test G (suc n + size body) rest (none_right (found_in test (suc n) body) _ e) h.2)

no_place : (leaf : List ℕ) (section : Section) (changes : List (ℕ × Instruction)) → each_stated leaf section changes ≡ [] → changes ≡ []
no_place leaf section [] e = refl
no_place leaf section (c ∷ changes) e = absurd cc

-- no leaf has such a statement
leaf_none : (kind : Bool → Instruction → Bool) (u : System) (x y : ℕ) (cs : List Component) (c : Component) → stated_from kind u x cs ≡ []
    → slice_get cs y ≡ Some c → stated_of kind (is_shared u (x + y)) c ≡ []
leaf_none kind u x y [] c e at = absurd (none_some at)
leaf_none kind u x zero (d ∷ cs) c e at =
    subst (λ (c : Component). stated_of kind (is_shared u (x + zero)) c ≡ []) (some_same at)
    (subst (λ n. stated_of kind (is_shared u n) d ≡ []) plus_zero (none_left _ _ e))
  where
    plus_zero : x ≡ x + zero
    plus_zero = omega arith
leaf_none kind u x (suc y) (d ∷ cs) c e at =
    subst (λ n. stated_of kind (is_shared u n) c ≡ []) more
    (leaf_none kind u (suc x) y cs c (none_right (stated_of kind (is_shared u x) d) _ e) at)
  where
    more : suc x + y ≡ x + suc y
    more = omega arith

-- ONE LEAF

module _ (u : System) (x : ℕ) (c : Component) (G : Instruction → Type 0) where
  -- what these services lead to is opened there by the program
  abbrev Reach : Bool → List (List ℕ) → Type 0
  Reach later services = (server : ℕ) → any_of (λ v. is_there server (server_of u c v)) services ≡ true → opens_at u server c later ≡ true

  there_one : (later : Bool) (i : Instruction) → Reach later (opened_by i) → OpensThere u c later i
  there_one later (Open place service n) h = λ server routed.
      h server (or_left (is_there server (server_of u c service)) false (ap (is_there server) routed ∙ equal_self server))
  there_one later _ h = tt

  there_all : (later : Bool) (s : Statements) → AllAre G s → Reach later (services_of s) → AllAre (OpensThere u c later) s
  there_all later Done g h = tt
  there_all later (Do i rest) g h = (
    there_one later i (λ server e. h server (any_left _ (opened_by i) (services_of rest) e)),
    there_all later rest g.1 (λ server e. h server (any_right _ (opened_by i) (services_of rest) e)),
  )
  there_all later (If arm other rest) g h = (
    there_all later arm g.0
        (λ server e. h server (any_left _ (services_of arm ++ services_of other) (services_of rest) (any_left _ (services_of arm) (services_of other) e))),
    there_all later other g.1
        (λ server e. h server (any_left _ (services_of arm ++ services_of other) (services_of rest) (any_right _ (services_of arm) (services_of other) e))),
    there_all later rest g.2 (λ server e. h server (any_right _ (services_of arm ++ services_of other) (services_of rest) e)),
  )
  there_all later (Loop n body rest) g h = (
    g.0,
    there_all later body g.1 (λ server e. h server (any_left _ (services_of body) (services_of rest) e)),
    there_all later rest g.2 (λ server e. h server (any_right _ (services_of body) (services_of rest) e)),
  )

  -- what a section of the program opens
  section_reach : (p : Section × Statements) → ((test : Section × Statements → Bool) → test p ≡ true → any_of test c.node.program.sections ≡ true)
      → Reach (not (is_own_section p.0)) (services_of p.1)
  section_reach p among server e = by (is_own_section p.0) refl
    where
      by : (b : Bool) → is_own_section p.0 ≡ b → opens_at u server c (not b) ≡ true
      by true is = among (λ p. is_own_section p.0 && opens u server c p.1) (ap (λ b. b && opens u server c p.1) is ∙ e)
      by false is = among (λ p. not (is_own_section p.0) && opens u server c p.1) (ap (λ b. not b && opens u server c p.1) is ∙ e)

  -- sections that have no such statement
  pub sections_none : (test : Section → Instruction → Bool) (sections : List (Section × Statements)) → stated_in test c.label sections ≡ []
      → Each (λ p. AllAre G p.1) sections → Each (λ p. AllAre (λ i. test p.0 i ≡ false) p.1) sections
  sections_none test [] none g = tt
  sections_none test (p ∷ rest) none g = (
    all_none (test p.0) G 1 p.1 (no_place c.label p.0 (found_in (test p.0) 1 p.1) (none_left _ _ none)) g.0,
    sections_none test rest (none_right (each_stated c.label p.0 (found_in (test p.0) 1 p.1)) _ none) g.1,
  )

  pub sections_there : (sections : List (Section × Statements)) → Each (λ p. AllAre G p.1) sections
      → ((test : Section × Statements → Bool) → any_of test sections ≡ true → any_of test c.node.program.sections ≡ true)
      → Each (λ p. AllAre (OpensThere u c (not (is_own_section p.0))) p.1) sections
  sections_there [] g among = tt
  sections_there (p ∷ rest) g among = (
    there_all (not (is_own_section p.0)) p.1 g.0 (section_reach p (λ test e. among test (or_left (test p) (any_of test rest) e))),
    sections_there rest g.1 (λ test e. among test (or_right (test p) (any_of test rest) e)),
  )

each_two : (P Q : Section × Statements → Type 0) (sections : List (Section × Statements)) → Each P sections → Each Q sections
    → Each (λ p. P p × Q p) sections
each_two P Q [] h k = tt
each_two P Q (p ∷ rest) h k = ((h.0, k.0), each_two P Q rest h.1 k.1)

pub each_other : (P Q : Section × Statements → Type 0) → ((p : Section × Statements) → P p → Q p) → (sections : List (Section × Statements)) → Each P sections
    → Each Q sections
each_other P Q f [] h = tt
each_other P Q f (p ∷ rest) h = (f p h.0, each_other P Q f rest h.1)

-- where no leaf has a statement of this kind, none does in its sections
none_sections : (kind : Bool → Instruction → Bool) (s : Scenario) → IsSound s → stated_from kind (system s) 0 (system s).components ≡ []
    → (x : ℕ) (c : Component) → slice_get (system s).components x ≡ Some c
    → Each (λ p. AllAre (λ i. kind (for_several (is_shared (uncounted (system s)) x) p.0) i ≡ false) p.1) c.node.program.sections
none_sections kind s sound none x c at =
    subst (λ shared. Each (λ p. AllAre (λ i. kind (for_several shared p.0) i ≡ false) p.1) c.node.program.sections) shared
    (sections_none (uncounted (system s)) x c (IsGood (system s) c) (λ section. kind (for_several (is_shared (system s) (0 + x)) section))
    c.node.program.sections (leaf_none kind (system s) 0 x (system s).components c none at) (good_of s sound x c at))
  where
    none_more : 0 + x ≡ x
    none_more = omega arith

    shared : is_shared (system s) (0 + x) ≡ is_shared (uncounted (system s)) x
    shared = ap (is_shared (system s)) none_more ∙ sym (shared_same (system s) x)

-- of a scenario whose shared leaves have no such statement outside `main`
pub away_sections : (kind : Bool → Instruction → Bool) (test : Instruction → Bool) → ((i : Instruction) → kind true i ≡ false → test i ≡ false)
    → (s : Scenario) → IsSound s → stated_from kind (system s) 0 (system s).components ≡ []
    → AreSections (λ x c later i. KeepsAway test (uncounted (system s)) x later i) (uncounted (system s))
away_sections kind test less s sound none x c at =
    let u = uncounted (system s) in
    each_other _ (λ p. AllAre (KeepsAway test u x (not (is_own_section p.0))) p.1)
    (λ p h. all_other (λ i. kind (for_several (is_shared u x) p.0) i ≡ false) (KeepsAway test u x (not (is_own_section p.0))) (λ i q later single.
    less i (ap (λ b. kind b i) (sym (several (is_shared u x) p.0 later single)) ∙ q)) p.1 h)
    c.node.program.sections (none_sections kind s sound none x c at)
  where
    -- a section outside those of the leaf's own is not `main`
    outside : (section : Section) → not (is_own_section section) ≡ true → not (is_start_section section) ≡ true
    outside Main e = e
    outside Opening e = refl
    outside (Upgrading l) e = refl
    outside (Calling l) e = refl
    outside (Closing l) e = refl
    outside (Reacting i) e = refl

    several : (shared : Bool) (section : Section) → not (is_own_section section) ≡ true → not shared ≡ false → for_several shared section ≡ true
    several true section is single = outside section is
    several false section is single = absurd (true≢false single)

-- of one whose leaves read no input
pub unread_sections : (s : Scenario) → IsSound s → IsInputFree s → AreSections (λ x c later i. reads_input i ≡ false) (uncounted (system s))
unread_sections s sound unread x c at = none_sections is_input s sound unread x c at

pub free_sections : (s : Scenario) → IsSound s → IsRaceFree s → AreSections (IsFree (uncounted (system s))) (uncounted (system s))
free_sections s sound none x c at =
    let u = uncounted (system s) in
    let sections = c.node.program.sections in
    each_other _ (λ p. AllAre (IsFree u x c (not (is_own_section p.0))) p.1)
    (λ p h. let b = not (is_own_section p.0) in all_two (KeepsAway changes_own u x b) (OpensThere u c b) p.1 h.0 h.1) sections
    (each_two (λ p. AllAre (KeepsAway changes_own u x (not (is_own_section p.0))) p.1) (λ p. AllAre (OpensThere u c (not (is_own_section p.0))) p.1) sections
    (away_sections is_race changes_own (λ i e. e) s sound none x c at)
    (sections_there u x c (IsGood (system s) c) sections (good_of s sound x c at) (λ test e. e)))

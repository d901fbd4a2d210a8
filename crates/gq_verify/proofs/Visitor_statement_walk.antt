-- What visitors are shown of lists, statement by statement.
use Rattle.std.proofs.Common.{◌≡◌, ◌<◌, ◌≤◌, ◌+◌, ℕ, List, [], ◌∷◌, ◌++◌, drop, length, get_or, None, Some, refl, ap, sym, subst, ◌∙◌, append_assoc, arith}
use Rattle.std.proofs.Math.ListN.{drop_of_length-le}
use Rattle.std.proofs.lemmas.List.{append-nil}
use Rattle.gq_model.specs.declared.section.Section.{Section}
use Rattle.gq_model.specs.machine.Program.{Statements, section_in, size}
use Rattle.gq_model.specs.rules.Kinds.{AbstractState, Subject, Context}
use Rattle.gq_model.specs.rules.Flow.{context, flow, start_of, state_or}
use Rattle.gq_model.specs.rules.Verdict.{program_fault}
use Rattle.gq_program.specs.Statement_trees.{tree_of}
use Rattle.gq_program.specs.declared.program_tree.Statement.{Statement}
use Rattle.gq_program.specs.declared.program_tree.Statement.TheVariants.{Plain, If, Loop}
use Rattle.gq_program.proofs.Statement_list_sizes.{here_is, size_first}
use Rattle.gq_rules.specs.internal.List_states.{chosen, next_state}
use Rattle.gq_verify.specs.Rights.{IsRight}
use Rattle.gq_verify.specs.Visits.{Sight, At_point, Shows, section_sights, sights, sights_by, slots_of}
use Rattle.gq_verify.specs.internal.Slot_equal_states.{AreAlike, FromAlike}
use Rattle.gq_verify.specs.internal.Visiting.{sights_in, size_in}
use Rattle.gq_verify.proofs.Counts_rights.{right_here, state_on}
use Rattle.gq_verify.proofs.Faultless_sections.{section_right}

-- one after the other
pub shows_on : {A : Type 0} → (f : A → Sight → A → Type 0) (a m b : A) (seen more : List Sight) → Shows f a seen m → Shows f m more b →
    Shows f a (seen ++ more) b
shows_on f a m b [] more e h = subst (λ x. Shows f x more b) (sym e) h
shows_on f a m b (s ∷ rest) more h k = (h.0, h.1, shows_on f h.0 m b rest more h.2 k)

-- one more
pub shows_last : {A : Type 0} → (f : A → Sight → A → Type 0) (a m b : A) (seen : List Sight) (s : Sight) → Shows f a seen m → f m s b →
    Shows f a (seen ++ s ∷ []) b
shows_last f a m b seen s h k = shows_on f a m b seen (s ∷ []) h (b, k, refl)

pub size_one : (st : Statement) → size (tree_of (st ∷ [])) ≡ 1 + size_in st
size_one (Plain i) = omega arith
size_one (If arm other) = omega arith
size_one (Loop count body) = omega arith

-- what is left, with the statement that stands there
pub size_left : (items : List Statement) (i : ℕ) (st : Statement) → i < length items → st ≡ get_or items i st →
    size (tree_of (drop i items)) ≡ (1 + size_in st) + size (tree_of (drop (i + 1) items))
size_left items i st less e =
    let a = ap (λ l. size (tree_of l)) (here_is items i st less e) in
    let b = size_first st (drop (i + 1) items) in
    let d = size_one st in
    omega (arith, a, b, d)

-- what is shown of a statement of number k, those in it and the point after it
abbrev pub sights_of : Context → ℕ → AbstractState → Statement → List Sight
sights_of c k s st = sights_in c (k + 1) s st ++ At_point (k + 1) (slots_of (next_state c s st)) ∷ []

sights_first : (c : Context) (k : ℕ) (s : AbstractState) (st : Statement) (rest : List Statement) →
    sights c k s (tree_of (st ∷ rest)) ≡ sights_of c k s st ++ sights c (k + (1 + size_in st)) (next_state c s st) (tree_of rest)
sights_first c k s (Plain i) rest = refl
sights_first c k s (If arm other) rest =
    let first = sights c (k + 1) (slots_of s) arm ++ sights c (k + 1 + size arm) (slots_of s) other in
    let w = next_state c s (If arm other) in
    let point = At_point (k + 1) (slots_of w) in
    let e : k + 1 + size arm + size other ≡ k + (1 + (size arm + size other)) = omega arith in
    ap (λ n. first ++ point ∷ sights c n w (tree_of rest)) e
    ∙ sym (append_assoc first (point ∷ []) (sights c (k + (1 + (size arm + size other))) w (tree_of rest)))
sights_first c k s (Loop count body) rest =
    let first = sights_in c (k + 1) s (Loop count body) in
    let point = At_point (k + 1) (slots_of s) in
    let e : k + 1 + size body ≡ k + (1 + size body) = omega arith in
    ap (λ n. first ++ point ∷ sights c n s (tree_of rest)) e ∙ sym (append_assoc first (point ∷ []) (sights c (k + (1 + size body)) s (tree_of rest)))

sights_here : (c : Context) (k : ℕ) (s : AbstractState) (items : List Statement) (i : ℕ) (st : Statement) → i < length items → st ≡ get_or items i st →
    sights c k s (tree_of (drop i items)) ≡
    sights_of c k s st ++ sights c (k + (1 + size_in st)) (next_state c s st) (tree_of (drop (i + 1) items))
sights_here c k s items i st less e =
    ap (λ l. sights c k s (tree_of l)) (here_is items i st less e) ∙ sights_first c k s st (drop (i + 1) items)

-- what has been shown of a list from its start to the i-th statement, from a state with other operands; n statements have been met
pub record Visited {A : Type 0} (f : A → Sight → A → Type 0) (c : Context) (s t : AbstractState) (k n : ℕ) (a b : A) (items : List Statement) (i : ℕ) : Type
    0 where
  pub now : AbstractState
  pub alike : AreAlike now t
  pub right : IsRight c now (tree_of (drop i items))
  pub stated : state_or s (flow c now (tree_of (drop i items))) ≡ state_or s (flow c s (tree_of items))
  pub seen : List Sight
  pub shown : Shows f a seen b
  pub all : seen ++ sights c n now (tree_of (drop i items)) ≡ sights c k s (tree_of items)

pub visit_first : {A : Type 0} → (f : A → Sight → A → Type 0) (c : Context) (s t : AbstractState) (k : ℕ) (a : A) (items : List Statement) → AreAlike s t →
    IsRight c s (tree_of items) → Visited f c s t k k a a items 0
visit_first f c s t k a items e right = record { now = s; alike = e; right = right; stated = refl; seen = []; shown = refl; all = refl }

pub visit_next : {A : Type 0} → (f : A → Sight → A → Type 0) (c : Context) (s t u : AbstractState) (k n m : ℕ) (a b d : A) (items : List Statement) (i : ℕ)
    (st : Statement) → i < length items → st ≡ get_or items i st → m ≡ n + (1 + size_in st) →
    FromAlike c t (tree_of (st ∷ [])) (λ x. AreAlike u (next_state c x st)) →
    FromAlike c t (tree_of (st ∷ [])) (λ x. Shows f b (sights_of c n x st) d) → Visited f c s t k n a b items i →
    Visited f c s u k m a d items (i + 1)
visit_next f c s t u k n m a b d items i st less is at goes shows h =
    let here = right_here c h.now items i st less is h.right in
    let next = next_state c h.now st in
    let rest = λ (j : ℕ). sights c j next (tree_of (drop (i + 1) items)) in
    record {
      now = next;
      alike = sym (goes h.now h.alike here.0);
      right = here.1;
      stated = state_on c h.now next s items i st less is refl h.right ∙ h.stated;
      seen = h.seen ++ sights_of c n h.now st;
      shown = shows_on f a b d h.seen (sights_of c n h.now st) h.shown (shows h.now h.alike here.0);
      all = ap (λ j. (h.seen ++ sights_of c n h.now st) ++ rest j) at
          ∙ (append_assoc h.seen (sights_of c n h.now st) (rest (n + (1 + size_in st)))
          ∙ (ap (λ l. h.seen ++ l) (sym (sights_here c n h.now items i st less is)) ∙ h.all));
    }

visit_end : {A : Type 0} → (f : A → Sight → A → Type 0) (c : Context) (s t : AbstractState) (k n : ℕ) (a b : A) (items : List Statement) (i : ℕ) →
    length items ≤ i → Visited f c s t k n a b items i →
    AreAlike t (state_or s (flow c s (tree_of items))) × Shows f a (sights c k s (tree_of items)) b
visit_end f c s t k n a b items i past h =
    let none = drop_of_length-le items past in
    let last = ap (λ (l : List Statement). state_or s (flow c h.now (tree_of l))) none in
    let ends = ap (λ (l : List Statement). h.seen ++ sights c n h.now (tree_of l)) none in (
      sym h.alike ∙ ap chosen (sym last ∙ h.stated),
      subst (λ l. Shows f a l b) (sym (append-nil h.seen) ∙ (sym ends ∙ h.all)) h.shown,
    )

pub visit_all : {A : Type 0} → (f : A → Sight → A → Type 0) (c : Context) (first t : AbstractState) (k n : ℕ) (a b : A) (items : List Statement)
    (body : Statements)
    (i : ℕ) → tree_of items ≡ body → length items ≤ i →
    ((s : AbstractState) → AreAlike s first → IsRight c s (tree_of items) → Visited f c s t k n a b items i) →
    FromAlike c first body (λ s. AreAlike t (state_or s (flow c s body))) × FromAlike c first body (λ s. Shows f a (sights c k s body) b)
visit_all f c first t k n a b items body i same past each =
    subst (λ (body : Statements). FromAlike c first body (λ s. AreAlike t (state_or s (flow c s body)))
    × FromAlike c first body (λ s. Shows f a (sights c k s body) b)) same (
      λ s alike right. (visit_end f c s t k n a b items i past (each s alike right)).0,
      λ s alike right. (visit_end f c s t k n a b items i past (each s alike right)).1,
    )

-- both arms of an `if`, the second after the statements of the first
pub arms_shown : {A : Type 0} → (f : A → Sight → A → Type 0) (c : Context) (s : AbstractState) (k n : ℕ) (arm other : Statements) (a m b : A) →
    n ≡ k + size arm → Shows f a (sights c k s arm) m → Shows f m (sights c n s other) b →
    Shows f a (sights c k s arm ++ sights c (k + size arm) s other) b
arms_shown f c s k n arm other a m b at h more =
    shows_on f a m b (sights c k s arm) (sights c (k + size arm) s other) h (subst (λ j. Shows f m (sights c j s other) b) at more)

-- a statement and those in it, and the point after it
pub point_shown : {A : Type 0} → (f : A → Sight → A → Type 0) (c : Context) (s t : AbstractState) (st : Statement) (k : ℕ) (a m b : A) →
    AreAlike t (next_state c s st) → Shows f a (sights_in c k s st) m → f m (At_point k (slots_of t)) b →
    Shows f a (sights_in c k s st ++ At_point k (slots_of (next_state c s st)) ∷ []) b
point_shown f c s t st k a m b alike h point =
    shows_last f a m b (sights_in c k s st) (At_point k (slots_of (next_state c s st))) h (subst (λ u. f m (At_point k u) b) alike point)

-- a section from its start on
pub section_shown : {A : Type 0} → (f : A → Sight → A → Type 0) (v : Subject) (section : Section) (b : Statements) (c : Context) (s : AbstractState)
    (a m d : A) →
    program_fault v ≡ None → section_in section v.program.sections ≡ Some b → c ≡ context v section → s ≡ start_of v section →
    f a (At_point 0 (slots_of s)) m → FromAlike c s b (λ x. Shows f m (sights c 0 x b) d) → Shows f a (section_sights v section) d
section_shown f v section b c s a m d none is at start point shown =
    let right = section_right v section b c s none is at start in
    let here = subst (λ (k : Context). Shows f m (sights k 0 s b) d) at (shown s refl right) in
    let rest = subst (λ (t : AbstractState). Shows f m (sights (context v section) 0 t b) d) start here in
    let first = subst (λ (t : AbstractState). f a (At_point 0 (slots_of t)) m) start point in
    subst (λ o. Shows f a (sights_by v section o) d) (sym is) (m, first, rest)

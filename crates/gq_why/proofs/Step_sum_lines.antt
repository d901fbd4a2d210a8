-- The lines of steps as a text that grows at its end.
use Rattle.std.proofs.Common.{◌≡◌, ◌<◌, ℕ, suc, ◌+◌, ◌-◌, arith, Bool, true, false, ◌&&◌, List, [], ◌∷◌, ◌++◌, drop, Some, refl, ap, ap₂, sym, ◌∙◌}
use Rattle.std.proofs.Common.{append_assoc, codes, Result, Ok, Err}
use Rattle.std.specs.Prelude.{slice_get, if◌then◌else◌, is_ok, OnOk}
use Rattle.std.proofs.lemmas.Bool.{and_parts, true≢false}
use Rattle.std.proofs.lemmas.List.{drop_more}
use Rattle.std.proofs.lemmas.Option.{get_or_from_slice_get, slice_get_within}
use Rattle.gq_model.specs.declared.section.Section.{Section}
use Rattle.gq_model.specs.machine.Lists.{any_of}
use Rattle.gq_model.specs.machine.Program.{Statements, text_eq}
use Rattle.gq_model.specs.machine.Routes.{server_of}
use Rattle.gq_model.specs.machine.Scenario.{Component, System}
use Rattle.gq_model.specs.rules.Budgets.{section_cost, section_requests}
use Rattle.gq_model.specs.rules.Use.{Cause, is_there, services, subject}
use Rattle.gq_laws.proofs.verified_programs.Opened_links.{opens_only}
use Rattle.gq_why.specs.Why.{asker_line, asker_lines, often, section_lines, section_part, signal_part, signal_parts}
use Rattle.gq_why.specs.internal.Step_parts.{user_lines}

-- what is put at the end stands before what is left
pub grown : (old more first rest left : List ℕ) → more ≡ old ++ first → left ≡ first ++ rest → more ++ rest ≡ old ++ left
grown old more first rest left e h = rw (e, h) (append_assoc old first rest)

left_here : {A : Type 0} (items : List A) (i : ℕ) (a : A) → slice_get items i ≡ Some a → drop i items ≡ a ∷ drop (i + 1) items
left_here items i a e =
    drop_more items i a (slice_get_within items i a e) ∙ ap (λ b. b ∷ drop (i + 1) items) (get_or_from_slice_get items i a a e)

-- THOSE WHO ASK

-- the line of the section at a place, and those of the rest
pub asker_here : (cause : Cause) (all : System) (y : ℕ) (c : Component) (service : List ℕ) (asked : Section) (sections : List (Section × Statements)) (i : ℕ)
    (section : Section) (b : Statements) (label : List ℕ) (times requests : ℕ) → slice_get sections i ≡ Some (section, b) → label ≡ c.label
    → times ≡ often cause all y section → requests ≡ section_requests (subject all c) section service asked
    → asker_lines cause all y c service asked (drop i sections)
    ≡ asker_line cause label section times requests ++ asker_lines cause all y c service asked (drop (i + 1) sections)
asker_here cause all y c service asked sections i section b label times requests e l t r =
    ap (asker_lines cause all y c service asked) (left_here sections i (section, b) e)
    ∙ (λ j. asker_line cause (sym l j) section (sym t j) (sym r j) ++ asker_lines cause all y c service asked (drop (i + 1) sections))

-- a leaf that does not open the service has none
no_askers : (cause : Cause) (all : System) (y : ℕ) (c : Component) (service : List ℕ) (section : Section) (sections : List (Section × Statements))
    → any_of (text_eq service) (services c) ≡ false → asker_lines cause all y c service section sections ≡ []
no_askers cause all y c service section [] none = refl
no_askers cause all y c service section (p ∷ rest) none =
    (λ i. asker_line cause c.label p.0 (often cause all y p.0) (opens_only (subject all c) p.0 section service none i)
    ++ no_askers cause all y c service section rest none i)

pub users_none : (cause : Cause) (all : System) (x : ℕ) (service : List ℕ) (section : Section) (y : ℕ) (c : Component)
    → (any_of (text_eq service) (services c) && is_there x (server_of all c service)) ≡ false → user_lines cause all x service section y c ≡ []
users_none cause all x service section y c e = by (any_of (text_eq service) (services c)) (is_there x (server_of all c service)) refl e
  where
    by : (opens there : Bool) → any_of (text_eq service) (services c) ≡ opens → (opens && there) ≡ false
        → (if there then asker_lines cause all y c service section c.node.program.sections else []) ≡ []
    by opens false is e = refl
    by true true is e = absurd (true≢false e)
    by false true is e = no_askers cause all y c service section c.node.program.sections is

pub users_there : (cause : Cause) (all : System) (x : ℕ) (service : List ℕ) (section : Section) (y : ℕ) (c : Component)
    → (any_of (text_eq service) (services c) && is_there x (server_of all c service)) ≡ true
    → user_lines cause all x service section y c ≡ asker_lines cause all y c service section c.node.program.sections
users_there cause all x service section y c e =
    ap (λ b. if b then asker_lines cause all y c service section c.node.program.sections else []) (and_parts _ _ e).1

-- SECTIONS

-- the lines of the section at a place, and those of the rest
pub section_here : (cause : Cause) (all : System) (x : ℕ) (c : Component) (sections : List (Section × Statements)) (i : ℕ) (section : Section)
    (b : Statements) (times cost : ℕ) → slice_get sections i ≡ Some (section, b) → times ≡ often cause all x section → cost ≡ section_cost section b
    → section_lines cause all x c (drop i sections)
    ≡ section_part cause all x c.node.provides section times cost ++ section_lines cause all x c (drop (i + 1) sections)
section_here cause all x c sections i section b times cost e t k =
    ap (section_lines cause all x c) (left_here sections i (section, b) e)
    ∙ ap₂ (λ m n. section_part cause all x c.node.provides section m n ++ section_lines cause all x c (drop (i + 1) sections)) (sym t) (sym k)

-- SIGNALS

-- the part for the next signal of a leaf, and those for the rest
pub signal_here : (all : System) (x : ℕ) (c : Component) (y i n : ℕ) → i < n
    → signal_parts all x c y i (n - i) ≡ signal_part all x c y i ++ signal_parts all x c y (i + 1) (n - (i + 1))
signal_here all x c y i n less =
    let left : n - i ≡ suc (n - (i + 1)) = omega (arith, less) in
    let next : suc i ≡ i + 1 = omega arith in
    ap (λ m. signal_parts all x c y i m) left ∙ ap (λ k. signal_part all x c y i ++ signal_parts all x c y k (n - (i + 1))) next

-- the words for a signal, put part by part
pub words_put : {T E : Type 0} (r : Result T E) (t a b c d number label : List ℕ) → a ≡ t ++ codes " for signal " → b ≡ a ++ number → c ≡ b ++ codes " of "
    → d ≡ (if is_ok r then c ++ label else c) → OnOk r (d ≡ t ++ (codes " for signal " ++ number ++ codes " of " ++ label))
words_put (Ok u) t a b c d number label one two three four = rw (four, three, two, one) (simp append_assoc)
words_put (Err x) t a b c d number label one two three four = tt

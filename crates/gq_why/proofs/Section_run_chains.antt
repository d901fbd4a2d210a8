-- How often sections run: by chains of one use more they run as often, where no leaf reaches itself.
use Rattle.std.proofs.Common.{◌≡◌, ℕ, zero, suc, ◌≤◌, mul-le-mul_right, Bool, true, false, List, [], ◌∷◌, length, Option, Some, None, refl, ap}
use Rattle.std.proofs.Common.{sym, ◌∙◌, arith}
use Rattle.std.specs.Prelude.{slice_get, if◌then◌else◌}
use Rattle.std.proofs.lemmas.Bool.{true≢false}
use Rattle.gq_model.specs.declared.section.Section.{Section}
use Rattle.gq_model.specs.declared.section.Section.TheVariants.{Main, Opening, Upgrading, Calling, Closing, Reacting}
use Rattle.gq_model.specs.machine.Program.{Statements}
use Rattle.gq_model.specs.machine.Scenario.{System, Component}
use Rattle.gq_model.specs.machine.Routes.{server_of}
use Rattle.gq_model.specs.rules.Kinds.{Subject}
use Rattle.gq_model.specs.machine.Sections.{is_own_section}
use Rattle.gq_model.specs.rules.Budgets.{section_requests}
use Rattle.gq_model.specs.rules.Use.{Cause, subject, is_there, from_sections, from_leaves, asked_of, provided_by, times}
use Rattle.gq_model.specs.rules.Resolve.{cycle_fault}
use Rattle.gq_laws.proofs.verified_programs.Times_bound.{counts_bounded, times_by}

-- what is asked for by sections that run no less often is no less

sections_more : (often more : Section → ℕ) → ((p : Section) → often p ≤ more p) → (v : Subject) (service : List ℕ) (section : Section)
    (sections : List (Section × Statements)) → from_sections often v service section sections ≤ from_sections more v service section sections
sections_more often more less v service section [] = omega arith
sections_more often more less v service section (p ∷ rest) =
    let here = mul-le-mul_right (section_requests v p.0 service section) (less p.0) in
    let further = sections_more often more less v service section rest in
    omega (arith, here, further)

either_more : (b : Bool) (m n : ℕ) → m ≤ n → (if b then m else 0) ≤ (if b then n else 0)
either_more true m n h = h
either_more false m n h = omega arith

leaves_more : (system : System) (often more : ℕ → Section → ℕ) → ((x : ℕ) (p : Section) → often x p ≤ more x p) → (x : ℕ) (service : List ℕ)
    (section : Section) (y : ℕ) (cs : List Component) → from_leaves often system x service section y cs ≤ from_leaves more system x service section y cs
leaves_more system often more less x service section y [] = omega arith
leaves_more system often more less x service section y (c ∷ rest) =
    let there = is_there x (server_of system c service) in
    let v = subject system c in
    let here = either_more there _ _ (sections_more (often y) (more y) (less y) v service section c.node.program.sections) in
    let further = leaves_more system often more less x service section (suc y) rest in
    omega (arith, here, further)

asked_more : (system : System) (often more : ℕ → Section → ℕ) → ((x : ℕ) (p : Section) → often x p ≤ more x p) → (x : ℕ) (section : Section)
    (provided : Option (List ℕ)) → asked_of often system x section provided ≤ asked_of more system x section provided
asked_more system often more less x section None = omega arith
asked_more system often more less x section (Some service) = leaves_more system often more less x service section 0 system.components

-- a section but a leaf's own runs as often as it is asked for by chains that are one use shorter
pub times_asked : (d : ℕ) (cause : Cause) (system : System) (x : ℕ) (section : Section) → is_own_section section ≡ false
    → times (suc d) cause system x section ≡ asked_of (times d cause system) system x section (provided_by (slice_get system.components x))
times_asked d cause system x Main e = absurd (true≢false e)
times_asked d cause system x (Reacting i) e = absurd (true≢false e)
times_asked d cause system x Opening e = refl
times_asked d cause system x (Upgrading l) e = refl
times_asked d cause system x (Calling l) e = refl
times_asked d cause system x (Closing l) e = refl

module _ (cause : Cause) (system : System) where
  -- by longer chains no less often
  longer_more : (d x : ℕ) (section : Section) → times d cause system x section ≤ times (suc d) cause system x section
  longer_more zero x Main = omega arith
  longer_more zero x (Reacting i) = omega arith
  longer_more zero x Opening = omega arith
  longer_more zero x (Upgrading l) = omega arith
  longer_more zero x (Calling l) = omega arith
  longer_more zero x (Closing l) = omega arith
  longer_more (suc d) x Main = omega arith
  longer_more (suc d) x (Reacting i) = omega arith
  longer_more (suc d) x Opening =
      asked_more system (times d cause system) (times (suc d) cause system) (longer_more d) x Opening (provided_by (slice_get system.components x))
  longer_more (suc d) x (Upgrading l) =
      asked_more system (times d cause system) (times (suc d) cause system) (longer_more d) x (Upgrading l) (provided_by (slice_get system.components x))
  longer_more (suc d) x (Calling l) =
      asked_more system (times d cause system) (times (suc d) cause system) (longer_more d) x (Calling l) (provided_by (slice_get system.components x))
  longer_more (suc d) x (Closing l) =
      asked_more system (times d cause system) (times (suc d) cause system) (longer_more d) x (Closing l) (provided_by (slice_get system.components x))

  -- where the leaf's own sections run as often as by chains of some length, all do
  own_same : (n d x : ℕ) (section : Section) → times_by (times n cause system) d system x section ≡ times d cause system x section
  own_same zero zero x Main = refl
  own_same zero zero x (Reacting i) = refl
  own_same (suc n) zero x Main = refl
  own_same (suc n) zero x (Reacting i) = refl
  own_same n zero x Opening = refl
  own_same n zero x (Upgrading l) = refl
  own_same n zero x (Calling l) = refl
  own_same n zero x (Closing l) = refl
  own_same zero (suc d) x Main = refl
  own_same zero (suc d) x (Reacting i) = refl
  own_same (suc n) (suc d) x Main = refl
  own_same (suc n) (suc d) x (Reacting i) = refl
  own_same n (suc d) x Opening = λ i. asked_of (λ y p. own_same n d y p i) system x Opening (provided_by (slice_get system.components x))
  own_same n (suc d) x (Upgrading l) = λ i. asked_of (λ y p. own_same n d y p i) system x (Upgrading l) (provided_by (slice_get system.components x))
  own_same n (suc d) x (Calling l) = λ i. asked_of (λ y p. own_same n d y p i) system x (Calling l) (provided_by (slice_get system.components x))
  own_same n (suc d) x (Closing l) = λ i. asked_of (λ y p. own_same n d y p i) system x (Closing l) (provided_by (slice_get system.components x))

  -- and by chains that are longer than there are leaves just as often
  pub times_end : cycle_fault system 0 system.components ≡ None → (x : ℕ) (section : Section)
      → times (suc (length system.components)) cause system x section ≡ times (length system.components) cause system x section
  times_end resolved x section =
      let n = length system.components in
      let same = own_same (suc n) n x section in
      let less = counts_bounded system resolved (times (suc n) cause system) (λ y s outside.
      let e = times_asked n cause system y s outside in
      let more = asked_more system (times n cause system) (times (suc n) cause system) (longer_more n) y s (provided_by (slice_get system.components y)) in
      omega (arith, e, more)) x section in
      let more = longer_more n x section in
      omega (arith, less, more, same)

  -- so a section but a leaf's own runs as often as all ask for it
  pub adds_up : cycle_fault system 0 system.components ≡ None → (x : ℕ) (c : Component) (service : List ℕ) (section : Section)
      → slice_get system.components x ≡ Some c → c.node.provides ≡ Some service → is_own_section section ≡ false
      → from_leaves (times (length system.components) cause system) system x service section 0 system.components
      ≡ times (length system.components) cause system x section
  adds_up resolved x c service section there provides outside =
      let n = length system.components in
      let given = ap provided_by there ∙ provides in
      sym (ap (λ o. asked_of (times n cause system) system x section o) given)
      ∙ (sym (times_asked n cause system x section outside) ∙ times_end resolved x section)

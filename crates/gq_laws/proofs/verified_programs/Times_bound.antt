-- Numbers of runs that only come from requests are bounded by what `times` computes.
use Rattle.std.proofs.Common.{◌≡◌, ℕ, zero, suc, ◌+◌, ◌*◌, ◌≤◌, mul-le-mul_right, mul-zero, Bool, true, false, cond, ◌||◌, List, [], ◌∷◌, length, Option, Some}
use Rattle.std.proofs.Common.{None, refl, ap, sym, ◌∙◌, subst, arith}
use Rattle.std.specs.Prelude.{slice_get}
use Rattle.std.proofs.lemmas.Option.{slice_get_within}
use Rattle.gq_model.specs.machine.Lists.{any_of}
use Rattle.gq_model.specs.declared.section.Section.{Section}
use Rattle.gq_model.specs.declared.section.Section.TheVariants.{Main, Opening, Upgrading, Calling, Closing, Reacting}
use Rattle.gq_model.specs.machine.Program.{Statements, text_eq}
use Rattle.gq_model.specs.machine.Scenario.{System, Component}
use Rattle.gq_model.specs.machine.Routes.{server_of}
use Rattle.gq_model.specs.machine.Sections.{is_own_section}
use Rattle.gq_model.specs.rules.Budgets.{section_requests}
use Rattle.gq_model.specs.rules.Use.{subject, services, is_there, from_sections, from_leaves, asked_of, provided_by, times}
use Rattle.gq_model.specs.rules.Resolve.{cycle_fault}
use Rattle.gq_model.proofs.Small_facts.{text_is, add_none, add_next}
use Rattle.gq_laws.proofs.verified_programs.Opened_links.{opens_only}
use Rattle.gq_laws.proofs.verified_programs.Use_chains.{Uses, Chain, chain_short}
use Rattle.std.proofs.lemmas.Bool.{false≢true, or_left, or_right}

-- a leaf that opens a service that leads to the x-th uses the x-th
opens_uses : (system : System) (c : Component) (x : ℕ) (service : List ℕ) (opened : List (List ℕ)) → is_there x (server_of system c service) ≡ true
    → any_of (text_eq service) opened ≡ true → any_of (λ s. is_there x (server_of system c s)) opened ≡ true
opens_uses system c x service [] there e = absurd (false≢true e)
opens_uses system c x service (s ∷ rest) there e = by (text_eq service s) refl e (opens_uses system c x service rest there)
  where
    by : (b : Bool) → text_eq service s ≡ b → (b || any_of (text_eq service) rest) ≡ true
        → (any_of (text_eq service) rest ≡ true → any_of (λ t. is_there x (server_of system c t)) rest ≡ true)
        → any_of (λ t. is_there x (server_of system c t)) (s ∷ rest) ≡ true
    by true same f go = or_left (is_there x (server_of system c s)) _ (ap (λ t. is_there x (server_of system c t)) (sym (text_is service s same)) ∙ there)
    by false other f go = or_right (is_there x (server_of system c s)) _ (go f)

-- how often a section of the x-th leaf runs, by chains of at most `depth` uses, where sections of leaves' own run so often
abbrev pub times_by : (ℕ → Section → ℕ) → ℕ → System → ℕ → Section → ℕ
times_by own depth system x Main = own x Main
times_by own depth system x (Reacting i) = own x (Reacting i)
times_by own zero system x section = 0
times_by own (suc depth) system x section = asked_of (times_by own depth system) system x section (provided_by (slice_get system.components x))

module _ (system : System) where
  -- requests for a service that is not opened
  sections_none : (often : Section → ℕ) (c : Component) (service : List ℕ) (section : Section) (sections : List (Section × Statements))
      → any_of (text_eq service) (services c) ≡ false → from_sections often (subject system c) service section sections ≡ 0
  sections_none often c service section [] none = refl
  sections_none often c service section (p ∷ rest) none =
      let here = ap (λ n. often p.0 * n) (opens_only (subject system c) p.0 section service none) ∙ mul-zero (often p.0) in
      let further = sections_none often c service section rest none in omega (arith, here, further)

  sections_less : (often more : Section → ℕ) (c : Component) (service : List ℕ) (section : Section) (sections : List (Section × Statements))
      → ((p : Section) → often p ≤ more p) → from_sections often (subject system c) service section sections
      ≤ from_sections more (subject system c) service section sections
  sections_less often more c service section [] less = omega arith
  sections_less often more c service section (p ∷ rest) less =
      let here = mul-le-mul_right (section_requests (subject system c) p.0 service section) (less p.0) in
      let further = sections_less often more c service section rest less in omega (arith, here, further)

  -- leaves that count have a route to the x-th and open the service
  leaves_less : (often more : ℕ → Section → ℕ) (x : ℕ) (service : List ℕ) (section : Section) (y : ℕ) (items : List Component)
      → ((k : ℕ) (c : Component) → slice_get items k ≡ Some c → is_there x (server_of system c service) ≡ true → any_of (text_eq service) (services c) ≡ true
      → (p : Section) → often (y + k) p ≤ more (y + k) p)
      → from_leaves often system x service section y items ≤ from_leaves more system x service section y items
  leaves_less often more x service section y [] each = omega arith
  leaves_less often more x service section y (c ∷ rest) each =
      let here = by (is_there x (server_of system c service)) refl in
      let further = leaves_less often more x service section (suc y) rest
      (λ k d e there opens p. subst (λ n. often n p ≤ more n p) (sym (add_next y k)) (each (suc k) d e there opens p)) in
      omega (arith, here, further)
    where
      opening : (b : Bool) → any_of (text_eq service) (services c) ≡ b → is_there x (server_of system c service) ≡ true
          → from_sections (often y) (subject system c) service section c.node.program.sections
          ≤ from_sections (more y) (subject system c) service section c.node.program.sections
      opening true opens there = sections_less (often y) (more y) c service section c.node.program.sections
          (λ p. subst (λ n. often n p ≤ more n p) (sym (add_none y)) (each 0 c refl there opens p))
      opening false none there = let nothing = sections_none (often y) c service section c.node.program.sections none in omega (arith, nothing)

      by : (b : Bool) → is_there x (server_of system c service) ≡ b
          → cond b (from_sections (often y) (subject system c) service section c.node.program.sections) 0
          ≤ cond b (from_sections (more y) (subject system c) service section c.node.program.sections) 0
      by true there = opening (any_of (text_eq service) (services c)) refl there
      by false there = omega arith

  module _ (resolved : cycle_fault system 0 system.components ≡ None) (done : ℕ → Section → ℕ)
      (asked : (x : ℕ) (section : Section) → is_own_section section ≡ false
      → done x section ≤ asked_of done system x section (provided_by (slice_get system.components x))) where
    by_users : (d x : ℕ) (section : Section) (provided : Option (List ℕ)) → ((y : ℕ) → Uses system y x → (p : Section) → done y p ≤ times_by done d system y p)
        → asked_of done system x section provided ≤ asked_of (times_by done d system) system x section provided
    by_users d x section None users = omega arith
    by_users d x section (Some service) users =
        leaves_less done (times_by done d system) x service section 0 system.components
        (λ k c e there opens p. subst (λ n. done n p ≤ times_by done d system n p) (omega arith)
        (users k (c, e, opens_uses system c x service (services c) there opens) p))

    step : (d x : ℕ) (section : Section) → is_own_section section ≡ false → ((y : ℕ) → Uses system y x → (p : Section) → done y p ≤ times_by done d system y p)
        → done x section ≤ asked_of (times_by done d system) system x section (provided_by (slice_get system.components x))
    step d x section outside users =
        let least = asked x section outside in
        let more = by_users d x section (provided_by (slice_get system.components x)) users in omega (arith, least, more)

    -- the uses after a leaf and the depth that is left are as many as there are leaves
    by_depth : (d x : ℕ) (rest : List ℕ) → Chain system x rest → length rest + d ≡ length system.components → (section : Section)
        → done x section ≤ times_by done d system x section
    by_depth zero x rest chain long section = let short = chain_short system resolved x rest chain in absurd (omega arith)
    by_depth (suc d) x rest chain long Main = omega arith
    by_depth (suc d) x rest chain long Opening = step d x Opening refl (λ y used p. by_depth d y (x ∷ rest) (used, chain) (omega arith) p)
    by_depth (suc d) x rest chain long (Upgrading l) = step d x (Upgrading l) refl (λ y used p. by_depth d y (x ∷ rest) (used, chain) (omega arith) p)
    by_depth (suc d) x rest chain long (Calling l) = step d x (Calling l) refl (λ y used p. by_depth d y (x ∷ rest) (used, chain) (omega arith) p)
    by_depth (suc d) x rest chain long (Closing l) = step d x (Closing l) refl (λ y used p. by_depth d y (x ∷ rest) (used, chain) (omega arith) p)
    by_depth (suc d) x rest chain long (Reacting i) = omega arith

    nowhere : (d x : ℕ) (section : Section) → done x section ≤ asked_of done system x section None → done x section ≤ times_by done d system x section
    nowhere d x section least = omega (arith, least)

    -- no section runs more often than its leaf's own sections account for
    pub counts_bounded : (x : ℕ) (section : Section) → done x section ≤ times_by done (length system.components) system x section
    counts_bounded x section = by (slice_get system.components x) refl section (asked x section)
      where
        by : (o : Option Component) → slice_get system.components x ≡ o → (section : Section)
            → (is_own_section section ≡ false → done x section ≤ asked_of done system x section (provided_by o))
            → done x section ≤ times_by done (length system.components) system x section
        by (Some c) e section least = by_depth (length system.components) x [] (slice_get_within system.components x c e) (omega arith) section
        by None e Main least = omega arith
        by None e Opening least = nowhere (length system.components) x Opening (least refl)
        by None e (Upgrading l) least = nowhere (length system.components) x (Upgrading l) (least refl)
        by None e (Calling l) least = nowhere (length system.components) x (Calling l) (least refl)
        by None e (Closing l) least = nowhere (length system.components) x (Closing l) (least refl)
        by None e (Reacting i) least = omega arith

-- Sums over sections and leaves of how often each is asked for.
use Rattle.std.proofs.Common.{◌≡◌, ◌≤◌, ℕ, zero, suc, ◌+◌, ◌-◌, ◌*◌, ◌&&◌, cond, Bool, true, false, List, [], ◌∷◌, Option, Some, None, refl, ap}
use Rattle.std.proofs.Common.{sym, ◌∙◌, arith}
use Rattle.std.specs.Prelude.{slice_get}
use Rattle.gq_model.specs.declared.section.Section.{Section}
use Rattle.gq_model.specs.declared.section.Section.TheVariants.{Main, Opening, Upgrading, Calling, Closing, Reacting}
use Rattle.gq_model.specs.machine.Program.{Statements, section_in}
use Rattle.gq_model.specs.machine.Sections.{same_section}
use Rattle.gq_model.specs.machine.Scenario.{System, Component}
use Rattle.gq_model.specs.machine.Routes.{server_of}
use Rattle.gq_model.specs.rules.Kinds.{Subject}
use Rattle.gq_model.specs.rules.Budgets.{section_cost, section_requests}
use Rattle.gq_model.specs.rules.Use.{is_there, from_sections, steps_of}
use Rattle.gq_laws.specs.internal.Section_counts.{Requests, one_at, made_from, made_for}
use Rattle.gq_model.proofs.Small_facts.{some_same, none_some}
use Rattle.gq_model.proofs.Small_facts.{equal_self}
use Rattle.gq_model.proofs.Rules_laws.{same_section_is}

-- PRODUCTS

pub times_plus : (a b n : ℕ) → (a + b) * n ≡ a * n + b * n
times_plus zero b n = omega arith
times_plus (suc a) b n = let further = times_plus a b n in omega (arith, further)

pub times_below : (a b n : ℕ) → a ≤ b → a * n ≤ b * n
times_below a b n h =
    let same : b ≡ a + (b - a) = omega (arith, h) in
    let more = ap (λ m. m * n) same ∙ times_plus a (b - a) n in
    omega (arith, more)

-- THE SAME SECTIONS AND SERVICES

pub section_self : (s : Section) → same_section s s ≡ true
section_self Main = refl
section_self Opening = refl
section_self (Upgrading l) = equal_self l
section_self (Calling l) = equal_self l
section_self (Closing l) = equal_self l
section_self (Reacting i) = equal_self i

-- SUMS OVER SECTIONS

module _ (f g : Section → ℕ) where
  pub steps_add : (sections : List (Section × Statements)) → steps_of (λ q. f q + g q) sections ≡ steps_of f sections + steps_of g sections
  steps_add [] = refl
  steps_add (p ∷ rest) = let further = steps_add rest in let here = times_plus (f p.0) (g p.0) (section_cost p.0 p.1) in omega (arith, further, here)

  pub steps_below : ((q : Section) → f q ≤ g q) → (sections : List (Section × Statements)) → steps_of f sections ≤ steps_of g sections
  steps_below h [] = omega arith
  steps_below h (p ∷ rest) = let further = steps_below h rest in let here = times_below (f p.0) (g p.0) (section_cost p.0 p.1) (h p.0) in
      omega (arith, further, here)

  pub from_add : (v : Subject) (service : List ℕ) (section : Section) (sections : List (Section × Statements))
      → from_sections (λ q. f q + g q) v service section sections ≡ from_sections f v service section sections + from_sections g v service section sections
  from_add v service section [] = refl
  from_add v service section (p ∷ rest) = let further = from_add v service section rest in let here =
      times_plus (f p.0) (g p.0) (section_requests v p.0 service section) in omega (arith, further, here)

-- one section of a leaf that is asked for once
pub one_here : (x : ℕ) (section : Section) → one_at x section x section ≡ 1
one_here x section = (λ i. cond (equal_self x i && section_self section i) 1 0)

once_times : (a n : ℕ) → a ≡ 1 → n ≤ a * n
once_times a n e = let same = ap (λ m. m * n) e in omega (arith, same)

module _ (x : ℕ) (section : Section) where
  abbrev Pays : List (Section × Statements) → Statements → Type 0
  Pays sections body = section_cost section body ≤ steps_of (one_at x section x) sections

  -- its steps are paid
  pub steps_one : (sections : List (Section × Statements)) (body : Statements) → section_in section sections ≡ Some body
      → section_cost section body ≤ steps_of (one_at x section x) sections
  steps_one [] body there = absurd (none_some there)
  steps_one (p ∷ rest) body there = by (same_section section p.0) refl there (λ f. steps_one rest body f)
    where
      by : (b : Bool) → same_section section p.0 ≡ b → cond b (Some p.1) (section_in section rest) ≡ Some body
          → (section_in section rest ≡ Some body → Pays rest body) → Pays (p ∷ rest) body
      by true same there further =
          let here : section_cost section body ≡ section_cost p.0 p.1 = (λ i. section_cost (same_section_is section p.0 same i) (some_same (sym there) i)) in
          let most = once_times (one_at x section x p.0) (section_cost p.0 p.1) (ap (one_at x section x) (sym (same_section_is section p.0 same))
          ∙ one_here x section) in
          omega (arith, here, most)
      by false same there further = let more = further there in omega (arith, more)

  -- and its requests
  pub from_one : (v : Subject) (service : List ℕ) (asked : Section) (sections : List (Section × Statements)) (body : Statements)
      → section_in section sections ≡ Some body
      → section_requests v section service asked ≤ from_sections (one_at x section x) v service asked sections
  from_one v service asked [] body there = absurd (none_some there)
  from_one v service asked (p ∷ rest) body there = by (same_section section p.0) refl there (λ f. from_one v service asked rest body f)
    where
      by : (b : Bool) → same_section section p.0 ≡ b → cond b (Some p.1) (section_in section rest) ≡ Some body
          → (section_in section rest ≡ Some body → section_requests v section service asked ≤ from_sections (one_at x section x) v service asked rest)
          → section_requests v section service asked ≤ from_sections (one_at x section x) v service asked (p ∷ rest)
      by true same there further =
          let here : section_requests v section service asked ≡ section_requests v p.0 service asked =
          ap (λ q. section_requests v q service asked) (same_section_is section p.0 same) in
          let most = once_times (one_at x section x p.0) (section_requests v p.0 service asked)
          (ap (one_at x section x) (sym (same_section_is section p.0 same)) ∙ one_here x section) in
          omega (arith, here, most)
      by false same there further = let more = further there in omega (arith, more)

-- SUMS OVER LEAVES

module _ (system : System) (x : ℕ) (section : Section) where
  pub made_add : (f g : Requests) (service : List ℕ) (n : ℕ) (cs : List Component)
      → made_from (λ y v q. f y v q + g y v q) system x service section n cs
      ≡ made_from f system x service section n cs + made_from g system x service section n cs
  made_add f g service n [] = refl
  made_add f g service n (c ∷ rest) = by (is_there x (server_of system c service)) (made_add f g service (suc n) rest)
    where
      by : (b : Bool) → made_from (λ y v q. f y v q + g y v q) system x service section (suc n) rest
          ≡ made_from f system x service section (suc n) rest + made_from g system x service section (suc n) rest
          → cond b (f n service section + g n service section) 0 + made_from (λ y v q. f y v q + g y v q) system x service section (suc n) rest
          ≡ (cond b (f n service section) 0 + made_from f system x service section (suc n) rest)
          + (cond b (g n service section) 0 + made_from g system x service section (suc n) rest)
      by true further = omega (arith, further)
      by false further = omega (arith, further)

  pub made_for_add : (f g : Requests) (provides : Option (List ℕ))
      → made_for (λ y v q. f y v q + g y v q) system x section provides ≡ made_for f system x section provides + made_for g system x section provides
  made_for_add f g None = refl
  made_for_add f g (Some service) = made_add f g service 0 system.components

  -- a leaf's own requests are among them
  pub made_one : (f : Requests) (service : List ℕ) (n k : ℕ) (c : Component) (cs : List Component) → slice_get cs k ≡ Some c
      → server_of system c service ≡ Some x → f (n + k) service section ≤ made_from f system x service section n cs
  made_one f service n k c [] there routed = absurd (none_some there)
  made_one f service n zero c (b ∷ rest) there routed =
      let leads : is_there x (server_of system b service) ≡ true =
      ap (λ c. is_there x (server_of system c service)) (some_same there) ∙ (ap (is_there x) routed ∙ equal_self x) in
      let here = ap (λ t. cond t (f n service section) 0) leads in
      let first : f (n + 0) service section ≡ f n service section = ap (λ m. f m service section) (omega arith) in
      omega (arith, here, first)
  made_one f service n (suc k) c (b ∷ rest) there routed =
      let further = made_one f service (suc n) k c rest there routed in
      let same : f (n + suc k) service section ≡ f (suc n + k) service section = ap (λ m. f m service section) (omega arith) in
      omega (arith, further, same)

-- A section asks only for services that its program opens.
use Rattle.std.proofs.Common.{◌≡◌, ℕ, zero, suc, ◌+◌, ◌*◌, ◌&&◌, mul-zero, Bool, true, false, cond, List, [], ◌∷◌, ◌++◌, replicate, Option, Some, None, refl}
use Rattle.std.proofs.Common.{ap, ◌∙◌, arith}
use Rattle.gq_model.specs.machine.Lists.{any_of}
use Rattle.gq_model.specs.declared.section.Section.{Section}
use Rattle.gq_model.specs.declared.section.Section.TheVariants.{Main, Opening, Upgrading, Calling, Closing, Reacting}
use Rattle.gq_model.specs.declared.program.Instruction.{Instruction}
use Rattle.gq_model.specs.declared.program.Instruction.TheVariants.{Say, Out, Operands, Make, MakePool, Load}
use Rattle.gq_model.specs.declared.program.Instruction.TheVariants.{Store, Free, Take, Give, Peek, Poke, Open, Upgrade, Call, Close}
use Rattle.gq_model.specs.machine.Program.{Statements, Done, Do, If, Loop, section_in, body_of, text_eq}
use Rattle.gq_model.specs.machine.Sections.{same_section}
use Rattle.gq_model.specs.rules.Kinds.{Kind, Empty_kind, Memory, Pool_kind, Link_kind, AbstractState, Subject, Context, inside, no_kinds, own_empty, kind_at}
use Rattle.gq_model.specs.rules.Rules.{link_kind, judged}
use Rattle.gq_model.specs.rules.Flow.{at, flow, state_or, context, body, first_bounds, own_after, own_before, bank_by, bank_at, bank_before, start_of}
use Rattle.gq_model.specs.rules.Budgets.{is_one, by_link, asks, requests, section_requests}
use Rattle.gq_model.specs.rules.Use.{opened_by, services_of, services_in}
use Rattle.gq_laws.proofs.verified_programs.Linkless_flows.{none_append, is_link_of, Linkless, no_link, next_linkless, end_linkless}
use Rattle.std.proofs.lemmas.Bool.{or_parts}

other_one : (service : List ℕ) (section : Section) (of : List ℕ) (asked : Section) → text_eq service of ≡ false → is_one service section of asked ≡ 0
other_one service section of asked other = ap (λ b. cond (b && same_section section asked) 1 0) other

other_link : (service : List ℕ) (section : Section) (o : Option Kind) (of : ℕ → Section) → ((kind : Kind) → o ≡ Some kind → is_link_of service kind ≡ false)
    → by_link service section (link_kind o) of ≡ 0
other_link service section None of none = refl
other_link service section (Some Empty_kind) of none = refl
other_link service section (Some (Memory form n)) of none = refl
other_link service section (Some (Pool_kind n m)) of none = refl
other_link service section (Some (Link_kind s level given)) of none = other_one service section s (of level) (none (Link_kind s level given) refl)

nothing_of : (n a b : ℕ) → a ≡ 0 → b ≡ 0 → n * a + b ≡ 0
nothing_of n a b e f = let product : n * a ≡ 0 = ap (λ m. n * m) e ∙ mul-zero n in omega (arith, product, f)

module _ (service : List ℕ) (section : Section) where
  -- an instruction that does not open the service, without a link of it, does not ask it
  asks_none : (c : Context) (s : AbstractState) (i : Instruction) → any_of (text_eq service) (opened_by i) ≡ false → Linkless service s → asks service section
      c s i ≡ 0
  asks_none c s (Open place of n) none h = other_one service section of Opening (or_parts (text_eq service of) false none).0
  asks_none c s (Upgrade place n) none h = other_link service section (kind_at c s place) (λ l. Upgrading (suc l))
      (λ kind e. no_link service c s place kind h e)
  asks_none c s (Call place) none h = other_link service section (kind_at c s place) (λ l. Calling l) (λ kind e. no_link service c s place kind h e)
  asks_none c s (Close place) none h = other_link service section (kind_at c s place) (λ l. Closing l) (λ kind e. no_link service c s place kind h e)
  asks_none c s (Say text) none h = refl
  asks_none c s Out none h = refl
  asks_none c s (Operands o) none h = refl
  asks_none c s (Make form place n) none h = refl
  asks_none c s (MakePool place n m) none h = refl
  asks_none c s (Load width place) none h = refl
  asks_none c s (Store width place) none h = refl
  asks_none c s (Free place) none h = refl
  asks_none c s (Take place) none h = refl
  asks_none c s (Give place) none h = refl
  asks_none c s (Peek place) none h = refl
  asks_none c s (Poke place) none h = refl

  -- and so do such lists of statements
  requests_none : (c : Context) (s : AbstractState) (todo : Statements) → any_of (text_eq service) (services_of todo) ≡ false → Linkless service s
      → requests service section c s todo ≡ 0
  requests_none c s Done none h = refl
  requests_none c s (Do i rest) none h =
      let both = none_append (text_eq service) (opened_by i) (services_of rest) none in
      let here = asks_none c s i both.0 h in
      let further = requests_none c (state_or s (at 1 (judged c s i))) rest both.1 (next_linkless service c s i both.0 h) in
      omega (arith, here, further)
  requests_none c s (If arm other rest) none h =
      let both = none_append (text_eq service) (services_of arm ++ services_of other) (services_of rest) none in
      let arms = none_append (text_eq service) (services_of arm) (services_of other) both.0 in
      let t : AbstractState = record s { bounds = [] } in
      let first = requests_none c t arm arms.0 h in
      let second = requests_none c t other arms.1 h in
      let further = requests_none c (state_or t (flow c t arm)) rest both.1 (end_linkless service c t arm arms.0 h) in
      omega (arith, first, second, further)
  requests_none c s (Loop n body rest) none h =
      let both = none_append (text_eq service) (services_of body) (services_of rest) none in
      nothing_of n _ _ (requests_none (inside c n) s body both.0 h) (requests_none c s rest both.1 h)

-- SECTIONS

section_opens : (service : List ℕ) (section : Section) (sections : List (Section × Statements)) → any_of (text_eq service) (services_in sections) ≡ false
    → any_of (text_eq service) (services_of (body_of (section_in section sections))) ≡ false
section_opens service section [] none = refl
section_opens service section (p ∷ rest) none = by (same_section section p.0) (section_opens service section rest both.1)
  where
    both : (any_of (text_eq service) (services_of p.1) ≡ false) × (any_of (text_eq service) (services_in rest) ≡ false)
    both = none_append (text_eq service) (services_of p.1) (services_in rest) none

    by : (b : Bool) → any_of (text_eq service) (services_of (body_of (section_in section rest))) ≡ false
        → any_of (text_eq service) (services_of (body_of (cond b (Some p.1) (section_in section rest)))) ≡ false
    by true further = both.0
    by false further = further

none_empty : (service : List ℕ) (n : ℕ) → any_of (is_link_of service) (replicate n Empty_kind) ≡ false
none_empty service zero = refl
none_empty service (suc n) = none_empty service n

module _ (v : Subject) (service : List ℕ) (none : any_of (text_eq service) (services_in v.program.sections) ≡ false) where
  abbrev Bare : List Kind → Type 0
  Bare kinds = any_of (is_link_of service) kinds ≡ false

  body_opens : (section : Section) → any_of (text_eq service) (services_of (body v section)) ≡ false
  body_opens section = section_opens service section v.program.sections none

  own_after_bare : Bare (own_after v)
  own_after_bare =
      let s : AbstractState = record { own = own_empty; bank = no_kinds; bounds = [] } in
      (end_linkless service (context v Main) s (body v Main) (body_opens Main) (none_empty service 64, none_empty service 8)).0

  own_before_bare : (section : Section) → Bare (own_before v section)
  own_before_bare Main = none_empty service 64
  own_before_bare Opening = own_after_bare
  own_before_bare (Upgrading l) = own_after_bare
  own_before_bare (Calling l) = own_after_bare
  own_before_bare (Closing l) = own_after_bare
  own_before_bare (Reacting i) = own_after_bare

  bank_by_bare : (section : Section) (bank : List Kind) → Bare bank → Bare (bank_by v section bank)
  bank_by_bare section bank h =
      let s : AbstractState = record { own = own_after v; bank = bank; bounds = first_bounds v.provided section } in
      (end_linkless service (context v section) s (body v section) (body_opens section) (own_after_bare, h)).1

  bank_at_bare : (l : ℕ) → Bare (bank_at v l)
  bank_at_bare zero = bank_by_bare Opening no_kinds (none_empty service 8)
  bank_at_bare (suc l) = bank_by_bare (Upgrading (suc l)) (bank_at v l) (bank_at_bare l)

  bank_before_bare : (section : Section) → Bare (bank_before v section)
  bank_before_bare Main = none_empty service 8
  bank_before_bare Opening = none_empty service 8
  bank_before_bare (Upgrading zero) = none_empty service 8
  bank_before_bare (Upgrading (suc l)) = bank_at_bare l
  bank_before_bare (Calling l) = bank_at_bare l
  bank_before_bare (Closing l) = bank_at_bare l
  bank_before_bare (Reacting i) = none_empty service 8

  start_linkless : (section : Section) → Linkless service (start_of v section)
  start_linkless section = (own_before_bare section, bank_before_bare section)

-- who does not open a service does not ask for it
pub opens_only : (v : Subject) (from section : Section) (service : List ℕ) → any_of (text_eq service) (services_in v.program.sections) ≡ false
    → section_requests v from service section ≡ 0
opens_only v from section service none = requests_none service section (context v from) (start_of v from) (body v from) (body_opens v service none from)
    (start_linkless v service none from)

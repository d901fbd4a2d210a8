-- Where quantities alone differ, sections make the same requests, and leaves take the same steps.
use Rattle.std.proofs.Common.{◌≡◌, ℕ, zero, suc, ◌+◌, ◌*◌, List, [], ◌∷◌, length, max, Option, Some, None, Ok, refl, ap, sym, ◌∙◌, subst}
use Rattle.std.specs.Prelude.{slice_get, if◌then◌else◌}
use Rattle.gq_model.specs.machine.Amounts.{Amount}
use Rattle.gq_model.specs.declared.program.OperandSlot.{OperandSlot}
use Rattle.gq_model.specs.declared.section.Section.{Section}
use Rattle.gq_model.specs.declared.section.Section.TheVariants.{Main, Opening, Upgrading, Calling, Closing, Reacting}
use Rattle.gq_model.specs.declared.program.Instruction.{Instruction}
use Rattle.gq_model.specs.declared.program.Instruction.TheVariants.{Say, Out, Operands, Make, MakePool, Load}
use Rattle.gq_model.specs.declared.program.Instruction.TheVariants.{Store, Free, Take, Give, Peek, Poke, Open, Upgrade, Call, Close}
use Rattle.gq_model.specs.machine.Program.{Statements, Done, Do, If, Loop}
use Rattle.gq_model.specs.machine.Scenario.{Component, System, LeafNode}
use Rattle.gq_model.specs.rules.Budgets.{by_link, asks, requests, section_cost, section_requests}
use Rattle.gq_model.specs.rules.Kinds.{AbstractState, Subject, Context, inside, kind_at}
use Rattle.gq_model.specs.rules.Rules.{judged, link_kind}
use Rattle.gq_model.specs.rules.Flow.{at, later, flow, state_or, body}
use Rattle.gq_model.specs.rules.Use.{Cause, The_start, A_signal, subject, is_there, from_sections, from_leaves, asked_of, provided_by, times, steps_of}
use Rattle.gq_model.specs.rules.Use.{step_budget, steps_for, steps_for_leaves, steps_for_signals}
use Rattle.gq_model.proofs.Rules_laws.{then_ok, at_ok, later_ok, if_parts, loop_ok}
use Rattle.gq_model.proofs.Small_facts.{none_some, some_same}
use Rattle.gq_sizes.specs.Unsized_equality.{ContextsAsOne, StatesAsOne, Along, Allows, ComponentsAsOne, AllComponents}
use Rattle.gq_sizes.proofs.Judgement_under_larger_gifts.{linked_back, linked_on}
use Rattle.gq_sizes.proofs.Flow_under_larger_gifts.{flow_so, instructed_so, chosen_there, inside_as_one, allows_inside}
use Rattle.gq_sizes.proofs.Equal_route_targets.{server_so}

-- REQUESTS

link_so : (service : List ℕ) (section : Section) (c d : Context) (s t : AbstractState) (place : OperandSlot) (of : ℕ → Section) → ContextsAsOne c d
    → StatesAsOne c.subject.interfaces d.subject.interfaces s t
    → by_link service section (link_kind (kind_at c s place)) of ≡ by_link service section (link_kind (kind_at d t place)) of
link_so service section c d s t place of h o = by (link_kind (kind_at c s place)) refl (link_kind (kind_at d t place)) refl
  where
    by : (p : Option (List ℕ × ℕ × Amount)) → link_kind (kind_at c s place) ≡ p → (q : Option (List ℕ × ℕ × Amount)) → link_kind (kind_at d t place) ≡ q
        → by_link service section p of ≡ by_link service section q of
    by None e None f = refl
    by None e (Some q) f = let r = linked_back c d h s t place q o f in absurd (none_some (sym e ∙ r.1))
    by (Some p) e None f = let r = linked_on c d h s t place p o e in absurd (none_some (sym f ∙ r.1))
    by (Some p) e (Some q) f =
        let r = linked_back c d h s t place q o f in
        let same : p ≡ r.0 = some_same (sym e ∙ r.1) in
        let a : p.0 ≡ q.0 = ap (λ (x : List ℕ × ℕ × Amount). x.0) same ∙ r.2 in
        let b : p.1 ≡ q.1 = ap (λ (x : List ℕ × ℕ × Amount). x.1) same ∙ r.3 in
        (λ i. by_link service section (Some (a i, b i, p.2)) of)

asks_so : (service : List ℕ) (section : Section) (c d : Context) (s t : AbstractState) (i : Instruction) → ContextsAsOne c d
    → StatesAsOne c.subject.interfaces d.subject.interfaces s t → asks service section c s i ≡ asks service section d t i
asks_so service section c d s t (Open place v n) h o = refl
asks_so service section c d s t (Upgrade place n) h o = link_so service section c d s t place (λ l. Upgrading (suc l)) h o
asks_so service section c d s t (Call place) h o = link_so service section c d s t place (λ l. Calling l) h o
asks_so service section c d s t (Close place) h o = link_so service section c d s t place (λ l. Closing l) h o
asks_so service section c d s t (Say text) h o = refl
asks_so service section c d s t Out h o = refl
asks_so service section c d s t (Operands m) h o = refl
asks_so service section c d s t (Make form place m) h o = refl
asks_so service section c d s t (MakePool place m j) h o = refl
asks_so service section c d s t (Load width place) h o = refl
asks_so service section c d s t (Store width place) h o = refl
asks_so service section c d s t (Free place) h o = refl
asks_so service section c d s t (Take place) h o = refl
asks_so service section c d s t (Give place) h o = refl
asks_so service section c d s t (Peek place) h o = refl
asks_so service section c d s t (Poke place) h o = refl

module _ (service : List ℕ) (section : Section) (A : AbstractState → Instruction → Type 0) (B : AbstractState → Type 0) where
  pub requests_so : (c d : Context) (s t u : AbstractState) (list : Statements) → ContextsAsOne c d → StatesAsOne c.subject.interfaces d.subject.interfaces s t
      → Allows A B c d → Along A B c s list → flow c s list ≡ Ok u → requests service section c s list ≡ requests service section d t list
  requests_so c d s t u Done h o g along e = refl
  requests_so c d s t u (Do i rest) h o g along e =
      let p = then_ok (at 1 (judged c s i)) (λ v. later 1 (flow c v rest)) u e in
      let here = at_ok 1 (judged c s i) p.0 p.1 in
      let after : state_or s (at 1 (judged c s i)) ≡ p.0 = ap (state_or s) p.1 in
      let r = instructed_so A B c d s t p.0 i h o g along.0 (subst B after along.1) here in
      let now : state_or t (at 1 (judged d t i)) ≡ r.0 = ap (λ j. state_or t (at 1 j)) r.1 in
      let q = requests_so c d p.0 r.0 u rest h r.2 g (subst (λ x. Along A B c x rest) after along.2) (later_ok 1 (flow c p.0 rest) u p.2) in
      let rest_same : requests service section c (state_or s (at 1 (judged c s i))) rest ≡ requests service section d (state_or t (at 1 (judged d t i))) rest =
      ap (λ x. requests service section c x rest) after ∙ q ∙ ap (λ x. requests service section d x rest) (sym now) in
      (λ k. asks_so service section c d s t i h o k + rest_same k)
  requests_so c d s t u (If arm other rest) h o g along e =
      let p = if_parts c s arm other rest u e in
      let chosen = chosen_there s p.0 p.2 in
      let s0 : AbstractState = record s { bounds = [] } in let t0 : AbstractState = record t { bounds = [] } in
      let first : flow c s0 arm ≡ Ok p.1 = subst (λ x. flow c x arm ≡ Ok p.1) chosen.2 p.3 in
      let second : flow c s0 other ≡ Ok p.1 = subst (λ x. flow c x other ≡ Ok p.1) chosen.2 p.4 in
      let o0 : StatesAsOne c.subject.interfaces d.subject.interfaces s0 t0 = record { own = o.own; bank = o.bank; bounds = refl } in
      let a = flow_so A B c d s0 t0 p.1 arm h o0 g along.0 first in
      let after : state_or s0 (flow c s0 arm) ≡ p.1 = ap (state_or s0) first in
      let now : state_or t0 (flow d t0 arm) ≡ a.0 = ap (state_or t0) a.1 in
      let x = requests_so c d s0 t0 p.1 arm h o0 g along.0 first in
      let y = requests_so c d s0 t0 p.1 other h o0 g along.1 second in
      let q = requests_so c d p.1 a.0 u rest h a.2 g (subst (λ x. Along A B c x rest) after along.2) p.5 in
      let z : requests service section c (state_or s0 (flow c s0 arm)) rest ≡ requests service section d (state_or t0 (flow d t0 arm)) rest =
      ap (λ x. requests service section c x rest) after ∙ q ∙ ap (λ x. requests service section d x rest) (sym now) in
      (λ k. max (x k) (y k) + z k)
  requests_so c d s t u (Loop n body rest) h o g along e =
      let p = loop_ok c s n body rest u e in
      let x = requests_so (inside c n) (inside d n) s t s body (inside_as_one c d n h) o (allows_inside A B c d n g) along.0 p.1 in
      let y = requests_so c d s t u rest h o g along.1 p.2 in
      (λ k. n * x k + y k)

-- TIMES

-- each section of these leaves makes the same requests
abbrev pub AskAsOne : System → System → List Component → List Component → Type 0
AskAsOne all others [] [] = Unit {0}
AskAsOne all others (c ∷ cs) (d ∷ ds) =
    ((from : Section) (service : List ℕ) (section : Section) → section_requests (subject all c) from service section ≡ section_requests (subject others d)
    from service section)
    × AskAsOne all others cs ds
AskAsOne all others _ _ = ⊥

module _ (all others : System) (same : AllComponents all.components others.components) where
  from_sections_so : (f g : Section → ℕ) (v w : Subject) (service : List ℕ) (section : Section) (pairs : List (Section × Statements))
      → ((q : Section) → f q ≡ g q)
      → ((from : Section) → section_requests v from service section ≡ section_requests w from service section)
      → from_sections f v service section pairs ≡ from_sections g w service section pairs
  from_sections_so f g v w service section [] e h = refl
  from_sections_so f g v w service section (p ∷ rest) e h = λ k. e p.0 k * h p.0 k + from_sections_so f g v w service section rest e h k

  from_leaves_so : (f g : ℕ → Section → ℕ) (x : ℕ) (service : List ℕ) (section : Section) (y : ℕ) (cs ds : List Component)
      → ((n : ℕ) (q : Section) → f n q ≡ g n q)
      → AllComponents cs ds → AskAsOne all others cs ds
      → from_leaves f all x service section y cs ≡ from_leaves g others x service section y ds
  from_leaves_so f g x service section y [] [] e h a = refl
  from_leaves_so f g x service section y [] (d ∷ ds) e h a = absurd h
  from_leaves_so f g x service section y (c ∷ cs) [] e h a = absurd h
  from_leaves_so f g x service section y (c ∷ cs) (d ∷ ds) e h a =
      let served = server_so all others c d service same h.0 in
      let sections = from_sections_so (f y) (g y) (subject all c) (subject others d) service section c.node.program.sections (e y) (λ from. a.0 from service
      section) in
      let program : from_sections (g y) (subject others d) service section c.node.program.sections ≡ from_sections (g y) (subject others d) service section
      d.node.program.sections =
      ap (λ (n : LeafNode). from_sections (g y) (subject others d) service section n.program.sections) (sym h.0.node) in
      let here = sections ∙ program in
      (λ k. (if◌then◌else◌ (is_there x (served k)) (here k) 0) + from_leaves_so f g x service section (suc y) cs ds e h.1 a.1 k)

  provided_so : (x : ℕ) (cs ds : List Component) → AllComponents cs ds → provided_by (slice_get cs x) ≡ provided_by (slice_get ds x)
  provided_so x [] [] h = refl
  provided_so x [] (d ∷ ds) h = absurd h
  provided_so x (c ∷ cs) [] h = absurd h
  provided_so zero (c ∷ cs) (d ∷ ds) h = ap (λ (n : LeafNode). n.provides) (sym h.0.node)
  provided_so (suc x) (c ∷ cs) (d ∷ ds) h = provided_so x cs ds h.1

  module _ (ask : AskAsOne all others all.components others.components) where
    asked_so : (depth : ℕ) (cause : Cause) (x : ℕ) (section : Section) → ((n : ℕ) (q : Section) → times depth cause all n q ≡ times depth cause others n q)
        → asked_of (times depth cause all) all x section (provided_by (slice_get all.components x))
        ≡ asked_of (times depth cause others) others x section (provided_by (slice_get others.components x))
    asked_so depth cause x section e =
        by (provided_by (slice_get all.components x))
        ∙ ap (asked_of (times depth cause others) others x section) (provided_so x all.components others.components same)
      where
        by : (p : Option (List ℕ)) → asked_of (times depth cause all) all x section p ≡ asked_of (times depth cause others) others x section p
        by None = refl
        by (Some service) = from_leaves_so (times depth cause all) (times depth cause others) x service section 0 all.components others.components e same ask

    times_so : (depth : ℕ) (cause : Cause) (x : ℕ) (section : Section) → times depth cause all x section ≡ times depth cause others x section
    times_so zero cause x Main = refl
    times_so zero cause x (Reacting i) = refl
    times_so zero cause x Opening = refl
    times_so zero cause x (Upgrading l) = refl
    times_so zero cause x (Calling l) = refl
    times_so zero cause x (Closing l) = refl
    times_so (suc depth) cause x Main = refl
    times_so (suc depth) cause x Opening = asked_so depth cause x Opening (times_so depth cause)
    times_so (suc depth) cause x (Upgrading l) = asked_so depth cause x (Upgrading l) (times_so depth cause)
    times_so (suc depth) cause x (Calling l) = asked_so depth cause x (Calling l) (times_so depth cause)
    times_so (suc depth) cause x (Closing l) = asked_so depth cause x (Closing l) (times_so depth cause)
    times_so (suc depth) cause x (Reacting i) = refl

    steps_so : (f g : Section → ℕ) (pairs : List (Section × Statements)) → ((q : Section) → f q ≡ g q) → steps_of f pairs ≡ steps_of g pairs
    steps_so f g [] e = refl
    steps_so f g (p ∷ rest) e = λ k. e p.0 k * section_cost p.0 p.1 + steps_so f g rest e k

    same_length : (cs ds : List Component) → AllComponents cs ds → length cs ≡ length ds
    same_length [] [] h = refl
    same_length [] (d ∷ ds) h = absurd h
    same_length (c ∷ cs) [] h = absurd h
    same_length (c ∷ cs) (d ∷ ds) h = ap suc (same_length cs ds h.1)

    cause_so : (cause : Cause) (x : ℕ) (c d : Component) → ComponentsAsOne c d → steps_for cause all x c ≡ steps_for cause others x d
    cause_so cause x c d o =
        steps_so (times (length all.components) cause all x) (times (length all.components) cause others x) c.node.program.sections
        (times_so (length all.components) cause x)
        ∙ ap (λ n. steps_of (times n cause others x) c.node.program.sections) (same_length all.components others.components same)
        ∙ ap (λ (n : LeafNode). steps_of (times (length others.components) cause others x) n.program.sections) (sym o.node)

    signals_so : (x : ℕ) (c d : Component) → ComponentsAsOne c d → (y i n : ℕ) → steps_for_signals all x c y i n ≡ steps_for_signals others x d y i n
    signals_so x c d o y i zero = refl
    signals_so x c d o y i (suc n) = λ k. cause_so (A_signal y i) x c d o k ∷ signals_so x c d o y (suc i) n k

    leaves_so : (x : ℕ) (c d : Component) → ComponentsAsOne c d → (y : ℕ) (cs ds : List Component) → AllComponents cs ds
        → steps_for_leaves all x c y cs ≡ steps_for_leaves others x d y ds
    leaves_so x c d o y [] [] h = refl
    leaves_so x c d o y [] (b ∷ ds) h = absurd h
    leaves_so x c d o y (a ∷ cs) [] h = absurd h
    leaves_so x c d o y (a ∷ cs) (b ∷ ds) h =
        let here = signals_so x c d o y 0 a.node.signals
        ∙ ap (λ (n : LeafNode). steps_for_signals others x d y 0 n.signals) (sym h.0.node) in
        (λ k. here k ∷ leaves_so x c d o (suc y) cs ds h.1 k)

    pub budget_so : (x : ℕ) (c d : Component) → ComponentsAsOne c d → step_budget all x c ≡ step_budget others x d
    budget_so x c d o =
        let start = cause_so The_start x c d o in
        let signals = leaves_so x c d o 0 all.components others.components same in
        (λ k. record { from_start = start k; for_signals = signals k })

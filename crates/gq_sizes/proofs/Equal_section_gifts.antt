-- Where quantities alone differ, sections give the same gifts.
use Rattle.std.proofs.Common.{◌≡◌, ℕ, List, [], ◌++◌, Option, Some, None, Ok, refl, ap, sym, ◌∙◌, subst}
use Rattle.gq_model.specs.machine.Amounts.{Amount}
use Rattle.gq_model.specs.declared.program.OperandSlot.{OperandSlot}
use Rattle.gq_model.specs.declared.program.Instruction.{Instruction}
use Rattle.gq_model.specs.declared.program.Instruction.TheVariants.{Say, Out, Operands, Make, MakePool, Load}
use Rattle.gq_model.specs.declared.program.Instruction.TheVariants.{Store, Free, Take, Give, Peek, Poke, Open, Upgrade, Call, Close}
use Rattle.gq_model.specs.machine.Program.{Statements, Done, Do, If, Loop}
use Rattle.gq_model.specs.rules.Kinds.{AbstractState, Context, inside, kind_at}
use Rattle.gq_model.specs.rules.Rules.{judged, link_kind}
use Rattle.gq_model.specs.rules.Flow.{at, later, flow, state_or}
use Rattle.gq_model.proofs.Rules_laws.{then_ok, at_ok, later_ok, if_parts, loop_ok}
use Rattle.gq_model.proofs.Small_facts.{none_some, some_same}
use Rattle.gq_sizes.specs.Unsized_equality.{ContextsAsOne, StatesAsOne, Along, Allows}
use Rattle.gq_sizes.specs.Size.{gift_on, gift_of, gifts}
use Rattle.gq_sizes.proofs.Judgement_under_larger_gifts.{linked_back, linked_on}
use Rattle.gq_sizes.proofs.Flow_under_larger_gifts.{flow_so, instructed_so, chosen_there, inside_as_one, allows_inside}

link_gift : (n : ℕ) (c d : Context) (s t : AbstractState) (place : OperandSlot) → ContextsAsOne c d → StatesAsOne c.subject.interfaces d.subject.interfaces s t
    → gift_on n (link_kind (kind_at c s place)) ≡ gift_on n (link_kind (kind_at d t place))
link_gift n c d s t place h o = by (link_kind (kind_at c s place)) refl (link_kind (kind_at d t place)) refl
  where
    by : (p : Option (List ℕ × ℕ × Amount)) → link_kind (kind_at c s place) ≡ p → (q : Option (List ℕ × ℕ × Amount)) → link_kind (kind_at d t place) ≡ q
        → gift_on n p ≡ gift_on n q
    by None e None f = refl
    by None e (Some q) f = let r = linked_back c d h s t place q o f in absurd (none_some (sym e ∙ r.1))
    by (Some p) e None f = let r = linked_on c d h s t place p o e in absurd (none_some (sym f ∙ r.1))
    by (Some p) e (Some q) f =
        let r = linked_back c d h s t place q o f in
        let same : p ≡ r.0 = some_same (sym e ∙ r.1) in
        let a : p.0 ≡ q.0 = ap (λ (x : List ℕ × ℕ × Amount). x.0) same ∙ r.2 in
        let b : p.1 ≡ q.1 = ap (λ (x : List ℕ × ℕ × Amount). x.1) same ∙ r.3 in
        (λ i. gift_on n (Some (a i, b i, p.2)))

gift_so : (c d : Context) (s t : AbstractState) (i : Instruction) → ContextsAsOne c d → StatesAsOne c.subject.interfaces d.subject.interfaces s t
    → gift_of c s i ≡ gift_of d t i
gift_so c d s t (Upgrade place n) h o = link_gift n c d s t place h o
gift_so c d s t (Open place v n) h o = refl
gift_so c d s t (Say text) h o = refl
gift_so c d s t Out h o = refl
gift_so c d s t (Operands m) h o = refl
gift_so c d s t (Make form place m) h o = refl
gift_so c d s t (MakePool place m j) h o = refl
gift_so c d s t (Load width place) h o = refl
gift_so c d s t (Store width place) h o = refl
gift_so c d s t (Free place) h o = refl
gift_so c d s t (Take place) h o = refl
gift_so c d s t (Give place) h o = refl
gift_so c d s t (Peek place) h o = refl
gift_so c d s t (Poke place) h o = refl
gift_so c d s t (Call place) h o = refl
gift_so c d s t (Close place) h o = refl

-- each statement's gift is the same
module _ (A : AbstractState → Instruction → Type 0) (B : AbstractState → Type 0) where
  pub gifts_so : (c d : Context) (s t u : AbstractState) (list : Statements) → ContextsAsOne c d → StatesAsOne c.subject.interfaces d.subject.interfaces s t
      → Allows A B c d → Along A B c s list → flow c s list ≡ Ok u → gifts c s list ≡ gifts d t list
  gifts_so c d s t u Done h o g along e = refl
  gifts_so c d s t u (Do i rest) h o g along e =
      let p = then_ok (at 1 (judged c s i)) (λ v. later 1 (flow c v rest)) u e in
      let here = at_ok 1 (judged c s i) p.0 p.1 in
      let after : state_or s (at 1 (judged c s i)) ≡ p.0 = ap (state_or s) p.1 in
      let r = instructed_so A B c d s t p.0 i h o g along.0 (subst B after along.1) here in
      let now : state_or t (at 1 (judged d t i)) ≡ r.0 = ap (λ j. state_or t (at 1 j)) r.1 in
      let q = gifts_so c d p.0 r.0 u rest h r.2 g (subst (λ x. Along A B c x rest) after along.2) (later_ok 1 (flow c p.0 rest) u p.2) in
      let rest_same : gifts c (state_or s (at 1 (judged c s i))) rest ≡ gifts d (state_or t (at 1 (judged d t i))) rest =
      ap (λ x. gifts c x rest) after ∙ q ∙ ap (λ x. gifts d x rest) (sym now) in
      (λ k. gift_so c d s t i h o k ++ rest_same k)
  gifts_so c d s t u (If arm other rest) h o g along e =
      let p = if_parts c s arm other rest u e in
      let chosen = chosen_there s p.0 p.2 in
      let s0 : AbstractState = record s { bounds = [] } in let t0 : AbstractState = record t { bounds = [] } in
      let first : flow c s0 arm ≡ Ok p.1 = subst (λ x. flow c x arm ≡ Ok p.1) chosen.2 p.3 in
      let second : flow c s0 other ≡ Ok p.1 = subst (λ x. flow c x other ≡ Ok p.1) chosen.2 p.4 in
      let o0 : StatesAsOne c.subject.interfaces d.subject.interfaces s0 t0 = record { own = o.own; bank = o.bank; bounds = refl } in
      let a = flow_so A B c d s0 t0 p.1 arm h o0 g along.0 first in
      let after : state_or s0 (flow c s0 arm) ≡ p.1 = ap (state_or s0) first in
      let now : state_or t0 (flow d t0 arm) ≡ a.0 = ap (state_or t0) a.1 in
      let x = gifts_so c d s0 t0 p.1 arm h o0 g along.0 first in
      let y = gifts_so c d s0 t0 p.1 other h o0 g along.1 second in
      let q = gifts_so c d p.1 a.0 u rest h a.2 g (subst (λ x. Along A B c x rest) after along.2) p.5 in
      let z : gifts c (state_or s0 (flow c s0 arm)) rest ≡ gifts d (state_or t0 (flow d t0 arm)) rest =
      ap (λ x. gifts c x rest) after ∙ q ∙ ap (λ x. gifts d x rest) (sym now) in
      (λ k. x k ++ y k ++ z k)
  gifts_so c d s t u (Loop n body rest) h o g along e =
      let p = loop_ok c s n body rest u e in
      let x = gifts_so (inside c n) (inside d n) s t s body (inside_as_one c d n h) o (allows_inside A B c d n g) along.0 p.1 in
      let y = gifts_so c d s t u rest h o g along.1 p.2 in
      (λ k. x k ++ y k)

-- Lists of statements that break no rule, with other quantities that give what is asked for.
use Rattle.std.proofs.Common.{◌≡◌, ℕ, ◌+◌, ◌&&◌, true, List, [], ◌∷◌, ◌++◌, Ok, refl, ap, sym, ◌∙◌, subst}
use Rattle.std.specs.Prelude.{◌==◌}
use Rattle.gq_model.specs.machine.Amounts.{same_amount}
use Rattle.gq_model.specs.declared.program.Form.{Form}
use Rattle.gq_model.specs.declared.program.Form.TheVariants.{Block, Slice, Space}
use Rattle.gq_model.specs.declared.program.OperandSlot.{OperandSlot}
use Rattle.gq_model.specs.declared.program.OperandSlot.TheVariants.{Own, Shared, Object}
use Rattle.gq_model.specs.declared.program.Instruction.{Instruction}
use Rattle.gq_model.specs.declared.program.Instruction.TheVariants.{Say, Out, Operands, Make, MakePool, Load}
use Rattle.gq_model.specs.declared.program.Instruction.TheVariants.{Store, Free, Take, Give, Peek, Poke, Open, Upgrade, Call, Close}
use Rattle.gq_model.specs.declared.fault.Rule.TheVariants.{LeftoverOperand, JoinDiffers}
use Rattle.gq_model.specs.machine.Program.{Statements, Done, Do, If, Loop, size, text_eq}
use Rattle.gq_model.specs.machine.Scenario.{Interfaces}
use Rattle.gq_model.specs.rules.Kinds.{Kind, Empty_kind, Memory, Pool_kind, Link_kind, AbstractState, Context, inside, kind_at, same_kind, same_kinds}
use Rattle.gq_model.specs.rules.Rules.{Judged, must, top, judge, judged, and_then, within_need, link_kind}
use Rattle.gq_model.specs.rules.Flow.{Flowed, at, later, flow_then, is_nil, none_left, chosen_from, join, flow, state_or, points}
use Rattle.gq_model.proofs.Small_facts.{text_self, equal_self}
use Rattle.gq_model.proofs.Rules_laws.{then_ok, at_ok, later_ok, loop_ok, join_ok, if_parts}
use Rattle.gq_laws.proofs.statement_rules.Ruled_step_shapes.{judged_alone, top_there}
use Rattle.gq_sizes.specs.Unsized_equality.{ContextsAsOne, KindsAsOne, BanksAsOne, StatesAsOne, Affords, Along, Allows, PointsAsOne, caps_for}
use Rattle.gq_sizes.proofs.Judgement_under_larger_gifts.{judged_so}

-- LOOPS

pub inside_as_one : (c d : Context) (n : ℕ) → ContextsAsOne c d → ContextsAsOne (inside c n) (inside d n)
inside_as_one c d n h = record { subject = h.subject; section = h.section; counts = ap (λ (l : List ℕ). n ∷ l) h.counts }

at_inside : (d : Context) (n : ℕ) (t : AbstractState) (place : OperandSlot) → kind_at (inside d n) t place ≡ kind_at d t place
at_inside d n t (Own i) = refl
at_inside d n t (Shared i) = refl
at_inside d n t Object = refl

affords_inside : (d : Context) (n : ℕ) (t : AbstractState) (i : Instruction) → Affords d t i → Affords (inside d n) t i
affords_inside d n t (Open place service m) a = a
affords_inside d n t (Upgrade place m) a = λ service level given i e f. a service level given i (ap link_kind (sym (at_inside d n t place)) ∙ e) f
affords_inside d n t (Say text) a = a
affords_inside d n t Out a = a
affords_inside d n t (Operands m) a = a
affords_inside d n t (Make form place m) a = a
affords_inside d n t (MakePool place m k) a = a
affords_inside d n t (Load width place) a = a
affords_inside d n t (Store width place) a = a
affords_inside d n t (Free place) a = a
affords_inside d n t (Take place) a = a
affords_inside d n t (Give place) a = a
affords_inside d n t (Peek place) a = a
affords_inside d n t (Poke place) a = a
affords_inside d n t (Call place) a = a
affords_inside d n t (Close place) a = a

pub allows_inside : (A : AbstractState → Instruction → Type 0) (B : AbstractState → Type 0) (c d : Context) (n : ℕ) → Allows A B c d → Allows A B (inside c n)
    (inside d n)
allows_inside A B c d n g = record {
  affords = λ s t i o a. affords_inside d n t i (g.affords s t i o a);
  covers = λ s t o b. g.covers s t o b;
}

-- JOINS

-- two kinds that are as one with the same third are the same
same_from : (xs ys : Interfaces) (k l m : Kind) → KindsAsOne xs ys k l → KindsAsOne xs ys k m → same_kind l m ≡ true
same_from xs ys Empty_kind l m e f = ap (λ x. same_kind x m) e ∙ ap (same_kind Empty_kind) f
same_from xs ys (Memory form n) l m e f = ap (λ x. same_kind x m) e ∙ ap (same_kind (Memory form n)) f ∙ by form
  where
    by : (form : Form) → same_kind (Memory form n) (Memory form n) ≡ true
    by Block = equal_self n
    by Slice = equal_self n
    by Space = equal_self n
same_from xs ys (Pool_kind n p) l m e f =
    ap (λ x. same_kind x m) e ∙ ap (same_kind (Pool_kind n p)) f ∙ (λ i. equal_self n i && equal_self p i)
same_from xs ys (Link_kind s l a) Empty_kind m e f = absurd e
same_from xs ys (Link_kind s l a) (Memory form n) m e f = absurd e
same_from xs ys (Link_kind s l a) (Pool_kind n p) m e f = absurd e
same_from xs ys (Link_kind s l a) (Link_kind t k b) Empty_kind e f = absurd f
same_from xs ys (Link_kind s l a) (Link_kind t k b) (Memory form n) e f = absurd f
same_from xs ys (Link_kind s l a) (Link_kind t k b) (Pool_kind n p) e f = absurd f
same_from xs ys (Link_kind s l a) (Link_kind t k b) (Link_kind u j g) e f =
    let caps : b.caps ≡ g.caps = e.4 ∙ (λ i. caps_for ys ((sym e.0 ∙ f.0) i) ((sym e.1 ∙ f.1) i)) ∙ sym f.4 in
    let ram : b.ram ≡ g.ram = sym e.2 ∙ f.2 in
    ap (λ x. text_eq t x && k == j && same_amount b g) (sym f.0 ∙ e.0) ∙ ap (λ x. text_eq t t && k == x && same_amount b g) (sym f.1 ∙ e.1)
    ∙ ap (λ x. text_eq t t && k == k && (b.ram == x && b.caps == g.caps)) (sym ram) ∙ ap (λ x. text_eq t t && k == k && (b.ram == b.ram && b.caps == x)) (sym
    caps)
    ∙ (λ i. text_self t i && equal_self k i && (equal_self b.ram i && equal_self b.caps i))

pub banks_from : (xs ys : Interfaces) (ks ls ms : List Kind) → BanksAsOne xs ys ks ls → BanksAsOne xs ys ks ms → same_kinds ls ms ≡ true
banks_from xs ys [] [] [] e f = refl
banks_from xs ys [] [] (m ∷ ms) e f = absurd f
banks_from xs ys [] (l ∷ ls) ms e f = absurd e
banks_from xs ys (k ∷ ks) [] ms e f = absurd e
banks_from xs ys (k ∷ ks) (l ∷ ls) [] e f = absurd f
banks_from xs ys (k ∷ ks) (l ∷ ls) (m ∷ ms) e f = λ i. same_from xs ys k l m e.0 f.0 i && banks_from xs ys ks ls ms e.1 f.1 i

pub joined : (xs ys : Interfaces) (s t u : AbstractState) → StatesAsOne xs ys s t → StatesAsOne xs ys s u → s.bounds ≡ [] → join t u ≡ Ok t
joined xs ys s t u o p none =
    let tn : t.bounds ≡ [] = sym o.bounds ∙ none in
    let un : u.bounds ≡ [] = sym p.bounds ∙ none in
    (λ i. must (is_nil (tn i) && is_nil (un i)) LeftoverOperand (must (same_kinds t.own u.own && same_kinds t.bank u.bank) JoinDiffers (Ok t)))
    ∙ (λ i. must (banks_from xs ys s.own t.own u.own o.own p.own i && banks_from xs ys s.bank t.bank u.bank o.bank p.bank i) JoinDiffers (Ok t))

-- IFS

pub chosen_there : (s t : AbstractState) → chosen_from s ≡ Ok t → (a : ℕ) × (s.bounds ≡ a ∷ []) × (t ≡ record s { bounds = [] })
chosen_there s t e =
    let p = top_there s.bounds (λ a rest. none_left (record s { bounds = rest })) t e in
    by p.0 p.1 p.2 p.3
  where
    by : (a : ℕ) (rest : List ℕ) → s.bounds ≡ a ∷ rest → none_left (record s { bounds = rest }) ≡ Ok t
        → (a : ℕ) × (s.bounds ≡ a ∷ []) × (t ≡ record s { bounds = [] })
    by a [] e f = (a, e, sym (ap (λ r. state_or t (at 1 r)) f))
    by a (b ∷ rest) e f = absurd cc

chosen_now : (t : AbstractState) (a : ℕ) → t.bounds ≡ a ∷ [] → chosen_from t ≡ Ok (record t { bounds = [] })
chosen_now t a e =
    (λ i. top_by (e i))
  where
    top_by : List ℕ → Judged
    top_by l = top l (λ a rest. none_left (record t { bounds = rest }))

-- both arms leave no operand
no_operands : (c : Context) (s : AbstractState) (arm other rest : Statements) (u t v : AbstractState) → flow c s (If arm other rest) ≡ Ok u → chosen_from s ≡
    Ok t
    → flow c t arm ≡ Ok v → flow c t other ≡ Ok v → v.bounds ≡ []
no_operands c s arm other rest u t v e chosen first second =
    let n = 1 + size arm + size other in
    let go = λ (r q : Flowed). flow_then (later 1 r) (λ w. flow_then (later (1 + size arm) q) (λ x. flow_then (at 1 (join w x)) (λ y. later n (flow c y
    rest)))) in
    let a : flow_then (at 1 (chosen_from s)) (λ y. go (flow c y arm) (flow c y other)) ≡ Ok u = e in
    let b : go (flow c t arm) (flow c t other) ≡ Ok u = subst (λ r. flow_then (at 1 r) (λ y. go (flow c y arm) (flow c y other)) ≡ Ok u) chosen a in
    let d : go (Ok v) (Ok v) ≡ Ok u = subst (λ r. go r (Ok v) ≡ Ok u) first (subst (λ q. go (flow c t arm) q ≡ Ok u) second b) in
    let j = then_ok (at 1 (join v v)) (λ y. later n (flow c y rest)) u d in
    (join_ok v v j.0 (at_ok 1 (join v v) j.0 j.1)).1

do_ok : (c : Context) (s v w : AbstractState) (i : Instruction) (rest : Statements) → judged c s i ≡ Ok v → flow c v rest ≡ Ok w → flow c s (Do i rest) ≡ Ok w
do_ok c s v w i rest e f = (λ k. flow_then (at 1 (e k)) (λ x. later 1 (flow c x rest))) ∙ ap (later 1) f

if_ok : (c : Context) (s t u v w : AbstractState) (arm other rest : Statements) → chosen_from s ≡ Ok t → flow c t arm ≡ Ok u → flow c t other ≡ Ok v
    → join u v ≡ Ok u → flow c u rest ≡ Ok w → flow c s (If arm other rest) ≡ Ok w
if_ok c s t u v w arm other rest chosen first second meet last =
    let n = 1 + size arm + size other in
    let go = λ (r q : Flowed). flow_then (later 1 r) (λ w. flow_then (later (1 + size arm) q) (λ x. flow_then (at 1 (join w x)) (λ y. later n (flow c y
    rest)))) in
    (λ k. flow_then (at 1 (chosen k)) (λ y. go (flow c y arm) (flow c y other))) ∙ (λ k. go (first k) (flow c t other)) ∙ (λ k. go (Ok u) (second k))
    ∙ (λ k. flow_then (at 1 (meet k)) (λ y. later n (flow c y rest))) ∙ ap (later n) last

loop_now : (c : Context) (s t w : AbstractState) (n : ℕ) (body rest : Statements) → s.bounds ≡ [] → flow (inside c n) s body ≡ Ok t → join s t ≡ Ok s
    → flow c s rest ≡ Ok w → flow c s (Loop n body rest) ≡ Ok w
loop_now c s t w n body rest none round meet last =
    let go = λ (r : Flowed). flow_then (later 1 r) (λ v. flow_then (at 1 (join s v)) (λ y. later (1 + size body) (flow c y rest))) in
    (λ k. flow_then (at 1 (must (is_nil (none k)) LeftoverOperand (Ok s))) (λ t. flow_then (later 1 (flow (inside c n) t body))
    (λ v. flow_then (at 1 (join t v)) (λ y. later (1 + size body) (flow c y rest)))))
    ∙ (λ k. go (round k)) ∙ (λ k. flow_then (at 1 (meet k)) (λ y. later (1 + size body) (flow c y rest))) ∙ ap (later (1 + size body)) last

-- LISTS OF STATEMENTS

covered_ok : (c : Context) (s u : AbstractState) (i : Instruction) → judge c s i ≡ Ok u → within_need c.section c.subject.provided u ≡ Ok u → judged c s i ≡ Ok
    u
covered_ok c s u i e f = (λ k. and_then (e k) (within_need c.section c.subject.provided)) ∙ f

module _ (A : AbstractState → Instruction → Type 0) (B : AbstractState → Type 0) where
  -- an instruction, and what the session costs after it
  pub instructed_so : (c d : Context) (s t u : AbstractState) (i : Instruction) → ContextsAsOne c d → StatesAsOne c.subject.interfaces d.subject.interfaces s t
      → Allows A B c d → A s i → B u → judged c s i ≡ Ok u
      → (v : AbstractState) × (judged d t i ≡ Ok v) × StatesAsOne c.subject.interfaces d.subject.interfaces u v
  instructed_so c d s t u i h o g a b e =
      let r = judged_so c d h s t u i o (g.affords s t i o a) (judged_alone c s i u e) in
      (r.0, covered_ok d t r.0 i r.1 (g.covers u r.0 r.2 b), r.2)

  pub flow_so : (c d : Context) (s t u : AbstractState) (body : Statements) → ContextsAsOne c d → StatesAsOne c.subject.interfaces d.subject.interfaces s t
      → Allows A B c d → Along A B c s body → flow c s body ≡ Ok u
      → (v : AbstractState) × (flow d t body ≡ Ok v) × StatesAsOne c.subject.interfaces d.subject.interfaces u v
  flow_so c d s t u Done h o g along e =
      (t, refl, subst (λ x. StatesAsOne c.subject.interfaces d.subject.interfaces x t) (ap (state_or s) e) o)
  flow_so c d s t u (Do i rest) h o g along e =
      let p = then_ok (at 1 (judged c s i)) (λ v. later 1 (flow c v rest)) u e in
      let here = at_ok 1 (judged c s i) p.0 p.1 in
      let after : state_or s (at 1 (judged c s i)) ≡ p.0 = ap (state_or s) p.1 in
      let r = instructed_so c d s t p.0 i h o g along.0 (subst B after along.1) here in
      let q = flow_so c d p.0 r.0 u rest h r.2 g (subst (λ x. Along A B c x rest) after along.2) (later_ok 1 (flow c p.0 rest) u p.2) in
      (q.0, do_ok d t r.0 q.0 i rest r.1 q.1, q.2)
  flow_so c d s t u (If arm other rest) h o g along e =
      let p = if_parts c s arm other rest u e in
      let chosen = chosen_there s p.0 p.2 in
      let none = no_operands c s arm other rest u p.0 p.1 e p.2 p.3 p.4 in
      let s0 : AbstractState = record s { bounds = [] } in let t0 : AbstractState = record t { bounds = [] } in
      let first : flow c s0 arm ≡ Ok p.1 = subst (λ x. flow c x arm ≡ Ok p.1) chosen.2 p.3 in
      let second : flow c s0 other ≡ Ok p.1 = subst (λ x. flow c x other ≡ Ok p.1) chosen.2 p.4 in
      let o0 : StatesAsOne c.subject.interfaces d.subject.interfaces s0 t0 = record { own = o.own; bank = o.bank; bounds = refl } in
      let a = flow_so c d s0 t0 p.1 arm h o0 g along.0 first in
      let b = flow_so c d s0 t0 p.1 other h o0 g along.1 second in
      let after : state_or s0 (flow c s0 arm) ≡ p.1 = ap (state_or s0) first in
      let q = flow_so c d p.1 a.0 u rest h a.2 g (subst (λ x. Along A B c x rest) after along.2) p.5 in (
        q.0,
        if_ok d t t0 a.0 b.0 q.0 arm other rest (chosen_now t chosen.0 (sym o.bounds ∙ chosen.1)) a.1 b.1
            (joined c.subject.interfaces d.subject.interfaces p.1 a.0 b.0 a.2 b.2 none) q.1,
        q.2,
      )
  flow_so c d s t u (Loop n body rest) h o g along e =
      let p = loop_ok c s n body rest u e in
      let a = flow_so (inside c n) (inside d n) s t s body (inside_as_one c d n h) o (allows_inside A B c d n g) along.0 p.1 in
      let q = flow_so c d s t u rest h o g along.1 p.2 in
      (q.0, loop_now d t a.0 q.0 n body rest (sym o.bounds ∙ p.0) a.1 (joined c.subject.interfaces d.subject.interfaces s t a.0 o a.2 p.0) q.1, q.2)

  -- POINTS

  both_points : (xs ys : Interfaces) (ss ts us vs : List AbstractState) → PointsAsOne xs ys ss ts → PointsAsOne xs ys us vs → PointsAsOne xs ys (ss ++ us)
      (ts ++ vs)
  both_points xs ys [] [] us vs h k = k
  both_points xs ys [] (t ∷ ts) us vs h k = absurd h
  both_points xs ys (s ∷ ss) [] us vs h k = absurd h
  both_points xs ys (s ∷ ss) (t ∷ ts) us vs h k = (h.0, both_points xs ys ss ts us vs h.1 k)

  pub points_so : (c d : Context) (s t u : AbstractState) (body : Statements) → ContextsAsOne c d → StatesAsOne c.subject.interfaces d.subject.interfaces s t
      → Allows A B c d → Along A B c s body → flow c s body ≡ Ok u → PointsAsOne c.subject.interfaces d.subject.interfaces (points c s body) (points d t body)
  points_so c d s t u Done h o g along e = (o, tt)
  points_so c d s t u (Do i rest) h o g along e =
      let p = then_ok (at 1 (judged c s i)) (λ v. later 1 (flow c v rest)) u e in
      let here = at_ok 1 (judged c s i) p.0 p.1 in
      let after : state_or s (at 1 (judged c s i)) ≡ p.0 = ap (state_or s) p.1 in
      let r = instructed_so c d s t p.0 i h o g along.0 (subst B after along.1) here in
      let then : state_or t (at 1 (judged d t i)) ≡ r.0 = ap (λ j. state_or t (at 1 j)) r.1 in
      let q = points_so c d p.0 r.0 u rest h r.2 g (subst (λ x. Along A B c x rest) after along.2) (later_ok 1 (flow c p.0 rest) u p.2) in (
        o,
        subst (λ x. PointsAsOne c.subject.interfaces d.subject.interfaces (points c x rest) (points d (state_or t (at 1 (judged d t i))) rest)) (sym after)
            (subst (λ y. PointsAsOne c.subject.interfaces d.subject.interfaces (points c p.0 rest) (points d y rest)) (sym then) q),
      )
  points_so c d s t u (If arm other rest) h o g along e =
      let p = if_parts c s arm other rest u e in
      let chosen = chosen_there s p.0 p.2 in
      let s0 : AbstractState = record s { bounds = [] } in let t0 : AbstractState = record t { bounds = [] } in
      let first : flow c s0 arm ≡ Ok p.1 = subst (λ x. flow c x arm ≡ Ok p.1) chosen.2 p.3 in
      let second : flow c s0 other ≡ Ok p.1 = subst (λ x. flow c x other ≡ Ok p.1) chosen.2 p.4 in
      let o0 : StatesAsOne c.subject.interfaces d.subject.interfaces s0 t0 = record { own = o.own; bank = o.bank; bounds = refl } in
      let a = flow_so c d s0 t0 p.1 arm h o0 g along.0 first in
      let after : state_or s0 (flow c s0 arm) ≡ p.1 = ap (state_or s0) first in
      let then : state_or t0 (flow d t0 arm) ≡ a.0 = ap (state_or t0) a.1 in
      let q = points_so c d p.1 a.0 u rest h a.2 g (subst (λ x. Along A B c x rest) after along.2) p.5 in
      let xs = c.subject.interfaces in let ys = d.subject.interfaces in (
        o,
        both_points xs ys (points c s0 arm ++ points c s0 other) (points d t0 arm ++ points d t0 other) _ _
            (both_points xs ys (points c s0 arm) (points d t0 arm) _ _ (points_so c d s0 t0 p.1 arm h o0 g along.0 first)
            (points_so c d s0 t0 p.1 other h o0 g along.1 second))
            (subst (λ x. PointsAsOne xs ys (points c x rest) (points d (state_or t0 (flow d t0 arm)) rest)) (sym after)
            (subst (λ y. PointsAsOne xs ys (points c p.1 rest) (points d y rest)) (sym then) q)),
      )
  points_so c d s t u (Loop n body rest) h o g along e =
      let p = loop_ok c s n body rest u e in
      let xs = c.subject.interfaces in let ys = d.subject.interfaces in (
        o,
        both_points xs ys (points (inside c n) s body) (points (inside d n) t body) _ _
            (points_so (inside c n) (inside d n) s t s body (inside_as_one c d n h) o (allows_inside A B c d n g) along.0 p.1)
            (points_so c d s t u rest h o g along.1 p.2),
      )

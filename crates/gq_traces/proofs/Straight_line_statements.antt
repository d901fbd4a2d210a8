-- Statements with none in them that stand one after the other.
use Rattle.std.proofs.Common.{◌≡◌, ◌∙◌, ℕ, zero, suc, ◌+◌, ◌-◌, ◌<◌, ◌≤◌, List, [], ◌∷◌, length, map, get_or, Option, Some, None, refl, ap, sym, subst, arith}
use Rattle.std.specs.Prelude.{slice_get, slice_set}
use Rattle.std.proofs.lemmas.Option.{get_or_from_slice_get, slice_get-get_or}
use Rattle.gq_bytecode.specs.Nexts.{GoesAlone, leaf_with}
use Rattle.gq_laws.proofs.session_links.Written_world_links.{set_here}
use Rattle.gq_model.proofs.Small_facts.{none_some, set_there, some_same}
use Rattle.gq_model.specs.machine.Scenario.{Component, System}
use Rattle.gq_model.specs.machine.World.{Leaf, World, with_leaf}
use Rattle.gq_traces.specs.Step_positions.{past}
use Rattle.gq_traces.specs.declared.numbered_program.NumberedStatement.{NumberedStatement}
use Rattle.gq_traces.specs.declared.numbered_program.NumberedProgram.{NumberedProgram as Entries}
use Rattle.gq_traces.specs.declared.numbered_program.Way.{Way}
use Rattle.gq_traces.specs.declared.numbered_program.Way.TheVariants as way
use Rattle.gq_traces.specs.declared.tracker.Ahead as places
use Rattle.gq_traces.specs.internal.Alone_positions.{IsStraight, StepsAlone, entries_of, next_of}
use Rattle.gq_traces.specs.internal.Flat.{AllStand, ArePrograms, plain_after, plain_ahead, plain_at, plain_way, then_plain}
use Rattle.gq_traces.specs.internal.Printed_steps.{IsTop, PassesBy}
use Rattle.gq_traces.proofs.Leaves_standing.{ahead_here, programs_long, stand_long, stands_then, there_is}
use Rattle.gq_traces.proofs.Position_after_step.{pass_plain}

-- WHERE THEY LEAD

then_found : (o : Option (Option ℕ)) (f : Option ℕ → Option (Option ℕ)) (to : Option ℕ) → then_plain o f ≡ Some to
    → (q : Option ℕ) × (o ≡ Some q) × (f q ≡ Some to)
then_found None f to e = absurd (none_some e)
then_found (Some q) f to e = (q, refl, e)

then_is : (o : Option (Option ℕ)) (q : Option ℕ) (f : Option ℕ → Option (Option ℕ)) → o ≡ Some q → then_plain o f ≡ f q
then_is o q f e = ap (λ k. then_plain k f) e

one_more : (es : List NumberedStatement) (n : ℕ) (from next after : Option ℕ) → plain_ahead es n from ≡ Some next → plain_after es next ≡ Some after
    → plain_ahead es (suc n) from ≡ Some after
one_more es zero from next after h e = then_is (plain_after es from) after (plain_ahead es 0) (ap (plain_after es) (some_same h) ∙ e)
one_more es (suc n) from next after h e =
    let q = then_found (plain_after es from) (plain_ahead es n) next h in
    then_is (plain_after es from) q.0 (plain_ahead es (suc n)) q.1 ∙ one_more es n q.0 next after q.2 e

pub plain_more : (es : List NumberedStatement) (n : ℕ) (from next after : Option ℕ) → plain_ahead es n from ≡ Some next → plain_after es next ≡ Some after
    → plain_ahead es (n + 1) from ≡ Some after
plain_more es n from next after h e =
    let one : n + 1 ≡ suc n = omega arith in ap (λ k. plain_ahead es k from) one ∙ one_more es n from next after h e

-- where there is none that they lead to, so many can't be
pub plain_stops : (es : List NumberedStatement) (r n : ℕ) (from next to : Option ℕ) → plain_ahead es r from ≡ Some next → plain_after es next ≡ None → r < n
    → plain_ahead es n from ≡ Some to → ⊥
plain_stops es zero zero from next to h none less g = absurd (omega (arith, less))
plain_stops es zero (suc n) from next to h none less g =
    let q = then_found (plain_after es from) (plain_ahead es n) to g in none_some (sym none ∙ ap (plain_after es) (sym (some_same h)) ∙ q.1)
plain_stops es (suc r) zero from next to h none less g = absurd (omega (arith, less))
plain_stops es (suc r) (suc n) from next to h none less g =
    let p = then_found (plain_after es from) (plain_ahead es r) next h in
    let q = then_found (plain_after es from) (plain_ahead es n) to g in
    plain_stops es r n p.0 next to p.2 none (omega (arith, less)) (ap (plain_ahead es n) (some_same (sym p.1 ∙ q.1)) ∙ q.2)

-- so that as many are found as are looked for
pub all_found : (es : List NumberedStatement) (r most n : ℕ) (from next to : Option ℕ) → r ≤ most → plain_ahead es r from ≡ Some next
    → (r < most → plain_after es next ≡ None) → most ≤ n → plain_ahead es n from ≡ Some to → r ≡ most
all_found es r most n from next to few h stops le g = by (most - r) refl
  where
    by : (d : ℕ) → most - r ≡ d → r ≡ most
    by zero e = omega (arith, few, e)
    by (suc d) e =
        let less : r < most = omega (arith, few, e) in absurd (plain_stops es r n from next to h (stops less) (omega (arith, less, le)) g)

-- the statement from which one leads on
record Found (es : List NumberedStatement) (next after : Option ℕ) : Type 0 where
  place : ℕ
  entry : NumberedStatement
  text : _
  at : next ≡ Some place
  there : slice_get es place ≡ Some entry
  is : entry.way ≡ way.Plain text after

found : (es : List NumberedStatement) (next after : Option ℕ) → plain_after es next ≡ Some after → Found es next after
found es None after e = absurd (none_some e)
found es (Some place) after e = at (slice_get es place) refl e
  where
    by : (entry : NumberedStatement) → slice_get es place ≡ Some entry → (w : Way) → entry.way ≡ w → plain_way w ≡ Some after → Found es (Some place) after
    by entry there (way.Plain text next) is e =
        record { place = place; entry = entry; text = text; at = refl; there = there; is = is ∙ ap (way.Plain text) (some_same e) }
    by entry there (way.If arm other) is e = absurd (none_some e)
    by entry there (way.Loop count body next) is e = absurd (none_some e)

    at : (o : Option NumberedStatement) → slice_get es place ≡ o → plain_at o ≡ Some after → Found es (Some place) after
    at None there e = absurd (none_some e)
    at (Some entry) there e = by entry there entry.way refl e

-- LISTS

set_again : {A : Type 0} (items : List A) (i : ℕ) (a b : A) → slice_set (slice_set items i a) i b ≡ slice_set items i b
set_again [] i a b = refl
set_again (c ∷ items) zero a b = refl
set_again (c ∷ items) (suc i) a b = ap (λ l. c ∷ l) (set_again items i a b)

-- STEPS

abbrev going_to : places.Ahead → Option ℕ → places.Ahead
going_to a to = record a { next = to }

module _ (programs : List Entries) (x : ℕ) (within : x < length programs) (es : Entries) (is : slice_get programs x ≡ Some es) where
  -- past one of them
  passes_plain : (old : List places.Ahead) (a : places.Ahead) (to : Option ℕ) → slice_get old x ≡ Some a → plain_after es.entries.items a.next ≡ Some to
      → (operands : List ℕ) → PassesBy programs old (slice_set old x (going_to a to)) x operands
  passes_plain old a to at e operands ts t aheads there =
      let f = found es.entries.items a.next to e in
      let es_is = sym (get_or_from_slice_get programs x es es is) in
      let a_is = sym (get_or_from_slice_get old x a a at) in
      let here = ahead_here programs old x within x x refl refl es a es_is a_is ts t aheads there in
      stands_then programs old x within x x refl refl es a es_is a_is ts (going_to a to) (past operands t.todo t.loops) aheads
      (pass_plain es.entries.items a f.place f.at f.entry f.there (going_to a to) operands t here f.text f.is refl)

  -- past so many of them, in steps that the leaf takes alone
  pub straight_steps : (system : System) (n : ℕ) (w v : World) (old : List places.Ahead) (a : places.Ahead) (to : Option ℕ) → slice_get old x ≡ Some a
      → GoesAlone system x n w v → plain_ahead es.entries.items n a.next ≡ Some to → StepsAlone system programs x n w v old (slice_set old x (going_to a to))
  straight_steps system zero w v old a to at goes e =
      (goes, sym (ap (λ k. slice_set old x (going_to a k)) (sym (some_same e)) ∙ set_there old x a at))
  straight_steps system (suc n) w v old a to at goes e =
      let q = then_found (plain_after es.entries.items a.next) (plain_ahead es.entries.items n) to e in
      let mid = slice_set old x (going_to a q.0) in
      let next = with_leaf w x (leaf_with goes.0 goes.1) in
      let rest = straight_steps system n next v mid (going_to a q.0) to (set_here old x (going_to a q.0) a at) goes.5 q.2 in (
        goes.0,
        goes.1,
        mid,
        goes.2,
        goes.3,
        goes.4,
        passes_plain old a q.0 at q.1 goes.0.operands,
        subst (StepsAlone system programs x n next v mid) (set_again old x (going_to a q.0) (going_to a to)) rest,
      )

-- past one step of any kind, by the top operand
pub one_step : (system : System) (programs : List Entries) (x n : ℕ) (w v : World) (old new : List places.Ahead) (top : Option ℕ) → n ≡ 1
    → GoesAlone system x n w v → ((l : Leaf) → slice_get w.leaves x ≡ Some l → IsTop top l.operands)
    → ((operands : List ℕ) → IsTop top operands → PassesBy programs old new x operands) → StepsAlone system programs x 1 w v old new
one_step system programs x n w v old new top one goes at passes =
    let h : GoesAlone system x 1 w v = subst (λ k. GoesAlone system x k w v) one goes in
    (h.0, h.1, new, h.2, h.3, h.4, passes h.0.operands (at h.0 h.2), (h.5, refl))

-- none
pub no_step : (system : System) (programs : List Entries) (x n : ℕ) (w v : World) (old : List places.Ahead) → n ≡ 0 → GoesAlone system x n w v
    → StepsAlone system programs x 0 w v old old
no_step system programs x n w v old none goes = (subst (λ k. GoesAlone system x k w v) none goes, refl)

-- WHERE A LEAF STANDS

pub item_at : {A : Type 0} (items : List A) (x n : ℕ) (a : A) → x < length items → n ≡ x → a ≡ get_or items n a → slice_get items x ≡ Some a
item_at items x n a within at is = slice_get-get_or items x a within ∙ ap Some (sym (is ∙ ap (λ k. get_or items k a) at))

module _ (programs : List Entries) (stands : List places.Ahead) (x : ℕ) (es : Entries) (a : places.Ahead) (is : slice_get programs x ≡ Some es)
    (at : slice_get stands x ≡ Some a) where
  pub straight_at : (n : ℕ) (to : Option ℕ) → plain_ahead es.entries.items n a.next ≡ Some to → IsStraight programs stands x n to
  straight_at n to h = (λ i. plain_ahead (entries_of (is i)) n (next_of (at i))) ∙ h

  pub straight_of : (n : ℕ) (to : Option ℕ) → IsStraight programs stands x n to → plain_ahead es.entries.items n a.next ≡ Some to
  straight_of n to h = sym (λ i. plain_ahead (entries_of (is i)) n (next_of (at i))) ∙ h

-- past as many as it takes
pub taken_straight : (cs : List Component) (system : System) (programs : List Entries) (x n : ℕ) (w v : World) (old new : List places.Ahead) (to : Option ℕ)
    → x < length cs → ArePrograms programs (map (λ c. c.node.program) cs) → AllStand programs old → GoesAlone system x n w v → IsStraight programs old x n to
    → ((a : places.Ahead) → slice_get old x ≡ Some a → new ≡ slice_set old x (going_to a to)) → StepsAlone system programs x n w v old new
taken_straight cs system programs x n w v old new to less are stand goes straight set =
    let long = programs_long programs cs are in
    let within : x < length programs = omega (arith, less, long) in
    let as_long = stand_long programs old stand in
    let es = there_is programs x within in
    let a = there_is old x (omega (arith, within, as_long)) in
    subst (StepsAlone system programs x n w v old) (sym (set a.0 a.1))
    (straight_steps programs x within es.0 es.1 system n w v old a.0 to a.1 goes (straight_of programs old x es.0 a.0 es.1 a.1 n to straight))

-- What comes next opens services of the leaf's program alone, so it is the same by the servers that a table has.
use Rattle.std.proofs.Common.{◌≡◌, ℕ, zero, suc, ◌-◌, Bool, true, false, cond, List, [], ◌∷◌, ◌++◌, Option, nat_lt, refl, ap, ◌∙◌}
use Rattle.gq_model.specs.declared.program.Instruction.{Instruction}
use Rattle.gq_model.specs.declared.program.Instruction.TheVariants as instruction
use Rattle.gq_model.specs.declared.section.Section.{Section}
use Rattle.gq_model.specs.machine.Program.{Statements, Done, Do, If, Loop}
use Rattle.gq_model.specs.rules.Use.{opened_by, services, services_in, services_of}
use Rattle.gq_resolve.specs.Served.{server_among}
use Rattle.gq_bytecode.specs.Bytecode_layout.{width}
use Rattle.gq_views.specs.internal.Table_leaves.{LeafOfAll, served_by}
use Rattle.gq_views.proofs.Table_leaf_servers.{AreAmong, among_parts, served_is}
use Rattle.gq_outcomes.specs.declared.asks.Asks.TheVariants as asks
use Rattle.gq_outcomes.specs.declared.asks.SectionAsks.{SectionAsks}
use Rattle.gq_outcomes.specs.internal.Asks.{AreOfSections, IsOfSection, asked, asks_of}
use Rattle.gq_outcomes.specs.internal.Left.{Ahead, Nothing, Instructs, Other, ahead, ahead_in, in_round, or_else}

module _ (l : LeafOfAll) where
  abbrev all : List (List ℕ)
  all = services l.component

  abbrev server : List ℕ → Option ℕ
  server = server_among l.all l.component

  -- what comes next opens one of its services, if it opens any
  abbrev OpensOwn : Ahead → Type 0
  OpensOwn Nothing = Unit {0}
  OpensOwn (Instructs i) = AreAmong all (opened_by i)
  OpensOwn Other = Unit {0}

  or_own : (a b : Ahead) → OpensOwn a → OpensOwn b → OpensOwn (or_else a b)
  or_own Nothing b h k = k
  or_own (Instructs i) b h k = h
  or_own Other b h k = tt

  round_own : (a : Ahead) → OpensOwn a → OpensOwn (in_round a)
  round_own Nothing h = tt
  round_own (Instructs i) h = h
  round_own Other h = tt

  either_own : (t : Bool) (a b : Ahead) → OpensOwn a → OpensOwn b → OpensOwn (cond t a b)
  either_own true a b h k = h
  either_own false a b h k = k

  first_own : (b : Statements) → AreAmong all (services_of b) → OpensOwn (ahead b)
  first_own Done h = tt
  first_own (Do i rest) h = (among_parts all (opened_by i) (services_of rest) h).0
  first_own (If arm other rest) h = tt
  first_own (Loop n body rest) h = tt

  ahead_own : (b : Statements) (p : ℕ) → AreAmong all (services_of b) → OpensOwn (ahead_in b p)
  ahead_own Done p h = tt
  ahead_own (Do i rest) zero h = (among_parts all (opened_by i) (services_of rest) h).0
  ahead_own (Do i rest) (suc p) h = ahead_own rest p (among_parts all (opened_by i) (services_of rest) h).1
  ahead_own (If arm other rest) zero h = tt
  ahead_own (If arm other rest) (suc p) h =
      let parts = among_parts all (services_of arm ++ services_of other) (services_of rest) h in
      let arms = among_parts all (services_of arm) (services_of other) parts.0 in
      let q = p - suc (width arm) in
      let next = first_own rest parts.1 in
      either_own (nat_lt p (suc (width arm))) (or_else (ahead_in arm p) (ahead rest))
      (cond (nat_lt q (width other)) (or_else (ahead_in other q) (ahead rest)) (ahead_in rest (q - width other)))
      (or_own (ahead_in arm p) (ahead rest) (ahead_own arm p arms.0) next)
      (either_own (nat_lt q (width other)) (or_else (ahead_in other q) (ahead rest)) (ahead_in rest (q - width other))
      (or_own (ahead_in other q) (ahead rest) (ahead_own other q arms.1) next) (ahead_own rest (q - width other) parts.1))
  ahead_own (Loop n body rest) zero h = tt
  ahead_own (Loop n body rest) (suc p) h =
      let parts = among_parts all (services_of body) (services_of rest) h in
      let q = p - suc (width body) in
      either_own (nat_lt p (suc (width body))) (in_round (ahead_in body p)) (ahead_in rest q) (round_own (ahead_in body p) (ahead_own body p parts.0))
      (ahead_own rest q parts.1)

  asked_served : (i : Instruction) → AreAmong all (opened_by i) → asked (served_by l) i ≡ asked server i
  asked_served (instruction.Open p service n) h = ap asks.Opens (served_is l service h.0)
  asked_served _ h = refl

  asks_served : (a : Ahead) → OpensOwn a → asks_of (served_by l) a ≡ asks_of server a
  asks_served Nothing h = refl
  asks_served (Instructs i) h = asked_served i h
  asks_served Other h = refl

  pub sections_served : (sections : List (Section × Statements)) (found : List SectionAsks) → AreAmong all (services_in sections)
      → AreOfSections (served_by l) sections found → AreOfSections server sections found
  sections_served [] [] h are = tt
  sections_served [] (s ∷ found) h are = absurd are
  sections_served (p ∷ sections) [] h are = absurd are
  sections_served (p ∷ sections) (s ∷ found) h are =
      let parts = among_parts all (services_of p.1) (services_in sections) h in
      let here : IsOfSection server p s = record {
        section = are.0.section;
        count = are.0.count;
        each = λ k a there. are.0.each k a there ∙ asks_served (ahead_in p.1 k) (ahead_own p.1 k parts.0);
      } in (here, sections_served sections found parts.1 are.1)

-- In a world at rest no request waits and no section is begun: worlds are counted from it on.
use Rattle.std.proofs.Common.{◌≡◌, ◌≤◌, ◌+◌, ◌*◌, ◌==◌, ℕ, inl, inr, true, false, List, [], ◌∷◌, Option, Some, refl, ap, sym, ◌∙◌, subst, arith}
use Rattle.std.specs.Prelude.{slice_get}
use Rattle.std.proofs.lemmas.Bool.{false≢true}
use Rattle.gq_model.specs.declared.section.Section.{Section}
use Rattle.gq_model.specs.declared.phase.Phase.{Phase}
use Rattle.gq_model.specs.declared.phase.Phase.TheVariants.{Pending, Running, Blocked, Serving, Handling, Exited}
use Rattle.gq_model.specs.machine.Program.{Statements}
use Rattle.gq_model.specs.machine.Scenario.{System, Component}
use Rattle.gq_model.specs.machine.World.{Session, Request, Leaf, World}
use Rattle.gq_model.specs.rules.Kinds.{Kind, Subject}
use Rattle.gq_model.specs.rules.Budgets.{section_cost, section_requests}
use Rattle.gq_model.specs.rules.Use.{subject, from_sections, steps_of}
use Rattle.gq_laws.specs.Session_links.{Stands, IsAsked, stance, links, one_if, requests_of, IsLinkedWorld}
use Rattle.gq_laws.specs.Shapes.{Each}
use Rattle.gq_laws.specs.Typing.{Extra, StandsBy, IsTypedBy}
use Rattle.gq_laws.specs.Progress.{rests, AllRest}
use Rattle.gq_laws.specs.internal.Section_counts.{Requests, ahead, waiting, waiting_in, Within, since_rest, steps_if, IsCounted}
use Rattle.gq_model.proofs.Small_facts.{equal_self}
use Rattle.gq_laws.proofs.session_links.Linked_after_reply.{leaf_of_stance}

-- no requests of sections that do not run
from_nothing : (v : Subject) (service : List ℕ) (section : Section) (sections : List (Section × Statements)) (often : Section → ℕ)
    → ((q : Section) → often q ≡ 0)
    → from_sections often v service section sections ≡ 0
from_nothing v service section [] often none = refl
from_nothing v service section (p ∷ rest) often none =
    let further = from_nothing v service section rest often none in
    let here = ap (λ n. n * section_requests v p.0 service section) (none p.0) in
    omega (arith, further, here)

steps_nothing : (sections : List (Section × Statements)) (often : Section → ℕ) → ((q : Section) → often q ≡ 0) → steps_of often sections ≡ 0
steps_nothing [] often none = refl
steps_nothing (p ∷ rest) often none =
    let further = steps_nothing rest often none in
    let here = ap (λ n. n * section_cost p.0 p.1) (none p.0) in
    omega (arith, further, here)

module _ (system : System) (v : World) (linked : IsLinkedWorld system v) (rest : AllRest v) where
  never_blocked : (x : ℕ) (leaf : Leaf) → slice_get v.leaves x ≡ Some leaf → leaf.phase ≡ Blocked → ⊥
  never_blocked x leaf there e = false≢true (ap (rests v x leaf) (sym e) ∙ rest x leaf there)

  -- a request is of a session that waits, and so its client is blocked
  no_first : (r : Request) (more : List Request) → v.requests ≡ r ∷ more → ⊥
  no_first r more e = by asked.0 asked.1 (linked.stands r.session asked.0 asked.1)
    where
      asked : IsAsked (links v) r
      asked = (subst (Each (IsAsked (links v))) e linked.asked).0

      one : 1 ≤ requests_of r.session v.requests
      one =
          let same : requests_of r.session v.requests ≡ one_if (r.session == r.session) + requests_of r.session more = ap (requests_of r.session) e in
          let itself = ap one_if (equal_self r.session) in
          omega (arith, same, itself)

      by : (s : Session) → (links v).sessions r.session ≡ Some s → Stands (links v) r.session s → ⊥
      by s there (inl u) = let none = u.2 in omega (arith, none, one)
      by s there (inr u) =
          let b = linked.waits r.session s there u.0 in
          let leaf = leaf_of_stance (slice_get v.leaves s.client) (stance Blocked b.0) b.1 in
          never_blocked s.client leaf.0 leaf.1 (ap (λ t. t.phase) leaf.2)

  no_requests : (rs : List Request) → v.requests ≡ rs → rs ≡ []
  no_requests [] e = refl
  no_requests (r ∷ more) e = absurd (no_first r more e)

  none_waits : (x : ℕ) (q : Section) → waiting v x q ≡ 0
  none_waits x q = ap (waiting_in v x q) (no_requests v.requests refl)

  abbrev nothing_left : Requests
  nothing_left y service q = 0

  -- a leaf at rest is in no section
  out_of_section : (promised : ℕ → Option Kind) (extra other : Extra) (x : ℕ) (c : Component) (leaf : Leaf) (phase : Phase) → rests v x leaf phase ≡ true
      → StandsBy promised extra system v x c leaf phase → StandsBy promised other system v x c leaf phase
  out_of_section promised extra other x c leaf Pending e s = absurd (false≢true e)
  out_of_section promised extra other x c leaf Running e s = absurd (false≢true e)
  out_of_section promised extra other x c leaf Blocked e s = absurd (false≢true e)
  out_of_section promised extra other x c leaf Serving e s = s
  out_of_section promised extra other x c leaf Handling e s = absurd (false≢true e)
  out_of_section promised extra other x c leaf Exited e s = s

  nothing_ahead : (x : ℕ) (leaf : Leaf) (phase : Phase) → rests v x leaf phase ≡ true → ahead leaf phase ≡ 0
  nothing_ahead x leaf Pending e = absurd (false≢true e)
  nothing_ahead x leaf Running e = absurd (false≢true e)
  nothing_ahead x leaf Blocked e = absurd (false≢true e)
  nothing_ahead x leaf Serving e = refl
  nothing_ahead x leaf Handling e = absurd (false≢true e)
  nothing_ahead x leaf Exited e = refl

  pub rest_counted : (promised : ℕ → Option Kind) (extra : Extra) → IsTypedBy promised extra system v → IsCounted (since_rest v) system v
  rest_counted promised extra t =
      record {
        promised = promised;
        done = λ x q. 0;
        made = nothing_left;
        left = nothing_left;
        typed = record {
          reports = t.reports;
          leaves = λ x c leaf placed there.
              out_of_section promised extra (Within system nothing_left) x c leaf leaf.phase (rest x leaf there) (t.leaves x c leaf placed there);
          sessions = t.sessions;
          requests = t.requests;
        };
        counts = record {
          once = λ x. omega arith;
          reacted = λ x i. omega arith;
          taken = λ x c leaf placed there.
              (let none = steps_nothing c.node.program.sections (waiting v x) (none_waits x) in
              let nothing = steps_nothing c.node.program.sections (λ q. 0) (λ q. refl) in
              let out = nothing_ahead x leaf leaf.phase (rest x leaf there) in
              let same = ap steps_if there in
              omega (arith, none, nothing, out, same));
          asked = λ x section other. omega arith;
          requests = λ y c placed service section.
              (let none = from_nothing (subject system c) service section c.node.program.sections (waiting v y) (none_waits y) in
              omega (arith, none));
        };
      }

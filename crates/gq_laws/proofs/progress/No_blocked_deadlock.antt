-- Where no leaf can take a step, none is blocked: a blocked one waits for a server that is blocked as well, and uses lead to no cycle.
use Rattle.std.proofs.Common.{◌≡◌, ℕ, zero, suc, ◌+◌, ◌<◌, ◌==◌, ◌||◌, nat_lt, inl, inr, Bool, true, false, cond, List, [], ◌∷◌, length, Option, Some, None}
use Rattle.std.proofs.Common.{refl}
use Rattle.std.proofs.Common.{ap, sym, ◌∙◌, subst, arith}
use Rattle.std.specs.Prelude.{slice_get, is_some}
use Rattle.std.proofs.lemmas.Bool.Decides.{eqb_tells}
use Rattle.gq_model.specs.machine.Lists.{any_of}
use Rattle.gq_model.specs.machine.Program.{text_eq}
use Rattle.gq_model.specs.machine.Scenario.{Scenario, System, Component, components, system}
use Rattle.gq_model.specs.machine.Routes.{server_of}
use Rattle.gq_model.specs.machine.World.{Session, Request, Current, Leaf, World, session_at}
use Rattle.gq_model.specs.declared.phase.Phase.{Phase}
use Rattle.gq_model.specs.declared.phase.Phase.TheVariants.{Pending, Running, Blocked, Serving, Handling, Exited}
use Rattle.gq_model.specs.machine.Step.{is_to, kept_before, oldest, first_signal}
use Rattle.gq_model.specs.rules.Use.{is_there, services}
use Rattle.gq_model.specs.machine.Rest.{runs, runs_as, can_run}
use Rattle.gq_laws.specs.Session_links.{Leads, Waits, Links, links, stance, stance_in, one_if, requests_of, by_current, at_current, pending_of}
use Rattle.gq_laws.specs.Session_links.{Stands, Fits}
use Rattle.gq_model.proofs.Small_facts.{equal_self, text_is, get_within}
use Rattle.gq_laws.proofs.step_shapes.Whole_worlds.{each_get}
use Rattle.gq_laws.proofs.session_links.Linked_after_reply.{leaf_of_stance}
use Rattle.gq_laws.proofs.quota_payment.Written_world_prices.{session_stands}
use Rattle.gq_laws.proofs.session_links.Linked_after_reply.{session_of_outline}
use Rattle.gq_laws.proofs.verified_programs.Sound_systems.{is_resolved}
use Rattle.gq_laws.proofs.verified_programs.Use_chains.{Uses, Chain, chain_short, resolved_acyclic}
use Rattle.gq_laws.specs.Leaf_phases.{Suits}
use Rattle.gq_laws.proofs.progress.Lasting_world_invariant.{Lasts, server_some}
use Rattle.std.proofs.lemmas.Bool.{true≢false, false≢true, or_left, or_right, or_cases}
use Rattle.std.proofs.lemmas.Option.{slice_get_within}

-- where no request waits for a server, none is of a session to it
none_asked : (w : World) (y k : ℕ) (u : Session) → session_at w k ≡ Some u → u.server ≡ y → (rs : List Request) → is_some (oldest w y rs) ≡ false
    → requests_of k rs ≡ 0
none_asked w y k u there to [] e = refl
none_asked w y k u there to (r ∷ rest) e = by (is_to y (session_at w r.session)) refl e (none_asked w y k u there to rest)
  where
    kept : (o : Option (Request × List Request)) → is_some (kept_before r o) ≡ is_some o
    kept None = refl
    kept (Some p) = refl

    by : (b : Bool) → is_to y (session_at w r.session) ≡ b → is_some (cond b (Some (r, rest)) (kept_before r (oldest w y rest))) ≡ false
        → (is_some (oldest w y rest) ≡ false → requests_of k rest ≡ 0) → requests_of k (r ∷ rest) ≡ 0
    by true f g go = absurd (true≢false g)
    by false f g go =
        elim (eqb_tells r.session k) [
          | inl same ↦ absurd (true≢false (sym (equal_self y) ∙ (ap (λ z. z == y) (sym to) ∙ (sym (ap (is_to y) (ap (session_at w) same.1 ∙ there)) ∙ f))))
          | inr other ↦ (let further = go (sym (kept (oldest w y rest)) ∙ g) in ap (λ b. one_if b + requests_of k rest) other.0 ∙ omega (arith, further))
        ]

or_none : (a b : Bool) → (a || b) ≡ false → b ≡ false
or_none true b e = absurd (true≢false e)
or_none false b e = e

-- a leaf that opens a service of this server uses it
any_uses : (system : System) (c : Component) (y : ℕ) (service : List ℕ) → server_of system c service ≡ Some y → (names : List (List ℕ))
    → any_of (text_eq service) names ≡ true → any_of (λ v. is_there y (server_of system c v)) names ≡ true
any_uses system c y service routed [] e = absurd (false≢true e)
any_uses system c y service routed (v ∷ names) e =
    elim (or_cases (text_eq service v) (any_of (text_eq service) names) e) [
      | inl same ↦ or_left (is_there y (server_of system c v)) (any_of (λ v. is_there y (server_of system c v)) names)
          (ap (λ v. is_there y (server_of system c v)) (sym (text_is service v same)) ∙ (ap (is_there y) routed ∙ equal_self y))
      | inr further ↦ or_right (is_there y (server_of system c v)) (any_of (λ v. is_there y (server_of system c v)) names)
          (any_uses system c y service routed names further)
    ]

module _ (s : Scenario) (w : World) (h : Lasts s w) (idle : (x : ℕ) → can_run (system s) w x ≡ false) where
  abbrev L : Links
  L = links w

  pub stays : (x : ℕ) (c : Component) (leaf : Leaf) → slice_get (components s) x ≡ Some c → slice_get w.leaves x ≡ Some leaf → runs w x leaf leaf.phase ≡ false
  stays x c leaf e f = (λ i. runs_as w x (sym e i) (sym f i)) ∙ idle x

  pub placed : (x : ℕ) (leaf : Leaf) → slice_get w.leaves x ≡ Some leaf → (c : Component) × (slice_get (components s) x ≡ Some c)
  placed x leaf there =
      let below = slice_get_within w.leaves x leaf there in
      let count = h.stands.whole.count in
      get_within (components s) x (omega (arith, below, count))

  abbrev pub IsBlocked : ℕ → Type 0
  IsBlocked x = (current : Option Current) × (L.stances x ≡ Some (stance Blocked current))

  -- the leaf of a server that does not run is blocked, if a request of its waits or is current at it
  server_blocked : (y k : ℕ) (u : Session) (d : Component) (leaf : Leaf) → session_at w k ≡ Some u → u.server ≡ y → slice_get (components s) y ≡ Some d
      → is_some d.node.provides ≡ true → slice_get w.leaves y ≡ Some leaf → requests_of k w.requests + at_current k (L.stances y) ≡ 1
      → (phase : Phase) → leaf.phase ≡ phase → IsBlocked y
  server_blocked y k u d leaf there to at provides found one Pending e =
      absurd (true≢false (sym provides ∙ ap is_some (subst (Suits d.node.provides d.node.signals) e (h.ready.suits y d leaf at found))))
  server_blocked y k u d leaf there to at provides found one Running e = absurd (true≢false (ap (runs w y leaf) (sym e) ∙ stays y d leaf at found))
  server_blocked y k u d leaf there to at provides found one Blocked e = (leaf.current, ap stance_in found ∙ ap (λ p. Some (stance p leaf.current)) e)
  server_blocked y k u d leaf there to at provides found one Serving e =
      let none = none_asked w y k u there to w.requests (or_none (is_some (first_signal leaf.signals)) (is_some (oldest w y w.requests))
      (ap (runs w y leaf) (sym e) ∙ stays y d leaf at found)) in
      let free = no_current leaf.current (subst (λ p. Fits p leaf.current) e (h.stands.linked.fits y (stance leaf.phase leaf.current) (ap stance_in found))) in
      let nothing : at_current k (L.stances y) ≡ 0 = ap (at_current k) (ap stance_in found) ∙ ap (by_current k) free in
      absurd (omega (arith, none, nothing, one))
    where
      no_current : (current : Option Current) → Fits Serving current → current ≡ None
      no_current None f = refl
      no_current (Some g) f = absurd f
  server_blocked y k u d leaf there to at provides found one Handling e = absurd (true≢false (ap (runs w y leaf) (sym e) ∙ stays y d leaf at found))
  server_blocked y k u d leaf there to at provides found one Exited e =
      absurd (true≢false (sym (or_left (is_some d.node.provides) (nat_lt 0 d.node.signals) provides)
      ∙ subst (Suits d.node.provides d.node.signals) e (h.ready.suits y d leaf at found)))

  -- a session that waits has one request
  one_request : (k : ℕ) (t : Session) → L.slots t.slot_id ≡ Some (Waits k) → Stands L k t → pending_of L k t ≡ 1
  one_request k t waits (inl leads) = absurd (no (sym waits ∙ leads.0))
    where
      no : Some (Waits k) ≡ Some (Leads k) → ⊥
      no e = cc
  one_request k t waits (inr p) = p.1

  next_blocked : (x : ℕ) → IsBlocked x → (y : ℕ) × Uses (system s) x y × IsBlocked y
  next_blocked x b =
      let l = h.stands.linked in
      let m = l.blocked x b.0 b.1 in
      let k = m.0 in
      let t = m.1 in
      let u = session_of_outline (session_at w k) t m.2 in
      let r = l.routed k t m.2 in
      let c = r.0 in
      let y = t.server in
      let opens = h.opened.at k u.0 u.1 c (ap (λ (v : Session). slice_get (components s) v.client) u.2 ∙ r.1) in
      let routed : server_of (system s) c u.0.service ≡ Some y = ap (λ (v : Session). server_of (system s) c v.service) u.2 ∙ r.2 in
      let uses_it : Uses (system s) x y = (c, ap (slice_get (components s)) (sym m.3) ∙ r.1, any_uses (system s) c y u.0.service routed (services c) opens) in
      let whole = each_get _ w.sessions k (Some u.0) h.stands.whole.sessions (session_stands w k u.0 u.1) in
      let to : u.0.server ≡ y = ap (λ (v : Session). v.server) u.2 in
      let below : y < length (components s) = subst (λ n. n < length (components s)) to whole.2 in
      let count = h.stands.whole.count in
      let d = get_within (components s) y below in
      let leaf = get_within w.leaves y (omega (arith, below, count)) in (
        y,
        uses_it,
        server_blocked y k u.0 d.0 leaf.0 u.1 to d.1 (server_some s h.stands.sound t.client y c d.0 t.service r.1 r.2 d.1) leaf.1
            (one_request k t m.4 (l.stands k t m.2)) leaf.0.phase refl,
      )

  -- so there is a chain of uses of any length
  blocked_chain : (n x : ℕ) → IsBlocked x → (rest : List ℕ) × Chain (system s) x rest × (length rest ≡ n)
  blocked_chain zero x b =
      let leaf = leaf_of_stance (slice_get w.leaves x) (stance Blocked b.0) b.1 in
      let below = slice_get_within w.leaves x leaf.0 leaf.1 in
      let count = h.stands.whole.count in ([], omega (arith, below, count), refl)
  blocked_chain (suc n) x b =
      let m = next_blocked x b in
      let r = blocked_chain n m.0 m.2 in (m.0 ∷ r.0, (m.1, r.1), ap suc r.2)

  pub never_blocked : (x : ℕ) → IsBlocked x → ⊥
  never_blocked x b =
      let r = blocked_chain (length (components s)) x b in
      let short = chain_short (system s) (resolved_acyclic s (is_resolved s h.stands.sound.accepted)) x r.0 r.1 in
      let long = r.2 in omega (arith, short, long)

-- Servers that are shared and not held: what their sections wait for is such a server as well, and where none of these can take a turn nobody waits for one
-- that is done with `main`, as those are that it uses.
use Rattle.std.proofs.Common.{◌≡◌, ◌⊎◌, inl, inr, ℕ, zero, suc, ◌+◌, ◌==◌, ◌&&◌, ◌||◌, not, Bool, true, false, cond, List, [], ◌∷◌, length}
use Rattle.std.proofs.Common.{Option, Some, None, refl, ap, sym, ◌∙◌, subst, arith}
use Rattle.std.specs.Prelude.{is_some, nat_lt, slice_get}
use Rattle.std.proofs.lemmas.Bool.{true≢false, or_cases, or_left, or_right}
use Rattle.std.proofs.lemmas.Bool.Decides.{eqb_tells}
use Rattle.std.proofs.lemmas.Option.{slice_get_within}
use Rattle.gq_model.specs.declared.phase.Phase.{Phase}
use Rattle.gq_model.specs.declared.phase.Phase.TheVariants.{Pending, Running, Blocked, Serving, Handling, Exited}
use Rattle.gq_model.specs.declared.program.Instruction.{Instruction}
use Rattle.gq_model.specs.machine.Routes.{server_of}
use Rattle.gq_model.specs.machine.Scenario.{Component, Scenario, System, system}
use Rattle.gq_model.specs.machine.Step.{is_to, kept_before, oldest}
use Rattle.gq_model.specs.machine.World.{Current, In_leaf, Leaf, Request, Session, World, session_at}
use Rattle.gq_model.proofs.Small_facts.{equal_self, get_within, none_some, some_same}
use Rattle.gq_laws.specs.Leaf_phases.{Suits}
use Rattle.gq_laws.specs.Session_links.{Fits, Waits, at_current, by_current, links, one_if, outline, outline_in, requests_of, stance, stance_in}
use Rattle.gq_laws.specs.Sound_scenarios.{IsSound}
use Rattle.gq_model.specs.machine.Rest.{can_run, runs, runs_as}
use Rattle.gq_laws.specs.internal.Uncounted.{uncounted}
use Rattle.gq_laws.proofs.Outside_step_untouched.{outlined}
use Rattle.gq_laws.proofs.progress.Lasting_world_invariant.{server_some}
use Rattle.gq_laws.proofs.ready.Routed_leaf_services.{found}
use Rattle.gq_laws.proofs.session_links.Asked_request_changes.{same_current}
use Rattle.gq_laws.proofs.session_links.Linked_after_reply.{leaf_of_stance}
use Rattle.gq_laws.proofs.verified_programs.Use_chains.{Chain, Uses, chain_short}
use Rattle.gq_races.specs.Races.{all_for, any_below, implies, is_owner, is_shared, opens_first, opens_later, owns}
use Rattle.gq_determined.specs.internal.Threads.{is_active}
use Rattle.gq_determined.proofs.thread_positions.Single_thread_position.{root_at, HasParent, IsFirst, IsWaiting, above, one_pending, root_waits}
use Rattle.gq_determined.proofs.thread_positions.Unshared_leaf_owner.{for_later}
use Rattle.gq_determined.proofs.thread_runs.Remaining_section_statements.{AreSections, Lefts}
use Rattle.gq_outcomes.proofs.complete.Held_worlds.{AreQuiet, Held, view}
use Rattle.gq_outcomes.proofs.complete.Alike_held.{IsGood}
use Rattle.gq_outcomes.proofs.complete.Opened_sections.{AreBy, Begun, IsBy}

-- OWNERS

pub both : (a b : Bool) → (a && b) ≡ true → (a ≡ true) × (b ≡ true)
both true b e = (refl, e)
both false b e = absurd (true≢false (sym e))

implies_more : (a b c : Bool) → (b ≡ true → c ≡ true) → implies a b ≡ true → implies a c ≡ true
implies_more true b c more e = more e
implies_more false b c more e = refl

all_for_more : (f g : ℕ → Bool) → ((y : ℕ) → f y ≡ true → g y ≡ true) → (u : System) (z x y : ℕ) (cs : List Component) → all_for f u z x y cs ≡ true
    → all_for g u z x y cs ≡ true
all_for_more f g more u z x y [] e = refl
all_for_more f g more u z x y (c ∷ rest) e =
    let all = both (implies (opens_first u x c) (y == z) && implies (opens_later u x c) (f y)) (all_for f u z x (suc y) rest) e in
    let here = both (implies (opens_first u x c) (y == z)) (implies (opens_later u x c) (f y)) all.0 in
    λ i. here.0 i && implies_more (opens_later u x c) (f y) (g y) (more y) here.1 i && all_for_more f g more u z x (suc y) rest all.1 i

owns_more : (n : ℕ) (u : System) (z x : ℕ) → owns n u z x ≡ true → owns (suc n) u z x ≡ true
owns_more zero u z x e = absurd (true≢false (sym e))
owns_more (suc n) u z x e = all_for_more (owns n u z) (owns (suc n) u z) (λ y f. owns_more n u z y f) u z x 0 u.components e

-- whoever owns a leaf owns those that open sessions with it in sections
owner_above : (n : ℕ) (u : System) (z x y : ℕ) (c : Component) → slice_get u.components y ≡ Some c → opens_later u x c ≡ true → owns n u z x ≡ true
    → owns n u z y ≡ true
owner_above zero u z x y c at opens e = absurd (true≢false (sym e))
owner_above (suc n) u z x y c at opens e = owns_more n u z y (for_later u n z x y c e at opens)

pub any_below_more : (f g : ℕ → Bool) → ((z : ℕ) → f z ≡ true → g z ≡ true) → (n : ℕ) → any_below f n ≡ true → any_below g n ≡ true
any_below_more f g more zero e = e
any_below_more f g more (suc n) e = elim (or_cases (f n) (any_below f n) e) [
  | inl is ↦ or_left (g n) (any_below g n) (more n is)
  | inr further ↦ or_right (g n) (any_below g n) (any_below_more f g more n further)
]

-- so what a shared leaf opens sessions with in its sections is shared
pub shared_below : (u : System) (x y : ℕ) (c : Component) → slice_get u.components y ≡ Some c → opens_later u x c ≡ true → is_shared u y ≡ true
    → is_shared u x ≡ true
shared_below u x y c at opens shared = by (any_below (λ z. is_owner u z x) (length u.components)) refl
  where
    by : (b : Bool) → any_below (λ z. is_owner u z x) (length u.components) ≡ b → is_shared u x ≡ true
    by false e = ap not e
    by true e = absurd (true≢false (sym shared ∙ ap not (any_below_more (λ z. is_owner u z x) (λ z. is_owner u z y)
        (λ z f. owner_above (length u.components) u z x y c at opens f) (length u.components) e)))

-- REQUESTS

-- where no request waits for a server, none is of a session to it
none_asked : (w : World) (y k : ℕ) (a : Session) → session_at w k ≡ Some a → a.server ≡ y → (rs : List Request) → is_some (oldest w y rs) ≡ false
    → requests_of k rs ≡ 0
none_asked w y k a there to [] e = refl
none_asked w y k a there to (r ∷ rest) e = by (is_to y (session_at w r.session)) refl e (none_asked w y k a there to rest)
  where
    kept : (o : Option (Request × List Request)) → is_some (kept_before r o) ≡ is_some o
    kept None = refl
    kept (Some p) = refl

    by : (b : Bool) → is_to y (session_at w r.session) ≡ b → is_some (cond b (Some (r, rest)) (kept_before r (oldest w y rest))) ≡ false
        → (is_some (oldest w y rest) ≡ false → requests_of k rest ≡ 0) → requests_of k (r ∷ rest) ≡ 0
    by true f g go = absurd (true≢false g)
    by false f g go =
        elim (eqb_tells r.session k) [
          | inl same ↦ absurd (true≢false (sym (equal_self y) ∙ (ap (λ z. z == y) (sym to) ∙ (sym (ap (is_to y) (ap (session_at w) same.1 ∙ there)) ∙ f))))
          | inr other ↦ (let further = go (sym (kept (oldest w y rest)) ∙ g) in ap (λ b. one_if b + requests_of k rest) other.0 ∙ omega (arith, further))
        ]

-- a server for whose reply a session waits, and that serves, has a request
module _ (s : Scenario) (sound : IsSound s) (holds : ℕ → Bool) (P : ℕ → Component → Bool → Instruction → Type 0)
    (sections : AreSections P (uncounted (system s))) (quiet_of : (w : World) → Lefts P (uncounted (system s)) w → AreQuiet holds w)
    (m : Held) (h : IsGood s sound holds P sections quiet_of m) where
  pub serves_one : (k : ℕ) (a : IsWaiting (uncounted (system s)) (view m) h.held.placed k) (leaf : Leaf)
      → slice_get m.world.leaves a.session.server ≡ Some leaf → leaf.phase ≡ Serving → is_some (oldest m.world a.session.server m.world.requests) ≡ true
  serves_one k a leaf there e = by (is_some (oldest m.world a.session.server m.world.requests)) refl
    where
      free : (current : Option Current) → Fits Serving current → current ≡ None
      free None f = refl
      free (Some q) f = absurd f

      by : (b : Bool) → is_some (oldest m.world a.session.server m.world.requests) ≡ b → b ≡ true
      by true f = refl
      by false f =
          let none = none_asked m.world a.session.server k a.session a.there refl m.world.requests f in
          let fits = h.held.placed.linked.fits a.session.server (stance leaf.phase leaf.current) (ap stance_in there) in
          let empty : leaf.current ≡ None = free leaf.current (subst (λ p. Fits p leaf.current) e fits) in
          let nothing : at_current k ((links m.world).stances a.session.server) ≡ 0 = ap (at_current k) (ap stance_in there) ∙ ap (by_current k) empty in
          let one = one_pending (uncounted (system s)) (view m) h.held.placed k a in absurd (omega (arith, none, nothing, one))

module _ (s : Scenario) (sound : IsSound s) (holds : ℕ → Bool) (P : ℕ → Component → Bool → Instruction → Type 0)
    (sections : AreSections P (uncounted (system s))) (quiet_of : (w : World) → Lefts P (uncounted (system s)) w → AreQuiet holds w)
    (m : Held) (h : IsGood s sound holds P sections quiet_of m) (opened : AreBy (uncounted (system s)) m.world)
    (shared_of : (z : ℕ) → holds z ≡ false → is_shared (uncounted (system s)) z ≡ true)
    (lower : (y z : ℕ) → holds y ≡ false → Uses (uncounted (system s)) y z → is_shared (uncounted (system s)) z ≡ true → holds z ≡ false) where
  abbrev u : System
  u = uncounted (system s)

  abbrev pub IsAsked : ℕ → Type 0
  IsAsked k = IsWaiting u (view m) h.held.placed k

  -- a section that waits does so for a server that is not held, for the same thread
  pub record IsBelow (y : ℕ) (q : Current) : Type 0 where
    pub k : ℕ
    pub waiting : IsAsked k
    pub client : waiting.session.client ≡ y
    pub root : (view m).root k ≡ (view m).root q.session
    pub uses : Uses u y waiting.session.server
    pub off : holds waiting.session.server ≡ false

  module _ (y : ℕ) (q : Current) (off : holds y ≡ false) (at : (links m.world).stances y ≡ Some (stance Blocked (Some q))) where
    not_main : (x : ℕ) → x ≡ y → (links m.world).stances x ≡ Some (stance Blocked None) → ⊥
    not_main x e f = none_some (same_current (sym f ∙ (ap (links m.world).stances e ∙ at)))

    pub waits_below : IsBelow y q
    waits_below = record {
      k = k;
      waiting = a;
      client = client;
      root = root_up (above u (view m) h.held.placed k a);
      uses = uses_y;
      off = lower y z off uses_y shared;
    }
      where
        b : (k : ℕ) × (t : Session) × ((links m.world).sessions k ≡ Some t) × (t.client ≡ y) × ((links m.world).slots t.slot_id ≡ Some (Waits k))
        b = h.held.placed.linked.blocked y (Some q) at

        t : (a : Session) × (session_at m.world b.0 ≡ Some a) × (outline a ≡ b.1)
        t = outlined (session_at m.world b.0) b.1 b.2

        k : ℕ
        k = b.0

        client_of : t.0.client ≡ y
        client_of = ap (λ (s : Session). s.client) t.2 ∙ b.3

        a : IsAsked k
        a = record {
          session = t.0;
          there = t.1;
          slot = ap (λ (s : Session). (links m.world).slots s.slot_id) t.2 ∙ b.4;
          current = Some q;
          client = ap (links m.world).stances client_of ∙ at;
        }

        z : ℕ
        z = a.session.server

        client : a.session.client ≡ y
        client = client_of

        root_up : IsFirst u (view m) h.held.placed k ⊎ HasParent u (view m) h.held.placed k → (view m).root k ≡ (view m).root q.session
        root_up (inl f) =
            let same : f.waiting.session.client ≡ y = ap (λ (s : Session). s.client) (some_same (sym f.waiting.there ∙ a.there)) ∙ client in
            absurd (not_main ((view m).root k) (sym f.client ∙ same) f.at)
        root_up (inr p) =
            let same : p.waiting.session.client ≡ y = ap (λ (s : Session). s.client) (some_same (sym p.waiting.there ∙ a.there)) ∙ client in
            let parent : p.parent ≡ q = some_same (same_current (sym p.at ∙ (ap (links m.world).stances same ∙ at))) in
            p.root ∙ ap (λ (c : Current). (view m).root c.session) parent

        uses_y : Uses u y z
        uses_y = subst (λ y. Uses u y z) client (h.held.placed.uses k a.session a.there)

        by : IsBy u m.world a.session.slot_id a.session.client z → is_shared u z ≡ true
        by p = elim p.2 [
          | inl f ↦ first f.1.0 f.1.1
          | inr f ↦ shared_below u z a.session.client p.0 p.1 f.0 (shared_of a.session.client (ap holds client ∙ off))
        ]
          where
            -- a session in an own slot would be of this leaf's own thread, which does not wait in a section
            first : (c : ℕ) → a.session.slot_id ≡ In_leaf a.session.client c → is_shared u z ≡ true
            first c slot =
                let own : (view m).root k ≡ y
                = h.held.placed.below k a.session a.there
                ∙ (ap (root_at m.hold (view m).root) slot ∙ (ap m.hold client ∙ h.held.free y off)) in
                absurd (not_main ((view m).root k) own (root_waits u (view m) h.held.placed k a))

        shared : is_shared u z ≡ true
        shared = by (opened.each k a.session a.there)

  -- WHERE NONE CAN TAKE A TURN

  -- some such servers that are done with `main`, with those that they use, none of which can take a turn
  module _ (V : ℕ → Type 0) (off_of : (z : ℕ) → V z → holds z ≡ false) (begun_of : (z : ℕ) → V z → Begun m.world z)
      (used : (y z : ℕ) → V y → Uses u y z → holds z ≡ false → V z) (still : (z : ℕ) → V z → can_run u m.world z ≡ false) where
    abbrev IsStuck : ℕ → Type 0
    IsStuck z = (q : Current) × ((links m.world).stances z ≡ Some (stance Blocked (Some q)))

    -- such a server for which somebody waits is in a section that waits
    stuck : (k : ℕ) (a : IsAsked k) → V a.session.server → IsStuck a.session.server
    stuck k a v = by leaf.0.phase refl
      where
        z : ℕ
        z = a.session.server

        r : (c : Component) × (slice_get u.components a.session.client ≡ Some c) × (server_of u c a.session.service ≡ Some z)
        r = h.held.placed.linked.routed k (outline a.session) (ap outline_in a.there)

        d : (d : Component) × (slice_get u.components z ≡ Some d)
        d = let f = found s z r.0 a.session.service r.2 in (f.0, f.1)

        leaf : (l : Leaf) × (slice_get m.world.leaves z ≡ Some l)
        leaf =
            let below = slice_get_within u.components z d.0 d.1 in
            let count = h.lasts.stands.whole.count in
            let l = get_within m.world.leaves z (omega (arith, below, count)) in (l.0, l.1)

        provides : is_some d.0.node.provides ≡ true
        provides = server_some s sound a.session.client z r.0 d.0 a.session.service r.1 r.2 d.1

        suits : Suits d.0.node.provides d.0.node.signals leaf.0.phase
        suits = h.lasts.ready.suits z d.0 leaf.0 d.1 leaf.1

        stays : runs m.world z leaf.0 leaf.0.phase ≡ false
        stays = (λ i. runs_as m.world z (sym d.1 i) (sym leaf.1 i)) ∙ still z v

        by : (p : Phase) → leaf.0.phase ≡ p → IsStuck z
        by Pending e = absurd (true≢false (sym provides ∙ ap is_some (subst (Suits d.0.node.provides d.0.node.signals) e suits)))
        by Exited e = absurd (true≢false (sym (ap (λ b. b || nat_lt 0 d.0.node.signals) provides) ∙ subst (Suits d.0.node.provides d.0.node.signals) e suits))
        by Running e = absurd (true≢false (ap (runs m.world z leaf.0) (sym e) ∙ stays))
        by Handling e = absurd (true≢false (ap (runs m.world z leaf.0) (sym e) ∙ stays))
        by Blocked e =
            let q = begun_of z v leaf.0 leaf.1 (ap is_active e) in
            (q.0, ap stance_in leaf.1 ∙ (λ i. Some (stance (e i) (q.1 i))))
        by Serving e =
            absurd (true≢false (sym (serves_one s sound holds P sections quiet_of m h k a leaf.0 leaf.1 e)
            ∙ (sym (ap (λ s. is_some s || is_some (oldest m.world z m.world.requests)) (h.held.calm.none z leaf.0 leaf.1))
            ∙ (ap (runs m.world z leaf.0) (sym e) ∙ stays))))

    -- so there is a chain of uses of any length
    stuck_chain : (n z : ℕ) → V z → IsStuck z → (rest : List ℕ) × Chain u z rest × (length rest ≡ n)
    stuck_chain zero z v b =
        let leaf = leaf_of_stance (slice_get m.world.leaves z) (stance Blocked (Some b.0)) b.1 in
        let below = slice_get_within m.world.leaves z leaf.0 leaf.1 in
        let count = h.lasts.stands.whole.count in ([], omega (arith, below, count), refl)
    stuck_chain (suc n) z v b =
        let p = waits_below z b.0 (off_of z v) b.1 in
        let next = used z p.waiting.session.server v p.uses p.off in
        let r = stuck_chain n p.waiting.session.server next (stuck p.k p.waiting next) in
        (p.waiting.session.server ∷ r.0, (p.uses, r.1), ap suc r.2)

    -- nobody waits for one
    pub none_waits : (k : ℕ) (a : IsAsked k) → V a.session.server → ⊥
    none_waits k a v =
        let r = stuck_chain (length u.components) a.session.server v (stuck k a v) in
        let short = chain_short u h.held.placed.acyclic a.session.server r.0 r.1 in
        let long = r.2 in omega (arith, short, long)

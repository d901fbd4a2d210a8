-- Sessions to a leaf that are reported one after the other.
use Rattle.std.proofs.Common.{◌≡◌, ◌∙◌, ◌<◌, ◌≤◌, ◌+◌, ℕ, Bool, List, [], ◌∷◌, ◌++◌, length, drop, Option, Some, refl, ap, sym, subst}
use Rattle.std.proofs.Common.{◌==◌, true, IfSome, codes, cond, eq-eqb}
use Rattle.std.specs.Prelude.{slice_get}
use Rattle.gq_model.specs.machine.Scenario.{Scenario, system}
use Rattle.gq_model.specs.machine.World.{Session, joined, session_at}
use Rattle.gq_output.specs.declared.counted.Counted.{Counted}
use Rattle.gq_machine.specs.Machines.{Machine}
use Rattle.gq_machine.specs.Readers.{IsReportedOf}
use Rattle.gq_machine.specs.declared.world_reads.SessionState.{SessionState}
use Rattle.gq_views.specs.Listing.{indent}
use Rattle.gq_traces.specs.Account_state.{Item, Received, bank_items, item, items_text, received_items, service_text, session_items, sessions_items}
use Rattle.gq_traces.specs.Trace.{leaf_label}
use Rattle.gq_traces.specs.internal.Noted.{service_at}
use Rattle.gq_traces.specs.internal.Printed_steps.{Goes}
use Rattle.gq_traces.specs.internal.Slot_items.{Prints_items}
use Rattle.gq_traces.proofs.Sequential_text_writes.{goes_both, goes_text}
use Rattle.gq_traces.proofs.Printed_items.{amount_is_printed, items_both, put_line}
use Rattle.gq_traces.proofs.So_far.{So_far, next_one, none_left, reported_end, printed_first, printed_next}

-- of a session to this leaf
pub received_here : (m : Machine) (k x n : ℕ) (s : Session) (P : List Item → Type 0) → session_at m.world k ≡ Some s → s.server ≡ n → n ≡ x
    → IfSome (session_at m.world k) (λ t. P (session_items (system m.scenario) m.world t))
    → P (received_items (system m.scenario) m.world x (session_at m.world k))
received_here m k x n s P there server is h =
    let own : P (session_items (system m.scenario) m.world s) =
    subst (λ (o : Option Session). IfSome o (λ t. P (session_items (system m.scenario) m.world t))) there h in
    subst (λ (o : Option Session). P (received_items (system m.scenario) m.world x o)) (sym there)
    (subst P (sym (ap (λ b. cond b (session_items (system m.scenario) m.world s) []) (same_number s.server x (server ∙ is)))) own)
  where
    same_number : (a b : ℕ) → a ≡ b → (a == b) ≡ true
    same_number a b e = eq-eqb a b e

-- what is received with a session, and what is held for it
pub session_printed : {W : Type 0} (contents : W → Option (List ℕ)) (m : Machine) (r : Scenario) (same : r ≡ m.scenario) (k : ℕ) (t : SessionState)
    (reported : IsReportedOf m k t) (a b c : Counted W) (x y z : Bool) (rest behind : List ℕ) → rest ≡ behind
    → behind ≡ codes " from " ++ leaf_label (system r) t.client ++ codes ": " ++ service_text (service_at r t.service) t.level
    → Goes contents a b x y (put_line r.version (indent 1) (codes "receives") t.donation rest)
    → IfSome (session_at m.world k) (λ s. Prints_items contents b c y z m (bank_items (system m.scenario) m.world s))
    → IfSome (session_at m.world k) (λ s. Prints_items contents a c x z m (session_items (system m.scenario) m.world s))
session_printed contents m r same k t reported a b c x y z rest behind is bytes first second =
    let s = reported.session in
    let bank = subst (λ (o : Option Session). IfSome o (λ s. Prints_items contents b c y z m (bank_items (system m.scenario) m.world s))) reported.there
    second in
    let line = goes_text contents a b x y _ _
    (amount_is_printed r m.scenario same 1 Received t.donation s.donation reported.donation (indent 1) rest
    (codes " from " ++ leaf_label (system m.scenario) s.client ++ codes ": " ++ service_text s.service s.level) refl
    (is ∙ bytes ∙ (λ i. codes " from " ++ leaf_label (system (same i)) (reported.client i) ++ codes ": "
    ++ service_text (service_at (same i) t.service) (reported.level i))
    ∙ ap (λ n. codes " from " ++ leaf_label (system m.scenario) s.client ++ codes ": " ++ service_text n s.level) reported.service)) first in
    subst (λ (o : Option Session). IfSome o (λ s. Prints_items contents a c x z m (session_items (system m.scenario) m.world s))) (sym reported.there)
    (goes_text contents a c x z _ _
    (items_both m.scenario.version
    (item 1 Received s.donation (codes " from " ++ leaf_label (system m.scenario) s.client ++ codes ": " ++ service_text s.service s.level) ∷ [])
    (bank_items (system m.scenario) m.world s))
    (goes_both contents a b c x y z _ _ line bank))

module _ {W : Type 0} (contents : W → Option (List ℕ)) (m : Machine) (x : ℕ) where
  -- the sessions so far were reported
  abbrev pub Sessions_so_far : Counted W → Counted W → Bool → Bool → ℕ → Type 0
  Sessions_so_far old new was now i =
      So_far contents old new was now (items_text m.scenario.version (sessions_items (system m.scenario) m.world x (drop i m.world.sessions)))
      (items_text m.scenario.version (sessions_items (system m.scenario) m.world x m.world.sessions))

  pub sessions_first : (out : Counted W) (was : Bool) → Sessions_so_far out out was was 0
  sessions_first out was = printed_first contents out was _

  -- the next one, by its number
  session_here : (i : ℕ) (o : Option Session) → slice_get m.world.sessions i ≡ Some o
      → received_items (system m.scenario) m.world x (session_at m.world i) ≡ received_items (system m.scenario) m.world x o
  session_here i o e = ap (λ q. received_items (system m.scenario) m.world x (joined q)) e

  pub sessions_next : (a b c : Counted W) (y z u : Bool) (i : ℕ) → i < length m.world.sessions → Sessions_so_far a b y z i
      → Prints_items contents b c z u m (received_items (system m.scenario) m.world x (session_at m.world i)) → Sessions_so_far a c y u (i + 1)
  sessions_next a b c y z u i less so_far reported =
      let n = next_one m.world.sessions i less in
      let here = received_items (system m.scenario) m.world x n.here in
      let later = sessions_items (system m.scenario) m.world x (drop (i + 1) m.world.sessions) in
      printed_next contents a b c y z u (items_text m.scenario.version here) (items_text m.scenario.version later) _ _
      (ap (λ l. items_text m.scenario.version (sessions_items (system m.scenario) m.world x l)) n.next ∙ sym (items_both m.scenario.version here later))
      so_far (subst (Prints_items contents b c z u m) (session_here i n.here n.is) reported)

  pub sessions_end : (a b : Counted W) (y z : Bool) (i : ℕ) → length m.world.sessions ≤ i → Sessions_so_far a b y z i
      → Prints_items contents a b y z m (sessions_items (system m.scenario) m.world x m.world.sessions)
  sessions_end a b y z i least so_far =
      reported_end contents a b y z _ _
      (ap (λ l. items_text m.scenario.version (sessions_items (system m.scenario) m.world x l)) (none_left m.world.sessions i least)) so_far

-- Items that are reported, each by its line.
use Rattle.std.proofs.Common.{◌≡◌, ◌∙◌, ℕ, List, [], ◌∷◌, ◌++◌, Option, Some, None}
use Rattle.std.proofs.Common.{refl, ap, sym}
use Rattle.std.proofs.Common.{append_assoc, append-nil, codes}
use Rattle.gq_model.specs.declared.program.OperandSlot.{OperandSlot}
use Rattle.gq_model.specs.machine.Amounts.{Amount}
use Rattle.gq_model.specs.machine.Scenario.{Scenario, System, system}
use Rattle.gq_model.specs.machine.World.{Slot, Empty, Bytes, Pool, Link, Waiting, Session, World, session_at}
use Rattle.gq_machine.specs.Readers.{holding_of}
use Rattle.gq_views.specs.Listing.{indent, line, place_text}
use Rattle.gq_traces.specs.Account_state.{Item, Role, Lent, depth_of, item, item_line, role_word, items_text, lent_items, service_text}
use Rattle.gq_traces.specs.Account_state.{slot_items}
use Rattle.gq_traces.specs.Trace as trace
use Rattle.gq_traces.specs.Trace.{amount_text, leaf_label, requested_text, reported_in, printed_session}
use Rattle.gq_traces.specs.internal.Slot_items.{holding_items}
use Rattle.gq_traces.specs.internal.Noted.{seen_session, service_at}
use Rattle.gq_traces.specs.declared.session_lines.PrintedSession.{PrintedSession}

-- LINES

-- a line that stands alone
pub one_line : (d : ℕ) (amount rest : List ℕ) → indent d ++ amount ++ rest ++ 10 ∷ [] ≡ line d (amount ++ rest) ++ []
one_line d amount rest =
    ap (λ l. l ++ 10 ∷ []) (append_assoc (indent d) amount rest) ∙ sym (append-nil (line d (amount ++ rest)))

pub items_both : (version : ℕ) (xs ys : List Item) → items_text version xs ++ items_text version ys ≡ items_text version (xs ++ ys)
items_both version [] ys = refl
items_both version (x ∷ xs) ys =
    append_assoc (item_line version x) (items_text version xs) (items_text version ys) ∙ ap (λ l. item_line version x ++ l) (items_both version xs ys)

-- SESSIONS

abbrev lent_of : System → OperandSlot → trace.PrintedSession → Item
lent_of system place u =
    item (depth_of place) Lent u.donation
    (codes " to " ++ leaf_label system u.server ++ codes ": " ++ place_text place ++ codes " " ++ service_text u.service u.level ++ requested_text u.requested)

never : {A : Type 0} (a : A) → Some a ≡ None → ⊥
never a e = cc

the_same : {A : Type 0} (a b : A) → Some a ≡ Some b → a ≡ b
the_same a b e = cc

pub lent_is : (s : Scenario) (w : World) (place : OperandSlot) (k : ℕ) (t : PrintedSession) → Some (seen_session s t) ≡ printed_session w k
    → lent_items (system s) w place k (session_at w k) ≡ lent_of (system s) place (seen_session s t) ∷ []
lent_is s w place k t e = by (session_at w k) e
  where
    by : (o : Option Session) → Some (seen_session s t) ≡ reported_in w k o
        → lent_items (system s) w place k o ≡ lent_of (system s) place (seen_session s t) ∷ []
    by None e = absurd (never (seen_session s t) e)
    by (Some q) e = sym (ap (λ u. lent_of (system s) place u ∷ []) (the_same _ _ e))

pub no_session : (s : Scenario) (w : World) (place : OperandSlot) (k : ℕ) → None ≡ printed_session w k → lent_items (system s) w place k (session_at w k) ≡ []
no_session s w place k e = by (session_at w k) e
  where
    by : (o : Option Session) → None ≡ reported_in w k o → lent_items (system s) w place k o ≡ []
    by None e = refl
    by (Some q) e = absurd (never _ (sym e))

-- SLOTS

pub holding_is : (system : System) (w : World) (place : OperandSlot) (slot : Slot) → holding_items system w place (holding_of slot) ≡ slot_items system w place
    slot
holding_is system w place Empty = refl
holding_is system w place (Bytes form n bytes) = refl
holding_is system w place (Pool n entries) = refl
holding_is system w place (Link k) = refl
holding_is system w place (Waiting k) = refl

-- THEIR LINES, PUT TOGETHER

-- the line of an amount, as it is put together
abbrev pub put_line : ℕ → List ℕ → List ℕ → Amount → List ℕ → List ℕ
put_line version blanks word amount rest = blanks ++ amount_text version word amount ++ rest ++ 10 ∷ []

pub amount_is_printed : (r s : Scenario) → r ≡ s → (d : ℕ) (role : Role) (a b : Amount) → a ≡ b → (blanks reported behind : List ℕ) → blanks ≡ indent d
    → reported ≡ behind → put_line r.version blanks (role_word role) a reported ≡ items_text s.version (item d role b behind ∷ [])
amount_is_printed r s same d role a b costs blanks reported behind blank is =
    (λ i. put_line (same i).version (blank i) (role_word role) (costs i) (is i)) ∙ one_line d (amount_text s.version (role_word role) b) behind

pub lent_printed : (r s : Scenario) → r ≡ s → (w : World) (place : OperandSlot) (k : ℕ) (t : PrintedSession) → Some (seen_session s t) ≡ printed_session w k
    → (blanks reported behind : List ℕ) → blanks ≡ indent (depth_of place) → reported ≡ behind
    → behind ≡ codes " to " ++ leaf_label (system r) t.server ++ codes ": " ++ place_text place ++ codes " " ++ service_text (service_at r t.service) t.level
    ++ requested_text t.requested
    → put_line r.version blanks (codes "lends") t.donation reported ≡ items_text s.version (lent_items (system s) w place k (session_at w k))
lent_printed r s same w place k t e blanks reported behind blank is bytes =
    amount_is_printed r s same (depth_of place) Lent t.donation t.donation refl blanks reported (lent_of (system s) place (seen_session s t)).behind blank
    (is ∙ bytes ∙ (λ i. (lent_of (system (same i)) place (seen_session (same i) t)).behind))
    ∙ sym (ap (items_text s.version) (lent_is s w place k t e))

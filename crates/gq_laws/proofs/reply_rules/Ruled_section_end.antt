-- Where a section may end by the rules, its end is not wrong, but for want of quota.
use Rattle.std.proofs.Common.{◌≡◌, ℕ, zero, suc, ◌==◌, ◌||◌, ◌&&◌, not, true, false, List, [], ◌∷◌, Option, Some, None, Ok, refl, ap, sym, ◌∙◌}
use Rattle.std.proofs.Common.{subst}
use Rattle.std.specs.Prelude.{nat_le, slice_get}
use Rattle.gq_model.specs.declared.program.OperandSlot.TheVariants.{Shared}
use Rattle.gq_model.specs.declared.program.Form.TheVariants.{Space, Slice, Block}
use Rattle.gq_model.specs.declared.section.Section.{Section}
use Rattle.gq_model.specs.declared.section.Section.TheVariants.{Main, Opening, Upgrading, Calling, Closing, Reacting}
use Rattle.gq_model.specs.machine.Scenario.{number_of, service_in}
use Rattle.gq_model.specs.machine.World.{Slot, Empty, Bytes, Pool, Link, Waiting, In_leaf, In_session, Session, Current, session_at, leaf_slot, session_slot}
use Rattle.gq_model.specs.machine.World.{slot_id_of}
use Rattle.gq_model.specs.machine.Doing.{Doing, Stepped}
use Rattle.gq_model.specs.machine.Step.{is_empty, all_empty, is_space_of, no_link, reply, main_ended, section_ended}
use Rattle.gq_model.specs.rules.Kinds.{Kind, Empty_kind, Memory, Pool_kind, Link_kind, AbstractState, Subject, Context, same_kinds}
use Rattle.gq_model.specs.machine.Sections.{is_own_section}
use Rattle.gq_model.specs.declared.fault.Rule.TheVariants.{LeftoverOperand, ValueTooLarge, SessionBankChanged}
use Rattle.gq_laws.specs.Current_section_facts.{Under}
use Rattle.gq_model.specs.rules.Rules.{must, is_empty_kind}
use Rattle.gq_model.specs.rules.Flow.{is_nil, none_left, has_link, is_space_kind, bank_is_empty, main_end, opening_end, section_end, bank_at}
use Rattle.gq_model.specs.rules.Use.{subject}
use Rattle.gq_laws.specs.Typed.{IsKind, AreKinds, IsCurrent, CurrentMeets, IsLinkKind, Meets}
use Rattle.gq_laws.specs.Inside_steps.{IsSafe, TakesLeaf, Grants}
use Rattle.gq_laws.specs.Section_rules.{EndsAsRuled}
use Rattle.gq_laws.proofs.statement_rules.Ruled_step_shapes.{safe_gives, safe_tested, safe_need, safe_when, safe_pop, popped_there}
use Rattle.gq_laws.proofs.statement_rules.Ruled_slot_kinds.{kinds_get}
use Rattle.gq_laws.proofs.statement_rules.Statement_number_bounds.{under_top}
use Rattle.std.proofs.lemmas.Bool.{and_parts, true≢false, false≢true, not-true, or_right}
use Rattle.gq_laws.proofs.verified_programs.Accepted_program_facts.{then_there}
use Rattle.gq_model.proofs.Rules_laws.{none_left_ok, must_holds}

-- SLOTS THAT NAME NO SESSION UNLESS THEIR KIND SAYS SO

-- a slot that leads to a session is of a link's kind, and none waits
abbrev IsPlain : (ℕ → Option Kind) → List Slot → Type 0
IsPlain promised slots = (i k : ℕ) (kind : Kind) → slice_get slots i ≡ Some (Link k) → promised k ≡ Some kind → IsLinkKind kind

abbrev IsQuietList : List Slot → Type 0
IsQuietList slots = (i k : ℕ) → slice_get slots i ≡ Some (Waiting k) → ⊥

module _ (promised : ℕ → Option Kind) where
  -- no link is among the kinds after the first
  further : (kind : Kind) (kinds : List Kind) → has_link (kind ∷ kinds) ≡ false → has_link kinds ≡ false
  further Empty_kind kinds e = e
  further (Memory form n) kinds e = e
  further (Pool_kind n m) kinds e = e
  further (Link_kind service level given) kinds e = absurd (true≢false e)

  no_first : (kind : Kind) (kinds : List Kind) → IsLinkKind kind → has_link (kind ∷ kinds) ≡ false → ⊥
  no_first Empty_kind kinds is e = is
  no_first (Memory form n) kinds is e = is
  no_first (Pool_kind n m) kinds is e = is
  no_first (Link_kind service level given) kinds is e = true≢false e

  no_links : (slots : List Slot) (kinds : List Kind) → AreKinds promised slots kinds → IsPlain promised slots → has_link kinds ≡ false → no_link slots ≡ true
  no_links [] [] h plain none = refl
  no_links (Link k ∷ slots) (kind ∷ kinds) h plain none = absurd (no_first kind kinds (plain 0 k kind refl h.0) none)
  no_links (Empty ∷ slots) (kind ∷ kinds) h plain none = no_links slots kinds h.1 (λ i. plain (suc i)) (further kind kinds none)
  no_links (Bytes form n bytes ∷ slots) (kind ∷ kinds) h plain none = no_links slots kinds h.1 (λ i. plain (suc i)) (further kind kinds none)
  no_links (Pool n entries ∷ slots) (kind ∷ kinds) h plain none = no_links slots kinds h.1 (λ i. plain (suc i)) (further kind kinds none)
  no_links (Waiting k ∷ slots) (kind ∷ kinds) h plain none = no_links slots kinds h.1 (λ i. plain (suc i)) (further kind kinds none)
  no_links [] (kind ∷ kinds) h plain none = absurd h
  no_links (s ∷ slots) [] h plain none = absurd h

  empty_one : (slot : Slot) (kind : Kind) → IsKind promised slot kind → ((k : ℕ) → slot ≡ Link k → promised k ≡ Some kind → IsLinkKind kind)
      → ((k : ℕ) → slot ≡ Waiting k → ⊥) → is_empty_kind kind ≡ true → is_empty slot ≡ true
  empty_one Empty kind is plain quiet e = refl
  empty_one (Bytes form n bytes) kind is plain quiet e = absurd (false≢true (ap is_empty_kind (sym is.0) ∙ e))
  empty_one (Pool n entries) kind is plain quiet e = absurd (false≢true (ap is_empty_kind (sym is.0) ∙ e))
  empty_one (Link k) Empty_kind is plain quiet e = absurd (plain k refl is)
  empty_one (Link k) (Memory form n) is plain quiet e = absurd (false≢true e)
  empty_one (Link k) (Pool_kind n m) is plain quiet e = absurd (false≢true e)
  empty_one (Link k) (Link_kind s l a) is plain quiet e = absurd (false≢true e)
  empty_one (Waiting k) kind is plain quiet e = absurd (quiet k refl)

  all_are_empty : (slots : List Slot) (kinds : List Kind) → AreKinds promised slots kinds → IsPlain promised slots → IsQuietList slots
      → bank_is_empty kinds ≡ true → all_empty slots ≡ true
  all_are_empty [] [] h plain quiet e = refl
  all_are_empty (s ∷ slots) (l ∷ kinds) h plain quiet e =
      let b = and_parts (is_empty_kind l) (bank_is_empty kinds) e in
      let first = empty_one s l h.0 (λ k same. plain 0 k l (ap Some same)) (λ k same. quiet 0 k (ap Some same)) b.0 in
      let rest = all_are_empty slots kinds h.1 (λ i. plain (suc i)) (λ i. quiet (suc i)) b.1 in
      λ i. first i && rest i
  all_are_empty [] (k ∷ kinds) h plain quiet e = absurd h
  all_are_empty (s ∷ slots) [] h plain quiet e = absurd h

  space_slot : (n : ℕ) (slot : Slot) (kind : Kind) → IsKind promised slot kind → ((k : ℕ) → slot ≡ Link k → promised k ≡ Some kind → IsLinkKind kind)
      → ((k : ℕ) → slot ≡ Waiting k → ⊥) → is_space_kind n (Some kind) ≡ true → is_space_of n (Some slot) ≡ true
  space_slot n Empty kind is plain quiet e = absurd (false≢true (ap (λ k. is_space_kind n (Some k)) (sym is) ∙ e))
  space_slot n (Bytes Space m bytes) kind is plain quiet e = ap (λ k. is_space_kind n (Some k)) (sym is.0) ∙ e
  space_slot n (Bytes Slice m bytes) kind is plain quiet e = absurd (false≢true (ap (λ k. is_space_kind n (Some k)) (sym is.0) ∙ e))
  space_slot n (Bytes Block m bytes) kind is plain quiet e = absurd (false≢true (ap (λ k. is_space_kind n (Some k)) (sym is.0) ∙ e))
  space_slot n (Pool m entries) kind is plain quiet e = absurd (false≢true (ap (λ k. is_space_kind n (Some k)) (sym is.0) ∙ e))
  space_slot n (Link k) (Memory form m) is plain quiet e = absurd (plain k refl is)
  space_slot n (Link k) Empty_kind is plain quiet e = absurd (false≢true e)
  space_slot n (Link k) (Pool_kind p m) is plain quiet e = absurd (false≢true e)
  space_slot n (Link k) (Link_kind s l a) is plain quiet e = absurd (false≢true e)
  space_slot n (Waiting k) kind is plain quiet e = absurd (quiet k refl)

-- ENDS

module _ (promised : ℕ → Option Kind) (c : Context) (d : Doing) (t : TakesLeaf d) (g : Grants promised c d) (mine : c.subject ≡ subject d.system d.component)
    (state last : AbstractState) (m : Meets promised c state d.world d.leaf) where
  abbrev Safe : Stepped → Type 0
  Safe r = IsSafe (λ w. Unit {0}) r

  own_plain : IsPlain promised d.leaf.slots
  own_plain i k kind e = g.links (In_leaf d.x i) k kind (ap (λ o. leaf_slot o i) t.there ∙ (ap (λ l. slice_get l i) (sym t.slots) ∙ e))

  bank_plain : (current : Current) (s : Session) → session_at d.world current.session ≡ Some s → IsPlain promised s.slots
  bank_plain current s there i k kind e = g.links (In_session current.session i) k kind (ap (λ o. session_slot o i) there ∙ e)

  bank_quiet : (current : Current) (s : Session) → d.leaf.current ≡ Some current → session_at d.world current.session ≡ Some s → IsQuietList s.slots
  bank_quiet current s handed there i k e = g.awake (Shared i) (In_session current.session i) k (ap (λ h. slot_id_of d.x h (Shared i)) handed)
      (ap (λ o. session_slot o i) there ∙ e)

  provides_none : d.component.node.provides ≡ None → c.subject.provided ≡ None
  provides_none e = ap (λ (v : Subject). v.provided) mine ∙ ap (λ p. service_in p d.system.interfaces) e

  main_safe : section_end c.subject Main state ≡ Ok last → (provides : Option (List ℕ)) (signals : ℕ) → d.component.node.provides ≡ provides
      → d.component.node.signals ≡ signals → Safe (main_ended d provides signals)
  main_safe e (Some service) signals p q = safe_gives _ _ tt
  main_safe e None (suc n) p q = safe_gives _ _ tt
  main_safe e None zero p q =
      let left = then_there (none_left state) (main_end c.subject.provided c.subject.signals) last e in
      let none = none_left_ok state left.0 left.1 in
      let n : c.subject.signals ≡ 0 = ap (λ (v : Subject). v.signals) mine ∙ q in
      let unlinked : main_end None 0 left.0 ≡ Ok last = subst (λ n. main_end None n left.0 ≡ Ok last) n
      (subst (λ o. main_end o c.subject.signals left.0 ≡ Ok last) (provides_none p) left.2) in
      let links = not-true (has_link left.0.own) (must_holds (not (has_link left.0.own)) _ _ last unlinked).0 in
      safe_when (no_link d.leaf.slots) _ _ (no_links promised d.leaf.slots state.own m.own own_plain
      (ap (λ (s : AbstractState). has_link s.own) (sym none.1) ∙ links))
      (safe_gives _ _ tt)

  bank_safe : (section : Section) (current : Current) → d.leaf.current ≡ Some current → is_own_section section ≡ false
      → section_end c.subject section state ≡ Ok last
      → (s : Session) → session_at d.world current.session ≡ Some s → AreKinds promised s.slots state.bank → Safe (reply d current.session section s)
  bank_safe Main current handed outside e s there kinds = absurd (true≢false outside)
  bank_safe Opening current handed outside e s there kinds =
      let left = then_there (none_left state) (opening_end (number_of c.subject.provided (λ i. i.buffer))) last e in
      let none = none_left_ok state left.0 left.1 in
      let n = ap (λ o. number_of o (λ i. i.buffer)) (g.provided current s handed there) in
      safe_when _ _ _ (subst (λ n. (n == 0 || is_space_of n (slice_get s.slots 0)) ≡ true) (sym n)
      (by (number_of c.subject.provided (λ i. i.buffer))
      (subst (λ (u : AbstractState). opening_end (number_of c.subject.provided (λ i. i.buffer)) u ≡ Ok last) none.1 left.2))) (safe_gives _ _ tt)
    where
      space : (n : ℕ) (o : Option Kind) → slice_get state.bank 0 ≡ o → is_space_kind n o ≡ true → is_space_of n (slice_get s.slots 0) ≡ true
      space n None at e = absurd (false≢true e)
      space n (Some kind) at e =
          let f = kinds_get promised s.slots state.bank 0 kind kinds at in
          ap (is_space_of n) f.1 ∙ space_slot promised n f.0 kind f.2 (λ k same. bank_plain current s there 0 k kind (f.1 ∙ ap Some same))
          (λ k same. bank_quiet current s handed there 0 k (f.1 ∙ ap Some same)) e

      by : (n : ℕ) → opening_end n state ≡ Ok last → (n == 0 || is_space_of n (slice_get s.slots 0)) ≡ true
      by zero e = refl
      by (suc n) e = or_right (suc n == 0) (is_space_of (suc n) (slice_get s.slots 0))
          (space (suc n) (slice_get state.bank 0) refl (must_holds (is_space_kind (suc n) (slice_get state.bank 0)) _ _ last e).0)
  bank_safe (Upgrading l) current handed outside e s there kinds = safe_gives _ _ tt
  bank_safe (Calling l) current handed outside e s there kinds =
      let p = popped_there state (λ a t. must (is_nil t.bounds) LeftoverOperand
      (must (nat_le a (number_of c.subject.provided (λ i. i.reply))) ValueTooLarge
      (must (same_kinds state.bank (bank_at c.subject l)) SessionBankChanged (Ok t)))) last e in
      let u = under_top d.leaf.operands p.0 p.1 (subst (Under d.leaf.operands) p.2 m.operands) in
      safe_pop d.leaf.operands _ u.0 u.1 u.2 (safe_gives _ _ tt)
  bank_safe (Closing l) current handed outside e s there kinds =
      let left = then_there (none_left state) (λ t. must (bank_is_empty t.bank) SessionBankChanged (Ok t)) last e in
      let none = none_left_ok state left.0 left.1 in
      let empty = must_holds (bank_is_empty left.0.bank) _ _ last left.2 in
      safe_when (all_empty s.slots) _ _ (all_are_empty promised s.slots state.bank kinds (bank_plain current s there) (bank_quiet current s handed there)
      (ap (λ (s : AbstractState). bank_is_empty s.bank) (sym none.1) ∙ empty.0)) (safe_tested _ _ (safe_gives _ _ tt))
  bank_safe (Reacting i) current handed outside e s there kinds = absurd (true≢false outside)

  ends_safe : section_end c.subject c.section state ≡ Ok last → (current : Option Current) (reacting : Option ℕ) → d.leaf.current ≡ current
      → IsCurrent c.section current reacting → CurrentMeets promised c state.bank d.world current → Safe (section_ended d current reacting)
  ends_safe e None None handed at bank =
      main_safe (subst (λ section. section_end c.subject section state ≡ Ok last) at e) d.component.node.provides d.component.node.signals refl refl
  ends_safe e None (Some i) handed at bank = safe_gives _ _ tt
  ends_safe e (Some current) reacting handed at bank =
      safe_need (session_at d.world current.session) _ _ bank.0 bank.1
      (subst (λ section. Safe (reply d current.session section bank.0)) (sym at.0) (bank_safe c.section current handed at.1 e bank.0 bank.1 bank.2.slots))

pub ends_ruled : (promised : ℕ → Option Kind) (c : Context) (d : Doing) → TakesLeaf d → Grants promised c d → c.subject ≡ subject d.system d.component
    → EndsAsRuled promised c d
ends_ruled promised c d t g mine state last wrong m e fails =
    (ends_safe promised c d t g mine state last m e d.leaf.current d.leaf.reacting refl m.current m.bank).short wrong fails

-- Once a leaf has asked something of a session, each session's slot has what is reported of it: the asked one's what the reply will make of it.
use Rattle.std.proofs.Common.{◌≡◌, ◌≢◌, ℕ, ◌==◌, inl, inr, cond, List, [], ◌∷◌, ◌++◌, Option, Some, None, refl, ap, sym, ◌∙◌, subst, arith}
use Rattle.std.specs.Prelude.{slice_get, slice_set}
use Rattle.std.proofs.lemmas.Bool.Decides.{eqb_tells}
use Rattle.gq_model.specs.machine.Lists.{or_first}
use Rattle.gq_model.specs.declared.section.Section.{Section}
use Rattle.gq_model.specs.declared.program.Instruction.{Instruction}
use Rattle.gq_model.specs.machine.World.{Slot, Waiting, SlotId, In_leaf, In_session, In_object, Session, Ask, Request, Current, World, session_at}
use Rattle.gq_model.specs.machine.Doing.{Doing}
use Rattle.gq_model.specs.machine.Step.{section_for, level_then}
use Rattle.gq_model.specs.rules.Kinds.{Kind}
use Rattle.gq_laws.specs.Current_section_facts.{kind_replied, section_waiting, section_if, current_section, section_asked}
use Rattle.gq_laws.specs.Session_links.{stance_in, requests_of}
use Rattle.gq_laws.specs.Inside_steps.{TakesLeaf}
use Rattle.gq_laws.specs.Asking.{promised_anew}
use Rattle.gq_laws.specs.Reply_stances.{bank_then, session_then}
use Rattle.gq_laws.specs.Typing.{kind_then, PromisesSessions}
use Rattle.gq_model.proofs.Small_facts.{some_same, none_some}
use Rattle.gq_laws.proofs.session_links.Asked_request_changes.{one_one, no_current_at}
use Rattle.gq_laws.proofs.typed_worlds.Promised_stance_transfer.{kind_same, waiting_same, waiting_none, current_none}
use Rattle.gq_laws.proofs.request_rules.Promised_slot_kinds.{anew_here, anew_else}
use Rattle.gq_laws.proofs.typed_worlds.Asked_worlds.{IsMine, Asked}

-- REQUESTS

-- a request of another session is none of its
waiting_end : (j k : ℕ) (s : Session) (ask : Ask) → j ≢ k → (rs : List Request)
    → section_waiting j s (rs ++ record { session = k; ask = ask } ∷ []) ≡ section_waiting j s rs
waiting_end j k s ask ne [] = elim (eqb_tells k j) [
  | inl e ↦ absurd (ne (sym e.1))
  | inr e ↦ ap (λ b. cond b (Some (section_for ask (level_then ask s.level))) None) e.0
]
waiting_end j k s ask ne (r ∷ rest) = let further = waiting_end j k s ask ne rest in
    ap (cond (r.session == j) (Some (section_for r.ask (level_then r.ask s.level)))) further

-- with no request of the session but the last
waiting_by : (k : ℕ) (s : Session) (o : Option Section) (rest : List Request) → requests_of k rest ≡ 0 → (more : List Request) → section_waiting k s more ≡ o
    → section_waiting k s (rest ++ more) ≡ o
waiting_by k s o [] none more e = e
waiting_by k s o (r ∷ rest) none more e =
    let first : r.session ≢ k = λ same. (let one = one_one r.session k same in omega (arith, none, one)) in
    let further = waiting_by k s o rest (omega (arith, none)) more e in
    elim (eqb_tells r.session k) [
      | inl f ↦ absurd (first f.1)
      | inr f ↦ ap (λ b. cond b (Some (section_for r.ask (level_then r.ask s.level))) (section_waiting k s (rest ++ more))) f.0 ∙ further
    ]

waiting_last : (k : ℕ) (s : Session) (ask : Ask) → section_waiting k s (record { session = k; ask = ask } ∷ [])
    ≡ Some (section_for ask (level_then ask s.level))
waiting_last k s ask = elim (eqb_tells k k) [ inl e ↦ ap (λ b. cond b (Some (section_for ask (level_then ask s.level))) None) e.0 | inr e ↦ absurd (e.1 refl) ]

-- OTHER SESSIONS

-- a session as it was: only where it is current at the leaf its slots may have changed
pub record Was (d : Doing) (j : ℕ) (s : Session) : Type 0 where
  pub old : Session
  pub there : session_at d.world j ≡ Some old
  pub slots : List Slot
  pub is : s ≡ record old { slots = slots }
  pub same : ((g : Current) → d.leaf.current ≡ Some g → g.session ≢ j) → s ≡ old

then_was : (d : Doing) (current : Option Current) → d.leaf.current ≡ current → (q : SlotId) → IsMine d.x current q → (slot : Slot) (j : ℕ) (s : Session)
    → session_then q slot j (session_at d.world j) ≡ Some s → Was d j s
then_was d current handed (In_leaf y i) m slot j s e = record { old = s; there = e; slots = s.slots; is = refl; same = λ else. refl }
then_was d None handed (In_session n i) m slot j s e = absurd m
then_was d (Some g) handed (In_session n i) m slot j s e =
    elim (eqb_tells j n) [
      | inl f ↦ at_current f.1 (session_at d.world j) refl (sym (ap (λ b. cond b (bank_then i slot (session_at d.world j)) (session_at d.world j)) f.0) ∙ e)
      | inr f ↦ record {
        old = s;
        there = sym (ap (λ b. cond b (bank_then i slot (session_at d.world j)) (session_at d.world j)) f.0) ∙ e;
        slots = s.slots;
        is = refl;
        same = λ else. refl;
      }
    ]
  where
    at_current : j ≡ n → (o : Option Session) → session_at d.world j ≡ o → bank_then i slot o ≡ Some s → Was d j s
    at_current f None at e = absurd (none_some e)
    at_current f (Some old) at e = record {
      old = old;
      there = at;
      slots = slice_set old.slots i slot;
      is = sym (some_same e);
      same = λ else. absurd (else g handed (sym (f ∙ m)));
    }
then_was d current handed (In_object n) m slot j s e = absurd m

-- a session that was there still is
now_by : (q : SlotId) (slot : Slot) (j : ℕ) (old : Session) → (slots : List Slot) × (session_then q slot j (Some old) ≡ Some (record old { slots = slots }))
now_by (In_leaf y i) slot j old = (old.slots, refl)
now_by (In_object n) slot j old = (old.slots, refl)
now_by (In_session n i) slot j old =
    elim (eqb_tells j n) [
      | inl f ↦ (slice_set old.slots i slot, ap (λ b. cond b (bank_then i slot (Some old)) (Some old)) f.0)
      | inr f ↦ (old.slots, ap (λ b. cond b (bank_then i slot (Some old)) (Some old)) f.0)
    ]

module _ (d : Doing) (t : TakesLeaf d) (i : Instruction) (k : ℕ) (s : Session) (w : World) (a : Asked d i k s w) where
  pub session_was : (j : ℕ) (u : Session) → j ≢ k → session_at w j ≡ Some u → Was d j u
  session_was j u ne e = then_was d d.leaf.current refl a.q a.mine (Waiting k) j u (sym (a.sessions j ne) ∙ e)

  pub session_now : (j : ℕ) (old : Session) → j ≢ k → session_at d.world j ≡ Some old
      → (slots : List Slot) × (session_at w j ≡ Some (record old { slots = slots }))
  session_now j old ne e = let n = now_by a.q (Waiting k) j old in (n.0, a.sessions j ne ∙ (ap (session_then a.q (Waiting k) j) e ∙ n.1))

  -- what is current
  pub all_current_same : (j y : ℕ) → current_section j (slice_get w.leaves y) ≡ current_section j (slice_get d.world.leaves y)
  all_current_same j y =
      elim (eqb_tells y d.x) [
        | inl e ↦ ap (λ y. current_section j (slice_get w.leaves y)) e.1
            ∙ (ap (current_section j) a.there ∙ (ap (section_if j) (a.current ∙ t.current)
            ∙ (sym (ap (current_section j) t.there) ∙ ap (λ y. current_section j (slice_get d.world.leaves y)) (sym e.1))))
        | inr e ↦ ap (current_section j) (a.leaves y e.1)
      ]

  -- no current request has the session
  pub none_current : (y : ℕ) → current_section k (slice_get d.world.leaves y) ≡ None
  none_current y = current_none k (slice_get d.world.leaves y) (no_current_at k (stance_in (slice_get d.world.leaves y)) (λ g p e. a.free.no_current y p g e))

  -- what others wait for
  pub asked_else : (j : ℕ) (old : Session) (slots : List Slot) → j ≢ k → section_asked w j (record old { slots = slots }) ≡ section_asked d.world j old
  asked_else j old slots ne =
      let u : Session = record old { slots = slots } in
      let requests = ap (section_waiting j u) a.requests ∙ (waiting_end j k u a.ask ne d.world.requests ∙ waiting_same j old u d.world.requests refl) in
      let all_current = all_current_same j old.server in
      (λ n. or_first (requests n) (all_current n))

  -- what it waits for itself
  pub asked_none : (u : Session) → section_asked d.world k u ≡ None
  asked_none u =
      let requests = waiting_none k u d.world.requests a.free.no_request in
      let all_current = none_current u.server in
      (λ n. or_first (requests n) (all_current n))

  pub asked_here : section_asked w k s ≡ Some (section_for a.ask (level_then a.ask s.level))
  asked_here =
      let o = Some (section_for a.ask (level_then a.ask s.level)) in
      ap (λ o. or_first o (current_section k (slice_get w.leaves s.server))) (ap (section_waiting k s) a.requests
      ∙ waiting_by k s o d.world.requests a.free.no_request (record { session = k; ask = a.ask } ∷ []) (waiting_last k s a.ask))

  module _ (promised : ℕ → Option Kind) (kind : Kind) where
    reports_else : PromisesSessions promised d.world → (j : ℕ) (u : Session) → j ≢ k → session_at w j ≡ Some u
        → promised_anew promised k kind j ≡ Some (kind_then u (section_asked w j u))
    reports_else reports j u ne e =
        let r = session_was j u ne e in
        let v : Session = record r.old { slots = r.slots } in
        let same : kind_then v (section_asked w j v) ≡ kind_then r.old (section_asked d.world j r.old) =
        kind_same (section_asked w j v) r.old v refl ∙ ap (kind_then r.old) (asked_else j r.old r.slots ne) in
        anew_else promised k kind j ne ∙ (reports j r.old r.there ∙ (ap Some (sym same) ∙ ap (λ v. Some (kind_then v (section_asked w j v))) (sym r.is)))

    reports_here : kind ≡ kind_replied (section_for a.ask (level_then a.ask s.level)) s
        → promised_anew promised k kind k ≡ Some (kind_then s (section_asked w k s))
    reports_here promise = anew_here promised k kind ∙ (ap Some promise ∙ ap (λ o. Some (kind_then s o)) (sym asked_here))

    pub asked_reports : kind ≡ kind_replied (section_for a.ask (level_then a.ask s.level)) s → PromisesSessions promised d.world
        → PromisesSessions (promised_anew promised k kind) w
    asked_reports promise reports j u e =
        elim (eqb_tells j k) [
          | inl f ↦ (let same : s ≡ u = some_same (sym a.found ∙ (ap (session_at w) (sym f.1) ∙ e)) in
              subst (λ j. promised_anew promised k kind j ≡ Some (kind_then u (section_asked w j u))) (sym f.1)
              (subst (λ u. promised_anew promised k kind k ≡ Some (kind_then u (section_asked w k u))) same (reports_here promise)))
          | inr f ↦ reports_else reports j u f.1 e
        ]

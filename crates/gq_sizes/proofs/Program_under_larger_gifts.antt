-- Programs that break no rule, with other quantities that give what is asked for.
use Rattle.std.proofs.Common.{append_assoc, ◌++◌, ◌≡◌, ℕ, zero, suc, ◌&&◌, Bool, true, false, not, List, [], ◌∷◌, Option, Some, None, Ok, Err, refl, ap, sym}
use Rattle.std.proofs.Common.{◌∙◌, subst}
use Rattle.std.specs.Prelude.{replicate, nat_le, slice_get, is_some, if◌then◌else◌}
use Rattle.gq_model.specs.declared.program.Form.TheVariants.{Block, Slice, Space}
use Rattle.gq_model.specs.declared.section.Section.{Section}
use Rattle.gq_model.specs.declared.section.Section.TheVariants.{Main, Opening, Upgrading, Calling, Closing, Reacting}
use Rattle.gq_model.specs.declared.program.Instruction.{Instruction}
use Rattle.gq_model.specs.declared.fault.Rule.{Rule}
use Rattle.gq_model.specs.declared.fault.Rule.TheVariants.{LeftoverOperand, SessionBankChanged, LinkLeftOpen, ValueTooLarge}
use Rattle.gq_model.specs.machine.Program.{Program, Statements, Done, size, section_in, body_of}
use Rattle.gq_model.specs.machine.Sections.{all_sections, same_section}
use Rattle.gq_model.specs.machine.Scenario.{Interfaces, Interface, number_of}
use Rattle.gq_model.specs.rules.Kinds.{Kind, Empty_kind, Memory, Pool_kind, Link_kind, AbstractState, Subject, same_kinds}
use Rattle.gq_model.specs.rules.Rules.{Judged, must, top, and_then, within_need, is_empty_kind}
use Rattle.gq_model.specs.rules.Flow.{Flowed, at, flow_then, is_nil, none_left, flow, state_or, context, body, own_after, bank_at}
use Rattle.gq_model.specs.rules.Flow.{start_of, has_link, is_space_kind, bank_is_empty, main_end, opening_end, calling_end, section_end, section_flow}
use Rattle.gq_model.specs.rules.Verdict.{first_unwanted, is_wanted, same_truth, fault_of, first_fault, walked, program_fault}
use Rattle.gq_model.specs.machine.Lists.{or_first}
use Rattle.gq_model.proofs.Small_facts.{or_first_none}
use Rattle.gq_model.proofs.Section_laws.{same_self}
use Rattle.gq_model.proofs.Rules_laws.{must_holds, at_ok, none_left_ok, kinds_are, accepted, section_flows, then_ok, within_same}
use Rattle.gq_laws.proofs.statement_rules.Ruled_step_shapes.{top_there}
use Rattle.gq_sizes.specs.Unsized_equality.{SubjectsAsOne, ContextsAsOne, KindsAsOne, BanksAsOne, StatesAsOne, ProvideAsOne, Along, Allows}
use Rattle.gq_sizes.proofs.Judgement_under_larger_gifts.{same_number}
use Rattle.gq_sizes.proofs.Flow_under_larger_gifts.{flow_so, banks_from}

-- a program without a fault passes each section, there or not
pub flows_through : (v : Subject) (section : Section) → program_fault v ≡ None
    → (end : AbstractState) × (flow (context v section) (start_of v section) (body v section) ≡ Ok end)
flows_through v section e = by (section_in section v.program.sections) refl
  where
    by : (o : Option Statements) → section_in section v.program.sections ≡ o
        → (end : AbstractState) × (flow (context v section) (start_of v section) (body v section) ≡ Ok end)
    by None f = (start_of v section, ap (λ x. flow (context v section) (start_of v section) (body_of x)) f)
    by (Some list) f = let p = section_flows v section list e f in (p.0, p.2)

-- a section of a list is found in it
section_there : (prefix : List (Section × Statements)) (p : Section × Statements) (rest : List (Section × Statements))
    → (list : Statements) × (section_in p.0 (prefix ++ p ∷ rest) ≡ Some list)
section_there [] p rest = (p.1, (λ i. if◌then◌else◌ (same_self p.0 i) (Some p.1) (section_in p.0 rest)))
section_there (q ∷ prefix) p rest = by (same_section p.0 q.0) refl (section_there prefix p rest)
  where
    by : (b : Bool) → same_section p.0 q.0 ≡ b → (list : Statements) × (section_in p.0 (prefix ++ p ∷ rest) ≡ Some list)
        → (list : Statements) × ((if◌then◌else◌ (same_section p.0 q.0) (Some q.1) (section_in p.0 (prefix ++ p ∷ rest))) ≡ Some list)
    by true e f = (q.1, (λ i. if◌then◌else◌ (e i) (Some q.1) (section_in p.0 (prefix ++ p ∷ rest))))
    by false e f = (f.0, (λ i. if◌then◌else◌ (e i) (Some q.1) (section_in p.0 (prefix ++ p ∷ rest))) ∙ f.1)

module _ (v w : Subject) (h : SubjectsAsOne v w) (fine : program_fault v ≡ None) (A : Section → AbstractState → Instruction → Type 0)
    (B : Section → AbstractState → Type 0)
    (allows : (section : Section) (list : Statements) → section_in section v.program.sections ≡ Some list
    → Allows (A section) (B section) (context v section) (context w section))
    (along : (section : Section) (list : Statements) → section_in section v.program.sections ≡ Some list
    → Along (A section) (B section) (context v section) (start_of v section) (body v section)) where
  abbrev xs : Interfaces
  xs = v.interfaces

  abbrev ys : Interfaces
  ys = w.interfaces

  abbrev One : AbstractState → AbstractState → Type 0
  One = StatesAsOne xs ys

  contexts : (section : Section) → ContextsAsOne (context v section) (context w section)
  contexts section = record { subject = h; section = refl; counts = refl }

  same_body : (section : Section) → body v section ≡ body w section
  same_body section = ap (λ (p : Program). body_of (section_in section p.sections)) h.program

  abbrev EndAlike : Section → Type 0
  EndAlike section = (e f : AbstractState) × (flow (context v section) (start_of v section) (body v section) ≡ Ok e)
      × (flow (context w section) (start_of w section) (body w section) ≡ Ok f) × One e f

  -- where a section starts alike, it ends alike; one that is not there changes nothing
  ends_from : (section : Section) → One (start_of v section) (start_of w section) → EndAlike section
  ends_from section o = by (section_in section v.program.sections) refl
    where
      by : (l : Option Statements) → section_in section v.program.sections ≡ l → EndAlike section
      by None f =
          let none : body v section ≡ Done = ap body_of f in
          let a : flow (context v section) (start_of v section) (body v section) ≡ Ok (start_of v section) =
          ap (flow (context v section) (start_of v section)) none in
          let b : flow (context w section) (start_of w section) (body w section) ≡ Ok (start_of w section) =
          ap (flow (context w section) (start_of w section)) (sym (same_body section) ∙ none) in
          (start_of v section, start_of w section, a, b, o)
      by (Some list) f =
          let p = flows_through v section fine in
          let q = flow_so (A section) (B section) (context v section) (context w section) (start_of v section) (start_of w section) p.0 (body v section)
          (contexts section) o (allows section list f) (along section list f) p.1 in
          (p.0, q.0, p.1, subst (λ l. flow (context w section) (start_of w section) l ≡ Ok q.0) (same_body section) q.1, q.2)

  all_empty : (n : ℕ) → BanksAsOne xs ys (replicate n Empty_kind) (replicate n Empty_kind)
  all_empty zero = tt
  all_empty (suc n) = (refl, all_empty n)

  main_starts : One (start_of v Main) (start_of w Main)
  main_starts = record { own = all_empty 64; bank = all_empty 8; bounds = refl }

  own_alike : BanksAsOne xs ys (own_after v) (own_after w)
  own_alike =
      let p = ends_from Main main_starts in
      let o : BanksAsOne xs ys p.0.own p.1.own = p.4.own in
      let a : own_after v ≡ p.0.own = ap (λ r. (state_or (start_of v Main) r).own) p.2 in
      let b : own_after w ≡ p.1.own = ap (λ r. (state_or (start_of w Main) r).own) p.3 in
      subst (λ x. BanksAsOne xs ys x (own_after w)) (sym a) (subst (λ y. BanksAsOne xs ys p.0.own y) (sym b) o)

  bank_from : (section : Section) → One (start_of v section) (start_of w section)
      → BanksAsOne xs ys (state_or (start_of v section) (flow (context v section) (start_of v section) (body v section))).bank
      (state_or (start_of w section) (flow (context w section) (start_of w section) (body w section))).bank
  bank_from section o =
      let p = ends_from section o in
      subst (λ r. BanksAsOne xs ys (state_or (start_of v section) r).bank
      (state_or (start_of w section) (flow (context w section) (start_of w section) (body w section))).bank) (sym p.2)
      (subst (λ r. BanksAsOne xs ys p.0.bank (state_or (start_of w section) r).bank) (sym p.3) p.4.bank)

  opening_starts : One (start_of v Opening) (start_of w Opening)
  opening_starts = record { own = own_alike; bank = all_empty 8; bounds = refl }

  banks_alike : (l : ℕ) → BanksAsOne xs ys (bank_at v l) (bank_at w l)
  banks_alike zero = bank_from Opening opening_starts
  banks_alike (suc l) = bank_from (Upgrading (suc l)) (record { own = own_alike; bank = banks_alike l; bounds = refl })

  pub starts : (section : Section) → One (start_of v section) (start_of w section)
  starts Main = main_starts
  starts Opening = opening_starts
  starts (Upgrading zero) = record { own = own_alike; bank = all_empty 8; bounds = refl }
  starts (Upgrading (suc l)) = record { own = own_alike; bank = banks_alike l; bounds = refl }
  starts (Calling l) = record {
    own = own_alike;
    bank = banks_alike l;
    bounds = ap (λ n. n ∷ []) (same_number v.provided w.provided (λ i. i.arg) h.provided (λ i j a. a.arg));
  }
  starts (Closing l) = record { own = own_alike; bank = banks_alike l; bounds = refl }
  starts (Reacting i) = record { own = own_alike; bank = all_empty 8; bounds = refl }

  pub ends : (section : Section) → (e f : AbstractState) × (flow (context v section) (start_of v section) (body v section) ≡ Ok e)
      × (flow (context w section) (start_of w section) (body w section) ≡ Ok f) × One e f
  ends section = ends_from section (starts section)

  -- ENDS OF SECTIONS

  has_link_alike : (ks ls : List Kind) → BanksAsOne xs ys ks ls → has_link ks ≡ has_link ls
  has_link_alike [] [] b = refl
  has_link_alike [] (l ∷ ls) b = absurd b
  has_link_alike (k ∷ ks) [] b = absurd b
  has_link_alike (Empty_kind ∷ ks) (l ∷ ls) b = has_link_alike ks ls b.1 ∙ ap (λ x. has_link (x ∷ ls)) (sym b.0)
  has_link_alike (Memory form n ∷ ks) (l ∷ ls) b = has_link_alike ks ls b.1 ∙ ap (λ x. has_link (x ∷ ls)) (sym b.0)
  has_link_alike (Pool_kind n m ∷ ks) (l ∷ ls) b = has_link_alike ks ls b.1 ∙ ap (λ x. has_link (x ∷ ls)) (sym b.0)
  has_link_alike (Link_kind s l a ∷ ks) (Empty_kind ∷ ls) b = absurd b.0
  has_link_alike (Link_kind s l a ∷ ks) (Memory form n ∷ ls) b = absurd b.0
  has_link_alike (Link_kind s l a ∷ ks) (Pool_kind n m ∷ ls) b = absurd b.0
  has_link_alike (Link_kind s l a ∷ ks) (Link_kind t m c ∷ ls) b = refl

  empty_alike : (k l : Kind) → KindsAsOne xs ys k l → is_empty_kind k ≡ is_empty_kind l
  empty_alike Empty_kind l e = ap is_empty_kind (sym e)
  empty_alike (Memory form n) l e = ap is_empty_kind (sym e)
  empty_alike (Pool_kind n m) l e = ap is_empty_kind (sym e)
  empty_alike (Link_kind s l a) Empty_kind e = absurd e
  empty_alike (Link_kind s l a) (Memory form n) e = absurd e
  empty_alike (Link_kind s l a) (Pool_kind n m) e = absurd e
  empty_alike (Link_kind s l a) (Link_kind t m b) e = refl

  bank_empty_alike : (ks ls : List Kind) → BanksAsOne xs ys ks ls → bank_is_empty ks ≡ bank_is_empty ls
  bank_empty_alike [] [] b = refl
  bank_empty_alike [] (l ∷ ls) b = absurd b
  bank_empty_alike (k ∷ ks) [] b = absurd b
  bank_empty_alike (k ∷ ks) (l ∷ ls) b = λ i. empty_alike k l b.0 i && bank_empty_alike ks ls b.1 i

  space_alike : (n : ℕ) (ks ls : List Kind) → BanksAsOne xs ys ks ls → is_space_kind n (slice_get ks 0) ≡ true → is_space_kind n (slice_get ls 0) ≡ true
  space_alike n [] [] b e = e
  space_alike n [] (l ∷ ls) b e = absurd b
  space_alike n (k ∷ ks) [] b e = absurd b
  space_alike n (Empty_kind ∷ ks) (l ∷ ls) b e = absurd cc
  space_alike n (Memory Block m ∷ ks) (l ∷ ls) b e = absurd cc
  space_alike n (Memory Slice m ∷ ks) (l ∷ ls) b e = absurd cc
  space_alike n (Memory Space m ∷ ks) (l ∷ ls) b e = subst (λ x. is_space_kind n (Some x) ≡ true) (sym b.0) e
  space_alike n (Pool_kind p m ∷ ks) (l ∷ ls) b e = absurd cc
  space_alike n (Link_kind s m a ∷ ks) (l ∷ ls) b e = absurd cc

  none_left_so : (e f last : AbstractState) → One e f → none_left e ≡ Ok last → (last ≡ e) × (none_left f ≡ Ok f)
  none_left_so e f last o r =
      let p = none_left_ok e last r in
      (p.1, (λ i. must (is_nil ((sym o.bounds ∙ p.0) i)) LeftoverOperand (Ok f)))

  must_so : (a b : Bool) (rule : Rule) (s t last : AbstractState) → (a ≡ true → b ≡ true) → must a rule (Ok s) ≡ Ok last → must b rule (Ok t) ≡ Ok t
  must_so a b rule s t last so e = (λ i. must (so (must_holds a rule (Ok s) last e).0 i) rule (Ok t))

  main_end_so : (p q : Option Interface) (signals : ℕ) (e f last : AbstractState) → ProvideAsOne p q → One e f → main_end p signals e ≡ Ok last
      → main_end q signals f ≡ Ok f
  main_end_so None None (suc n) e f last pq o r = refl
  main_end_so None None zero e f last pq o r =
      must_so (not (has_link e.own)) (not (has_link f.own)) LinkLeftOpen e f last (λ a. subst (λ b. not b ≡ true) (has_link_alike e.own f.own o.own) a) r
  main_end_so None (Some j) signals e f last pq o r = absurd pq
  main_end_so (Some i) None signals e f last pq o r = absurd pq
  main_end_so (Some i) (Some j) signals e f last pq o r = refl

  opening_end_so : (n m : ℕ) (e f last : AbstractState) → n ≡ m → One e f → opening_end n e ≡ Ok last → opening_end m f ≡ Ok f
  opening_end_so n m e f last same o r = subst (λ k. opening_end k f ≡ Ok f) same (by n r)
    where
      by : (n : ℕ) → opening_end n e ≡ Ok last → opening_end n f ≡ Ok f
      by zero r = refl
      by (suc n) r = must_so (is_space_kind (suc n) (slice_get e.bank 0)) (is_space_kind (suc n) (slice_get f.bank 0)) SessionBankChanged e f last
          (space_alike (suc n) e.bank f.bank o.bank) r

  and_then_so : (j : Judged) (go : AbstractState → Judged) (e last : AbstractState) → and_then j go ≡ Ok last → (s : AbstractState) × (j ≡ Ok s) ×
      (go s ≡ Ok last)
  and_then_so (Ok s) go e last r = (s, refl, r)
  and_then_so (Err rule) go e last r = absurd cc

  calling_end_so : (l : ℕ) (e f last : AbstractState) → One e f → calling_end v.provided (bank_at v l) e ≡ Ok last
      → (t : AbstractState) × (calling_end w.provided (bank_at w l) f ≡ Ok t)
  calling_end_so l e f last o r =
      let p = top_there e.bounds _ last r in
      let e0 : AbstractState = record e { bounds = p.1 } in let f0 : AbstractState = record f { bounds = p.1 } in
      let a = must_holds (is_nil p.1) LeftoverOperand _ last p.3 in
      let b = must_holds (nat_le p.0 (number_of v.provided (λ i. i.reply))) ValueTooLarge _ last a.1 in
      let k = must_holds (same_kinds e.bank (bank_at v l)) SessionBankChanged _ last b.1 in
      let reply = same_number v.provided w.provided (λ i. i.reply) h.provided (λ i j a. a.reply) in
      let left : BanksAsOne xs ys (bank_at v l) f.bank = subst (λ x. BanksAsOne xs ys x f.bank) (kinds_are e.bank (bank_at v l) k.0) o.bank in
      let same : same_kinds f.bank (bank_at w l) ≡ true = banks_from xs ys (bank_at v l) f.bank (bank_at w l) left (banks_alike l) in
      let go = λ (bounds : List ℕ). top bounds (λ a rest. must (is_nil rest) LeftoverOperand (must (nat_le a (number_of w.provided (λ i. i.reply)))
      ValueTooLarge
      (must (same_kinds f.bank (bank_at w l)) SessionBankChanged (Ok (record f { bounds = rest }))))) in (
        f0,
        (λ i. go ((sym o.bounds ∙ p.2) i))
            ∙ (λ i. must (a.0 i) LeftoverOperand (must (nat_le p.0 (number_of w.provided (λ i. i.reply))) ValueTooLarge
            (must (same_kinds f.bank (bank_at w l)) SessionBankChanged (Ok f0))))
            ∙ (λ i. must (subst (λ n. nat_le p.0 n ≡ true) reply b.0 i) ValueTooLarge (must (same_kinds f.bank (bank_at w l)) SessionBankChanged (Ok f0)))
            ∙ (λ i. must (same i) SessionBankChanged (Ok f0)),
      )

  section_end_so : (section : Section) (e f last : AbstractState) → One e f → section_end v section e ≡ Ok last → (t : AbstractState) ×
      (section_end w section f ≡ Ok t)
  section_end_so Main e f last o r =
      let p = and_then_so (none_left e) (main_end v.provided v.signals) e last r in
      let n = none_left_so e f p.0 o p.1 in
      let m = main_end_so v.provided w.provided v.signals p.0 f last h.provided (subst (λ x. One x f) (sym n.0) o) p.2 in
      (f, (λ i. and_then (n.1 i) (main_end w.provided (sym h.signals i))) ∙ m)
  section_end_so Opening e f last o r =
      let p = and_then_so (none_left e) (opening_end (number_of v.provided (λ i. i.buffer))) e last r in
      let n = none_left_so e f p.0 o p.1 in
      let same = same_number v.provided w.provided (λ i. i.buffer) h.provided (λ i j a. a.buffer) in
      let m = opening_end_so _ (number_of w.provided (λ i. i.buffer)) p.0 f last same (subst (λ x. One x f) (sym n.0) o) p.2 in
      (f, (λ i. and_then (n.1 i) (opening_end (number_of w.provided (λ i. i.buffer)))) ∙ m)
  section_end_so (Upgrading l) e f last o r = (f, (none_left_so e f last o r).1)
  section_end_so (Calling l) e f last o r = calling_end_so l e f last o r
  section_end_so (Closing l) e f last o r =
      let p = and_then_so (none_left e) (λ t. must (bank_is_empty t.bank) SessionBankChanged (Ok t)) e last r in
      let n = none_left_so e f p.0 o p.1 in
      let o1 : One p.0 f = subst (λ x. One x f) (sym n.0) o in
      let m = must_so (bank_is_empty p.0.bank) (bank_is_empty f.bank) SessionBankChanged p.0 f last
      (λ a. subst (λ b. b ≡ true) (bank_empty_alike p.0.bank f.bank o1.bank) a) p.2 in
      (f, (λ i. and_then (n.1 i) (λ t. must (bank_is_empty t.bank) SessionBankChanged (Ok t))) ∙ m)
  section_end_so (Reacting i) e f last o r = (f, (none_left_so e f last o r).1)

  -- THE WHOLE PROGRAM

  wanted_alike : (p q : Option Interface) (signals : ℕ) (section : Section) → ProvideAsOne p q → is_wanted p signals section ≡ is_wanted q signals section
  wanted_alike None None signals section pq = refl
  wanted_alike None (Some j) signals section pq = absurd pq
  wanted_alike (Some i) None signals section pq = absurd pq
  wanted_alike (Some i) (Some j) signals Main pq = refl
  wanted_alike (Some i) (Some j) signals Opening pq = refl
  wanted_alike (Some i) (Some j) signals (Upgrading l) pq = ap (nat_le l) pq.levels
  wanted_alike (Some i) (Some j) signals (Calling l) pq = ap (nat_le l) pq.levels
  wanted_alike (Some i) (Some j) signals (Closing l) pq = ap (nat_le l) pq.levels
  wanted_alike (Some i) (Some j) signals (Reacting k) pq = refl

  wanted_same : (section : Section) → is_wanted v.provided v.signals section ≡ is_wanted w.provided w.signals section
  wanted_same section = wanted_alike v.provided w.provided v.signals section h.provided ∙ ap (λ n. is_wanted w.provided n section) h.signals

  unwanted_alike : (sections : List Section) → first_unwanted v sections ≡ first_unwanted w sections
  unwanted_alike [] = refl
  unwanted_alike (s ∷ rest) = λ i.
      if◌then◌else◌ (same_truth (wanted_same s i) (is_some (section_in s (h.program i).sections)))
      (unwanted_alike rest i) (Some s)

  module _ (start : (section : Section) (list : Statements) → section_in section v.program.sections ≡ Some list → B section (start_of v section)) where
    section_flows_so : (section : Section) (list : Statements) (last : AbstractState) → section_in section v.program.sections ≡ Some list
        → section_flow v section ≡ Ok last → (t : AbstractState) × (section_flow w section ≡ Ok t)
    section_flows_so section list last there e =
        let n = suc (size (body w section)) in
        let p = ends section in
        let m = suc (size (body v section)) in
        let a = then_ok (at 0 (within_need section v.provided (start_of v section)))
        (λ s. flow_then (flow (context v section) s (body v section)) (λ t. at m (section_end v section t))) last e in
        let same = within_same section v.provided (start_of v section) a.0 (at_ok 0 (within_need section v.provided (start_of v section)) a.0 a.1) in
        let here = subst (λ s. flow_then (flow (context v section) s (body v section)) (λ t. at m (section_end v section t)) ≡ Ok last) (sym same) a.2 in
        let b : at m (section_end v section p.0) ≡ Ok last = subst (λ r. flow_then r (λ t. at m (section_end v section t)) ≡ Ok last) p.2 here in
        let q = section_end_so section p.0 p.1 last p.4 (at_ok m (section_end v section p.0) last b) in (
          q.0,
          (λ i. flow_then (at 0 ((allows section list there).covers (start_of v section) (start_of w section) (starts section) (start section list there) i))
              (λ s. flow_then (flow (context w section) s (body w section)) (λ t. at n (section_end w section t))))
              ∙ (λ i. flow_then (p.3 i) (λ t. at n (section_end w section t))) ∙ ap (at n) q.1,
        )

    fault_so : (section : Section) (list there : Statements) → section_in section v.program.sections ≡ Some there
        → fault_of section list (section_flow v section) ≡ None → fault_of section list (section_flow w section) ≡ None
    fault_so section list there is e = by (section_flow v section) refl e
      where
        by : (r : Flowed) → section_flow v section ≡ r → fault_of section list r ≡ None → fault_of section list (section_flow w section) ≡ None
        by (Ok last) f g = let p = section_flows_so section there last is f in ap (fault_of section list) p.1 ∙ g
        by (Err fault) f g = absurd cc

    -- the rest of the sections, behind some
    faults_so : (prefix pairs : List (Section × Statements)) → prefix ++ pairs ≡ v.program.sections → first_fault v pairs ≡ None → first_fault w pairs ≡ None
    faults_so prefix [] at e = refl
    faults_so prefix (p ∷ rest) at e =
        let n = or_first_none (fault_of p.0 p.1 (section_flow v p.0)) (first_fault v rest) e in
        let here = section_there prefix p rest in
        let is = subst (λ l. section_in p.0 l ≡ Some here.0) at here.1 in
        (λ i. or_first (fault_so p.0 p.1 here.0 is n.0 i) (first_fault w rest))
        ∙ faults_so (prefix ++ p ∷ []) rest (append_assoc prefix (p ∷ []) rest ∙ at) n.1

    pub program_so : program_fault w ≡ None
    program_so =
        let a = accepted v fine in
        let unwanted : first_unwanted w all_sections ≡ None = sym (unwanted_alike all_sections) ∙ a.0 in
        (λ i. walked w (unwanted i)) ∙ subst (λ (p : Program). first_fault w p.sections ≡ None) h.program (faults_so [] v.program.sections refl a.1)

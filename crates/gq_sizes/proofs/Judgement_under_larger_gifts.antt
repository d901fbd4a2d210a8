-- Where a statement breaks no rule, it breaks none with other quantities that give what is asked for.
use Rattle.std.proofs.Common.{◌≡◌, ℕ, zero, suc, ◌+◌, ◌<◌, ◌≤◌, ◌&&◌, nat_lt, Bool, true, false, not, List, [], ◌∷◌, length, Option, Some, None, Ok}
use Rattle.std.proofs.Common.{Err, refl, ap, sym, ◌∙◌, subst, arith}
use Rattle.std.specs.Prelude.{if◌then◌else◌, nat_le, slice_get, slice_set, slice_index_or, ◌==◌, take}
use Rattle.std.proofs.lemmas.Bool.Decides.{nat_tests}
use Rattle.gq_model.specs.machine.Amounts.{Amount, amount, plus, total}
use Rattle.gq_model.specs.declared.program.Form.TheVariants.{Block, Slice, Space}
use Rattle.gq_model.specs.declared.program.Form.{Form}
use Rattle.gq_model.specs.declared.program.OperandSlot.{OperandSlot}
use Rattle.gq_model.specs.declared.program.OperandSlot.TheVariants.{Own, Shared, Object}
use Rattle.gq_model.specs.declared.section.Section.{Section}
use Rattle.gq_model.specs.declared.program.Width.{Width}
use Rattle.gq_model.specs.declared.program.Instruction.{Instruction}
use Rattle.gq_model.specs.declared.program.Instruction.TheVariants.{Say, Out, Operands, Make, MakePool, Load}
use Rattle.gq_model.specs.declared.program.Instruction.TheVariants.{Store, Free, Take, Give, Peek, Poke, Open, Upgrade, Call, Close}
use Rattle.gq_model.specs.machine.Program.{text_eq}
use Rattle.gq_model.specs.machine.Memory.{is_later}
use Rattle.gq_model.specs.machine.Scenario.{Interface, Interfaces, interface_in, number_of}
use Rattle.gq_model.specs.declared.fault.Rule.{Rule}
use Rattle.gq_model.specs.declared.fault.Rule.TheVariants.{OutOfRange}
use Rattle.gq_model.specs.rules.Kinds.{Kind, Empty_kind, Memory, Pool_kind, Link_kind, AbstractState, Context, kind_at, with_kind}
use Rattle.gq_model.specs.machine.Sections.{is_own_section, is_start_section}
use Rattle.gq_model.specs.rules.Rules.{Judged, Bounded, Limits, limits, bounds_after, with_bounds, must, given, top, pushed, is_empty_kind, is_memory_kind}
use Rattle.gq_model.specs.rules.Rules.{is_kept, may_change, reach, shared_bytes, pool_kind, fill, freed, link_kind, linked, opened, upgraded, called, closed}
use Rattle.gq_model.specs.rules.Rules.{pooled}
use Rattle.gq_model.specs.rules.Rules.{reached, judge}
use Rattle.gq_model.proofs.Small_facts.{none_some, some_same}
use Rattle.gq_model.proofs.Rules_laws.{ok_same, must_holds}
use Rattle.gq_sizes.specs.Unsized_equality.{AreAsOne, AllAsOne, ProvideAsOne, ContextsAsOne, KindsAsOne, BanksAsOne, StatesAsOne, Affords, caps_for}
use Rattle.gq_sizes.specs.Unsized_equality.{caps_needed, levels_for}

-- INTERFACES

-- the first of a list is meant, or one of the rest
one_of_both : (b : Bool) (i j k : Interface) (o q : Option Interface) → AreAsOne i j → (if◌then◌else◌ b (Some i) o) ≡ Some k
    → (o ≡ Some k → (l : Interface) × (q ≡ Some l) × AreAsOne k l) → (l : Interface) × ((if◌then◌else◌ b (Some j) q) ≡ Some l) × AreAsOne k l
one_of_both true i j k o q h e rest = (j, refl, subst (λ x. AreAsOne x j) (some_same e) h)
one_of_both false i j k o q h e rest = rest e

pub same_interface : (xs ys : Interfaces) (service : List ℕ) (i : Interface) → AllAsOne xs ys → interface_in service xs ≡ Some i
    → (j : Interface) × (interface_in service ys ≡ Some j) × AreAsOne i j
same_interface [] [] service i h e = absurd (none_some e)
same_interface [] (f ∷ ys) service i h e = absurd h
same_interface (x ∷ xs) [] service i h e = absurd h
same_interface (x ∷ xs) (f ∷ ys) service i h e =
    let r = one_of_both (text_eq service x.0) x.1 f.1 i (interface_in service xs) (interface_in service ys) h.1 e
    (same_interface xs ys service i h.2) in
    (r.0, subst (λ n. (if◌then◌else◌ (text_eq service n) (Some f.1) (interface_in service ys)) ≡ Some r.0) h.0 r.1, r.2)

pub same_number : (p q : Option Interface) (f : Interface → ℕ) → ProvideAsOne p q → ((i j : Interface) → AreAsOne i j → f i ≡ f j)
    → number_of p f ≡ number_of q f
same_number None None f h each = refl
same_number None (Some j) f h each = absurd h
same_number (Some i) None f h each = absurd h
same_number (Some i) (Some j) f h each = each i j h

le_test : (a b : ℕ) → a ≤ b → nat_le a b ≡ true
le_test a b h = grind (arith, nat_tests)

lt_of : (a b : ℕ) → nat_lt a b ≡ true → a < b
lt_of a b e = grind (arith, nat_tests)

-- WHAT IS GIVEN

total_next : (ups : List Amount) (l : ℕ) → l < length ups
    → (total (take (suc l) ups)).caps ≡ (total (take l ups)).caps + (slice_index_or ups l (amount 0 0)).caps
total_next [] l lt = absurd (omega (arith, lt))
total_next (a ∷ rest) zero lt = omega arith
total_next (a ∷ rest) (suc l) lt = let e = total_next rest l (omega (arith, lt)) in omega (arith, e)

first_caps : (zs : Interfaces) (service : List ℕ) (i : Interface) → interface_in service zs ≡ Some i → i.need.caps ≡ caps_for zs service 0
first_caps zs service i e =
    let n : i.need.caps ≡ caps_needed 0 (Some i) = omega arith in
    n ∙ ap (caps_needed 0) (sym e)

next_caps : (zs : Interfaces) (service : List ℕ) (i : Interface) (l : ℕ) (n : ℕ) → interface_in service zs ≡ Some i → l < length i.upgrades
    → n ≡ caps_for zs service l → n + (slice_index_or i.upgrades l (amount 0 0)).caps ≡ caps_for zs service (suc l)
next_caps zs service i l n e lt is =
    let here : n ≡ caps_needed l (Some i) = is ∙ ap (caps_needed l) e in
    let more = total_next i.upgrades l lt in
    let now : n + (slice_index_or i.upgrades l (amount 0 0)).caps ≡ caps_needed (suc l) (Some i) = omega (arith, here, more) in
    now ∙ ap (caps_needed (suc l)) (sym e)

level_known : (zs : Interfaces) (service : List ℕ) (i : Interface) (l : ℕ) → interface_in service zs ≡ Some i → l < length i.upgrades
    → suc l ≤ levels_for zs service
level_known zs service i l e lt = subst (λ o. suc l ≤ number_of o (λ i. length i.upgrades)) (sym e) (omega (arith, lt))

module _ (c d : Context) (h : ContextsAsOne c d) where
  abbrev xs : Interfaces
  xs = c.subject.interfaces

  abbrev ys : Interfaces
  ys = d.subject.interfaces

  abbrev One : AbstractState → AbstractState → Type 0
  One = StatesAsOne xs ys

  -- SLOTS

  slot_as_one : (ks ls : List Kind) (i : ℕ) (k : Kind) → BanksAsOne xs ys ks ls → slice_get ks i ≡ Some k
      → (l : Kind) × (slice_get ls i ≡ Some l) × KindsAsOne xs ys k l
  slot_as_one [] [] i k b e = absurd (none_some e)
  slot_as_one [] (l ∷ ls) i k b e = absurd b
  slot_as_one (x ∷ ks) [] i k b e = absurd b
  slot_as_one (x ∷ ks) (l ∷ ls) zero k b e = (l, refl, subst (λ y. KindsAsOne xs ys y l) (some_same e) b.0)
  slot_as_one (x ∷ ks) (l ∷ ls) (suc i) k b e = slot_as_one ks ls i k b.1 e

  set_as_one : (ks ls : List Kind) (i : ℕ) (k l : Kind) → BanksAsOne xs ys ks ls → KindsAsOne xs ys k l → BanksAsOne xs ys (slice_set ks i k) (slice_set ls i l)
  set_as_one [] [] i k l b e = tt
  set_as_one [] (m ∷ ls) i k l b e = absurd b
  set_as_one (x ∷ ks) [] i k l b e = absurd b
  set_as_one (x ∷ ks) (m ∷ ls) zero k l b e = (e, b.1)
  set_as_one (x ∷ ks) (m ∷ ls) (suc i) k l b e = (b.0, set_as_one ks ls i k l b.1 e)

  -- a slot that is there in one is there in the other
  outside : (b : Bool) (o q : Option Kind) (k : Kind) → (if◌then◌else◌ b None o) ≡ Some k
      → (o ≡ Some k → (l : Kind) × (q ≡ Some l) × KindsAsOne xs ys k l) → (l : Kind) × ((if◌then◌else◌ b None q) ≡ Some l) × KindsAsOne xs ys k l
  outside true o q k e f = absurd (none_some e)
  outside false o q k e f = f e

  pub kind_as_one : (s t : AbstractState) (place : OperandSlot) (k : Kind) → One s t → kind_at c s place ≡ Some k
      → (l : Kind) × (kind_at d t place ≡ Some l) × KindsAsOne xs ys k l
  kind_as_one s t (Own i) k o e = slot_as_one s.own t.own i k o.own e
  kind_as_one s t (Shared i) k o e =
      subst (λ (x : Section). (l : Kind) × ((if◌then◌else◌ (is_own_section x) None (slice_get t.bank i)) ≡ Some l) × KindsAsOne xs ys k l) h.section
      (outside (is_own_section c.section) (slice_get s.bank i) (slice_get t.bank i) k e (slot_as_one s.bank t.bank i k o.bank))
  kind_as_one s t Object k o e =
      let n = number_of c.subject.provided (λ i. i.object) in let m = number_of d.subject.provided (λ i. i.object) in
      let same : n ≡ m = same_number c.subject.provided d.subject.provided (λ i. i.object) h.subject.provided (λ i j a. a.object) in
      subst (λ (x : Section). (l : Kind) × ((if◌then◌else◌ (is_own_section x) None (Some (Memory Slice m))) ≡ Some l) × KindsAsOne xs ys k l) h.section
      (outside (is_own_section c.section) (Some (Memory Slice n)) (Some (Memory Slice m)) k e
      (λ f. (Memory Slice m, refl, subst (λ y. KindsAsOne xs ys y (Memory Slice m)) (some_same f) (ap (Memory Slice) (sym same)))))

  slot_back : (ks ls : List Kind) (i : ℕ) (l : Kind) → BanksAsOne xs ys ks ls → slice_get ls i ≡ Some l
      → (k : Kind) × (slice_get ks i ≡ Some k) × KindsAsOne xs ys k l
  slot_back [] [] i l b e = absurd (none_some e)
  slot_back [] (l ∷ ls) i m b e = absurd b
  slot_back (x ∷ ks) [] i l b e = absurd b
  slot_back (x ∷ ks) (l ∷ ls) zero m b e = (x, refl, subst (λ y. KindsAsOne xs ys x y) (some_same e) b.0)
  slot_back (x ∷ ks) (l ∷ ls) (suc i) m b e = slot_back ks ls i m b.1 e

  outside_back : (b : Bool) (o q : Option Kind) (l : Kind) → (if◌then◌else◌ b None q) ≡ Some l
      → (q ≡ Some l → (k : Kind) × (o ≡ Some k) × KindsAsOne xs ys k l) → (k : Kind) × ((if◌then◌else◌ b None o) ≡ Some k) × KindsAsOne xs ys k l
  outside_back true o q l e f = absurd (none_some e)
  outside_back false o q l e f = f e

  -- and the other way round
  pub kind_back : (s t : AbstractState) (place : OperandSlot) (l : Kind) → One s t → kind_at d t place ≡ Some l
      → (k : Kind) × (kind_at c s place ≡ Some k) × KindsAsOne xs ys k l
  kind_back s t (Own i) l o e = slot_back s.own t.own i l o.own e
  kind_back s t (Shared i) l o e =
      subst (λ (x : Section). (k : Kind) × ((if◌then◌else◌ (is_own_section x) None (slice_get s.bank i)) ≡ Some k) × KindsAsOne xs ys k l) (sym h.section)
      (outside_back (is_own_section d.section) (slice_get s.bank i) (slice_get t.bank i) l e (slot_back s.bank t.bank i l o.bank))
  kind_back s t Object l o e =
      let n = number_of c.subject.provided (λ i. i.object) in let m = number_of d.subject.provided (λ i. i.object) in
      let same : n ≡ m = same_number c.subject.provided d.subject.provided (λ i. i.object) h.subject.provided (λ i j a. a.object) in
      subst (λ (x : Section). (k : Kind) × ((if◌then◌else◌ (is_own_section x) None (Some (Memory Slice n))) ≡ Some k) × KindsAsOne xs ys k l) (sym h.section)
      (outside_back (is_own_section d.section) (Some (Memory Slice n)) (Some (Memory Slice m)) l e
      (λ f. (Memory Slice n, refl, subst (λ y. KindsAsOne xs ys (Memory Slice n) y) (some_same f) (ap (Memory Slice) (sym same)))))

  pub put_as_one : (s t : AbstractState) (place : OperandSlot) (k l : Kind) → One s t → KindsAsOne xs ys k l → One (with_kind s place k) (with_kind t place l)
  put_as_one s t (Own i) k l o e = record { own = set_as_one s.own t.own i k l o.own e; bank = o.bank; bounds = o.bounds }
  put_as_one s t (Shared i) k l o e = record { own = o.own; bank = set_as_one s.bank t.bank i k l o.bank e; bounds = o.bounds }
  put_as_one s t Object k l o e = o

  empty_as_one : (k l : Kind) → KindsAsOne xs ys k l → is_empty_kind k ≡ is_empty_kind l
  empty_as_one Empty_kind l e = ap is_empty_kind (sym e)
  empty_as_one (Memory form n) l e = ap is_empty_kind (sym e)
  empty_as_one (Pool_kind n m) l e = ap is_empty_kind (sym e)
  empty_as_one (Link_kind s l a) Empty_kind e = absurd e
  empty_as_one (Link_kind s l a) (Memory form n) e = absurd e
  empty_as_one (Link_kind s l a) (Pool_kind n m) e = absurd e
  empty_as_one (Link_kind s l a) (Link_kind t m b) e = refl

  memory_as_one : (k l : Kind) → KindsAsOne xs ys k l → is_memory_kind k ≡ is_memory_kind l
  memory_as_one Empty_kind l e = ap is_memory_kind (sym e)
  memory_as_one (Memory form n) l e = ap is_memory_kind (sym e)
  memory_as_one (Pool_kind n m) l e = ap is_memory_kind (sym e)
  memory_as_one (Link_kind s l a) Empty_kind e = absurd e
  memory_as_one (Link_kind s l a) (Memory form n) e = absurd e
  memory_as_one (Link_kind s l a) (Pool_kind n m) e = absurd e
  memory_as_one (Link_kind s l a) (Link_kind t m b) e = refl

  -- JUDGEMENTS

  -- where one breaks no rule, so does the other
  record Follows (j k : Judged) : Type 0 where
    holds : (u : AbstractState) → j ≡ Ok u → (v : AbstractState) × (k ≡ Ok v) × One u v

  ok_follows : (s t : AbstractState) → One s t → Follows (Ok s) (Ok t)
  ok_follows s t o = record { holds = λ u e. (t, refl, subst (λ x. One x t) (ok_same e) o) }

  must_follows : (a b : Bool) (rule other : Rule) (j k : Judged) → (a ≡ true → b ≡ true) → (a ≡ true → Follows j k) → Follows (must a rule j) (must b other k)
  must_follows a b rule other j k so go = record {
    holds = λ u e. (
        let m = must_holds a rule j u e in
        let r = (go m.0).holds u m.1 in
        (r.0, subst (λ x. must x other k ≡ Ok r.0) (sym (so m.0)) r.1, r.2)
        );
  }

  given_follows : {A B : Type 0} (o : Option A) (q : Option B) (rule other : Rule) (f : A → Judged) (g : B → Judged)
      → ((a : A) → o ≡ Some a → (b : B) × (q ≡ Some b) × Follows (f a) (g b)) → Follows (given o rule f) (given q other g)
  given_follows None q rule other f g each = record { holds = λ u e. absurd (let bad : ◌≡◌ {A = Judged} (Err rule) (Ok u) = e in cc) }
  given_follows {A} {B} (Some a) q rule other f g each = record {
    holds = λ u e. (
        let p = each a refl in
        let r = p.2.holds u e in
        (r.0, subst (λ (x : Option B). given x other g ≡ Ok r.0) (sym p.1) r.1, r.2)
        );
  }

  top_follows : (bounds others : List ℕ) (f g : ℕ → List ℕ → Judged) → bounds ≡ others → ((a : ℕ) (rest : List ℕ) → Follows (f a rest) (g a rest))
      → Follows (top bounds f) (top others g)
  top_follows bounds others f g e each = subst (λ (x : List ℕ). Follows (top bounds f) (top x g)) e (by bounds)
    where
      by : (l : List ℕ) → Follows (top l f) (top l g)
      by [] = record { holds = λ u e. absurd cc }
      by (a ∷ rest) = each a rest

  -- with other operands
  bounds_as_one : (s t : AbstractState) (rest : List ℕ) → One s t → One (record s { bounds = rest }) (record t { bounds = rest })
  bounds_as_one s t rest o = record { own = o.own; bank = o.bank; bounds = refl }

  bounds_follow : (s t : AbstractState) (b : Bounded) → One s t → Follows (with_bounds s b) (with_bounds t b)
  bounds_follow s t (Ok bounds) o = ok_follows _ _ (bounds_as_one s t bounds o)
  bounds_follow s t (Err rule) o = record { holds = λ u e. cc }

  pushed_follows : (a : ℕ) (s t : AbstractState) → One s t → Follows (pushed a s) (pushed a t)
  pushed_follows a s t o =
      must_follows (nat_lt (length s.bounds) 16) (nat_lt (length t.bounds) 16) _ _ _ _ (λ e. subst (λ (l : List ℕ). nat_lt (length l) 16 ≡ true) o.bounds e)
      (λ e. ok_follows _ _ (record { own = o.own; bank = o.bank; bounds = ap (λ (l : List ℕ). a ∷ l) o.bounds }))

  -- WHAT A SLOT ALLOWS

  change_so : (place : OperandSlot) → may_change c place ≡ true → may_change d place ≡ true
  change_so (Own i) e = subst (λ (x : Section). is_start_section x ≡ true) h.section e
  change_so (Shared i) e = refl
  change_so Object e = refl

  kept_same : (place : OperandSlot) → is_kept c place ≡ is_kept d place
  kept_same (Own i) = refl
  kept_same (Shared i) =
      let same = same_number c.subject.provided d.subject.provided (λ i. i.buffer) h.subject.provided (λ i j a. a.buffer) in
      (λ k. i == 0 && is_later (h.section k) && nat_lt 0 (same k))
  kept_same Object = refl

  kept_so : (place : OperandSlot) → not (is_kept c place) ≡ true → not (is_kept d place) ≡ true
  kept_so place e = subst (λ b. not b ≡ true) (kept_same place) e

  buffer_same : (o q : Option Interface) → ((i : Interface) → o ≡ Some i → (j : Interface) × (q ≡ Some j) × AreAsOne i j)
      → (n : ℕ) → shared_bytes (number_of o (λ i. i.buffer)) ≡ Some n → shared_bytes (number_of q (λ i. i.buffer)) ≡ Some n
  buffer_same None q each n e = absurd (none_some e)
  buffer_same (Some i) q each n e =
      let p = each i refl in
      subst (λ (x : Option Interface). shared_bytes (number_of x (λ i. i.buffer)) ≡ Some n) (sym p.1)
      (subst (λ m. shared_bytes m ≡ Some n) p.2.buffer e)

  reach_so : (k l : Kind) (n : ℕ) → KindsAsOne xs ys k l → reach c (Some k) ≡ Some n → reach d (Some l) ≡ Some n
  reach_so Empty_kind l n e r = absurd (none_some r)
  reach_so (Memory form m) l n e r = subst (λ x. reach d (Some x) ≡ Some n) (sym e) (memory_reach form m n r)
    where
      memory_reach : (form : Form) (m n : ℕ) → reach c (Some (Memory form m)) ≡ Some n → reach d (Some (Memory form m)) ≡ Some n
      memory_reach Block m n r = r
      memory_reach Slice m n r = r
      memory_reach Space m n r = r
  reach_so (Pool_kind p m) l n e r = absurd (none_some r)
  reach_so (Link_kind s l a) Empty_kind n e r = absurd e
  reach_so (Link_kind s l a) (Memory form m) n e r = absurd e
  reach_so (Link_kind s l a) (Pool_kind p m) n e r = absurd e
  reach_so (Link_kind s l a) (Link_kind t m b) n e r =
      subst (λ x. shared_bytes (number_of (interface_in x ys) (λ i. i.buffer)) ≡ Some n) e.0
      (buffer_same (interface_in s xs) (interface_in s ys) (λ i f. same_interface xs ys s i h.subject.interfaces f) n r)

  pool_so : (k l : Kind) (p : ℕ × ℕ) → KindsAsOne xs ys k l → pool_kind (Some k) ≡ Some p → pool_kind (Some l) ≡ Some p
  pool_so Empty_kind l p e r = absurd (none_some r)
  pool_so (Memory form m) l p e r = absurd (none_some r)
  pool_so (Pool_kind n m) l p e r = subst (λ x. pool_kind (Some x) ≡ Some p) (sym e) r
  pool_so (Link_kind s l a) m p e r = absurd (none_some r)

  -- a link of a session of the same service and level
  abbrev LinksAsOne : List ℕ × ℕ × Amount → List ℕ × ℕ × Amount → Type 0
  LinksAsOne l m = KindsAsOne xs ys (Link_kind l.0 l.1 l.2) (Link_kind m.0 m.1 m.2)

  link_so : (k l : Kind) (p : List ℕ × ℕ × Amount) → KindsAsOne xs ys k l → link_kind (Some k) ≡ Some p
      → (q : List ℕ × ℕ × Amount) × (link_kind (Some l) ≡ Some q) × LinksAsOne p q
  link_so Empty_kind l p e r = absurd (none_some r)
  link_so (Memory form m) l p e r = absurd (none_some r)
  link_so (Pool_kind n m) l p e r = absurd (none_some r)
  link_so (Link_kind s l a) Empty_kind p e r = absurd e
  link_so (Link_kind s l a) (Memory form m) p e r = absurd e
  link_so (Link_kind s l a) (Pool_kind n m) p e r = absurd e
  link_so (Link_kind s l a) (Link_kind t m b) p e r = ((t, m, b), refl, subst (λ x. LinksAsOne x (t, m, b)) (some_same r) e)

  link_back : (k l : Kind) (q : List ℕ × ℕ × Amount) → KindsAsOne xs ys k l → link_kind (Some l) ≡ Some q
      → (p : List ℕ × ℕ × Amount) × (link_kind (Some k) ≡ Some p) × (p.0 ≡ q.0) × (p.1 ≡ q.1)
  link_back Empty_kind l q e r = absurd (none_some (ap (λ x. link_kind (Some x)) (sym e) ∙ r))
  link_back (Memory form m) l q e r = absurd (none_some (ap (λ x. link_kind (Some x)) (sym e) ∙ r))
  link_back (Pool_kind n m) l q e r = absurd (none_some (ap (λ x. link_kind (Some x)) (sym e) ∙ r))
  link_back (Link_kind s l a) Empty_kind q e r = absurd e
  link_back (Link_kind s l a) (Memory form m) q e r = absurd e
  link_back (Link_kind s l a) (Pool_kind n m) q e r = absurd e
  link_back (Link_kind s l a) (Link_kind t m b) q e r =
      ((s, l, a), refl, e.0 ∙ ap (λ (x : List ℕ × ℕ × Amount). x.0) (some_same r), e.1 ∙ ap (λ (x : List ℕ × ℕ × Amount). x.1) (some_same r))

  -- a link that is there in the other is of the same service and level here
  pub linked_back : (s t : AbstractState) (place : OperandSlot) (q : List ℕ × ℕ × Amount) → One s t → link_kind (kind_at d t place) ≡ Some q
      → (p : List ℕ × ℕ × Amount) × (link_kind (kind_at c s place) ≡ Some p) × (p.0 ≡ q.0) × (p.1 ≡ q.1)
  linked_back s t place q o e = by (kind_at d t place) refl e
    where
      by : (l : Option Kind) → kind_at d t place ≡ l → link_kind l ≡ Some q
          → (p : List ℕ × ℕ × Amount) × (link_kind (kind_at c s place) ≡ Some p) × (p.0 ≡ q.0) × (p.1 ≡ q.1)
      by None is e2 = absurd (none_some e2)
      by (Some l) is e2 =
          let k = kind_back s t place l o is in
          let r = link_back k.0 l q k.2 e2 in
          (r.0, ap link_kind k.1 ∙ r.1, r.2, r.3)

  -- what is found of a slot that is there in one is found in the other
  found_so : {A B : Type 0} (R : A → B → Type 0) (f : Option Kind → Option A) (g : Option Kind → Option B) (s t : AbstractState) (place : OperandSlot) → One s t
      → ((a : A) → f None ≡ Some a → ⊥)
      → ((k l : Kind) (a : A) → KindsAsOne xs ys k l → f (Some k) ≡ Some a → (b : B) × (g (Some l) ≡ Some b) × R a b)
      → (a : A) → f (kind_at c s place) ≡ Some a → (b : B) × (g (kind_at d t place) ≡ Some b) × R a b
  found_so {A} {B} R f g s t place o none each a e = by (kind_at c s place) refl e
    where
      by : (k : Option Kind) → kind_at c s place ≡ k → f k ≡ Some a → (b : B) × (g (kind_at d t place) ≡ Some b) × R a b
      by None is e2 = absurd (none a e2)
      by (Some k) is e2 =
          let p = kind_as_one s t place k o is in
          let r = each k p.0 a p.2 e2 in
          (r.0, subst (λ (x : Option Kind). g x ≡ Some r.0) (sym p.1) r.1, r.2)

  -- a link that is there here is of the same service and level in the other
  pub linked_on : (s t : AbstractState) (place : OperandSlot) (p : List ℕ × ℕ × Amount) → One s t → link_kind (kind_at c s place) ≡ Some p
      → (q : List ℕ × ℕ × Amount) × (link_kind (kind_at d t place) ≡ Some q) × LinksAsOne p q
  linked_on s t place p o e = found_so LinksAsOne link_kind link_kind s t place o (λ a f. none_some f) (λ k m a f g. link_so k m a f g) p e

  -- STATEMENTS

  fill_follows : (s t : AbstractState) (place : OperandSlot) (kind : Kind) → One s t → KindsAsOne xs ys kind kind → Follows (fill c s place kind)
      (fill d t place kind)
  fill_follows s t place kind o same =
      given_follows (kind_at c s place) (kind_at d t place) _ _ _ _ (λ k there.
      let p = kind_as_one s t place k o there in (
        p.0,
        p.1,
        must_follows _ _ _ _ _ _ (λ e. subst (λ b. b ≡ true) (empty_as_one k p.0 p.2) e) (λ e.
            must_follows _ _ _ _ _ _ (change_so place) (λ e. must_follows _ _ _ _ _ _ (λ f. f) (λ e. ok_follows _ _ (put_as_one s t place kind kind o same)))),
      ))

  freed_follows : (s t : AbstractState) (place : OperandSlot) → One s t → Follows (freed c s place) (freed d t place)
  freed_follows s t place o =
      given_follows (kind_at c s place) (kind_at d t place) _ _ _ _ (λ k there.
      let p = kind_as_one s t place k o there in (
        p.0,
        p.1,
        must_follows _ _ _ _ _ _ (λ e. subst (λ b. b ≡ true) (memory_as_one k p.0 p.2) e) (λ e.
            must_follows _ _ _ _ _ _ (kept_so place) (λ e. must_follows _ _ _ _ _ _ (change_so place)
            (λ e. ok_follows _ _ (put_as_one s t place Empty_kind Empty_kind o refl)))),
      ))

  pooled_follows : (s t : AbstractState) (place : OperandSlot) (i : ℕ) (f g : ℕ → Judged) → One s t → ((n : ℕ) → Follows (f n) (g n))
      → Follows (pooled c s place i f) (pooled d t place i g)
  pooled_follows s t place i f g o each =
      given_follows (pool_kind (kind_at c s place)) (pool_kind (kind_at d t place)) _ _ _ _ (λ p there.
      let r = found_so (λ (a b : ℕ × ℕ). a ≡ b) pool_kind pool_kind s t place o (λ a e. none_some e) (λ k l a e f. (a, pool_so k l a e f, refl)) p there in
      (p, subst (λ (x : ℕ × ℕ). pool_kind (kind_at d t place) ≡ Some x) (sym r.2) r.1, must_follows _ _ _ _ _ _ (λ e. e) (λ e. each p.0)))

  reached_follows : (s t : AbstractState) (place : OperandSlot) (i : ℕ) (width : Width) (j k : Judged) → One s t → Follows j k
      → Follows (reached c s place i width j) (reached d t place i width k)
  reached_follows s t place i width j k o each =
      given_follows (reach c (kind_at c s place)) (reach d (kind_at d t place)) _ _ _ _ (λ n there.
      let r = found_so (λ (a b : ℕ). a ≡ b) (reach c) (reach d) s t place o (λ a e. none_some e) (λ k l a e f. (a, reach_so k l a e f, refl)) n there in
      (n, subst (λ x. reach d (kind_at d t place) ≡ Some x) (sym r.2) r.1, must_follows _ _ _ _ _ _ (λ e. e) (λ e. each)))

  linked_follows : (s t : AbstractState) (place : OperandSlot) (f g : List ℕ → ℕ → Amount → Interface → Judged) → One s t
      → ((l m : List ℕ × ℕ × Amount) (i j : Interface) → LinksAsOne l m → AreAsOne i j → interface_in l.0 xs ≡ Some i → interface_in m.0 ys ≡ Some j
      → link_kind (kind_at d t place) ≡ Some m → Follows (f l.0 l.1 l.2 i) (g m.0 m.1 m.2 j))
      → Follows (linked c s place f) (linked d t place g)
  linked_follows s t place f g o each =
      given_follows (link_kind (kind_at c s place)) (link_kind (kind_at d t place)) _ _ _ _ (λ l there.
      let r = found_so LinksAsOne link_kind link_kind s t place o (λ a e. none_some e) (λ k m a e f. link_so k m a e f) l there in (
        r.0,
        r.1,
        given_follows (interface_in l.0 xs) (interface_in r.0.0 ys) _ _ _ _ (λ i known.
            let p = same_interface xs ys l.0 i h.subject.interfaces known in
            let q = subst (λ x. interface_in x ys ≡ Some p.0) r.2.0 p.1 in
            (p.0, q, each l r.0 i p.0 r.2 p.2 known q r.1)),
      ))

  opened_follows : (s t : AbstractState) (place : OperandSlot) (service : List ℕ) (n : ℕ) → One s t → Affords d t (Open place service n)
      → Follows (opened c s place service n) (opened d t place service n)
  opened_follows s t place service n o gives =
      given_follows (kind_at c s place) (kind_at d t place) _ _ _ _ (λ k there.
      let p = kind_as_one s t place k o there in (
        p.0,
        p.1,
        must_follows _ _ _ _ _ _ (λ e. subst (λ b. b ≡ true) (empty_as_one k p.0 p.2) e) (λ e.
            must_follows _ _ _ _ _ _ (change_so place) (λ e.
            given_follows (interface_in service xs) (interface_in service ys) _ _ _ _ (λ i known.
            let q = same_interface xs ys service i h.subject.interfaces known in (
              q.0,
              q.1,
              must_follows _ _ _ _ _ _ (λ e. le_test q.0.need.ram n (gives q.0 q.1)) (λ e.
                  ok_follows _ _ (put_as_one s t place (Link_kind service 0 (amount n i.need.caps)) (Link_kind service 0 (amount n q.0.need.caps)) o
                  (refl, refl, refl, first_caps xs service i known, first_caps ys service q.0 q.1, omega arith))),
            )))),
      ))

  upgraded_follows : (s t : AbstractState) (place : OperandSlot) (n : ℕ) → One s t → Affords d t (Upgrade place n)
      → Follows (upgraded c s place n) (upgraded d t place n)
  upgraded_follows s t place n o gives =
      linked_follows s t place _ _ o (λ l m i j links same known there at_d.
      must_follows (nat_lt l.1 (length i.upgrades)) (nat_lt m.1 (length j.upgrades)) _ _ _ _
      (λ e. subst (λ (k : ℕ). nat_lt k (length j.upgrades) ≡ true) links.1 (subst (λ (k : ℕ). nat_lt l.1 k ≡ true) same.levels e)) (λ below.
      must_follows _ _ _ _ _ _ (change_so place) (λ e.
      must_follows _ _ _ _ _ _ (λ e. le_test (slice_index_or j.upgrades m.1 (amount 0 0)).ram n (gives m.0 m.1 m.2 j at_d there)) (λ e.
      let lt : l.1 < length i.upgrades = lt_of l.1 (length i.upgrades) below in
      let lt_d : m.1 < length j.upgrades = subst (λ k. k < length j.upgrades) links.1 (subst (λ k. l.1 < k) same.levels lt) in
      ok_follows _ _ (put_as_one s t place (Link_kind l.0 (suc l.1) (plus l.2 (amount n (slice_index_or i.upgrades l.1 (amount 0 0)).caps)))
      (Link_kind m.0 (suc m.1) (plus m.2 (amount n (slice_index_or j.upgrades m.1 (amount 0 0)).caps))) o (
        links.0,
        ap suc links.1,
        ap (λ k. k + n) links.2,
        next_caps xs l.0 i l.1 l.2.caps known lt links.3,
        next_caps ys m.0 j m.1 m.2.caps there lt_d links.4,
        level_known xs l.0 i l.1 known lt,
      ))))))

  called_follows : (s t : AbstractState) (a : ℕ) (place : OperandSlot) → One s t → Follows (called c s a place) (called d t a place)
  called_follows s t a place o =
      linked_follows s t place _ _ o (λ l m i j links same known there at_d.
      must_follows (nat_le a i.arg) (nat_le a j.arg) _ _ _ _ (λ e. subst (λ k. nat_le a k ≡ true) same.arg e) (λ e.
      subst (λ k. Follows (pushed i.reply s) (pushed k t)) same.reply (pushed_follows i.reply s t o)))

  closed_follows : (s t : AbstractState) (place : OperandSlot) → One s t → Follows (closed c s place) (closed d t place)
  closed_follows s t place o =
      linked_follows s t place _ _ o (λ l m i j links same known there at_d.
      must_follows _ _ _ _ _ _ (change_so place) (λ e. ok_follows _ _ (put_as_one s t place Empty_kind Empty_kind o refl)))

  abbrev limits_of : List ℕ → List ℕ → List ℕ → Limits
  limits_of locals counts inputs = record { locals = locals; counts = counts; inputs = inputs }

  limits_so : limits c ≡ limits d
  limits_so = λ i. limits_of (h.subject.program i).locals (h.counts i) (h.subject.inputs i)

  judge_follows : (s t : AbstractState) (i : Instruction) → One s t → Affords d t i → Follows (judge c s i) (judge d t i)
  judge_follows s t (Say text) o gives = ok_follows s t o
  judge_follows s t Out o gives = top_follows s.bounds t.bounds _ _ o.bounds (λ a rest. ok_follows _ _ (bounds_as_one s t rest o))
  judge_follows s t (Operands m) o gives =
      subst (λ b. Follows (judge c s (Operands m)) (with_bounds t b))
      (λ i. bounds_after (limits_so i) (o.bounds i) m) (bounds_follow s t _ o)
  judge_follows s t (Make form place n) o gives = fill_follows s t place (Memory form n) o refl
  judge_follows s t (MakePool place n m) o gives = fill_follows s t place (Pool_kind n m) o refl
  judge_follows s t (Load width place) o gives = top_follows s.bounds t.bounds _ _ o.bounds (λ i rest.
      let p = bounds_as_one s t rest o in reached_follows _ _ place i width _ _ p (pushed_follows _ _ _ p))
  judge_follows s t (Store width place) o gives = top_follows s.bounds t.bounds _ _ o.bounds (λ v rest.
      top_follows rest rest _ _ refl (λ i below. let p = bounds_as_one s t below o in reached_follows _ _ place i width _ _ p (ok_follows _ _ p)))
  judge_follows s t (Free place) o gives = freed_follows s t place o
  judge_follows s t (Take place) o gives = top_follows s.bounds t.bounds _ _ o.bounds (λ i rest.
      let p = bounds_as_one s t rest o in pooled_follows _ _ place i _ _ p (λ n. pushed_follows _ _ _ p))
  judge_follows s t (Give place) o gives = top_follows s.bounds t.bounds _ _ o.bounds (λ i rest.
      let p = bounds_as_one s t rest o in pooled_follows _ _ place i _ _ p (λ n. pushed_follows _ _ _ p))
  judge_follows s t (Peek place) o gives = top_follows s.bounds t.bounds _ _ o.bounds (λ k rest.
      top_follows rest rest _ _ refl (λ i below. let p = bounds_as_one s t below o in
      pooled_follows _ _ place i _ _ p (λ n. must_follows (nat_lt k n) (nat_lt k n) OutOfRange OutOfRange (pushed 255 (record s { bounds = below }))
      (pushed 255 (record t { bounds = below })) (λ e. e) (λ e. pushed_follows 255 _ _ p))))
  judge_follows s t (Poke place) o gives = top_follows s.bounds t.bounds _ _ o.bounds (λ b rest.
      top_follows rest rest _ _ refl (λ k below. top_follows below below _ _ refl (λ i last. let p = bounds_as_one s t last o in
      pooled_follows _ _ place i _ _ p (λ n. must_follows _ _ _ _ _ _ (λ e. e) (λ e. ok_follows _ _ p)))))
  judge_follows s t (Open place service n) o gives = opened_follows s t place service n o gives
  judge_follows s t (Upgrade place n) o gives = upgraded_follows s t place n o gives
  judge_follows s t (Call place) o gives = top_follows s.bounds t.bounds _ _ o.bounds (λ a rest. called_follows _ _ a place (bounds_as_one s t rest o))
  judge_follows s t (Close place) o gives = closed_follows s t place o

  -- where one breaks no rule, so does the other that gives what is asked for
  pub judged_so : (s t u : AbstractState) (i : Instruction) → One s t → Affords d t i → judge c s i ≡ Ok u → (v : AbstractState) × (judge d t i ≡ Ok v) × One u
      v
  judged_so s t u i o gives e = (judge_follows s t i o gives).holds u e

-- Once a leaf has asked something of a session, sessions that are not current stand as they did, and each request is one that its service takes.
use Rattle.std.proofs.Common.{◌≡◌, ◌≢◌, ℕ, zero, suc, replicate, ◌≤◌, length, inl, inr, cond, true, List, Option, Some, None, refl, ap, sym, ◌∙◌, subst}
use Rattle.std.proofs.Common.{arith}
use Rattle.std.specs.Prelude.{slice_get}
use Rattle.std.proofs.lemmas.Bool.{le-leb, false≢true}
use Rattle.std.proofs.lemmas.Bool.Decides.{eqb_tells}
use Rattle.gq_model.specs.machine.Amounts.{Amount}
use Rattle.gq_model.specs.declared.section.Section.TheVariants.{Opening, Upgrading, Calling, Closing}
use Rattle.gq_model.specs.declared.program.Instruction.{Instruction}
use Rattle.gq_model.specs.declared.program.Instruction.TheVariants.{Open, Upgrade, Call, Close}
use Rattle.gq_model.specs.machine.Scenario.{Component, Interface, interface_in}
use Rattle.gq_model.specs.machine.World.{Empty, SlotId, Session, Ask, Request, Current, Leaf, World, session_at}
use Rattle.gq_model.specs.machine.Doing.{Doing}
use Rattle.gq_model.specs.machine.Requests.{new_session}
use Rattle.gq_model.specs.machine.Step.{section_for, level_then}
use Rattle.gq_model.specs.rules.Kinds.{Kind, Empty_kind}
use Rattle.gq_laws.specs.Current_section_facts.{section_if, current_section, bank_kinds}
use Rattle.gq_model.specs.rules.Verdict.{is_wanted}
use Rattle.gq_laws.specs.Shapes.{Each}
use Rattle.gq_laws.specs.Session_links.{outline_in, stance, links, IsLinkedWorld}
use Rattle.gq_laws.specs.Typed.{AreKinds}
use Rattle.gq_laws.specs.Inside_steps.{TakesLeaf}
use Rattle.gq_laws.specs.Asking.{promised_anew, IsAsk, IsWithin}
use Rattle.gq_laws.specs.Typing.{RestsAt, FitsService, FitsRequest}
use Rattle.gq_model.proofs.Small_facts.{some_same, none_some}
use Rattle.gq_laws.proofs.session_links.Asked_request_changes.{each_map, each_end, none_of}
use Rattle.gq_laws.proofs.session_links.Link_free_statements.{stood}
use Rattle.gq_laws.proofs.request_rules.Promised_slot_kinds.{kind_anew, kinds_anew}
use Rattle.gq_laws.proofs.typed_worlds.Asked_worlds.{Asked}
use Rattle.gq_laws.proofs.typed_worlds.Asked_services.{KnowsService}
use Rattle.gq_laws.proofs.typed_worlds.Asked_rule_changes.{session_was, all_current_same, none_current}
use Rattle.gq_laws.proofs.typed_worlds.Asked_stands.{not_current, bank_free, object_free}

empty_kinds : (promised : ℕ → Option Kind) (n : ℕ) → AreKinds promised (replicate n Empty) (replicate n Empty_kind)
empty_kinds promised zero = tt
empty_kinds promised (suc n) = (refl, empty_kinds promised n)

-- what is current at a leaf
current_there : (j : ℕ) (o : Option Leaf) (leaf : Leaf) (g : Current) → o ≡ Some leaf → leaf.current ≡ Some g → g.session ≡ j
    → current_section j o ≡ Some g.section
current_there j o leaf g e at same = ap (current_section j) e
    ∙ (ap (section_if j) at ∙ elim (eqb_tells g.session j) [ inl f ↦ ap (λ b. cond b (Some g.section) None) f.0 | inr f ↦ absurd (f.1 same) ])

module _ (promised : ℕ → Option Kind) (kind : Kind) (d : Doing) (t : TakesLeaf d) (h : IsLinkedWorld d.system d.world) (i : Instruction) (k : ℕ) (s : Session)
    (w : World) (a : Asked d i k s w) where
  abbrev anew : ℕ → Option Kind
  anew = promised_anew promised k kind

  rests_anew : (j : ℕ) (u : Session) → ((g : Current) → d.leaf.current ≡ Some g → g.session ≢ j) → session_at d.world j ≡ Some u → (server : Component)
      → RestsAt promised d.system server u → RestsAt anew d.system server u
  rests_anew j u else there server r =
      record {
        bank = kinds_anew promised k kind u.slots (bank_kinds d.system server u) (bank_free promised kind d t h i k s w a j u else there) r.bank;
        object = λ yes. kind_anew promised k kind u.object _ (object_free promised kind d t h i k s w a j u there) (r.object yes);
      }

  -- a session that is not current at its server is not current at the leaf
  at_rest : (j : ℕ) (u : Session) → session_at d.world j ≡ Some u → current_section j (slice_get d.world.leaves u.server) ≡ None → (g : Current)
      → d.leaf.current ≡ Some g → g.session ≢ j
  at_rest j u there none g handed same =
      let f = h.handles d.x d.leaf.phase g (stood d t ∙ ap (λ o. Some (stance d.leaf.phase o)) handed) in
      let server : u.server ≡ d.x = ap (λ (s : Session). s.server) (some_same (sym (ap outline_in there) ∙ (ap (links d.world).sessions (sym same) ∙ f.1)))
      ∙ f.2 in
      none_some (sym none ∙ (ap (λ y. current_section j (slice_get d.world.leaves y)) server
      ∙ current_there j (slice_get d.world.leaves d.x) t.old g t.there (sym t.current ∙ handed) same))

  fits_else : (j : ℕ) (u : Session) → j ≢ k → session_at w j ≡ Some u
      → ((v : Session) → session_at d.world j ≡ Some v → FitsService promised d.system d.world j v) → FitsService anew d.system w j u
  fits_else j u ne e old =
      let r = session_was d t i k s w a j u ne e in
      let f = old r.old r.there in
      let service : r.old.service ≡ u.service = ap (λ (s : Session). s.service) (sym r.is) in
      let level : r.old.level ≡ u.level = ap (λ (s : Session). s.level) (sym r.is) in
      let server : u.server ≡ r.old.server = ap (λ (s : Session). s.server) r.is in
      record {
        interface = f.interface;
        known = ap (λ l. interface_in l d.system.interfaces) (sym service) ∙ f.known;
        level = subst (λ l. l ≤ length f.interface.upgrades) level f.level;
        rests = λ c of none. (
            let before = ap (λ y. current_section j (slice_get d.world.leaves y)) (sym server) ∙ (sym (all_current_same d t i k s w a j u.server) ∙ none) in
            let else = at_rest j r.old r.there before in
            subst (λ u. RestsAt anew d.system c u) (sym (r.same else))
            (rests_anew j r.old else r.there c (f.rests c (ap (slice_get d.system.components) (sym server) ∙ of) before)));
      }

  -- the session that is asked
  linked_fits : (old : Session) → session_at d.world k ≡ Some old → FitsService promised d.system d.world k old → FitsService anew d.system w k old
  linked_fits old there f =
      record {
        interface = f.interface;
        known = f.known;
        level = f.level;
        rests = λ c of none. rests_anew k old (not_current promised kind d t h i k s w a) there c (f.rests c of (none_current d t i k s w a old.server));
      }

  given_fits : (old : Session) (more : Amount) → FitsService anew d.system w k old → FitsService anew d.system w k (record old { donation = more })
  given_fits old more f =
      record {
        interface = f.interface;
        known = f.known;
        level = f.level;
        rests = λ c of none. (let r = f.rests c of none in record { bank = r.bank; object = r.object });
      }

  new_fits : (q : SlotId) (server : ℕ) (service : List ℕ) (given : Amount) (interface : Interface) → interface_in service d.system.interfaces ≡ Some interface
      → FitsService anew d.system w k (new_session d.x q server service given)
  new_fits q server service given interface known =
      record {
        interface = interface;
        known = known;
        level = omega (arith);
        rests = λ c of none. record { bank = empty_kinds anew 8; object = λ yes. absurd (false≢true yes) };
      }

module _ (promised : ℕ → Option Kind) (kind : Kind) (d : Doing) (t : TakesLeaf d) (h : IsLinkedWorld d.system d.world) (k : ℕ) (s : Session) (w : World) where
  fits_here : (i : Instruction) → Asked d i k s w → KnowsService d.system i s
      → ((v : Session) → session_at d.world k ≡ Some v → FitsService promised d.system d.world k v) → FitsService (promised_anew promised k kind) d.system w k s
  fits_here (Open place service n) a knows old =
      let is = a.was.5 in
      subst (λ s. FitsService (promised_anew promised k kind) d.system w k s) (sym is)
      (new_fits promised kind d t h (Open place service n) k s w a a.q a.was.0 service a.was.1 knows.interface
      (ap (λ (s : Session). interface_in s.service d.system.interfaces) (sym is) ∙ knows.known))
  fits_here (Upgrade place n) a knows old =
      subst (λ s. FitsService (promised_anew promised k kind) d.system w k s) (sym a.was.4)
      (given_fits promised kind d t h (Upgrade place n) k s w a a.was.0 a.was.1
      (linked_fits promised kind d t h (Upgrade place n) k s w a a.was.0 a.was.2 (old a.was.0 a.was.2)))
  fits_here (Call place) a knows old = linked_fits promised kind d t h (Call place) k s w a s a.was.0 (old s a.was.0)
  fits_here (Close place) a knows old = linked_fits promised kind d t h (Close place) k s w a s a.was.0 (old s a.was.0)
  fits_here _ a knows old = absurd a.was

  pub asked_fits : (i : Instruction) → Asked d i k s w → KnowsService d.system i s
      → ((j : ℕ) (v : Session) → session_at d.world j ≡ Some v → FitsService promised d.system d.world j v)
      → (j : ℕ) (u : Session) → session_at w j ≡ Some u → FitsService (promised_anew promised k kind) d.system w j u
  asked_fits i a knows old j u e =
      elim (eqb_tells j k) [
        | inl f ↦ (let same : s ≡ u = some_same (sym a.found ∙ (ap (session_at w) (sym f.1) ∙ e)) in
            subst (λ j. FitsService (promised_anew promised k kind) d.system w j u) (sym f.1)
            (subst (λ u. FitsService (promised_anew promised k kind) d.system w k u) same (fits_here i a knows (old k))))
        | inr f ↦ fits_else promised kind d t h i k s w a j u f.1 e (old j)
      ]

  -- REQUESTS

  abbrev Wanted : Ask → Type 0
  Wanted ask = is_wanted (interface_in s.service d.system.interfaces) 0 (section_for ask (level_then ask s.level)) ≡ true

  is_wanted_of : (i : Instruction) (ask : Ask) → IsAsk i ask → (anew : ℕ → Option Kind) → KnowsService d.system i s → FitsService anew d.system w k s
      → Wanted ask
  is_wanted_of (Open place service n) ask is anew knows f = subst Wanted (sym is) (ap (λ o. is_wanted o 0 Opening) knows.known)
  is_wanted_of (Upgrade place n) ask is anew knows f =
      subst Wanted (sym is) (ap (λ o. is_wanted o 0 (Upgrading (suc s.level))) knows.known ∙ le-leb (suc s.level) (length knows.interface.upgrades) knows.next)
  is_wanted_of (Call place) ask is anew knows f = subst Wanted (sym is.1) (ap (λ o. is_wanted o 0 (Calling s.level)) f.known
      ∙ le-leb s.level (length f.interface.upgrades) f.level)
  is_wanted_of (Close place) ask is anew knows f = subst Wanted (sym is) (ap (λ o. is_wanted o 0 (Closing s.level)) f.known
      ∙ le-leb s.level (length f.interface.upgrades) f.level)
  is_wanted_of _ ask is anew knows f = absurd is

  pub asked_requests : (i : Instruction) (a : Asked d i k s w) → KnowsService d.system i s → FitsService (promised_anew promised k kind) d.system w k s
      → IsWithin d.system s.service a.ask → Each (FitsRequest d.system d.world) d.world.requests → Each (FitsRequest d.system w) w.requests
  asked_requests i a knows fits within old =
      subst (Each (FitsRequest d.system w)) (sym a.requests)
      (each_end (FitsRequest d.system w) d.world.requests (record { session = k; ask = a.ask })
      (each_map (λ r. FitsRequest d.system d.world r × (r.session ≢ k)) (FitsRequest d.system w) else d.world.requests
      (none_of (FitsRequest d.system d.world) k d.world.requests a.free.no_request old))
      (λ u there. subst (λ (u : Session). IsWithin d.system u.service a.ask
      × (is_wanted (interface_in u.service d.system.interfaces) 0 (section_for a.ask (level_then a.ask u.level)) ≡ true)) (some_same (sym a.found ∙ there))
      (within, is_wanted_of i a.ask a.is (promised_anew promised k kind) knows fits)))
    where
      else : (r : Request) → FitsRequest d.system d.world r × (r.session ≢ k) → FitsRequest d.system w r
      else r f u there =
          let was = session_was d t i k s w a r.session u f.1 there in
          subst (λ (u : Session). IsWithin d.system u.service r.ask
          × (is_wanted (interface_in u.service d.system.interfaces) 0 (section_for r.ask (level_then r.ask u.level)) ≡ true)) (sym was.is)
          (f.0 was.old was.there)

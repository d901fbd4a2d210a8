-- What a leaf that looks for a request finds.
use Rattle.std.proofs.Common.{◌≡◌, ◌⊎◌, ◌↔◌, ℕ, Bool, true, false, cond, inl, inr, List, get_or, map, Option, Some, None, sym, ap, ◌∙◌, subst}
use Rattle.std.specs.Prelude.{is_some, IfNone, IfOk, IfSome, IsErrOf, IsTrue, Result, Ok, Err}
use Rattle.std.proofs.lemmas.Bool.{cases_Bool}
use Rattle.gq_model.specs.declared.section.Section.{Section}
use Rattle.gq_model.specs.declared.fault.Wrong.{Wrong}
use Rattle.gq_model.specs.declared.fault.Wrong.TheVariants.{ExceededQuota, MissingSection}
use Rattle.gq_model.specs.machine.Program.{section_in}
use Rattle.gq_model.specs.machine.World as world
use Rattle.gq_model.specs.machine.Doing.{Doing}
use Rattle.gq_model.specs.machine.Step.{accept_oldest, oldest}
use Rattle.gq_model.proofs.Small_facts.{some_same, none_some}
use Rattle.gq_store.specs.declared.GrowFault.{GrowFault}
use Rattle.gq_store.specs.declared.GrowFault.TheVariants.{Exceeded, CapsExceeded}
use Rattle.gq_trade.specs.Numbers.{IsTaken}
use Rattle.gq_trade.specs.declared.requests.Ask.TheVariants.{Open}
use Rattle.gq_trade.specs.declared.requests.Request.{Request}
use Rattle.gq_trade.specs.Queues.{oldest_to}
use Rattle.gq_trade.specs.Seen_requests.{ask_seen, request_seen}
use Rattle.gq_contents.specs.declared.content.Content.TheVariants.{Empty}
use Rattle.gq_trade.specs.Trading.{IsOfOldest, LacksBytes, LacksCaps, object_size, server_of, session_at}
use Rattle.gq_slots.specs.Slots.{AreSound, Frame, Slots, memory_of, world_seen}
use Rattle.gq_slots.specs.Session_calls.{TakesOldest}
use Rattle.gq_statements.specs.Systems.{AreLawful}
use Rattle.gq_statements.proofs.Unpaid_object_world.{unpaid_beginning, unpaid_beginning_caps}
use Rattle.gq_statements.proofs.Seen_slot_content.{unmade_oldest}
use Rattle.gq_statements.specs.Serving.{AreSections, Begins, taken}
use Rattle.gq_statements.specs.internal.Beginning.{can_pay}
use Rattle.gq_model.specs.machine.Step.{section_asked}
use Rattle.gq_model.specs.machine.Sections.{is_section, section_number}
use Rattle.gq_statements.proofs.Serving_begun.{begun_paid, lacks_some}
use Rattle.gq_statements.proofs.Taken_request_world.{b, begun_now, missing, refused}

-- what an outcome says
pub from_none : {A : Type 0} (P : Type 0) (o : Option A) → o ≡ None → IfNone o P → P
from_none P o e h = subst (λ y. IfNone y P) e h

pub from_some : {A : Type 0} (P : A → Type 0) (o : Option A) (a : A) → o ≡ Some a → IfSome o P → P a
from_some P o a e h = subst (λ y. IfSome y P) e h

pub if_ok : {A E : Type 0} (P : A → Type 0) (r : Result A E) (a : A) → r ≡ Ok a → IfOk r P → P a
if_ok P r a e h = subst (λ y. IfOk y P) e h

module _ (d : Doing) (e : Frame) (s : Slots) (x : ℕ) (is : d.x ≡ x) (same : d.world ≡ world_seen e s) (l : AreLawful s) (sound : AreSound s.trades.trading)
    (r : Request) (others : List Request) (first : oldest_to x s.trades.trading.requests ≡ Some (r, others))
    (there : IsTaken s.trades.trading.sessions r.session) (f : world.Request → Frame) (begins : Begins d f s) where
  abbrev k : ℕ
  k = r.session

  unmade : r.ask ≡ Open → (session_at s.trades.trading k).object ≡ Empty
  unmade = unmade_oldest s.trades.trading.sessions x s.trades.trading.requests r others sound.unmade first

  abbrev has : Bool
  has = is_some (section_in (section_asked (ask_seen r.ask) (session_at s.trades.trading k).level) d.component.node.program.sections)

  -- the server can't pay for what the request makes
  lacking : LacksBytes r.ask s.trades.trading k ⊎ LacksCaps r.ask s.trades.trading k
      → accept_oldest d (oldest d.world d.x d.world.requests) ≡ Err ExceededQuota
  lacking h =
      let of = (b d e s x is same l.trading r others first there f begins).of in
      let rest = map request_seen others in
      refused d e s x is same l.trading r others first there f begins (elim h [
        | inl p ↦ unpaid_beginning d.system (f (request_seen r)) s l of rest x r others first unmade p
        | inr p ↦ unpaid_beginning_caps d.system (f (request_seen r)) s l of rest x r others first unmade p
      ])

  -- the program has no section for it
  pub without : (object : ℕ) (wrong : Wrong) → has ≡ false → server_of s.trades.trading k ≡ x → object_size s.trades.trading k ≡ object
      → wrong ≡ cond (can_pay r.ask object (memory_of s x)) MissingSection ExceededQuota
      → accept_oldest d (oldest d.world d.x d.world.requests) ≡ Err wrong
  without object wrong none server size w =
      let can : can_pay r.ask (object_size s.trades.trading k) (memory_of s (server_of s.trades.trading k)) ≡ can_pay r.ask object (memory_of s x) =
      (λ i. can_pay r.ask (size i) (memory_of s (server i))) in
      let of = (b d e s x is same l.trading r others first there f begins).of in
      elim (cases_Bool (can_pay r.ask object (memory_of s x))) [
        | inl h ↦ missing d e s x is same l.trading r others first there f begins
            (begun_paid d.system (f (request_seen r)) s l of (map request_seen others) k there r.ask unmade (can ∙ h)) none
            ∙ ap Err (sym (w ∙ ap (λ y. cond y MissingSection ExceededQuota) h))
        | inr h ↦ lacking (lacks_some r.ask s k (can ∙ h)) ∙ ap Err (sym (w ∙ ap (λ y. cond y MissingSection ExceededQuota) h))
      ]

  lacks_for : {A : Type 0} (res : Result A GrowFault) (y : GrowFault) → res ≡ Err y
      → (IsErrOf res Exceeded ↔ IsOfOldest (oldest_to x s.trades.trading.requests) (λ p. LacksBytes p.ask s.trades.trading p.session))
      → (IsErrOf res CapsExceeded ↔ IsOfOldest (oldest_to x s.trades.trading.requests) (λ p. LacksCaps p.ask s.trades.trading p.session))
      → LacksBytes r.ask s.trades.trading k ⊎ LacksCaps r.ask s.trades.trading k
  lacks_for res Exceeded h bytes caps =
      inl (subst (λ o. IsOfOldest o (λ p. LacksBytes p.ask s.trades.trading p.session)) first (bytes.0 h))
  lacks_for res CapsExceeded h bytes caps =
      inr (subst (λ o. IsOfOldest o (λ p. LacksCaps p.ask s.trades.trading p.session)) first (caps.0 h))

  -- the slots refuse it
  pub refusal : {A : Type 0} (res : Result A GrowFault) (y : GrowFault) → res ≡ Err y
      → (IsErrOf res Exceeded ↔ IsOfOldest (oldest_to x s.trades.trading.requests) (λ p. LacksBytes p.ask s.trades.trading p.session))
      → (IsErrOf res CapsExceeded ↔ IsOfOldest (oldest_to x s.trades.trading.requests) (λ p. LacksCaps p.ask s.trades.trading p.session))
      → accept_oldest d (oldest d.world d.x d.world.requests) ≡ Err ExceededQuota
  refusal res y h bytes caps = lacking (lacks_for res y h bytes caps)

  -- the slots take it
  pub outcome : (t : Slots) → AreLawful t → has ≡ true → TakesOldest s t x r
      → accept_oldest d (oldest d.world d.x d.world.requests) ≡ taken d f t (Ok (Some r))
  outcome t m some takes = begun_now d e s x is same l.trading r others first there f begins t l m takes some

-- what is taken is the oldest request
pub takes_oldest : (s t : Slots) (x : ℕ) (r : Request) (others : List Request) (o : Option Request) → oldest_to x s.trades.trading.requests ≡ Some (r, others)
    → IfNone o ((oldest_to x s.trades.trading.requests ≡ None) × (t ≡ s)) → IfSome o (λ p. TakesOldest s t x p) → TakesOldest s t x r
takes_oldest s t x r others None first none takes = absurd (none_some (sym none.0 ∙ first))
takes_oldest s t x r others (Some p) first none takes =
    let it : p ≡ r = ap (λ (y : Request × List Request). y.0) (some_same (sym takes.accepts.oldest ∙ first)) in
    subst (λ y. TakesOldest s t x y) it takes

-- the program has the section of a request where its place reports so
pub has_is : (d : Doing) (bs : List Bool) (s : Slots) (r : Request) (section : Section) (level : ℕ) (b : Bool) → AreSections bs d.component
    → IsTrue (is_section section) → section ≡ section_asked (ask_seen r.ask) level → level ≡ (session_at s.trades.trading r.session).level
    → b ≡ get_or bs (section_number section) false
    → is_some (section_in (section_asked (ask_seen r.ask) (session_at s.trades.trading r.session).level) d.component.node.program.sections) ≡ b
has_is d bs s r section level b sections is at low reports =
    ap (λ y. is_some (section_in y d.component.node.program.sections)) (sym (at ∙ ap (section_asked (ask_seen r.ask)) low))
    ∙ (sym (sections section is) ∙ sym reports)

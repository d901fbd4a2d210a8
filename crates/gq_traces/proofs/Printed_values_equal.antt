-- What is reported alike is the same.
use Rattle.std.proofs.Common.{◌≡◌, ◌∙◌, ◌==◌, true, Option, Some, None, IfSome, refl, ap}
use Rattle.std.proofs.lemmas.Bool.{and_parts, eqb-true, false≢true}
use Rattle.gq_model.specs.declared.phase.Phase.{Phase}
use Rattle.gq_model.specs.declared.phase.Phase.TheVariants.{Pending, Running, Blocked, Serving, Handling, Exited}
use Rattle.gq_model.specs.declared.section.Section.{Section}
use Rattle.gq_model.specs.declared.section.Section.TheVariants.{Main, Opening, Upgrading, Calling, Closing, Reacting}
use Rattle.gq_model.specs.machine.Accounts.{Account}
use Rattle.gq_model.specs.machine.Amounts.{Amount, same_amount}
use Rattle.gq_model.specs.machine.Program.{text_eq}
use Rattle.gq_model.specs.machine.Sections.{same_section}
use Rattle.gq_model.proofs.Small_facts.{text_is}
use Rattle.gq_output.specs.Account_values.{AccountValues, reported_of}
use Rattle.gq_traces.specs.Trace.{Standing, PrintedSession, Using, same_phase, same_requested, same_standing, same_printed, same_using, standing_of}
use Rattle.gq_traces.specs.declared.session_lines.Requested.{Requested}
use Rattle.gq_traces.specs.declared.session_lines.Requested.TheVariants.{Nothing, Waits, AtHand}
use Rattle.gq_traces.specs.internal.Noted.{standing_in}

pub phase_is : (p q : Phase) → same_phase p q ≡ true → p ≡ q
phase_is Pending Pending e = refl
phase_is Running Running e = refl
phase_is Blocked Blocked e = refl
phase_is Serving Serving e = refl
phase_is Handling Handling e = refl
phase_is Exited Exited e = refl
phase_is p q e = absurd (false≢true e)

pub amount_is : (a b : Amount) → same_amount a b ≡ true → a ≡ b
amount_is a b e =
    let p = and_parts (a.ram == b.ram) (a.caps == b.caps) e in
    let ram = eqb-true a.ram b.ram p.0 in
    let caps = eqb-true a.caps b.caps p.1 in
    λ i. record { ram = ram i; caps = caps i }

using_is : (a b : Option Using) → same_using a b ≡ true → a ≡ b
using_is None None e = refl
using_is (Some a) (Some b) e =
    let p = and_parts (same_amount a.used b.used) (same_phase a.phase b.phase) e in
    let used = amount_is a.used b.used p.0 in
    let phase = phase_is a.phase b.phase p.1 in
    λ i. Some (record { used = used i; phase = phase i })
using_is None (Some b) e = absurd (false≢true e)
using_is (Some a) None e = absurd (false≢true e)

pub standing_is : (a b : Standing) → same_standing a b ≡ true → a ≡ b
standing_is a b e =
    let p = and_parts (same_amount a.quota b.quota) (same_using a.leaf b.leaf) e in
    let quota = amount_is a.quota b.quota p.0 in
    let leaf = using_is a.leaf b.leaf p.1 in
    λ i. record { quota = quota i; leaf = leaf i }

-- an account is noted by one that stands so
pub stands_as : (o : Option Account) (t : AccountValues) (a : Standing) → a ≡ standing_in t → IfSome o (λ b. t ≡ reported_of b) → IfSome o
    (λ b. a ≡ standing_of b)
stands_as None t a e h = tt
stands_as (Some b) t a e h = e ∙ ap standing_in h

section_is : (a b : Section) → same_section a b ≡ true → a ≡ b
section_is Main Main e = refl
section_is Opening Opening e = refl
section_is (Upgrading a) (Upgrading b) e = ap Upgrading (eqb-true a b e)
section_is (Calling a) (Calling b) e = ap Calling (eqb-true a b e)
section_is (Closing a) (Closing b) e = ap Closing (eqb-true a b e)
section_is (Reacting a) (Reacting b) e = ap Reacting (eqb-true a b e)
section_is a b e = absurd (false≢true e)

requested_is : (a b : Requested) → same_requested a b ≡ true → a ≡ b
requested_is Nothing Nothing e = refl
requested_is (Waits a) (Waits b) e = ap Waits (section_is a b e)
requested_is (AtHand a) (AtHand b) e = ap AtHand (section_is a b e)
requested_is a b e = absurd (false≢true e)

pub reported_is : (a b : Option PrintedSession) → same_printed a b ≡ true → a ≡ b
reported_is None None e = refl
reported_is (Some a) (Some b) e =
    let p = and_parts _ (same_requested a.requested b.requested) e in
    let q = and_parts _ (same_amount a.donation b.donation) p.0 in
    let r = and_parts _ (a.level == b.level) q.0 in
    let s = and_parts _ (text_eq a.service b.service) r.0 in
    let t = and_parts (a.client == b.client) (a.server == b.server) s.0 in
    let client = eqb-true a.client b.client t.0 in
    let server = eqb-true a.server b.server t.1 in
    let service = text_is a.service b.service s.1 in
    let level = eqb-true a.level b.level r.1 in
    let donation = amount_is a.donation b.donation q.1 in
    let requested = requested_is a.requested b.requested p.1 in
    λ i. Some (record {
      client = client i;
      server = server i;
      service = service i;
      level = level i;
      donation = donation i;
      requested = requested i;
    })
reported_is None (Some b) e = absurd (false≢true e)
reported_is (Some a) None e = absurd (false≢true e)

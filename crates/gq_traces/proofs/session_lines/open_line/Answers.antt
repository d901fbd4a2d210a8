-- The line of a session, part by part.
use Rattle.std.proofs.Common.{◌∙◌, ◌++◌, ◌∷◌, [], codes, ap, append_assoc}
use Rattle.std.specs.Prelude.{decimal}
use Rattle.gq_model.specs.machine.Scenario.{system}
use Rattle.gq_traces.specs.Trace.{amount_text, parties_text, requested_text}
use Rattle.gq_traces.specs.internal.Noted.{seen_session}
use Rattle.gq_traces.proofs.session_lines.open_line.Goals as goal

pub returns : goal.returns
returns c =
    let s = c.args.table.now in
    let t = c.args.reported.now in
    let version = c.version.ensures ∙ ap (λ s. s.version) c.scenario.ensures in
    let three = c.extend_parties.new.line.items in
    c.extend-3.ensures.bytes ∙ ap (λ l. l ++ 10 ∷ []) (
    c.extend_request.ensures.bytes ∙ ap (λ l. l ++ requested_text t.requested) (
    (c.extend_amount.ensures.bytes ∙ (λ i. c.extend-2.new.line.items ++ amount_text (version i) (codes "lends") t.donation))
    ∙ ap (λ l. l ++ amount_text s.version (codes "lends") t.donation) (
    c.extend-2.ensures.bytes ∙ ap (λ l. l ++ 32 ∷ []) (
    (c.extend_entry-2.ensures.bytes ∙ (λ i. three ++ codes " at level" ++ codes " " ++ decimal (c.from.ensures i))
    ∙ ap (λ l. l ++ decimal t.level) (append_assoc three (codes " at level") (codes " ")))
    ∙ ap (λ l. l ++ codes " at level " ++ decimal t.level) (
    c.extend_parties.ensures.bytes ∙ ap (λ l. l ++ parties_text (system s) (seen_session s t)) (
    c.extend.ensures.bytes ∙ ap (λ l. l ++ 32 ∷ []) (
    c.extend_entry.ensures.bytes ∙ ap (λ l. l ++ codes "session" ++ codes " " ++ decimal c.args.session) c.new-line.ensures)))))))

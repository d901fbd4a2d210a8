-- Nothing is noted.
use Rattle.std.proofs.Common.{◌∙◌, [], ◌∷◌, ap, arith, get_or, length, length-append, None}
use Rattle.gq_traces.proofs.Renewed_trace_notes.{none_more}
use Rattle.gq_traces.proofs.noted.first_sessions.Goals as goal

pub loop-preserved : goal.loop-preserved
loop-preserved c =
    let put = c.in_ok-push.ensures.items in
    let l = c.loop in
    let more = ap length put ∙ length-append l.sessions.items (None ∷ []) in
    let so_far = l.invariant.long in
    record {
      long = omega (arith, more, so_far);
      none = λ k. ap (λ xs. get_or xs k None) put ∙ none_more l.sessions.items l.invariant.none k;
    }

-- One signal more.
use Rattle.std.proofs.Common.{◌≡◌, ◌∙◌, ◌++◌, ◌+◌, ◌∷◌, ℕ, zero, suc, List, [], Some, ap, append_assoc, append-nil, arith, sym, take}
use Rattle.std.specs.Prelude.{slice_get}
use Rattle.gq_model.proofs.Small_facts.{none_some, some_same}
use Rattle.gq_model.specs.machine.World.{Signal}
use Rattle.gq_traces.specs.Account_state.{signal_entries, signal_entry}
use Rattle.gq_traces.proofs.account_state.extend_each.Goals as goal

entries_more : (signals : List Signal) (n : ℕ) (s : Signal) → slice_get signals n ≡ Some s
    → signal_entries (take n signals) ++ signal_entry s ≡ signal_entries (take (suc n) signals)
entries_more [] n s e = absurd (none_some e)
entries_more (t ∷ signals) zero s e = sym (ap signal_entry (some_same e)) ∙ sym (append-nil (signal_entry t))
entries_more (t ∷ signals) (suc n) s e =
    append_assoc (signal_entry t) (signal_entries (take n signals)) (signal_entry s) ∙ ap (λ l. signal_entry t ++ l) (entries_more signals n s e)

pub loop-number-preserved : goal.loop-number-preserved
loop-number-preserved c =
    let l = c.loop-number in
    let old = c.args.line.now.items in
    let signals = c.args.signals.now in
    let s : Signal = record { submitted = c.get.result.submitted; taken = c.get.result.taken } in
    let next : suc l.number ≡ l.number + 1 = omega arith in
    let more = c.extend_signal.ensures.long in
    let few = l.invariant.long in
    record {
      bytes = c.extend_signal.ensures.bytes ∙ (ap (λ b. b ++ signal_entry s) l.invariant.bytes
          ∙ (append_assoc old (signal_entries (take l.number signals)) (signal_entry s)
          ∙ ap (λ b. old ++ b) (entries_more signals l.number s c.get.ensures ∙ ap (λ n. signal_entries (take n signals)) next)));
      long = omega (arith, more, few);
    }

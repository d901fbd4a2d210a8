-- The text was made, and is written; and where it has no line of a race, there is none.
use Rattle.std.proofs.Common.{Ok, ap, codes, sym, ◌∙◌}
use Rattle.std.specs.Prelude.{IsOkAnd}
use Rattle.gq_output.specs.Writer_failures.{written_to}
use Rattle.gq_load.specs.Load.{loaded}
use Rattle.gq_reports.proofs.Command_text_endings.{reported_text, whole_text}
use Rattle.gq_races.specs.Races.{IsInputFree, IsOrderFree, IsRaceFree, IsSignalFree}
use Rattle.gq_races.specs.Race_text.{races_text}
use Rattle.gq_races.specs.Races_written.{MeansWithout, WroteNothing, races_written}
use Rattle.gq_races.proofs.Silence_means_raceless.{free_printed, inputless, orderless, quiet_printed, raceless, signalless, unset_printed}
use Rattle.gq_races.proofs.Silence_means_raceless.{unsignalled_printed}
use Rattle.gq_races.proofs.races.races.Goals as goal

pub returns-clause-writes : goal.returns-clause-writes
returns-clause-writes g c =
    c.put_text.ensures (races_written c.args.scenario.now)
    (reported_text races_text (loaded c.args.scenario.now) c.in_ok-text.text.items c.in_ok-text.ensures.text ∙ ap Ok (sym c.as_slice.ensures.value))

pub returns-clause-raceless : goal.returns-clause-raceless
returns-clause-raceless g c =
    let before = written_to g.W.Write.contents c.args.out.now in
    let after = written_to g.W.Write.contents c.put_text.new.out in
    whole_text (MeansWithout (codes "race ") IsRaceFree c.args.scenario.now before after) c.put_text.result
    (λ h. raceless (loaded c.args.scenario.now) c.in_ok-text.text.items before after h c.in_ok-text.ensures.text)
    (c.put_text.ensures (Ok c.in_ok-text.text.items) (ap Ok (sym c.as_slice.ensures.value)))

pub returns-clause-orderless : goal.returns-clause-orderless
returns-clause-orderless g c =
    let before = written_to g.W.Write.contents c.args.out.now in
    let after = written_to g.W.Write.contents c.put_text.new.out in
    whole_text (MeansWithout (codes "order ") IsOrderFree c.args.scenario.now before after) c.put_text.result
    (λ h. orderless (loaded c.args.scenario.now) c.in_ok-text.text.items before after h c.in_ok-text.ensures.text)
    (c.put_text.ensures (Ok c.in_ok-text.text.items) (ap Ok (sym c.as_slice.ensures.value)))

pub returns-clause-free : goal.returns-clause-free
returns-clause-free g c =
    let before = written_to g.W.Write.contents c.args.out.now in
    let after = written_to g.W.Write.contents c.put_text.new.out in
    whole_text (WroteNothing before after → IsOkAnd (loaded c.args.scenario.now) IsRaceFree) c.put_text.result
    (λ h. free_printed (loaded c.args.scenario.now) c.in_ok-text.text.items before after h c.in_ok-text.ensures.text)
    (c.put_text.ensures (Ok c.in_ok-text.text.items) (ap Ok (sym c.as_slice.ensures.value)))

pub returns-clause-quiet : goal.returns-clause-quiet
returns-clause-quiet g c =
    let before = written_to g.W.Write.contents c.args.out.now in
    let after = written_to g.W.Write.contents c.put_text.new.out in
    whole_text (WroteNothing before after → IsOkAnd (loaded c.args.scenario.now) IsOrderFree) c.put_text.result
    (λ h. quiet_printed (loaded c.args.scenario.now) c.in_ok-text.text.items before after h c.in_ok-text.ensures.text)
    (c.put_text.ensures (Ok c.in_ok-text.text.items) (ap Ok (sym c.as_slice.ensures.value)))

pub returns-clause-inputless : goal.returns-clause-inputless
returns-clause-inputless g c =
    let before = written_to g.W.Write.contents c.args.out.now in
    let after = written_to g.W.Write.contents c.put_text.new.out in
    whole_text (MeansWithout (codes "input ") IsInputFree c.args.scenario.now before after) c.put_text.result
    (λ h. inputless (loaded c.args.scenario.now) c.in_ok-text.text.items before after h c.in_ok-text.ensures.text)
    (c.put_text.ensures (Ok c.in_ok-text.text.items) (ap Ok (sym c.as_slice.ensures.value)))

pub returns-clause-unmoved : goal.returns-clause-unmoved
returns-clause-unmoved g c =
    let before = written_to g.W.Write.contents c.args.out.now in
    let after = written_to g.W.Write.contents c.put_text.new.out in
    whole_text (MeansWithout (codes "signal ") IsSignalFree c.args.scenario.now before after) c.put_text.result
    (λ h. signalless (loaded c.args.scenario.now) c.in_ok-text.text.items before after h c.in_ok-text.ensures.text)
    (c.put_text.ensures (Ok c.in_ok-text.text.items) (ap Ok (sym c.as_slice.ensures.value)))

pub returns-clause-unset : goal.returns-clause-unset
returns-clause-unset g c =
    let before = written_to g.W.Write.contents c.args.out.now in
    let after = written_to g.W.Write.contents c.put_text.new.out in
    whole_text (WroteNothing before after → IsOkAnd (loaded c.args.scenario.now) IsInputFree) c.put_text.result
    (λ h. unset_printed (loaded c.args.scenario.now) c.in_ok-text.text.items before after h c.in_ok-text.ensures.text)
    (c.put_text.ensures (Ok c.in_ok-text.text.items) (ap Ok (sym c.as_slice.ensures.value)))

pub returns-clause-still : goal.returns-clause-still
returns-clause-still g c =
    let before = written_to g.W.Write.contents c.args.out.now in
    let after = written_to g.W.Write.contents c.put_text.new.out in
    whole_text (WroteNothing before after → IsOkAnd (loaded c.args.scenario.now) IsSignalFree) c.put_text.result
    (λ h. unsignalled_printed (loaded c.args.scenario.now) c.in_ok-text.text.items before after h c.in_ok-text.ensures.text)
    (c.put_text.ensures (Ok c.in_ok-text.text.items) (ap Ok (sym c.as_slice.ensures.value)))

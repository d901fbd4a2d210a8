-- The laws of lists of turns and signals, by those of the worlds that a scenario comes to.
use Rattle.gq_traces.proofs.Node_names.{has_names}
use Rattle.gq_traces.proofs.Turn_laws.{all_written, lines_few, lines_of, reported, rests_unless, run_ends, run_right}
use Rattle.gq_traces.proofs.schedule_laws.turns_laws.Goals as goal

pub returns-clause-leaves : goal.returns-clause-leaves
returns-clause-leaves c seed times text s loads = lines_of s (c.loaded_laws.ensures.sound text s loads) (has_names text s loads) seed times

pub returns-clause-few : goal.returns-clause-few
returns-clause-few c seed times text s loads = lines_few s (c.loaded_laws.ensures.sound text s loads) (has_names text s loads) seed times

pub returns-clause-reads : goal.returns-clause-reads
returns-clause-reads c seed times text s loads = reported s (c.loaded_laws.ensures.sound text s loads) (has_names text s loads) seed times

pub returns-clause-right : goal.returns-clause-right
returns-clause-right c seed times text s loads = run_right s (c.loaded_laws.ensures.sound text s loads) (has_names text s loads) seed times

pub returns-clause-whole : goal.returns-clause-whole
returns-clause-whole c seed text s loads =
    let sound = c.loaded_laws.ensures.sound text s loads in
    all_written s sound (has_names text s loads) seed (λ w reached. c.reached_laws.ensures.linked s w reached)
    (λ w reached. c.reached_laws.ensures.whole s w reached) (λ w reached. c.accepted_laws.ensures.upheld s w sound reached)

pub returns-clause-ends : goal.returns-clause-ends
returns-clause-ends c seed times text s loads = run_ends s (c.loaded_laws.ensures.sound text s loads) (has_names text s loads) seed times

pub returns-clause-rests : goal.returns-clause-rests
returns-clause-rests c seed times text s loads =
    let sound = c.loaded_laws.ensures.sound text s loads in
    rests_unless s sound (has_names text s loads) seed (λ w reached. c.progress_laws.ensures.goes_on s w sound reached) times

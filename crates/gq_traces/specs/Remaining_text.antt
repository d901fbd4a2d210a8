-- What a leaf of the abstract machine has left to do, as a trace has it, but for the numbers of statements.
use Rattle.std.specs.Prelude.{◌≡◌, List, map}
use Rattle.gq_model.specs.machine.World.{Leaf, Round, World}
use Rattle.gq_traces.specs.Step_positions.{Ahead, Chooses, Does, Ends, Entered, NumberedStatements, Repeats, numbered}
use Rattle.gq_traces.specs.Trace.{Traced}

-- each number is 0
abbrev pub unnumbered : NumberedStatements → NumberedStatements
unnumbered Ends = Ends
unnumbered (Does k text rest) = Does 0 text (unnumbered rest)
unnumbered (Chooses k arm other) = Chooses 0 (unnumbered arm) (unnumbered other)
unnumbered (Repeats k n body rest) = Repeats 0 n (unnumbered body) (unnumbered rest)

abbrev pub unnumbered_loop : Entered → Entered
unnumbered_loop e = record { number = 0; count = e.count; round = e.round; body = unnumbered e.body; rest = unnumbered e.rest }

-- what a trace has before a leaf
abbrev pub without_numbers : Ahead → Ahead
without_numbers a = record { todo = unnumbered a.todo; loops = map unnumbered_loop a.loops }

-- a loop that a leaf has entered
abbrev pub left_loop : Round → Entered
left_loop r =
    record { number = 0; count = r.count; round = r.round; body = unnumbered (numbered 1 r.body Ends); rest = unnumbered (numbered 1 r.rest Ends) }

-- what a leaf has left to do: its statements, and the loops that it is in
abbrev pub left_to : Leaf → Ahead
left_to leaf = record { todo = unnumbered (numbered 1 leaf.todo Ends); loops = map left_loop leaf.loops }

abbrev pub left_in : World → List Ahead
left_in w = map left_to w.leaves

-- a trace has before each leaf what that leaf has left to do
abbrev pub GoesWith : Traced → Type 0
GoesWith t = map without_numbers t.aheads ≡ left_in t.world

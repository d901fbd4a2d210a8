-- Where a leaf stands once it has taken a step of its own.
use Rattle.std.proofs.Common.{◌≡◌, ◌∙◌, ℕ, zero, suc, ◌+◌, ◌-◌, ◌<◌, true, false, List, [], ◌∷◌, length, drop, Option, Some, None, refl, ap, sym, subst}
use Rattle.std.proofs.Common.{arith, codes, ◌++◌}
use Rattle.std.specs.Prelude.{nat_lt, slice_get}
use Rattle.std.proofs.lemmas.Option.{slice_get_within}
use Rattle.gq_model.specs.declared.section.Section.{Section}
use Rattle.gq_model.specs.machine.Program.{size}
use Rattle.gq_model.specs.machine.Scenario.{Component}
use Rattle.gq_model.proofs.Small_facts.{none_some, some_same}
use Rattle.gq_views.specs.Listing.{loop_text}
use Rattle.gq_traces.specs.Step_positions.{Ahead, Chooses, Does, Ends, Entered, NumberedStatements, Repeats, after_round, body_in, chosen, entered, next_place}
use Rattle.gq_traces.specs.Step_positions.{past, place}
use Rattle.gq_traces.specs.declared.numbered_program.NumberedStatement.{NumberedStatement}
use Rattle.gq_traces.specs.declared.numbered_program.Way.{Way}
use Rattle.gq_traces.specs.declared.numbered_program.Way.TheVariants as way
use Rattle.gq_traces.specs.declared.tracker.Ahead as places
use Rattle.gq_traces.specs.declared.tracker.Round.{Round}
use Rattle.gq_traces.specs.internal.Flat.{AreEntered, AreWithin, IsAhead, IsAt, IsIf, IsLoop, IsPlain, IsRead, IsWithin, another_round}
use Rattle.gq_traces.specs.internal.Printed_steps.{entry_place, way_text}

-- ENTRIES

some_place : (next : Option ℕ) (place other : ℕ) → next ≡ Some place → next ≡ Some other → other ≡ place
some_place next place other at h = some_same (sym h ∙ at)

-- there is an entry at the place of something that is read
pub place_within : (es : List NumberedStatement) (next : Option ℕ) (place : ℕ) (t : NumberedStatements) → next ≡ Some place → IsRead es next t → place < length
    es
place_within es next place Ends at h = absurd (none_some (sym h ∙ at))
place_within es next place (Does k text rest) at h =
    subst (λ p. p < length es) (some_place next place h.0 at h.2) (slice_get_within es h.0 _ h.3)
place_within es next place (Chooses k arm other) at h =
    subst (λ p. p < length es) (some_place next place h.0 at h.2) (slice_get_within es h.0 _ h.3)
place_within es next place (Repeats k n body rest) at h =
    subst (λ p. p < length es) (some_place next place h.0 at h.2) (slice_get_within es h.0 _ h.3)

-- what holds of the entry at that place
pub record Entry_is (es : List NumberedStatement) (k : ℕ) (P : Way → Type 0) (e : NumberedStatement) : Type 0 where
  pub number : e.number ≡ k
  pub holds : P e.way

abbrev entry_of : ℕ → Way → NumberedStatement
entry_of k w = record { number = k; way = w }

pub entry_at : (es : List NumberedStatement) (next : Option ℕ) (place k : ℕ) (P : Way → Type 0) (e : NumberedStatement) → next ≡ Some place → slice_get es
    place ≡ Some e
    → IsAt es next k P → Entry_is es k P e
entry_at es next place k P e at there h =
    let same : record { number = k; way = h.1 } ≡ e = some_same (sym h.3 ∙ ap (slice_get es) (some_place next place h.0 at h.2) ∙ there) in
    record { number = ap (λ (x : NumberedStatement). x.number) (sym same); holds = subst (λ (x : NumberedStatement). P x.way) same h.4 }

pub entry_there : (es : List NumberedStatement) (p : ℕ) → p < length es → (e : NumberedStatement) × (slice_get es p ≡ Some e)
entry_there [] p less = absurd (omega (arith, less))
entry_there (e ∷ es) zero less = (e, refl)
entry_there (e ∷ es) (suc p) less = entry_there es p (omega (arith, less))

-- LOOPS

pub loops_long : (es : List NumberedStatement) (rounds : List Round) (loops : List Entered) → AreEntered es rounds loops → length rounds ≡ length loops
loops_long es [] [] h = refl
loops_long es [] (e ∷ loops) h = absurd h
loops_long es (r ∷ rounds) [] h = absurd h
loops_long es (r ∷ rounds) (e ∷ loops) h = ap suc (loops_long es rounds loops h.1)

-- PAST A STATEMENT

module _ (es : List NumberedStatement) (old : places.Ahead) (place : ℕ) (at : old.next ≡ Some place) (e : NumberedStatement)
    (there : slice_get es place ≡ Some e) where
  module _ (new : places.Ahead) (operands : List ℕ) (t : Ahead) (h : IsAhead es old t) where
    -- one with no statement in it
    pub pass_plain : (text : _) → e.way ≡ way.Plain text new.next → new.loops ≡ old.loops → IsAhead es new (past operands t.todo t.loops)
    pass_plain text is same = by t.todo h.reads h.deep
      where
        by : (todo : NumberedStatements) → IsRead es old.next todo → IsWithin (4 - length t.loops) todo → IsAhead es new (past operands todo t.loops)
        by Ends reads deep = absurd (none_some (sym reads ∙ at))
        by (Does k reported rest) reads deep =
            let q = entry_at es old.next place k (IsPlain (λ u n. (u ≡ reported) × IsRead es n rest)) e at there reads in
            let p = subst (IsPlain (λ u n. (u ≡ reported) × IsRead es n rest)) is q.holds in
            record { reads = p.1; loops = subst (λ (l : _). AreEntered es l.items t.loops) (sym same) h.loops; deep = deep; deep_loops = h.deep_loops }
        by (Chooses k arm other) reads deep =
            let P : Way → Type 0 = IsIf (λ a o. IsRead es a arm × IsRead es o other) in
            absurd (subst P is (entry_at es old.next place k P e at there reads).holds)
        by (Repeats k n body rest) reads deep =
            let P : Way → Type 0 = IsLoop (λ m b r. (m ≡ n) × IsRead es b body × IsRead es r rest) in
            absurd (subst P is (entry_at es old.next place k P e at there reads).holds)

    -- an `if`
    pub pass_if : (a o : Option ℕ) → e.way ≡ way.If a o → new.next ≡ chosen operands a o → new.loops ≡ old.loops
        → IsAhead es new (past operands t.todo t.loops)
    pass_if a o is goes same = by t.todo h.reads h.deep
      where
        reads_chosen : (ops : List ℕ) (arm other : NumberedStatements) → IsRead es a arm → IsRead es o other → IsRead es (chosen ops a o) (chosen ops arm other)
        reads_chosen [] arm other p q = q
        reads_chosen (zero ∷ ops) arm other p q = q
        reads_chosen (suc n ∷ ops) arm other p q = p

        deep_chosen : (n : ℕ) (ops : List ℕ) (arm other : NumberedStatements) → IsWithin n arm → IsWithin n other → IsWithin n (chosen ops arm other)
        deep_chosen n [] arm other p q = q
        deep_chosen n (zero ∷ ops) arm other p q = q
        deep_chosen n (suc m ∷ ops) arm other p q = p

        by : (todo : NumberedStatements) → IsRead es old.next todo → IsWithin (4 - length t.loops) todo → IsAhead es new (past operands todo t.loops)
        by Ends reads deep = absurd (none_some (sym reads ∙ at))
        by (Does k reported rest) reads deep =
            let P : Way → Type 0 = IsPlain (λ u n. (u ≡ reported) × IsRead es n rest) in
            absurd (subst P is (entry_at es old.next place k P e at there reads).holds)
        by (Chooses k arm other) reads deep =
            let P : Way → Type 0 = IsIf (λ x y. IsRead es x arm × IsRead es y other) in
            let p = subst P is (entry_at es old.next place k P e at there reads).holds in
            record {
              reads = subst (λ n. IsRead es n (chosen operands arm other)) (sym goes) (reads_chosen operands arm other p.0 p.1);
              loops = subst (λ (l : _). AreEntered es l.items t.loops) (sym same) h.loops;
              deep = deep_chosen (4 - length t.loops) operands arm other deep.0 deep.1;
              deep_loops = h.deep_loops;
            }
        by (Repeats k n body rest) reads deep =
            let P : Way → Type 0 = IsLoop (λ m b r. (m ≡ n) × IsRead es b body × IsRead es r rest) in
            absurd (subst P is (entry_at es old.next place k P e at there reads).holds)

    -- a loop
    pub pass_loop : (count : ℕ) (b r : Option ℕ) → e.way ≡ way.Loop count b r → new.next ≡ b
        → new.loops.items ≡ record { place = place; round = 0 } ∷ old.loops.items → IsAhead es new (past operands t.todo t.loops)
    pass_loop count b r is goes same = by t.todo h.reads h.deep
      where
        by : (todo : NumberedStatements) → IsRead es old.next todo → IsWithin (4 - length t.loops) todo → IsAhead es new (past operands todo t.loops)
        by Ends reads deep = absurd (none_some (sym reads ∙ at))
        by (Does k reported rest) reads deep =
            let P : Way → Type 0 = IsPlain (λ u n. (u ≡ reported) × IsRead es n rest) in
            absurd (subst P is (entry_at es old.next place k P e at there reads).holds)
        by (Chooses k arm other) reads deep =
            let P : Way → Type 0 = IsIf (λ x y. IsRead es x arm × IsRead es y other) in
            absurd (subst P is (entry_at es old.next place k P e at there reads).holds)
        by (Repeats k n body rest) reads deep =
            let P : Way → Type 0 = IsLoop (λ m x y. (m ≡ n) × IsRead es x body × IsRead es y rest) in
            let q = entry_at es old.next place k P e at there reads in
            let p = subst P is q.holds in
            let number = q.number in
            let one : record { number = k; way = e.way } ≡ e = ap (λ j. entry_of j e.way) (sym number) in
            let some = deep.0 in
            let less : length t.loops < 4 = omega (arith, some) in
            let fewer : 4 - length t.loops - 1 ≡ 4 - suc (length t.loops) = omega arith in
            record {
              reads = subst (λ m. IsRead es m body) (sym goes) p.1;
              loops = subst (λ l. AreEntered es l (entered k n body rest ∷ t.loops)) (sym same)
                  (((place, e.way, refl, there ∙ ap Some (sym one), q.holds), refl), h.loops);
              deep = subst (λ m. IsWithin m body) fewer deep.1;
              deep_loops = (less, subst (λ m. IsWithin m body) fewer deep.1, deep.2, h.deep_loops);
            }

    -- then there is room for one more
    pub loop_room : (count : ℕ) (b r : Option ℕ) → e.way ≡ way.Loop count b r → length old.loops.items < 4
    loop_room count b r is = by t.todo h.reads h.deep
      where
        by : (todo : NumberedStatements) → IsRead es old.next todo → IsWithin (4 - length t.loops) todo → length old.loops.items < 4
        by Ends reads deep = absurd (none_some (sym reads ∙ at))
        by (Does k reported rest) reads deep =
            let P : Way → Type 0 = IsPlain (λ u n. (u ≡ reported) × IsRead es n rest) in
            absurd (subst P is (entry_at es old.next place k P e at there reads).holds)
        by (Chooses k arm other) reads deep =
            let P : Way → Type 0 = IsIf (λ x y. IsRead es x arm × IsRead es y other) in
            absurd (subst P is (entry_at es old.next place k P e at there reads).holds)
        by (Repeats k n body rest) reads deep =
            let long = loops_long es old.loops.items t.loops h.loops in
            let some = deep.0 in
            omega (arith, long, some)

-- PAST THE END OF A BODY

ends_todo : (es : List NumberedStatement) (next : Option ℕ) (todo : NumberedStatements) → next ≡ None → IsRead es next todo → todo ≡ Ends
ends_todo es next Ends at h = refl
ends_todo es next (Does k text rest) at h = absurd (none_some (sym at ∙ h.2))
ends_todo es next (Chooses k arm other) at h = absurd (none_some (sym at ∙ h.2))
ends_todo es next (Repeats k n body rest) at h = absurd (none_some (sym at ∙ h.2))

module _ (es : List NumberedStatement) (old new : places.Ahead) (operands : List ℕ) (t : Ahead) (h : IsAhead es old t) (at : old.next ≡ None) where
  todo_is : t.todo ≡ Ends
  todo_is = ends_todo es old.next t.todo at h.reads

  -- of a section
  pub pass_none : old.loops.items ≡ [] → new ≡ old → IsAhead es new (past operands t.todo t.loops)
  pass_none none same =
      subst (λ todo. IsAhead es new (past operands todo t.loops)) (sym todo_is) (by t.loops (subst (λ l. AreEntered es l t.loops) none h.loops))
    where
      by : (loops : List Entered) → AreEntered es [] loops → IsAhead es new (past operands Ends loops)
      by [] g = record {
        reads = ap (λ (a : places.Ahead). a.next) same ∙ at;
        loops = subst (λ l. AreEntered es l []) (sym (ap (λ (a : places.Ahead). a.loops.items) same ∙ none)) tt;
        deep = tt;
        deep_loops = tt;
      }
      by (e ∷ loops) g = absurd g

  module _ (r : Round) (rounds : List Round) (some : old.loops.items ≡ r ∷ rounds) (e : NumberedStatement) (there : slice_get es r.place ≡ Some e)
      (count : ℕ) (b n : Option ℕ) (is : e.way ≡ way.Loop count b n) where
    -- what is read of the innermost loop
    record Loop_is (x : Entered) (loops : List Entered) : Type 0 where
      count_is : count ≡ x.count
      body : IsRead es b x.body
      rest : IsRead es n x.rest
      round : r.round ≡ x.round
      others : AreEntered es rounds loops
      entry : IsAt es (Some r.place) x.number (IsLoop (λ m y z. (m ≡ x.count) × IsRead es y x.body × IsRead es z x.rest))

    loop_is : (x : Entered) (loops : List Entered) → AreEntered es (r ∷ rounds) (x ∷ loops) → Loop_is x loops
    loop_is x loops g =
        let P : Way → Type 0 = IsLoop (λ m y z. (m ≡ x.count) × IsRead es y x.body × IsRead es z x.rest) in
        let p = subst P is (entry_at es (Some r.place) r.place x.number P e refl there g.0.0).holds in
        record { count_is = p.0; body = p.1; rest = p.2; round = g.0.1; others = g.1; entry = g.0.0 }

    entered_now : AreEntered es (r ∷ rounds) t.loops
    entered_now = subst (λ l. AreEntered es l t.loops) some h.loops

    -- to the next round
    pub pass_round : nat_lt (suc r.round) count ≡ true → new.next ≡ b → new.loops.items ≡ another_round old.loops.items
        → IsAhead es new (past operands t.todo t.loops)
    pass_round more goes same =
        subst (λ todo. IsAhead es new (past operands todo t.loops)) (sym todo_is) (by t.loops entered_now h.deep_loops)
      where
        by : (loops : List Entered) → AreEntered es (r ∷ rounds) loops → AreWithin 4 loops → IsAhead es new (past operands Ends loops)
        by [] g deep = absurd g
        by (x ∷ loops) g deep =
            let l = loop_is x loops g in
            let test : nat_lt (suc x.round) x.count ≡ true = (λ i. nat_lt (suc (sym l.round i)) (sym l.count_is i)) ∙ more in
            let next : Ahead = record { todo = x.body; loops = record x { round = suc x.round } ∷ loops } in
            let at_round : r.round + 1 ≡ suc x.round = omega (arith, l.round) in
            subst (IsAhead es new) (sym (ap (λ c. after_round c x loops) test)) (record {
              reads = subst (λ m. IsRead es m x.body) (sym goes) l.body;
              loops = subst (λ m. AreEntered es m next.loops) (sym (same ∙ ap another_round some)) ((l.entry, at_round), l.others);
              deep = deep.1;
              deep_loops = deep;
            })

    -- out of the loop
    pub pass_out : nat_lt (suc r.round) count ≡ false → new.next ≡ n → new.loops.items ≡ drop 1 old.loops.items
        → IsAhead es new (past operands t.todo t.loops)
    pass_out over goes same =
        subst (λ todo. IsAhead es new (past operands todo t.loops)) (sym todo_is) (by t.loops entered_now h.deep_loops)
      where
        by : (loops : List Entered) → AreEntered es (r ∷ rounds) loops → AreWithin 4 loops → IsAhead es new (past operands Ends loops)
        by [] g deep = absurd g
        by (x ∷ loops) g deep =
            let l = loop_is x loops g in
            let test : nat_lt (suc x.round) x.count ≡ false = (λ i. nat_lt (suc (sym l.round i)) (sym l.count_is i)) ∙ over in
            subst (IsAhead es new) (sym (ap (λ c. after_round c x loops) test)) (record {
              reads = subst (λ m. IsRead es m x.rest) (sym goes) l.rest;
              loops = subst (λ m. AreEntered es m loops) (sym (same ∙ ap (drop 1) some)) l.others;
              deep = deep.2;
              deep_loops = deep.3;
            })

  -- there is an entry of the innermost loop, which is a loop
  pub innermost_within : (r : Round) (rounds : List Round) → old.loops.items ≡ r ∷ rounds → r.place < length es
  innermost_within r rounds some = by t.loops (subst (λ l. AreEntered es l t.loops) some h.loops)
    where
      by : (loops : List Entered) → AreEntered es (r ∷ rounds) loops → r.place < length es
      by [] g = absurd g
      by (x ∷ loops) g = subst (λ p. p < length es) (some_same (sym g.0.0.2)) (slice_get_within es g.0.0.0 _ g.0.0.3)

  pub innermost_loop : (r : Round) (rounds : List Round) → old.loops.items ≡ r ∷ rounds → (e : NumberedStatement) → slice_get es r.place ≡ Some e
      → IsLoop (λ m b n. Unit {0}) e.way
  innermost_loop r rounds some e there = by t.loops (subst (λ l. AreEntered es l t.loops) some h.loops)
    where
      weaker : (P : ℕ → Option ℕ → Option ℕ → Type 0) (w : Way) → IsLoop P w → IsLoop (λ m b n. Unit {0}) w
      weaker P (way.Plain text next) g = g
      weaker P (way.If a o) g = g
      weaker P (way.Loop m b n) g = tt

      by : (loops : List Entered) → AreEntered es (r ∷ rounds) loops → IsLoop (λ m b n. Unit {0}) e.way
      by [] g = absurd g
      by (x ∷ loops) g =
          let P : ℕ → Option ℕ → Option ℕ → Type 0 = λ m y z. (m ≡ x.count) × IsRead es y x.body × IsRead es z x.rest in
          weaker P e.way (entry_at es (Some r.place) r.place x.number (IsLoop P) e refl there g.0.0).holds

-- PLACES

plain_text : (reported : List ℕ) (Q : Option ℕ → Type 0) (w : Way) → IsPlain (λ u n. (u ≡ reported) × Q n) w → way_text w ≡ codes " " ++ reported
plain_text reported Q (way.Plain text next) h = ap (λ u. codes " " ++ u) h.0
plain_text reported Q (way.If a o) h = absurd h
plain_text reported Q (way.Loop m b n) h = absurd h

if_text : (Q : Option ℕ → Option ℕ → Type 0) (w : Way) → IsIf Q w → way_text w ≡ codes " if"
if_text Q (way.Plain text next) h = absurd h
if_text Q (way.If a o) h = refl
if_text Q (way.Loop m b n) h = absurd h

loop_said : (count : ℕ) (P : ℕ → Option ℕ → Option ℕ → Type 0) → ((m : ℕ) (b n : Option ℕ) → P m b n → m ≡ count) → (w : Way) → IsLoop P w
    → way_text w ≡ codes " " ++ loop_text count
loop_said count P f (way.Plain text next) h = absurd h
loop_said count P f (way.If a o) h = absurd h
loop_said count P f (way.Loop m b n) h = ap (λ k. codes " " ++ loop_text k) (f m b n h)

module _ (es : List NumberedStatement) (a : places.Ahead) (c : Component) (section : Section) (t : Ahead) (h : IsAhead es a t) where
  -- the entry that a leaf stands before
  pub place_here : (p : ℕ) → a.next ≡ Some p → (e : NumberedStatement) → slice_get es p ≡ Some e → entry_place section e ≡ next_place c section t.todo t.loops
  place_here p at e there = by t.todo h.reads
    where
      by : (todo : NumberedStatements) → IsRead es a.next todo → entry_place section e ≡ next_place c section todo t.loops
      by Ends reads = absurd (none_some (sym reads ∙ at))
      by (Does k reported rest) reads =
          let Q : Option ℕ → Type 0 = λ n. IsRead es n rest in
          let q = entry_at es a.next p k (IsPlain (λ u n. (u ≡ reported) × Q n)) e at there reads in
          let said = plain_text reported Q e.way q.holds in
          let number = q.number in
          λ i. place section (number i) (said i)
      by (Chooses k arm other) reads =
          let Q : Option ℕ → Option ℕ → Type 0 = λ x y. IsRead es x arm × IsRead es y other in
          let q = entry_at es a.next p k (IsIf Q) e at there reads in
          let said = if_text Q e.way q.holds in
          let number = q.number in
          λ i. place section (number i) (said i)
      by (Repeats k n body rest) reads =
          let P : ℕ → Option ℕ → Option ℕ → Type 0 = λ m x y. (m ≡ n) × IsRead es x body × IsRead es y rest in
          let q = entry_at es a.next p k (IsLoop P) e at there reads in
          let said = loop_said n P (λ m x y z. z.0) e.way q.holds in
          let number = q.number in
          λ i. place section (number i) (said i)

  module _ (at : a.next ≡ None) where
    -- the loop at the end of whose body it stands
    pub loop_here : (r : Round) (rounds : List Round) → a.loops.items ≡ r ∷ rounds → (e : NumberedStatement) → slice_get es r.place ≡ Some e
        → entry_place section e ≡ next_place c section t.todo t.loops
    loop_here r rounds some e there =
        subst (λ todo. entry_place section e ≡ next_place c section todo t.loops) (sym (ends_todo es a.next t.todo at h.reads))
        (by t.loops (subst (λ l. AreEntered es l t.loops) some h.loops))
      where
        by : (loops : List Entered) → AreEntered es (r ∷ rounds) loops → entry_place section e ≡ next_place c section Ends loops
        by [] g = absurd g
        by (x ∷ loops) g =
            let P : ℕ → Option ℕ → Option ℕ → Type 0 = λ m y z. (m ≡ x.count) × IsRead es y x.body × IsRead es z x.rest in
            let q = entry_at es (Some r.place) r.place x.number (IsLoop P) e refl there g.0.0 in
            let said = loop_said x.count P (λ m y z v. v.0) e.way q.holds in
            let number = q.number in
            λ i. place section (number i) (said i)

    -- the end of a section
    pub end_here : a.loops.items ≡ [] → (count : ℕ) → count ≡ size (body_in c section) → place section (count + 1) [] ≡ next_place c section t.todo t.loops
    end_here none count is =
        subst (λ todo. place section (count + 1) [] ≡ next_place c section todo t.loops) (sym (ends_todo es a.next t.todo at h.reads))
        (by t.loops (subst (λ l. AreEntered es l t.loops) none h.loops))
      where
        by : (loops : List Entered) → AreEntered es [] loops → place section (count + 1) [] ≡ next_place c section Ends loops
        by [] g = let more : count + 1 ≡ suc (size (body_in c section)) = omega (arith, is) in ap (λ k. place section k []) more
        by (x ∷ loops) g = absurd g

use Rattle.std.proofs.Common.{◌≡◌, ◌∷◌, ◌++◌, ℕ, List, Some, codes, refl, ap, sym, ◌∙◌, map, arith}
use Rattle.std.proofs.lemmas.Grind.{common_steps}
use Rattle.toml.specs.View.{view, members_view}
use Rattle.toml.proofs.Views.{Entry}
use Rattle.gq_reader.specs.Key_rules.{rule_of}
use Rattle.gq_scenario.proofs.Table_key_lookup.{unknown_first, unknown_other}
use Rattle.gq_reader.proofs.rules.unknown_key.Goals as goal

pub returns-then-not-is_ruled : goal.returns-then-not-is_ruled
returns-then-not-is_ruled c =
    let (can, finite, same) = c.loop-key.invariant in
    let e : Entry = (c.in-Some.key.now, c.in-Some.field-0-1.now) in
    let iter : c.loop-key.key-iterator ≡ e ∷ c.next.new.self = grind (arith, common_steps) in
    let first = unknown_first (map rule_of c.args.rules.now) _ c.as_str-text.result.now (view e.1)
    (members_view c.next.new.self) c.is_ruled.result c.is_ruled.ensures c.as_str-text.ensures.value c.if-not-is_ruled.true in
    rw (← same, iter, first) (ap (λ (t : List ℕ). Some (codes "S4 UnknownKey " ++ t)) c.key_of.ensures)

pub loop-key-preserved : goal.loop-key-preserved
loop-key-preserved c =
    let (can, finite, same) = c.loop-key.invariant in
    let e : Entry = (c.in-Some.key.now, c.in-Some.field-0-1.now) in
    let iter : c.loop-key.key-iterator ≡ e ∷ c.next.new.self = grind (arith, common_steps) in
    let other = unknown_other (map rule_of c.args.rules.now) _ c.as_str-text.result.now (view e.1)
    (members_view c.next.new.self) c.is_ruled.result c.is_ruled.ensures c.as_str-text.ensures.value c.if-not-is_ruled.false in
    (tt, tt, sym (rw (iter, other) refl) ∙ same)

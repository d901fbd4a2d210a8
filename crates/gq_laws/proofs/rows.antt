-- Worked runs by computation: what the laws take for granted holds in them, and each premise is needed.
-- From the definitions alone, by `refl`.
-- A wrong definition is found here before any law stands on it.
mod Turn_law_rows
mod Reached_world_rows
mod Needed_rule_rows
mod Statement_law_rows
mod Sound_scenario_rows
mod Long_runs
mod Reply_rows

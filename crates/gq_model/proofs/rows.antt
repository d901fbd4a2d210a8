-- Worked runs, texts and refusals, by computation: each is an equation between what a definition gives and what is expected of it.
-- The expected values come from the prices and the rules, worked out by hand.
-- So a wrong definition is found here, before any body stands on it.
mod Sessionless_run_rows
mod Session_run_rows
mod Offer_rows
mod Budget_rows
mod Refused_scenario_rows
mod Program_text_rows
mod Turn_text_rows
mod Wrong_step_rows
mod Broken_rule_rows

-- What the acceptance of a scenario gives before any step is taken: sections that pass the rules, banks, costs, chains of use.
-- From the definitions of the rules, of budgets and of what is accepted.
-- `Sound_systems` gathers what the steps of an accepted scenario take for granted.
pub mod Accepted_program_facts
pub mod Flow_banks
pub mod Heap_kinds
pub mod Kind_costs
pub mod Linkless_flows
pub mod Opened_links
pub mod Own_costs
pub mod Session_costs
pub mod Sound_systems
pub mod Sure_system_facts
pub mod Times_bound
pub mod Acyclic_chain_length
pub mod Use_chains

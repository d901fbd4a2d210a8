-- The abstract machine: programs and the tree of components, what stands between two steps, and what a step does (`next`).
-- From these: what is held, lent and received of each resource, runs (`run`), turns that bring all to rest (`to_rest`), and the accounts and the text of a
-- run (`whole`).
-- It speaks of lists, numbers and trees alone; no page, frame, code byte or stored balance.
pub mod Lists
pub mod Amounts
pub mod Sections
pub mod Program
pub mod Resource_prices
pub mod Scenario
pub mod Routes
pub mod World
pub mod Operate
pub mod Sums
pub mod Doing
pub mod Memory
pub mod Requests
pub mod Step
pub mod Run
pub mod Rest
pub mod Step_budgets
pub mod Accounts

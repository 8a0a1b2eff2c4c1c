-- Demand 3 of the book. Grown and Runs: the book after a list of entered acts. Monotone, EqualBooks and BookLaws: its five laws, and so demand 3.
-- Between; Spent and Reached: what a desk's own book tells of all acts made. Consequences: what the claims say in plain terms. News: what a
-- take's report says of acts.
pub mod Grown
pub mod Runs
pub mod Monotone
pub mod EqualBooks
pub mod BookLaws
pub mod Between
pub mod Spent
pub mod Reached
pub mod Consequences
pub mod News

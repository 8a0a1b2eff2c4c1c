-- Document 01's worked examples and its table of refusals, computed from the definitions alone. In this order: what a row of a table is, and
-- what opens the definitions; cases a to j; "Refusals by place", line by line.
pub mod Table
pub mod Letters
pub mod Places

-- The record in memory. Facts, Shares and Unused: what its check tells. RecordOf, Padded, Fresh and OfBody: a pile, an array, an opening and a body as a record.
-- Agreeing and RoundTrip: fetching and storing are inverse. AtPosition: the record of the body at a position.
pub mod Facts
pub mod Shares
pub mod Unused
pub mod RecordOf
pub mod Padded
pub mod Fresh
pub mod OfBody
pub mod Agreeing
pub mod RoundTrip
pub mod AtPosition

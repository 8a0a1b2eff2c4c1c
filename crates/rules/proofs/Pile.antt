-- One pile. Facts: what its check tells, in plain facts. Then its tonnage, what a desk can be sure of, an act on it, piles whose numbers agree, and a pile without tallies.
pub mod Facts
pub mod Tonnage
pub mod Bounds
pub mod Acted
pub mod Agree
pub mod Fresh

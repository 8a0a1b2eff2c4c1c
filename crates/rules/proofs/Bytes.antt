-- Numbers in bytes. Numbers: what was written is read again, and the other way round. Put: writing one leaves the rest.
pub mod Numbers
pub mod Put

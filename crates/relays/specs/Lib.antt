pub mod Join
pub mod Laws
pub mod Files
pub mod FileLaws
pub mod Plans

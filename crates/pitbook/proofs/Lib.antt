pub mod ContentsLines
pub mod BodyTold

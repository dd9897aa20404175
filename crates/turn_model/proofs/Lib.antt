pub mod OwnMoves
pub mod Fitting
pub mod PointsAfter
pub mod PointsSay
pub mod LetIn
pub mod Activity
pub mod Keeping
pub mod Measure
pub mod Counting
pub mod RecordsStay
mod Deciding

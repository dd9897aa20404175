pub mod OrdersDrive
mod Made
mod PointsStand
mod Least
mod Serving
mod Fits
pub mod Account
mod Numbers
mod Alone
mod Turns
mod Releases
pub mod EndsWell
pub mod Completes
pub mod SharesTell
mod Tallies
mod EndingsTell
mod Pigeons
pub mod Amounts
mod Lists
pub mod SharesMerge
pub mod Rooms
mod HeldLast
mod Counted
pub mod Reported
pub mod Scheduled
mod NextMoves
pub mod OneRun
pub mod OneReport
pub mod CompleteRuns
mod NoneUp
pub mod OneText
pub mod FairTurns
mod Tuples

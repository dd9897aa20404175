pub mod PlanLemmas
pub mod BenchLemmas
pub mod ApartLemmas
pub mod GatheringLemmas
pub mod TilingLemmas
pub mod JournalLemmas
pub mod GivingLemmas

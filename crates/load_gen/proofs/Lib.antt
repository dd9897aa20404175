mod DrawsLemmas
mod FoundLemmas
mod LoadsLemmas
mod ScriptLemmas
mod TablesLemmas

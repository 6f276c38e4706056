mod LineFaultLemmas
mod NumberFaultLemmas
mod PassedLemmas
mod WordListLemmas

pub mod EntryLemmas
mod SettledLemmas
pub mod TextLemmas
pub mod RecoveredLemmas
pub mod CarryLemmas
pub mod CommandLeftLemmas
pub mod PutLemmas
mod UntakenLemmas
pub mod OneRecoveryLemmas
pub mod OneThreadLemmas
mod RebuiltLemmas
mod LineLemmas
mod CrashLemmas
pub mod OutcomeLemmas
pub mod ConservativeLemmas
pub mod CountTextLemmas
pub mod CountedLemmas

pub mod MixedStepLemmas
pub mod WorkLemmas
pub mod RecoveryLemmas
pub mod LawLemmas

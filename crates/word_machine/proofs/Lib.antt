mod Examples
mod LoadingLemmas
mod RegisterLemmas
mod StepLemmas

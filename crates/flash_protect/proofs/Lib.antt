mod LockingLemmas
mod StoringLemmas
mod SettingLemmas

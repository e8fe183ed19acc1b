pub mod LockLaws

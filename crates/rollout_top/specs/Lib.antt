pub mod Rollouts

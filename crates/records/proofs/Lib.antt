pub mod Regroup

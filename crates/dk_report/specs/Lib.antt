pub mod Tables
pub mod Objectives

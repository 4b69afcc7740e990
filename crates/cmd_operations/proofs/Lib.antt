mod Names
mod Naming

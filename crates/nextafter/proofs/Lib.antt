pub mod NextPatterns

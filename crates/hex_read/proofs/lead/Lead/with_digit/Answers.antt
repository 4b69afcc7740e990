-- A digit is kept while the word has room, and dropped after that (Scans). Assumes nothing.
use Rattle.std.proofs.Common.{refl, arith}
use Rattle.hex_read.proofs.Scans.{digit_kept, digit_dropped}
use Rattle.hex_read.proofs.lead.Lead.with_digit.Goals as goal

pub returns-then-self-lt72057594037927936-clause-held : goal.returns-then-self-lt72057594037927936-clause-held
returns-then-self-lt72057594037927936-clause-held c v h = digit_kept _ _ h (omega arith) (omega arith) refl refl refl

pub returns-clause-held : goal.returns-clause-held
returns-clause-held c v h = digit_dropped _ _ h (omega arith) (omega arith) refl refl refl

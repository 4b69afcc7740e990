-- The word holds the significand (Splits). Assumes nothing.
use native.Mathlib.Nat.{mod-eq_of_lt}
use Rattle.sqrt_number.proofs.Splits.{word_room}
use Rattle.sqrt_number.proofs.split.Split.word.Goals as goal

pub returns : goal.returns
returns c = mod-eq_of_lt (word_room c.args.frac c.args.self.sig c.args.self.up c.requires)

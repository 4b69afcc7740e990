-- Infinity and the sign bit of a format that fits in a word. Assumes nothing.
use Rattle.std.proofs.Common.{ℕ, ◌+◌, ◌^◌, ◌<◌, arith, pow_mono}
use Rattle.ieee.specs.Format.{inf}
use Rattle.ieee.proofs.Rule.{inf_pos}
use Rattle.fmt_fields.specs.Width.{format, Fits}

module _ {p e : ℕ} (w : Fits p e) where
  pub infinity_some : 0 < inf (format p e)
  infinity_some = inf_pos (format p e) w.fair

  pub top_room : 2 ^ (p + e) < 2 ^ 64
  top_room = omega (arith, pow_mono {i = p + e} {j = 63} w.word)

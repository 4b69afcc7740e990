-- The flags of a value by the way, its lower neighbour m and its location l, with h where it is high and b where it is beyond the next. Assumes nothing.
use Rattle.std.specs.Prelude.{ℕ, suc, Bool, not, ◌&&◌, ◌||◌, leb, ltb, eqb}
use Rattle.ieee.specs.Format.{Format}
use Rattle.ieee.specs.Round.{Way, even, away, shorter, longer}
use Rattle.ieee.specs.Flags.{Flags, judged, largest, least_normal}

-- from the largest finite number up: what the value is rounded to would exceed it
abbrev pub exceeds : Way → ℕ → Bool → Bool
exceeds even l b = leb 2 l
exceeds away l b = leb 2 l
exceeds shorter l b = b
exceeds longer l b = leb 1 l

-- from the largest subnormal number up: what the value is rounded to would be normal
abbrev pub rises : Way → ℕ → Bool → Bool → Bool
rises even l h b = h
rises away l h b = h
rises shorter l h b = b
rises longer l h b = leb 3 l

abbrev pub over_by : Format → Way → ℕ → ℕ → Bool → Bool
over_by f w m l b = eqb m (largest f) && exceeds w l b

abbrev pub tiny_by : Format → Way → ℕ → ℕ → Bool → Bool → Bool
tiny_by f w m l h b = ltb (suc m) (least_normal f) || (eqb (suc m) (least_normal f) && not (rises w l h b))

abbrev pub flags_by : Format → Way → ℕ → ℕ → Bool → Bool → Flags
flags_by f w m l h b = judged (over_by f w m l b) (tiny_by f w m l h b) (leb 1 l)

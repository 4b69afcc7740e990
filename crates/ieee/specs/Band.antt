-- A tolerance band: an exact value, rounded toward negative and toward positive. Assumes nothing.
use Rattle.std.specs.Prelude.{ℕ, ◌<◌, ◌≡◌, ◌↔◌, true, false, ◌≤ℤ◌}
use Rattle.ieee.specs.Format.{Format, inf}
use Rattle.ieee.specs.Pattern.{Pattern, minus, magnitude, value}
use Rattle.ieee.specs.Exact.{Value}
use Rattle.ieee.specs.Rule.{NotAbove, NotBelow}
use Rattle.ieee.specs.Flags.{Flags}

-- the ends lo and hi of an exact value v, with their flags F and G
pub record Band (f : Format) (v : Value) (lo hi : ℕ) (F G : Flags) : Type 0 where
  -- v is not below lo, or lo is minus infinity; v is not above hi, or hi is infinity
  pub above_low : magnitude f lo < inf f → NotBelow v (value f lo)
  pub low_infinity : magnitude f lo ≡ inf f → minus f lo ≡ true
  pub below_high : magnitude f hi < inf f → NotAbove v (value f hi)
  pub high_infinity : magnitude f hi ≡ inf f → minus f hi ≡ false
  -- no band of numbers is tighter: what v is not below, lo is not below, and what v is not above, hi is not above
  pub tight_low : (q : ℕ) → Pattern f q → magnitude f q < inf f → NotBelow v (value f q) → (magnitude f lo < inf f) × (value f q ≤ℤ value f lo)
  pub tight_high : (q : ℕ) → Pattern f q → magnitude f q < inf f → NotAbove v (value f q) → (magnitude f hi < inf f) × (value f hi ≤ℤ value f q)
  -- the ends are one finite number exactly when inexact is not raised, at either end
  pub one : ((magnitude f lo < inf f) × (magnitude f hi < inf f) × (value f lo ≡ value f hi)) ↔ (F.inexact ≡ false)
  pub alike : F.inexact ≡ G.inexact

-- What locating a value finds. Assumes nothing.
use Rattle.std.specs.Prelude.{◌≡◌}
use Rattle.ieee.specs.Format.{Format}
use Rattle.ieee.specs.Exact.{Exact}
use Rattle.round_laws.specs.Location.{below, location, high, beyond, inside_at}
use Rattle.round_locate.specs.declared.locate.Located.{Located}

-- r says where x lies in f: each part is the definition's
abbrev pub Locates : Format → Exact → Located → Type 0
Locates f x r = ((r.below ≡ below f x) × (r.location ≡ location f x) × (r.high ≡ high f x) × (r.beyond ≡ beyond f x)) × (r.inside ≡ inside_at f r.below)

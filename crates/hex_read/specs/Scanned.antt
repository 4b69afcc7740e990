-- What a scan of hexadecimal digits holds: the leading ones in a word, and a sticky mark for the others. Assumes nothing.
use Rattle.std.specs.Prelude.{ℕ, ◌+◌, ◌*◌, ◌^◌, ◌≤◌, ◌<◌, ◌≡◌, true, false, List, drop}
use Rattle.ieee_numeral_laws.specs.Reading.{run}
use Rattle.hex_read.specs.declared.lead.Lead.{Lead}
use Rattle.hex_read.specs.declared.scan.Scan.{Scan}

-- v is the number in the word, followed by digits that spell `rest`; the mark says whether that is not zero. None is dropped before the word is full
pub record Holds (v : ℕ) (c : Lead) : Type 0 where
  pub rest : ℕ
  pub whole : v ≡ c.sig * 16 ^ c.extra + rest
  pub below : rest < 16 ^ c.extra
  pub clean : c.sticky ≡ false → rest ≡ 0
  pub loose : c.sticky ≡ true → 0 < rest
  pub full : 0 < c.extra → 2 ^ 56 ≤ c.sig

-- after n digits that spell v, the digits at the front of s end before an offset; all together spell the number that is held
pub record Scanned (v n : ℕ) (s : List ℕ) (r : Scan) : Type 0 where
  pub spelt : ℕ
  pub holds : Holds spelt r.lead
  pub runs : run 16 v n s ≡ record { spelt = spelt; count = n + r.end; rest = drop r.end s }

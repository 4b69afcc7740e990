-- The old field is part of x, and with the new one it is a pattern still (scalbn_laws: Scales). Assumes nothing.
use Prim.Native.Nat.{ℕ, ◌+◌, ◌-◌, ◌*◌, ◌^◌, ◌<◌}
use mathlib.Core.Path.{◌≡◌, ap, ap₂}
use native.Mathlib.Omega.{arith}
use lib.Pow.{pow_mono}
use Rattle.ieee.specs.Format.{Format}
use Rattle.ieee.specs.Pattern.{Pattern, field}
use Rattle.fmt_fields.specs.Layout.{format_of}
use Rattle.fmt_fields.specs.declared.layout.Format as code
use Rattle.scalbn_laws.proofs.Scales.{moved_pattern}
use Rattle.scalbn.proofs.moves.with_field.Goals as goal

module _ (fmt : code.Format) (x : ℕ) (h : Pattern (format_of fmt) x) (to : ℕ) (l : to < 2 ^ fmt.expo) where
  abbrev f : Format
  f = format_of fmt

  pattern : Pattern f (x - field f x * 2 ^ fmt.frac + to * 2 ^ fmt.frac)
  pattern = moved_pattern f x h to l

  room : x - field f x * 2 ^ fmt.frac + to * 2 ^ fmt.frac < 2 ^ 64
  room = omega (arith, pattern, pow_mono {i = fmt.frac + fmt.expo} {j = 63} fmt.fits.word)

  module _ {q u : ℕ} (i : q ≡ field f x) (j : u ≡ 2 ^ fmt.frac) where
    same : x - q * u + to * u ≡ x - field f x * 2 ^ fmt.frac + to * 2 ^ fmt.frac
    same = ap₂ (λ o n. x - o + n) (ap₂ ◌*◌ i j) (ap (λ u. to * u) j)

    new_room : to * u < 2 ^ 64
    new_room = omega (arith, same, room)

pub overflow_mul-result-2 : goal.overflow_mul-result-2
overflow_mul-result-2 c = let a = c.args in record { fits = new_room a.fmt a.x c.requires.0 a.to c.requires.1 c.exponent_field.ensures c.pow-unit.ensures }

pub overflow_add-result : goal.overflow_add-result
overflow_add-result c =
    let a = c.args in
    record { fits = omega (arith, same a.fmt a.x c.requires.0 a.to c.requires.1 c.exponent_field.ensures c.pow-unit.ensures, room a.fmt a.x c.requires.0 a.to c.requires.1) }

pub returns : goal.returns
returns c =
    let a = c.args in
    let e = same a.fmt a.x c.requires.0 a.to c.requires.1 c.exponent_field.ensures c.pow-unit.ensures in
    (e, omega (arith, e, pattern a.fmt a.x c.requires.0 a.to c.requires.1))

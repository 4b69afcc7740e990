-- A pair more of the word, a digit more of the root (Digits). Assumes nothing.
use Rattle.std.proofs.Common.{◌≡◌, ◌+◌, ◌*◌, ◌/◌, ◌≤◌, ◌<◌, ◌^◌, eqb, arith, subst, ◌∙◌}
use lib.Pow.{pow_mono}
use Rattle.sqrt_digits.specs.Floor.{FloorRoot, pairs}
use Rattle.sqrt_digits.proofs.Digits.{next_pair, next_rest, root_small, rem_small, none_left}
use Rattle.sqrt_digits.proofs.floor_root.Goals as goal

module _ (c : goal.In-loop) where
  root_below : c.loop.root < 2 ^ 60
  root_below =
      omega (arith, root_small c.args.m c.loop.counter c.loop.root c.ranges.m.fits c.loop.invariant.1, pow_mono {i = c.loop.counter} {j = 60} (omega (arith, c.requires)))

  rem_below : c.loop.rem ≤ 2 * c.loop.root
  rem_below = rem_small (pairs c.args.m c.loop.counter) c.loop.root c.loop.rem c.loop.invariant.1 c.loop.invariant.2

pub loop-init : goal.loop-init
loop-init c = (omega arith, record { low = omega arith; high = omega arith }, omega arith)

pub overflow_mul-rem : goal.overflow_mul-rem
overflow_mul-rem c = record { fits = omega (arith, rem_below c, root_below c) }

pub overflow_add-rem : goal.overflow_add-rem
overflow_add-rem c = record { fits = omega (arith, rem_below c, root_below c) }

pub next_digit-next-requires : goal.next_digit-next-requires
next_digit-next-requires c = (root_below c, omega (arith, rem_below c))

pub loop-preserved : goal.loop-preserved
loop-preserved c =
    -- the number, with its next pair
    let n : 4 * (c.loop.root * c.loop.root) + (c.loop.rem * 4 + c.loop.rest / 2 ^ 62) ≡ pairs c.args.m (c.loop.counter + 1) =
    omega (arith, next_pair c.args.m c.loop.counter c.loop.rest c.loop.invariant.0, c.loop.invariant.2) in (
      next_rest c.args.m c.loop.counter c.loop.rest c.loop.invariant.0,
      subst (λ k. FloorRoot k c.next_digit-next.result.root) n c.next_digit-next.ensures.0,
      c.next_digit-next.ensures.1 ∙ n,
    )

pub returns : goal.returns
returns c =
    let d : c.loop.counter ≡ c.args.digits = omega arith in
    subst (λ n. FloorRoot (pairs c.args.m n) c.loop.root × (eqb c.loop.rem 0 ≡ eqb (c.loop.root * c.loop.root) (pairs c.args.m n))) d
    (c.loop.invariant.1, none_left (pairs c.args.m c.loop.counter) c.loop.root c.loop.rem c.loop.invariant.1 c.loop.invariant.2)

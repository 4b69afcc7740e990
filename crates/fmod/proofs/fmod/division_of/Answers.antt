-- Where y is normal so is x, since their fields are in order; either way both are unpacked as the definition says (Fmods). Assumes nothing.
use native.Mathlib.Omega.{arith}
use Rattle.fmod.proofs.Fmods.{reduces, exponents_ready, parts_are}
use Rattle.fmod.proofs.fmod.division_of.Goals as goal

-- both normal
pub unpack_normal-requires : goal.unpack_normal-requires
unpack_normal-requires c =
    let a = c.args in
    omega (arith, c.exponent_field.ensures, c.if-exponent_field-gt0.true, (reduces a.fmt.fits a.x a.y c.requires).ordered)

pub as_division-requires : goal.as_division-requires
as_division-requires c =
    let a = c.args in
    exponents_ready a.fmt.fits a.x a.y (reduces a.fmt.fits a.x a.y c.requires) c.unpack_normal.ensures c.unpack_normal-then-exponent_field-gt0.ensures

pub returns-then-exponent_field-gt0 : goal.returns-then-exponent_field-gt0
returns-then-exponent_field-gt0 c =
    let a = c.args in
    parts_are a.fmt.fits a.x a.y (reduces a.fmt.fits a.x a.y c.requires) c.unpack_normal.ensures c.unpack_normal-then-exponent_field-gt0.ensures c.as_division.ensures

-- any two
pub as_division-requires-2 : goal.as_division-requires-2
as_division-requires-2 c = let a = c.args in exponents_ready a.fmt.fits a.x a.y (reduces a.fmt.fits a.x a.y c.requires) c.unpack.ensures c.unpack-2.ensures

pub returns : goal.returns
returns c = let a = c.args in parts_are a.fmt.fits a.x a.y (reduces a.fmt.fits a.x a.y c.requires) c.unpack.ensures c.unpack-2.ensures c.as_division-2.ensures

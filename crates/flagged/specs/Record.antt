-- The record of flags of the code, as that of the definitions. Assumes nothing.
use Rattle.ieee.specs.Flags as ieee
use Rattle.flagged.specs.declared.Flags.{Flags}

abbrev pub record_of : Flags → ieee.Flags
record_of r = record { invalid = r.invalid; division_by_zero = r.division_by_zero; overflow = r.overflow; underflow = r.underflow; inexact = r.inexact }

-- Our definitions and the toolchain's account of IEEE 754 agree. Assumes nothing.
use lib.Ieee.{Format as Theirs}
use Rattle.ieee_agreement_laws.specs.Agrees.{Patterns, Rounding, Operations, Derived, Agrees}
use Rattle.ieee_agreement_laws.proofs.Patterns.{pattern_same, write_nan, write_infinite, write_read}
use Rattle.ieee_agreement_laws.proofs.Orders.{less_same, equal_same}
use Rattle.ieee_agreement_laws.proofs.Rounding.{round_same, round_nearest, answer_same}
use Rattle.ieee_agreement_laws.proofs.Products.{product_rounds}
use Rattle.ieee_agreement_laws.proofs.Operations.{fma_same, mul_same, sum_same, difference_same}
use Rattle.ieee_agreement_laws.proofs.Quotients.{div_same}
use Rattle.ieee_agreement_laws.proofs.Remainders.{rem_same}
use Rattle.ieee_agreement_laws.proofs.Scaling.{scalbn_same}
use Rattle.ieee_agreement_laws.proofs.Wholes.{trunc_same, floor_same, signed_same, unsigned_same}
use Rattle.ieee_agreement_laws.proofs.Remquos.{remquo_same, quotient_same}
use Rattle.ieee_agreement_laws.proofs.Sqrts.{root_same, root_only, root_least, root_most}

patterns : (k : Theirs) → Patterns k
patterns k =
    record {
      reads = pattern_same k;
      nan_written = write_nan k;
      infinity_written = write_infinite k;
      written_back = write_read k;
      less = less_same k;
      equal = equal_same k;
    }

rounding : (k : Theirs) → Rounding k
rounding k = record { rounds = round_same k; nearest = round_nearest k; answers = answer_same k }

operations : (k : Theirs) → Operations k
operations k =
    record {
      product_rounds = product_rounds k;
      fma = fma_same k;
      times = mul_same k;
      plus = sum_same k;
      difference = difference_same k;
      division = div_same k;
      fmod = rem_same k;
      scalbn = scalbn_same k;
    }

derived : (k : Theirs) → Derived k
derived k =
    record {
      trunc = trunc_same k;
      floor = floor_same k;
      signed_cast = signed_same k;
      unsigned_cast = unsigned_same k;
      remquo = remquo_same k;
      quotient = quotient_same k;
      root = root_same k;
      root_only = root_only k;
      root_least = root_least k;
      root_most = root_most k;
    }

pub agrees : (k : Theirs) → Agrees k
agrees k = record { patterns = patterns k; rounding = rounding k; operations = operations k; derived = derived k }

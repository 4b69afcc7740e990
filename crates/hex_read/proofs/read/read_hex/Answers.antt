-- To the nearest even by name. Assumes nothing.
use Rattle.std.proofs.Common.{ap, ◌∙◌}
use Rattle.std.proofs.lemmas.Result.{err_from_is_err_and}
use Rattle.ieee.specs.Round.{ties_to_even}
use Rattle.ieee.specs.Refusal.{done}
use Rattle.ieee_numeral_laws.specs.Read.{read_in, read_of}
use Rattle.hex_read.proofs.Answers.{passed_on}
use Rattle.hex_read.proofs.read.read_hex.Goals as goal

pub returns-in_err-read_in : goal.returns-in_err-read_in
unfolding read_of
returns-in_err-read_in g c =
    let p = err_from_is_err_and c.from_residual.result c.from_residual.ensures.1 in
    passed_on g.W.Width.pattern p.1 p.2 c.in_err-read_in.ensures.value (ap (λ f. read_in f ties_to_even c.args.text.now) c.format.ensures)

pub returns : goal.returns
unfolding read_of
returns g c = ap done c.narrow.ensures ∙ c.in_ok-read_in.ensures.value ∙ ap (λ f. read_in f ties_to_even c.args.text.now) c.format.ensures

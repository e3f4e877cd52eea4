use Rattle.prefixes.proofs.Texts.{length_fits_32}
use Rattle.prefixes.proofs.parse.read_length.Goals as goal

pub returns-in_err-length-clause-read : goal.returns-in_err-length-clause-read
returns-in_err-length-clause-read c n is spelled = let read = c.in_err-length.ensures n (length_fits_32 n is) spelled in cc

use Rattle.std.proofs.Common.{length}
use Rattle.tariff.proofs.figure_limits.+first_bad_end.Given as goal

abbrev pub decreases-first_bad_end : goal.decreases-first_bad_end
decreases-first_bad_end l = length l.brackets.now

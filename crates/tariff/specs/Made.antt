-- What making a tariff table answers.
use Rattle.std.specs.Prelude.{Result}
use Rattle.units.specs.declared.refusal.Refusal.{Refusal}
use Rattle.units.specs.declared.refusal.Reason.TheVariants.{TariffLimit}
use Rattle.limits.specs.Checked.{unless_bad}
use Rattle.tariff.specs.declared.figures.TariffFigures.{TariffFigures}
use Rattle.tariff.specs.Limits.{first_bad_figure}

-- these very figures where no limit is broken, and otherwise refusal 1 with the number of the first bad figure
abbrev pub checked : TariffFigures → Result TariffFigures Refusal
checked f = unless_bad TariffLimit f (first_bad_figure f)

-- What tariff table, what management rule and what opening the given figures make: a figure that is not given is 0.
use Rattle.std.specs.Prelude.{ℕ, ◌+◌, ◌*◌, map, ℤ, Some, None, Option, ◌==◌, slice_index_or}
use Rattle.std.specs.List.{range_with_len}
use Rattle.units.specs.declared.amounts.PointPrice.{PointPrice}
use Rattle.units.specs.declared.amounts.VolumePrice.{VolumePrice}
use Rattle.tariff.specs.declared.figures.Bracket.{Bracket}
use Rattle.tariff.specs.declared.figures.Coefficient.{Coefficient}
use Rattle.tariff.specs.declared.figures.Life.{Life}
use Rattle.tariff.specs.declared.figures.TariffFigures.{TariffFigures}
use Rattle.bookfile.specs.declared.opening.OpeningFigures.{OpeningFigures}
use Rattle.bookfile.specs.declared.rule.RuleFigures.{RuleFigures}
use Rattle.bookfile.specs.declared.table.Table.{Table}
use Rattle.bookfile.specs.Numbers.{whole_of, change_of}

-- the figure in a slot
abbrev pub figure : Table → ℕ → ℕ
figure t slot = whole_of (slice_index_or t.slots slot None)

abbrev pub price : Table → ℕ → ℕ → PointPrice
price t from i = record { 0 = figure t (from + i) }

abbrev pub volume_price : Table → ℕ → VolumePrice
volume_price t slot = record { 0 = figure t slot }

abbrev pub coefficient : Table → ℕ → Coefficient
coefficient t i = record { 0 = figure t (59 + i) }

abbrev pub life : Table → ℕ → Life
life t i = record { 0 = figure t (67 + i) }

abbrev pub bracket : Table → ℕ → Bracket
bracket t i = record { end = figure t (75 + 2 * i); reference = volume_price t (75 + 2 * i + 1) }

-- the single figures lie in the slots 0 to 10, in the order of the tariff statement's names
abbrev pub filed : Table → TariffFigures
filed t =
    record {
      days = figure t 0;
      distribution = map (price t 11) (range_with_len 0 24);
      metering = map (price t 35) (range_with_len 0 24);
      commercial = record { 0 = figure t 1 };
      count = t.brackets;
      brackets = map (bracket t) (range_with_len 0 8);
      coefficients = map (coefficient t) (range_with_len 0 8);
      gs = volume_price t 2;
      ug1 = volume_price t 3;
      rate = record { 0 = figure t 4 };
      lives = map (life t) (range_with_len 0 8);
      cou = record { 0 = figure t 5 };
      coa = record { 0 = figure t 6 };
      telcon = record { 0 = figure t 7 };
      avv = record { 0 = figure t 8 };
      ins = record { 0 = figure t 9 };
      rac = record { 0 = figure t 10 };
    }

-- the management rule lies in the slots from 91 on: whether it is area-wide, then its prices
abbrev pub rule_of : Table → RuleFigures
rule_of t = record { wide = (figure t 91 == 1); prices = map (price t 92) (range_with_len 0 9) }

abbrev pub capacity_of : Option ℤ → ℕ
capacity_of None = 1048576
capacity_of (Some z) = whole_of (Some z)

-- the opening lies in the slots 101 and 102, its number and its sum, and the journal's capacity in 103: where it is not given, the most
abbrev pub opening_of : Table → OpeningFigures
opening_of t = record { number = figure t 101; sum = change_of (slice_index_or t.slots 102 None); capacity = capacity_of (slice_index_or t.slots 103 None) }

-- What tariff table the worked year has, what its company registers, what locality and what delivery point it has.
use Rattle.std.specs.Prelude.{ℕ, false, [], ◌∷◌, pos, replicate}
use Rattle.std.proofs.Common.{lit≤}
use Rattle.units.specs.declared.amounts.PointPrice.{PointPrice}
use Rattle.units.specs.declared.amounts.VolumePrice.{VolumePrice}
use Rattle.tariff.specs.declared.figures.Bracket.{Bracket}
use Rattle.tariff.specs.declared.figures.Life.{Life}
use Rattle.tariff.specs.declared.figures.TariffFigures.{TariffFigures}
use Rattle.tariff.specs.declared.supply.Supply.{Supply}
use Rattle.company.specs.declared.figures.TermsFigures.{TermsFigures}
use Rattle.tables.specs.declared.rows.AssetRow.{AssetRow}
use Rattle.tables.specs.declared.rows.LocalityRow.{LocalityRow}
use Rattle.tables.specs.declared.rows.PointRow.{PointRow}

abbrev pub point_price : ℕ → PointPrice
point_price p = record { 0 = p }

abbrev pub volume_price : ℕ → VolumePrice
volume_price p = record { 0 = p }

abbrev pub life : ℕ → Life
life years = record { 0 = years }

abbrev pub bracket : ℕ → ℕ → Bracket
bracket end price = record { end = end; reference = volume_price price }

-- 365 days, the same prices in every area and class, three brackets, every coefficient one
abbrev pub worked_table : TariffFigures
worked_table =
    record {
      days = 365;
      distribution = replicate 24 (point_price 36500000);
      metering = replicate 24 (point_price 18250000);
      commercial = point_price 1825000;
      count = 3;
      brackets = bracket 120 0 ∷ bracket 480 8000000 ∷ bracket 1000000000 5000000 ∷ replicate 5 (bracket 0 0);
      coefficients = replicate 8 (record { 0 = 1000000 });
      gs = volume_price 100000;
      ug1 = volume_price 40000;
      rate = record { 0 = 560 };
      lives = life 0 ∷ life 0 ∷ life 20 ∷ life 0 ∷ life 0 ∷ life 15 ∷ life 0 ∷ life 0 ∷ [];
      cou = point_price 1500000;
      coa = point_price 500000;
      telcon = point_price 3000000;
      avv = point_price 4000000;
      ins = point_price 3000000;
      rac = point_price 2000000;
    }

-- a yearly advance in three instalments, no verification cost, a central cost of 1,000, and 100 points for class
abbrev pub worked_figures : TermsFigures
worked_figures = record { advance = pos 100000; instalments = 3; verification = 0; central = 1000; points = 100; density = 1; year = 1 }

-- area 1, class 1, not domestic
abbrev pub worked_supply : Supply
worked_supply = record { area = 1; class = 1; domestic = false; first = lit≤ tt; eighth = lit≤ tt; least = lit≤ tt; most = lit≤ tt }

abbrev pub asset : ℕ → ℕ → ℕ → ℕ → AssetRow
asset gross net contributions remaining = record { gross = gross; net = net; works = 0; contributions = contributions; remaining = remaining }

-- in regime; 100 points are expected and 40 are smart; a plant in row 3 and meters in row 6
abbrev pub worked_locality : LocalityRow
worked_locality =
    record {
      company = 0;
      state = 1;
      area = 1;
      expected = 100;
      smart = 40;
      rows = asset 0 0 0 0 ∷ asset 0 0 0 0 ∷ asset 1000000 600000 0 0 ∷ asset 0 0 0 0 ∷ asset 0 0 0 0 ∷ asset 300000 100000 30000 10000 ∷ asset 0 0 0 0 ∷ asset 0 0 0 0 ∷ [];
    }

-- a point in the worked locality, of class 1 and not domestic, at a volume and days
abbrev pub worked_point : ℕ → ℕ → PointRow
worked_point volume days = record { locality = 0; class = 1; domestic = 0; volume = volume; days = days }

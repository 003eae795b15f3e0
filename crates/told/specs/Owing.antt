-- Who owes a balance that is due to a company.
use Rattle.std.specs.Prelude.{zero, suc, ℤ, pos, negsuc}
use Rattle.told.specs.declared.owing.Owing.{Owing}
use Rattle.told.specs.declared.owing.Owing.TheVariants.{Nobody, Fund, Company}

-- above 0 the fund owes it to the company, below 0 the company owes the fund
abbrev pub owing_of : ℤ → Owing
owing_of (pos zero) = Nobody
owing_of (pos (suc n)) = Fund (suc n)
owing_of (negsuc n) = Company (suc n)

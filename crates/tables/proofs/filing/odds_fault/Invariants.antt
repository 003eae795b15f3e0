use Rattle.tables.specs.Filings.{Odds}
use Rattle.tables.proofs.filing.odds_fault.Given as goal

abbrev pub ghost-fault_of_rows : goal.ghost-fault_of_rows
ghost-fault_of_rows a = Odds

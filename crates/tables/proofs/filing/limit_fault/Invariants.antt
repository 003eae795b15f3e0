use Rattle.tables.specs.Filings.{Limits}
use Rattle.tables.proofs.filing.limit_fault.Given as goal

abbrev pub ghost-fault_of_rows : goal.ghost-fault_of_rows
ghost-fault_of_rows a = Limits

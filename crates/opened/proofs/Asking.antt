-- A question about a company answers a figure of the company that is asked about.
use Rattle.std.proofs.Common.{◌≡◌, ℕ, List, Bool, true, false, refl}
use Rattle.std.specs.Prelude.{Ok, Err, Result}
use Rattle.units.specs.declared.refusal.Refusal.{Refusal}
use Rattle.units.specs.declared.refusal.Reason.TheVariants.{PastTable}
use Rattle.units.specs.Steps.{when, next}
use Rattle.limits.specs.Checked.{made_of}
use Rattle.tables.specs.declared.rows.LocalityRow.{LocalityRow}
use Rattle.tables.specs.declared.rows.PointRow.{PointRow}
use Rattle.tables.specs.Lengths.{tables_fit}
use Rattle.company.specs.declared.record.Company.{Company}
use Rattle.orders.specs.Registers.{asked_company}
use Rattle.opened.specs.declared.record.Opened.{Opened}
use Rattle.opened.specs.Figures.{asked}

step : {X Y : Type 0} (f : X → Y) (fit : Bool) (r : Result X Refusal) → made_of f (when fit PastTable 0 (next r (λ c. Ok c))) ≡ when fit PastTable 0 (next r (λ c. Ok (f c)))
step f true (Ok x) = refl
step f true (Err e) = refl
step f false r = refl

pub asked_by : {X : Type 0} (o : Opened) (localities : List LocalityRow) (points : List PointRow) (company : ℕ) (f : Company → X) → made_of f (asked o localities points company (λ c. c)) ≡ asked o localities points company f
asked_by o localities points company f = step f (tables_fit localities points) (asked_company o.register.companies company)

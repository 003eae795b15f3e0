-- What opening a book meets, and what it leaves.
use Rattle.std.specs.Prelude.{ℕ, not, List, length, ℤ, is_some, Some, Ok, Err, Result, ◌==◌, nat_le, replicate, unsigned_abs}
use Rattle.units.specs.declared.refusal.Reason.TheVariants.{BookInUse, PastTable, FigureLimit}
use Rattle.units.specs.declared.refusal.Refusal.{Refusal}
use Rattle.tariff.specs.declared.table.Tariff.{Tariff}
use Rattle.tables.specs.declared.rows.LocalityRow.{LocalityRow}
use Rattle.tables.specs.declared.rows.PointRow.{PointRow}
use Rattle.orders.specs.Registers.{empty_register}
use Rattle.tables.specs.Lengths.{tables_fit}
use Rattle.units.specs.Steps.{when, next}
use Rattle.booklaws.specs.States.{BookState, with_opened}

-- whether the book can still be opened: 3 where it is open, then 3 where its journal has an entry
abbrev pub unused : BookState → Result (Unit {0}) Refusal
unused b =
    when (not (is_some b.opened)) BookInUse 0
    (when (length b.entries == 0) BookInUse 0
    (Ok tt))

-- opening a book that is still unused: then 4 for a table too long, 7 for a book number above 65,535 (figure 1) and an opening sum beyond
-- 10^12 cents on either side of 0 (figure 2)
abbrev pub opening : BookState → (number : ℕ) → (sum : ℤ) → List LocalityRow → List PointRow → Result (Unit {0}) Refusal
opening b number sum localities points =
    next (unused b) (λ _.
    when (tables_fit localities points) PastTable 0
    (when (nat_le number 65535) FigureLimit 1
    (when (nat_le (unsigned_abs sum) 1000000000000) FigureLimit 2
    (Ok tt))))

-- a granted opening leaves the tariff table, the number, the sum and sixteen places without a company on record
abbrev pub opened_by : BookState → Tariff → (number : ℕ) → (sum : ℤ) → Result (Unit {0}) Refusal → BookState
opened_by b tariff number sum (Ok done) =
    with_opened b (Some (record { tariff = tariff; sum = sum; register = empty_register number }))
opened_by b tariff number sum (Err refused) = b

-- and every row of a lent table blank
abbrev pub blanked : {R : Type 0} → R → List R → Result (Unit {0}) Refusal → List R
blanked blank rows (Ok done) = replicate (length rows) blank
blanked blank rows (Err refused) = rows

-- What confirming an order pays, and the entry that books it.
use Rattle.std.specs.Prelude.{ℕ, List, [], ◌∷◌, ◌++◌, pos, Ok, Err, Result}
use Rattle.units.specs.declared.amounts.Cents.{Cents}
use Rattle.units.specs.declared.refusal.Refusal.{Refusal}
use Rattle.journal.specs.declared.entry.Entry.{Entry}
use Rattle.journal.specs.declared.entry.Kind.TheVariants.{Advance}
use Rattle.company.specs.declared.record.Company.{Company}
use Rattle.company.specs.Instalments.{instalment}

-- the amount of an instalment of a company
abbrev pub amount_paid : Company × ℕ → Cents
amount_paid d = record { 0 = instalment d.0.terms.figures.advance d.0.terms.figures.instalments d.1 }

-- an advance, with the number of its instalment as place; it has no use for the other fields
abbrev pub advance_entry : (company k : ℕ) → Cents → Entry
advance_entry company k amount =
    record { kind = Advance; company = company; place = k; volume = pos 0; days = pos 0; amount = amount; ug1 = record { 0 = pos 0 }; other = record { 0 = pos 0 } }

-- the entries after a confirming: one advance more where it is granted
abbrev pub entries_paid : List Entry → (company : ℕ) → Result (Company × ℕ) Refusal → List Entry
entries_paid es company (Ok d) = es ++ advance_entry company d.1 (amount_paid d) ∷ []
entries_paid es company (Err refused) = es

-- What is told first of a text, line by line.
use Rattle.std.proofs.Common.{◌≡◌, ◌≢◌, ℕ, ◌+◌, ◌<◌, ◌≤◌, ◌⊎◌, List, [], ◌++◌, length, get_or, set, Some, None, Ok, Err, Option, Result, sym, refl, subst, ◌∙◌, inl, inr, arith}
use Rattle.std.specs.Str.Lines.{IsFirstLine as Row}
use Rattle.std.proofs.lemmas.List.{get_or-set_same, get_or-set_other}
use Rattle.tables.specs.declared.rows.LocalityRow.{LocalityRow}
use Rattle.bookfile.specs.declared.faults.LineFault.{LineFault}
use Rattle.bookfile.specs.declared.file.NumberedCall.{NumberedCall}
use Rattle.bookfile.specs.declared.line.Line.{Line}
use Rattle.bookfile.specs.declared.malformed.Malformed.{Malformed}
use Rattle.bookfile.specs.declared.table.Table.{Table}
use Rattle.bookfile.specs.Faults.{Fault}
use Rattle.bookfile.specs.Files.{FirstTold, Step, line_calls, line_filings}
use Rattle.bookfile.specs.Tables.{empty_table}
use Rattle.bookfile.proofs.SoFar.{SoFar, at_start, first_fault, rows_all, said_more, silent_more}

pub ok_of : {X : Type 0} (r : Result X Malformed) → ((e : Malformed) → r ≡ Err e → ⊥) → (x : X) × (r ≡ Ok x)
ok_of (Ok x) never = (x, refl)
ok_of (Err e) never = absurd (never e refl)

-- so many rows of the text are read: either none of them is at fault, or the first of them that is has been told
abbrev pub ToldTo : (text : List ℕ) (read : ℕ) (rest : List ℕ) (t : Table) (count : ℕ) (first : Option LineFault) → Type 0
ToldTo text read rest t count first =
    ((count ≡ 0) × (first ≡ None) × (fs : List LocalityRow) × (cs : List NumberedCall) × SoFar text read rest t fs cs)
    ⊎ ((f : LineFault) × (1 ≤ count) × (first ≡ Some f) × FirstTold text (Some f))

pub told_start : (text rest : List ℕ) (t : Table) (first : Option LineFault) → rest ≡ text → t ≡ empty_table → first ≡ None → ToldTo text 0 rest t 0 first
told_start text rest t first whole empty none = inl (refl, none, [], [], at_start text rest t [] [] whole empty refl refl)

module _ (text : List ℕ) (read : ℕ) (rest : List ℕ) (t : Table) (count : ℕ) (row next : List ℕ) (item : (0 < length rest) × (length row + length next ≤ length rest) × Row rest row next) where
  -- a row that is not at fault
  pub told_more : (u : Table) (o : Option Line) (first : Option LineFault) → ToldTo text read rest t count first → Step row t u o → ToldTo text (read + 1) next u count first
  told_more u o first (inr told) step = inr told
  told_more u None first (inl (none, nothing, fs, cs, old)) step =
      inl (none, nothing, fs, cs, silent_more old row next item u None (λ line is. absurd (cc)) step)
  told_more u (Some line) first (inl (none, nothing, fs, cs, old)) step =
      inl (none, nothing, fs ++ line_filings line, cs ++ line_calls (length fs) (record { number = read + 1; line = line }), said_more old row next item u (Some line) line _ _ refl step refl refl)

  -- a row at fault
  pub told_fault : (u : Table) (what : Malformed) (found : List (Option LineFault)) → count < length found → ToldTo text read rest t count (get_or found 0 None) → Fault row t what → ToldTo text (read + 1) next u (count + 1) (get_or (set found count (Some (record { line = read + 1; what = what }))) 0 None)
  told_fault u what found room (inl (none, nothing, fs, cs, old)) fault =
      let f : LineFault = record { line = read + 1; what = what } in
      let told : get_or (set found 0 (Some f)) 0 None ≡ Some f = get_or-set_same found 0 (Some f) None (omega arith) in
      rw none (inr (f, omega arith, told, first_fault old row next item what fault))
  told_fault u what found room (inr (f, some, is, told)) fault =
      let apart : 0 ≢ count = λ e. omega arith in
      inr (f, omega arith, get_or-set_other found count 0 _ None apart ∙ is, told)

pub told_all : (text rest : List ℕ) (read : ℕ) (t : Table) (count : ℕ) (first : Option LineFault) → ToldTo text read rest t count first → length rest ≡ 0 → FirstTold text first
told_all text rest read t count first (inr (f, some, is, told)) none = subst (FirstTold text) (sym is) told
told_all text rest read t count first (inl (zero, nothing, fs, cs, old)) none =
    subst (FirstTold text) (sym nothing) (record { rows = old.rows; cut = rows_all text old.rows rest old.cut none; lines = old.lines; say = old.say; table = t; puts = old.puts })

pub told_some : (text rest : List ℕ) (read : ℕ) (t : Table) (count : ℕ) (first : Option LineFault) → ToldTo text read rest t count first → 1 ≤ count → FirstTold text first
told_some text rest read t count first (inr (f, some, is, told)) full = subst (FirstTold text) (sym is) told
told_some text rest read t count first (inl (none, nothing, fs, cs, old)) full = absurd (omega arith)

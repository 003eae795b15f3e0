use Rattle.std.proofs.Common.{◌≡◌, ◌+◌, ◌++◌, length, Bool, true, false, Some, None, Ok, vec_items, refl, sym, ap, subst, ◌∙◌, rules, arith, if◌then◌else◌}
use Rattle.std.proofs.lemmas.Result.{err_from_is_err_and, IfErr-at_err, IfOk-at_ok}
use Rattle.std.specs.Str.Iter.{lines_rest}
use Rattle.bookfile.specs.declared.file.Unread.TheVariants.{Malformed}
use Rattle.bookfile.specs.Faults.{Fault}
use Rattle.bookfile.specs.Files.{Placed, Step, line_calls}
use Rattle.bookfile.proofs.SoFar.{named, first_fault, at_start, at_end, silent_more, said_more}
use Rattle.bookfile.proofs.file.read.Goals as goal

pub loop-i-init : goal.loop-i-init
loop-i-init c =
    let same = c.into_iter-i-iterator.ensures.into_iter_gives in
    let none : c.into_iter-i-iterator.result.count ≡ 0 = ap (λ s. s.count) same ∙ c.enumerate-i-items.ensures.count in
    let whole : lines_rest c.into_iter-i-iterator.result.iter ≡ c.args.text.now = ap (λ s. lines_rest s.iter) same ∙ ap lines_rest c.enumerate-i-items.ensures.source ∙ c.lines.ensures.rest in
    rw none (at_start c.args.text.now (lines_rest c.into_iter-i-iterator.result.iter) c.new-table.result (vec_items c.new-filings.result) (vec_items c.new-calls.result) whole c.new-table.ensures c.new-filings.ensures.items c.new-calls.ensures.items)

pub returns-in_err-speaks : goal.returns-in_err-speaks
returns-in_err-speaks c =
    let p = err_from_is_err_and c.from_residual.result c.from_residual.ensures.1 in
    let item = c.in-Some.ensures.steps in
    let line = c.in-Some.i + 1 in
    let told = named c.read_line.result c.map_err.result c.in_err-speaks.field-0.0 line (λ what u made. search rules) c.map_err.ensures.cases c.in_err-speaks.was in
    let fault = IfErr-at_err (Fault c.in-Some.row.now c.loop-i.table) told.1 c.read_line.ensures.err in
    let placed = first_fault c.loop-i.invariant c.in-Some.row.now (lines_rest c.next.new.self.iter) item.0.0 told.0 fault in
    rw (p.1, p.2, told.2) (subst (λ n. Placed c.args.text.now (Malformed n told.0)) (ap (λ n. n + 1) (sym item.1)) placed)

pub loop-i-preserved : goal.loop-i-preserved
loop-i-preserved c =
    let item = c.in-Some.ensures.steps in
    let was : c.read_line.result ≡ Ok c.in_ok-speaks.speaks = search rules in
    let quiet : c.in_ok-speaks.speaks ≡ false = grind arith in
    let stepped : Bool → Type 0 = λ speaks. Step c.in-Some.row.now c.loop-i.table c.read_line.new.table (if speaks then Some c.read_line.new.said else None) in
    rw item.2
    (silent_more c.loop-i.invariant c.in-Some.row.now (lines_rest c.next.new.self.iter) item.0.0 c.read_line.new.table None (λ line is. absurd (cc)) (subst stepped quiet (IfOk-at_ok stepped was c.read_line.ensures.ok)))

pub loop-i-preserved-in-Continue-branch-2 : goal.loop-i-preserved-in-Continue-branch-2
loop-i-preserved-in-Continue-branch-2 c =
    let item = c.in-Some.ensures.steps in
    let was : c.read_line.result ≡ Ok c.in_ok-speaks.speaks = search rules in
    let loud : c.in_ok-speaks.speaks ≡ true = grind arith in
    let line = c.read_line.new.said in
    let stepped : Bool → Type 0 = λ speaks. Step c.in-Some.row.now c.loop-i.table c.read_line.new.table (if speaks then Some line else None) in
    rw item.2
    (said_more c.loop-i.invariant c.in-Some.row.now (lines_rest c.next.new.self.iter) item.0.0 c.read_line.new.table (Some line) line (vec_items c.list_line.new.filings) (vec_items c.list_line.new.calls) refl (subst stepped loud (IfOk-at_ok stepped was c.read_line.ensures.ok)) c.in_ok-list_line.ensures.filings
    (c.in_ok-list_line.ensures.calls ∙ ap (λ i. vec_items c.loop-i.calls ++ line_calls (length (vec_items c.loop-i.filings)) (record { number = i + 1; line = line })) item.1))

pub returns : goal.returns
returns c =
    at_end c.args.text.now (lines_rest c.loop-i.i-iterator.iter) c.loop-i.i-iterator.count _ c.loop-i.table c.loop-i.invariant c.in-None.ensures.steps.0.0.0 c.filed-tariff.ensures c.rule-rule.ensures c.opening-opening.ensures

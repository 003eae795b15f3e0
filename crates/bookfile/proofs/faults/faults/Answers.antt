use Rattle.std.proofs.Common.{◌≡◌, ◌<◌, Bool, length, Some, None, Option, refl, ap, ◌∙◌, arith, get_or, if◌then◌else◌}
use Rattle.std.proofs.lemmas.List.{length-set}
use Rattle.std.proofs.lemmas.Result.{IfErr-at_err, IfOk-at_ok}
use Rattle.std.specs.Str.Iter.{lines_rest}
use Rattle.bookfile.specs.Faults.{Fault}
use Rattle.bookfile.specs.Files.{Step}
use Rattle.bookfile.specs.declared.line.Line.{Line}
use Rattle.bookfile.proofs.Told.{ok_of, told_start, told_more, told_fault, told_all, told_some}
use Rattle.bookfile.proofs.faults.faults.Goals as goal

pub loop-i-init : goal.loop-i-init
loop-i-init c =
    let same = c.into_iter-i-iterator.ensures.into_iter_gives in
    let none : c.into_iter-i-iterator.result.count ≡ 0 = ap (λ s. s.count) same ∙ c.enumerate-i-items.ensures.count in
    let whole : lines_rest c.into_iter-i-iterator.result.iter ≡ c.args.text.now = ap (λ s. lines_rest s.iter) same ∙ ap lines_rest c.enumerate-i-items.ensures.source ∙ c.lines.ensures.rest in
    rw none (told_start c.args.text.now (lines_rest c.into_iter-i-iterator.result.iter) c.new-table.result None whole c.new-table.ensures refl, refl)

pub returns-then-count-ge-MOST_FAULTS : goal.returns-then-count-ge-MOST_FAULTS
returns-then-count-ge-MOST_FAULTS c =
    let full = c.if-count-ge-MOST_FAULTS.true in
    record { first = told_some c.args.text.now (lines_rest c.loop-i.i-iterator.iter) c.loop-i.i-iterator.count c.loop-i.table c.loop-i.count (get_or c.loop-i.found 0 None) c.loop-i.invariant.0 (omega arith) }

pub loop-i-preserved-in-Err : goal.loop-i-preserved-in-Err
loop-i-preserved-in-Err c =
    let item = c.in-Some.ensures.steps in
    let fault = IfErr-at_err (Fault c.in-Some.row.now c.loop-i.table) c.in-Err.is c.read_line.ensures.err in
    let room : c.loop-i.count < length c.loop-i.found = omega (arith, c.loop-i.invariant.1, c.if-count-ge-MOST_FAULTS.false) in
    let told = told_fault c.args.text.now c.loop-i.i-iterator.count (lines_rest c.loop-i.i-iterator.iter) c.loop-i.table c.loop-i.count c.in-Some.row.now (lines_rest c.next.new.self.iter) item.0.0 c.loop-i.table c.in-Err.what c.loop-i.found room c.loop-i.invariant.0 fault in
    rw (item.2, item.1) (told, length-set c.loop-i.found c.loop-i.count _ ∙ c.loop-i.invariant.1)

pub loop-i-preserved : goal.loop-i-preserved
loop-i-preserved c =
    let item = c.in-Some.ensures.steps in
    let ok = ok_of c.read_line.result c.in_default.not-Err in
    let said : Bool → Option Line = λ speaks. if speaks then Some c.read_line.new.said else None in
    let step = IfOk-at_ok (λ speaks. Step c.in-Some.row.now c.loop-i.table c.read_line.new.table (said speaks)) ok.1 c.read_line.ensures.ok in
    rw item.2
    (told_more c.args.text.now c.loop-i.i-iterator.count (lines_rest c.loop-i.i-iterator.iter) c.loop-i.table c.loop-i.count c.in-Some.row.now (lines_rest c.next.new.self.iter) item.0.0 c.read_line.new.table (said ok.0) (get_or c.loop-i.found 0 None) c.loop-i.invariant.0 step, c.loop-i.invariant.1)

pub returns : goal.returns
returns c =
    record { first = told_all c.args.text.now (lines_rest c.loop-i.i-iterator.iter) c.loop-i.i-iterator.count c.loop-i.table c.loop-i.count (get_or c.loop-i.found 0 None) c.loop-i.invariant.0 c.in-None.ensures.steps.0.0.0 }

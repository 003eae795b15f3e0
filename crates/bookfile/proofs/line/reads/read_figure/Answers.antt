use Rattle.std.proofs.Common.{◌≡◌, ◌≢◌, ◌<◌, ℕ, [], length, subst, map, get_or, Some, None, sym, ◌∙◌, refl, arith, lit<}
use Rattle.std.proofs.lemmas.Option.{MatchOption-at_some}
use Rattle.std.proofs.lemmas.Result.{err_from_is_err_and}
use Rattle.std.proofs.lemmas.Str.Pattern.{split_parts}
use Rattle.std.specs.Str.Parse.{signed_digits_value}
use Rattle.bookfile.specs.declared.malformed.Malformed.TheVariants.{Word, Name, Number}
use Rattle.bookfile.specs.Faults.{field}
use Rattle.bookfile.specs.Grammar.{names_of, Plain}
use Rattle.bookfile.proofs.Figuring.{not_given, name_at, no_name, spells, gives}
use Rattle.bookfile.proofs.line.reads.read_figure.Goals as goal

pub returns-in_err-name-clause-err : goal.returns-in_err-name-clause-err
returns-in_err-name-clause-err c =
    let p = err_from_is_err_and c.from_residual.result c.from_residual.ensures.1 in
    let none : c.split_once.result ≡ None = grind arith in
    let is : c.in_err-name.field-0.0 ≡ Word = grind arith in
    rw (p.1, p.2, is) (split_parts 61 c.args.word.now None (rw none at c.split_once.ensures.cases) (lit< tt))

pub returns-in_err-place-clause-err : goal.returns-in_err-place-clause-err
returns-in_err-place-clause-err c =
    let p = err_from_is_err_and c.from_residual-in_err-place.result c.from_residual-in_err-place.ensures.1 in
    let none : c.place_of.result ≡ None = grind arith in
    let is : c.in_err-place.field-0.0 ≡ Name c.args.statement = grind arith in
    let name = c.in_ok-name.name.now in
    let cut = split_parts 61 c.args.word.now (Some (c.in_ok-name.name, c.in_ok-name.text)) (rw c.in_ok-name.ensures.ok_part at c.split_once.ensures.cases) (lit< tt) in
    let unknown : (i : ℕ) → i < length (names_of c.args.statement) → get_or (names_of c.args.statement) i [] ≢ name = subst (λ ns. (i : ℕ) → i < length ns → get_or ns i [] ≢ name) c.names.ensures.names (no_name c.names.result.now name (sym c.place_of.ensures ∙ none)) in
    rw (p.1, p.2, is) (refl, name, c.in_ok-name.text.now, record { cut = cut.0; first = cut.1 }, unknown)

pub returns-then-is_some-clause-err : goal.returns-then-is_some-clause-err
returns-then-is_some-clause-err c =
    let name = c.in_ok-name.name.now in
    let at = name_at c.names.result.now name c.in_ok-place.place (sym c.place_of.ensures ∙ c.in_ok-place.ensures.ok_part) in
    let cut = split_parts 61 c.args.word.now (Some (c.in_ok-name.name, c.in_ok-name.text)) (rw c.in_ok-name.ensures.ok_part at c.split_once.ensures.cases) (lit< tt) in
    (c.in_ok-place.place, c.in_ok-name.text.now, refl, spells c.args.statement c.args.word.now name c.in_ok-name.text.now (map (λ n. n.now) c.names.result.now) c.in_ok-place.place c.names.ensures.names cut.0 at, sym c.if-is_some.ensures)

pub returns-in_err-n-clause-err : goal.returns-in_err-n-clause-err
returns-in_err-n-clause-err c =
    let p = err_from_is_err_and c.from_residual-in_err-n.result c.from_residual-in_err-n.ensures.1 in
    let none : c.number.result ≡ None = grind arith in
    let is : c.in_err-n.field-0.0 ≡ Number (field c.args.statement c.in_ok-place.place) = grind arith in
    let name = c.in_ok-name.name.now in
    let text = c.in_ok-name.text.now in
    let at = name_at c.names.result.now name c.in_ok-place.place (sym c.place_of.ensures ∙ c.in_ok-place.ensures.ok_part) in
    let cut = split_parts 61 c.args.word.now (Some (c.in_ok-name.name, c.in_ok-name.text)) (rw c.in_ok-name.ensures.ok_part at c.split_once.ensures.cases) (lit< tt) in
    let free = not_given (get_or c.args.given.now c.in_ok-place.place None) c.if-is_some.ensures in
    let no : Plain text → ⊥ = rw none at c.number.ensures in
    rw (p.1, p.2, is) (c.in_ok-place.place, text, refl, spells c.args.statement c.args.word.now name text (map (λ n. n.now) c.names.result.now) c.in_ok-place.place c.names.ensures.names cut.0 at, free, no)

pub returns-clause-ok : goal.returns-clause-ok
returns-clause-ok c =
    let name = c.in_ok-name.name.now in
    let text = c.in_ok-name.text.now in
    let i = c.in_ok-place.place in
    let at = name_at c.names.result.now name i (sym c.place_of.ensures ∙ c.in_ok-place.ensures.ok_part) in
    let cut = split_parts 61 c.args.word.now (Some (c.in_ok-name.name, c.in_ok-name.text)) (rw c.in_ok-name.ensures.ok_part at c.split_once.ensures.cases) (lit< tt) in
    let plain = MatchOption-at_some (Plain text → ⊥) (λ z. Plain text × (z ≡ signed_digits_value 10 text)) c.in_ok-n.n c.in_ok-n.ensures.ok_part c.number.ensures in (
      gives c.args.statement c.args.word.now name text (map (λ n. n.now) c.names.result.now) i c.in_ok-n.n c.names.ensures.names cut.0 at plain,
      not_given (get_or c.args.given.now i None) c.if-is_some.ensures,
    )

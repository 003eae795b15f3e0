use Rattle.std.proofs.Common.{◌≡◌, ℕ, ◌+◌, ◌<◌, length, Some, None, IfSome, Option, sym, ap, subst, ◌∙◌, arith}
use Rattle.std.specs.Option.{option_map}
use Rattle.limits.proofs.Firsts.{beyond_at}
use Rattle.limits.proofs.first_beyond.Goals as goal

pub returns-in_err-place : goal.returns-in_err-place
returns-in_err-place g c =
    λ h.
    let first = beyond_at g.F.Limited.fits c.args.first c.args.list.now in
    let place : c.first_outside.result ≡ None = search in
    let answer : c.from_residual.result ≡ None = search in
    answer ∙ sym (first ∙ ap (option_map (λ i. c.args.first + i)) (sym c.first_outside.ensures.place ∙ place))

pub returns : goal.returns
returns g c =
    λ h.
    let first = beyond_at g.F.Limited.fits c.args.first c.args.list.now in
    let place : c.first_outside.result ≡ Some c.in_ok-place.place = search in
    let within : c.in_ok-place.place < length c.args.list.now = subst (λ (o : Option ℕ). IfSome o (λ i. i < length c.args.list.now)) place c.first_outside.ensures.within in
    let sum : c.saturating_add.result ≡ c.args.first + c.in_ok-place.place = omega arith in
    ap (λ (n : ℕ). Some n) sum ∙ sym (first ∙ ap (option_map (λ i. c.args.first + i)) (sym c.first_outside.ensures.place ∙ place))

use Rattle.std.proofs.Common.{◌≡◌, ℕ, [], ◌∷◌, Option, sym, ap, ◌∙◌}
use Rattle.limits.specs.First.{first_of}
use Rattle.tariff.specs.declared.figures.TariffFigures.{TariffFigures}
use Rattle.tariff.specs.Limits.{fixed_tests, variable_tests, cost_tests, first_bad_figure}
use Rattle.tariff.proofs.Firsts.{many_brackets}
use Rattle.tariff.proofs.Lawful.{decides}
use Rattle.tariff.proofs.figure_limits.first_bad_figure.Goals as goal

pub returns-in_default : goal.returns-in_default
returns-in_default c =
    let f = c.args.f.now in
    let e = c.first_bad_fixed-fixed.ensures ∙ sym (many_brackets f c.in_default.ensures) in
    let d = decides f c.first_bad_fixed-fixed.result e in
    record { value = e; kept = d.0; only = d.1 }

pub returns : goal.returns
unfolding first_bad_figure
returns c =
    let f = c.args.f.now in
    let variable = c.first_bad_variable.ensures ∙ ap (λ (g : TariffFigures). first_of (variable_tests g)) c.in-Some.ensures in
    let cost = c.first_bad_cost.ensures ∙ ap (λ (g : TariffFigures). first_of (cost_tests g)) c.in-Some.ensures in
    let e : c.first_of.result ≡ first_bad_figure f =
    c.first_of.ensures
    ∙ ap (λ (o : Option ℕ). first_of (o ∷ c.first_bad_variable.result ∷ c.first_bad_cost.result ∷ [])) c.first_bad_fixed-fixed.ensures
    ∙ ap (λ (o : Option ℕ). first_of (first_of (fixed_tests f) ∷ o ∷ c.first_bad_cost.result ∷ [])) variable
    ∙ ap (λ (o : Option ℕ). first_of (first_of (fixed_tests f) ∷ first_of (variable_tests f) ∷ o ∷ [])) cost in
    let d = decides f c.first_of.result e in
    record { value = e; kept = d.0; only = d.1 }

-- Figures with no bad one keep every limit.
use Rattle.std.proofs.Common.{◌≡◌, ℕ, ◌≤◌, false, leb, [], ◌∷◌, is_some}
use Rattle.std.proofs.lemmas.Bool.{and_parts, leb-true}
use Rattle.limits.specs.First.{among, unless, first_of}
use Rattle.limits.proofs.Firsts.{none_at, fits_of}
use Rattle.company.specs.declared.figures.TermsFigures.{TermsFigures}
use Rattle.company.specs.Terms.{payment_tests, trait_tests, first_bad_term, Within}

one_of : (most n k : ℕ) → is_some (unless (among most n) k) ≡ false → (1 ≤ n) × (n ≤ most)
one_of most n k h =
    let parts = and_parts (leb 1 n) (leb n most) (fits_of (among most n) k h) in (leb-true _ _ parts.0, leb-true _ _ parts.1)

up_to : (most n k : ℕ) → is_some (unless (leb n most) k) ≡ false → n ≤ most
up_to most n k h = leb-true n most (fits_of (leb n most) k h)

pub within : (f : TermsFigures) → is_some (first_bad_term f) ≡ false → Within f
unfolding first_bad_term payment_tests trait_tests
within f h =
    let both = none_at (first_of (payment_tests f) ∷ first_of (trait_tests f) ∷ []) h in
    let payment = none_at (payment_tests f) (both 0) in
    let trait = none_at (trait_tests f) (both 1) in
    record {
      advance = up_to _ _ 1 (payment 0);
      instalments = one_of 12 f.instalments 2 (payment 1);
      verification = up_to _ _ 3 (payment 2);
      central = up_to _ _ 4 (payment 3);
      points = up_to _ _ 5 (trait 0);
      density = one_of 3 f.density 6 (trait 1);
      year = one_of 12 f.year 7 (trait 2);
    }

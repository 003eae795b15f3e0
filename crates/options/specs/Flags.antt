-- What a flag of the command line says.
use Rattle.std.specs.Prelude.{◌≡◌, ℕ, List, Bool, true, false, Some, None, codes}
use Rattle.clap.specs.declared.parser.matches.Found.{Found}
use Rattle.clap.specs.Words.{one_text}

-- a flag is up where the words gave it, and down where they did not
pub record IsFlag (found : Found) (name : List ℕ) (is_up : Bool) : Type 0 where
  pub absent : one_text found name ≡ None → is_up ≡ false
  pub given : one_text found name ≡ Some (codes "true") → is_up ≡ true
  pub down : one_text found name ≡ Some (codes "false") → is_up ≡ false

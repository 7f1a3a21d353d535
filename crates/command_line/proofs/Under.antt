-- What a getter of clap gives, in terms of the rows.
use Rattle.std.proofs.Common.{◌≡◌, ◌∙◌, ℕ, List, [], Option, ap}
use Rattle.std.specs.Prelude.{unwrap_or}
use Rattle.std.specs.Option.{option_map}
use Rattle.clap.specs.Matches.{matched_of, raw_values}
use Rattle.clap.specs.Walk.{rows_of}
use Rattle.clap.specs.declared.parser.matches.Found.{Found}
use Rattle.clap.proofs.WalkLemmas.{raw_values-rows}
use Rattle.command_line.specs.Matches.{values_under}

pub under : (f : Found) (name : List ℕ) (texts : Option (List (List ℕ))) → texts ≡ option_map raw_values (matched_of f name) → unwrap_or texts [] ≡ values_under name (rows_of f)
under f name texts e = ap (λ (o : Option (List (List ℕ))). unwrap_or o []) (e ∙ raw_values-rows f name)

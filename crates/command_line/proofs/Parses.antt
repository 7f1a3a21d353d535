-- What clap answers, in terms of the pieces.
use Rattle.std.proofs.Common.{◌≡◌, ◌∙◌, true, List, [], map, None, sym, ap, subst}
use Rattle.std.specs.Prelude.{String, string_bytes}
use Rattle.clap.specs.declared.error.Error.{Error}
use Rattle.clap.specs.declared.error.kind.ErrorKind.TheVariants as kind
use Rattle.clap.specs.declared.parser.matches.ArgMatches.{ArgMatches}
use Rattle.clap.specs.Faults.{fault_of, is_simple_and_free}
use Rattle.clap.specs.Kinds.{HasKind}
use Rattle.clap.specs.Matches.{found_of}
use Rattle.clap.specs.Simple.{App, HasMatchesOf, is_simple, matches_of}
use Rattle.clap.specs.Values.{kind_of}
use Rattle.clap.specs.Walk.{rows_of}
use Rattle.command_line.specs.declared.setting.Setting.{Setting}
use Rattle.command_line.specs.Matches.{ShowsRead, app_of_settings}
use Rattle.command_line.specs.Pieces.{pieces_of}
use Rattle.command_line.proofs.Rules.{exact_app, is_simple_app}
use Rattle.command_line.proofs.Walks.{agree, all_texts, found, refused}

-- what is found where a parse succeeds
pub parse_finds : {Z : Type 0} (ss : List Setting) (ws : List (String Z)) (a : App) (m : ArgMatches) → a ≡ app_of_settings ss
    → (is_simple_and_free a ≡ true → fault_of a (map string_bytes ws) ≡ []) → HasMatchesOf a (map string_bytes ws) m
    → ShowsRead (rows_of (found_of m)) (pieces_of ss (map string_bytes ws) None)
parse_finds ss ws a m same faults rows =
    let words = map string_bytes ws in
    let exact : is_simple_and_free a ≡ true = subst (λ (b : App). is_simple_and_free b ≡ true) (sym same) (exact_app ss) in
    let simple : is_simple a ≡ true = subst (λ (b : App). is_simple b ≡ true) (sym same) (is_simple_app ss) in
    found (fault_of (app_of_settings ss) words) (matches_of (app_of_settings ss) words) (rows_of (found_of m)) (pieces_of ss words None) (agree ss words (all_texts ws))
    (ap (λ (b : App). fault_of b words) (sym same) ∙ faults exact) ((rows simple).0 ∙ ap (λ (b : App). matches_of b words) same)

-- no pieces are read where it fails for another reason than memory
pub parse_fails : {Z : Type 0} (ss : List Setting) (ws : List (String Z)) (a : App) (e : Error) → a ≡ app_of_settings ss
    → (is_simple_and_free a ≡ true → HasKind (fault_of a (map string_bytes ws)) e) → (kind_of e ≡ kind.OutOfMemory → ⊥) → pieces_of ss (map string_bytes ws) None ≡ None
parse_fails ss ws a e same faults other =
    let words = map string_bytes ws in
    let exact : is_simple_and_free a ≡ true = subst (λ (b : App). is_simple_and_free b ≡ true) (sym same) (exact_app ss) in
    refused (fault_of (app_of_settings ss) words) (matches_of (app_of_settings ss) words) e (pieces_of ss words None) (agree ss words (all_texts ws))
    (subst (λ (b : App). HasKind (fault_of b words) e) same (faults exact)) other

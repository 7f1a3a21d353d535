-- Inputs: a command of several harts has one for each of one to eight.
use Rattle.std.proofs.Common.{◌≡◌, ◌≤◌, arith, refl, subst, ℕ, Bool, true, false, List, [], ◌∷◌, length, Some, None}
use Rattle.std.specs.Prelude.{◌&&◌, nat_le, if◌then◌else◌}
use Rattle.std.proofs.lemmas.Bool.Decides.{nat_tests}
use Rattle.command_line.specs.declared.command.Verb.{Verb}
use Rattle.command_line.specs.declared.command.Verb.TheVariants.{Compile, Run, Exec, Harts, Mean, Check, Dump, Frames, At, Doubts, Pack, Gen}
use Rattle.command_line.specs.Command.{AreHarts, CommandView, FoundView, are_named, operands_for, inputs_for, max_of, std_of, switch_of, scripts_of, found_in, command_from, verb_of, settings_of, operand_count, command_of}
use Rattle.command_line.specs.Address.{places_for, raised_of}
use Rattle.command_line.specs.Pieces.{pieces_of}
use Rattle.command_line.proofs.Turns.{behind, made}

one_each : (names inputs : List (List ℕ)) → inputs_for Harts names ≡ Some inputs → AreHarts Harts inputs
one_each names inputs e = by (nat_le 1 (length names)) refl (nat_le (length names) 8) refl (are_named names) e
  where
    by : (a : Bool) → nat_le 1 (length names) ≡ a → (b : Bool) → nat_le (length names) 8 ≡ b → (c : Bool) → (if a && b && c then Some names else None) ≡ Some inputs → AreHarts Harts inputs
    by true some true few true e =
        let same : names ≡ inputs = cc e in
        let low : 1 ≤ length names = grind (arith, nat_tests, some) in
        let high : length names ≤ 8 = grind (arith, nat_tests, few) in
        subst (λ (ns : List (List ℕ)). (1 ≤ length ns) × (length ns ≤ 8)) same (low, high)
    by true some true few false e = absurd (cc e)
    by true some false few c e = absurd (cc e)
    by false some b few c e = absurd (cc e)

counted : (verb : Verb) (names inputs : List (List ℕ)) → inputs_for verb names ≡ Some inputs → AreHarts verb inputs
counted Harts names inputs e = one_each names inputs e
counted Compile names inputs e = tt
counted Run names inputs e = tt
counted Exec names inputs e = tt
counted Mean names inputs e = tt
counted Check names inputs e = tt
counted Dump names inputs e = tt
counted Frames names inputs e = tt
counted At names inputs e = tt
counted Doubts names inputs e = tt
counted Pack names inputs e = tt
counted Gen names inputs e = tt

abbrev HasHarts : CommandView → Type 0
HasHarts c = AreHarts c.verb c.inputs

from_counted : (verb : Verb) (found : FoundView) (c : CommandView) → command_from verb (operand_count verb) found ≡ Some c → AreHarts c.verb c.inputs
unfolding command_from
from_counted verb found c e =
    behind HasHarts _ (places_for verb found.operands) (λ places read. behind HasHarts _ (raised_of found.raised) (λ raised said.
    behind HasHarts _ (operands_for verb (operand_count verb) found.operands) (λ operands given. behind HasHarts _ (inputs_for verb found.inputs) (λ inputs is. behind HasHarts _ (max_of found.max) (λ max bound.
    behind HasHarts _ (std_of found.std) (λ standard named.
    behind HasHarts _ (switch_of found.trace) (λ trace set. behind HasHarts _ (switch_of found.count) (λ count asked.
    made HasHarts _ (scripts_of found.scripts) (λ scripts. counted verb found.inputs inputs is))))))))) c e

pub harts_are_few : (words : List (List ℕ)) (c : CommandView) → command_of words ≡ Some c → AreHarts c.verb c.inputs
harts_are_few [] c e = absurd (cc e)
harts_are_few (word ∷ words) c e =
    behind HasHarts _ (verb_of word) (λ verb is. behind HasHarts _ (pieces_of (settings_of verb) words None)
    (λ pieces read d h. from_counted verb (found_in pieces) d h)) c e

-- Sizes of sources that are generated: each is at most the greatest, and a command that generates one has a size as its one operand.
use Rattle.std.proofs.Common.{◌≡◌, ◌≤◌, arith, refl, sym, subst, ℕ, Bool, true, false, List, [], ◌∷◌, length, Some, None}
use Rattle.std.specs.Prelude.{◌==◌, ◌&&◌, not, ⊤, if◌then◌else◌}
use Rattle.std.specs.List.{list_all}
use Rattle.std.proofs.lemmas.Bool.Decides.{nat_tests}
use Rattle.command_line.specs.declared.command.Verb.{Verb}
use Rattle.command_line.specs.declared.command.Verb.TheVariants.{Compile, Run, Exec, Harts, Mean, Check, Dump, Frames, At, Doubts, Pack, Gen}
use Rattle.command_line.specs.Command.{CommandView, FoundView, exactly, is_size, source_size, greatest_size, are_named, operands_for, inputs_for, max_of, std_of, switch_of, scripts_of, found_in, command_from, verb_of, settings_of, operand_count, command_of}
use Rattle.plain_text.specs.Decimal.{number_of, not_zero}
use Rattle.command_line.specs.Address.{places_for, raised_of}
use Rattle.command_line.specs.Pieces.{pieces_of}
use Rattle.command_line.proofs.Turns.{behind, made, number_bounded}

pub size_bounded : (text : List ℕ) (n : ℕ) → source_size text ≡ Some n → n ≤ greatest_size
size_bounded text n e = behind (λ k. k ≤ greatest_size) not_zero (number_of greatest_size text) (λ m is k h. other m (number_bounded greatest_size text m is) (m == 0) k h) n e
  where
    other : (m : ℕ) → m ≤ greatest_size → (test : Bool) → (k : ℕ) → (if test then None else Some m) ≡ Some k → k ≤ greatest_size
    other m bound true k h = absurd (cc h)
    other m bound false k h = let same : m ≡ k = cc h in subst (λ x. x ≤ greatest_size) same bound

-- what the operands of a verb are, where that is said
abbrev pub AreSized : Verb → List (List ℕ) → Type 0
AreSized Gen operands = (text : List ℕ) × (operands ≡ text ∷ []) × (is_size text ≡ true)
AreSized verb operands = ⊤

one_size : (names operands : List (List ℕ)) → operands_for Gen 1 names ≡ Some operands → AreSized Gen operands
one_size [] operands e = absurd (cc e)
one_size (text ∷ other ∷ names) operands e = go (list_all is_size (text ∷ other ∷ names)) e
  where
    go : (b : Bool) → (if b then exactly 1 (text ∷ other ∷ names) else None) ≡ Some operands → AreSized Gen operands
    go true e = let no : (length (text ∷ other ∷ names) == 1) ≡ false = grind (arith, nat_tests) in absurd (none (length (text ∷ other ∷ names) == 1) no e)
      where
        none : (b : Bool) → b ≡ false → (if b && are_named (text ∷ other ∷ names) then Some (text ∷ other ∷ names) else None) ≡ Some operands → ⊥
        none true is e = cc
        none false is e = cc
    go false e = absurd (cc e)
one_size (text ∷ []) operands e = go (is_size text) refl e
  where
    go : (b : Bool) → is_size text ≡ b → (if b && true then exactly 1 (text ∷ []) else None) ≡ Some operands → AreSized Gen operands
    go true is e = named (not (length text == 0)) e
      where
        named : (b : Bool) → (if b && true then Some (text ∷ []) else None) ≡ Some operands → AreSized Gen operands
        named true e = (text, sym (cc e), is)
        named false e = absurd (cc e)
    go false is e = absurd (cc e)

sized : (verb : Verb) (names operands : List (List ℕ)) → operands_for verb (operand_count verb) names ≡ Some operands → AreSized verb operands
sized Gen names operands e = one_size names operands e
sized Compile names operands e = tt
sized Run names operands e = tt
sized Exec names operands e = tt
sized Harts names operands e = tt
sized Mean names operands e = tt
sized Check names operands e = tt
sized Dump names operands e = tt
sized Frames names operands e = tt
sized At names operands e = tt
sized Doubts names operands e = tt
sized Pack names operands e = tt

abbrev IsSized : CommandView → Type 0
IsSized c = AreSized c.verb c.operands

from_sized : (verb : Verb) (found : FoundView) (c : CommandView) → command_from verb (operand_count verb) found ≡ Some c → AreSized c.verb c.operands
unfolding command_from
from_sized verb found c e =
    behind IsSized _ (places_for verb found.operands) (λ places read. behind IsSized _ (raised_of found.raised) (λ raised said.
    behind IsSized _ (operands_for verb (operand_count verb) found.operands) (λ operands given. behind IsSized _ (inputs_for verb found.inputs) (λ inputs is. behind IsSized _ (max_of found.max) (λ max is.
    behind IsSized _ (std_of found.std) (λ standard named.
    behind IsSized _ (switch_of found.trace) (λ trace is. behind IsSized _ (switch_of found.count) (λ count is.
    made IsSized _ (scripts_of found.scripts) (λ scripts. sized verb found.operands operands given))))))))) c e

pub operands_are_sized : (words : List (List ℕ)) (c : CommandView) → command_of words ≡ Some c → AreSized c.verb c.operands
operands_are_sized [] c e = absurd (cc e)
operands_are_sized (word ∷ words) c e =
    behind IsSized _ (verb_of word) (λ verb is. behind IsSized _ (pieces_of (settings_of verb) words None)
    (λ pieces read d h. from_sized verb (found_in pieces) d h)) c e

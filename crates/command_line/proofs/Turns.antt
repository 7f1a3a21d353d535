-- How many turns or steps a command asks for: at least 1, and at most 2^40.
use Rattle.std.proofs.Common.{◌≡◌, refl, subst, arith, ℕ, ◌≤◌, ◌^◌, Bool, true, false, List, [], ◌∷◌, Option, Some, None}
use Rattle.std.specs.Prelude.{◌==◌, nat_le, if◌then◌else◌}
use Rattle.std.specs.Option.{option_and_then, option_map}
use Rattle.std.specs.Str.Parse.{digits_value}
use Rattle.std.proofs.lemmas.Bool.Decides.{nat_tests}
use Rattle.command_line.specs.declared.command.Verb.{Verb}
use Rattle.command_line.specs.Command.{CommandView, FoundView, operands_for, inputs_for, max_of, std_of, switch_of, scripts_of, found_in, command_from, verb_of, settings_of, operand_count, command_of}
use Rattle.plain_text.specs.Decimal.{is_decimal, up_to, number_of, not_zero, count_up_to}
use Rattle.command_line.specs.Address.{places_for, raised_of}
use Rattle.command_line.specs.Pieces.{pieces_of}

-- what holds of what each step behind a value gives holds of what comes out
pub behind : {A B : Type 0} (P : B → Type 0) (f : A → Option B) (o : Option A) → ((a : A) → o ≡ Some a → (b : B) → f a ≡ Some b → P b) → (b : B) → option_and_then f o ≡ Some b → P b
behind P f None each b e = absurd (cc e)
behind P f (Some a) each b e = each a refl b e

-- so of one made of a value
pub made : {A B : Type 0} (P : B → Type 0) (f : A → B) (o : Option A) → ((a : A) → P (f a)) → (b : B) → option_map f o ≡ Some b → P b
made P f None each b e = absurd (cc e)
made P f (Some a) each b e = let same : f a ≡ b = cc e in subst P same (each a)

-- ---- numbers

pub number_bounded : (most : ℕ) (text : List ℕ) (n : ℕ) → number_of most text ≡ Some n → n ≤ most
unfolding number_of
number_bounded most text n e = decimal (is_decimal text) e
  where
    small : (test : Bool) → nat_le (digits_value 10 text) most ≡ test → (if test then Some (digits_value 10 text) else None) ≡ Some n → n ≤ most
    small true is h =
        let same : digits_value 10 text ≡ n = cc h in
        let bound : digits_value 10 text ≤ most = grind (arith, nat_tests, is) in
        omega (arith, same, bound)
    small false is h = absurd (cc h)

    decimal : (test : Bool) → (if test then up_to most text else None) ≡ Some n → n ≤ most
    decimal true h = small (nat_le (digits_value 10 text) most) refl h
    decimal false h = absurd (cc h)

-- a number of turns or steps that a command may ask for
pub record AreTurns (n : ℕ) : Type 0 where
  pub some : 1 ≤ n
  pub most : n ≤ 2 ^ 40

count_bounded : (text : List ℕ) (n : ℕ) → count_up_to 1099511627776 text ≡ Some n → AreTurns n
count_bounded text n e = behind AreTurns not_zero (number_of 1099511627776 text) (λ m is k h. other m (number_bounded 1099511627776 text m is) (m == 0) refl k h) n e
  where
    other : (m : ℕ) → m ≤ 1099511627776 → (test : Bool) → (m == 0) ≡ test → (k : ℕ) → (if test then None else Some m) ≡ Some k → AreTurns k
    other m bound true is k h = absurd (cc h)
    other m bound false is k h =
        let same : m ≡ k = cc h in
        let some : 1 ≤ m = grind (arith, nat_tests, is) in
        record { some = omega (arith, same, some); most = omega (arith, same, bound) }

max_bounded : (texts : List (List ℕ)) (n : ℕ) → max_of texts ≡ Some n → AreTurns n
max_bounded [] n e = let same : 10000000 ≡ n = cc e in record { some = omega (arith, same); most = omega (arith, same) }
max_bounded (text ∷ []) n e = count_bounded text n e
max_bounded (text ∷ other ∷ others) n e = absurd (cc e)

-- ---- commands

abbrev Bounded : CommandView → Type 0
Bounded c = AreTurns c.max

from_bounded : (verb : Verb) (most : ℕ) (found : FoundView) (c : CommandView) → command_from verb most found ≡ Some c → AreTurns c.max
unfolding command_from
from_bounded verb most found c e =
    behind Bounded _ (places_for verb found.operands) (λ places read. behind Bounded _ (raised_of found.raised) (λ raised said.
    behind Bounded _ (operands_for verb most found.operands) (λ operands is. behind Bounded _ (inputs_for verb found.inputs) (λ inputs is. behind Bounded _ (max_of found.max) (λ max counted.
    behind Bounded _ (std_of found.std) (λ standard named.
    behind Bounded _ (switch_of found.trace) (λ trace is. behind Bounded _ (switch_of found.count) (λ count is.
    made Bounded _ (scripts_of found.scripts) (λ scripts. max_bounded found.max max counted))))))))) c e

-- A command asks for at least one turn or step, and for at most 2^40.
pub turns_are_bounded : (words : List (List ℕ)) (c : CommandView) → command_of words ≡ Some c → AreTurns c.max
turns_are_bounded [] c e = absurd (cc e)
turns_are_bounded (word ∷ words) c e =
    behind Bounded _ (verb_of word) (λ verb is. behind Bounded _ (pieces_of (settings_of verb) words None)
    (λ pieces read d h. from_bounded verb (operand_count verb) (found_in pieces) d h)) c e

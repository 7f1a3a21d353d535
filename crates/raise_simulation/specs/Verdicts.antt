-- What a function's exception table says in bytes where its linear code says it by places (Itanium C++ ABI, "Exception Handling Tables").
use Rattle.std.specs.Prelude.{ℕ, ℤ, pos, negsuc, Bool, true, false, List, Option}
use Rattle.table_forms.specs.declared.found.Verdict as abi
use Rattle.table_forms.specs.declared.found.Verdict.TheVariants as abi_verdicts
use Rattle.linear_forms.specs.Tables.{Cover, bare, unpadded, padded}
use Rattle.linear_forms.specs.Verdict.{Verdict, target, no_way, clean, nothing_here, pad_verdict, has_cleanup}
use Rattle.linear_forms.specs.Activation.{Code, Activation, look, sense}

-- a verdict with its pad at an address: a clause's filter is above 0, and a specification's below
abbrev pub in_words : ℕ → Verdict → abi.Verdict
in_words pad (target (pos n)) = abi_verdicts.Handler pad (pos n)
in_words pad (target (negsuc n)) = abi_verdicts.Spec pad (negsuc n)
in_words pad no_way = abi_verdicts.Terminate
in_words pad clean = abi_verdicts.Cleanup pad
in_words pad nothing_here = abi_verdicts.Nothing

-- what a cover says, where `at` is the address of an operation and `judge` the verdict of a chain of filters
abbrev pub told_of : (ℕ → ℕ) → Cover → (List ℤ → Verdict) → abi.Verdict
told_of at bare judge = abi_verdicts.Terminate
told_of at unpadded judge = abi_verdicts.Nothing
told_of at (padded p chain) judge = in_words (at p) (judge chain)

-- of an exception with a type, or of a foreign one, by the tables of the function of an open call
abbrev pub judged_by : Code → Activation → Option ℕ → List ℤ → Verdict
judged_by code a t chain = pad_verdict code.rows (sense code a.function) chain t

-- of a forced unwind, which sees cleanups alone
abbrev pub forced_verdict : Bool → Verdict
forced_verdict true = clean
forced_verdict false = nothing_here

abbrev pub forced_by_table : Code → Activation → List ℤ → Verdict
forced_by_table code a chain = forced_verdict (has_cleanup (sense code a.function) chain)

-- what covers the place of an open call
abbrev pub cover_of : Code → Activation → Cover
cover_of code a = look code a.function a.place

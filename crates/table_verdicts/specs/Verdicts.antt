-- Verdicts of linear code as the personality routine gives them, with the address of a pad (Itanium C++ ABI: Exception Handling, "The
-- Personality Routine").
use Rattle.std.specs.Prelude.{ℕ, ℤ, pos, negsuc, List, if◌then◌else◌}
use Rattle.table_forms.specs.declared.found.Verdict.{Verdict}
use Rattle.table_forms.specs.declared.found.Verdict.TheVariants.{Nothing, Cleanup, Handler, Spec, Terminate}
use Rattle.linear_forms.specs.Tables.{Cover, bare, unpadded, padded, Sense}
use Rattle.linear_forms.specs.Verdict as linear
use Rattle.linear_forms.specs.Verdict.{target, no_way, clean, nothing_here, has_cleanup}

-- the verdict of a pad at an address
abbrev pub in_words : ℕ → linear.Verdict → Verdict
in_words pad (target (pos n)) = Handler pad (pos n)
in_words pad (target (negsuc n)) = Spec pad (negsuc n)
in_words pad no_way = Terminate
in_words pad clean = Cleanup pad
in_words pad nothing_here = Nothing

-- what a cover says, where operations stand at addresses and chains are judged so
abbrev pub told_of : (ℕ → ℕ) → Cover → (List ℤ → linear.Verdict) → Verdict
told_of at bare judge = Terminate
told_of at unpadded judge = Nothing
told_of at (padded p chain) judge = in_words (at p) (judge chain)

-- a forced unwind stops at cleanups alone
abbrev pub forced_judge : (ℤ → Sense) → List ℤ → linear.Verdict
forced_judge senses chain = if has_cleanup senses chain then clean else nothing_here

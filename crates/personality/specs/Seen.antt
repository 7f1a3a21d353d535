-- What is thrown, as the definitions see it.
use Rattle.std.specs.Prelude.{ℕ, List, take}
use Rattle.table_forms.specs.Verdict as forms
use Rattle.personality.specs.declared.types.TypeChain.{TypeChain}
use Rattle.personality.specs.declared.thrown.Thrown.{Thrown}
use Rattle.personality.specs.declared.thrown.Thrown.TheVariants.{Native, Foreign, Forced}

-- the records that count
abbrev pub types_of : TypeChain → List ℕ
types_of chain = take chain.length chain.records

abbrev pub thrown_of : Thrown → forms.Thrown
thrown_of (Native chain) = forms.native (types_of chain)
thrown_of Foreign = forms.foreign
thrown_of Forced = forms.forced

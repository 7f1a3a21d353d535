-- Components of a name to which it may refer again, and how it does (Itanium C++ ABI, 5.1.10, "Compression").
use Rattle.std.specs.Prelude.{ℕ, zero, suc, ◌+◌, ◌/◌, ◌%◌, ◌==◌, nat_lt, nat_le, Bool, false, List, [], ◌∷◌, ◌++◌, codes, if◌then◌else◌}
use Rattle.symbol_names.specs.declared.component.Component.{Component}
use Rattle.symbol_names.specs.declared.component.Component.TheVariants.{Object, Constant, Reference, ReferenceToConstant}

abbrev pub is_same : Component → Component → Bool
is_same (Object a) (Object b) = a == b
is_same (Constant a) (Constant b) = a == b
is_same (Reference a) (Reference b) = a == b
is_same (ReferenceToConstant a) (ReferenceToConstant b) = a == b
is_same _ _ = false

-- 0 to 9, then A to Z
abbrev pub digit : ℕ → ℕ
digit n = if nat_lt (n % 36) 10 then 48 + n % 36 else 55 + n % 36

-- to base 36; a name with more than 1,296 components is longer than any symbol's
abbrev pub sequence : ℕ → List ℕ
sequence n = if nat_le 36 n then digit (n / 36) ∷ digit n ∷ [] else digit n ∷ []

-- what refers to the component with a number: S_, S0_, S1_ ..
abbrev pub substitution : ℕ → List ℕ
substitution zero = codes "S_"
substitution (suc n) = codes "S" ++ sequence n ++ codes "_"

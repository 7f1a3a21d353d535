-- Texts by their positions.
use Rattle.std.specs.Prelude.{ℕ, ◌≡◌, true, List, Vec, None, map, take, position, bytes_eq}
use Rattle.std.specs.declared.alloc.Global.{Global}
use Rattle.std.specs.Map.{lookup}
use Rattle.cxx_ast.specs.FunctionRules.{has_text}

-- texts in memory
abbrev pub texts_of : List (Vec ℕ Global) → List (List ℕ)
texts_of = map (λ v. v.items)

-- a map's entries have the first position of each text that is not among the first eight
abbrev pub ArePositions : List (Vec ℕ Global × ℕ) → List (List ℕ) → Type 0
ArePositions entries texts =
    (q : List ℕ) → position (λ d. bytes_eq d q) (take 8 texts) ≡ None → lookup (λ k. bytes_eq q k.items) entries ≡ position (λ d. bytes_eq d q) texts

-- all of some names are among others
abbrev pub AreAmong : List (List ℕ) → List (List ℕ) → Type 0
AreAmong names texts = (q : List ℕ) → has_text q names ≡ true → has_text q texts ≡ true

-- texts, with names more
abbrev pub AreWith : (old names new : List (List ℕ)) → Type 0
AreWith old names new = AreAmong old new × AreAmong names new

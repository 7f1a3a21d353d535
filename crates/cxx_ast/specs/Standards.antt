-- What is broken by the choice of the standard: a name that is a keyword of ISO/IEC 14882:2011 (2.12), or a specification that
-- ISO/IEC 14882:2003 does not have.
use Rattle.std.specs.Prelude.{ℕ, List, [], ◌∷◌, flat_map, codes, Option, Some, None}
use Rattle.cxx_ast.specs.declared.name.Name.{Name}
use Rattle.cxx_ast.specs.declared.standard.Std.{Std}
use Rattle.cxx_ast.specs.declared.standard.Std.TheVariants.{Cxx03, Cxx11}
use Rattle.cxx_ast.specs.Plain.{Specification, listed, noexcept, Declaration, class_declaration, global_declaration, function_declaration}
use Rattle.cxx_ast.specs.Rule.{new_keyword, noexcept_in_03}
use Rattle.cxx_ast.specs.Finding.{Finding, breaks, breaks_if}
use Rattle.cxx_ast.specs.FunctionRules.{has_text}
use Rattle.cxx_ast.specs.DeclaredNames.{names_declared}

-- the keywords that the later standard adds
abbrev pub new_keywords : List (List ℕ)
new_keywords =
    codes "alignas" ∷ codes "alignof" ∷ codes "char16_t" ∷ codes "char32_t" ∷ codes "constexpr" ∷ codes "decltype" ∷ codes "noexcept" ∷
    codes "nullptr" ∷ codes "static_assert" ∷ codes "thread_local" ∷ []

-- a declared name
abbrev pub keyword_found : Name → List Finding
keyword_found n = breaks_if (has_text n.text new_keywords) new_keyword n.place

-- a specification
abbrev pub noexcept_found : Option Specification → List Finding
noexcept_found None = []
noexcept_found (Some (listed types)) = []
noexcept_found (Some (noexcept place b)) = breaks noexcept_in_03 place ∷ []

-- the specifications of a declaration
abbrev pub noexcepts_found : Declaration → List Finding
noexcepts_found (class_declaration c) = flat_map (λ f. noexcept_found f.specification) c.functions
noexcepts_found (global_declaration n value) = []
noexcepts_found (function_declaration f) = noexcept_found f.specification

-- by each standard
abbrev pub standard_found : Std → List Declaration → List Finding
standard_found Cxx03 ds = flat_map noexcepts_found ds
standard_found Cxx11 ds = flat_map keyword_found (flat_map names_declared ds)

-- What of a walk's findings a refusal needs: which of the broken rules answers, and whether one is broken at all.
use Rattle.std.specs.Prelude.{ℕ, Bool, true, false, ◌&&◌, ◌||◌, ◌==◌, nat_lt, List, [], ◌∷◌, Option, Some, None, if◌then◌else◌}
use Rattle.cxx_ast.specs.declared.name.Name.{Name}
use Rattle.cxx_ast.specs.Finding.{Finding, breaks, uses, is_sound}
use Rattle.cxx_ast.specs.Environment.{Environment}
use Rattle.cxx_ast.specs.FunctionRules.{has_text}
use Rattle.cxx_ast.specs.Rule.{not_defined}
use Rattle.cxx_rules.specs.declared.found.Refusal.{Refusal}
use Rattle.cxx_rules.specs.declared.found.Found.{Found}

-- a refusal of a number at a place
abbrev pub refusal : ℕ → ℕ → Refusal
refusal number place = record { number = number; place = place }

-- the first of two refusals stands at a lesser place, or at the same with a number that is not greater
unfoldable pub is_before : Refusal → Refusal → Bool
is_before a b = nat_lt a.place b.place || (a.place == b.place && nat_lt a.number b.number)

-- the one that answers, of one and perhaps another
abbrev pub lesser : Refusal → Option Refusal → Option Refusal
lesser a None = Some a
lesser a (Some b) = if is_before b a then Some b else Some a

-- the one that answers of two
abbrev pub joined : Option Refusal → Option Refusal → Option Refusal
joined None b = b
joined (Some a) b = lesser a b

-- a function that is used and not among those that are defined
abbrev pub unless_defined : List (List ℕ) → Name → Option Refusal
unless_defined defined n = if has_text n.text defined then None else Some (refusal not_defined n.place)

-- the one that answers of all that was found
unfoldable pub least : List (List ℕ) → List Finding → Option Refusal
least defined [] = None
least defined (breaks number place ∷ found) = lesser (refusal number place) (least defined found)
least defined (uses n ∷ found) = joined (unless_defined defined n) (least defined found)

-- nothing was found
abbrev pub nothing_found : Found
nothing_found = record { least = None; is_sound = true }

-- a rule is broken at a place
abbrev pub broken_at : ℕ → ℕ → Found
broken_at number place = record { least = Some (refusal number place); is_sound = false }

-- a function is used
abbrev pub used_by : List (List ℕ) → Name → Found
used_by defined n = record { least = unless_defined defined n; is_sound = true }

-- what was found in two parts
unfoldable pub both : Found → Found → Found
both a b = record { least = joined a.least b.least; is_sound = a.is_sound && b.is_sound }

-- what of findings a refusal needs
unfoldable pub summary : List (List ℕ) → List Finding → Found
summary defined found = record { least = least defined found; is_sound = is_sound found }

-- the same, where the functions that are defined are those of an environment
abbrev pub seen : Environment → List Finding → Found
seen env found = summary env.definitions found

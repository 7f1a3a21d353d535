-- Tables, functions and units as they are listed, of equal parts.
use Rattle.std.proofs.Common.{◌≡◌, ◌∙◌, ℕ, ℤ, List, ap}
use Rattle.eh_bytes.specs.declared.frames.FrameMove.{FrameMove}
use Rattle.eh_bytes.specs.declared.table.ListSite.{ListSite}
use Rattle.eh_bytes.specs.declared.unit.TypeRow.{TypeRow}
use Rattle.eh_bytes.specs.Listed.{ListedTable, ListedFunction, ListedUnit}

abbrev table : List ListSite → List (List ℤ) → List ℕ → List (List ℕ) → ListedTable
table sites chains types lists = record { sites = sites; chains = chains; types = types; lists = lists }

pub same_table : {a a' : List ListSite} {b b' : List (List ℤ)} {c c' : List ℕ} {d d' : List (List ℕ)} → a ≡ a' → b ≡ b' → c ≡ c' → d ≡ d' →
    table a b c d ≡ table a' b' c' d'
same_table {a} {a'} {b} {b'} {c} {c'} {d} {d'} ea eb ec ed =
    ap (λ x. table x b c d) ea ∙ (ap (λ x. table a' x c d) eb ∙ (ap (λ x. table a' b' x d) ec ∙ ap (λ x. table a' b' c' x) ed))

abbrev function : List ℕ → ℕ → ℕ → ListedTable → List FrameMove → ListedFunction
function name first words table moves = record { name = name; first = first; words = words; table = table; moves = moves }

pub same_function : {a a' : List ℕ} {w w' : ℕ} {t t' : ListedTable} {m m' : List FrameMove} (first : ℕ) → a ≡ a' → w ≡ w' → t ≡ t' → m ≡ m' →
    function a first w t m ≡ function a' first w' t' m'
same_function {a} {a'} {w} {w'} {t} {t'} {m} {m'} first ea ew et em =
    ap (λ x. function x first w t m) ea
    ∙ (ap (λ x. function a' first x t m) ew ∙ (ap (λ x. function a' first w' x m) et ∙ ap (λ x. function a' first w' t' x) em))

abbrev unit : List ℕ → List ListedFunction → List TypeRow → List ℤ → ℕ → ListedUnit
unit code functions types globals tokens = record { code = code; functions = functions; types = types; globals = globals; tokens = tokens }

pub same_unit : {c c' : List ℕ} {f f' : List ListedFunction} {t t' : List TypeRow} {g g' : List ℤ} (tokens : ℕ) → c ≡ c' → f ≡ f' → t ≡ t' → g ≡ g' →
    unit c f t g tokens ≡ unit c' f' t' g' tokens
same_unit {c} {c'} {f} {f'} {t} {t'} {g} {g'} tokens ec ef et eg =
    ap (λ x. unit x f t g tokens) ec
    ∙ (ap (λ x. unit c' x t g tokens) ef ∙ (ap (λ x. unit c' f' x g tokens) et ∙ ap (λ x. unit c' f' t' x tokens) eg))

-- The words that the entries of a table name, by the indices of its types.
use Rattle.std.proofs.Common.{◌≡◌, ◌-◌, ◌*◌, ℕ, List, [], ◌∷◌, ◌++◌, map, Option, Some, None, refl, ap, sym, ◌∙◌}
use Rattle.std.specs.Prelude.{option_map}
use Rattle.eh_bytes.specs.Encoded.{encoding_format, format_size}
use Rattle.eh_bytes.specs.Memory.{Part, Memory}
use Rattle.table_forms.specs.Keys.{keys}
use Rattle.table_forms.specs.Lsda.{Table}
use Rattle.table_forms.specs.LsdaHead.{Types}
use Rattle.lsda_read.specs.declared.shape.Shape.{Shape}
use Rattle.lsda_read.specs.Names.{types_named}
use Rattle.lsda_read.specs.WholeTable.{value_of, IsWhole}
use Rattle.lsda_pack.specs.Extents.{word_at, words_by, words_for}
use Rattle.lsda_pack.specs.Placings.{HasTypes}
use Rattle.lsda_pack.specs.Reaches.{extent_taken}
use Rattle.lsda_pack.specs.SharedTables.{words_of}
use Rattle.lsda_pack.specs.declared.reach.Taken.{Taken}

pub no_words : (memory : Memory) (part : Part) (indices : List ℕ) (o : Option Types) → option_map (λ (t : Types). t.base) o ≡ None → [] ≡ map extent_taken (words_for memory part o indices)
no_words memory part indices None e = refl
no_words memory part indices (Some t) e = absurd cc

-- with the encoding and the base of a form
pub some_words : (memory : Memory) (part : Part) (s : Shape) (base : ℕ) (indices : List ℕ) (taken : List Taken) →
    ((size : ℕ) → format_size (encoding_format s.ttype) ≡ Some size → taken ≡ map extent_taken (words_by memory part s.ttype base size indices)) →
    (o : Option Types) → HasTypes s o → option_map (λ (t : Types). t.base) o ≡ Some base → taken ≡ map extent_taken (words_for memory part o indices)
some_words memory part s base indices taken words None has e = absurd cc
some_words memory part s base indices taken words (Some t) has e =
    let same : t.base ≡ base = some_same t.base base e in
    words t.size (ap (λ x. format_size (encoding_format x)) has.formed ∙ has.sized) ∙
    ap (λ x. map extent_taken (words_by memory part x base t.size indices)) has.formed ∙
    ap (λ b. map extent_taken (words_by memory part t.encoding b t.size indices)) (sym same)
  where
    some_same : (x y : ℕ) → Some x ≡ Some y → x ≡ y
    some_same x y e = cc

pairs_words : (memory : Memory) (part : Part) (t : Types) (f : ℕ → ℕ) (indices : List ℕ) →
    words_by memory part t.encoding t.base t.size indices ≡ words_of memory part (Some t) (map (λ i. (i, f i)) indices)
pairs_words memory part t f [] = refl
pairs_words memory part t f (i ∷ indices) = ap (λ ws. word_at memory part t.encoding (t.base - i * t.size) ++ ws) (pairs_words memory part t f indices)

pub words_are : (memory : Memory) (part : Part) (o : Option Types) (table : Table) (indices : List ℕ) → IsWhole table → indices ≡ keys (types_named table) →
    words_for memory part o indices ≡ words_of memory part o table.types
words_are memory part None table indices w is = refl
words_are memory part (Some t) table indices w is =
    ap (words_by memory part t.encoding t.base t.size) is ∙ pairs_words memory part t (value_of table) (keys (types_named table)) ∙ ap (words_of memory part (Some t)) (sym w.types)

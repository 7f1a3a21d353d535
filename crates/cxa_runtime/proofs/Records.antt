-- The type records that are read one after the other.
use Rattle.std.proofs.Common.{◌≡◌, ◌∙◌, refl, sym, ap, ℕ, suc, ◌+◌, ◌-◌, ◌<◌, ◌==◌, false, cond, List, [], ◌∷◌, ◌++◌, length, take, append_assoc, slice_set, Option, Some, None, option_map, arith}
use Rattle.std.proofs.lemmas.List.{take_more_set, length-set}
use Rattle.rv64_isa.specs.State.{State}
use Rattle.cxa_runtime.specs.Types.{and_bases, base_of, records_within}

-- some records were read, and those from this one on are to follow
pub record ReadSoFar (s : State) (all : Option (List ℕ)) (records : List ℕ) (count a : ℕ) : Type 0 where
  pub long : length records ≡ 64
  pub rest : option_map (λ more. take count records ++ more) (records_within (64 - count) s a) ≡ all

rest_is : (s : State) (count a : ℕ) → count < 64 → records_within (64 - count) s a ≡ and_bases a (records_within (64 - (count + 1)) s) (base_of s a)
unfolding records_within
rest_is s count a low = let one : 64 - count ≡ suc (64 - (count + 1)) = omega arith in ap (λ n. records_within n s a) one

by_base : (s : State) (all : Option (List ℕ)) (records : List ℕ) (count a : ℕ) (base : Option ℕ) → count < 64 → ReadSoFar s all records count a → base_of s a ≡ base →
    option_map (λ more. take count records ++ more) (and_bases a (records_within (64 - (count + 1)) s) base) ≡ all
by_base s all records count a base low r b =
    ap (λ x. option_map (λ more. take count records ++ more) (and_bases a (records_within (64 - (count + 1)) s) x)) (sym b)
    ∙ ap (λ x. option_map (λ more. take count records ++ more) x) (sym (rest_is s count a low)) ∙ r.rest

pub read_first : (s : State) (records : List ℕ) (a : ℕ) → length records ≡ 64 → ReadSoFar s (records_within 64 s a) records 0 a
read_first s records a long = record { long = long; rest = same (records_within 64 s a) }
  where
    same : (o : Option (List ℕ)) → option_map (λ more. take 0 records ++ more) o ≡ o
    same None = refl
    same (Some x) = refl

-- a record that can't be read
pub read_broken : (s : State) (all : Option (List ℕ)) (records : List ℕ) (count a : ℕ) → count < 64 → ReadSoFar s all records count a → base_of s a ≡ None → None ≡ all
read_broken s all records count a low r b = by_base s all records count a None low r b

-- the last record
pub read_last : (s : State) (all : Option (List ℕ)) (records : List ℕ) (count a : ℕ) → count < 64 → ReadSoFar s all records count a → base_of s a ≡ Some 0 →
    Some (take (count + 1) (slice_set records count a)) ≡ all
read_last s all records count a low r b =
    ap Some (take_more_set records count a (let long = r.long in omega arith)) ∙ by_base s all records count a (Some 0) low r b

-- a record with a base
pub read_on : (s : State) (all : Option (List ℕ)) (records : List ℕ) (count a base : ℕ) → count < 64 → ReadSoFar s all records count a → base_of s a ≡ Some base → (base == 0) ≡ false →
    ReadSoFar s all (slice_set records count a) (count + 1) base
read_on s all records count a base low r b other = record {
  long = length-set records count a ∙ r.long;
  rest =
      ap (λ front. option_map (λ more. front ++ more) (records_within (64 - (count + 1)) s base)) (take_more_set records count a (let long = r.long in omega arith))
      ∙ joined (records_within (64 - (count + 1)) s base)
      ∙ ap (λ t. option_map (λ more. take count records ++ more) (cond t (Some (a ∷ [])) (option_map (λ bases. a ∷ bases) (records_within (64 - (count + 1)) s base)))) (sym other)
      ∙ by_base s all records count a (Some base) low r b;
}
  where
    joined : (o : Option (List ℕ)) → option_map (λ more. (take count records ++ a ∷ []) ++ more) o ≡ option_map (λ more. take count records ++ more) (option_map (λ bases. a ∷ bases) o)
    joined None = refl
    joined (Some x) = ap Some (append_assoc (take count records) (a ∷ []) x)

-- too many
pub read_all : (s : State) (all : Option (List ℕ)) (records : List ℕ) (a : ℕ) → ReadSoFar s all records 64 a → None ≡ all
unfolding records_within
read_all s all records a r = r.rest

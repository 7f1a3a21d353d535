-- The first refusal of a list, one after the other.
use Rattle.std.proofs.Common.{◌≡◌, List, [], ◌∷◌, ◌++◌, length, Option, refl, ap, sym, ◌∙◌, arith}
use Rattle.std.specs.Prelude.{flat_map}
use Rattle.table_forms.specs.Fault.{Fault, least, joined}
use Rattle.table_forms.proofs.Least.{joined_none, joined_joined, least-append}
use Rattle.lsda_pack.specs.declared.reach.Taken.{Taken}
use Rattle.lsda_pack.specs.declared.reach.TableTaken.{TableTaken}
use Rattle.lsda_pack.specs.Reaches.{AreApart, among_taken, beside_taken, shared_taken, reaches_of}
use Rattle.lsda_pack.proofs.ReachesApart.{shared_files}

pub one_more : (o : Option Fault) (fs gs : List Fault) → joined o (least (fs ++ gs)) ≡ joined (joined o (least fs)) (least gs)
one_more o fs gs = ap (joined o) (least-append fs gs) ∙ joined_joined o (least fs) (least gs)

pub no_more : (o : Option Fault) → joined o (least []) ≡ o
unfolding least
no_more o = sym (joined_none o)

pub when_apart : (ts : List TableTaken) (es parts : List Taken) → AreApart (reaches_of ts es) → least (flat_map (beside_taken [] parts) ts) ≡ least (shared_taken ts es parts)
when_apart ts es parts apart = sym (ap least (shared_files ts es parts apart))

pub all_shared : (ts : List TableTaken) (es parts : List Taken) → joined (least (among_taken ts)) (least (flat_map (beside_taken es parts) ts)) ≡ least (shared_taken ts es parts)
unfolding shared_taken
all_shared ts es parts = sym (least-append (among_taken ts) (flat_map (beside_taken es parts) ts))

pub of_both : (fs gs : List Fault) → joined (least fs) (least gs) ≡ least (fs ++ gs)
of_both fs gs = sym (least-append fs gs)

pub empty : {X : Type 0} (xs : List X) → length xs ≡ 0 → xs ≡ []
empty [] e = refl
empty (x ∷ xs) e = absurd (omega (arith, e))

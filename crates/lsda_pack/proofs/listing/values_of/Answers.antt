use Rattle.std.proofs.Common.{rules, ◌≡◌, ℕ, ◌++◌, ◌∷◌, [], ap, subst, ◌∙◌, append_assoc}
use Rattle.std.specs.BTreeMap.{get}
use Rattle.std.specs.Ordering.{nat_cmp}
use Rattle.std.specs.List.{AllByRecursion}
use Rattle.std.specs.Prelude.{Contains}
use Rattle.lsda_read.specs.Names.{types_named}
use Rattle.personality.proofs.Members.{all_back, all_front}
use Rattle.lsda_pack.proofs.ListingIs.{one_value}
use Rattle.lsda_pack.proofs.listing.values_of.Goals as goal

pub types-preserved : goal.types-preserved
types-preserved c =
    let i = c.in-Some.index.now in let front = c.in-Some.front.now in let behind = c.types.invariant.0 in
    let split : c.types.rest.now ≡ front ++ i ∷ [] = search rules in
    let P : ℕ → Type 0 = Contains (types_named c.args.table.now) in
    let named = subst (AllByRecursion P) split c.types.invariant.3 in (
      i ∷ behind,
      c.types.invariant.1 ∙ ap (λ xs. xs ++ behind) split ∙ append_assoc front (i ∷ []) behind,
      one_value c.args.table.now behind i c.type_entry.result (get nat_cmp c.types.values) (get nat_cmp c.insert.new.self) (c.type_entry.ensures (all_back P front (i ∷ []) named).0) c.types.invariant.2 c.in_ok-insert.ensures.updates.0,
      all_front P front (i ∷ []) named,
    )

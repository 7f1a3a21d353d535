use Rattle.std.proofs.Common.{rules, ◌≡◌, ◌++◌, ◌∷◌, [], length, sym, ◌∙◌, ap, subst, true, FitsSigned, w64, to_z-of_z}
use Rattle.std.specs.Prelude.{is_some}
use Rattle.std.specs.Ordering.{nat_cmp}
use Rattle.std.specs.BTreeMap.{get}
use Rattle.lsda_pack.specs.EndNumbers.{HaveNumbers}
use Rattle.lsda_pack.specs.Records.{AreRecords}
use Rattle.lsda_pack.specs.Suffixes.{add_records, place_of, record_bytes}
use Rattle.lsda_pack.specs.declared.actions.Records.{Records}
use Rattle.lsda_pack.proofs.LeastOf.{empty}
use Rattle.lsda_pack.proofs.RecordPlaces.{none_left, place_found, record_put, stands_already, numbers_behind}
use Rattle.lsda_pack.proofs.actions.put_records.Goals as goal

pub returns-in_default-split_first : goal.returns-in_default-split_first
returns-in_default-split_first c = λ known a tells have are.
    let b = c.records.invariant known a tells have are in
    subst (AreRecords known c.records.records) (sym (b.1 ∙ ap (λ fs. add_records fs b.0) (empty c.records.rest.now c.in_default-split_first.ensures.cases))) b.2

pub returns-then-contains_key : goal.returns-then-contains_key
returns-then-contains_key c = λ known a tells have are.
    let b = c.records.invariant known a tells have are in
    let f = c.in-Some-split_first.filter.now in let fs = c.in-Some-split_first.others.now in
    let n = c.in-Some.number.now in
    let left : c.records.rest.now ≡ f ∷ fs = search rules in
    let split : c.records.ends.now ≡ c.in-Some.shorter.now ++ n ∷ [] = search rules in
    let there : is_some (place_of b.0.suffixes (f ∷ fs)) ≡ true =
    ap is_some (sym (place_found known b.0.suffixes (get nat_cmp c.records.records.places) (f ∷ fs) c.records.ends.now c.in-Some.shorter.now n split b.2.places (subst (λ xs. HaveNumbers known xs c.records.ends.now) left b.3))) ∙
    sym c.contains_key.ensures ∙ c.if-contains_key.true in
    subst (AreRecords known c.records.records) (sym (b.1 ∙ ap (λ xs. add_records xs b.0) left ∙ stands_already b.0 f fs there)) b.2

pub records-preserved : goal.records-preserved
records-preserved c = λ known a tells have are.
    let b = c.records.invariant known a tells have are in
    let f = c.in-Some-split_first.filter.now in let fs = c.in-Some-split_first.others.now in
    let n = c.in-Some.number.now in
    let left : c.records.rest.now ≡ f ∷ fs = search rules in
    let split : c.records.ends.now ≡ c.in-Some.shorter.now ++ n ∷ [] = search rules in
    let numbers = subst (λ xs. HaveNumbers known xs c.records.ends.now) left b.3 in
    let behind = numbers_behind known f fs c.records.ends.now c.in-Some.shorter.now n split numbers in
    let at : c.len-at.result ≡ length c.records.records.bytes.items = search rules in
    let fits : FitsSigned w64 f = search rules in
    let put_is = c.in_ok-put_record.ensures ∙
    ap (λ z. c.records.records.bytes.items ++ record_bytes (length c.records.records.bytes.items) z fs c.place_of-known.result) (to_z-of_z fits) in
    let new : Records = record { bytes = c.put_record.new.bytes; places = c.insert.new.self } in
    let put = record_put known b.0 f fs c.records.ends.now c.in-Some.shorter.now n c.len-at.result c.place_of-known.result c.records.records new tells b.2 numbers split
    (sym c.contains_key.ensures ∙ c.if-contains_key.false) (c.place_of-known.ensures known b.0 fs b.2.places behind) at put_is c.in_ok-insert.ensures.updates.0 in
    (put.actions, b.1 ∙ ap (λ xs. add_records xs b.0) left ∙ put.rest, put.are, put.have)

pub returns : goal.returns
returns c = λ known a tells have are.
    let b = c.records.invariant known a tells have are in
    let none = empty c.records.ends.now c.in_default.ensures.cases in
    subst (AreRecords known c.records.records) (sym (b.1 ∙ ap (λ fs. add_records fs b.0) (none_left known c.records.rest.now c.records.ends.now none b.3))) b.2

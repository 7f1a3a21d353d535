-- The chain of an action is read as its filters.
use Rattle.std.proofs.Common.{◌≡◌, ◌+◌, ◌-◌, ◌<◌, ◌≤◌, ◌^◌, ℕ, ℤ, pos, negsuc, zero, suc, true, List, [], ◌∷◌, ◌++◌, length, take, drop, map, refl, ap, subst, ◌∙◌, arith, append_assoc, length-append}
use Rattle.std.specs.Prelude.{Some, slice_get}
use Rattle.std.specs.List.{AllByRecursion}
use Rattle.std.proofs.lemmas.Bool.Decides.{nat_tests}
use Rattle.std.proofs.lemmas.List.{drop-take}
use Rattle.std.proofs.Math.Seq.{take-append-add}
use Rattle.eh_bytes.specs.declared.frames.Region64.{Region64}
use Rattle.eh_bytes.specs.Leb128.{is_i64}
use Rattle.eh_bytes.specs.Spelling.{sleb_spelling}
use Rattle.eh_bytes.specs.Memory.{Part}
use Rattle.eh_bytes.specs.Listed.{ListedTable}
use Rattle.eh_bytes.proofs.Spelled.{magnitude}
use Rattle.table_forms.specs.LsdaHead.{Head}
use Rattle.table_forms.specs.LsdaChain.{ended, chain_of, links_within, first_record}
use Rattle.eh_write.specs.Written.{chain_bytes, action_bytes, actions_from}
use Rattle.eh_write.specs.CanWrite.{ChainIsGood}
use Rattle.eh_write.specs.Fits.{IsSignedWord}
use Rattle.table_forms.proofs.Alls.{all_more}
use Rattle.eh_write.proofs.Alls.{all_at}
use Rattle.eh_write.proofs.Reading.{Stands, next_stands}
use Rattle.eh_write.proofs.ChainsRead.{links_of, chain_read}
use Rattle.eh_write.proofs.Shape.{IsLaid, padding, actions_place, base_place, from_entries}
use Rattle.eh_write.proofs.HeadRead.{head_of}
use Rattle.eh_write.proofs.Lengths.{no_more_filters, inside, base_is}

-- the action of a chain, and where its records stand among those of all chains
pub record ChainStands (bytes : List ℕ) (p before : ℕ) (chains : List (List ℤ)) (c : ℕ) (chain : List ℤ) : Type 0 where
  pub after : ℕ
  pub more : List ℕ
  pub action : slice_get (actions_from before chains) c ≡ Some (before + after + 1)
  pub here : Stands bytes (p + after) (chain_bytes chain) more
  pub within : after + length (chain_bytes chain) ≤ length (action_bytes chains)

pub chain_stands : (bytes : List ℕ) (p before : ℕ) (chains : List (List ℤ)) (rest : List ℕ) (c : ℕ) (chain : List ℤ) → Stands bytes p (action_bytes chains) rest →
    slice_get chains c ≡ Some chain → ChainStands bytes p before chains c chain
chain_stands bytes p before [] rest c chain here at = absurd cc
chain_stands bytes p before (d ∷ chains) rest zero chain here at =
    let same : d ≡ chain = some_same d chain at in
    let first : Stands bytes p (chain_bytes d) (action_bytes chains ++ rest) = here ∙ append_assoc (chain_bytes d) (action_bytes chains) rest in
    let there : p + 0 ≡ p = omega arith in
    let count : before + 1 ≡ before + 0 + 1 = omega arith in
    record {
      after = 0;
      more = action_bytes chains ++ rest;
      action = ap Some count;
      here = ap (λ q. drop q bytes) there ∙ first ∙ ap (λ x. chain_bytes x ++ (action_bytes chains ++ rest)) same;
      within = subst (λ x. 0 + length (chain_bytes x) ≤ length (chain_bytes d ++ action_bytes chains)) same (omega (arith, length-append (chain_bytes d) (action_bytes chains)));
    }
  where
    some_same : (x y : List ℤ) → Some x ≡ Some y → x ≡ y
    some_same x y e = cc
chain_stands bytes p before (d ∷ chains) rest (suc c) chain here at =
    let n = length (chain_bytes d) in
    let first : Stands bytes p (chain_bytes d) (action_bytes chains ++ rest) = here ∙ append_assoc (chain_bytes d) (action_bytes chains) rest in
    let later = chain_stands bytes (p + n) (before + n) chains rest c chain (next_stands bytes p (chain_bytes d) (action_bytes chains ++ rest) first) at in
    let there : p + (n + later.after) ≡ p + n + later.after = omega arith in
    let count : before + n + later.after + 1 ≡ before + (n + later.after) + 1 = omega arith in
    record {
      after = n + later.after;
      more = later.more;
      action = later.action ∙ ap Some count;
      here = ap (λ q. drop q bytes) there ∙ later.here;
      within = omega (arith, later.within, length-append (chain_bytes d) (action_bytes chains));
    }

-- it stands in a list that is cut behind it
pub cut_stands : (bytes : List ℕ) (p stop : ℕ) (x rest : List ℕ) → Stands bytes p x rest → p + length x ≤ stop → Stands (take stop bytes) p x (take (stop - (p + length x)) rest)
cut_stands bytes p stop x rest here room =
    let m = stop - p in
    let whole : stop ≡ p + m = omega (arith, room) in
    let left : m ≡ length x + (stop - (p + length x)) = omega (arith, room) in
    ap (λ n. drop p (take n bytes)) whole ∙ drop-take p m bytes ∙ ap (take m) here ∙ ap (λ n. take n (x ++ rest)) left ∙ take-append-add x rest (stop - (p + length x))

pub signed_fits : (z : ℤ) → is_i64 z ≡ true → magnitude z < 2 ^ 63
signed_fits (pos n) e = grind (arith, nat_tests, e)
signed_fits (negsuc n) e = grind (arith, nat_tests, e)

-- the filters of the records that are read
pub links_filters : (p : ℕ) (fs : List ℤ) → map (λ l. l.filter) (links_of p fs) ≡ fs
links_filters p [] = refl
links_filters p (f ∷ fs) = ap (λ x. f ∷ x) (links_filters (p + length (sleb_spelling f) + 1) fs)

-- what is read at the action of a chain
pub record ChainFound (list : ListedTable) (part : Part) (h : Head) (c : ℕ) (chain : List ℤ) : Type 0 where
  pub after : ℕ
  pub first : ℕ
  pub action : slice_get (actions_from 0 list.chains) c ≡ Some (after + 1)
  pub few : after < length (action_bytes list.chains)
  pub read : chain_of part h (after + 1) ≡ record { links = links_of first chain; ending = ended }

pub chain_found : (list : ListedTable) (entries_at : ℕ) (part : Part) (region : Region64) (p : ℕ) (rest : List ℕ) (c : ℕ) (chain : List ℤ) →
    IsLaid list entries_at part.bytes p rest → AllByRecursion (ChainIsGood list) list.chains → AllByRecursion (AllByRecursion IsSignedWord) list.chains →
    slice_get list.chains c ≡ Some chain → ChainFound list part (head_of list region p) c chain
chain_found list entries_at part region p rest c chain laid good words at =
    by_length chain (all_at (ChainIsGood list) list.chains c chain good at).0 (all_at (AllByRecursion IsSignedWord) list.chains c chain words at)
    (chain_stands part.bytes (actions_place list p) 0 list.chains (padding list ++ from_entries list entries_at rest) c chain laid.actions at)
  where
    h : Head
    h = head_of list region p

    by_length : (fs : List ℤ) → 0 < length fs → AllByRecursion IsSignedWord fs → ChainStands part.bytes (actions_place list p) 0 list.chains c fs →
        ChainFound list part h c fs
    by_length [] some fits stands = absurd (omega (arith, some))
    by_length (f ∷ fs) some fits stands =
        let first = actions_place list p + stands.after in
        let base = base_place list p in
        let room : first + length (chain_bytes (f ∷ fs)) ≤ base = omega (arith, stands.within, base_is list p) in
        let enough : length fs < 1 + length part.bytes =
        omega (arith, no_more_filters (f ∷ fs), inside part.bytes first (chain_bytes (f ∷ fs)) stands.more stands.here) in
        let place : first_record h (stands.after + 1) ≡ first = omega arith in
        record {
          after = stands.after;
          first = first;
          action = stands.action ∙ ap (λ n. Some (n + 1)) (let e : 0 + stands.after ≡ stands.after = omega arith in e);
          few = omega (arith, stands.within, no_more_filters (f ∷ fs));
          read = ap (links_within (1 + length part.bytes) part h) place ∙
              chain_read part h first (1 + length part.bytes) f fs (take (base - (first + length (chain_bytes (f ∷ fs)))) stands.more) (omega arith)
              (all_more IsSignedWord (λ z. magnitude z < 2 ^ 63) signed_fits (f ∷ fs) fits) enough
              (cut_stands part.bytes first base (chain_bytes (f ∷ fs)) stands.more stands.here room);
        }

-- What operations ask of the slots for numbers, and where it begins.
use Rattle.std.proofs.Common.{◌≡◌, ◌⊎◌, inl, inr, ℕ, suc, ◌<◌, ℤ, pos, negsuc, Bool, true, false, List, [], ◌∷◌, length, Option, Some, None, refl, sym, ap, ◌∙◌, subst, if◌then◌else◌}
use Rattle.std.specs.Prelude.{slice_get, unwrap_or}
use Rattle.region_forms.specs.World.{number_word, Frame}
use Rattle.linear_forms.specs.Linear.{LinearOp, unexpected, CodeSite, FunctionCode, UnitCode}
use Rattle.linear_forms.specs.Tables.{unpadded, padded, cover_of, holds, look_up}
use Rattle.linear_forms.specs.Stub.{Function, compiled, linear}
use Rattle.linear_forms.specs.Activation.{Code, compiled_op, fetch}
use Rattle.linear_forms.specs.UnitRun.{no_code, code_at, code_of}
use Rattle.cost_paths.proofs.Rows.{found_below}
use Rattle.flight_homes.specs.Homes.{is_one_of}
use Rattle.flight_homes.specs.Keeps.{Carrying}
use Rattle.linear_invariant.specs.Code.{CodeCarries}
use Rattle.kept_selectors.specs.Selectors.{IsChained, HasList, FrameNamed, OpenListsStand, FirstSelectors, PassesList, PassesHaveLists, InSite, ChainsAreSites}

pub first_selectors : FirstSelectors
first_selectors u k input replies c = (λ there. let never : false ≡ true = sym (c.first u.main) ∙ there in absurd (cc never), tt)

pub compiled_is : (x : Option LinearOp) (o : LinearOp) → compiled_op x ≡ Some (linear o) → x ≡ Some o
compiled_is None o e = absurd (cc e)
compiled_is (Some y) o e = let same : y ≡ o = cc e in ap (λ z. Some z) same

module _ (code : Code) (k : Carrying) (n : ℕ) (c : CodeCarries code k) where
  chained : (z : ℤ) (j : ℕ) → z ≡ negsuc j → (z ≡ pos 0) ⊎ IsChained code n z → IsChained code n (negsuc j)
  chained z j is (inl h) = let never : pos 0 ≡ negsuc j = sym h ∙ is in absurd (cc never)
  chained z j is (inr h) = subst (IsChained code n) is h

  passes_in : (f : Function) (p o s : ℕ) (x : Frame) → f ≡ compiled n → FrameNamed code k f p x → fetch code f p ≡ Some (linear (unexpected o s)) → PassesList code k n p (x.slots s)
  passes_in f p o s x same h e = go (subst (λ f. FrameNamed code k f p x) same h) (compiled_is (code.op_at n p) (unexpected o s) (subst (λ f. fetch code f p ≡ Some (linear (unexpected o s))) same e))
    where
      go : FrameNamed code k (compiled n) p x → code.op_at n p ≡ Some (unexpected o s) → PassesList code k n p (x.slots s)
      go h there =
          let own = h (c.passes n p o s there).0 in
          let stopped = own.stopped (inl (o, s, there)) in
          let list = stopped.0 in
          record {
            list = list.0;
            is = ap x.slots (c.passes n p o s there).2 ∙ own.is ∙ ap number_word list.1;
            chained = chained own.number list.0 list.1 own.named;
            left = ap (λ z. is_one_of z (k.left n p)) (sym list.1) ∙ stopped.1;
          }

pub passes_have_lists : PassesHaveLists
passes_have_lists code k st n o s c h same e = passes_in code k n c st.top.function st.top.place o s st.top.frame same h.0 e

-- the site that a cover is of
record Sited (sites : List CodeSite) (chain : List ℤ) : Type 0 where
  place : ℕ
  site : CodeSite
  there : slice_get sites place ≡ Some site
  filters : site.filters ≡ chain

site_of : (sites : List CodeSite) (p q : ℕ) (chain : List ℤ) → look_up sites p ≡ padded q chain → Sited sites chain
site_of [] p q chain e = absurd (cc e)
site_of (s ∷ sites) p q chain e = go (holds s p) e (λ h. site_of sites p q chain h)
  where
    own : (o : Option ℕ) → (elim o [ None ↦ unpadded | Some r ↦ padded r s.filters ]) ≡ padded q chain → s.filters ≡ chain
    own None h = absurd (cc h)
    own (Some r) h = cc h

    go : (b : Bool) → (if b then cover_of s else look_up sites p) ≡ padded q chain → (look_up sites p ≡ padded q chain → Sited sites chain) → Sited (s ∷ sites) chain
    go true h rest = record { place = 0; site = s; there = refl; filters = own s.pad h }
    go false h rest = let it = rest h in record { place = suc it.place; site = it.site; there = it.there; filters = it.filters }

-- a function with sites is one of the unit
function_there : (fs : List FunctionCode) (n p q : ℕ) (chain : List ℤ) → look_up (unwrap_or (slice_get fs n) no_code).sites p ≡ padded q chain → n < length fs
function_there fs n p q chain e = go (slice_get fs n) refl e
  where
    go : (o : Option FunctionCode) → slice_get fs n ≡ o → look_up (unwrap_or o no_code).sites p ≡ padded q chain → n < length fs
    go None i h = absurd (cc h)
    go (Some g) i h = found_below fs n g i

pub chains_are_sites : ChainsAreSites
chains_are_sites u n filter h =
    let it = site_of (code_at u n).sites h.place h.pad h.chain h.covers in
    record {
      known = function_there u.functions n h.place h.pad h.chain h.covers;
      place = it.place;
      site = it.site;
      there = it.there;
      index = h.index;
      is = ap (λ fs. slice_get fs h.index) it.filters ∙ h.is;
    }

-- the words in the slots are those of the list and its function
pub list_stands : (u : UnitCode) (x : Frame) (selector : ℤ) (owner : ℕ) → HasList (code_of u) x → x.slots 1 ≡ number_word selector → x.slots 2 ≡ number_word (pos owner) → (j : ℕ) × (selector ≡ negsuc j) × InSite u owner (negsuc j)
list_stands u x selector owner h one two =
    let numbers : number_word (negsuc h.list) ≡ number_word selector = sym h.list_is ∙ one in
    let owners : number_word (pos h.owner) ≡ number_word (pos owner) = sym h.owner_is ∙ two in
    let number : negsuc h.list ≡ selector = cc numbers in
    let same : h.owner ≡ owner = cc owners in
    (h.list, sym number, subst (λ n. InSite u n (negsuc h.list)) same (chains_are_sites u h.owner (negsuc h.list) h.chained))

pub open_lists_stand : OpenListsStand
open_lists_stand u k st selector owner h is one two = list_stands u st.top.frame selector owner (subst (λ f. FrameNamed (code_of u) k f st.top.place st.top.frame) is h.0) one two

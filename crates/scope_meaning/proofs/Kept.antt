-- A reply of a module changes no more of the modules than the replies still to come; a cleanup no more than what they keep.
use Rattle.std.proofs.Common.{◌≡◌, ◌∙◌, ℕ, zero, suc, List, [], ◌∷◌, map, Some, None, refl, ap, sym}
use Rattle.std.specs.Prelude.{◌++◌, length, nat_lt, pos, unwrap_or, if◌then◌else◌}
use Rattle.eh_outer.specs.declared.module.Reply.{Reply}
use Rattle.eh_outer.specs.declared.module.Reply.TheVariants.{Value}
use Rattle.eh_outer.specs.Module.{ModuleView, cleaned, replied}
use Rattle.run_items.specs.declared.item.Item.{Item}
use Rattle.run_items.specs.declared.item.Item.TheVariants.{Line, Make, Foreign, Enter, Leave, Destroy, Free, Clean}
use Rattle.foreign_host.specs.Host.{changed_at, reply_at}
use Rattle.scope_world.specs.Outside.{reply_from, rests_after}
use Rattle.scope_meaning.specs.Modules.{after_item, cleaned_by, kept_of, rests_of}

pub rests_replied : (k : ℕ) (views : List ModuleView) → rests_of (changed_at k replied views) ≡ rests_after k (rests_of views)
rests_replied k [] = refl
rests_replied zero (x ∷ views) = refl
rests_replied (suc k) (x ∷ views) = ap (λ rests. x.rest ∷ rests) (rests_replied k views)

pub kept_replied : (k : ℕ) (views : List ModuleView) → map kept_of (changed_at k replied views) ≡ map kept_of views
kept_replied k [] = refl
kept_replied zero (x ∷ views) = refl
kept_replied (suc k) (x ∷ views) = ap (λ kept. kept_of x ∷ kept) (kept_replied k views)

pub reply_is : (k : ℕ) (views : List ModuleView) → unwrap_or (reply_at k views) (Value (pos 0)) ≡ reply_from k (rests_of views)
reply_is k [] = refl
reply_is zero (x ∷ views) = refl
reply_is (suc k) (x ∷ views) = reply_is k views

-- the reply of a module that is there
pub replied_so : (k : ℕ) (views : List ModuleView) (reply : Reply) → Some reply ≡ reply_at k views → reply ≡ reply_from k (rests_of views)
replied_so k views reply e = ap (λ o. unwrap_or o (Value (pos 0))) e ∙ reply_is k views

-- and of one that is not
pub not_replied : (k : ℕ) (views : List ModuleView) → None ≡ reply_at k views → Value (pos 0) ≡ reply_from k (rests_of views)
not_replied k views e = ap (λ o. unwrap_or o (Value (pos 0))) e ∙ reply_is k views

pub rests_so : (k : ℕ) (before after : List ModuleView) → after ≡ changed_at k replied before → rests_of after ≡ rests_after k (rests_of before)
rests_so k before after e = ap rests_of e ∙ rests_replied k before

pub kept_so : (k : ℕ) (before after : List ModuleView) (kept : List (List ℕ × ℕ)) → after ≡ changed_at k replied before → map kept_of before ≡ kept → map kept_of after ≡ kept
kept_so k before after kept e same = ap (map kept_of) e ∙ kept_replied k before ∙ same

-- an item that tells of no cleanup changes no module
pub no_cleanup : (i : Item) (views : List ModuleView) → ((k t : ℕ) → i ≡ Clean k t → ⊥) → views ≡ after_item i views
no_cleanup (Line v) views other = refl
no_cleanup (Make n) views other = refl
no_cleanup (Foreign n k t) views other = refl
no_cleanup (Enter n) views other = refl
no_cleanup (Leave n) views other = refl
no_cleanup (Destroy n) views other = refl
no_cleanup (Free n) views other = refl
no_cleanup (Clean k t) views other = absurd (other k t refl)

-- and a cleanup changes its module
pub one_cleanup : (i : Item) (k t : ℕ) (before after : List ModuleView) → i ≡ Clean k t → after ≡ changed_at k (λ seen. cleaned seen t) before → after ≡ after_item i before
one_cleanup i k t before after is e = e ∙ ap (λ j. after_item j before) (sym is)

-- a cleanup leaves the replies still to come
rests_cleaned : (k t : ℕ) (views : List ModuleView) → rests_of (changed_at k (λ seen. cleaned seen t) views) ≡ rests_of views
rests_cleaned k t [] = refl
rests_cleaned zero t (x ∷ views) = refl
rests_cleaned (suc k) t (x ∷ views) = ap (λ rests. x.rest ∷ rests) (rests_cleaned k t views)

rests_after_item : (i : Item) (views : List ModuleView) → rests_of (after_item i views) ≡ rests_of views
rests_after_item (Line v) views = refl
rests_after_item (Make n) views = refl
rests_after_item (Foreign n k t) views = refl
rests_after_item (Enter n) views = refl
rests_after_item (Leave n) views = refl
rests_after_item (Destroy n) views = refl
rests_after_item (Free n) views = refl
rests_after_item (Clean k t) views = rests_cleaned k t views

pub rests_stay : (i : Item) (before after : List ModuleView) → after ≡ after_item i before → rests_of after ≡ rests_of before
rests_stay i before after e = ap rests_of e ∙ rests_after_item i before

-- what a cleanup does to what a module keeps
abbrev keeps : ℕ → List ℕ × ℕ → List ℕ × ℕ
keeps t kept = (if nat_lt (length kept.0) kept.1 then kept.0 ++ t ∷ [] else kept.0, kept.1)

abbrev keeps_at : ℕ → ℕ → List (List ℕ × ℕ) → List (List ℕ × ℕ)
keeps_at k t [] = []
keeps_at zero t (kept ∷ more) = keeps t kept ∷ more
keeps_at (suc k) t (kept ∷ more) = kept ∷ keeps_at k t more

kept_cleaned : (k t : ℕ) (views : List ModuleView) → map kept_of (changed_at k (λ seen. cleaned seen t) views) ≡ keeps_at k t (map kept_of views)
kept_cleaned k t [] = refl
kept_cleaned zero t (x ∷ views) = refl
kept_cleaned (suc k) t (x ∷ views) = ap (λ kept. kept_of x ∷ kept) (kept_cleaned k t views)

-- modules that keep the same keep the same after an item
kept_after_item : (i : Item) (views others : List ModuleView) → map kept_of views ≡ map kept_of others → map kept_of (after_item i views) ≡ map kept_of (after_item i others)
kept_after_item (Line v) views others e = e
kept_after_item (Make n) views others e = e
kept_after_item (Foreign n k t) views others e = e
kept_after_item (Enter n) views others e = e
kept_after_item (Leave n) views others e = e
kept_after_item (Destroy n) views others e = e
kept_after_item (Free n) views others e = e
kept_after_item (Clean k t) views others e = kept_cleaned k t views ∙ ap (keeps_at k t) e ∙ sym (kept_cleaned k t others)

-- the cleanups of items and of one more
cleaned_once_more : (items : List Item) (i : Item) (views : List ModuleView) → cleaned_by (items ++ i ∷ []) views ≡ after_item i (cleaned_by items views)
cleaned_once_more [] i views = refl
cleaned_once_more (x ∷ items) i views = cleaned_once_more items i (after_item x views)

pub kept_emitted : (items new : List Item) (i : Item) (first before after : List ModuleView) → map kept_of before ≡ map kept_of (cleaned_by items first) → new ≡ items ++ i ∷ [] → after ≡ after_item i before → map kept_of after ≡ map kept_of (cleaned_by new first)
kept_emitted items new i first before after kept longer e =
    ap (map kept_of) e
    ∙ kept_after_item i before (cleaned_by items first) kept
    ∙ ap (map kept_of) (sym (cleaned_once_more items i first))
    ∙ ap (λ all. map kept_of (cleaned_by all first)) (sym longer)

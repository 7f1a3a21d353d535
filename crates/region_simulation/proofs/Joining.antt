-- Regions one after the other.
use Rattle.std.proofs.Common.{◌≡◌, List, [], ◌∷◌, ◌++◌, refl}
use Rattle.region_forms.specs.Form.{Op, Region, op, regions_from}
use Rattle.region_forms.specs.Outcome.{State, Context, Flow, normal, leaves, Result, done, stopped, continued, pure}
use Rattle.region_forms.specs.Ending.{Running}
use Rattle.region_forms.specs.Meaning.{followed}
use Rattle.linear_simulation.specs.Watched.{watched_operation as operation, watched as region, watched_all as regions}

-- regions in two parts
pub joined : (b : Running) (c : Context) (xs ys : List Region) (s : State)
    → regions b (regions_from (xs ++ ys)) c s ≡ continued (regions b (regions_from xs) c s) (followed (regions b (regions_from ys) c))
joined b c [] ys s = refl
joined b c (x ∷ xs) ys s = go (λ t. joined b c xs ys t) (region b x c s)
  where
    go : ((t : State) → regions b (regions_from (xs ++ ys)) c t ≡ continued (regions b (regions_from xs) c t) (followed (regions b (regions_from ys) c))) → (r : Result Flow)
        → continued r (followed (regions b (regions_from (xs ++ ys)) c))
        ≡ continued (continued r (followed (regions b (regions_from xs) c))) (followed (regions b (regions_from ys) c))
    go ih (done normal t) = ih t
    go ih (done (leaves n) t) = refl
    go ih (stopped x t) = refl

-- one operation alone
pub alone : (b : Running) (c : Context) (o : Op) (s : State) → regions b (regions_from (op o ∷ [])) c s ≡ continued (operation b o c s) (λ u. pure normal)
alone b c o s = go (operation b o c s)
  where
    go : (r : Result (Unit {0})) → continued (continued r (λ u. pure normal)) (followed (pure normal)) ≡ continued r (λ u. pure normal)
    go (done u t) = refl
    go (stopped x t) = refl
